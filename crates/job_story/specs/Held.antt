-- The events of the code, as the definitions see them.
use Rattle.std.specs.Prelude.{Option, map}
use Rattle.std.specs.Option.{option_map}
use Rattle.std.specs.Global.{Box}
use Rattle.input_lines.specs.Lines as lines
use Rattle.exceptions.specs.Exceptions as tree
use Rattle.exceptions.specs.Held.{exc_of}
use Rattle.exceptions.specs.declared.exc.Exc.{Exc}
use Rattle.block_exits.specs.Held.{kind_of}
use Rattle.job_story.specs.Story as story
use Rattle.job_story.specs.Events as events
use Rattle.job_story.specs.declared.event.Range.{Range}
use Rattle.job_story.specs.declared.event.Span.{Span}
use Rattle.job_story.specs.declared.event.During.{During}
use Rattle.job_story.specs.declared.event.Asked.{Asked}
use Rattle.job_story.specs.declared.event.During.TheVariants.{Checkpoint, Sleeping, Waiting, InQueue, BeforeAsking}
use Rattle.job_story.specs.declared.event.Happening.{Happening}
use Rattle.job_story.specs.declared.event.Happening.TheVariants.{Enters, EntersEvent, Sleeps, IsCancelled, Finds, Misses, Raises, Cancels, Sets, Awaits, WasSet, EntersObject, Queues, Gets, FindsClosed, Deadlocks, GivesTokenBack, ClosesChannel, Handles, Cleans, Replaces, Waits, Leaves}
use Rattle.job_story.specs.declared.event.What.{What}
use Rattle.job_story.specs.declared.event.What.TheVariants.{Starts, Happens, Ends}
use Rattle.job_story.specs.declared.event.Event.{Event}

abbrev pub range_in : Range → lines.Range
range_in range = record { from = range.from; to = range.to }

abbrev pub span_in : Span → lines.Span
span_in span = record { at = span.at; len = span.len }

-- a boxed exception, if there is one
abbrev pub unboxed_exc : Option (Box Exc) → Option tree.Exc
unboxed_exc exc = option_map (λ (b : Box Exc). exc_of b.value) exc

abbrev pub during_of : During → story.During
during_of Checkpoint = story.at_checkpoint
during_of (Sleeping since) = story.sleeping since
during_of (Waiting event since) = story.waiting_for event since
during_of (InQueue ask object since) = story.in_queue ask object since
during_of (BeforeAsking ask object) = story.before_asking ask object

abbrev pub asked_of : Asked → story.Asked
asked_of asked = record { ask = asked.ask; since = asked.since; part = range_in asked.part }

abbrev pub happening_of : Happening → story.Happening
happening_of (Enters kind label deadline shield) = story.enters (kind_of kind) label deadline shield
happening_of (EntersEvent label) = story.enters_event label
happening_of (Sleeps until) = story.sleeps until
happening_of (IsCancelled by during in_cleanup) = story.is_cancelled by (during_of during) in_cleanup
happening_of (Finds lines) = story.finds (map span_in lines.items)
happening_of (Misses name) = story.misses name
happening_of (Raises name) = story.raises name
happening_of (Cancels label) = story.cancels label
happening_of (Sets label) = story.sets label
happening_of (Awaits event) = story.awaits event
happening_of (WasSet event) = story.was_set event
happening_of (EntersObject kind label) = story.enters_object kind label
happening_of (Queues ask object part left) = story.queues ask object (range_in part) left
happening_of (Gets ask object at_once) = story.gets ask object (option_map asked_of at_once)
happening_of (FindsClosed ask object at_once) = story.finds_closed ask object (option_map asked_of at_once)
happening_of (Deadlocks ask object) = story.deadlocks ask object
happening_of (GivesTokenBack object) = story.gives_token_back object
happening_of (ClosesChannel object) = story.closes_channel object
happening_of (Handles matched rest) = story.handles (exc_of matched.value) (unboxed_exc rest)
happening_of (Cleans exc) = story.cleans (unboxed_exc exc)
happening_of (Replaces lost fresh) = story.replaces (exc_of lost.value) (exc_of fresh.value)
happening_of (Waits nursery exc) = story.waits nursery (unboxed_exc exc)
happening_of (Leaves kind label inside caught outside) =
    story.leaves (kind_of kind) label (unboxed_exc inside) caught (unboxed_exc outside)

abbrev pub what_of : What → events.What
what_of (Starts home part) = events.starts home (range_in part)
what_of (Happens what) = events.happens (happening_of what)
what_of (Ends home exc) = events.ends home (unboxed_exc exc)

abbrev pub event_of : Event → events.Event
event_of e = record { tick = e.tick; task = e.task; what = what_of e.what }
