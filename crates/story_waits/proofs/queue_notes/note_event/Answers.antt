use Rattle.std.proofs.Common.{sym, ap, ◌∙◌}
use Rattle.std.specs.Prelude.{Some, None, if◌then◌else◌}
use Rattle.std.specs.Option.{option_or}
use Rattle.job_story.specs.Held.{event_of}
use Rattle.job_story.specs.Notes.{is_noted_as}
use Rattle.story_waits.specs.QueueNotes.{noted_at}
use Rattle.story_waits.proofs.NoteLemmas.{note_put}
use Rattle.story_waits.proofs.queue_notes.note_event.Goals as goal

pub returns : goal.returns
returns c walked k e =
    note_put c.args.notes.now c.insert.new.self c.in-Some.asker _ (event_of c.args.event.now) c.in_ok-insert.ensures.updates
    (sym c.contains_key.ensures ∙ c.if-contains_key.false) c.in-Some.ensures.asker.0 c.in-Some.ensures.asker.1 (sym c.in-Some.ensures.joins) e
    ∙ ap (λ n. option_or (noted_at c.args.notes.now e) (if is_noted_as e (event_of c.args.event.now) then Some n else None)) (c.note_of.ensures walked k)
