use Rattle.std.proofs.Common.{sym, ap, ◌∙◌}
use Rattle.std.specs.Prelude.{None}
use Rattle.std.specs.Option.{option_map, unwrap_or}
use Rattle.job_story.specs.Held.{event_of}
use Rattle.story_waits.specs.Noted.{note_in}
use Rattle.story_waits.proofs.NoteLemmas.{note_found}
use Rattle.story_waits.proofs.queue_notes.QueueNotes.note_of.Goals as goal

pub returns-in-Some-get : goal.returns-in-Some-get
returns-in-Some-get c =
    ap (λ o. unwrap_or (option_map (option_map note_in) o) None) c.in-Some-get.ensures.value
    ∙ ap (λ o. unwrap_or o None)
    (sym (note_found c.args.self.now.notes c.in-Some.asker (event_of c.args.event.now) c.in-Some.ensures.asker.0 c.in-Some.ensures.asker.1
    (sym c.in-Some.ensures.joins)))
