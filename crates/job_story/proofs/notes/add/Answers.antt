use Rattle.std.proofs.Common.{ap, ◌∙◌, ◌++◌, ◌∷◌, []}
use Rattle.std.specs.Prelude.{map}
use Rattle.std.proofs.lemmas.List.{map-append}
use Rattle.exceptions.specs.Exceptions.{Label}
use Rattle.job_story.specs.Events.{event}
use Rattle.job_story.specs.Held.{event_of, what_of}
use Rattle.job_story.proofs.notes.add.Goals as goal

pub returns : goal.returns
returns c =
    ap (map event_of) c.in_ok-push.ensures.items
    ∙ (map-append event_of c.args.events.now.items _
    ∙ ap (λ (l : Label). map event_of c.args.events.now.items ++ event c.args.moment l (what_of c.args.what) ∷ []) c.in_ok-task.ensures)
