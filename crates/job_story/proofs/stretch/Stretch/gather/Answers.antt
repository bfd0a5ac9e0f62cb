use Rattle.std.proofs.Common.{refl, ap, ◌∙◌}
use Rattle.exceptions.specs.Exceptions.{Label, group_of, by_nursery}
use Rattle.exceptions.specs.Held.{excs_of}
use Rattle.job_meaning.specs.Clocks.{a_round_after}
use Rattle.job_story.specs.Story.{Tale}
use Rattle.job_story.proofs.Teller.{is_gathered}
use Rattle.job_story.proofs.stretch.Stretch.gather.Goals as goal

pub returns : goal.returns
returns c = λ (a : Tale) h.
    is_gathered c.args.clock c.args.self _ _ a c.in_ok-parts.parts.items h (c.a_round_after.ensures ∙ ap
    (a_round_after c.args.clock) c.max.ensures)
    (c.group.ensures ∙ ap (λ (l : Label). group_of (by_nursery l) (excs_of c.in_ok-parts.parts.items)) c.in_ok-copy.ensures)
    c.in_ok-parts.ensures refl c.new.ensures.items
