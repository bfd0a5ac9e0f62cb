use Rattle.std.proofs.Common.{ap, ◌∙◌}
use Rattle.job_meaning.specs.Meaning.{root_label}
use Rattle.job_meaning.specs.Clocks.{clock_of}
use Rattle.job_story.proofs.Rooted.{tells_root}
use Rattle.job_story.proofs.root.tell.Goals as goal

pub returns : goal.returns
returns c =
    tells_root _ _ _ _ _ c.args.job.now _ c.args.input.now _ c.new-root.result _ _ _ c.new.ensures.items
    (c.new-root.ensures ∙ ap root_label c.name-2.ensures) c.steps.ensures.steps c.whole.ensures.buffer c.whole.ensures.range
    (c.of.ensures ∙ ap clock_of c.text_format.ensures) c.in_ok-tell_child.ensures
