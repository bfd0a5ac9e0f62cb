use Rattle.std.proofs.Common.{ap, ◌∙◌}
use Rattle.job_meaning.specs.Moments.{clock_of}
use Rattle.job_runner.proofs.Lasting.{never_late}
use Rattle.job_runner.proofs.running.run_to_end.Goals as goal

pub unreachable-requires : goal.unreachable-requires
unreachable-requires g c =
    never_late c.args.job.now c.args.input.now c.of.result c.last_tick-last.result c.in-Err-Limit.field-0-0 c.in-Err-Limit.field-0
    c.steps-steps.ensures.in_range c.requires.small (c.of.ensures ∙ ap clock_of c.text_format.ensures) c.last_tick-last.ensures
    c.in-Err-Limit.field-0-is c.in-Err-Limit.ensures.late
