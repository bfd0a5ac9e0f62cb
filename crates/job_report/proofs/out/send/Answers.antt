use Rattle.std.proofs.Common.{arith, ◌∙◌}
use Rattle.job_report.proofs.Sent.{sent_more}
use Rattle.job_report.proofs.out.send.Goals as goal

pub puts-preserved : goal.puts-preserved
puts-preserved g c = (
  omega (arith, c.puts.invariant.0, c.in-Ok.ensures.part, c.split_at.ensures.back_len),
  sent_more _ _ _ _ _ c.puts.sent c.in-Ok.n c.puts.invariant.1 c.in-Ok.ensures.taken c.split_at.ensures.back,
  c.in-Ok.ensures.well ∙ c.puts.invariant.2,
)
