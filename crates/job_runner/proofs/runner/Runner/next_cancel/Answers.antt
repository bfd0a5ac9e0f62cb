use Rattle.std.proofs.Common.{◌≡◌, suc, max, ℕ, Some, ap, arith}
use Rattle.job_runner.proofs.runner.Runner.next_cancel.Goals as goal

pub returns : goal.returns
returns c = record {
  first = Some c.in_ok-sight.sight;
  is_first = c.in_ok-sight.ensures;
  is =
      (let now = c.now-next.ensures in
      let is = c.max.ensures in
      let e : c.max.result ≡ max (suc c.args.self.now.world.tick) c.in_ok-sight.sight = omega (arith, now, is) in
      ap (λ (n : ℕ). Some n) e);
}
