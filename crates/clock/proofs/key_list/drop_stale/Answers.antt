use Rattle.std.proofs.Common.{◌≡◌, ◌-◌, true, length, ℕ, ap, sym, ◌∙◌, take, arith}
use Rattle.std.specs.List.{slice_get}
use Rattle.clock.specs.KeptTimers.{is_stale}
use Rattle.clock.proofs.KeyListLemmas.{falls_taken, keeps_then, stale_dropped}
use Rattle.clock.proofs.key_list.drop_stale.Goals as goal

pub stale-preserved : goal.stale-preserved
stale-preserved c =
    let keys = c.stale.keys.items in
    let rest = c.pop.new.self.items in
    let stale : is_stale c.args.ticks.now c.args.tick (slice_get keys (length keys - 1)) ≡ true =
    sym (rw c.deref.ensures.value at c.stale-test.ensures) in
    let are : rest ≡ take (length keys - 1) keys = c.pop.ensures.rest ∙ ap (λ (n : ℕ). take (n - 1) keys) c.stale.keys.ok.0 in
    rw are (
      λ falls. falls_taken keys (length keys - 1) (omega arith) (c.stale.invariant.0 falls),
      keeps_then c.args.ticks.now c.args.tick c.args.keys.now.items keys (take (length keys - 1) keys) c.stale.invariant.1
          (stale_dropped c.args.ticks.now c.args.tick keys stale),
    )
