use Rattle.std.proofs.Common.{vec_len}
use Rattle.clock.specs.KeptTimers.{Falls, KeepsLive}
use Rattle.clock.proofs.key_list.drop_stale.Given as goal

abbrev pub invariant-stale : goal.invariant-stale
invariant-stale l = (Falls l.initial.keys.items → Falls l.keys.items) × KeepsLive l.ticks l.tick l.initial.keys.items l.keys.items

abbrev pub decreases-stale : goal.decreases-stale
decreases-stale l = vec_len l.keys
