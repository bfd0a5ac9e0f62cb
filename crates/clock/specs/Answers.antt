-- What `jump` returns.
use Rattle.std.specs.Prelude.{ℕ, Option}
use Rattle.clock.specs.declared.clock.Jump.{Jump}
use Rattle.clock.specs.declared.clock.Jump.TheVariants.{To, Limit}
use Rattle.clock.specs.Clock.{Clock, JumpsTo, MeetsLimit}

-- `To(t)` exactly where the next tick `t` is at most the limit, and `Limit` exactly where it is later
abbrev pub Jumps : Clock → Option ℕ → Jump → Clock → Type 0
Jumps old next_cancel (To t) new = JumpsTo old next_cancel t new
Jumps old next_cancel Limit new = MeetsLimit old next_cancel new
