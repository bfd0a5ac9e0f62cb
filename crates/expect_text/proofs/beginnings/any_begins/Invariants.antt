use Rattle.std.proofs.Common.{◌≡◌, drop, map}
use Rattle.expect_text.specs.Beginnings.{any_begins}
use Rattle.expect_text.proofs.beginnings.any_begins.Given as goal

abbrev pub invariant-beginnings : goal.invariant-beginnings
invariant-beginnings l = any_begins (map (λ beginning. beginning.now) (drop l.beginning-index l.beginnings)) l.pattern
    ≡ any_begins (map (λ beginning. beginning.now) l.beginnings) l.pattern
