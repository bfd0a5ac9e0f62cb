use Rattle.std.proofs.Common.{◌≡◌, drop}
use Rattle.std.specs.List.{list_any}
use Rattle.expect_text.specs.Beginnings.{begins_named}
use Rattle.expect_text.proofs.beginnings.any_named.Given as goal

abbrev pub invariant-names : goal.invariant-names
invariant-names l = list_any (begins_named l.pattern) (drop l.name-index l.names) ≡ list_any (begins_named l.pattern) l.names
