use Rattle.std.proofs.Common.{◌≡◌, drop}
use Rattle.std.specs.Prelude.{None}
use Rattle.refusal_text.specs.Scanning.{earlier_before}
use Rattle.refusal_text.proofs.scanning.earlier_before.Given as goal

abbrev pub invariant-tokens : goal.invariant-tokens
invariant-tokens l = earlier_before l.at l.earlier l.last (drop l.token-index l.tokens) ≡ earlier_before l.at None None l.tokens
