use Rattle.std.proofs.Common.{◌≡◌, drop}
use Rattle.std.specs.Prelude.{None}
use Rattle.refusal_text.specs.Scanning.{last_before}
use Rattle.refusal_text.proofs.scanning.last_before.Given as goal

abbrev pub invariant-tokens : goal.invariant-tokens
invariant-tokens l = last_before l.at l.last (drop l.token-index l.tokens) ≡ last_before l.at None l.tokens
