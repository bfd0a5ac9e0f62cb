use Rattle.std.proofs.Common.{◌≡◌, drop}
use Rattle.refusal_text.specs.Scanning.{shape_at}
use Rattle.refusal_text.proofs.scanning.shape_at.Given as goal

abbrev pub invariant-tokens : goal.invariant-tokens
invariant-tokens l = shape_at l.at (drop l.token-index l.tokens) ≡ shape_at l.at l.tokens
