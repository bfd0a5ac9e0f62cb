use Rattle.std.proofs.Common.{◌≡◌, drop}
use Rattle.refusal_text.specs.Scanning.{first_given_place}
use Rattle.refusal_text.proofs.scanning.first_given_place.Given as goal

abbrev pub invariant-tokens : goal.invariant-tokens
invariant-tokens l = first_given_place l.name (drop l.token-index l.tokens) l.left ≡ first_given_place l.name l.tokens l.roles
