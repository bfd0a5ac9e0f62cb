use Rattle.std.proofs.Common.{◌≡◌, drop}
use Rattle.std.specs.Prelude.{None}
use Rattle.refusal_text.specs.Scanning.{is_started}
use Rattle.refusal_text.proofs.scanning.is_started.Given as goal

abbrev pub invariant-tokens : goal.invariant-tokens
invariant-tokens l = is_started l.name l.before (drop l.token-index l.tokens) ≡ is_started l.name None l.tokens
