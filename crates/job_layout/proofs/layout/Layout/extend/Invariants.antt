use Rattle.std.proofs.Common.{◌≡◌, ◌++◌, drop}
use Rattle.job_layout.proofs.layout.Layout.extend.Given as goal

abbrev pub invariant-tokens : goal.invariant-tokens
invariant-tokens l = l.self ++ drop l.token-index l.fn.tokens ≡ l.fn.self ++ l.fn.tokens
