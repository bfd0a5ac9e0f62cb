use Rattle.std.proofs.Common.{◌≡◌, drop, reverse}
use Rattle.job_syntax.specs.Syntax.{whole_job}
use Rattle.refusal_text.specs.Expecting.{expected_nonterminal}
use Rattle.refusal_text.proofs.expecting.expected_nonterminal.Given as goal

abbrev pub invariant-loop-token : goal.invariant-loop-token
invariant-loop-token l = expected_nonterminal l.format (reverse l.stack.items) (drop l.token-index l.tokens) ≡ expected_nonterminal
    l.format whole_job l.tokens
