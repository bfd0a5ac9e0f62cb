use Rattle.std.proofs.Common.{◌≤◌, length}
use Rattle.job_tokens.specs.Lexing.{has_comments}
use Rattle.job_tokens.proofs.LeftToRight.{LexesOn}
use Rattle.job_tokens.proofs.lexing.lex.Given as goal

abbrev pub invariant-loop-rest : goal.invariant-loop-rest
invariant-loop-rest l = record {
  within : length l.rest ≤ l.end;
  on : LexesOn (has_comments l.fn.format) l.end l.bytes l.tokens.items l.rest;
}

abbrev pub decreases-loop-rest : goal.decreases-loop-rest
decreases-loop-rest l = length l.rest
