use Rattle.std.proofs.Common.{sym, arith, false-eqb}
use Rattle.std.proofs.lemmas.Bool.{eqb-true}
use Rattle.job_tokens.specs.Lexing.{has_comments}
use Rattle.job_tokens.proofs.LeftToRight.{stops, is_done}
use Rattle.job_tokens.proofs.lexing.lex.Goals as goal

pub returns-in_default : goal.returns-in_default
returns-in_default c = stops (has_comments c.args.format) c.args.end c.args.bytes.now c.loop-rest.tokens.items c.loop-rest.rest.now c.in_default.ensures.value
    (omega (arith, false-eqb _ 0 c.loop-rest-test.ensures)) c.loop-rest.invariant.within c.loop-rest.invariant.on

pub returns : goal.returns
returns c = is_done (has_comments c.args.format) c.args.end c.args.bytes.now c.loop-rest.tokens.items c.loop-rest.rest.now (eqb-true _ 0 (sym c.loop-rest-test.ensures))
    c.loop-rest.invariant.on
