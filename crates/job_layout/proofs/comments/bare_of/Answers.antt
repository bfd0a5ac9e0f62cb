use Rattle.std.proofs.Common.{arith}
use Rattle.job_layout.proofs.Printing.{bare_step, bare_end}
use Rattle.job_layout.proofs.comments.bare_of.Goals as goal

pub tokens-preserved : goal.tokens-preserved
tokens-preserved c = bare_step c.tokens.left c.tokens.bytes.now c.split_separator.result.0.now c.split_separator.result.1.now
    c.skip_token-bytes.result.now c.is_bare.result c.tokens.bare.items c.push.new.self.items _ (omega (arith, c.tokens-test.true))
    c.split_separator.ensures.separator c.split_separator.ensures.rest c.skip_token-bytes.ensures c.is_bare.ensures c.in_ok-push.ensures.items
    c.tokens.invariant

pub returns : goal.returns
returns c = bare_end c.tokens.left c.tokens.bytes.now c.split_separator-2.result.0.now c.is_bare-2.result c.tokens.bare.items
    c.push-2.new.self.items _ (omega (arith, c.tokens-test.false)) c.split_separator-2.ensures.separator c.is_bare-2.ensures
    c.in_ok-push-2.ensures.items c.tokens.invariant
