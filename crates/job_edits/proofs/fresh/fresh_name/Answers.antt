use Rattle.std.proofs.Common.{◌≡◌, ◌∙◌, sym, arith, ◌<◌, true, false}
use Rattle.job_edits.specs.Fresh.{occurs}
use Rattle.job_edits.proofs.Tries.{ends, goes_on}
use Rattle.job_edits.proofs.fresh.fresh_name.Goals as goal

pub returns-then-not-occurs-2 : goal.returns-then-not-occurs-2
returns-then-not-occurs-2 c =
    let some : 0 < c.tries.tries = omega (arith, c.tries-test.true) in
    let none : occurs c.in_ok-name.name c.args.tokens.now ≡ false = cc in
    sym (ends _ _ _ _ _ some c.in_ok-name.ensures none) ∙ c.tries.invariant.0

pub tries-preserved : goal.tries-preserved
tries-preserved c =
    let some : 0 < c.tries.tries = omega (arith, c.tries-test.true) in
    let found : occurs c.in_ok-name.name c.args.tokens.now ≡ true = cc in
    (goes_on _ _ _ _ _ some c.in_ok-name.ensures found ∙ c.tries.invariant.0, omega (arith, some, c.tries.invariant.1))
