use Rattle.std.proofs.Common.{◌≡◌, ℕ, Some, ◌-◌, take, subst, arith, rules}
use Rattle.std.proofs.lemmas.List.{take_more_set}
use Rattle.job_tokens.specs.Lexing.{units}
use Rattle.job_tokens.proofs.Units.{ends, fails, is_full, goes_on}
use Rattle.job_tokens.proofs.string.read_units.Goals as goal

pub returns-in-Some-clause-units : goal.returns-in-Some-clause-units
returns-in-Some-clause-units c = ends (take c.loop-len.len c.loop-len.room) (64 - c.loop-len.len) c.loop-len.rest.now c.in-Some.after.now
    (units 64 c.args.bytes.now) c.in-Some.ensures.value c.loop-len.invariant.so_far

pub returns-in_err-unit-clause-units : goal.returns-in_err-unit-clause-units
returns-in_err-unit-clause-units c = rw c.from_residual.ensures
    (fails (take c.loop-len.len c.loop-len.room) (64 - c.loop-len.len) c.loop-len.rest.now (units 64 c.args.bytes.now)
    c.in_default.ensures.value c.in_err-unit.ensures.value c.loop-len.invariant.so_far)

pub loop-len-preserved : goal.loop-len-preserved
loop-len-preserved c = record {
  room = search (rules, c.loop-len.invariant.room);
  within = omega (arith, c.in_ok-unit.ensures.shorter);
  so_far = rw (take_more_set c.loop-len.room c.loop-len.len c.in_ok-unit.unit (omega (arith, c.loop-len.invariant.room)))
      (goes_on (take c.loop-len.len c.loop-len.room) 64 c.loop-len.len c.loop-len.rest.now c.in_ok-unit.unit c.in_ok-unit.after.now
      (units 64 c.args.bytes.now) c.loop-len-test.true c.in_default.ensures.value c.in_ok-unit.ensures.value c.loop-len.invariant.so_far);
}

pub returns-in_err-after-clause-units : goal.returns-in_err-after-clause-units
returns-in_err-after-clause-units c = rw c.from_residual-in_err-after.ensures
    (is_full (take c.loop-len.len c.loop-len.room) (64 - c.loop-len.len) c.loop-len.rest.now (units 64 c.args.bytes.now) (omega arith)
    c.in_err-after.ensures.value c.loop-len.invariant.so_far)

pub returns-clause-units : goal.returns-clause-units
returns-clause-units c =
    let full : c.loop-len.len ≡ 64 = omega arith in
    let found = ends (take c.loop-len.len c.loop-len.room) (64 - c.loop-len.len) c.loop-len.rest.now c.in_ok-after.after.now
    (units 64 c.args.bytes.now) c.in_ok-after.ensures.value c.loop-len.invariant.so_far in
    subst (λ (n : ℕ). units 64 c.args.bytes.now ≡ Some (take n c.loop-len.room, c.in_ok-after.after.now)) full found
