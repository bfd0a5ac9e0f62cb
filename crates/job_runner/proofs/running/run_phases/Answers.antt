use Rattle.std.proofs.Common.{ℕ, List, refl, sym}
use Rattle.std.proofs.lemmas.Result.{err_from_is_err_and}
use Rattle.job_tree.specs.Tree.{Tree}
use Rattle.job_runner.specs.Runs.{IsLate}
use Rattle.job_runner.proofs.Rounds.{fewer_turns, jump_made, runs_from, said_for, same_then}
use Rattle.job_runner.proofs.running.run_phases.Goals as goal

pub phases-init : goal.phases-init
phases-init g c = (c.requires.underway, record { job = refl; input = refl; limit = refl })

pub phases-smaller-in-Continue-1 : goal.phases-smaller-in-Continue-1
phases-smaller-in-Continue-1 g c =
    let e = c.in_ok-run_batch-in-Ready.ensures in fewer_turns c.phases.runner c.run_batch.new.runner e.same e.underway e.turns

pub phases-preserved-in-Continue-1 : goal.phases-preserved-in-Continue-1
phases-preserved-in-Continue-1 g c =
    let e = c.in_ok-run_batch-in-Ready.ensures in (e.underway, same_then _ _ _ c.phases.invariant.1 e.same)

pub phases-smaller : goal.phases-smaller
phases-smaller g c =
    let e = c.in_ok-jump_clock-in-Blocked.ensures in
    jump_made c.phases.runner c.jump_clock.new.self e.same e.turns (sym c.in-Blocked.ensures) e.ready

pub phases-preserved : goal.phases-preserved
phases-preserved g c =
    let e = c.in_ok-jump_clock-in-Blocked.ensures in (e.underway, same_then _ _ _ c.phases.invariant.1 e.same)

pub returns-in_err-jump_clock-in-Blocked-clause-late : goal.returns-in_err-jump_clock-in-Blocked-clause-late
returns-in_err-jump_clock-in-Blocked-clause-late g c =
    let p = err_from_is_err_and c.from_residual-in_err-jump_clock-in-Blocked.result c.from_residual-in_err-jump_clock-in-Blocked.ensures.1 in
    rw (p.1, p.2)
    (said_for _ _ _ c.phases.runner (runs_from c.args.runner.now c.phases.runner c.phases.invariant.0 c.phases.invariant.1)
    (λ (j : Tree) (xs : List ℕ) (n : ℕ). IsLate j xs n c.in_err-jump_clock-in-Blocked.field-0.0)
    c.in_err-jump_clock-in-Blocked.ensures.late)
