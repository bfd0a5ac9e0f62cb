use Rattle.std.proofs.Common.{◌≤◌, ℕ, List}
use Rattle.std.proofs.lemmas.Result.{err_from_is_err_and}
use Rattle.job_tree.specs.Tree.{Tree}
use Rattle.job_meaning.specs.Meaning.{meaning_end}
use Rattle.job_runner.specs.Runs.{IsRun, IsLate}
use Rattle.job_runner.proofs.Rounds.{runs_on, runs_opened, said_for, turns_for}
use Rattle.job_runner.proofs.running.run_until.Goals as goal

pub run_phases-requires-clause-underway : goal.run_phases-requires-clause-underway
run_phases-requires-clause-underway g c κs within = c.in_ok-runner.ensures.underway

pub returns-in_err-run_phases-clause-late : goal.returns-in_err-run_phases-clause-late
returns-in_err-run_phases-clause-late g c =
    let e = c.in_ok-runner.ensures in
    let p = err_from_is_err_and c.from_residual-in_err-run_phases.result c.from_residual-in_err-run_phases.ensures.1 in
    rw (p.1, p.2)
    (said_for c.args.job.now c.args.input.now c.args.limit c.in_ok-runner.runner
    (runs_opened _ _ _ c.in_ok-runner.runner e.underway e.job e.input e.limit)
    (λ (j : Tree) (xs : List ℕ) (n : ℕ). IsLate j xs n c.in_err-run_phases.field-0.0)
    c.in_err-run_phases.ensures.late)

pub finish-requires-clause-underway : goal.finish-requires-clause-underway
finish-requires-clause-underway g c = c.in_ok-run_phases.ensures.underway

pub returns-clause-run : goal.returns-clause-run
returns-clause-run g c =
    let e = c.in_ok-runner.ensures in
    let p = c.in_ok-run_phases.ensures in
    let old = runs_opened c.args.job.now c.args.input.now c.args.limit c.in_ok-runner.runner e.underway e.job e.input e.limit in
    said_for c.args.job.now c.args.input.now c.args.limit c.run_phases.new.runner
    (runs_on _ _ _ c.in_ok-runner.runner c.run_phases.new.runner old p.same p.underway)
    (λ (j : Tree) (xs : List ℕ) (n : ℕ). IsRun j xs c.in_ok-run.run') c.in_ok-run.ensures.run

pub returns-clause-turns : goal.returns-clause-turns
returns-clause-turns g c =
    let e = c.in_ok-runner.ensures in
    let p = c.in_ok-run_phases.ensures in
    let old = runs_opened c.args.job.now c.args.input.now c.args.limit c.in_ok-runner.runner e.underway e.job e.input e.limit in
    turns_for c.args.job.now c.args.input.now c.args.limit _ c.run_phases.new.runner
    (runs_on _ _ _ c.in_ok-runner.runner c.run_phases.new.runner old p.same p.underway) c.in_ok-run.ensures.turns

pub returns-clause-in_time : goal.returns-clause-in_time
returns-clause-in_time g c =
    let e = c.in_ok-runner.ensures in
    let p = c.in_ok-run_phases.ensures in
    let old = runs_opened c.args.job.now c.args.input.now c.args.limit c.in_ok-runner.runner e.underway e.job e.input e.limit in
    said_for c.args.job.now c.args.input.now c.args.limit c.run_phases.new.runner
    (runs_on _ _ _ c.in_ok-runner.runner c.run_phases.new.runner old p.same p.underway)
    (λ (j : Tree) (xs : List ℕ) (n : ℕ). meaning_end j xs ≤ n) c.in_ok-run.ensures.in_time
