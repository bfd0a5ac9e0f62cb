-- A run continues as long as turns are left.
use Rattle.std.proofs.Common.{◌≡◌, ℕ, ◌+◌, ◌*◌, ◌<◌, ◌≤◌, List, [], ◌∷◌, Option, Some, None, length, ap, ◌∙◌, arith}
use Rattle.job_tree.specs.Names.{size_of}
use Rattle.job_tree.specs.Tree.{Tree}
use Rattle.task_table.specs.declared.entry.Entry.{Entry}
use Rattle.run_refinement.specs.RunState.{EndedTask}
use Rattle.job_runner.specs.declared.runner.Phase.{Phase}
use Rattle.job_runner.specs.declared.runner.Phase.TheVariants.{Ready, Blocked, Over}
use Rattle.job_runner.specs.declared.runner.Runner.{Runner}
use Rattle.job_runner.specs.Phases.{phase_by, phase_of}
use Rattle.job_runner.specs.Rounds.{jumps_before, most_turns, rounds_left}
use Rattle.job_runner.specs.Shelves.{IsSameJob, IsUnderway}
use Rattle.job_runner.proofs.States.{turns_bounded}

-- a run had no more turns than it has at most
pub few_turns : (r : Runner) → IsUnderway r → r.turns ≤ most_turns r
few_turns r u = turns_bounded r u.going

-- a task is ready where the run is
pub ready_some : (es : List Entry) (ended : Option EndedTask) → phase_by es ended ≡ Ready → 0 < length es
ready_some [] None e = absurd (let f : Blocked ≡ Ready = e in cc)
ready_some [] (Some g) e = absurd (let f : Over ≡ Ready = e in cc)
ready_some (x ∷ es) ended e = omega arith

at_most_one : (p : Phase) → jumps_before p ≤ 1
at_most_one Ready = omega arith
at_most_one Blocked = omega arith
at_most_one Over = omega arith

same_most : (old new : Runner) → IsSameJob old new → most_turns new ≡ most_turns old
same_most old new same = ap (λ (n : ℕ). 2 * n + 1) (ap (λ (b : _). size_of b.now.steps) same.job)

-- after a batch
pub fewer_turns : (old new : Runner) → IsSameJob old new → IsUnderway new → old.turns < new.turns → rounds_left new < rounds_left old
fewer_turns old new same u more =
    let e : most_turns new ≡ most_turns old = same_most old new same in
    let few : new.turns ≤ most_turns new = few_turns new u in
    let one : jumps_before (phase_of new) ≤ 1 = at_most_one (phase_of new) in
    omega (arith, e, few, one, more)

-- after a jump
pub jump_made : (old new : Runner) → IsSameJob old new → new.turns ≡ old.turns → phase_of old ≡ Blocked → phase_of new ≡ Ready →
    rounds_left new < rounds_left old
jump_made old new same turns was now =
    let e : most_turns new ≡ most_turns old = same_most old new same in
    let a : jumps_before (phase_of old) ≡ 1 = ap jumps_before was in
    let b : jumps_before (phase_of new) ≡ 0 = ap jumps_before now in
    omega (arith, e, turns, a, b)

-- ---- what the rounds keep

-- a run of this job over this input, up to this limit
pub record RunsFor (job : Tree) (input : List ℕ) (limit : ℕ) (r : Runner) : Type 0 where
  pub underway : IsUnderway r
  pub job_is : r.job.now ≡ job
  pub input_is : r.input.now ≡ input
  pub limit_is : r.limit ≡ limit

-- a run whose job, input and limit stay is a run of that job, over that input, up to that limit
pub runs_on : (job : Tree) (input : List ℕ) (limit : ℕ) (old new : Runner) → RunsFor job input limit old → IsSameJob old new →
    IsUnderway new → RunsFor job input limit new
runs_on job input limit old new h same u =
    record {
      underway = u;
      job_is = ap (λ (b : _). b.now) same.job ∙ h.job_is;
      input_is = ap (λ (b : _). b.now) same.input ∙ h.input_is;
      limit_is = same.limit ∙ h.limit_is;
    }

-- what an opened run is
pub runs_opened : (job : Tree) (input : List ℕ) (limit : ℕ) (r : Runner) → IsUnderway r → r.job.now ≡ job → r.input.now ≡ input → r.limit ≡ limit →
    RunsFor job input limit r
runs_opened job input limit r u j i l = record { underway = u; job_is = j; input_is = i; limit_is = l }

-- the same of a run that is still that of another one's job
pub runs_from : (old r : Runner) → IsUnderway r → IsSameJob old r → RunsFor old.job.now old.input.now old.limit r
runs_from old r u same =
    record {
      underway = u;
      job_is = ap (λ (b : _). b.now) same.job;
      input_is = ap (λ (b : _). b.now) same.input;
      limit_is = same.limit;
    }

pub same_then : (a b c : Runner) → IsSameJob a b → IsSameJob b c → IsSameJob a c
same_then a b c h i = record { job = i.job ∙ h.job; input = i.input ∙ h.input; limit = i.limit ∙ h.limit }

-- what is said of the runner's job, input and limit is said of these
pub said_for : (job : Tree) (input : List ℕ) (limit : ℕ) (r : Runner) → RunsFor job input limit r → (P : Tree → List ℕ → ℕ → Type 0) →
    P r.job.now r.input.now r.limit → P job input limit
said_for job input limit r h P p =
    rw (← h.limit_is, ← h.input_is, ← h.job_is) p

-- a run of a job had at most twice the job's size and one turns
pub turns_for : (job : Tree) (input : List ℕ) (limit n : ℕ) (r : Runner) → RunsFor job input limit r → n ≡ r.turns →
    n ≤ 2 * size_of job.steps + 1
turns_for job input limit n r h e =
    let few : r.turns ≤ most_turns r = few_turns r h.underway in
    let same : size_of r.job.now.steps ≡ size_of job.steps = ap (λ (j : Tree). size_of j.steps) h.job_is in
    omega (arith, few, same, e)
