-- A task that asks a limiter or channel: what it asks is kept, and it waits for it as long as `forever`.
use Rattle.std.proofs.Common.{◌≡◌, ℕ, ◌+◌, ◌<◌, max, inr, List, Some, None, refl, ap, sym, ◌∙◌, subst, arith}
use Rattle.std.specs.Prelude.{All}
use Rattle.std.specs.Option.{ForSome}
use Rattle.cancel_scopes.specs.Tree.{IsOpen}
use Rattle.clock.specs.Clock.{due_of}
use Rattle.input_lines.specs.Part.{buffer_of}
use Rattle.job_meaning.specs.Moments.{far, start_of}
use Rattle.job_meaning.specs.Walk.{last_grant}
use Rattle.job_meaning.specs.declared.clock.Clock.{Clock}
use Rattle.run_refinement.specs.RunState.{Refines}
use Rattle.run_refinement.specs.Sharing.{RoundAct}
use Rattle.task_machine.specs.declared.stop.ObjectRequest.{ObjectRequest}
use Rattle.task_machine.specs.declared.stop.Stop.TheVariants as stops
use Rattle.task_machine.specs.declared.stop.TaskState.{TaskState}
use Rattle.task_machine.specs.declared.task.Task.{Task}
use Rattle.task_machine.specs.Tasks.{scope_of}
use Rattle.task_machine.specs.Worlds.{event_at}
use Rattle.job_meaning.specs.Walk.{Here}
use Rattle.task_table.specs.declared.task_table.Running.{Running}
use Rattle.task_table.specs.TaskTable.{running_at, run_state, task_count}
use Rattle.job_runner.specs.declared.runner.Runner.{Runner}
use Rattle.job_runner.specs.Shared.{sharing_in}
use Rattle.job_runner.specs.Shelves.{moment_of, sleeps_in, waits_in, Stays, IsActOf, IsBetweenTurns, IsRefined}
use Rattle.job_runner.specs.Steps.{state_after, IsStopping, KeepsAsk, PutsToSleep}
use Rattle.job_runner.proofs.Lived.{task_at}
use Rattle.job_runner.proofs.States.{meaning_of, meaning_settled}
use Rattle.job_runner.proofs.Stopped.{not_timed, stopped_task, stopping_scope, sleeps_going}

-- what is asked may be granted in a later moment
last_later : (clock : Clock) (t : ℕ) → t < last_grant clock t
last_later clock t = omega arith

module _ {id row : ℕ} {request : ObjectRequest} {r held : Runner} (h : IsStopping id row (stops.Queue request) r)
    (kept : KeepsAsk r held row request)
  where
    abbrev its : Task
    its = (stopped_task h).0.task

    -- with what it asks the run is one of the definitions
    refined : IsRefined (record r { round = held.round })
    refined k settled =
        subst (λ (xs : List RoundAct). Refines k r.job.now r.input.now r.world.tick (task_count r.task_table) None
        (run_state r.task_table r.world r.turns (record (sharing_in r) { round = xs }))) (sym kept.kept) (h.interleaving k settled).is

    -- the part that it would send is of the input
    its_input : buffer_of request.part ≡ r.input.now
    its_input =
        let c : Refines (meaning_of r) r.job.now r.input.now r.world.tick (task_count r.task_table) None (state_after row (stops.Queue request) r) =
        (h.interleaving (meaning_of r) (meaning_settled r h.sound)).is in
        let f = c.follows (stopped_task h).0.row its (task_at r.task_table h.shelved.consistent.agree id (stopped_task h).0 (stopped_task h).1) in
        (stopped_task h).3.buffer ∙ (ap (λ (x : Here). x.input) f.here ∙ f.input_is)

    acts : All (IsActOf r.input.now) held.round.items
    acts = kept.lent its_input h.lent.round

    -- it stays until then
    its_stays : {due : ℕ} → due ≡ last_grant r.world.clock r.world.tick → Stays r.world due its
    its_stays {due} is =
        record {
          due_is =
              ap (moment_of r.world.clock (event_at r.world) r.world.book) (stopped_task h).3.task_state ∙ ap (λ (n : ℕ). Some n) (sym is);
          later = (let lt = last_later r.world.clock r.world.tick in omega (arith, is, lt));
          dozes = (let state = (stopped_task h).3.task_state in rw state (omega arith, inr refl));
        }

    -- then the run is between two turns
    pub queues_going : {due start now : ℕ} {clock : Clock} {mid : Runner} → due ≡ max start (now + 1) → start ≡ start_of clock far →
        clock ≡ held.world.clock → now ≡ held.world.tick → PutsToSleep id due held mid → IsBetweenTurns mid
    queues_going {due} {start} {now} {clock} {mid} is first counts at puts =
        sleeps_going h held refined acts (its_stays last) (subst (λ (x : Runner). PutsToSleep id due x mid) kept.rest puts)
        (ap (λ (s : TaskState). sleeps_in s (scope_of its)) (stopped_task h).3.task_state)
        (ap (waits_in (event_at r.world)) (stopped_task h).3.task_state)
      where
        last : due ≡ last_grant r.world.clock r.world.tick
        last =
            let from : start ≡ start_of r.world.clock far =
            first ∙ ap (λ (c : Clock). start_of c far) (counts ∙ ap (λ (x : Runner). x.world.clock) kept.rest) in
            let same : now ≡ r.world.tick = at ∙ ap (λ (x : Runner). x.world.tick) kept.rest in
            omega (arith, is, from, same)

    -- it had no timer, and its scope is open
    pub queues_awake : due_of held.clock id ≡ None
    queues_awake = ap (λ (x : Runner). due_of x.clock id) kept.rest ∙ not_timed h

    pub queues_opened : ForSome (running_at held.task_table id) (λ (x : Running). ForSome (scope_of x.task) (IsOpen held.world.scopes))
    queues_opened =
        subst (λ (z : Runner). ForSome (running_at z.task_table id) (λ (x : Running). ForSome (scope_of x.task) (IsOpen z.world.scopes)))
        (sym kept.rest) (stopping_scope h)
