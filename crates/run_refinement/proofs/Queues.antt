-- A task in the queue of a limiter or channel goes on in the run as what is granted by the acts of the rounds before says.
use Rattle.std.proofs.Common.{◌≡◌, ℕ, suc, ◌<◌, ◌≤◌, min, true, false, Option, Some, None, List, arith}
use Rattle.exceptions.specs.Exceptions.{Label}
use Rattle.cancel_scopes.specs.Sight.{sight, seen}
use Rattle.job_meaning.specs.Log.{Table}
use Rattle.job_meaning.specs.Sharing.{What, granted_before}
use Rattle.job_meaning.specs.Walk.{Here, last_grant, leaves_queue}
use Rattle.job_meaning.proofs.Clips.{sight_near}
use Rattle.turn_semantics.specs.Midway.{Place, Tables, stack_at}
use Rattle.turn_semantics.specs.Turned.{AgreesOn}
use Rattle.turn_semantics.specs.Wakes.{granted_to, LeavesAt}
use Rattle.interleavings.specs.Interleaving.{leaves_by}
use Rattle.interleavings.specs.Runs.{keeping}
use Rattle.interleavings.proofs.Contract.{near_places}
use Rattle.interleavings.proofs.Queues.{left_near}
use Rattle.run_refinement.proofs.Grants.{granted_in, leaves_late, none_in_time, some_in_time, leaves_seen, leaves_last}

module _ (k : Tables) (f : Table) (t : ℕ) (ps : List Place) (agrees : AgreesOn t k.cancelled_from f ps) (here : Here) (l : Label) (since : ℕ)
    (what : Option What) (before : since < t) (known : granted_before (suc t) (k.granted l here.task since) ≡ granted_in t what)
    (late : t ≤ leaves_by k here (Some l) since (stack_at k.cancelled_from ps))
  where
    -- when it leaves by the table, and by the moments of cancellation that the run keeps
    abbrev by_table : ℕ
    by_table = leaves_queue (sight (stack_at k.cancelled_from ps).scopes) (last_grant here.clock since)

    abbrev by_run : ℕ
    by_run = leaves_queue (sight (stack_at f ps).scopes) (last_grant here.clock since)

    near : min (suc t) by_table ≡ min (suc t) by_run
    near =
        left_near (suc t) (sight (stack_at k.cancelled_from ps).scopes) (sight (stack_at f ps).scopes) (last_grant here.clock since)
        (sight_near (suc t) (stack_at k.cancelled_from ps).scopes (stack_at f ps).scopes (near_places t k.cancelled_from f ps agrees).0)

    -- it goes on with what is granted now
    pub goes_granted : (w : What) → what ≡ Some w →
        granted_to (keeping f k) here (Some l) since (stack_at f ps) ≡ Some (record { at = t; what = w })
    goes_granted w e = some_in_time t since by_table by_run (k.granted l here.task since) what before known late near w e

    leaves_then : what ≡ None → by_run ≡ t → LeavesAt (keeping f k) here (Some l) since t (stack_at f ps)
    leaves_then e at = (none_in_time t since by_table by_run (k.granted l here.task since) what before known late near e at, at)

    -- it leaves where it sees a cancellation
    pub goes_seen : what ≡ None → seen (stack_at f ps).scopes t ≡ true → LeavesAt (keeping f k) here (Some l) since t (stack_at f ps)
    goes_seen e s =
        let a : t ≤ by_run = leaves_late t since by_table by_run (k.granted l here.task since) what before known late near e in
        let b : by_run ≤ t = leaves_seen (sight (stack_at f ps).scopes) t (last_grant here.clock since) s in
        leaves_then e (omega (arith, a, b))

    -- or at the last moment
    pub goes_last : what ≡ None → seen (stack_at f ps).scopes t ≡ false → last_grant here.clock since ≡ t →
        LeavesAt (keeping f k) here (Some l) since t (stack_at f ps)
    goes_last e s last = leaves_then e (leaves_last (sight (stack_at f ps).scopes) t (last_grant here.clock since) s last)
