-- A run that is over: its rows show what the job means.
use Rattle.std.proofs.Common.{◌≡◌, ℕ, suc, ◌≤◌, Option, Some, None, List, [], ◌∷◌, map, refl, ap, sym, ◌∙◌, subst, arith}
use Rattle.std.specs.Prelude.{All, IsSome, is_some}
use Rattle.std.specs.Option.{option_map}
use Rattle.std.proofs.Math.Path.{fun_ext}
use Rattle.std.proofs.lemmas.Option.{same_Some, none-some, slice_get_within}
use Rattle.task_table.specs.declared.entry.Entry.{Entry}
use Rattle.task_table.specs.declared.live.Live.{Live}
use Rattle.task_table.specs.Live.{live_at}
use Rattle.cancel_scopes.specs.Sight.{Tick}
use Rattle.exceptions.specs.Exceptions.{Label}
use Rattle.job_meaning.specs.Follow.{follow}
use Rattle.job_meaning.specs.GrantTable.{grants_made, AreGrantsOf}
use Rattle.job_meaning.specs.Log.{Result, Table}
use Rattle.job_meaning.specs.Moments.{clock_of, tick_of}
use Rattle.job_meaning.specs.declared.clock.Clock.{Clock}
use Rattle.job_meaning.specs.declared.clock.Clock.TheVariants.{ByTicks as by_ticks, ByRounds as by_rounds}
use Rattle.job_meaning.specs.Meaning.{From, meaning, meaning_end, root_log, records_of, all_entered, cancelled_from_by, meaning_grants}
use Rattle.job_meaning.specs.Shown.{row_of}
use Rattle.job_meaning.proofs.Settled.{settled_is_meaning, one_table_is_settled}
use Rattle.task_machine.specs.declared.world.World.{World}
use Rattle.task_table.specs.declared.record.Record.{Record}
use Rattle.task_machine.specs.declared.entry.ScopeFrom.{ScopeFrom}
use Rattle.task_machine.specs.Noted.{entry_of, from_of, IsSlice}
use Rattle.task_table.specs.Records.{row_in}
use Rattle.interleavings.specs.Rows as interleaving
use Rattle.run_refinement.specs.RunState.{EndedTask, Refines}
use Rattle.run_refinement.specs.Over.{IsOver, ShowsRow}
use Rattle.run_refinement.proofs.Blocks.{root_last}
use Rattle.run_refinement.proofs.Over.{state_over, state_granted}
use Rattle.job_runner.specs.declared.finished.Run.{Run}
use Rattle.task_table.specs.declared.task_table.TaskTable.{TaskTable}
use Rattle.task_table.specs.declared.task_table.Running.{Running}
use Rattle.task_table.specs.declared.rows.Ended.{Ended}
use Rattle.task_table.specs.declared.rows.TaskRow.{TaskRow}
use Rattle.job_runner.specs.declared.runner.Phase.TheVariants as phases
use Rattle.job_runner.specs.declared.runner.Runner.{Runner}
use Rattle.job_runner.specs.Limits.{last_of}
use Rattle.job_runner.specs.Phases.{phase_by, phase_of}
use Rattle.turn_semantics.specs.Midway.{Tables}
use Rattle.task_table.specs.TaskTable.{Sharing, children_by, run_state, ended_task_by, ended_task_from, ended_task_of, task_count, row_at, running_at, start_by, task_by, task_in, task_of, task_unless}
use Rattle.task_table.specs.Rows.{AreShown, EndIsShown, IsShown, ShowRecords}
use Rattle.job_runner.specs.Runs.{IsRun, FollowsEach, cancelled_from_in, granted_in, name_of, records_in}
use Rattle.job_runner.specs.Shared.{sharing_in}
use Rattle.job_runner.specs.Shelves.{state_in, IsServedIf, IsUnderway}
use Rattle.task_table.proofs.Lists.{all_by_place}
use Rattle.job_runner.proofs.States.{meaning_of, meaning_run, meaning_settled}

-- ---- the root has ended

ended_root : (es : List Entry) (kept : Option EndedTask) → phase_by es kept ≡ phases.Over → (g : EndedTask) × (kept ≡ Some g)
ended_root [] (Some g) e = (g, refl)
ended_root [] None e = absurd (let f : phases.Blocked ≡ phases.Over = e in cc)
ended_root (x ∷ es) kept e = absurd (let f : phases.Ready ≡ phases.Over = e in cc)

-- where an end is kept, the task lives no more
end_some : (end : Option Ended) (g : EndedTask) → option_map ended_task_from end ≡ Some g → (x : Option Running) → task_unless end x ≡ None
end_some None g e x = absurd (none-some g e)
end_some (Some end) g e x = refl

no_task : (live : Live Running) (row : Option TaskRow) (g : EndedTask) → ended_task_by row ≡ Some g → task_by live row ≡ None
no_task live None g e = absurd (none-some g e)
no_task live (Some row) g e = end_some row.end g e (live_at live row.task)

-- and where none lives, an end is kept
none_lives : (end : Option Ended) (x : Option Running) (y : Running) → x ≡ Some y → task_unless end x ≡ None → IsSome end
none_lives None x y e none = absurd (none-some y.task (sym none ∙ ap task_in e))
none_lives (Some end) x y e none = refl

-- ---- what is kept shows the row

-- what is kept of an end, as it is read
end_shown : (input : List ℕ) (row : interleaving.Row) (end : Option Ended) (task_table : TaskTable) (world : World) (turns : ℕ) (shared : Sharing) (s : ℕ)
    (h : ShowsRow input (run_state task_table world turns shared) s row) → option_map ended_task_from end ≡ Some h.ended_task → EndIsShown input row end
end_shown input row None task_table world turns shared s h e = tt
end_shown input row (Some end) task_table world turns shared s h e =
    let is : ended_task_from end ≡ h.ended_task = same_Some (ended_task_from end) h.ended_task e in
    record {
      label = ap (λ (g : EndedTask). g.label) is ∙ h.label;
      tick = ap (λ (g : EndedTask). g.end) is ∙ h.end;
      exc = ap (λ (g : EndedTask). g.exc) is ∙ h.exc;
      entries = ap (λ (g : EndedTask). map entry_of g.entries) is ∙ h.entries;
      slices = subst (λ (g : EndedTask). All (IsSlice input) g.entries) (sym is) h.slices;
      cancelled_from = ap (λ (g : EndedTask). map from_of g.cancelled_from) is ∙ h.cancelled_from;
    }

row_shown : (input : List ℕ) (task_table : TaskTable) (world : World) (turns : ℕ) (shared : Sharing) (s : ℕ) (row : interleaving.Row) (held : TaskRow) →
    row_at task_table s ≡ Some held → ShowsRow input (run_state task_table world turns shared) s row → IsShown input row held
row_shown input task_table world turns shared s row held e h =
    record {
      start = sym (ap start_by e) ∙ h.start;
      children = sym (ap children_by e) ∙ h.children;
      end = end_shown input row held.end task_table world turns shared s h (sym (ap ended_task_by e) ∙ h.is);
    }

-- two tables that agree on every label have the same moments of cancellation
cancelled_from_alike : (table other : Table) → ((l : Label) → table l ≡ other l) → (ls : List Label) → cancelled_from_by table ls ≡ cancelled_from_by other ls
cancelled_from_alike table other same [] = refl
cancelled_from_alike table other same (l ∷ ls) =
    ap (λ (t : Tick). record { label = l; seen = t } ∷ cancelled_from_by table ls) (same l)
    ∙ ap (λ (fs : List From). record { label = l; seen = other l } ∷ fs) (cancelled_from_alike table other same ls)

-- a moment by the last one of a tick is in that tick or an earlier one
by_last : (clock : Clock) (m n : ℕ) → m ≤ last_of clock n → tick_of clock m ≤ n
by_last by_ticks m n le = le
by_last by_rounds m n le = omega (arith, le)

-- ---- a run that is over

module _ {r : Runner} (w : IsUnderway r) (over : phase_of r ≡ phases.Over) where
  abbrev k : Tables
  k = meaning_of r

  state : Refines k r.job.now r.input.now r.world.tick (task_count r.task_table) None (state_in r)
  state = meaning_run r w.going

  root : (g : EndedTask) × (ended_task_of r.task_table 0 ≡ Some g)
  root = ended_root r.batch.current (ended_task_of r.task_table 0) over

  -- no task lives
  none_left : (p : ℕ) → task_of r.task_table p ≡ None
  none_left p = root_last k r.job.now r.input.now r.world.tick (task_count r.task_table) (state_in r) state
      (no_task r.task_table.live (row_at r.task_table 0) root.0 root.1) p

  -- what was done is served
  all_served : r.through ≡ suc r.world.tick
  all_served = by_batch r.batch.current over w.served
    where
      by_batch : (es : List Entry) → phase_by es (ended_task_of r.task_table 0) ≡ phases.Over → IsServedIf es r → r.through ≡ suc r.world.tick
      by_batch [] e served = served.through
      by_batch (x ∷ es) e served = absurd (let f : phases.Ready ≡ phases.Over = e in cc)

  -- so all that was granted is what the limiters and channels of the meaning grant
  all_granted : grants_made r.grants ≡ meaning_grants r.job.now r.input.now
  all_granted =
      fun_ext (λ object. fun_ext (λ asker. fun_ext (λ u.
      state_granted r.job.now r.input.now w.going.sound.names w.going.sound.starts r.world.tick (task_count r.task_table) (state_in r) state all_served
      none_left object asker u)))

  -- so each row has its end
  pub all_ended : (rows : List TaskRow) → rows ≡ r.task_table.rows.items → All (λ (x : TaskRow). IsSome x.end) rows
  all_ended rows same = rw same
      (all_by_place (λ (x : TaskRow). IsSome x.end) r.task_table.rows.items (λ p row e. by_end p row e row.end refl))
    where
      by_end : (p : ℕ) (row : TaskRow) → row_at r.task_table p ≡ Some row → (end : Option Ended) → row.end ≡ end → IsSome row.end
      by_end p row e None f =
          let l = w.going.shelved.consistent.agree.lives p row e f in
          none_lives row.end (running_at r.task_table row.task) l.running l.is (sym (ap (task_by r.task_table.live) e) ∙ none_left p)
      by_end p row e (Some end) f = ap is_some f

  is_over : IsOver r.job.now r.input.now (task_count r.task_table) (state_in r)
  is_over = state_over r.job.now r.input.now w.going.sound.names w.going.sound.starts r.world.tick (task_count r.task_table) (state_in r) state none_left

  are_shown : AreShown r.input.now is_over.rows r.task_table.rows.items
  are_shown s held e =
      row_shown r.input.now r.task_table r.world r.turns (sharing_in r) s (is_over.rows s) held e
      (is_over.shows s (slice_get_within r.task_table.rows.items s held e))

  -- the records and moments of cancellation of rows
  module _ {rows : List TaskRow} (same : rows ≡ r.task_table.rows.items) {records : List Record} {cancelled_from : List ScopeFrom}
      (tells : (input : List ℕ) (rs : ℕ → interleaving.Row) → AreShown input rs rows → ShowRecords input rs records cancelled_from) where
    shown : ShowRecords r.input.now is_over.rows records cancelled_from
    shown = tells r.input.now is_over.rows (rw same are_shown)

    -- a run of the job's name with these records and moments of cancellation is what the job means over its input
    pub is_run : (run : Run) → name_of run ≡ r.job.now.name → records_in run ≡ records → cancelled_from_in run ≡ cancelled_from →
        granted_in run ≡ r.grants → IsRun r.job.now r.input.now run
    is_run run name rs fs gs =
        record {
          name = name;
          rows = ap (map row_in) rs ∙ shown.records ∙ ap (map (row_of r.input.now)) (is_over.records shown.taken shown.order);
          slices = rw rs shown.slices;
          cancelled_from = ap (map from_of) fs ∙ shown.cancelled_from ∙ is_over.cancelled_from shown.taken shown.order;
          granted = ap grants_made gs ∙ all_granted;
          lent = subst (AreGrantsOf r.input.now) (sym gs) w.going.lent.granted;
        }

    -- so it is the result of following each pair of settled tables
    pub follows_each : (run : Run) → IsRun r.job.now r.input.now run → FollowsEach r.job.now r.input.now run
    follows_each run is other settled =
        let job = r.job.now in
        let input = r.input.now in
        let names = w.going.sound.names in
        let same : meaning job input ≡ follow other.cancelled_from other.granted job input =
        sym (settled_is_meaning other.cancelled_from other.granted job input names w.going.sound.in_range w.going.sound.small settled) in
        record {
          rows = is.rows ∙ ap (λ (x : Result). map (row_of input) (records_of (clock_of job.format) (root_log job x))) same;
          cancelled_from =
              is.cancelled_from
              ∙ cancelled_from_alike k.cancelled_from other.cancelled_from (one_table_is_settled k.cancelled_from other.cancelled_from
              k.granted other.granted job input names (meaning_settled r w.going.sound) settled).0 (all_entered (root_log job (meaning job input)))
              ∙ ap (λ (x : Result). cancelled_from_by other.cancelled_from (all_entered (root_log job x))) same;
        }

    -- and by its meaning the job ends within the limit
    pub ends_in_time : meaning_end r.job.now r.input.now ≤ r.limit
    ends_in_time =
        let shows = is_over.shows 0 state.some in
        let ended = state.ended 0 state.some (none_left 0) in
        let same : shows.ended_task ≡ ended.0 = same_Some shows.ended_task ended.0 (sym shows.is ∙ ended.1) in
        let end : shows.ended_task.end ≡ (is_over.rows 0).end = shows.end in
        let means : (is_over.rows 0).end ≡ meaning_end r.job.now r.input.now = is_over.end shown.taken shown.order in
        let at : shows.ended_task.end ≡ ended.0.end = ap (λ (g : EndedTask). g.end) same in
        let tick : ended.0.end ≡ tick_of r.world.clock ended.2.end = ended.2.tick in
        let before : ended.2.end ≤ r.world.tick = ended.2.before in
        let within : r.world.tick ≤ last_of r.world.clock r.limit = w.going.shelved.consistent.within in
        let by : tick_of r.world.clock ended.2.end ≤ r.limit = by_last r.world.clock ended.2.end r.limit (omega (arith, before, within)) in
        omega (arith, end, means, at, tick, by)
