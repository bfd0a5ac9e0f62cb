-- The tasks of the program at the beginning: the root is the only one, in a world in which nothing
-- has happened.
use Rattle.std.proofs.Common.{◌≡◌, ◌⊎◌, inl, inr, ℕ, zero, suc, ◌<◌, ◌≤◌, Option, Some, None, List, [], ◌∷◌, map, length, refl, ap, sym, ◌∙◌, subst, arith}
use Rattle.std.specs.Prelude.{All, IsSome, slice_get}
use Rattle.std.specs.Option.{ForSome}
use Rattle.std.specs.List.{last_or}
use Rattle.std.proofs.lemmas.List.Elements.{All-nil}
use Rattle.cancel_scopes.specs.Tree.{Stack, outer_of, IsOpen}
use Rattle.job_tree.specs.Tree.{Tree as Job}
use Rattle.job_tree.specs.InRange.{IsInRange}
use Rattle.job_tree.specs.Names.{GivesNamesOnce}
use Rattle.job_tree.specs.Starting.{StartsInNurseries}
use Rattle.job_meaning.specs.Log.{Table}
use Rattle.job_meaning.specs.Meaning.{root_here}
use Rattle.job_meaning.specs.Moments.{clock_of, only_at}
use Rattle.job_meaning.specs.Rest as rest
use Rattle.job_meaning.specs.declared.limits.TheConstants.{MAX_INPUT}
use Rattle.task_machine.specs.declared.entry.ScopeFrom.{ScopeFrom}
use Rattle.task_machine.specs.Noted.{entry_of, IsSlice}
use Rattle.turn_semantics.specs.Placed.{Placed}
use Rattle.turn_semantics.specs.Names.{NewIn}
use Rattle.turn_semantics.proofs.Names.{new_job}
use Rattle.task_machine.specs.declared.stop.TaskState.{TaskState}
use Rattle.task_machine.specs.declared.task.Home.{Home}
use Rattle.task_machine.specs.declared.task.Own.{Own}
use Rattle.task_machine.specs.declared.task.Task.{Task}
use Rattle.task_machine.specs.Fitting.{Block, blocks_of, AreInRangeFrames, StartsFit, Opened, waits_of, AreOf}
use Rattle.task_machine.specs.Left.{OwnFirst}
use Rattle.task_machine.specs.Standing.{here_of, HasBlock, HasNurseryOf}
use Rattle.task_machine.specs.Stacked.{AreAt}
use Rattle.task_machine.specs.Stops.{Numbers, IsTaskState}
use Rattle.task_machine.specs.Tasks.{home_scope, scope_of}
use Rattle.task_machine.specs.Waking.{IsInRangeTaskState}
use Rattle.task_machine.specs.Worlds.{label_at, event_at}
use Rattle.task_machine.proofs.Stopping.{no_blocks_begun}
use Rattle.interleavings.specs.Interleaving.{Started}
use Rattle.interleavings.specs.Going.{root_task}
use Rattle.interleavings.specs.Runs.{begun}
use Rattle.run_refinement.proofs.ActsKeep.{not_both}
use Rattle.run_refinement.specs.Begun.{IsNewWorld, IsRootTask}
use Rattle.run_refinement.specs.RunState.{Interleaving, RunState, EndedTask, Differ, IsSince, LastEnds, HasHome, Follows, HasEnded, Refines}
use Rattle.turn_semantics.specs.Midway.{Tables}
use Rattle.run_refinement.proofs.Inputs.{none_received}
use Rattle.input_lines.specs.Part.{buffer_of}
use Rattle.run_refinement.proofs.SharesKept.{shares_none}
use Rattle.interleavings.specs.Acts.{acts_of}
use Rattle.exceptions.specs.Exceptions.{Label}
use Rattle.turn_semantics.specs.Lists.{IsAmong}

-- no label is cancelled
abbrev none_cancelled_from : Table
none_cancelled_from l = None

-- at each serial number is the root, which has done nothing
begun_interleaving : (k : Tables) (job : Job) (input : List ℕ) → Interleaving k job input 0 1
begun_interleaving k job input =
    record {
      cancelled_from = none_cancelled_from;
      tasks = root_task k job input ∷ [];
      reached = begun none_cancelled_from;
      at = λ s. root_task k job input;
      has = λ s lt. (inl refl, omega (arith, lt));
      one = λ q i. by_in q i;
      differ = (λ x i e. i, tt);
      none = λ s le. refl;
    }
  where
    by_in : (q : Started) → (q ≡ root_task k job input) ⊎ ⊥ → (q ≡ root_task k job input) × (q.serial < 1)
    by_in q (inl e) = (e, let f = ap (λ (x : Started). x.serial) e in omega (arith, f))
    by_in q (inr i) = absurd i

abbrev no_numbers : ℕ → Numbers
no_numbers p id = []

-- ---- the root

root_follows : (k : Tables) (job : Job) (input : List ℕ) (state : RunState) (root : Task) → IsInRange job → StartsInNurseries job →
    GivesNamesOnce job → state.world.clock ≡ clock_of job.format → IsRootTask job input root →
    Follows state none_cancelled_from input 0 (λ s. root_task k job input) no_numbers None 0 root
root_follows k job input state root in_range starting names clock r =
    record {
      here = here;
      since = subst (λ (h : TaskState). IsSince 0 root.cancelled.items h (only_at 0)) (sym r.task_state) refl;
      last = subst (LastEnds (λ s. root_task k job input) (no_numbers 0) (root_task k job input) state.world.book) (sym r.task_state) tt;
      input_is = refl;
      lives = λ no. refl;
      frames = r.frames (no_numbers 0);
      stands =
          record {
            places =
                subst (λ (st : Stack). AreAt (label_at state.world) (event_at state.world) none_cancelled_from st []) (sym none_around) tt;
            numbered = λ id i. absurd (let h : ⊥ = subst (λ (bs : List Block). HasBlock id bs) blocks i in h);
            placed = subst (λ (fs : List rest.Frame). Placed fs []) (sym (r.frames (no_numbers 0))) (starting, tt);
            new = subst (λ (fs : List rest.Frame). NewIn fs []) (sym (r.frames (no_numbers 0))) (new_job job names);
            stop = tt;
            own = tt;
            event = tt;
          };
      task_state = subst (λ (h : TaskState). IsTaskState (no_numbers 0) state.world.book h rest.to_begin) (sym r.task_state) tt;
      in_range = subst IsInRangeTaskState (sym r.task_state) tt;
      goes =
          record {
            in_range = subst AreInRangeFrames (sym (r.frames (λ id. []))) (in_range.numbers, tt);
            lent = subst (AreOf (buffer_of root.part)) (sym (none_received (λ id. []) root.frames.items job.steps (r.frames (λ id. [])))) tt;
            starts = subst StartsFit (sym (r.frames (λ id. []))) (starting, tt);
            home = subst (λ (o : Option ℕ). ForSome o (IsOpen state.world.scopes)) (sym no_home)
                (λ x e. absurd (let f : None ≡ Some x = e in cc));
            scope = subst (λ (o : Option ℕ). ForSome o (IsOpen state.world.scopes)) (sym no_scope)
                (λ x e. absurd (let f : None ≡ Some x = e in cc));
            first = subst (OwnFirst state.world.scopes (home_scope root)) (sym r.own) refl;
            cancelled_from = subst (λ (os : List Own). All (λ (o : Own). o.at < length root.cancelled_from.items) os) (sym r.own)
                (All-nil (λ (o : Own). o.at < length root.cancelled_from.items));
            opened =
                subst (λ (bs : List Block). Opened (label_at state.world) state.world.book bs root.own.items (waits_of root.task_state))
                (sym blocks)
                (subst (λ (os : List Own). Opened (label_at state.world) state.world.book [] os (waits_of root.task_state)) (sym r.own)
                (subst (λ (w : Option ℕ). Opened (label_at state.world) state.world.book [] [] w) (sym waits) tt));
          };
      notes = record {
        shown = ap (map entry_of) r.entries;
        slices =
            subst (All (IsSlice input)) (sym r.entries) (All-nil (IsSlice input));
      };
      tracks =
          record {
            labels = ap (map (λ (x : ScopeFrom). x.label)) r.cancelled_from;
            differ = subst Differ (sym r.own) tt;
            named = λ o i e. absurd (none_own o i e);
            kept = λ o i e. absurd (none_own o i e);
            left = λ i x e past. absurd (let f : None ≡ Some x = sym (ap (λ (xs : List ScopeFrom). slice_get xs i) r.cancelled_from) ∙ e in cc);
          };
      home = subst (HasHome state (λ s. root_task k job input) no_numbers 0) (sym r.home) refl;
      nurseries = λ id h. absurd (by_none id (subst (λ (w : Option ℕ). HasNurseryOf id [] w) waits
          (subst (λ (bs : List Block). HasNurseryOf id bs (waits_of root.task_state)) blocks h)));
    }
  where
    here : here_of state.world.clock root ≡ root_here job input
    here = λ i. record { clock = clock i; input = r.buffer i; part = r.range i; task = r.label i; path = (r.label i).indices }

    blocks : blocks_of root.frames.items ≡ []
    blocks = no_blocks_begun (no_numbers 0) root.frames.items job.steps (r.frames (no_numbers 0))

    waits : waits_of root.task_state ≡ None
    waits = ap waits_of r.task_state

    no_home : home_scope root ≡ None
    no_home = ap home_scope_by r.home
      where
        home_scope_by : Option Home → Option ℕ
        home_scope_by None = None
        home_scope_by (Some h) = Some h.scope

    no_scope : scope_of root ≡ None
    no_scope = ap (λ (os : List Own). last_or (home_scope root) (map (λ (o : Own). o.id) os)) r.own ∙ no_home

    none_around : outer_of state.world.scopes (scope_of root) ≡ []
    none_around = ap (outer_of state.world.scopes) no_scope

    none_own : (o : Own) (i : ℕ) → slice_get root.own.items i ≡ Some o → ⊥
    none_own o i e = absurd (let f : None ≡ Some o = sym (ap (λ (os : List Own). slice_get os i) r.own) ∙ e in cc)

    by_none : (id : ℕ) → HasNurseryOf id [] None → ⊥
    by_none id (inl h) = h
    by_none id (inr e) = absurd (let f : None ≡ Some id = e in cc)

-- ---- the tasks of the program

-- the tasks of a run that begins, where the root is at serial number 0
pub record BeginsAs (k : Tables) (job : Job) (input : List ℕ) (state : RunState) : Type 0 where
  pub is : Refines k job input 0 1 None state
  pub at : is.interleaving.at 0 ≡ root_task k job input

-- the root alone in a new world is a run in moment 0, whose task is the root of the definitions
pub state_begins : (k : Tables) (job : Job) (input : List ℕ) (state : RunState) (root : Task) → IsInRange job → StartsInNurseries job →
    GivesNamesOnce job → length input ≤ MAX_INPUT →
    IsNewWorld job state.world → IsRootTask job input root → state.task 0 ≡ Some root → ((p : ℕ) → state.task (suc p) ≡ None) →
    ((p : ℕ) → state.ended_task p ≡ None) → state.start 0 ≡ 0 →
    state.children 0 ≡ [] → state.turns ≡ 0 → state.path 0 ≡ 0 ∷ [] → state.through ≡ 0 → ((l : Label) → state.object l ≡ None) → state.round ≡ [] →
    ((p : ℕ) → state.granted p ≡ None) → ((object asker : Label) (u : ℕ) → state.grants object asker u ≡ None) → BeginsAs k job input state
unfolding begun_interleaving
state_begins k job input state root in_range starting names small world r first others ended_task start children turns path through objects round granted grants =
    record {
      is =
          record {
            interleaving = begun_interleaving k job input;
            numbers = no_numbers;
            counted = sym turns;
            clock = world.clock;
            tick = world.tick;
            in_range = in_range;
            small = small;
            some = omega arith;
            begun = start;
            unborn = unborn;
            ended = ended;
            follows = follows;
            owned = λ key h. absurd (none_open key h);
            apart = λ key s u a b. is_first s a.task a.lives ∙ sym (is_first u b.task b.lives);
            labelled = λ key l e. absurd (let f : None ≡ Some l = sym (world.labels key) ∙ e in cc);
            opened = λ key set e. absurd (not_both (world.events key) e);
            soon = λ key from e. absurd (not_both (world.events key) e);
            started = λ s lt. tt;
            children = λ s lt. let e : s ≡ 0 = omega (arith, lt) in ap state.children e ∙ children;
            through = inl through;
            path_of_root = path;
            path_of_child = λ s c lt i. absurd (no_child s c lt i);
            shares = shares_none state (root_task k job input ∷ []) (λ s. root_task k job input) 1 (λ l q i. by_root l q i) (λ s lt. (inl refl, refl, refl))
                objects round granted grants;
          };
      at = refl;
    }
  where
    no_child : (s c : ℕ) → s < 1 → IsAmong c (state.children s) → ⊥
    no_child s c lt i = let e : s ≡ 0 = omega (arith, lt) in
        let j : IsAmong c [] = subst (IsAmong c) (ap state.children e ∙ children) i in j

    by_root : (l : Label) (q : Started) → IsAmong q (root_task k job input ∷ []) → acts_of l q ≡ []
    by_root l q (inl e) = ap (acts_of l) e
    by_root l q (inr i) = absurd i

    is_first : (s : ℕ) (task : Task) → state.task s ≡ Some task → s ≡ 0
    is_first zero task e = refl
    is_first (suc s) task e = absurd (let f : None ≡ Some task = sym (others s) ∙ e in cc)

    unborn : (s : ℕ) → 1 ≤ s → (state.task s ≡ None) × (state.ended_task s ≡ None)
    unborn zero le = absurd (omega (arith, le))
    unborn (suc s) le = (others s, ended_task (suc s))

    ended : (s : ℕ) → s < 1 → state.task s ≡ None → (g : EndedTask) × (state.ended_task s ≡ Some g) × HasEnded state.world.clock none_cancelled_from input 0
        (root_task k job input) g
    ended s lt e = absurd (let f : s ≡ 0 = omega (arith, lt) in let g : Some root ≡ None = sym first ∙ ap state.task (sym f) ∙ e in cc)

    follows : (s : ℕ) (task : Task) → state.task s ≡ Some task → Follows state none_cancelled_from input 0 (λ s. root_task k job input) no_numbers None s
        task
    follows zero task e =
        let f : Some root ≡ Some task = sym first ∙ e in let g : root ≡ task = cc in
        subst (Follows state none_cancelled_from input 0 (λ s. root_task k job input) no_numbers None 0) g
        (root_follows k job input state root in_range starting names world.clock r)
    follows (suc s) task e = absurd (let f : None ≡ Some task = sym (others s) ∙ e in cc)

    none_open : (key : ℕ) → IsOpen state.world.scopes key → ⊥
    none_open key h = by_stack (subst IsSome (world.scopes key) h)
      where
        by_stack : IsSome {T = Stack} None → ⊥
        by_stack e = absurd cc

-- the root alone in a new world is a run of one task in moment 0
pub state_begun : (k : Tables) (job : Job) (input : List ℕ) (state : RunState) (root : Task) → IsInRange job → StartsInNurseries job →
    GivesNamesOnce job → length input ≤ MAX_INPUT →
    IsNewWorld job state.world → IsRootTask job input root → state.task 0 ≡ Some root → ((p : ℕ) → state.task (suc p) ≡ None) →
    ((p : ℕ) → state.ended_task p ≡ None) → state.start 0 ≡ 0 →
    state.children 0 ≡ [] → state.turns ≡ 0 → state.path 0 ≡ 0 ∷ [] → state.through ≡ 0 → ((l : Label) → state.object l ≡ None) → state.round ≡ [] →
    ((p : ℕ) → state.granted p ≡ None) → ((object asker : Label) (u : ℕ) → state.grants object asker u ≡ None) → Refines k job input 0 1 None state
state_begun k job input state root in_range starting names small world r first others ended_task start children turns path through objects round granted grants =
    (state_begins k job input state root in_range starting names small world r first others ended_task start children turns path through objects round granted grants).is
