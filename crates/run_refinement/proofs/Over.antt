-- All tasks of the program have ended: what is kept of them is what the job means.
use Rattle.std.proofs.Common.{◌≡◌, ◌⊎◌, inl, inr, ℕ, suc, ◌<◌, ◌≤◌, false, Option, Some, None, List, [], ◌∷◌, map, refl, ap, sym, ◌∙◌, subst, arith}
use Rattle.turn_semantics.specs.Lists.{Each, IsAmong}
use Rattle.exceptions.specs.Exceptions.{Exc}
use Rattle.job_tree.specs.Tree.{Tree as Job}
use Rattle.job_tree.specs.Names.{GivesNamesOnce}
use Rattle.job_tree.specs.Starting.{StartsInNurseries}
use Rattle.job_meaning.specs.Log.{Table}
use Rattle.job_meaning.specs.Moments.{clock_of, tick_of, a_round_after}
use Rattle.job_meaning.specs.declared.clock.Clock.{Clock}
use Rattle.job_meaning.specs.Walk.{Here}
use Rattle.job_meaning.specs.Meaning.{root_label, root_here, meaning_records, meaning_cancelled_from, meaning_end, cancelled_from_by}
use Rattle.job_meaning.specs.Sharing.{Done, granted_before}
use Rattle.job_meaning.proofs.Settled.{table_is_settled}
use Rattle.job_meaning.specs.Shown.{Shown, as_shown, shown_at}
use Rattle.job_meaning.specs.Rest.{Event, noted, signs, enters, acts, starts, Stopped, to_begin, asking, asleep, waiting_for, giving_up, awaiting, at_end, queued}
use Rattle.turn_semantics.specs.Midway.{Tables, Begun}
use Rattle.task_machine.specs.Noted.{shown_made}
use Rattle.interleavings.specs.Interleaving.{Started, live}
use Rattle.interleavings.specs.Acts.{InOrder, acts_of_all, granted_so_far}
use Rattle.interleavings.specs.Going.{root_task, task_after_turn, children_from}
use Rattle.interleavings.specs.Rows.{Row, entries_made, entered_made, children_made, StartsRows, HasRow, records_by, cancelled_from_in, DepthFirst}
use Rattle.interleavings.specs.Runs.{Reached, begun, turn, jump}
use Rattle.interleavings.proofs.GrantsKnown.{all_granted}
use Rattle.interleavings.proofs.Ordering.{orders_exist}
use Rattle.interleavings.proofs.Picking.{front_same}
use Rattle.interleavings.proofs.Readings.{in_either}
use Rattle.interleavings.proofs.Running.{runs_are_the_meaning}
use Rattle.run_refinement.specs.RunState.{RunState, EndedTask, HasEnded, AreStarted, Refines}
use Rattle.run_refinement.specs.Over.{ShowsRow, IsOver}
use Rattle.interleavings.specs.Laws.{IsSettledBy, meaning_tables}
use Rattle.run_refinement.specs.Laws.{GrantsAreTheMeaning}
use Rattle.run_refinement.proofs.DoneLists.{each_weaker, known_soon}
use Rattle.run_refinement.proofs.Orders.{taken_in}
use Rattle.run_refinement.proofs.RunFacts.{DoneBy, all_by, all_acts_by}

-- ---- the root stays where it began

children_later : (k : Tables) (t m : ℕ) (bs : List Begun) (x : Started) → IsAmong x (children_from k t m bs) → m ≤ x.serial
unfolding children_from
children_later k t m [] x i = absurd i
children_later k t m (b ∷ bs) x (inl e) = let f = ap (λ (y : Started). y.serial) e in omega (arith, f)
children_later k t m (b ∷ bs) x (inr i) = let h = children_later k t (suc m) bs x i in omega (arith, h)

-- the first task is the root of the job
abbrev RootStays : Job → List ℕ → ℕ → List Started → Type 0
RootStays job input m qs = (0 < m) × ((x : Started) → IsAmong x qs → x.serial ≡ 0 → x.here ≡ root_here job input)

root_stays : (k : Tables) (job : Job) (input : List ℕ) (f : Table) (t m : ℕ) (qs : List Started) → Reached k job input f t m qs →
    RootStays job input m qs
root_stays k job input _ _ _ _ (begun f) = (omega arith, by_in)
  where
    by_in : (x : Started) → IsAmong x (root_task k job input ∷ []) → x.serial ≡ 0 → x.here ≡ root_here job input
    by_in x (inl e) z = ap (λ (y : Started). y.here) e
    by_in x (inr i) z = absurd i
root_stays k job input _ _ _ _ (turn f now m q qs others wake o s r front may goes stopped) =
    let inner = root_stays k job input f now.at m qs r in (
      let some = inner.0 in omega (arith, some),
      λ x i z. by_part inner x z
          (in_either x (task_after_turn k now m q o s ∷ children_from k (a_round_after q.here.clock now.at) m o.begun) others i),
    )
  where
    by_part : RootStays job input m qs → (x : Started) → x.serial ≡ 0 → IsAmong x (task_after_turn k now m q o s ∷ children_from k
        (a_round_after q.here.clock now.at) m o.begun)
        ⊎ IsAmong x others → x.here ≡ root_here job input
    by_part inner x z (inl (inl e)) =
        ap (λ (y : Started). y.here) e ∙ inner.1 q ((front_same q qs others front).back q (inl refl))
        (sym (ap (λ (y : Started). y.serial) e) ∙ z)
    by_part inner x z (inl (inr j)) = absurd (let h = children_later k (a_round_after q.here.clock now.at) m o.begun x j in let some =
        inner.0 in omega (arith, h, some, z))
    by_part inner x z (inr j) = inner.1 x ((front_same q qs others front).back x (inr j)) z
root_stays k job input _ _ _ _ (jump f t u m qs r le blocked) = root_stays k job input f t m qs r

-- ---- rows

abbrev end_at : Stopped → ℕ
end_at to_begin = 0
end_at (asking kernel purpose) = 0
end_at (asleep paced n since) = 0
end_at (waiting_for event since) = 0
end_at (queued object ask since body) = 0
end_at (giving_up since) = 0
end_at (awaiting children ended exc) = 0
end_at (at_end u e) = u

abbrev exc_at : Stopped → Option Exc
exc_at to_begin = None
exc_at (asking kernel purpose) = None
exc_at (asleep paced n since) = None
exc_at (waiting_for event since) = None
exc_at (queued object ask since body) = None
exc_at (giving_up since) = None
exc_at (awaiting children ended exc) = None
exc_at (at_end u e) = e

-- the row of a task that was started in this tick
abbrev row_at : Clock → Table → ℕ → Started → Row
row_at clock f start q =
    record {
      label = q.here.task;
      start = start;
      end = tick_of clock (end_at q.rest.stopped);
      exc = exc_at q.rest.stopped;
      entries = entries_made clock q.made;
      cancelled_from = cancelled_from_by f (entered_made q.made);
      children = children_made q.child q.made;
    }

shown_entries : (clock : Clock) (input : List ℕ) (es : List Event) →
    shown_made clock input es ≡ map (as_shown input) (entries_made clock es)
shown_entries clock input [] = refl
shown_entries clock input (noted t e ∷ es) = ap (λ (xs : List Shown). shown_at input (tick_of clock t) e ∷ xs)
    (shown_entries clock input es)
shown_entries clock input (signs l t ∷ es) = shown_entries clock input es
shown_entries clock input (acts shared t done ∷ es) = shown_entries clock input es
shown_entries clock input (enters l t d ∷ es) = shown_entries clock input es
shown_entries clock input (starts i l t ∷ es) = shown_entries clock input es

rows_started : (clock : Clock) (f : Table) (start : ℕ → ℕ) (at : ℕ → Started) (child : ℕ → ℕ) (es : List Event) →
    AreStarted clock start at child es → StartsRows clock (λ p. row_at clock f (start p) (at p)) child es
rows_started clock f start at child [] h = tt
rows_started clock f start at child (noted t e ∷ es) h = rows_started clock f start at child es h
rows_started clock f start at child (acts shared t done ∷ es) h = rows_started clock f start at child es h
rows_started clock f start at child (signs l t ∷ es) h = rows_started clock f start at child es h
rows_started clock f start at child (enters l t d ∷ es) h = rows_started clock f start at child es h
rows_started clock f start at child (starts i l t ∷ es) h = ((h.0, h.1), rows_started clock f start at child es h.2)

ended_row : (s : Stopped) (u : ℕ) (e : Option Exc) → s ≡ at_end u e → s ≡ at_end u (exc_at s)
ended_row s u e h = subst (λ (x : Stopped). x ≡ at_end u (exc_at x)) (sym h) refl

-- if every task of the program has ended, what is kept of them is what the job means
pub state_over : (job : Job) (input : List ℕ) → GivesNamesOnce job → StartsInNurseries job → (t m : ℕ) (state : RunState) →
    Refines (meaning_tables job input) job input t m None state →
    ((p : ℕ) → state.task p ≡ None) → IsOver job input m state
state_over job input names starting t m state c none =
    record {
      rows = rows;
      shows = shows;
      records = λ taken d. (means taken d).0;
      cancelled_from = λ taken d. (means taken d).1;
      end = λ taken d. (means taken d).2;
    }
  where
    k : Tables
    k = meaning_tables job input

    f : Table
    f = c.interleaving.cancelled_from

    clock : Clock
    clock = clock_of job.format

    rows : ℕ → Row
    rows p = row_at clock f (state.start p) (c.interleaving.at p)

    ended_task_at : (p : ℕ) → p < m → (g : EndedTask) × (state.ended_task p ≡ Some g) × HasEnded clock f input t (c.interleaving.at p) g
    ended_task_at p lt = let g = c.ended p lt (none p) in
        (g.0, g.1, subst (λ (x : Clock). HasEnded x f input t (c.interleaving.at p) g.0) c.clock g.2)

    shows : (p : ℕ) → p < m → ShowsRow input state p (rows p)
    shows p lt =
        record {
          ended_task = g.0;
          is = g.1;
          label = g.2.label;
          start = refl;
          end = g.2.tick ∙ ap (tick_of clock) (sym (ap end_at g.2.stopped));
          exc = sym (ap exc_at g.2.stopped);
          entries = g.2.notes.shown ∙ shown_entries clock input (c.interleaving.at p).made;
          slices = g.2.notes.slices;
          cancelled_from = g.2.cancelled_from;
          children = c.children p lt;
        }
      where
        g : (g : EndedTask) × (state.ended_task p ≡ Some g) × HasEnded clock f input t (c.interleaving.at p) g
        g = ended_task_at p lt

    row_of_at : (p : ℕ) → p < m → HasRow clock f rows (c.interleaving.at p)
    row_of_at p lt =
        record {
          end = g.2.end;
          ended = ended_row (c.interleaving.at p).rest.stopped g.2.end g.0.exc g.2.stopped ∙ ap (λ (r : Row). at_end g.2.end r.exc) is;
          tick = ap (λ (r : Row). r.end) (sym is) ∙ ap (λ (s : Stopped). tick_of clock (end_at s)) g.2.stopped;
          entries = ap (λ (r : Row). r.entries) (sym is);
          cancelled_from = ap (λ (r : Row). r.cancelled_from) (sym is);
          children = ap (λ (r : Row). r.children) (sym is);
          starts =
              rows_started clock f state.start c.interleaving.at (c.interleaving.at p).child (c.interleaving.at p).made
              (subst (λ (x : Clock). AreStarted x state.start c.interleaving.at (c.interleaving.at p).child (c.interleaving.at p).made)
              c.clock
              (c.started p lt));
        }
      where
        is : rows p ≡ rows (c.interleaving.at p).serial
        is = ap rows (sym (c.interleaving.has p lt).1)

        g : (g : EndedTask) × (state.ended_task p ≡ Some g) × HasEnded clock f input t (c.interleaving.at p) g
        g = ended_task_at p lt

    has_row : (q : Started) → IsAmong q c.interleaving.tasks → HasRow clock f rows q
    has_row q i = let h = c.interleaving.one q i in subst (HasRow clock f rows) (sym h.0) (row_of_at q.serial h.1)

    label : (rows 0).label ≡ root_label job.name
    label =
        let at = c.interleaving.has 0 c.some in
        ap (λ (h : Here). h.task) ((root_stays k job input f t m c.interleaving.tasks c.interleaving.reached).1 (c.interleaving.at 0) at.0 at.1)

    means : (taken : List ℕ) → DepthFirst rows (0 ∷ []) taken →
        (records_by rows taken ≡ meaning_records job input) × (cancelled_from_in rows taken ≡ meaning_cancelled_from job input)
        × ((rows 0).end ≡ meaning_end job input)
    means taken d = runs_are_the_meaning job input names c.in_range c.small starting f t m c.interleaving.tasks c.interleaving.reached rows has_row label c.begun taken d

-- and what was granted is what the limiters and channels of the job grant
pub state_granted : GrantsAreTheMeaning
state_granted job input names starting t m state c served over object asker u =
    subst (λ (v : ℕ). state.grants object asker u ≡ granted_before (suc v) (granted_so_far order.0 object asker u)) served
    (c.shares.grants order.0 order.1 object asker u)
    ∙ (known_soon t (suc (suc t)) asker u (acts_of_all object order.0) dones (omega arith)
    ∙ sym (all_granted (meaning_tables job input) job input names starting settled f t m qs c.interleaving.reached ended order.0 order.1 object asker u))
  where
    f : Table
    f = c.interleaving.cancelled_from

    qs : List Started
    qs = c.interleaving.tasks

    settled : IsSettledBy (meaning_tables job input) job input
    settled = table_is_settled job input names c.in_range c.small

    order : (taken : List Started) × InOrder qs (0 ∷ []) taken
    order = orders_exist (meaning_tables job input) job input names starting settled f t m qs c.interleaving.reached

    dones : Each (λ (d : Done). d.at ≤ t) (acts_of_all object order.0)
    dones =
        each_weaker (DoneBy t) (λ (d : Done). d.at ≤ t) (acts_of_all object order.0) (λ d h. h.0)
        (all_acts_by (meaning_tables job input) t object order.0
        (λ q i. all_by (meaning_tables job input) job input settled names starting f t m qs c.interleaving.reached q
        (taken_in qs (0 ∷ []) order.0 order.1 q i)))

    ended : (q : Started) → IsAmong q qs → live q.rest.stopped ≡ false
    ended q i =
        let h = c.interleaving.one q i in
        ap (λ (y : Started). live y.rest.stopped) h.0 ∙ ap live (c.ended q.serial h.1 (over q.serial)).2.stopped
