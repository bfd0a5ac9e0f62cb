-- What is recorded of grants, one after the other: at each place that of the last task that waits there.
use Rattle.std.proofs.Common.{◌≡◌, ◌≢◌, inl, inr, ℕ, suc, ◌+◌, ◌≤◌, Bool, true, false, ◌==◌, Option, Some, None, List, [], ◌∷◌, map, refl, ap, sym, ◌∙◌, subst, arith, if◌then◌else◌}
use Rattle.std.specs.Prelude.{IsSome}
use Rattle.std.specs.Option.{ForSome, option_map}
use Rattle.std.proofs.lemmas.Bool.{eq-eqb, eqb-true}
use Rattle.std.proofs.lemmas.Option.{none-some, same_Some}
use Rattle.exceptions.specs.Exceptions.{Label}
use Rattle.job_meaning.specs.GrantTable.{granted_of, is_asking}
use Rattle.job_meaning.specs.declared.grant_table.Granted.{Granted as Recorded}
use Rattle.objects.specs.Held.{Gets, gets_in, what_in, AreGivenOf, IsGrantOf}
use Rattle.objects.specs.Whats.{What}
use Rattle.objects.specs.declared.given.Given.{Given}
use Rattle.task_machine.specs.Serving.{queue_of}
use Rattle.task_machine.specs.Worlds.{label_at}
use Rattle.task_machine.specs.declared.world.World.{World}
use Rattle.task_table.proofs.Times.{one_if, one_same, times_cons}
use Rattle.task_table.specs.Rows.{times}
use Rattle.task_table.specs.TaskTable.{running_at}
use Rattle.task_table.specs.declared.task_table.Running.{Running}
use Rattle.task_table.specs.declared.task_table.TaskTable.{TaskTable}
use Rattle.turn_semantics.specs.Lists.{IsAmong}
use Rattle.job_runner.specs.Grants.{getter_of, queue_label, recorded_all, recorded_by, recorded_for}
use Rattle.job_runner.specs.Shared.{what_if, what_or}

-- ---- one of them

-- what is recorded of a task that waits for the limiter or channel of a label
pub recorded_is : (world : World) (o : Option Running) (g : Given) (key at : ℕ) (label task own : Label) → IsSome o →
    ForSome o (λ (x : Running). Some key ≡ queue_of x.task.task_state) → label_at world key ≡ Some label →
    ForSome o (λ (x : Running). own ≡ x.task.label) → task ≡ own → at ≡ suc world.tick → (object asker : Label) (u : ℕ) (before : Option Recorded) →
    recorded_by world o g object asker u before
    ≡ (if is_asking label task g.who.since object asker u then Some (record { at = at; grant = g.grant }) else before)
recorded_is world None g key at label task own some queued labelled is same moment object asker u before = absurd (let f : false ≡ true = some in cc)
recorded_is world (Some x) g key at label task own some queued labelled is same moment object asker u before =
    ap (λ (o : Option ℕ). recorded_for world.tick (queue_label world o) x.task.label g object asker u before) (sym (queued x refl))
    ∙ ap (λ (o : Option Label). recorded_for world.tick o x.task.label g object asker u before) labelled
    ∙ ap (λ (l : Label). recorded_for world.tick (Some label) l g object asker u before) (sym (same ∙ is x refl))
    ∙ ap (λ (n : ℕ). if is_asking label task g.who.since object asker u then Some (record { at = n; grant = g.grant }) else before) (sym moment)

-- ---- all of them

-- what is granted to the task of a row
abbrev pub found_row : ℕ → List Gets → Option What
found_row s [] = None
found_row s (g ∷ gs) = what_or (what_if (g.who.row == s) (Some g.what)) (found_row s gs)

pub found_among : (given : List Given) (g : Given) → IsAmong g given → found_row g.who.row (map gets_in given) ≢ None
found_among [] g i e = absurd i
found_among (x ∷ given) g (inl same) e =
    let here : (x.who.row == g.who.row) ≡ true = eq-eqb x.who.row g.who.row (ap (λ (y : Given). y.who.row) (sym same)) in
    none-some (what_in x.grant)
    (sym e ∙ ap (λ (b : Bool). what_or (what_if b (Some (what_in x.grant))) (found_row g.who.row (map gets_in given))) here)
found_among (x ∷ given) g (inr i) e = by_test (x.who.row == g.who.row) e (found_among given g i)
  where
    by_test : (b : Bool) → what_or (what_if b (Some (what_in x.grant))) (found_row g.who.row (map gets_in given)) ≡ None →
        (found_row g.who.row (map gets_in given) ≢ None) → ⊥
    by_test true f k = none-some (what_in x.grant) (sym f)
    by_test false f k = k f

module _ (table : TaskTable) (world : World) (object asker : Label) (u : ℕ) (test : ℕ → Bool) where
  abbrev one_recorded : Given → Option Recorded → Option Recorded
  one_recorded g before = recorded_by world (running_at table (getter_of table g)) g object asker u before

  -- what is recorded of each is what this test of its row tells
  abbrev pub Tells : Given → Type 0
  Tells g = (before : Option Recorded) →
      one_recorded g before ≡ (if test g.who.row then Some (record { at = suc world.tick; grant = g.grant }) else before)

  module _ (given : List Given) (tells : (g : Given) → IsAmong g given → Tells g) where
    passed : (g : Given) → IsAmong g given → test g.who.row ≡ false → (before : Option Recorded) → one_recorded g before ≡ before
    passed g i fails before =
        tells g i before ∙ ap (λ (b : Bool). if b then Some (record { at = suc world.tick; grant = g.grant }) else before) fails

    -- where none of them passes the test, what was recorded stays
    pub all_pass : (gs : List Given) → ((g : Given) → IsAmong g gs → IsAmong g given) → ((g : Given) → IsAmong g gs → test g.who.row ≡ false) →
        (before : Option Recorded) → recorded_all table world gs object asker u before ≡ before
    all_pass [] among fails before = refl
    all_pass (g ∷ gs) among fails before =
        ap (recorded_all table world gs object asker u) (passed g (among g (inl refl)) (fails g (inl refl)) before)
        ∙ all_pass gs (λ x i. among x (inr i)) (λ x i. fails x (inr i)) before

    -- where the task of one row alone passes it, what was granted to it is recorded
    module _ (p : ℕ) (own : test p ≡ true) (alone : (q : ℕ) → test q ≡ true → q ≡ p) (w : What) where
      fails_else : (q : ℕ) → q ≢ p → test q ≡ false
      fails_else q differs = by_test (test q) refl
        where
          by_test : (b : Bool) → test q ≡ b → test q ≡ false
          by_test true e = absurd (differs (alone q e))
          by_test false e = e

      absent : (gs : List Given) → times p (map (λ (g : Given). g.who.row) gs) ≡ 0 → (g : Given) → IsAmong g gs → g.who.row ≢ p
      absent [] none g i e = absurd i
      absent (x ∷ gs) none g i e = by_place i (λ less j. absent gs less g j e)
        where
          step : times p (x.who.row ∷ map (λ (y : Given). y.who.row) gs) ≡ one_if (x.who.row == p) + times p (map (λ (y : Given). y.who.row) gs)
          step = times_cons p x.who.row (map (λ (y : Given). y.who.row) gs)

          by_place : IsAmong g (x ∷ gs) → (times p (map (λ (y : Given). y.who.row) gs) ≡ 0 → IsAmong g gs → ⊥) → ⊥
          by_place (inl same) k =
              let one : one_if (x.who.row == p) ≡ 1 = one_same x.who.row p (ap (λ (y : Given). y.who.row) (sym same) ∙ e) in
              let s = step in let n : times p (x.who.row ∷ map (λ (y : Given). y.who.row) gs) ≡ 0 = none in omega (arith, one, s, n)
          by_place (inr j) k =
              k (let s = step in let n : times p (x.who.row ∷ map (λ (y : Given). y.who.row) gs) ≡ 0 = none in omega (arith, s, n)) j

      pub found_recorded : (gs : List Given) → ((g : Given) → IsAmong g gs → IsAmong g given) →
          times p (map (λ (g : Given). g.who.row) gs) ≤ 1 → found_row p (map gets_in gs) ≡ Some w → (before : Option Recorded) →
          option_map granted_of (recorded_all table world gs object asker u before) ≡ Some (record { at = suc world.tick; what = w })
      found_recorded [] among once found before = absurd (none-some w found)
      found_recorded (g ∷ gs) among once found before = by_row (g.who.row == p) refl found (found_recorded gs (λ x i. among x (inr i)))
        where
          step : times p (g.who.row ∷ map (λ (y : Given). y.who.row) gs) ≡ one_if (g.who.row == p) + times p (map (λ (y : Given). y.who.row) gs)
          step = times_cons p g.who.row (map (λ (y : Given). y.who.row) gs)

          Later : Type 0
          Later = times p (map (λ (y : Given). y.who.row) gs) ≤ 1 → found_row p (map gets_in gs) ≡ Some w → (was : Option Recorded) →
              option_map granted_of (recorded_all table world gs object asker u was) ≡ Some (record { at = suc world.tick; what = w })

          by_row : (b : Bool) → (g.who.row == p) ≡ b → what_or (what_if b (Some (what_in g.grant))) (found_row p (map gets_in gs)) ≡ Some w → Later →
              option_map granted_of (recorded_all table world (g ∷ gs) object asker u before) ≡ Some (record { at = suc world.tick; what = w })
          by_row true e f k =
              ap (λ (o : Option Recorded). option_map granted_of (recorded_all table world gs object asker u o)) here
              ∙ (ap (option_map granted_of)
              (all_pass gs (λ x i. among x (inr i)) (λ x i. fails_else x.who.row (absent gs none_left x i))
              (Some (record { at = suc world.tick; grant = g.grant })))
              ∙ ap (λ (x : What). Some (record { at = suc world.tick; what = x })) (same_Some (what_in g.grant) w f))
            where
              passes : test g.who.row ≡ true
              passes = ap test (eqb-true g.who.row p e) ∙ own

              here : one_recorded g before ≡ Some (record { at = suc world.tick; grant = g.grant })
              here =
                  tells g (among g (inl refl)) before
                  ∙ ap (λ (b : Bool). if b then Some (record { at = suc world.tick; grant = g.grant }) else before) passes

              none_left : times p (map (λ (y : Given). y.who.row) gs) ≡ 0
              none_left =
                  let one : one_if (g.who.row == p) ≡ 1 = ap one_if e in
                  let s = step in
                  let most : times p (g.who.row ∷ map (λ (y : Given). y.who.row) gs) ≤ 1 = once in omega (arith, one, s, most)
          by_row false e f k =
              ap (λ (o : Option Recorded). option_map granted_of (recorded_all table world gs object asker u o))
              (passed g (among g (inl refl)) (fails_else g.who.row differs) before)
              ∙ k fewer f before
            where
              differs : g.who.row ≢ p
              differs same = (let t : true ≡ false = sym (eq-eqb g.who.row p same) ∙ e in absurd (cc))

              fewer : times p (map (λ (y : Given). y.who.row) gs) ≤ 1
              fewer = let s = step in let most : times p (g.who.row ∷ map (λ (y : Given). y.who.row) gs) ≤ 1 = once in omega (arith, s, most)

-- ---- of which input it is

abbrev IsLent : List ℕ → Recorded → Type 0
IsLent input made = IsGrantOf input made.grant

one_lent : (input : List ℕ) (world : World) (o : Option Running) (g : Given) (object asker : Label) (u : ℕ) (before : Option Recorded) →
    IsGrantOf input g.grant → ForSome before (IsLent input) → ForSome (recorded_by world o g object asker u before) (IsLent input)
one_lent input world None g object asker u before of h made e = h made e
one_lent input world (Some x) g object asker u before of h made e = by_label (queue_label world (queue_of x.task.task_state)) made e
  where
    by_test : (b : Bool) → ForSome (if b then Some (record { at = suc world.tick; grant = g.grant }) else before) (IsLent input)
    by_test true made e = subst (IsLent input) (same_Some (record { at = suc world.tick; grant = g.grant }) made e) of
    by_test false made e = h made e

    by_label : (o : Option Label) → ForSome (recorded_for world.tick o x.task.label g object asker u before) (IsLent input)
    by_label None made e = h made e
    by_label (Some label) made e = by_test (is_asking label x.task.label g.who.since object asker u) made e

pub all_lent : (input : List ℕ) (table : TaskTable) (world : World) (given : List Given) (object asker : Label) (u : ℕ) (before : Option Recorded) →
    AreGivenOf input given → ForSome before (IsLent input) → ForSome (recorded_all table world given object asker u before) (IsLent input)
all_lent input table world [] object asker u before of h = h
all_lent input table world (g ∷ given) object asker u before of h =
    all_lent input table world given object asker u (recorded_by world (running_at table (getter_of table g)) g object asker u before) of.1
    (one_lent input world (running_at table (getter_of table g)) g object asker u before of.0 h)
