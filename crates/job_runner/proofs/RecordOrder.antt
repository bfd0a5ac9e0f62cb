-- Acts in the order of records: a stable sort by the rows from the root's to that of the task puts them into it.
use Rattle.std.proofs.Common.{◌≡◌, ◌≢◌, inl, inr, ℕ, zero, suc, ◌+◌, ◌<◌, ◌≤◌, Bool, true, false, ◌&&◌, ◌||◌, ◌==◌, not, nat_lt, cond, List, [], ◌∷◌, ◌++◌, map, refl, ap, sym, ◌∙◌, subst, arith}
use Rattle.std.specs.Prelude.{◌⊎◌, All, slice_index_or}
use Rattle.std.specs.List.{filter}
use Rattle.std.specs.List.Sorted.{ties, IsPermutation, IsSortedBy, IsStableBy}
use Rattle.std.specs.Cmp.{IsStrictWeakOrder}
use Rattle.std.specs.Cmp.Lexicographic.{slice_cmp}
use Rattle.std.specs.FinMap.{nat_cmp-IsAntisymmetric, slice_cmp-IsAntisymmetric}
use Rattle.std.specs.Ordering.{is_lt, nat_cmp, ordering_reverse, ordering_then}
use Rattle.std.specs.declared.cmp.Ordering.{Ordering}
use Rattle.std.specs.declared.cmp.Ordering.TheVariants.{Less, Equal, Greater}
use Rattle.std.proofs.lemmas.Bool.{cases_eq, cases_lt, eq-eqb, eqb-true}
use Rattle.std.proofs.lemmas.Bool.Decides.{nat_tests}
use Rattle.std.proofs.lemmas.Cmp.{nat_list_cmp_total}
use Rattle.std.proofs.lemmas.List.{append_assoc, map-append}
use Rattle.std.proofs.lemmas.List.Elements.{All-cons, All-head, All-map, All-nil, All-push, All-tail, All-weaker}
use Rattle.std.proofs.lemmas.List.MinMax.{ranks_by}
use Rattle.std.proofs.lemmas.List.Sorted.{All-permutation}
use Rattle.run_refinement.specs.Sharing.{RoundAct as round_act, precedes, PrecedesAll, AreSorted, acts_by}
use Rattle.task_table.specs.TaskTable.{parent_of, path_by, path_of}
use Rattle.task_table.specs.declared.task_table.TaskTable.{TaskTable}
use Rattle.job_runner.specs.declared.serving.PlacedAct.{PlacedAct}
use Rattle.job_runner.specs.declared.serving.RoundAct.{RoundAct}
use Rattle.job_runner.specs.Serving.{act_of_placed, AreOrdered}
use Rattle.job_runner.specs.Shared.{round_act_of}
use Rattle.job_runner.specs.Shelves.{IsActOf}
use Rattle.job_runner.proofs.Filters.{all_of_map, filter_as, none_left, none_pass, one_passes}

-- ---- two lists of rows

abbrev is_less : List ℕ → List ℕ → Bool
is_less xs ys = is_lt (slice_cmp nat_cmp xs ys)

-- one that is not after another precedes it
not_after : (xs ys : List ℕ) → is_less ys xs ≡ false → precedes xs ys ≡ true
not_after [] ys e = refl
not_after (x ∷ xs) [] e = absurd (let f : true ≡ false = e in cc)
not_after (x ∷ xs) (y ∷ ys) e = by_order (cases_lt x y) (not_after xs ys)
  where
    at : (b c : Bool) → nat_lt y x ≡ b → (y == x) ≡ c → is_lt (ordering_then (cond b Less (cond c Equal Greater)) (slice_cmp nat_cmp ys xs)) ≡ false
    at b c f g =
        ap (λ (d : Bool). is_lt (ordering_then (cond d Less (cond c Equal Greater)) (slice_cmp nat_cmp ys xs))) (sym f)
        ∙ (ap (λ (d : Bool). is_lt (ordering_then (cond (nat_lt y x) Less (cond d Equal Greater)) (slice_cmp nat_cmp ys xs))) (sym g) ∙ e)

    later : (x ≡ y) ⊎ (x ≢ y) → y ≤ x → (is_less ys xs ≡ false → precedes xs ys ≡ true) → precedes (x ∷ xs) (y ∷ ys) ≡ true
    later (inl same) le more =
        let less : nat_lt y x ≡ false = grind (arith, nat_tests) in
        let less_too : nat_lt x y ≡ false = grind (arith, nat_tests) in
        ap (λ (b : Bool). b || (x == y && precedes xs ys)) less_too
        ∙ (ap (λ (b : Bool). b && precedes xs ys) (eq-eqb x y same)
        ∙ more (at false true less (eq-eqb y x (sym same))))
    later (inr differs) le more =
        absurd (let less : nat_lt y x ≡ true = (let lt : y < x = lesser in grind (arith, nat_tests)) in
        let f : true ≡ false = at true (y == x) less refl in cc)
      where
        lesser : y < x
        lesser = elim (cases_lt y x) [
          | inl lt ↦ lt
          | inr more ↦ absurd (differs (omega (arith, le, more)))
        ]

    by_order : (x < y) ⊎ (y ≤ x) → (is_less ys xs ≡ false → precedes xs ys ≡ true) → precedes (x ∷ xs) (y ∷ ys) ≡ true
    by_order (inl lt) more =
        ap (λ (b : Bool). b || (x == y && precedes xs ys)) (let less : nat_lt x y ≡ true = grind (arith, nat_tests) in less)
    by_order (inr le) more = later (cases_eq x y) le more

-- two of which none is after the other are the same
same_lists : (xs ys : List ℕ) → is_less xs ys ≡ false → is_less ys xs ≡ false → xs ≡ ys
same_lists xs ys e f =
    slice_cmp-IsAntisymmetric nat_cmp-IsAntisymmetric xs ys
    (neither (slice_cmp nat_cmp xs ys) (slice_cmp nat_cmp ys xs) (nat_list_cmp_total.antisymm xs ys) e f)
  where
    neither : (r s : Ordering) → r ≡ ordering_reverse s → is_lt r ≡ false → is_lt s ≡ false → r ≡ Equal
    neither Less s h e f = absurd (let g : true ≡ false = e in cc)
    neither Equal s h e f = refl
    neither Greater Less h e f = absurd (let g : true ≡ false = f in cc)
    neither Greater Equal h e f = h
    neither Greater Greater h e f = absurd (let g : Greater ≡ Less = h in let k : false ≡ true = ap is_lt g in cc)

-- and a list is not after itself
not_itself : (xs : List ℕ) → is_less xs xs ≡ false
not_itself xs = by_test (is_less xs xs) refl
  where
    by_test : (b : Bool) → is_less xs xs ≡ b → is_less xs xs ≡ false
    by_test false e = e
    by_test true e = (ranks_by nat_list_cmp_total (λ (zs : List ℕ). zs)).one_way xs xs e

-- ---- the rows from the root's to one

-- the last element
abbrev end_of : ℕ → List ℕ → ℕ
end_of d [] = d
end_of d (x ∷ xs) = end_of x xs

end_append : (d p : ℕ) (xs : List ℕ) → end_of d (xs ++ p ∷ []) ≡ p
end_append d p [] = refl
end_append d p (x ∷ xs) = end_append x p xs

end_of_path : (n : ℕ) (parent : ℕ → ℕ) (p : ℕ) → end_of 0 (path_by n parent p) ≡ p
end_of_path zero parent p = refl
end_of_path (suc n) parent zero = refl
end_of_path (suc n) parent (suc p) = end_append 0 (suc p) (path_by n parent (parent (suc p)))

-- they end with it, so another row has others
path_apart : (table : TaskTable) (p q : ℕ) → path_of table p ≡ path_of table q → p ≡ q
path_apart table p q e =
    sym (end_of_path p (parent_of table) p) ∙ (ap (end_of 0) e ∙ end_of_path q (parent_of table) q)

-- ---- acts that were sorted

abbrev act_at : PlacedAct → round_act
act_at p = round_act_of p.act

abbrev pub comes_before : PlacedAct → PlacedAct → Bool
comes_before x y = is_less x.path.items y.path.items

ranked : IsStrictWeakOrder comes_before
ranked = ranks_by nat_list_cmp_total (λ (p : PlacedAct). p.path.items)

module _ (table : TaskTable) where
  abbrev IsPlaced : PlacedAct → Type 0
  IsPlaced p = p.path.items ≡ path_of table p.act.row

  -- those that tie are of one task
  ties_by_row : (x y : PlacedAct) → IsPlaced x → IsPlaced y → (y.act.row == x.act.row) ≡ ties comes_before x y
  ties_by_row x y e f = by_row (y.act.row == x.act.row) refl
    where
      by_row : (b : Bool) → (y.act.row == x.act.row) ≡ b → b ≡ ties comes_before x y
      by_row true g =
          let paths : x.path.items ≡ y.path.items = e ∙ (ap (path_of table) (sym (eqb-true y.act.row x.act.row g)) ∙ sym f) in
          sym (ap (λ (b : Bool). not b && not (comes_before y x)) (ap (is_less x.path.items) (sym paths) ∙ not_itself x.path.items)
          ∙ ap not (ap (λ (zs : List ℕ). is_less zs x.path.items) (sym paths) ∙ not_itself x.path.items))
      by_row false g = by_tests (comes_before x y) (comes_before y x) refl refl
        where
          by_tests : (b c : Bool) → comes_before x y ≡ b → comes_before y x ≡ c → false ≡ not b && not c
          by_tests true c h k = refl
          by_tests false true h k = refl
          by_tests false false h k =
              absurd (let paths : x.path.items ≡ y.path.items = same_lists x.path.items y.path.items h k in
              let rows : x.act.row ≡ y.act.row = path_apart table x.act.row y.act.row (sym e ∙ (paths ∙ f)) in
              let t : true ≡ false = sym (eq-eqb y.act.row x.act.row (sym rows)) ∙ g in cc)

  acts_by_rows : (s : ℕ) (xs : List PlacedAct) →
      acts_by s (map round_act_of (map act_of_placed xs)) ≡ map act_at (filter (λ (p : PlacedAct). p.act.row == s) xs)
  acts_by_rows s [] = refl
  acts_by_rows s (x ∷ xs) = by_test (x.act.row == s) (acts_by_rows s xs)
    where
      by_test : (b : Bool) → acts_by s (map round_act_of (map act_of_placed xs)) ≡ map act_at (filter (λ (p : PlacedAct). p.act.row == s) xs) →
          cond b (act_at x ∷ acts_by s (map round_act_of (map act_of_placed xs))) (acts_by s (map round_act_of (map act_of_placed xs)))
          ≡ map act_at (cond b (x ∷ filter (λ (p : PlacedAct). p.act.row == s) xs) (filter (λ (p : PlacedAct). p.act.row == s) xs))
      by_test true h = ap (λ (ys : List round_act). act_at x ∷ ys) h
      by_test false h = h

  module _ (xs ys : List PlacedAct) (placed : All IsPlaced xs) (moved : IsPermutation xs ys) where
    placed_too : All IsPlaced ys
    placed_too = All-permutation IsPlaced xs ys moved placed

    -- those of a task keep their order
    rows_stay : IsStableBy comes_before xs ys → (s : ℕ) → filter (λ (p : PlacedAct). p.act.row == s) ys ≡ filter (λ (p : PlacedAct). p.act.row == s) xs
    rows_stay stable s = by_found (filter of_row xs) refl
      where
        of_row : PlacedAct → Bool
        of_row p = p.act.row == s

        as_ties : (x : PlacedAct) → IsPlaced x → of_row x ≡ true → (zs : List PlacedAct) → All IsPlaced zs → filter of_row zs ≡ filter (ties comes_before x) zs
        as_ties x e f zs all =
            filter_as of_row (ties comes_before x) zs
            (All-weaker IsPlaced (λ (y : PlacedAct). of_row y ≡ ties comes_before x y)
            (λ y g. ap (λ (n : ℕ). y.act.row == n) (sym (eqb-true x.act.row s f)) ∙ ties_by_row x y e g) zs all)

        by_found : (l : List PlacedAct) → filter of_row xs ≡ l → filter of_row ys ≡ filter of_row xs
        by_found [] e =
            none_left of_row ys (All-permutation (λ (p : PlacedAct). of_row p ≡ false) xs ys moved (none_pass of_row xs e)) ∙ sym e
        by_found (z ∷ zs) e =
            let x = one_passes IsPlaced of_row xs zs z placed e in
            as_ties x.0 x.1 x.2 ys placed_too ∙ (stable x.0 ∙ sym (as_ties x.0 x.1 x.2 xs placed))

    same_acts : IsStableBy comes_before xs ys → (s : ℕ) →
        acts_by s (map round_act_of (map act_of_placed ys)) ≡ acts_by s (map round_act_of (map act_of_placed xs))
    same_acts stable s =
        acts_by_rows s ys ∙ (ap (map act_at) (rows_stay stable s) ∙ sym (acts_by_rows s xs))

    -- and each precedes those after it
    abbrev Rises : PlacedAct → List PlacedAct → Type 0
    Rises x zs = All (λ (z : PlacedAct). comes_before z x ≡ false) zs

    next : (x z : PlacedAct) (zs : List PlacedAct) → IsSortedBy comes_before (x ∷ z ∷ zs) → IsSortedBy comes_before (z ∷ zs)
    next x z zs up k d from less =
        let h = up (k + 1) d (omega arith) (omega (arith, less)) in
        let one : k + 1 ≡ suc k = omega arith in
        let two : k + 1 + 1 ≡ suc (k + 1) = omega arith in
        subst (λ (n : ℕ). comes_before (slice_index_or (z ∷ zs) (k + 1) d) (slice_index_or (x ∷ z ∷ zs) n d) ≡ false) one
        (subst (λ (m : ℕ). comes_before (slice_index_or (x ∷ z ∷ zs) m d) (slice_index_or (x ∷ z ∷ zs) (k + 1) d) ≡ false) two h)

    rises : (x : PlacedAct) (zs : List PlacedAct) → IsSortedBy comes_before (x ∷ zs) → Rises x zs
    rises x [] up = All-nil (λ (z : PlacedAct). comes_before z x ≡ false)
    rises x (z ∷ zs) up =
        let first : comes_before z x ≡ false = up 0 x (omega arith) (omega arith) in
        All-cons (λ (y : PlacedAct). comes_before y x ≡ false) z zs first
        (All-weaker (λ (y : PlacedAct). comes_before y z ≡ false) (λ (y : PlacedAct). comes_before y x ≡ false)
        (λ y h. ranked.chain y z x h first) zs (rises z zs (next x z zs up)))

    precedes_all : (x : PlacedAct) (zs : List PlacedAct) → IsPlaced x → All IsPlaced zs → Rises x zs →
        PrecedesAll (path_of table) (act_at x) (map round_act_of (map act_of_placed zs))
    precedes_all x [] e all up = tt
    precedes_all x (z ∷ zs) e all up = (
      ap (λ (ws : List ℕ). precedes ws (path_of table z.act.row)) (sym e)
          ∙ (ap (precedes x.path.items) (sym (All-head IsPlaced z zs all))
          ∙ not_after x.path.items z.path.items (All-head (λ (y : PlacedAct). comes_before y x ≡ false) z zs up)),
      precedes_all x zs e (All-tail IsPlaced z zs all) (All-tail (λ (y : PlacedAct). comes_before y x ≡ false) z zs up),
    )

    up_rest : (z : PlacedAct) (ws : List PlacedAct) → IsSortedBy comes_before (z ∷ ws) → IsSortedBy comes_before ws
    up_rest z [] up = λ k d from less. absurd (omega (arith, less))
    up_rest z (w ∷ ws) up = next z w ws up

    sorted_acts : (zs : List PlacedAct) → All IsPlaced zs → IsSortedBy comes_before zs →
        AreSorted (path_of table) (map round_act_of (map act_of_placed zs))
    sorted_acts [] all up = tt
    sorted_acts (z ∷ zs) all up = (
      precedes_all z zs (All-head IsPlaced z zs all) (All-tail IsPlaced z zs all) (rises z zs up),
      sorted_acts zs (All-tail IsPlaced z zs all) (up_rest z zs up),
    )

    -- so they are in the order of records
    pub in_order : {round : List RoundAct} (Compares : (PlacedAct → PlacedAct → Bool) → Type 0) → map act_of_placed xs ≡ round →
        ((lt : PlacedAct → PlacedAct → Bool) → IsStrictWeakOrder lt → Compares lt → IsSortedBy lt ys) →
        ((lt : PlacedAct → PlacedAct → Bool) → IsStrictWeakOrder lt → Compares lt → IsStableBy lt xs ys) → Compares comes_before →
        AreOrdered table round ys
    in_order Compares e up stable compares =
        subst (λ (round : List RoundAct). AreOrdered table round ys) e
        (record { same = same_acts (stable comes_before ranked compares); sorted = sorted_acts ys placed_too (up comes_before ranked compares) })

    -- with the parts that they had
    pub order_lent : {round : List RoundAct} → map act_of_placed xs ≡ round → (input : List ℕ) → All (IsActOf input) round →
        All (IsActOf input) (map act_of_placed ys)
    order_lent e input all =
        All-map (IsActOf input) act_of_placed ys
        (All-permutation (λ (p : PlacedAct). IsActOf input p.act) xs ys moved (all_of_map (IsActOf input) act_of_placed xs (subst (All (IsActOf input)) (sym e) all)))

-- ---- acts that get their places

-- those placed so far, and those that are left
pub record ArePlacing (table : TaskTable) (round left : List RoundAct) (placed : List PlacedAct) : Type 0 where
  pub acts : map act_of_placed placed ++ left ≡ round
  pub paths : All (IsPlaced table) placed

pub placing_next : {table : TaskTable} {round left rest : List RoundAct} {placed more : List PlacedAct} (act : RoundAct) (p : PlacedAct) →
    ArePlacing table round left placed → left ≡ act ∷ rest → p.act ≡ act → p.path.items ≡ path_of table act.row → more ≡ placed ++ p ∷ [] →
    ArePlacing table round rest more
placing_next {table} {round} {left} {rest} {placed} {more} act p h e is path pushed =
    record {
      acts =
          ap (λ (ps : List PlacedAct). map act_of_placed ps ++ rest) pushed
          ∙ (ap (λ (xs : List RoundAct). xs ++ rest) (map-append act_of_placed placed (p ∷ []))
          ∙ (append_assoc (map act_of_placed placed) (p.act ∷ []) rest
          ∙ (ap (λ (a : RoundAct). map act_of_placed placed ++ a ∷ rest) is
          ∙ (ap (λ (xs : List RoundAct). map act_of_placed placed ++ xs) (sym e) ∙ h.acts))));
      paths = rw pushed (All-push (IsPlaced table) placed p h.paths (path ∙ ap (λ (a : RoundAct). path_of table a.row) (sym is)));
    }
