use Rattle.std.proofs.Common.{◌≡◌, ◌<◌, ◌≤◌, ◌+◌, ℕ, true, false, inl, inr, List, [], ◌∷◌, ◌++◌, refl, ap, sym, ◌∙◌, subst, arith}
use Rattle.std.specs.Prelude.{◌==◌, ◌⊎◌, ◌≢◌, All, IsSome}
use Rattle.std.proofs.lemmas.Bool.Decides.{eqb_tells}
use Rattle.std.proofs.lemmas.List.Elements.{All-nil, All-cons}
use Rattle.task_table.specs.declared.rows.TaskRow.{TaskRow}
use Rattle.task_table.specs.Rows.{times, times_child, ChildrenAreApart}
use Rattle.task_table.proofs.Times.{one_if}
use Rattle.layer_tests.proofs.task_tables.four_rows.Goals as goal

-- a number is one of at most two
one_of_two : (j k x : ℕ) → (j ≡ k → ⊥) → one_if (j == x) + one_if (k == x) ≤ 1
one_of_two j k x other = at (eqb_tells j x) (eqb_tells k x)
  where
    at : (((j == x) ≡ true) × (j ≡ x)) ⊎ (((j == x) ≡ false) × (j ≢ x)) → (((k == x) ≡ true) × (k ≡ x)) ⊎ (((k == x) ≡ false) × (k ≢ x)) →
        one_if (j == x) + one_if (k == x) ≤ 1
    at (inl h) (inl i) = absurd (other (h.1 ∙ sym i.1))
    at (inl h) (inr i) = let one : one_if (j == x) ≡ 1 = ap one_if h.0 in let none : one_if (k == x) ≡ 0 = ap one_if i.0 in omega arith
    at (inr h) (inl i) = let none : one_if (j == x) ≡ 0 = ap one_if h.0 in let one : one_if (k == x) ≡ 1 = ap one_if i.0 in omega arith
    at (inr h) (inr i) = let none : one_if (j == x) ≡ 0 = ap one_if h.0 in let neither : one_if (k == x) ≡ 0 = ap one_if i.0 in omega arith

-- a row of two children, one of which has a child
four_apart : (a b c d : TaskRow) → a.children.items ≡ 1 ∷ 2 ∷ [] → b.children.items ≡ 3 ∷ [] → c.children.items ≡ [] → d.children.items ≡ [] →
    ChildrenAreApart (a ∷ b ∷ c ∷ d ∷ [])
four_apart a b c d as_a as_b as_c as_d = record {
  root = omega arith;
  within = All-cons In a (b ∷ c ∷ d ∷ []) (subst (All P) (sym as_a)
      (All-cons P 1 (2 ∷ []) (omega arith, omega arith) (All-cons P 2 [] (omega arith, omega arith) (All-nil P))))
      (All-cons In b (c ∷ d ∷ []) (subst (All P) (sym as_b) (All-cons P 3 [] (omega arith, omega arith) (All-nil P)))
      (All-cons In c (d ∷ []) (subst (All P) (sym as_c) (All-nil P))
      (All-cons In d [] (subst (All P) (sym as_d) (All-nil P)) (All-nil In))));
  once = λ x.
      let all : times_child x (a ∷ b ∷ c ∷ d ∷ []) ≡ 0 + times x a.children.items + times x b.children.items + times x c.children.items
      + times x d.children.items = refl in
      let of_a : times x a.children.items ≡ 0 + one_if (1 == x) + one_if (2 == x) = ap (times x) as_a in
      let of_b : times x b.children.items ≡ 0 + one_if (3 == x) = ap (times x) as_b in
      let of_c : times x c.children.items ≡ 0 = ap (times x) as_c in
      let of_d : times x d.children.items ≡ 0 = ap (times x) as_d in
      let of_12 = one_of_two 1 2 x (λ e. absurd (omega (arith, e))) in
      let of_13 = one_of_two 1 3 x (λ e. absurd (omega (arith, e))) in
      let of_23 = one_of_two 2 3 x (λ e. absurd (omega (arith, e))) in
      omega arith;
}
  where
    P : ℕ → Type 0
    P k = (0 < k) × (k < 4)

    In : TaskRow → Type 0
    In r = All P r.children.items

-- rows that were pushed one after another
four_pushed : (before one two three after : List TaskRow) (a b c d : TaskRow) → before ≡ [] → one ≡ before ++ a ∷ [] → two ≡ one ++ b ∷ [] →
    three ≡ two ++ c ∷ [] → after ≡ three ++ d ∷ [] → after ≡ a ∷ b ∷ c ∷ d ∷ []
four_pushed _ _ _ _ _ a b c d none of_a of_b of_c of_d =
    of_d ∙ ap (λ (x : List TaskRow). x ++ d ∷ []) (of_c ∙ ap (λ (x : List TaskRow). x ++ c ∷ []) (of_b ∙ ap (λ (x : List TaskRow). x ++ b ∷ [])
    (of_a ∙ ap (λ (x : List TaskRow). x ++ a ∷ []) none)))

pub returns-clause-ended : goal.returns-clause-ended
returns-clause-ended c =
    let first = c.in_ok-push_ended.ensures in
    let second = c.in_ok-push_ended-2.ensures in
    let third = c.in_ok-push_ended-3.ensures in
    let fourth = c.in_ok-push_ended-4.ensures in
    let items = four_pushed _ _ _ _ _ first.0 second.0 third.0 fourth.0 c.new-rows.ensures.items first.1 second.1 third.1 fourth.1 in
    subst (All Ends) (sym items) (All-cons Ends first.0 (second.0 ∷ third.0 ∷ fourth.0 ∷ []) first.3
    (All-cons Ends second.0 (third.0 ∷ fourth.0 ∷ []) second.3 (All-cons Ends third.0 (fourth.0 ∷ []) third.3
    (All-cons Ends fourth.0 [] fourth.3 (All-nil Ends)))))
  where
    Ends : TaskRow → Type 0
    Ends r = IsSome r.end

pub returns-clause-tree : goal.returns-clause-tree
returns-clause-tree c =
    let first = c.in_ok-push_ended.ensures in
    let second = c.in_ok-push_ended-2.ensures in
    let third = c.in_ok-push_ended-3.ensures in
    let fourth = c.in_ok-push_ended-4.ensures in
    let items = four_pushed _ _ _ _ _ first.0 second.0 third.0 fourth.0 c.new-rows.ensures.items first.1 second.1 third.1 fourth.1 in
    subst ChildrenAreApart (sym items) (four_apart _ _ _ _ first.2 second.2 third.2 fourth.2)
