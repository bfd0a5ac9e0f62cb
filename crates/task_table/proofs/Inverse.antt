-- Two maps of numbers that are inverse to each other.
use Rattle.std.proofs.Common.{◌≡◌, ◌≢◌, ℕ, inl, inr, Option, Some, None, ap, sym, ◌∙◌}
use Rattle.std.proofs.lemmas.Bool.{cases_eq}
use Rattle.std.proofs.lemmas.Option.{same_Some, none-some}
use Rattle.task_table.proofs.Lists.{Changes}

-- where each of them has a value, the other one leads back
pub record AreInverse (f g : ℕ → Option ℕ) : Type 0 where
  pub there : (i p : ℕ) → f i ≡ Some p → g p ≡ Some i
  pub back : (p i : ℕ) → g p ≡ Some i → f i ≡ Some p

inverse_flip : {f g : ℕ → Option ℕ} → AreInverse f g → AreInverse g f
inverse_flip h = record { there = h.back; back = h.there }

-- maps that say the same are inverse too
pub inverse_same : {f g f' g' : ℕ → Option ℕ} → AreInverse f g → ((i : ℕ) → f' i ≡ f i) → ((p : ℕ) → g' p ≡ g p) → AreInverse f' g'
inverse_same h a b =
    record {
      there = λ i p is. b p ∙ h.there i p (sym (a i) ∙ is);
      back = λ p i is. a i ∙ h.back p i (sym (b p) ∙ is);
    }

-- ---- one pair more

module _ {f g f' g' : ℕ → Option ℕ} {i p : ℕ} (h : AreInverse f g) (a : Changes f f' i None (Some p)) (b : Changes g g' p None (Some i)) where
  added_there : (j q : ℕ) → f' j ≡ Some q → g' q ≡ Some j
  added_there j q is =
      elim (cases_eq j i) [
        | inl e ↦
            let same : p ≡ q = same_Some p q (sym a.is ∙ (ap f' (sym e) ∙ is)) in
            ap g' (sym same) ∙ b.is ∙ ap Some (sym e)
        | inr differs ↦
            let led : g q ≡ Some j = h.there j q (sym (a.others j differs) ∙ is) in
            b.others q (λ e. none-some j (sym b.was ∙ (ap g (sym e) ∙ led))) ∙ led
      ]

-- maps with one more pair, of which each had no value at its number, are inverse too
pub inverse_added : {f g f' g' : ℕ → Option ℕ} {i p : ℕ} → AreInverse f g → Changes f f' i None (Some p) → Changes g g' p None (Some i) →
    AreInverse f' g'
inverse_added h a b = record { there = added_there h a b; back = added_there (inverse_flip h) b a }

-- ---- one pair fewer

removed_there : {f g f' g' : ℕ → Option ℕ} {i p : ℕ} → AreInverse f g → Changes f f' i (Some p) None → Changes g g' p (Some i) None →
    (j q : ℕ) → f' j ≡ Some q → g' q ≡ Some j
removed_there {f} {g} {f'} {g'} {i} {p} h a b j q is =
    elim (cases_eq j i) [
      | inl e ↦ absurd (none-some q (sym a.is ∙ (ap f' (sym e) ∙ is)))
      | inr differs ↦
          let led : g q ≡ Some j = h.there j q (sym (a.others j differs) ∙ is) in
          b.others q (λ e. differs (same_Some j i (sym led ∙ (ap g e ∙ b.was)))) ∙ led
    ]

-- maps of which one pair was removed are inverse too
pub inverse_removed : {f g f' g' : ℕ → Option ℕ} {i p : ℕ} → AreInverse f g → Changes f f' i (Some p) None → Changes g g' p (Some i) None →
    AreInverse f' g'
inverse_removed h a b = record { there = removed_there h a b; back = removed_there (inverse_flip h) b a }

-- ---- another pair

-- a number that the first map does not lead to this one is none to which the second map leads from there
pub other_pair : {f g : ℕ → Option ℕ} (i j p : ℕ) → AreInverse f g → f i ≢ Some p → g p ≡ Some j → j ≢ i
other_pair {f} i j p h apart is e = apart (ap f (sym e) ∙ h.back p j is)
