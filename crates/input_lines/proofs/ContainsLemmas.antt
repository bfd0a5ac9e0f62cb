-- Bytes contain a string exactly where a search finds it.
use Rattle.std.proofs.Common.{◌≡◌, ℕ, zero, suc, ◌+◌, Bool, true, false, ◌||◌, nat_eq, List, [], ◌∷◌, length, get_or, drop, Option, Some, None, is_some, refl, sym, ap, ◌∙◌, arith, ⊎_elim}
use Rattle.std.specs.List.{starts_with}
use Rattle.std.proofs.lemmas.Bool.{cases_Bool}
use Rattle.std.proofs.lemmas.Bool.Decides.{Decides-eqb}
use Rattle.std.proofs.lemmas.List.Prefix.{front_from_reads, front_reads, front_fits}
use Rattle.std.proofs.lemmas.Slice.Eq.{starts_is}
use Rattle.memchr.specs.Find.{OccursAt, FindsNeedle}
use Rattle.input_lines.specs.Kernels.{contains}

starts-true : (xs needle : List ℕ) → OccursAt xs needle 0 → starts_with nat_eq xs needle ≡ true
starts-true xs needle occurs =
    let fits = occurs.fits in
    let zeros : (j : ℕ) → 0 + j ≡ j = λ j. omega arith in
    let same = front_from_reads 0 xs needle (omega arith) (λ i less. ap (λ n. get_or xs n 0) (sym (zeros i)) ∙ occurs.reads i less) in
    (starts_is Decides-eqb xs needle _ refl).1 (drop (length needle) xs) same

starts-occurs : (xs needle : List ℕ) → starts_with nat_eq xs needle ≡ true → OccursAt xs needle 0
starts-occurs xs needle starts =
    let same = (starts_is Decides-eqb xs needle _ refl).0 starts in
    let zeros : (j : ℕ) → 0 + j ≡ j = λ j. omega arith in
    let fits = front_fits xs needle _ same in
    record {
      fits = omega arith;
      reads = λ j less. ap (λ n. get_or xs n 0) (zeros j) ∙ front_reads 0 xs needle _ same j less;
    }

or_true : (a b : Bool) → b ≡ true → (a || b) ≡ true
or_true true b is = refl
or_true false b is = is

-- an occurrence after the first byte is one of the rest
occurs-rest : (b : ℕ) (bs needle : List ℕ) (k : ℕ) → OccursAt (b ∷ bs) needle (suc k) → OccursAt bs needle k
occurs-rest b bs needle k occurs =
    let fits = occurs.fits in
    record {
      fits = omega arith;
      reads = λ j less. let place : suc k + j ≡ suc (k + j) = omega arith in sym (ap (λ n. get_or (b ∷ bs) n 0) place)
          ∙ occurs.reads j less;
    }

occurs-more : (b : ℕ) (bs needle : List ℕ) (k : ℕ) → OccursAt bs needle k → OccursAt (b ∷ bs) needle (suc k)
occurs-more b bs needle k occurs =
    let fits = occurs.fits in
    record {
      fits = omega arith;
      reads = λ j less. let place : suc k + j ≡ suc (k + j) = omega arith in ap (λ n. get_or (b ∷ bs) n 0) place ∙ occurs.reads j less;
    }

-- bytes with an occurrence contain the string
pub contains-occurs : (needle bytes : List ℕ) (k : ℕ) → OccursAt bytes needle k → contains needle bytes ≡ true
contains-occurs needle [] zero occurs = starts-true [] needle occurs
contains-occurs needle [] (suc k) occurs = let fits = occurs.fits in absurd (omega arith)
contains-occurs needle (b ∷ bs) zero occurs = rw (starts-true (b ∷ bs) needle occurs) refl
contains-occurs needle (b ∷ bs) (suc k) occurs =
    or_true (starts_with nat_eq (b ∷ bs) needle) (contains needle bs) (contains-occurs needle bs k (occurs-rest b bs needle k occurs))

-- bytes with no occurrence do not
pub contains-nowhere : (needle bytes : List ℕ) → ((k : ℕ) → OccursAt bytes needle k → ⊥) → contains needle bytes ≡ false
contains-nowhere needle [] none =
    ⊎_elim (λ (starts : starts_with nat_eq [] needle ≡ true). absurd (none 0 (starts-occurs [] needle starts))) (λ no_is. no_is)
    (cases_Bool (starts_with nat_eq [] needle))
contains-nowhere needle (b ∷ bs) none =
    let rest = contains-nowhere needle bs (λ k occurs. none (suc k) (occurs-more b bs needle k occurs)) in
    ⊎_elim (λ (starts : starts_with nat_eq (b ∷ bs) needle ≡ true). absurd (none 0 (starts-occurs (b ∷ bs) needle starts)))
    (λ no_is. rw no_is rest) (cases_Bool (starts_with nat_eq (b ∷ bs) needle))

-- what a search answers
pub contains-found : (bytes needle : List ℕ) (found : Option ℕ) → FindsNeedle bytes needle 0 found → is_some found ≡ contains needle bytes
contains-found bytes needle None missed =
    sym (contains-nowhere needle bytes (λ k occurs. missed k (omega arith) (let fits = occurs.fits in omega arith) occurs))
contains-found bytes needle (Some k) found = sym (contains-occurs needle bytes k found.1)
