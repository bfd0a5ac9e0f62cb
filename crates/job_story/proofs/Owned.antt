-- What a task has cancelled itself in its moment.
use Rattle.std.proofs.Common.{◌≡◌, ℕ, Bool, true, false, Some, List, [], ◌∷◌, ◌||◌, if◌then◌else◌, reverse, refl, ap, sym, ◌∙◌}
use Rattle.std.specs.List.{list_any}
use Rattle.std.proofs.lemmas.List.Sorted.{list_any-IsPermutation, IsPermutation-reverse}
use Rattle.exceptions.specs.Exceptions.{Label}
use Rattle.exceptions.specs.Labels.{same_label}
use Rattle.cancel_scopes.specs.Sight.{Tick, earlier}
use Rattle.job_meaning.specs.Walk.{is_among, from_for}

-- whether a label is among some, as a test of each
among_any : (l : Label) (ls : List Label) → is_among l ls ≡ list_any (λ k. same_label l k) ls
among_any l [] = refl
among_any l (k ∷ ks) = ap (λ (b : Bool). same_label l k || b) (among_any l ks)

-- in any order
among_reversed : (l : Label) (ls : List Label) → list_any (λ k. same_label l k) ls ≡ is_among l (reverse ls)
among_reversed l ls =
    list_any-IsPermutation (λ k. same_label l k) ls (reverse ls) (IsPermutation-reverse ls) ∙ sym (among_any l (reverse ls))

-- the from of a block that the task has cancelled itself in this moment
pub from_own : (l : Label) (ls : List Label) (m : ℕ) (from : Tick) → list_any (λ k. same_label l k) ls ≡ true →
    from_for (reverse ls) m l from ≡ earlier from (Some m)
from_own l ls m from e = ap (λ (b : Bool). if b then earlier from (Some m) else from) (sym (among_reversed l ls) ∙ e)

-- and of one that it has not
pub from_others : (l : Label) (ls : List Label) (m : ℕ) (from : Tick) → list_any (λ k. same_label l k) ls ≡ false →
    from_for (reverse ls) m l from ≡ from
from_others l ls m from e = ap (λ (b : Bool). if b then earlier from (Some m) else from) (sym (among_reversed l ls) ∙ e)
