-- What a task sees of near stacks by its own cancels.
use Rattle.std.proofs.Common.{◌≡◌, ℕ, Bool, true, false, Some, List, [], ◌∷◌, refl, subst, if◌then◌else◌}
use Rattle.exceptions.specs.Exceptions.{Label}
use Rattle.cancel_scopes.specs.Sight.{Tick, earlier}
use Rattle.job_meaning.specs.Walk.{Levels, is_among, from_for, stack_for}
use Rattle.job_meaning.specs.Before.{upto, NearLevels}
use Rattle.job_meaning.proofs.Clips.{upto_earlier_same}

-- what a task sees of near stacks by its own cancels is near
pub from_for_near : (c : ℕ) (own : List Label) (m : ℕ) (l k : Label) (f g : Tick) → l ≡ k → upto c f ≡ upto c g →
    upto c (from_for own m l f) ≡ upto c (from_for own m k g)
from_for_near c own m l k f g e h = subst (λ (z : Label). upto c (from_for own m l f) ≡ upto c (from_for own m z g)) e (by_own (is_among l own))
  where
    by_own : (b : Bool) → upto c (if b then earlier f (Some m) else f) ≡ upto c (if b then earlier g (Some m) else g)
    by_own true = upto_earlier_same c f (Some m) g (Some m) h refl
    by_own false = h

pub stack_for_near : (c : ℕ) (own : List Label) (m : ℕ) (st su : Levels) → NearLevels c st su → NearLevels c (stack_for own m st) (stack_for own m su)
stack_for_near c own m [] [] n = n
stack_for_near c own m [] (k ∷ ks) n = absurd n
stack_for_near c own m (l ∷ ls) [] n = absurd n
stack_for_near c own m (l ∷ ls) (k ∷ ks) n =
    (n.0, n.1, from_for_near c own m l.label k.label l.from k.from n.0 n.2, stack_for_near c own m ls ks n.3)
