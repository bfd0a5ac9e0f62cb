-- Queues without those who wait no more, and lists of what was granted.
use Rattle.std.proofs.Common.{◌≡◌, List, [], ◌∷◌, ◌++◌, Bool, true, false, map, refl, ap, sym, ◌∙◌, append_assoc}
use Rattle.std.proofs.lemmas.List.{map-append}
use Rattle.std.proofs.lemmas.List.Elements.{filter-append}
use Rattle.std.specs.List.{filter}

kept_again : {X : Type 0} (p : X → Bool) (x : X) (xs : List X) (b : Bool) → p x ≡ b → filter p (filter p xs) ≡ filter p xs →
    filter p (filter p (x ∷ xs)) ≡ filter p (x ∷ xs)
kept_again p x xs true e same = simp (e, same) refl
kept_again p x xs false e same = simp (e, same) refl

-- who waits does so after another look
pub filter_again : {X : Type 0} (p : X → Bool) (xs : List X) → filter p (filter p xs) ≡ filter p xs
filter_again p [] = refl
filter_again p (x ∷ xs) = kept_again p x xs (p x) refl (filter_again p xs)

-- one more in the queue
pub filter_more : {X : Type 0} (p : X → Bool) (xs ys : List X) (x : X) → ys ≡ xs ++ x ∷ [] → filter p ys ≡ filter p (filter p xs ++ x ∷ [])
filter_more p xs ys x e =
    rw (e, filter-append p xs (x ∷ []), filter-append p (filter p xs) (x ∷ []), filter_again p xs) refl

-- one more was granted
pub granted_one : {X Y : Type 0} (f : X → Y) (before after : List X) (x : X) → after ≡ before ++ x ∷ [] → map f after ≡ map f before ++ f x ∷ []
granted_one f before after x e = rw e (map-append f before (x ∷ []))

-- one more of those that are to be granted was granted
pub granted_next : {X Y : Type 0} (f : X → Y) (before after : List X) (x : X) (more rest all : List Y) → after ≡ before ++ x ∷ [] →
    more ≡ f x ∷ rest → map f before ++ more ≡ all → map f after ++ rest ≡ all
granted_next f before after x more rest all e is sum =
    ap (λ ys. ys ++ rest) (granted_one f before after x e)
    ∙ append_assoc (map f before) (f x ∷ []) rest
    ∙ ap (λ ys. map f before ++ ys) (sym is)
    ∙ sum
