-- Sublists: elements in the same order.
use Rattle.std.proofs.Common.{◌≡◌, List, [], ◌∷◌, ◌++◌, Bool, true, false, refl, append_assoc}
use Rattle.std.specs.List.{filter}
use Rattle.objects.specs.Laws.{IsSublist, none, with_next, without_next}

pub sublist_same : {X : Type 0} (xs : List X) → IsSublist xs xs
sublist_same [] = none
sublist_same (x ∷ xs) = with_next (sublist_same xs)

pub sublist_after : {X : Type 0} (front : List X) {xs ys : List X} → IsSublist xs ys → IsSublist (front ++ xs) (front ++ ys)
sublist_after [] sub = sub
sublist_after (x ∷ front) sub = with_next (sublist_after front sub)

pub sublist_past : {X : Type 0} (front : List X) {xs ys : List X} → IsSublist xs ys → IsSublist xs (front ++ ys)
sublist_past [] sub = sub
sublist_past (x ∷ front) sub = without_next (sublist_past front sub)

pub sublist_before : {X : Type 0} {xs ys : List X} (rest : List X) → IsSublist xs ys → IsSublist (xs ++ rest) (ys ++ rest)
sublist_before {ys = ys} rest none = sublist_past ys (sublist_same rest)
sublist_before rest (with_next sub) = with_next (sublist_before rest sub)
sublist_before rest (without_next sub) = without_next (sublist_before rest sub)

pub sublist_of : {X : Type 0} {xs ys zs : List X} → IsSublist xs ys → IsSublist ys zs → IsSublist xs zs
sublist_of none upper = none
sublist_of lower (without_next upper) = without_next (sublist_of lower upper)
sublist_of (with_next lower) (with_next upper) = with_next (sublist_of lower upper)
sublist_of (without_next lower) (with_next upper) = without_next (sublist_of lower upper)

-- two parts in a row: what a first act served, and what the later ones serve
pub sublist_in_two : {X : Type 0} (served now more waiting front rest : List X) →
    IsSublist (served ++ now) front → IsSublist (more ++ waiting) (now ++ rest) →
    IsSublist ((served ++ more) ++ waiting) (front ++ rest)
sublist_in_two served now more waiting front rest first later =
    rw (append_assoc served more waiting)
    (sublist_of (sublist_after served later) (rw (← append_assoc served now rest) (sublist_before rest first)))

kept_if : {X : Type 0} (p : X → Bool) (x : X) (xs : List X) (b : Bool) → p x ≡ b → IsSublist (filter p xs) xs → IsSublist (filter p (x ∷ xs)) (x ∷ xs)
kept_if p x xs true e sub = rw e (with_next sub)
kept_if p x xs false e sub = rw e (without_next sub)

-- what is left of a list after a test
pub sublist_filter : {X : Type 0} (p : X → Bool) (xs : List X) → IsSublist (filter p xs) xs
sublist_filter p [] = none
sublist_filter p (x ∷ xs) = kept_if p x xs (p x) refl (sublist_filter p xs)
