-- One more line of those that contain a string.
use Rattle.std.proofs.Common.{◌≡◌, ℕ, Bool, true, false, List, [], ◌∷◌, ◌++◌, map, filter, Some, None, refl, sym, ap, ⊎_elim, ◌∙◌, append_assoc}
use Rattle.std.specs.List.{find}
use Rattle.std.proofs.lemmas.Bool.{cases_Bool}
use Rattle.std.proofs.lemmas.List.{map_push}
use Rattle.input_lines.specs.Lines.{Span, text_of}
use Rattle.input_lines.specs.Part.{span_of}
use Rattle.input_lines.specs.declared.line.Line.{Line}
use Rattle.input_lines.specs.Kernels.{contains}

-- whether a string occurs in a line
abbrev pub stands_in : List ℕ → List ℕ → Span → Bool
stands_in buffer needle l = contains needle (text_of buffer l)

-- a first element that passes the test is kept in front
pub filter-passed : {X : Type 0} (p : X → Bool) (x : X) (xs : List X) → p x ≡ true → filter p (x ∷ xs) ≡ x ∷ filter p xs
filter-passed p x xs passes = rw passes refl

-- a first element that does not pass is left out
pub filter-dropped : {X : Type 0} (p : X → Bool) (x : X) (xs : List X) → p x ≡ false → filter p (x ∷ xs) ≡ filter p xs
filter-dropped p x xs fails = rw fails refl

-- a line that is found is appended to the lines found before
pub shown_more : (lines : List Line) (line : Line) (rest : List Span) →
    map span_of lines ++ (span_of line ∷ rest) ≡ map span_of (lines ++ line ∷ []) ++ rest
shown_more lines line rest = sym (ap (λ ls. ls ++ rest) (map_push span_of lines line)
    ∙ append_assoc (map span_of lines) (span_of line ∷ []) rest)

-- a list with nothing after it is the list itself
pub append-nil : {X : Type 0} (xs : List X) → xs ++ [] ≡ xs
append-nil [] = refl
append-nil (x ∷ xs) = ap (λ ys. x ∷ ys) (append-nil xs)

-- where no element passes, none is found
pub find-none : {X : Type 0} (p : X → Bool) (xs : List X) → filter p xs ≡ [] → find p xs ≡ None
find-none p [] none = refl
find-none p (x ∷ xs) none =
    ⊎_elim
    (λ (passes : p x ≡ true).
    let some : x ∷ filter p xs ≡ [] = sym (filter-passed p x xs passes) ∙ none in
    absurd (cc))
    (λ (fails : p x ≡ false). rw fails (find-none p xs (sym (filter-dropped p x xs fails) ∙ none)))
    (cases_Bool (p x))

-- the first that passes is the one that is found
pub find-first : {X : Type 0} (p : X → Bool) (xs : List X) (first : X) (rest : List X) → filter p xs ≡ first ∷ rest → find p xs ≡ Some first
find-first p [] first rest is = absurd (let none : [] ≡ first ∷ rest = is in cc)
find-first p (x ∷ xs) first rest is =
    ⊎_elim
    (λ (passes : p x ≡ true).
    let both : x ∷ filter p xs ≡ first ∷ rest = sym (filter-passed p x xs passes) ∙ is in
    let same : x ≡ first = cc in
    rw passes (ap Some same))
    (λ (fails : p x ≡ false). rw fails (find-first p xs first rest (sym (filter-dropped p x xs fails) ∙ is)))
    (cases_Bool (p x))
