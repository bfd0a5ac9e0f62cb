-- Lexing continues from left to right, and its result is unique.
use Rattle.std.proofs.Common.{◌≡◌, ℕ, ◌+◌, ◌-◌, ◌<◌, ◌≤◌, Bool, List, [], ◌∷◌, ◌++◌, length, Option, Some, None, refl, sym, ap, subst, ◌∙◌, arith}
use Rattle.std.proofs.lemmas.List.{append-nil, nil_from_length}
use Rattle.job_tokens.specs.declared.token.Shape.{Shape}
use Rattle.job_tokens.specs.declared.token.Token.{Token}
use Rattle.job_tokens.specs.Lexing.{after_blanks, token_at, Lexes}

-- the tokens of bytes whose first byte is neither a blank nor in a comment
abbrev pub LexesFrom : Bool → ℕ → List ℕ → List Token → Option ℕ → Type 0
LexesFrom comments end bytes [] None = bytes ≡ []
LexesFrom comments end bytes [] (Some at) = (token_at bytes ≡ None) × (0 < length bytes) × (at + length bytes ≡ end)
LexesFrom comments end bytes (t ∷ ts) fault = (rest : List ℕ) × (token_at bytes ≡ Some (t.shape, rest)) × (t.at + length bytes ≡ end)
    × Lexes comments end rest ts fault

-- the tokens read after the blanks and comments are those of all the bytes
pub from_blanks : (comments : Bool) (end : ℕ) (bytes rest : List ℕ) (ts : List Token) (fault : Option ℕ) → rest ≡ after_blanks comments bytes →
    LexesFrom comments end rest ts fault → Lexes comments end bytes ts fault
from_blanks comments end bytes rest [] None e h = sym e ∙ h
from_blanks comments end bytes rest [] (Some at) e h =
    subst (λ (r : List ℕ). (token_at r ≡ None) × (0 < length r) × (at + length r ≡ end)) e h
from_blanks comments end bytes rest (t ∷ ts) fault e h =
    subst (λ (r : List ℕ). (after : List ℕ) × (token_at r ≡ Some (t.shape, after)) × (t.at + length r ≡ end)
    × Lexes comments end after ts fault) e h

-- what is left to read, after the blanks and comments, completes the tokens read so far
pub record LexesOn (comments : Bool) (end : ℕ) (bytes : List ℕ) (front : List Token) (rest : List ℕ) : Type 0 where
  pub on : (ts : List Token) (fault : Option ℕ) → LexesFrom comments end rest ts fault → Lexes comments end bytes (front ++ ts) fault

-- the case in which no token can be read
pub stops : (comments : Bool) (end : ℕ) (bytes : List ℕ) (front : List Token) (rest : List ℕ) → token_at rest ≡ None → 0 < length rest →
    length rest ≤ end → LexesOn comments end bytes front rest → Lexes comments end bytes front (Some (end - length rest))
stops comments end bytes front rest none some within before =
    subst (λ (all : List Token). Lexes comments end bytes all (Some (end - length rest))) (append-nil front)
    (before.on [] (Some (end - length rest)) (none, some, omega arith))

-- the case in which nothing is left
pub is_done : (comments : Bool) (end : ℕ) (bytes : List ℕ) (front : List Token) (rest : List ℕ) → length rest ≡ 0 →
    LexesOn comments end bytes front rest → Lexes comments end bytes front None
is_done comments end bytes front rest empty before =
    subst (λ (all : List Token). Lexes comments end bytes all None) (append-nil front) (before.on [] None (nil_from_length rest empty))

-- ---- uniqueness

-- two results of the same reading are equal
some_is : {A : Type 0} (o : Option A) (x y : A) → o ≡ Some x → o ≡ Some y → x ≡ y
some_is o x y p q = cc

not_both : {A : Type 0} (o : Option A) (x : A) → o ≡ Some x → o ≡ None → ⊥
not_both o x p q = cc

-- no bytes, no token
nothing_there : (bytes : List ℕ) (x : Shape × List ℕ) → bytes ≡ [] → token_at bytes ≡ Some x → ⊥
nothing_there bytes x e found = let none : token_at bytes ≡ None = ap token_at e in not_both (token_at bytes) x found none

abbrev Same : List Token → List Token → Option ℕ → Option ℕ → Type 0
Same ts us f g = (ts ≡ us) × (f ≡ g)

-- the same bytes are read as the same tokens, up to the same place or to the end
pub Lexes-unique : (comments : Bool) (end : ℕ) (bytes : List ℕ) (ts us : List Token) (f g : Option ℕ) →
    Lexes comments end bytes ts f → Lexes comments end bytes us g →
    (ts ≡ us) × (f ≡ g)
Lexes-unique comments end bytes [] [] None None p q = (refl, refl)
Lexes-unique comments end bytes [] [] None (Some b) p q = absurd (omega (arith, ap (length {A = ℕ}) p, q.1))
Lexes-unique comments end bytes [] [] (Some a) None p q = absurd (omega (arith, ap (length {A = ℕ}) q, p.1))
Lexes-unique comments end bytes [] [] (Some a) (Some b) p q = (refl, ap Some (omega (arith, p.2, q.2)))
Lexes-unique comments end bytes [] (u ∷ us) None g p q = absurd (nothing_there (after_blanks comments bytes) (u.shape, q.0) p q.1)
Lexes-unique comments end bytes [] (u ∷ us) (Some a) g p q = absurd (not_both (token_at (after_blanks comments bytes)) (u.shape, q.0) q.1 p.0)
Lexes-unique comments end bytes (t ∷ ts) [] f None p q = absurd (nothing_there (after_blanks comments bytes) (t.shape, p.0) q p.1)
Lexes-unique comments end bytes (t ∷ ts) [] f (Some b) p q = absurd (not_both (token_at (after_blanks comments bytes)) (t.shape, p.0) p.1 q.0)
Lexes-unique comments end bytes (t ∷ ts) (u ∷ us) f g p q =
    let one = some_is (token_at (after_blanks comments bytes)) (t.shape, p.0) (u.shape, q.0) p.1 q.1 in
    let shape : t.shape ≡ u.shape = ap (λ (x : Shape × List ℕ). x.0) one in
    let rest : p.0 ≡ q.0 = ap (λ (x : Shape × List ℕ). x.1) one in
    let place : t.at ≡ u.at = omega (arith, p.2, q.2) in
    let others = Lexes-unique comments end q.0 ts us f g (subst (λ (r : List ℕ). Lexes comments end r ts f) rest p.3) q.3 in
    ((λ i. record { at = place i; shape = shape i } ∷ others.0 i), others.1)
