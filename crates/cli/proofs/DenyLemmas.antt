-- Tests of borrowed words are tests of the words.
use Rattle.std.proofs.Common.{Some, None, ◌≡◌, ℕ, Bool, true, false, length, ◌==◌, sym, ◌∙◌, IsTrue, ◌&&◌, ◌||◌, List, [], ◌∷◌, map, refl, ap}
use Rattle.std.specs.List.{list_any, list_all}
use Rattle.std.specs.Str.{bytes_eq}
use denote.Ref.{Bor}
use Rattle.cli.specs.Denied.{is_among, is_kind, kinds_in, may_be_denied, denied_among, denied_in, spelled_deny}
use Rattle.outcomes.specs.declared.deny.Deny.{Deny}

pub among_by_parts : (word : List ℕ) (words : List (Bor (List ℕ)))
    → list_any (λ other. bytes_eq other.now word) words ≡ is_among word (map (λ other. other.now) words)
among_by_parts word [] = refl
among_by_parts word (w ∷ ws) = ap (λ (b : Bool). bytes_eq w.now word || b) (among_by_parts word ws)

pub kinds_by_parts : (words : List (Bor (List ℕ)))
    → list_all (λ word. is_kind word.now) words ≡ list_all is_kind (map (λ other. other.now) words)
kinds_by_parts [] = refl
kinds_by_parts (w ∷ ws) = ap (λ (b : Bool). is_kind w.now && b) (kinds_by_parts ws)

or_right : (a b : Bool) → b ≡ true → (a || b) ≡ true
or_right true b is = refl
or_right false b is = is

-- what is denied, by the words that were cut out of the text
pub denies : (names : List ℕ) (words slice more : List (Bor (List ℕ))) (known : Bool) (deny : Deny) → map (λ word. word.now) words ≡ kinds_in names
    → slice ≡ words → more ≡ words → known ≡ list_all (λ word. is_kind word.now) slice → known ≡ true
    → deny ≡ denied_among (map (λ word. word.now) more) → IsTrue (may_be_denied names) × (deny ≡ denied_in names)
denies names words slice more known deny cut one two test is denied = (
  or_right (length names == 0) (list_all is_kind (kinds_in names))
      (sym (ap (λ (ws : List (List ℕ)). list_all is_kind ws) cut)
      ∙ sym (kinds_by_parts words) ∙ sym (ap (λ (ws : List (Bor (List ℕ))). list_all (λ word. is_kind word.now) ws) one) ∙ sym test ∙ is),
  denied ∙ ap (λ (ws : List (Bor (List ℕ))). denied_among (map (λ word. word.now) ws)) two ∙ ap (λ (ws : List (List ℕ)). denied_among ws) cut,
)

pub spells : (names : List ℕ) (deny : Deny) → IsTrue (may_be_denied names) × (deny ≡ denied_in names) → spelled_deny names ≡ Some deny
spells names deny is = rw is.0 (ap (λ (d : Deny). Some d) (sym is.1))

-- nothing is spelled if a word names no kind
pub spells_none : (names : List ℕ) (words slice : List (Bor (List ℕ))) (empty known : Bool) → empty ≡ (length names == 0) → empty ≡ false
    → map (λ word. word.now) words ≡ kinds_in names → slice ≡ words → known ≡ list_all (λ word. is_kind word.now) slice → known ≡ false
    → spelled_deny names ≡ None
spells_none names words slice empty known length_is some cut one test is =
    let unknown : list_all is_kind (kinds_in names) ≡ false =
    sym (ap (λ (ws : List (List ℕ)). list_all is_kind ws) cut) ∙ sym (kinds_by_parts words)
    ∙ sym (ap (λ (ws : List (Bor (List ℕ))). list_all (λ word. is_kind word.now) ws) one) ∙ sym test ∙ is in
    rw (sym length_is ∙ some, unknown) refl
