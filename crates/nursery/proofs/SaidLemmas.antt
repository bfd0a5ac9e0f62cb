-- A sentence that is UTF-8 is said, and no other one.
use Rattle.std.proofs.Common.{◌≡◌, ℕ, Bool, true, false, List, [], ◌∷◌, ◌++◌, refl, ap, sym, ◌∙◌}
use Rattle.std.specs.Str.{IsUtf8, is_utf8}
use Rattle.std.proofs.lemmas.Str.{is_utf8-from_IsUtf8, IsUtf8-from_is_utf8}
use Rattle.refusal_text.specs.Explaining.{pointed_message}
use Rattle.nursery.specs.Warned.{said_at, said_if}

pub said_is : (old new message shown name text said words : List ℕ) (at : ℕ) → (words ≡ said) × IsUtf8 said
    → message ≡ pointed_message name text at words → shown ≡ message → new ≡ old ++ shown → new ≡ old ++ said_at name text at said
said_is old new message shown name text said words at is pointed showing pushed =
    pushed ∙ ap (λ (xs : List ℕ). old ++ xs)
    (showing ∙ pointed ∙ ap (λ (xs : List ℕ). pointed_message name text at xs) is.0
    ∙ ap (λ (b : Bool). said_if b name text at said) (sym (is_utf8-from_IsUtf8 said is.1)))

none_more : (xs : List ℕ) → xs ≡ xs ++ []
none_more [] = refl
none_more (x ∷ xs) = ap (λ (ys : List ℕ). x ∷ ys) (none_more xs)

not_said : (test : Bool) (name text said : List ℕ) (at : ℕ) → is_utf8 said ≡ test → (IsUtf8 said → ⊥) → [] ≡ said_if test name text at said
not_said false name text said at is not_text = refl
not_said true name text said at is not_text = absurd (not_text (IsUtf8-from_is_utf8 said is))

pub nothing_said : (old name text said : List ℕ) (at : ℕ) → (IsUtf8 said → ⊥) → old ≡ old ++ said_at name text at said
nothing_said old name text said at not_text =
    none_more old ∙ ap (λ (xs : List ℕ). old ++ xs) (not_said (is_utf8 said) name text said at refl not_text)
