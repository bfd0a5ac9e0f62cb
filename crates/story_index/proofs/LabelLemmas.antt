-- The test of labels.
use Rattle.std.proofs.Common.{◌≡◌, ℕ, refl, List}
use Rattle.std.specs.Prelude.{Bool, true, false, ◌&&◌}
use Rattle.std.specs.Str.{bytes_eq}
use Rattle.std.proofs.lemmas.Slice.Eq.{bytes_eq-Decides}
use Rattle.exceptions.specs.Exceptions.{Label}
use Rattle.job_meaning.specs.Log.{same_label}

-- bytes that are the same are equal
bytes_same : (a b : List ℕ) → bytes_eq a b ≡ true → a ≡ b
bytes_same a b same = (bytes_eq-Decides a b).0 same

-- labels with equal parts are equal
same_parts : (l m : Label) → l.name ≡ m.name → l.indices ≡ m.indices → l ≡ m
same_parts l m p q = λ i. record { name = p i; indices = q i }

-- both parts of a test hold
pub both : (a b : Bool) → (a && b) ≡ true → (a ≡ true) × (b ≡ true)
both true b h = (refl, h)
both false b h = let clash : false ≡ true = h in cc

-- labels that are the same are equal
pub same_label_is : (l m : Label) → same_label l m ≡ true → l ≡ m
same_label_is l m same =
    let parts = both (bytes_eq l.name m.name) (bytes_eq l.indices m.indices) same in
    same_parts l m (bytes_same l.name m.name parts.0) (bytes_same l.indices m.indices parts.1)
