-- Elements of lists, by recursion: some element has a property, each has it, or a value is among them.
use Rattle.std.specs.Prelude.{◌≡◌, ◌⊎◌, List, [], ◌∷◌}

-- some element has this property
abbrev pub Exists : {A : Type 0} → (A → Type 0) → List A → Type 0
Exists P [] = ⊥
Exists P (x ∷ xs) = P x ⊎ Exists P xs

-- each element has it
abbrev pub Each : {A : Type 0} → (A → Type 0) → List A → Type 0
Each P [] = Unit {0}
Each P (x ∷ xs) = P x × Each P xs

-- a value is among these
abbrev pub IsAmong : {A : Type 0} → A → List A → Type 0
IsAmong x ys = Exists (λ y. x ≡ y) ys
