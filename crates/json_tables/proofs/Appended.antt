-- A line that is appended before others.
use Rattle.std.proofs.Common.{◌≡◌, ◌∙◌, ap, sym, Bool, true, List, [], ◌∷◌, ◌++◌, map, append_assoc}
use Rattle.std.specs.Prelude.{if◌then◌else◌}

pub shown_line : {A B : Type 0} (f : A → B) (shown : Bool) (old new : List B) (x : A) (rest : List A) → shown ≡ true → new ≡ old ++ f x ∷ [] →
    new ++ map f rest ≡ old ++ map f (if shown then x ∷ rest else rest)
shown_line f shown old new x rest is grown =
    ap (λ ys. ys ++ map f rest) grown ∙ append_assoc old (f x ∷ []) (map f rest)
    ∙ ap (λ b. old ++ map f (if b then x ∷ rest else rest)) (sym is)
