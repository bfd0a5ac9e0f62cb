-- The last of a list, and a list backwards.
use Rattle.std.proofs.Common.{◌≡◌, ℕ, zero, suc, ◌-◌, List, [], ◌∷◌, ◌++◌, length, refl, sym, ap, ◌∙◌, arith}
use Rattle.std.specs.Prelude.{map, reverse, Some, None}
use Rattle.std.specs.List.{slice_get}
use Rattle.std.proofs.lemmas.List.{map-append, reverse-append}
use Rattle.chart.specs.Columns.{last_tick}
use Rattle.chart.specs.HeldColumns.{column_of}
use Rattle.chart.specs.declared.column.Column.{Column}

-- ---- the last of a list

last_tick_at : (xs : List Column) (n : ℕ) (x : Column) → suc n ≡ length xs → Some x ≡ slice_get xs n →
    x.tick ≡ last_tick (map column_of xs)
last_tick_at [] n x whole is = absurd (omega (arith, whole))
last_tick_at (a ∷ []) zero x whole is = cc
last_tick_at (a ∷ []) (suc n) x whole is = absurd (omega (arith, whole))
last_tick_at (a ∷ b ∷ xs) zero x whole is = absurd (omega (arith, whole))
last_tick_at (a ∷ b ∷ xs) (suc n) x whole is = last_tick_at (b ∷ xs) n x (omega (arith, whole)) is

-- the tick of the column at the last place is the last tick
pub last_tick_is : (xs : List Column) (n : ℕ) (x : Column) → n ≡ length xs → Some x ≡ slice_get xs (n - 1) →
    x.tick ≡ last_tick (map column_of xs)
last_tick_is [] n x whole is = let clash : Some x ≡ None = is in cc
last_tick_is (a ∷ xs) zero x whole is = absurd (omega (arith, whole))
last_tick_is (a ∷ xs) (suc n) x whole is =
    let less : suc n - 1 ≡ n = omega arith in
    last_tick_at (a ∷ xs) n x whole (is ∙ ap (slice_get (a ∷ xs)) less)

-- ---- a list backwards

pub reverse_push : {X : Type 0} (xs : List X) (x : X) → reverse (xs ++ x ∷ []) ≡ x ∷ reverse xs
reverse_push xs x = reverse-append xs (x ∷ [])

pub map-reverse : {X Y : Type 0} (f : X → Y) (xs : List X) → map f (reverse xs) ≡ reverse (map f xs)
map-reverse f [] = refl
map-reverse f (x ∷ xs) =
    ap (map f) (reverse-append (x ∷ []) xs) ∙ map-append f (reverse xs) (x ∷ []) ∙ ap (λ l. l ++ f x ∷ []) (map-reverse f xs)
    ∙ sym (reverse-append (f x ∷ []) (map f xs))
