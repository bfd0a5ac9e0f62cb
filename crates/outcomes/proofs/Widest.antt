-- The length of the longest of some texts, as the code finds it.
use Rattle.std.proofs.Common.{◌≡◌, ◌∙◌, ap, sym, subst, refl, ℕ, suc, ◌+◌, List, [], ◌∷◌, ◌≤◌, ◌<◌, length, drop, get_or, drop-cons, max, arith}
use Rattle.std.specs.Prelude.{map}
use Rattle.std.proofs.lemmas.List.{drop_all}
use Rattle.outcomes.specs.Table as table
use Rattle.outcomes.specs.Table.{greatest_length}
use Rattle.outcomes.specs.Views.{line_held}
use Rattle.outcomes.specs.declared.columns.Widths.{Widths}
use Rattle.outcomes.specs.declared.line.Line.{Line}

-- it is at least the given minimum
pub at_least : (text : table.Line → List ℕ) (least : ℕ) (ls : List table.Line) → max least (greatest_length text least ls) ≡ greatest_length text least ls
at_least text least [] = omega arith
at_least text least (l ∷ ls) = omega (arith, at_least text least ls)

-- at the end of the lines, no longer text is left
pub at_end : (text : table.Line → List ℕ) (least width whole n : ℕ) (ls : List Line) → length ls ≤ n → least ≤ width →
    max width (greatest_length text least (map line_held (drop n ls))) ≡ whole → width ≡ whole
at_end text least width whole n ls over low h =
    let none : drop n ls ≡ [] = drop_all n ls over in
    let same : max width least ≡ whole = ap (λ xs. max width (greatest_length text least (map line_held xs))) (sym none) ∙ h in
    omega (arith, same, low)

-- one more text was measured
pub at_next : (text : table.Line → List ℕ) (least width new whole n : ℕ) (ls : List Line) (l : Line) (read : List ℕ) → n < length ls → l ≡ get_or ls n l →
    new ≡ max width (length read) → read ≡ text (line_held l) → max width (greatest_length text least (map line_held (drop n ls))) ≡ whole →
    max new (greatest_length text least (map line_held (drop (n + 1) ls))) ≡ whole
at_next text least width new whole n ls l read lt is grown same h =
    let next : suc n ≡ n + 1 = omega arith in
    let one : drop n ls ≡ l ∷ drop (n + 1) ls =
    drop-cons ls n l lt ∙ ap (λ y. y ∷ drop (suc n) ls) (sym is) ∙ ap (λ m. l ∷ drop m ls) next in
    let before : max width (max (length (text (line_held l))) (greatest_length text least (map line_held (drop (n + 1) ls)))) ≡ whole =
    subst (λ (xs : List Line). max width (greatest_length text least (map line_held xs)) ≡ whole) one h in
    let wide : new ≡ max width (length (text (line_held l))) = grown ∙ ap (λ xs. max width (length xs)) same in
    omega (arith, before, wide)

pub same_widths : (w : Widths) (place step fault : ℕ) → w.place ≡ place → w.step ≡ step → w.fault ≡ fault →
    w ≡ record { place = place; step = step; fault = fault }
same_widths w place step fault p s f = rw (← p, ← s, ← f) refl
