-- Whether columns fit, step by step.
use Rattle.std.proofs.Common.{◌≡◌, ℕ, ◌+◌, ◌-◌, ◌<◌, ◌≤◌, List, length, get_or, drop, sym, ap, ◌∙◌, arith}
use Rattle.std.specs.Prelude.{Bool, true, false, ◌&&◌, nat_le, map}
use Rattle.std.proofs.lemmas.Bool.Decides.{nat_tests}
use Rattle.std.proofs.lemmas.List.{at_drop_more}
use Rattle.chart.specs.Columns.{gap_less, fits_from}
use Rattle.chart.specs.HeldColumns.{column_of}
use Rattle.chart.specs.declared.column.Column.{Column}

test_false : (m n : ℕ) → n < m → nat_le m n ≡ false
test_false m n h = grind (arith, nat_tests)

test_true : (m n : ℕ) → m ≤ n → nat_le m n ≡ true
test_true m n h = grind (arith, nat_tests)

-- ---- from one column to the next

-- with too little room for the next column they do not fit
pub fits_no_more : (less left at wanted i : ℕ) (cs : List Column) (d : Column) (whole : Bool) → i < length cs →
    wanted ≡ gap_less less at (get_or cs i d).tick → left < wanted → fits_from less left at (map column_of (drop i cs)) ≡ whole →
    false ≡ whole
fits_no_more less left at wanted i cs d whole within is little so_far =
    let c = get_or cs i d in
    let test : nat_le (gap_less less at c.tick) left ≡ false = ap (λ w. nat_le w left) (sym is) ∙ test_false wanted left little in
    ap (λ b. b && fits_from less (left - gap_less less at c.tick) c.tick (map column_of (drop (i + 1) cs))) (sym test)
    ∙ sym (at_drop_more (λ l. fits_from less left at (map column_of l)) cs i d within) ∙ so_far

-- otherwise they fit where those after it do
pub fits_more : (less left at wanted i : ℕ) (cs : List Column) (d : Column) (whole : Bool) → i < length cs →
    wanted ≡ gap_less less at (get_or cs i d).tick → wanted ≤ left → fits_from less left at (map column_of (drop i cs)) ≡ whole →
    fits_from less (left - wanted) (get_or cs i d).tick (map column_of (drop (i + 1) cs)) ≡ whole
fits_more less left at wanted i cs d whole within is enough so_far =
    let c = get_or cs i d in
    let rest = map column_of (drop (i + 1) cs) in
    let test : nat_le (gap_less less at c.tick) left ≡ true = ap (λ w. nat_le w left) (sym is) ∙ test_true wanted left enough in
    ap (λ w. fits_from less (left - w) c.tick rest) is
    ∙ ap (λ b. b && fits_from less (left - gap_less less at c.tick) c.tick rest) (sym test)
    ∙ sym (at_drop_more (λ l. fits_from less left at (map column_of l)) cs i d within) ∙ so_far
