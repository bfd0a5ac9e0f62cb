-- A count of lines as definitions speak of them, by the lines that the code holds.
use Rattle.std.proofs.Common.{◌≡◌, List, ◌+◌, arith, refl, cond, length}
use Rattle.std.proofs.lemmas.List.Recursion.{is_count_by}
use Rattle.std.specs.Prelude.{Bool, true, false, ◌∷◌, count_by, map, if◌then◌else◌}
use Rattle.race_text.specs.Lines as race_lines
use Rattle.race_text.specs.Table.{lines_that}
use Rattle.race_text.specs.LineViews.{line_held}
use Rattle.race_text.specs.declared.line.Line.{Line}

one_more : (b : Bool) (l : race_lines.Line) (ls : List race_lines.Line) → length (if b then l ∷ ls else ls) ≡ cond b (1 + length ls) (length ls)
one_more true l ls = omega arith
one_more false l ls = refl

pub counted : (test : race_lines.Line → Bool) (ls : List Line) → length (lines_that test (map line_held ls)) ≡ count_by (λ l. test (line_held l)) ls
counted test ls =
    is_count_by (λ xs. length (lines_that test (map line_held xs))) (λ l. test (line_held l)) refl
    (λ x xs. one_more (test (line_held x)) (line_held x) (lines_that test (map line_held xs))) ls
