-- A count of lines as the definitions have it, by the lines of the code.
use Rattle.std.proofs.Common.{◌≡◌, ℕ, List, ◌+◌, arith, refl, cond}
use Rattle.std.proofs.lemmas.List.Recursion.{is_count_by}
use Rattle.std.specs.Prelude.{Bool, true, false, count_by, map, if◌then◌else◌}
use Rattle.outcomes.specs.Table as table
use Rattle.outcomes.specs.Views.{line_held}
use Rattle.outcomes.specs.declared.line.Line.{Line}

one_more : (b : Bool) (n : ℕ) → (if b then 1 else 0) + n ≡ cond b (1 + n) n
one_more true n = refl
one_more false n = omega arith

pub counted : (test : table.Line → Bool) (ls : List Line) → table.count test (map line_held ls) ≡ count_by (λ l. test (line_held l)) ls
counted test ls =
    is_count_by (λ xs. table.count test (map line_held xs)) (λ l. test (line_held l)) refl
    (λ x xs. one_more (test (line_held x)) (table.count test (map line_held xs))) ls
