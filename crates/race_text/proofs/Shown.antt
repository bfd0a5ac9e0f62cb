-- The lines that are shown, put together.
use Rattle.std.proofs.Common.{◌≡◌, ap, sym, ◌∙◌, ℕ, List, ◌≤◌, ◌++◌, length, drop, append-nil}
use Rattle.std.proofs.lemmas.List.{drop_all}
use Rattle.std.specs.Prelude.{[], map}
use Rattle.race_text.specs.Lines.{is_shown}
use Rattle.race_text.specs.Table.{lines_that, widths_of, lines_text, denied_text}
use Rattle.race_text.specs.LineViews.{line_held}
use Rattle.race_text.specs.declared.columns.Widths.{Widths}
use Rattle.race_text.specs.declared.line.Line.{Line}

-- the lines in columns as wide as what is shown, after the last line
pub denied_by : (ls : List Line) (n : ℕ) (w : Widths) (out : List ℕ) → length ls ≤ n → w ≡ widths_of (lines_that is_shown (map line_held ls)) →
    out ++ lines_text w (lines_that is_shown (map line_held (drop n ls))) ≡ lines_text w (lines_that is_shown (map line_held ls)) →
    out ≡ denied_text (map line_held ls)
denied_by ls n w out over same shown =
    let none : drop n ls ≡ [] = drop_all n ls over in
    let all : out ++ [] ≡ lines_text w (lines_that is_shown (map line_held ls))
    = ap (λ xs. out ++ lines_text w (lines_that is_shown (map line_held xs))) (sym none) ∙ shown in
    sym (append-nil out) ∙ all ∙ ap (λ v. lines_text v (lines_that is_shown (map line_held ls))) same
