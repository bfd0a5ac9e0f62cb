use Rattle.std.proofs.Common.{◌++◌, ◌∷◌, [], ℕ, List, Bool, sym, ap, ◌∙◌, append_assoc}
use Rattle.job_layout.specs.Spaced.{indent}
use Rattle.job_layout.specs.Columns.{line_level}
use Rattle.job_layout.proofs.Printing.{deeper_line}
use Rattle.job_layout.proofs.spaced.push_line.Goals as goal

pub returns-in_ok-push_indent-2 : goal.returns-in_ok-push_indent-2
returns-in_ok-push_indent-2 c =
    let out = c.args.out.now.items in
    let level = c.args.level in
    c.in_ok-push_indent-2.ensures
    ∙ ap (λ (xs : List ℕ). xs ++ indent 1) (c.in_ok-push_indent.ensures ∙ ap (λ (xs : List ℕ). xs ++ indent level) c.in_ok-push.ensures.items)
    ∙ append_assoc (out ++ 10 ∷ []) (indent level) (indent 1)
    ∙ append_assoc out (10 ∷ []) (indent level ++ indent 1)
    ∙ ap (λ (xs : List ℕ). out ++ 10 ∷ xs) (deeper_line level)
    ∙ ap (λ (b : Bool). out ++ 10 ∷ indent (line_level level b)) (sym c.if-deeper.true)
