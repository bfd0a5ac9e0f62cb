use Rattle.std.proofs.Common.{◌++◌, ◌∷◌, [], ◌-◌, List, ℕ, sym, ap, ◌∙◌, append_assoc, arith}
use Rattle.job_layout.specs.Spaced.{indent}
use Rattle.job_layout.proofs.Counting.{indent_more}
use Rattle.job_layout.proofs.spaced.push_indent.Goals as goal

pub levels-preserved : goal.levels-preserved
levels-preserved c =
    let more = indent_more c.levels.left (omega (arith, c.levels-test.true)) in
    ap (λ (x : List ℕ). x ++ indent (c.levels.left - 1)) c.in_ok-extend_from_slice.ensures.items
    ∙ append_assoc c.levels.out.items (32 ∷ 32 ∷ []) (indent (c.levels.left - 1))
    ∙ ap (λ (x : List ℕ). c.levels.out.items ++ x) (sym more) ∙ c.levels.invariant
