use Rattle.std.proofs.Common.{◌∙◌}
use Rattle.std.specs.Prelude.{codes}
use Rattle.std.proofs.lemmas.Result.{on_ok_weaker}
use Rattle.svg.specs.Drawing.{fill, mark_paths}
use Rattle.svg.proofs.definitions.push_each.Goals as goal

pub returns : goal.returns
returns c =
    on_ok_weaker c.push_mark_paths.result
    (λ h rest.
    let crossed = fill (codes "crossed") (codes "M0 6 6 0M0 0 6 6") (mark_paths rest) in
    h rest ∙ c.in_ok-push_fill-2.ensures (mark_paths rest) ∙ c.in_ok-push_fill.ensures crossed
    ∙ c.in_ok-push_arrow_head.ensures (fill (codes "slanted") (codes "M0 6 6 0") crossed))
    c.push_mark_paths.ensures
