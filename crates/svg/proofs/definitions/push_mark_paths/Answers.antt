use Rattle.std.proofs.Common.{◌∙◌}
use Rattle.std.specs.Prelude.{codes}
use Rattle.std.proofs.lemmas.Result.{on_ok_weaker}
use Rattle.svg.specs.Drawing.{mark_path}
use Rattle.svg.proofs.definitions.push_mark_paths.Goals as goal

pub returns : goal.returns
returns c =
    on_ok_weaker c.push_mark_path-2.result
    (λ h rest. h rest ∙ c.in_ok-push_mark_path.ensures (mark_path (codes "deadline") (codes "M0 8V-8L7-4 0 0") rest))
    c.push_mark_path-2.ensures
