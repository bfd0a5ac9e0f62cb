use Rattle.std.proofs.Common.{◌≡◌, ◌++◌, drop}
use Rattle.std.specs.Prelude.{map}
use Rattle.page.specs.Answers.{warned_of}
use Rattle.page.specs.Views.{warned_held}
use Rattle.page.proofs.warnings.warned_lines.Given as goal

abbrev pub invariant-warnings : goal.invariant-warnings
invariant-warnings l =
    map warned_held l.warned.items ++ map (warned_of l.text) (drop l.warning-index l.warnings) ≡ map (warned_of l.text) l.warnings
