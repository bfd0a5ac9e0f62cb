-- The values of the code: the names of scopes and nurseries that are opened.
use Rattle.std.specs.Prelude.{ℕ, List, [], ◌∷◌}
use Rattle.job_lint.specs.declared.opened.Opened.{Opened, Nothing, Block'}

abbrev pub names_opened : Opened → List (List ℕ)
names_opened Nothing = []
names_opened (Block' name p outer) = name.now ∷ names_opened outer
