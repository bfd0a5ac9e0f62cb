-- How the walk appends warnings.
use Rattle.std.specs.Prelude.{◌≡◌, List, ◌++◌}
use Rattle.job_lint.specs.declared.warning.Warning.{Warning}

-- warnings are appended, whatever warnings follow
abbrev pub Adds : List Warning → List Warning → (List Warning → List Warning) → Type 0
Adds old new warnings = (others : List Warning) → old ++ warnings others ≡ new ++ others
