-- What a table of the code knows of what limiters and channels granted.
use Rattle.std.specs.Prelude.{ℕ, ◌==◌, ◌&&◌, Bool, Option, List}
use Rattle.std.specs.Option.{option_map, ForSome}
use Rattle.indexmap.specs.IndexMap.{get}
use Rattle.exceptions.specs.Exceptions.{Label}
use Rattle.exceptions.specs.Labels.{same_label}
use Rattle.objects.specs.Held.{what_in, IsGrantOf}
use Rattle.job_meaning.specs.Sharing as sharing
use Rattle.job_meaning.specs.declared.grant_table.Asking.{Asking}
use Rattle.job_meaning.specs.declared.grant_table.Granted.{Granted}
use Rattle.job_meaning.specs.declared.grant_table.GrantTable.{GrantTable}

abbrev pub same_asking : Asking → Asking → Bool
same_asking a b = same_label a.object b.object && (same_label a.task b.task && (a.since == b.since))

-- whether a task that asked a limiter or channel in a moment is this one
abbrev pub is_asking : (object task : Label) → (since : ℕ) → (other asker : Label) → (u : ℕ) → Bool
is_asking object task since other asker u =
    same_asking (record { object = object; task = task; since = since }) (record { object = other; task = asker; since = u })

-- what was granted to a task that asked in a moment
abbrev pub made_in : GrantTable → (object task : Label) → ℕ → Option Granted
made_in table object task since = get same_asking table.made (record { object = object; task = task; since = since })

abbrev pub granted_of : Granted → sharing.Granted
granted_of g = record { at = g.at; what = what_in g.grant }

-- as grants of the definitions
abbrev pub grants_made : GrantTable → sharing.Grants
grants_made table object asker m = option_map granted_of (made_in table object asker m)

-- the parts that were granted are of this input
abbrev pub AreGrantsOf : List ℕ → GrantTable → Type 0
AreGrantsOf input table = (object asker : Label) (m : ℕ) → ForSome (made_in table object asker m) (λ (g : Granted). IsGrantOf input g.grant)
