-- What contracts see of the table with the moments from which scopes and nurseries are cancelled, and events are set.
use Rattle.std.specs.Prelude.{Option, Some, None, List, [], ◌∷◌, if◌then◌else◌}
use Rattle.indexmap.specs.IndexMap.{get}
use Rattle.cancel_scopes.specs.Sight.{Tick}
use Rattle.job_meaning.specs.Log.{Table, same_label}
use Rattle.job_meaning.specs.Meaning.{From}
use Rattle.job_story.specs.declared.cancelled_from.CancelledFrom.{CancelledFrom}

-- the moment of an entry, or never where there is none
abbrev pub or_never : Option Tick → Tick
or_never None = None
or_never (Some from) = from

-- as a table
abbrev pub table_in : CancelledFrom → Table
table_in cancelled_from label = or_never (get same_label cancelled_from.all label)

-- the empty table, in which every label is never cancelled, or set
abbrev pub never : Table
never label = None

-- a table after these were set in turn
abbrev pub set_in : Table → List From → Table
set_in table [] label = table label
set_in table (f ∷ fs) label = set_in (λ l. if same_label f.label l then f.seen else table l) fs label
