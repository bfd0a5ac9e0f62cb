-- Differences and entries as the code holds them.
use Rattle.std.specs.Prelude.{ℕ, List, map, drop}
use Rattle.job_meaning.specs.Shown.{Shown}
use Rattle.task_machine.specs.Noted.{entry_of}
use Rattle.task_machine.specs.declared.entry.Entry.{Entry}
use Rattle.race_text.specs.Same.{kept_entries}
use Rattle.race_text.specs.Differences as differences
use Rattle.race_text.specs.declared.tasks.Difference.{Difference}
use Rattle.race_text.specs.declared.tasks.Difference.TheVariants.{Otherwise, Inside}

abbrev pub difference_held : Difference → differences.Difference
difference_held (Otherwise task before after) = differences.otherwise task before.items after.items
difference_held (Inside task) = differences.inside task

-- the entries from an index on
abbrev pub shown_from : List Entry → ℕ → List Shown
shown_from entries n = map entry_of (drop n entries)

-- the entries from an index on, without the exits of scopes with this name
abbrev pub kept_from : List ℕ → List Entry → ℕ → List Shown
kept_from scope entries n = kept_entries scope (shown_from entries n)
