-- What clauses state about the records of a run.
use Rattle.std.specs.Prelude.{ℕ, List, map, All}
use Rattle.exceptions.specs.Held.{exc_of}
use Rattle.job_meaning.specs.Shown.{Ending, well, by_cancellation, with_exception, Row}
use Rattle.task_machine.specs.Noted.{entry_of, IsSlice}
use Rattle.task_table.specs.declared.record.Outcome.{Outcome}
use Rattle.task_table.specs.declared.record.Outcome.TheVariants as outcomes
use Rattle.task_table.specs.declared.record.Record.{Record}

-- how a task ended
abbrev pub ending_in : Outcome → Ending
ending_in outcomes.Done = well
ending_in outcomes.Cancelled = by_cancellation
ending_in (outcomes.Raised e) = with_exception (exc_of e)

-- a record as it is shown
abbrev pub row_in : Record → Row
row_in r = record {
  label = r.label;
  start = r.from_tick;
  end = r.to_tick;
  ending = ending_in r.outcome;
  entries =
      map entry_of r.entries.items;
}

-- every line of the records is the slice of the input at its place
abbrev pub AreSlices : List ℕ → List Record → Type 0
AreSlices input records = All (λ r. All (IsSlice input) r.entries.items) records
