use Rattle.std.proofs.Common.{◌≡◌, map}
use Rattle.exceptions.specs.Exceptions.{Label}
use Rattle.task_machine.specs.Noted.{from_of}
use Rattle.job_story.specs.CancelledFrom.{table_in, set_in}
use Rattle.job_answers.proofs.table.fill.Given as goal

abbrev pub invariant-loop-from : goal.invariant-loop-from
invariant-loop-from l = (label : Label) →
    set_in (table_in l.table) (map from_of l.from-iterator.rest.items) label
    ≡ set_in (table_in l.fn.table) (map from_of l.fn.cancelled_from.items) label
