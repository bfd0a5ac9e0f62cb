use Rattle.std.specs.Prelude.{ℕ, List}
use Rattle.std.proofs.Common.{length}
use Rattle.interleavings.specs.Rows as interleaving
use Rattle.task_table.specs.Rows.{AreShown}
use Rattle.task_table.proofs.Apart.{Apart, rows_left}
use Rattle.task_table.proofs.Order.{Listed}
use Rattle.task_table.proofs.rows.records_of.Given as goal

abbrev pub invariant-rows : goal.invariant-rows
invariant-rows l = record {
  apart : Apart (length l.fn.rows.items) l.left l.stack.items;
  listed : (input : List ℕ) (rs : ℕ → interleaving.Row) → AreShown input rs l.fn.rows.items →
      Listed input rs l.left l.stack.items l.records.items l.cancelled_from.items;
}

abbrev pub decreases-rows : goal.decreases-rows
decreases-rows l = rows_left l.left
