use Rattle.std.proofs.Common.{◌≡◌, ◌++◌, ◌∷◌, [], ℕ, List, ap, ◌∙◌, arith}
use Rattle.std.proofs.lemmas.List.{nil_from_length}
use Rattle.task_machine.specs.declared.entry.ScopeFrom.{ScopeFrom}
use Rattle.task_table.proofs.Apart.{TakesTop, apart_first, apart_step, fewer_left, top_has_ended, top_within}
use Rattle.task_table.proofs.Order.{listed_first, listed_step, listed_last}
use Rattle.task_table.proofs.rows.records_of.Goals as goal

pub rows-init : goal.rows-init
rows-init c =
    let stack : c.push.new.self.items ≡ 0 ∷ [] = c.in_ok-push.ensures.items ∙ ap (λ (x : List ℕ). x ++ 0 ∷ []) c.new-stack.ensures.items in
    rw c.as_mut_slice-left.ensures.value record {
      apart = apart_first c.args.rows.items c.push.new.self.items stack c.requires.ended c.requires.tree;
      listed = λ input rs are. listed_first input rs c.args.rows.items _ _ _ stack c.new-records.ensures.items c.new-cancelled_from.ensures.items are;
    }

abbrev takes_top : (c : goal.After-drop-below-in-Some) →
    TakesTop c.rows.left c.take_row-start.new.rows c.rows.stack.items c.push_reversed.new.stack.items
takes_top c = record {
  row_number = c.in-Some.row_number;
  popped = c.pop.new.self.items;
  row = c.take_row-start.result;
  top = c.in-Some.ensures.items;
  was = c.take_row-start.ensures.taken;
  out = c.take_row-start.ensures.left;
  grows = c.in_ok-push_reversed.ensures;
}

pub rows-smaller : goal.rows-smaller
rows-smaller c = fewer_left (takes_top c) c.in-Some-end.ended c.in-Some-end.is

pub rows-preserved : goal.rows-preserved
rows-preserved c = record {
  apart = apart_step c.rows.invariant.apart (takes_top c);
  listed = λ input rs are.
      listed_step (c.rows.invariant.listed input rs are) (takes_top c) c.in-Some-end.ended c.in-Some-end.is
      c.record_and_cancelled_from-record.result.0 c.record_and_cancelled_from-record.ensures.record c.in_ok-push-2.ensures.items
      (c.in_ok-append.ensures.items ∙ ap (λ (x : List ScopeFrom). c.rows.cancelled_from.items ++ x) c.record_and_cancelled_from-record.ensures.cancelled_from);
}

pub returns : goal.returns
returns c = λ input rs are. listed_last
    (nil_from_length c.rows.stack.items (omega (arith, c.rows.stack.ok.0, c.in_default.ensures.cases.0)))
    (c.rows.invariant.listed input rs are)

pub take_row-start-requires : goal.take_row-start-requires
take_row-start-requires c = top_within _ c.in-Some.row_number c.rows.left c.rows.stack.items c.pop.new.self.items c.rows.invariant.apart
    c.in-Some.ensures.items

pub unreachable-requires : goal.unreachable-requires
unreachable-requires c = top_has_ended _ c.in-Some.row_number c.rows.left c.rows.stack.items c.pop.new.self.items c.take_row-start.result
    c.rows.invariant.apart c.in-Some.ensures.items c.take_row-start.ensures.taken c.in_default-end.is
