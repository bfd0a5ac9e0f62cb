use Rattle.std.proofs.Common.{Some, arith, refl, sym, ◌∙◌}
use Rattle.std.specs.Vec.{with_item}
use Rattle.std.proofs.lemmas.Option.{slice_get_read}
use Rattle.task_table.specs.declared.rows.Ended.{Ended}
use Rattle.task_table.specs.declared.task_table.TaskTable.{TaskTable}
use Rattle.task_table.proofs.TaskTables.{Closes, within, ends, agrees_ended}
use Rattle.task_table.proofs.task_table.TaskTable.end.Goals as goal

pub index_mut-requires : goal.index_mut-requires
index_mut-requires c = omega (
  arith,
  within c.args.self.now c.args.id c.in-Some.field-0 c.requires.agree
      (sym c.take.ensures.value ∙ c.in-Some.is),
  c.args.self.now.rows.ok.0,
)

abbrev its_end : goal.Joined-index_mut → Ended
its_end c = record {
  label = c.into_parts-label.result.0;
  tick = c.args.tick;
  exc = c.in_ok-in_box.in_box;
  entries = c.into_parts-label.result.1;
  cancelled_from = c.into_parts-label.result.2;
}

abbrev after_end : goal.Joined-index_mut → TaskTable
after_end c = record (c.args.self.now) {
  live = c.take.new.self;
  rows = with_item c.args.self.now.rows c.in-Some.field-0.row (record (c.index_mut.result.now) { end = Some (its_end c) });
}

closes : (c : goal.Joined-index_mut) → Closes c.args.self.now (after_end c) c.args.id c.args.tick c.args.exc c.in-Some.field-0
closes c =
    let lived = sym c.take.ensures.value ∙ c.in-Some.is in
    record {
      before = c.index_mut.result.now;
      ended = its_end c;
      writes = record {
        lived = lived;
        live = c.take.ensures.emptied;
        was = slice_get_read _ _ c.in-Some.field-0.row c.index_mut.result.now refl
            (within c.args.self.now c.args.id c.in-Some.field-0 c.requires.agree lived) c.index_mut.ensures.value;
        same = refl;
        rows = refl;
      };
      label = c.into_parts-label.ensures.label;
      tick_is = refl;
      exc_is = c.in_ok-in_box.ensures;
      entries = c.into_parts-label.ensures.entries;
      cancelled_from = c.into_parts-label.ensures.cancelled_from;
    }

pub returns-clause-ended : goal.returns-clause-ended
returns-clause-ended c = ends c.requires.agree (closes c)

pub returns-clause-agree : goal.returns-clause-agree
returns-clause-agree c = agrees_ended c.requires.agree (closes c)
