use Rattle.layer_tests.proofs.task_tables.push_ended.Goals as goal

pub returns : goal.returns
returns c = (c.in_ok-row.row, c.in_ok-push.ensures.items, c.in_ok-row.ensures.children, c.in_ok-row.ensures.end)
