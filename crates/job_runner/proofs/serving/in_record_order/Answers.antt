use Rattle.std.proofs.Common.{rules, ◌≡◌}
use Rattle.std.specs.Fn.{ComparesAs}
use Rattle.std.specs.Ordering.{is_lt}
use Rattle.std.proofs.lemmas.Fn.{always_returns_same}
use Rattle.job_runner.proofs.RecordOrder.{comes_before, in_order, order_lent}
use Rattle.job_runner.proofs.serving.in_record_order.Goals as goal

pub returns-clause-order : goal.returns-clause-order
returns-clause-order c =
    in_order c.args.task_table.now c.in_ok-placed.placed.items c.sort_by.new.self.items c.in_ok-placed.ensures.paths c.in_ok-sort_by.ensures.permutation
    (λ lt. ComparesAs _ lt _) c.in_ok-placed.ensures.acts c.in_ok-sort_by.ensures.sorted c.in_ok-sort_by.ensures.stable
    (always_returns_same _ (λ a r. is_lt r ≡ comes_before a.0.now a.1.0.now) _ (λ a r f' k. search rules))

pub returns-clause-lent : goal.returns-clause-lent
returns-clause-lent c =
    order_lent c.args.task_table.now c.in_ok-placed.placed.items c.sort_by.new.self.items c.in_ok-placed.ensures.paths c.in_ok-sort_by.ensures.permutation
    c.in_ok-placed.ensures.acts
