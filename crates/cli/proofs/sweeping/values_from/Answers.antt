use Rattle.cli.specs.Values.{values_from}
use Rattle.cli.proofs.Spans.{next_value, next_fits}
use Rattle.cli.proofs.sweeping.values_from.Goals as goal

pub values-preserved : goal.values-preserved
values-preserved c = (
  next_value c.values.values.items c.push.new.self.items (values_from c.args.first c.args.step c.args.count) c.values.value c.args.step
      c.from-value-in-values.result c.values.left c.values-test.true c.from-value-in-values.ensures c.in_ok-push.ensures.items c.values.invariant.0,
  next_fits c.values.value c.args.step c.from-value-in-values.result c.values.left c.args.count c.values-test.true
      c.from-value-in-values.ensures c.ranges.step.fits c.values.invariant.1,
)
