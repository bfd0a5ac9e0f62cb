use Rattle.std.specs.Prelude.{[], ◌∷◌, ◌++◌}
use Rattle.story_waits.specs.Moves.{turn_in}
use Rattle.story_waits.specs.Numbers.{number_at}
use Rattle.story_waits.proofs.ServeLemmas.{all_served, all_numbered}
use Rattle.story_waits.proofs.numbers.serve.Goals as goal

pub turns-preserved : goal.turns-preserved
turns-preserved c =
    let served = c.turns.invariant.0 in
    let known = c.turns.invariant.1 in (
      served ++ turn_in c.turn-item.result ∷ [],
      c.in_ok-serve_one.ensures.groups served known,
      all_numbered served c.turns.turn-index c.args.turns.now c.turn-item.result c.turns-test.true c.turn-item.is
          (number_at c.turns.numbers) (number_at c.serve_one.new.numbers) (c.in_ok-serve_one.ensures.numbers served known) c.turns.invariant.2,
      all_served served c.turns.turn-index c.args.turns.now c.turn-item.result c.turns-test.true c.turn-item.is c.turns.invariant.3,
    )
