use Rattle.std.proofs.Common.{ap}
use Rattle.task_table.specs.Places.{PlacesLeft}
use Rattle.task_table.proofs.PlaceLemmas.{left_is}
use Rattle.task_table.proofs.places.Places.len.Goals as goal

pub returns : goal.returns
returns c =
    let p = c.self.inside in
    left_is c.args.self.now p.counted p.depth p.span p.first _ p.left c.self.invariant (ap (λ (v : PlacesLeft). v.left) c.self.view_is)
