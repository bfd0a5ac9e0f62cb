use Rattle.std.proofs.Common.{ap, arith}
use Rattle.task_table.specs.Places.{PlacesLeft}
use Rattle.task_table.proofs.PlaceLemmas.{left_is}
use Rattle.task_table.proofs.places.Places.draw.Goals as goal

pub draw_front-place-requires-clause-k : goal.draw_front-place-requires-clause-k
draw_front-place-requires-clause-k c =
    let p = c.self.inside in
    let n = left_is c.args.self.now p.counted p.depth p.span p.first _ p.left c.self.invariant
    (ap (λ (v : PlacesLeft). v.left) c.self.view_is) in
    rw n c.requires.some

pub overflow_sub-self : goal.overflow_sub-self
overflow_sub-self c =
    let p = c.self.inside in
    let n = left_is c.args.self.now p.counted p.depth p.span p.first _ p.left c.self.invariant
    (ap (λ (v : PlacesLeft). v.left) c.self.view_is) in
    omega (arith, n, c.requires.some)
