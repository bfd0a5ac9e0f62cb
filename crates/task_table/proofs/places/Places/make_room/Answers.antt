use Rattle.std.proofs.Common.{ap, arith}
use Rattle.task_table.specs.Places.{PlacesLeft}
use Rattle.task_table.proofs.places.Places.make_room.Goals as goal

pub overflow_add-room : goal.overflow_add-room
overflow_add-room c =
    let counts = c.self.inside.counts in
    let room = ap (λ (v : PlacesLeft). v.room) c.self.view_is in
    omega (arith, room, counts.ok.0, counts.ok.1, counts.small, c.requires)

pub overflow_add-room-2 : goal.overflow_add-room-2
overflow_add-room-2 c =
    let counts = c.self.inside.counts in
    let room = ap (λ (v : PlacesLeft). v.room) c.self.view_is in
    omega (arith, room, counts.ok.0, counts.ok.1, counts.small, c.requires)

pub overflow_add-room-3 : goal.overflow_add-room-3
overflow_add-room-3 c =
    let counts = c.self.inside.counts in
    let room = ap (λ (v : PlacesLeft). v.room) c.self.view_is in
    omega (arith, room, counts.ok.0, counts.ok.1, counts.small, c.requires)
