use Rattle.std.proofs.Common.{refl}
use Rattle.story_waits.specs.Moves.{turn_in}
use Rattle.story_waits.specs.declared.groups.MoveAt.{MoveAt}
use Rattle.story_waits.proofs.GroupLemmas.{group_written, group_put, knows_more}
use Rattle.story_waits.proofs.groups.Groups.read.Goals as goal

pub returns-in-Some : goal.returns-in-Some
returns-in-Some c turns h =
    let at : MoveAt = record { object = c.args.turn.now.object; made = c.args.turn.now.made } in
    knows_more c.args.self.now.tasks (c.get_mut.follows.lender c.push.new.self) at
    (turn_in c.args.turn.now) c.args.turn.now.task turns refl refl refl
    (group_written c.args.self.now.tasks (c.get_mut.follows.lender c.push.new.self) at c.in-Some.tasks.now c.push.new.self
    c.args.turn.now.task (c.get_mut.follows.holds c.push.new.self).3 c.in-Some.ensures.value c.in_ok-push.ensures.items) h

pub returns : goal.returns
returns c turns h =
    let at : MoveAt = record { object = c.args.turn.now.object; made = c.args.turn.now.made } in
    knows_more c.args.self.now.tasks c.insert.new.self at
    (turn_in c.args.turn.now) c.args.turn.now.task turns refl refl refl
    (group_put c.args.self.now.tasks c.get_mut.follows.lender-at-none c.insert.new.self at c.new-tasks.result c.push-2.new.self
    c.args.turn.now.task c.get_mut.follows.holds-at-none c.in_ok-insert.ensures.updates c.in_default.ensures.value c.new-tasks.ensures.items
    c.in_ok-push-2.ensures.items) h
