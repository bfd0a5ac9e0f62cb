use Rattle.task_machine.specs.Worlds.{event_at}
use Rattle.task_machine.proofs.Setting.{sets_key}
use Rattle.task_machine.proofs.world.World.set.Goals as goal

pub returns-clause-sets : goal.returns-clause-sets
returns-clause-sets c =
    sets_key c.args.id c.key.result c.args.self.now.tick (event_at c.args.self.now) _ _ _ c.key.ensures c.requires.event c.lower_event.ensures
    c.in_ok-push_back.ensures.items
