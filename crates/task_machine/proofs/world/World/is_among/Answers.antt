use Rattle.std.proofs.Common.{rules, ◌≡◌, Option, Some, ap, sym, ◌∙◌}
use Rattle.exceptions.specs.Exceptions.{Label}
use Rattle.task_machine.specs.Labels.{has_label_among}
use Rattle.task_machine.specs.Worlds.{label_at}
use Rattle.task_machine.proofs.Catching.{among_any}
use Rattle.task_machine.proofs.world.World.is_among.Goals as goal

pub returns-in-Some-Some : goal.returns-in-Some-Some
returns-in-Some-Some c =
    let at : label_at c.args.self.now c.args.id ≡ Some c.in-Some-Some.label = search rules in
    c.contains.ensures.value ∙ among_any c.in-Some-Some.label c.args.cancelled.now.items
    ∙ sym (ap (λ (o : Option Label). has_label_among o c.args.cancelled.now.items) at)
