use Rattle.std.proofs.Common.{ℕ, true, ◌∷◌, ◌++◌, [], Option, ap, sym, ◌∙◌}
use Rattle.cancel_scopes.specs.Tree.{outer_of}
use Rattle.exceptions.specs.Exceptions.{Label}
use Rattle.task_machine.specs.declared.serving.Act.TheVariants.{Closes}
use Rattle.task_machine.specs.Labels.{scope_named}
use Rattle.task_machine.specs.Worlds.{label_at, event_at}
use Rattle.task_machine.proofs.Asks.{closes_some, closes_none}
use Rattle.task_machine.proofs.Cancels.{found_labelled}
use Rattle.task_machine.proofs.task.Task.close.Goals as goal

pub label-requires : goal.label-requires
label-requires c =
    let world = c.args.world.now in
    found_labelled true (label_at world) (event_at world) c.args.name (outer_of world.scopes c.scope.result) c.in-Some.id
    (sym c.find.ensures ∙ c.in-Some.is)

pub returns-in_ok-note_act-clause-at : goal.returns-in_ok-note_act-clause-at
returns-in_ok-note_act-clause-at c =
    let world = c.args.world.now in
    let found = ap (λ (s : Option ℕ). scope_named true (label_at world) (event_at world) c.args.name (outer_of world.scopes s))
    (sym c.scope.ensures) ∙ sym c.find.ensures ∙ c.in-Some.is in
    let noted = c.in_ok-note_act.ensures.noted
    ∙ ap (λ (l : Label). world.acts.items ++ record { object = l; act = Closes } ∷ []) c.in_ok-label.ensures in
    closes_some (label_at world) (event_at world) c.args.name _ world.tick world.acts.items c.in-Some.id c.label.result.now
    c.note_act.new.self.acts.items found c.label.ensures noted

pub returns-in_default-clause-at : goal.returns-in_default-clause-at
returns-in_default-clause-at c =
    let world = c.args.world.now in
    let none = ap (λ (s : Option ℕ). scope_named true (label_at world) (event_at world) c.args.name (outer_of world.scopes s))
    (sym c.scope.ensures) ∙ sym c.find.ensures ∙ c.in_default.is in
    closes_none (label_at world) (event_at world) c.args.name _ world.tick world.acts.items none
