use Rattle.std.proofs.Common.{◌≡◌, ◌-◌, length, List, Some, sym, ap, ◌∙◌}
use Rattle.std.specs.List.{slice_get}
use Rattle.task_machine.specs.Tasks.{home_scope}
use Rattle.task_machine.specs.declared.task.Own.{Own}
use Rattle.task_machine.proofs.OwnLemmas.{last_own}
use Rattle.task_machine.proofs.task.Task.scope.Goals as goal

pub returns : goal.returns
returns c =
    let own = c.args.self.now.own.items in
    let got : slice_get own (length own - 1) ≡ Some c.in-Some.own.now =
    ap (λ (xs : List Own). slice_get xs (length xs - 1)) (sym c.deref.ensures.value) ∙ sym c.in-Some.ensures.value in
    sym (last_own (home_scope c.args.self.now) own c.in-Some.own.now got)
