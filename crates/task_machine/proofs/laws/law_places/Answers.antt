use Rattle.task_machine.proofs.laws.law_places.Goals as goal
use Rattle.task_machine.proofs.Stacked.{seen_at, catches_at, named_at, named_is_in, signed_alike, set_alike, entered_alike}

pub returns-clause-seen : goal.returns-clause-seen
returns-clause-seen c = seen_at

pub returns-clause-caught : goal.returns-clause-caught
returns-clause-caught c = catches_at

pub returns-clause-found : goal.returns-clause-found
returns-clause-found c = λ sought labels events cancelled_from name st ps a. (
  named_at sought labels events cancelled_from name st ps a,
  named_is_in sought labels events name st,
)

pub returns-clause-signed : goal.returns-clause-signed
returns-clause-signed c = signed_alike

pub returns-clause-set : goal.returns-clause-set
returns-clause-set c = set_alike

pub returns-clause-entered : goal.returns-clause-entered
returns-clause-entered c = entered_alike
