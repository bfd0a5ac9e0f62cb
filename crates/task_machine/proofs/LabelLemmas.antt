-- Indices of labels and of events.
use Rattle.std.proofs.Common.{◌≡◌, ℕ, zero, suc, List, [], ◌∷◌, ◌++◌, Option, None, refl}
use Rattle.exceptions.specs.Exceptions.{Label}
use Rattle.task_machine.specs.Labels.{label_in, event_in}
use Rattle.task_machine.specs.declared.events.EventState.{EventState}

-- one more index without a label changes none
pub label_in-push : (labels : List (Option Label)) (at : ℕ) → label_in (labels ++ None ∷ []) at ≡ label_in labels at
label_in-push [] zero = refl
label_in-push [] (suc at) = refl
label_in-push (l ∷ ls) zero = refl
label_in-push (l ∷ ls) (suc at) = label_in-push ls at

-- one more index without an event changes none
pub event_in-push : (events : List (Option EventState)) (at : ℕ) → event_in (events ++ None ∷ []) at ≡ event_in events at
event_in-push [] zero = refl
event_in-push [] (suc at) = refl
event_in-push (e ∷ es) zero = refl
event_in-push (e ∷ es) (suc at) = event_in-push es at
