-- What tasks do to limiters and channels, which is served at the end of a round.
use Rattle.std.specs.Prelude.{ℕ, Option, Some, None, List, [], ◌∷◌}
use Rattle.exceptions.specs.Exceptions.{Label}
use Rattle.job_meaning.specs.Log.{Act, opens, asks, gives_back, closes}
use Rattle.job_meaning.specs.Rest.{Event, acts}
use Rattle.task_machine.specs.declared.stop.TaskState.{TaskState}
use Rattle.task_machine.specs.declared.stop.TaskState.TheVariants.{Queued}
use Rattle.task_machine.specs.declared.serving.ObjectAct.{ObjectAct}
use Rattle.task_machine.specs.declared.serving.Act as held
use Rattle.task_machine.specs.declared.serving.Act.TheVariants.{Opens, GivesBack, Closes}

-- the moment in which a task asked the limiter or channel for which it waits, if it waits for one
abbrev pub queued_since : TaskState → Option ℕ
queued_since (Queued object ask since body) = Some since
queued_since _ = None

-- the limiter or channel for which a task waits, if it waits for one
abbrev pub queue_of : TaskState → Option ℕ
queue_of (Queued object ask since body) = Some object
queue_of _ = None

-- an act on the limiter or channel of a label
pub record Acted : Type 0 where
  pub object : Label
  pub act : Act

abbrev pub act_in : held.Act → Act
act_in (Opens kind) = opens kind
act_in GivesBack = gives_back
act_in Closes = closes

abbrev pub acted_of : ObjectAct → Acted
acted_of a = record { object = a.object; act = act_in a.act }

-- an act before others; what a task asks was served in the round in which it asked
abbrev pub acted_before : Label → Act → List Acted → List Acted
acted_before l (opens kind) others = record { object = l; act = opens kind } ∷ others
acted_before l (asks ask part left) others = others
acted_before l gives_back others = record { object = l; act = gives_back } ∷ others
acted_before l closes others = record { object = l; act = closes } ∷ others

-- the acts among events that are to be served in their round, in order
abbrev pub acts_to_serve : List Event → List Acted
acts_to_serve [] = []
acts_to_serve (acts l t a ∷ es) = acted_before l a (acts_to_serve es)
acts_to_serve (_ ∷ es) = acts_to_serve es
