-- How the limiters and channels of a run serve what is done to them.
use Rattle.std.specs.Prelude.{◌≡◌, ℕ, Bool, true, false, Option, Some, None, List, All, map}
use Rattle.std.specs.List.{filter}
use Rattle.std.specs.Option.{ForSome, option_map}
use Rattle.exceptions.specs.Exceptions.{Label}
use Rattle.job_tree.specs.declared.object.ObjectKind.{ObjectKind}
use Rattle.job_meaning.specs.Log.{same_label}
use Rattle.objects.specs.Held.{Gets, Serves, gets_in, new_object, object_in, AreGivenOf, AreQueuedBy, IsObjectOf}
use Rattle.objects.specs.declared.given.Given.{Given}
use Rattle.objects.specs.declared.object.Object.{Object}
use Rattle.objects.specs.declared.object.Operation.{Operation}
use Rattle.objects.specs.declared.object.Operation.TheVariants as operations
use Rattle.objects.specs.declared.ticket.Ticket.{Ticket}
use Rattle.run_refinement.specs.Sharing.{Served, serve_all, acts_on, InRecordOrder}
use Rattle.task_table.specs.TaskTable.{path_of}
use Rattle.task_table.specs.declared.task_table.TaskTable.{TaskTable}
use Rattle.job_runner.specs.declared.objects_by_label.ObjectTable.{ObjectTable}
use Rattle.job_runner.specs.declared.serving.Done.{Done}
use Rattle.job_runner.specs.declared.serving.Done.TheVariants.{Opens as opened, Asks, GivesBack, Closes}
use Rattle.job_runner.specs.declared.serving.PlacedAct.{PlacedAct}
use Rattle.job_runner.specs.declared.serving.RoundAct.{RoundAct}
use Rattle.job_runner.specs.Shared.{object_at, round_act_of}

-- every other label keeps its limiter or channel
abbrev pub OthersStay : Label → ObjectTable → ObjectTable → Type 0
OthersStay label old new = (other : Label) → same_label other label ≡ false → object_at new other ≡ object_at old other

-- a limiter or channel of this kind was opened, unless one was open before
abbrev pub OpensIf : ObjectKind → Option Object → Option Object → Type 0
OpensIf kind None None = ⊥
OpensIf kind None (Some new) =
    ((waits : Ticket → Bool) → object_in waits new ≡ new_object kind) × ((test : Ticket → Bool) → AreQueuedBy test new)
    × ((input : List ℕ) → IsObjectOf input new)
OpensIf kind (Some old) new = new ≡ Some old

-- that of this label
pub record Opens (kind : ObjectKind) (label : Label) (old new : ObjectTable) : Type 0 where
  pub opened : OpensIf kind (object_at old label) (object_at new label)
  pub others : OthersStay label old new

-- that of this label served what was done to it, if it was opened
abbrev pub ServesIf : (Ticket → Bool) → Operation → Option Object → Option Object → (before after : List Given) → Type 0
ServesIf waits operation None new before after = (new ≡ None) × (after ≡ before)
ServesIf waits operation (Some old) None before after = ⊥
ServesIf waits operation (Some old) (Some new) before after = Serves waits old new operation before after

pub record ServesAt (waits : Ticket → Bool) (operation : Operation) (label : Label) (old new : ObjectTable) (before after : List Given) : Type 0
  where
    pub served : ServesIf waits operation (object_at old label) (object_at new label) before after
    pub others : OthersStay label old new

-- What the task of a ticket did to that of this label is served.
abbrev pub ServesDone : (Ticket → Bool) → Ticket → Done → Label → ObjectTable → ObjectTable → (before after : List Given) → Type 0
ServesDone waits who (opened kind) label old new before after = Opens kind label old new × (after ≡ before)
ServesDone waits who (Asks ask part) label old new before after = ServesAt waits (operations.Asks who ask part) label old new before after
ServesDone waits who GivesBack label old new before after = ServesAt waits operations.GivesBack label old new before after
ServesDone waits who Closes label old new before after = ServesAt waits operations.Closes label old new before after

-- an act of a moment is
abbrev pub ServesAct : (Ticket → Bool) → ℕ → ObjectTable → ObjectTable → RoundAct → (before after : List Given) → Type 0
ServesAct waits t old new a before after =
    ServesDone waits (record { row = a.row; since = t }) a.done a.object old new before after

-- the parts that limiters and channels hold are of this input
abbrev pub HoldParts : List ℕ → ObjectTable → Type 0
HoldParts input table = (l : Label) → ForSome (object_at table l) (IsObjectOf input)

-- and stay so, with those that are granted
abbrev pub StayLent : List ℕ → (old new : ObjectTable) → (before after : List Given) → Type 0
StayLent input old new before after = HoldParts input old → AreGivenOf input before → HoldParts input new × AreGivenOf input after

-- ---- what was done in a moment

-- the acts in the order of records
abbrev pub act_of_placed : PlacedAct → RoundAct
act_of_placed placed = placed.act

abbrev pub AreOrdered : TaskTable → List RoundAct → List PlacedAct → Type 0
AreOrdered table round ordered = InRecordOrder (path_of table) (map round_act_of round) (map round_act_of (map act_of_placed ordered))

-- what a limiter or channel granted
pub record Granting : Type 0 where
  pub object : Label
  pub gets : Gets

-- what that of a label did
abbrev pub granted_on : Label → List Granting → List Gets
granted_on l granted = map (λ (g : Granting). g.gets) (filter (λ (g : Granting). same_label l g.object) granted)

-- That of a label after what was done to it in a moment by these acts, with what it granted.
abbrev pub served_on : (Ticket → Bool) → ℕ → Label → ObjectTable → List RoundAct → Served
served_on waits t l table acts = serve_all waits t (option_map (object_in waits) (object_at table l)) (acts_on l (map round_act_of acts))

-- These acts were served, one after the other. Nobody gets into a queue but who asks in this moment.
pub record ServesActs (waits : Ticket → Bool) (t : ℕ) (old new : ObjectTable) (acts : List RoundAct) (given : List Given) : Type 0 where
  pub objects : (l : Label) → option_map (object_in waits) (object_at new l) ≡ (served_on waits t l old acts).object
  pub granted : List Granting
  pub given_is : map gets_in given ≡ map (λ (g : Granting). g.gets) granted
  pub each : (l : Label) → granted_on l granted ≡ (served_on waits t l old acts).gets
  pub queued :
      (test : Ticket → Bool) → ((row : ℕ) → test (record { row = row; since = t }) ≡ true) →
      ((l : Label) → ForSome (object_at old l) (AreQueuedBy test)) → (l : Label) → ForSome (object_at new l) (AreQueuedBy test)

-- each act has the rows from the root's to that of its task
pub record ArePlaced (table : TaskTable) (round : List RoundAct) (placed : List PlacedAct) : Type 0 where
  pub acts : map act_of_placed placed ≡ round
  pub paths : All (λ (p : PlacedAct). p.path.items ≡ path_of table p.act.row) placed
