-- A root before its first turn, in a world in which no scope is open, and one that fell asleep in that turn.
use Rattle.std.proofs.Common.{◌≡◌, ◌<◌, ℕ, Option, Some, None, List, [], ◌∷◌, map, length, refl, ap, sym, ◌∙◌, subst}
use Rattle.std.specs.Prelude.{◌≤◌, All}
use Rattle.std.specs.Option.{ForSome}
use Rattle.std.specs.List.{last_or}
use Rattle.std.proofs.lemmas.List.Elements.{All-nil}
use Rattle.input_lines.specs.Part.{buffer_of}
use Rattle.cancel_scopes.specs.Tree.{Stack, stack_of, outer_of, IsOpen}
use Rattle.job_tree.specs.Tree.{Tree as Job}
use Rattle.job_tree.specs.InRange.{AreInRange}
use Rattle.job_tree.specs.Names.{GivesNamesOnce}
use Rattle.job_tree.specs.Starting.{StartsInNurseries}
use Rattle.job_meaning.specs.Log.{Table}
use Rattle.job_meaning.specs.Rest as rest
use Rattle.job_meaning.specs.declared.limits.TheConstants.{MAX_INPUT}
use Rattle.turn_semantics.specs.Midway.{Move}
use Rattle.turn_semantics.specs.Names.{NewIn}
use Rattle.turn_semantics.specs.Placed.{Placed}
use Rattle.turn_semantics.proofs.Names.{new_job}
use Rattle.task_machine.specs.States.{state_of}
use Rattle.task_machine.specs.declared.stop.TaskState.{TaskState}
use Rattle.task_machine.specs.declared.stop.TaskState.TheVariants.{ToBegin, Asked, Asleep, Waiting, Queued, GivingUp, Awaits, Over}
use Rattle.task_machine.specs.declared.stop.Stop.{Stop}
use Rattle.task_machine.specs.declared.stop.Stop.TheVariants.{Sleep}
use Rattle.task_machine.specs.declared.stop.Wake.TheVariants.{Begin, Due}
use Rattle.task_machine.specs.declared.task.Home.{Home}
use Rattle.task_machine.specs.declared.task.Own.{Own}
use Rattle.task_machine.specs.declared.task.Task.{Task}
use Rattle.task_machine.specs.declared.world.World.{World}
use Rattle.task_machine.specs.Fitting.{AreOf, Block, blocks_of, AreInRangeFrames, StartsFit, Opened, Fits, waits_of}
use Rattle.task_machine.specs.Frames.{frames_of, Lent}
use Rattle.task_machine.specs.Left.{OwnFirst}
use Rattle.task_machine.specs.Stacked.{AreAt}
use Rattle.task_machine.specs.Standing.{HasBlock, Stands, TookTo, TurnsAs, woken_at}
use Rattle.task_machine.specs.Stops.{Numbers, IsTaskState, StopsAs}
use Rattle.task_machine.specs.Tasks.{home_scope, scope_of, lent_of}
use Rattle.task_machine.specs.Waking.{WakesFrom}
use Rattle.task_machine.specs.Worlds.{label_at, event_at}
use Rattle.task_machine.proofs.Stopping.{no_blocks_begun, none_received}

abbrev no_numbers : Numbers
no_numbers id = []

abbrev none_cancelled_from : Table
none_cancelled_from l = None

module _ (job : Job) (root : Task) (home : root.home ≡ None) (own : root.own.items ≡ []) (task_state : root.task_state ≡ ToBegin 0)
    (frames : (numbers : ℕ → List ℕ) → frames_of numbers root.frames.items ≡ rest.steps_left job.steps ∷ []) where
  blocks : blocks_of root.frames.items ≡ []
  blocks = no_blocks_begun no_numbers root.frames.items job.steps (frames no_numbers)

  no_home : home_scope root ≡ None
  no_home = ap scope_by home
    where
      scope_by : Option Home → Option ℕ
      scope_by None = None
      scope_by (Some h) = Some h.scope

  no_scope : scope_of root ≡ None
  no_scope = ap (λ (os : List Own). last_or (home_scope root) (map (λ (o : Own). o.id) os)) own ∙ no_home

  -- a root that has not begun fits a world in which no scope is open
  pub root_fits : (world : World) → AreInRange job.steps → StartsInNurseries job →
      length (buffer_of root.part) ≤ MAX_INPUT →
      ((key : ℕ) → stack_of world.scopes key ≡ None) → Fits (state_of root world) (waits_of root.task_state)
  root_fits world in_range starting small none =
      record {
        runs = record {
          in_range = subst AreInRangeFrames (sym (frames no_numbers)) (in_range, tt);
          lent = subst (AreOf (buffer_of root.part)) (sym (none_received no_numbers root.frames.items job.steps (frames no_numbers))) tt;
          starts = subst StartsFit (sym (frames no_numbers)) (starting, tt);
          home = subst (λ (o : Option ℕ). ForSome o (IsOpen world.scopes)) (sym no_home) (λ x e. absurd (let f : None ≡ Some x = e in cc));
          scope = subst (λ (o : Option ℕ). ForSome o (IsOpen world.scopes)) (sym no_scope) (λ x e. absurd (let f : None ≡ Some x = e in cc));
          first = subst (OwnFirst world.scopes (home_scope root)) (sym own) refl;
          cancelled_from = subst (λ (os : List Own). All (λ (o : Own). o.at < length root.cancelled_from.items) os) (sym own)
              (All-nil (λ (o : Own). o.at < length root.cancelled_from.items));
          opened = subst (λ (bs : List Block). Opened (label_at world) world.book bs root.own.items (waits_of root.task_state)) (sym blocks)
              (subst (λ (os : List Own). Opened (label_at world) world.book [] os (waits_of root.task_state)) (sym own)
              (subst (λ (w : Option ℕ). Opened (label_at world) world.book [] [] w) (sym (ap waits_of task_state)) tt));
        };
        small = small;
        others = λ key st found apart i o at inside. absurd (let f : None ≡ Some st = sym (none key) ∙ found in cc);
      }

  -- and its state is that of the definitions
  root_stands : (world : World) → StartsInNurseries job → GivesNamesOnce job →
      Stands (state_of root world) none_cancelled_from no_numbers (Some rest.to_begin) []
  root_stands world starting names =
      record {
        places = subst (λ (st : Stack). AreAt (label_at world) (event_at world) none_cancelled_from st []) (sym (ap (outer_of world.scopes) no_scope)) tt;
        numbered = λ id i. absurd (let h : ⊥ = subst (λ (bs : List Block). HasBlock id bs) blocks i in h);
        placed = subst (λ (fs : List rest.Frame). Placed fs []) (sym (frames no_numbers)) (starting, tt);
        new = subst (λ (fs : List rest.Frame). NewIn fs []) (sym (frames no_numbers)) (new_job job names);
        stop = tt;
        own = tt;
        event = tt;
      }

  -- so it continues when it is due, if its first turn said that it sleeps
  pub root_sleeps : (world now : World) (after : Task) (stop : Stop) → StartsInNurseries job → GivesNamesOnce job →
      TurnsAs (state_of root world) (state_of after now) Begin stop → (due : ℕ) → stop ≡ Sleep due → (lent : Lent) → WakesFrom after.task_state lent now.book Due
  root_sleeps world now after stop starting names turn due is lent =
      by_took _ (turn none_cancelled_from no_numbers [] 0 rest.to_begin
      (subst (λ (h : TaskState). IsTaskState no_numbers world.book h rest.to_begin) (sym task_state) tt) (root_stands world starting names)).took
    where
      by_task_state : (numbers : Numbers) (o : Option rest.Stopped) (h : TaskState) → StopsAs world.clock numbers now.book (lent_of after) (Sleep due) h o →
          WakesFrom h lent now.book Due
      by_task_state numbers None h says = absurd says
      by_task_state numbers (Some s) (ToBegin at) says = absurd says.1
      by_task_state numbers (Some s) (Asked kernel purpose) says = absurd says.1
      by_task_state numbers (Some s) (Asleep paced ticks since) says = tt
      by_task_state numbers (Some s) (Waiting event since) says = absurd says.1
      by_task_state numbers (Some s) (Queued object ask since body) says = absurd says.1
      by_task_state numbers (Some s) (GivingUp since) says = absurd says.1
      by_task_state numbers (Some s) (Awaits id since) says = absurd says.1
      by_task_state numbers (Some s) Over says = absurd says.1

      by_took : (o : Move) → TookTo (woken_at Begin (state_of root world)) (state_of after now) stop none_cancelled_from no_numbers o → WakesFrom after.task_state lent now.book Due
      by_took o took =
          by_task_state took.numbers_after o.stopped after.task_state
          (subst (λ (s : Stop). StopsAs world.clock took.numbers_after now.book (lent_of after) s after.task_state o.stopped) is took.moves.1)
