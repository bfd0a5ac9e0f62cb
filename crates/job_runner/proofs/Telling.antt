-- The sleepers are updated with each effective deadline (`sight`) that was lowered: the scope is no longer
-- marked, and they know what it shows.
use Rattle.std.proofs.Common.{◌≡◌, inl, inr, ℕ, ◌<◌, Bool, true, false, Option, Some, None, List, length, refl, ap, sym, ◌∙◌, subst}
use Rattle.std.specs.Prelude.{◌⊎◌}
use Rattle.std.specs.Option.{ForSome}
use Rattle.task_table.specs.declared.entry.Call.{Call}
use Rattle.cancel_scopes.specs.Sight.{Tick, sight}
use Rattle.cancel_scopes.specs.Tree.{Tree, stack_of, is_changed, IsOpen, SameMarks, OtherMarksKeep, TakesChanged}
use Rattle.std.proofs.lemmas.Bool.{cases_eq}
use Rattle.std.proofs.lemmas.List.Elements.{All-weaker}
use Rattle.task_machine.specs.declared.stop.TaskState.{TaskState}
use Rattle.task_machine.specs.declared.stop.TaskState.TheVariants.{ToBegin, Asleep, Waiting, Queued, GivingUp, Awaits}
use Rattle.task_machine.specs.declared.stop.Wake.{Wake}
use Rattle.task_machine.specs.declared.stop.Wake.TheVariants as wakes
use Rattle.task_machine.specs.declared.task.Task.{Task}
use Rattle.task_machine.specs.declared.world.World.{World}
use Rattle.task_machine.specs.Tasks.{scope_of}
use Rattle.task_machine.specs.Worlds.{event_at}
use Rattle.run_refinement.specs.Ready.{IsTimely}
use Rattle.run_refinement.specs.Sights.{Shows}
use Rattle.run_refinement.proofs.Jumped.{state_takes}
use Rattle.clock.specs.Sleeping.{Sleeping, scope_in, sight_of, SameScopes, Sees}
use Rattle.task_table.specs.declared.task_table.TaskTable.{TaskTable}
use Rattle.objects.specs.Whats.{What}
use Rattle.task_table.specs.Entries.{Added}
use Rattle.task_table.specs.declared.task_table.Running.{Running}
use Rattle.task_table.specs.TaskTable.{running_at, task_count}
use Rattle.job_runner.specs.declared.runner.Runner.{Runner}
use Rattle.job_runner.specs.Shared.{what_of, later_calls}
use Rattle.job_runner.specs.Shelves.{GoesBy, IsCalled, IsCalledAdded, IsCalledEntry, IsCalledLater, ContinuesLater, IsConsistent, Stays, AllStay, AreKnown, NoneChanged, state_in, IsRefined, IsGoing}
use Rattle.job_runner.specs.Steps.{SeesOnly}
use Rattle.job_runner.proofs.Counting.{count_below, fewer_below, found_within}
use Rattle.job_runner.proofs.Options.{some_kept}
use Rattle.job_runner.proofs.Staying.{same_event, stays_still, continues_still}

-- a world with other scopes marked
abbrev pub marked : World → List Bool → World
marked world changed = record world { scopes = record (world.scopes) { changed = changed } }

-- ---- a task that may continue may still do so

timely_marked : (w : World) (changed : List Bool) (what : Option What) (scope : Option ℕ) (task_state : TaskState) (wake : Wake) →
    IsTimely w what scope task_state wake → IsTimely (marked w changed) what scope task_state wake
timely_marked w changed what scope (ToBegin at) wake h = h
timely_marked w changed what scope (Asleep paced ticks since) wakes.Due h = h
timely_marked w changed what scope (Asleep paced ticks since) wakes.Seen h = h
timely_marked w changed what scope (Waiting event since) wakes.Due h = h
timely_marked w changed what scope (Waiting event since) wakes.Seen h = h
timely_marked w changed what scope (Queued object ask since body) (wakes.Granted grant) h = h
timely_marked w changed what scope (Queued object ask since body) wakes.Seen h = h
timely_marked w changed what scope (Queued object ask since body) wakes.Due h = h
timely_marked w changed what scope (GivingUp since) wake h = h
timely_marked w changed what scope (Awaits id since) wake h = h
timely_marked w changed what scope _ _ h = h

goes_marked : (w : World) (changed : List Bool) (task : Task) (call : Call) → GoesBy w task call → GoesBy (marked w changed) task call
goes_marked w changed task call h answer wake right e =
    let may = h answer wake right e in
    record { fits = may.fits; timely = timely_marked w changed (what_of call) (scope_of task) task.task_state wake may.timely }

called_marked : (r : TaskTable) (w : World) (changed : List Bool) (id : ℕ) (call : Call) → IsCalled r w id call →
    IsCalled r (marked w changed) id call
called_marked r w changed id call =
    some_kept (running_at r id) (running_at r id) (λ (x : Running). GoesBy w x.task call)
    (λ (x : Running). GoesBy (marked w changed) x.task call) (λ x is. is) (λ x is. goes_marked w changed x.task call)

-- ---- one scope is handed out

-- what holds while scopes are handed out
pub record IsTelling (was r : Runner) : Type 0 where
  pub going : IsGoing r
  pub only : SeesOnly was r
  pub fewer : (key : ℕ) → is_changed r.world.scopes key ≡ true → is_changed was.world.scopes key ≡ true

-- before the first scope is handed out, what holds while they are is true
pub telling_first : (r : Runner) → IsGoing r → IsTelling r r
telling_first r going = record { going = going; only = refl; fewer = λ key e. e }

-- a scope that shows an effective deadline, or is marked, does so if its mark stays
shows_marked : (w : World) (changed : List Bool) (scope : ℕ) (was now : Tick) → now ≡ was →
    is_changed (marked w changed).scopes scope ≡ is_changed w.scopes scope → Shows w.scopes scope was →
    Shows (marked w changed).scopes scope now
shows_marked w changed scope was now kept mark h = record { stack = h.stack; opened = h.opened; known = by_known h.known }
  where
    by_known : (sight h.stack ≡ was) ⊎ (is_changed w.scopes scope ≡ true) → (sight h.stack ≡ now)
        ⊎ (is_changed (marked w changed).scopes scope ≡ true)
    by_known (inl f) = inl (f ∙ sym kept)
    by_known (inr f) = inr (mark ∙ f)

-- a run with other marks, of which the sleepers know
module _ {r : Runner} (going : IsGoing r) (changed : List Bool) (sleepers : Sleeping)
    (known : AreKnown r.task_table (marked r.world changed) r.clock sleepers r.waiters) where
  abbrev informed : Runner
  informed = record r { world = marked r.world changed; sleepers = sleepers }

  interleaving_informed : IsRefined informed
  interleaving_informed k settled =
      (state_takes k r.job.now r.input.now r.world.tick (task_count r.task_table) None (state_in r) (state_in informed)
      (record { turns = refl; task = λ p. refl; ended_task = λ p. refl; start = λ p. refl; children = λ p. refl; path = λ p. refl })
      (record { through = refl; object = λ l. refl; round = refl; granted = λ p. refl; grants = λ object asker u. refl }) refl
      (going.interleaving k settled)).0

  consistent_informed : IsConsistent r.task_table (marked r.world changed) r.clock r.limit r.turns
  consistent_informed = record {
    agree = going.shelved.consistent.agree;
    homes = λ shared p task home lives at. (let k = going.shelved.consistent.homes shared p task home lives at in
        record { task = k.task; lives = k.lives; owned = k.owned });
    now = going.shelved.consistent.now;
    limit = going.shelved.consistent.limit;
    within = going.shelved.consistent.within;
    bounded = going.shelved.consistent.bounded;
    none_started = going.shelved.consistent.none_started;
    none_set = going.shelved.consistent.none_set;
    none_done = going.shelved.consistent.none_done;
  }

  stays_informed : (due : ℕ) (x : Task) → Stays r.world due x → Stays (marked r.world changed) due x
  stays_informed due x =
      stays_still r.world (marked r.world changed) x due refl refl refl
      (same_event (event_at r.world) (event_at r.world) x.task_state refl) (λ id waits over. refl)

  stay_informed : AllStay r.task_table (marked r.world changed) r.clock
  stay_informed key due e =
      some_kept (running_at r.task_table key) (running_at r.task_table key) (λ (y : Running). Stays r.world due y.task)
      (λ (y : Running). Stays (marked r.world changed) due y.task) (λ x is. is)
      (λ x is. stays_informed due x.task) (going.shelved.stay key due e)

  later_informed : (a : Added) → IsCalledLater r.task_table r.world a → IsCalledLater r.task_table (marked r.world changed) a
  later_informed a =
      some_kept (running_at r.task_table a.0) (running_at r.task_table a.0) (λ (x : Running). ContinuesLater r.world x.task a.1)
      (λ (x : Running). ContinuesLater (marked r.world changed) x.task a.1) (λ x is. is)
      (λ x is. continues_still r.world (marked r.world changed) x.task a.1 refl (λ due. stays_informed due x.task))

  going_marked : IsGoing informed
  going_marked =
      record {
        sound = going.sound;
        counts = going.counts;
        shelved =
            record {
              consistent = consistent_informed;
              stay = stay_informed;
              known = known;
              current =
                  All-weaker (IsCalledEntry r.task_table r.world) (IsCalledEntry r.task_table (marked r.world changed))
                  (λ e. called_marked r.task_table r.world changed e.task e.call) r.batch.current going.shelved.current;
              next =
                  All-weaker (IsCalledAdded r.task_table r.world) (IsCalledAdded r.task_table (marked r.world changed))
                  (λ a. called_marked r.task_table r.world changed a.0 a.1) r.batch.next going.shelved.next;
              none_later = going.shelved.none_later;
              later =
                  All-weaker (IsCalledLater r.task_table r.world) (IsCalledLater r.task_table (marked r.world changed)) later_informed
                  (later_calls r) going.shelved.later;
              once = going.shelved.once;
              away = going.shelved.away;
            };
        interleaving = interleaving_informed;
        lent = record {
          objects = going.lent.objects;
          round = going.lent.round;
          current = going.lent.current;
          next = going.lent.next;
          later = going.lent.later;
          granted = going.lent.granted;
        };
      }

-- one scope is known anew
module _ {r : Runner} (going : IsGoing r) {id : ℕ} (changed : List Bool) (seen : Tick) {sleepers : Sleeping}
    (others : OtherMarksKeep r.world.scopes (marked r.world changed).scopes id)
    (sees : ForSome (stack_of r.world.scopes id) (λ stack. seen ≡ sight stack)) (same : SameScopes r.sleepers sleepers)
    (tells : Sees r.sleepers sleepers id seen) where
  sights_informed : (key scope : ℕ) → scope_in sleepers key ≡ Some scope →
      Shows (marked r.world changed).scopes scope (sight_of sleepers scope)
  sights_informed key scope e =
      let was = going.shelved.known.sights key scope (sym (same key) ∙ e) in
      elim (cases_eq scope id) [
        | inl is ↦ record {
          stack = was.stack;
          opened = was.opened;
          known =
              inl (sym (sees was.stack (ap (stack_of r.world.scopes) (sym is) ∙ was.opened))
              ∙ sym (ap (sight_of sleepers) is ∙ tells.here key (e ∙ ap (λ (n : ℕ). Some n) is)));
        }
        | inr differs ↦
            shows_marked r.world changed scope (sight_of r.sleepers scope) (sight_of sleepers scope) (tells.others key scope differs e)
            (others scope differs) was
      ]

  -- after the sleepers know the scope's effective deadline, and its mark is removed, the run is consistent as before
  pub informed_going : IsGoing (record r { world = marked r.world changed; sleepers = sleepers })
  informed_going =
      going_marked going changed sleepers
      (record {
        sleep_slots = λ key. same key ∙ going.shelved.known.sleep_slots key;
        sights = sights_informed;
        waiting = going.shelved.known.waiting;
      })

-- where no mark changes, nothing does
still_going : {r : Runner} → IsGoing r → (changed : List Bool) →
    ((key : ℕ) → is_changed (marked r.world changed).scopes key ≡ is_changed r.world.scopes key) →
    IsGoing (record r { world = marked r.world changed; sleepers = r.sleepers })
still_going {r} going changed marks =
    going_marked going changed r.sleepers
    (record {
      sleep_slots = going.shelved.known.sleep_slots;
      sights = λ key scope e. shows_marked r.world changed scope (sight_of r.sleepers scope) (sight_of r.sleepers scope) refl (marks scope)
          (going.shelved.known.sights key scope e);
      waiting = going.shelved.known.waiting;
    })

-- a scope that is handed out is open still
pub taken_open : (lent tree read : Tree) (id : ℕ) → tree ≡ record lent { changed = tree.changed } → TakesChanged lent tree id →
    read ≡ tree → IsOpen read id
taken_open lent tree read id stacks takes reads = rw (reads, stacks) takes.was_open

-- the next scope is handed out: only its mark is removed, and the sleepers know its effective deadline
pub record TellsOne (old new : Runner) (id : ℕ) : Type 0 where
  pub seen : Tick
  pub stacks : new.world.scopes ≡ record (old.world.scopes) { changed = new.world.scopes.changed }
  pub takes : TakesChanged old.world.scopes new.world.scopes id
  pub sees : ForSome (stack_of new.world.scopes id) (λ stack. seen ≡ sight stack)
  pub same : SameScopes old.sleepers new.sleepers
  pub tells : Sees old.sleepers new.sleepers id seen
  pub rest : new ≡ record old { world = record old.world { scopes = new.world.scopes }; sleepers = new.sleepers }

module _ {was r new : Runner} {id : ℕ} (s : IsTelling was r) (one : TellsOne r new id) where
  is_informed : new ≡ record r { world = marked r.world new.world.scopes.changed; sleepers = new.sleepers }
  is_informed = one.rest ∙ ap (λ (t : Tree). record r { world = record r.world { scopes = t }; sleepers = new.sleepers }) one.stacks

  others_kept : OtherMarksKeep r.world.scopes (marked r.world new.world.scopes.changed).scopes id
  others_kept other differs = ap (λ (t : Tree). is_changed t other) (sym one.stacks) ∙ one.takes.others other differs

  fewer : (key : ℕ) → is_changed new.world.scopes key ≡ true → is_changed was.world.scopes key ≡ true
  fewer key f =
      elim (cases_eq key id) [
        | inl e ↦ absurd (let g : false ≡ true = sym one.takes.is ∙ (ap (is_changed new.world.scopes) (sym e) ∙ f) in cc)
        | inr differs ↦ s.fewer key (sym (one.takes.others key differs) ∙ f)
      ]

  -- once the next scope is handed out, what holds while they are is true again
  pub telling_next : IsTelling was new
  telling_next = record {
    going =
        subst IsGoing (sym is_informed)
        (informed_going s.going new.world.scopes.changed one.seen others_kept
        (λ st e. one.sees st (ap (λ (t : Tree). stack_of t id) one.stacks ∙ e)) one.same one.tells);
    only =
        is_informed ∙ ap (λ (x : Runner). record x { world = marked x.world new.world.scopes.changed; sleepers = new.sleepers }) s.only;
    fewer = fewer;
  }

  -- and fewer scopes are left to hand out
  pub telling_fewer : count_below (length was.world.scopes.changed) (is_changed new.world.scopes) < count_below
      (length was.world.scopes.changed) (is_changed r.world.scopes)
  telling_fewer =
      fewer_below (length was.world.scopes.changed) (is_changed r.world.scopes) (is_changed new.world.scopes) id
      (found_within was.world.scopes.changed id false true (s.fewer id one.takes.was) (λ e. let f : true ≡ false = e in cc)) one.takes.was
      one.takes.is one.takes.others

-- none is left: only marks were read
module _ {was r : Runner} (tree : Tree) (s : IsTelling was r) (stacks : tree ≡ record (r.world.scopes) { changed = tree.changed })
    (none : (key : ℕ) → is_changed r.world.scopes key ≡ false) (same : SameMarks r.world.scopes tree) where
  abbrev all_informed : Runner
  all_informed = record r { world = record r.world { scopes = tree } }

  is_last : all_informed ≡ record r { world = marked r.world tree.changed; sleepers = r.sleepers }
  is_last = ap (λ (t : Tree). record r { world = record r.world { scopes = t } }) stacks

  -- then the run fits together
  pub informed_still : IsGoing all_informed
  informed_still =
      subst IsGoing (sym is_last)
      (still_going s.going tree.changed (λ key. ap (λ (t : Tree). is_changed t key) (sym stacks) ∙ same key))

  -- no scope is marked
  pub informed_unchanged : NoneChanged all_informed.world
  informed_unchanged key = same key ∙ none key

  -- and nothing changed but marks and what is known of sleepers
  pub informed_only : SeesOnly was all_informed
  informed_only = is_last ∙ ap (λ (x : Runner). record x { world = marked x.world tree.changed }) s.only
