-- How a turn leaves the event for which another task waits: it is an event of the same scopes still, and it is as it was or is set.
use Rattle.std.proofs.Common.{◌≡◌, inl, inr, ℕ, suc, ◌+◌, min, true, Option, Some, None, List, refl, ap, sym, ◌∙◌, subst, arith}
use Rattle.std.specs.Option.{ForSome}
use Rattle.exceptions.specs.Exceptions.{Label}
use Rattle.cancel_scopes.specs.Sight.{Tick, earlier}
use Rattle.cancel_scopes.specs.Tree.{Stack, stack_of, outer_of, IsOpen}
use Rattle.nursery_book.specs.declared.book.NurseryBook.{NurseryBook}
use Rattle.job_tree.specs.Tree.{Tree as Job}
use Rattle.job_meaning.specs.Before.{upto}
use Rattle.job_meaning.specs.declared.clock.Clock.{Clock}
use Rattle.job_meaning.specs.Rest.{Stopped, to_begin, asking, asleep, waiting_for, giving_up, awaiting, at_end, queued}
use Rattle.job_meaning.proofs.Causality.{set_near}
use Rattle.job_meaning.proofs.Clips.{upto_earlier, upto_most}
use Rattle.turn_semantics.specs.Midway.{Tables, Place, label_among}
use Rattle.turn_semantics.specs.Placed.{IsSome}
use Rattle.task_machine.specs.declared.stop.Stop.{Stop}
use Rattle.task_machine.specs.declared.stop.TaskState.{TaskState}
use Rattle.task_machine.specs.declared.stop.TaskState.TheVariants.{Waiting}
use Rattle.task_machine.specs.declared.task.Task.{Task}
use Rattle.task_machine.specs.declared.world.World.{World}
use Rattle.task_machine.specs.Acts.{scoping_of}
use Rattle.task_machine.specs.Events.{set_by}
use Rattle.task_machine.specs.Labels.{Labels, Events}
use Rattle.task_machine.specs.Stacked.{IsKey, AreAt, SameOn, AwaitsEvent}
use Rattle.task_machine.specs.Stops.{Numbers, IsTaskState}
use Rattle.task_machine.specs.Tasks.{scope_of}
use Rattle.task_machine.specs.Worlds.{label_at, event_at}
use Rattle.task_machine.proofs.Stacked.{one_of}
use Rattle.run_refinement.specs.RunState.{RunState, Refines}
use Rattle.run_refinement.specs.Sights.{StaysOrIsSet}
use Rattle.run_refinement.specs.Turn.{IsEntered}
use Rattle.run_refinement.specs.Turning.{Turning}
use Rattle.run_refinement.proofs.ActsStacks.{SameStack, stack_acts}
use Rattle.run_refinement.proofs.ActsStay.{SameLevels}
use Rattle.run_refinement.proofs.EventPlaces.{HasEvent, has_event, label_moved, awaits_moved}
use Rattle.run_refinement.proofs.LabelsApart.{sound_of}
use Rattle.run_refinement.proofs.OtherScopes.{open_stack, outer_is}
use Rattle.run_refinement.proofs.SightsStay.{first_label, scope_label}
use Rattle.run_refinement.proofs.StateTurn.{ActsOf}

-- the scopes that enclose a task are the same ones, with the same labels
record KeepsOuter (old new : World) (scope : Option ℕ) : Type 0 where
  pub levels : SameLevels (outer_of old.scopes scope) (outer_of new.scopes scope)
  pub labels : SameOn (label_at old) (label_at new) (outer_of old.scopes scope)

-- the event for which a task waits is one of the scopes that enclose it, and has a label
awaited : (labels : Labels) (numbers : Numbers) (book : NurseryBook) (st : Stack) (s : Stopped) (ps : List Place) (key since : ℕ) →
    IsTaskState numbers book (Waiting key since) s → AwaitsEvent labels st (Some s) (Waiting key since) ps → HasEvent s ps →
    IsKey key st × ((l : Label) × (labels key ≡ Some l))
awaited labels numbers book st to_begin ps key since is h some = absurd is
awaited labels numbers book st (asking kernel purpose) ps key since is h some = absurd is
awaited labels numbers book st (asleep paced n u) ps key since is h some = absurd is
awaited labels numbers book st (queued object ask u body) ps key since is h some = absurd is
awaited labels numbers book st (waiting_for name u) ps key since is h some = (h.0, labelled (label_among true name ps) refl some)
  where
    labelled : (o : Option Label) → label_among true name ps ≡ o → IsSome o → (l : Label) × (labels key ≡ Some l)
    labelled None e i = absurd i
    labelled (Some l) e i = (l, h.1 ∙ e)
awaited labels numbers book st (giving_up u) ps key since is h some = absurd is
awaited labels numbers book st (awaiting children u exc) ps key since is h some = absurd is
awaited labels numbers book st (at_end u e) ps key since is h some = absurd is

-- a wait is over by a moment as before, if its event is as it was or is set from the next moment on
pub set_alike : (clock : Clock) (t : ℕ) (old new : Events) (was set : List ℕ) (key since : ℕ) →
    StaysOrIsSet t old new was set key →
    min (suc t) (set_by clock (old key) since) ≡ min (suc t) (set_by clock (new key) since)
set_alike clock t old new was set key since (inl (e, f)) = ap (λ (o : Option Tick). min (suc t) (set_by clock o since)) (sym e)
set_alike clock t old new was set key since (inr (i, from, before, is)) =
    ap (λ (o : Option Tick). min (suc t) (set_by clock o since)) before
    ∙ set_near (suc t) clock from (earlier from (Some (t + 1))) since (near from)
    ∙ ap (λ (o : Option Tick). min (suc t) (set_by clock o since)) (sym is)
  where
    later : upto (suc t) (Some (t + 1)) ≡ suc t
    later = omega arith

    near : (x : Tick) → upto (suc t) x ≡ upto (suc t) (earlier x (Some (t + 1)))
    near x =
        omega (arith, upto_earlier (suc t) x (Some (t + 1)), upto_most (suc t) x, later)

module _ {k : Tables} {job : Job} {input : List ℕ} {t m s : ℕ} {old new : RunState} {before after : Task} {stop : Stop}
    (c : Refines k job input t m None old) (T : Turning k job input t m s old new c.numbers before after stop c.interleaving)
    (a : ActsOf c T) (u : ℕ) (task : Task) (lives : old.task u ≡ Some task) (opens : ForSome (scope_of task) (IsOpen new.world.scopes))
    (now : AreAt (label_at new.world) (event_at new.world) T.is.cancelled_from (outer_of new.world.scopes (scope_of task)) (c.interleaving.at u).places)
  where
    -- what encloses another task in a scope is the same
    outer_in : (key : ℕ) → scope_of task ≡ Some key → KeepsOuter old.world new.world (Some key)
    outer_in key is =
        record {
          levels =
              subst (λ (x : Stack). SameLevels (outer_of old.world.scopes (Some key)) x) (sym (outer_is new.world.scopes key n.after n.at))
              (subst (λ (x : Stack). SameLevels x n.after) (sym (outer_is old.world.scopes key st.0 st.1)) n.levels);
          labels = subst (λ (x : Stack). SameOn (label_at old.world) (label_at new.world) x) (sym (outer_is old.world.scopes key st.0 st.1)) n.labels;
        }
      where
        places : List Place
        places = (c.interleaving.at u).places

        st : (st : Stack) × (stack_of old.world.scopes key ≡ Some st)
        st = open_stack old.world.scopes key ((c.follows u task lives).goes.scope key is)

        then : (st : Stack) × (stack_of new.world.scopes key ≡ Some st)
        then = open_stack new.world.scopes key (opens key is)

        was : (l : Label) × (label_at old.world key ≡ Some l) × (first_label places ≡ Some l)
        was =
            scope_label (label_at old.world) (event_at old.world) c.interleaving.cancelled_from old.world.scopes (scope_of task) key places T.code.sound.own is
            st.0 st.1 (c.follows u task lives).stands.places

        will : (l : Label) × (label_at new.world key ≡ Some l) × (first_label places ≡ Some l)
        will =
            scope_label (label_at new.world) (event_at new.world) T.is.cancelled_from new.world.scopes (scope_of task) key places T.code.sound_after.own is
            then.0 then.1 now

        same : will.0 ≡ was.0
        same = one_of will.0 was.0 (sym will.2 ∙ was.2)

        n : SameStack old.world.tick key st.0 (scoping_of before old.world) (scoping_of after new.world)
        n =
            stack_acts (IsEntered c.interleaving.at) (λ l. None) key was.0 st.0 a.acts (sound_of (scoping_of before old.world) a.sound) a.apart
            a.has a.new (a.has key was.0 was.1) was.1 (will.1 ∙ ap (λ (l : Label). Some l) same) st.1

    outer_kept : KeepsOuter old.world new.world (scope_of task)
    outer_kept = by_scope (scope_of task) refl
      where
        by_scope : (o : Option ℕ) → scope_of task ≡ o → KeepsOuter old.world new.world o
        by_scope None is = record { levels = tt; labels = tt }
        by_scope (Some key) is = outer_in key is

    -- so is the event for which it waits
    pub event_kept : AwaitsEvent (label_at new.world) (outer_of new.world.scopes (scope_of task)) (Some (c.interleaving.at u).rest.stopped)
        task.task_state (c.interleaving.at u).places
    event_kept =
        awaits_moved (label_at old.world) (label_at new.world) (outer_of old.world.scopes (scope_of task))
        (outer_of new.world.scopes (scope_of task)) (Some (c.interleaving.at u).rest.stopped) task.task_state (c.interleaving.at u).places
        outer_kept.levels outer_kept.labels (c.follows u task lives).stands.event

    -- an event that encloses another task stays as it is, or is set
    event_stays : (key : ℕ) (l : Label) → IsKey key (outer_of old.world.scopes (scope_of task)) → label_at old.world key ≡ Some l →
        StaysOrIsSet old.world.tick (event_at old.world) (event_at new.world) old.world.set.items new.world.set.items key
    event_stays key l i is =
        let st = open_stack old.world.scopes key (key_open (scope_of task) refl i) in
        let n = stack_acts (IsEntered c.interleaving.at) (λ l. None) key l st.0 a.acts (sound_of (scoping_of before old.world) a.sound) a.apart
        a.has a.new (a.has key l is) is
        (label_moved (label_at old.world) (label_at new.world) key (outer_of old.world.scopes (scope_of task)) outer_kept.labels i ∙ is) st.1 in
        n.event
      where
        key_open : (o : Option ℕ) → scope_of task ≡ o → IsKey key (outer_of old.world.scopes o) → IsOpen old.world.scopes key
        key_open None e j = absurd j
        key_open (Some own) e j =
            let st = open_stack old.world.scopes own ((c.follows u task lives).goes.scope own e) in
            (sound_of (scoping_of before old.world) a.sound).around own st.0 st.1 key
            (subst (λ (x : Stack). IsKey key x) (outer_is old.world.scopes own st.0 st.1) j)

    -- and so does the one for which the task waits
    pub event_still : (key since : ℕ) → task.task_state ≡ Waiting key since →
        StaysOrIsSet old.world.tick (event_at old.world) (event_at new.world) old.world.set.items new.world.set.items key
    event_still key since is = event_stays key x.1.0 x.0 x.1.1
      where
        stopped : Stopped
        stopped = (c.interleaving.at u).rest.stopped

        x : IsKey key (outer_of old.world.scopes (scope_of task)) × ((l : Label) × (label_at old.world key ≡ Some l))
        x =
            awaited (label_at old.world) (c.numbers u) old.world.book (outer_of old.world.scopes (scope_of task)) stopped
            (c.interleaving.at u).places key since
            (subst (λ (z : TaskState). IsTaskState (c.numbers u) old.world.book z stopped) is (c.follows u task lives).task_state)
            (subst (λ (z : TaskState). AwaitsEvent (label_at old.world) (outer_of old.world.scopes (scope_of task)) (Some stopped) z
            (c.interleaving.at u).places) is (c.follows u task lives).stands.event)
            (has_event stopped _ (c.interleaving.at u).places (c.follows u task lives).stands.placed)
