-- Each other task is tied to the one of the definitions after a turn, as it was before.
use Rattle.std.proofs.Common.{◌≡◌, ◌≢◌, ◌⊎◌, inl, inr, ℕ, ◌<◌, ◌≤◌, true, false, Option, Some, None, List, length, refl, ap, sym, ◌∙◌, subst}
use Rattle.std.specs.Prelude.{slice_get}
use Rattle.std.specs.Option.{ForSome, IsSomeAnd}
use Rattle.turn_semantics.specs.Lists.{IsAmong}
use Rattle.cancel_scopes.specs.Tree.{outer_of, IsOpen}
use Rattle.nursery_book.specs.Nursery.{End, Nursery}
use Rattle.nursery_book.specs.Book.{nursery_at, HasNursery}
use Rattle.job_tree.specs.Tree.{Tree as Job}
use Rattle.exceptions.specs.Exceptions.{Exc}
use Rattle.job_meaning.specs.Log.{Table}
use Rattle.job_meaning.specs.declared.clock.Clock.{Clock}
use Rattle.job_meaning.specs.Rest as rest
use Rattle.task_machine.specs.States.{state_of}
use Rattle.task_machine.specs.declared.entry.ScopeFrom.{ScopeFrom}
use Rattle.task_machine.specs.declared.stop.Stop.{Stop}
use Rattle.task_machine.specs.declared.task.Own.{Own}
use Rattle.task_machine.specs.declared.task.Task.{Task}
use Rattle.task_machine.specs.declared.world.World.{World}
use Rattle.task_machine.specs.declared.stop.TaskState.{TaskState}
use Rattle.task_machine.specs.declared.stop.TaskState.TheVariants.{ToBegin, Asked, Asleep, Waiting, GivingUp, Awaits, Over, Queued}
use Rattle.task_machine.specs.Acts.{scoping_of}
use Rattle.task_machine.specs.Fitting.{blocks_of, waits_of}
use Rattle.task_machine.specs.Stacked.{AreAt}
use Rattle.task_machine.specs.Standing.{here_of, HasNurseryOf, Stands}
use Rattle.task_machine.specs.Tasks.{home_of, home_scope, scope_of}
use Rattle.task_machine.specs.Worlds.{label_at, event_at}
use Rattle.interleavings.specs.Interleaving.{Started, live}
use Rattle.interleavings.specs.Rows.{entered_made}
use Rattle.run_refinement.specs.RunState.{RunState, Notes, Tracks, CanGoOn, IsMember, HasMembers, SomeEnded, LastEnds, Follows, Refines}
use Rattle.run_refinement.specs.Turn.{IsEntered, numbers_then, leaving_by}
use Rattle.run_refinement.specs.Turning.{Turning}
use Rattle.run_refinement.proofs.ActsKeep.{not_both, same_or}
use Rattle.run_refinement.proofs.EventsStay.{event_kept}
use Rattle.run_refinement.proofs.RunStates.{Stood, follows_by, ended_task_below}
use Rattle.run_refinement.proofs.StateTurn.{ActsOf, else_own, own_open, nursery_same}
use Rattle.run_refinement.proofs.OtherHomes.{home_stays, home_open}
use Rattle.run_refinement.proofs.OtherNurseries.{same_nursery, opened_stays, task_state_stays}
use Rattle.run_refinement.proofs.OtherPlaces.{places_other}
use Rattle.run_refinement.proofs.OtherScopes.{AreElse, tracks_other, scope_stays, first_stays}
use Rattle.task_machine.proofs.Stacked.{one_of}
use Rattle.run_refinement.proofs.Found.{same_got, finds, gives, puts}
use Rattle.run_refinement.proofs.Parts.{numbers_other}
use Rattle.run_refinement.proofs.LabelsApart.{below_of}
use Rattle.turn_semantics.specs.Midway.{Tables}

module _ (k : Tables) (job : Job) (input : List ℕ) (t m s : ℕ) (old new : RunState) (before after : Task) (stop : Stop)
    (c : Refines k job input t m None old)
    (T : Turning k job input t m s old new c.numbers before after stop c.interleaving) where
  -- ---- which tasks are in a nursery

  -- a task that is in a nursery is there still, be it the mover or another
  running_stays : (last id index serial : ℕ) → IsMember old c.interleaving.at last id index serial (Some None) →
      (serial ≡ s) ⊎ (serial ≢ s) → IsMember new T.is.at last id index serial (Some None)
  running_stays last id index serial h (inl e) =
      let mine : h.0 ≡ before = one_of h.0 before (sym h.1 ∙ (ap old.task e ∙ T.code.task)) in
      (after, ap new.task e ∙ T.code.task_after, ap (λ (z : Task). home_of z) T.code.stays ∙ (sym (ap (λ (z : Task). home_of z) mine) ∙ h.2))
  running_stays last id index serial h (inr differs) = (h.0, T.code.other_after serial (below_of c serial h.0 h.1) differs ∙ h.1, h.2)

  -- a task that has ended is as it was
  ended_stays : (serial u : ℕ) (exc : Option Exc) → serial < m → (c.interleaving.at serial).rest.stopped ≡ rest.at_end u exc →
      (T.is.at serial).rest.stopped ≡ rest.at_end u exc
  ended_stays serial u exc below ended = ap (λ (q : Started). q.rest.stopped) (T.of_other serial below differs) ∙ ended
    where
      lives : live (c.interleaving.at s).rest.stopped ≡ true
      lives = (c.follows s before T.code.task).lives (λ e. not_both refl e)

      differs : serial ≢ s
      differs e =
          let over : (c.interleaving.at s).rest.stopped ≡ rest.at_end u exc = sym (ap (λ (p : ℕ). (c.interleaving.at p).rest.stopped) e)
          ∙ ended in
          let none : live (c.interleaving.at s).rest.stopped ≡ false = ap live over in
          let clash : true ≡ false = sym lives ∙ none in
          cc

  -- what is a member stays one
  member_stays : (last id index serial : ℕ) (e : Option End) → IsMember old c.interleaving.at last id index serial e →
      IsMember new T.is.at last id index serial e
  member_stays last id index serial None h = absurd h
  member_stays last id index serial (Some None) h = running_stays last id index serial h (same_or serial s)
  member_stays last id index serial (Some (Some exc)) h =
      (h.0, h.1, T.code.ended_task_after serial ∙ h.2, h.3, ended_stays serial h.1 exc (ended_task_below k job input t m None old c serial h.0 h.2) h.4)

  member_below : (last id index serial : ℕ) (e : Option End) → IsMember old c.interleaving.at last id index serial e → serial < m
  member_below last id index serial None h = absurd h
  member_below last id index serial (Some None) h = below_of c serial h.0 h.1
  member_below last id index serial (Some (Some exc)) h = ended_task_below k job input t m None old c serial h.0 h.2

  -- ---- one other task

  module _ (a : ActsOf c T) (u : ℕ) (below : u < m) (differs : u ≢ s) (task : Task) (is : old.task u ≡ Some task) where
    was : Follows old c.interleaving.cancelled_from input t c.interleaving.at c.numbers None u task
    was = c.follows u task is

    same : T.is.at u ≡ c.interleaving.at u
    same = T.of_other u below differs

    others : AreElse task.own.items before.own.items
    others = else_own c T u task differs is

    opens : (o : Own) (i : ℕ) → slice_get task.own.items i ≡ Some o → IsOpen old.world.scopes o.id
    opens = own_open c u task is

    nursery : (id : ℕ) → HasNurseryOf id (blocks_of task.frames.items) (waits_of task.task_state) →
        nursery_at new.world.book id ≡ nursery_at old.world.book id
    nursery = nursery_same c T u task differs is

    tracks : Tracks (IsEntered T.is.at) T.is.cancelled_from (scoping_of task new.world) (entered_made (c.interleaving.at u).made)
    tracks =
        subst (λ (f : Table). Tracks (IsEntered T.is.at) f (scoping_of task new.world) (entered_made (c.interleaving.at u).made)) (sym T.cancelled_from)
        (tracks_other a (IsEntered c.interleaving.at) (IsEntered T.is.at) c.interleaving.cancelled_from task.own.items task.cancelled_from.items
        (entered_made (c.interleaving.at u).made) others (λ l h. (u, h))
        (λ l h. (u, subst (λ (q : Started). IsAmong l (entered_made q.made)) (sym same) h)) was.tracks)

    -- each of its scopes has the label that it had
    label_same : (o : Own) (i : ℕ) → slice_get task.own.items i ≡ Some o → label_at new.world o.id ≡ label_at old.world o.id
    label_same o i got =
        let x = tracks.named o i got in
        let y = was.tracks.named o i got in
        x.2 ∙ (ap (λ (z : ScopeFrom). Some z.label) (same_got task.cancelled_from.items o.at x.0 y.0 x.1 y.1) ∙ sym y.2)

    home : ForSome (home_scope task) (IsOpen new.world.scopes)
    home = home_open c T a u task.home was.home

    goes : CanGoOn task new.world
    goes =
        record {
          in_range = was.goes.in_range;
          lent = was.goes.lent;
          starts = was.goes.starts;
          home = home;
          scope = scope_stays a (home_scope task) task.own.items others opens home;
          first = first_stays a (home_scope task) task.own.items others opens was.goes.home was.goes.first;
          cancelled_from = was.goes.cancelled_from;
          opened =
              opened_stays (label_at old.world) (label_at new.world) old.world.book new.world.book (blocks_of task.frames.items)
              task.own.items (waits_of task.task_state) label_same nursery
              was.goes.opened;
        }

    places : AreAt (label_at new.world) (event_at new.world) T.is.cancelled_from (outer_of new.world.scopes (scope_of task)) (c.interleaving.at u).places
    places =
        subst (λ (f : Table). AreAt (label_at new.world) (event_at new.world) f (outer_of new.world.scopes (scope_of task)) (c.interleaving.at u).places)
        (sym T.cancelled_from)
        (places_other c T a u task differs is)

    stands : Stands (state_of task new.world) T.is.cancelled_from (c.numbers u) (Some (c.interleaving.at u).rest.stopped) (c.interleaving.at u).places
    stands =
        record {
          places = places;
          event = event_kept c T a u task is goes.scope places;
          numbered =
              λ id has.
              same_nursery (λ n. length (c.numbers u id) ≡ length n.children) old.world.book new.world.book id (nursery id (inl has))
              (was.stands.numbered id has);
          placed = was.stands.placed;
          new = was.stands.new;
          stop = was.stands.stop;
          own = was.stands.own;
        }

    members : (id : ℕ) → HasNurseryOf id (blocks_of task.frames.items) (waits_of task.task_state) →
        HasNursery new.world.book id (λ n. HasMembers new T.is.at t (c.numbers u) (c.interleaving.at u) id n)
    members id has =
        same_nursery (λ n. HasMembers new T.is.at t (c.numbers u) (c.interleaving.at u) id n) old.world.book new.world.book id (nursery id has)
        (in_book (nursery_at old.world.book id) (was.nurseries id has))
      where
        in_book : (o : Option Nursery) → IsSomeAnd o (λ n. HasMembers old c.interleaving.at t (c.numbers u) (c.interleaving.at u) id n) →
            IsSomeAnd o (λ n. HasMembers new T.is.at t (c.numbers u) (c.interleaving.at u) id n)
        in_book None h = absurd h
        in_book (Some n) h =
            record {
              long = h.long;
              last = h.last;
              members =
                  λ index number got.
                  let one = h.members index number got in
                  (one.0, member_stays n.last id index ((c.interleaving.at u).child number) (slice_get n.children index) one.1);
            }

    clock : new.world.clock ≡ old.world.clock
    clock = ap (λ (w : World). w.clock) T.code.world

    -- if it waits, the last member of its nursery ended when the book says so
    last_after : (task_state : TaskState) → task.task_state ≡ task_state →
        LastEnds c.interleaving.at (c.numbers u) (c.interleaving.at u) old.world.book task_state →
        LastEnds T.is.at (c.numbers u) (c.interleaving.at u) new.world.book task_state
    last_after (Awaits id since) e h = puts new.world.book id n.0 (Last T.is.at) (nursery id has ∙ n.1) (n.2.0, by_either n.2.1)
      where
        Last : (ℕ → Started) → Nursery → Type 0
        Last at n = (since ≤ n.last) × ((since ≡ n.last) ⊎ SomeEnded at (c.numbers u) (c.interleaving.at u) id n.last)

        n : (n : Nursery) × (nursery_at old.world.book id ≡ Some n) × Last c.interleaving.at n
        n = finds old.world.book id (Last c.interleaving.at) h

        has : HasNurseryOf id (blocks_of task.frames.items) (waits_of task.task_state)
        has = inr (ap waits_of e)

        all : HasMembers old c.interleaving.at t (c.numbers u) (c.interleaving.at u) id n.0
        all = gives old.world.book id n.0 (λ n. HasMembers old c.interleaving.at t (c.numbers u) (c.interleaving.at u) id n) n.1
            (was.nurseries id has)

        by_either : (since ≡ n.0.last) ⊎ SomeEnded c.interleaving.at (c.numbers u) (c.interleaving.at u) id n.0.last →
            (since ≡ n.0.last) ⊎ SomeEnded T.is.at (c.numbers u) (c.interleaving.at u) id n.0.last
        by_either (inl now) = inl now
        by_either (inr x) =
            inr (record {
              index = x.index;
              number = x.number;
              is = x.is;
              exc = x.exc;
              ended =
                  ended_stays ((c.interleaving.at u).child x.number) n.0.last x.exc
                  (member_below n.0.last id x.index ((c.interleaving.at u).child x.number) (slice_get n.0.children x.index)
                  (all.members x.index x.number x.is).1) x.ended;
            })
    last_after (ToBegin at) e h = tt
    last_after (Asked kernel purpose) e h = tt
    last_after (Asleep paced ticks since) e h = tt
    last_after (Waiting event since) e h = tt
    last_after (Queued object ask since body) e h = tt
    last_after (GivingUp since) e h = tt
    last_after Over e h = tt

    stood : Stood new T.is.cancelled_from input t T.is.at (leaving_by stop s) u task (c.numbers u) (c.interleaving.at u)
    stood =
        record {
          here = ap (λ (z : Clock). here_of z task) clock ∙ was.here;
          since = was.since;
          last = last_after task.task_state refl was.last;
          input_is = was.input_is;
          lives = λ stays. was.lives (λ e. not_both refl e);
          frames = was.frames;
          stands = stands;
          task_state = task_state_stays (c.numbers u) old.world.book new.world.book task.task_state (c.interleaving.at u).rest.stopped
              (λ id waits. nursery id (inr waits)) was.task_state;
          in_range = was.in_range;
          goes = goes;
          notes = subst (λ (z : Clock). Notes z input (c.interleaving.at u).made task.entries.items) (sym clock) was.notes;
          tracks = tracks;
          nurseries = members;
        }

    -- Another task follows after the turn what it followed before.
    pub others_follow : Follows new T.is.cancelled_from input t T.is.at (numbers_then c.numbers s m T.took.numbers_after) (leaving_by stop s) u task
    others_follow =
        follows_by new T.is.cancelled_from input t T.is.at (numbers_then c.numbers s m T.took.numbers_after) (leaving_by stop s) u task (c.numbers u)
        (c.interleaving.at u)
        (numbers_other c.numbers s m T.took.numbers_after u below differs) same stood (home_stays c T u task.home below was.home)
