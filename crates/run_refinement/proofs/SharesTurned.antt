-- A turn of a task keeps what the code holds of limiters and channels: what it did now is noted to be served, and of what was served before it
-- is known now who left the queues.
use Rattle.std.proofs.Common.{◌≡◌, ◌≢◌, ◌⊎◌, inl, inr, ℕ, zero, suc, ◌+◌, ◌-◌, ◌<◌, ◌≤◌, Bool, true, false, not, ◌&&◌, ◌==◌, Option, Some, None, List, [], ◌∷◌, ◌++◌, map, length, refl, ap, sym, ◌∙◌, subst, arith, append_assoc, nat_lt, Bor}
use Rattle.std.proofs.lemmas.Bool.{eqb-true, eq-eqb, cases_lt}
use Rattle.std.proofs.lemmas.Bool.Decides.{nat_tests}
use Rattle.std.proofs.lemmas.List.{append-nil}
use Rattle.std.proofs.lemmas.List.Elements.{filter-append}
use Rattle.std.specs.Prelude.{slice_get, codes}
use Rattle.std.specs.List.{filter}
use Rattle.std.specs.Option.{option_map}
use Rattle.exceptions.specs.Exceptions.{Label, cancelled, raised}
use Rattle.cancel_scopes.specs.Sight.{Tick, is_reached}
use Rattle.cancel_scopes.specs.Tree.{outer_of}
use Rattle.job_tree.specs.Tree.{Tree as Job, Steps}
use Rattle.job_tree.specs.Names.{GivesNamesOnce}
use Rattle.job_tree.specs.Starting.{StartsInNurseries}
use Rattle.job_tree.specs.declared.object.Ask.{Ask}
use Rattle.input_lines.specs.Part.{buffer_of, range_of}
use Rattle.objects.specs.Held.{ObjectOf, object_in, what_in}
use Rattle.objects.specs.Whats.{What}
use Rattle.objects.specs.Whats as whats
use Rattle.objects.specs.declared.ticket.Ticket.{Ticket}
use Rattle.objects.specs.declared.object.Object.{Object as HeldObject}
use Rattle.job_meaning.specs.Log.{opens, asks, gives_back, closes, Table, same_label}
use Rattle.job_meaning.specs.Moments.{tick_of, a_round_after, Now}
use Rattle.job_meaning.specs.Sharing.{Done, done_if, Asker, Object, unopened, stays_at, granted_before, find_given, by_moment, serve_acts}
use Rattle.job_meaning.specs.Walk.{Here}
use Rattle.job_meaning.specs.Rest as rest
use Rattle.job_meaning.specs.Rest.{Event, noted, signs, enters, acts, starts, Frame, Stopped, queued, inside}
use Rattle.job_meaning.proofs.Distinct.{same_label_equal, same_label_itself}
use Rattle.turn_semantics.specs.Lists.{Each, IsAmong}
use Rattle.turn_semantics.specs.Midway.{Place, label_among, Tables, Begun, Move, then_move}
use Rattle.turn_semantics.specs.Placed.{IsSome, PlacedStop}
use Rattle.turn_semantics.specs.Turned.{labels_of, MadeAt, AsksNothing, LeavesIn, AsksFirst, AskedFirst, StopsAt}
use Rattle.turn_semantics.specs.Wakes as wakes
use Rattle.turn_semantics.specs.Wakes.{Wake, turn_from, wake_of}
use Rattle.task_machine.specs.declared.stop.Stop.{Stop}
use Rattle.task_machine.specs.declared.stop.Wake as code
use Rattle.task_machine.specs.declared.stop.Wake.TheVariants as kinds
use Rattle.task_machine.specs.declared.stop.TaskState.{TaskState}
use Rattle.task_machine.specs.declared.stop.TaskState.TheVariants.{ToBegin, Asked, Asleep, Waiting, Queued, GivingUp, Awaits, Over}
use Rattle.task_machine.specs.declared.task.Task.{Task}
use Rattle.task_machine.specs.declared.world.World.{World}
use Rattle.task_machine.specs.Serving.{acted_of, acts_to_serve}
use Rattle.task_machine.specs.Frames.{frames_of}
use Rattle.task_machine.specs.Standing.{here_of}
use Rattle.task_machine.specs.Stacked.{AwaitsEvent}
use Rattle.task_machine.specs.Worlds.{label_at}
use Rattle.task_machine.proofs.FrameLemmas.{cuts_inside}
use Rattle.task_machine.specs.declared.serving.ObjectAct.{ObjectAct}
use Rattle.task_machine.specs.declared.stop.ObjectRequest.{ObjectRequest}
use Rattle.task_machine.specs.declared.stop.Stop.TheVariants as stops
use Rattle.turn_semantics.specs.Steps.{cancelled_from_after}
use Rattle.input_lines.specs.declared.part.Part.{Part}
use Rattle.task_machine.specs.Stops.{IsTaskState, IsReturned, StopsAs}
use Rattle.task_machine.specs.Tasks.{scope_of, lent_of}
use Rattle.task_machine.specs.Waking.{WakesFrom, wake_in}
use Rattle.interleavings.specs.Interleaving.{Started, StartsChild}
use Rattle.interleavings.specs.Acts.{acts_made, acts_pending, acts_of, acts_of_all, InOrder, all_taken, next_taken, granted_so_far, asked_on}
use Rattle.interleavings.specs.Going.{child_from}
use Rattle.interleavings.specs.Laws.{IsSettledBy}
use Rattle.interleavings.specs.Rows.{children_made}
use Rattle.interleavings.proofs.GrantsKnown.{served_before}
use Rattle.interleavings.proofs.Readings.{in_either}
use Rattle.interleavings.proofs.Ordering.{orders_exist}
use Rattle.interleavings.proofs.Running.{runs_keep_invariant}
use Rattle.run_refinement.specs.RunState.{RunState, Refines, Follows, GrantedAt, Shares}
use Rattle.run_refinement.specs.Ready.{IsTimely}
use Rattle.run_refinement.specs.Sharing.{RoundAct, done_by, done_before, done_from, object_after, waits_in, waits_by, is_queued, Waiter, waiter_of, waiter_in, asked_before, SameObject, AreAskedBefore, AsksBefore, asked_at, round_act, asked_by, asked_of}
use Rattle.run_refinement.specs.Turn.{child_at, serials_from}
use Rattle.run_refinement.specs.Turning.{Turning}
use Rattle.run_refinement.proofs.ActsKeep.{not_both, same_or}
use Rattle.run_refinement.proofs.AlikeActs.{left_if, now_left, as_before, same_left, same_before, Alike, alike_append, alike_fixed, alike_late, other_label, made_fixed, before_fixed, made_late, asked_left}
use Rattle.run_refinement.proofs.Children.{made_join, made_before, made_now}
use Rattle.run_refinement.proofs.Counts.{count, of_asker}
use Rattle.run_refinement.proofs.DoneLists.{each_among, all_kept, none_kept, each_weaker, each_filter, sorted_each, from_append, befores}
use Rattle.run_refinement.proofs.Found.{nth}
use Rattle.run_refinement.proofs.Parts.{begun_at}
use Rattle.task_machine.specs.Fitting.{blocks_of, waits_of}
use Rattle.task_machine.specs.Standing.{IsBegun}
use Rattle.run_refinement.proofs.Gone.{asked_then, none_queued, acts_label}
use Rattle.run_refinement.proofs.Grants.{granted_in}
use Rattle.run_refinement.proofs.JumpsOn.{once_later, is_late, left_after, no_late_object}
use Rattle.run_refinement.proofs.LabelsApart.{below_of}
use Rattle.run_refinement.proofs.Orders.{Rises, one_has_label, labels_differ, all_born, taken_in}
use Rattle.run_refinement.proofs.OtherAskers.{done_with, object_with, IsSameAsker, sorted_with, objects_with}
use Rattle.run_refinement.proofs.RoundLists.{IsQueued, AskedEarlier, done_acted, done_by_append, done_by_none, round_acted, turn_round, pending_past, pending_round}
use Rattle.run_refinement.proofs.RunFacts.{DoneBy, all_by, all_acts_by, each_append}
use Rattle.run_refinement.proofs.TurnedObjects.{EachAsker, tickets_weaker, askers_weaker, askers_all, askers_none, left_in, object_left, tickets_wait, object_turned}
use Rattle.task_machine.proofs.Stacked.{one_of}

-- ---- the turn of a task that was in a queue

acts_join : (l task : Label) (xs ys : List Event) → acts_made l task (xs ++ ys) ≡ acts_made l task xs ++ acts_made l task ys
acts_join l task [] ys = refl
acts_join l task (acts m u a ∷ xs) ys = by_label (same_label l m) (acts_join l task xs ys)
  where
    d : Done
    d = record { at = u; task = task; act = a }

    by_label : (b : Bool) → acts_made l task (xs ++ ys) ≡ acts_made l task xs ++ acts_made l task ys →
        done_if b d (acts_made l task (xs ++ ys)) ≡ done_if b d (acts_made l task xs) ++ acts_made l task ys
    by_label true h = ap (λ (ds : List Done). d ∷ ds) h
    by_label false h = h
acts_join l task (noted u e ∷ xs) ys = acts_join l task xs ys
acts_join l task (signs m u ∷ xs) ys = acts_join l task xs ys
acts_join l task (enters m u d ∷ xs) ys = acts_join l task xs ys
acts_join l task (starts i m u ∷ xs) ys = acts_join l task xs ys

asks_append : (v : ℕ) (xs ys : List Event) → AsksBefore v xs → AsksBefore v ys → AsksBefore v (xs ++ ys)
asks_append v [] ys h k = k
asks_append v (acts l u (asks a part left) ∷ xs) ys h k = (h.0, asks_append v xs ys h.1 k)
asks_append v (acts l u (opens kind) ∷ xs) ys h k = asks_append v xs ys h k
asks_append v (acts l u gives_back ∷ xs) ys h k = asks_append v xs ys h k
asks_append v (acts l u closes ∷ xs) ys h k = asks_append v xs ys h k
asks_append v (noted u e ∷ xs) ys h k = asks_append v xs ys h k
asks_append v (signs m u ∷ xs) ys h k = asks_append v xs ys h k
asks_append v (enters m u d ∷ xs) ys h k = asks_append v xs ys h k
asks_append v (starts i m u ∷ xs) ys h k = asks_append v xs ys h k

nothing_asked : (v : ℕ) (es : List Event) → AsksNothing es → AsksBefore v es
nothing_asked v [] h = tt
nothing_asked v (acts l u (asks a part left) ∷ es) h = absurd h
nothing_asked v (acts l u (opens kind) ∷ es) h = nothing_asked v es h
nothing_asked v (acts l u gives_back ∷ es) h = nothing_asked v es h
nothing_asked v (acts l u closes ∷ es) h = nothing_asked v es h
nothing_asked v (noted u e ∷ es) h = nothing_asked v es h
nothing_asked v (signs m u ∷ es) h = nothing_asked v es h
nothing_asked v (enters m u d ∷ es) h = nothing_asked v es h
nothing_asked v (starts i m u ∷ es) h = nothing_asked v es h

first_asked : (t v : ℕ) (o : Option Label) (here : Here) (ask : Ask) (since : ℕ) (es : List Event) → since < v → AsksFirst t o here ask since es → AsksBefore v es
first_asked t v None here ask since es lt h = nothing_asked v es h
first_asked t v (Some l) here ask since [] lt h = absurd h
first_asked t v (Some l) here ask since (acts m u (asks a part left) ∷ es) lt h =
    (let e : u ≡ since = h.1 in omega (arith, e, lt), nothing_asked v es h.5)
first_asked t v (Some l) here ask since (acts m u (opens kind) ∷ es) lt h = absurd h
first_asked t v (Some l) here ask since (acts m u gives_back ∷ es) lt h = absurd h
first_asked t v (Some l) here ask since (acts m u closes ∷ es) lt h = absurd h
first_asked t v (Some l) here ask since (noted u e ∷ es) lt h = absurd h
first_asked t v (Some l) here ask since (signs m u ∷ es) lt h = absurd h
first_asked t v (Some l) here ask since (enters m u d ∷ es) lt h = absurd h
first_asked t v (Some l) here ask since (starts i m u ∷ es) lt h = absurd h

turn_asks : (t : ℕ) (here : Here) (fs : List Frame) (ps : List Place) (s : Stopped) (es : List Event) → AskedEarlier t s → AskedFirst t here (Some s) fs ps es →
    AsksBefore t es
turn_asks t here fs ps (queued name ask since body) es lt h = first_asked t t (label_among true name ps) (inside fs here) ask since es lt h
turn_asks t here fs ps rest.to_begin es lt h = nothing_asked t es h
turn_asks t here fs ps (rest.asking kernel purpose) es lt h = nothing_asked t es h
turn_asks t here fs ps (rest.asleep paced n since) es lt h = nothing_asked t es h
turn_asks t here fs ps (rest.waiting_for event since) es lt h = nothing_asked t es h
turn_asks t here fs ps (rest.giving_up since) es lt h = nothing_asked t es h
turn_asks t here fs ps (rest.awaiting children ended exc) es lt h = nothing_asked t es h
turn_asks t here fs ps (rest.at_end u e) es lt h = nothing_asked t es h

-- when a task leaves its queue by a wake
abbrev left_by : Wake → ℕ → Tick
left_by (wakes.is_granted what) t = None
left_by _ t = Some t

-- a wake of a task in a queue
abbrev IsOfQueue : Wake → Type 0
IsOfQueue wakes.sees = Unit {0}
IsOfQueue wakes.is_due = Unit {0}
IsOfQueue (wakes.is_granted what) = Unit {0}
IsOfQueue _ = ⊥

-- events that begin with this one
abbrev Begins : Event → List Event → Type 0
Begins e es = (others : List Event) × (es ≡ e ∷ others)

begins_then : (o p : Move) (e : Event) (es : List Event) → o.stopped ≡ None → o.made ≡ e ∷ es → Begins e (then_move o.stopped o p).made
begins_then o p e es s i = (es ++ p.made, ap (λ (z : Option Stopped). (then_move z o p).made) s ∙ ap (λ (xs : List Event). xs ++ p.made) i)

-- a turn of a task in a queue makes first what it asked
made_first : (n : ℕ) (f : Table) (now : Now) (here : Here) (w : Wake) (name : List ℕ) (ask : Ask) (since : ℕ) (body : Steps) (fs : List Frame) (ps : List Place)
    (count : ℕ) (l : Label) → IsOfQueue w → label_among true name ps ≡ Some l →
    Begins (acts l since (asks ask (inside fs here).part (left_by w now.at))) (turn_from n f now here w (queued name ask since body) fs ps count).made
unfolding turn_from
made_first n f now here w name ask since body fs ps count l of_queue label =
    let b = first w of_queue in begins_then (wake_of f now here w (queued name ask since body) fs ps) _ _ b.0 b.1 b.2
  where
    First : Wake → Move → Type 0
    First w o = (es : List Event) × (o.stopped ≡ None) × (o.made ≡ acts l since (asks ask (inside fs here).part (left_by w now.at)) ∷ es)

    granted : (what : What) → First (wakes.is_granted what) (wakes.granted_move l (inside fs here) ask since now.at body what fs ps)
    granted whats.a_token = (_, refl, refl)
    granted whats.was_sent = (_, refl, refl)
    granted (whats.a_part part) = (_, refl, refl)
    granted whats.closed_resource = (_, refl, refl)
    granted whats.end_of_channel = (_, refl, refl)

    first : (w : Wake) → IsOfQueue w → First w (wake_of f now here w (queued name ask since body) fs ps)
    first wakes.sees h =
        subst (λ (o : Option Label). First wakes.sees (wakes.leaves_the_queue o (inside fs here) ask since now.at cancelled fs ps)) (sym label) ([], refl, refl)
    first wakes.is_due h =
        subst (λ (o : Option Label). First wakes.is_due (wakes.leaves_the_queue o (inside fs here) ask since now.at
        (raised (codes "Deadlock") here.task (tick_of here.clock now.at)) fs ps)) (sym label) ([], refl, refl)
    first (wakes.is_granted what) h =
        subst (λ (o : Option Label). First (wakes.is_granted what) (wakes.granted_on o (inside fs here) ask since now.at body what fs ps)) (sym label)
        (granted what)
    first wakes.begins h = absurd h
    first wakes.gives_up h = absurd h
    first (wakes.has_answer a) h = absurd h
    first (wakes.settles exc) h = absurd h

left_in_time : (w : Wake) (t : ℕ) → LeavesIn t (left_by w t)
left_in_time (wakes.is_granted what) t = tt
left_in_time wakes.sees t = refl
left_in_time wakes.is_due t = refl
left_in_time wakes.begins t = refl
left_in_time wakes.gives_up t = refl
left_in_time (wakes.has_answer a) t = refl
left_in_time (wakes.settles exc) t = refl

-- ---- a turn

module _ (k : Tables) (job : Job) (input : List ℕ) (t m s : ℕ) (old new : RunState) (before after : Task) (stop : Stop)
    (settled : IsSettledBy k job input) (names : GivesNamesOnce job) (starting : StartsInNurseries job) (c : Refines k job input t m None old)
    (T : Turning k job input t m s old new c.numbers before after stop c.interleaving)
  where
    abbrev at : ℕ → Started
    at = c.interleaving.at

    abbrev at' : ℕ → Started
    at' = T.is.at

    abbrev qs : List Started
    qs = c.interleaving.tasks

    abbrev qs' : List Started
    qs' = T.is.tasks

    abbrev q : Started
    q = c.interleaving.at s

    abbrev f : Table
    f = c.interleaving.cancelled_from

    mover : Follows old f input t at c.numbers None s before
    mover = c.follows s before T.code.task

    there : IsAmong q qs
    there = (c.interleaving.has s T.below).0

    order : (taken : List Started) × InOrder qs (0 ∷ []) taken
    order = orders_exist k job input names starting settled f t m qs c.interleaving.reached

    tick : old.world.tick ≡ t
    tick = c.tick

    tick' : new.world.tick ≡ t
    tick' = ap (λ (w : World). w.tick) T.code.world ∙ c.tick

    through' : new.through ≡ t
    through' = T.code.through_after ∙ T.code.unserved

    -- ---- where the task was in a queue

    record InQueue (name : List ℕ) (wanted : Ask) (since : ℕ) (body : Steps) : Type 0 where
      label : Label
      named : label_among true name q.places ≡ Some label
      past : since < t
      left : Tick
      leaves : LeavesIn t left
      first : Begins (acts label since (asks wanted (inside q.rest.frames q.here).part left)) T.move.made
      granted : left ≡ None → (w : What) × (old.granted s ≡ Some w)
      state : (key : ℕ) × (a : Ask) × (steps : Bor Steps) × (before.task_state ≡ Queued key a since steps)

    module _ (name : List ℕ) (wanted : Ask) (since : ℕ) (body : Steps) (is : q.rest.stopped ≡ queued name wanted since body) where
      shared : GrantedAt old order.0 s q (queued name wanted since body)
      shared = subst (GrantedAt old order.0 s q) is (c.shares.granted order.0 order.1 s T.below)

      by_label : (o : Option Label) → label_among true name q.places ≡ o → IsSome o → (l : Label) × (label_among true name q.places ≡ Some l)
      by_label None e h = absurd h
      by_label (Some l) e h = (l, e)

      its_label : (l : Label) × (label_among true name q.places ≡ Some l)
      its_label =
          by_label (label_among true name q.places) refl
          (subst (λ (x : Stopped). PlacedStop x q.rest.frames q.places) is
          (subst (λ (gs : List Frame). PlacedStop q.rest.stopped gs q.places) mover.frames mover.stands.placed)).0

      abbrev Its : Wake → Type 0
      Its w = (since < t) × IsOfQueue w × (left_by w t ≡ None → (x : What) × (old.granted s ≡ Some x))

      by_wake : (key : ℕ) (a : Ask) (v : ℕ) (steps : Bor Steps) → v ≡ since → (w : code.Wake) → WakesFrom (Queued key a v steps) (lent_of before) old.world.book w →
          IsTimely old.world (old.granted s) (scope_of before) (Queued key a v steps) w → Its (wake_in old.world.book (Queued key a v steps) w)
      by_wake key a v steps e kinds.Due fits timely =
          ((let g : v < old.world.tick = timely.1 in omega (arith, g, e, tick)), tt, λ z. absurd (not_both z refl))
      by_wake key a v steps e kinds.Seen fits timely =
          ((let g : v < old.world.tick = timely.1 in omega (arith, g, e, tick)), tt, λ z. absurd (not_both z refl))
      by_wake key a v steps e (kinds.Granted grant) fits timely = (by_order (cases_lt since t), tt, λ z. (what_in grant, timely))
        where
          by_order : (since < t) ⊎ (t ≤ since) → since < t
          by_order (inl lt) = lt
          by_order (inr le) = absurd (not_both (shared.1 (subst (λ (x : ℕ). x ≤ since) (sym T.code.unserved) le)) timely)
      by_wake key a v steps e kinds.Begin fits timely = absurd fits
      by_wake key a v steps e (kinds.Answer answer) fits timely = absurd fits
      by_wake key a v steps e kinds.Settled fits timely = absurd fits

      by_state : (task_state : TaskState) → before.task_state ≡ task_state → IsTaskState (c.numbers s) old.world.book task_state (queued name wanted since body) →
          (WakesFrom task_state (lent_of before) old.world.book T.woken_by) → IsTimely old.world (old.granted s) (scope_of before) task_state T.woken_by →
          Its (wake_in old.world.book task_state T.woken_by) × ((key : ℕ) × (a : Ask) × (steps : Bor Steps) × (before.task_state ≡ Queued key a since steps))
      by_state (Queued key a v steps) e h fits timely =
          (by_wake key a v steps h.1 T.woken_by fits timely, (key, a, steps, e ∙ ap (λ (x : ℕ). Queued key a x steps) h.1))
      by_state (ToBegin v) e h fits timely = absurd h
      by_state (Asked kernel purpose) e h fits timely = absurd h
      by_state (Asleep paced ticks v) e h fits timely = absurd h
      by_state (Waiting key v) e h fits timely = absurd h
      by_state (GivingUp v) e h fits timely = absurd h
      by_state (Awaits id v) e h fits timely = absurd h
      by_state Over e h fits timely = absurd h

      in_queue : InQueue name wanted since body
      in_queue =
          let x = by_state before.task_state refl
          (subst (λ (z : Stopped). IsTaskState (c.numbers s) old.world.book before.task_state z) is mover.task_state) T.code.goes.fits T.code.goes.timely in
          let its : Its T.wake = subst Its (sym T.woken) x.0 in
          record {
            label = its_label.0;
            named = its_label.1;
            past = its.0;
            left = left_by T.wake t;
            leaves = left_in_time T.wake t;
            first =
                subst (λ (o : Move). Begins (acts its_label.0 since (asks wanted (inside q.rest.frames q.here).part (left_by T.wake t))) o.made) (sym T.turned)
                (subst (λ (z : Stopped). Begins (acts its_label.0 since (asks wanted (inside q.rest.frames q.here).part (left_by T.wake t)))
                (turn_from T.steps f (record { at = t; own = T.own }) q.here T.wake z q.rest.frames q.places q.count).made) (sym is)
                (made_first T.steps f (record { at = t; own = T.own }) q.here T.wake name wanted since body q.rest.frames q.places q.count its_label.0 its.1
                its_label.1));
            granted = its.2;
            state = x.1;
          }

    asked_earlier : (stopped : Stopped) → q.rest.stopped ≡ stopped → AskedEarlier t stopped
    asked_earlier (queued name wanted since body) is = (in_queue name wanted since body is).past
    asked_earlier rest.to_begin is = tt
    asked_earlier (rest.asking kernel purpose) is = tt
    asked_earlier (rest.asleep paced n since) is = tt
    asked_earlier (rest.waiting_for event since) is = tt
    asked_earlier (rest.giving_up since) is = tt
    asked_earlier (rest.awaiting children ended exc) is = tt
    asked_earlier (rest.at_end u e) is = tt

    earlier : AskedEarlier t q.rest.stopped
    earlier = asked_earlier q.rest.stopped refl

    -- ---- what it does in this moment

    stops_now : StopsAt q.here.clock t (cancelled_from_after f T.move.made) (Some T.stopped) T.move.places
    stops_now = subst (λ (o : Option Stopped). StopsAt q.here.clock t (cancelled_from_after f T.move.made) o T.move.places) T.stops T.promise.stops

    blocks_on : IsTaskState T.took.numbers_after new.world.book after.task_state T.stopped
        × IsReturned old.world.clock (lent_of after) stop after.task_state T.stopped
    blocks_on = subst (λ (o : Option Stopped). StopsAs old.world.clock T.took.numbers_after new.world.book (lent_of after) stop after.task_state o) T.stops
        T.took.moves.1

    abbrev made : Label → List Done
    made l = acts_made l q.here.task q.made

    abbrev more : Label → List Done
    more l = acts_made l q.here.task T.move.made

    abbrev pending : Label → List Done
    pending l = acts_pending l q.here q.rest.frames q.places q.rest.stopped

    abbrev pending' : Label → List Done
    pending' l = acts_pending l q.here T.move.frames T.move.places T.stopped

    acts_after : (l : Label) → acts_of l (at' s) ≡ made l ++ (more l ++ pending' l)
    acts_after l =
        ap (acts_of l) T.of_task
        ∙ (ap (λ (ds : List Done). ds ++ pending' l) (acts_join l q.here.task q.made T.move.made) ∙ append_assoc (made l) (more l) (pending' l))

    label_after : (at' s).here.task ≡ q.here.task
    label_after = ap (λ (x : Started). x.here.task) T.of_task

    frames_are : frames_of T.took.numbers_after after.frames.items ≡ T.move.frames
    frames_are = T.took.frames_after

    part_now : (lent_of after).range ≡ (inside T.move.frames q.here).part
    part_now =
        sym (cuts_inside T.took.numbers_after after.frames.items (buffer_of after.part) (range_of after.part))
        ∙ (ap (λ (gs : List Frame). (inside gs (here_of old.world.clock after)).part) frames_are
        ∙ (ap (λ (p : Part). (inside T.move.frames (record (here_of old.world.clock after) { input = buffer_of p; part = range_of p })).part)
        (ap (λ (x : Task). x.part) T.code.stays)
        ∙ ap (λ (h : Here). (inside T.move.frames h).part) (here_stays ∙ mover.here)))
      where
        here_stays : record (here_of old.world.clock after) { input = buffer_of before.part; part = range_of before.part } ≡ here_of old.world.clock before
        here_stays = ap (λ (l : Label). record (here_of old.world.clock before) { task = l; path = l.indices }) (ap (λ (x : Task). x.label) T.code.stays)

    pending_now : (l : Label) → done_from t (pending' l) ≡ done_by s l t q.here.task (asked_by s after (label_at new.world) stop)
    pending_now l =
        pending_round s l t q.here T.move.frames T.move.places after (label_at new.world) (outer_of new.world.scopes (scope_of after)) old.world.clock
        T.took.numbers_after new.world.book q.here.clock (cancelled_from_after f T.move.made) (lent_of after) stop after.task_state T.stopped blocks_on.0 blocks_on.1
        stops_now
        (subst (λ (o : Option Stopped). AwaitsEvent (label_at new.world) (outer_of new.world.scopes (scope_of after)) o after.task_state T.move.places) T.stops
        T.took.event)
        part_now

    abbrev noted_now : List RoundAct
    noted_now = map (round_act s) new.world.acts.items

    abbrev asked_now : List RoundAct
    asked_now = asked_by s after (label_at new.world) stop

    noted_acts : map acted_of new.world.acts.items ≡ acts_to_serve T.move.made
    noted_acts = T.took.served ∙ ap (λ (xs : List ObjectAct). map acted_of xs ++ acts_to_serve T.move.made) T.code.none_done

    more_now : (l : Label) → done_from t (more l) ≡ done_by s l t q.here.task noted_now
    more_now l =
        turn_round q.here.clock t (labels_of q.places) q.here q.rest.frames q.places q.rest.stopped l q.here.task T.move.made earlier T.promise.made_now
        T.promise.asked
        ∙ sym (round_acted s l t q.here.task new.world.acts.items ∙ ap (done_acted l t q.here.task) noted_acts)

    old_round : (p : ℕ) → p < m → (l : Label) → done_from t (acts_of l (at p)) ≡ done_by p l t (at p).here.task old.round
    old_round p below l =
        ap (λ (v : ℕ). done_from v (acts_of l (at p))) (sym T.code.unserved) ∙ (c.shares.round p below l
        ∙ ap (λ (v : ℕ). done_by p l v (at p).here.task old.round) tick)

    made_now' : (l : Label) → done_from t (made l) ≡ done_by s l t q.here.task old.round
    made_now' l =
        sym (append-nil (done_from t (made l)))
        ∙ (ap (λ (ds : List Done). done_from t (made l) ++ ds) (sym (pending_past t l q.here q.rest.frames q.places q.rest.stopped earlier))
        ∙ (sym (from_append t (made l) (pending l)) ∙ old_round s T.below l))

    mover_round : (l : Label) → done_from t (acts_of l (at' s)) ≡ done_by s l t q.here.task new.round
    mover_round l =
        ap (done_from t) (acts_after l)
        ∙ (from_append t (made l) (more l ++ pending' l)
        ∙ (ap (λ (ds : List Done). done_from t (made l) ++ ds) (from_append t (more l) (pending' l))
        ∙ (ap (λ (ds : List Done). ds ++ (done_from t (more l) ++ done_from t (pending' l))) (made_now' l)
        ∙ (ap (λ (ds : List Done). done_by s l t q.here.task old.round ++ (ds ++ done_from t (pending' l))) (more_now l)
        ∙ (ap (λ (ds : List Done). done_by s l t q.here.task old.round ++ (done_by s l t q.here.task noted_now ++ ds)) (pending_now l)
        ∙ (ap (λ (ds : List Done). done_by s l t q.here.task old.round ++ ds) (sym (done_by_append s l t q.here.task noted_now asked_now))
        ∙ (sym (done_by_append s l t q.here.task old.round (noted_now ++ asked_now))
        ∙ ap (done_by s l t q.here.task) (sym T.code.round_after))))))))

    -- each act that it noted is its own
    mine : Each (λ (a : RoundAct). a.serial ≡ s) (noted_now ++ asked_now)
    mine = each_append (λ (a : RoundAct). a.serial ≡ s) noted_now asked_now (of_items new.world.acts.items) (of_stop stop)
      where
        of_items : (items : List ObjectAct) → Each (λ (a : RoundAct). a.serial ≡ s) (map (round_act s) items)
        of_items [] = tt
        of_items (a ∷ items) = (refl, of_items items)

        of_label : (request : ObjectRequest) (o : Option Label) → Each (λ (a : RoundAct). a.serial ≡ s) (asked_of s request o)
        of_label request None = tt
        of_label request (Some l) = (refl, tt)

        of_stop : (stop : Stop) → Each (λ (a : RoundAct). a.serial ≡ s) (asked_by s after (label_at new.world) stop)
        of_stop (stops.Queue request) = of_label request (label_at new.world request.object)
        of_stop (stops.Ask request) = tt
        of_stop (stops.Sleep due) = tt
        of_stop (stops.WaitFor event) = tt
        of_stop (stops.GiveUp due) = tt
        of_stop (stops.Wait id) = tt
        of_stop (stops.Ended exc) = tt

    other_round : (p : ℕ) → p ≢ s → (l task : Label) → done_by p l t task new.round ≡ done_by p l t task old.round
    other_round p differs l task =
        ap (done_by p l t task) T.code.round_after
        ∙ (done_by_append p l t task old.round (noted_now ++ asked_now)
        ∙ (ap (λ (ds : List Done). done_by p l t task old.round ++ ds)
        (done_by_none p l t task (noted_now ++ asked_now)
        (each_weaker (λ (a : RoundAct). a.serial ≡ s) (λ (a : RoundAct). a.serial ≢ p) (noted_now ++ asked_now) (λ a e g. differs (sym g ∙ e)) mine))
        ∙ append-nil (done_by p l t task old.round)))

    -- a serial number is that of the task, of one that was there, or of a new one
    abbrev Whose : ℕ → Type 0
    Whose p = (p ≡ s) ⊎ (((p < m) × (p ≢ s)) ⊎ ((i : ℕ) × (m + i ≡ p)))

    whose : (p : ℕ) → Whose p
    whose p = by_order (same_or p s) (cases_lt p m)
      where
        by_order : (p ≡ s) ⊎ (p ≢ s) → (p < m) ⊎ (m ≤ p) → Whose p
        by_order (inl e) o = inl e
        by_order (inr differs) (inl below) = inr (inl (below, differs))
        by_order (inr differs) (inr le) = inr (inr (p - m, omega (arith, le)))

    -- a new child has done nothing
    born : (i : ℕ) → i < length T.move.begun → (b : Begun) × (at' (m + i) ≡ child_at k (a_round_after q.here.clock t) (m + i) b)
    born i lt = let b = nth T.move.begun i lt in (b.0, T.of_child i b.0 b.1)

    round_then : (p : ℕ) → p < m + length T.move.begun → (l : Label) →
        done_from new.through (acts_of l (at' p)) ≡ done_by p l new.world.tick (at' p).here.task new.round
    round_then p less l =
        ap (λ (v : ℕ). done_from v (acts_of l (at' p))) through'
        ∙ (by_whose (whose p) ∙ ap (λ (v : ℕ). done_by p l v (at' p).here.task new.round) (sym tick'))
      where
        Round : ℕ → Type 0
        Round p = done_from t (acts_of l (at' p)) ≡ done_by p l t (at' p).here.task new.round

        by_whose : Whose p → Round p
        by_whose (inl e) = subst Round (sym e) (mover_round l ∙ ap (λ (x : Label). done_by s l t x new.round) (sym label_after))
        by_whose (inr (inl o)) =
            subst (λ (x : Started). done_from t (acts_of l x) ≡ done_by p l t x.here.task new.round) (sym (T.of_other p o.0 o.1))
            (old_round p o.0 l ∙ sym (other_round p o.1 l (at p).here.task))
        by_whose (inr (inr i)) =
            let b = born i.0 (let e = i.1 in omega (arith, e, less)) in
            let differs : m + i.0 ≢ s = λ e. absurd (let low = T.below in omega (arith, e, low)) in
            subst Round i.1
            (ap (λ (x : Started). done_from t (acts_of l x)) b.1
            ∙ sym (other_round (m + i.0) differs l (at' (m + i.0)).here.task ∙ done_by_none (m + i.0) l t (at' (m + i.0)).here.task old.round
            (none_new old.round (λ a j. c.shares.known a j))))
          where
            none_new : (xs : List RoundAct) → ((a : RoundAct) → IsAmong a xs → a.serial < m) → Each (λ (a : RoundAct). a.serial ≢ m + i.0) xs
            none_new [] h = tt
            none_new (a ∷ xs) h = ((λ e. absurd (let low = h a (inl refl) in omega (arith, e, low))), none_new xs (λ b j. h b (inr j)))

    -- ---- what was done before this moment

    pending_late : (l : Label) → Each (λ (d : Done). t ≤ d.at) (pending' l)
    pending_late l = of_stop T.stopped stops_now
      where
        of_label : (o : Option Label) (wanted : Ask) (since : ℕ) → since ≡ t →
            Each (λ (d : Done). t ≤ d.at) (asked_on l o q.here.task (inside T.move.frames q.here) wanted since)
        of_label None wanted since e = tt
        of_label (Some n) wanted since e = by_test (same_label l n)
          where
            by_test : (b : Bool) → Each (λ (d : Done). t ≤ d.at)
                (done_if b (record { at = since; task = q.here.task; act = asks wanted (inside T.move.frames q.here).part None }) [])
            by_test true = (omega (arith, e), tt)
            by_test false = tt

        of_stop : (x : Stopped) → StopsAt q.here.clock t (cancelled_from_after f T.move.made) (Some x) T.move.places →
            Each (λ (d : Done). t ≤ d.at) (acts_pending l q.here T.move.frames T.move.places x)
        of_stop (queued name wanted since body) h = of_label (label_among true name T.move.places) wanted since h.0
        of_stop rest.to_begin h = tt
        of_stop (rest.asking kernel purpose) h = tt
        of_stop (rest.asleep paced n since) h = tt
        of_stop (rest.waiting_for event since) h = tt
        of_stop (rest.giving_up since) h = tt
        of_stop (rest.awaiting children ended exc) h = tt
        of_stop (rest.at_end u e) h = tt

    -- what is known of the task that had its turn: whom it was in the queues, and who is left there
    record Turns : Type 0 where
      other : Asker → Asker
      same : IsSameAsker t other
      weaker : (a : Asker) → stays_at t (other a) ≡ true → stays_at t a ≡ true
      keep : Waiter → Bool
      own : (l : Label) → Alike other t (acts_of l q) (acts_of l (at' s))
      others : (d : Done) → (q.here.task ≡ d.task → ⊥) → done_with other d ≡ d
      tickets : (ticket : Ticket) → waits_in old.task ticket ≡ true → keep (waiter_of at ticket) ≡ not (ticket.row == s)
      askers : (taken : List Started) → InOrder qs (0 ∷ []) taken → (l : Label) →
          EachAsker (λ a. stays_at t a ≡ true → keep (waiter_in a) ≡ stays_at t (other a)) (object_after unopened (by_moment (done_before t (acts_of_all l taken))))

    -- a ticket that waits is of a task that is in a queue since its moment
    ticket_task : (ticket : Ticket) → waits_in old.task ticket ≡ true → (task : Task) × (old.task ticket.row ≡ Some task) × (is_queued task.task_state ticket.since ≡ true)
    ticket_task ticket h = by_task (old.task ticket.row) refl h
      where
        by_task : (o : Option Task) → old.task ticket.row ≡ o → waits_by o ticket.since ≡ true →
            (task : Task) × (old.task ticket.row ≡ Some task) × (is_queued task.task_state ticket.since ≡ true)
        by_task None e g = absurd (let z : false ≡ true = g in cc)
        by_task (Some task) e g = (task, e, g)

    not_row : (ticket : Ticket) → ticket.row ≢ s → not (ticket.row == s) ≡ true
    not_row ticket differs = ap not (by_test (ticket.row == s) refl)
      where
        by_test : (b : Bool) → (ticket.row == s) ≡ b → (ticket.row == s) ≡ false
        by_test false e = e
        by_test true e = absurd (differs (eqb-true ticket.row s e))

    own_row : (ticket : Ticket) → ticket.row ≡ s → not (ticket.row == s) ≡ false
    own_row ticket e = ap (λ (n : ℕ). not (n == s)) e ∙ ap not (eq-eqb s s refl)

    other_task : (p : ℕ) → p < m → p ≢ s → q.here.task ≡ (at p).here.task → ⊥
    other_task p below differs e =
        differs (sym (c.interleaving.has p below).1 ∙ (sym (labels_differ k job input f t m qs settled names starting c.interleaving.reached order.0 order.1 q (at p)
        there (c.interleaving.has p below).0 e) ∙ (c.interleaving.has s T.below).1))

    own_made : (v : ℕ) → AsksBefore v q.made → (label : Label) (left : Tick) (l : Label) → Alike (now_left label v left) t (made l) (made l)
    own_made v h label left l = alike_fixed (now_left label v left) t (made l) (made_fixed l q.here.task label v left q.made h)

    -- a task in no queue leaves none
    in_none : (pending_none : (l : Label) → pending l ≡ []) → AsksNothing T.move.made → ((ticket : Ticket) → waits_in old.task ticket ≡ true → ticket.row ≢ s) → Turns
    in_none pending_none asks_none no_ticket =
        record {
          other = as_before;
          same = same_before t;
          weaker = λ a h. h;
          keep = λ w. true;
          own = λ l.
              subst (λ (ds : List Done). Alike as_before t ds (acts_of l (at' s))) (sym (ap (λ (ds : List Done). made l ++ ds) (pending_none l)))
              (subst (λ (ds : List Done). Alike as_before t (made l ++ []) ds) (sym (acts_after l))
              (alike_append as_before t (made l) (made l) [] (more l ++ pending' l) (alike_fixed as_before t (made l) (before_fixed (made l)))
              (alike_late as_before t (more l ++ pending' l)
              (each_append (λ (d : Done). t ≤ d.at) (more l) (pending' l)
              (made_late q.here.clock t (labels_of q.places) l q.here.task T.move.made T.promise.made_now asks_none) (pending_late l)))));
          others = λ d e. each_first d;
          tickets = λ ticket h. sym (not_row ticket (no_ticket ticket h));
          askers = λ taken ord l. askers_all (λ a. stays_at t a ≡ true → true ≡ stays_at t a) _ (λ a h. sym h);
        }
      where
        each_first : (d : Done) → done_with as_before d ≡ d
        each_first d = (before_fixed (d ∷ [])).0

    -- one in a queue leaves it
    in_one : (name : List ℕ) (wanted : Ask) (since : ℕ) (body : Steps) → q.rest.stopped ≡ queued name wanted since body → Turns
    in_one name wanted since body is =
        record {
          other = left_now;
          same = same_left t q.here.task since x.left x.leaves;
          weaker = λ a h. by_left (asked_then q.here.task since a.task a.at) a.left h;
          keep = λ w. not (asked_then q.here.task since w.task w.since);
          own = own_alike;
          others = λ d e. other_label q.here.task since x.left d e;
          tickets = its_tickets;
          askers = its_askers x.left x.leaves refl x.granted;
        }
      where
        x : InQueue name wanted since body
        x = in_queue name wanted since body is

        left_now : Asker → Asker
        left_now = now_left q.here.task since x.left

        before_since : AsksBefore since q.made
        before_since = subst (λ (z : Stopped). AsksBefore (asked_at old.world.tick z) q.made) is (c.shares.once s T.below)

        by_left : (b : Bool) (left : Tick) → not (is_reached (left_if b x.left left) t) ≡ true → not (is_reached left t) ≡ true
        by_left false left h = h
        by_left true None h = refl
        by_left true (Some u) h = h

        pending_is : (l : Label) → pending l ≡ done_if (same_label l x.label) (record { at = since; task = q.here.task; act = asks wanted (inside q.rest.frames q.here).part None }) []
        pending_is l =
            ap (λ (z : Stopped). acts_pending l q.here q.rest.frames q.places z) is
            ∙ ap (λ (o : Option Label). asked_on l o q.here.task (inside q.rest.frames q.here) wanted since) x.named

        asked_first : AsksFirst t (Some x.label) (inside q.rest.frames q.here) wanted since
            (acts x.label since (asks wanted (inside q.rest.frames q.here).part x.left) ∷ x.first.0)
        asked_first =
            subst (λ (es : List Event). AsksFirst t (Some x.label) (inside q.rest.frames q.here) wanted since es) x.first.1
            (subst (λ (o : Option Label). AsksFirst t o (inside q.rest.frames q.here) wanted since T.move.made) x.named
            (subst (λ (z : Stopped). AskedFirst t q.here (Some z) q.rest.frames q.places T.move.made) is T.promise.asked))

        made_others : MadeAt q.here.clock t (labels_of q.places) x.first.0
        made_others = (subst (MadeAt q.here.clock t (labels_of q.places)) x.first.1 T.promise.made_now).1

        more_is : (l : Label) → more l ≡ done_if (same_label l x.label)
            (record { at = since; task = q.here.task; act = asks wanted (inside q.rest.frames q.here).part x.left }) [] ++ acts_made l q.here.task x.first.0
        more_is l = ap (acts_made l q.here.task) x.first.1 ∙ split (same_label l x.label)
          where
            d : Done
            d = record { at = since; task = q.here.task; act = asks wanted (inside q.rest.frames q.here).part x.left }

            split : (b : Bool) → done_if b d (acts_made l q.here.task x.first.0) ≡ done_if b d [] ++ acts_made l q.here.task x.first.0
            split true = refl
            split false = refl

        known_now : (left_now (record { task = q.here.task; at = since; left = None })).left ≡ x.left
        known_now =
            ap (λ (b : Bool). left_if (b && (since == since)) x.left None) (same_label_itself q.here.task)
            ∙ ap (λ (b : Bool). left_if b x.left None) (eq-eqb since since refl)

        own_alike : (l : Label) → Alike left_now t (acts_of l q) (acts_of l (at' s))
        own_alike l =
            subst (λ (ds : List Done). Alike left_now t (acts_of l q) ds) (sym (acts_after l))
            (alike_append left_now t (made l) (made l) (pending l) (more l ++ pending' l) (own_made since before_since q.here.task x.left l)
            (subst (λ (ds : List Done). Alike left_now t ds (more l ++ pending' l)) (append-nil (pending l))
            (alike_append left_now t (pending l) (more l) [] (pending' l)
            (subst (λ (ds : List Done). Alike left_now t ds (more l)) (sym (pending_is l))
            (subst (λ (ds : List Done). Alike left_now t (one l None) ds) (sym (more_is l))
            (subst (λ (ds : List Done). Alike left_now t ds (one l x.left ++ acts_made l q.here.task x.first.0)) (append-nil (one l None))
            (alike_append left_now t (one l None) (one l x.left) [] (acts_made l q.here.task x.first.0)
            (asked_left left_now t since l q.here.task wanted (inside q.rest.frames q.here).part x.left (same_label l x.label) x.past known_now x.leaves)
            (alike_late left_now t (acts_made l q.here.task x.first.0)
            (made_late q.here.clock t (labels_of q.places) l q.here.task x.first.0 made_others asked_first.5))))))
            (alike_late left_now t (pending' l) (pending_late l)))))
          where
            one : Label → Tick → List Done
            one l left = done_if (same_label l x.label) (record { at = since; task = q.here.task; act = asks wanted (inside q.rest.frames q.here).part left }) []

        its_tickets : (ticket : Ticket) → waits_in old.task ticket ≡ true →
            not (asked_then q.here.task since (at ticket.row).here.task ticket.since) ≡ not (ticket.row == s)
        its_tickets ticket h = by_row (same_or ticket.row s)
          where
            w : (task : Task) × (old.task ticket.row ≡ Some task) × (is_queued task.task_state ticket.since ≡ true)
            w = ticket_task ticket h

            by_row : (ticket.row ≡ s) ⊎ (ticket.row ≢ s) → not (asked_then q.here.task since (at ticket.row).here.task ticket.since) ≡ not (ticket.row == s)
            by_row (inl e) =
                ap not (ap (λ (n : ℕ). same_label q.here.task (at n).here.task && (since == ticket.since)) e
                ∙ (ap (λ (b : Bool). b && (since == ticket.since)) (same_label_itself q.here.task) ∙ waits))
                ∙ sym (own_row ticket e)
              where
                its : w.0 ≡ before
                its = one_of w.0 before (sym w.1 ∙ (ap old.task e ∙ T.code.task))

                waits : (since == ticket.since) ≡ true
                waits = ap (λ (z : TaskState). is_queued z ticket.since) (sym (ap (λ (y : Task). y.task_state) its ∙ x.state.3)) ∙ w.2
            by_row (inr differs) =
                ap (λ (b : Bool). not (b && (since == ticket.since))) (other (same_label q.here.task (at ticket.row).here.task) refl) ∙ sym (not_row ticket differs)
              where
                other : (b : Bool) → same_label q.here.task (at ticket.row).here.task ≡ b → same_label q.here.task (at ticket.row).here.task ≡ false
                other false e = e
                other true e =
                    absurd (other_task ticket.row (below_of c ticket.row w.0 w.1) differs (same_label_equal q.here.task (at ticket.row).here.task e))

        -- where it gave up, it is in no queue any more
        given_up : (u : ℕ) → u ≡ t → (b : Bool) (was : Tick) → left_after t was ≡ false → not (is_reached was t) ≡ true →
            not b ≡ not (is_reached (left_if b (Some u) was) t)
        given_up u e false was late stays = sym stays
        given_up u e true None late stays = ap not (sym now)
          where
            now : is_reached (Some u) t ≡ true
            now = grind (arith, nat_tests)
        given_up u e true (Some v) late stays = absurd (let z : false ≡ true = sym (ap not now) ∙ stays in cc)
          where
            now : is_reached (Some v) t ≡ true
            now = grind (arith, nat_tests)

        Kept : Tick → Object → Type 0
        Kept left o =
            EachAsker (λ a. stays_at t a ≡ true → not (asked_then q.here.task since a.task a.at)
            ≡ not (is_reached (left_if (asked_then q.here.task since a.task a.at) left a.left) t)) o

        its_askers : (left : Tick) → LeavesIn t left → x.left ≡ left → (left ≡ None → (w : What) × (old.granted s ≡ Some w)) → (taken : List Started) →
            InOrder qs (0 ∷ []) taken → (l : Label) → Kept x.left (object_after unopened (by_moment (done_before t (acts_of_all l taken))))
        its_askers (Some u) leaves e granted taken ord l =
            subst (λ (z : Tick). Kept z (object_after unopened (by_moment (done_before t (acts_of_all l taken))))) (sym e)
            (askers_weaker (λ a. is_late t a ≡ false)
            (λ a. stays_at t a ≡ true → not (asked_then q.here.task since a.task a.at)
            ≡ not (is_reached (left_if (asked_then q.here.task since a.task a.at) (Some u) a.left) t))
            (object_after unopened (by_moment (done_before t (acts_of_all l taken))))
            (λ a late stays. given_up u leaves (asked_then q.here.task since a.task a.at) a.left late stays)
            (askers_none (is_late t) (object_after unopened (by_moment (done_before t (acts_of_all l taken))))
            (no_late_object t (done_before t (acts_of_all l taken)) before_by)))
          where
            done_by_now : Each (DoneBy t) (acts_of_all l taken)
            done_by_now =
                all_acts_by k t l taken (λ y i. all_by k job input settled names starting f t m qs c.interleaving.reached y (taken_in qs (0 ∷ []) taken ord y i))

            before_by : Each (DoneBy t) (done_before t (acts_of_all l taken))
            before_by =
                each_weaker (λ (d : Done). DoneBy t d × (nat_lt d.at t ≡ true)) (DoneBy t) (done_before t (acts_of_all l taken)) (λ d g. g.0)
                (each_filter (DoneBy t) (λ (d : Done). nat_lt d.at t) (acts_of_all l taken) done_by_now)
        its_askers None leaves e granted taken ord l =
            subst (λ (z : Tick). Kept z (object_after unopened (by_moment (done_before t (acts_of_all l taken))))) (sym e)
            (askers_weaker (λ a. of_asker (asked_then q.here.task since) a ≡ false)
            (λ a. stays_at t a ≡ true → not (asked_then q.here.task since a.task a.at)
            ≡ not (is_reached (left_if (asked_then q.here.task since a.task a.at) None a.left) t))
            (object_after unopened (by_moment (done_before t (acts_of_all l taken))))
            (λ a none stays. ap not none ∙ (sym stays ∙ ap (λ (b : Bool). not (is_reached (left_if b None a.left) t)) (sym none)))
            (askers_none (of_asker (asked_then q.here.task since)) (object_after unopened (by_moment (done_before t (acts_of_all l taken))))
            (none_queued job t l x.label q name wanted since body (granted refl).0 taken is x.named before_since one
            (one_has_label k job input f t m qs settled names starting c.interleaving.reached taken ord q.here.task) known)))
          where
            one : (y : Started) → IsAmong y taken → y.here.task ≡ q.here.task → y ≡ q
            one y i g =
                let j = taken_in qs (0 ∷ []) taken ord y i in
                let same : y.serial ≡ s =
                labels_differ k job input f t m qs settled names starting c.interleaving.reached order.0 order.1 y q j there g ∙ (c.interleaving.has s T.below).1 in
                (c.interleaving.one y j).0 ∙ ap at same

            known : granted_before (suc t) (granted_so_far taken x.label q.here.task since) ≡ granted_in t (Some (granted refl).0)
            known =
                subst (λ (v : ℕ). granted_before (suc v) (granted_so_far taken x.label q.here.task since) ≡ granted_in v (Some (granted refl).0)) T.code.unserved
                ((subst (GrantedAt old taken s q) is (c.shares.granted taken ord s T.below)).0
                (subst (λ (v : ℕ). since < v) (sym T.code.unserved) x.past) x.label x.named
                ∙ ap (granted_in old.through) (granted refl).1)

    -- it is one of these
    no_ticket : (stopped : Stopped) → (IsQueued stopped → ⊥) → q.rest.stopped ≡ stopped → (ticket : Ticket) → waits_in old.task ticket ≡ true → ticket.row ≢ s
    no_ticket stopped not_queued is ticket h e =
        by_state before.task_state stopped not_queued
        (subst (λ (z : Stopped). IsTaskState (c.numbers s) old.world.book before.task_state z) is mover.task_state)
        (ap (λ (y : Task). is_queued y.task_state ticket.since) (sym its) ∙ w.2)
      where
        w : (task : Task) × (old.task ticket.row ≡ Some task) × (is_queued task.task_state ticket.since ≡ true)
        w = ticket_task ticket h

        its : w.0 ≡ before
        its = one_of w.0 before (sym w.1 ∙ (ap old.task e ∙ T.code.task))

        by_state : (task_state : TaskState) (stopped : Stopped) → (IsQueued stopped → ⊥) → IsTaskState (c.numbers s) old.world.book task_state stopped →
            is_queued task_state ticket.since ≡ true → ⊥
        by_state (Queued key a v steps) (queued name wanted since body) never is g = never tt
        by_state (Queued key a v steps) _ never is g = is
        by_state (ToBegin v) x never is g = let z : false ≡ true = g in cc
        by_state (Asked kernel purpose) x never is g = let z : false ≡ true = g in cc
        by_state (Asleep paced ticks v) x never is g = let z : false ≡ true = g in cc
        by_state (Waiting key v) x never is g = let z : false ≡ true = g in cc
        by_state (GivingUp v) x never is g = let z : false ≡ true = g in cc
        by_state (Awaits id v) x never is g = let z : false ≡ true = g in cc
        by_state Over x never is g = let z : false ≡ true = g in cc

    turns_by : (stopped : Stopped) → q.rest.stopped ≡ stopped → Turns
    turns_by (queued name wanted since body) is = in_one name wanted since body is
    turns_by rest.to_begin is =
        in_none (λ l. ap (acts_pending l q.here q.rest.frames q.places) is)
        (subst (λ (z : Stopped). AskedFirst t q.here (Some z) q.rest.frames q.places T.move.made) is T.promise.asked) (no_ticket rest.to_begin (λ z. z) is)
    turns_by (rest.asking kernel purpose) is =
        in_none (λ l. ap (acts_pending l q.here q.rest.frames q.places) is)
        (subst (λ (z : Stopped). AskedFirst t q.here (Some z) q.rest.frames q.places T.move.made) is T.promise.asked)
        (no_ticket (rest.asking kernel purpose) (λ z. z) is)
    turns_by (rest.asleep paced n since) is =
        in_none (λ l. ap (acts_pending l q.here q.rest.frames q.places) is)
        (subst (λ (z : Stopped). AskedFirst t q.here (Some z) q.rest.frames q.places T.move.made) is T.promise.asked)
        (no_ticket (rest.asleep paced n since) (λ z. z) is)
    turns_by (rest.waiting_for event since) is =
        in_none (λ l. ap (acts_pending l q.here q.rest.frames q.places) is)
        (subst (λ (z : Stopped). AskedFirst t q.here (Some z) q.rest.frames q.places T.move.made) is T.promise.asked)
        (no_ticket (rest.waiting_for event since) (λ z. z) is)
    turns_by (rest.giving_up since) is =
        in_none (λ l. ap (acts_pending l q.here q.rest.frames q.places) is)
        (subst (λ (z : Stopped). AskedFirst t q.here (Some z) q.rest.frames q.places T.move.made) is T.promise.asked)
        (no_ticket (rest.giving_up since) (λ z. z) is)
    turns_by (rest.awaiting children ended exc) is =
        in_none (λ l. ap (acts_pending l q.here q.rest.frames q.places) is)
        (subst (λ (z : Stopped). AskedFirst t q.here (Some z) q.rest.frames q.places T.move.made) is T.promise.asked)
        (no_ticket (rest.awaiting children ended exc) (λ z. z) is)
    turns_by (rest.at_end u e) is =
        in_none (λ l. ap (acts_pending l q.here q.rest.frames q.places) is)
        (subst (λ (z : Stopped). AskedFirst t q.here (Some z) q.rest.frames q.places T.move.made) is T.promise.asked)
        (no_ticket (rest.at_end u e) (λ z. z) is)

    turns : Turns
    turns = turns_by q.rest.stopped refl

    -- ---- the order of the tasks before the turn

    abbrev is_old : ℕ → Bool
    is_old p = nat_lt p m

    rises : (p : ℕ) → p < m → Rises m (children_made (at p).child (at p).made)
    rises p below = (all_born k job input settled names starting f t m qs c.interleaving.reached (at p) (c.interleaving.has p below).0).rises

    rises_old : (xs : List ℕ) → Rises m xs → Each (λ (n : ℕ). is_old n ≡ true) xs
    rises_old [] h = tt
    rises_old (x ∷ xs) h = (let lt : x < m = h.0 in grind (arith, nat_tests), rises_old xs h.2)

    rises_among : (xs : List ℕ) → Rises m xs → (n : ℕ) → IsAmong n xs → n < m
    rises_among [] h n i = absurd i
    rises_among (x ∷ xs) h n (inl e) = let lt : x < m = h.0 in omega (arith, lt, e)
    rises_among (x ∷ xs) h n (inr i) = rises_among xs h.2 n i

    new_serials : (p n : ℕ) → m ≤ p → Each (λ (x : ℕ). is_old x ≡ false) (serials_from p n)
    new_serials p zero le = tt
    new_serials p (suc n) le = (grind (arith, nat_tests), new_serials (suc p) n (omega (arith, le)))

    children_after : children_made (at' s).child (at' s).made ≡ children_made q.child q.made ++ serials_from m (length T.move.begun)
    children_after =
        ap (λ (x : Started). children_made x.child x.made) T.of_task
        ∙ (made_join (child_from q.count q.child m) q.made T.move.made
        ∙ (ap (λ (ns : List ℕ). ns ++ children_made (child_from q.count q.child m) T.move.made) (made_before q.count m q.child q.made numbered)
        ∙ ap (λ (ns : List ℕ). children_made q.child q.made ++ ns)
        (made_now q.count m 0 q.count m q.child T.move.made T.move.begun (omega arith) (omega arith) T.promise.starts)))
      where
        numbered : (i : ℕ) → StartsChild i q.made → i < q.count
        numbered = (runs_keep_invariant k job input settled names starting f t m qs c.interleaving.reached).0.numbered q there

    record Ordered (stack : List ℕ) (taken' : List Started) : Type 0 where
      taken : List Started
      order : InOrder qs (filter is_old stack) taken
      alike : (l : Label) → Alike turns.other t (acts_of_all l taken) (acts_of_all l taken')

    first_kept : (p : ℕ) (stack : List ℕ) → is_old p ≡ true → filter is_old (p ∷ stack) ≡ p ∷ filter is_old stack
    first_kept p stack e = rw e refl

    first_gone : (p : ℕ) (stack : List ℕ) → is_old p ≡ false → filter is_old (p ∷ stack) ≡ filter is_old stack
    first_gone p stack e = rw e refl

    old_is : (p : ℕ) → p < m → is_old p ≡ true
    old_is p lt = grind (arith, nat_tests)

    ordered : (stack : List ℕ) (taken' : List Started) → InOrder qs' stack taken' → Ordered stack taken'
    ordered _ _ all_taken = record { taken = []; order = all_taken; alike = λ l. record { same = refl; early = refl } }
    ordered _ _ (next_taken y stack taken' i ord) = by_whose (whose y.serial) (ordered (children_made y.child y.made ++ stack) taken' ord)
      where
        is : y ≡ at' y.serial
        is = (T.is.one y i).0

        -- the children that are older
        older : (xs more : List ℕ) → Each (λ (n : ℕ). is_old n ≡ true) xs → Each (λ (n : ℕ). is_old n ≡ false) more →
            children_made y.child y.made ≡ xs ++ more → filter is_old (children_made y.child y.made ++ stack) ≡ xs ++ filter is_old stack
        older xs more a b e =
            filter-append is_old (children_made y.child y.made) stack
            ∙ ap (λ (ns : List ℕ). ns ++ filter is_old stack)
            (ap (filter is_old) e ∙ (filter-append is_old xs more
            ∙ (ap (λ (ns : List ℕ). ns ++ filter is_old more) (all_kept is_old xs a)
            ∙ (ap (λ (ns : List ℕ). xs ++ ns) (none_kept is_old more b) ∙ append-nil xs))))

        -- a task that was there
        kept : (p : ℕ) → (below : p < m) → y.serial ≡ p → (more : List ℕ) → Each (λ (n : ℕ). is_old n ≡ false) more →
            children_made y.child y.made ≡ children_made (at p).child (at p).made ++ more → ((l : Label) → Alike turns.other t (acts_of l (at p)) (acts_of l y)) →
            Ordered (children_made y.child y.made ++ stack) taken' → Ordered (y.serial ∷ stack) (y ∷ taken')
        kept p below e more new_ones children own r =
            record {
              taken = at p ∷ r.taken;
              order =
                  subst (λ (ns : List ℕ). InOrder qs ns (at p ∷ r.taken))
                  (ap (λ (n : ℕ). n ∷ filter is_old stack) ((c.interleaving.has p below).1 ∙ sym e)
                  ∙ sym (first_kept y.serial stack (ap is_old e ∙ old_is p below)))
                  (next_taken (at p) (filter is_old stack) r.taken (c.interleaving.has p below).0
                  (subst (λ (ns : List ℕ). InOrder qs ns r.taken)
                  (older (children_made (at p).child (at p).made) more (rises_old (children_made (at p).child (at p).made) (rises p below)) new_ones children)
                  r.order));
              alike = λ l. alike_append turns.other t (acts_of l (at p)) (acts_of l y) (acts_of_all l r.taken) (acts_of_all l taken') (own l) (r.alike l);
            }

        by_whose : Whose y.serial → Ordered (children_made y.child y.made ++ stack) taken' → Ordered (y.serial ∷ stack) (y ∷ taken')
        by_whose (inl e) r =
            let y_is : y ≡ at' s = is ∙ ap at' e in
            kept s T.below e (serials_from m (length T.move.begun)) (new_serials m (length T.move.begun) (omega arith))
            (ap (λ (z : Started). children_made z.child z.made) y_is ∙ children_after)
            (λ l. subst (λ (z : Started). Alike turns.other t (acts_of l q) (acts_of l z)) (sym y_is) (turns.own l)) r
        by_whose (inr (inl o)) r =
            let y_is : y ≡ at y.serial = is ∙ T.of_other y.serial o.0 o.1 in
            kept y.serial o.0 refl [] tt
            (ap (λ (z : Started). children_made z.child z.made) y_is ∙ sym (append-nil (children_made (at y.serial).child (at y.serial).made)))
            (λ l. subst (λ (z : Started). Alike turns.other t (acts_of l (at y.serial)) (acts_of l z)) (sym y_is)
            (alike_fixed turns.other t (acts_of l (at y.serial))
            (each_weaker (λ (d : Done). d.task ≡ (at y.serial).here.task) (λ (d : Done). done_with turns.other d ≡ d) (acts_of l (at y.serial))
            (λ d g. turns.others d (λ z. other_task y.serial o.0 o.1 (z ∙ g))) (acts_label l (at y.serial))))) r
        by_whose (inr (inr j)) r =
            let less = (T.is.one y i).1 in
            let b = born j.0 (let e = j.1 in omega (arith, e, less)) in
            let y_is : y ≡ child_at k (a_round_after q.here.clock t) (m + j.0) b.0 = is ∙ (ap at' (sym j.1) ∙ b.1) in
            record {
              taken = r.taken;
              order =
                  subst (λ (ns : List ℕ). InOrder qs ns r.taken)
                  (ap (λ (z : Started). filter is_old (children_made z.child z.made ++ stack)) y_is
                  ∙ sym (first_gone y.serial stack (let e = j.1 in grind (arith, nat_tests)))) r.order;
              alike = λ l. subst (λ (ds : List Done). Alike turns.other t (acts_of_all l r.taken) (ds ++ acts_of_all l taken')) (sym (ap (acts_of l) y_is)) (r.alike l);
            }

    -- an order of the tasks before
    order_before : (taken' : List Started) → InOrder qs' (0 ∷ []) taken' →
        (taken : List Started) × InOrder qs (0 ∷ []) taken × ((l : Label) → Alike turns.other t (acts_of_all l taken) (acts_of_all l taken'))
    order_before taken' ord =
        let r = ordered (0 ∷ []) taken' ord in
        (r.taken, subst (λ (ns : List ℕ). InOrder qs ns r.taken) (first_kept 0 [] (old_is 0 c.some)) r.order, r.alike)

    -- ---- the objects after it

    abbrev not_mover : Ticket → Bool
    not_mover ticket = not (ticket.row == s)

    -- a task that stopped now is in a queue since now, if it is in one
    queued_now : (since : ℕ) → since < t → is_queued after.task_state since ≡ false
    queued_now since lt = by_state after.task_state T.stopped blocks_on.0 stops_now
      where
        by_state : (task_state : TaskState) (stopped : Stopped) → IsTaskState T.took.numbers_after new.world.book task_state stopped →
            StopsAt q.here.clock t (cancelled_from_after f T.move.made) (Some stopped) T.move.places → is_queued task_state since ≡ false
        by_state (Queued key a v steps) (queued name wanted u body) is stops = differs (v == since) refl
          where
            differs : (b : Bool) → (v == since) ≡ b → (v == since) ≡ false
            differs false e = e
            differs true e = absurd (let g : v ≡ since = eqb-true v since e in let x : v ≡ u = is.1 in let y : u ≡ t = stops.0 in omega (arith, g, x, y, lt))
        by_state (Queued key a v steps) _ is stops = absurd is
        by_state (ToBegin v) x is stops = refl
        by_state (Asked kernel purpose) x is stops = refl
        by_state (Asleep paced ticks v) x is stops = refl
        by_state (Waiting key v) x is stops = refl
        by_state (GivingUp v) x is stops = refl
        by_state (Awaits id v) x is stops = refl
        by_state Over x is stops = refl

    -- of those who waited all but this task still wait
    waits_still : (ticket : Ticket) → asked_before t (waits_in new.task) ticket ≡ (not_mover ticket && asked_before t (waits_in old.task) ticket)
    waits_still ticket = by_time (nat_lt ticket.since t) refl
      where
        none_both : (b : Bool) → false ≡ (b && false)
        none_both true = refl
        none_both false = refl

        by_whose : ticket.since < t → Whose ticket.row → waits_in new.task ticket ≡ (not_mover ticket && waits_in old.task ticket)
        by_whose lt (inl e) =
            ap (λ (n : ℕ). waits_by (new.task n) ticket.since) e
            ∙ (ap (λ (o : Option Task). waits_by o ticket.since) T.code.task_after
            ∙ (queued_now ticket.since lt ∙ sym (ap (λ (b : Bool). b && waits_in old.task ticket) (own_row ticket e))))
        by_whose lt (inr (inl o)) =
            ap (λ (z : Option Task). waits_by z ticket.since) (T.code.other_after ticket.row o.0 o.1)
            ∙ sym (ap (λ (b : Bool). b && waits_in old.task ticket) (not_row ticket o.1))
        by_whose lt (inr (inr i)) =
            by_task (slice_get T.took.tasks i.0) refl
            ∙ (none_both (not_mover ticket)
            ∙ ap (λ (b : Bool). not_mover ticket && b) (sym (ap (λ (z : Option Task). waits_by z ticket.since) (c.unborn ticket.row (let e = i.1 in omega (arith, e))).0)))
          where
            by_task : (o : Option Task) → slice_get T.took.tasks i.0 ≡ o → waits_in new.task ticket ≡ false
            by_task None e = ap (λ (z : Option Task). waits_by z ticket.since) (ap new.task (sym i.1) ∙ (T.child_after i.0 ∙ e))
            by_task (Some task) e =
                ap (λ (z : Option Task). waits_by z ticket.since) (ap new.task (sym i.1) ∙ (T.child_after i.0 ∙ e))
                ∙ ap (λ (z : TaskState). is_queued z ticket.since) b.2.task_state
              where
                b : (b : Begun) × (slice_get T.move.begun i.0 ≡ Some b) × IsBegun old.world.clock (a_round_after old.world.clock old.world.tick)
                    T.took.numbers_after new.world.book (blocks_of after.frames.items) (waits_of after.task_state) task b
                b =
                    begun_at old.world.clock (a_round_after old.world.clock old.world.tick) T.took.numbers_after new.world.book (blocks_of after.frames.items)
                    (waits_of after.task_state) T.took.tasks T.move.begun T.took.begun i.0 task e

        by_time : (b : Bool) → nat_lt ticket.since t ≡ b → (b && waits_in new.task ticket) ≡ (not_mover ticket && (b && waits_in old.task ticket))
        by_time false e = none_both (not_mover ticket)
        by_time true e = by_whose (let lt : ticket.since < t = grind (arith, nat_tests) in lt) (whose ticket.row)

    asked_old : (l : Label) → AreAskedBefore t (old.object l)
    asked_old l = subst (λ (v : ℕ). AreAskedBefore v (old.object l)) T.code.unserved (c.shares.asked l)

    option_left : (w : Ticket → Bool) (o : Option HeldObject) →
        option_map (object_in (λ ticket. not_mover ticket && w ticket)) o ≡ option_map (left_in not_mover) (option_map (object_in w) o)
    option_left w None = refl
    option_left w (Some o) = ap (λ (x : ObjectOf). Some x) (object_left not_mover w o)

    objects_now : (l : Label) → option_map (object_in (waits_in new.task)) (new.object l)
        ≡ option_map (left_in not_mover) (option_map (object_in (waits_in old.task)) (old.object l))
    objects_now l =
        ap (option_map (object_in (waits_in new.task))) (T.code.object_after l)
        ∙ (sym (asked_old l (waits_in new.task))
        ∙ (ap (λ (w : Ticket → Bool). option_map (object_in w) (old.object l)) (λ i ticket. waits_still ticket i)
        ∙ (option_left (asked_before t (waits_in old.task)) (old.object l)
        ∙ ap (option_map (left_in not_mover)) (asked_old l (waits_in old.task)))))

    -- whom a ticket stands for
    waiter_stays : (ticket : Ticket) → ticket.row < m → waiter_of at' ticket ≡ waiter_of at ticket
    waiter_stays ticket below = ap (λ (x : Label). record { task = x; since = ticket.since }) (by_row (same_or ticket.row s))
      where
        by_row : (ticket.row ≡ s) ⊎ (ticket.row ≢ s) → (at' ticket.row).here.task ≡ (at ticket.row).here.task
        by_row (inl e) = ap (λ (n : ℕ). (at' n).here.task) e ∙ (label_after ∙ sym (ap (λ (n : ℕ). (at n).here.task) e))
        by_row (inr differs) = ap (λ (x : Started). x.here.task) (T.of_other ticket.row below differs)

    served_then : (taken' : List Started) → InOrder qs' (0 ∷ []) taken' → (l : Label) →
        SameObject at' new.through (option_map (object_in (waits_in new.task)) (new.object l))
        (object_after unopened (by_moment (done_before new.through (acts_of_all l taken'))))
    served_then taken' ord l =
        subst (λ (v : ℕ). SameObject at' v (option_map (object_in (waits_in new.task)) (new.object l))
        (object_after unopened (by_moment (done_before v (acts_of_all l taken'))))) (sym through')
        (subst (λ (x : Option ObjectOf). SameObject at' t x (object_after unopened (by_moment (done_before t (acts_of_all l taken'))))) (sym (objects_now l))
        (subst (λ (x : Object). SameObject at' t (option_map (left_in not_mover) (option_map (object_in (waits_in old.task)) (old.object l))) x) (sym meant)
        (object_turned at at' t turns.other not_mover turns.keep (option_map (object_in (waits_in old.task)) (old.object l)) was turns.same turns.weaker
        (tickets_weaker (λ ticket. waits_in old.task ticket ≡ true)
        (λ ticket. (waiter_of at' ticket ≡ waiter_of at ticket) × (turns.keep (waiter_of at ticket) ≡ not_mover ticket))
        (option_map (object_in (waits_in old.task)) (old.object l))
        (λ ticket h. (waiter_stays ticket (let w = ticket_task ticket h in below_of c ticket.row w.0 w.1), turns.tickets ticket h))
        (tickets_wait (waits_in old.task) (old.object l)))
        (turns.askers r.0 r.1 l)
        (subst (λ (v : ℕ). SameObject at v (option_map (object_in (waits_in old.task)) (old.object l))
        (object_after unopened (by_moment (done_before v (acts_of_all l r.0))))) T.code.unserved (c.shares.served r.0 r.1 l)))))
      where
        r : (taken : List Started) × InOrder qs (0 ∷ []) taken × ((l : Label) → Alike turns.other t (acts_of_all l taken) (acts_of_all l taken'))
        r = order_before taken' ord

        was : Object
        was = object_after unopened (by_moment (done_before t (acts_of_all l r.0)))

        meant : object_after unopened (by_moment (done_before t (acts_of_all l taken'))) ≡ object_with turns.other was
        meant =
            ap (λ (ds : List Done). object_after unopened (by_moment ds)) (r.2 l).same
            ∙ (ap (object_after unopened) (sorted_with turns.other (done_before t (acts_of_all l r.0)))
            ∙ objects_with t turns.other turns.same unopened (by_moment (done_before t (acts_of_all l r.0)))
            (sorted_each (λ (d : Done). d.at < t) (done_before t (acts_of_all l r.0)) (befores t (acts_of_all l r.0))))

    -- ---- what is granted

    -- to another task the same is granted as before the turn
    so_far_same : (taken' : List Started) (ord : InOrder qs' (0 ∷ []) taken') → (l label : Label) (since : ℕ) →
        granted_before (suc t) (granted_so_far taken' l label since) ≡ granted_before (suc t) (granted_so_far (order_before taken' ord).0 l label since)
    so_far_same taken' ord l label since =
        let r = order_before taken' ord in
        served_before t job l label since (acts_of_all l taken')
        ∙ (ap (λ (ds : List Done). granted_before (suc t) (find_given label since (serve_acts unopened (by_moment ds)))) (r.2 l).early
        ∙ sym (served_before t job l label since (acts_of_all l r.0)))

    granted_other : (taken' : List Started) (ord : InOrder qs' (0 ∷ []) taken') → (p : ℕ) → p ≢ s → (x : Started) (stopped : Stopped) →
        GrantedAt old (order_before taken' ord).0 p x stopped → GrantedAt new taken' p x stopped
    granted_other taken' ord p differs x (queued name wanted since body) h = (
      λ lt l e.
          subst (λ (v : ℕ). granted_before (suc v) (granted_so_far taken' l x.here.task since) ≡ granted_in v (new.granted p)) (sym through')
          (so_far_same taken' ord l x.here.task since
          ∙ (subst (λ (v : ℕ). granted_before (suc v) (granted_so_far (order_before taken' ord).0 l x.here.task since) ≡ granted_in v (old.granted p)) T.code.unserved
          (h.0 (subst (λ (v : ℕ). since < v) T.code.through_after lt) l e)
          ∙ ap (granted_in t) (sym (T.code.granted_after p differs)))),
      λ le. T.code.granted_after p differs ∙ h.1 (subst (λ (v : ℕ). v ≤ since) T.code.through_after le),
    )
    granted_other taken' ord p differs x rest.to_begin h = T.code.granted_after p differs ∙ h
    granted_other taken' ord p differs x (rest.asking kernel purpose) h = T.code.granted_after p differs ∙ h
    granted_other taken' ord p differs x (rest.asleep paced n since) h = T.code.granted_after p differs ∙ h
    granted_other taken' ord p differs x (rest.waiting_for event since) h = T.code.granted_after p differs ∙ h
    granted_other taken' ord p differs x (rest.giving_up since) h = T.code.granted_after p differs ∙ h
    granted_other taken' ord p differs x (rest.awaiting children ended exc) h = T.code.granted_after p differs ∙ h
    granted_other taken' ord p differs x (rest.at_end u e) h = T.code.granted_after p differs ∙ h

    granted_mover : (taken' : List Started) (x : Started) (stopped : Stopped) →
        StopsAt q.here.clock t (cancelled_from_after f T.move.made) (Some stopped) T.move.places → GrantedAt new taken' s x stopped
    granted_mover taken' x (queued name wanted since body) stops = (
      λ lt l e. absurd (let a : since ≡ t = stops.0 in let b : since < t = subst (λ (v : ℕ). since < v) through' lt in omega (arith, a, b)),
      λ le. T.code.granted_task,
    )
    granted_mover taken' x rest.to_begin stops = T.code.granted_task
    granted_mover taken' x (rest.asking kernel purpose) stops = T.code.granted_task
    granted_mover taken' x (rest.asleep paced n since) stops = T.code.granted_task
    granted_mover taken' x (rest.waiting_for event since) stops = T.code.granted_task
    granted_mover taken' x (rest.giving_up since) stops = T.code.granted_task
    granted_mover taken' x (rest.awaiting children ended exc) stops = T.code.granted_task
    granted_mover taken' x (rest.at_end u e) stops = T.code.granted_task

    granted_then : (taken' : List Started) → InOrder qs' (0 ∷ []) taken' → (p : ℕ) → p < m + length T.move.begun →
        GrantedAt new taken' p (at' p) (at' p).rest.stopped
    granted_then taken' ord p less = by_whose (whose p)
      where
        Granted : ℕ → Type 0
        Granted p = GrantedAt new taken' p (at' p) (at' p).rest.stopped

        by_whose : Whose p → Granted p
        by_whose (inl e) =
            subst Granted (sym e)
            (subst (GrantedAt new taken' s (at' s)) (sym (ap (λ (x : Started). x.rest.stopped) T.of_task)) (granted_mover taken' (at' s) T.stopped stops_now))
        by_whose (inr (inl o)) =
            subst (λ (x : Started). GrantedAt new taken' p x x.rest.stopped) (sym (T.of_other p o.0 o.1))
            (granted_other taken' ord p o.1 (at p) (at p).rest.stopped (c.shares.granted (order_before taken' ord).0 (order_before taken' ord).1 p o.0))
        by_whose (inr (inr i)) =
            let b = born i.0 (let e = i.1 in omega (arith, e, less)) in
            let differs : p ≢ s = λ e. absurd (let low = T.below in let g = i.1 in omega (arith, e, low, g)) in
            subst (λ (x : Started). GrantedAt new taken' p x x.rest.stopped) (sym (ap at' (sym i.1) ∙ b.1))
            (T.code.granted_after p differs ∙ c.shares.ungranted p (let g = i.1 in omega (arith, g)))

    -- ---- a task does not ask twice in one moment

    asks_later : (u v : ℕ) (es : List Event) → u ≤ v → AsksBefore u es → AsksBefore v es
    asks_later u v es le h = once_later u v rest.to_begin es le h

    once_mover : AsksBefore (asked_at t T.stopped) (q.made ++ T.move.made)
    once_mover = by_stop T.stopped stops_now
      where
        was : (stopped : Stopped) → AskedEarlier t stopped → AsksBefore (asked_at old.world.tick stopped) q.made → AsksBefore t q.made
        was (queued name wanted since body) lt h = asks_later since t q.made (omega (arith, lt)) h
        was rest.to_begin lt h = subst (λ (v : ℕ). AsksBefore v q.made) tick h
        was (rest.asking kernel purpose) lt h = subst (λ (v : ℕ). AsksBefore v q.made) tick h
        was (rest.asleep paced n since) lt h = subst (λ (v : ℕ). AsksBefore v q.made) tick h
        was (rest.waiting_for event since) lt h = subst (λ (v : ℕ). AsksBefore v q.made) tick h
        was (rest.giving_up since) lt h = subst (λ (v : ℕ). AsksBefore v q.made) tick h
        was (rest.awaiting children ended exc) lt h = subst (λ (v : ℕ). AsksBefore v q.made) tick h
        was (rest.at_end u e) lt h = subst (λ (v : ℕ). AsksBefore v q.made) tick h

        all : AsksBefore t (q.made ++ T.move.made)
        all =
            asks_append t q.made T.move.made (was q.rest.stopped earlier (c.shares.once s T.below))
            (turn_asks t q.here q.rest.frames q.places q.rest.stopped T.move.made earlier T.promise.asked)

        by_stop : (stopped : Stopped) → StopsAt q.here.clock t (cancelled_from_after f T.move.made) (Some stopped) T.move.places →
            AsksBefore (asked_at t stopped) (q.made ++ T.move.made)
        by_stop (queued name wanted since body) stops = subst (λ (v : ℕ). AsksBefore v (q.made ++ T.move.made)) (sym stops.0) all
        by_stop rest.to_begin stops = all
        by_stop (rest.asking kernel purpose) stops = all
        by_stop (rest.asleep paced n since) stops = all
        by_stop (rest.waiting_for event since) stops = all
        by_stop (rest.giving_up since) stops = all
        by_stop (rest.awaiting children ended exc) stops = all
        by_stop (rest.at_end u e) stops = all

    once_then : (p : ℕ) → p < m + length T.move.begun → AsksBefore (asked_at new.world.tick (at' p).rest.stopped) (at' p).made
    once_then p less = subst (λ (v : ℕ). AsksBefore (asked_at v (at' p).rest.stopped) (at' p).made) (sym tick') (by_whose (whose p))
      where
        Once : Started → Type 0
        Once x = AsksBefore (asked_at t x.rest.stopped) x.made

        by_whose : Whose p → Once (at' p)
        by_whose (inl e) = subst Once (sym (ap at' e ∙ T.of_task)) once_mover
        by_whose (inr (inl o)) =
            subst Once (sym (T.of_other p o.0 o.1))
            (subst (λ (v : ℕ). AsksBefore (asked_at v (at p).rest.stopped) (at p).made) tick (c.shares.once p o.0))
        by_whose (inr (inr i)) =
            let b = born i.0 (let e = i.1 in omega (arith, e, less)) in subst Once (sym (ap at' (sym i.1) ∙ b.1)) tt

    -- ---- all of it

    pub shares_turned : Shares new qs' at' (m + length T.move.begun)
    shares_turned =
        record {
          round = round_then;
          served = served_then;
          granted = granted_then;
          ungranted = λ p le.
              T.code.granted_after p (λ e. absurd (let low = T.below in omega (arith, e, low, le))) ∙ c.shares.ungranted p (omega (arith, le));
          grants = λ taken' ord object asker u.
              let r = order_before taken' ord in
              subst (λ (v : ℕ). new.grants object asker u ≡ granted_before (suc v) (granted_so_far taken' object asker u)) (sym through')
              (T.code.grants_after object asker u
              ∙ (subst (λ (v : ℕ). old.grants object asker u ≡ granted_before (suc v) (granted_so_far r.0 object asker u)) T.code.unserved
              (c.shares.grants r.0 r.1 object asker u)
              ∙ sym (so_far_same taken' ord object asker u)));
          known = λ a i. by_round a (in_either a old.round (noted_now ++ asked_now) (subst (λ (xs : List RoundAct). IsAmong a xs) T.code.round_after i));
          asked = λ l.
              subst (λ (v : ℕ). AreAskedBefore v (new.object l)) (sym through')
              (subst (λ (o : Option HeldObject). AreAskedBefore t o) (sym (T.code.object_after l)) (asked_old l));
          once = once_then;
        }
      where
        by_round : (a : RoundAct) → IsAmong a old.round ⊎ IsAmong a (noted_now ++ asked_now) → a.serial < m + length T.move.begun
        by_round a (inl i) = let lt = c.shares.known a i in omega (arith, lt)
        by_round a (inr i) =
            let e = each_among (λ (x : RoundAct). x.serial ≡ s) (noted_now ++ asked_now) mine a i in let low = T.below in omega (arith, e, low)

    -- paths go on to the new children
    pub paths_turned : (p child : ℕ) → p < m + length T.move.begun → IsAmong child (new.children p) → new.path child ≡ new.path p ++ child ∷ []
    paths_turned p child less i = by_whose (whose p)
      where
        -- a child that was there
        old_child_path : (p : ℕ) → p < m → IsAmong child (old.children p) → new.path child ≡ new.path p ++ child ∷ []
        old_child_path p below j =
            let low : child < m =
            rises_among (children_made (at p).child (at p).made) (rises p below) child (subst (IsAmong child) (c.children p below) j) in
            T.code.path_after child low
            ∙ (c.path_of_child p child below j ∙ ap (λ (ps : List ℕ). ps ++ child ∷ []) (sym (T.code.path_after p below)))

        among_new : (x n : ℕ) → IsAmong child (serials_from x n) → (j : ℕ) × (j < n) × (x + j ≡ child)
        among_new x zero j = absurd j
        among_new x (suc n) (inl e) = (0, omega arith, omega (arith, e))
        among_new x (suc n) (inr j) =
            let h = among_new (suc x) n j in (suc h.0, (let e = h.1 in omega (arith, e)), (let e = h.2 in omega (arith, e)))

        mover_child : IsAmong child (old.children s) ⊎ IsAmong child (serials_from m (length new.world.started.items)) → new.path child ≡ new.path s ++ child ∷ []
        mover_child (inl j) = old_child_path s T.below j
        mover_child (inr j) =
            let h = among_new m (length new.world.started.items) j in
            subst (λ (n : ℕ). new.path n ≡ new.path s ++ n ∷ []) h.2
            (T.code.path_child h.0 h.1 ∙ ap (λ (ps : List ℕ). ps ++ (m + h.0) ∷ []) (sym (T.code.path_after s T.below)))

        by_whose : Whose p → new.path child ≡ new.path p ++ child ∷ []
        by_whose (inl e) =
            mover_child (in_either child (old.children s) (serials_from m (length new.world.started.items))
            (subst (IsAmong child) (ap new.children e ∙ T.code.more_children) i))
            ∙ ap (λ (n : ℕ). new.path n ++ child ∷ []) (sym e)
        by_whose (inr (inl o)) = old_child_path p o.0 (subst (IsAmong child) (T.code.children_after p o.0 o.1) i)
        by_whose (inr (inr j)) =
            absurd (let none : IsAmong child [] =
            subst (IsAmong child) (ap new.children (sym j.1) ∙ T.no_children j.0 (let e = j.1 in omega (arith, e, less))) i in none)
