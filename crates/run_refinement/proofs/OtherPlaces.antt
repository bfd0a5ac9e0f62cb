-- How a turn leaves the scopes and nurseries that enclose another task, which may be in a nursery
-- of the task that moved.
use Rattle.std.proofs.Common.{◌≡◌, ◌≢◌, ◌⊎◌, inl, inr, ℕ, zero, suc, ◌<◌, ◌≤◌, true, false, Option, Some, None, List, [], ◌∷◌, map, refl, ap, sym, ◌∙◌, subst, arith}
use Rattle.std.specs.Prelude.{slice_get}
use Rattle.std.specs.List.{last_or}
use Rattle.std.specs.Option.{option_map}
use Rattle.turn_semantics.specs.Lists.{IsAmong}
use Rattle.cancel_scopes.specs.Tree.{Stack, stack_of, outer_of, IsOpen}
use Rattle.nursery_book.specs.Nursery.{End, Nursery as Members}
use Rattle.nursery_book.specs.Book.{nursery_at}
use Rattle.job_tree.specs.Tree.{Tree as Job}
use Rattle.job_meaning.specs.Log.{Table}
use Rattle.job_meaning.specs.Rest as rest
use Rattle.turn_semantics.specs.Midway.{Tables, Place, Begun}
use Rattle.turn_semantics.specs.Placed.{outer_places, HasChild, HasChildAfter}
use Rattle.turn_semantics.specs.Steps.{cancelled_from_after}
use Rattle.turn_semantics.specs.Turned.{Starts}
use Rattle.task_machine.specs.declared.stop.Stop.{Stop}
use Rattle.task_machine.specs.declared.task.Home.{Home}
use Rattle.task_machine.specs.declared.task.Own.{Own}
use Rattle.task_machine.specs.declared.task.Task.{Task}
use Rattle.task_machine.specs.Fitting.{blocks_of, waits_of}
use Rattle.task_machine.specs.Frames.{frames_of}
use Rattle.task_machine.specs.Labels.{Labels, Events}
use Rattle.task_machine.specs.Stacked.{AreAt}
use Rattle.task_machine.specs.Standing.{HasBlock, HasNurseryOf, BeginsAt}
use Rattle.task_machine.specs.Stops.{StopsAs}
use Rattle.task_machine.specs.Tasks.{home_of, home_scope, scope_of, lent_of}
use Rattle.task_machine.specs.Worlds.{label_at, event_at}
use Rattle.interleavings.specs.Interleaving.{Started, live}
use Rattle.run_refinement.specs.RunState.{RunState, LivesIn, HasHome, IsMember, Follows, Refines}
use Rattle.run_refinement.specs.Turning.{Turning}
use Rattle.run_refinement.proofs.ActsKeep.{not_both, same_or}
use Rattle.run_refinement.proofs.StateTurn.{ActsOf, else_own, own_open}
use Rattle.run_refinement.proofs.NurseryPlaces.{is_stop, Housed, housed_onto, Found, found, stack_here, same_places}
use Rattle.run_refinement.proofs.OtherHomes.{mover_owned, mover_home, home_else}
use Rattle.run_refinement.proofs.OtherScopes.{AreElse, outer_is, places_stay, own_places_stay}
use Rattle.task_machine.proofs.Stacked.{one_of}
use Rattle.run_refinement.proofs.Found.{finds}

-- ---- numbers of children

index_among : (i : ℕ) (is : List ℕ) → IsAmong i is → (index : ℕ) × (slice_get is index ≡ Some i)
index_among i [] a = absurd a
index_among i (j ∷ is) (inl e) = (zero, ap (λ (x : ℕ). Some x) (sym e))
index_among i (j ∷ is) (inr a) = let r = index_among i is a in (suc r.0, r.1)

among_index : (i : ℕ) (is : List ℕ) (index : ℕ) → slice_get is index ≡ Some i → IsAmong i is
among_index i [] index e = not_both refl e
among_index i (j ∷ is) zero e = inl (sym (one_of j i e))
among_index i (j ∷ is) (suc index) e = inr (among_index i is index e)

-- children that begin are numbered on from those before
begins_late : (id index number n : ℕ) (es : List rest.Event) (ts : List Task) (bs : List Begun) → Starts n es bs →
    BeginsAt id index number ts bs → n ≤ number
begins_late id index number n es [] bs s b = absurd b
begins_late id index number n es (t ∷ ts) [] s b = absurd b
begins_late id index number n [] (t ∷ ts) (b ∷ bs) s h = absurd s
begins_late id index number n (rest.noted u e ∷ es) (t ∷ ts) (b ∷ bs) s h = begins_late id index number n es (t ∷ ts) (b ∷ bs) s h
begins_late id index number n (rest.acts shared u done ∷ es) (t ∷ ts) (b ∷ bs) s h = begins_late id index number n es (t ∷ ts) (b ∷ bs) s h
begins_late id index number n (rest.signs l u ∷ es) (t ∷ ts) (b ∷ bs) s h = begins_late id index number n es (t ∷ ts) (b ∷ bs) s h
begins_late id index number n (rest.enters l u d ∷ es) (t ∷ ts) (b ∷ bs) s h = begins_late id index number n es (t ∷ ts) (b ∷ bs) s h
begins_late id index number n (rest.starts i l u ∷ es) (t ∷ ts) (b ∷ bs) s (inl h) = let e : n ≡ number = sym s.1 ∙ h.1 in omega arith
begins_late id index number n (rest.starts i l u ∷ es) (t ∷ ts) (b ∷ bs) s (inr h) = let e : suc n ≤ number =
    begins_late id index number (suc n) es ts bs s.3 h in omega arith

-- ---- a child's home is the nursery that has its number

-- a task that has not ended and is a member of a nursery at a place has its home there
pub member_home : {k : Tables} {job : Job} {input : List ℕ} {t m : ℕ} {old : RunState} → (c : Refines k job input t m None old) →
    (u : ℕ) (task : Task) → old.task u ≡ Some task → (last id index : ℕ) (e : Option End) →
    IsMember old c.interleaving.at last id index u e → home_of task ≡ Some (id, index)
member_home c u task is last id index None h = absurd h
member_home c u task is last id index (Some None) h = ap home_of (one_of task h.0 (sym is ∙ h.1)) ∙ h.2
member_home c u task is last id index (Some (Some exc)) h =
    let alive : live (c.interleaving.at u).rest.stopped ≡ true = (c.follows u task is).lives (λ e. not_both refl e) in
    let ended : live (c.interleaving.at u).rest.stopped ≡ false = ap live h.4 in
    absurd (let clash : true ≡ false = sym alive ∙ ended in cc)

-- the nursery of the mover that has the number of a child is the home of that child
pub home_is : {k : Tables} {job : Job} {input : List ℕ} {t m s : ℕ} {old new : RunState} {before after : Task} {stop : Stop} →
    (c : Refines k job input t m None old) →
    (T : Turning k job input t m s old new c.numbers before after stop c.interleaving) → (u : ℕ) (task : Task) → old.task u ≡ Some task →
    (home : Home) → task.home ≡ Some home →
    (h : LivesIn old c.interleaving.at c.numbers u home) → h.parent ≡ s → (id index : ℕ) →
    HasNurseryOf id (blocks_of after.frames.items) (waits_of after.task_state) →
    slice_get (T.took.numbers_after id) index ≡ Some h.number → id ≡ home.nursery
home_is {k} {job} {input} {t} {m} {s} {old} {new} {before} {after} c T u task is home at_home h e id index has got =
    by_case (T.took.nurseries.covered id index h.number has got)
  where
    below : h.number < (c.interleaving.at s).count
    below = subst (λ (p : ℕ). h.number < (c.interleaving.at p).count) e h.below

    serial : (c.interleaving.at s).child h.number ≡ u
    serial = subst (λ (p : ℕ). (c.interleaving.at p).child h.number ≡ u) e h.serial

    by_case : (HasBlock id (blocks_of before.frames.items) × (slice_get (c.numbers s id) index ≡ Some h.number))
        ⊎ BeginsAt id index h.number T.took.tasks T.move.begun → id ≡ home.nursery
    by_case (inl x) =
        let n = finds old.world.book id _ ((c.follows s before T.code.task).nurseries id (inl x.0)) in
        let member : IsMember old c.interleaving.at n.0.last id index u (slice_get n.0.children index) =
        subst (λ (p : ℕ). IsMember old c.interleaving.at n.0.last id index p (slice_get n.0.children index)) serial
        (n.2.members index h.number x.1).1 in
        let same : Some (id, index) ≡ Some (home.nursery, home.index) =
        sym (member_home c u task is n.0.last id index (slice_get n.0.children index) member)
        ∙ ap (option_map (λ (y : Home). (y.nursery, y.index))) at_home in
        ap (λ (z : ℕ × ℕ). z.0) (one_of (id, index) (home.nursery, home.index) same)
    by_case (inr b) =
        let late : (c.interleaving.at s).count ≤ h.number =
        begins_late id index h.number (c.interleaving.at s).count T.move.made T.took.tasks T.move.begun T.promise.starts b in
        let low : h.number < (c.interleaving.at s).count = below in
        absurd (omega arith)

-- ---- enclosing scopes and nurseries

-- the places of a child that opened no scope, of the task that moved
mover_places : {k : Tables} {job : Job} {input : List ℕ} {t m s : ℕ} {old new : RunState} {before after : Task} {stop : Stop} →
    (c : Refines k job input t m None old) →
    (T : Turning k job input t m s old new c.numbers before after stop c.interleaving) → (u : ℕ) (task : Task) → old.task u ≡ Some task →
    (home : Home) → task.home ≡ Some home →
    (h : LivesIn old c.interleaving.at c.numbers u home) → h.parent ≡ s → (ps : List Place) →
    AreAt (label_at old.world) (event_at old.world) c.interleaving.cancelled_from (outer_of old.world.scopes (Some home.scope)) ps →
    AreAt (label_at new.world) (event_at new.world) (cancelled_from_after c.interleaving.cancelled_from T.move.made) (outer_of new.world.scopes (Some home.scope)) ps
mover_places {k} {job} {input} {t} {m} {s} {old} {new} {before} {after} {stop} c T u task is home at_home h e ps at =
    subst (λ (x : Stack). AreAt (label_at new.world) (event_at new.world) (cancelled_from_after f T.move.made) x ps)
    (sym (outer_is new.world.scopes home.scope now.0 (ap (stack_of new.world.scopes) (sym last) ∙ now.1))) now.2
  where
    f : Table
    f = c.interleaving.cancelled_from

    q : Started
    q = c.interleaving.at s

    follows : Follows old f input t c.interleaving.at c.numbers None s before
    follows = c.follows s before T.code.task

    among : IsAmong h.number (c.numbers s home.nursery)
    among = among_index h.number (c.numbers s home.nursery) home.index
        (subst (λ (p : ℕ). slice_get (c.numbers p home.nursery) home.index ≡ Some h.number) e h.stands)

    housed : Housed (label_at old.world) (event_at old.world) old.world.book f home.nursery h.number (frames_of (c.numbers s) before.frames.items)
        (outer_of old.world.scopes (scope_of before)) (outer_places (Some q.rest.stopped) q.places)
    housed =
        housed_onto (label_at old.world) (event_at old.world) old.world.book f (c.numbers s) before.frames.items before.own.items (waits_of before.task_state)
        q.rest.stopped _ []
        (outer_of old.world.scopes (scope_of before)) q.places T.fits.runs.opened
        (is_stop (c.numbers s) old.world.book before.task_state q.rest.stopped follows.task_state) follows.stands.places T.fits.runs.first
        home.nursery h.number (mover_owned c T u home h e).0 among

    was : (st : Stack) × (stack_of old.world.scopes housed.scope.id ≡ Some st) × AreAt (label_at old.world) (event_at old.world) f st housed.home
    was = stack_here (label_at old.world) (event_at old.world) f old.world.scopes (scope_of before) housed.scope.id housed.home T.code.sound.chain housed.at

    -- it is the scope of that nursery
    first : housed.scope.id ≡ home.scope
    first =
        let n = finds old.world.book home.nursery _ h.runs in
        let x = finds old.world.book home.nursery _ housed.nursery in
        sym x.2 ∙ (ap (λ (y : Members). y.scope) (one_of x.0 n.0 (sym x.1 ∙ n.1)) ∙ n.2.0)

    same : housed.home ≡ ps
    same =
        same_places (label_at old.world) (event_at old.world) f was.0 housed.home ps was.2
        (subst (λ (x : Stack). AreAt (label_at old.world) (event_at old.world) f x ps) (outer_is old.world.scopes home.scope was.0
        (ap (stack_of old.world.scopes) (sym first) ∙ was.1)) at)

    child : HasChild h.number ps q.rest.frames (outer_places (Some q.rest.stopped) q.places)
    child =
        subst (λ (fs : List rest.Frame). HasChild h.number ps fs (outer_places (Some q.rest.stopped) q.places)) follows.frames
        (subst (λ (x : List Place). HasChild h.number x (frames_of (c.numbers s) before.frames.items)
        (outer_places (Some q.rest.stopped) q.places)) same housed.child)

    stays : HasChildAfter h.number ps (Some T.stopped) (frames_of T.took.numbers_after after.frames.items) T.move.places
    stays =
        subst (λ (fs : List rest.Frame). HasChildAfter h.number ps (Some T.stopped) fs T.move.places) (sym T.took.frames_after)
        (subst (λ (o : Option rest.Stopped). HasChildAfter h.number ps o T.move.frames T.move.places) T.stops
        (T.promise.stays h.number ps child))

    task_state : StopsAs old.world.clock T.took.numbers_after new.world.book (lent_of after) stop after.task_state (Some T.stopped)
    task_state = subst (StopsAs old.world.clock T.took.numbers_after new.world.book (lent_of after) stop after.task_state) T.stops
        T.took.moves.1

    there : Found (label_at new.world) (event_at new.world) new.world.book (cancelled_from_after f T.move.made) T.took.numbers_after (blocks_of after.frames.items)
        (waits_of after.task_state) (outer_of new.world.scopes (scope_of after)) h.number ps
    there =
        found (label_at new.world) (event_at new.world) new.world.book (cancelled_from_after f T.move.made) T.took.numbers_after after.frames.items after.own.items
        (waits_of after.task_state) T.stopped _
        (outer_of new.world.scopes (scope_of after)) T.move.places T.code.fits_after.runs.opened
        (is_stop T.took.numbers_after new.world.book after.task_state T.stopped task_state.0) T.took.places T.code.fits_after.runs.first
        h.number ps stays

    now : (st : Stack) × (stack_of new.world.scopes there.scope.id ≡ Some st) × AreAt (label_at new.world) (event_at new.world) (cancelled_from_after f T.move.made) st ps
    now = stack_here (label_at new.world) (event_at new.world) (cancelled_from_after f T.move.made) new.world.scopes (scope_of after) there.scope.id ps
        T.code.sound_after.chain there.at

    last : there.scope.id ≡ home.scope
    last =
        let index = index_among h.number (T.took.numbers_after there.id) there.among in
        let id : there.id ≡ home.nursery = home_is c T u task is home at_home h e there.id index.0 there.has index.1 in
        let n = finds new.world.book home.nursery _ (mover_home c T u home h e).runs in
        let x = finds new.world.book there.id _ there.nursery in
        sym x.2 ∙ (ap (λ (y : Members). y.scope) (one_of x.0 n.0 (sym x.1 ∙ (ap (nursery_at new.world.book) id ∙ n.1))) ∙ n.2.0)

nowhere : (labels more : Labels) (events others : Events) (f g : Table) (ps : List Place) → AreAt labels events f [] ps → AreAt more others g [] ps
nowhere labels more events others f g [] a = a
nowhere labels more events others f g (p ∷ ps) a = absurd a

-- after a turn the places of every other task are those of its stack, by the new moments of cancellation
pub places_other : {k : Tables} {job : Job} {input : List ℕ} {t m s : ℕ} {old new : RunState} {before after : Task} {stop : Stop} →
    (c : Refines k job input t m None old) →
    (T : Turning k job input t m s old new c.numbers before after stop c.interleaving) → ActsOf c T → (u : ℕ) (task : Task) → u ≢ s →
    old.task u ≡ Some task →
    AreAt (label_at new.world) (event_at new.world) (cancelled_from_after c.interleaving.cancelled_from T.move.made) (outer_of new.world.scopes (scope_of task)) (c.interleaving.at u).places
places_other {k} {job} {input} {t} {m} {s} {old} {new} {before} {after} c T a u task differs is =
    by_own task.own.items refl (c.follows u task is).stands.places
  where
    f : Table
    f = c.interleaving.cancelled_from

    ps : List Place
    ps = (c.interleaving.at u).places

    by_home : (home : Option Home) → task.home ≡ home → HasHome old c.interleaving.at c.numbers u home →
        AreAt (label_at old.world) (event_at old.world) f (outer_of old.world.scopes (option_map (λ (h : Home). h.scope) home)) ps →
        AreAt (label_at new.world) (event_at new.world) (cancelled_from_after f T.move.made) (outer_of new.world.scopes (option_map (λ (h : Home). h.scope) home)) ps
    by_home None e h at = nowhere (label_at old.world) (label_at new.world) (event_at old.world) (event_at new.world) f (cancelled_from_after f T.move.made) ps at
    by_home (Some home) e h at = by_parent (same_or h.parent s)
      where
        by_parent : (h.parent ≡ s) ⊎ (h.parent ≢ s) → AreAt (label_at new.world) (event_at new.world) (cancelled_from_after f T.move.made)
            (outer_of new.world.scopes (Some home.scope)) ps
        by_parent (inl g) = mover_places c T u task is home e h g ps at
        by_parent (inr other) = let x = home_else c T u home h other in places_stay a f home.scope ps x.0 x.1 at

    by_own : (own : List Own) → task.own.items ≡ own → AreAt (label_at old.world) (event_at old.world) f
        (outer_of old.world.scopes (last_or (home_scope task) (map (λ (o : Own). o.id) own))) ps →
        AreAt (label_at new.world) (event_at new.world) (cancelled_from_after f T.move.made) (outer_of new.world.scopes
        (last_or (home_scope task) (map (λ (o : Own). o.id) own))) ps
    by_own [] e at = by_home task.home refl (c.follows u task is).home at
    by_own (x ∷ own) e at =
        own_places_stay a f (home_scope task) x own ps (subst (λ (xs : List Own). AreElse xs before.own.items) e
        (else_own c T u task differs is))
        (subst (λ (xs : List Own). (o : Own) (i : ℕ) → slice_get xs i ≡ Some o → IsOpen old.world.scopes o.id) e (own_open c u task is)) at
