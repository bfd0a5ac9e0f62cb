-- The clock jumps to a later moment, where all that was done is served and no task continues before: the run may stand at each moment up to
-- that one, since nothing is granted by then to those in queues.
use Rattle.std.proofs.Common.{◌≡◌, ◌⊎◌, inl, inr, ℕ, zero, suc, ◌+◌, ◌-◌, ◌<◌, ◌≤◌, Bool, true, false, not, ◌&&◌, Option, Some, None, List, [], ◌∷◌, ◌++◌, map, refl, ap, sym, ◌∙◌, subst, arith, nat_le, nat_lt}
use Rattle.std.proofs.lemmas.Bool.Decides.{nat_tests}
use Rattle.std.specs.List.{filter}
use Rattle.std.specs.Option.{option_map}
use Rattle.exceptions.specs.Exceptions.{Label}
use Rattle.cancel_scopes.specs.Sight.{Tick, sight, seen, is_reached}
use Rattle.cancel_scopes.specs.Tree.{outer_of}
use Rattle.nursery_book.specs.declared.book.NurseryBook.{NurseryBook}
use Rattle.job_tree.specs.Tree.{Tree as Job, Steps}
use Rattle.job_tree.specs.Names.{GivesNamesOnce}
use Rattle.job_tree.specs.Starting.{StartsInNurseries}
use Rattle.job_tree.specs.declared.object.Ask.{Ask}
use Rattle.objects.specs.Held.{ObjectOf, object_in, a_limiter as held_limiter, a_channel as held_channel}
use Rattle.objects.specs.Whats.{What}
use Rattle.objects.specs.declared.ticket.Ticket.{Ticket}
use Rattle.objects.specs.declared.object.Object.{Object as HeldObject}
use Rattle.job_meaning.specs.Log.{Act, opens, asks, gives_back, closes, Table}
use Rattle.job_meaning.specs.declared.clock.Clock.{Clock}
use Rattle.job_meaning.specs.Before.{upto}
use Rattle.job_meaning.specs.Sharing.{Done, Asker, Granted, Object, unopened, a_limiter, a_channel, stays_at, granted_if, granted_before, by_moment}
use Rattle.job_meaning.specs.Walk.{Here, last_grant, leaves_queue, in_time}
use Rattle.job_meaning.specs.Rest as rest
use Rattle.job_meaning.specs.Rest.{Stopped, queued, inside}
use Rattle.job_meaning.proofs.Clips.{seen_near}
use Rattle.turn_semantics.specs.Lists.{Each, IsAmong}
use Rattle.turn_semantics.specs.Midway.{label_among, Tables, stack_at}
use Rattle.turn_semantics.specs.Turned.{AgreesOn}
use Rattle.task_machine.specs.declared.stop.TaskState.{TaskState}
use Rattle.task_machine.specs.declared.stop.TaskState.TheVariants.{ToBegin, Asked, Asleep, Waiting, Queued, GivingUp, Awaits, Over}
use Rattle.task_machine.specs.declared.task.Task.{Task}
use Rattle.task_machine.specs.declared.world.World.{World}
use Rattle.task_machine.specs.Stops.{Numbers, IsTaskState}
use Rattle.task_machine.specs.Tasks.{scope_of}
use Rattle.interleavings.specs.Interleaving.{Started, leaves_by, granted_or_left}
use Rattle.interleavings.specs.Acts.{acts_of, acts_of_all, InOrder, granted_so_far}
use Rattle.interleavings.specs.Laws.{IsSettledBy}
use Rattle.interleavings.specs.Runs.{keeping, Reached, jump, turns_taken}
use Rattle.interleavings.proofs.Contract.{near_places}
use Rattle.interleavings.proofs.GrantsKnown.{grants_are_known}
use Rattle.interleavings.proofs.Ordering.{orders_exist}
use Rattle.interleavings.proofs.Running.{runs_keep_invariant}
use Rattle.run_refinement.specs.RunState.{RunState, Refines, GrantedAt, Shares}
use Rattle.run_refinement.specs.Ready.{StaysTo, AllStay}
use Rattle.run_refinement.specs.Moved.{SameTasks, PassesOn, moved_world}
use Rattle.run_refinement.specs.Sharing.{RoundAct, done_by, done_before, done_from, object_after, waits_in, waits_by, asked_before, SameObject, AreAskedBefore, AsksBefore, asked_at, stays_to_send, waiter_in, offer_in}
use Rattle.run_refinement.proofs.ActsKeep.{not_both}
use Rattle.run_refinement.proofs.Blocks.{state_blocked, sight_known, all_stay_less}
use Rattle.run_refinement.proofs.Counts.{one_if, count, count_append, in_object, sender_passes, asker_in, askers_in, acts_count}
use Rattle.run_refinement.proofs.DoneLists.{all_before, none_from, each_weaker, sorted_each, known_soon}
use Rattle.run_refinement.proofs.Grants.{granted_in, leaves_from}
use Rattle.run_refinement.proofs.LabelsApart.{below_of}
use Rattle.run_refinement.proofs.Jumped.{state_jumps}
use Rattle.run_refinement.proofs.RunFacts.{IsBy, DoneBy, LeftBy, ActBy, StopBy, all_by, acts_by_now, all_acts_by}
use Rattle.run_refinement.proofs.Orders.{taken_in}

-- ---- those who left a queue by a moment

-- whether a task left its queue after a moment
abbrev pub left_after : ℕ → Tick → Bool
left_after t None = false
left_after t (Some u) = nat_lt t u

abbrev pub is_late : ℕ → Asker → Bool
is_late t a = left_after t a.left

pub count_none : {A : Type 0} (p : A → Bool) (xs : List A) → count p xs ≡ 0 → Each (λ x. p x ≡ false) xs
count_none p [] h = tt
count_none {A} p (x ∷ xs) h = (by_test (p x) refl h, count_none p xs (omega (arith, h)))
  where
    by_test : (b : Bool) → p x ≡ b → one_if (p x) + count p xs ≡ 0 → p x ≡ false
    by_test false e g = e
    by_test true e g = absurd (let a : one_if (p x) ≡ 1 = ap one_if e in omega (arith, a, g))

pub filter_same : {A : Type 0} (p q : A → Bool) (xs : List A) → Each (λ x. p x ≡ q x) xs → filter p xs ≡ filter q xs
filter_same p q [] h = refl
filter_same {A} p q (x ∷ xs) h = by_test (p x) (q x) refl refl (filter_same p q xs h.1)
  where
    by_test : (a b : Bool) → p x ≡ a → q x ≡ b → filter p xs ≡ filter q xs → filter p (x ∷ xs) ≡ filter q (x ∷ xs)
    by_test true true e f g = rw e (rw f (ap (λ ys. x ∷ ys) g))
    by_test false false e f g = rw e (rw f g)
    by_test true false e f g = absurd (let z : true ≡ false = sym e ∙ (h.0 ∙ f) in cc)
    by_test false true e f g = absurd (let z : false ≡ true = sym e ∙ (h.0 ∙ f) in cc)

stays_alike : (t w v : ℕ) (a : Asker) → t ≤ w → t ≤ v → is_late t a ≡ false → stays_at w a ≡ stays_at v a
stays_alike t w v a lo le e = by_left a.left e
  where
    by_left : (x : Tick) → left_after t x ≡ false → not (is_reached x w) ≡ not (is_reached x v)
    by_left None f = refl
    by_left (Some u) f = ap not (reached ∙ sym reached_later)
      where
        reached : is_reached (Some u) w ≡ true
        reached = grind (arith, nat_tests)

        reached_later : is_reached (Some u) v ≡ true
        reached_later = grind (arith, nat_tests)

-- an object is the same by each later moment, if nobody left a queue after this one
pub same_later : (at : ℕ → Started) (t w v : ℕ) (code : Option ObjectOf) (o : Object) → t ≤ w → t ≤ v → in_object (is_late t) o ≡ 0 → SameObject at w code o →
    SameObject at v code o
same_later at t w v None unopened lo le none h = tt
same_later at t w v None (a_limiter l) lo le none h = absurd h
same_later at t w v None (a_channel c) lo le none h = absurd h
same_later at t w v (Some (held_limiter l)) unopened lo le none h = absurd h
same_later at t w v (Some (held_channel c)) unopened lo le none h = absurd h
same_later at t w v (Some (held_limiter l)) (a_limiter m) lo le none h =
    record {
      free = h.free;
      waiting =
          h.waiting
          ∙ ap (map waiter_in)
          (filter_same (stays_at w) (stays_at v) m.waiting
          (each_weaker (λ a. is_late t a ≡ false) (λ a. stays_at w a ≡ stays_at v a) m.waiting (λ a e. stays_alike t w v a lo le e)
          (count_none (is_late t) m.waiting none)));
    }
same_later at t w v (Some (held_channel c)) (a_channel d) lo le none h =
    let senders : count (sender_passes (is_late t)) d.senders ≡ 0 = omega (arith, none) in
    let receivers : count (is_late t) d.receivers ≡ 0 = omega (arith, none) in
    record {
      places = h.places;
      buffer = h.buffer;
      is_closed = h.is_closed;
      senders =
          h.senders
          ∙ ap (map offer_in)
          (filter_same (stays_to_send w) (stays_to_send v) d.senders
          (each_weaker (λ s. is_late t s.who ≡ false) (λ s. stays_to_send w s ≡ stays_to_send v s) d.senders (λ s e. stays_alike t w v s.who lo le e)
          (count_none (sender_passes (is_late t)) d.senders senders)));
      receivers =
          h.receivers
          ∙ ap (map waiter_in)
          (filter_same (stays_at w) (stays_at v) d.receivers
          (each_weaker (λ a. is_late t a ≡ false) (λ a. stays_at w a ≡ stays_at v a) d.receivers (λ a e. stays_alike t w v a lo le e)
          (count_none (is_late t) d.receivers receivers)));
    }
same_later at t w v (Some (held_limiter l)) (a_channel d) lo le none h = absurd h
same_later at t w v (Some (held_channel c)) (a_limiter m) lo le none h = absurd h

-- nobody has, by acts of this moment or before
none_late : (t : ℕ) (ds : List Done) → Each (DoneBy t) ds → count (is_late t) (askers_in ds) ≡ 0
none_late t [] h = refl
none_late t (d ∷ ds) h =
    let a : count (is_late t) (asker_in d d.act) ≡ 0 = of_act d.act h.0.1 in
    let b : count (is_late t) (askers_in ds) ≡ 0 = none_late t ds h.1 in
    let c : count (is_late t) (asker_in d d.act ++ askers_in ds) ≡ count (is_late t) (asker_in d d.act) + count (is_late t) (askers_in ds) =
    count_append (is_late t) (asker_in d d.act) (askers_in ds) in
    omega (arith, a, b, c)
  where
    by_left : (x : Tick) → LeftBy t x → one_if (left_after t x) + 0 ≡ 0
    by_left None g = omega arith
    by_left (Some u) g = ap (λ (b : Bool). one_if b + 0) early ∙ omega arith
      where
        early : nat_lt t u ≡ false
        early = grind (arith, nat_tests)

    of_act : (a : Act) → ActBy t a → count (is_late t) (asker_in d a) ≡ 0
    of_act (opens kind) g = refl
    of_act (asks ask part left) g = by_left left g
    of_act gives_back g = refl
    of_act closes g = refl

pub no_late_object : (t : ℕ) (ds : List Done) → Each (DoneBy t) ds → in_object (is_late t) (object_after unopened (by_moment ds)) ≡ 0
no_late_object t ds h =
    let a = acts_count (is_late t) unopened (by_moment ds) in
    let b : count (is_late t) (askers_in (by_moment ds)) ≡ 0 = none_late t (by_moment ds) (sorted_each (DoneBy t) ds h) in
    omega (arith, a, b)

-- ---- grants

-- a task in a queue leaves it at v + 1 or later, if nothing is granted by v
later_leaving : (v since left : ℕ) (o : Option Granted) → granted_before (suc v) o ≡ None → suc v ≤ left →
    suc v ≤ granted_or_left (in_time since left o) left
later_leaving v since left None e le = le
later_leaving v since left (Some g) e le = by_test (nat_le (g.at + 1) (suc v)) refl
  where
    by_times : (b : Bool) → suc v ≤ g.at → suc v ≤ granted_or_left (granted_if b g None) left
    by_times true a = a
    by_times false a = le

    by_test : (b : Bool) → nat_le (g.at + 1) (suc v) ≡ b → suc v ≤ granted_or_left (in_time since left (Some g)) left
    by_test true f = absurd (not_both e (ap (λ (z : Bool). granted_if z g None) f))
    by_test false f = by_times (nat_lt since g.at && nat_le g.at left) (grind (arith, nat_tests))

asks_later : (t v : ℕ) (es : List rest.Event) → t ≤ v → AsksBefore t es → AsksBefore v es
asks_later t v [] le h = tt
asks_later t v (rest.acts l u (asks a part left) ∷ es) le h = (let e = h.0 in omega (arith, le, e), asks_later t v es le h.1)
asks_later t v (rest.acts l u (opens kind) ∷ es) le h = asks_later t v es le h
asks_later t v (rest.acts l u gives_back ∷ es) le h = asks_later t v es le h
asks_later t v (rest.acts l u closes ∷ es) le h = asks_later t v es le h
asks_later t v (rest.noted u e ∷ es) le h = asks_later t v es le h
asks_later t v (rest.signs l u ∷ es) le h = asks_later t v es le h
asks_later t v (rest.enters l u d ∷ es) le h = asks_later t v es le h
asks_later t v (rest.starts i l u ∷ es) le h = asks_later t v es le h

pub once_later : (t v : ℕ) (s : Stopped) (es : List rest.Event) → t ≤ v → AsksBefore (asked_at t s) es → AsksBefore (asked_at v s) es
once_later t v (queued object ask since body) es le h = h
once_later t v rest.to_begin es le h = asks_later t v es le h
once_later t v (rest.asking kernel purpose) es le h = asks_later t v es le h
once_later t v (rest.asleep paced n since) es le h = asks_later t v es le h
once_later t v (rest.waiting_for event since) es le h = asks_later t v es le h
once_later t v (rest.giving_up since) es le h = asks_later t v es le h
once_later t v (rest.awaiting children ended exc) es le h = asks_later t v es le h
once_later t v (rest.at_end u e) es le h = asks_later t v es le h

-- ---- a run in which all is served

-- what a task in a queue stays for
abbrev pub StaysQueued : World → (through : ℕ) → Option What → ℕ → Option ℕ → (since : ℕ) → Type 0
StaysQueued world through what u scope since =
    ((what ≡ None) ⊎ (u ≤ through)) × (u ≤ last_grant world.clock since) × ((upto u (sight (outer_of world.scopes scope)) ≡ u) ⊎ (u ≤ suc since))

pub stays_queued : (world : World) (through : ℕ) (what : Option What) (u : ℕ) (scope : Option ℕ) (numbers : Numbers) (book : NurseryBook) (task_state : TaskState)
    (name : List ℕ) (wanted : Ask) (since : ℕ) (body : Steps) → IsTaskState numbers book task_state (queued name wanted since body) →
    StaysTo world through what u scope task_state → StaysQueued world through what u scope since
stays_queued world through what u scope numbers book (Queued key a v steps) name wanted since body h to =
    subst (λ (x : ℕ). StaysQueued world through what u scope x) h.1 to
stays_queued world through what u scope numbers book (ToBegin v) name wanted since body h to = absurd h
stays_queued world through what u scope numbers book (Asked kernel purpose) name wanted since body h to = absurd h
stays_queued world through what u scope numbers book (Asleep paced ticks v) name wanted since body h to = absurd h
stays_queued world through what u scope numbers book (Waiting key v) name wanted since body h to = absurd h
stays_queued world through what u scope numbers book (GivingUp v) name wanted since body h to = absurd h
stays_queued world through what u scope numbers book (Awaits id v) name wanted since body h to = absurd h
stays_queued world through what u scope numbers book Over name wanted since body h to = absurd h

module _ (k : Tables) (job : Job) (input : List ℕ) (t u m : ℕ) (old : RunState) (settled : IsSettledBy k job input) (names : GivesNamesOnce job)
    (starting : StartsInNurseries job) (c : Refines k job input t m None old) (lt : t < u) (served : old.through ≡ suc t) (stay : AllStay old u)
  where
    abbrev at : ℕ → Started
    at = c.interleaving.at

    abbrev qs : List Started
    qs = c.interleaving.tasks

    abbrev f : Table
    f = c.interleaving.cancelled_from

    all_now : (q : Started) → IsAmong q qs → IsBy k t q
    all_now = all_by k job input settled names starting f t m qs c.interleaving.reached

    by_now : (s : ℕ) → s < m → IsBy k t (at s)
    by_now s below = all_now (at s) (c.interleaving.has s below).0

    done_now : (taken : List Started) → InOrder qs (0 ∷ []) taken → (l : Label) → Each (DoneBy t) (acts_of_all l taken)
    done_now taken order l = all_acts_by k t l taken (λ q i. all_now q (taken_in qs (0 ∷ []) taken order q i))

    asked_by_now : (s : ℕ) → s < m → (name : List ℕ) (wanted : Ask) (since : ℕ) (body : Steps) → (at s).rest.stopped ≡ queued name wanted since body → since ≤ t
    asked_by_now s below name wanted since body is = (subst (StopBy k t (at s).places) is (by_now s below).stop).0

    -- all that was granted so far is known in the next moment
    all_known : (taken : List Started) → InOrder qs (0 ∷ []) taken → (v : ℕ) → (object asker : Label) (since : ℕ) → suc t < v →
        granted_before v (granted_so_far taken object asker since) ≡ granted_so_far taken object asker since
    all_known taken order v object asker since late =
        known_soon t v asker since (acts_of_all object taken)
        (each_weaker (DoneBy t) (λ d. d.at ≤ t) (acts_of_all object taken) (λ d h. h.0) (done_now taken order object)) late

    -- what was granted so far to a task in a queue is what the state says
    so_far : (taken : List Started) → InOrder qs (0 ∷ []) taken → (s : ℕ) → s < m → (name : List ℕ) (wanted : Ask) (since : ℕ) (body : Steps) →
        (at s).rest.stopped ≡ queued name wanted since body → (l : Label) → label_among true name (at s).places ≡ Some l →
        granted_so_far taken l (at s).here.task since ≡ granted_in (suc t) (old.granted s)
    so_far taken order s below name wanted since body is l e =
        sym (all_known taken order (suc (suc t)) l (at s).here.task since (omega arith))
        ∙ subst (λ (v : ℕ). granted_before (suc v) (granted_so_far taken l (at s).here.task since) ≡ granted_in v (old.granted s)) served
        ((subst (GrantedAt old taken s (at s)) is (c.shares.granted taken order s below)).0
        (subst (λ (v : ℕ). since < v) (sym served) (let a = asked_by_now s below name wanted since body is in omega (arith, a))) l e)

    -- a task in a queue that does not continue
    stays_so : (s : ℕ) (task : Task) → old.task s ≡ Some task → (name : List ℕ) (wanted : Ask) (since : ℕ) (body : Steps) →
        (at s).rest.stopped ≡ queued name wanted since body → StaysQueued old.world old.through (old.granted s) u (scope_of task) since
    stays_so s task lives name wanted since body is =
        stays_queued old.world old.through (old.granted s) u (scope_of task) (c.numbers s) old.world.book task.task_state name wanted since body
        (subst (λ (x : Stopped). IsTaskState (c.numbers s) old.world.book task.task_state x) is (c.follows s task lives).task_state) (stay s task lives)

    unseen_then : (s : ℕ) → s < m → (name : List ℕ) (wanted : Ask) (since : ℕ) (body : Steps) → (at s).rest.stopped ≡ queued name wanted since body →
        since ≡ t → seen (stack_at f (at s).places).scopes t ≡ false
    unseen_then s below name wanted since body is now =
        sym (seen_near (suc t) (stack_at k.cancelled_from (at s).places).scopes (stack_at f (at s).places).scopes t
        (near_places t k.cancelled_from f (at s).places agrees).0 (omega arith))
        ∙ (ap (λ (v : ℕ). seen (stack_at k.cancelled_from (at s).places).scopes v) (sym now)
        ∙ (subst (StopBy k t (at s).places) is (by_now s below).stop).1)
      where
        agrees : AgreesOn t k.cancelled_from f (at s).places
        agrees = (runs_keep_invariant k job input settled names starting f t m qs c.interleaving.reached).2 (at s) (c.interleaving.has s below).0

    -- it leaves the queue no earlier
    leaves_later : (s : ℕ) (task : Task) → old.task s ≡ Some task → s < m → (name : List ℕ) (wanted : Ask) (since : ℕ) (body : Steps) →
        (at s).rest.stopped ≡ queued name wanted since body →
        u ≤ leaves_queue (sight (stack_at f (at s).places).scopes) (last_grant (at s).here.clock since)
    leaves_later s task lives below name wanted since body is =
        leaves_from (sight (stack_at f (at s).places).scopes) u (last_grant (at s).here.clock since) last (by_sight x.2)
      where
        x : StaysQueued old.world old.through (old.granted s) u (scope_of task) since
        x = stays_so s task lives name wanted since body is

        last : u ≤ last_grant (at s).here.clock since
        last = subst (λ (z : Clock). u ≤ last_grant z since) (ap (λ (h : Here). h.clock) (c.follows s task lives).here) x.1

        unreached : (s : Tick) → is_reached s t ≡ false → upto (suc t) s ≡ suc t
        unreached None e = refl
        unreached (Some v) e = let a : t < v = grind (arith, nat_tests) in omega (arith, a)

        by_sight : (upto u (sight (outer_of old.world.scopes (scope_of task))) ≡ u) ⊎ (u ≤ suc since) → upto u (sight (stack_at f (at s).places).scopes) ≡ u
        by_sight (inl e) = sight_known c s task lives u e
        by_sight (inr le) =
            let a : since ≤ t = asked_by_now s below name wanted since body is in
            let next : suc t ≡ u = omega (arith, a, le, lt) in
            let now : since ≡ t = omega (arith, a, le, lt) in
            subst (λ (v : ℕ). upto v (sight (stack_at f (at s).places).scopes) ≡ v) next
            (unreached (sight (stack_at f (at s).places).scopes) (unseen_then s below name wanted since body is now))

    -- ---- the run stands at each moment

    pub record Stands (v : ℕ) : Type 0 where
      pub reached : Reached k job input f v m qs
      pub taken : turns_taken reached ≡ turns_taken c.interleaving.reached

    order : (taken : List Started) × InOrder qs (0 ∷ []) taken
    order = orders_exist k job input names starting settled f t m qs c.interleaving.reached

    -- nothing is granted by a moment in which it stands
    none_granted : (v : ℕ) → t ≤ v → v < u → Reached k job input f v m qs → (s : ℕ) (task : Task) → old.task s ≡ Some task → s < m →
        (name : List ℕ) (wanted : Ask) (since : ℕ) (body : Steps) → (at s).rest.stopped ≡ queued name wanted since body →
        (l : Label) → label_among true name (at s).places ≡ Some l → granted_before (suc v) (k.granted l (at s).here.task since) ≡ None
    none_granted v le below_u r s task lives below name wanted since body is l e =
        grants_are_known k job input names starting settled f v m qs r v (runs_keep_invariant k job input settled names starting f v m qs r).1 order.0 order.1
        l (at s).here.task since
        ∙ (ap (granted_before (suc v)) (so_far order.0 order.1 s below name wanted since body is l e)
        ∙ by_stay (stays_so s task lives name wanted since body is).0 (old.granted s) refl)
      where
        by_stay : (old.granted s ≡ None) ⊎ (u ≤ old.through) → (what : Option What) → old.granted s ≡ what →
            granted_before (suc v) (granted_in (suc t) (old.granted s)) ≡ None
        by_stay (inl none) what g = ap (λ (o : Option What). granted_before (suc v) (granted_in (suc t) o)) none
        by_stay (inr soon) None g = ap (λ (o : Option What). granted_before (suc v) (granted_in (suc t) o)) g
        by_stay (inr soon) (Some w) g =
            ap (λ (o : Option What). granted_before (suc v) (granted_in (suc t) o)) g
            ∙ ap (λ (b : Bool). granted_if b (record { at = suc t; what = w }) None) late
          where
            late : nat_le (suc t + 1) (suc v) ≡ false
            late = let a : u ≤ suc t = subst (λ (x : ℕ). u ≤ x) served soon in grind (arith, nat_tests)

    stands_next : (v : ℕ) → t ≤ v → v < u → Stands v → Stands (suc v)
    stands_next v le below_u h =
        record {
          reached = jump f v (suc v) m qs h.reached (omega arith)
              (state_blocked k job input t m old c (suc v) (all_stay_less old (suc v) u (omega (arith, below_u)) stay) in_queues);
          taken = h.taken;
        }
      where
        by_label : (s : ℕ) (task : Task) → old.task s ≡ Some task → s < m → (name : List ℕ) (wanted : Ask) (since : ℕ) (body : Steps) →
            (at s).rest.stopped ≡ queued name wanted since body → (o : Option Label) → label_among true name (at s).places ≡ o →
            suc v ≤ leaves_by (keeping f k) (inside (at s).rest.frames (at s).here) o since (stack_at f (at s).places)
        by_label s task lives below name wanted since body is None e =
            let a = leaves_later s task lives below name wanted since body is in omega (arith, a, below_u)
        by_label s task lives below name wanted since body is (Some l) e =
            later_leaving v since (leaves_queue (sight (stack_at f (at s).places).scopes) (last_grant (at s).here.clock since))
            (k.granted l (at s).here.task since)
            (none_granted v le below_u h.reached s task lives below name wanted since body is l e)
            (let a = leaves_later s task lives below name wanted since body is in omega (arith, a, below_u))

        in_queues : (s : ℕ) (task : Task) → old.task s ≡ Some task → (name : List ℕ) (wanted : Ask) (since : ℕ) (body : Steps) →
            (at s).rest.stopped ≡ queued name wanted since body →
            suc v ≤ leaves_by (keeping f k) (inside (at s).rest.frames (at s).here) (label_among true name (at s).places) since (stack_at f (at s).places)
        in_queues s task lives name wanted since body is =
            by_label s task lives (below_of c s task lives) name wanted since body is (label_among true name (at s).places) refl

    stands_up : (n : ℕ) → t + n ≤ u → Stands (t + n)
    stands_up zero le = let e : t ≡ t + 0 = omega arith in subst Stands e (record { reached = c.interleaving.reached; taken = refl })
    stands_up (suc n) le =
        let e : suc (t + n) ≡ t + suc n = omega arith in
        subst Stands e (stands_next (t + n) (omega arith) (omega (arith, le)) (stands_up n (omega (arith, le))))

    pub stands_at : Stands u
    stands_at = let e : t + (u - t) ≡ u = omega (arith, lt) in subst Stands e (stands_up (u - t) (omega (arith, lt)))

    -- ---- what is shared then

    module _ (new : RunState) (same : SameTasks old new) (passes : PassesOn t u old new) where
      abbrev there : RunState
      there = record new { world = moved_world old.world u new.world }

      granted_then : (taken : List Started) → InOrder qs (0 ∷ []) taken → (s : ℕ) → s < m → (stopped : Stopped) → (at s).rest.stopped ≡ stopped →
          GrantedAt old taken s (at s) stopped → GrantedAt there taken s (at s) stopped
      granted_then taken order s below (queued name wanted since body) is h = (
        λ before l e.
            subst (λ (v : ℕ). granted_before (suc v) (granted_so_far taken l (at s).here.task since) ≡ granted_in v (new.granted s)) (sym passes.through)
            (ap (granted_before (suc u)) (so_far taken order s below name wanted since body is l e)
            ∙ (by_task (old.task s) refl ∙ ap (granted_in u) (sym (passes.granted s)))),
        λ le. absurd (let a = asked_by_now s below name wanted since body is in
            let b : u ≤ since = subst (λ (v : ℕ). v ≤ since) passes.through le in omega (arith, a, b, lt)),
      )
        where
          by_stay : (old.granted s ≡ None) ⊎ (u ≤ old.through) → (what : Option What) → old.granted s ≡ what →
              granted_before (suc u) (granted_in (suc t) what) ≡ granted_in u what
          by_stay (inl none) None g = refl
          by_stay (inl none) (Some w) g = absurd (not_both none g)
          by_stay (inr soon) None g = refl
          by_stay (inr soon) (Some w) g =
              ap (λ (b : Bool). granted_if b (record { at = suc t; what = w }) None) in_time_now ∙ ap (λ (v : ℕ). Some (record { at = v; what = w })) next
            where
              next : suc t ≡ u
              next = let a : u ≤ suc t = subst (λ (x : ℕ). u ≤ x) served soon in omega (arith, a, lt)

              in_time_now : nat_le (suc t + 1) (suc u) ≡ true
              in_time_now = grind (arith, nat_tests)

          by_task : (o : Option Task) → old.task s ≡ o → granted_before (suc u) (granted_in (suc t) (old.granted s)) ≡ granted_in u (old.granted s)
          by_task (Some task) lives = by_stay (stays_so s task lives name wanted since body is).0 (old.granted s) refl
          by_task None over =
              absurd (let e = (c.ended s below over).2 in let g : queued name wanted since body ≡ rest.at_end e.end (c.ended s below over).0.exc = sym is ∙ e.stopped in cc)
      granted_then taken order s below rest.to_begin is h = passes.granted s ∙ h
      granted_then taken order s below (rest.asking kernel purpose) is h = passes.granted s ∙ h
      granted_then taken order s below (rest.asleep paced n since) is h = passes.granted s ∙ h
      granted_then taken order s below (rest.waiting_for event since) is h = passes.granted s ∙ h
      granted_then taken order s below (rest.giving_up since) is h = passes.granted s ∙ h
      granted_then taken order s below (rest.awaiting children ended exc) is h = passes.granted s ∙ h
      granted_then taken order s below (rest.at_end v e) is h = passes.granted s ∙ h

      asked_then : (o : Option HeldObject) → AreAskedBefore (suc t) o → AreAskedBefore u o
      asked_then o h waits =
          sym (h (asked_before u waits)) ∙ (ap (λ (w : Ticket → Bool). option_map (object_in w) o) (λ i ticket. both ticket i) ∙ h waits)
        where
          both : (ticket : Ticket) → asked_before (suc t) (asked_before u waits) ticket ≡ asked_before (suc t) waits ticket
          both ticket = by_test (nat_lt ticket.since (suc t)) refl
            where
              by_test : (b : Bool) → nat_lt ticket.since (suc t) ≡ b → (b && asked_before u waits ticket) ≡ (b && waits ticket)
              by_test false e = refl
              by_test true e = ap (λ (z : Bool). z && waits ticket) early
                where
                  early : nat_lt ticket.since u ≡ true
                  early = grind (arith, nat_tests)

      pub shares_then : Shares there qs at m
      shares_then =
          record {
            round = λ s below l.
                subst (λ (v : ℕ). done_from v (acts_of l (at s)) ≡ done_by s l u (at s).here.task new.round) (sym passes.through)
                (none_from t u (acts_of l (at s)) lt
                (each_weaker (DoneBy t) (λ d. d.at ≤ t) (acts_of l (at s)) (λ d h. h.0) (acts_by_now k t l (at s) (by_now s below)))
                ∙ sym (ap (done_by s l u (at s).here.task) passes.round));
            served = λ taken order l.
                subst (λ (v : ℕ). SameObject at v (option_map (object_in (waits_in new.task)) (new.object l))
                (object_after unopened (by_moment (done_before v (acts_of_all l taken))))) (sym passes.through)
                (subst (λ (o : Option HeldObject). SameObject at u (option_map (object_in (waits_in new.task)) o)
                (object_after unopened (by_moment (done_before u (acts_of_all l taken))))) (sym (passes.object l))
                (subst (λ (w : Ticket → Bool). SameObject at u (option_map (object_in w) (old.object l))
                (object_after unopened (by_moment (done_before u (acts_of_all l taken)))))
                (λ i ticket. ap (λ (o : Option Task). waits_by o ticket.since) (sym (same.task ticket.row)) i) (object_then taken order l)));
            granted = λ taken order s below. granted_then taken order s below (at s).rest.stopped refl (c.shares.granted taken order s below);
            ungranted = λ s le. passes.granted s ∙ c.shares.ungranted s le;
            grants = λ taken order object asker v.
                subst (λ (w : ℕ). new.grants object asker v ≡ granted_before (suc w) (granted_so_far taken object asker v)) (sym passes.through)
                (passes.grants object asker v
                ∙ (subst (λ (w : ℕ). old.grants object asker v ≡ granted_before (suc w) (granted_so_far taken object asker v)) served
                (c.shares.grants taken order object asker v)
                ∙ (all_known taken order (suc (suc t)) object asker v (omega arith)
                ∙ sym (all_known taken order (suc u) object asker v (omega (arith, lt))))));
            known = λ a i. absurd (let j : IsAmong a [] = subst (λ (r : List RoundAct). IsAmong a r) passes.round i in j);
            asked = λ l.
                subst (λ (v : ℕ). AreAskedBefore v (new.object l)) (sym passes.through)
                (subst (λ (o : Option HeldObject). AreAskedBefore u o) (sym (passes.object l))
                (asked_then (old.object l) (subst (λ (v : ℕ). AreAskedBefore v (old.object l)) served (c.shares.asked l))));
            once = λ s below. once_later old.world.tick u (at s).rest.stopped (at s).made (let e = c.tick in omega (arith, e, lt)) (c.shares.once s below);
          }
        where
          object_then : (taken : List Started) → InOrder qs (0 ∷ []) taken → (l : Label) →
              SameObject at u (option_map (object_in (waits_in old.task)) (old.object l)) (object_after unopened (by_moment (done_before u (acts_of_all l taken))))
          object_then taken order l =
              subst (λ (ds : List Done). SameObject at u (option_map (object_in (waits_in old.task)) (old.object l)) (object_after unopened (by_moment ds)))
              (sym (all_before t u (acts_of_all l taken) lt early))
              (same_later at t (suc t) u (option_map (object_in (waits_in old.task)) (old.object l)) (object_after unopened (by_moment (acts_of_all l taken))) (omega arith)
              (omega (arith, lt))
              (no_late_object t (acts_of_all l taken) (done_now taken order l))
              (subst (λ (ds : List Done). SameObject at (suc t) (option_map (object_in (waits_in old.task)) (old.object l)) (object_after unopened (by_moment ds)))
              (all_before t (suc t) (acts_of_all l taken) (omega arith) early)
              (subst (λ (v : ℕ). SameObject at v (option_map (object_in (waits_in old.task)) (old.object l))
              (object_after unopened (by_moment (done_before v (acts_of_all l taken))))) served (c.shares.served taken order l))))
            where
              early : Each (λ d. d.at ≤ t) (acts_of_all l taken)
              early = each_weaker (DoneBy t) (λ d. d.at ≤ t) (acts_of_all l taken) (λ d h. h.0) (done_now taken order l)

      -- so the clock may jump
      pub jumps : new.world ≡ moved_world old.world u new.world → Refines k job input u m None new
      jumps world = state_jumps k job input t u m old new (omega (arith, lt)) same world c stands_at.reached stands_at.taken passes.through shares_then
