-- Where no task continues in a moment, what was done in it to limiters and channels is served, in the order of records: then they are those of
-- the definitions after that moment, and it is known what they grant in the next one.
use Rattle.std.proofs.Common.{◌≡◌, ◌⊎◌, inl, inr, ℕ, suc, ◌+◌, ◌<◌, ◌≤◌, Bool, true, false, ◌&&◌, ◌==◌, Option, Some, None, List, [], ◌∷◌, ◌++◌, map, refl, ap, sym, ◌∙◌, subst, arith, nat_lt, nat_le, Bor, if◌then◌else◌}
use Rattle.job_meaning.proofs.Distinct.{same_label_itself}
use Rattle.std.proofs.lemmas.Bool.{eqb-true, eq-eqb, cases_lt}
use Rattle.std.proofs.lemmas.Bool.Decides.{nat_tests}
use Rattle.std.proofs.lemmas.List.{map-append}
use Rattle.std.proofs.lemmas.List.Elements.{filter-append}
use Rattle.std.specs.List.{filter}
use Rattle.std.specs.Option.{option_map}
use Rattle.exceptions.specs.Exceptions.{Label}
use Rattle.job_tree.specs.Tree.{Tree as Job, Steps}
use Rattle.job_tree.specs.Names.{GivesNamesOnce}
use Rattle.job_tree.specs.Starting.{StartsInNurseries}
use Rattle.job_tree.specs.declared.object.Ask.{Ask}
use Rattle.cancel_scopes.specs.Tree.{outer_of}
use Rattle.objects.specs.Held.{ObjectOf, object_in}
use Rattle.objects.specs.declared.ticket.Ticket.{Ticket}
use Rattle.job_meaning.specs.Log.{Act, opens, asks, gives_back, closes, Table, same_label}
use Rattle.job_meaning.specs.Sharing.{Done, done_if, Given, Granted, granted_if, granted_before, find_given, Object, unopened, by_moment, serve_acts}
use Rattle.job_meaning.specs.Walk.{Here}
use Rattle.job_meaning.specs.Rest as rest
use Rattle.job_meaning.specs.Rest.{Event, noted, signs, enters, acts, starts, Stopped, queued, inside}
use Rattle.turn_semantics.specs.Lists.{Each, IsAmong}
use Rattle.turn_semantics.specs.Midway.{label_among, Tables}
use Rattle.turn_semantics.specs.Placed.{IsSome as IsSomeLabel}
use Rattle.objects.specs.Whats.{What}
use Rattle.task_machine.specs.declared.stop.TaskState.{TaskState}
use Rattle.task_machine.specs.declared.stop.TaskState.TheVariants.{ToBegin, Asked, Asleep, Waiting, Queued, GivingUp, Awaits, Over}
use Rattle.task_machine.specs.declared.task.Task.{Task}
use Rattle.task_machine.specs.Stacked.{AwaitsEvent}
use Rattle.task_machine.specs.Stops.{IsTaskState}
use Rattle.task_machine.specs.Tasks.{scope_of}
use Rattle.task_machine.specs.Worlds.{label_at}
use Rattle.interleavings.specs.Interleaving.{Started}
use Rattle.interleavings.specs.Acts.{acts_made, asked_on, acts_pending, acts_of, acts_of_all, InOrder, granted_so_far}
use Rattle.interleavings.specs.Laws.{IsSettledBy}
use Rattle.interleavings.specs.Rows.{children_made}
use Rattle.run_refinement.specs.RunState.{RunState, Refines, GrantedAt, Shares}
use Rattle.run_refinement.specs.Ready.{AllStay}
use Rattle.run_refinement.specs.Moved.{SameTasks, ServesRound, WaitsFor, granted_by, granted_for, granted_to, moved_world}
use Rattle.run_refinement.specs.Sharing.{RoundAct, done_by, done_before, done_from, object_after, waits_in, waits_by, is_queued, SameObject, AreAskedBefore, AsksBefore, asked_at, acts_by, acts_on, serve_all, find_get}
use Rattle.run_refinement.proofs.ActsKeep.{not_both}
use Rattle.run_refinement.proofs.ByMoment.{split_moment, find_first, find_last, found_at, none_before}
use Rattle.run_refinement.proofs.Counts.{count, askers_in, of_asker, of_given, acts_give}
use Rattle.run_refinement.proofs.DoneLists.{all_before, none_from, from_append, each_weaker, each_filter, sorted_each, object_append, serves_append, befores, known_soon}
use Rattle.run_refinement.proofs.EventPlaces.{HasEvent, has_event}
use Rattle.run_refinement.proofs.Gone.{asked_then, given_count, granted_own}
use Rattle.run_refinement.proofs.Grants.{granted_in, given_by}
use Rattle.run_refinement.proofs.Jumped.{state_serves}
use Rattle.run_refinement.proofs.JumpsOn.{once_later, same_later, no_late_object, stays_queued}
use Rattle.run_refinement.proofs.LabelsApart.{below_of}
use Rattle.run_refinement.proofs.Orders.{Rises, labels_differ, all_are_taken, all_born, taken_in}
use Rattle.run_refinement.proofs.RoundLists.{IsQueued}
use Rattle.run_refinement.proofs.PathOrders.{serials, gather, gathered, paths_rise}
use Rattle.run_refinement.proofs.RunFacts.{IsBy, DoneBy, StopBy, all_by, acts_by_now, all_acts_by, each_append}
use Rattle.run_refinement.proofs.ServeRound.{Waits, ActFits, Alike, ServedSo, to_done, served_all, found_same, found_who}
use Rattle.run_refinement.proofs.TurnedObjects.{tickets_weaker, tickets_wait}

-- ---- what tasks did in a round

-- what a task did on one of them, by its number
done_is : (at : ℕ → Started) (t s : ℕ) (l : Label) (round : List RoundAct) →
    done_by s l t (at s).here.task round ≡ map (λ (a : RoundAct). record { at = t; task = (at a.serial).here.task; act = a.act }) (acts_on l (acts_by s round))
done_is at t s l [] = refl
done_is at t s l (a ∷ round) = by_serial (a.serial == s) refl (same_label l a.object) refl (done_is at t s l round)
  where
    to : RoundAct → Done
    to a = record { at = t; task = (at a.serial).here.task; act = a.act }

    by_serial : (b : Bool) → (a.serial == s) ≡ b → (c : Bool) → same_label l a.object ≡ c →
        done_by s l t (at s).here.task round ≡ map (λ (a : RoundAct). record { at = t; task = (at a.serial).here.task; act = a.act }) (acts_on l (acts_by s round)) →
        done_by s l t (at s).here.task (a ∷ round)
        ≡ map (λ (a : RoundAct). record { at = t; task = (at a.serial).here.task; act = a.act }) (acts_on l (acts_by s (a ∷ round)))
    by_serial true e true g h =
        rw e (rw g (ap (λ (ds : List Done). record { at = t; task = (at s).here.task; act = a.act } ∷ ds) h
        ∙ ap (λ (n : ℕ). record { at = t; task = (at n).here.task; act = a.act } ∷ map (λ (a : RoundAct). record { at = t; task = (at a.serial).here.task; act = a.act })
        (acts_on l (acts_by s round))) (sym (eqb-true a.serial s e))))
    by_serial true e false g h = rw e (rw g h)
    by_serial false e c g h = rw e h

among_filter : {A : Type 0} (p : A → Bool) (a : A) (xs : List A) → IsAmong a (filter p xs) → IsAmong a xs
among_filter p a [] i = absurd i
among_filter {A} p a (y ∷ xs) i = by_test (p y) refl (among_filter p a xs)
  where
    by_test : (b : Bool) → p y ≡ b → (IsAmong a (filter p xs) → IsAmong a xs) → IsAmong a (y ∷ xs)
    by_test true e k = first (subst (λ (z : Bool). IsAmong a (if z then y ∷ filter p xs else filter p xs)) e i) k
      where
        first : (a ≡ y) ⊎ IsAmong a (filter p xs) → (IsAmong a (filter p xs) → IsAmong a xs) → IsAmong a (y ∷ xs)
        first (inl g) k = inl g
        first (inr j) k = inr (k j)
    by_test false e k = inr (k (subst (λ (z : Bool). IsAmong a (if z then y ∷ filter p xs else filter p xs)) e i))

filter_among : {A : Type 0} (p : A → Bool) (a : A) (xs : List A) → IsAmong a xs → p a ≡ true → IsAmong a (filter p xs)
filter_among p a [] i e = absurd i
filter_among p a (y ∷ xs) (inl g) e = let own : p y ≡ true = ap p (sym g) ∙ e in rw own (inl g)
filter_among {A} p a (y ∷ xs) (inr i) e = by_test (p y) refl (filter_among p a xs i e)
  where
    by_test : (b : Bool) → p y ≡ b → IsAmong a (filter p xs) → IsAmong a (filter p (y ∷ xs))
    by_test true f k = rw f (inr k)
    by_test false f k = rw f k

module _ (k : Tables) (job : Job) (input : List ℕ) (t m : ℕ) (old new : RunState) (settled : IsSettledBy k job input) (names : GivesNamesOnce job)
    (starting : StartsInNurseries job) (c : Refines k job input t m None old) (same : SameTasks old new) (x : ServesRound t old new)
    (stay : AllStay old (suc t))
  where
    abbrev at : ℕ → Started
    at = c.interleaving.at

    abbrev qs : List Started
    qs = c.interleaving.tasks

    abbrev f : Table
    f = c.interleaving.cancelled_from

    abbrev waits : Ticket → Bool
    waits = waits_in old.task

    all_now : (q : Started) → IsAmong q qs → IsBy k t q
    all_now = all_by k job input settled names starting f t m qs c.interleaving.reached

    by_now : (s : ℕ) → s < m → IsBy k t (at s)
    by_now s below = all_now (at s) (c.interleaving.has s below).0

    done_now : (taken : List Started) → InOrder qs (0 ∷ []) taken → (l : Label) → Each (DoneBy t) (acts_of_all l taken)
    done_now taken order l = all_acts_by k t l taken (λ q i. all_now q (taken_in qs (0 ∷ []) taken order q i))

    dones : (taken : List Started) → InOrder qs (0 ∷ []) taken → (l : Label) → Each (λ (d : Done). d.at ≤ t) (acts_of_all l taken)
    dones taken order l = each_weaker (DoneBy t) (λ d. d.at ≤ t) (acts_of_all l taken) (λ d h. h.0) (done_now taken order l)

    round_of : (s : ℕ) → s < m → (l : Label) → done_from t (acts_of l (at s)) ≡ done_by s l t (at s).here.task old.round
    round_of s below l =
        ap (λ (v : ℕ). done_from v (acts_of l (at s))) (sym x.unserved) ∙ (c.shares.round s below l ∙ ap (λ (v : ℕ). done_by s l v (at s).here.task old.round) c.tick)

    abbrev to : RoundAct → Done
    to = to_done at m t waits

    -- ---- what was done in the moment, in the order of records

    rises : (q : Started) → IsAmong q qs → Rises m (children_made q.child q.made)
    rises q i = (all_born k job input settled names starting f t m qs c.interleaving.reached q i).rises

    goes_on : (q : Started) → IsAmong q qs → (n : ℕ) → IsAmong n (children_made q.child q.made) → old.path n ≡ old.path q.serial ++ n ∷ []
    goes_on q i n j =
        let h = c.interleaving.one q i in
        c.path_of_child q.serial n h.1 (subst (IsAmong n) (sym (c.children q.serial h.1 ∙ ap (λ (z : Started). children_made z.child z.made) (sym h.0))) j)

    acts_same : (l : Label) (xs ys : List RoundAct) → acts_on l (xs ++ ys) ≡ acts_on l xs ++ acts_on l ys
    acts_same l xs ys = filter-append (λ (a : RoundAct). same_label l a.object) xs ys

    done_gathered : (taken : List Started) → ((q : Started) → IsAmong q taken → IsAmong q qs) → (l : Label) →
        done_from t (acts_of_all l taken) ≡ map to (acts_on l (gather (serials taken) x.ordered))
    done_gathered [] among l = refl
    done_gathered (q ∷ taken) among l =
        from_append t (acts_of l q) (acts_of_all l taken)
        ∙ (ap (λ (ds : List Done). ds ++ done_from t (acts_of_all l taken)) one
        ∙ (ap (λ (ds : List Done). map to (acts_on l (acts_by q.serial x.ordered)) ++ ds) (done_gathered taken (λ y i. among y (inr i)) l)
        ∙ (sym (map-append to (acts_on l (acts_by q.serial x.ordered)) (acts_on l (gather (serials taken) x.ordered)))
        ∙ ap (map to) (sym (acts_same l (acts_by q.serial x.ordered) (gather (serials taken) x.ordered))))))
      where
        h : (q ≡ at q.serial) × (q.serial < m)
        h = c.interleaving.one q (among q (inl refl))

        one : done_from t (acts_of l q) ≡ map to (acts_on l (acts_by q.serial x.ordered))
        one =
            ap (λ (z : Started). done_from t (acts_of l z)) h.0
            ∙ (round_of q.serial h.1 l
            ∙ (done_is at t q.serial l old.round
            ∙ ap (λ (r : List RoundAct). map to (acts_on l r)) (sym (x.in_order.same q.serial))))

    -- ---- each act of the round

    known : (a : RoundAct) → IsAmong a x.ordered → IsAmong a old.round
    known a i =
        among_filter (λ (b : RoundAct). b.serial == a.serial) a old.round
        (subst (IsAmong a) (x.in_order.same a.serial) (filter_among (λ (b : RoundAct). b.serial == a.serial) a x.ordered i (eq-eqb a.serial a.serial refl)))

    below : (a : RoundAct) → IsAmong a x.ordered → a.serial < m
    below a i = c.shares.known a (known a i)

    each_in : (P : RoundAct → Type 0) (xs : List RoundAct) → ((a : RoundAct) → IsAmong a xs → P a) → Each P xs
    each_in P [] h = tt
    each_in P (a ∷ xs) h = (h a (inl refl), each_in P xs (λ b i. h b (inr i)))

    among_serials : (q : Started) (taken : List Started) → IsAmong q taken → IsAmong q.serial (serials taken)
    among_serials q [] i = absurd i
    among_serials q (y ∷ taken) (inl e) = inl (ap (λ (z : Started). z.serial) e)
    among_serials q (y ∷ taken) (inr i) = inr (among_serials q taken i)

    -- what was done in this moment is what is served
    round_done : (taken : List Started) → InOrder qs (0 ∷ []) taken → (l : Label) → done_from t (acts_of_all l taken) ≡ map to (acts_on l x.ordered)
    round_done taken order l =
        done_gathered taken (λ q i. taken_in qs (0 ∷ []) taken order q i) l
        ∙ ap (λ (r : List RoundAct). map to (acts_on l r))
        (gathered old.path (serials taken) x.ordered (paths_rise qs old.path m rises goes_on taken order) x.in_order.sorted
        (each_in (λ (a : RoundAct). IsAmong a.serial (serials taken)) x.ordered (λ a i. in_taken a i)))
      where
        in_taken : (a : RoundAct) → IsAmong a x.ordered → IsAmong a.serial (serials taken)
        in_taken a i =
            let h = c.interleaving.has a.serial (below a i) in
            subst (λ (n : ℕ). IsAmong n (serials taken)) h.1
            (among_serials (at a.serial) taken
            (all_are_taken k job input f t m qs settled names starting c.interleaving.reached taken order (at a.serial) h.0))

    -- what a task asks in this moment it has asked last, and it waits
    abbrev AskOk : ℕ → ℕ → Act → Type 0
    AskOk s u (asks ask part left) = u ≡ t → (left ≡ None) × (waits (record { row = s; since = t }) ≡ true)
    AskOk s u _ = Unit {0}

    made_ok : (s : ℕ) (l task : Label) (es : List Event) → AsksBefore t es → Each (λ (d : Done). AskOk s d.at d.act) (acts_made l task es)
    made_ok s l task [] h = tt
    made_ok s l task (acts n u (asks a part left) ∷ es) h =
        if_ok (same_label l n) (record { at = u; task = task; act = asks a part left }) (acts_made l task es)
        (λ e. absurd (let lt : u < t = h.0 in omega (arith, e, lt))) (made_ok s l task es h.1)
      where
        if_ok : (b : Bool) (d : Done) (ds : List Done) → AskOk s d.at d.act → Each (λ (d : Done). AskOk s d.at d.act) ds →
            Each (λ (d : Done). AskOk s d.at d.act) (done_if b d ds)
        if_ok true d ds e g = (e, g)
        if_ok false d ds e g = g
    made_ok s l task (acts n u (opens kind) ∷ es) h = by_label (same_label l n) (made_ok s l task es h)
      where
        by_label : (b : Bool) → Each (λ (d : Done). AskOk s d.at d.act) (acts_made l task es) →
            Each (λ (d : Done). AskOk s d.at d.act) (done_if b (record { at = u; task = task; act = opens kind }) (acts_made l task es))
        by_label true g = (tt, g)
        by_label false g = g
    made_ok s l task (acts n u gives_back ∷ es) h = by_label (same_label l n) (made_ok s l task es h)
      where
        by_label : (b : Bool) → Each (λ (d : Done). AskOk s d.at d.act) (acts_made l task es) →
            Each (λ (d : Done). AskOk s d.at d.act) (done_if b (record { at = u; task = task; act = gives_back }) (acts_made l task es))
        by_label true g = (tt, g)
        by_label false g = g
    made_ok s l task (acts n u closes ∷ es) h = by_label (same_label l n) (made_ok s l task es h)
      where
        by_label : (b : Bool) → Each (λ (d : Done). AskOk s d.at d.act) (acts_made l task es) →
            Each (λ (d : Done). AskOk s d.at d.act) (done_if b (record { at = u; task = task; act = closes }) (acts_made l task es))
        by_label true g = (tt, g)
        by_label false g = g
    made_ok s l task (noted u e ∷ es) h = made_ok s l task es h
    made_ok s l task (signs n u ∷ es) h = made_ok s l task es h
    made_ok s l task (enters n u d ∷ es) h = made_ok s l task es h
    made_ok s l task (starts i n u ∷ es) h = made_ok s l task es h

    -- a task in a queue waits
    queued_waits : (s : ℕ) → s < m → (name : List ℕ) (wanted : Ask) (since : ℕ) (body : Steps) → (at s).rest.stopped ≡ queued name wanted since body →
        (task : Task) × (old.task s ≡ Some task) × ((key : ℕ) × (a : Ask) × (steps : Bor Steps) × (task.task_state ≡ Queued key a since steps))
    queued_waits s lt name wanted since body is = by_task (old.task s) refl
      where
        by_state : (task : Task) (task_state : TaskState) → task.task_state ≡ task_state →
            IsTaskState (c.numbers s) old.world.book task_state (queued name wanted since body) →
            (key : ℕ) × (a : Ask) × (steps : Bor Steps) × (task.task_state ≡ Queued key a since steps)
        by_state task (Queued key a v steps) e h = (key, a, steps, e ∙ ap (λ (n : ℕ). Queued key a n steps) h.1)
        by_state task (ToBegin v) e h = absurd h
        by_state task (Asked kernel purpose) e h = absurd h
        by_state task (Asleep paced ticks v) e h = absurd h
        by_state task (Waiting key v) e h = absurd h
        by_state task (GivingUp v) e h = absurd h
        by_state task (Awaits id v) e h = absurd h
        by_state task Over e h = absurd h

        by_task : (o : Option Task) → old.task s ≡ o →
            (task : Task) × (old.task s ≡ Some task) × ((key : ℕ) × (a : Ask) × (steps : Bor Steps) × (task.task_state ≡ Queued key a since steps))
        by_task None e =
            absurd (let g = (c.ended s lt e).2 in let z : queued name wanted since body ≡ rest.at_end g.end (c.ended s lt e).0.exc = sym is ∙ g.stopped in cc)
        by_task (Some task) e = (
          task,
          e,
          by_state task task.task_state refl
              (subst (λ (z : Stopped). IsTaskState (c.numbers s) old.world.book task.task_state z) is (c.follows s task e).task_state),
        )

    waits_since : (s : ℕ) → s < m → (name : List ℕ) (wanted : Ask) (since : ℕ) (body : Steps) → (at s).rest.stopped ≡ queued name wanted since body → since ≡ t →
        waits (record { row = s; since = t }) ≡ true
    waits_since s lt name wanted since body is e =
        let w = queued_waits s lt name wanted since body is in
        ap (λ (o : Option Task). waits_by o t) w.1
        ∙ (ap (λ (z : TaskState). is_queued z t) w.2.3 ∙ eq-eqb since t e)

    pending_ok : (s : ℕ) → s < m → (l : Label) (stopped : Stopped) → (at s).rest.stopped ≡ stopped →
        Each (λ (d : Done). AskOk s d.at d.act) (acts_pending l (at s).here (at s).rest.frames (at s).places stopped)
    pending_ok s lt l (queued name wanted since body) is = by_label (label_among true name (at s).places)
      where
        if_ok : (b : Bool) (d : Done) → AskOk s d.at d.act → Each (λ (d : Done). AskOk s d.at d.act) (done_if b d [])
        if_ok true d e = (e, tt)
        if_ok false d e = tt

        by_label : (o : Option Label) →
            Each (λ (d : Done). AskOk s d.at d.act) (asked_on l o (at s).here.task (inside (at s).rest.frames (at s).here) wanted since)
        by_label None = tt
        by_label (Some n) =
            if_ok (same_label l n) (record { at = since; task = (at s).here.task; act = asks wanted (inside (at s).rest.frames (at s).here).part None })
            (λ e. (refl, waits_since s lt name wanted since body is e))
    pending_ok s lt l rest.to_begin is = tt
    pending_ok s lt l (rest.asking kernel purpose) is = tt
    pending_ok s lt l (rest.asleep paced n since) is = tt
    pending_ok s lt l (rest.waiting_for event since) is = tt
    pending_ok s lt l (rest.giving_up since) is = tt
    pending_ok s lt l (rest.awaiting children ended exc) is = tt
    pending_ok s lt l (rest.at_end u e) is = tt

    asks_by : (s : ℕ) → s < m → AsksBefore t (at s).made
    asks_by s lt = by_stop (at s).rest.stopped refl (c.shares.once s lt)
      where
        at_tick : AsksBefore old.world.tick (at s).made → AsksBefore t (at s).made
        at_tick h = subst (λ (v : ℕ). AsksBefore v (at s).made) c.tick h

        by_stop : (stopped : Stopped) → (at s).rest.stopped ≡ stopped → AsksBefore (asked_at old.world.tick stopped) (at s).made → AsksBefore t (at s).made
        by_stop (queued name wanted since body) is h =
            once_later since t rest.to_begin (at s).made (subst (StopBy k t (at s).places) is (by_now s lt).stop).0 h
        by_stop rest.to_begin is h = at_tick h
        by_stop (rest.asking kernel purpose) is h = at_tick h
        by_stop (rest.asleep paced n since) is h = at_tick h
        by_stop (rest.waiting_for event since) is h = at_tick h
        by_stop (rest.giving_up since) is h = at_tick h
        by_stop (rest.awaiting children ended exc) is h = at_tick h
        by_stop (rest.at_end u e) is h = at_tick h

    acts_ok : (s : ℕ) → s < m → (l : Label) → Each (λ (d : Done). AskOk s d.at d.act) (acts_of l (at s))
    acts_ok s lt l =
        each_append (λ (d : Done). AskOk s d.at d.act) (acts_made l (at s).here.task (at s).made)
        (acts_pending l (at s).here (at s).rest.frames (at s).places (at s).rest.stopped) (made_ok s l (at s).here.task (at s).made (asks_by s lt))
        (pending_ok s lt l (at s).rest.stopped refl)

    one_ok : (s : ℕ) (l task : Label) (round : List RoundAct) → Each (λ (d : Done). AskOk s d.at d.act) (done_by s l t task round) → (a : RoundAct) →
        IsAmong a round → a.serial ≡ s → a.object ≡ l → AskOk s t a.act
    one_ok s l task [] h a i e g = absurd i
    one_ok s l task (b ∷ round) h a (inl j) e g =
        subst (λ (z : RoundAct). AskOk s t z.act) (sym j)
        (first (b.serial == s && same_label l b.object)
        (ap (λ (z : RoundAct). z.serial == s && same_label l z.object) (sym j)
        ∙ (ap (λ (n : ℕ). n == s && same_label l a.object) e
        ∙ (ap (λ (y : Bool). y && same_label l a.object) (eq-eqb s s refl) ∙ (ap (same_label l) g ∙ same_label_itself l)))) h)
      where
        first : (y : Bool) → y ≡ true → Each (λ (d : Done). AskOk s d.at d.act) (done_if y (record { at = t; task = task; act = b.act }) (done_by s l t task round)) →
            AskOk s t b.act
        first true z k' = k'.0
        first false z k' = absurd (let w : false ≡ true = z in cc)
    one_ok s l task (b ∷ round) h a (inr i) e g = one_ok s l task round (later (b.serial == s && same_label l b.object) h) a i e g
      where
        later : (y : Bool) → Each (λ (d : Done). AskOk s d.at d.act) (done_if y (record { at = t; task = task; act = b.act }) (done_by s l t task round)) →
            Each (λ (d : Done). AskOk s d.at d.act) (done_by s l t task round)
        later true z = z.1
        later false z = z

    fits : (a : RoundAct) → IsAmong a x.ordered → ActFits m waits t a.serial a.act
    fits a i = of_act a.act (one_ok a.serial a.object (at a.serial).here.task old.round ok a (known a i) refl refl)
      where
        ok : Each (λ (d : Done). AskOk a.serial d.at d.act) (done_by a.serial a.object t (at a.serial).here.task old.round)
        ok =
            subst (Each (λ (d : Done). AskOk a.serial d.at d.act)) (round_of a.serial (below a i) a.object)
            (each_weaker (λ (d : Done). AskOk a.serial d.at d.act × (nat_lt t (d.at + 1) ≡ true)) (λ (d : Done). AskOk a.serial d.at d.act)
            (done_from t (acts_of a.object (at a.serial))) (λ d e. e.0)
            (each_filter (λ (d : Done). AskOk a.serial d.at d.act) (λ (d : Done). nat_lt t (d.at + 1)) (acts_of a.object (at a.serial))
            (acts_ok a.serial (below a i) a.object)))

        of_act : (y : Act) → AskOk a.serial t y → ActFits m waits t a.serial y
        of_act (opens kind) h = below a i
        of_act (asks ask part left) h = (below a i, (h refl).0, (h refl).1)
        of_act gives_back h = below a i
        of_act closes h = below a i

    fits_on : (l : Label) → Each (λ (a : RoundAct). ActFits m waits t a.serial a.act) (acts_on l x.ordered)
    fits_on l =
        each_in (λ (a : RoundAct). ActFits m waits t a.serial a.act) (acts_on l x.ordered)
        (λ a i. fits a (among_filter (λ (b : RoundAct). same_label l b.object) a x.ordered i))

    -- ---- the objects

    abbrev before : Label → List Started → Object
    before l taken = object_after unopened (by_moment (done_before t (acts_of_all l taken)))

    abbrev code : Label → Option ObjectOf
    code l = option_map (object_in waits) (old.object l)

    alike : (taken : List Started) → InOrder qs (0 ∷ []) taken → (l : Label) → Alike at m t waits (code l) (before l taken)
    alike taken order l = (
      subst (λ (v : ℕ). SameObject at v (code l) (object_after unopened (by_moment (done_before v (acts_of_all l taken))))) x.unserved
          (c.shares.served taken order l),
      tickets_weaker (λ ticket. waits ticket ≡ true) (Waits at m waits) (code l) (λ ticket h. (row_below ticket h, h)) (tickets_wait waits (old.object l)),
    )
      where
        row_below : (ticket : Ticket) → waits ticket ≡ true → ticket.row < m
        row_below ticket h = by_task (old.task ticket.row) refl h
          where
            by_task : (o : Option Task) → old.task ticket.row ≡ o → waits_by o ticket.since ≡ true → ticket.row < m
            by_task None e g = absurd (let z : false ≡ true = g in cc)
            by_task (Some task) e g = below_of c ticket.row task e

    pub served : (taken : List Started) → InOrder qs (0 ∷ []) taken → (l : Label) →
        ServedSo at m t waits (serve_all waits t (code l) (acts_on l x.ordered)) (object_after (before l taken) (map to (acts_on l x.ordered)))
        (serve_acts (before l taken) (map to (acts_on l x.ordered)))
    served taken order l = served_all at m t waits (code l) (before l taken) (acts_on l x.ordered) (alike taken order l) (fits_on l)

    in_moments : (taken : List Started) → InOrder qs (0 ∷ []) taken → (l : Label) →
        by_moment (acts_of_all l taken) ≡ by_moment (done_before t (acts_of_all l taken)) ++ map to (acts_on l x.ordered)
    in_moments taken order l =
        split_moment t (acts_of_all l taken) (dones taken order l)
        ∙ ap (λ (ds : List Done). by_moment (done_before t (acts_of_all l taken)) ++ ds) (round_done taken order l)

    served_then : (taken : List Started) → InOrder qs (0 ∷ []) taken → (l : Label) →
        SameObject at (suc t) (option_map (object_in (waits_in new.task)) (new.object l))
        (object_after unopened (by_moment (done_before (suc t) (acts_of_all l taken))))
    served_then taken order l =
        subst (λ (ds : List Done). SameObject at (suc t) (option_map (object_in (waits_in new.task)) (new.object l)) (object_after unopened (by_moment ds)))
        (sym (all_before t (suc t) (acts_of_all l taken) (omega arith) (dones taken order l)))
        (same_later at t t (suc t) (option_map (object_in (waits_in new.task)) (new.object l)) (object_after unopened (by_moment (acts_of_all l taken)))
        (omega arith) (omega arith) (no_late_object t (acts_of_all l taken) (done_now taken order l))
        (subst (λ (y : Option ObjectOf). SameObject at t y (object_after unopened (by_moment (acts_of_all l taken)))) (sym (x.object l))
        (subst (λ (y : Object). SameObject at t (serve_all waits t (code l) (acts_on l x.ordered)).object y)
        (sym (ap (object_after unopened) (in_moments taken order l)
        ∙ object_append unopened (by_moment (done_before t (acts_of_all l taken))) (map to (acts_on l x.ordered))))
        (served taken order l).alike.0)))

    -- ---- what is granted

    asked_by_now : (s : ℕ) → s < m → (name : List ℕ) (wanted : Ask) (since : ℕ) (body : Steps) → (at s).rest.stopped ≡ queued name wanted since body → since ≤ t
    asked_by_now s lt name wanted since body is = (subst (StopBy k t (at s).places) is (by_now s lt).stop).0

    pub all_given : (taken : List Started) → InOrder qs (0 ∷ []) taken → (l : Label) →
        serve_acts unopened (by_moment (acts_of_all l taken))
        ≡ serve_acts unopened (by_moment (done_before t (acts_of_all l taken))) ++ serve_acts (before l taken) (map to (acts_on l x.ordered))
    all_given taken order l =
        ap (serve_acts unopened) (in_moments taken order l)
        ∙ serves_append unopened (by_moment (done_before t (acts_of_all l taken))) (map to (acts_on l x.ordered))

    -- a task in a queue was granted nothing before
    none_before_now : (taken : List Started) → InOrder qs (0 ∷ []) taken → (s : ℕ) → s < m → (name : List ℕ) (wanted : Ask) (since : ℕ) (body : Steps) →
        (at s).rest.stopped ≡ queued name wanted since body → (l : Label) → label_among true name (at s).places ≡ Some l →
        find_given (at s).here.task since (serve_acts unopened (by_moment (done_before t (acts_of_all l taken)))) ≡ None
    none_before_now taken order s lt name wanted since body is l e = by_found (find_given (at s).here.task since gs) refl
      where
        gs : List Given
        gs = serve_acts unopened (by_moment (done_before t (acts_of_all l taken)))

        early : Each (λ (d : Done). d.at < t) (by_moment (done_before t (acts_of_all l taken)))
        early = sorted_each (λ (d : Done). d.at < t) (done_before t (acts_of_all l taken)) (befores t (acts_of_all l taken))

        w : (task : Task) × (old.task s ≡ Some task) × ((key : ℕ) × (a : Ask) × (steps : Bor Steps) × (task.task_state ≡ Queued key a since steps))
        w = queued_waits s lt name wanted since body is

        nothing : (old.granted s ≡ None) ⊎ (suc t ≤ old.through) → old.granted s ≡ None
        nothing (inl g) = g
        nothing (inr le) = absurd (let a : suc t ≤ t = subst (λ (v : ℕ). suc t ≤ v) x.unserved le in omega (arith, a))

        stays : old.granted s ≡ None
        stays =
            nothing (stays_queued old.world old.through (old.granted s) (suc t) (scope_of w.0) (c.numbers s) old.world.book w.0.task_state name wanted since body
            (subst (λ (z : Stopped). IsTaskState (c.numbers s) old.world.book w.0.task_state z) is (c.follows s w.0 w.1).task_state) (stay s w.0 w.1)).0

        known_none : since < t → granted_before (suc t) (granted_so_far taken l (at s).here.task since) ≡ None
        known_none before =
            subst (λ (v : ℕ). granted_before (suc v) (granted_so_far taken l (at s).here.task since) ≡ granted_in v (old.granted s)) x.unserved
            ((subst (GrantedAt old taken s (at s)) is (c.shares.granted taken order s lt)).0 (subst (λ (v : ℕ). since < v) (sym x.unserved) before) l e)
            ∙ ap (granted_in t) stays

        by_order : (g : Granted) → find_given (at s).here.task since gs ≡ Some g → (since < t) ⊎ (t ≤ since) → ⊥
        by_order g found (inl before) =
            not_both
            (sym (ap (granted_before (suc t))
            (ap (find_given (at s).here.task since) (all_given taken order l)
            ∙ find_first (at s).here.task since gs (serve_acts (unserved l taken) (map to (acts_on l x.ordered))) g found)) ∙ known_none before)
            (ap (λ (b : Bool). granted_if b g None) in_time)
          where
            unserved : Label → List Started → Object
            unserved l taken = object_after unopened (by_moment (done_before t (acts_of_all l taken)))

            in_time : nat_le (g.at + 1) (suc t) ≡ true
            in_time = let le : g.at ≤ t = found_at t (at s).here.task since gs g (given_by t unopened (by_moment (done_before t (acts_of_all l taken))) early) found in
                grind (arith, nat_tests)
        by_order g found (inr le) =
            let now : since ≡ t = (let a = asked_by_now s lt name wanted since body is in omega (arith, a, le)) in
            let given : 1 ≤ count (of_given (asked_then (at s).here.task since)) gs = given_count (at s).here.task since gs g found in
            let counts = acts_give (asked_then (at s).here.task since) unopened (by_moment (done_before t (acts_of_all l taken))) in
            let none : count (of_asker (asked_then (at s).here.task since)) (askers_in (by_moment (done_before t (acts_of_all l taken)))) ≡ 0 =
            ap (λ (v : ℕ). count (of_asker (asked_then (at s).here.task v)) (askers_in (by_moment (done_before t (acts_of_all l taken))))) now
            ∙ none_before (at s).here.task t (by_moment (done_before t (acts_of_all l taken))) early in
            omega (arith, given, counts, none)

        by_found : (o : Option Granted) → find_given (at s).here.task since gs ≡ o → find_given (at s).here.task since gs ≡ None
        by_found None g = g
        by_found (Some y) g = absurd (by_order y g (cases_lt since t))

    only_one : (s : ℕ) → s < m → (taken : List Started) → InOrder qs (0 ∷ []) taken → (p : ℕ) → p < m → (at s).here.task ≡ (at p).here.task → p ≡ s
    only_one s lt taken order p below e =
        sym (c.interleaving.has p below).1
        ∙ (sym (labels_differ k job input f t m qs settled names starting c.interleaving.reached taken order (at s) (at p) (c.interleaving.has s lt).0
        (c.interleaving.has p below).0 e)
        ∙ (c.interleaving.has s lt).1)

    -- what a task in a queue is granted is what it gets now
    so_far : (taken : List Started) → InOrder qs (0 ∷ []) taken → (s : ℕ) → s < m → (name : List ℕ) (wanted : Ask) (since : ℕ) (body : Steps) →
        (at s).rest.stopped ≡ queued name wanted since body → (l : Label) → label_among true name (at s).places ≡ Some l →
        granted_so_far taken l (at s).here.task since ≡ granted_in (suc t) (find_get s since (serve_all waits t (code l) (acts_on l x.ordered)).gets)
    so_far taken order s lt name wanted since body is l e =
        ap (find_given (at s).here.task since) (all_given taken order l)
        ∙ (find_last (at s).here.task since (serve_acts unopened (by_moment (done_before t (acts_of_all l taken))))
        (serve_acts (before l taken) (map to (acts_on l x.ordered))) (none_before_now taken order s lt name wanted since body is l e)
        ∙ (found_same at m t waits s since lt (only_one s lt taken order) (serve_all waits t (code l) (acts_on l x.ordered)).gets
        (serve_acts (before l taken) (map to (acts_on l x.ordered))) (served taken order l).grants
        ∙ (let next : t + 1 ≡ suc t = omega arith in
        ap (λ (v : ℕ). granted_in v (find_get s since (serve_all waits t (code l) (acts_on l x.ordered)).gets)) next)))

    -- and that is what the state says
    granted_is : (s : ℕ) → s < m → (name : List ℕ) (wanted : Ask) (since : ℕ) (body : Steps) → (at s).rest.stopped ≡ queued name wanted since body →
        (l : Label) → label_among true name (at s).places ≡ Some l →
        new.granted s ≡ find_get s since (serve_all waits t (code l) (acts_on l x.ordered)).gets
    granted_is s lt name wanted since body is l e =
        x.granted s
        ∙ (ap (granted_to old t x.ordered s) w.1
        ∙ (ap (granted_for old t x.ordered s) w.2.3
        ∙ ap (granted_by old t x.ordered s since) (named.1 ∙ e)))
      where
        w : (task : Task) × (old.task s ≡ Some task) × ((key : ℕ) × (a : Ask) × (steps : Bor Steps) × (task.task_state ≡ Queued key a since steps))
        w = queued_waits s lt name wanted since body is

        named : AwaitsEvent (label_at old.world) (outer_of old.world.scopes (scope_of w.0)) (Some (queued name wanted since body)) (Queued w.2.0 w.2.1 since w.2.2)
            (at s).places
        named =
            subst (λ (z : TaskState). AwaitsEvent (label_at old.world) (outer_of old.world.scopes (scope_of w.0)) (Some (queued name wanted since body)) z (at s).places)
            w.2.3
            (subst (λ (z : Stopped). AwaitsEvent (label_at old.world) (outer_of old.world.scopes (scope_of w.0)) (Some z) w.0.task_state (at s).places) is
            (c.follows s w.0 w.1).stands.event)

    -- a task in no queue is granted nothing
    none_granted : (s : ℕ) → s < m → (stopped : Stopped) → (IsQueued stopped → ⊥) → (at s).rest.stopped ≡ stopped → new.granted s ≡ None
    none_granted s lt stopped not_queued is = x.granted s ∙ by_task (old.task s) refl
      where
        by_state : (task_state : TaskState) (stopped : Stopped) → (IsQueued stopped → ⊥) → IsTaskState (c.numbers s) old.world.book task_state stopped →
            granted_for old t x.ordered s task_state ≡ None
        by_state (Queued key a v steps) (queued name wanted since body) never h = absurd (never tt)
        by_state (Queued key a v steps) _ never h = absurd h
        by_state (ToBegin v) y never h = refl
        by_state (Asked kernel purpose) y never h = refl
        by_state (Asleep paced ticks v) y never h = refl
        by_state (Waiting key v) y never h = refl
        by_state (GivingUp v) y never h = refl
        by_state (Awaits id v) y never h = refl
        by_state Over y never h = refl

        by_task : (o : Option Task) → old.task s ≡ o → granted_to old t x.ordered s o ≡ None
        by_task None e = refl
        by_task (Some task) e =
            by_state task.task_state stopped not_queued
            (subst (λ (z : Stopped). IsTaskState (c.numbers s) old.world.book task.task_state z) is (c.follows s task e).task_state)

    abbrev there : RunState
    there = record new { world = moved_world old.world t new.world }

    granted_then : (taken : List Started) → InOrder qs (0 ∷ []) taken → (s : ℕ) → s < m → (stopped : Stopped) → (at s).rest.stopped ≡ stopped →
        GrantedAt there taken s (at s) stopped
    granted_then taken order s lt (queued name wanted since body) is = (
      λ before l e.
          subst (λ (v : ℕ). granted_before (suc v) (granted_so_far taken l (at s).here.task since) ≡ granted_in v (new.granted s)) (sym x.through)
          (known_soon t (suc (suc t)) (at s).here.task since (acts_of_all l taken) (dones taken order l) (omega arith)
          ∙ (so_far taken order s lt name wanted since body is l e ∙ ap (granted_in (suc t)) (sym (granted_is s lt name wanted since body is l e)))),
      λ le. absurd (let a = asked_by_now s lt name wanted since body is in
          let b : suc t ≤ since = subst (λ (v : ℕ). v ≤ since) x.through le in omega (arith, a, b)),
    )
    granted_then taken order s lt rest.to_begin is = none_granted s lt rest.to_begin (λ z. z) is
    granted_then taken order s lt (rest.asking kernel purpose) is = none_granted s lt (rest.asking kernel purpose) (λ z. z) is
    granted_then taken order s lt (rest.asleep paced n since) is = none_granted s lt (rest.asleep paced n since) (λ z. z) is
    granted_then taken order s lt (rest.waiting_for event since) is = none_granted s lt (rest.waiting_for event since) (λ z. z) is
    granted_then taken order s lt (rest.giving_up since) is = none_granted s lt (rest.giving_up since) (λ z. z) is
    granted_then taken order s lt (rest.awaiting children ended exc) is = none_granted s lt (rest.awaiting children ended exc) (λ z. z) is
    granted_then taken order s lt (rest.at_end u e) is = none_granted s lt (rest.at_end u e) (λ z. z) is

    -- ---- all that was granted

    -- a task of the code that waits is in a queue of the run, for the limiter or channel of its label
    record InQueue (s key u : ℕ) : Type 0 where
      name : List ℕ
      wanted : Ask
      body : Steps
      is : (at s).rest.stopped ≡ queued name wanted u body
      object : Label
      among : label_among true name (at s).places ≡ Some object
      labelled : label_at old.world key ≡ Some object

    in_queue : (s : ℕ) (task : Task) → old.task s ≡ Some task → (key : ℕ) (a : Ask) (u : ℕ) (steps : Bor Steps) → task.task_state ≡ Queued key a u steps →
        InQueue s key u
    in_queue s task lives key a u steps e =
        by_stop (at s).rest.stopped refl
        (subst (λ (z : TaskState). IsTaskState (c.numbers s) old.world.book z (at s).rest.stopped) e (c.follows s task lives).task_state)
        (subst (λ (z : TaskState). AwaitsEvent (label_at old.world) (outer_of old.world.scopes (scope_of task)) (Some (at s).rest.stopped) z (at s).places) e
        (c.follows s task lives).stands.event)
        (has_event (at s).rest.stopped _ (at s).places (c.follows s task lives).stands.placed)
      where
        by_stop : (stopped : Stopped) → (at s).rest.stopped ≡ stopped → IsTaskState (c.numbers s) old.world.book (Queued key a u steps) stopped →
            AwaitsEvent (label_at old.world) (outer_of old.world.scopes (scope_of task)) (Some stopped) (Queued key a u steps) (at s).places →
            HasEvent stopped (at s).places → InQueue s key u
        by_stop (queued name wanted since body) is h event some = by_label (label_among true name (at s).places) refl some
          where
            by_label : (o : Option Label) → label_among true name (at s).places ≡ o → IsSomeLabel o → InQueue s key u
            by_label None g i = absurd i
            by_label (Some l) g i =
                record {
                  name = name;
                  wanted = wanted;
                  body = body;
                  is = is ∙ ap (λ (v : ℕ). queued name wanted v body) (sym h.1);
                  object = l;
                  among = g;
                  labelled = event.1 ∙ g;
                }
        by_stop rest.to_begin is h event some = absurd h
        by_stop (rest.asking kernel purpose) is h event some = absurd h
        by_stop (rest.asleep paced n since) is h event some = absurd h
        by_stop (rest.waiting_for event since) is h named some = absurd h
        by_stop (rest.giving_up since) is h event some = absurd h
        by_stop (rest.awaiting children ended exc) is h event some = absurd h
        by_stop (rest.at_end v exc) is h event some = absurd h

    -- what was granted by what was done before this moment
    abbrev before_now : List Started → Label → List Given
    before_now taken l = serve_acts unopened (by_moment (done_before t (acts_of_all l taken)))

    -- and by what was done in it
    abbrev now_given : List Started → Label → List Given
    now_given taken l = serve_acts (before l taken) (map to (acts_on l x.ordered))

    -- to a task that waits nothing was granted before, and what the state says is granted to it now
    record KnownOf (s : ℕ) (taken : List Started) (object asker : Label) (u : ℕ) : Type 0 where
      earlier : find_given asker u (before_now taken object) ≡ None
      so_far_is : granted_so_far taken object asker u ≡ granted_in (suc t) (new.granted s)

    waiting_known : (taken : List Started) → InOrder qs (0 ∷ []) taken → (s : ℕ) (task : Task) → old.task s ≡ Some task → (object asker : Label) (u : ℕ) →
        WaitsFor old.world task object asker u → KnownOf s taken object asker u
    waiting_known taken order s task lives object asker u w =
        subst (λ (l : Label). KnownOf s taken object l u) asker_is (
        record {
          earlier = none_before_now taken order s low q.name q.wanted u q.body q.is object among;
          so_far_is =
              so_far taken order s low q.name q.wanted u q.body q.is object among
              ∙ ap (granted_in (suc t)) (sym (granted_is s low q.name q.wanted u q.body q.is object among));
        }
        )
      where
        low : s < m
        low = below_of c s task lives

        q : InQueue s w.key u
        q = in_queue s task lives w.key w.ask u w.body w.task_state

        among : label_among true q.name (at s).places ≡ Some object
        among = q.among ∙ (sym q.labelled ∙ w.labelled)

        asker_is : (at s).here.task ≡ asker
        asker_is = sym (ap (λ (h : Here). h.task) (c.follows s task lives).here) ∙ w.is

    -- what is granted now is granted to a task that waits for it
    record IsFor (object asker : Label) (u : ℕ) : Type 0 where
      serial : ℕ
      task : Task
      lives : old.task serial ≡ Some task
      waiting : WaitsFor old.world task object asker u

    given_now : (taken : List Started) → InOrder qs (0 ∷ []) taken → (object asker : Label) (u : ℕ) (g : Granted) →
        find_given asker u (now_given taken object) ≡ Some g → granted_so_far taken object asker u ≡ Some g → IsFor object asker u
    given_now taken order object asker u g found all = by_task (old.task who.0) refl who.3
      where
        who : (s : ℕ) × (s < m) × ((at s).here.task ≡ asker) × (waits (record { row = s; since = u }) ≡ true)
        who =
            found_who at m t waits asker u (serve_all waits t (code object) (acts_on object x.ordered)).gets (now_given taken object) g
            (served taken order object).grants found

        s : ℕ
        s = who.0

        one : (y : Started) → IsAmong y taken → y.here.task ≡ (at s).here.task → y ≡ at s
        one y i e =
            let h = c.interleaving.one y (taken_in qs (0 ∷ []) taken order y i) in
            h.0 ∙ ap at (only_one s who.1 taken order y.serial h.1 (sym e ∙ ap (λ (z : Started). z.here.task) h.0))

        asked : (key : ℕ) (q : InQueue s key u) → object ≡ q.object
        asked key q =
            granted_own object q.object (at s) q.name q.wanted u q.body taken g q.is q.among
            (subst (λ (z : Stopped). AsksBefore (asked_at old.world.tick z) (at s).made) q.is (c.shares.once s who.1)) one
            (ap (λ (l : Label). granted_so_far taken object l u) who.2 ∙ all)

        by_state : (task : Task) → old.task s ≡ Some task → (task_state : TaskState) → task.task_state ≡ task_state → is_queued task_state u ≡ true →
            IsFor object asker u
        by_state task lives (Queued key a v steps) e h =
            let state : task.task_state ≡ Queued key a u steps = e ∙ ap (λ (n : ℕ). Queued key a n steps) (eqb-true v u h) in
            let q = in_queue s task lives key a u steps state in
            record {
              serial = s;
              task = task;
              lives = lives;
              waiting =
                  record {
                    key = key;
                    ask = a;
                    body = steps;
                    task_state = state;
                    labelled = q.labelled ∙ ap (λ (l : Label). Some l) (sym (asked key q));
                    is = ap (λ (h : Here). h.task) (c.follows s task lives).here ∙ who.2;
                  };
            }
        by_state task lives (ToBegin v) e h = absurd (let f : false ≡ true = h in cc)
        by_state task lives (Asked kernel purpose) e h = absurd (let f : false ≡ true = h in cc)
        by_state task lives (Asleep paced ticks v) e h = absurd (let f : false ≡ true = h in cc)
        by_state task lives (Waiting key v) e h = absurd (let f : false ≡ true = h in cc)
        by_state task lives (GivingUp v) e h = absurd (let f : false ≡ true = h in cc)
        by_state task lives (Awaits id v) e h = absurd (let f : false ≡ true = h in cc)
        by_state task lives Over e h = absurd (let f : false ≡ true = h in cc)

        by_task : (o : Option Task) → old.task s ≡ o → waits_by o u ≡ true → IsFor object asker u
        by_task None e h = absurd (let f : false ≡ true = h in cc)
        by_task (Some task) e h = by_state task e task.task_state refl h

    -- so all that was granted is kept
    grants_then : (taken : List Started) → InOrder qs (0 ∷ []) taken → (object asker : Label) (u : ℕ) →
        new.grants object asker u ≡ granted_so_far taken object asker u
    grants_then taken order object asker u =
        by_found (find_given asker u (before_now taken object)) refl (find_given asker u (now_given taken object)) refl
      where
        all : granted_so_far taken object asker u ≡ find_given asker u (before_now taken object ++ now_given taken object)
        all = ap (find_given asker u) (all_given taken order object)

        -- where nothing is granted now it stays
        stays : granted_before (suc t) (granted_so_far taken object asker u) ≡ granted_so_far taken object asker u →
            ((s : ℕ) (task : Task) → old.task s ≡ Some task → WaitsFor old.world task object asker u → new.granted s ≡ None) →
            new.grants object asker u ≡ granted_so_far taken object asker u
        stays e none =
            x.kept object asker u none
            ∙ (subst (λ (v : ℕ). old.grants object asker u ≡ granted_before (suc v) (granted_so_far taken object asker u)) x.unserved
            (c.shares.grants taken order object asker u)
            ∙ e)

        nothing : (what : Option What) → granted_in (suc t) what ≡ None → what ≡ None
        nothing None e = refl
        nothing (Some w) e = absurd (not_both e refl)

        of_task : (g : Granted) → granted_so_far taken object asker u ≡ Some g → (y : IsFor object asker u) (what : Option What) → new.granted y.serial ≡ what →
            new.grants object asker u ≡ granted_in (suc t) what
        of_task g e y None h =
            absurd (not_both (ap (granted_in (suc t)) h)
            (sym (waiting_known taken order y.serial y.task y.lives object asker u y.waiting).so_far_is ∙ e))
        of_task g e y (Some w) h = x.recorded y.serial y.task object asker u w y.lives y.waiting h

        by_found : (o : Option Granted) → find_given asker u (before_now taken object) ≡ o → (p : Option Granted) →
            find_given asker u (now_given taken object) ≡ p → new.grants object asker u ≡ granted_so_far taken object asker u
        by_found (Some g) i p j =
            stays (ap (granted_before (suc t)) known ∙ (ap (λ (b : Bool). granted_if b g None) in_time ∙ sym known))
            (λ s task lives w. absurd (not_both (waiting_known taken order s task lives object asker u w).earlier i))
          where
            known : granted_so_far taken object asker u ≡ Some g
            known = all ∙ find_first asker u (before_now taken object) (now_given taken object) g i

            early : Each (λ (d : Done). d.at < t) (by_moment (done_before t (acts_of_all object taken)))
            early = sorted_each (λ (d : Done). d.at < t) (done_before t (acts_of_all object taken)) (befores t (acts_of_all object taken))

            in_time : nat_le (g.at + 1) (suc t) ≡ true
            in_time =
                let le : g.at ≤ t =
                found_at t asker u (before_now taken object) g (given_by t unopened (by_moment (done_before t (acts_of_all object taken))) early) i in
                grind (arith, nat_tests)
        by_found None i None j =
            stays (ap (granted_before (suc t)) known ∙ sym known)
            (λ s task lives w. nothing (new.granted s) (sym (waiting_known taken order s task lives object asker u w).so_far_is ∙ known))
          where
            known : granted_so_far taken object asker u ≡ None
            known = all ∙ (find_last asker u (before_now taken object) (now_given taken object) i ∙ j)
        by_found None i (Some g) j =
            of_task g known one (new.granted one.serial) refl
            ∙ sym (waiting_known taken order one.serial one.task one.lives object asker u one.waiting).so_far_is
          where
            known : granted_so_far taken object asker u ≡ Some g
            known = all ∙ (find_last asker u (before_now taken object) (now_given taken object) i ∙ j)

            one : IsFor object asker u
            one = given_now taken order object asker u g j known

    -- ---- all of it

    shares_served : Shares there qs at m
    shares_served =
        record {
          round = λ s lt l.
              subst (λ (v : ℕ). done_from v (acts_of l (at s)) ≡ done_by s l t (at s).here.task new.round) (sym x.through)
              (none_from t (suc t) (acts_of l (at s)) (omega arith)
              (each_weaker (DoneBy t) (λ d. d.at ≤ t) (acts_of l (at s)) (λ d h. h.0) (acts_by_now k t l (at s) (by_now s lt)))
              ∙ sym (ap (done_by s l t (at s).here.task) x.round));
          served = λ taken order l.
              subst (λ (v : ℕ). SameObject at v (option_map (object_in (waits_in new.task)) (new.object l))
              (object_after unopened (by_moment (done_before v (acts_of_all l taken))))) (sym x.through) (served_then taken order l);
          granted = λ taken order s lt. granted_then taken order s lt (at s).rest.stopped refl;
          ungranted = λ s le. x.granted s ∙ ap (granted_to old t x.ordered s) (c.unborn s le).0;
          grants = λ taken order object asker u.
              subst (λ (v : ℕ). new.grants object asker u ≡ granted_before (suc v) (granted_so_far taken object asker u)) (sym x.through)
              (grants_then taken order object asker u
              ∙ sym (known_soon t (suc (suc t)) asker u (acts_of_all object taken) (dones taken order object) (omega arith)));
          known = λ a i. absurd (let j : IsAmong a [] = subst (λ (r : List RoundAct). IsAmong a r) x.round i in j);
          asked = λ l. subst (λ (v : ℕ). AreAskedBefore v (new.object l)) (sym x.through) (x.asked l);
          once = λ s lt. subst (λ (v : ℕ). AsksBefore (asked_at v (at s).rest.stopped) (at s).made) c.tick (c.shares.once s lt);
        }

    -- so it is the same run, in which that is served
    pub serves : new.world ≡ old.world → Refines k job input t m None new
    serves world = state_serves k job input t m old new same world c x.through shares_served
