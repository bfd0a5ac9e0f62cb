-- What a round grants goes to tasks that wait for what they asked of that limiter or channel, and to each of them once.
use Rattle.std.proofs.Common.{◌≡◌, ◌⊎◌, inl, inr, ℕ, suc, ◌+◌, ◌<◌, ◌≤◌, Bool, true, false, ◌&&◌, ◌==◌, Option, Some, None, List, [], ◌∷◌, map, refl, ap, sym, ◌∙◌, subst, arith, Bor, if◌then◌else◌}
use Rattle.std.proofs.lemmas.Bool.{eqb-true, eq-eqb}
use Rattle.exceptions.specs.Exceptions.{Label}
use Rattle.job_tree.specs.Tree.{Tree as Job, Steps}
use Rattle.job_tree.specs.Names.{GivesNamesOnce}
use Rattle.job_tree.specs.Starting.{StartsInNurseries}
use Rattle.job_tree.specs.declared.object.Ask.{Ask}
use Rattle.cancel_scopes.specs.Tree.{outer_of}
use Rattle.objects.specs.Held.{Gets, object_in}
use Rattle.objects.specs.declared.ticket.Ticket.{Ticket}
use Rattle.std.specs.Option.{option_map}
use Rattle.job_meaning.specs.Log.{same_label}
use Rattle.job_meaning.specs.Sharing.{Given, Object, unopened, by_moment, serve_acts}
use Rattle.job_meaning.specs.Rest as rest
use Rattle.job_meaning.specs.Rest.{Frame, Stopped, queued}
use Rattle.job_meaning.proofs.Distinct.{same_label_equal, same_label_itself}
use Rattle.turn_semantics.specs.Lists.{IsAmong}
use Rattle.turn_semantics.specs.Placed.{IsSome, PlacedStop}
use Rattle.turn_semantics.specs.Midway.{label_among, Tables}
use Rattle.interleavings.specs.Interleaving.{Started}
use Rattle.interleavings.specs.Acts.{acts_of_all, InOrder}
use Rattle.interleavings.specs.Laws.{IsSettledBy}
use Rattle.interleavings.proofs.Ordering.{orders_exist}
use Rattle.task_machine.specs.declared.stop.TaskState.{TaskState}
use Rattle.task_machine.specs.declared.stop.TaskState.TheVariants.{ToBegin, Asked, Asleep, Waiting, Queued, GivingUp, Awaits, Over}
use Rattle.task_machine.specs.declared.task.Task.{Task}
use Rattle.task_machine.specs.Stacked.{AwaitsEvent}
use Rattle.task_machine.specs.Stops.{IsTaskState}
use Rattle.task_machine.specs.Tasks.{scope_of}
use Rattle.task_machine.specs.Worlds.{label_at}
use Rattle.run_refinement.specs.RunState.{RunState, Follows, Refines}
use Rattle.run_refinement.specs.Ready.{AllStay}
use Rattle.run_refinement.specs.Moved.{SameTasks, ServesRound}
use Rattle.run_refinement.specs.Sharing.{done_before, object_after, waits_in, waits_by, is_queued, asked_at, AsksBefore, acts_on, serve_all}
use Rattle.run_refinement.proofs.Counts.{one_if, count, count_append, askers_in, in_object, of_asker, of_given, acts_give}
use Rattle.run_refinement.proofs.Gone.{asked_then, all_count, sorted_count}
use Rattle.run_refinement.proofs.LabelsApart.{below_of}
use Rattle.run_refinement.proofs.Orders.{labels_differ, one_has_label, taken_in}
use Rattle.run_refinement.proofs.ServeRound.{SameGrants, to_done}
use Rattle.run_refinement.proofs.SharesServed.{all_given, served}

-- a test of who gets something: the task of this row, which asked in that moment
abbrev pub gets_since : ℕ → ℕ → Gets → Bool
gets_since s u g = (g.who.row == s) && (g.who.since == u)

-- both tests hold
both_true : (b c : Bool) → b && c ≡ true → (b ≡ true) × (c ≡ true)
both_true true true e = (refl, refl)
both_true true false e = absurd (let f : false ≡ true = e in cc)
both_true false c e = absurd (let f : false ≡ true = e in cc)

-- who gets something is counted among those who are given something in the definitions
gets_count : (at : ℕ → Started) (m t : ℕ) (waits : Ticket → Bool) (s u : ℕ) (gs : List Gets) (vs : List Given) → SameGrants at m t waits gs vs →
    count (gets_since s u) gs ≤ count (of_given (asked_then (at s).here.task u)) vs
gets_count at m t waits s u [] vs h = omega arith
gets_count at m t waits s u (g ∷ gs) [] h = absurd h
gets_count at m t waits s u (g ∷ gs) (v ∷ vs) h = by_test (gets_since s u g) refl (gets_count at m t waits s u gs vs h.1)
  where
    given : gets_since s u g ≡ true → asked_then (at s).here.task u v.task v.asked ≡ true
    given e =
        let b = both_true (g.who.row == s) (g.who.since == u) e in
        let row : g.who.row ≡ s = eqb-true g.who.row s b.0 in
        let since : u ≡ v.asked = sym (eqb-true g.who.since u b.1) ∙ h.0.1 in
        ap (λ (l : Label). same_label (at s).here.task l && (u == v.asked)) (sym h.0.0 ∙ ap (λ (n : ℕ). (at n).here.task) row)
        ∙ (ap (λ (c : Bool). c && (u == v.asked)) (same_label_itself (at s).here.task) ∙ eq-eqb u v.asked since)

    by_test : (b : Bool) → gets_since s u g ≡ b → count (gets_since s u) gs ≤ count (of_given (asked_then (at s).here.task u)) vs →
        one_if (gets_since s u g) + count (gets_since s u) gs
        ≤ one_if (asked_then (at s).here.task u v.task v.asked) + count (of_given (asked_then (at s).here.task u)) vs
    by_test true e k =
        let a : one_if (gets_since s u g) ≡ 1 = ap one_if e in
        let b : one_if (asked_then (at s).here.task u v.task v.asked) ≡ 1 = ap one_if (given e) in
        omega (arith, k, a, b)
    by_test false e k = let a : one_if (gets_since s u g) ≡ 0 = ap one_if e in omega (arith, k, a)

-- each of them waits
gets_wait : (at : ℕ → Started) (m t : ℕ) (waits : Ticket → Bool) (gs : List Gets) (vs : List Given) → SameGrants at m t waits gs vs → (g : Gets) →
    IsAmong g gs → waits g.who ≡ true
gets_wait at m t waits [] vs h g i = absurd i
gets_wait at m t waits (x ∷ gs) [] h g i = absurd h
gets_wait at m t waits (x ∷ gs) (v ∷ vs) h g (inl e) = ap (λ (y : Gets). waits y.who) e ∙ h.0.4
gets_wait at m t waits (x ∷ gs) (v ∷ vs) h g (inr i) = gets_wait at m t waits gs vs h.1 g i

-- one that is there is counted
one_counted : (s u : ℕ) (gs : List Gets) (g : Gets) → IsAmong g gs → gets_since s u g ≡ true → 1 ≤ count (gets_since s u) gs
one_counted s u [] g i e = absurd i
one_counted s u (x ∷ gs) g (inl h) e =
    let a : one_if (gets_since s u x) ≡ 1 = ap one_if (ap (gets_since s u) (sym h) ∙ e) in omega (arith, a)
one_counted s u (x ∷ gs) g (inr i) e = let k = one_counted s u gs g i e in omega (arith, k)

-- none is there, or one is
some_there : (s u : ℕ) (gs : List Gets) → (count (gets_since s u) gs ≡ 0) ⊎ ((g : Gets) × IsAmong g gs × (gets_since s u g ≡ true))
some_there s u [] = inl refl
some_there s u (g ∷ gs) = by_test (gets_since s u g) refl (some_there s u gs)
  where
    by_test : (b : Bool) → gets_since s u g ≡ b → (count (gets_since s u) gs ≡ 0) ⊎ ((x : Gets) × IsAmong x gs × (gets_since s u x ≡ true)) →
        (one_if (gets_since s u g) + count (gets_since s u) gs ≡ 0) ⊎ ((x : Gets) × IsAmong x (g ∷ gs) × (gets_since s u x ≡ true))
    by_test true e h = inr (g, inl refl, e)
    by_test false e (inl none) = inl (let a : one_if (gets_since s u g) ≡ 0 = ap one_if e in omega (arith, a, none))
    by_test false e (inr some) = inr (some.0, inr some.1, some.2)

same_by : (l n : Label) → 1 ≤ one_if (same_label l n) → l ≡ n
same_by l n h = by_test (same_label l n) refl
  where
    by_test : (b : Bool) → same_label l n ≡ b → l ≡ n
    by_test true e = same_label_equal l n e
    by_test false e = absurd (let a : one_if (same_label l n) ≡ 0 = ap one_if e in omega (arith, a, h))

module _ (k : Tables) (job : Job) (input : List ℕ) (t m : ℕ) (old new : RunState) (settled : IsSettledBy k job input) (names : GivesNamesOnce job)
    (starting : StartsInNurseries job) (c : Refines k job input t m None old) (same : SameTasks old new) (x : ServesRound t old new)
    (stay : AllStay old (suc t))
  where
    abbrev at : ℕ → Started
    at = c.interleaving.at

    abbrev waits : Ticket → Bool
    waits = waits_in old.task

    order : (taken : List Started) × InOrder c.interleaving.tasks (0 ∷ []) taken
    order = orders_exist k job input names starting settled c.interleaving.cancelled_from t m c.interleaving.tasks c.interleaving.reached

    -- what that of a label grants
    abbrev gets : Label → List Gets
    gets l = (serve_all waits t (option_map (object_in waits) (old.object l)) (acts_on l x.ordered)).gets

    abbrev before : Label → Object
    before l = object_after unopened (by_moment (done_before t (acts_of_all l order.0)))

    abbrev given : Label → List Given
    given l = serve_acts (before l) (map (to_done at m t waits) (acts_on l x.ordered))

    grants : (l : Label) → SameGrants at m t waits (gets l) (given l)
    grants l = (served k job input t m old new settled names starting c same x stay order.0 order.1 l).grants

    -- ---- a task that waits

    module _ (s : ℕ) (task : Task) (lives : old.task s ≡ Some task) (key : ℕ) (ask : Ask) (since : ℕ) (steps : Bor Steps)
        (state : task.task_state ≡ Queued key ask since steps)
      where
        below : s < m
        below = below_of c s task lives

        -- what it asked, in the definitions
        record IsAsking : Type 0 where
          name : List ℕ
          wanted : Ask
          body : Steps
          stopped : (at s).rest.stopped ≡ queued name wanted since body
          label : Label
          named : label_among true name (at s).places ≡ Some label
          held : label_at old.world key ≡ Some label

        asking : IsAsking
        asking = by_stop (at s).rest.stopped refl (subst (λ (z : TaskState). IsTaskState (c.numbers s) old.world.book z (at s).rest.stopped) state f.task_state)
          where
            f : Follows old c.interleaving.cancelled_from input t at c.numbers None s task
            f = c.follows s task lives

            by_name : (name : List ℕ) (wanted : Ask) (body : Steps) → (at s).rest.stopped ≡ queued name wanted since body → (o : Option Label) →
                label_among true name (at s).places ≡ o → IsSome o → IsAsking
            by_name name wanted body is None e h = absurd h
            by_name name wanted body is (Some l) e h =
                let event =
                subst (λ (z : TaskState). AwaitsEvent (label_at old.world) (outer_of old.world.scopes (scope_of task)) (Some (queued name wanted since body)) z
                (at s).places) state
                (subst (λ (z : Stopped). AwaitsEvent (label_at old.world) (outer_of old.world.scopes (scope_of task)) (Some z) task.task_state (at s).places) is
                f.stands.event) in
                record { name = name; wanted = wanted; body = body; stopped = is; label = l; named = e; held = event.1 ∙ e }

            by_stop : (stopped : Stopped) → (at s).rest.stopped ≡ stopped → IsTaskState (c.numbers s) old.world.book (Queued key ask since steps) stopped →
                IsAsking
            by_stop (queued name wanted u body) is h =
                let then_ : (at s).rest.stopped ≡ queued name wanted since body = is ∙ ap (λ (n : ℕ). queued name wanted n body) (sym h.1) in
                by_name name wanted body then_ (label_among true name (at s).places) refl
                (subst (λ (z : Stopped). PlacedStop z (at s).rest.frames (at s).places) then_
                (subst (λ (gs : List Frame). PlacedStop (at s).rest.stopped gs (at s).places) f.frames f.stands.placed)).0
            by_stop rest.to_begin is h = absurd h
            by_stop (rest.asking kernel purpose) is h = absurd h
            by_stop (rest.asleep paced n v) is h = absurd h
            by_stop (rest.waiting_for event v) is h = absurd h
            by_stop (rest.giving_up v) is h = absurd h
            by_stop (rest.awaiting children ended exc) is h = absurd h
            by_stop (rest.at_end v e) is h = absurd h

        abbrev p : Label → ℕ → Bool
        p = asked_then (at s).here.task since

        same_task : (y : Started) → IsAmong y order.0 → y.here.task ≡ (at s).here.task → y ≡ at s
        same_task y i e =
            let there = taken_in c.interleaving.tasks (0 ∷ []) order.0 order.1 y i in
            let serial : y.serial ≡ (at s).serial =
            labels_differ k job input c.interleaving.cancelled_from t m c.interleaving.tasks settled names starting c.interleaving.reached order.0 order.1
            y (at s) there (c.interleaving.has s below).0 e in
            (c.interleaving.one y there).0 ∙ ap at (serial ∙ (c.interleaving.has s below).1)

        asked_once : AsksBefore since (at s).made
        asked_once = subst (λ (z : Stopped). AsksBefore (asked_at old.world.tick z) (at s).made) asking.stopped (c.shares.once s below)

        -- by that of the label that it asked it is given something once, and by others never
        given_count : (l : Label) → count (of_given p) (given l) ≤ one_if (same_label l asking.label)
        given_count l =
            let a = acts_give p unopened (by_moment (acts_of_all l order.0)) in
            let b : count (of_asker p) (askers_in (by_moment (acts_of_all l order.0))) ≡ count (of_asker p) (askers_in (acts_of_all l order.0)) =
            sorted_count (of_asker p) (acts_of_all l order.0) in
            let d = all_count l asking.label (at s) asking.name asking.wanted since asking.body asking.stopped asking.named asked_once order.0 same_task in
            let e : count (of_given p) (serve_acts unopened (by_moment (acts_of_all l order.0)))
            ≡ count (of_given p) (serve_acts unopened (by_moment (done_before t (acts_of_all l order.0)))) + count (of_given p) (given l) =
            ap (count (of_given p)) (all_given k job input t m old new settled names starting c same x stay order.0 order.1 l)
            ∙ count_append (of_given p) (serve_acts unopened (by_moment (done_before t (acts_of_all l order.0)))) (given l) in
            let once = one_has_label k job input c.interleaving.cancelled_from t m c.interleaving.tasks settled names starting c.interleaving.reached order.0
            order.1 (at s).here.task in
            by_label (same_label l asking.label) a b d e once
          where
            by_label : (same : Bool) →
                in_object (of_asker p) (object_after unopened (by_moment (acts_of_all l order.0)))
                + count (of_given p) (serve_acts unopened (by_moment (acts_of_all l order.0)))
                ≤ 0 + count (of_asker p) (askers_in (by_moment (acts_of_all l order.0))) →
                count (of_asker p) (askers_in (by_moment (acts_of_all l order.0))) ≡ count (of_asker p) (askers_in (acts_of_all l order.0)) →
                count (of_asker p) (askers_in (acts_of_all l order.0))
                ≤ (if same then count (λ (y : Started). same_label (at s).here.task y.here.task) order.0 else 0) →
                count (of_given p) (serve_acts unopened (by_moment (acts_of_all l order.0)))
                ≡ count (of_given p) (serve_acts unopened (by_moment (done_before t (acts_of_all l order.0)))) + count (of_given p) (given l) →
                count (λ (y : Started). same_label (at s).here.task y.here.task) order.0 ≤ 1 → count (of_given p) (given l) ≤ one_if same
            by_label true a b d e once = omega (arith, a, b, d, e, once)
            by_label false a b d e once = omega (arith, a, b, d, e)

        own_count : (l : Label) → count (gets_since s since) (gets l) ≤ one_if (same_label l asking.label)
        own_count l =
            let a = gets_count at m t waits s since (gets l) (given l) (grants l) in let b = given_count l in omega (arith, a, b)

    -- ---- who gets something

    -- it waits for what it asked of that limiter or channel
    pub record IsGetter (l : Label) (g : Gets) : Type 0 where
      pub task : Task
      pub lives : old.task g.who.row ≡ Some task
      pub object : ℕ
      pub ask : Ask
      pub body : Bor Steps
      pub state : task.task_state ≡ Queued object ask g.who.since body
      pub label : label_at old.world object ≡ Some l

    pub getter : (l : Label) (g : Gets) → IsAmong g (gets l) → IsGetter l g
    getter l g i = by_task (old.task g.who.row) refl (gets_wait at m t waits (gets l) (given l) (grants l) g i)
      where
        its : gets_since g.who.row g.who.since g ≡ true
        its = ap (λ (b : Bool). b && (g.who.since == g.who.since)) (eq-eqb g.who.row g.who.row refl) ∙ eq-eqb g.who.since g.who.since refl

        by_state : (task : Task) → old.task g.who.row ≡ Some task → (z : TaskState) → task.task_state ≡ z → is_queued z g.who.since ≡ true → IsGetter l g
        by_state task e (Queued key ask u steps) is h =
            let since : u ≡ g.who.since = eqb-true u g.who.since h in
            let state : task.task_state ≡ Queued key ask g.who.since steps = is ∙ ap (λ (n : ℕ). Queued key ask n steps) since in
            let asked = asking g.who.row task e key ask g.who.since steps state in
            let most = own_count g.who.row task e key ask g.who.since steps state l in
            let some = one_counted g.who.row g.who.since (gets l) g i its in
            record {
              task = task;
              lives = e;
              object = key;
              ask = ask;
              body = steps;
              state = state;
              label = asked.held ∙ ap (λ (n : Label). Some n) (sym (same_by l asked.label (omega (arith, most, some))));
            }
        by_state task e (ToBegin v) is h = absurd (let f : false ≡ true = h in cc)
        by_state task e (Asked kernel purpose) is h = absurd (let f : false ≡ true = h in cc)
        by_state task e (Asleep paced ticks v) is h = absurd (let f : false ≡ true = h in cc)
        by_state task e (Waiting key v) is h = absurd (let f : false ≡ true = h in cc)
        by_state task e (GivingUp v) is h = absurd (let f : false ≡ true = h in cc)
        by_state task e (Awaits id v) is h = absurd (let f : false ≡ true = h in cc)
        by_state task e Over is h = absurd (let f : false ≡ true = h in cc)

        by_task : (o : Option Task) → old.task g.who.row ≡ o → waits_by o g.who.since ≡ true → IsGetter l g
        by_task None e h = absurd (let f : false ≡ true = h in cc)
        by_task (Some task) e h = by_state task e task.task_state refl h

    -- and gets it once
    pub gets_once : (l : Label) (s u : ℕ) → count (gets_since s u) (gets l) ≤ 1
    gets_once l s u = by_some (some_there s u (gets l))
      where
        at_most : (b : Bool) → one_if b ≤ 1
        at_most true = omega arith
        at_most false = omega arith

        by_some : (count (gets_since s u) (gets l) ≡ 0) ⊎ ((g : Gets) × IsAmong g (gets l) × (gets_since s u g ≡ true)) → count (gets_since s u) (gets l) ≤ 1
        by_some (inl none) = omega (arith, none)
        by_some (inr some) =
            let h = getter l some.0 some.1 in
            let b = both_true (some.0.who.row == s) (some.0.who.since == u) some.2 in
            let row : some.0.who.row ≡ s = eqb-true some.0.who.row s b.0 in
            let since : some.0.who.since ≡ u = eqb-true some.0.who.since u b.1 in
            let asked = asking some.0.who.row h.task h.lives h.object h.ask some.0.who.since h.body h.state in
            let most : count (gets_since some.0.who.row some.0.who.since) (gets l) ≤ one_if (same_label l asked.label) =
            own_count some.0.who.row h.task h.lives h.object h.ask some.0.who.since h.body h.state l in
            let same : count (gets_since s u) (gets l) ≡ count (gets_since some.0.who.row some.0.who.since) (gets l) =
            ap (λ (n : ℕ). count (gets_since n u) (gets l)) (sym row) ∙ ap (λ (n : ℕ). count (gets_since some.0.who.row n) (gets l)) (sym since) in
            let one = at_most (same_label l asked.label) in
            omega (arith, most, same, one)
