-- The tasks that waited for events which were set are woken one after another, for one event after another.
use Rattle.std.proofs.Common.{◌≡◌, ◌≢◌, inl, inr, ℕ, suc, ◌<◌, ◌≤◌, ◌^◌, Option, Some, None, List, [], ◌∷◌, ◌++◌, length, refl, ap, sym, ◌∙◌, subst, arith}
use Rattle.std.specs.Prelude.{IsSome, is_some, ◌⊎◌}
use Rattle.std.proofs.lemmas.Bool.{cases_eq}
use Rattle.std.proofs.lemmas.List.{append-nil, append_assoc}
use Rattle.std.proofs.lemmas.Option.{none-some, same_Some}
use Rattle.clock.specs.Clock.{now_of, due_of, SameTime, Updates}
use Rattle.clock.specs.Clock as timers
use Rattle.run_refinement.specs.Sights.{IsOneOf}
use Rattle.clock.specs.Waiting.{event_in, NoneWaits, TakesWaiter}
use Rattle.task_machine.specs.declared.world.World.{World}
use Rattle.job_runner.specs.declared.runner.Runner.{Runner}
use Rattle.job_runner.specs.Steps.{WakesWaiters, TakesSet}
use Rattle.job_runner.proofs.Counting.{count_below, fewer_below, found_within}

-- ---- one task

-- it waits for what it did, and has the same timer
abbrev pub IsKept : Runner → Runner → ℕ → Type 0
IsKept was now id = (event_in now.waiters id ≡ event_in was.waiters id) × (due_of now.clock id ≡ due_of was.clock id)

-- it waited for one of these events, and continues in this moment
abbrev pub IsWoken : List ℕ → ℕ → Runner → Runner → ℕ → Type 0
IsWoken set moment was now id =
    (event : ℕ) × (event_in was.waiters id ≡ Some event) × IsOneOf event set × (event_in now.waiters id ≡ None)
    × (due_of now.clock id ≡ Some moment)

-- each task that waits for an event has a timer
abbrev pub AreTimed : Runner → Type 0
AreTimed r = (id event : ℕ) → event_in r.waiters id ≡ Some event → IsSome (due_of r.clock id)

-- one that waits still has the timer that it had
timed_still : (set : List ℕ) (moment : ℕ) (was now : Runner) (id event : ℕ) → IsKept was now id ⊎ IsWoken set moment was now id →
    AreTimed was → event_in now.waiters id ≡ Some event → (event_in was.waiters id ≡ Some event) × IsSome (due_of now.clock id)
timed_still set moment was now id event (inl kept) timed e =
    let is : event_in was.waiters id ≡ Some event = sym kept.0 ∙ e in (is, ap is_some kept.1 ∙ timed id event is)
timed_still set moment was now id event (inr (other, is, among, none, due)) timed e = absurd (none-some event (sym none ∙ e))

-- ---- for one event

-- what holds while the tasks are woken that wait for an event
pub record IsWakingFor (event moment : ℕ) (was now : Runner) : Type 0 where
  pub each : (id : ℕ) → IsKept was now id ⊎ IsWoken (event ∷ []) moment was now id
  pub time : SameTime was.clock now.clock
  pub rest : now ≡ record was { clock = now.clock; waiters = now.waiters }

-- at first none was woken
pub waking_none : (event moment : ℕ) (r : Runner) → IsWakingFor event moment r r
waking_none event moment r =
    record { each = λ id. inl (refl, refl); time = record { now = refl; limit = refl }; rest = refl }

-- how many tasks wait for an event
abbrev pub waiting_count : ℕ → List (Option ℕ) → ℕ
waiting_count n waiters = count_below n (λ id. is_some (event_in waiters id))

module _ {event moment id : ℕ} {was now : Runner} {waiters : List (Option ℕ)} (s : IsWakingFor event moment was now) (timed : AreTimed was)
    (takes : TakesWaiter now.waiters waiters event id)
  where
    waited : (event_in was.waiters id ≡ Some event) × IsSome (due_of now.clock id)
    waited = timed_still (event ∷ []) moment was now id event (s.each id) timed takes.waited

    -- the one that is taken has a timer
    pub taken_timed : IsSome (due_of now.clock id)
    taken_timed = waited.1

    -- and fewer wait then
    pub waiting_fewer : waiting_count (length was.waiters) waiters < waiting_count (length was.waiters) now.waiters
    waiting_fewer =
        fewer_below (length was.waiters) (λ key. is_some (event_in now.waiters key)) (λ key. is_some (event_in waiters key)) id
        (found_within was.waiters id None (Some event) waited.0 (λ e. none-some event (sym e))) (ap is_some takes.waited)
        (ap is_some takes.taken.changed) (λ other differs. ap is_some (takes.taken.others other differs))

    -- once it continues in that moment, what holds while tasks are woken is true again
    pub waking_more : {mid clock : timers.Clock} → Updates now.clock mid id None → SameTime now.clock mid →
        Updates mid clock id (Some moment) → SameTime mid clock → IsWakingFor event moment was (record now { clock = clock; waiters = waiters })
    waking_more {mid} {clock} wakes same sleeps again =
        record {
          each = λ other. by_key other (cases_eq other id);
          time = record { now = again.now ∙ same.now ∙ s.time.now; limit = again.limit ∙ same.limit ∙ s.time.limit };
          rest = ap (λ (x : Runner). record x { clock = clock; waiters = waiters }) s.rest;
        }
      where
        next : Runner
        next = record now { clock = clock; waiters = waiters }

        by_each : (other : ℕ) → other ≢ id → IsKept was now other ⊎ IsWoken (event ∷ []) moment was now other →
            IsKept was next other ⊎ IsWoken (event ∷ []) moment was next other
        by_each other differs (inl kept) =
            inl (takes.taken.others other differs ∙ kept.0, sleeps.others other differs ∙ wakes.others other differs ∙ kept.1)
        by_each other differs (inr (e, is, among, none, due)) =
            inr (e, is, among, takes.taken.others other differs ∙ none, sleeps.others other differs ∙ wakes.others other differs ∙ due)

        by_key : (other : ℕ) → (other ≡ id) ⊎ (other ≢ id) → IsKept was next other ⊎ IsWoken (event ∷ []) moment was next other
        by_key other (inl e) =
            inr (
              event,
              ap (event_in was.waiters) e ∙ waited.0,
              inl refl,
              ap (event_in waiters) e ∙ takes.taken.changed,
              ap (due_of clock) e ∙ sleeps.changed,
            )
        by_key other (inr differs) = by_each other differs (s.each other)

-- no task waits for it any more
pub waking_all : {event moment : ℕ} {was now : Runner} (waiters : List (Option ℕ)) → IsWakingFor event moment was now →
    NoneWaits now.waiters waiters event → WakesWaiters (event ∷ []) moment was (record now { waiters = waiters })
waking_all {event} {moment} {was} {now} waiters s none =
    record {
      woken = λ id other e among. woken id other e among (s.each id);
      others = λ id spared. others id spared (s.each id);
      time = s.time;
      rest = ap (λ (x : Runner). record x { waiters = waiters }) s.rest;
    }
  where
    woken : (id other : ℕ) → event_in was.waiters id ≡ Some other → IsOneOf other (event ∷ []) →
        IsKept was now id ⊎ IsWoken (event ∷ []) moment was now id → (event_in waiters id ≡ None) × (due_of now.clock id ≡ Some moment)
    woken id other e (inl same) (inl kept) = absurd (none.none id (kept.0 ∙ (e ∙ ap (λ (n : ℕ). Some n) same)))
    woken id other e (inr i) (inl kept) = absurd i
    woken id other e among (inr (key, is, one, removed, due)) = (none.same id ∙ removed, due)

    others : (id : ℕ) → ((other : ℕ) → event_in was.waiters id ≡ Some other → IsOneOf other (event ∷ []) → ⊥) →
        IsKept was now id ⊎ IsWoken (event ∷ []) moment was now id →
        (event_in waiters id ≡ event_in was.waiters id) × (due_of now.clock id ≡ due_of was.clock id)
    others id spared (inl kept) = (none.same id ∙ kept.0, kept.1)
    others id spared (inr (key, is, one, removed, due)) = absurd (spared key is one)

-- the clock shows the moment still, before the task sleeps
pub waking_now : {event moment : ℕ} {was now : Runner} {mid : timers.Clock} → IsWakingFor event moment was now → SameTime now.clock mid →
    now_of was.clock ≡ was.world.tick → now_of mid ≡ was.world.tick
waking_now s same now = same.now ∙ s.time.now ∙ now

-- ---- for one event after another

one_more : (key : ℕ) (set more : List ℕ) → IsOneOf key set → IsOneOf key (set ++ more)
one_more key [] more i = absurd i
one_more key (k ∷ ks) more (inl e) = inl e
one_more key (k ∷ ks) more (inr i) = inr (one_more key ks more i)

one_last : (key : ℕ) (set : List ℕ) → IsOneOf key (set ++ key ∷ [])
one_last key [] = inl refl
one_last key (k ∷ ks) = inr (one_last key ks)

one_split : (key last : ℕ) (set : List ℕ) → IsOneOf key (set ++ last ∷ []) → IsOneOf key set ⊎ (key ≡ last)
one_split key last [] (inl e) = inr e
one_split key last [] (inr i) = absurd i
one_split key last (k ∷ ks) (inl e) = inl (inl e)
one_split key last (k ∷ ks) (inr i) = by_rest (one_split key last ks i)
  where
    by_rest : IsOneOf key ks ⊎ (key ≡ last) → IsOneOf key (k ∷ ks) ⊎ (key ≡ last)
    by_rest (inl j) = inl (inr j)
    by_rest (inr e) = inr e

-- what holds while the events that were set are taken
pub record IsTakingSet (was now : Runner) : Type 0 where
  pub taken : List ℕ
  pub left : was.world.set.items ≡ taken ++ now.world.set.items
  pub each : (id : ℕ) → IsKept was now id ⊎ IsWoken taken (suc was.world.tick) was now id
  -- no task waits for one that was taken
  pub none : (id event : ℕ) → event_in now.waiters id ≡ Some event → IsOneOf event taken → ⊥
  pub time : SameTime was.clock now.clock
  pub rest : now ≡ record was { world = record was.world { set = now.world.set }; clock = now.clock; waiters = now.waiters }

-- at first none was taken
pub set_none : (r : Runner) → IsTakingSet r r
set_none r = record {
  taken = [];
  left = refl;
  each = λ id. inl (refl, refl);
  none = λ id event e i. absurd i;
  time = record { now = refl; limit = refl };
  rest = refl;
}

module _ {was now : Runner} (s : IsTakingSet was now) where
  taking_tick : now.world.tick ≡ was.world.tick
  taking_tick = ap (λ (x : Runner). x.world.tick) s.rest

  -- what waking the tasks of an event requires
  pub taking_timed : AreTimed was → AreTimed now
  taking_timed timed id event e = (timed_still s.taken (suc was.world.tick) was now id event (s.each id) timed e).1

  module _ (left : World) (rest : left ≡ record now.world { set = left.set }) where
    left_tick : left.tick ≡ was.world.tick
    left_tick = ap (λ (x : World). x.tick) rest ∙ taking_tick

    pub taking_now : now_of was.clock ≡ was.world.tick → now_of now.clock ≡ left.tick
    taking_now is = s.time.now ∙ is ∙ sym left_tick

    pub taking_bounded : was.world.tick ≤ 2 ^ 62 → left.tick ≤ 2 ^ 62
    taking_bounded bounded = rw left_tick bounded

    -- the tasks of one more event were woken
    module _ (event : ℕ) (first : now.world.set.items ≡ event ∷ left.set.items) {next : Runner}
        (wakes : WakesWaiters (event ∷ []) (suc left.tick) (record now { world = left }) next)
      where
        next_world : next.world ≡ left
        next_world = ap (λ (x : Runner). x.world) wakes.rest

        waits_for : (o : Option ℕ) → (o ≡ Some event) ⊎ (o ≢ Some event)
        waits_for None = inr (λ e. none-some event e)
        waits_for (Some key) = by_key (cases_eq key event)
          where
            by_key : (key ≡ event) ⊎ (key ≢ event) → (Some key ≡ Some event) ⊎ (Some key ≢ Some event)
            by_key (inl e) = inl (ap (λ (n : ℕ). Some n) e)
            by_key (inr differs) = inr (λ e. differs (same_Some key event e))

        -- a task that waited for it
        woken : (id : ℕ) → event_in now.waiters id ≡ Some event → (event_in next.waiters id ≡ None)
            × (due_of next.clock id ≡ Some (suc was.world.tick))
        woken id e =
            let w = wakes.woken id event e (inl refl) in (w.0, w.1 ∙ ap (λ (n : ℕ). Some (suc n)) left_tick)

        -- one that did not
        spared : (id : ℕ) → event_in now.waiters id ≢ Some event → (event_in next.waiters id ≡ event_in now.waiters id)
            × (due_of next.clock id ≡ due_of now.clock id)
        spared id differs = wakes.others id (λ other e among. by_one other e among)
          where
            by_one : (other : ℕ) → event_in now.waiters id ≡ Some other → IsOneOf other (event ∷ []) → ⊥
            by_one other e (inl same) = differs (e ∙ ap (λ (n : ℕ). Some n) same)
            by_one other e (inr i) = i

        each_next : (id : ℕ) → IsKept was now id ⊎ IsWoken s.taken (suc was.world.tick) was now id →
            (event_in now.waiters id ≡ Some event) ⊎ (event_in now.waiters id ≢ Some event) →
            IsKept was next id ⊎ IsWoken (s.taken ++ event ∷ []) (suc was.world.tick) was next id
        each_next id (inl kept) (inl e) =
            let w = woken id e in inr (event, sym kept.0 ∙ e, one_last event s.taken, w.0, w.1)
        each_next id (inr (key, is, among, none, due)) (inl e) = absurd (none-some event (sym none ∙ e))
        each_next id (inl kept) (inr differs) = let w = spared id differs in inl (w.0 ∙ kept.0, w.1 ∙ kept.1)
        each_next id (inr (key, is, among, none, due)) (inr differs) =
            let w = spared id differs in inr (key, is, one_more key s.taken (event ∷ []) among, w.0 ∙ none, w.1 ∙ due)

        none_next : (id key : ℕ) → event_in next.waiters id ≡ Some key → IsOneOf key s.taken ⊎ (key ≡ event) →
            (event_in now.waiters id ≡ Some event) ⊎ (event_in now.waiters id ≢ Some event) → ⊥
        none_next id key e among (inl waited) = none-some key (sym (woken id waited).0 ∙ e)
        none_next id key e (inl i) (inr differs) = s.none id key (sym (spared id differs).0 ∙ e) i
        none_next id key e (inr same) (inr differs) = differs (sym (spared id differs).0 ∙ (e ∙ ap (λ (n : ℕ). Some n) same))

        -- then what holds while they are taken is true again
        pub set_more : IsTakingSet was next
        set_more = record {
          taken = s.taken ++ event ∷ [];
          left =
              s.left ∙ ap (λ (es : List ℕ). s.taken ++ es) first ∙ sym (append_assoc s.taken (event ∷ []) left.set.items)
              ∙ ap (λ (w : World). (s.taken ++ event ∷ []) ++ w.set.items) (sym next_world);
          each = λ id. each_next id (s.each id) (waits_for (event_in now.waiters id));
          none = λ id key e among. none_next id key e (one_split key event s.taken among) (waits_for (event_in now.waiters id));
          time = record { now = wakes.time.now ∙ s.time.now; limit = wakes.time.limit ∙ s.time.limit };
          rest =
              wakes.rest
              ∙ ap (λ (x : World). record now { world = x; clock = next.clock; waiters = next.waiters })
              (rest ∙ ap (λ (x : World). record now.world { set = x.set }) (sym next_world))
              ∙ ap (λ (x : Runner). record x { world = record x.world { set = next.world.set }; clock = next.clock; waiters = next.waiters }) s.rest;
        }

        -- and fewer are left
        pub set_fewer : length next.world.set.items < length now.world.set.items
        set_fewer =
            let a : length now.world.set.items ≡ suc (length left.set.items) = ap length first in
            let b : length next.world.set.items ≡ length left.set.items = ap (λ (x : World). length x.set.items) next_world in
            omega (arith, a, b)

    -- once none is left, all were taken
    pub set_all : now.world.set.items ≡ [] → left.set.items ≡ [] → TakesSet was (record now { world = left })
    set_all over empty = record {
      world = rest ∙ ap (λ (x : Runner). record x.world { set = left.set }) s.rest;
      none_left = empty;
      wakes =
          subst (λ (set : List ℕ). WakesWaiters set (suc was.world.tick) was (record now { world = was.world })) (sym all)
          (record {
            woken = λ id event e among. woken_all id event e among (s.each id);
            others = λ id none. spared_all id none (s.each id);
            time = s.time;
            rest = ap (λ (x : Runner). record x { world = was.world }) s.rest;
          });
    }
      where
        all : was.world.set.items ≡ s.taken
        all = s.left ∙ ap (λ (es : List ℕ). s.taken ++ es) over ∙ append-nil s.taken

        woken_all : (id event : ℕ) → event_in was.waiters id ≡ Some event → IsOneOf event s.taken →
            IsKept was now id ⊎ IsWoken s.taken (suc was.world.tick) was now id →
            (event_in now.waiters id ≡ None) × (due_of now.clock id ≡ Some (suc was.world.tick))
        woken_all id event e among (inl kept) = absurd (s.none id event (kept.0 ∙ e) among)
        woken_all id event e among (inr (key, is, one, none, due)) = (none, due)

        spared_all : (id : ℕ) → ((event : ℕ) → event_in was.waiters id ≡ Some event → IsOneOf event s.taken → ⊥) →
            IsKept was now id ⊎ IsWoken s.taken (suc was.world.tick) was now id →
            (event_in now.waiters id ≡ event_in was.waiters id) × (due_of now.clock id ≡ due_of was.clock id)
        spared_all id none (inl kept) = kept
        spared_all id none (inr (key, is, one, removed, due)) = absurd (none key is one)
