-- A maximum number of tasks of the program that have not ended.
use Rattle.std.proofs.Common.{◌≡◌, ◌⊎◌, inl, inr, true, false, ℕ, zero, suc, ◌+◌, ◌*◌, ◌≤◌, Option, Some, None, List, [], ◌∷◌, length, refl, ap, sym, ◌∙◌, subst, arith}
use Rattle.std.specs.Prelude.{IsSome}
use Rattle.turn_semantics.specs.Lists.{IsAmong}
use Rattle.job_tree.specs.Tree.{Tree as Job}
use Rattle.job_tree.specs.Names.{size_of}
use Rattle.job_meaning.specs.Asking.{shows, needs, paces}
use Rattle.job_meaning.specs.Rest.{Stopped, to_begin, asking, asleep, waiting_for, giving_up, awaiting, at_end, stop_weight, rest_weight, queued}
use Rattle.task_machine.specs.declared.task.Task.{Task}
use Rattle.interleavings.specs.Interleaving.{Started, live}
use Rattle.interleavings.specs.Runs.{Front, is_front, after_one, all_weights}
use Rattle.interleavings.proofs.Running.{runs_end}
use Rattle.run_refinement.specs.RunState.{RunState, Refines}
use Rattle.run_refinement.specs.Laws.{AreDistinct}
use Rattle.run_refinement.proofs.LabelsApart.{below_of}
use Rattle.turn_semantics.specs.Midway.{Tables}

-- a task that has not ended weighs something
live_weighs : (s : Stopped) → live s ≡ true → 1 ≤ stop_weight s
live_weighs to_begin e = omega arith
live_weighs (asking kernel shows) e = omega arith
live_weighs (asking kernel (needs name)) e = omega arith
live_weighs (asking kernel (paces k)) e = omega arith
live_weighs (asleep false zero since) e = omega arith
live_weighs (asleep false (suc n) since) e = omega arith
live_weighs (asleep true zero since) e = omega arith
live_weighs (asleep true (suc n) since) e = omega arith
live_weighs (waiting_for event since) e = omega arith
live_weighs (queued object ask since body) e = omega arith
live_weighs (giving_up since) e = omega arith
live_weighs (awaiting children ended exc) e = omega arith
live_weighs (at_end u x) e = absurd (let f : false ≡ true = e in cc)

-- A task that is among others, and those.
record Apart (q : Started) (qs : List Started) : Type 0 where
  pub others : List Started
  pub front : Front q qs others
  pub rest : (x : Started) → IsAmong x qs → (x ≡ q) ⊎ IsAmong x others

apart : (q : Started) (qs : List Started) → IsAmong q qs → Apart q qs
apart q [] i = absurd i
apart q (x ∷ qs) (inl e) = record { others = qs; front = subst (λ (y : Started). Front q (y ∷ qs) qs) e (is_front q qs); rest = rest }
  where
    rest : (z : Started) → IsAmong z (x ∷ qs) → (z ≡ q) ⊎ IsAmong z qs
    rest z (inl h) = inl (h ∙ sym e)
    rest z (inr h) = inr h
apart q (x ∷ qs) (inr i) = further (apart q qs i)
  where
    following : (others : List Started) (z : Started) → (z ≡ q) ⊎ IsAmong z others → (z ≡ q) ⊎ IsAmong z (x ∷ others)
    following others z (inl h) = inl h
    following others z (inr h) = inr (inr h)

    rest : (a : Apart q qs) (z : Started) → IsAmong z (x ∷ qs) → (z ≡ q) ⊎ IsAmong z (x ∷ a.others)
    rest a z (inl h) = inr (inl h)
    rest a z (inr h) = following a.others z (a.rest z h)

    further : Apart q qs → Apart q (x ∷ qs)
    further a = record { others = x ∷ a.others; front = after_one q x qs a.others a.front; rest = rest a }

front_weighs : {q : Started} {qs others : List Started} → Front q qs others → all_weights qs ≡ rest_weight q.rest + all_weights others
front_weighs (is_front q qs) = refl
front_weighs (after_one q x qs others at) = omega (arith, front_weighs at)

-- a task of this serial number is among these, and has not ended
record LivesAt (at : ℕ → Started) (qs : List Started) (s : ℕ) : Type 0 where
  pub among : IsAmong (at s) qs
  pub serial : (at s).serial ≡ s
  pub lives : live (at s).rest.stopped ≡ true

-- at most this number of some tasks have not ended
few_live : (at : ℕ → Started) (numbers : List ℕ) (qs : List Started) → AreDistinct numbers → ((s : ℕ) → IsAmong s numbers → LivesAt at qs s) →
    length numbers ≤ all_weights qs
few_live at [] qs distinct lives = omega arith
few_live at (s ∷ ss) qs distinct lives =
    let weight = front_weighs a.front in
    let one : 1 ≤ stop_weight (at s).rest.stopped = live_weighs (at s).rest.stopped here.lives in
    let fewer : length ss ≤ all_weights a.others = few_live at ss a.others distinct.1 following in
    omega (arith, weight, one, fewer)
  where
    here : LivesAt at qs s
    here = lives s (inl refl)

    a : Apart (at s) qs
    a = apart (at s) qs here.among

    other : (u : ℕ) → IsAmong u ss → (at u).serial ≡ u → (at u ≡ at s) ⊎ IsAmong (at u) a.others → IsAmong (at u) a.others
    other u i e (inl h) = absurd (distinct.0 (subst (λ (n : ℕ). IsAmong n ss) (sym e ∙ ap (λ (q : Started). q.serial) h ∙ here.serial) i))
    other u i e (inr h) = h

    following : (u : ℕ) → IsAmong u ss → LivesAt at a.others u
    following u i = let l = lives u (inr i) in record {
      among = other u i l.serial (a.rest (at u) l.among);
      serial = l.serial;
      lives =
          l.lives;
    }

-- at most this number of tasks of the program have not ended
pub state_few : (k : Tables) (job : Job) (input : List ℕ) (t m : ℕ) (state : RunState) → Refines k job input t m None state →
    (numbers : List ℕ) → AreDistinct numbers → ((s : ℕ) → IsAmong s numbers → IsSome (state.task s)) → length numbers ≤ 2 * size_of job.steps + 1
state_few k job input t m state c numbers distinct some =
    let fewer = few_live c.interleaving.at numbers c.interleaving.tasks distinct (λ s i. found s (state.task s) refl (some s i)) in
    let most = runs_end k job input c.interleaving.cancelled_from t m c.interleaving.tasks c.interleaving.reached in
    omega (arith, fewer, most)
  where
    found : (s : ℕ) (task : Option Task) → state.task s ≡ task → IsSome task → LivesAt c.interleaving.at c.interleaving.tasks s
    found s None e is = absurd (let f : false ≡ true = is in cc)
    found s (Some task) e is =
        let has = c.interleaving.has s (below_of c s task e) in
        record { among = has.0; serial = has.1; lives = (c.follows s task e).lives (λ (n : None ≡ Some s). cc) }
