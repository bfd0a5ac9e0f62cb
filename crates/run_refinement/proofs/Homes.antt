-- The scopes and nurseries that enclose a task at one of its nurseries are those of the nursery's scope.
use Rattle.std.proofs.Common.{◌≡◌, inl, inr, ℕ, Option, Some, None, List, [], ◌∷◌, ◌++◌, refl, ap, sym, subst}
use Rattle.std.specs.Option.{unwrap_or}
use Rattle.turn_semantics.specs.Lists.{IsAmong}
use Rattle.cancel_scopes.specs.Sight.{Level}
use Rattle.cancel_scopes.specs.Tree.{Stack, Tree, stack_of, outer_of, IsChain}
use Rattle.job_meaning.specs.Log.{Table}
use Rattle.job_meaning.specs.Rest.{Frame, steps_left, in_scope, in_event, in_nursery, in_repeat, in_try, in_handler, in_cleanup, Stopped, to_begin, asking, asleep, waiting_for, giving_up, awaiting, at_end, with_token, with_part, queued}
use Rattle.turn_semantics.specs.Midway.{Place}
use Rattle.turn_semantics.specs.Placed.{HasChild, HasChildAfter}
use Rattle.task_machine.specs.Labels.{Labels, Events}
use Rattle.task_machine.specs.Left.{keys_of}
use Rattle.task_machine.specs.Stacked.{AreAt}
use Rattle.task_machine.specs.Stops.{Numbers}
use Rattle.task_machine.proofs.StateLemmas.{Keyed, KeyedAfter, WaitsAs}

-- A child has its number at a nursery whose scope is in this stack, and its home's enclosing scopes and nurseries are those of
-- the stack from there on.
pub record HomeIn (P : ℕ → ℕ → Type 0) (now : Numbers) (labels : Labels) (events : Events) (cancelled_from : Table) (number : ℕ) (home : List Place)
    (st : Stack) : Type 0 where
  pub id : ℕ
  pub level : Level ℕ
  pub among : IsAmong number (now id)
  pub is : P id level.label
  pub before : Stack
  pub following : Stack
  pub split : st ≡ before ++ level ∷ following
  pub places : AreAt labels events cancelled_from (level ∷ following) home

home_further : {P : ℕ → ℕ → Type 0} {now : Numbers} {labels : Labels} {events : Events} {cancelled_from : Table} {number : ℕ} {home : List Place} {st : Stack} →
    (l : Level ℕ) →
    HomeIn P now labels events cancelled_from number home st → HomeIn P now labels events cancelled_from number home (l ∷ st)
home_further l h =
    record {
      id = h.id;
      level = h.level;
      among = h.among;
      is = h.is;
      before = l ∷ h.before;
      following = h.following;
      split = ap (λ (ls : Stack). l ∷ ls) h.split;
      places = h.places;
    }

home_first : {P : ℕ → ℕ → Type 0} {now : Numbers} {labels : Labels} {events : Events} {cancelled_from : Table} {number : ℕ} {home : List Place} →
    (id : ℕ) (l : Level ℕ) (st : Stack) (p : Place)
    (ps : List Place) → IsAmong number (now id) → P id l.label → AreAt labels events cancelled_from (l ∷ st) (p ∷ ps) → home ≡ p ∷ ps →
    HomeIn P now labels events cancelled_from number home (l ∷ st)
home_first {labels = labels} {events = events} {cancelled_from = cancelled_from} id l st p ps among is a e =
    record {
      id = id;
      level = l;
      among = among;
      is = is;
      before = [];
      following = st;
      split = refl;
      places =
          subst (AreAt labels events cancelled_from (l ∷ st)) (sym e) a;
    }

home_in : (P : ℕ → ℕ → Type 0) (now : Numbers) (labels : Labels) (events : Events) (cancelled_from : Table) (number : ℕ) (home : List Place) (fs : List Frame)
    (st : Stack) (ps : List Place) →
    Keyed P now fs (keys_of st) → AreAt labels events cancelled_from st ps → HasChild number home fs ps → HomeIn P now labels events cancelled_from number home st
home_in P now labels events cancelled_from number home [] st ps k a h = absurd h
home_in P now labels events cancelled_from number home (steps_left ss ∷ fs) st ps k a h = home_in P now labels events cancelled_from number home fs st ps k a h
home_in P now labels events cancelled_from number home (with_token limiter ∷ fs) st ps k a h = home_in P now labels events cancelled_from number home fs st ps k a h
home_in P now labels events cancelled_from number home (with_part received ∷ fs) st ps k a h = home_in P now labels events cancelled_from number home fs st ps k a h
home_in P now labels events cancelled_from number home (in_scope fail ∷ fs) [] ps k a h = absurd k
home_in P now labels events cancelled_from number home (in_scope fail ∷ fs) (l ∷ st) [] k a h = absurd a
home_in P now labels events cancelled_from number home (in_scope fail ∷ fs) (l ∷ st) (p ∷ ps) k a h =
    home_further l (home_in P now labels events cancelled_from number home fs st ps k a.3 h)
home_in P now labels events cancelled_from number home (in_event ∷ fs) [] ps k a h = absurd k
home_in P now labels events cancelled_from number home (in_event ∷ fs) (l ∷ st) [] k a h = absurd a
home_in P now labels events cancelled_from number home (in_event ∷ fs) (l ∷ st) (p ∷ ps) k a h =
    home_further l (home_in P now labels events cancelled_from number home fs st ps k a.3 h)
home_in P now labels events cancelled_from number home (in_nursery children ∷ fs) [] ps k a h = absurd k
home_in P now labels events cancelled_from number home (in_nursery children ∷ fs) (l ∷ st) [] k a h = absurd a
home_in P now labels events cancelled_from number home (in_nursery children ∷ fs) (l ∷ st) (p ∷ ps) k a (inl h) =
    home_first k.0.0 l st p ps (subst (IsAmong number) k.0.1 h.0) k.0.2 a h.1
home_in P now labels events cancelled_from number home (in_nursery children ∷ fs) (l ∷ st) (p ∷ ps) k a (inr h) =
    home_further l (home_in P now labels events cancelled_from number home fs st ps k.1 a.3 h)
home_in P now labels events cancelled_from number home (in_repeat pass left cuts body ∷ fs) st ps k a h = home_in P now labels events cancelled_from number home fs st ps k a h
home_in P now labels events cancelled_from number home (in_try handler cleanup ∷ fs) st ps k a h = home_in P now labels events cancelled_from number home fs st ps k a h
home_in P now labels events cancelled_from number home (in_handler rest cleanup ∷ fs) st ps k a h = home_in P now labels events cancelled_from number home fs st ps k a h
home_in P now labels events cancelled_from number home (in_cleanup outcome ∷ fs) st ps k a h = home_in P now labels events cancelled_from number home fs st ps k a h

-- the same of a task that waits for no nursery
home_working : (P : ℕ → ℕ → Type 0) (now : Numbers) (labels : Labels) (events : Events) (cancelled_from : Table) (number : ℕ) (home : List Place) (waits : Option ℕ)
    (fs : List Frame) (st : Stack)
    (ps : List Place) → waits ≡ None → KeyedAfter P waits now fs (keys_of st) → AreAt labels events cancelled_from st ps → HasChild number home fs ps →
    HomeIn P now labels events cancelled_from number home st
home_working P now labels events cancelled_from number home waits fs st ps w k a h =
    home_in P now labels events cancelled_from number home fs st ps (subst (λ (o : Option ℕ). KeyedAfter P o now fs (keys_of st)) w k) a h

-- and of one that waits for this one
home_waiting : (P : ℕ → ℕ → Type 0) (now : Numbers) (labels : Labels) (events : Events) (cancelled_from : Table) (number : ℕ) (home : List Place) (id : ℕ)
    (fs : List Frame) (st : Stack)
    (ps : List Place) (stopped : Stopped) → WaitsAs now (Some id) stopped → KeyedAfter P (Some id) now fs (keys_of st) →
    AreAt labels events cancelled_from st ps →
    HasChildAfter number home (Some stopped) fs ps → HomeIn P now labels events cancelled_from number home st
home_waiting P now labels events cancelled_from number home id fs [] ps stopped w k a h = absurd k
home_waiting P now labels events cancelled_from number home id fs (l ∷ st) [] stopped w k a h = absurd a
home_waiting P now labels events cancelled_from number home id fs (l ∷ st) (p ∷ ps) to_begin w k a h = absurd (let e : Some id ≡ None = w in cc)
home_waiting P now labels events cancelled_from number home id fs (l ∷ st) (p ∷ ps) (asking kernel purpose) w k a h =
    absurd (let e : Some id ≡ None = w in cc)
home_waiting P now labels events cancelled_from number home id fs (l ∷ st) (p ∷ ps) (asleep paced n since) w k a h =
    absurd (let e : Some id ≡ None = w in cc)
home_waiting P now labels events cancelled_from number home id fs (l ∷ st) (p ∷ ps) (waiting_for event since) w k a h =
    absurd (let e : Some id ≡ None = w in cc)
home_waiting P now labels events cancelled_from number home id fs (l ∷ st) (p ∷ ps) (queued object ask since body) w k a h =
    absurd (let e : Some id ≡ None = w in cc)
home_waiting P now labels events cancelled_from number home id fs (l ∷ st) (p ∷ ps) (giving_up since) w k a h = absurd (let e : Some id ≡ None = w in cc)
home_waiting P now labels events cancelled_from number home id fs (l ∷ st) (p ∷ ps) (awaiting children ended exc) w k a (inl h) =
    let same : id ≡ w.0 = (let e : Some id ≡ Some w.0 = w.1 in cc) in
    home_first id l st p ps (subst (λ (key : ℕ). IsAmong number (now key)) (sym same) (subst (IsAmong number) (sym w.2) h.0)) k.0 a h.1
home_waiting P now labels events cancelled_from number home id fs (l ∷ st) (p ∷ ps) (awaiting children ended exc) w k a (inr h) =
    home_further l (home_in P now labels events cancelled_from number home fs st ps k.1 a.3 h)
home_waiting P now labels events cancelled_from number home id fs (l ∷ st) (p ∷ ps) (at_end u e) w k a h = absurd (let f : Some id ≡ None = w in cc)

-- A child of a nursery of a task that stopped is enclosed as the nursery's scope is.
pub home_there : (P : ℕ → ℕ → Type 0) (now : Numbers) (labels : Labels) (events : Events) (cancelled_from : Table) (number : ℕ) (home : List Place) (waits : Option ℕ)
    (fs : List Frame) (st : Stack)
    (ps : List Place) (stopped : Stopped) → WaitsAs now waits stopped → KeyedAfter P waits now fs (keys_of st) → AreAt labels events cancelled_from st ps →
    HasChildAfter number home (Some stopped) fs ps → HomeIn P now labels events cancelled_from number home st
home_there P now labels events cancelled_from number home (Some id) fs st ps stopped w k a h =
    home_waiting P now labels events cancelled_from number home id fs st ps stopped w k a h
home_there P now labels events cancelled_from number home None fs st ps to_begin w k a (inl h) = absurd h
home_there P now labels events cancelled_from number home None fs st ps to_begin w k a (inr h) = home_in P now labels events cancelled_from number home fs st ps k a h
home_there P now labels events cancelled_from number home None fs st ps (asking kernel purpose) w k a (inl h) = absurd h
home_there P now labels events cancelled_from number home None fs st ps (asking kernel purpose) w k a (inr h) =
    home_in P now labels events cancelled_from number home fs st ps k a h
home_there P now labels events cancelled_from number home None fs st ps (asleep paced n since) w k a (inl h) = absurd h
home_there P now labels events cancelled_from number home None fs st ps (asleep paced n since) w k a (inr h) =
    home_in P now labels events cancelled_from number home fs st ps k a h
home_there P now labels events cancelled_from number home None fs st ps (waiting_for event since) w k a (inl h) = absurd h
home_there P now labels events cancelled_from number home None fs st ps (waiting_for event since) w k a (inr h) =
    home_in P now labels events cancelled_from number home fs st ps k a h
home_there P now labels events cancelled_from number home None fs st ps (queued object ask since body) w k a (inl h) = absurd h
home_there P now labels events cancelled_from number home None fs st ps (queued object ask since body) w k a (inr h) =
    home_in P now labels events cancelled_from number home fs st ps k a h
home_there P now labels events cancelled_from number home None fs st ps (giving_up since) w k a (inl h) = absurd h
home_there P now labels events cancelled_from number home None fs st ps (giving_up since) w k a (inr h) =
    home_in P now labels events cancelled_from number home fs st ps k a h
home_there P now labels events cancelled_from number home None fs st ps (awaiting children ended exc) w k a h = absurd (let e : None ≡ Some w.0 = w.1 in cc)
home_there P now labels events cancelled_from number home None fs st ps (at_end u e) w k a (inl h) = absurd h
home_there P now labels events cancelled_from number home None fs st ps (at_end u e) w k a (inr h) = home_in P now labels events cancelled_from number home fs st ps k a h

-- ---- the stack of a scope that encloses another

nil_not : (before : Stack) (l : Level ℕ) (following : Stack) → [] ≡ before ++ l ∷ following → ⊥
nil_not [] l following e = let f : [] ≡ l ∷ following = e in cc
nil_not (x ∷ before) l following e = let f : [] ≡ x ∷ (before ++ l ∷ following) = e in cc

-- of the scopes that enclose a task, the rest from one scope on is that scope's stack
pub chain_around : (tree : Tree) → IsChain tree → (scope : Option ℕ) (before : Stack) (l : Level ℕ) (following : Stack) →
    outer_of tree scope ≡ before ++ l ∷ following →
    stack_of tree l.label ≡ Some (l ∷ following)
chain_around tree chain None before l following e = absurd (nil_not before l following e)
chain_around tree chain (Some p) before l following e = by_stack (stack_of tree p) refl e
  where
    by_stack : (o : Option Stack) → stack_of tree p ≡ o → unwrap_or o [] ≡ before ++ l ∷ following → stack_of tree l.label ≡ Some (l ∷ following)
    by_stack None f g = absurd (nil_not before l following g)
    by_stack (Some st) f g = chain p st f before l following g
