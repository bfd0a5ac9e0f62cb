-- A task that waits for an event: when its wait ends, and whether it is at a checkpoint, as the definitions say by the places.
use Rattle.task_machine.specs.Frames.{Lent}
use Rattle.std.proofs.Common.{◌≡◌, ◌⊎◌, inl, inr, ℕ, zero, suc, Bool, true, false, not, ◌&&◌, ◌==◌, Option, Some, None, List, [], ◌∷◌, refl, ap, sym, ◌∙◌, subst}
use Rattle.std.proofs.lemmas.Bool.{eqb-true}
use Rattle.std.specs.Option.{option_map}
use Rattle.std.specs.Str.{bytes_eq}
use Rattle.turn_semantics.specs.Lists.{IsAmong}
use Rattle.cancel_scopes.specs.Sight.{Tick, Level}
use Rattle.cancel_scopes.specs.Tree as scopes
use Rattle.exceptions.specs.Exceptions.{Label}
use Rattle.job_meaning.specs.Log.{Table}
use Rattle.job_meaning.specs.declared.clock.Clock.{Clock}
use Rattle.job_meaning.specs.Walk.{Here, label_if, level_if, event_on}
use Rattle.job_meaning.specs.Rest as rest
use Rattle.job_meaning.specs.Rest.{Stopped, to_begin, asking, asleep, waiting_for, queued, giving_up, awaiting, at_end}
use Rattle.nursery_book.specs.declared.book.NurseryBook.{NurseryBook}
use Rattle.turn_semantics.specs.Midway.{Place, label_among, level_on, stack_at}
use Rattle.turn_semantics.specs.Names.{names_at, OwnNames}
use Rattle.turn_semantics.specs.Turned.{labels_of}
use Rattle.turn_semantics.specs.Steps.{waits_on}
use Rattle.turn_semantics.specs.Wakes.{is_checkpoint, set_at, gives_up_if, sees_from}
use Rattle.task_machine.specs.declared.stop.TaskState.{TaskState}
use Rattle.task_machine.specs.declared.stop.TaskState.TheVariants.{ToBegin, Asked, Asleep, Waiting, Queued, GivingUp, Awaits, Over}
use Rattle.task_machine.specs.declared.stop.Moved.TheVariants.{On, Stops}
use Rattle.task_machine.specs.declared.stop.Stop.TheVariants.{WaitFor}
use Rattle.task_machine.specs.declared.stop.Wake.TheVariants.{Seen}
use Rattle.task_machine.specs.Events.{set_by, at_checkpoint}
use Rattle.task_machine.specs.Labels.{Labels, Events, scope_named}
use Rattle.task_machine.specs.Stacked.{IsLevelOf, AreAt, IsKey, AwaitsEvent}
use Rattle.task_machine.specs.Stops.{Numbers, IsTaskState, MovesAs}
use Rattle.task_machine.specs.Waking.{WakesFrom}
use Rattle.task_machine.proofs.Cancels.{found_as}
use Rattle.task_machine.proofs.Stacked.{one_of, named_is_in, known_name, key_known}

-- ---- the event of a name

-- a label that a name finds is one of the places
among_known : (sought : Bool) (name : List ℕ) (ps : List Place) (label : Label) → label_among sought name ps ≡ Some label →
    IsAmong label (labels_of ps)
among_known sought name [] label e = absurd (let f : None ≡ Some label = e in cc)
among_known sought name (p ∷ ps) label e = by_test _ e (λ f. among_known sought name ps label f)
  where
    by_test : (b : Bool) → label_if b p.label (label_among sought name ps) ≡ Some label →
        (label_among sought name ps ≡ Some label → IsAmong label (labels_of ps)) → (label ≡ p.label) ⊎ IsAmong label (labels_of ps)
    by_test true f inside = inl (sym (one_of p.label label f))
    by_test false f inside = inr (inside f)

-- the moment from which it is set
abbrev pub from_on : Option (Level Label) → Option Tick
from_on level = option_map (λ (l : Level Label). l.from) level

-- the event that has the label which a name finds is set from the moment that the table has for it
pub found_event : (labels : Labels) (events : Events) (cancelled_from : Table) (st : scopes.Stack) (ps : List Place) (key : ℕ) (name : List ℕ) →
    AreAt labels events cancelled_from st ps → OwnNames (names_at ps) → IsKey key st → labels key ≡ label_among true name ps →
    events key ≡ from_on (event_on name (stack_at cancelled_from ps).events)
found_event labels events cancelled_from [] ps key name a own i e = absurd i
found_event labels events cancelled_from (l ∷ ls) [] key name a own i e = absurd a
found_event labels events cancelled_from (l ∷ ls) (p ∷ ps) key name a own i e =
    by_kind (λ k f. found_event labels events cancelled_from ls ps key name a.3 own.1 k f) p.is_event refl e
  where
    -- no other place has the label of this one
    clash : IsAmong p.label (labels_of ps) → ⊥
    clash k = own.0 (known_name p.label ps k)

    -- the event is further out
    inside : (IsKey key ls → labels key ≡ label_among true name ps → events key ≡ from_on (event_on name (stack_at cancelled_from ps).events)) →
        IsKey key (l ∷ ls) → labels key ≡ label_among true name ps →
        events key ≡ from_on (event_on name (stack_at cancelled_from ps).events)
    inside further (inl same) found = absurd (clash (among_known true name ps p.label (sym found ∙ ap labels same ∙ a.0)))
    inside further (inr k) found = further k found

    -- it is the innermost
    here_set : (o : Option Tick) → IsLevelOf o l cancelled_from p → p.is_event ≡ true → o ≡ Some (cancelled_from p.label)
    here_set None h is = absurd (let f : false ≡ true = sym h.0 ∙ is in cc)
    here_set (Some set) h is = ap (λ (x : Tick). Some x) h.3

    here : IsKey key (l ∷ ls) → p.is_event ≡ true → labels key ≡ Some p.label → events key ≡ Some (cancelled_from p.label)
    here (inl same) is found = ap events same ∙ here_set (events l.label) a.2 is
    here (inr k) is found = absurd (clash (key_known labels events cancelled_from ls ps key p.label found k a.3))

    by_kind : (IsKey key ls → labels key ≡ label_among true name ps → events key ≡ from_on (event_on name (stack_at cancelled_from ps).events)) →
        (b : Bool) → p.is_event ≡ b →
        labels key ≡ label_if (b && bytes_eq name p.label.name) p.label (label_among true name ps) →
        events key ≡ from_on (event_on name
        (level_on b (record { label = p.label; shield = p.shield; from = cancelled_from p.label }) (stack_at cancelled_from ps)).events)
    by_kind further true is found = by_name (bytes_eq name p.label.name) found
      where
        by_name : (t : Bool) → labels key ≡ label_if t p.label (label_among true name ps) →
            events key ≡ from_on (level_if t (record { label = p.label; shield = p.shield; from = cancelled_from p.label })
            (event_on name (stack_at cancelled_from ps).events))
        by_name true found = here i is found
        by_name false found = inside further i found
    by_kind further false is found = inside further i found

-- so the wait ends as the definitions say
ends_as_set : (clock : Clock) (since : ℕ) (o : Option Tick) (level : Option (Level Label)) → o ≡ from_on level →
    set_by clock o since ≡ set_at clock level since
ends_as_set clock since o None e = ap (λ (x : Option Tick). set_by clock x since) e
ends_as_set clock since o (Some l) e = ap (λ (x : Option Tick). set_by clock x since) e

-- ---- a task that sees a cancellation

-- a sleep of some ticks is no checkpoint
some_ticks : (n : ℕ) → (suc n == 0) ≡ false
some_ticks n = by_test (suc n == 0) refl
  where
    by_test : (b : Bool) → (suc n == 0) ≡ b → b ≡ false
    by_test true e = absurd (let f : suc n ≡ 0 = eqb-true (suc n) 0 e in cc)
    by_test false e = refl

seen_asleep : (here : Here) (cancelled_from : Table) (t : ℕ) (paced : Bool) (n since : ℕ) (fs : List rest.Frame) (ps : List Place) →
    sees_from here cancelled_from t (asleep paced n since) fs ps ≡ gives_up_if (not paced && (n == 0)) t fs ps
seen_asleep here cancelled_from t true n since fs ps = refl
seen_asleep here cancelled_from t false zero since fs ps = refl
seen_asleep here cancelled_from t false (suc n) since fs ps = ap (λ (b : Bool). gives_up_if b t fs ps) (sym (some_ticks n))

-- a task that asked no limiter or channel
abbrev pub HasNotAsked : TaskState → Type 0
HasNotAsked (Queued object ask since body) = ⊥
HasNotAsked _ = Unit {0}

-- at a checkpoint it gives up, and otherwise it raises
module _ (here : Here) (labels : Labels) (events : Events) (cancelled_from : Table) (st : scopes.Stack) (ps : List Place) (numbers : Numbers)
    (book : NurseryBook) (part : Lent) (t : ℕ) (a : AreAt labels events cancelled_from st ps) (own : OwnNames (names_at ps)) where
  pub sees_as : (task_state : TaskState) (stopped : Stopped) → AwaitsEvent labels st (Some stopped) task_state ps →
      HasNotAsked task_state → WakesFrom task_state part book Seen → IsTaskState numbers book task_state stopped → (fs : List rest.Frame) →
      sees_from here cancelled_from t stopped fs ps ≡ gives_up_if (at_checkpoint here.clock events task_state) t fs ps
  sees_as (ToBegin at) stopped event other w h fs = absurd w
  sees_as (Asked kernel purpose) stopped event other w h fs = absurd w
  sees_as (Asleep paced ticks since) to_begin event other w h fs = absurd h
  sees_as (Asleep paced ticks since) (asking k p) event other w h fs = absurd h
  sees_as (Asleep paced ticks since) (asleep q n u) event other w h fs =
      seen_asleep here cancelled_from t q n u fs ps
      ∙ ap (λ (b : Bool). gives_up_if (not b && (n == 0)) t fs ps) (sym h.0)
      ∙ ap (λ (m : ℕ). gives_up_if (not paced && (m == 0)) t fs ps) (sym h.1)
  sees_as (Asleep paced ticks since) (waiting_for name u) event other w h fs = absurd h
  sees_as (Asleep paced ticks since) (queued name a u steps) event other w h fs = absurd h
  sees_as (Asleep paced ticks since) (giving_up u) event other w h fs = absurd h
  sees_as (Asleep paced ticks since) (awaiting kids u exc) event other w h fs = absurd h
  sees_as (Asleep paced ticks since) (at_end u e) event other w h fs = absurd h
  sees_as (Waiting key since) to_begin event other w h fs = absurd h
  sees_as (Waiting key since) (asking k p) event other w h fs = absurd h
  sees_as (Waiting key since) (asleep q n u) event other w h fs = absurd h
  sees_as (Waiting key since) (waiting_for name u) event other w h fs =
      ap (λ (x : ℕ). gives_up_if (is_checkpoint here.clock x u) t fs ps)
      (sym (ends_as_set here.clock u (events key) (event_on name (stack_at cancelled_from ps).events)
      (found_event labels events cancelled_from st ps key name a own event.0 event.1)))
      ∙ ap (λ (v : ℕ). gives_up_if (is_checkpoint here.clock (set_by here.clock (events key) v) v) t fs ps) (sym h)
  sees_as (Waiting key since) (queued name a u steps) event other w h fs = absurd h
  sees_as (Waiting key since) (giving_up u) event other w h fs = absurd h
  sees_as (Waiting key since) (awaiting kids u exc) event other w h fs = absurd h
  sees_as (Waiting key since) (at_end u e) event other w h fs = absurd h
  sees_as (Queued object ask since body) stopped event other w h fs = absurd other
  sees_as (GivingUp since) stopped event other w h fs = absurd w
  sees_as (Awaits id since) stopped event other w h fs = absurd w
  sees_as Over stopped event other w h fs = absurd w

-- ---- a wait that begins

module _ (clock : Clock) (labels : Labels) (events : Events) (name : List ℕ) (st : scopes.Stack) (t : ℕ) (numbers : Numbers)
    (book : NurseryBook) (part : Lent) (cancelled_from : Table) (fs : List rest.Frame) (ps : List Place) (a : AreAt labels events cancelled_from st ps) where
  -- where there is no event of the name, the task continues
  pub waits_none : (task_state : TaskState) → scope_named true labels events name st ≡ None →
      MovesAs clock numbers book part (On None) task_state (waits_on (label_among true name ps) name t fs ps)
      × AwaitsEvent labels st (waits_on (label_among true name ps) name t fs ps).stopped task_state ps
  waits_none task_state none =
      subst (λ (o : Option Label). MovesAs clock numbers book part (On None) task_state (waits_on o name t fs ps)
      × AwaitsEvent labels st (waits_on o name t fs ps).stopped task_state ps)
      (sym (found_as true labels events cancelled_from name st ps None none a)) ((refl, refl), tt)

  -- otherwise it stops for that one
  pub waits_some : (key since : ℕ) (task_state : TaskState) → scope_named true labels events name st ≡ Some key → since ≡ t →
      task_state ≡ Waiting key since →
      MovesAs clock numbers book part (Stops (WaitFor key)) task_state (waits_on (label_among true name ps) name t fs ps)
      × AwaitsEvent labels st (waits_on (label_among true name ps) name t fs ps).stopped task_state ps
  waits_some key since task_state found same is =
      let at = found_as true labels events cancelled_from name st ps (Some key) found a in
      subst (λ (s : TaskState). MovesAs clock numbers book part (Stops (WaitFor key)) s (waits_on (label_among true name ps) name t fs ps)
      × AwaitsEvent labels st (waits_on (label_among true name ps) name t fs ps).stopped s ps) (sym is)
      (subst (λ (o : Option Label). MovesAs clock numbers book part (Stops (WaitFor key)) (Waiting key since) (waits_on o name t fs ps)
      × AwaitsEvent labels st (waits_on o name t fs ps).stopped (Waiting key since) ps)
      (sym at.1.1) ((refl, (same, refl)), (named_is_in true labels events name st key found, at.0)))
