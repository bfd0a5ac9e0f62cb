-- The event for which a task waits is set when the definitions say so.
use Rattle.std.proofs.Common.{◌≡◌, inl, inr, ℕ, Bool, true, false, ◌&&◌, Option, Some, None, List, [], ◌∷◌, refl, ap, sym, ◌∙◌}
use Rattle.std.specs.Str.{bytes_eq}
use Rattle.exceptions.specs.Exceptions.{Label}
use Rattle.cancel_scopes.specs.Sight.{Tick, Level}
use Rattle.cancel_scopes.specs.Tree.{Stack}
use Rattle.job_meaning.specs.Log.{Table}
use Rattle.job_meaning.specs.declared.clock.Clock.{Clock}
use Rattle.job_meaning.specs.Walk.{Levels, label_if, level_if, event_on, set_moment}
use Rattle.job_meaning.specs.Rest.{Frame, Stopped, to_begin, asking, asleep, waiting_for, giving_up, awaiting, at_end, queued}
use Rattle.turn_semantics.specs.Midway.{Place, label_among, level_on, stack_at}
use Rattle.turn_semantics.specs.Names.{names_at, OwnNames}
use Rattle.turn_semantics.specs.Placed.{IsSome, PlacedStop}
use Rattle.turn_semantics.specs.Wakes.{set_at, ends_at}
use Rattle.task_machine.specs.declared.stop.TaskState.{TaskState}
use Rattle.task_machine.specs.declared.stop.TaskState.TheVariants.{ToBegin, Asked, Asleep, Waiting, GivingUp, Awaits, Over, Queued}
use Rattle.task_machine.specs.Events.{set_by}
use Rattle.task_machine.specs.Labels.{Labels, Events}
use Rattle.task_machine.specs.Stacked.{IsLevelOf, AreAt, IsKey, SameOn, IsEventNamed, AwaitsEvent}
use Rattle.task_machine.proofs.Stacked.{one_of, alone_at}
use Rattle.run_refinement.proofs.ActsKeep.{not_both}
use Rattle.run_refinement.proofs.ActsStay.{SameLevels}
use Rattle.run_refinement.proofs.LabelsApart.{alone_is}

-- ---- the event of a name

-- An event of a stack has the label that its name finds among the places, and is set from the moment of the table.
pub record EventLevel (labels : Labels) (events : Events) (f : Table) (name : List ℕ) (st : Stack) (ps : List Place) (label : Label) : Type 0 where
  pub key : ℕ
  pub among : IsKey key st
  pub named : labels key ≡ Some label
  pub set : events key ≡ Some (f label)
  pub level : Level Label
  pub found : event_on name (stack_at f ps).events ≡ Some level
  pub from : level.from ≡ f label

pub event_level : (labels : Labels) (events : Events) (f : Table) (name : List ℕ) (st : Stack) (ps : List Place) (label : Label) →
    AreAt labels events f st ps → label_among true name ps ≡ Some label → EventLevel labels events f name st ps label
event_level labels events f name [] [] label a e = absurd (not_both refl e)
event_level labels events f name [] (p ∷ ps) label a e = absurd a
event_level labels events f name (l ∷ ls) [] label a e = absurd a
event_level labels events f name (l ∷ ls) (p ∷ ps) label a e =
    by_tests p.is_event (bytes_eq name p.label.name) refl refl (λ h. event_level labels events f name ls ps label a.3 h) e
  where
    here : Level Label
    here = record { label = p.label; shield = p.shield; from = f p.label }

    outer : Levels
    outer = (stack_at f ps).events

    finds : Bool → Option (Level Label)
    finds b = event_on name (level_on b here (stack_at f ps)).events

    further : {b : Bool} → p.is_event ≡ b → (r : EventLevel labels events f name ls ps label) → finds b ≡ event_on name outer →
        EventLevel labels events f name (l ∷ ls) (p ∷ ps) label
    further {b} is r skips =
        record {
          key = r.key;
          among = inr r.among;
          named = r.named;
          set = r.set;
          level = r.level;
          found = ap finds is ∙ (skips ∙ r.found);
          from = r.from;
        }

    is_set : (o : Option Tick) → IsLevelOf o l f p → p.is_event ≡ true → o ≡ Some (f p.label)
    is_set None h is = absurd (let g : true ≡ false = sym is ∙ h.0 in cc)
    is_set (Some set) h is = ap (λ (x : Tick). Some x) h.3

    by_tests : (b c : Bool) → p.is_event ≡ b → bytes_eq name p.label.name ≡ c →
        (label_among true name ps ≡ Some label → EventLevel labels events f name ls ps label) →
        label_if (b && c) p.label (label_among true name ps) ≡ Some label → EventLevel labels events f name (l ∷ ls) (p ∷ ps) label
    by_tests true true is same more g =
        let named : p.label ≡ label = one_of p.label label g in
        record {
          key = l.label;
          among = inl refl;
          named = a.0 ∙ g;
          set = is_set (events l.label) a.2 is ∙ ap (λ (x : Label). Some (f x)) named;
          level = here;
          found = ap finds is ∙ ap (λ (c : Bool). level_if c here (event_on name outer)) same;
          from = ap f named;
        }
    by_tests true false is same more g = further is (more g) (ap (λ (c : Bool). level_if c here (event_on name outer)) same)
    by_tests false c is same more g = further is (more g) refl

-- The wait for an event of the stack that has the label of a name ends when the definitions say so.
pub awaited_set : (labels : Labels) (events : Events) (f : Table) (st : Stack) (ps : List Place) (key : ℕ) (name : List ℕ) (clock : Clock)
    (since : ℕ) → OwnNames (names_at ps) → AreAt labels events f st ps → IsKey key st → labels key ≡ label_among true name ps →
    IsSome (label_among true name ps) →
    (set_by clock (events key) since ≡ ends_at clock f name since ps) × ((set : Tick) × (events key ≡ Some set))
awaited_set labels events f st ps key name clock since own a i named some = by_label (label_among true name ps) refl some
  where
    by_label : (o : Option Label) → label_among true name ps ≡ o → IsSome o →
        (set_by clock (events key) since ≡ ends_at clock f name since ps) × ((set : Tick) × (events key ≡ Some set))
    by_label None e h = absurd h
    by_label (Some label) e h = (
      ap (λ (o : Option Tick). set_by clock o since) set
          ∙ sym (ap (λ (o : Option (Level Label)). set_at clock o since) v.found ∙ ap (λ (x : Tick). set_moment clock x since) v.from),
      (f label, set),
    )
      where
        v : EventLevel labels events f name st ps label
        v = event_level labels events f name st ps label a e

        same : v.key ≡ key
        same = alone_is labels key v.key label st (alone_at labels events f st ps key label (named ∙ e) i own a) v.among v.named

        set : events key ≡ Some (f label)
        set = ap events (sym same) ∙ v.set

-- a task that stopped to wait for an event does so for one that encloses it
abbrev pub HasEvent : Stopped → List Place → Type 0
HasEvent to_begin ps = Unit {0}
HasEvent (asking kernel purpose) ps = Unit {0}
HasEvent (asleep paced n since) ps = Unit {0}
HasEvent (waiting_for name since) ps = IsSome (label_among true name ps)
HasEvent (queued name ask since body) ps = IsSome (label_among true name ps)
HasEvent (giving_up since) ps = Unit {0}
HasEvent (awaiting children ended exc) ps = Unit {0}
HasEvent (at_end u e) ps = Unit {0}

pub has_event : (s : Stopped) (fs : List Frame) (ps : List Place) → PlacedStop s fs ps → HasEvent s ps
has_event to_begin fs ps h = tt
has_event (asking kernel purpose) fs ps h = tt
has_event (asleep paced n since) fs ps h = tt
has_event (waiting_for name since) fs ps h = h.0
has_event (queued name ask since body) fs ps h = h.0
has_event (giving_up since) fs ps h = tt
has_event (awaiting children ended exc) fs ps h = tt
has_event (at_end u e) fs ps h = tt

-- ---- another stack of the same scopes

key_moved : (key : ℕ) (st after : Stack) → SameLevels st after → IsKey key st → IsKey key after
key_moved key [] after h i = absurd i
key_moved key (l ∷ ls) [] h i = absurd h
key_moved key (l ∷ ls) (m ∷ ms) h (inl e) = inl (e ∙ sym h.0)
key_moved key (l ∷ ls) (m ∷ ms) h (inr i) = inr (key_moved key ls ms h.2 i)

pub label_moved : (labels more : Labels) (key : ℕ) (st : Stack) → SameOn labels more st → IsKey key st → more key ≡ labels key
label_moved labels more key [] h i = absurd i
label_moved labels more key (l ∷ ls) h (inl e) = ap more e ∙ (sym h.0 ∙ ap labels (sym e))
label_moved labels more key (l ∷ ls) h (inr i) = label_moved labels more key ls h.1 i

named_moved : (labels more : Labels) (st after : Stack) (task_state : TaskState) (name : List ℕ) (ps : List Place) → SameLevels st after →
    SameOn labels more st → IsEventNamed labels st task_state name ps → IsEventNamed more after task_state name ps
named_moved labels more st after (Waiting key since) name ps levels same h =
    (key_moved key st after levels h.0, label_moved labels more key st same h.0 ∙ h.1)
named_moved labels more st after (Queued key ask since body) name ps levels same h =
    (key_moved key st after levels h.0, label_moved labels more key st same h.0 ∙ h.1)
named_moved labels more st after (ToBegin at) name ps levels same h = tt
named_moved labels more st after (Asked kernel purpose) name ps levels same h = tt
named_moved labels more st after (Asleep paced ticks since) name ps levels same h = tt
named_moved labels more st after (GivingUp since) name ps levels same h = tt
named_moved labels more st after (Awaits id since) name ps levels same h = tt
named_moved labels more st after Over name ps levels same h = tt

-- the event for which a task waits is that of the same scopes
pub awaits_moved : (labels more : Labels) (st after : Stack) (o : Option Stopped) (task_state : TaskState) (ps : List Place) →
    SameLevels st after → SameOn labels more st → AwaitsEvent labels st o task_state ps → AwaitsEvent more after o task_state ps
awaits_moved labels more st after None task_state ps levels same h = tt
awaits_moved labels more st after (Some to_begin) task_state ps levels same h = tt
awaits_moved labels more st after (Some (asking kernel purpose)) task_state ps levels same h = tt
awaits_moved labels more st after (Some (asleep paced n since)) task_state ps levels same h = tt
awaits_moved labels more st after (Some (waiting_for name since)) task_state ps levels same h =
    named_moved labels more st after task_state name ps levels same h
awaits_moved labels more st after (Some (queued name ask since body)) task_state ps levels same h =
    named_moved labels more st after task_state name ps levels same h
awaits_moved labels more st after (Some (giving_up since)) task_state ps levels same h = tt
awaits_moved labels more st after (Some (awaiting children ended exc)) task_state ps levels same h = tt
awaits_moved labels more st after (Some (at_end u e)) task_state ps levels same h = tt
