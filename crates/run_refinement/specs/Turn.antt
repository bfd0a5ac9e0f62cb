-- What is said of a turn of one task of the program: the labels that it enters, the children that it begins, and how it stops.
use Rattle.std.specs.Prelude.{◌≡◌, ◌⊎◌, ℕ, zero, suc, ◌+◌, ◌==◌, Bool, true, false, nat_lt, Option, Some, None, List, [], ◌∷◌}
use Rattle.turn_semantics.specs.Lists.{IsAmong}
use Rattle.exceptions.specs.Exceptions.{Label}
use Rattle.cancel_scopes.specs.Tree.{Tree, IsOwn, IsChain, IsApart}
use Rattle.job_meaning.specs.Moments.{only_at}
use Rattle.job_meaning.specs.Rest as rest
use Rattle.turn_semantics.specs.Midway.{Tables, Begun, no_outcomes, begun_comes_to}
use Rattle.task_machine.specs.declared.stop.Stop.{Stop}
use Rattle.task_machine.specs.declared.stop.Stop.TheVariants.{Ask, Sleep, WaitFor, Queue, GiveUp, Wait, Ended}
use Rattle.task_machine.specs.Stops.{Numbers}
use Rattle.interleavings.specs.Interleaving.{Started}
use Rattle.interleavings.specs.Rows.{entered_made}

-- what `stacks_are_chains` states of a tree
pub record IsSound (tree : Tree) : Type 0 where
  pub own : IsOwn tree
  pub chain : IsChain tree
  pub apart : IsApart tree

-- a label that some task of a run entered
abbrev pub IsEntered : (ℕ → Started) → Label → Type 0
IsEntered at l = (p : ℕ) × IsAmong l (entered_made (at p).made)

-- the labels entered among events differ from those known and from each other
abbrev pub AreNew : (Label → Type 0) → List rest.Event → Type 0
AreNew known [] = Unit {0}
AreNew known (rest.noted t e ∷ es) = AreNew known es
AreNew known (rest.signs l t ∷ es) = AreNew known es
AreNew known (rest.enters l t d ∷ es) = (known l → ⊥) × AreNew (λ m. (m ≡ l) ⊎ known m) es
AreNew known (rest.acts l t a ∷ es) = AreNew known es
AreNew known (rest.starts i l t ∷ es) = AreNew known es

-- a child that begins in a moment, as a task with this serial number
abbrev pub child_at : Tables → ℕ → ℕ → Begun → Started
child_at k t s b =
    record {
      serial = s;
      here = b.here;
      places = b.places;
      stop = only_at t;
      rest = rest.rest_at_start b.body;
      made = [];
      count = 0;
      child = (λ i. 0);
      outcomes = no_outcomes;
      final_result = begun_comes_to k t b;
      left = (begun_comes_to k t b).log;
    }

-- the numbers of a task's children after its turn, and none of those of a task that has just begun
abbrev pub numbers_if : (same born : Bool) → Numbers → Numbers → Numbers
numbers_if true born now was = now
numbers_if false true now was = λ id. []
numbers_if false false now was = was

abbrev pub numbers_then : (ℕ → Numbers) → (s m : ℕ) → Numbers → ℕ → Numbers
numbers_then numbers s m now p = numbers_if (p == s) (nat_lt m (p + 1)) now (numbers p)

-- the given number of consecutive serial numbers from this one on
abbrev pub serials_from : ℕ → ℕ → List ℕ
serials_from m zero = []
serials_from m (suc n) = m ∷ serials_from (suc m) n

-- the task that ended at this stop, whose end is not recorded yet
abbrev pub leaving_by : Stop → ℕ → Option ℕ
leaving_by (Ask request) s = None
leaving_by (Sleep due) s = None
leaving_by (WaitFor event) s = None
leaving_by (Queue request) s = None
leaving_by (GiveUp due) s = None
leaving_by (Wait id) s = None
leaving_by (Ended exc) s = Some s
