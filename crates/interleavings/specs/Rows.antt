-- The rows of a run that is over, one for each started task, and how its records and moments of cancellation are read from them.
use Rattle.std.specs.Prelude.{◌≡◌, ℕ, Option, List, [], ◌∷◌, ◌++◌, map}
use Rattle.exceptions.specs.Exceptions.{Label, Exc}
use Rattle.job_meaning.specs.Log.{Table}
use Rattle.job_meaning.specs.Moments.{tick_of}
use Rattle.job_meaning.specs.declared.clock.Clock.{Clock}
use Rattle.job_meaning.specs.Meaning.{Noted, Record, From, cancelled_from_by}
use Rattle.job_meaning.specs.Rest.{Event, noted, at_end}
use Rattle.turn_semantics.specs.Lists.{Each}
use Rattle.turn_semantics.specs.Made.{StartedChild, started_in, labels_entered}
use Rattle.interleavings.specs.Interleaving.{Started}

-- the row of a task: its record, the moments of cancellation of the scopes and nurseries that it entered, and the rows of its
-- children, all in order
pub record Row : Type 0 where
  pub label : Label
  pub start : ℕ
  pub end : ℕ
  pub exc : Option Exc
  pub entries : List Noted
  pub cancelled_from : List From
  pub children : List ℕ

-- ---- readings of events

abbrev pub entries_made : Clock → List Event → List Noted
entries_made clock [] = []
entries_made clock (noted t e ∷ es) = record { tick = tick_of clock t; entry = e } ∷ entries_made clock es
entries_made clock (_ ∷ es) = entries_made clock es

abbrev pub entered_made : List Event → List Label
entered_made es = labels_entered es

-- the serial numbers of the children started
abbrev pub children_made : (ℕ → ℕ) → List Event → List ℕ
children_made child es = map (λ (s : StartedChild). child s.number) (started_in es)

-- each child started has a row with its label and its start
abbrev pub StartsRows : Clock → (ℕ → Row) → (ℕ → ℕ) → List Event → Type 0
StartsRows clock rows child es =
    Each (λ (s : StartedChild). ((rows (child s.number)).label ≡ s.label) × ((rows (child s.number)).start ≡ tick_of clock s.tick)) (started_in es)

-- the row of a task that has ended, with the moments of cancellation that the run kept; ticks alone are kept of moments
pub record HasRow (clock : Clock) (f : Table) (rows : ℕ → Row) (q : Started) : Type 0 where
  pub end : ℕ
  pub ended : q.rest.stopped ≡ at_end end (rows q.serial).exc
  pub tick : (rows q.serial).end ≡ tick_of clock end
  pub entries : (rows q.serial).entries ≡ entries_made clock q.made
  pub cancelled_from : (rows q.serial).cancelled_from ≡ cancelled_from_by f (entered_made q.made)
  pub children : (rows q.serial).children ≡ children_made q.child q.made
  pub starts : StartsRows clock rows q.child q.made

-- ---- readings of rows

abbrev pub record_of : Row → Record
record_of row = record { label = row.label; start = row.start; end = row.end; exc = row.exc; entries = row.entries }

abbrev pub records_by : (ℕ → Row) → List ℕ → List Record
records_by rows [] = []
records_by rows (s ∷ ss) = record_of (rows s) ∷ records_by rows ss

abbrev pub cancelled_from_in : (ℕ → Row) → List ℕ → List From
cancelled_from_in rows [] = []
cancelled_from_in rows (s ∷ ss) = (rows s).cancelled_from ++ cancelled_from_in rows ss

-- From a stack of rows, first to last: a row is taken from it and its children are pushed, until it is empty. So each
-- row is followed by its descendants.
pub data DepthFirst (rows : ℕ → Row) : List ℕ → List ℕ → Type 0 where
  no_more : DepthFirst rows [] []
  and_more : (s : ℕ) (stack taken : List ℕ) → DepthFirst rows ((rows s).children ++ stack) taken → DepthFirst rows (s ∷ stack) (s ∷ taken)
