-- What the events of a task say, by kind: the labels that it entered, those that it signed, and the children that it started.
use Rattle.std.specs.Prelude.{ℕ, List, [], ◌∷◌, map}
use Rattle.exceptions.specs.Exceptions.{Label}
use Rattle.cancel_scopes.specs.Sight.{Tick}
use Rattle.job_meaning.specs.Rest.{Event, signs, enters, starts}

-- a label that was entered, with its deadline
pub record EnteredLabel : Type 0 where
  pub label : Label
  pub deadline : Tick

-- a label that was signed, and the moment of the sign
pub record SignedLabel : Type 0 where
  pub label : Label
  pub tick : ℕ

-- a child that was started: its number, its label and the moment of its start
pub record StartedChild : Type 0 where
  pub number : ℕ
  pub label : Label
  pub tick : ℕ

abbrev pub entered_in : List Event → List EnteredLabel
entered_in [] = []
entered_in (enters l t d ∷ es) = record { label = l; deadline = d } ∷ entered_in es
entered_in (_ ∷ es) = entered_in es

abbrev pub signed_in : List Event → List SignedLabel
signed_in [] = []
signed_in (signs l t ∷ es) = record { label = l; tick = t } ∷ signed_in es
signed_in (_ ∷ es) = signed_in es

abbrev pub started_in : List Event → List StartedChild
started_in [] = []
started_in (starts i l t ∷ es) = record { number = i; label = l; tick = t } ∷ started_in es
started_in (_ ∷ es) = started_in es

-- the labels that were entered
abbrev pub labels_entered : List Event → List Label
labels_entered es = map (λ (e : EnteredLabel). e.label) (entered_in es)

-- the numbers of the children that were started
abbrev pub numbers_started : List Event → List ℕ
numbers_started es = map (λ (s : StartedChild). s.number) (started_in es)
