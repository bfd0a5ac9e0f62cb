-- Names of nested scopes and nurseries.
use Rattle.std.specs.Prelude.{ℕ, Option, Some, None, List, [], ◌∷◌}
use Rattle.job_tree.specs.Tree.{Step, checkpoint, forever, longest, ask_for, scope, nursery, event, object, start, repeat, attempt, Steps, stop, step, Handled, unhandled, except, Cleaned, uncleaned, finally}
use Rattle.job_meaning.specs.Rest.{Frame, steps_left, in_scope, in_event, with_token, with_part, in_nursery, in_repeat, in_try, in_handler, in_cleanup, Stopped, queued}
use Rattle.turn_semantics.specs.Lists.{IsAmong}
use Rattle.turn_semantics.specs.Midway.{Place, Begun, Move}
use Rattle.turn_semantics.specs.Placed.{outer_places}

-- the names of enclosing scopes and nurseries
abbrev pub names_at : List Place → List (List ℕ)
names_at [] = []
names_at (p ∷ ps) = p.label.name ∷ names_at ps

-- each enclosing scope or nursery has a name that differs from those that enclose it
abbrev pub OwnNames : List (List ℕ) → Type 0
OwnNames [] = Unit {0}
OwnNames (n ∷ ns) = (IsAmong n ns → ⊥) × OwnNames ns

-- steps inside scopes of these names, none of which enters a scope with the name of an enclosing one
abbrev mutual
  pub AreNew : List (List ℕ) → Steps → Type 0
  AreNew around stop = Unit {0}
  AreNew around (step s ss) = IsNew around s × AreNew around ss

  pub IsNew : List (List ℕ) → Step → Type 0
  IsNew around checkpoint = Unit {0}
  IsNew around forever = Unit {0}
  IsNew around longest = Unit {0}
  IsNew around (scope name deadline shield fail body) = (IsAmong name around → ⊥) × AreNew (name ∷ around) body
  IsNew around (nursery name deadline shield body) = (IsAmong name around → ⊥) × AreNew (name ∷ around) body
  IsNew around (event name body) = (IsAmong name around → ⊥) × AreNew (name ∷ around) body
  IsNew around (object name kind body) = (IsAmong name around → ⊥) × AreNew (name ∷ around) body
  IsNew around (ask_for name ask body) = AreNew around body
  IsNew around (start name over body) = AreNew around body
  IsNew around (repeat count over body) = AreNew around body
  IsNew around (attempt body handler cleanup) = AreNew around body × IsNewHandler around handler × IsNewCleanup around cleanup
  IsNew around _ = Unit {0}

  pub IsNewHandler : List (List ℕ) → Handled → Type 0
  IsNewHandler around unhandled = Unit {0}
  IsNewHandler around (except name body) = AreNew around body

  pub IsNewCleanup : List (List ℕ) → Cleaned → Type 0
  IsNewCleanup around uncleaned = Unit {0}
  IsNewCleanup around (finally body) = AreNew around body

-- the blocks in the frames of a task with these enclosing scopes and nurseries have new names
abbrev pub NewIn : List Frame → List Place → Type 0
NewIn [] ps = Unit {0}
NewIn (steps_left ss ∷ fs) ps = AreNew (names_at ps) ss × NewIn fs ps
NewIn (in_scope fail ∷ fs) (p ∷ ps) = NewIn fs ps
NewIn (in_event ∷ fs) (p ∷ ps) = NewIn fs ps
NewIn (with_token limiter ∷ fs) ps = NewIn fs ps
NewIn (with_part received ∷ fs) ps = NewIn fs ps
NewIn (in_nursery children ∷ fs) (p ∷ ps) = NewIn fs ps
NewIn (in_repeat pass left cuts body ∷ fs) ps = AreNew (names_at ps) body × NewIn fs ps
NewIn (in_try handler cleanup ∷ fs) ps = IsNewHandler (names_at ps) handler × IsNewCleanup (names_at ps) cleanup × NewIn fs ps
NewIn (in_handler rest cleanup ∷ fs) ps = IsNewCleanup (names_at ps) cleanup × NewIn fs ps
NewIn (in_cleanup outcome ∷ fs) ps = NewIn fs ps
NewIn (_ ∷ fs) [] = NewIn fs []

-- and so has the block of what a task asked
abbrev pub NewStop : Option Stopped → List Place → Type 0
NewStop None ps = Unit {0}
NewStop (Some (queued name ask since body)) ps = AreNew (names_at ps) body
NewStop (Some _) ps = Unit {0}

-- and for each child begun
abbrev pub AllNew : List Begun → Type 0
AllNew [] = Unit {0}
AllNew (b ∷ bs) = AreNew (names_at b.places) b.body × OwnNames (names_at b.places) × AllNew bs

-- What a move keeps: no scope is entered that has the name of an enclosing one, by the task and by the children begun.
pub record StaysNew (o : Move) : Type 0 where
  pub frames : NewIn o.frames (outer_places o.stopped o.places)
  pub stop : NewStop o.stopped o.places
  pub own : OwnNames (names_at o.places)
  pub begun : AllNew o.begun
