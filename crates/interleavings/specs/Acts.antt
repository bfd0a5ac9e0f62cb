-- What the tasks of a run did to limiters and channels so far, in the order of records.
use Rattle.std.specs.Prelude.{ℕ, true, Option, Some, None, List, [], ◌∷◌, ◌++◌}
use Rattle.job_tree.specs.declared.object.Ask.{Ask}
use Rattle.exceptions.specs.Exceptions.{Label}
use Rattle.job_meaning.specs.Log.{asks, same_label}
use Rattle.job_meaning.specs.Walk.{Here}
use Rattle.job_meaning.specs.Sharing.{Done, done_if, by_moment, unopened, serve_acts, find_given, Grants}
use Rattle.job_meaning.specs.Rest.{Event, acts, Frame, inside, Stopped, queued}
use Rattle.turn_semantics.specs.Lists.{IsAmong}
use Rattle.turn_semantics.specs.Midway.{Place, label_among}
use Rattle.interleavings.specs.Interleaving.{Started}
use Rattle.interleavings.specs.Rows.{children_made}

-- what a task did to the object of a label, by its events
abbrev pub acts_made : Label → Label → List Event → List Done
acts_made l t [] = []
acts_made l t (acts k m a ∷ es) = done_if (same_label l k) (record { at = m; task = t; act = a }) (acts_made l t es)
acts_made l t (_ ∷ es) = acts_made l t es

abbrev pub asked_on : Label → Option Label → Label → Here → Ask → ℕ → List Done
asked_on l None t here ask since = []
asked_on l (Some k) t here ask since = done_if (same_label l k) (record { at = since; task = t; act = asks ask here.part None }) []

-- and what it asked, if it is still in the queue
abbrev pub acts_pending : Label → Here → List Frame → List Place → Stopped → List Done
acts_pending l here fs ps (queued object ask since body) = asked_on l (label_among true object ps) here.task (inside fs here) ask since
acts_pending l here fs ps _ = []

abbrev pub acts_of : Label → Started → List Done
acts_of l q = acts_made l q.here.task q.made ++ acts_pending l q.here q.rest.frames q.places q.rest.stopped

abbrev pub acts_of_all : Label → List Started → List Done
acts_of_all l [] = []
acts_of_all l (q ∷ qs) = acts_of l q ++ acts_of_all l qs

-- From a stack of serial numbers, first to last: the task with that number is taken and its children are pushed, until it is empty. So each
-- task is followed by its descendants, as in the records.
pub data InOrder (qs : List Started) : List ℕ → List Started → Type 0 where
  all_taken : InOrder qs [] []
  next_taken :
      (q : Started) (stack : List ℕ) (taken : List Started) → IsAmong q qs → InOrder qs (children_made q.child q.made ++ stack) taken →
      InOrder qs (q.serial ∷ stack) (q ∷ taken)

-- what was granted by what these tasks did
abbrev pub granted_so_far : List Started → Grants
granted_so_far taken object asker m = find_given asker m (serve_acts unopened (by_moment (acts_of_all object taken)))
