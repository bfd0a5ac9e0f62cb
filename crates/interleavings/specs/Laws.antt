-- The laws of runs in turns. They are the contract of a function that does nothing.
use Rattle.std.specs.Prelude.{◌≡◌, ◌⊎◌, true, ℕ, ◌+◌, ◌*◌, ◌%◌, ◌<◌, ◌≤◌, suc, Some, List, [], ◌∷◌, length}
use Rattle.turn_semantics.specs.Lists.{IsAmong}
use Rattle.exceptions.specs.Exceptions.{Label}
use Rattle.job_tree.specs.Tree.{Tree}
use Rattle.job_tree.specs.Names.{GivesNamesOnce, size_of}
use Rattle.job_tree.specs.Starting.{StartsInNurseries}
use Rattle.job_tree.specs.InRange.{IsInRange}
use Rattle.job_meaning.specs.Log.{Table}
use Rattle.job_meaning.specs.Sharing.{granted_before}
use Rattle.job_meaning.specs.declared.limits.TheConstants.{MAX_INPUT}
use Rattle.job_meaning.specs.Moments.{clock_of, rounds_in_a_tick, tick_of, a_round_after}
use Rattle.job_meaning.specs.declared.clock.Clock.TheVariants.{ByRounds as by_rounds}
use Rattle.job_meaning.specs.Meaning.{root_label, meaning_records, meaning_cancelled_from, meaning_end}
pub use Rattle.job_meaning.specs.Tables.{meaning_tables}
use Rattle.job_meaning.specs.Follow.{IsSettled}
use Rattle.job_meaning.specs.Rest.{Stopped, to_begin, awaiting, at_end}
use Rattle.turn_semantics.specs.Midway.{Place, Tables}
use Rattle.turn_semantics.specs.Placed.{PlacedStop, home_after, KidsAfter, HasChildAfter}
use Rattle.turn_semantics.specs.Turned.{AgreesOn, labels_of, EntersIn}
use Rattle.interleavings.specs.Interleaving.{Started, EachPlace, RunInvariant, live, AllFrom, Blocked, Settling}
use Rattle.interleavings.specs.Going.{root_result}
use Rattle.interleavings.specs.Runs.{keeping, Reached, turns_taken, all_weights}
use Rattle.interleavings.specs.Acts.{InOrder, granted_so_far}
use Rattle.interleavings.specs.Rows.{Row, HasRow, records_by, cancelled_from_in, DepthFirst}

-- two tables are settled
abbrev pub IsSettledBy : Tables → Tree → List ℕ → Type 0
IsSettledBy k job input = IsSettled k.cancelled_from k.granted job input

-- Each turn reduces the weight, so a run has at most as many turns as the initial weight of the root, which is twice the
-- job's size plus one.
abbrev pub RunsEnd : Type 0
RunsEnd =
    (k : Tables) (job : Tree) (input : List ℕ) (f : Table) (t m : ℕ) (qs : List Started) → (r : Reached k job input f t m qs) →
    turns_taken r + all_weights qs ≤ 2 * size_of job.steps + 1

-- the round of a moment in its tick, where a tick has rounds
abbrev pub round_of : ℕ → ℕ
round_of m = m % rounds_in_a_tick

-- By rounds, the round in which a task stopped last, or in which it begins, is at most the weight that the turns so far have taken off. A turn
-- takes off one at least, and one more where an ask is refused, since its task gives up two rounds later.
abbrev pub RoundsAreFew : Type 0
RoundsAreFew =
    (k : Tables) (job : Tree) (input : List ℕ) → GivesNamesOnce job → StartsInNurseries job → IsSettledBy k job input → clock_of job.format ≡ by_rounds →
    (f : Table) (t m : ℕ) (qs : List Started) → Reached k job input f t m qs → (q : Started) → IsAmong q qs →
    round_of q.stop.at + all_weights qs ≤ 2 * size_of job.steps + 1

-- A run of a job of at most a million steps, those of children included, has fewer turns than a tick has rounds. So no round
-- overflows into the next tick: the moment a round after a task stopped or begins is in the same tick.
abbrev pub RoundsStayInTicks : Type 0
RoundsStayInTicks =
    (k : Tables) (job : Tree) (input : List ℕ) → GivesNamesOnce job → StartsInNurseries job → IsSettledBy k job input → size_of job.steps ≤ 1000000 →
    (f : Table) (t m : ℕ) (qs : List Started) → Reached k job input f t m qs → (q : Started) → IsAmong q qs →
    tick_of (clock_of job.format) (a_round_after (clock_of job.format) q.stop.at) ≡ tick_of (clock_of job.format) q.stop.at

-- The task that has another task in one of its nurseries: it was started earlier, and the other task has this serial
-- number. The scopes and nurseries of that task's home are this nursery and those that enclose it.
pub record Home (qs : List Started) (serial : ℕ) (home : List Place) : Type 0 where
  pub starter : Started
  pub among : IsAmong starter qs
  pub earlier : starter.serial < serial
  pub number : ℕ
  pub same : serial ≡ starter.child number
  pub has : HasChildAfter number home (Some starter.rest.stopped) starter.rest.frames starter.places

-- a task's home: the scopes and nurseries outside those of its own frames
abbrev pub home_of : Started → List Place
home_of q = home_after (Some q.rest.stopped) q.rest.frames q.places

-- What holds of each task of a run: its frames fit the scopes and nurseries that enclose it, the children of its
-- nurseries are those that it started, and the scopes and nurseries that enclose it are its own or its home's. While it
-- has not ended it is the root, which has no home, or it is in an unsettled nursery of another task.
pub record IsHoused (qs : List Started) (q : Started) : Type 0 where
  pub placed : PlacedStop q.rest.stopped q.rest.frames q.places
  pub kids : KidsAfter q.count (Some q.rest.stopped) q.rest.frames
  pub own : EachPlace (λ l. EntersIn l q.made ⊎ IsAmong l (labels_of (home_of q))) q.places
  pub home : live q.rest.stopped ≡ true → ((q.serial ≡ 0) × (home_of q ≡ [])) ⊎ Home qs q.serial (home_of q)

abbrev pub TasksAreHoused : Type 0
TasksAreHoused =
    (k : Tables) (job : Tree) (input : List ℕ) → StartsInNurseries job →
    (f : Table) (t m : ℕ) (qs : List Started) → Reached k job input f t m qs → (q : Started) → IsAmong q qs → IsHoused qs q

-- A scope or nursery that encloses a live task has not been left by the task that entered it: so the task that leaves one
-- is the last one in it.
abbrev pub LastToLeave : Type 0
LastToLeave =
    (k : Tables) (job : Tree) (input : List ℕ) → GivesNamesOnce job → StartsInNurseries job → IsSettledBy k job input →
    (f : Table) (t m : ℕ) (qs : List Started) → Reached k job input f t m qs → (l : Label) (q : Started) → IsAmong q qs → EntersIn l q.made →
    (x : Started) → IsAmong x qs → live x.rest.stopped ≡ true → IsAmong l (labels_of x.places) → IsAmong l (labels_of q.places)

-- For each settled table a run agrees with it: nothing that was not done yet happens before the moment, and the table agrees
-- there with the moments of cancellation that the run keeps, for the scopes and nurseries that enclose each task. The result of
-- the root is that of following the table, but for what it has cancelled itself in the moment of its end.
abbrev pub RunsKeepInvariant : Type 0
RunsKeepInvariant =
    (k : Tables) (job : Tree) (input : List ℕ) → IsSettledBy k job input → GivesNamesOnce job → StartsInNurseries job →
    (f : Table) (t m : ℕ) (qs : List Started) → Reached k job input f t m qs →
    RunInvariant k f (root_result k job input) qs × AllFrom k qs t × ((q : Started) → IsAmong q qs → AgreesOn t k.cancelled_from f q.places)

-- What limiters and channels grant up to a moment before which nothing happens that was not done yet is what they grant by what was done
-- to them in the moments before it, in the order of records. So a program that serves what is done in each round grants what any settled
-- tables say.
abbrev pub GrantsAreKnown : Type 0
GrantsAreKnown =
    (k : Tables) (job : Tree) (input : List ℕ) → GivesNamesOnce job → StartsInNurseries job → IsSettledBy k job input →
    (f : Table) (t m : ℕ) (qs : List Started) → Reached k job input f t m qs → (v : ℕ) → AllFrom k qs v →
    (taken : List Started) → InOrder qs (0 ∷ []) taken → (object asker : Label) (since : ℕ) →
    granted_before (suc v) (k.granted object asker since) ≡ granted_before (suc v) (granted_so_far taken object asker since)

-- The tasks of a run have an order, that of the records.
abbrev pub OrdersExist : Type 0
OrdersExist =
    (k : Tables) (job : Tree) (input : List ℕ) → GivesNamesOnce job → StartsInNurseries job → IsSettledBy k job input →
    (f : Table) (t m : ℕ) (qs : List Started) → Reached k job input f t m qs → (taken : List Started) × InOrder qs (0 ∷ []) taken

-- a run in which all tasks have ended has what the job means: its records, its moments of cancellation and its end
abbrev pub RunsAreTheMeaning : Type 0
RunsAreTheMeaning =
    (job : Tree) (input : List ℕ) → GivesNamesOnce job → IsInRange job → length input ≤ MAX_INPUT → StartsInNurseries job →
    (f : Table) (t m : ℕ) (qs : List Started) → Reached (meaning_tables job input) job input f t m qs →
    (rows : ℕ → Row) → ((q : Started) → IsAmong q qs → HasRow (clock_of job.format) f rows q) → (rows 0).label ≡ root_label job.name → (rows 0).start ≡ 0 →
    (taken : List ℕ) → DepthFirst rows (0 ∷ []) taken →
    (records_by rows taken ≡ meaning_records job input) × (cancelled_from_in rows taken ≡ meaning_cancelled_from job input)
    × ((rows 0).end ≡ meaning_end job input)

-- a task waits for no child that has not ended, and has not ended itself
abbrev pub HasNextTurn : List Started → Started → Stopped → Type 0
HasNextTurn qs q to_begin = Unit {0}
HasNextTurn qs q (awaiting children ended exc) = Settling qs q children ended 0
HasNextTurn qs q (at_end u e) = ⊥
HasNextTurn qs q _ = Unit {0}

-- some task has a next turn
pub record GoesOn (qs : List Started) : Type 0 where
  pub next : Started
  pub among : IsAmong next qs
  pub has : HasNextTurn qs next next.rest.stopped

-- If each task has its next turn in some moment or later, and one has not ended, then one has a next turn: so the clock has a
-- moment to jump to.
abbrev pub BlockedRunsGoOn : Type 0
BlockedRunsGoOn =
    (k : Tables) (job : Tree) (input : List ℕ) → GivesNamesOnce job → StartsInNurseries job → IsSettledBy k job input →
    (f : Table) (t m : ℕ) (qs : List Started) → Reached k job input f t m qs → (u : ℕ) → Blocked (keeping f k) qs u →
    (q : Started) → IsAmong q qs → live q.rest.stopped ≡ true → GoesOn qs

-- If a task of a run has not ended, the job does not end before the present tick. So if a run stops at a limit because
-- the clock would jump past it, the job's end is past the limit.
abbrev pub LimitsAreExact : Type 0
LimitsAreExact =
    (job : Tree) (input : List ℕ) → GivesNamesOnce job → IsInRange job → length input ≤ MAX_INPUT → StartsInNurseries job →
    (f : Table) (t m : ℕ) (qs : List Started) → Reached (meaning_tables job input) job input f t m qs →
    (q : Started) → IsAmong q qs → live q.rest.stopped ≡ true → tick_of (clock_of job.format) t ≤ meaning_end job input
