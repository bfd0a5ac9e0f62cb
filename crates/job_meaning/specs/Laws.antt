-- The laws of the definitions. Each is the contract of a function that does nothing.
use Rattle.std.specs.Prelude.{◌≡◌, ℕ, ◌≤◌, Bool, false, IsTrue, Option, Some, None, List, [], ◌∷◌, length}
use Rattle.job_tree.specs.declared.format.Format.TheVariants.{Two}
use Rattle.job_tree.specs.Tree.{Steps, Tree}
use Rattle.job_tree.specs.Formats.{in_format}
use Rattle.job_tree.specs.Names.{GivesNamesOnce}
use Rattle.job_tree.specs.InRange.{IsInRange}
use Rattle.exceptions.specs.Exceptions.{Label, Exc, holds_cancelled}
use Rattle.cancel_scopes.specs.Sight.{Tick, seen}
use Rattle.job_meaning.specs.Moments.{clock_of, Now, only_at}
use Rattle.job_meaning.specs.declared.clock.Clock.TheVariants.{ByTicks as by_ticks}
use Rattle.job_meaning.specs.Walk.{Levels, Stack, Mode, Here, walk}
use Rattle.job_meaning.specs.Log.{Table, times_given}
use Rattle.job_meaning.specs.Sharing.{Grants}
use Rattle.job_meaning.specs.Meaning.{root_walk, root_log, meaning, meaning_grants, meaning_table, meaning_records, meaning_end, meaning_cancelled_from}
use Rattle.job_meaning.specs.Follow.{follow, IsSettled}
use Rattle.job_meaning.specs.Before.{Near, NearModes, Agree}
use Rattle.job_meaning.specs.declared.limits.TheConstants.{MAX_INPUT, LAST_TICK}

-- one tick is at most another, where each may be never
abbrev pub AtMost : Tick → Tick → Type 0
AtMost t None = Unit {0}
AtMost None (Some u) = ⊥
AtMost (Some t) (Some u) = t ≤ u

-- two stacks have the same labels and shields, and each from of the second is at most that of the first
abbrev pub Lowered : Levels → Levels → Type 0
Lowered [] [] = Unit {0}
Lowered (l ∷ ls) (k ∷ ks) = (l.label ≡ k.label) × (l.shield ≡ k.shield) × AtMost k.from l.from × Lowered ls ks
Lowered [] (k ∷ ks) = ⊥
Lowered (l ∷ ls) [] = ⊥

-- what is seen at a tick is seen at every later one
abbrev pub StaysSeen : Type 0
StaysSeen = (stack : Levels) (t u : ℕ) → t ≤ u → IsTrue (seen stack t) → IsTrue (seen stack u)

-- lowering a from hides nothing
abbrev pub LoweringShows : Type 0
LoweringShows = (stack lowered : Levels) (t : ℕ) → Lowered stack lowered → IsTrue (seen stack t) → IsTrue (seen lowered t)

-- whether an outcome holds a `Cancelled`
abbrev pub some_cancelled : Option Exc → Bool
some_cancelled None = false
some_cancelled (Some e) = holds_cancelled e

-- By ticks, a walk whose exception holds a `Cancelled` ends in a tick at which its stack is seen.
--
-- By rounds that is false for an arbitrary table. There a task sees at once what it cancels itself, and only in that moment:
-- later it sees it by the table, and a table may say that the label is never cancelled. In
-- `scope a { try { scope b after 1 { try { forever; } finally { cancel a; } } } finally { scope c shield { sleep 5; } } }`
-- the scope b does not catch, since the task has just cancelled a; five ticks later a is not seen, and a does not catch either.
abbrev pub CancelledIsSeen : Type 0
CancelledIsSeen =
    (mode : Mode) (steps : Steps) (here : Here) (stack : Stack) (t : ℕ) → here.clock ≡ by_ticks →
    let r = walk mode steps here stack (only_at t) in
    IsTrue (some_cancelled r.exc) → IsTrue (seen stack.scopes r.end)

-- So no `Cancelled` leaves a job of format 1 or 2, which go by ticks.
abbrev pub NoneReachesTheRoot : Type 0
NoneReachesTheRoot =
    (mode : Mode) (job : Tree) (input : List ℕ) → clock_of job.format ≡ by_ticks → some_cancelled (root_walk mode job input).exc ≡ false

-- A cancellation or a grant from moment c on changes nothing before c: on two stacks that agree except where both moments of
-- cancellation are at least c, and with grants that agree before c, a walk does the same in all moments before c.
abbrev pub NothingBeforeItsCause : Type 0
NothingBeforeItsCause =
    (c : ℕ) (mode other_mode : Mode) (steps : Steps) (here : Here) (stack other : Stack) (now : Now) →
    NearModes c mode other_mode → Near c stack other → Agree c (walk mode steps here stack now) (walk other_mode steps here other now)

-- where names are given once, following the table of the meaning is the meaning
abbrev pub FollowingIsMeaning : Type 0
FollowingIsMeaning =
    (job : Tree) (input : List ℕ) → GivesNamesOnce job →
    follow (meaning_table job input) (meaning_grants job input) job input ≡ meaning job input

-- so these tables are settled, where the job ends by the last tick
abbrev pub TableIsSettled : Type 0
TableIsSettled =
    (job : Tree) (input : List ℕ) → GivesNamesOnce job → IsInRange job → length input ≤ MAX_INPUT →
    IsSettled (meaning_table job input) (meaning_grants job input) job input

-- following any settled tables is the meaning
abbrev pub FollowingSettledIsMeaning : Type 0
FollowingSettledIsMeaning =
    (table : Table) (grants : Grants) (job : Tree) (input : List ℕ) → GivesNamesOnce job → IsInRange job → length input ≤ MAX_INPUT →
    IsSettled table grants job input → follow table grants job input ≡ meaning job input

-- so there is one settled pair of tables: any two agree on every label and every grant
abbrev pub OneTableIsSettled : Type 0
OneTableIsSettled =
    (table other : Table) (grants other_grants : Grants) (job : Tree) (input : List ℕ) → GivesNamesOnce job →
    IsSettled table grants job input → IsSettled other other_grants job input →
    ((l : Label) → table l ≡ other l) × ((object asker : Label) (m : ℕ) → grants object asker m ≡ other_grants object asker m)

-- where names are given once, no label of a scope, a nursery or a task is given twice: by the meaning, and by any table
abbrev pub LabelsAreGivenOnce : Type 0
LabelsAreGivenOnce =
    (mode : Mode) (job : Tree) (input : List ℕ) → GivesNamesOnce job → (l : Label) →
    times_given l (root_log job (root_walk mode job input)) ≤ 1

-- A job of format 1 or 2 and its upgrade to format 2 mean the same: their records, their end and their moments of cancellation,
-- over every input. Format 3 counts time by rounds, so there a cancellation may be seen earlier.
abbrev pub UpgradingKeepsTheMeaning : Type 0
UpgradingKeepsTheMeaning =
    (job : Tree) (input : List ℕ) → clock_of job.format ≡ by_ticks →
    let upgrade = in_format Two job in
    (meaning upgrade input ≡ meaning job input) × (meaning_records upgrade input ≡ meaning_records job input)
    × (meaning_end upgrade input ≡ meaning_end job input) × (meaning_cancelled_from upgrade input ≡ meaning_cancelled_from job input)

-- a job whose numbers are in their ranges ends by the last tick
abbrev pub EndsByTheLastTick : Type 0
EndsByTheLastTick = (job : Tree) (input : List ℕ) → IsInRange job → length input ≤ MAX_INPUT → meaning_end job input ≤ LAST_TICK
