-- A job text in finer ticks, and with one site moved by a hair.
use Rattle.std.specs.Prelude.{ℕ, ◌+◌, ◌-◌, ◌*◌, ◌==◌, Bool, ◌&&◌, max, nat_le, nat_lt, if◌then◌else◌, List, [], ◌∷◌, ◌++◌, Option, Some, None, codes}
use Rattle.std.specs.Io.Iter.{u64_saturate}
use Rattle.job_meaning.specs.declared.clock.Clock.{Clock}
use Rattle.job_meaning.specs.declared.clock.Clock.TheVariants.{ByTicks, ByRounds}
use Rattle.job_edits.specs.declared.change.Piece.TheVariants as piece
use Rattle.job_edits.specs.declared.change.Change.{Change}
use Rattle.job_edits.specs.declared.number.Number.{Number}
use Rattle.job_edits.specs.declared.site.Moment.{Moment}
use Rattle.job_edits.specs.declared.site.Moment.TheVariants.{Sleep, After, At, Checkpoint, Pace, Start, Set, Wait, Asking, Release, Close}
use Rattle.job_edits.specs.declared.site.Site.{Site}
use Rattle.job_edits.specs.declared.finer_ticks.FinerTicks.{FinerTicks}
use Rattle.job_edits.specs.declared.shift.Hair.{Hair}
use Rattle.job_edits.specs.declared.shift.Hair.TheVariants.{Earlier, Later}
use Rattle.job_edits.specs.declared.shift.Shift.{Shift}
use Rattle.job_tokens.specs.declared.token.Token.{Token}
use Rattle.job_edits.specs.Faults.{insertion, insertion_after}
use Rattle.job_edits.specs.Fresh.{fresh_word}
use Rattle.job_edits.specs.Numbers.{set_to}

-- ---- how much finer

-- the number of ticks at a site, or 0 if there is none
abbrev pub ticks_of : Moment → ℕ
ticks_of (Sleep n) = n.value
ticks_of (After name n) = n.value
ticks_of (At name n) = n.value
ticks_of (Checkpoint to) = 0
ticks_of (Pace lines to) = 0
ticks_of (Start name opening) = 0
ticks_of (Set name) = 0
ticks_of (Wait name to) = 0
ticks_of (Asking ask name) = 0
ticks_of (Release name) = 0
ticks_of (Close name) = 0

abbrev pub most_ticks : List Site → ℕ
most_ticks [] = 0
most_ticks (s ∷ ss) = max (ticks_of s.moment) (most_ticks ss)

-- A number of ticks may be multiplied by a factor, and be a hair more then; and the limit, multiplied by it, is before the tick to
-- which `forever` sleeps, so that `forever` ends by the limit in neither text.
abbrev pub fits : ℕ → ℕ → FinerTicks → Bool
fits most limit f = nat_le (most * f.factor + f.hair) 1000000000 && nat_lt (limit * f.factor) 1099511627776

abbrev pub by_thousand : FinerTicks
by_thousand = record { factor = 1000; hair = 100 }

abbrev pub by_hundred : FinerTicks
by_hundred = record { factor = 100; hair = 10 }

abbrev pub by_ten : FinerTicks
by_ten = record { factor = 10; hair = 1 }

-- By ticks, the greatest of 1000, 100 and 10 that fits, and a tenth of it, which is a hair. By rounds, a cancellation takes no
-- tick, so that ten is enough.
abbrev pub finer_ticks_by : Clock → ℕ → ℕ → Option FinerTicks
finer_ticks_by ByTicks most limit =
    if fits most limit by_thousand then Some by_thousand
    else if fits most limit by_hundred then Some by_hundred
    else if fits most limit by_ten then Some by_ten
    else None
finer_ticks_by ByRounds most limit = if fits most limit by_ten then Some by_ten else None

-- how much finer the ticks of a text may be up to a limit: by the text's maximum number of ticks
abbrev pub finer_ticks_for : Clock → ℕ → List Site → Option FinerTicks
finer_ticks_for clock limit sites = finer_ticks_by clock (most_ticks sites) limit

-- ---- finer ticks

abbrev pub ticks_by : FinerTicks → Number → ℕ
ticks_by finer_ticks n = u64_saturate (n.value * finer_ticks.factor)

-- A number of ticks is multiplied; a `pace` is repeated.
abbrev pub finer_changes_at : FinerTicks → ℕ → Moment → List Change
finer_changes_at finer_ticks from (Sleep n) = set_to n (ticks_by finer_ticks n) ∷ []
finer_changes_at finer_ticks from (After name n) = set_to n (ticks_by finer_ticks n) ∷ []
finer_changes_at finer_ticks from (At name n) = set_to n (ticks_by finer_ticks n) ∷ []
finer_changes_at finer_ticks from (Checkpoint to) = []
finer_changes_at finer_ticks from (Pace lines to) = insertion from (piece.OpenRepeat finer_ticks.factor) ∷ insertion_after to piece.Close ∷ []
finer_changes_at finer_ticks from (Start name opening) = []
finer_changes_at finer_ticks from (Set name) = []
finer_changes_at finer_ticks from (Wait name to) = []
finer_changes_at finer_ticks from (Asking ask name) = []
finer_changes_at finer_ticks from (Release name) = []
finer_changes_at finer_ticks from (Close name) = []

abbrev pub finer_changes_in : FinerTicks → List Site → List Change
finer_changes_in finer_ticks [] = []
finer_changes_in finer_ticks (s ∷ ss) = finer_changes_at finer_ticks s.from s.moment ++ finer_changes_in finer_ticks ss

-- the digit of the first line that is the number of the format
abbrev pub in_format_2 : Change
in_format_2 = record { from = 9; to = 10; piece = piece.Number 2 }

-- The change of the first line: a text whose time is counted by ticks gets format 2, and any other keeps its first line.
abbrev pub version_changes : Clock → List Change
version_changes ByTicks = in_format_2 ∷ []
version_changes ByRounds = []

abbrev pub finer_changes : Clock → FinerTicks → List Site → List Change
finer_changes clock finer_ticks sites = version_changes clock ++ finer_changes_in finer_ticks sites

-- ---- a hair

-- a number of ticks may be a hair less, if it is not 0, or a hair more; everything else can only take a hair more
abbrev pub hairs_by : ℕ → List Hair
hairs_by ticks = if ticks == 0 then Later ∷ [] else Earlier ∷ Later ∷ []

abbrev pub hairs_of : Moment → List Hair
hairs_of m = hairs_by (ticks_of m)

abbrev pub shifts_with : Site → List Hair → List Shift
shifts_with site [] = []
shifts_with site (h ∷ hs) = record { site = site; hair = h } ∷ shifts_with site hs

-- each shift of each site, in the order of the sites
abbrev pub shifts_of : List Site → List Shift
shifts_of [] = []
shifts_of (s ∷ ss) = shifts_with s (hairs_of s.moment) ++ shifts_of ss

abbrev pub moved_ticks : FinerTicks → Number → Hair → ℕ
moved_ticks finer_ticks n Earlier = ticks_by finer_ticks n - finer_ticks.hair
moved_ticks finer_ticks n Later = u64_saturate (ticks_by finer_ticks n + finer_ticks.hair)

-- The name of the scope in which there is a sleep of a hair before a `set`, for example. It is meant to be new in the text
-- (`fresh_word`).
abbrev pub hair_scope : List Token → List ℕ
hair_scope tokens = fresh_word (codes "hair") tokens

-- A number of ticks is moved; in place of a `checkpoint` there is a sleep of a hair; a `pace` and a `wait` sleep a hair after their
-- end, and a task at its start. Before a step that asks a limiter or channel for something there is a sleep of a hair, too. Before a
-- `set` or `close`, and at the end of the block of an `acquire`, it is in a shielded scope with the given name: so it is no point at which
-- the task can be cancelled.
abbrev pub shifted_at : FinerTicks → (scope : List ℕ) → Hair → ℕ → Moment → List Change
shifted_at finer_ticks scope hair from (Sleep n) = set_to n (moved_ticks finer_ticks n hair) ∷ []
shifted_at finer_ticks scope hair from (After name n) = set_to n (moved_ticks finer_ticks n hair) ∷ []
shifted_at finer_ticks scope hair from (At name n) = set_to n (moved_ticks finer_ticks n hair) ∷ []
shifted_at finer_ticks scope hair from (Checkpoint to) = record { from = from; to = to; piece = piece.Sleep finer_ticks.hair } ∷ []
shifted_at finer_ticks scope hair from (Pace lines to) =
    insertion from (piece.OpenRepeat finer_ticks.factor) ∷ insertion_after to piece.Close ∷ insertion_after to (piece.ThenSleep finer_ticks.hair) ∷ []
shifted_at finer_ticks scope hair from (Start name opening) = insertion_after opening (piece.ThenSleep finer_ticks.hair) ∷ []
shifted_at finer_ticks scope hair from (Set name) = insertion from (piece.ShieldedSleep scope finer_ticks.hair) ∷ []
shifted_at finer_ticks scope hair from (Wait name to) = insertion_after to (piece.ThenSleep finer_ticks.hair) ∷ []
shifted_at finer_ticks scope hair from (Asking ask name) = insertion from (piece.SleepBefore finer_ticks.hair) ∷ []
shifted_at finer_ticks scope hair from (Release name) = insertion from (piece.ShieldedSleep scope finer_ticks.hair) ∷ []
shifted_at finer_ticks scope hair from (Close name) = insertion from (piece.ShieldedSleep scope finer_ticks.hair) ∷ []

-- a site, which may be the one that is moved by a hair
abbrev pub shifted_or_finer_changes : FinerTicks → List ℕ → Shift → Site → List Change
shifted_or_finer_changes finer_ticks scope shift site =
    if site.from == shift.site.from then shifted_at finer_ticks scope shift.hair site.from site.moment else finer_changes_at finer_ticks site.from site.moment

abbrev pub shifted_all : FinerTicks → List ℕ → Shift → List Site → List Change
shifted_all finer_ticks scope shift [] = []
shifted_all finer_ticks scope shift (s ∷ ss) = shifted_or_finer_changes finer_ticks scope shift s ++ shifted_all finer_ticks scope shift ss

-- finer ticks, and one site moved by a hair
abbrev pub shifted_changes : Clock → FinerTicks → List ℕ → Shift → List Site → List Change
shifted_changes clock finer_ticks scope shift sites = version_changes clock ++ shifted_all finer_ticks scope shift sites
