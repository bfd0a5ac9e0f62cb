-- The lines of `races` for a job text.
use Rattle.std.specs.Prelude.{◌≡◌, ℕ, ◌/◌, nat_le, if◌then◌else◌, Option, Some, None, List, [], ◌∷◌, ◌++◌}
use Rattle.job_meaning.specs.declared.clock.Clock.{Clock}
use Rattle.job_story.specs.Events.{Event}
use Rattle.job_edits.specs.Changes.{changed_text}
use Rattle.job_edits.specs.FinerTicks.{finer_changes, shifted_changes, shifts_of}
use Rattle.job_edits.specs.declared.site.Site.{Site}
use Rattle.job_edits.specs.declared.copied.CopiedStart.{CopiedStart}
use Rattle.job_edits.specs.declared.finer_ticks.FinerTicks.{FinerTicks}
use Rattle.job_edits.specs.declared.shift.Shift.{Shift}
use Rattle.basics.specs.Places.{line_of, column_of}
use Rattle.workers.specs.Answers.{AreAnswers}
use Rattle.race_text.specs.Copies.{Meeting, meeting_in}
use Rattle.race_text.specs.Lines.{Found, Line, in_finer_ticks, moved, copies}
use Rattle.trials.specs.TextRuns.{TextRun, IsTextRun, IsComparison, found_between}

-- ---- one place moved by a hair

-- A line compares the text in finer ticks, with one place moved by a hair, with the text in finer ticks alone. The limit is in
-- finer ticks. `scope` is the name of the scope in which a hair before a `set` is.
abbrev pub IsMoved : Clock → List ℕ → List ℕ → ℕ → FinerTicks → (scope : List ℕ) → List Site → TextRun → Shift → Line → Type 0
IsMoved clock text input limit f scope sites before shift line =
    (found : Found) × IsComparison scope (changed_text text (shifted_changes clock f scope shift sites)) input limit before found
    × (line ≡ moved (line_of text shift.site.from) (column_of text shift.site.from) shift.site.moment shift.hair found)

-- ---- copies that meet

-- A meeting by the limit; its tick is printed in original ticks.
abbrev pub met_line : List ℕ → ℕ → FinerTicks → CopiedStart → Option Meeting → List Line
met_line text limit f start None = []
met_line text limit f start (Some m) =
    if nat_le m.tick limit
    then copies (line_of text start.from) (column_of text start.from) start.name start.count m.one m.other (m.tick / f.factor) ∷ []
    else []

-- a line for each start whose copies meet in a story of these events
abbrev pub copies_lines : Clock → List ℕ → ℕ → FinerTicks → List Event → List CopiedStart → List Line
copies_lines clock text limit f events [] = []
copies_lines clock text limit f events (c ∷ cs) =
    met_line text limit f c (meeting_in clock f.hair c.name events) ++ copies_lines clock text limit f events cs

-- ---- all

-- The lines of a text with these places and starts of copies, whose time is counted by this clock and whose run is the first one:
-- its text in finer ticks, compared with the original text; then each hair of each place, once and in the order of places; then
-- the copies that meet.
pub record AreLines (clock : Clock) (text input : List ℕ) (limit : ℕ) (f : FinerTicks) (scope : List ℕ) (sites : List Site) (starts : List CopiedStart) (first : TextRun) (lines : List Line) : Type 0 where
  pub before : TextRun
  pub events : List Event
  pub before_is : IsTextRun (changed_text text (finer_changes clock f sites)) input limit before events
  pub moves : List Line
  pub moves_are : AreAnswers (IsMoved clock text input limit f scope sites before) (shifts_of sites) moves
  pub all : lines ≡ in_finer_ticks (found_between scope first before) ∷ (moves ++ copies_lines clock text limit f events starts)
