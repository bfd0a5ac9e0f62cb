-- The runs of the code, and what holds of what the code builds on its way.
use Rattle.std.specs.Prelude.{◌≡◌, ◌≤◌, ℕ, nat_le, Result, Ok, Err, List, ◌∷◌, ◌++◌, length, map}
use Rattle.std.specs.Borrow.{Bor}
use Rattle.job_tree.specs.Tree.{Tree}
use Rattle.job_reader.specs.declared.fault.JobFault.{JobFault}
use Rattle.job_meaning.specs.declared.limits.TheConstants.{MAX_INPUT}
use Rattle.task_table.specs.Records.{row_in}
use Rattle.outcomes.specs.JobOutcomes.{walked_events}
use Rattle.job_edits.specs.FinerTicks.{shifts_of}
use Rattle.job_edits.specs.declared.shift.Shift.{Shift}
use Rattle.workers.specs.Answers.{AreAnswers}
use Rattle.job_runner.specs.Runs.{rows_of, root_end}
use Rattle.job_runner.specs.declared.finished.Run.{Run}
use Rattle.race_text.specs.declared.runs.ComparedRun as held
use Rattle.race_text.specs.Lines as race_lines
use Rattle.race_text.specs.LineViews.{line_held}
use Rattle.race_text.specs.declared.line.Line.{Line}
use Rattle.trials.specs.TextRuns.{TextRun, refused, ran, text_run_of, found_between}
use Rattle.trials.specs.Lines.{IsMoved, copies_lines, AreLines}
use Rattle.trials.specs.declared.original.Original.{Original}
use Rattle.trials.specs.declared.moves.Moves.{Moves}

abbrev pub text_run_seen : held.ComparedRun → TextRun
text_run_seen r = ran r.in_time (map row_in r.records.now)

-- a run that is borrowed, or the refusal of the text
abbrev pub text_run_held : Result (Bor held.ComparedRun) JobFault → TextRun
text_run_held (Ok r) = text_run_seen r.now
text_run_held (Err fault) = refused fault

-- a run up to a limit
abbrev pub text_run_by : ℕ → Run → TextRun
text_run_by limit run = ran (nat_le (root_end (rows_of run)) limit) (rows_of run)

-- the input is not longer than the maximum
abbrev pub HasRoom : Moves → Type 0
HasRoom moves = length moves.original.input.now ≤ MAX_INPUT

-- the line of a place that is moved by a hair is right
abbrev pub IsMovedBy : Original → List ℕ → TextRun → Shift → race_lines.Line → Type 0
IsMovedBy original input before shift line =
    IsMoved original.clock original.text.now input original.limit original.finer_ticks original.scope.now original.sites.now before shift line

abbrev pub IsMovedOf : Moves → Shift → Line → Type 0
IsMovedOf moves shift line = IsMovedBy moves.original moves.original.input.now (text_run_held moves.before) shift (line_held line)

-- all lines of a text
abbrev pub AreLinesOf : Original → List ℕ → TextRun → List race_lines.Line → Type 0
AreLinesOf original input first lines =
    AreLines original.clock original.text.now input original.limit original.finer_ticks original.scope.now original.sites.now original.starts.now first lines

-- the lines of a text in finer ticks and of all hairs, given its own run and the one in finer ticks
pub record AreLinesOfRun (original : Original) (input : List ℕ) (first before : TextRun) (lines : List race_lines.Line) : Type 0 where
  pub moves : List race_lines.Line
  pub moves_are : AreAnswers (IsMovedBy original input before) (shifts_of original.sites.now) moves
  pub all : lines ≡ race_lines.in_finer_ticks (found_between original.scope.now first before) ∷ moves

-- all lines of a text whose text in finer ticks spells this job
pub record AreLinesFor (original : Original) (input : List ℕ) (first : TextRun) (job : Tree) (lines : List race_lines.Line) : Type 0 where
  pub moves : List race_lines.Line
  pub moves_are : AreAnswers (IsMovedBy original input (text_run_of original.limit job input)) (shifts_of original.sites.now) moves
  pub all :
      lines ≡ race_lines.in_finer_ticks (found_between original.scope.now first (text_run_of original.limit job input))
      ∷ (moves ++ copies_lines original.clock original.text.now original.limit original.finer_ticks (walked_events job input) original.starts.now)

-- all lines of a text whose text in finer ticks is refused
pub record AreLinesOfRefused (original : Original) (input : List ℕ) (fault : JobFault) (lines : List race_lines.Line) : Type 0 where
  pub moves : List race_lines.Line
  pub moves_are : AreAnswers (IsMovedBy original input (refused fault)) (shifts_of original.sites.now) moves
  pub all : lines ≡ race_lines.in_finer_ticks (race_lines.not_tried fault) ∷ moves
