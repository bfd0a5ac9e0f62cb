-- The result of moving the places of a text by a hair.
use Rattle.std.specs.Prelude.{◌≡◌, ℕ, ◌*◌, ◌≤◌, Some, None, List, length, map}
use Rattle.std.specs.Io.Iter.{u64_saturate}
use Rattle.job_tree.specs.Tree.{Tree}
use Rattle.job_tokens.specs.declared.token.Token.{Token}
use Rattle.job_reader.specs.Refusals.{Spells, HasTokens}
use Rattle.job_meaning.specs.Moments.{clock_of}
use Rattle.job_meaning.specs.Meaning.{meaning_end}
use Rattle.job_answers.specs.Endings.{IsEnding}
use Rattle.job_answers.specs.declared.meaning.Ending.TheVariants as ending
use Rattle.job_edits.specs.Sites.{sites_in}
use Rattle.job_edits.specs.Copied.{copied_in}
use Rattle.job_edits.specs.FinerTicks.{finer_ticks_for, hair_scope, shifts_of}
use Rattle.job_edits.specs.declared.finer_ticks.FinerTicks.{FinerTicks}
use Rattle.race_text.specs.Lines.{Line}
use Rattle.race_text.specs.LineViews.{line_held}
use Rattle.trials.specs.TextRuns.{text_run_of}
use Rattle.trials.specs.Lines.{AreLines}
use Rattle.trials.specs.declared.races.RaceAnswer.{RaceAnswer}
use Rattle.trials.specs.declared.races.RaceAnswer.TheVariants.{Lines, Limit, NoFinerTicks}

-- the job that the text spells ends by the limit, and these are the lines of all hairs of all places of the text, `hairs` of them
pub record AreRaceLines (text input : List ℕ) (limit : ℕ) (hairs : ℕ) (lines : List Line) : Type 0 where
  pub job : Tree
  pub spells : Spells text job
  pub in_time : meaning_end job input ≤ limit
  pub tokens : List Token
  pub tokens_are : HasTokens text tokens None
  pub f : FinerTicks
  pub finer_ticks_are : finer_ticks_for (clock_of job.format) limit (sites_in tokens) ≡ Some f
  pub lines_are :
      AreLines (clock_of job.format) text input (u64_saturate (limit * f.factor)) f (hair_scope tokens) (sites_in tokens) (copied_in tokens)
      (text_run_of limit job input) lines
  pub hairs_are : hairs ≡ length (shifts_of (sites_in tokens))

-- the job that the text spells does not end by the limit
pub record IsLate (text input : List ℕ) (limit : ℕ) : Type 0 where
  pub job : Tree
  pub spells : Spells text job
  pub late : IsEnding job input limit ending.Late

-- the job that the text spells ends by the limit, and some number of its ticks is too large to be made finer
pub record HasNoFinerTicks (text input : List ℕ) (limit : ℕ) : Type 0 where
  pub job : Tree
  pub spells : Spells text job
  pub in_time : meaning_end job input ≤ limit
  pub tokens : List Token
  pub tokens_are : HasTokens text tokens None
  pub none : finer_ticks_for (clock_of job.format) limit (sites_in tokens) ≡ None

-- ---- the values of the code

abbrev pub IsRaceAnswer : List ℕ → List ℕ → ℕ → RaceAnswer → Type 0
IsRaceAnswer text input limit (Lines found) = AreRaceLines text input limit found.hairs (map line_held found.lines.items)
IsRaceAnswer text input limit Limit = IsLate text input limit
IsRaceAnswer text input limit NoFinerTicks = HasNoFinerTicks text input limit
