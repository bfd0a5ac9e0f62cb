-- What is kept of a run, and what holds of a line, for the values of the code.
use Rattle.std.specs.Prelude.{◌≡◌, ◌≤◌, ℕ, List, [], ◌∷◌, length, map}
use Rattle.std.specs.Option.{option_map}
use Rattle.exceptions.specs.Held.{exc_of}
use Rattle.job_tree.specs.Tree.{Tree}
use Rattle.job_meaning.specs.Moments.{clock_of}
use Rattle.job_meaning.specs.Meaning.{meaning, meaning_end}
use Rattle.job_meaning.specs.Shown.{Ending, well, Row, meaning_rows}
use Rattle.job_meaning.specs.declared.limits.TheConstants.{MAX_INPUT}
use Rattle.job_story.specs.Held.{event_of}
use Rattle.outcomes.specs.JobOutcomes.{cancelled_in, walked_events}
use Rattle.outcomes.specs.Views.{job_outcome_held, line_held}
use Rattle.trials.specs.JobOutcomes.{IsTried, IsTriedWhere, IsLine}
use Rattle.outcomes.specs.declared.line.Line.{Line}
use Rattle.job_edits.specs.Faults.{plan_of}
use Rattle.job_edits.specs.Repeated.{repeated_in}
use Rattle.job_edits.specs.Waiting.{waiting_in}
use Rattle.job_edits.specs.declared.fault.Fault.{Fault}
use Rattle.job_edits.specs.declared.fault.Variant.{Variant}
use Rattle.job_edits.specs.declared.waiting.Waiting.{Waiting}
use Rattle.trials.specs.declared.summary.Summary.{Summary}
use Rattle.trials.specs.declared.fault_work.Original.{Original}
use Rattle.trials.specs.declared.trial.Trial.{Trial}
use Rattle.trials.specs.declared.trial.Tried.{Tried}

-- what is kept of a run is what the meaning says
pub record IsSummary (job : Tree) (input : List ℕ) (s : Summary) : Type 0 where
  pub clock : s.clock ≡ clock_of job.format
  pub end : s.end ≡ meaning_end job input
  pub exc : option_map exc_of s.exc ≡ (meaning job input).exc
  pub cancelled : s.cancelled.items ≡ cancelled_in (meaning_rows job input)
  pub events : map event_of s.events.items ≡ walked_events job input

-- how the root task ended; its row is the first
abbrev pub root_ending : List Row → Ending
root_ending [] = well
root_ending (r ∷ rs) = r.ending

-- the input is not longer than the maximum, and the plan, the blocks and the steps are those of the tokens
pub record HasRoom (original : Original) : Type 0 where
  pub room : length original.trial.input.now ≤ MAX_INPUT
  pub plan : original.trial.plan ≡ plan_of original.tokens.now
  pub blocks : original.blocks.now ≡ repeated_in original.tokens.now
  pub steps : original.steps.now ≡ waiting_in original.tokens.now

-- what becomes of a text with a fault of a step
abbrev pub IsTrial : Trial → Waiting → Fault → Tried → Type 0
IsTrial trial step fault t =
    IsTried trial.text.now trial.input.now trial.limit trial.plan step fault (job_outcome_held trial.before.now) (job_outcome_held t.job_outcome)
    t.reached t.differs t.cuts

-- what becomes of the original text with a fault
abbrev pub IsTrialWhere : Original → Variant → Tried → Type 0
IsTrialWhere original v t =
    IsTriedWhere original.trial.text.now original.trial.input.now original.trial.limit original.tokens.now original.roles.now
    (job_outcome_held original.trial.before.now) v v.part (job_outcome_held t.job_outcome) t.reached t.differs t.cuts

-- a line is that of a fault of a step of the original text
abbrev pub IsLineOf : Original → Variant → Line → Type 0
IsLineOf original v l =
    IsLine original.trial.text.now original.trial.input.now original.trial.limit original.is_named original.tokens.now original.roles.now
    (job_outcome_held original.trial.before.now) v (line_held l)
