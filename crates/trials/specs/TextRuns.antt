-- The outcome of the tasks of a text that is read as a job, over an input and by a limit.
use Rattle.std.specs.Prelude.{◌≡◌, ◌⊎◌, ℕ, Bool, nat_le, List, []}
use Rattle.job_tree.specs.Tree.{Tree}
use Rattle.job_reader.specs.declared.fault.JobFault.{JobFault}
use Rattle.job_reader.specs.Refusals.{Spells, IsRefused}
use Rattle.job_meaning.specs.Meaning.{meaning_end}
use Rattle.job_meaning.specs.Shown.{Row, meaning_rows}
use Rattle.job_story.specs.Events.{Event}
use Rattle.outcomes.specs.JobOutcomes.{walked_events}
use Rattle.race_text.specs.Runs.{of_runs}
use Rattle.race_text.specs.Lines as race_lines
use Rattle.race_text.specs.Lines.{Found}

-- the text is refused; or its job ended by the limit or did not, with these records
pub data TextRun : Type 0 where
  refused : (fault : JobFault) → TextRun
  ran : (in_time : Bool) → (rows : List Row) → TextRun

abbrev pub text_run_of : ℕ → Tree → List ℕ → TextRun
text_run_of limit job input = ran (nat_le (meaning_end job input) limit) (meaning_rows job input)

-- the outcome of a text, by the meaning of the job that it spells, and the events of the job's story in the order of the walk;
-- no events if the text is refused
abbrev pub IsTextRun : List ℕ → List ℕ → ℕ → TextRun → List Event → Type 0
IsTextRun text input limit r events =
    ((job : Tree) × Spells text job × (r ≡ text_run_of limit job input) × (events ≡ walked_events job input))
    ⊎ ((fault : JobFault) × IsRefused text fault.kind fault.at × (r ≡ refused fault) × (events ≡ []))

-- what a run shows that another one does not show, apart from ticks and from the exits of scopes with the name `scope`, which are
-- those of hairs; nothing is compared where a text is refused
abbrev pub found_between : (scope : List ℕ) → TextRun → TextRun → Found
found_between scope (refused fault) r = race_lines.not_tried fault
found_between scope (ran a before) (refused fault) = race_lines.not_tried fault
found_between scope (ran a before) (ran b after) = race_lines.differs (of_runs scope a before b after)

-- what the job that a text spells shows that a run does not show; or the refusal of a text, with which nothing is compared
abbrev pub IsComparison : (scope : List ℕ) → List ℕ → List ℕ → ℕ → TextRun → Found → Type 0
IsComparison scope text input limit before found =
    ((job : Tree) × Spells text job × (found ≡ found_between scope before (text_run_of limit job input)))
    ⊎ ((fault : JobFault) × IsRefused text fault.kind fault.at × (found ≡ found_between scope before (refused fault)))
