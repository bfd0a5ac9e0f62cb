-- The results of formatting a text.
use Rattle.std.specs.Prelude.{◌≡◌, ℕ, ◌<◌, List, length}
use Rattle.job_tree.specs.Tree.{Tree}
use Rattle.job_reader.specs.declared.fault.JobKind.{JobKind}
use Rattle.job_reader.specs.declared.fault.JobKind.TheVariants as kind
use Rattle.job_reader.specs.declared.fault.JobFault.{JobFault}
use Rattle.job_reader.specs.Refusals.{most_bytes, IsRefused, Spells}
use Rattle.job_layout.specs.declared.fault.FormatFault.{FormatFault}
use Rattle.job_layout.specs.declared.fault.FormatFault.TheVariants.{Refused, TooLong, NoMemory}
use Rattle.job_layout.specs.Layout.{comments_of, formatted_text}

-- a refusal of a text, or that memory runs out
abbrev pub fault_by : JobKind → JobFault → FormatFault
fault_by kind.NoMemory fault = NoMemory
fault_by _ fault = Refused fault

abbrev pub fault_of : JobFault → FormatFault
fault_of fault = fault_by fault.kind fault

-- the formatted text of the job that a text spells: it spells the same job, with the same comments before each token
pub record IsFormatted (text bytes : List ℕ) : Type 0 where
  pub job : Tree
  pub spelled : Spells text job
  pub same : bytes ≡ formatted_text text job
  pub again : Spells bytes job
  pub kept : comments_of bytes job ≡ comments_of text job

-- the formatted text of a job as a text spells it has this number of bytes, which is more than a job text may have
abbrev pub IsTooLong : List ℕ → Tree → ℕ → Type 0
IsTooLong text job bytes = (bytes ≡ length (formatted_text text job)) × (most_bytes < length (formatted_text text job))

-- for a text: a refusal, a formatted text of its job that is too long, or that memory runs out
abbrev pub IsTextFault : List ℕ → FormatFault → Type 0
IsTextFault text (Refused fault) = IsRefused text fault.kind fault.at
IsTextFault text (TooLong bytes) = (job : Tree) × Spells text job × IsTooLong text job bytes
IsTextFault text NoMemory = Unit {0}
