-- What `lints_json` writes: the probable mistakes in a job text, or its refusal.
use Rattle.std.specs.Prelude.{◌≡◌, ℕ, ◌<◌, List, [], length}
use Rattle.job_reader.specs.Refusals.{IsRefused}
use Rattle.job_lint.specs.Linted.{AreWarnings}
use Rattle.job_lint.specs.declared.warning.Warning.{Warning}
use Rattle.json_story.specs.Values.{document}
use Rattle.commands.specs.Answers.{refusal_json}
use Rattle.json_tables.specs.Lints.{lints_json}
use Rattle.commands.specs.declared.verdict.LintsVerdict.{LintsVerdict}
use Rattle.commands.specs.declared.verdict.LintsVerdict.TheVariants.{Clean, Warned, JobRefused}

-- these bytes are the document of the warnings about the job that the text spells
pub record IsDocument (text : List ℕ) (found : List Warning) (bytes : List ℕ) : Type 0 where
  pub found_are : AreWarnings text found
  pub document_is : bytes ≡ document (lints_json text found)

-- A verdict and its bytes: there are no warnings, or there are some, or the text is refused.
abbrev pub IsVerdict : List ℕ → LintsVerdict → List ℕ → Type 0
IsVerdict text Clean bytes = IsDocument text [] bytes
IsVerdict text Warned bytes = (found : List Warning) × (0 < length found) × IsDocument text found bytes
IsVerdict text (JobRefused fault) bytes = IsRefused text fault.kind fault.at × (bytes ≡ document (refusal_json text fault))
