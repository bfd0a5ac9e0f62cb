-- The text of the warnings of a job.
use Rattle.std.specs.Prelude.{ℕ, Bool, true, false, List, []}
use Rattle.std.specs.List.{flat_map}
use Rattle.std.specs.Str.{is_utf8}
use Rattle.job_lint.specs.Sentences.{sentence_of}
use Rattle.job_lint.specs.declared.warning.Warning.{Warning}
use Rattle.refusal_text.specs.Explaining.{pointed_message}

-- the message with this sentence about a place of a job text, if the sentence is UTF-8, as each one is
abbrev pub said_if : Bool → (name text : List ℕ) → ℕ → List ℕ → List ℕ
said_if true name text at said = pointed_message name text at said
said_if false name text at said = []

abbrev pub said_at : (name text : List ℕ) → ℕ → List ℕ → List ℕ
said_at name text at said = said_if (is_utf8 said) name text at said

-- the message of a warning: its place, its sentence, the line of the job text and a caret
abbrev pub warning_text : (name text : List ℕ) → Warning → List ℕ
warning_text name text warning = said_at name text warning.at (sentence_of warning)

-- the messages of some warnings
abbrev pub warnings_text : (name text : List ℕ) → List Warning → List ℕ
warnings_text name text warnings = flat_map (warning_text name text) warnings
