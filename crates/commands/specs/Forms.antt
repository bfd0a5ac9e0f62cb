-- The form in which an answer is written: a text, or one JSON document.
use Rattle.std.specs.Prelude.{ℕ, List}
use Rattle.job_reader.specs.declared.fault.JobFault.{JobFault}
use Rattle.job_answers.specs.Verdict.{refusal_line, limit_line}
use Rattle.json_story.specs.Values.{document}
use Rattle.commands.specs.Answers.{refusal_json, limit_json}
use Rattle.commands.specs.declared.form.Form.{Form}
use Rattle.commands.specs.declared.form.Form.TheVariants.{Text, Json}

-- the refusal of a job text
abbrev pub refusal_in : Form → List ℕ → JobFault → List ℕ
refusal_in Text text fault = refusal_line fault
refusal_in Json text fault = document (refusal_json text fault)

-- the limit by which a job does not end
abbrev pub limit_in : Form → ℕ → List ℕ
limit_in Text limit = limit_line limit
limit_in Json limit = document (limit_json limit)
