-- A refusal and a limit as JSON values. The members of an object are in the order of their keys.
use Rattle.std.specs.Prelude.{ℕ, List, ◌++◌, codes, decimal}
use Rattle.serde_json.specs.Data.{Data, object, member, no_members}
use Rattle.job_reader.specs.declared.fault.JobFault.{JobFault}
use Rattle.job_reader.specs.Kinds.{number_of, name_of}
use Rattle.basics.specs.Places.{line_of, column_of}
use Rattle.json_story.specs.Values.{integer, word}

-- `{"at":N,"column":N,"line":N,"name":NAME,"refused":"J6"}`, with the line and the column in the job text
abbrev pub refusal_json : List ℕ → JobFault → Data
refusal_json text fault =
    object (member (codes "at") (integer fault.at) (member (codes "column") (integer (column_of text fault.at))
    (member (codes "line") (integer (line_of text fault.at)) (member (codes "name") (word (name_of fault.kind))
    (member (codes "refused") (word (codes "J" ++ decimal (number_of fault.kind))) no_members)))))

-- `{"limit":T}`
abbrev pub limit_json : ℕ → Data
limit_json limit = object (member (codes "limit") (integer limit) no_members)
