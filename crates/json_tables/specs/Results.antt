-- The outcome of a job that runs up to a limit, as a JSON value. The members of an object are in the order of their keys.
use Rattle.std.specs.Prelude.{ℕ, Option, Some, None, List, map, codes}
use Rattle.serde_json.specs.Data.{Data, null, boolean, object, member, no_members}
use Rattle.job_reader.specs.Kinds.{number_of}
use Rattle.job_reader.specs.declared.fault.JobFault.{JobFault}
use Rattle.exceptions.specs.Exceptions.{Exc, cancelled}
use Rattle.outcomes.specs.JobOutcomes.{JobOutcome, refused, stuck, ended}
use Rattle.json_story.specs.Values.{integer, word, list_of, label_json, exc_json}

-- how a job ends, in one word: without an exception, with one `Cancelled` outside any group, or with another exception
abbrev pub end_word : Option Exc → List ℕ
end_word None = codes "done"
end_word (Some cancelled) = codes "cancelled"
end_word (Some e) = codes "raised"

abbrev pub exc_or_null : Option Exc → Data
exc_or_null None = null
exc_or_null (Some e) = exc_json e

-- the refusal of a text: `{"at":N,"number":N}`, with the place and the number after the `J`
abbrev pub not_tried_json : JobFault → Data
not_tried_json fault = object (member (codes "at") (integer fault.at) (member (codes "number") (integer (number_of fault.kind)) no_members))

-- `{"not_tried":{"at":N,"number":N},"outcome":"refused"}`, or
-- `{"cut":[LABEL..],"limit":T,"lost":B,"outcome":"stuck","sleeping":[LABEL..]}`, or
-- `{"cancelled":[LABEL..],"cut":[LABEL..],"end":T,"exception":EXC,"lost":B,"outcome":WORD}`
abbrev pub result_json : ℕ → JobOutcome → Data
result_json limit (refused fault) =
    object (member (codes "not_tried") (not_tried_json fault) (member (codes "outcome") (word (codes "refused")) no_members))
result_json limit (stuck sleeping cut lost) =
    object (member (codes "cut") (list_of (map label_json cut)) (member (codes "limit") (integer limit) (member (codes "lost") (boolean lost)
    (member (codes "outcome") (word (codes "stuck")) (member (codes "sleeping") (list_of (map label_json sleeping)) no_members)))))
result_json limit (ended end exc labels cut lost) =
    object (member (codes "cancelled") (list_of (map label_json labels)) (member (codes "cut") (list_of (map label_json cut))
    (member (codes "end") (integer end) (member (codes "exception") (exc_or_null exc) (member (codes "lost") (boolean lost)
    (member (codes "outcome") (word (end_word exc)) no_members))))))

-- the outcome of the job as it is: `{"result":RESULT}`
abbrev pub first_json : ℕ → JobOutcome → Data
first_json limit first = object (member (codes "result") (result_json limit first) no_members)
