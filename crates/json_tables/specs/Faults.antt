-- The outcomes of a job with each fault, as a JSON value.
use Rattle.std.specs.Prelude.{ℕ, Bool, Option, Some, None, List, map, codes}
use Rattle.serde_json.specs.Data.{Data, null, boolean, object, member, no_members}
use Rattle.outcomes.specs.declared.counts.Counts.{Counts}
use Rattle.outcomes.specs.declared.options.Untried.{Untried}
use Rattle.outcomes.specs.JobOutcomes.{JobOutcome}
use Rattle.outcomes.specs.Table.{Line, fault_text, step_text, part_text, printed, counts_of}
use Rattle.json_story.specs.Values.{integer, word, list_of, text_json}
use Rattle.job_edits.specs.declared.fault.BlockPart.{BlockPart}
use Rattle.job_edits.specs.Faults.{raised_by}
use Rattle.json_tables.specs.Results.{result_json, first_json}
use Rattle.json_tables.specs.Lints.{name_or_null}

-- the copy or pass in which alone a fault is, or `null`
abbrev pub part_or_null : Option BlockPart → Data
part_or_null None = null
part_or_null (Some part) = text_json (part_text part)

-- `{"column":N,"exception":NAME,"fault":WORD,"line":N,"part":TEXT,"reached":B,"result":RESULT,"step":TEXT}`; the exception is the one that
-- the fault raises, or `null`
abbrev pub fault_line_json : ℕ → Line → Data
fault_line_json limit l =
    object (member (codes "column") (integer l.column) (member (codes "exception") (name_or_null (raised_by l.variant.fault))
    (member (codes "fault") (word (fault_text l.variant.fault)) (member (codes "line") (integer l.line)
    (member (codes "part") (part_or_null l.variant.part) (member (codes "reached") (boolean l.reached)
    (member (codes "result") (result_json limit l.job_outcome) (member (codes "step") (text_json (step_text l)) no_members))))))))

-- how many faults there are, and how many of each kind
abbrev pub fault_counts_json : Counts → Data
fault_counts_json c =
    object (member (codes "cut") (integer c.cut) (member (codes "faults") (integer c.faults) (member (codes "lost") (integer c.lost)
    (member (codes "not_reached") (integer c.unreached) (member (codes "not_tried") (integer c.not_tried)
    (member (codes "stuck") (integer c.stuck) no_members))))))

-- the outcome of the job as it is, the counts, whether there are copies in which no fault was tried, the outcome with each fault that is
-- printed, and whether there are more faults in single copies and passes
abbrev pub faults_json : ℕ → (brief : Bool) → JobOutcome → List Line → Untried → Data
faults_json limit brief first ls untried =
    object (member (codes "as_it_is") (first_json limit first) (member (codes "counts") (fault_counts_json (counts_of ls))
    (member (codes "divided") (boolean untried.divided) (member (codes "lines") (list_of (map (fault_line_json limit) (printed brief ls)))
    (member (codes "more") (boolean untried.more) no_members)))))
