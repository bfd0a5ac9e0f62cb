-- The outcomes of a job for each value of a number, as a JSON value.
use Rattle.std.specs.Prelude.{ℕ, List, length, map, codes}
use Rattle.serde_json.specs.Data.{Data, object, member, no_members}
use Rattle.outcomes.specs.JobOutcomes.{JobOutcome, is_stuck, has_cut, is_refused}
use Rattle.outcomes.specs.Groups.{Value}
use Rattle.outcomes.specs.Sweeps.{count}
use Rattle.json_story.specs.Values.{integer, list_of}
use Rattle.json_tables.specs.Results.{result_json, first_json}

-- `{"result":RESULT,"value":N}`
abbrev pub value_json : ℕ → Value → Data
value_json limit v = object (member (codes "result") (result_json limit v.job_outcome) (member (codes "value") (integer v.value) no_members))

-- how many values there are, and how many of each kind
abbrev pub value_counts_json : List Value → Data
value_counts_json vs =
    object (member (codes "cut") (integer (count has_cut vs)) (member (codes "refused") (integer (count is_refused vs))
    (member (codes "stuck") (integer (count is_stuck vs)) (member (codes "values") (integer (length vs)) no_members))))

-- the outcome of the job as it is, the counts, and the outcome for each value
abbrev pub sweep_json : ℕ → JobOutcome → List Value → Data
sweep_json limit first vs =
    object (member (codes "as_it_is") (first_json limit first) (member (codes "counts") (value_counts_json vs)
    (member (codes "lines") (list_of (map (value_json limit) vs)) no_members)))
