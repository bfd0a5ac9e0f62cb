-- All numbers of these documents are integers.
use Rattle.std.proofs.Common.{◌≡◌, ℕ, Option, Some, None, List, [], ◌∷◌, map, refl}
use Rattle.std.specs.Prelude.{Bool, false}
use Rattle.serde_json.specs.Data.{Data}
use Rattle.serde_json.specs.View.{items_of}
use Rattle.serde_json.specs.Written.{has_float, items_have_float}
use Rattle.exceptions.specs.Exceptions.{Label, Exc}
use Rattle.job_edits.specs.declared.fault.BlockPart.{BlockPart}
use Rattle.job_edits.specs.Faults.{raised_by}
use Rattle.outcomes.specs.JobOutcomes.{JobOutcome, refused, stuck, ended}
use Rattle.outcomes.specs.Table as faults
use Rattle.outcomes.specs.declared.options.Untried.{Untried}
use Rattle.outcomes.specs.Groups as sweeps
use Rattle.race_text.specs.Differences.{Difference, otherwise, inside}
use Rattle.race_text.specs.Lines as races
use Rattle.race_text.specs.Lines.{in_finer_ticks, moved, copies, is_shown}
use Rattle.race_text.specs.Table.{lines_that}
use Rattle.job_lint.specs.declared.warning.Warning.{Warning}
use Rattle.json_story.specs.Values.{label_json}
use Rattle.json_story.proofs.ReportIntegers.{exc_without_float}
use Rattle.json_tables.specs.Results.{exc_or_null, result_json}
use Rattle.json_tables.specs.Faults.{part_or_null, fault_line_json, faults_json}
use Rattle.json_tables.specs.Sweeps.{value_json, sweep_json}
use Rattle.json_tables.specs.Races.{difference_json, differences_json, refusal_or_null, race_line_json, races_json}
use Rattle.json_tables.specs.Lints.{name_or_null, warning_json, lints_json}

-- ---- the outcome of a job

labels_have_none : (ls : List Label) → items_have_float (items_of (map label_json ls)) ≡ false
labels_have_none [] = refl
labels_have_none (l ∷ ls) = labels_have_none ls

exc_has_none : (o : Option Exc) → has_float (exc_or_null o) ≡ false
exc_has_none None = refl
exc_has_none (Some e) = exc_without_float e

result_has_none : (limit : ℕ) (job_outcome : JobOutcome) → has_float (result_json limit job_outcome) ≡ false
result_has_none limit (refused fault) = refl
result_has_none limit (stuck sleeping cut lost) = rw (labels_have_none sleeping, labels_have_none cut) refl
result_has_none limit (ended end exc labels cut lost) = rw (labels_have_none labels, labels_have_none cut, exc_has_none exc) refl

-- ---- faults

name_has_none : (o : Option (List ℕ)) → has_float (name_or_null o) ≡ false
name_has_none None = refl
name_has_none (Some name) = refl

part_has_none : (o : Option BlockPart) → has_float (part_or_null o) ≡ false
part_has_none None = refl
part_has_none (Some part) = refl

fault_line_has_none : (limit : ℕ) (l : faults.Line) → has_float (fault_line_json limit l) ≡ false
fault_line_has_none limit l =
    rw (result_has_none limit l.job_outcome, name_has_none (raised_by l.variant.fault), part_has_none l.variant.part) refl

fault_lines_have_none : (limit : ℕ) (ls : List faults.Line) → items_have_float (items_of (map (fault_line_json limit) ls)) ≡ false
fault_lines_have_none limit [] = refl
fault_lines_have_none limit (l ∷ ls) = rw (fault_line_has_none limit l, fault_lines_have_none limit ls) refl

pub faults_without_float : (value : Data) (limit : ℕ) (brief : Bool) (first : JobOutcome) (ls : List faults.Line) (untried : Untried) →
    value ≡ faults_json limit brief first ls untried → has_float value ≡ false
faults_without_float value limit brief first ls untried is =
    rw (is, result_has_none limit first, fault_lines_have_none limit (faults.printed brief ls)) refl

-- ---- values

values_have_none : (limit : ℕ) (vs : List sweeps.Value) → items_have_float (items_of (map (value_json limit) vs)) ≡ false
values_have_none limit [] = refl
values_have_none limit (v ∷ vs) = rw (result_has_none limit v.job_outcome, values_have_none limit vs) refl

pub sweep_without_float : (value : Data) (limit : ℕ) (first : JobOutcome) (vs : List sweeps.Value) → value ≡ sweep_json limit first vs →
    has_float value ≡ false
sweep_without_float value limit first vs is = rw (is, result_has_none limit first, values_have_none limit vs) refl

-- ---- hairs

difference_has_none : (d : Difference) → has_float (difference_json d) ≡ false
difference_has_none (otherwise task before after) = refl
difference_has_none (inside task) = refl

tasks_have_none : (ds : List Difference) → items_have_float (items_of (map difference_json ds)) ≡ false
tasks_have_none [] = refl
tasks_have_none (d ∷ ds) = rw (difference_has_none d, tasks_have_none ds) refl

differences_have_none : (found : races.Found) → items_have_float (items_of (differences_json found)) ≡ false
differences_have_none (races.not_tried fault) = refl
differences_have_none (races.differs tasks) = tasks_have_none tasks

refusal_has_none : (found : races.Found) → has_float (refusal_or_null found) ≡ false
refusal_has_none (races.not_tried fault) = refl
refusal_has_none (races.differs tasks) = refl

race_line_has_none : (l : races.Line) → has_float (race_line_json l) ≡ false
race_line_has_none (in_finer_ticks found) = rw (differences_have_none found, refusal_has_none found) refl
race_line_has_none (moved line column moment hair found) = rw (differences_have_none found, refusal_has_none found) refl
race_line_has_none (copies line column name count one other tick) = refl

race_lines_have_none : (ls : List races.Line) → items_have_float (items_of (map race_line_json ls)) ≡ false
race_lines_have_none [] = refl
race_lines_have_none (l ∷ ls) = rw (race_line_has_none l, race_lines_have_none ls) refl

pub races_without_float : (value : Data) (hairs : ℕ) (ls : List races.Line) → value ≡ races_json hairs ls → has_float value ≡ false
races_without_float value hairs ls is = rw (is, race_lines_have_none (lines_that is_shown ls)) refl

-- ---- warnings

warnings_have_none : (text : List ℕ) (ws : List Warning) → items_have_float (items_of (map (warning_json text) ws)) ≡ false
warnings_have_none text [] = refl
warnings_have_none text (w ∷ ws) = rw (name_has_none w.name, warnings_have_none text ws) refl

pub lints_without_float : (value : Data) (text : List ℕ) (ws : List Warning) → value ≡ lints_json text ws → has_float value ≡ false
lints_without_float value text ws is = rw (is, warnings_have_none text ws) refl
