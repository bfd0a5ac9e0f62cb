-- The values of lines, with the text of the step as it was passed on.
use Rattle.std.proofs.Common.{◌≡◌, ℕ, Option, List, ap, ◌∙◌}
use Rattle.serde_json.specs.Data.{Data}
use Rattle.exceptions.specs.Exceptions.{Label}
use Rattle.job_edits.specs.declared.site.Moment.{Moment}
use Rattle.job_edits.specs.declared.shift.Hair.{Hair}
use Rattle.race_text.specs.Lines.{Found, moved, copies}
use Rattle.race_text.specs.Table.{step_text}
use Rattle.json_tables.specs.Races.{moved_json, copies_json, race_line_json}

pub of_moved : (line column : ℕ) (moment : Moment) (hair : Hair) (found : Found) (step text : List ℕ) (value : Data) → text ≡ step →
    step ≡ step_text (moved line column moment hair found) → value ≡ moved_json line column hair found text →
    value ≡ race_line_json (moved line column moment hair found)
of_moved line column moment hair found step text value t s v = v ∙ ap (moved_json line column hair found) (t ∙ s)

-- the JSON object of copies that meet, by its text
pub of_copies : (line column : ℕ) (name : List ℕ) (count : Option ℕ) (one other : Label) (tick : ℕ) (step text : List ℕ) (value : Data) →
    text ≡ step → step ≡ step_text (copies line column name count one other tick) →
    value ≡ copies_json line column one other tick text → value ≡ race_line_json (copies line column name count one other tick)
of_copies line column name count one other tick step text value t s v = v ∙ ap (copies_json line column one other tick) (t ∙ s)
