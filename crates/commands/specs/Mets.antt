-- Whether an expectation is met.
use Rattle.std.specs.Prelude.{◌≡◌, ℕ, Bool, true, false, Option, Some, None, List, [], ◌∷◌}
use Rattle.outcomes.specs.declared.deny.Deny.{Deny}
use Rattle.commands.specs.Faults as faults
use Rattle.commands.specs.Races as races
use Rattle.commands.specs.declared.form.Form.TheVariants.{Text}
use Rattle.commands.specs.declared.verdict.FaultsVerdict.{FaultsVerdict}
use Rattle.commands.specs.declared.verdict.FaultsVerdict.TheVariants as of_faults
use Rattle.commands.specs.declared.verdict.RacesVerdict.{RacesVerdict}
use Rattle.commands.specs.declared.verdict.RacesVerdict.TheVariants as of_races
use Rattle.expect_text.specs.Patterns.{first_match}
use Rattle.expect_text.specs.Expectations.{Expected, present, absent, no_races, no_faults}
use Rattle.commands.specs.Outputs.{plain_options}
use Rattle.commands.specs.declared.met.Met.{Met}
use Rattle.commands.specs.declared.met.Met.TheVariants.{Yes, Found, Missing, Denied, Untold}

-- it is met; a line matches a pattern that none may match; no line matches the pattern; these lines are denied; nothing is known
pub data Answer : Type 0 where
  yes : Answer
  found : (in_story : Bool) → (number : ℕ) → Answer
  missing : Answer
  denied : (lines : List ℕ) → Answer
  untold : Answer

abbrev pub answer_of : Met → Answer
answer_of Yes = yes
answer_of (Found in_story number) = found in_story number
answer_of Missing = missing
answer_of (Denied lines) = denied lines.items
answer_of Untold = untold

-- the answer from the first lines of the report and of the story that match a pattern that some line must match
abbrev pub present_answer : (report story : Option ℕ) → Answer
present_answer (Some n) story = yes
present_answer None (Some n) = yes
present_answer None None = missing

-- the answer from the first lines that match a pattern that no line may match
abbrev pub absent_answer : (report story : Option ℕ) → Answer
absent_answer (Some n) story = found false n
absent_answer None (Some n) = found true n
absent_answer None None = yes

-- the answer from the lines that are denied
abbrev pub denied_answer : List ℕ → Answer
denied_answer [] = yes
denied_answer (b ∷ bs) = denied (b ∷ bs)

abbrev pub races_answer : RacesVerdict → Answer
races_answer (of_races.Lines lines) = denied_answer lines.items
races_answer (of_races.JobRefused fault) = untold
races_answer of_races.Limit = untold
races_answer of_races.NoFinerTicks = untold

abbrev pub faults_answer : FaultsVerdict → Answer
faults_answer (of_faults.Lines lines) = denied_answer lines.items
faults_answer (of_faults.JobRefused fault) = untold

-- the answer from the verdict of `races` on a job text over an input, where races are denied
abbrev pub IsRacesMet : (text input : List ℕ) → (limit : ℕ) → Answer → Type 0
IsRacesMet text input limit answer =
    (verdict : RacesVerdict) × (bytes : List ℕ) × races.IsVerdict Text text input limit true verdict bytes × (answer ≡ races_answer verdict)

-- the answer from the verdict of `faults`, where these kinds are denied
abbrev pub IsFaultsMet : (text input : List ℕ) → (limit : ℕ) → Deny → Answer → Type 0
IsFaultsMet text input limit kinds answer =
    (verdict : FaultsVerdict) × (bytes : List ℕ) × faults.IsVerdict Text text input limit (plain_options kinds) verdict bytes
    × (answer ≡ faults_answer verdict)

-- the answer for an expectation of a job text over an input that has this report and this story
abbrev pub IsMet : (text input : List ℕ) → (limit : ℕ) → Expected → (report story : List ℕ) → Answer → Type 0
IsMet text input limit (present pattern) report story answer =
    answer ≡ present_answer (first_match pattern report) (first_match pattern story)
IsMet text input limit (absent pattern) report story answer =
    answer ≡ absent_answer (first_match pattern report) (first_match pattern story)
IsMet text input limit no_races report story answer = IsRacesMet text input limit answer
IsMet text input limit (no_faults kinds) report story answer = IsFaultsMet text input limit kinds answer
