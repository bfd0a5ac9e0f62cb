-- What the comparison of an output with the one that was kept comes to.
use Rattle.std.specs.Prelude.{◌≡◌, ◌⊎◌, ℕ, Bool, true, false, Option, Some, None, List, ◌∷◌, ◌++◌}
use Rattle.std.specs.Str.{bytes_eq}
use Rattle.commands.specs.declared.form.Form.{Form}
use Rattle.commands.specs.declared.form.Form.TheVariants.{Text, Json}
use Rattle.feed_tests.specs.declared.tally.Outcome.{Outcome}
use Rattle.feed_tests.specs.declared.tally.Outcome.TheVariants.{Passed, Accepted, Failed, Fault}

-- a new output was kept, or could not be
abbrev pub IsKept : Outcome → Type 0
IsKept outcome = (outcome ≡ Accepted) ⊎ (outcome ≡ Fault)

abbrev pub IsCompared : (accept same : Bool) → Outcome → Type 0
IsCompared accept true outcome = outcome ≡ Passed
IsCompared true false outcome = IsKept outcome
IsCompared false false outcome = outcome ≡ Failed

-- The outcome of these bytes against the kept ones: passed exactly if they are the same, and otherwise failed, or kept if that is
-- asked for.
abbrev pub Compares : (accept : Bool) → (kept now : List ℕ) → Outcome → Type 0
Compares accept kept now outcome = IsCompared accept (bytes_eq kept now) outcome

-- the form in which a sweep is written
abbrev pub form_of : (json : Bool) → Form
form_of true = Json
form_of false = Text

-- The outcome of a sweep against a kept file that begins with the words of the sweep: the file is compared with these words, a newline
-- and the bytes that the sweep writes. It fails if the job text does not have the number that the words mean.
abbrev pub ComparesSweep : (accept : Bool) → (words kept : List ℕ) → (bytes : Option (List ℕ)) → Outcome → Type 0
ComparesSweep accept words kept (Some bytes) outcome = Compares accept kept (words ++ 10 ∷ bytes) outcome
ComparesSweep accept words kept None outcome = outcome ≡ Failed
