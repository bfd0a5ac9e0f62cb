-- What a writer took of the bytes of a verdict. `HasBytes` says which bytes a verdict has.
use Rattle.std.specs.Prelude.{◌≡◌, ℕ, ◌+◌, ◌<◌, Option, List, length, take}
use Rattle.std.specs.Io.KnownBytes.{Appends}
use Rattle.job_answers.specs.declared.verdict.ServeFault.{ServeFault}
use Rattle.job_answers.specs.declared.verdict.ServeFault.TheVariants.{Send, NoMemory}

-- All bytes of the verdict were sent.
abbrev pub IsSent : {V : Type 0} → (V → List ℕ → Type 0) → Option (List ℕ) → Option (List ℕ) → V → Type 0
IsSent HasBytes before after verdict = (bytes : List ℕ) × HasBytes verdict bytes × Appends before after bytes

-- The writer failed after the first `sent` bytes of a verdict; or memory runs out, and nothing was sent.
abbrev pub IsServeFault : {V : Type 0} → (V → List ℕ → Type 0) → Option (List ℕ) → Option (List ℕ) → ServeFault → Type 0
IsServeFault {V} HasBytes before after (Send sent) =
    (verdict : V) × (bytes : List ℕ) × HasBytes verdict bytes × (sent < length bytes) × Appends before after (take sent bytes)
IsServeFault {V} HasBytes before after NoMemory = after ≡ before

-- The count of a writer's failures rises by one if the writer failed, and otherwise stays.
abbrev pub CountsFailure : ℕ → ℕ → ServeFault → Type 0
CountsFailure before after (Send sent) = after ≡ before + 1
CountsFailure before after NoMemory = after ≡ before
