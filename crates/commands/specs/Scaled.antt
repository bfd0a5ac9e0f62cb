-- A job text with its ticks multiplied.
use Rattle.std.specs.Prelude.{◌≡◌, ℕ, List, None}
use Rattle.job_tree.specs.Tree.{Tree}
use Rattle.job_tokens.specs.declared.token.Token.{Token}
use Rattle.job_reader.specs.Refusals.{Spells, HasTokens, IsFair, IsRefused}
use Rattle.job_meaning.specs.Moments.{clock_of}
use Rattle.job_edits.specs.Changes.{changed_text}
use Rattle.job_edits.specs.FinerTicks.{finer_changes}
use Rattle.job_edits.specs.Sites.{sites_in}
use Rattle.job_edits.specs.declared.finer_ticks.FinerTicks.{FinerTicks}
use Rattle.commands.specs.declared.scaling.ScaleFault.{ScaleFault}
use Rattle.commands.specs.declared.scaling.ScaleFault.TheVariants.{Refused, TooLarge}

-- finer ticks, so many to each of the text's, without a hair
abbrev pub times : ℕ → FinerTicks
times factor = record { factor = factor; hair = 0 }

-- the text has these ticks multiplied: it is the text in so much finer ticks
abbrev pub IsMultiplied : List ℕ → ℕ → List ℕ → Type 0
IsMultiplied text factor multiplied =
    (job : Tree) × Spells text job × (tokens : List Token) × HasTokens text tokens None
    × (multiplied ≡ changed_text text (finer_changes (clock_of job.format) (times factor) (sites_in tokens)))

-- such a text that spells a job
abbrev pub IsScaled : List ℕ → ℕ → List ℕ → Type 0
IsScaled text factor scaled = IsMultiplied text factor scaled × (job : Tree) × Spells scaled job

-- the text is refused, or the multiplied text is
abbrev pub IsScaleFault : List ℕ → ℕ → ScaleFault → Type 0
IsScaleFault text factor (Refused fault) = IsFair text fault
IsScaleFault text factor (TooLarge fault multiplied) =
    IsMultiplied text factor multiplied.items × IsRefused multiplied.items fault.kind fault.at
