-- The shell and the format that a word names, and the settings of a run.
use Rattle.std.specs.Prelude.{ℕ, Bool, true, false, cond, ◌&&◌, nat_le, Option, Some, None, List, codes}
use Rattle.std.specs.Option.{unwrap_or}
use Rattle.std.specs.Str.{bytes_eq}
use Rattle.job_tree.specs.declared.format.Format.{Format}
use Rattle.job_tree.specs.declared.format.Format.TheVariants.{Two, Three}
use Rattle.job_runner.specs.Settings.{Chosen}
use Rattle.job_runner.specs.declared.limits.TheConstants.{MAX_WORKERS, MAX_LIMIT}
use Rattle.cli.specs.Cuts.{number_in}
use Rattle.cli.specs.declared.command.Shell.{Shell}
use Rattle.cli.specs.declared.command.Shell.TheVariants.{Bash, Zsh, Fish}
use Rattle.cli.specs.declared.parser.TheConstants.{DEFAULT_LIMIT}

-- the shell that a word names; Bash for any other word, and if there is none
abbrev pub shell_named : Option (List ℕ) → Shell
shell_named None = Bash
shell_named (Some word) = cond (bytes_eq word (codes "zsh")) Zsh (cond (bytes_eq word (codes "fish")) Fish Bash)

-- the format that a word names; format 3 for any other word, and if there is none
abbrev pub format_named : Option (List ℕ) → Format
format_named None = Three
format_named (Some word) = cond (bytes_eq word (codes "2")) Two Three

-- the number that a word spells, or another one if there is no such word
abbrev pub number_or : ℕ → Option (List ℕ) → ℕ
number_or other None = other
number_or other (Some word) = unwrap_or (number_in 64 word) other

-- the settings of these numbers, if both are in their ranges
abbrev pub chosen_if : Bool → ℕ → ℕ → Option Chosen
chosen_if true workers limit = Some (record { workers = workers; limit = limit })
chosen_if false workers limit = None

abbrev pub chosen : ℕ → ℕ → Option Chosen
chosen workers limit = chosen_if (nat_le 1 workers && (nat_le workers MAX_WORKERS && nat_le limit MAX_LIMIT)) workers limit

-- both files are standard input
abbrev pub are_both_standard : List ℕ → Option (List ℕ) → Bool
are_both_standard job None = false
are_both_standard job (Some input) = bytes_eq job (codes "-") && bytes_eq input (codes "-")

-- the settings that words spell, unless both files are standard input: one worker and the default limit if nothing else is said
abbrev pub settings_unless : Bool → (workers limit : Option (List ℕ)) → Option Chosen
settings_unless true workers limit = None
settings_unless false workers limit = chosen (number_or 1 workers) (number_or DEFAULT_LIMIT limit)

abbrev pub spelled_settings : (job : List ℕ) (input workers limit : Option (List ℕ)) → Option Chosen
spelled_settings job input workers limit = settings_unless (are_both_standard job input) workers limit
