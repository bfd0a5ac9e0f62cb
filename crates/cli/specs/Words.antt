-- What the words of a command line may ask for.
use Rattle.std.specs.Prelude.{◌≡◌, ℕ, ◌≤◌, nat_le, Bool, true, cond, not, ◌||◌, Option, Some, None, List, length, IsTrue, is_some, codes}
use Rattle.std.specs.Option.{option_map}
use Rattle.std.specs.List.{list_all}
use Rattle.std.specs.Str.{bytes_eq}
use Rattle.job_tree.specs.Formats.{extends_format_1}
use Rattle.job_syntax.specs.Keywords.{keyword_of}
use Rattle.cli.specs.declared.command.Command.{Command}
use Rattle.cli.specs.declared.command.Command.TheVariants.{Feed, Run, Explain, Chart, Faults, Races, Page, Sweep, Fmt, Lint, Test, Trio, Check, Upgrade, Scale, Completions, Man, Help}
use Rattle.std.specs.String.{string_bytes}
use Rattle.cli.specs.declared.command.FormatMode.{FormatMode}
use Rattle.cli.specs.declared.command.FormatMode.TheVariants as modes
use Rattle.cli.specs.Values.{values_from}
use Rattle.cli.specs.declared.parser.TheConstants.{LEAST_WIDTH, MAX_LABEL, MAX_WIDTH}

-- a name that a step may raise: not a keyword, and neither `Cancelled` nor `TooSlow`
abbrev pub may_be_raised : List ℕ → Bool
may_be_raised name = not (is_some (keyword_of name) || (bytes_eq name (codes "Cancelled") || bytes_eq name (codes "TooSlow")))

-- at least one value and at most 100,000, from a first one on by a step
abbrev pub AreValues : List ℕ → Type 0
AreValues values =
    (first : ℕ) × (step : ℕ) × (count : ℕ) × (values ≡ values_from first step count) × (1 ≤ step) × (1 ≤ count) × (count ≤ 100000)

-- a width that a chart may have, or none
abbrev pub IsWidth : Option ℕ → Type 0
IsWidth None = Unit {0}
IsWidth (Some width) = (LEAST_WIDTH ≤ width) × (width ≤ MAX_WIDTH)

-- a task may have this label, or there is no label
abbrev pub is_label : Option (List ℕ) → Bool
is_label None = true
is_label (Some label) = nat_le (length label) MAX_LABEL

-- what the words of `--task` ask for: a label that a task may have, or none
abbrev pub spelled_label : Option (List ℕ) → Option (Option (List ℕ))
spelled_label given = cond (is_label given) (Some given) None

-- a label that is short enough for a task, or none
abbrev pub IsLabel : Option (List ℕ) → Type 0
IsLabel None = Unit {0}
IsLabel (Some label) = length label ≤ MAX_LABEL

-- a file that is written is not standard input
abbrev pub IsWritten : List ℕ → FormatMode → Type 0
IsWritten job modes.Print = Unit {0}
IsWritten job modes.Write = IsTrue (not (bytes_eq job (codes "-")))
IsWritten job modes.Check = Unit {0}

-- A label is short enough, a chart has a width in its range or none, a faulty step can raise its exceptions, a sweep has values, a
-- file that is formatted in place is not standard input, a job is upgraded to format 2 or 3, ticks are multiplied by 1 to
-- 1,000,000,000, and there is something to test.
abbrev pub IsFit : Command → Type 0
IsFit Feed = Unit {0}
IsFit (Run args) = Unit {0}
IsFit (Explain args) = IsLabel (option_map string_bytes args.task)
IsFit (Chart args) = IsWidth args.width
IsFit (Faults args) = IsTrue (list_all may_be_raised args.options.names.items)
IsFit (Races args) = Unit {0}
IsFit (Page args) = Unit {0}
IsFit (Sweep args) = AreValues args.values.items
IsFit (Fmt job mode) = IsWritten (string_bytes job) mode
IsFit (Lint job json) = Unit {0}
IsFit (Test paths accept settings) = 1 ≤ length paths.items
IsFit (Trio job) = Unit {0}
IsFit (Check job canonical) = Unit {0}
IsFit (Upgrade job format canonical) = IsTrue (extends_format_1 format)
IsFit (Scale factor job) = (1 ≤ factor) × (factor ≤ 1000000000)
IsFit (Completions shell) = Unit {0}
IsFit Man = Unit {0}
IsFit (Help text) = Unit {0}

-- some words asked for it: it is not a feed, and it is fit
abbrev pub IsAsked : Command → Type 0
IsAsked Feed = ⊥
IsAsked command = IsFit command
