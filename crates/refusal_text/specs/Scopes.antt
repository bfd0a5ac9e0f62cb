-- What could be named where the name that a step uses is that of nothing of its kind around the step.
use Rattle.std.specs.Prelude.{◌≡◌, ℕ, List, [], ◌∷◌, Option, Some, None, if◌then◌else◌}
use Rattle.std.specs.Option.{option_map}
use Rattle.std.specs.Global.{Vec}
use Rattle.job_tree.specs.Tree.{Tree}
use Rattle.job_tokens.specs.declared.token.Token.{Token}
use Rattle.job_tokens.specs.Shapes.{shapes_of}
use Rattle.job_syntax.specs.declared.keyword.Keyword.{Keyword}
use Rattle.job_syntax.specs.declared.keyword.Keyword.TheVariants as word
use Rattle.job_syntax.specs.Reading.{job_at}
use Rattle.job_reader.specs.Given.{is_among}
use Rattle.job_reader.specs.declared.target.TargetKind.{TargetKind}
use Rattle.job_reader.specs.declared.target.TargetKind.TheVariants as target
use Rattle.job_reader.specs.Targets.{Named}
use Rattle.job_reader.specs.Uses.{Use, inside, uses_of}
use Rattle.job_reader.specs.declared.fault.JobKind.{JobKind}
use Rattle.job_reader.specs.declared.fault.JobKind.TheVariants as kind
use Rattle.job_reader.specs.Refusals.{HasTokens, format_of}
use Rattle.job_hints.specs.ByGrammar.{keyword_in}
use Rattle.refusal_text.specs.Scanning.{last_before}
use Rattle.refusal_text.specs.declared.scopes.Around.{Around, Nothing, Inside'}

-- the names of what encloses the first use of a name that is not among them, the innermost first
abbrev pub around_stray : List Use → Option (List (List ℕ))
around_stray [] = None
around_stray (u ∷ us) = if is_among u.around u.name then around_stray us else Some u.around

-- the names of what encloses the first such use in a job, where there is one
abbrev pub enclosing_names : Option Tree → Option (List (List ℕ))
enclosing_names None = None
enclosing_names (Some job) = around_stray (uses_of [] job.steps)

-- these are the names of what encloses the first such use in the job that the tokens of a text spell
abbrev pub IsEnclosing : List ℕ → Option (List (List ℕ)) → Type 0
IsEnclosing text names = (tokens : List Token) × (fault : Option ℕ) × HasTokens text tokens fault
    × (names ≡ enclosing_names (job_at (format_of text) (shapes_of tokens)))

-- what a step uses that begins with this keyword
abbrev pub kind_used : Option Keyword → TargetKind
kind_used (Some word.Set) = target.Event
kind_used (Some word.Wait) = target.Event
kind_used (Some word.Acquire) = target.Limiter
kind_used (Some word.Send) = target.Channel
kind_used (Some word.Receive) = target.Channel
kind_used (Some word.Close) = target.Channel
kind_used _ = target.Scope

-- what the step uses whose name is at a place, by the token before it
abbrev pub IsOfKind : List ℕ → ℕ → TargetKind → Type 0
IsOfKind text at used = (tokens : List Token) × (fault : Option ℕ) × HasTokens text tokens fault
    × (used ≡ kind_used (keyword_in (last_before at None tokens)))

-- what the step uses whose name a refusal of this kind is about; a scope, if it is about something else
abbrev pub IsStray : JobKind → List ℕ → ℕ → TargetKind → Type 0
IsStray kind.NotEnclosing text at used = IsOfKind text at used
IsStray kind.TooLong text at used = used ≡ target.Scope
IsStray kind.NotAscii text at used = used ≡ target.Scope
IsStray kind.Version text at used = used ≡ target.Scope
IsStray kind.Token text at used = used ≡ target.Scope
IsStray kind.Number text at used = used ≡ target.Scope
IsStray kind.Syntax text at used = used ≡ target.Scope
IsStray kind.Depth text at used = used ≡ target.Scope
IsStray kind.Twice text at used = used ≡ target.Scope
IsStray kind.Reserved text at used = used ≡ target.Scope
IsStray kind.TooLarge text at used = used ≡ target.Scope
IsStray kind.NoMemory text at used = used ≡ target.Scope

-- what is listed with a refusal of this kind, if anything
abbrev pub IsListed : JobKind → List ℕ → Option (List (List ℕ)) → Type 0
IsListed kind.NotEnclosing text names = IsEnclosing text names
IsListed kind.TooLong text names = names ≡ None
IsListed kind.NotAscii text names = names ≡ None
IsListed kind.Version text names = names ≡ None
IsListed kind.Token text names = names ≡ None
IsListed kind.Number text names = names ≡ None
IsListed kind.Syntax text names = names ≡ None
IsListed kind.Depth text names = names ≡ None
IsListed kind.Twice text names = names ≡ None
IsListed kind.Reserved text names = names ≡ None
IsListed kind.TooLarge text names = names ≡ None
IsListed kind.NoMemory text names = names ≡ None

-- ---- the values of the code

-- what encloses a block and can be named, the innermost first
abbrev pub named_around : Around → List Named
named_around Nothing = []
named_around (Inside' kind name p outer) = inside kind name.now (named_around outer)

abbrev pub names_held : Option (Vec (List ℕ)) → Option (List (List ℕ))
names_held names = option_map (λ v. v.items) names

-- what was found, or otherwise what is found later
abbrev pub or_names : Option (List (List ℕ)) → Option (List (List ℕ)) → Option (List (List ℕ))
or_names None others = others
or_names (Some names) others = Some names
