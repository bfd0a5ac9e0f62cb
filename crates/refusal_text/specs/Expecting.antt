-- What the grammar expects at the place where tokens leave it.
use Rattle.std.specs.Prelude.{◌≡◌, ℕ, List, [], ◌∷◌, ◌++◌, Option, Some, None}
use Rattle.job_tree.specs.declared.format.Format.{Format}
use Rattle.job_tokens.specs.declared.token.Token.{Token}
use Rattle.job_syntax.specs.declared.nonterminal.Nonterminal.{Nonterminal}
use Rattle.job_syntax.specs.Nonterminals.{Rest, next}
use Rattle.job_syntax.specs.Syntax.{whole_job}
use Rattle.job_reader.specs.declared.fault.JobKind.{JobKind}
use Rattle.job_reader.specs.declared.fault.JobKind.TheVariants as kind
use Rattle.job_reader.specs.Refusals.{HasTokens, format_of}

-- the nonterminal for which a token cannot be read; otherwise what the rest says
abbrev pub or_nonterminal : Rest → Nonterminal → (List Nonterminal → Option Nonterminal) → Option Nonterminal
or_nonterminal None s others = Some s
or_nonterminal (Some more) s others = others more

-- the first nonterminal for which no token is read, or `None` if tokens are left over or none is missing
abbrev pub expected_nonterminal : Format → List Nonterminal → List Token → Option Nonterminal
expected_nonterminal format [] ts = None
expected_nonterminal format (s ∷ ss) [] = Some s
expected_nonterminal format (s ∷ ss) (t ∷ ts) = or_nonterminal (next format s t.shape) s (λ more. expected_nonterminal format (more ++ ss) ts)

-- what the grammar expects where the tokens of a text leave it, as far as tokens can be read
abbrev pub IsExpected : List ℕ → Option Nonterminal → Type 0
IsExpected text nonterminal = (tokens : List Token) × (fault : Option ℕ) × HasTokens text tokens fault
    × (nonterminal ≡ expected_nonterminal (format_of text) whole_job tokens)

-- what the sentence of a refusal says is expected: for a syntax fault, what the grammar expects; for any other refusal,
-- nothing
abbrev pub IsAsked : JobKind → List ℕ → Option Nonterminal → Type 0
IsAsked kind.Syntax text nonterminal = IsExpected text nonterminal
IsAsked kind.TooLong text nonterminal = nonterminal ≡ None
IsAsked kind.NotAscii text nonterminal = nonterminal ≡ None
IsAsked kind.Version text nonterminal = nonterminal ≡ None
IsAsked kind.Token text nonterminal = nonterminal ≡ None
IsAsked kind.Number text nonterminal = nonterminal ≡ None
IsAsked kind.Depth text nonterminal = nonterminal ≡ None
IsAsked kind.Twice text nonterminal = nonterminal ≡ None
IsAsked kind.NotEnclosing text nonterminal = nonterminal ≡ None
IsAsked kind.Reserved text nonterminal = nonterminal ≡ None
IsAsked kind.TooLarge text nonterminal = nonterminal ≡ None
IsAsked kind.NoMemory text nonterminal = nonterminal ≡ None
