-- The hint that is added to the sentence of a refusal.
use Rattle.std.specs.Prelude.{◌≡◌, ℕ, ◌-◌, Bool, true, false, ◌&&◌, if◌then◌else◌, List, [], length, drop, Option, Some, None, slice_get}
use Rattle.std.specs.Io.Iter.{u64_saturate}
use Rattle.job_tree.specs.Tree.{Tree}
use Rattle.job_tree.specs.Names.{size_of}
use Rattle.job_tree.specs.declared.format.Format.{Format}
use Rattle.job_tokens.specs.declared.token.Shape.{Shape}
use Rattle.job_tokens.specs.declared.token.Token.{Token}
use Rattle.job_tokens.specs.Shapes.{word_in, shapes_of}
use Rattle.job_syntax.specs.declared.keyword.Keyword.{Keyword}
use Rattle.job_syntax.specs.declared.keyword.Keyword.TheVariants as word
use Rattle.job_syntax.specs.declared.nonterminal.Nonterminal.{Nonterminal}
use Rattle.job_syntax.specs.declared.role.Role.{Role}
use Rattle.job_syntax.specs.Reading.{job_at}
use Rattle.job_syntax.specs.Nonterminals.{◌>>=◌}
use Rattle.job_syntax.specs.Syntax.{fault_at, roles_at, whole_job}
use Rattle.job_reader.specs.declared.fault.JobKind.{JobKind}
use Rattle.job_reader.specs.declared.fault.JobKind.TheVariants as kind
use Rattle.job_reader.specs.Refusals.{HasTokens, format_of}
use Rattle.job_hints.specs.declared.advice.Advice.{Advice}
use Rattle.job_hints.specs.declared.advice.Advice.TheVariants as advice
use Rattle.job_hints.specs.declared.block.BlockAdvice.TheVariants as block
use Rattle.job_hints.specs.ByBytes.{has_order_mark, version_advice, lexical_advice}
use Rattle.job_hints.specs.ByGrammar.{keyword_in, if_keyword, syntax_advice}
use Rattle.job_hints.specs.Nearness.{words_for, first_near}
use Rattle.job_hints.specs.Numbers.{number_advice}
use Rattle.refusal_text.specs.declared.hinting.Hint.{Hint}
use Rattle.refusal_text.specs.declared.hinting.Hint.TheVariants as hint
use Rattle.refusal_text.specs.Expecting.{expected_nonterminal}
use Rattle.refusal_text.specs.Scanning.{shape_at, last_before, earlier_before, open_blocks, first_given_place, is_started}

abbrev pub advice_hint : Option Advice → Option Hint
advice_hint None = None
advice_hint (Some a) = Some (hint.Advice a)

-- ---- the hint where a text is not ASCII

abbrev pub ascii_advice : List ℕ → Option Advice
ascii_advice text = if has_order_mark text then Some advice.ByteOrderMark else None

-- ---- the hint where no token begins

-- given the token before the place: the hint for the bytes
abbrev pub token_advice : List ℕ → ℕ → Option Shape → Option Advice
token_advice text at word = lexical_advice word (slice_get text (at - 1)) (drop at text)

abbrev pub IsTokenHint : List ℕ → ℕ → Option Hint → Type 0
IsTokenHint text at h = (tokens : List Token) × (fault : Option ℕ) × HasTokens text tokens fault
    × (h ≡ advice_hint (token_advice text at (last_before at None tokens)))

-- ---- the hint for a number

abbrev pub IsNumberHint : List ℕ → ℕ → Option Hint → Type 0
IsNumberHint text at h = (tokens : List Token) × (fault : Option ℕ) × HasTokens text tokens fault
    × (h ≡ Some (hint.Advice (number_advice (format_of text) (earlier_before at None None tokens) (last_before at None tokens) (drop at text))))

-- ---- the hint where tokens leave the grammar

-- the keyword that a token nearly is, among those that may be read for the nonterminal
abbrev pub near_hint : Format → Nonterminal → Shape → Option Hint
near_hint format nonterminal shape = word_in shape >>= λ bytes. first_near (words_for format nonterminal) bytes >>= λ k. Some (hint.Meant k)

abbrev pub or_near_hint : Option Advice → Format → Nonterminal → Shape → Option Hint
or_near_hint None format nonterminal shape = near_hint format nonterminal shape
or_near_hint (Some a) format nonterminal shape = Some (hint.Advice a)

-- the sentence for the token, or the keyword that the token nearly is, among those that may be read for the nonterminal
abbrev pub nonterminal_hint : Format → Option Nonterminal → Option Shape → Shape → Option Hint
nonterminal_hint format nonterminal before shape = nonterminal >>= λ s. or_near_hint (syntax_advice format s before shape) format s shape

-- the hint where tokens leave the grammar: for a token at that place, what was meant; at the end of the text, the block that is
-- open
abbrev pub syntax_hint : Format → List Token → Option Shape → Option Shape → Option Hint
syntax_hint format tokens before None = slice_get (open_blocks [] tokens) 0 >>= λ at. Some (hint.OpenSince at)
syntax_hint format tokens before (Some shape) = nonterminal_hint format (expected_nonterminal format whole_job tokens) before shape

abbrev pub IsSyntaxHint : List ℕ → ℕ → Option Hint → Type 0
IsSyntaxHint text at h = (tokens : List Token) × (fault : Option ℕ) × HasTokens text tokens fault
    × (h ≡ syntax_hint (format_of text) tokens (last_before at None tokens) (shape_at at tokens))

-- ---- the hint where a name is reserved

-- a keyword directly follows the word that begins its head, so that the name between them is missing
abbrev pub is_unnamed : Option Keyword → Keyword → Bool
is_unnamed (Some word.Scope) word.After = true
is_unnamed (Some word.Scope) word.At = true
is_unnamed (Some word.Scope) word.Shield = true
is_unnamed (Some word.Scope) word.Fail = true
is_unnamed (Some word.Nursery) word.After = true
is_unnamed (Some word.Nursery) word.Shield = true
is_unnamed (Some word.Start) word.Over = true
is_unnamed _ _ = false

-- given the token before the place and the token there: the name is missing, or it is a keyword
abbrev pub reserved_name_hint : Option Shape → Option Shape → Option Hint
reserved_name_hint before shape = keyword_in shape >>= λ k.
    if is_unnamed (keyword_in before) k then Some (hint.Advice advice.Unnamed) else Some (hint.Keyword k)

abbrev pub IsReservedHint : List ℕ → ℕ → Option Hint → Type 0
IsReservedHint text at h = (tokens : List Token) × (fault : Option ℕ) × HasTokens text tokens fault
    × (h ≡ reserved_name_hint (last_before at None tokens) (shape_at at tokens))

-- ---- the hint where a job is too large

-- the number of step instances of a job, or the maximum `u64` if it has more
abbrev pub size_hint : Option Tree → Option Hint
size_hint None = None
size_hint (Some job) = Some (hint.Size (u64_saturate (size_of job.steps)))

abbrev pub IsSizeHint : List ℕ → Option Hint → Type 0
IsSizeHint text h = (tokens : List Token) × (fault : Option ℕ) × HasTokens text tokens fault
    × (h ≡ size_hint (job_at (format_of text) (shapes_of tokens)))

-- ---- the hint where a name is given twice

-- where the name at a place was first given
abbrev pub twice_hint : List Token → List Role → Option Shape → Option Hint
twice_hint tokens roles shape = shape >>= λ s. word_in s >>= λ name. first_given_place name tokens roles >>= λ at. Some (hint.GivenAt at)

abbrev pub IsTwiceHint : List ℕ → ℕ → Option Hint → Type 0
IsTwiceHint text at h =
    (tokens : List Token) × (fault : Option ℕ) × (roles : List Role) × HasTokens text tokens fault
    × (fault_at (format_of text) (length text) whole_job tokens ≡ None → roles ≡ roles_at (format_of text) whole_job tokens)
    × (h ≡ twice_hint tokens roles (shape_at at tokens))

-- ---- the hint where a name is that of nothing around it

abbrev pub is_cancel : Keyword → Bool
is_cancel word.Cancel = true
is_cancel _ = false

-- a task has the name in a `cancel`, given the token before the name, the name and all tokens
abbrev pub task_advice : Option Shape → Option Shape → List Token → Option Advice
task_advice before shape tokens = shape >>= λ s. word_in s >>= λ name.
    if if_keyword is_cancel (keyword_in before) && is_started name None tokens then Some (advice.Block block.TaskByName) else None

abbrev pub IsStrayHint : List ℕ → ℕ → Option Hint → Type 0
IsStrayHint text at h = (tokens : List Token) × (fault : Option ℕ) × HasTokens text tokens fault
    × (h ≡ advice_hint (task_advice (last_before at None tokens) (shape_at at tokens) tokens))

-- the hint for a refusal of this kind at a place, if there is one
abbrev pub IsHint : JobKind → List ℕ → ℕ → Option Hint → Type 0
IsHint kind.TooLong text at h = h ≡ None
IsHint kind.NotAscii text at h = h ≡ advice_hint (ascii_advice text)
IsHint kind.Version text at h = h ≡ advice_hint (version_advice text)
IsHint kind.Token text at h = IsTokenHint text at h
IsHint kind.Syntax text at h = IsSyntaxHint text at h
IsHint kind.Twice text at h = IsTwiceHint text at h
IsHint kind.Reserved text at h = IsReservedHint text at h
IsHint kind.TooLarge text at h = IsSizeHint text h
IsHint kind.Number text at h = IsNumberHint text at h
IsHint kind.Depth text at h = h ≡ None
IsHint kind.NotEnclosing text at h = IsStrayHint text at h
IsHint kind.NoMemory text at h = h ≡ None
