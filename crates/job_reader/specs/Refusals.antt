-- Which job a text spells, and why a text is refused.
use Rattle.std.specs.Prelude.{◌≡◌, ◌≢◌, ◌⊎◌, ℕ, ◌<◌, ◌≤◌, Bool, false, ◌||◌, nat_lt, List, [], length, take, drop, Option, Some, None, Result, Err, codes, if◌then◌else◌}
use Rattle.std.specs.List.{prefix_len}
use Rattle.std.specs.Str.{bytes_eq}
use Rattle.job_tree.specs.declared.format.Format.{Format}
use Rattle.job_tree.specs.declared.format.Format.TheVariants.{One, Two, Three}
use Rattle.job_tree.specs.Tree.{Tree}
use Rattle.job_tree.specs.Names.{size_of}
use Rattle.job_tree.specs.Formats.{most_steps}
use Rattle.job_tokens.specs.declared.token.Token.{Token}
use Rattle.job_tokens.specs.Shapes.{shapes_of}
use Rattle.job_tokens.specs.Lexing.{is_blank, is_plain, has_comments, Lexes}
use Rattle.job_syntax.specs.declared.role.Role.{Role}
use Rattle.job_syntax.specs.Pieces.{shapes_in, roles_in, job_pieces, AreSteps}
use Rattle.job_syntax.specs.Syntax.{LeavesAt, whole_job}
use Rattle.job_syntax.specs.Ranges.{number_fault}
use Rattle.job_syntax.specs.Depth.{depth_fault}
use Rattle.job_reader.specs.Given.{twice_in}
use Rattle.job_reader.specs.Uses.{uses_of, targets_in, stray_in}
use Rattle.job_reader.specs.Reserved.{reserved_in}
use Rattle.job_reader.specs.declared.fault.JobKind.{JobKind}
use Rattle.job_reader.specs.declared.fault.JobKind.TheVariants as kind
use Rattle.job_reader.specs.declared.fault.JobFault.{JobFault}
use Rattle.job_reader.specs.Kinds.{number_of, no_memory}

-- the maximum number of bytes of a job text
abbrev pub most_bytes : ℕ
most_bytes = 65536

-- the first line of a text of a format
abbrev pub first_line : Format → List ℕ
first_line One = codes "trio-job 1\n"
first_line Two = codes "trio-job 2\n"
first_line Three = codes "trio-job 3\n"

-- the format of the first line of a text, or format 1 if the text begins with no first line
abbrev pub format_of : List ℕ → Format
format_of text =
    if bytes_eq (take 11 text) (first_line Three) then Three
    else (if bytes_eq (take 11 text) (first_line Two) then Two else One)

-- The bytes of a text: those below 128, and in a format with comments only printable bytes and blanks, so that each job of
-- that format is plain text.
abbrev pub is_text_byte : Format → ℕ → Bool
is_text_byte format b = if has_comments format then is_plain b || is_blank b else nat_lt b 128

-- whether the text is of a format with comments
unfoldable pub may_have_comments : List ℕ → Bool
may_have_comments text = has_comments (format_of text)

-- the tokens after the first line, up to a place from which no token can be read
abbrev pub HasTokens : List ℕ → List Token → Option ℕ → Type 0
HasTokens text tokens fault = Lexes (may_have_comments text) (length text) (drop 11 text) tokens fault

-- these are the tokens of this job
abbrev pub AreTokensOf : List Token → Tree → Type 0
AreTokensOf tokens job = AreSteps job.format false job.steps × (shapes_of tokens ≡ shapes_in (job_pieces job))

-- the text is in the grammar of its format: it has these tokens, and they are those of this job
abbrev pub IsOf : List ℕ → List Token → Tree → Type 0
IsOf text tokens job = HasTokens text tokens None × AreTokensOf tokens job × (job.format ≡ format_of text)

-- the role of each token of a job
abbrev pub roles_of : Tree → List Role
roles_of job = roles_in (job_pieces job)

-- the place of the first name that a step uses and that nothing of its kind around the step has
abbrev pub stray_of : Tree → List Token → List Role → Option ℕ
stray_of job tokens roles = stray_in (uses_of [] job.steps) (targets_in tokens roles)

-- the text begins with the first line of no format
abbrev pub IsHeadless : List ℕ → Type 0
IsHeadless text = (format : Format) → take 11 text ≢ first_line format

-- what the check for a kind finds, and where
abbrev pub Finds : JobKind → List ℕ → ℕ → Type 0
Finds kind.TooLong text at = (most_bytes < length text) × (at ≡ most_bytes)
Finds kind.NotAscii text at = (prefix_len (is_text_byte (format_of text)) text ≡ at) × (at < length text)
Finds kind.Version text at = IsHeadless text × (at ≡ 0)
Finds kind.Token text at = (tokens : List Token) × HasTokens text tokens (Some at)
Finds kind.Number text at = (tokens : List Token) × HasTokens text tokens None × (number_fault (format_of text) tokens ≡ Some at)
Finds kind.Syntax text at = (tokens : List Token) × HasTokens text tokens None × LeavesAt (format_of text) (length text) whole_job tokens at
Finds kind.Depth text at = (tokens : List Token) × HasTokens text tokens None × (depth_fault 0 tokens ≡ Some at)
Finds kind.Twice text at = (tokens : List Token) × (job : Tree) × IsOf text tokens job × (twice_in [] tokens (roles_of job) ≡ Some at)
Finds kind.NotEnclosing text at = (tokens : List Token) × (job : Tree) × IsOf text tokens job
    × (stray_of job tokens (roles_of job) ≡ Some at)
Finds kind.Reserved text at = (tokens : List Token) × (job : Tree) × IsOf text tokens job × (reserved_in tokens (roles_of job) ≡ Some at)
Finds kind.TooLarge text at = (tokens : List Token) × (job : Tree) × IsOf text tokens job × (most_steps job.format < size_of job.steps)
    × (at ≡ 0)
Finds kind.NoMemory text at = ⊥

-- the first `n` checks find nothing
abbrev pub Passes : List ℕ → ℕ → Type 0
Passes text n = (k : JobKind) (at : ℕ) → number_of k ≤ n → Finds k text at → ⊥

-- a refusal: the check for this kind finds it, and no earlier check finds anything
abbrev pub IsRefused : List ℕ → JobKind → ℕ → Type 0
IsRefused text k at = Finds k text at × ((other : JobKind) (place : ℕ) → number_of other < number_of k → Finds other text place → ⊥)

-- a text spells a job: its tokens are those of the job, and no check finds anything
abbrev pub Spells : List ℕ → Tree → Type 0
Spells text job = (tokens : List Token) × IsOf text tokens job × ((k : JobKind) (at : ℕ) → Finds k text at → ⊥)

-- out of memory, or a refusal of the text
abbrev pub IsFair : List ℕ → JobFault → Type 0
IsFair text fault = (fault ≡ no_memory) ⊎ IsRefused text fault.kind fault.at

-- this answer, or that memory runs out
abbrev pub AnswersUnlessMemory : {X : Type 0} → Result X JobFault → Result X JobFault → Type 0
AnswersUnlessMemory result answer = (result ≡ answer) ⊎ (result ≡ Err no_memory)

-- ---- what holds between two checks

-- these are the tokens of the text, and the first `n` checks find nothing
pub record IsReadTo (n : ℕ) (text : List ℕ) (tokens : List Token) : Type 0 where
  pub tokens_are : HasTokens text tokens None
  pub passes : Passes text n

-- these are the tokens of some job of a format, and their roles
abbrev pub IsOfSomeJob : Format → List Token → List Role → Type 0
IsOfSomeJob format tokens roles = (job : Tree) × AreTokensOf tokens job × (job.format ≡ format) × (roles ≡ roles_of job)
