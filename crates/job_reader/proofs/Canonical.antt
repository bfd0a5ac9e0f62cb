-- The canonical text of a job that some text spells also spells that job.
use Rattle.std.proofs.Common.{◌≡◌, ℕ, ◌+◌, ◌<◌, ◌≤◌, Bool, true, false, cond, eqb, ◌||◌, leb, ltb, List, [], ◌∷◌, ◌++◌, length, take, drop, Option, Some, None, ◌⊎◌, inl, inr, refl, sym, ap, subst, ◌∙◌, arith}
use Rattle.std.specs.List.{prefix_len, list_all}
use Rattle.std.proofs.lemmas.List.{length-append, length-drop, length-take}
use Rattle.std.proofs.lemmas.Bool.{cases_lt, leb-true, eqb-true}
use Rattle.job_tree.specs.declared.format.Format.{Format}
use Rattle.job_tree.specs.declared.format.Format.TheVariants.{One, Two, Three}
use Rattle.job_tree.specs.Tree.{Tree}
use Rattle.job_tree.specs.Formats.{most_steps, newer, in_format}
use Rattle.job_tokens.specs.declared.token.Shape.{Shape}
use Rattle.job_tokens.specs.declared.token.Shape.TheVariants as shape
use Rattle.job_tokens.specs.declared.token.Token.{Token}
use Rattle.job_tokens.specs.Shapes.{shapes_of}
use Rattle.job_tokens.specs.Lexing.{is_blank, is_plain, has_comments, Lexes}
use Rattle.job_tokens.specs.Canon.{canon_of}
use Rattle.job_tokens.proofs.Round_bytes.{and_parts}
use Rattle.job_tokens.proofs.Round_tokens.{IsWritable, AreWritable, canon_lexes}
use Rattle.job_tokens.proofs.Shortest_tokens.{IsSpelled, AreSpelled, canon_shortest, tokens_spelled}
use Rattle.job_tokens.proofs.Ascii_texts.{is_small, canon_small}
use Rattle.job_tree.specs.Names.{size_of}
use Rattle.job_syntax.specs.declared.keyword.Keyword.{Keyword}
use Rattle.job_syntax.specs.Pieces.{shapes_in, job_pieces}
use Rattle.job_syntax.specs.Syntax.{fault_at, whole_job}
use Rattle.job_syntax.specs.Ranges.{number_fault, fault_after, is_in_range, object_named, keyword_in}
use Rattle.job_syntax.specs.Depth.{depth_fault}
use Rattle.job_syntax.proofs.Places.{fault_at-text}
use Rattle.job_syntax.proofs.Names.{text_of_job}
use Rattle.job_syntax.proofs.InRange.{numbers_by_shapes}
use Rattle.job_syntax.proofs.Deep.{depth_by_shapes}
use Rattle.job_syntax.proofs.Upgraded.{newer_steps, newer_numbers}
use Rattle.job_reader.specs.Given.{twice_in}
use Rattle.job_reader.specs.Uses.{uses_of}
use Rattle.job_reader.specs.Reserved.{reserved_in}
use Rattle.job_reader.proofs.ByShapes.{twice_by_shapes, stray_by_shapes, reserved_by_shapes}
use Rattle.job_reader.specs.declared.fault.JobKind.{JobKind}
use Rattle.job_reader.specs.declared.fault.JobKind.TheVariants as kind
use Rattle.job_reader.specs.Refusals.{most_bytes, first_line, format_of, IsHeadless, is_text_byte, may_have_comments, HasTokens, AreTokensOf, IsOf, roles_of, stray_of, Finds, Spells}
use Rattle.job_reader.specs.Canon.{canon}
use Rattle.job_reader.proofs.Passing.{format_is, comments_by, none_of, small_enough, passes_one, passes_two, passes_three, passes_tokens, passes_numbers, passes_syntax, passes_depth, passes_given, passes_uses, passes_reserved, passes_size, passes_all}

-- ---- what depends only on the shapes

no_some : (x : ℕ) → None ≡ Some x → ⊥
no_some x e = cc

-- a test that passed
went_on : (b : Bool) (o : Option ℕ) (at : ℕ) → cond b o (Some at) ≡ None → (b ≡ true) × (o ≡ None)
went_on true o at e = (refl, e)
went_on false o at e = absurd (no_some at (sym e))

-- the checks along the tokens of a job find nothing
pub record PassesTokens (ts : List Token) (job : Tree) : Type 0 where
  pub numbers : number_fault job.format ts ≡ None
  pub depth : depth_fault 0 ts ≡ None
  pub given : twice_in [] ts (roles_of job) ≡ None
  pub uses : stray_of job ts (roles_of job) ≡ None
  pub reserved : reserved_in ts (roles_of job) ≡ None
  pub size : size_of job.steps ≤ most_steps job.format

-- this does not depend on the places of the tokens
by_shapes : (ts us : List Token) (job : Tree) → shapes_of ts ≡ shapes_of us → PassesTokens ts job → PassesTokens us job
by_shapes ts us job e old = record {
  numbers = numbers_by_shapes job.format ts us e old.numbers;
  depth = depth_by_shapes 0 ts us e old.depth;
  given = twice_by_shapes [] ts us (roles_of job) e old.given;
  uses = stray_by_shapes (uses_of [] job.steps) ts us (roles_of job) e old.uses;
  reserved = reserved_by_shapes ts us (roles_of job) e old.reserved;
  size = old.size;
}

-- what a text without a fault says about its tokens
pub passed : (text : List ℕ) (ts : List Token) (job : Tree) → IsOf text ts job → ((k : JobKind) (at : ℕ) → Finds k text at → ⊥) →
    PassesTokens ts job
passed text ts job is_of none = record {
  numbers = none_of (number_fault job.format ts) (λ at e. none kind.Number at
      (ts, is_of.0, ap (λ (format : Format). number_fault format ts) (sym is_of.2) ∙ e));
  depth = none_of (depth_fault 0 ts) (λ at e. none kind.Depth at (ts, is_of.0, e));
  given = none_of (twice_in [] ts (roles_of job)) (λ at e. none kind.Twice at (ts, job, is_of, e));
  uses = none_of (stray_of job ts (roles_of job)) (λ at e. none kind.NotEnclosing at (ts, job, is_of, e));
  reserved = none_of (reserved_in ts (roles_of job)) (λ at e. none kind.Reserved at (ts, job, is_of, e));
  size = small_enough (most_steps job.format) (size_of job.steps) (λ lt. none kind.TooLarge 0 (ts, job, is_of, lt, refl));
}

-- numbers in their ranges can be written
writable : (format : Format) (named before : Option Keyword) (s : Shape) → IsSpelled s → is_in_range format named before s ≡ true → IsWritable s
writable format named before (shape.Word word) is in_range = is
writable format named before (shape.Number None) is in_range = absurd cc
writable format named before (shape.Number (Some n)) is in_range = is
writable format named before (shape.Text text) is in_range = is
writable format named before (shape.Mark mark) is in_range = is

written_after : (format : Format) (named before : Option Keyword) (ts : List Token) → AreSpelled ts → fault_after format named before ts ≡ None →
    AreWritable (shapes_of ts)
written_after format named before [] are none = tt
written_after format named before (t ∷ ts) are none =
    let parts = went_on (is_in_range format named before t.shape)
    (fault_after format (object_named format before t.shape) (keyword_in t.shape) ts) t.at none in (
      writable format named before t.shape are.0 parts.0,
      written_after format (object_named format before t.shape) (keyword_in t.shape) ts are.1 parts.1,
    )

-- so do all tokens of a text whose numbers are in range
pub all_writable : (format : Format) (ts : List Token) → AreSpelled ts → number_fault format ts ≡ None → AreWritable (shapes_of ts)
all_writable format ts are none = written_after format None None ts are none

-- ---- the checks of the canonical text

or_cases : (x y : Bool) → (x || y) ≡ true → (x ≡ true) ⊎ (y ≡ true)
or_cases true y e = inl refl
or_cases false y e = inr e

small_is_below : (b : ℕ) → is_small b ≡ true → ltb b 128 ≡ true
small_is_below b is = below (by_kind (or_cases (is_plain b) (is_blank b) is))
  where
    below : b < 128 → ltb b 128 ≡ true
    below lt = grind arith

    at : (n : ℕ) → n < 128 → eqb b n ≡ true → b < 128
    at n lt e = omega (arith, lt, eqb-true b n e)

    by_line : (eqb b 10 ≡ true) ⊎ (eqb b 13 ≡ true) → b < 128
    by_line (inl e) = at 10 (omega arith) e
    by_line (inr e) = at 13 (omega arith) e

    by_space : (eqb b 32 ≡ true) ⊎ (eqb b 9 ≡ true) → b < 128
    by_space (inl e) = at 32 (omega arith) e
    by_space (inr e) = at 9 (omega arith) e

    by_blank : ((eqb b 32 || eqb b 9) ≡ true) ⊎ ((eqb b 10 || eqb b 13) ≡ true) → b < 128
    by_blank (inl e) = by_space (or_cases (eqb b 32) (eqb b 9) e)
    by_blank (inr e) = by_line (or_cases (eqb b 10) (eqb b 13) e)

    by_kind : (is_plain b ≡ true) ⊎ (is_blank b ≡ true) → b < 128
    by_kind (inl e) = omega (arith, leb-true b 126 (and_parts (leb 32 b) (leb b 126) e).1)
    by_kind (inr e) = by_blank (or_cases (eqb b 32 || eqb b 9) (eqb b 10 || eqb b 13) e)

-- printable bytes and blanks are bytes of a text of each format
small_is_text : (format : Format) (b : ℕ) → is_small b ≡ true → is_text_byte format b ≡ true
small_is_text One b is = small_is_below b is
small_is_text Two b is = small_is_below b is
small_is_text Three b is = is

all_text : (format : Format) (bytes : List ℕ) → list_all is_small bytes ≡ true → length bytes ≤ prefix_len (is_text_byte format) bytes
all_text format [] all = omega arith
all_text format (b ∷ bytes) all =
    let parts = and_parts (is_small b) (list_all is_small bytes) all in
    rw (small_is_text format b parts.0) (omega (arith, all_text format bytes parts.1))

-- a text that passes each test spells the job of its tokens
passing_spells : (text : List ℕ) (ts : List Token) (job : Tree) → length text ≤ most_bytes → length text ≤ prefix_len (is_text_byte (format_of text)) text →
    take 11 text ≡ first_line job.format → IsOf text ts job → PassesTokens ts job → Spells text job
passing_spells text ts job short ascii headed is_of found =
    let lexed = is_of.0 in
    let numbers : number_fault (format_of text) ts ≡ None =
    subst (λ (format : Format). number_fault format ts ≡ None) is_of.2 found.numbers in
    let grammatical : fault_at (format_of text) (length text) whole_job ts ≡ None =
    subst (λ (format : Format). fault_at format (length text) whole_job ts ≡ None) is_of.2
    (fault_at-text job.format (length text) whole_job ts (text_of_job (shapes_of ts) job is_of.1.0 is_of.1.1)) in
    let three = passes_three text job.format (passes_two text (passes_one text short) ascii) headed in
    let five = passes_numbers text ts (passes_tokens text ts three lexed) lexed numbers in
    let seven = passes_depth text ts (passes_syntax text ts five lexed grammatical) lexed found.depth in
    let nine = passes_uses text ts job (passes_given text ts job seven is_of found.given) is_of found.uses in
    (ts, is_of, passes_all text (passes_size text ts job (passes_reserved text ts job nine is_of found.reserved) is_of found.size))

line_length : (format : Format) → length (first_line format) ≡ 11
line_length One = refl
line_length Two = refl
line_length Three = refl

long_enough : (text : List ℕ) → (IsHeadless text → ⊥) → 11 ≤ length text
long_enough text headed = elim (cases_lt (length text) 11) [
  | inl lt ↦ absurd (headed (λ format e.
      let l : length (take 11 text) ≡ 11 = ap (length {A = ℕ}) e ∙ line_length format in omega (arith, l, lt, length-take 11 text)))
  | inr ge ↦ ge
]

-- a text that is not refused as too long is short enough
pub short_enough : (text : List ℕ) → ((at : ℕ) → Finds kind.TooLong text at → ⊥) → length text ≤ most_bytes
short_enough text never = elim (cases_lt most_bytes (length text)) [ inl lt ↦ absurd (never most_bytes (lt, refl)) | inr le ↦ le ]

-- what holds of a first line followed by other bytes
record IsHeaded (format : Format) (body : List ℕ) : Type 0 where
  pub line : take 11 (first_line format ++ body) ≡ first_line format
  pub rest : drop 11 (first_line format ++ body) ≡ body
  pub long : length (first_line format ++ body) ≡ 11 + length body
  pub small : list_all is_small (first_line format ++ body) ≡ list_all is_small body

headed_by : (format : Format) (body : List ℕ) → IsHeaded format body
headed_by One body = record { line = refl; rest = refl; long = length-append (first_line One) body; small = refl }
headed_by Two body = record { line = refl; rest = refl; long = length-append (first_line Two) body; small = refl }
headed_by Three body = record { line = refl; rest = refl; long = length-append (first_line Three) body; small = refl }

-- the first line, followed by tokens
pub headed_spells : (limit : ℕ) (body : List ℕ) (job : Tree) (old : List Token) → limit ≤ most_bytes → 11 + length body ≤ limit →
    list_all is_small body ≡ true
    → (ts : List Token) → Lexes (has_comments job.format) (11 + length body) body ts None → shapes_of ts ≡ shapes_of old → AreTokensOf old job →
    PassesTokens old job → Spells (first_line job.format ++ body) job
headed_spells limit body job old most short small ts lexed same are found =
    let text : List ℕ = first_line job.format ++ body in
    let headed = headed_by job.format body in
    let of = format_is text job.format headed.line in
    let tokens : HasTokens text ts None =
    subst (λ (comments : Bool). Lexes comments (length text) (drop 11 text) ts None) (comments_by text job.format of)
    (subst (λ (n : ℕ). Lexes (has_comments job.format) n (drop 11 text) ts None) (sym headed.long)
    (subst (λ (bytes : List ℕ). Lexes (has_comments job.format) (11 + length body) bytes ts None) (sym headed.rest) lexed)) in
    passing_spells text ts job (omega (arith, headed.long, short, most)) (all_text (format_of text) text (headed.small ∙ small)) headed.line
    (tokens, (are.0, same ∙ are.1), of) (by_shapes old ts job (sym same) found)

-- the canonical text of a job whose tokens are those of some text that is long enough
canon_again : (text : List ℕ) (job : Tree) (ts : List Token) → HasTokens text ts None → length text ≤ most_bytes → 11 ≤ length text →
    AreTokensOf ts job → PassesTokens ts job → Spells (canon job) job × (length (canon job) ≤ length text)
canon_again text job ts lexed short long are found =
    let same = are.1 in
    let shapes = shapes_in (job_pieces job) in
    let spelled = tokens_spelled (may_have_comments text) (length text) (drop 11 text) ts None lexed in
    let written : AreWritable shapes = subst AreWritable same (all_writable job.format ts spelled found.numbers) in
    let shortest : length (canon_of shapes) ≤ length (drop 11 text) =
    subst (λ (ss : List Shape). length (canon_of ss) ≤ length (drop 11 text)) same
    (canon_shortest (may_have_comments text) (length text) false (drop 11 text) ts tt lexed) in
    let bound : 11 + length (canon_of shapes) ≤ length text = omega (arith, shortest, length-drop 11 text, long) in
    let again = canon_lexes (has_comments job.format) (11 + length (canon_of shapes)) false shapes written (omega arith) in (
      headed_spells (length text) (canon_of shapes) job ts short bound (canon_small false shapes written)
          again.0 again.1 (again.2 ∙ sym same) are found,
      omega (arith, bound, (headed_by job.format (canon_of shapes)).long),
    )

-- the canonical text of a job that a text spells also spells it, and is no longer
pub canon_spells : (text : List ℕ) (job : Tree) → Spells text job → Spells (canon job) job × (length (canon job) ≤ length text)
canon_spells text job (ts, is_of, none) =
    canon_again text job ts is_of.0 (short_enough text (none kind.TooLong)) (long_enough text (λ e. none kind.Version 0 (e, refl))) is_of.1
    (passed text ts job is_of none)

-- ---- the same job in a newer format

more_steps : (to format : Format) (n : ℕ) → n ≤ most_steps format → n ≤ most_steps (newer to format)
more_steps One format n le = le
more_steps Two One n le = omega arith
more_steps Two Two n le = le
more_steps Two Three n le = le
more_steps Three One n le = omega arith
more_steps Three Two n le = le
more_steps Three Three n le = le

upgraded_passes : (to : Format) (ts : List Token) (job : Tree) → AreTokensOf ts job → PassesTokens ts job → PassesTokens ts (in_format to job)
upgraded_passes to ts job are old = record {
  numbers = newer_numbers to job ts are.0 are.1 old.numbers;
  depth = old.depth;
  given = old.given;
  uses = old.uses;
  reserved = old.reserved;
  size = more_steps to job.format (size_of job.steps) old.size;
}

-- a job that its canonical text spells, in a newer format
upgraded_spells : (to : Format) (job : Tree) → Spells (canon job) job → Spells (canon (in_format to job)) (in_format to job)
upgraded_spells to job (ts, is_of, none) =
    let text = canon job in
    (canon_again text (in_format to job) ts is_of.0 (short_enough text (none kind.TooLong))
    (long_enough text (λ e. none kind.Version 0 (e, refl))) (newer_steps to job is_of.1.0, is_of.1.1)
    (upgraded_passes to ts job is_of.1 (passed text ts job is_of none))).0

-- the same for a format that is the newer one
pub newer_spells : (to format : Format) (job : Tree) → format ≡ newer to job.format → Spells (canon job) job →
    Spells (canon (record job { format = format })) (record job { format = format })
newer_spells to format job is spelled =
    subst (λ (f : Format). Spells (canon (record job { format = f })) (record job { format = f })) (sym is) (upgraded_spells to job spelled)
