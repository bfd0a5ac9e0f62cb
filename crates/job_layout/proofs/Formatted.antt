-- The formatted text of a job as some text spells it also spells that job, with the same comments.
use Rattle.std.proofs.Common.{◌≡◌, ℕ, zero, suc, ◌+◌, ◌≤◌, ◌<◌, Bool, true, false, cond, List, [], ◌∷◌, ◌++◌, length, drop, None, inl, inr, refl, sym, ap, subst, ◌∙◌, arith}
use Rattle.std.specs.List.{prefix_len, list_all}
use Rattle.std.proofs.lemmas.Bool.{cases_lt}
use Rattle.std.proofs.lemmas.List.{length-append, length-map}
use Rattle.job_tree.specs.declared.format.Format.{Format}
use Rattle.job_tree.specs.declared.format.Format.TheVariants.{One, Two, Three}
use Rattle.job_tree.specs.Tree.{Tree}
use Rattle.job_tokens.specs.declared.token.Shape.{Shape}
use Rattle.job_tokens.specs.declared.token.Token.{Token}
use Rattle.job_tokens.specs.Lexing.{has_comments}
use Rattle.job_tokens.specs.Comments.{Comment, after_token, comments_along}
use Rattle.job_tokens.proofs.LeftToRight.{Lexes-unique}
use Rattle.job_tokens.proofs.Round_bytes.{and_parts, and_whole}
use Rattle.job_tokens.proofs.Round_tokens.{AreWritable}
use Rattle.job_tokens.proofs.Shortest_tokens.{tokens_spelled}
use Rattle.job_tokens.proofs.Ascii_texts.{is_small}
use Rattle.job_tokens.proofs.Between.{AreAlong, AreAllOf, along_are, all_along}
use Rattle.job_syntax.specs.Pieces.{shapes_in as pieces_shapes, job_pieces}
use Rattle.job_syntax.specs.Depth.{AreWithin}
use Rattle.job_reader.specs.declared.fault.JobKind.TheVariants as kind
use Rattle.job_reader.specs.Refusals.{most_bytes, first_line, format_of, is_text_byte, may_have_comments, HasTokens, IsOf, Spells}
use Rattle.job_reader.specs.Canon.{canon}
use Rattle.job_reader.specs.Jobs.{IsReadable}
use Rattle.job_reader.proofs.Canonical.{PassesTokens, passed, all_writable, short_enough, headed_spells}
use Rattle.job_reader.proofs.Passing.{one_spelled, within}
use Rattle.job_layout.specs.declared.spaced.SpacedToken.{SpacedToken}
use Rattle.job_layout.specs.Commented.{first_of, others_of, lines_of, commented_text}
use Rattle.job_layout.specs.Layout.{job_tokens, comments_of, bare_of, text_with, formatted_text}
use Rattle.job_layout.specs.Faults.{IsFormatted, IsTooLong}
use Rattle.job_layout.proofs.Lexes.{shapes_in, AreApartAfter, AreAll, AreKept, body_text, body_lexes, body_along, body_small}
use Rattle.job_layout.proofs.Laying.{job_lays}

line_length : (format : Format) → length (first_line format) ≡ 11
line_length One = refl
line_length Two = refl
line_length Three = refl

-- ---- the comments of a text

along_all : (css : List (List Comment)) → AreAlong false css → AreAll true css
along_all [] are = tt
along_all (cs ∷ css) are = (are.0, along_all css are.1)

along_kept : (css : List (List Comment)) → AreAlong true css → AreKept true css
along_kept [] are = (tt, tt)
along_kept (cs ∷ css) are = (are.0, along_all css are.1)

none_along : (n : ℕ) → AreAll false (comments_along false n [])
none_along zero = (refl, tt)
none_along (suc n) = (refl, none_along n)

none_kept : (n : ℕ) → AreKept false (comments_along true n [])
none_kept zero = (refl, tt)
none_kept (suc n) = (refl, none_along n)

kept_in : (comments : Bool) (n : ℕ) (bytes : List ℕ) → AreKept comments (comments_along true n (cond comments bytes []))
kept_in true n bytes = along_kept (comments_along true n bytes) (along_are true n bytes)
kept_in false n bytes = none_kept n

along_length : (alone : Bool) (n : ℕ) (bytes : List ℕ) → length (comments_along alone n bytes) ≡ suc n
along_length alone zero bytes = refl
along_length alone (suc n) bytes = let e = along_length false n (after_token bytes) in omega (arith, e)

-- ---- the bytes of a text

all_of_prefix : (p : ℕ → Bool) (bytes : List ℕ) → length bytes ≤ prefix_len p bytes → list_all p bytes ≡ true
all_of_prefix p [] le = refl
all_of_prefix p (b ∷ bs) le = by_byte (p b) refl le (λ less. all_of_prefix p bs less)
  where
    by_byte : (is : Bool) → p b ≡ is → length (b ∷ bs) ≤ cond is (1 + prefix_len p bs) 0 →
        (length bs ≤ prefix_len p bs → list_all p bs ≡ true) → list_all p (b ∷ bs) ≡ true
    by_byte true e most others = and_whole (p b) (list_all p bs) e (others (omega (arith, most)))
    by_byte false e most others = absurd (omega (arith, most))

dropped : (n : ℕ) (bytes : List ℕ) → list_all is_small bytes ≡ true → list_all is_small (drop n bytes) ≡ true
dropped zero bytes all = all
dropped (suc n) [] all = refl
dropped (suc n) (b ∷ bs) all = dropped n bs (and_parts (is_small b) (list_all is_small bs) all).1

-- the bytes among which there may be comments are printable bytes and blanks
small_after : (format : Format) (text : List ℕ) → list_all (is_text_byte format) text ≡ true →
    list_all is_small (cond (has_comments format) (drop 11 text) []) ≡ true
small_after One text all = refl
small_after Two text all = refl
small_after Three text all = dropped 11 text all

text_small : (text : List ℕ) (job : Tree) → Spells text job → list_all is_small (cond (has_comments job.format) (drop 11 text) []) ≡ true
text_small text job (ts, is_of, none) =
    let byte = is_text_byte (format_of text) in
    let all : length text ≤ prefix_len byte text =
    elim (cases_lt (prefix_len byte text) (length text)) [ inl lt ↦ absurd (none kind.NotAscii (prefix_len byte text) (refl, lt)) | inr le ↦ le ] in
    small_after job.format text (subst (λ (format : Format). list_all (is_text_byte format) text ≡ true) (sym is_of.2) (all_of_prefix byte text all))

-- ---- the formatted text

-- the tokens of a job that some text spells can be written
spelled_writable : (text : List ℕ) (job : Tree) → Spells text job → AreWritable (pieces_shapes (job_pieces job))
spelled_writable text job (ts, is_of, none) =
    let spelled = tokens_spelled (may_have_comments text) (length text) (drop 11 text) ts None is_of.0 in
    subst AreWritable is_of.1.1 (all_writable job.format ts spelled (passed text ts job is_of none).numbers)

-- the tokens of a job, laid out so that they are apart, are read back
laid_spells : (text : List ℕ) (job : Tree) (old : List Token) (ts : List SpacedToken) (css : List (List Comment)) → IsOf text old job →
    PassesTokens old job → AreWritable (shapes_in ts) → shapes_in ts ≡ pieces_shapes (job_pieces job) → AreApartAfter ts →
    AreKept (has_comments job.format) css → AreAllOf is_small css → 11 + length (body_text ts css) ≤ most_bytes →
    Spells (first_line job.format ++ body_text ts css) job
laid_spells text job old ts css is_of found written same apart kept small le =
    let body = body_text ts css in
    let lexed = body_lexes (has_comments job.format) (11 + length body) ts css written apart kept (omega arith) in
    headed_spells (11 + length body) body job old le (omega arith) (body_small ts css written small) lexed.0 lexed.1
    (lexed.2 ∙ same ∙ sym is_of.1.1) is_of.1 found

laid_writable : (text : List ℕ) (job : Tree) (bare : List Bool) → Spells text job → AreWritable (shapes_in (job_tokens bare job))
laid_writable text job bare spells = subst AreWritable (sym (job_lays bare job).0) (spelled_writable text job spells)

-- the formatted text of a job that a text spells also spells it, if it is at most as long as a job text may be
pub formatted_spells : (text : List ℕ) (job : Tree) → Spells text job → length (formatted_text text job) ≤ most_bytes →
    Spells (formatted_text text job) job
formatted_spells text job spells le =
    let css = comments_of text job in
    let laid = job_lays (bare_of css) job in
    let ts = job_tokens (bare_of css) job in
    let n = length (pieces_shapes (job_pieces job)) in
    let small = all_along is_small n true (cond (has_comments job.format) (drop 11 text) []) (text_small text job spells) in
    laid_spells text job spells.0 ts css spells.1 (passed text spells.0 job spells.1 spells.2) (laid_writable text job (bare_of css) spells) laid.0 laid.1
    (kept_in (has_comments job.format) n (drop 11 text)) small
    (omega (arith, le, length-append (first_line job.format) (body_text ts css), line_length job.format))

-- the comments of a text of tokens with these comments
keeps : (format : Format) (n : ℕ) (text : List ℕ) (ts : List SpacedToken) → n ≡ length ts → AreWritable (shapes_in ts) → AreApartAfter ts →
    comments_along true n (cond (has_comments format)
    (drop 11 (first_line format ++ body_text ts (comments_along true n (cond (has_comments format) (drop 11 text) [])))) [])
    ≡ comments_along true n (cond (has_comments format) (drop 11 text) [])
keeps One n text ts same are apart = refl
keeps Two n text ts same are apart = refl
keeps Three n text ts same are apart =
    let css = comments_along true n (drop 11 text) in
    ap (λ (k : ℕ). comments_along true k (body_text ts css)) same
    ∙ body_along ts css are apart (kept_in true n (drop 11 text)) (along_length true n (drop 11 text) ∙ ap suc same)

-- the formatted text has the same comments
pub formatted_keeps : (text : List ℕ) (job : Tree) → Spells text job → comments_of (formatted_text text job) job ≡ comments_of text job
formatted_keeps text job spells =
    let bare = bare_of (comments_of text job) in
    let laid = job_lays bare job in
    let ts = job_tokens bare job in
    let shapes = pieces_shapes (job_pieces job) in
    let same : length shapes ≡ length ts = ap (length {A = Shape}) (sym laid.0) ∙ length-map ts (λ t. t.shape) in
    keeps job.format (length shapes) text ts same (laid_writable text job bare spells) laid.1

-- another job that it spells is the same job
pub formatted_again : (text : List ℕ) (job other : Tree) → Spells text job → Spells (formatted_text text job) other →
    formatted_text (formatted_text text job) other ≡ formatted_text text job
formatted_again text job other spells again =
    let bytes = formatted_text text job in
    let le = short_enough bytes (again.2 kind.TooLong) in
    ap (formatted_text bytes) (one_spelled bytes other job again (formatted_spells text job spells le))
    ∙ ap (λ (css : List (List Comment)). text_with css job) (formatted_keeps text job spells)

-- the blocks of a job are nested at most 32 deep
pub readable_within : (job : Tree) → IsReadable job → AreWithin 31 job.steps
readable_within job (ts, is_of, none) = within (canon job) ts job is_of (none kind.Depth)

-- ---- the text that the code writes

-- what the code reads and lays out gives the formatted text
pub bytes_are : (text bytes body : List ℕ) (job : Tree) (spelled : List Token) (bare : List Bool) (ts : List SpacedToken) → Spells text job →
    HasTokens text spelled None → body ≡ cond (has_comments job.format) (drop 11 text) [] → bare ≡ bare_of (comments_along true (length spelled) body) →
    ts ≡ job_tokens bare job → bytes ≡ first_line job.format ++ (lines_of (first_of (comments_along true (length ts) body))
    ++ (commented_text 0 ts ([] ∷ others_of (comments_along true (length ts) body)) ++ 10 ∷ [])) → bytes ≡ formatted_text text job
bytes_are text bytes body job spelled bare ts (old, is_of, none) lexed is_body is_bare is_ts is_bytes =
    let shapes = pieces_shapes (job_pieces job) in
    let one : spelled ≡ old = (Lexes-unique (may_have_comments text) (length text) (drop 11 text) spelled old None None lexed is_of.0).0 in
    let counted : length spelled ≡ length shapes =
    ap (length {A = Token}) one ∙ sym (length-map old (λ t. t.shape)) ∙ ap (length {A = Shape}) is_of.1.1 in
    let of_laid : length ts ≡ length shapes =
    ap (length {A = SpacedToken}) is_ts ∙ sym (length-map (job_tokens bare job) (λ t. t.shape)) ∙ ap (length {A = Shape}) (job_lays bare job).0 in
    let comments : comments_along true (length shapes) body ≡ comments_of text job = ap (comments_along true (length shapes)) is_body in
    let bares : bare ≡ bare_of (comments_of text job) =
    is_bare ∙ ap (λ (k : ℕ). bare_of (comments_along true k body)) counted ∙ ap bare_of comments in
    is_bytes ∙ ap (λ (k : ℕ). first_line job.format ++ body_text ts (comments_along true k body)) of_laid
    ∙ ap (λ (css : List (List Comment)). first_line job.format ++ body_text ts css) comments
    ∙ ap (λ (us : List SpacedToken). first_line job.format ++ body_text us (comments_of text job)) (is_ts ∙ ap (λ (bs : List Bool). job_tokens bs job) bares)

-- the values of the code, each with what its call says of it
pub code_gives : (text bytes body : List ℕ) (job : Tree) (spelled : List Token) (bare flags : List Bool) (ts laid : List SpacedToken) (format again : Format)
    (count : ℕ) → Spells text job → HasTokens text spelled None → format ≡ job.format → body ≡ cond (has_comments format) (drop 11 text) [] →
    count ≡ length spelled → bare ≡ bare_of (comments_along true count body) → flags ≡ bare → ts ≡ job_tokens flags job → laid ≡ ts →
    again ≡ job.format → bytes ≡ first_line again ++ (lines_of (first_of (comments_along true (length laid) body))
    ++ (commented_text 0 laid ([] ∷ others_of (comments_along true (length laid) body)) ++ 10 ∷ [])) → bytes ≡ formatted_text text job
code_gives text bytes body job spelled bare flags ts laid format again count spells lexed of is_body counted is_bare is_flags is_ts is_laid of_again is_bytes =
    bytes_are text bytes body job spelled bare ts spells lexed (is_body ∙ ap (λ (f : Format). cond (has_comments f) (drop 11 text) []) of)
    (is_bare ∙ ap (λ (n : ℕ). bare_of (comments_along true n body)) counted) (is_ts ∙ ap (λ (bs : List Bool). job_tokens bs job) is_flags)
    (is_bytes ∙ ap (λ (us : List SpacedToken). first_line again ++ body_text us (comments_along true (length us) body)) is_laid
    ∙ ap (λ (f : Format). first_line f ++ body_text ts (comments_along true (length ts) body)) of_again)

pub is_formatted : (text bytes : List ℕ) (job : Tree) → Spells text job → bytes ≡ formatted_text text job → length bytes ≤ most_bytes → IsFormatted text bytes
is_formatted text bytes job spells is le = record {
  job = job;
  spelled = spells;
  same = is;
  again = subst (λ (xs : List ℕ). Spells xs job) (sym is) (formatted_spells text job spells (omega (arith, le, ap (length {A = ℕ}) is)));
  kept = ap (λ (xs : List ℕ). comments_of xs job) is ∙ formatted_keeps text job spells;
}

pub is_too_long : (text bytes : List ℕ) (job : Tree) → bytes ≡ formatted_text text job → most_bytes < length bytes → IsTooLong text job (length bytes)
is_too_long text bytes job is lt = (ap (length {A = ℕ}) is, omega (arith, lt, ap (length {A = ℕ}) is))
