-- Tokens are read back from their text with blanks and comments between them, and so are the comments.
use Rattle.std.proofs.Common.{◌≡◌, ℕ, zero, suc, ◌+◌, ◌-◌, ◌≤◌, Bool, true, false, cond, not, List, [], ◌∷◌, ◌++◌, length, map, Some, None, refl, sym, ap, subst, ◌∙◌, append_assoc, append-nil, arith}
use Rattle.std.specs.List.{prefix_len, list_all}
use Rattle.std.proofs.lemmas.List.{length-append}
use Rattle.job_tree.specs.Words.{is_word_byte}
use Rattle.job_tokens.specs.declared.token.Token.{Token}
use Rattle.job_tokens.specs.declared.token.Shape.{Shape}
use Rattle.job_tokens.specs.declared.token.Shape.TheVariants as shape
use Rattle.job_tokens.specs.Lexing.{ends_line, skipped, after_blanks, token_at, Lexes}
use Rattle.job_tokens.specs.Canon.{token, is_wordlike}
use Rattle.job_tokens.specs.Comments.{Comment, line_at, comments_in, separator, rest_of, after_token, comments_along}
use Rattle.job_tokens.proofs.Round_tokens.{IsWritable, AreWritable, no_blanks, token_begins, StopsWord, token_again, mark_stops, LexesAs}
use Rattle.job_tokens.proofs.Ascii_texts.{is_small, canon_small}
use Rattle.job_tokens.proofs.Round_bytes.{and_parts, and_whole}
use Rattle.job_tokens.proofs.Between.{separator_is, AreComments, AreOf, AreAllOf}
use Rattle.std.proofs.lemmas.List.Folds.{list_all-append}
use Rattle.job_layout.specs.declared.spaced.Gap.{Gap}
use Rattle.job_layout.specs.declared.spaced.Gap.TheVariants as gaps
use Rattle.job_layout.specs.declared.spaced.SpacedToken.{SpacedToken}
use Rattle.job_layout.specs.Spaced.{indent, gap_text}
use Rattle.job_layout.specs.Commented.{lead, comments_text, lines_of, comment_level, gap_after, level_after, first_of, others_of, commented_token, commented_text}

-- tokens without the gaps
abbrev pub shapes_in : List SpacedToken → List Shape
shapes_in ts = map (λ t. t.shape) ts

-- a token that is apart from a word before it: by its gap, or because it does not begin with a byte of a word
abbrev pub IsApart : Gap → Shape → Type 0
IsApart gaps.Joined s = is_wordlike s ≡ false
IsApart gaps.Space s = Unit {0}
IsApart (gaps.Line level) s = Unit {0}

abbrev pub AreApart : List SpacedToken → Type 0
AreApart [] = Unit {0}
AreApart (t ∷ ts) = IsApart t.gap t.shape × AreApart ts

-- each token but the first
abbrev pub AreApartAfter : List SpacedToken → Type 0
AreApartAfter [] = Unit {0}
AreApartAfter (t ∷ ts) = AreApart ts

-- ---- comments that a text may have

-- comments after a token: there is none in a text without comments
abbrev pub AreFor : Bool → List Comment → Type 0
AreFor true cs = AreComments false cs
AreFor false cs = cs ≡ []

abbrev pub AreAll : Bool → List (List Comment) → Type 0
AreAll comments [] = Unit {0}
AreAll comments (cs ∷ css) = AreFor comments cs × AreAll comments css

-- comments before the first token
abbrev pub AreFirst : Bool → List Comment → Type 0
AreFirst true cs = AreComments true cs
AreFirst false cs = cs ≡ []

none_are : (comments : Bool) → AreFor comments []
none_are true = tt
none_are false = refl

first_are : (comments : Bool) (css : List (List Comment)) → AreAll comments css → AreFor comments (first_of css)
first_are comments [] are = none_are comments
first_are comments (cs ∷ css) are = are.0

others_are : (comments : Bool) (css : List (List Comment)) → AreAll comments css → AreAll comments (others_of css)
others_are comments [] are = tt
others_are comments (cs ∷ css) are = are.1

-- ---- one comment

indent_is_left : (comments : Bool) (level : ℕ) (bytes : List ℕ) → after_blanks comments (indent level ++ bytes) ≡ after_blanks comments bytes
indent_is_left comments zero bytes = refl
indent_is_left comments (suc level) bytes = indent_is_left comments level bytes

indent_is_read : (level : ℕ) (bytes : List ℕ) → comments_in true false (indent level ++ bytes) ≡ comments_in true false bytes
indent_is_read zero bytes = refl
indent_is_read (suc level) bytes = indent_is_read level bytes

lead_is_left : (level : ℕ) (alone : Bool) (bytes : List ℕ) → skipped true false (lead level alone ++ bytes) ≡ skipped true false bytes
lead_is_left level true bytes = indent_is_left true level bytes
lead_is_left level false bytes = refl

lead_is_read : (level : ℕ) (alone : Bool) (bytes : List ℕ) → comments_in false false (lead level alone ++ bytes) ≡ comments_in alone false bytes
lead_is_read level true bytes = indent_is_read level bytes
lead_is_read level false bytes = refl

lead_stops : (level : ℕ) (alone : Bool) (bytes : List ℕ) → prefix_len is_word_byte (lead level alone ++ bytes) ≡ 0
lead_stops level true bytes = refl
lead_stops level false bytes = refl

-- the bytes of a line, none of which ends it
abbrev IsLine : List ℕ → Type 0
IsLine line = list_all (λ b. not (ends_line b)) line ≡ true

line_is_left : (line bytes : List ℕ) → IsLine line → skipped true true (line ++ bytes) ≡ skipped true true bytes
line_is_left [] bytes is = refl
line_is_left (b ∷ line) bytes is =
    let parts = and_parts (not (ends_line b)) (list_all (λ x. not (ends_line x)) line) is in
    ap (λ (inside : Bool). skipped true inside (line ++ bytes)) parts.0 ∙ line_is_left line bytes parts.1

line_is_read : (line bytes : List ℕ) → IsLine line → comments_in true true (line ++ bytes) ≡ comments_in true true bytes
line_is_read [] bytes is = refl
line_is_read (b ∷ line) bytes is =
    let parts = and_parts (not (ends_line b)) (list_all (λ x. not (ends_line x)) line) is in
    ap (λ (inside : Bool). comments_in true inside (line ++ bytes)) parts.0 ∙ line_is_read line bytes parts.1

line_ends : (line bytes : List ℕ) → IsLine line → line_at (line ++ 10 ∷ bytes) ≡ line
line_ends [] bytes is = refl
line_ends (b ∷ line) bytes is =
    let parts = and_parts (not (ends_line b)) (list_all (λ x. not (ends_line x)) line) is in
    by_byte (ends_line b) parts.0 (line_ends line bytes parts.1)
  where
    by_byte : (ends : Bool) → not ends ≡ true → line_at (line ++ 10 ∷ bytes) ≡ line →
        cond ends [] (b ∷ line_at (line ++ 10 ∷ bytes)) ≡ b ∷ line
    by_byte true e same = absurd cc
    by_byte false e same = ap (λ (xs : List ℕ). b ∷ xs) same

-- a comment that is read: its line, and then what is read after it
comment_is_read : (alone : Bool) (c : Comment) (cs : List Comment) (line bytes after : List ℕ) → c.alone ≡ alone → c.text ≡ 35 ∷ line → IsLine line →
    bytes ≡ 10 ∷ after → comments_in true true bytes ≡ cs → comments_in alone false (35 ∷ (line ++ bytes)) ≡ c ∷ cs
comment_is_read alone c cs line bytes after is text is_line ends others =
    let read : line_at (line ++ bytes) ≡ line = ap (λ (xs : List ℕ). line_at (line ++ xs)) ends ∙ line_ends line after is_line in
    ap (λ (xs : List ℕ). record { alone = alone; text = 35 ∷ xs } ∷ comments_in true true (line ++ bytes)) read
    ∙ ap (λ (xs : List Comment). record { alone = alone; text = 35 ∷ line } ∷ xs) (line_is_read line bytes is_line ∙ others)
    ∙ ap (λ (b : Bool). record { alone = b; text = 35 ∷ line } ∷ cs) (sym is)
    ∙ ap (λ (xs : List ℕ). record { alone = c.alone; text = xs } ∷ cs) (sym text)

-- ---- comments after a token

first_comment : (level : ℕ) (c : Comment) (cs : List Comment) (bytes : List ℕ) →
    comments_text level (c ∷ cs) ++ bytes ≡ lead level c.alone ++ (c.text ++ (comments_text level cs ++ bytes))
first_comment level c cs bytes = append_assoc (lead level c.alone ++ c.text) (comments_text level cs) bytes
    ∙ append_assoc (lead level c.alone) c.text (comments_text level cs ++ bytes)

comment_from : (level : ℕ) (c : Comment) (cs : List Comment) (alone : Bool) (line bytes : List ℕ) → c.alone ≡ alone → c.text ≡ 35 ∷ line →
    comments_text level (c ∷ cs) ++ bytes ≡ lead level alone ++ (35 ∷ (line ++ (comments_text level cs ++ bytes)))
comment_from level c cs alone line bytes is text =
    let rest = comments_text level cs ++ bytes in
    first_comment level c cs bytes ∙ ap (λ (b : Bool). lead level b ++ (c.text ++ rest)) is ∙ ap (λ (xs : List ℕ). lead level alone ++ (xs ++ rest)) text

-- after a comment, comments end its line, and so does what is after them
line_begins : (level : ℕ) (cs : List Comment) (bytes : List ℕ) → AreComments true cs →
    (after : List ℕ) × (comments_text level cs ++ 10 ∷ bytes ≡ 10 ∷ after)
line_begins level [] bytes are = (bytes, refl)
line_begins level (c ∷ cs) bytes are =
    let line = are.1.0 in
    (indent level ++ (35 ∷ (line ++ (comments_text level cs ++ 10 ∷ bytes))), comment_from level c cs true line (10 ∷ bytes) (are.0 refl) are.1.1)

comments_are_left : (level : ℕ) (cs : List Comment) (bytes : List ℕ) → AreComments true cs →
    skipped true true (comments_text level cs ++ 10 ∷ bytes) ≡ skipped true false bytes
comments_are_left level [] bytes are = refl
comments_are_left level (c ∷ cs) bytes are =
    let line = are.1.0 in
    let rest = comments_text level cs ++ 10 ∷ bytes in
    let is_line : IsLine line = are.1.2 in
    ap (skipped true true) (comment_from level c cs true line (10 ∷ bytes) (are.0 refl) are.1.1)
    ∙ indent_is_left true level (35 ∷ (line ++ rest)) ∙ line_is_left line rest is_line ∙ comments_are_left level cs bytes are.2

comments_are_read : (level : ℕ) (cs : List Comment) (bytes : List ℕ) → AreComments true cs → comments_in true false bytes ≡ [] →
    comments_in true true (comments_text level cs ++ 10 ∷ bytes) ≡ cs
comments_are_read level [] bytes are none = none
comments_are_read level (c ∷ cs) bytes are none =
    let line = are.1.0 in
    let rest = comments_text level cs ++ 10 ∷ bytes in
    let is_line : IsLine line = are.1.2 in
    let begins = line_begins level cs bytes are.2 in
    ap (comments_in true true) (comment_from level c cs true line (10 ∷ bytes) (are.0 refl) are.1.1)
    ∙ indent_is_read level (35 ∷ (line ++ rest))
    ∙ comment_is_read true c cs line rest begins.0 (are.0 refl) are.1.1 is_line begins.1 (comments_are_read level cs bytes are.2 none)

-- ---- what is between two tokens

-- the comments and the gap before a token; they are of two levels
abbrev between : ℕ → ℕ → List Comment → Gap → List ℕ
between inner level cs gap = comments_text inner cs ++ gap_text (gap_after level cs gap)

gap_is_left : (comments : Bool) (gap : Gap) (bytes : List ℕ) → after_blanks comments bytes ≡ bytes → after_blanks comments (gap_text gap ++ bytes) ≡ bytes
gap_is_left comments gaps.Joined bytes none = none
gap_is_left comments gaps.Space bytes none = none
gap_is_left comments (gaps.Line level) bytes none = indent_is_left comments level bytes ∙ none

gap_is_read : (alone : Bool) (gap : Gap) → comments_in alone false (gap_text gap) ≡ []
gap_is_read alone gaps.Joined = refl
gap_is_read alone gaps.Space = refl
gap_is_read true (gaps.Line level) = ap (comments_in true false) (sym (append-nil (indent level))) ∙ indent_is_read level []
gap_is_read false (gaps.Line level) = ap (comments_in true false) (sym (append-nil (indent level))) ∙ indent_is_read level []

-- after comments, the gap is a line
gap_is_line : (level : ℕ) (c : Comment) (cs : List Comment) (gap : Gap) → (next : ℕ) × (gap_text (gap_after level (c ∷ cs) gap) ≡ 10 ∷ indent next)
gap_is_line level c cs gaps.Joined = (level + 1, refl)
gap_is_line level c cs gaps.Space = (level + 1, refl)
gap_is_line level c cs (gaps.Line next) = (next, refl)

-- comments, and then a line
between_from : (inner level : ℕ) (c : Comment) (cs : List Comment) (gap : Gap) (line bytes : List ℕ) → c.text ≡ 35 ∷ line →
    between inner level (c ∷ cs) gap ++ bytes
    ≡ lead inner c.alone ++ (35 ∷ (line ++ (comments_text inner cs ++ 10 ∷ (indent (gap_is_line level c cs gap).0 ++ bytes))))
between_from inner level c cs gap line bytes text =
    let next = gap_is_line level c cs gap in
    append_assoc (comments_text inner (c ∷ cs)) (gap_text (gap_after level (c ∷ cs) gap)) bytes
    ∙ ap (λ (xs : List ℕ). comments_text inner (c ∷ cs) ++ (xs ++ bytes)) next.1
    ∙ comment_from inner c cs c.alone line (10 ∷ (indent next.0 ++ bytes)) refl text

-- they are left out before a token
between_is_left : (comments : Bool) (inner level : ℕ) (cs : List Comment) (gap : Gap) (bytes : List ℕ) → AreFor comments cs →
    after_blanks comments bytes ≡ bytes → after_blanks comments (between inner level cs gap ++ bytes) ≡ bytes
between_is_left comments inner level [] gap bytes are none = gap_is_left comments gap bytes none
between_is_left false inner level (c ∷ cs) gap bytes are none = absurd cc
between_is_left true inner level (c ∷ cs) gap bytes are none =
    let line = are.1.0 in
    let is_line : IsLine line = are.1.2 in
    let next = gap_is_line level c cs gap in
    let rest = comments_text inner cs ++ 10 ∷ (indent next.0 ++ bytes) in
    ap (after_blanks true) (between_from inner level c cs gap line bytes are.1.1)
    ∙ lead_is_left inner c.alone (35 ∷ (line ++ rest)) ∙ line_is_left line rest is_line
    ∙ comments_are_left inner cs (indent next.0 ++ bytes) are.2 ∙ indent_is_left true next.0 bytes ∙ none

-- the comments are read
between_is_read : (inner level : ℕ) (cs : List Comment) (gap : Gap) → AreComments false cs → comments_in false false (between inner level cs gap) ≡ cs
between_is_read inner level [] gap are = gap_is_read false gap
between_is_read inner level (c ∷ cs) gap are =
    let line = are.1.0 in
    let is_line : IsLine line = are.1.2 in
    let next = gap_is_line level c cs gap in
    let rest = comments_text inner cs ++ 10 ∷ (indent next.0 ++ []) in
    let begins = line_begins inner cs (indent next.0 ++ []) are.2 in
    ap (comments_in false false) (sym (append-nil (between inner level (c ∷ cs) gap)) ∙ between_from inner level c cs gap line [] are.1.1)
    ∙ lead_is_read inner c.alone (35 ∷ (line ++ rest))
    ∙ comment_is_read c.alone c cs line rest begins.0 refl are.1.1 is_line begins.1
    (comments_are_read inner cs (indent next.0 ++ []) are.2 (indent_is_read next.0 []))

-- ---- the end of a word

token_stops : (gap : Gap) (s : Shape) (rest : List ℕ) → IsApart gap s → prefix_len is_word_byte ((gap_text gap ++ token s) ++ rest) ≡ 0
token_stops gaps.Joined (shape.Word word) rest apart = absurd cc
token_stops gaps.Joined (shape.Number n) rest apart = absurd cc
token_stops gaps.Joined (shape.Text text) rest apart = refl
token_stops gaps.Joined (shape.Mark m) rest apart = mark_stops m rest
token_stops gaps.Space s rest apart = refl
token_stops (gaps.Line level) s rest apart = refl

between_stops : (inner level : ℕ) (cs : List Comment) (gap : Gap) (s : Shape) (rest : List ℕ) → IsApart gap s →
    prefix_len is_word_byte ((between inner level cs gap ++ token s) ++ rest) ≡ 0
between_stops inner level [] gap s rest apart = token_stops gap s rest apart
between_stops inner level (c ∷ cs) gap s rest apart =
    let g = gap_text (gap_after level (c ∷ cs) gap) in
    ap (prefix_len is_word_byte) (append_assoc (between inner level (c ∷ cs) gap) (token s) rest
    ∙ append_assoc (comments_text inner (c ∷ cs)) g (token s ++ rest) ∙ first_comment inner c cs (g ++ (token s ++ rest)))
    ∙ lead_stops inner c.alone (c.text ++ (comments_text inner cs ++ (g ++ (token s ++ rest))))

end_stops : (cs : List Comment) → prefix_len is_word_byte (comments_text 0 cs ++ 10 ∷ []) ≡ 0
end_stops [] = refl
end_stops (c ∷ cs) = ap (prefix_len is_word_byte) (first_comment 0 c cs (10 ∷ [])) ∙ lead_stops 0 c.alone (c.text ++ (comments_text 0 cs ++ 10 ∷ []))

text_stops : (before : Bool) (level : ℕ) (ts : List SpacedToken) (css : List (List Comment)) → AreApart ts →
    StopsWord before (commented_text level ts css ++ 10 ∷ [])
text_stops false level ts css apart = tt
text_stops true level [] css apart = end_stops (first_of css)
text_stops true level (t ∷ ts) css apart =
    let rest = commented_text (level_after level t.gap) ts (others_of css) in
    ap (prefix_len is_word_byte) (append_assoc (commented_token level (first_of css) t) rest (10 ∷ []))
    ∙ between_stops (comment_level level t.gap t.shape) level (first_of css) t.gap t.shape (rest ++ 10 ∷ []) apart.0

-- ---- all tokens

pub after_first : (ts : List SpacedToken) → AreApart ts → AreApartAfter ts
after_first [] apart = tt
after_first (t ∷ ts) apart = apart.1

-- the text of a token and of those after it
from_token : (level : ℕ) (t : SpacedToken) (ts : List SpacedToken) (css : List (List Comment)) →
    commented_text level (t ∷ ts) css ++ 10 ∷ []
    ≡ commented_token level (first_of css) t ++ (commented_text (level_after level t.gap) ts (others_of css) ++ 10 ∷ [])
from_token level t ts css =
    append_assoc (commented_token level (first_of css) t) (commented_text (level_after level t.gap) ts (others_of css)) (10 ∷ [])

token_is_found : (comments : Bool) (level : ℕ) (cs : List Comment) (t : SpacedToken) (rest : List ℕ) → AreFor comments cs → IsWritable t.shape →
    after_blanks comments (commented_token level cs t ++ rest) ≡ token t.shape ++ rest
token_is_found comments level cs t rest are is =
    let inner = comment_level level t.gap t.shape in
    let bytes = token t.shape ++ rest in
    ap (after_blanks comments) (append_assoc (between inner level cs t.gap) (token t.shape) rest)
    ∙ between_is_left comments inner level cs t.gap bytes are (no_blanks comments bytes (token_begins t.shape rest is))

-- after the last token, comments and a newline
end_is : (level : ℕ) (cs : List Comment) → comments_text level cs ++ 10 ∷ [] ≡ between level 0 cs (gaps.Line 0)
end_is level [] = refl
end_is level (c ∷ cs) = refl

nothing_is_left : (comments : Bool) (cs : List Comment) → AreFor comments cs → after_blanks comments (comments_text 0 cs ++ 10 ∷ []) ≡ []
nothing_is_left comments cs are =
    ap (after_blanks comments) (end_is 0 cs ∙ sym (append-nil (between 0 0 cs (gaps.Line 0))))
    ∙ between_is_left comments 0 0 cs (gaps.Line 0) [] are refl

-- a token that can be written, followed by others that are read back
one_more : (comments : Bool) (end : ℕ) (first rest : List ℕ) (s : Shape) (ss : List Shape) → IsWritable s → StopsWord (is_wordlike s) rest →
    after_blanks comments (first ++ rest) ≡ token s ++ rest → length (token s ++ rest) ≤ end → LexesAs comments end rest ss →
    LexesAs comments end (first ++ rest) (s ∷ ss)
one_more comments end first rest s ss is stops found le others =
    let bytes = token s ++ rest in
    let read : token_at (after_blanks comments (first ++ rest)) ≡ Some (s, rest) = ap token_at found ∙ token_again s rest is stops in
    let place : end - length bytes + length (after_blanks comments (first ++ rest)) ≡ end = omega (arith, ap (length {A = ℕ}) found, le) in
    (record { at = end - length bytes; shape = s } ∷ others.0, (rest, read, place, others.1), ap (λ (x : List Shape). s ∷ x) others.2)

token_length : (level : ℕ) (cs : List Comment) (t : SpacedToken) (rest : List ℕ) →
    length (token t.shape ++ rest) ≤ length (commented_token level cs t ++ rest)
token_length level cs t rest =
    let gap = between (comment_level level t.gap t.shape) level cs t.gap in
    omega (arith, length-append (token t.shape) rest, length-append (gap ++ token t.shape) rest, length-append gap (token t.shape))

-- Tokens are read back from their text, followed by a newline, if all of them after the first are apart.
pub commented_lexes : (comments : Bool) (end level : ℕ) (ts : List SpacedToken) (css : List (List Comment)) → AreWritable (shapes_in ts) →
    AreApartAfter ts → AreAll comments css → length (commented_text level ts css ++ 10 ∷ []) ≤ end →
    LexesAs comments end (commented_text level ts css ++ 10 ∷ []) (shapes_in ts)
commented_lexes comments end level [] css are apart all le = ([], nothing_is_left comments (first_of css) (first_are comments css all), refl)
commented_lexes comments end level (t ∷ ts) css are apart all le =
    let first = commented_token level (first_of css) t in
    let next = level_after level t.gap in
    let rest = commented_text next ts (others_of css) ++ 10 ∷ [] in
    let whole = from_token level t ts css in
    let bound : length (first ++ rest) ≤ end = omega (arith, le, ap (length {A = ℕ}) whole) in
    let short : length rest ≤ end = omega (arith, bound, length-append first rest) in
    let room : length (token t.shape ++ rest) ≤ end = omega (arith, bound, token_length level (first_of css) t rest) in
    subst (λ (bytes : List ℕ). LexesAs comments end bytes (shapes_in (t ∷ ts))) (sym whole)
    (one_more comments end first rest t.shape (shapes_in ts) are.0 (text_stops (is_wordlike t.shape) next ts (others_of css) apart)
    (token_is_found comments level (first_of css) t rest (first_are comments css all) are.0) room
    (commented_lexes comments end next ts (others_of css) are.1 (after_first ts apart) (others_are comments css all) short))

-- ---- all comments

-- the bytes after the first token
token_is_left : (level : ℕ) (t : SpacedToken) (ts : List SpacedToken) (css : List (List Comment)) → IsWritable t.shape → AreApart ts → AreAll true css →
    after_token (commented_text level (t ∷ ts) css ++ 10 ∷ []) ≡ commented_text (level_after level t.gap) ts (others_of css) ++ 10 ∷ []
token_is_left level t ts css is apart all =
    let next = level_after level t.gap in
    let rest = commented_text next ts (others_of css) ++ 10 ∷ [] in
    ap after_token (from_token level t ts css)
    ∙ ap (λ (bytes : List ℕ). rest_of (token_at bytes)) (token_is_found true level (first_of css) t rest (first_are true css all) is)
    ∙ ap rest_of (token_again t.shape rest is (text_stops (is_wordlike t.shape) next ts (others_of css) apart))

-- the comments before the first token
before_token : (level : ℕ) (t : SpacedToken) (cs : List Comment) (rest : List ℕ) → IsWritable t.shape → AreComments false cs →
    comments_in false false (separator (commented_token level cs t ++ rest)) ≡ cs
before_token level t cs rest is are =
    let inner = comment_level level t.gap t.shape in
    let gap = between inner level cs t.gap in
    let bytes = token t.shape ++ rest in
    ap (λ (xs : List ℕ). comments_in false false (separator xs)) (append_assoc gap (token t.shape) rest)
    ∙ ap (comments_in false false) (separator_is gap bytes
    (between_is_left true inner level cs t.gap bytes are (no_blanks true bytes (token_begins t.shape rest is))))
    ∙ between_is_read inner level cs t.gap are

before_end : (cs : List Comment) → AreComments false cs → comments_in false false (separator (comments_text 0 cs ++ 10 ∷ [])) ≡ cs
before_end cs are =
    let gap = between 0 0 cs (gaps.Line 0) in
    ap (λ (xs : List ℕ). comments_in false false (separator xs)) (end_is 0 cs ∙ sym (append-nil gap))
    ∙ ap (comments_in false false) (separator_is gap [] (between_is_left true 0 0 cs (gaps.Line 0) [] are refl))
    ∙ between_is_read 0 0 cs (gaps.Line 0) are

-- Comments are read back from the text of tokens with them.
pub commented_along : (level : ℕ) (ts : List SpacedToken) (css : List (List Comment)) → AreWritable (shapes_in ts) → AreApartAfter ts → AreAll true css →
    length css ≡ suc (length ts) → comments_along false (length ts) (commented_text level ts css ++ 10 ∷ []) ≡ css
commented_along level [] [] are apart all long = absurd (omega (arith, long))
commented_along level [] (cs ∷ []) are apart all long = ap (λ (x : List Comment). x ∷ []) (before_end cs all.0)
commented_along level [] (cs ∷ more ∷ css) are apart all long = absurd (omega (arith, long))
commented_along level (t ∷ ts) [] are apart all long = absurd (omega (arith, long))
commented_along level (t ∷ ts) (cs ∷ css) are apart all long =
    let next = level_after level t.gap in
    let rest = commented_text next ts css ++ 10 ∷ [] in
    let whole = commented_text level (t ∷ ts) (cs ∷ css) ++ 10 ∷ [] in
    ap (λ (x : List Comment). x ∷ comments_along false (length ts) (after_token whole))
    (ap (λ (xs : List ℕ). comments_in false false (separator xs)) (from_token level t ts (cs ∷ css)) ∙ before_token level t cs rest are.0 all.0)
    ∙ ap (λ (xs : List ℕ). cs ∷ comments_along false (length ts) xs) (token_is_left level t ts (cs ∷ css) are.0 apart all)
    ∙ ap (λ (x : List (List Comment)). cs ∷ x) (commented_along next ts css are.1 (after_first ts apart) all.1 (omega (arith, long)))

-- ---- the comments before the first token

-- what comes before the first token, without comments in the gap
line_from : (c : Comment) (cs : List Comment) (line bytes : List ℕ) → c.text ≡ 35 ∷ line →
    lines_of (c ∷ cs) ++ bytes ≡ 35 ∷ (line ++ 10 ∷ (lines_of cs ++ bytes))
line_from c cs line bytes text =
    append_assoc (c.text ++ 10 ∷ []) (lines_of cs) bytes ∙ append_assoc c.text (10 ∷ []) (lines_of cs ++ bytes)
    ∙ ap (λ (xs : List ℕ). xs ++ 10 ∷ (lines_of cs ++ bytes)) text

lines_are_left : (cs : List Comment) (bytes : List ℕ) → AreComments true cs → after_blanks true (lines_of cs ++ bytes) ≡ after_blanks true bytes
lines_are_left [] bytes are = refl
lines_are_left (c ∷ cs) bytes are =
    let line = are.1.0 in
    let is_line : IsLine line = are.1.2 in
    ap (after_blanks true) (line_from c cs line bytes are.1.1) ∙ line_is_left line (10 ∷ (lines_of cs ++ bytes)) is_line ∙ lines_are_left cs bytes are.2

lines_are_read : (cs : List Comment) (bytes : List ℕ) → AreComments true cs → comments_in true false bytes ≡ [] →
    comments_in true false (lines_of cs ++ bytes) ≡ cs
lines_are_read [] bytes are none = none
lines_are_read (c ∷ cs) bytes are none =
    let line = are.1.0 in
    let is_line : IsLine line = are.1.2 in
    let rest = lines_of cs ++ bytes in
    ap (comments_in true false) (line_from c cs line bytes are.1.1)
    ∙ comment_is_read true c cs line (10 ∷ rest) rest (are.0 refl) are.1.1 is_line refl (lines_are_read cs bytes are.2 none)

lines_before : (comments : Bool) (cs : List Comment) (bytes : List ℕ) → AreFirst comments cs →
    after_blanks comments (lines_of cs ++ bytes) ≡ after_blanks comments bytes
lines_before true cs bytes are = lines_are_left cs bytes are
lines_before false cs bytes are = ap (λ (x : List Comment). after_blanks false (lines_of x ++ bytes)) are

-- bytes are read as the same tokens from where the first token begins
same_start : (comments : Bool) (end : ℕ) (one other : List ℕ) (ts : List Token) → after_blanks comments one ≡ after_blanks comments other →
    Lexes comments end other ts None → Lexes comments end one ts None
same_start comments end one other [] same lexed = same ∙ lexed
same_start comments end one other (t ∷ ts) same lexed = (
  lexed.0,
  ap token_at same ∙ lexed.1,
  ap (λ (xs : List ℕ). t.at + length xs) same ∙ lexed.2,
  lexed.3,
)

-- the text of all tokens, with comments before the first
abbrev pub body_text : List SpacedToken → List (List Comment) → List ℕ
body_text ts css = lines_of (first_of css) ++ (commented_text 0 ts ([] ∷ others_of css) ++ 10 ∷ [])

-- comments before each token
abbrev pub AreKept : Bool → List (List Comment) → Type 0
AreKept comments css = AreFirst comments (first_of css) × AreAll comments (others_of css)

-- The tokens are read back.
pub body_lexes : (comments : Bool) (end : ℕ) (ts : List SpacedToken) (css : List (List Comment)) → AreWritable (shapes_in ts) → AreApartAfter ts →
    AreKept comments css → length (body_text ts css) ≤ end → LexesAs comments end (body_text ts css) (shapes_in ts)
body_lexes comments end ts css are apart kept le =
    let lines = lines_of (first_of css) in
    let rest = commented_text 0 ts ([] ∷ others_of css) ++ 10 ∷ [] in
    let short : length rest ≤ end = omega (arith, le, length-append lines rest) in
    let lexed = commented_lexes comments end 0 ts ([] ∷ others_of css) are apart (none_are comments, kept.1) short in
    (lexed.0, same_start comments end (lines ++ rest) rest lexed.0 (lines_before comments (first_of css) rest kept.0) lexed.1, lexed.2)

-- what comes before the first token
first_is_read : (cs : List Comment) (gap : Gap) (bytes : List ℕ) → AreComments true cs → after_blanks true bytes ≡ bytes →
    comments_in true false (separator (lines_of cs ++ (gap_text gap ++ bytes))) ≡ cs
first_is_read cs gap bytes are none =
    let all = lines_of cs ++ gap_text gap in
    let whole : lines_of cs ++ (gap_text gap ++ bytes) ≡ all ++ bytes = sym (append_assoc (lines_of cs) (gap_text gap) bytes) in
    let left : after_blanks true (all ++ bytes) ≡ bytes =
    ap (after_blanks true) (sym whole) ∙ lines_are_left cs (gap_text gap ++ bytes) are ∙ gap_is_left true gap bytes none in
    ap (λ (xs : List ℕ). comments_in true false (separator xs)) whole ∙ ap (comments_in true false) (separator_is all bytes left)
    ∙ lines_are_read cs (gap_text gap) are (gap_is_read true gap)

-- The comments are read back.
pub body_along : (ts : List SpacedToken) (css : List (List Comment)) → AreWritable (shapes_in ts) → AreApartAfter ts → AreKept true css →
    length css ≡ suc (length ts) → comments_along true (length ts) (body_text ts css) ≡ css
body_along ts [] are apart kept long = absurd (omega (arith, long))
body_along [] (cs ∷ []) are apart kept long = ap (λ (x : List Comment). x ∷ []) (first_is_read cs (gaps.Line 0) [] kept.0 refl)
body_along [] (cs ∷ more ∷ css) are apart kept long = absurd (omega (arith, long))
body_along (t ∷ ts) (cs ∷ css) are apart kept long =
    let next = level_after 0 t.gap in
    let rest = commented_text next ts css ++ 10 ∷ [] in
    let after = commented_text 0 (t ∷ ts) ([] ∷ css) ++ 10 ∷ [] in
    let bytes = token t.shape ++ rest in
    let whole : after ≡ gap_text t.gap ++ bytes = from_token 0 t ts ([] ∷ css) ∙ append_assoc (gap_text t.gap) (token t.shape) rest in
    ap (λ (x : List Comment). x ∷ comments_along false (length ts) (after_token (lines_of cs ++ after)))
    (ap (λ (xs : List ℕ). comments_in true false (separator (lines_of cs ++ xs))) whole
    ∙ first_is_read cs t.gap bytes kept.0 (no_blanks true bytes (token_begins t.shape rest are.0)))
    ∙ ap (λ (xs : List ℕ). cs ∷ comments_along false (length ts) (rest_of (token_at xs))) (lines_are_left cs after kept.0)
    ∙ ap (λ (xs : List ℕ). cs ∷ comments_along false (length ts) xs) (token_is_left 0 t ts ([] ∷ css) are.0 apart (tt, kept.1))
    ∙ ap (λ (x : List (List Comment)). cs ∷ x) (commented_along next ts css are.1 (after_first ts apart) kept.1 (omega (arith, long)))

-- ---- bytes that each text may have

pub all_append : (xs ys : List ℕ) → list_all is_small xs ≡ true → list_all is_small ys ≡ true → list_all is_small (xs ++ ys) ≡ true
all_append xs ys p q = list_all-append is_small xs ys ∙ and_whole (list_all is_small xs) (list_all is_small ys) p q

token_small : (s : Shape) → IsWritable s → list_all is_small (token s) ≡ true
token_small s is = subst (λ (bytes : List ℕ). list_all is_small bytes ≡ true) (append-nil (token s)) (canon_small false (s ∷ []) (is, tt))

indent_small : (level : ℕ) → list_all is_small (indent level) ≡ true
indent_small zero = refl
indent_small (suc level) = indent_small level

gap_small : (gap : Gap) → list_all is_small (gap_text gap) ≡ true
gap_small gaps.Joined = refl
gap_small gaps.Space = refl
gap_small (gaps.Line level) = indent_small level

lead_small : (level : ℕ) (alone : Bool) → list_all is_small (lead level alone) ≡ true
lead_small level true = indent_small level
lead_small level false = refl

comments_small : (level : ℕ) (cs : List Comment) → AreOf is_small cs → list_all is_small (comments_text level cs) ≡ true
comments_small level [] are = refl
comments_small level (c ∷ cs) are =
    all_append (lead level c.alone ++ c.text) (comments_text level cs) (all_append (lead level c.alone) c.text (lead_small level c.alone) are.0)
    (comments_small level cs are.1)

lines_small : (cs : List Comment) → AreOf is_small cs → list_all is_small (lines_of cs) ≡ true
lines_small [] are = refl
lines_small (c ∷ cs) are = all_append (c.text ++ 10 ∷ []) (lines_of cs) (all_append c.text (10 ∷ []) are.0 refl) (lines_small cs are.1)

small_first : (css : List (List Comment)) → AreAllOf is_small css → AreOf is_small (first_of css)
small_first [] are = tt
small_first (cs ∷ css) are = are.0

small_others : (css : List (List Comment)) → AreAllOf is_small css → AreAllOf is_small (others_of css)
small_others [] are = tt
small_others (cs ∷ css) are = are.1

commented_small : (level : ℕ) (ts : List SpacedToken) (css : List (List Comment)) → AreWritable (shapes_in ts) → AreAllOf is_small css →
    list_all is_small (commented_text level ts css) ≡ true
commented_small level [] css are small = comments_small 0 (first_of css) (small_first css small)
commented_small level (t ∷ ts) css are small =
    let cs = first_of css in
    let inner = comment_level level t.gap t.shape in
    let gap = gap_after level cs t.gap in
    let next = level_after level t.gap in
    all_append (commented_token level cs t) (commented_text next ts (others_of css))
    (all_append (comments_text inner cs ++ gap_text gap) (token t.shape)
    (all_append (comments_text inner cs) (gap_text gap) (comments_small inner cs (small_first css small)) (gap_small gap)) (token_small t.shape are.0))
    (commented_small next ts (others_of css) are.1 (small_others css small))

-- the text of tokens that can be written has only such bytes, if the comments have
pub body_small : (ts : List SpacedToken) (css : List (List Comment)) → AreWritable (shapes_in ts) → AreAllOf is_small css →
    list_all is_small (body_text ts css) ≡ true
body_small ts css are small =
    let text = commented_text 0 ts ([] ∷ others_of css) in
    all_append (lines_of (first_of css)) (text ++ 10 ∷ []) (lines_small (first_of css) (small_first css small))
    (all_append text (10 ∷ []) (commented_small 0 ts ([] ∷ others_of css) are (tt, small_others css small)) refl)
