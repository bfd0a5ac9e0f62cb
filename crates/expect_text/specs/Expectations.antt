-- The meaning of a line of a `.expect` file.
use Rattle.std.specs.Prelude.{ℕ, ◌==◌, Bool, true, false, ◌&&◌, ◌||◌, nat_le, if◌then◌else◌, Option, Some, None, is_none, List, [], ◌∷◌, length, take, drop, codes}
use Rattle.std.specs.List.{list_all}
use Rattle.std.specs.Str.{bytes_eq}
use Rattle.expect_text.specs.Beginnings.{can_match}
use Rattle.expect_text.specs.Lines.{lines_of, parts_of}
use Rattle.expect_text.specs.Patterns.{is_blank, is_empty}
use Rattle.outcomes.specs.declared.deny.Deny.{Deny}

-- some line matches the pattern; no line does; `races` denies nothing; `faults` denies nothing of these kinds
pub data Expected : Type 0 where
  present : (pattern : List ℕ) → Expected
  absent : (pattern : List ℕ) → Expected
  no_races : Expected
  no_faults : (kinds : Deny) → Expected

-- What is wrong with a line: it begins with a word and a colon, and the word is neither `races` nor `faults` nor `deadlock`; it begins with one
-- of the first two and does not continue as such a line does; it is such a line after `! `; or it is a pattern that can match no line.
pub data Wrong : Type 0 where
  unknown_word : Wrong
  wrong_demand : Wrong
  negated_demand : Wrong
  no_such_line : Wrong

-- a line means nothing, or says what is expected, or is wrong
pub data Said : Type 0 where
  nothing : Said
  expects : (expected : Expected) → Said
  faulty : (wrong : Wrong) → Said

-- ---- words

-- a text from its first byte on that is not a blank
abbrev pub from_word_by : (blank : Bool) → ℕ → List ℕ → (rest : List ℕ) → List ℕ
from_word_by true b bs rest = rest
from_word_by false b bs rest = b ∷ bs

abbrev pub from_word : List ℕ → List ℕ
from_word [] = []
from_word (b ∷ bs) = from_word_by (is_blank b) b bs (from_word bs)

-- what follows a word with which a text begins
abbrev pub rest_after : (word text : List ℕ) → Option (List ℕ)
rest_after word text = if bytes_eq (take (length word) text) word then Some (drop (length word) text) else None

-- whether nothing but blanks follows
abbrev pub is_end : Option (List ℕ) → Bool
is_end None = false
is_end (Some rest) = is_empty (from_word rest)

-- whether a text is this word, possibly with blanks before and after it
abbrev pub is_word : (word text : List ℕ) → Bool
is_word word text = is_end (rest_after word (from_word text))

-- ---- demands

abbrev pub is_letter : ℕ → Bool
is_letter b = (nat_le 97 b && nat_le b 122) || (nat_le 65 b && nat_le b 90)

-- whether a text is letters, or none, and then a colon and any bytes
abbrev pub has_colon : List ℕ → Bool
has_colon [] = false
has_colon (b ∷ bs) = b == 58 || (is_letter b && has_colon bs)

-- whether a text begins with a word of letters and a colon directly after it
abbrev pub begins_with_word : List ℕ → Bool
begins_with_word [] = false
begins_with_word (b ∷ bs) = is_letter b && has_colon bs

-- the same, but for the line of a story about a deadlock, the only one that begins so
abbrev pub is_demand : List ℕ → Bool
is_demand text = is_none (rest_after (codes "deadlock:") text) && begins_with_word text

-- the kinds with the one added that a text names
abbrev pub with_kind : Deny → (text : List ℕ) → Option Deny
with_kind kinds text =
    if is_word (codes "no stuck") text then Some (record kinds { stuck = true })
    else if is_word (codes "no cut") text then Some (record kinds { cut = true })
    else if is_word (codes "no lost") text then Some (record kinds { lost = true })
    else None

-- the kinds with those added that some texts name, or `None` where one of the texts does not name a kind
abbrev pub with_kinds : Option Deny → (texts : List (List ℕ)) → Option Deny
with_kinds None texts = None
with_kinds (Some kinds) [] = Some kinds
with_kinds (Some kinds) (text ∷ texts) = with_kinds (with_kind kinds text) texts

abbrev pub no_kind : Deny
no_kind = record { stuck = false; cut = false; lost = false }

abbrev pub faults_expectation : Option Deny → Said
faults_expectation None = faulty wrong_demand
faults_expectation (Some kinds) = expects (no_faults kinds)

-- the meaning of a line in which this follows `races:`, and of one in which it follows `faults:`
abbrev pub races_line : List ℕ → Said
races_line rest = if is_word (codes "none") rest then expects no_races else faulty wrong_demand

abbrev pub faults_line : List ℕ → Said
faults_line rest = faults_expectation (with_kinds (Some no_kind) (parts_of 44 rest))

-- ---- patterns

-- a pattern is an expectation if it can match a line
abbrev pub pattern_if : (can_match : Bool) → Expected → Said
pattern_if true expected = expects expected
pattern_if false expected = faulty no_such_line

-- the meaning of a line that is no demand, or is one with an unknown word
abbrev pub wanted_line : (names : List (List ℕ)) → (line : List ℕ) → (demand : Bool) → Said
wanted_line names line true = faulty unknown_word
wanted_line names line false = pattern_if (can_match names line) (present line)

-- the meaning of a line in which this follows `! `
abbrev pub unwanted_line : (names : List (List ℕ)) → (pattern : List ℕ) → (demand : Bool) → Said
unwanted_line names pattern true = faulty negated_demand
unwanted_line names pattern false = pattern_if (can_match names pattern) (absent pattern)

-- the meaning of a line, given what follows `! `, if it begins with that
abbrev pub pattern_by : (names : List (List ℕ)) → (line text : List ℕ) → (unwanted : Option (List ℕ)) → Said
pattern_by names line text (Some rest) = unwanted_line names rest (is_demand (from_word rest))
pattern_by names line text None = wanted_line names line (is_demand text)

abbrev pub pattern_line : (names : List (List ℕ)) → (line text : List ℕ) → Said
pattern_line names line text = pattern_by names line text (rest_after (codes "! ") text)

-- ---- lines

-- the meaning of a line that begins with `races:` or `faults:`, given what follows it
abbrev pub demand_by : (races faults : Option (List ℕ)) → Option Said
demand_by (Some rest) faults = Some (races_line rest)
demand_by None (Some rest) = Some (faults_line rest)
demand_by None None = None

abbrev pub demand_line : (text : List ℕ) → Option Said
demand_line text = demand_by (rest_after (codes "races:") text) (rest_after (codes "faults:") text)

-- whether a text is empty or a comment
abbrev pub is_comment : List ℕ → Bool
is_comment [] = true
is_comment (b ∷ bs) = b == 35

-- the meaning of a line: nothing, or a demand, or else a pattern
abbrev pub meaning_by : (names : List (List ℕ)) → (line text : List ℕ) → (comment : Bool) → (demand : Option Said) → Said
meaning_by names line text true demand = nothing
meaning_by names line text false (Some said) = said
meaning_by names line text false None = pattern_line names line text

-- the meaning of a line whose text, from its first byte on that is not a blank, is this one
abbrev pub worded_line : (names : List (List ℕ)) → (line text : List ℕ) → Said
worded_line names line text = meaning_by names line text (is_comment text) (demand_line text)

-- the meaning of a line for a job that gives these names
abbrev pub line_meaning : (names : List (List ℕ)) → (line : List ℕ) → Said
line_meaning names line = worded_line names line (from_word line)

-- ---- a file

-- whether each line of a file means nothing
abbrev pub is_without_demands : (file : List ℕ) → Bool
is_without_demands file = list_all (λ line. is_comment (from_word line)) (lines_of file)
