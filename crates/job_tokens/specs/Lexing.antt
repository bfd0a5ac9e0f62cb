-- How the tokens of a text are read: from left to right, each as long as possible.
use Rattle.std.specs.Prelude.{◌≡◌, ℕ, zero, suc, ◌+◌, ◌*◌, ◌-◌, ◌<◌, List, [], ◌∷◌, Bool, true, false, not, ◌&&◌, ◌||◌, ◌==◌, nat_le, nat_lt, length, take, drop, Option, Some, None, if◌then◌else◌}
use Rattle.std.specs.List.{prefix_len}
use Rattle.job_tree.specs.declared.format.Format.{Format}
use Rattle.job_tree.specs.declared.format.Format.TheVariants.{One, Two, Three}
use Rattle.job_tree.specs.declared.limits.TheConstants.{MAX_NUMBER}
use Rattle.job_tree.specs.Words.{is_letter, is_digit, is_word_byte, is_word, is_text}
use Rattle.job_tokens.specs.declared.token.Shape.{Shape}
use Rattle.job_tokens.specs.declared.token.Shape.TheVariants.{Word, Number, Text, Mark}
use Rattle.job_tokens.specs.declared.token.Mark.TheVariants.{Open, Close, Semicolon}
use Rattle.job_tokens.specs.declared.token.Token.{Token}

-- ---- blanks and comments

-- blanks: space, tab, newline and carriage return
abbrev pub is_blank : ℕ → Bool
is_blank b = ((b == 32) || (b == 9)) || ((b == 10) || (b == 13))

-- the bytes that end a line, and with it a comment: newline and carriage return
abbrev pub ends_line : ℕ → Bool
ends_line b = (b == 10) || (b == 13)

-- whether texts of a format have comments: from `#` to the end of the line
abbrev pub has_comments : Format → Bool
has_comments One = false
has_comments Two = false
has_comments Three = true

-- A byte after a token, or `inside` a comment. `Some` if it separates tokens, with whether a comment continues after it;
-- `None` if a token begins with it, or nothing.
abbrev pub separates : Bool → Bool → ℕ → Option Bool
separates comments true b = Some (not (ends_line b))
separates comments false b = if is_blank b then Some false else (if comments && (b == 35) then Some true else None)

abbrev pub past : Option Bool → List ℕ → (Bool → List ℕ) → List ℕ
past None bytes further = bytes
past (Some inside) bytes further = further inside

-- the bytes after the blanks and comments that they begin with, where they may begin `inside` a comment
abbrev pub skipped : Bool → Bool → List ℕ → List ℕ
skipped comments inside [] = []
skipped comments inside (b ∷ bs) = past (separates comments inside b) (b ∷ bs) (λ further. skipped comments further bs)

-- the bytes from the first that is not a blank, and not in a comment of a text that may have comments
abbrev pub after_blanks : Bool → List ℕ → List ℕ
after_blanks comments bytes = skipped comments false bytes

-- ---- words

-- a token and the bytes after it
abbrev pub Read : Type 0
Read = Option (Shape × List ℕ)

-- the answer of the code, seen through a view, is what the definition reads
abbrev pub Gives : {X Y : Type 0} → (X → Y) → Option X → Option Y → Type 0
Gives view None read = read ≡ None
Gives view (Some found) read = read ≡ Some (view found)

-- the longest run of word bytes, if it is a word
abbrev pub word_at : List ℕ → Read
word_at bytes =
    let n = prefix_len is_word_byte bytes in
    if is_word (take n bytes) then Some (Word (take n bytes), drop n bytes) else None

-- ---- numbers

-- the value of the digits read so far, `n`, followed by these digits
unfoldable pub value_after : ℕ → List ℕ → ℕ
value_after n [] = n
value_after n (d ∷ ds) = value_after (10 * n + (d - 48)) ds

-- a zero with more digits after it
abbrev pub has_leading_zero : List ℕ → Bool
has_leading_zero [] = false
has_leading_zero (d ∷ ds) = (d == 48) && nat_lt 0 (length ds)

-- the value of these digits, or `None` if it is above the maximum
abbrev pub value_within : List ℕ → Option ℕ
value_within digits = if nat_le (value_after 0 digits) MAX_NUMBER then Some (value_after 0 digits) else None

-- the value of these digits, or `None` if it is above the maximum or they have a leading zero
abbrev pub number_of : List ℕ → Option ℕ
number_of digits = if has_leading_zero digits then None else value_within digits

-- whether the bytes begin with a byte of a word
abbrev pub goes_on : List ℕ → Bool
goes_on [] = false
goes_on (b ∷ bs) = is_word_byte b

-- the longest run of digits, if no letter or `_` follows it
abbrev pub number_at : List ℕ → Read
number_at bytes =
    let n = prefix_len is_digit bytes in
    if goes_on (drop n bytes) then None else Some (Number (number_of (take n bytes)), drop n bytes)

-- ---- strings

-- a byte that spells itself in a string, if it is neither a quote nor a backslash
abbrev pub is_plain : ℕ → Bool
is_plain b = nat_le 32 b && nat_le b 126

-- the value of a hexadecimal digit, `0` to `9` and `a` to `f`
abbrev pub hex_value : ℕ → Option ℕ
hex_value b =
    if is_digit b then Some (b - 48)
    else (if nat_le 97 b && nat_le b 102 then Some (b - 87) else None)

-- one byte of a string, and the bytes after its spelling
abbrev pub Unit_read : Type 0
Unit_read = Option (ℕ × List ℕ)

abbrev pub byte_of : Option ℕ → Option ℕ → List ℕ → Unit_read
byte_of (Some high) (Some low) rest = Some (16 * high + low, rest)
byte_of (Some high) None rest = None
byte_of None low rest = None

-- two hexadecimal digits
abbrev pub hex_at : List ℕ → Unit_read
hex_at [] = None
hex_at (h ∷ []) = None
hex_at (h ∷ l ∷ rest) = byte_of (hex_value h) (hex_value l) rest

-- the bytes after a backslash
abbrev pub escape_at : List ℕ → Unit_read
escape_at [] = None
escape_at (b ∷ rest) =
    if (b == 34) || (b == 92) then Some (b, rest) else (if b == 120 then hex_at rest else None)

-- one unit of a string
abbrev pub unit_at : List ℕ → Unit_read
unit_at [] = None
unit_at (b ∷ rest) =
    if b == 92 then escape_at rest else (if is_plain b then Some (b, rest) else None)

-- the bytes after a quote, if the first byte is a quote
abbrev pub after_quote : List ℕ → Option (List ℕ)
after_quote [] = None
after_quote (b ∷ rest) = if b == 34 then Some rest else None

-- the bytes of a string, and the bytes after its closing quote
abbrev pub Units_read : Type 0
Units_read = Option (List ℕ × List ℕ)

abbrev pub with_unit : ℕ → Units_read → Units_read
with_unit b None = None
with_unit b (Some read) = Some (b ∷ read.0, read.1)

abbrev pub unit_then : Unit_read → (List ℕ → Units_read) → Units_read
unit_then None others = None
unit_then (Some read) others = with_unit read.0 (others read.1)

abbrev pub unless_ended : Option (List ℕ) → Units_read → Units_read
unless_ended (Some rest) read = Some ([], rest)
unless_ended None read = read

-- at most the given number of units, up to a quote, and the bytes after that quote
unfoldable pub units : ℕ → List ℕ → Units_read
units zero bytes = unless_ended (after_quote bytes) None
units (suc n) bytes = unless_ended (after_quote bytes) (unit_then (unit_at bytes) (units n))

-- a string of 1 to 64 units, read after its opening quote
abbrev pub string_of : Units_read → Read
string_of None = None
string_of (Some read) = if is_text read.0 then Some (Text read.0, read.1) else None

abbrev pub string_at : List ℕ → Read
string_at bytes = string_of (units 64 bytes)

-- ---- tokens

-- the token at the start of the bytes and the bytes after it, or `None` if the bytes begin with no token
abbrev pub token_at : List ℕ → Read
token_at [] = None
token_at (b ∷ rest) =
    if is_letter b then word_at (b ∷ rest)
    else (if is_digit b then number_at (b ∷ rest)
    else (if b == 34 then string_at rest
    else (if b == 123 then Some (Mark Open, rest)
    else (if b == 125 then Some (Mark Close, rest)
    else (if b == 59 then Some (Mark Semicolon, rest)
    else None)))))

-- The bytes, the last of a text of `end` bytes that may have comments or not, are these tokens with blanks and comments
-- before, between and after them; or they are these tokens up to a place from which no token can be read.
abbrev pub Lexes : Bool → ℕ → List ℕ → List Token → Option ℕ → Type 0
Lexes comments end bytes [] None = after_blanks comments bytes ≡ []
Lexes comments end bytes [] (Some at) =
    (token_at (after_blanks comments bytes) ≡ None) × (0 < length (after_blanks comments bytes))
    × (at + length (after_blanks comments bytes) ≡ end)
Lexes comments end bytes (t ∷ ts) fault =
    (rest : List ℕ) × (token_at (after_blanks comments bytes) ≡ Some (t.shape, rest))
    × (t.at + length (after_blanks comments bytes) ≡ end) × Lexes comments end rest ts fault
