-- Hints by the bytes of a text.
use Rattle.std.specs.Prelude.{ℕ, Bool, ◌&&◌, ◌||◌, not, ◌==◌, nat_eq, if◌then◌else◌, List, [], ◌∷◌, take, Option, Some, None, codes, slice_get}
use Rattle.std.specs.List.{starts_with}
use Rattle.std.specs.Str.{bytes_eq}
use Rattle.job_tree.specs.Words.{is_digit, is_word_byte}
use Rattle.job_tokens.specs.declared.token.Shape.{Shape}
use Rattle.job_hints.specs.declared.advice.Advice.{Advice}
use Rattle.job_hints.specs.declared.advice.Advice.TheVariants as advice
use Rattle.job_hints.specs.declared.number.NumberAdvice.TheVariants as number
use Rattle.job_hints.specs.declared.python.PythonSyntax.TheVariants as python
use Rattle.job_hints.specs.declared.words.TrioWord.TheVariants as trio
use Rattle.job_hints.specs.declared.shared.ObjectWord.TheVariants as object
use Rattle.job_hints.specs.Advice.{or_advice}
use Rattle.job_hints.specs.Words.{word_advice}
use Rattle.job_hints.specs.Numbers.{is_digit_byte}

-- the text begins with the byte order mark of UTF-8 or of UTF-16
abbrev pub has_order_mark : List ℕ → Bool
has_order_mark text =
    bytes_eq (take 3 text) (239 ∷ 187 ∷ 191 ∷ [])
    || (bytes_eq (take 2 text) (255 ∷ 254 ∷ []) || bytes_eq (take 2 text) (254 ∷ 255 ∷ []))

-- ---- the hint for a text that begins with the first line of no format

-- the first line ends with a carriage return and a newline
abbrev pub has_returns : List ℕ → Bool
has_returns text =
    starts_with nat_eq text (codes "trio-job 1\r\n")
    || (starts_with nat_eq text (codes "trio-job 2\r\n") || starts_with nat_eq text (codes "trio-job 3\r\n"))

-- a blank follows the number in the first line
abbrev pub has_blank : List ℕ → Bool
has_blank text =
    starts_with nat_eq text (codes "trio-job 1 ")
    || (starts_with nat_eq text (codes "trio-job 2 ") || starts_with nat_eq text (codes "trio-job 3 "))

-- the text begins with the first line of a format, apart from what ends the line
abbrev pub names_a_format : List ℕ → Bool
names_a_format text =
    (starts_with nat_eq text (codes "trio-job 1")
    || (starts_with nat_eq text (codes "trio-job 2") || starts_with nat_eq text (codes "trio-job 3")))
    && not (is_digit_byte (slice_get text 10))

-- the first line is missing, or it has the number of no format
abbrev pub first_line_advice : List ℕ → Option Advice
first_line_advice text =
    if not (starts_with nat_eq text (codes "trio-job")) then Some advice.NoFirstLine
    else if names_a_format text then None
    else Some advice.UnknownFormat

abbrev pub version_advice : List ℕ → Option Advice
version_advice text =
    if has_returns text then Some advice.CarriageReturn
    else if has_blank text then Some advice.BlankAfterVersion
    else first_line_advice text

-- ---- the hint where no token begins

-- what a job has in place of what is called after a dot, of channels and limiters
abbrev pub object_method_advice : List ℕ → Option Advice
object_method_advice rest =
    if starts_with nat_eq rest (codes ".open_memory_channel(") then Some (advice.Object object.OpenChannel)
    else if starts_with nat_eq rest (codes ".CapacityLimiter(") then Some (advice.Object object.CapacityLimiter)
    else if starts_with nat_eq rest (codes ".send(") then Some (advice.Object object.Send)
    else if starts_with nat_eq rest (codes ".receive(") then Some (advice.Object object.Receive)
    else if starts_with nat_eq rest (codes ".acquire(") then Some (advice.Object object.Acquire)
    else if starts_with nat_eq rest (codes ".close(") || starts_with nat_eq rest (codes ".aclose(") then Some (advice.Object object.Close)
    else None

-- the same of events, and otherwise of these: `trio.Event()`, and methods
abbrev pub method_advice : List ℕ → Option Advice
method_advice rest =
    if starts_with nat_eq rest (codes ".Event(") then Some (advice.Trio trio.Event)
    else if starts_with nat_eq rest (codes ".set(") then Some (advice.Trio trio.SetEvent)
    else if starts_with nat_eq rest (codes ".wait(") then Some (advice.Trio trio.WaitEvent)
    else object_method_advice rest

-- what is left after the digits with which a text begins
abbrev pub after_digits : List ℕ → List ℕ
after_digits [] = []
after_digits (b ∷ bs) = if is_digit b then after_digits bs else b ∷ bs

-- the byte after the digits of a number
abbrev pub after_number : Option ℕ → Option Advice
after_number None = None
after_number (Some b) =
    if b == 95 then Some (advice.Number number.NoSeparator)
    else if is_word_byte b then Some (advice.Number number.NoUnit)
    else None

-- a number with a letter or a `_` after its digits
abbrev pub form_advice : List ℕ → Option Advice
form_advice rest = if is_digit_byte (slice_get rest 0) then after_number (slice_get (after_digits rest) 0) else None

-- `.`, after this byte
abbrev pub dot_advice : Option ℕ → Advice
dot_advice None = advice.Python python.NoDots
dot_advice (Some before) = if is_digit before || before == 32 then advice.WholeTicks else advice.Python python.NoDots

-- `-`, after this byte
abbrev pub hyphen_advice : Option ℕ → Option Advice
hyphen_advice None = None
hyphen_advice (Some before) = if is_word_byte before then Some (advice.Python python.NoHyphens) else None

-- the hint for a byte that other languages use
abbrev pub plain_advice : ℕ → Option Advice
plain_advice b =
    if b == 35 then Some advice.NewerComment
    else if b == 47 then Some advice.CommentSign
    else if b == 39 then Some (advice.Python python.DoubleQuotes)
    else if b == 40 || b == 41 then Some (advice.Python python.NoParentheses)
    else if b == 58 then Some (advice.Python python.NoColons)
    else if b == 124 then Some (advice.Python python.OneException)
    else if b == 42 then Some (advice.Python python.NoStars)
    else if b == 61 then Some (advice.Python python.NoVariables)
    else if b == 44 then Some (advice.Python python.NoLists)
    else None

-- the hint for a byte, given the byte before it
abbrev pub byte_advice : (before : Option ℕ) → (byte : Option ℕ) → Option Advice
byte_advice before None = None
byte_advice before (Some b) =
    if b == 46 then Some (dot_advice before)
    else if b == 45 then hyphen_advice before
    else plain_advice b

-- given the token before the place, the byte before it and the byte there: the hint for a word that is called, or otherwise for
-- the bytes
abbrev pub call_or_byte_advice : Option Shape → Option ℕ → Option ℕ → Option Advice
call_or_byte_advice word before None = byte_advice before None
call_or_byte_advice word before (Some b) =
    if b == 40 then or_advice (word_advice word) (byte_advice before (Some b)) else byte_advice before (Some b)

-- given the token before the place, the byte before it and the text from it on: the hint for a method that is called, for the form of a
-- number, for a word that is called or for the bytes
abbrev pub lexical_advice : Option Shape → Option ℕ → List ℕ → Option Advice
lexical_advice word before rest =
    or_advice (method_advice rest) (or_advice (form_advice rest) (call_or_byte_advice word before (slice_get rest 0)))
