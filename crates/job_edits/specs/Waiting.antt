-- The steps of a job text that wait, found among its tokens: a keyword begins a step where one may begin, and a semicolon ends it, or a
-- brace opens its block.
use Rattle.std.specs.Prelude.{ℕ, Bool, true, false, List, [], ◌∷◌, ◌++◌, Option, Some, None, is_some, codes, decimal}
use Rattle.std.specs.Option.{option_map}
use Rattle.job_tree.specs.declared.object.Ask.{Ask}
use Rattle.job_tree.specs.declared.object.Ask.TheVariants.{Acquire, Send, Receive}
use Rattle.job_tokens.specs.declared.token.Token.{Token}
use Rattle.job_tokens.specs.declared.token.Mark.{Mark}
use Rattle.job_tokens.specs.declared.token.Mark.TheVariants.{Open, Close, Semicolon}
use Rattle.job_tokens.specs.declared.token.Shape.TheVariants as shape
use Rattle.job_tokens.specs.Shapes.{word_in, number_in, text_in, mark_in}
use Rattle.job_tokens.specs.Canon.{token}
use Rattle.job_syntax.specs.declared.keyword.Keyword.{Keyword}
use Rattle.job_syntax.specs.declared.keyword.Keyword.TheVariants as keyword
use Rattle.job_syntax.specs.Keywords.{keyword_of}
use Rattle.job_edits.specs.declared.waiting.Wait.{Wait}
use Rattle.job_edits.specs.declared.waiting.Wait.TheVariants.{Sleep, Checkpoint, Forever, Pace, Need, Event, Grant}
use Rattle.job_edits.specs.declared.waiting.Waiting.{Waiting}

-- ---- where a step may begin

abbrev pub keyword_in : Option (List ℕ) → Option Keyword
keyword_in None = None
keyword_in (Some word) = keyword_of word

-- A step begins directly after a `{`, `}` or `;`, and no name stands there. So a name that is spelled as a keyword, as `event` and the
-- others of format 3 may be, is not taken for a step.
abbrev pub begins_after : Token → Bool
begins_after t = is_some (mark_in t.shape)

-- the keyword of a token, if a step may begin there
abbrev pub keyword_if : Bool → Option (List ℕ) → Option Keyword
keyword_if false word = None
keyword_if true word = keyword_in word

abbrev pub step_keyword : Bool → Token → Option Keyword
step_keyword begins t = keyword_if begins (word_in t.shape)

-- ---- what a step waits for

-- the number that the first token is
abbrev pub first_number : List Token → Option ℕ
first_number [] = None
first_number (t ∷ ts) = number_in t.shape

-- the name that the first token is
abbrev pub first_name : List Token → Option (List ℕ)
first_name [] = None
first_name (t ∷ ts) = word_in t.shape

abbrev pub need_named : List ℕ → Option (List ℕ) → Option Wait
need_named text None = None
need_named text (Some name) = Some (Need text name)

abbrev pub need_for : Option (List ℕ) → List Token → Option Wait
need_for None ts = None
need_for (Some text) ts = need_named text (first_name ts)

-- a string, and the name after it
abbrev pub need_in : List Token → Option Wait
need_in [] = None
need_in (t ∷ ts) = need_for (text_in t.shape) ts

-- what the step that begins with a keyword waits for, given the tokens after the keyword
abbrev pub wait_of : Keyword → List Token → Option Wait
wait_of keyword.Sleep ts = option_map (λ n. Sleep n) (first_number ts)
wait_of keyword.Checkpoint ts = Some Checkpoint
wait_of keyword.Forever ts = Some Forever
wait_of keyword.Pace ts = option_map (λ n. Pace n) (first_number ts)
wait_of keyword.Need ts = need_in ts
wait_of keyword.Wait ts = option_map (λ name. Event name) (first_name ts)
wait_of keyword.Acquire ts = option_map (λ name. Grant Acquire name) (first_name ts)
wait_of keyword.Send ts = option_map (λ name. Grant Send name) (first_name ts)
wait_of keyword.Receive ts = option_map (λ name. Grant Receive name) (first_name ts)
wait_of _ ts = None

-- ---- its place

-- the place of the first of these tokens that is the given mark
abbrev pub is_mark : Mark → Option Mark → Option ℕ → ℕ → Option ℕ
is_mark mark None rest at = rest
is_mark Open (Some Open) rest at = Some at
is_mark Close (Some Close) rest at = Some at
is_mark Semicolon (Some Semicolon) rest at = Some at
is_mark _ (Some other) rest at = rest

abbrev pub first_mark : Mark → List Token → Option ℕ
first_mark mark [] = None
first_mark mark (t ∷ ts) = is_mark mark (mark_in t.shape) (first_mark mark ts) t.at

-- whether a step has a block, which runs with what was granted
abbrev pub opens_block : Ask → Bool
opens_block Acquire = true
opens_block Send = false
opens_block Receive = true

abbrev pub has_block : Wait → Bool
has_block (Grant ask name) = opens_block ask
has_block _ = false

-- the mark after the step itself: the brace that opens its block, or a semicolon
abbrev pub end_if : (opens : Bool) → Mark
end_if true = Open
end_if false = Semicolon

abbrev pub waiting_to : ℕ → Wait → Option ℕ → Option Waiting
waiting_to from wait None = None
waiting_to from wait (Some to) = Some (record { from = from; to = to; wait = wait })

abbrev pub waiting_for : ℕ → Option Wait → List Token → Option Waiting
waiting_for from None ts = None
waiting_for from (Some wait) ts = waiting_to from wait (first_mark (end_if (has_block wait)) ts)

abbrev pub wait_if : Option Keyword → List Token → Option Wait
wait_if None ts = None
wait_if (Some k) ts = wait_of k ts

-- the waiting step that begins at a token, given whether a step may begin there and the tokens after it
abbrev pub waiting_at : (begins : Bool) → Token → List Token → Option Waiting
waiting_at begins t ts = waiting_for t.at (wait_if (step_keyword begins t) ts) ts

abbrev pub with_waiting : Option Waiting → List Waiting → List Waiting
with_waiting None others = others
with_waiting (Some w) others = w ∷ others

-- the waiting steps from a token on, given whether a step may begin there
abbrev pub waiting_from : (begins : Bool) → List Token → List Waiting
waiting_from begins [] = []
waiting_from begins (t ∷ ts) = with_waiting (waiting_at begins t ts) (waiting_from (begins_after t) ts)

-- the waiting steps of a text, in the order of their places
abbrev pub waiting_in : List Token → List Waiting
waiting_in ts = waiting_from false ts

-- ---- how it is printed

abbrev pub ask_text : Ask → List ℕ
ask_text Acquire = codes "acquire "
ask_text Send = codes "send "
ask_text Receive = codes "receive "

-- a waiting step as it is printed: its tokens, without those of its block, with a space between two of them
abbrev pub wait_text : Wait → List ℕ
wait_text (Sleep n) = codes "sleep " ++ decimal n
wait_text Checkpoint = codes "checkpoint"
wait_text Forever = codes "forever"
wait_text (Pace n) = codes "pace " ++ decimal n
wait_text (Need text name) = codes "need " ++ token (shape.Text text) ++ codes " " ++ name
wait_text (Event name) = codes "wait " ++ name
wait_text (Grant ask name) = ask_text ask ++ name
