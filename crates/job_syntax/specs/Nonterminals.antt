-- What may follow a token, nonterminal by nonterminal.
use Rattle.std.specs.Prelude.{ℕ, List, [], ◌∷◌, Bool, true, false, Option, Some, None, if◌then◌else◌}
use Rattle.job_tree.specs.declared.format.Format.{Format}
use Rattle.job_tree.specs.declared.format.Format.TheVariants.{One, Two, Three}
use Rattle.job_tree.specs.Formats.{extends_format_1, has_events}
use Rattle.job_tokens.specs.declared.token.Mark.{Mark}
use Rattle.job_tokens.specs.declared.token.Mark.TheVariants as mark
use Rattle.job_tokens.specs.declared.token.Shape.{Shape}
use Rattle.job_tokens.specs.Shapes.{word_in, number_in, text_in, mark_in}
use Rattle.job_syntax.specs.declared.keyword.Keyword.{Keyword}
use Rattle.job_syntax.specs.declared.keyword.Keyword.TheVariants as word
use Rattle.job_syntax.specs.declared.nonterminal.Nonterminal.{Nonterminal}
use Rattle.job_syntax.specs.declared.nonterminal.Nonterminal.TheVariants.{Job, Steps, Items, StepsTail, ItemsTail, StepsCleanup, ItemsCleanup, Scope, Shield, Fail, Nursery, NurseryShield, Over, Passes, ItemsPasses, Given, Raised, Handled, Target, Number, Text, Open, Semicolon}
use Rattle.job_syntax.specs.Keywords.{keyword_of}

-- continues with a value, if there is one
infixl 10 ◌>>=◌
abbrev pub ◌>>=◌ : {A B : Type 0} → Option A → (A → Option B) → Option B
None >>= f = None
(Some x) >>= f = f x

-- the nonterminals that must follow, the next one first; `None` if the token cannot occur there
abbrev pub Rest : Type 0
Rest = Option (List Nonterminal)

-- the rest of the enclosing block, which may be the body of a nursery, and the same after the block of a `try` or
-- after a handler
abbrev pub outer_block : Bool → Nonterminal
outer_block false = Steps
outer_block true = Items

abbrev pub tail : Bool → Nonterminal
tail false = StepsTail
tail true = ItemsTail

abbrev pub cleanup : Bool → Nonterminal
cleanup false = StepsCleanup
cleanup true = ItemsCleanup

-- after the first word of a text
abbrev pub text_rest : Keyword → Rest
text_rest word.Job = Some (Given ∷ Open ∷ Steps ∷ [])
text_rest _ = None

-- after `start`, which may occur only directly inside a nursery, and in format 3 in a `repeat` there
abbrev pub start_rest : Bool → Rest
start_rest true = Some (Given ∷ Over ∷ Items ∷ [])
start_rest false = None

-- the passes of a `repeat` of format 3, which may have a `start` in its block where one may stand next to it
abbrev pub passes : Bool → Nonterminal
passes false = Passes
passes true = ItemsPasses

-- after `repeat`, which begins no step in format 1
abbrev pub repeat_rest : Format → Bool → Rest
repeat_rest One inside = None
repeat_rest Two inside = Some (Number ∷ Open ∷ Steps ∷ outer_block inside ∷ [])
repeat_rest Three inside = Some (passes inside ∷ outer_block inside ∷ [])

-- after `event`, and after `set`, `wait`, `send` and `close`, which begin no step in formats 1 and 2
abbrev pub event_rest : Format → Bool → Rest
event_rest format inside = if has_events format then Some (Given ∷ Open ∷ Steps ∷ outer_block inside ∷ []) else None

abbrev pub use_rest : Format → Bool → Rest
use_rest format inside = if has_events format then Some (Target ∷ Semicolon ∷ outer_block inside ∷ []) else None

-- after `limiter` and `channel`, and after `acquire` and `receive`, which begin no step in formats 1 and 2 either
abbrev pub object_rest : Format → Bool → Rest
object_rest format inside = if has_events format then Some (Given ∷ Number ∷ Open ∷ Steps ∷ outer_block inside ∷ []) else None

abbrev pub grant_rest : Format → Bool → Rest
grant_rest format inside = if has_events format then Some (Target ∷ Open ∷ Steps ∷ outer_block inside ∷ []) else None

-- after the first word of a step
abbrev pub step_rest : Format → Bool → Keyword → Rest
step_rest format inside word.Sleep = Some (Number ∷ Semicolon ∷ outer_block inside ∷ [])
step_rest format inside word.Checkpoint = Some (Semicolon ∷ outer_block inside ∷ [])
step_rest format inside word.Forever = Some (Semicolon ∷ outer_block inside ∷ [])
step_rest format inside word.Pace = Some (Number ∷ Semicolon ∷ outer_block inside ∷ [])
step_rest format inside word.Find = Some (Text ∷ Semicolon ∷ outer_block inside ∷ [])
step_rest format inside word.Head = Some (Number ∷ Semicolon ∷ outer_block inside ∷ [])
step_rest format inside word.Longest = Some (Semicolon ∷ outer_block inside ∷ [])
step_rest format inside word.Need = Some (Text ∷ Raised ∷ Semicolon ∷ outer_block inside ∷ [])
step_rest format inside word.Raise = Some (Raised ∷ Semicolon ∷ outer_block inside ∷ [])
step_rest format inside word.Cancel = Some (Target ∷ Semicolon ∷ outer_block inside ∷ [])
step_rest format inside word.Scope = Some (Given ∷ Scope ∷ outer_block inside ∷ [])
step_rest format inside word.Nursery = Some (Given ∷ Nursery ∷ outer_block inside ∷ [])
step_rest format inside word.Start = start_rest inside
step_rest format inside word.Repeat = repeat_rest format inside
step_rest format inside word.Event = event_rest format inside
step_rest format inside word.Set = use_rest format inside
step_rest format inside word.Wait = use_rest format inside
step_rest format inside word.Limiter = object_rest format inside
step_rest format inside word.Acquire = grant_rest format inside
step_rest format inside word.Channel = object_rest format inside
step_rest format inside word.Send = use_rest format inside
step_rest format inside word.Receive = grant_rest format inside
step_rest format inside word.Close = use_rest format inside
step_rest format inside word.Try = Some (Open ∷ Steps ∷ tail inside ∷ [])
step_rest format inside _ = None

-- after the first word of what may follow a handler
abbrev pub cleanup_rest : Format → Bool → Keyword → Rest
cleanup_rest format inside word.Finally = Some (Open ∷ Steps ∷ outer_block inside ∷ [])
cleanup_rest format inside k = step_rest format inside k

-- after the word that follows the block of a `try`
abbrev pub tail_rest : Bool → Keyword → Rest
tail_rest inside word.Except = Some (Handled ∷ Open ∷ Steps ∷ cleanup inside ∷ [])
tail_rest inside word.Finally = Some (Open ∷ Steps ∷ outer_block inside ∷ [])
tail_rest inside _ = None

-- after a word in the head of a scope
abbrev pub fail_rest : Keyword → Rest
fail_rest word.Fail = Some (Open ∷ Steps ∷ [])
fail_rest _ = None

abbrev pub shield_rest : Keyword → Rest
shield_rest word.Shield = Some (Fail ∷ [])
shield_rest k = fail_rest k

abbrev pub scope_rest : Keyword → Rest
scope_rest word.After = Some (Number ∷ Shield ∷ [])
scope_rest word.At = Some (Number ∷ Shield ∷ [])
scope_rest k = shield_rest k

-- after a word in the head of a nursery, which has no such words in format 1
abbrev pub nursery_shield_words : Keyword → Rest
nursery_shield_words word.Shield = Some (Open ∷ Items ∷ [])
nursery_shield_words _ = None

abbrev pub nursery_words : Keyword → Rest
nursery_words word.After = Some (Number ∷ NurseryShield ∷ [])
nursery_words k = nursery_shield_words k

abbrev pub nursery_shield_rest : Format → Keyword → Rest
nursery_shield_rest format k = if extends_format_1 format then nursery_shield_words k else None

abbrev pub nursery_rest : Format → Keyword → Rest
nursery_rest format k = if extends_format_1 format then nursery_words k else None

abbrev pub over_rest : Keyword → Rest
over_rest word.Over = Some (Number ∷ Open ∷ Steps ∷ [])
over_rest _ = None

-- after the number of passes of a `repeat`, or after an `over`
abbrev pub passes_rest : Rest → Option ℕ → Shape → Rest
passes_rest rest (Some n) shape = rest
passes_rest rest None shape = word_in shape >>= λ w. keyword_of w >>= over_rest

abbrev pub open_rest : Rest → Mark → Rest
open_rest rest mark.Open = rest
open_rest rest mark.Close = None
open_rest rest mark.Semicolon = None

abbrev pub close_rest : Mark → Rest
close_rest mark.Open = None
close_rest mark.Close = Some []
close_rest mark.Semicolon = None

abbrev pub semicolon_rest : Mark → Rest
semicolon_rest mark.Open = None
semicolon_rest mark.Close = None
semicolon_rest mark.Semicolon = Some []

-- after a mark, or otherwise after a keyword
abbrev pub by_mark : (Mark → Rest) → (Keyword → Rest) → Option Mark → Shape → Rest
by_mark marks words (Some m) shape = marks m
by_mark marks words None shape = word_in shape >>= λ w. keyword_of w >>= words

abbrev pub by_mark_or_word : (Mark → Rest) → (Keyword → Rest) → Shape → Rest
by_mark_or_word marks words shape = by_mark marks words (mark_in shape) shape

abbrev pub any_name : Shape → Rest
any_name shape = word_in shape >>= λ w. Some []

-- after a token that is read for a nonterminal
abbrev pub next : Format → Nonterminal → Shape → Rest
next format Job shape = word_in shape >>= λ w. keyword_of w >>= text_rest
next format Steps shape = by_mark_or_word close_rest (step_rest format false) shape
next format Items shape = by_mark_or_word close_rest (step_rest format true) shape
next format StepsTail shape = word_in shape >>= λ w. keyword_of w >>= tail_rest false
next format ItemsTail shape = word_in shape >>= λ w. keyword_of w >>= tail_rest true
next format StepsCleanup shape = by_mark_or_word close_rest (cleanup_rest format false) shape
next format ItemsCleanup shape = by_mark_or_word close_rest (cleanup_rest format true) shape
next format Scope shape = by_mark_or_word (open_rest (Some (Steps ∷ []))) scope_rest shape
next format Shield shape = by_mark_or_word (open_rest (Some (Steps ∷ []))) shield_rest shape
next format Fail shape = by_mark_or_word (open_rest (Some (Steps ∷ []))) fail_rest shape
next format Nursery shape = by_mark_or_word (open_rest (Some (Items ∷ []))) (nursery_rest format) shape
next format NurseryShield shape = by_mark_or_word (open_rest (Some (Items ∷ []))) (nursery_shield_rest format) shape
next format Over shape = by_mark_or_word (open_rest (Some (Steps ∷ []))) over_rest shape
next format Passes shape = passes_rest (Some (Open ∷ Steps ∷ [])) (number_in shape) shape
next format ItemsPasses shape = passes_rest (Some (Open ∷ Items ∷ [])) (number_in shape) shape
next format Given shape = any_name shape
next format Raised shape = any_name shape
next format Handled shape = any_name shape
next format Target shape = any_name shape
next format Number shape = number_in shape >>= λ n. Some []
next format Text shape = text_in shape >>= λ t. Some []
next format Open shape = mark_in shape >>= open_rest (Some [])
next format Semicolon shape = mark_in shape >>= semicolon_rest
