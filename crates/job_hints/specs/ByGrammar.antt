-- The hint for a token that the grammar does not allow.
use Rattle.std.specs.Prelude.{Bool, true, false, is_some, if◌then◌else◌, Option, Some, None}
use Rattle.job_tree.specs.declared.format.Format.{Format}
use Rattle.job_tree.specs.declared.format.Format.TheVariants.{One, Two, Three}
use Rattle.job_tokens.specs.declared.token.Shape.{Shape}
use Rattle.job_tokens.specs.Shapes.{word_in}
use Rattle.job_syntax.specs.declared.keyword.Keyword.{Keyword}
use Rattle.job_syntax.specs.declared.keyword.Keyword.TheVariants as word
use Rattle.job_syntax.specs.declared.nonterminal.Nonterminal.{Nonterminal}
use Rattle.job_syntax.specs.declared.nonterminal.Nonterminal.TheVariants as nonterminal
use Rattle.job_syntax.specs.Keywords.{is_kept, keyword_of}
use Rattle.job_syntax.specs.Nonterminals.{◌>>=◌, Rest, next}
use Rattle.job_hints.specs.declared.advice.Advice.{Advice}
use Rattle.job_hints.specs.declared.advice.Advice.TheVariants as advice
use Rattle.job_hints.specs.declared.block.BlockAdvice.{BlockAdvice}
use Rattle.job_hints.specs.declared.block.BlockAdvice.TheVariants as block
use Rattle.job_hints.specs.declared.number.NumberAdvice.TheVariants as number
use Rattle.job_hints.specs.Advice.{or_advice}
use Rattle.job_hints.specs.Words.{word_advice}

abbrev pub keyword_in : Option Shape → Option Keyword
keyword_in shape = shape >>= λ s. word_in s >>= λ w. keyword_of w

abbrev pub if_keyword : (Keyword → Bool) → Option Keyword → Bool
if_keyword test None = false
if_keyword test (Some k) = test k

-- In a newer format the token would be allowed: given what follows it in formats 2 and 3.
abbrev pub newer_advice : Format → (in_two in_three : Rest) → Option Advice
newer_advice One in_two in_three =
    if is_some in_two then Some advice.NewerFormat
    else if is_some in_three then Some advice.NewestFormat
    else None
newer_advice Two in_two in_three = if is_some in_three then Some advice.NewestFormat else None
newer_advice Three in_two in_three = None

-- ---- the heads of blocks

-- the words that may follow a name: of a scope, a nursery or a start
abbrev pub is_head : Keyword → Bool
is_head word.After = true
is_head word.At = true
is_head word.Shield = true
is_head word.Fail = true
is_head word.Over = true
is_head _ = false

abbrev pub is_head_word : Option Shape → Bool
is_head_word shape = if_keyword is_head (keyword_in shape)

-- after a name that is a word of a head, the name is missing
abbrev pub unnamed_advice : Option Shape → Option Advice
unnamed_advice before = if is_head_word before then Some advice.Unnamed else None

-- a word of a head that comes too late in it
abbrev pub order_advice : Shape → Option Advice
order_advice shape = if is_head_word (Some shape) then Some advice.HeadOrder else None

-- `at` or `fail` in the head of a nursery
abbrev pub if_of_scope : Option Keyword → Option Advice
if_of_scope (Some word.At) = Some (advice.Block block.NurseryHead)
if_of_scope (Some word.Fail) = Some (advice.Block block.NurseryHead)
if_of_scope _ = None

abbrev pub of_scope_advice : Shape → Option Advice
of_scope_advice shape = if_of_scope (keyword_in (Some shape))

-- after the name of a nursery, and after its deadline or its shield
abbrev pub nursery_advice : Option Shape → Shape → Option Advice
nursery_advice before shape = or_advice (unnamed_advice before) (of_scope_advice shape)

abbrev pub nursery_order_advice : Shape → Option Advice
nursery_order_advice shape = or_advice (of_scope_advice shape) (order_advice shape)

-- a deadline, `shield` or `fail` in the head of a block that has none of them
abbrev pub if_bound : BlockAdvice → Option Keyword → Option Advice
if_bound a (Some word.After) = Some (advice.Block a)
if_bound a (Some word.At) = Some (advice.Block a)
if_bound a (Some word.Shield) = Some (advice.Block a)
if_bound a (Some word.Fail) = Some (advice.Block a)
if_bound a _ = None

abbrev pub bound_advice : BlockAdvice → Shape → Option Advice
bound_advice a shape = if_bound a (keyword_in (Some shape))

-- after the name of a task
abbrev pub over_advice : Option Shape → Shape → Option Advice
over_advice before shape = or_advice (unnamed_advice before) (bound_advice block.TaskHead shape)

-- where a block is to begin: after `shield` it is that of a nursery, and after `fail` that of a scope
abbrev pub open_advice : Option Keyword → Shape → Option Advice
open_advice (Some word.Shield) shape = nursery_order_advice shape
open_advice (Some word.Fail) shape = order_advice shape
open_advice _ shape = bound_advice block.OtherHead shape

-- `over` after `repeat`, where it is not read: formats 1 and 2 have no `repeat over`
abbrev pub newest_over : Option Keyword → Option Advice
newest_over (Some word.Over) = Some advice.NewestFormat
newest_over _ = None

-- where a number is to be after a name, which is that of a limiter or channel
abbrev pub uncounted_advice : Option Keyword → Option Advice
uncounted_advice before = if is_kept before then None else Some (advice.Number number.Uncounted)

-- where a number is to be, given the keyword before it
abbrev pub number_place_advice : Option Keyword → Shape → Option Advice
number_place_advice (Some word.Repeat) shape = newest_over (keyword_in (Some shape))
number_place_advice before shape = uncounted_advice before

-- ---- steps

-- a `start` where none may be, or a word of another language or library
abbrev pub start_or : Option Advice → Option Keyword → Option Advice
start_or other (Some word.Start) = Some advice.StartInside
start_or other _ = other

abbrev pub step_advice : Shape → Option Advice
step_advice shape = start_or (word_advice (Some shape)) (keyword_in (Some shape))

-- a second handler, or another sentence
abbrev pub except_or : Option Advice → Option Keyword → Option Advice
except_or other (Some word.Except) = Some (advice.Block block.SecondHandler)
except_or other _ = other

abbrev pub cleanup_advice : Shape → Option Advice → Option Advice
cleanup_advice shape other = except_or other (keyword_in (Some shape))

-- A semicolon is missing before a token with which a step may begin, or a block end: given what follows it there.
abbrev pub semicolon_advice : Rest → Option Advice
semicolon_advice rest = if is_some rest then Some (advice.Block block.NoSemicolon) else None

-- ---- all

-- the sentence for a token that cannot be read for the nonterminal, after another token
abbrev pub nonterminal_advice : Nonterminal → Option Shape → Shape → Option Advice
nonterminal_advice nonterminal.Given before shape = Some advice.Unnamed
nonterminal_advice nonterminal.Scope before shape = unnamed_advice before
nonterminal_advice nonterminal.Nursery before shape = nursery_advice before shape
nonterminal_advice nonterminal.Over before shape = over_advice before shape
nonterminal_advice nonterminal.Shield before shape = order_advice shape
nonterminal_advice nonterminal.Fail before shape = order_advice shape
nonterminal_advice nonterminal.NurseryShield before shape = nursery_order_advice shape
nonterminal_advice nonterminal.Open before shape = open_advice (keyword_in before) shape
nonterminal_advice nonterminal.Steps before shape = step_advice shape
nonterminal_advice nonterminal.Items before shape = word_advice (Some shape)
nonterminal_advice nonterminal.StepsCleanup before shape = cleanup_advice shape (step_advice shape)
nonterminal_advice nonterminal.ItemsCleanup before shape = cleanup_advice shape (word_advice (Some shape))
nonterminal_advice nonterminal.StepsTail before shape = word_advice (Some shape)
nonterminal_advice nonterminal.ItemsTail before shape = word_advice (Some shape)
nonterminal_advice nonterminal.Handled before shape = Some (advice.Block block.UnnamedHandler)
nonterminal_advice nonterminal.Semicolon before shape = semicolon_advice (next Three nonterminal.Items shape)
nonterminal_advice nonterminal.Number before shape = number_place_advice (keyword_in before) shape
nonterminal_advice _ before shape = None

-- that a token is allowed in a newer format, or another sentence
abbrev pub syntax_advice : Format → Nonterminal → Option Shape → Shape → Option Advice
syntax_advice format nonterminal before shape =
    or_advice (newer_advice format (next Two nonterminal shape) (next Three nonterminal shape))
    (nonterminal_advice nonterminal before shape)
