-- Each `start` of a job text that starts several tasks, found among its tokens: a `start NAME over N`, and a `start` in a `repeat`.
use Rattle.std.specs.Prelude.{ℕ, Bool, true, false, List, [], ◌∷◌, Option, Some, None}
use Rattle.job_tokens.specs.declared.token.Token.{Token}
use Rattle.job_tokens.specs.declared.token.Mark.{Mark}
use Rattle.job_tokens.specs.declared.token.Mark.TheVariants.{Open, Close, Semicolon}
use Rattle.job_tokens.specs.Shapes.{word_in, mark_in}
use Rattle.job_syntax.specs.declared.keyword.Keyword.{Keyword}
use Rattle.job_syntax.specs.declared.keyword.Keyword.TheVariants as keyword
use Rattle.job_edits.specs.Waiting.{first_number, keyword_in}
use Rattle.job_edits.specs.declared.copied.CopiedStart.{CopiedStart}

-- ---- the blocks around a token

-- whether the next block to be opened is that of a `repeat`, given a token and whether it was so before the token
abbrev pub repeats_by : Bool → Option Mark → Option Keyword → Bool
repeats_by before (Some Open) word = false
repeats_by before mark (Some keyword.Repeat) = true
repeats_by before mark word = before

abbrev pub repeats_after : Bool → Token → Bool
repeats_after before t = repeats_by before (mark_in t.shape) (keyword_in (word_in t.shape))

-- The open blocks after a token, the innermost first, with what is known of each: here whether it is that of a `repeat`. `next` says so of
-- the next one.
abbrev pub outer_blocks : {A : Type 0} → List A → List A
outer_blocks [] = []
outer_blocks (b ∷ bs) = bs

abbrev pub blocks_by : {A : Type 0} → List A → (next : A) → Option Mark → List A
blocks_by blocks next None = blocks
blocks_by blocks next (Some Open) = next ∷ blocks
blocks_by blocks next (Some Close) = outer_blocks blocks
blocks_by blocks next (Some Semicolon) = blocks

-- whether the innermost block is that of a `repeat`: a `start` there is in a nursery too, and starts a task in each pass
abbrev pub is_in_repeat : List Bool → Bool
is_in_repeat [] = false
is_in_repeat (b ∷ bs) = b

-- ---- a start

-- how many copies are started, given the keyword after the name and the tokens after it
abbrev pub count_by : Option Keyword → List Token → Option ℕ
count_by (Some keyword.Over) ts = first_number ts
count_by _ ts = None

-- how many copies are started, given the tokens after the name
abbrev pub count_in : List Token → Option ℕ
count_in [] = None
count_in (t ∷ ts) = count_by (keyword_in (word_in t.shape)) ts

-- A `start` in a `repeat` starts several tasks, whatever their number, and so does one with `over`.
abbrev pub copied_start : ℕ → List ℕ → Option ℕ → Bool → Option CopiedStart
copied_start from name (Some count) looped = Some (record { from = from; name = name; count = Some count })
copied_start from name None true = Some (record { from = from; name = name; count = None })
copied_start from name None false = None

abbrev pub copied_named : ℕ → Option (List ℕ) → Option ℕ → Bool → Option CopiedStart
copied_named from None count looped = None
copied_named from (Some name) count looped = copied_start from name count looped

-- given the place of the keyword `start` and the tokens after it
abbrev pub start_from : ℕ → Bool → List Token → Option CopiedStart
start_from from looped [] = None
start_from from looped (t ∷ ts) = copied_named from (word_in t.shape) (count_in ts) looped

-- what begins with a keyword at a place, given whether it is in a `repeat` and the tokens after it
abbrev pub copied_by : ℕ → Bool → Option Keyword → List Token → Option CopiedStart
copied_by from looped (Some keyword.Start) ts = start_from from looped ts
copied_by from looped _ ts = None

abbrev pub with_copied : Option CopiedStart → List CopiedStart → List CopiedStart
with_copied None others = others
with_copied (Some c) others = c ∷ others

abbrev pub copied_at : List Bool → Token → List Token → Option CopiedStart
copied_at blocks t ts = copied_by t.at (is_in_repeat blocks) (keyword_in (word_in t.shape)) ts

-- the starts of several tasks from a token on, given the open blocks, and whether the next one is that of a `repeat`
abbrev pub copied_from : (blocks : List Bool) → (repeats : Bool) → List Token → List CopiedStart
copied_from blocks repeats [] = []
copied_from blocks repeats (t ∷ ts) =
    with_copied (copied_at blocks t ts) (copied_from (blocks_by blocks repeats (mark_in t.shape)) (repeats_after repeats t) ts)

-- the starts of several tasks in a text, in the order of their places
abbrev pub copied_in : List Token → List CopiedStart
copied_in ts = copied_from [] false ts
