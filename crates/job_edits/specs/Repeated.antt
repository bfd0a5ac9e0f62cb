-- The blocks of a job text that run several times, found among its tokens: those of a `start NAME over N`, of which N copies run, and those
-- of a `repeat N` or `repeat over N`, which runs N passes.
use Rattle.std.specs.Prelude.{ℕ, zero, ◌+◌, ◌-◌, Bool, true, false, ◌&&◌, ◌||◌, nat_lt, if◌then◌else◌, List, [], ◌∷◌, Option, Some, None}
use Rattle.job_tokens.specs.declared.token.Token.{Token}
use Rattle.job_tokens.specs.declared.token.Mark.{Mark}
use Rattle.job_tokens.specs.declared.token.Mark.TheVariants.{Open, Close, Semicolon}
use Rattle.job_tokens.specs.Shapes.{word_in, mark_in}
use Rattle.job_syntax.specs.declared.keyword.Keyword.{Keyword}
use Rattle.job_syntax.specs.declared.keyword.Keyword.TheVariants as keyword
use Rattle.job_edits.specs.declared.number.Number.{Number}
use Rattle.job_edits.specs.declared.repeated.RepeatedBlock.{RepeatedBlock}
use Rattle.job_edits.specs.Numbers.{number_of}
use Rattle.job_edits.specs.Waiting.{keyword_in, step_keyword, begins_after}

-- ---- the brace that closes a block

-- how many blocks are open in a block after a mark
abbrev pub depth_by : Option Mark → ℕ → ℕ
depth_by None depth = depth
depth_by (Some Open) depth = depth + 1
depth_by (Some Close) depth = depth - 1
depth_by (Some Semicolon) depth = depth

-- whether a mark closes a block in which so many others are open
abbrev pub closes : Option Mark → ℕ → Bool
closes (Some Close) zero = true
closes _ _ = false

-- the place of the brace that closes a block, given how many others are open in it and the tokens that come next
abbrev pub closing_from : (depth : ℕ) → List Token → Option ℕ
closing_from depth [] = None
closing_from depth (t ∷ ts) =
    if closes (mark_in t.shape) depth then Some t.at else closing_from (depth_by (mark_in t.shape) depth) ts

-- ---- whether it depends on the input

-- how long a step takes, whether it raises an exception, or what it sends depends on its task's part of the input
abbrev pub is_by_input : Option Keyword → Bool
is_by_input (Some keyword.Pace) = true
is_by_input (Some keyword.Need) = true
is_by_input (Some keyword.Send) = true
is_by_input _ = false

-- one of the steps that begin before a place is such a step, given whether a step may begin at the first token
abbrev pub by_input_before : (closing : ℕ) → (begins : Bool) → List Token → Bool
by_input_before closing begins [] = false
by_input_before closing begins (t ∷ ts) =
    nat_lt t.at closing && (is_by_input (step_keyword begins t) || by_input_before closing (begins_after t) ts)

-- The copies or passes of a block have different parts of the input, and what they do depends on it. The passes of a `repeat` without `over`
-- have the same part.
abbrev pub is_divided : RepeatedBlock → Bool
is_divided b = b.over && (b.by_input && nat_lt 1 b.number.value)

-- ---- a block and its number

-- given the brace that closes it, and the tokens after the one that opens it
abbrev pub closed_block : (from : ℕ) → Option (List ℕ) → (over : Bool) → Number → (opening : ℕ) → Option ℕ → List Token →
    Option RepeatedBlock
closed_block from name over number opening None ts = None
closed_block from name over number opening (Some closing) ts =
    Some (record {
      from = from;
      name = name;
      over = over;
      number = number;
      opening = opening;
      closing = closing;
      by_input = by_input_before closing true ts;
    })

-- given a brace that may open it, and the tokens after that
abbrev pub opened_block : (from : ℕ) → Option (List ℕ) → (over : Bool) → Number → (at : ℕ) → Option Mark → List Token → Option RepeatedBlock
opened_block from name over number at (Some Open) ts = closed_block from name over number at (closing_from 0 ts) ts
opened_block from name over number at _ ts = None

-- given the tokens after the number
abbrev pub counted_block : (from : ℕ) → Option (List ℕ) → (over : Bool) → Option Number → List Token → Option RepeatedBlock
counted_block from name over None ts = None
counted_block from name over (Some number) [] = None
counted_block from name over (Some number) (t ∷ ts) = opened_block from name over number t.at (mark_in t.shape) ts

-- given the tokens from the number on
abbrev pub numbered_block : (from : ℕ) → Option (List ℕ) → (over : Bool) → List Token → Option RepeatedBlock
numbered_block from name over [] = None
numbered_block from name over (t ∷ ts) = counted_block from name over (number_of t) ts

-- given the keyword of a token that may be `over`, and the tokens after that
abbrev pub over_block : (from : ℕ) → List ℕ → Option Keyword → List Token → Option RepeatedBlock
over_block from name (Some keyword.Over) ts = numbered_block from (Some name) true ts
over_block from name _ ts = None

-- given the name of a `start`, if there is one, and the tokens after the name
abbrev pub named_block : (from : ℕ) → Option (List ℕ) → List Token → Option RepeatedBlock
named_block from None ts = None
named_block from (Some name) [] = None
named_block from (Some name) (t ∷ ts) = over_block from name (keyword_in (word_in t.shape)) ts

-- given the tokens after `start`
abbrev pub start_block : (from : ℕ) → List Token → Option RepeatedBlock
start_block from [] = None
start_block from (t ∷ ts) = named_block from (word_in t.shape) ts

-- given the first token after `repeat`, the keyword that it is, and the tokens after it
abbrev pub passes_by : (from : ℕ) → Token → Option Keyword → List Token → Option RepeatedBlock
passes_by from t (Some keyword.Over) ts = numbered_block from None true ts
passes_by from t _ ts = numbered_block from None false (t ∷ ts)

-- given the tokens after `repeat`
abbrev pub repeat_block : (from : ℕ) → List Token → Option RepeatedBlock
repeat_block from [] = None
repeat_block from (t ∷ ts) = passes_by from t (keyword_in (word_in t.shape)) ts

-- the block that runs several times and whose head begins with a keyword at a place, given the tokens after the keyword
abbrev pub block_by : (from : ℕ) → Option Keyword → List Token → Option RepeatedBlock
block_by from (Some keyword.Repeat) ts = repeat_block from ts
block_by from (Some keyword.Start) ts = start_block from ts
block_by from _ ts = None

-- ---- all of them

abbrev pub with_block : Option RepeatedBlock → List RepeatedBlock → List RepeatedBlock
with_block None others = others
with_block (Some b) others = b ∷ others

-- the blocks from a token on, given whether a step may begin there
abbrev pub blocks_from : (begins : Bool) → List Token → List RepeatedBlock
blocks_from begins [] = []
blocks_from begins (t ∷ ts) = with_block (block_by t.at (step_keyword begins t) ts) (blocks_from (begins_after t) ts)

-- the blocks of a text that run several times, in the order of their places: a block before those in it
abbrev pub repeated_in : List Token → List RepeatedBlock
repeated_in ts = blocks_from false ts
