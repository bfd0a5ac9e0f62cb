-- A job text in which one copy of a `start .. over`, or one pass of a `repeat`, is written out. The copies or passes before it stay as they
-- are, and their number is smaller. In the one that is written out, and in those after it, the names that the block gives have an ending, so
-- that each name is given once.
use Rattle.std.specs.Prelude.{ℕ, ◌+◌, ◌-◌, ◌==◌, Bool, false, ◌&&◌, ◌||◌, nat_le, nat_lt, if◌then◌else◌, List, [], ◌∷◌, ◌++◌, length, take, drop, codes, Option, Some, None}
use Rattle.std.specs.Io.Iter.{u64_saturate}
use Rattle.std.specs.Str.{bytes_eq}
use Rattle.job_tokens.specs.declared.token.Token.{Token}
use Rattle.job_tokens.specs.Shapes.{word_in}
use Rattle.job_syntax.specs.declared.role.Role.{Role}
use Rattle.job_syntax.specs.declared.role.Role.TheVariants as role
use Rattle.job_edits.specs.declared.change.Change.{Change}
use Rattle.job_edits.specs.declared.change.Piece.{Piece}
use Rattle.job_edits.specs.declared.change.Piece.TheVariants as piece
use Rattle.job_edits.specs.declared.repeated.RepeatedBlock.{RepeatedBlock}
use Rattle.job_edits.specs.declared.waiting.Waiting.{Waiting}
use Rattle.job_edits.specs.Changes.{changed_from}
use Rattle.job_edits.specs.Numbers.{set_to}

-- ---- the names that are given in a block

-- whether a place is from one place up to another
abbrev pub is_between : (from to at : ℕ) → Bool
is_between from to at = nat_le from at && nat_lt at to

-- the name that is given by a token with a role
abbrev pub given_by : Role → Option (List ℕ) → Option (List ℕ)
given_by role.Given word = word
given_by _ word = None

-- the name of a task, or of what a step opens, that a token with a role is: one that is given, or used
abbrev pub name_by : Role → Option (List ℕ) → Option (List ℕ)
name_by role.Given word = word
name_by role.Target word = word
name_by _ word = None

abbrev pub with_given : (from to at : ℕ) → Option (List ℕ) → List (List ℕ) → List (List ℕ)
with_given from to at None others = others
with_given from to at (Some name) others = if is_between from to at then name ∷ others else others

-- the names that are given from one place up to another
abbrev pub given_in : (from to : ℕ) → List Token → List Role → List (List ℕ)
given_in from to [] rs = []
given_in from to (t ∷ ts) [] = []
given_in from to (t ∷ ts) (r ∷ rs) = with_given from to t.at (given_by r (word_in t.shape)) (given_in from to ts rs)

abbrev pub is_among : List ℕ → List (List ℕ) → Bool
is_among name [] = false
is_among name (n ∷ ns) = bytes_eq name n || is_among name ns

-- ---- their endings

abbrev pub ending_at : Piece → (place : ℕ) → Change
ending_at end place = record { from = place; to = place; piece = end }

abbrev pub with_ending : Piece → List (List ℕ) → (from to at : ℕ) → Option (List ℕ) → List Change → List Change
with_ending end given from to at None others = others
with_ending end given from to at (Some name) others =
    if is_between from to at && is_among name given
    then ending_at end (u64_saturate (at + length name)) ∷ others else others

-- the changes that give these names an ending where they stand from one place up to another
abbrev pub endings : Piece → List (List ℕ) → (from to : ℕ) → List Token → List Role → List Change
endings end given from to [] rs = []
endings end given from to (t ∷ ts) [] = []
endings end given from to (t ∷ ts) (r ∷ rs) =
    with_ending end given from to t.at (name_by r (word_in t.shape)) (endings end given from to ts rs)

-- ---- the parts

-- the head and the block up to its closing brace, with changes
abbrev pub part : List ℕ → RepeatedBlock → List Change → List ℕ
part text b changes = changed_from b.from (take b.closing text) changes

-- the changes of a part that runs so often, in which the names that the block gives have an ending
abbrev pub part_changes : Piece → (count : ℕ) → RepeatedBlock → List Token → List Role → List Change
part_changes end count b ts rs =
    let given = given_in b.from b.closing ts rs in
    endings end given b.from b.number.from ts rs ++ set_to b.number count ∷ endings end given b.opening b.closing ts rs

-- the copies or passes before the one with this index, if there are any
abbrev pub earlier : List ℕ → RepeatedBlock → (index : ℕ) → List ℕ
earlier text b index = if index == 0 then [] else part text b (set_to b.number index ∷ []) ++ codes "} "

-- the one with this index, which is written out
abbrev pub single : List ℕ → List Token → List Role → RepeatedBlock → (index : ℕ) → List ℕ
single text ts rs b index = part text b (part_changes (piece.Single index) 1 b ts rs)

-- how many there are after it
abbrev pub left_after : RepeatedBlock → (index : ℕ) → ℕ
left_after b index = b.number.value - index - 1

abbrev pub later : List ℕ → List Token → List Role → RepeatedBlock → (index : ℕ) → List ℕ
later text ts rs b index =
    if left_after b index == 0 then [] else codes "} " ++ part text b (part_changes (piece.After index) (left_after b index) b ts rs)

-- The text with these tokens, which have these roles, in which one copy or pass of a block is written out. The closing brace of the last
-- part is that of the block.
abbrev pub written_out : List ℕ → List Token → List Role → RepeatedBlock → (index : ℕ) → List ℕ
written_out text ts rs b index =
    take b.from text ++ (earlier text b index ++ (single text ts rs b index ++ (later text ts rs b index ++ drop b.closing text)))

-- ---- the steps of the one that is written out

-- how many of these steps begin before a place
abbrev pub steps_before : (place : ℕ) → List Waiting → ℕ
steps_before place [] = 0
steps_before place (w ∷ ws) = (if nat_lt w.from place then 1 else 0) + steps_before place ws

-- how many of these steps are in a block
abbrev pub steps_in : RepeatedBlock → List Waiting → ℕ
steps_in b ws = steps_before b.closing ws - steps_before b.from ws

-- the number of a step, which begins at a place in the block, among the steps of the text in which a copy or pass is written out
abbrev pub written_at : RepeatedBlock → (index from : ℕ) → List Waiting → ℕ
written_at b index from ws = if index == 0 then steps_before from ws else u64_saturate (steps_before from ws + steps_in b ws)

-- whether a step that begins at a place is in a block
abbrev pub is_in : RepeatedBlock → (from : ℕ) → Bool
is_in b from = is_between b.from b.closing from
