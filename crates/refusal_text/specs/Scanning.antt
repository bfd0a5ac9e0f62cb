-- The token at a place, the blocks that tokens leave open, and where they give a name.
use Rattle.std.specs.Prelude.{ℕ, ◌==◌, nat_lt, Bool, true, false, if◌then◌else◌, List, [], ◌∷◌, drop, Option, Some, None}
use Rattle.std.specs.Str.{bytes_eq}
use Rattle.job_tokens.specs.declared.token.Mark.{Mark}
use Rattle.job_tokens.specs.declared.token.Mark.TheVariants as mark
use Rattle.job_tokens.specs.declared.token.Shape.{Shape}
use Rattle.job_tokens.specs.declared.token.Token.{Token}
use Rattle.job_tokens.specs.Shapes.{word_in, mark_in}
use Rattle.job_syntax.specs.declared.keyword.Keyword.{Keyword}
use Rattle.job_syntax.specs.declared.keyword.Keyword.TheVariants as keyword
use Rattle.job_syntax.specs.declared.role.Role.{Role}
use Rattle.job_syntax.specs.declared.role.Role.TheVariants as role
use Rattle.job_hints.specs.ByGrammar.{keyword_in}

-- the token at a place
abbrev pub shape_at : ℕ → List Token → Option Shape
shape_at at [] = None
shape_at at (t ∷ ts) = if t.at == at then Some t.shape else shape_at at ts

-- the last token before a place, or `found` if there is none
abbrev pub last_before : ℕ → Option Shape → List Token → Option Shape
last_before at found [] = found
last_before at found (t ∷ ts) = if nat_lt t.at at then last_before at (Some t.shape) ts else found

-- the token before that one, or `found` if there is none; `last` is the token before these
abbrev pub earlier_before : ℕ → (found last : Option Shape) → List Token → Option Shape
earlier_before at found last [] = found
earlier_before at found last (t ∷ ts) = if nat_lt t.at at then earlier_before at last (Some t.shape) ts else found

-- the places of the open blocks, innermost first, after a token at a place
abbrev pub open_blocks_after : List ℕ → ℕ → Option Mark → List ℕ
open_blocks_after places at None = places
open_blocks_after places at (Some mark.Open) = at ∷ places
open_blocks_after places at (Some mark.Close) = drop 1 places
open_blocks_after places at (Some mark.Semicolon) = places

-- the places of the open blocks, innermost first, after these tokens
abbrev pub open_blocks : List ℕ → List Token → List ℕ
open_blocks places [] = places
open_blocks places (t ∷ ts) = open_blocks (open_blocks_after places t.at (mark_in t.shape)) ts

-- a token gives this name
abbrev pub gives : Role → Option (List ℕ) → List ℕ → Bool
gives role.Given None name = false
gives role.Given (Some word) name = bytes_eq word name
gives _ word name = false

-- the place of the first token that gives this name
abbrev pub first_given_place : List ℕ → List Token → List Role → Option ℕ
first_given_place name [] roles = None
first_given_place name (t ∷ ts) [] = None
first_given_place name (t ∷ ts) (r ∷ rs) = if gives r (word_in t.shape) name then Some t.at else first_given_place name ts rs

-- a word after this keyword is the name of a task, and is this name
abbrev pub begins_task : Option Keyword → Option (List ℕ) → List ℕ → Bool
begins_task (Some keyword.Start) (Some w) name = bytes_eq w name
begins_task _ _ name = false

-- a task with this name is started, given the token before these
abbrev pub is_started : List ℕ → Option Shape → List Token → Bool
is_started name before [] = false
is_started name before (t ∷ ts) =
    if begins_task (keyword_in before) (word_in t.shape) name then true else is_started name (Some t.shape) ts
