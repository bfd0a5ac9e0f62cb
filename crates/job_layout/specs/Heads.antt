-- The head of a step alone, and the steps of which the head is all but the semicolon.
use Rattle.std.specs.Prelude.{Bool, true, false, List, []}
use Rattle.job_tree.specs.Tree.{Step, ask_for, scope, nursery, event, object, start, repeat, attempt}
use Rattle.job_tokens.specs.declared.token.Shape.{Shape}
use Rattle.job_syntax.specs.Pieces.{shapes_in, block_or_end}
use Rattle.job_reader.specs.Heads.{head_onto}

-- the tokens of a step before its semicolon or its first block
abbrev pub head_of : Step → List Shape
head_of s = shapes_in (head_onto s [])

-- a step without a block
abbrev pub is_plain : Step → Bool
is_plain (scope name deadline shield fail body) = false
is_plain (nursery name deadline shield body) = false
is_plain (event name body) = false
is_plain (object name kind body) = false
is_plain (ask_for name ask body) = block_or_end ask false true
is_plain (start name over body) = false
is_plain (repeat count over body) = false
is_plain (attempt body handler cleanup) = false
is_plain _ = true
