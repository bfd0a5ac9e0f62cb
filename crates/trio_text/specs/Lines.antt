-- Lines of the program that are no statement of a step. Each text follows the text before it.
use Rattle.std.specs.Prelude.{ℕ, zero, suc, ◌+◌, ◌-◌, ◌^◌, min, Bool, true, false, nat_eq, List, ◌++◌, codes, if◌then◌else◌}
use Rattle.std.specs.List.{ends_with}

-- the indentation of a level
unfoldable pub margin : ℕ → List ℕ
margin zero = codes ""
margin (suc level) = margin level ++ codes "    "

-- the level of what is inside, which a `usize` keeps
unfoldable pub deeper : ℕ → ℕ
deeper level = min (level + 1) (2 ^ 64 - 1)

unfoldable pub with_line : ℕ → List ℕ → List ℕ → List ℕ
with_line level line before = before ++ margin level ++ line ++ codes "\n"

-- an empty line, except directly after the line that begins a block
unfoldable pub with_gap : List ℕ → List ℕ
with_gap before = if ends_with nat_eq before (codes ":\n") then before else before ++ codes "\n"

-- a text, if it is used
abbrev pub with_used : Bool → List ℕ → List ℕ → List ℕ
with_used true text before = before ++ text
with_used false text before = before

-- the line that begins the function of a block for which Python has no room in the function around it
unfoldable pub with_nested_block : ℕ → List ℕ → List ℕ
with_nested_block level before = with_line level (codes "async def nested_block():") (with_gap before)

-- the line that calls that function
unfoldable pub with_nested_call : ℕ → List ℕ → List ℕ
with_nested_call level before = with_line level (codes "await nested_block()") (before ++ codes "\n")
