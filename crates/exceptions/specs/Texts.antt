-- Labels and exceptions as text.
use Rattle.std.specs.Prelude.{ℕ, Option, Some, None, List, [], ◌++◌, codes, decimal}
use Rattle.std.specs.List.{flat_map}
use Rattle.exceptions.specs.Exceptions.{Label, Whose, by_nursery, by_handler, Exc, cancelled, raised, too_slow, group, Excs, no_parts, part}

abbrev pub index_text : ℕ → List ℕ
index_text i = codes "." ++ decimal i

-- a label: its name, and a dot and the index for each index
abbrev pub label_text : Label → List ℕ
label_text l = l.name ++ flat_map index_text l.indices

-- where and when: the label, `@`, and the tick, in parentheses
abbrev pub place_text : Label → ℕ → List ℕ
place_text label tick = codes "(" ++ label_text label ++ codes "@" ++ decimal tick ++ codes ")"

-- the origin of a group
abbrev pub whose_text : Whose → List ℕ
whose_text (by_nursery label) = label_text label
whose_text by_handler = codes "*"

-- an exception; the parts of a group are separated by a comma and a space
abbrev mutual
  pub exc_text : Exc → List ℕ
  exc_text cancelled = codes "Cancelled"
  exc_text (raised name task tick) = name ++ place_text task tick
  exc_text (too_slow scope tick) = codes "TooSlow" ++ place_text scope tick
  exc_text (group whose parts) = whose_text whose ++ codes "[" ++ parts_text parts ++ codes "]"

  pub parts_text : Excs → List ℕ
  parts_text no_parts = []
  parts_text (part e es) = exc_text e ++ more_text es

  pub more_text : Excs → List ℕ
  more_text no_parts = []
  more_text (part e es) = codes ", " ++ exc_text e ++ more_text es

-- how a task ended: without an exception, or with one
abbrev pub end_text : Option Exc → List ℕ
end_text None = codes "done"
end_text (Some cancelled) = codes "cancelled"
end_text (Some e) = codes "raised " ++ exc_text e
