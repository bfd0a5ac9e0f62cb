-- The legend of a drawing: a sample of each kind of bar, mark and arrow, and beside it what it means.
use Rattle.std.specs.Prelude.{ℕ, ◌+◌, ◌*◌, List, codes}
use Rattle.svg.specs.Content.{Content, nothing, element}
use Rattle.svg.specs.declared.names.Tag.TheVariants as tags
use Rattle.svg.specs.Rows.{Size, task_size, block_size, box, words, used, dot}
use Rattle.svg.specs.Arrows.{segment}
use Rattle.svg.specs.declared.layout.TheConstants.{LEFT, ROW, SAMPLE}

-- ---- samples, each 24 pixels wide, in a row that begins at a y coordinate

-- what a sample at an x coordinate means
abbrev pub meaning : ℕ → ℕ → List ℕ → Content → Content
meaning x y bytes rest = words (codes "note") (x + 32) (y + 16) bytes rest

-- a bar of a class
abbrev pub bar_sample : ℕ → ℕ → Size → List ℕ → List ℕ → Content → Content
bar_sample x y size class bytes rest = element tags.Rect (box class x (y + size.down) 24 size.height) nothing (meaning x y bytes rest)

-- a mark of the definitions
abbrev pub mark_sample : ℕ → ℕ → List ℕ → List ℕ → Content → Content
mark_sample x y reference bytes rest = element tags.Use (used reference (x + 12) (y + 12)) nothing (meaning x y bytes rest)

abbrev pub dot_sample : ℕ → ℕ → List ℕ → Content → Content
dot_sample x y bytes rest = element tags.Circle (dot (x + 12) (y + 12)) nothing (meaning x y bytes rest)

abbrev pub arrow_sample : ℕ → ℕ → List ℕ → Content → Content
arrow_sample x y bytes rest = element tags.Line (segment (codes "arrow") x (y + 12) (x + 24) (y + 12)) nothing (meaning x y bytes rest)

-- ---- the legend: three rows of three samples

abbrev pub bars_legend : ℕ → Content → Content
bars_legend y rest =
    bar_sample LEFT y task_size (codes "task done") (codes "task")
    (bar_sample (LEFT + SAMPLE) y block_size (codes "scope") (codes "scope")
    (bar_sample (LEFT + SAMPLE * 2) y block_size (codes "nursery") (codes "nursery") rest))

abbrev pub cancelled_legend : ℕ → Content → Content
cancelled_legend y rest =
    bar_sample LEFT y block_size (codes "scope shield") (codes "with shield")
    (bar_sample (LEFT + SAMPLE) y block_size (codes "from") (codes "cancelled part")
    (mark_sample (LEFT + SAMPLE * 2) y (codes "#cross") (codes "is cancelled") rest))

abbrev pub marks_legend : ℕ → Content → Content
marks_legend y rest =
    dot_sample LEFT y (codes "raises")
    (mark_sample (LEFT + SAMPLE) y (codes "#deadline") (codes "own deadline")
    (arrow_sample (LEFT + SAMPLE * 2) y (codes "cancels, or wakes") rest))

-- the legend, whose first row begins at a y coordinate
abbrev pub legend : ℕ → Content → Content
legend y rest = bars_legend y (cancelled_legend (y + ROW) (marks_legend (y + ROW * 2) rest))
