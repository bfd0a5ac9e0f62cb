-- Lines as the code holds them.
use Rattle.std.specs.Prelude.{map}
use Rattle.race_text.specs.RowViews.{difference_held}
use Rattle.race_text.specs.Lines as race_lines
use Rattle.race_text.specs.declared.line.Found.{Found}
use Rattle.race_text.specs.declared.line.Found.TheVariants.{NotTried, Differs}
use Rattle.race_text.specs.declared.line.Line.{Line}
use Rattle.race_text.specs.declared.line.Line.TheVariants.{InFinerTicks, Moved, Copies}

abbrev pub found_held : Found → race_lines.Found
found_held (NotTried fault) = race_lines.not_tried fault
found_held (Differs tasks) = race_lines.differs (map difference_held tasks.items)

abbrev pub line_held : Line → race_lines.Line
line_held (InFinerTicks found) = race_lines.in_finer_ticks (found_held found)
line_held (Moved line column moment hair found) = race_lines.moved line column moment hair (found_held found)
line_held (Copies line column name count one other tick) = race_lines.copies line column name count one other tick
