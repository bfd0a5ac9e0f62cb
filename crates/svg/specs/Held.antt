-- The sheets, sizes and sources of the code, as the definitions see them.
use Rattle.std.specs.Prelude.{Option, map}
use Rattle.std.specs.Borrow.{Bor}
use Rattle.std.specs.Option.{option_map}
use Rattle.exceptions.specs.Exceptions.{Label}
use Rattle.story_text.specs.Known.{clock_in, events_in, cancelled_from_in, notes_held}
use Rattle.chart.specs.HeldColumns.{column_of}
use Rattle.svg.specs.Sheets as sheets
use Rattle.svg.specs.Rows as rows
use Rattle.svg.specs.Arrows as arrows
use Rattle.svg.specs.declared.arrows.Source.{Source}
use Rattle.svg.specs.declared.shapes.Size.{Size}
use Rattle.svg.specs.declared.sheet.Sheet.{Sheet}

abbrev pub sheet_held : Sheet → sheets.Sheet
sheet_held sheet =
    record {
      names = sheet.names;
      columns = map column_of sheet.columns.now;
      less = sheet.less;
      clock = clock_in sheet.known.now;
      table = cancelled_from_in sheet.known.now;
      events = events_in sheet.known.now;
      notes = notes_held sheet.known.now;
    }

abbrev pub size_held : Size → rows.Size
size_held s = record { indent = s.indent; down = s.down; height = s.height }

-- a borrowed label, if there is one
abbrev pub label_seen : Option (Bor Label) → Option Label
label_seen label = option_map (λ (b : Bor Label). b.now) label

abbrev pub source_held : Source → arrows.Source
source_held s = record { task = s.task.now; tick = s.tick }
