-- The columns of the code, as the definitions see them.
use Rattle.chart.specs.Columns as columns
use Rattle.chart.specs.declared.column.Column.{Column}

abbrev pub column_of : Column → columns.Column
column_of c = record { tick = c.tick; count = c.count }
