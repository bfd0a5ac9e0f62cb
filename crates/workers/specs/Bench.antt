-- What contracts see of a bench.
use Rattle.std.specs.Prelude.{List}
use Rattle.input_lines.specs.declared.request.Request.{Request}
use Rattle.workers.specs.declared.slot.Slot.{Slot}
use Rattle.workers.specs.declared.bench.Bench.{Bench}

-- the requests
abbrev pub requests_of : Bench → List Request
requests_of bench = bench.requests.now

-- the slots for their answers
abbrev pub row_of : Bench → List Slot
row_of bench = bench.row.now
