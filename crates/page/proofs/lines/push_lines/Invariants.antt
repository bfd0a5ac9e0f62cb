use Rattle.std.proofs.Common.{◌≡◌, ◌++◌, [], drop}
use Rattle.std.specs.Prelude.{map}
use Rattle.page.specs.Lines.{lines_from}
use Rattle.page.specs.Views.{row_held}
use Rattle.page.proofs.lines.push_lines.Given as goal

abbrev pub invariant-bytes : goal.invariant-bytes
invariant-bytes l =
    l.out.items ++ lines_from l.kind l.links.places.now (map row_held l.links.rows.now) l.line.items (drop l.byte-index l.bytes)
    ≡ l.fn.out.items ++ lines_from l.kind l.links.places.now (map row_held l.links.rows.now) [] l.bytes
