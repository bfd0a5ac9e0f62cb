use Rattle.svg.proofs.Drawn.{notes_drawn}
use Rattle.svg.proofs.notes.push_notes.Goals as goal

pub returns : goal.returns
returns c =
    notes_drawn c.push_rows_note.result c.args.noted.until c.args.bottom c.args.noted.linear c.args.noted.rows _ _ _ _ _
    c.in_ok-push_limit_note.ensures c.axis_note.ensures c.in_ok-push_note.ensures c.push_rows_note.ensures
