use Rattle.std.proofs.Common.{sym, arith}
use Rattle.input_lines.proofs.SearchLemmas.{next_start-newline, next_start-missed}
use Rattle.input_lines.proofs.part.Part.next_start.Goals as goal

pub returns-in-Some : goal.returns-in-Some
returns-in-Some c =
    let p = c.args.self in
    sym (next_start-newline p.buffer.now c.args.place p.end c.in-Some.length (omega arith) (omega arith) p.within c.in-Some.ensures).1

pub returns-in-None : goal.returns-in-None
returns-in-None c =
    let p = c.args.self in
    sym (next_start-missed p.buffer.now c.args.place p.end (omega arith) (omega arith) p.within c.in-None.ensures)
