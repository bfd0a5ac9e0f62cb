use Rattle.input_lines.proofs.JoinLemmas.{length-lines_of}
use Rattle.input_lines.proofs.line.Lines.over.Goals as goal

pub returns-clause-count : goal.returns-clause-count
returns-clause-count c = length-lines_of c.args.buffer.now c.args.start c.args.end c.requires.ordered c.requires.within
