use Rattle.input_lines.specs.Part.{buffer_of, range_of}
use Rattle.input_lines.proofs.CutLemmas.{cut_point-last, cut_point-ordered}
use Rattle.input_lines.proofs.laws.cuts_meet.Goals as goal

pub returns-clause-last : goal.returns-clause-last
returns-clause-last c = cut_point-last (buffer_of c.args.part) (range_of c.args.part) c.args.k c.requires

pub returns-clause-rising : goal.returns-clause-rising
returns-clause-rising c = λ i. cut_point-ordered (buffer_of c.args.part) (range_of c.args.part) c.args.k i c.args.part.ordered
