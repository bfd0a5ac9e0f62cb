use Rattle.input_lines.specs.Part.{buffer_of, range_of}
use Rattle.input_lines.proofs.JoinLemmas.{lines_of_cuts-all}
use Rattle.input_lines.proofs.laws.cuts_keep_lines.Goals as goal

pub returns : goal.returns
returns c = lines_of_cuts-all (buffer_of c.args.part) (range_of c.args.part) c.args.k c.args.part.ordered c.args.part.within c.requires
