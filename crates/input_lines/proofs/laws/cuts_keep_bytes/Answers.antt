use Rattle.input_lines.specs.Part.{buffer_of, range_of}
use Rattle.input_lines.proofs.JoinLemmas.{bytes_of_cuts-all}
use Rattle.input_lines.proofs.laws.cuts_keep_bytes.Goals as goal

pub returns : goal.returns
returns c = bytes_of_cuts-all (buffer_of c.args.part) (range_of c.args.part) c.args.k c.args.part.ordered c.requires
