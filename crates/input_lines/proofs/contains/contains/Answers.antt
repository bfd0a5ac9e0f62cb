use Rattle.std.proofs.Common.{◌∙◌}
use Rattle.input_lines.proofs.ContainsLemmas.{contains-found}
use Rattle.input_lines.proofs.contains.contains.Goals as goal

pub returns : goal.returns
returns c = c.is_some.ensures ∙ contains-found c.args.bytes.now c.args.needle.now c.find.result c.find.ensures
