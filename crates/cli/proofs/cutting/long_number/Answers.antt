use Rattle.std.proofs.Common.{◌∙◌}
use Rattle.cli.proofs.CutLemmas.{digits_by_parse}
use Rattle.cli.proofs.cutting.long_number.Goals as goal

pub returns : goal.returns
returns c = c.ok.ensures.value ∙ digits_by_parse 64 c.args.word.now c.parse.result c.parse.ensures.value.0
