use Rattle.cli.proofs.CutLemmas.{cut_by_split}
use Rattle.cli.proofs.cutting.cut_at.Goals as goal

pub returns : goal.returns
returns c = cut_by_split c.args.mark.now c.args.text.now c.split_once.result c.requires c.split_once.ensures.cases
