use Rattle.std.proofs.Common.{rules}
use Rattle.race_text.specs.Lines.{is_hair_not_tried}
use Rattle.race_text.proofs.Counted.{counted}
use Rattle.race_text.proofs.table.hairs_not_tried_in.Goals as goal

pub returns : goal.returns
returns c = rw (counted is_hair_not_tried c.args.lines.now) (search rules)
