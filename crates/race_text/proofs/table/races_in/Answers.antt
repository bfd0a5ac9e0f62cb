use Rattle.std.proofs.Common.{rules}
use Rattle.race_text.specs.Lines.{is_race}
use Rattle.race_text.proofs.Counted.{counted}
use Rattle.race_text.proofs.table.races_in.Goals as goal

pub returns : goal.returns
returns c = rw (counted is_race c.args.lines.now) (search rules)
