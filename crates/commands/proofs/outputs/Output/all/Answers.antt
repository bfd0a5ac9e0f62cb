use Rattle.commands.proofs.EachKind.{each_kind}
use Rattle.commands.proofs.outputs.Output.all.Goals as goal

pub returns-clause-each : goal.returns-clause-each
returns-clause-each c = each_kind
