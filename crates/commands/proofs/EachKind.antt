-- The kinds of outputs.
use Rattle.std.proofs.Common.{refl, arith}
use Rattle.std.specs.Prelude.{Contains}
use Rattle.commands.specs.Outputs.{all_outputs}
use Rattle.commands.specs.declared.outputs.Output.{Output}
use Rattle.commands.specs.declared.outputs.Output.TheVariants.{Report, Story, Chart, Faults, Races}

-- each kind is among all kinds
pub each_kind : (kind : Output) → Contains all_outputs kind
each_kind Report = (0, omega arith, refl)
each_kind Story = (1, omega arith, refl)
each_kind Chart = (2, omega arith, refl)
each_kind Faults = (3, omega arith, refl)
each_kind Races = (4, omega arith, refl)
