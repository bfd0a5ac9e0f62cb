use Rattle.std.proofs.Common.{◌≡◌, subst, sym}
use Rattle.job_reader.specs.Refusals.{Spells}
use Rattle.commands.proofs.scaling.scaled_text.Goals as goal

pub returns-in-Ok-clause-scaled : goal.returns-in-Ok-clause-scaled
returns-in-Ok-clause-scaled c =
    (c.in_ok-text.ensures, c.in-Ok.field-0, subst (λ text. Spells text c.in-Ok.field-0) c.as_slice.ensures.value c.in-Ok.ensures.found)
