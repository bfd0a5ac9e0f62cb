use Rattle.std.proofs.Common.{refl}
use Rattle.trio_text.specs.Statements.{with_start}
use Rattle.trio_text.proofs.tasks.push_start.Goals as goal

pub returns : goal.returns
unfolding with_start
returns c =
    rw (
      c.in_ok-extend_from_slice-2.ensures.items,
      c.in_ok-push_name-2.ensures,
      c.in_ok-extend_from_slice.ensures.items,
      c.in_ok-push_name.ensures,
      c.in_ok-begin.ensures,
    ) refl
