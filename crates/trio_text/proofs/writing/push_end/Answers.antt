use Rattle.std.proofs.Common.{refl}
use Rattle.trio_text.proofs.writing.push_end.Goals as goal

pub returns : goal.returns
returns c =
    rw (
      c.in_ok-extend_from_slice-2.ensures.items,
      c.as_slice-2.ensures.value,
      c.in_ok-footer.ensures,
      c.in_ok-extend_from_slice.ensures.items,
      c.as_slice.ensures.value,
      c.in_ok-helpers.ensures,
    ) refl
