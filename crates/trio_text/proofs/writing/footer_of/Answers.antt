use Rattle.std.proofs.Common.{refl}
use Rattle.trio_text.proofs.writing.footer_of.Goals as goal

pub returns : goal.returns
returns c =
    rw (
      c.in_ok-extend_from_slice-2.ensures.items,
      c.in_ok-push_name.ensures,
      c.in_ok-extend_from_slice.ensures.items,
      c.name.ensures,
      c.new-text.ensures.items,
    ) refl
