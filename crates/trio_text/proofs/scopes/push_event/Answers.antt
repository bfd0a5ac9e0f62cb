use Rattle.std.proofs.Common.{refl}
use Rattle.trio_text.specs.Statements.{with_event}
use Rattle.trio_text.proofs.scopes.push_event.Goals as goal

pub returns : goal.returns
unfolding with_event
returns c = rw (c.in_ok-extend_from_slice.ensures.items, c.in_ok-push_name.ensures, c.in_ok-begin.ensures) refl
