use Rattle.std.proofs.lemmas.Result.{on_ok_weaker}
use Rattle.story_waits.proofs.turns.push_moves.Goals as goal

pub returns-in-IsCancelled : goal.returns-in-IsCancelled
returns-in-IsCancelled c =
    rw (c.in-IsCancelled.is) (on_ok_weaker c.push_cut.result (λ h. h c.in-IsCancelled.by c.in-IsCancelled.in_cleanup) c.push_cut.ensures)
