use Rattle.std.proofs.Common.{refl}
use Rattle.story_index.proofs.Firsts.{knows_more}
use Rattle.story_index.proofs.causes.Causes.read.Goals as goal

pub returns : goal.returns
returns c = λ table es known.
    knows_more _ _ table es _ known refl (λ l. c.in_ok-note_entering.ensures l) (λ l from is. c.in_ok-note_sign.ensures l from is)
