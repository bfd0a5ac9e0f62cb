use Rattle.std.proofs.Common.{arith}
use Rattle.job_story.proofs.Slept.{asleep_none, asleep_some}
use Rattle.job_story.proofs.notes.note_sleep.Goals as goal

pub returns-then-ticks-eq0 : goal.returns-then-ticks-eq0
returns-then-ticks-eq0 c = asleep_none _ _ _ _ _ c.if-ticks-eq0.true

pub returns : goal.returns
returns c = asleep_some _ _ _ _ _ _ (omega (arith, c.if-ticks-eq0.false)) c.in_ok-note.ensures
