use Rattle.std.proofs.Common.{refl, subst}
use Rattle.exceptions.specs.Exceptions.{Label, raised}
use Rattle.job_story.specs.Story.{misses}
use Rattle.job_story.specs.Tell.{failed_at, story_of_one}
use Rattle.job_meaning.specs.Clocks.{tick_of}
use Rattle.job_story.specs.Heres.{here_of}
use Rattle.job_story.specs.Tales.{IsStretchOf, now_in}
use Rattle.job_story.proofs.Shows.{shows_needed, misses_needed}
use Rattle.job_story.proofs.leaves.need.Goals as goal

pub returns-in_default : goal.returns-in_default
returns-in_default c =
    let name = c.args.name.now in
    let now = now_in c.args.moment c.args.progress.now in
    misses_needed _ _ _ c.args.here.part c.bytes.result _ _ name (here_of c.args.here) _ now c.in_ok-lines.ensures.answer
    c.in_default.not-Lines
    c.bytes.ensures (record {
      stretch =
          subst (λ (l : Label). IsStretchOf c.raised.result (failed_at (raised name l (tick_of c.args.here.clock now.at)) now
          (story_of_one now.at (misses name)))) c.in_ok-task.ensures
          (c.raised.ensures now.own (story_of_one now.at (misses name)));
      events = c.in_ok-note.ensures;
      own = refl;
    })

pub returns : goal.returns
returns c =
    shows_needed _ _ _ c.args.here.part c.bytes.result _ _ _ _ _ _ _ c.in_ok-lines.ensures.answer c.in-Lines.is c.bytes.ensures
    c.in_ok-stretch.ensures
