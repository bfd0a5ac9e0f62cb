use Rattle.std.proofs.Common.{refl, subst}
use Rattle.exceptions.specs.Exceptions.{Label, raised}
use Rattle.job_story.specs.Story.{raises}
use Rattle.job_story.specs.Tell.{failed_at, story_of_one, tell_raise}
use Rattle.job_meaning.specs.Clocks.{tick_of}
use Rattle.job_story.specs.Tales.{IsStretchOf, now_in}
use Rattle.job_story.proofs.leaves.raise.Goals as goal

pub returns : goal.returns
unfolding tell_raise
returns c =
    let name = c.args.name.now in
    let now = now_in c.args.moment c.args.progress.now in
    record {
      stretch =
          subst (λ (l : Label). IsStretchOf c.raised.result (failed_at (raised name l (tick_of c.args.here.clock now.at)) now
          (story_of_one now.at (raises name)))) c.in_ok-task.ensures
          (c.raised.ensures now.own (story_of_one now.at (raises name)));
      events = c.in_ok-note.ensures;
      own = refl;
    }
