use Rattle.std.proofs.Common.{ap, subst}
use Rattle.std.specs.Option.{option_map}
use Rattle.exceptions.specs.Exceptions.{Label, raised}
use Rattle.job_meaning.specs.Clocks.{tick_of}
use Rattle.job_meaning.specs.Moments.{only_at}
use Rattle.job_story.specs.Story.{finds_closed}
use Rattle.job_story.specs.Held.{asked_of}
use Rattle.job_story.specs.Tell.{failed_at, story_of_one}
use Rattle.job_story.specs.Tales.{IsStretchOf}
use Rattle.job_story.proofs.Adding.{adds_like}
use Rattle.job_story.proofs.Slept.{none_own}
use Rattle.job_story.proofs.asks.find_closed.Goals as goal

pub returns : goal.returns
returns c =
    let here = c.args.here in
    let m = c.args.moment in
    let asked = option_map asked_of c.args.at_once in
    let story = story_of_one m (finds_closed c.args.ask c.args.object.now asked) in
    record {
      stretch =
          subst (λ (l : Label). IsStretchOf c.raised.result (failed_at (raised c.args.name l (tick_of here.clock m)) (only_at m) story))
          c.in_ok-task.ensures (c.raised.ensures _ story);
      events =
          adds_like _ _ _ _ _ c.in_ok-note.ensures
          (ap (λ (l : Label). story_of_one m (finds_closed c.args.ask l asked)) c.in_ok-object.ensures);
      own = none_own _ c.requires.clear;
    }
