use Rattle.std.proofs.Common.{Option, ap, refl, ◌∙◌}
use Rattle.exceptions.specs.Exceptions.{Label}
use Rattle.job_story.specs.Story.{closes_channel}
use Rattle.job_story.specs.Tell.{story_of_one, tell_close}
use Rattle.job_story.proofs.Adding.{adds_like}
use Rattle.job_story.proofs.asks.close.Goals as goal

pub returns : goal.returns
unfolding tell_close
returns c = record {
  stretch = c.at.ensures _ _;
  events =
      adds_like _ _ _ _ _ c.in_ok-note.ensures
      (ap (λ (o : Option Label). story_of_one c.args.moment (closes_channel o)) (c.in_ok-object.ensures ∙ c.label_on.ensures));
  own = refl;
}
