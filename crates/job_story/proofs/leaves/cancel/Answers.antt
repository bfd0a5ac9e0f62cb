use Rattle.std.proofs.Common.{Option, ap, ◌∙◌}
use Rattle.exceptions.specs.Exceptions.{Label}
use Rattle.job_meaning.specs.Walk.{with_own}
use Rattle.job_story.specs.Story.{cancels}
use Rattle.job_story.specs.Tell.{story_of_one, tell_cancel}
use Rattle.job_story.specs.Tales.{own_of}
use Rattle.job_story.proofs.Adding.{adds_like}
use Rattle.job_story.proofs.leaves.cancel.Goals as goal

pub returns : goal.returns
unfolding tell_cancel
returns c = record {
  stretch = c.at.ensures _ _;
  events =
      adds_like _ _ _ _ _ c.in_ok-note.ensures
      (ap (λ (o : Option Label). story_of_one c.args.moment (cancels o)) (c.in_ok-label.ensures ∙ c.label_on.ensures));
  own =
      c.in_ok-add_own.ensures
      ∙ ap (λ (o : Option Label). with_own c.args.here.clock o (own_of c.args.progress.now)) (c.in_ok-own.ensures ∙ c.label_on-2.ensures);
}
