use Rattle.std.proofs.Common.{ℕ, Option, ap, subst, ◌∙◌}
use Rattle.exceptions.specs.Exceptions.{Label}
use Rattle.job_story.specs.Story.{before_asking, is_cancelled}
use Rattle.job_story.specs.Tell.{story_of_one, tell_unasked}
use Rattle.job_story.specs.Heres.{scene_of, scopes_of}
use Rattle.job_story.specs.Tales.{Tells}
use Rattle.job_story.proofs.Adding.{adds_like}
use Rattle.job_story.proofs.Slept.{none_own}
use Rattle.job_story.proofs.asks.unasked.Goals as goal

pub returns : goal.returns
returns c =
    let here = c.args.here in
    let gives_up = c.gives_up_at-gives_up.result in
    subst (λ (t : ℕ). Tells here.task.now c.args.progress.now.events.items c.failure.result
    (record { events = c.note.new.events; cancelled = c.clear.new.self })
    (tell_unasked c.args.ask c.args.object.now (scene_of here) (scopes_of here) t)) c.gives_up_at-gives_up.ensures
    (record {
      stretch = c.failure.ensures _ _;
      events =
          adds_like _ _ _ _ _ c.in_ok-note.ensures
          (ap (λ (l : Label). story_of_one gives_up (is_cancelled c.in_ok-by.by (before_asking c.args.ask l) here.in_cleanup)) c.in_ok-object.ensures
          ∙ ap (λ (o : Option Label). story_of_one gives_up (is_cancelled o (before_asking c.args.ask c.args.object.now) here.in_cleanup))
          (c.in_ok-by.ensures ∙ c.blamed_at.ensures));
      own = none_own _ c.clear.ensures.items;
    })
