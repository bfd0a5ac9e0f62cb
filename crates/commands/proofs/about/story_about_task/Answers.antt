use Rattle.std.proofs.Common.{refl, sym, ap, ◌∙◌, map}
use Rattle.job_story.specs.CancelledFrom.{table_in}
use Rattle.story_index.specs.Seen.{event_in}
use Rattle.story_index.specs.Holds.{label_seen}
use Rattle.job_answers.specs.declared.story_verdict.StoryVerdict.TheVariants.{NoTask}
use Rattle.commands.proofs.Explained.{story_about_none}
use Rattle.commands.proofs.about.story_about_task.Goals as goal

pub returns-in_default : goal.returns-in_default
returns-in_default c =
    story_about_none c.args.story.now.clock c.args.job.now.name (table_in c.args.story.now.table) c.args.story.now.until c.args.story.now.ending
    c.args.text.now (map event_in c.args.walked.now) c.in_ok-nearest.nearest (NoTask c.in_ok-nearest.nearest) c.new.result.items
    (sym c.in_ok-named.ensures ∙ ap label_seen c.in_default.is) c.in_ok-nearest.ensures refl c.new.ensures.items
