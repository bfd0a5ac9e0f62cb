use Rattle.std.proofs.Common.{ap, map}
use Rattle.std.specs.Option.{option_copied}
use Rattle.job_story.specs.CancelledFrom.{table_in}
use Rattle.story_index.specs.Seen.{event_in}
use Rattle.commands.proofs.Explained.{story_about_some}
use Rattle.commands.proofs.about.story_about.Goals as goal

pub returns : goal.returns
returns c =
    story_about_some c.args.story.now.clock c.args.job.now.name (table_in c.args.story.now.table) c.args.story.now.until c.args.story.now.ending
    (option_copied c.args.task) c.in-Some.text.now (map event_in c.args.walked.now) c.in_ok-answer.answer.verdict c.in_ok-answer.answer.bytes.items
    (ap option_copied c.in-Some.is) c.in_ok-answer.ensures
