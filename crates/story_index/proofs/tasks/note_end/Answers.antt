use Rattle.std.proofs.Common.{◌≡◌, true}
use Rattle.job_story.specs.Held.{what_of}
use Rattle.job_story.specs.Limit.{is_end}
use Rattle.story_index.proofs.Noted.{among_more}
use Rattle.story_index.proofs.tasks.note_end.Goals as goal

pub returns : goal.returns
returns c = λ l.
    let ended : is_end (what_of c.args.event.now.what) ≡ true = cc c.if-not-is_end.ensures in
    rw ended (among_more c.args.ended.now c.insert.new.self c.args.event.now.task c.in_ok-insert.ensures.updates.0 l)
