use Rattle.std.proofs.Common.{◌≡◌, true}
use Rattle.job_story.specs.Held.{what_of}
use Rattle.outcomes.specs.Notes.{cuts}
use Rattle.outcomes.proofs.Noted.{noted_more}
use Rattle.outcomes.proofs.cut.note_cut.Goals as goal

pub returns : goal.returns
returns c =
    let cut : cuts (what_of c.args.event.now.what) ≡ true = cc c.if-not-cuts.ensures in
    rw cut (noted_more c.args.tasks.now.keys c.insert.new.self.keys _ c.in_ok-insert.ensures.keys)
