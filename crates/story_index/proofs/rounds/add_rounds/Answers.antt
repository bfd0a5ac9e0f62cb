use Rattle.std.proofs.Common.{arith, length}
use Rattle.std.specs.Prelude.{map}
use Rattle.job_story.specs.Focus.{causers_in}
use Rattle.story_index.specs.Seen.{event_in}
use Rattle.story_index.specs.Holds.{holds}
use Rattle.story_index.proofs.RoundLemmas.{ended, went_on}
use Rattle.story_index.proofs.rounds.add_rounds.Goals as goal

pub returns-then-not-branch : goal.returns-then-not-branch
returns-then-not-branch c = λ table kept known same l.
    let all = map event_in c.args.events.now in
    let i = c.rounds.round in
    let before = c.rounds.invariant table kept known same in
    ended i (length c.args.events.now) table all kept (holds c.rounds.tasks) (holds c.add_causers.new.tasks) (omega (arith, c.rounds-test.true))
    before (c.in_ok-add_causers.ensures.grown table (causers_in i table all kept) known before)
    (c.in_ok-add_causers.ensures.closed c.if-not-branch.true) l

pub rounds-preserved : goal.rounds-preserved
rounds-preserved c = λ table kept known same l.
    let all = map event_in c.args.events.now in
    let i = c.rounds.round in
    went_on i table all kept (holds c.add_causers.new.tasks)
    (c.in_ok-add_causers.ensures.grown table (causers_in i table all kept) known (c.rounds.invariant table kept known same)) l
