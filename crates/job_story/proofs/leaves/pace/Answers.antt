use Rattle.std.proofs.Common.{ℕ, Some, ◌+◌, ◌-◌, ◌/◌, ap, subst, ◌∙◌}
use Rattle.cancel_scopes.specs.Sight.{sight}
use Rattle.job_meaning.specs.Walk.{pace_ticks}
use Rattle.job_story.specs.Tell.{tell_pace, tell_slept}
use Rattle.job_meaning.specs.Clocks.{a_round_after, wakes_at}
use Rattle.job_story.specs.Heres.{scopes_of, tell_paced}
use Rattle.job_story.specs.Tales.{Tells}
use Rattle.job_story.proofs.Shows.{paced_is}
use Rattle.job_story.proofs.leaves.pace.Goals as goal

pub returns : goal.returns
unfolding tell_pace
returns c =
    let here = c.args.here in
    let m = c.args.moment in
    let n = (c.in_ok-count.count + (c.args.per_tick - 1)) / c.args.per_tick in
    let start = c.args.progress.now.events.items in
    let after = c.doze.new.progress in
    let least = a_round_after here.clock m in
    let end = wakes_at here.clock n m in
    let seen = sight (scopes_of here) in
    subst (λ (k : ℕ). Tells here.task.now start c.in_ok-stretch.stretch after (tell_paced here k m))
    (paced_is c.in_ok-count.count c.args.per_tick c.requires.some ∙ ap (λ (k : ℕ). pace_ticks k c.args.per_tick)
    c.in_ok-count.ensures.count)
    (subst (λ (g : ℕ). Tells here.task.now start c.in_ok-stretch.stretch after
    (tell_slept seen n m least g end (scopes_of here) here.in_cleanup (Some end))) c.a_round_after-gives_up.ensures
    (subst (λ (u : ℕ). Tells here.task.now start c.in_ok-stretch.stretch after
    (tell_slept seen n m least c.a_round_after-gives_up.result end (scopes_of here) here.in_cleanup (Some u)))
    c.wakes_at-until.ensures.wakes c.in_ok-stretch.ensures))
