use Rattle.std.proofs.Common.{◌≤◌, ◌<◌, ℕ, sym, ap, subst, ◌∙◌}
use Rattle.std.specs.Option.{option_map, option_copied}
use Rattle.job_story.specs.Stacks.{level_of}
use Rattle.job_story.proofs.Waited.{waits_for_none, waits_checked, waits_awaited}
use Rattle.job_story.proofs.waits.wait_for.Goals as goal

pub returns-in_default : goal.returns-in_default
returns-in_default c =
    waits_for_none _ c.args.progress.now _ _ _ _ _ _
    (sym c.level_on.ensures ∙ ap (λ o. option_map level_of (option_copied o)) c.in_default.is) c.at.ensures

pub returns-then-set-a_round_after : goal.returns-then-set-a_round_after
returns-then-set-a_round_after c =
    waits_checked _ _ _ _ _ _ _ _ (level_of c.in-Some.event.now) _ _
    (sym c.level_on.ensures ∙ ap (λ o. option_map level_of (option_copied o)) c.in-Some.is) c.set_moment-set.ensures
    (subst (λ (t : ℕ). c.set_moment-set.result ≤ t) c.a_round_after.ensures c.if-set-a_round_after.true) c.in_ok-stretch.ensures

pub returns : goal.returns
returns c =
    waits_awaited _ _ _ _ _ _ _ _ (level_of c.in-Some.event.now) _ _
    (sym c.level_on.ensures ∙ ap (λ o. option_map level_of (option_copied o)) c.in-Some.is) c.set_moment-set.ensures
    (subst (λ (t : ℕ). t < c.set_moment-set.result) c.a_round_after.ensures c.if-set-a_round_after.false) c.in_ok-stretch-2.ensures
