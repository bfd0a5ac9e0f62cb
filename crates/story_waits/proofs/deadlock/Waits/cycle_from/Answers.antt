use Rattle.std.proofs.Common.{◌≡◌, sym, ap, ◌∙◌}
use Rattle.std.specs.Prelude.{◌&&◌, not, true}
use Rattle.std.specs.Option.{option_or}
use Rattle.job_story.specs.Deadlock.{first_cycle, waits_to}
use Rattle.job_story.specs.Held.{what_of}
use Rattle.job_story.specs.Limit.{has_ended, is_start, start_if}
use Rattle.story_waits.proofs.deadlock.Waits.cycle_from.Goals as goal

pub returns : goal.returns
returns c es k others =
    let task = c.args.event.now.task in
    let running : (is_start (what_of c.args.event.now.what) && not (has_ended task es)) ≡ true =
    ap (λ walked. is_start (what_of c.args.event.now.what) && not (has_ended task walked)) (sym k.walked)
    ∙ sym c.is_running.ensures ∙ c.if-not-is_running.false in
    ap (λ found. option_or found (first_cycle es others)) (c.in_ok-found.ensures es k)
    ∙ ap (λ n. option_or (waits_to n es task task) (first_cycle es others)) c.most_in_cycle.ensures
    ∙ ap (λ b. first_cycle es (start_if b task others)) (sym running)
