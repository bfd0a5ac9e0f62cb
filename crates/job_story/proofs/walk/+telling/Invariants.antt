use Rattle.std.proofs.Common.{◌+◌, drop}
use Rattle.job_tree.specs.Weigh.{weight_of, weight_in, handled_weight, cleaned_weight}
use Rattle.job_tree.specs.Blocks.{step_of, steps_of, handled_of, cleaned_of}
use Rattle.job_meaning.specs.Walk.{cuts_over}
use Rattle.job_story.specs.Tell.{tell_each}
use Rattle.job_story.specs.Heres.{started_over}
use Rattle.job_story.specs.Tales.{Tells, now_in}
use Rattle.job_story.proofs.Steps.{AtStep}
use Rattle.job_story.proofs.Passing.{AtPass}
use Rattle.job_story.proofs.walk.+telling.Given as goal

abbrev pub invariant-tell_steps-steps : goal.invariant-tell_steps-steps
invariant-tell_steps-steps l =
    AtStep l.here (now_in l.moment l.fn.progress) (steps_of l.steps) (steps_of (drop l.step-index l.steps)) l.fn.progress.events.items
    l.stretch l.progress

abbrev pub invariant-tell_children-copies : goal.invariant-tell_children-copies
invariant-tell_children-copies l =
    let now = now_in l.moment l.fn.progress in
    Tells l.here.task.now l.fn.progress.events.items l.stretch l.progress
    (tell_each l.i (started_over l.name l.copies l.body l.here l.begins now) now)

abbrev pub invariant-tell_passes-passes : goal.invariant-tell_passes-passes
invariant-tell_passes-passes l =
    AtPass (cuts_over l.over l.count) l.here (now_in l.moment l.fn.progress) l.count l.body l.i l.fn.progress.events.items l.stretch l.progress

abbrev pub decreases-tell_steps : goal.decreases-tell_steps
decreases-tell_steps l = weight_of (steps_of l.steps.now)

abbrev pub decreases-tell_step : goal.decreases-tell_step
decreases-tell_step l = weight_in (step_of l.step.now)

abbrev pub decreases-tell_block : goal.decreases-tell_block
decreases-tell_block l = weight_of l.body.now + 6

abbrev pub decreases-tell_inside : goal.decreases-tell_inside
decreases-tell_inside l = weight_of l.body.now + 4

abbrev pub decreases-tell_event : goal.decreases-tell_event
decreases-tell_event l = weight_of l.body.now + 6

abbrev pub decreases-tell_object : goal.decreases-tell_object
decreases-tell_object l = weight_of l.body.now + 6

abbrev pub decreases-tell_ask : goal.decreases-tell_ask
decreases-tell_ask l = weight_of l.body.now + 7

abbrev pub decreases-tell_got : goal.decreases-tell_got
decreases-tell_got l = weight_of l.body.now + 6

abbrev pub decreases-tell_granted : goal.decreases-tell_granted
decreases-tell_granted l = weight_of l.body.now + 5

abbrev pub decreases-tell_with_token : goal.decreases-tell_with_token
decreases-tell_with_token l = weight_of l.body.now + 4

abbrev pub decreases-tell_sent : goal.decreases-tell_sent
decreases-tell_sent l = weight_of l.body.now + 4

abbrev pub decreases-tell_received : goal.decreases-tell_received
decreases-tell_received l = weight_of l.body.now + 4

abbrev pub decreases-tell_start : goal.decreases-tell_start
decreases-tell_start l = weight_of l.body.now + 7

abbrev pub decreases-tell_child : goal.decreases-tell_child
decreases-tell_child l = weight_of (steps_of l.steps.now) + 4

abbrev pub decreases-tell_children : goal.decreases-tell_children
decreases-tell_children l = weight_of l.body.now + 6

abbrev pub decreases-tell_passes : goal.decreases-tell_passes
decreases-tell_passes l = weight_of l.body.now + 6

abbrev pub decreases-tell_pass : goal.decreases-tell_pass
decreases-tell_pass l = weight_of l.body.now + 4

abbrev pub decreases-tell_try : goal.decreases-tell_try
decreases-tell_try l = weight_of l.body.now + handled_weight (handled_of l.handler.now) + cleaned_weight (cleaned_of l.cleanup.now) + 6

abbrev pub decreases-tell_handler : goal.decreases-tell_handler
decreases-tell_handler l = handled_weight (handled_of l.handler.now) + 1

abbrev pub decreases-tell_cleanup : goal.decreases-tell_cleanup
decreases-tell_cleanup l = cleaned_weight (cleaned_of l.cleanup.now) + 1
