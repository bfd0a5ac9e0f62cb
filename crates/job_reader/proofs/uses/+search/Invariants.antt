use Rattle.std.proofs.Common.{◌≡◌, ◌+◌, List, ◌++◌, drop}
use Rattle.job_tree.specs.Weigh.{weight_of, weight_in, handled_weight, cleaned_weight}
use Rattle.job_tree.specs.Blocks.{step_of, steps_of, handled_of, cleaned_of}
use Rattle.job_reader.specs.Uses.{Use, uses_of}
use Rattle.job_reader.specs.Searches.{named_around, found_in}
use Rattle.job_reader.proofs.uses.+search.Given as goal

abbrev pub invariant-search_steps-steps : goal.invariant-search_steps-steps
invariant-search_steps-steps l =
    (more : List Use)
    → found_in l.found (uses_of (named_around l.around) (steps_of (drop l.step-index l.steps)) ++ more)
    ≡ found_in l.search (uses_of (named_around l.around) (steps_of l.steps) ++ more)

abbrev pub decreases-search_steps : goal.decreases-search_steps
decreases-search_steps l = weight_of (steps_of l.steps.now)

abbrev pub decreases-search_step : goal.decreases-search_step
decreases-search_step l = weight_in (step_of l.step.now)

abbrev pub decreases-search_inside : goal.decreases-search_inside
decreases-search_inside l = weight_of l.body.now + 1

abbrev pub decreases-search_handler : goal.decreases-search_handler
decreases-search_handler l = handled_weight (handled_of l.handler.now) + 1

abbrev pub decreases-search_cleanup : goal.decreases-search_cleanup
decreases-search_cleanup l = cleaned_weight (cleaned_of l.cleanup.now) + 1
