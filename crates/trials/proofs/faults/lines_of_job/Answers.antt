use Rattle.std.proofs.Common.{◌∙◌, ap, refl, nat_lt, length}
use Rattle.outcomes.specs.Views.{job_outcome_held}
use Rattle.trials.specs.JobOutcomes.{token_roles}
use Rattle.trials.proofs.FaultsTabled.{are_lines}
use Rattle.trials.proofs.faults.lines_of_job.Goals as goal

pub returns : goal.returns
returns g c =
    are_lines c.args.question.now.text.now c.args.question.now.input.now c.args.question.now.settings.limit c.limit-limit.result c.args.names.now c.args.each c.has_items-has_input.result (nat_lt 1 (length c.args.names.now))
    c.in_ok-variants.untried c.args.job.now c.in_ok-tokens.tokens.items c.as_slice-read.result.now c.in_ok-roles.roles.items c.as_slice.result.now
    c.in_ok-variants.variants.items c.as_slice-4.result.now (job_outcome_held c.in_ok-first.first) c.in_ok-lines.lines.items c.requires.spells
    c.in_ok-tokens.ensures c.limit-limit.ensures.value c.as_slice-read.ensures.value c.has_items-has_input.ensures refl
    (c.in_ok-roles.ensures ∙ ap (λ f. token_roles f c.args.question.now.text.now c.as_slice-read.result.now) c.text_format.ensures)
    c.as_slice.ensures.value c.in_ok-variants.ensures.0 c.in_ok-variants.ensures.1 c.as_slice-4.ensures.value c.in_ok-first.ensures
    c.in_ok-lines.ensures
