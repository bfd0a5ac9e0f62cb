use Rattle.std.proofs.Common.{List, [], ap, sym, ◌∙◌}
use Rattle.std.proofs.lemmas.List.{append-nil}
use Rattle.job_tree.specs.Blocks.{steps_of}
use Rattle.job_reader.specs.declared.uses.Search.{Search}
use Rattle.job_reader.specs.Uses.{Use, uses_of, targets_in, stray_in}
use Rattle.job_reader.specs.Searches.{found_in}
use Rattle.job_reader.proofs.uses.stray_use.Goals as goal

pub returns-in-Passed : goal.returns-in-Passed
returns-in-Passed c =
    let all = append-nil (uses_of [] (steps_of c.args.steps.now)) in
    sym (ap (λ (s : Search). found_in s []) c.in-Passed.is) ∙ c.search_steps.ensures []
    ∙ ap (λ (us : List Use). stray_in us (targets_in c.args.tokens.now c.args.roles.now)) all

pub returns-in-Stopped : goal.returns-in-Stopped
returns-in-Stopped c =
    let all = append-nil (uses_of [] (steps_of c.args.steps.now)) in
    sym (ap (λ (s : Search). found_in s []) c.in-Stopped.is) ∙ c.search_steps.ensures []
    ∙ ap (λ (us : List Use). stray_in us (targets_in c.args.tokens.now c.args.roles.now)) all
