use Rattle.std.proofs.Common.{arith, sym, ◌∙◌}
use Rattle.job_tree.proofs.Weights.{weight_at}
use Rattle.job_tree.specs.Blocks.{steps_of, handled_of, cleaned_of}
use Rattle.job_reader.specs.Uses.{use_of, handled_uses, cleaned_uses}
use Rattle.refusal_text.specs.Scopes.{named_around}
use Rattle.refusal_text.proofs.Read.{after_one, after_two}
use Rattle.refusal_text.proofs.scopes.+search.Goals as goal

pub search_steps-search_step-requires : goal.search_steps-search_step-requires
search_steps-search_step-requires t c =
    let weight = weight_at c.args.steps.now c.steps.step-index c.step-item.result c.steps-test.true c.step-item.is in
    (omega (arith, weight, c.decreases), tt {0})

pub search_try-returns : goal.search_try-returns
search_try-returns t c =
    let around = named_around c.args.around.now in
    after_two around (steps_of c.as_slice.result.now) c.args.body.now (handled_uses around (handled_of c.args.handler.now))
    (cleaned_uses around (cleaned_of c.args.cleanup.now)) c.in_ok-found.found c.in_ok-found-2.found c.in_ok-found-3.found
    c.as_slice.ensures (sym c.is_some.ensures ∙ c.if-is_some.false) (sym c.is_some-2.ensures ∙ c.if-is_some-2.false)
    c.in_ok-found.ensures c.in_ok-found-2.ensures c.in_ok-found-3.ensures

pub search_ask-returns : goal.search_ask-returns
search_ask-returns t c =
    let around = named_around c.args.around.now in
    after_one around (steps_of c.as_slice.result.now) c.args.body.now (use_of c.args.kind c.args.name.now around) c.in_ok-found.found
    c.in_ok-found-2.found c.as_slice.ensures (sym c.is_some.ensures ∙ c.if-is_some.false) c.in_ok-found.ensures c.in_ok-found-2.ensures
