use Rattle.std.proofs.Common.{◌∙◌, sym, arith}
use Rattle.trio_text.proofs.Fronts.{weight_first, no_pass}
use Rattle.trio_text.proofs.Passing.{loop_written, calls_written}
use Rattle.trio_text.proofs.Asking.{acquire_written, send_written, receive_written}
use Rattle.trio_text.proofs.steps.+steps.Goals as goal

pub push_each-push_step-requires : goal.push_each-push_step-requires
push_each-push_step-requires t c =
    let weight = weight_first c.steps.rest.now c.in-Some.first.now c.in-Some.others.now _ c.in-Some.ensures.cases.0 c.steps.invariant.1 in
    (omega (arith, weight, c.decreases), tt)

pub push_steps-returns : goal.push_steps-returns
push_steps-returns t c =
    no_pass c.args.steps.now (sym c.is_empty.ensures ∙ c.if-is_empty.false) _ _ _ _ c.in_ok-push_each.ensures

pub push_passes-returns-then-over : goal.push_passes-returns-then-over
push_passes-returns-then-over t c =
    calls_written _ _ _ c.args.count c.args.over c.args.body.now _ _ _ _ _ _ c.if-over.true c.in_ok-push_each_part.ensures
    c.in_function.ensures.level c.in_function.ensures.nursery c.in_ok-push_block.ensures c.in_ok-push_each_cut.ensures

pub push_passes-returns : goal.push_passes-returns
push_passes-returns t c =
    loop_written _ _ _ c.args.count c.args.over c.args.body.now _ _ _ _ _ c.if-over.false c.in_ok-push_repeat.ensures
    c.inside.ensures.level c.inside.ensures.nursery c.in_ok-push_block-2.ensures

pub push_ask-returns-in_ok-push_block-in-Acquire : goal.push_ask-returns-in_ok-push_block-in-Acquire
push_ask-returns-in_ok-push_block-in-Acquire t c =
    acquire_written _ _ _ c.args.name c.args.ask c.args.body.now _ _ _ _ _ c.in-Acquire.is c.in_ok-push_acquire-in-Acquire.ensures
    c.inside.ensures.level c.inside.ensures.nursery c.in_ok-push_block-in-Acquire.ensures

pub push_ask-returns-in_ok-push_each-in-Send : goal.push_ask-returns-in_ok-push_each-in-Send
push_ask-returns-in_ok-push_each-in-Send t c =
    send_written _ _ c.args.name c.args.ask _ c.args.body.now _ _ _ _ c.in-Send.is c.in_ok-push_send-in-Send.ensures c.as_slice.ensures
    c.in_ok-push_each-in-Send.ensures

pub push_ask-returns-in_ok-push_receive-in-Receive : goal.push_ask-returns-in_ok-push_receive-in-Receive
push_ask-returns-in_ok-push_receive-in-Receive t c =
    receive_written _ _ _ c.args.name c.args.ask c.args.body.now _ _ _ _ _ _ c.in-Receive.is c.in_ok-push_received-in-Receive.ensures
    c.in_function.ensures.level c.in_function.ensures.nursery c.in_ok-push_block-in-Receive.ensures c.in_ok-push_receive-in-Receive.ensures
