use Rattle.std.proofs.Common.{arith}
use Rattle.workers.proofs.WorkerStateLemmas.{spent-first, gathered-all}
use Rattle.workers.proofs.working.draw_all.Goals as goal

pub close-requires-clause-spent : goal.close-requires-clause-spent
close-requires-clause-spent g c =
    let some = c.requires.some_workers in
    let made = c.in_ok-claims.ensures.passes.1 in
    let worker_states = c.in_ok-worker_states.ensures.count in
    let ran = c.run_all-worker_states.ensures.count in
    let gathered = c.in_ok-gathered.ensures.count in
    spent-first c.in_ok-gathered.gathered.passes.items (omega arith) (λ k d less. (c.in_ok-gathered.ensures.passes k d less).1)

pub returns : goal.returns
returns g c =
    let count = c.in_ok-claims.ensures.requests in
    gathered-all c.args.requests.now c.in_ok-gathered.gathered.passes.items _ (c.in_ok-gathered.ensures.answered c.if-refused.false)
    (λ i inside. c.close.ensures.each_once i (omega arith))
