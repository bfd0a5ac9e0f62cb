use Rattle.std.proofs.Common.{arith, ◌∙◌}
use Rattle.std.proofs.lemmas.List.{length-set}
use Rattle.workers.proofs.SlotLemmas.{computed-one_more}
use Rattle.workers.proofs.bench.compute.Goals as goal

pub loop-i-preserved : goal.loop-i-preserved
loop-i-preserved c =
    let before = c.loop-i.invariant in
    let row = c.loop-i.row in
    let i = c.loop-i.i in
    let slot = c.compute_one.result in
    record {
      count = length-set row i slot ∙ before.count;
      done = computed-one_more c.args.requests.now row i c.index-requests-i.result slot (omega arith) (omega arith) c.index-requests-i.is
          before.done c.compute_one.ensures;
    }
