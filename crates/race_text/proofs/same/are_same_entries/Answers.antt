use Rattle.std.proofs.Common.{arith}
use Rattle.race_text.proofs.Kept.{finished}
use Rattle.race_text.proofs.same.are_same_entries.Goals as goal

pub returns : goal.returns
returns c =
    finished c.args.scope c.args.a.now c.args.b.now c.entries.entry-index c.entries.next c.next_kept.result _
    (omega (arith, c.entries-test.false)) c.entries.invariant.same c.next_kept.ensures.kept c.next_kept.ensures.is_kept
