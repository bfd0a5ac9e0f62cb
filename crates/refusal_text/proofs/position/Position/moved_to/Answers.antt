use Rattle.std.proofs.Common.{arith}
use Rattle.std.proofs.lemmas.Bool.Decides.{nat_tests}
use Rattle.refusal_text.proofs.Counted.{line_on, column_on}
use Rattle.refusal_text.proofs.position.Position.moved_to.Goals as goal

pub returns-clause-position : goal.returns-clause-position
returns-clause-position c =
    let text = c.args.text.now in
    record {
      line_is = line_on text _ _ c.args.self.at c.args.at _ _ _ _ (grind (arith, nat_tests, c.if-at-self.false)) c.split_at.ensures.back c.min.ensures c.split_at-2.ensures.front
          c.min-2.ensures c.requires.line_is c.counted_on-line.ensures.line;
      column_is = column_on text _ _ c.args.self.at c.args.at _ _ _ _ (grind (arith, nat_tests, c.if-at-self.false)) c.split_at.ensures.back c.min.ensures c.split_at-2.ensures.front
          c.min-2.ensures c.requires.column_is c.counted_on-line.ensures.column;
    }
