use Rattle.std.proofs.Common.{rules, set}
use Rattle.std.proofs.lemmas.List.{get_or-set_same}
use Rattle.layer_tests.proofs.claims.draw_two.Goals as goal

pub close-sum-requires-clause-spent : goal.close-sum-requires-clause-spent
close-sum-requires-clause-spent c =
    let before = set (set c.in_ok-claims.passes.items 0 c.claim-first.new.pass) 1 c.claim-second.new.pass in (
      0,
      c.claim-third.new.pass,
      search rules,
      get_or-set_same before 0 c.claim-third.new.pass c.claim-third.new.pass (search rules),
      (c.claim-third.ensures.spent (search rules)).1,
    )
