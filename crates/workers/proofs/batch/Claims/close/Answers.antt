use Rattle.std.proofs.Common.{rules, ap, subst, ◌∙◌, All, arith}
use Rattle.workers.specs.Claims.{IsPassOf}
use Rattle.workers.proofs.StepLemmas.{joins_allowed}
use Rattle.workers.proofs.GatherLemmas.{Gathered, gather_first, gather_next, all_front, Settled, settled}
use Rattle.workers.proofs.batch.Claims.close.Goals as goal

pub joins-init : goal.joins-init
joins-init c =
    let each = all_front (IsPassOf c.args.self) _ _ (subst (All (IsPassOf c.args.self)) c.in-Some.ensures.items c.requires.all.1) in
    (each.1.table, each.1.slots, each.0, rw c.in-Some.ensures.items (gather_first _ _ each.1.one))

pub join_seat-requires : goal.join_seat-requires
join_seat-requires c =
    let each = all_front (IsPassOf c.args.self) _ _ (subst (All (IsPassOf c.args.self)) c.in-Some-pop.ensures.items c.joins.invariant.2) in
    let one = c.args.self.one_word in
    (c.joins.invariant.0, each.1.table, each.1.slots, omega arith, joins_allowed _ _ _ _ _ c.joins.invariant.3.some)

pub joins-preserved : goal.joins-preserved
joins-preserved c =
    let each = all_front (IsPassOf c.args.self) _ _ (subst (All (IsPassOf c.args.self)) c.in-Some-pop.ensures.items c.joins.invariant.2) in
    let before = subst (λ ps. Gathered c.joins.all.seat.me.0 ps c.args.passes.items) c.in-Some-pop.ensures.items c.joins.invariant.3 in (
      c.join_seat.ensures.0 ∙ c.joins.invariant.0,
      ap (λ m. m.1) c.join_seat.ensures.2 ∙ c.joins.invariant.1,
      each.0,
      rw c.join_seat.ensures.2 (gather_next _ _ _ _ each.1.one before),
    )

pub free-requires : goal.free-requires
free-requires c =
    λ k below.
    let none = c.args.self.no_slot in
    let same = c.close_with-closed.ensures.counts.1 in
    absurd (omega arith)

pub returns-clause-count : goal.returns-clause-count
returns-clause-count c =
    let all = settled _ _ _ _ _ _ _ _ c.close_with-closed.ensures.values.2 c.word-claimed.ensures (search rules) c.joins.invariant.3
    (search rules) c.requires.spent in
    c.min.ensures ∙ (subst (λ n. Settled n c.word-claimed.result c.args.passes.items) c.args.self.known all).count

pub returns-clause-each_once : goal.returns-clause-each_once
returns-clause-each_once c =
    let all = settled _ _ _ _ _ _ _ _ c.close_with-closed.ensures.values.2 c.word-claimed.ensures (search rules) c.joins.invariant.3
    (search rules) c.requires.spent in
    (subst (λ n. Settled n c.word-claimed.result c.args.passes.items) c.args.self.known all).each_once

pub returns-clause-no_other : goal.returns-clause-no_other
returns-clause-no_other c =
    let all = settled _ _ _ _ _ _ _ _ c.close_with-closed.ensures.values.2 c.word-claimed.ensures (search rules) c.joins.invariant.3
    (search rules) c.requires.spent in
    (subst (λ n. Settled n c.word-claimed.result c.args.passes.items) c.args.self.known all).no_other
