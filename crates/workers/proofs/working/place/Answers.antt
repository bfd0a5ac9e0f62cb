use Rattle.std.proofs.Common.{arith, rules, ◌≡◌, ◌∙◌, length, All, ap, sym, subst, List}
use Rattle.std.proofs.lemmas.List.{length-set, nil_from_length}
use Rattle.std.proofs.lemmas.List.Elements.{All-head, All-rest}
use Rattle.workers.specs.declared.worker_state.Numbered.{Numbered}
use Rattle.workers.specs.WorkerStates.{IsRight}
use Rattle.workers.proofs.WorkerStateLemmas.{ComputedBut, placed-none, placed-one_more, placed-all}
use Rattle.workers.proofs.working.place.Goals as goal

pub loop-numbered-init : goal.loop-numbered-init
loop-numbered-init c =
    let requests = c.args.requests.now in
    let row = c.args.row.now in
    let answered = c.args.answered.items in
    let all = c.into_iter-numbered-iterator.ensures.into_iter_gives.0 in
    record {
      count = sym c.requires.paired;
      right = subst (All (IsRight requests)) (sym all) c.requires.answers.right;
      computed = subst (λ (left : List Numbered). ComputedBut requests left row) (sym all)
          (placed-none requests answered row c.requires.answers);
    }

pub put-requires : goal.put-requires
put-requires c =
    let before = c.loop-numbered.invariant in
    let requests = c.args.requests.now in
    let count = before.count in
    let this = All-head (IsRight requests) c.in-Some.numbered c.next.new.self.rest.items
    (subst (All (IsRight requests)) c.in-Some.ensures.steps.0 before.right) in
    let inside = this.0 in
    omega arith

pub loop-numbered-preserved : goal.loop-numbered-preserved
loop-numbered-preserved c =
    let before = c.loop-numbered.invariant in
    let requests = c.args.requests.now in
    let rest = c.loop-numbered.numbered-iterator.rest.items in
    let left = c.next.new.self.rest.items in
    let numbered = c.in-Some.numbered in
    let row = c.loop-numbered.row in
    let next = c.in-Some.ensures.steps.0 in
    let this = All-head (IsRight requests) numbered left (subst (All (IsRight requests)) next before.right) in
    record {
      count = ap length c.put.ensures ∙ length-set row numbered.number _ ∙ before.count;
      right = All-rest (IsRight requests) numbered left rest next before.right;
      computed = placed-one_more requests rest left numbered row _ before.count next this before.computed c.put.ensures;
    }

pub returns-clause-computed : goal.returns-clause-computed
returns-clause-computed c =
    let last = c.loop-numbered.invariant in
    let rest = c.loop-numbered.numbered-iterator.rest.items in
    let empty = c.in-None.ensures.steps.0 in
    let none : length rest ≡ 0 = search rules in
    placed-all c.args.requests.now rest c.loop-numbered.row last.count (nil_from_length rest none) last.computed
