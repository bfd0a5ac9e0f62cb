use Rattle.std.proofs.Common.{refl}
use Rattle.job_runner.specs.declared.runner.Runner.{Runner}
use Rattle.job_runner.proofs.Telling.{TellsOne, taken_open, telling_first, telling_fewer, telling_next, informed_still, informed_unchanged, informed_only}
use Rattle.job_runner.proofs.runner.Runner.see_changed.Goals as goal

abbrev after_see : goal.In_ok-see → Runner
after_see c = record (c.changed.self) {
  world = record (c.changed.self.world) { scopes = c.take_changed.new.self };
  sleepers = c.see.new.self;
}

tells_one : (c : goal.In_ok-see) → TellsOne c.changed.self (after_see c) c.in-Some.scope
tells_one c = record {
  seen = c.seen_from-sight.result;
  stacks = rw c.scopes_mut.ensures.value at c.in-Some.ensures.stacks;
  takes = rw c.scopes_mut.ensures.value at c.in-Some.ensures.taken;
  sees = rw c.scopes.ensures at c.seen_from-sight.ensures;
  same = c.see.ensures.scopes;
  tells = c.in_ok-see.ensures.sights;
  rest = refl;
}

pub changed-init : goal.changed-init
changed-init c = telling_first c.args.self.now c.requires.going

pub changed-smaller : goal.changed-smaller
changed-smaller c = telling_fewer c.changed.invariant (tells_one c)

pub changed-preserved : goal.changed-preserved
changed-preserved c = telling_next c.changed.invariant (tells_one c)

pub seen_from-sight-requires : goal.seen_from-sight-requires
seen_from-sight-requires c =
    taken_open c.scopes_mut.result.now c.take_changed.new.self c.scopes.result.now c.in-Some.scope c.in-Some.ensures.stacks
    c.in-Some.ensures.taken c.scopes.ensures

pub returns-clause-going : goal.returns-clause-going
returns-clause-going c =
    let stacks = rw c.scopes_mut.ensures.value at c.in_default.ensures.stacks in
    let none = rw c.scopes_mut.ensures.value at c.in_default.ensures.taken in
    let same = rw c.scopes_mut.ensures.value at (c.in_default.ensures.none refl) in
    informed_still c.take_changed.new.self c.changed.invariant stacks none same

pub returns-clause-unchanged : goal.returns-clause-unchanged
returns-clause-unchanged c =
    let stacks = rw c.scopes_mut.ensures.value at c.in_default.ensures.stacks in
    let none = rw c.scopes_mut.ensures.value at c.in_default.ensures.taken in
    let same = rw c.scopes_mut.ensures.value at (c.in_default.ensures.none refl) in
    informed_unchanged c.take_changed.new.self c.changed.invariant stacks none same

pub returns-clause-rest : goal.returns-clause-rest
returns-clause-rest c =
    let stacks = rw c.scopes_mut.ensures.value at c.in_default.ensures.stacks in
    let none = rw c.scopes_mut.ensures.value at c.in_default.ensures.taken in
    let same = rw c.scopes_mut.ensures.value at (c.in_default.ensures.none refl) in
    informed_only c.take_changed.new.self c.changed.invariant stacks none same
