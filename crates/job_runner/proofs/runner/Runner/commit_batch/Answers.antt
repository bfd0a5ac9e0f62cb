use Rattle.std.proofs.Common.{refl}
use Rattle.job_runner.proofs.Committing.{commits_first, commits_going, commits_last, commits_next, commits_served, commits_unserved, served_commits, turn_fewer, turn_turning}
use Rattle.job_runner.specs.Turns.{and_turn}
use Rattle.job_runner.proofs.Turns.{first_turns, all_turns}
use Rattle.job_runner.proofs.runner.Runner.commit_batch.Goals as goal

pub turns-init : goal.turns-init
turns-init g c = (
  commits_first c.place.new.self c.args.answers.items c.requires.underway c.requires.answers
      c.place.ensures.placed c.place.ensures.next c.place.ensures.all,
  first_turns g.P.Pick.picks c.args.self.now c.place.new.self c.args.answers.items c.args.picker.now c.place.ensures.placed c.place.ensures.next,
)

pub next-requires : goal.next-requires
next-requires g c = c.turns.invariant.0.answered

pub take_turn-requires : goal.take_turn-requires
take_turn-requires g c = record { turning = turn_turning c.turns.invariant.0 c.in-Some.ensures.hands_out }

pub turns-smaller : goal.turns-smaller
turns-smaller g c =
    turn_fewer c.turns.invariant.0 c.in-Some.ensures.hands_out c.in_ok-take_turn.ensures.going c.in_ok-take_turn.ensures.same
    c.in_ok-take_turn.ensures.current

pub turns-preserved : goal.turns-preserved
turns-preserved g c = (
  commits_next c.turns.invariant.0 c.in-Some.ensures.hands_out c.in_ok-take_turn.ensures.going c.in_ok-take_turn.ensures.same
      c.in_ok-take_turn.ensures.current c.in_ok-take_turn.ensures.turns c.in-Some.ensures.placed,
  and_turn _ c.turns.self c.take_turn.new.self _ _ _ c.next.new.self c.in-Some.turn.0 c.in-Some.turn.1 c.turns.invariant.1
      c.in-Some.ensures.hands_out c.in_ok-take_turn.ensures.takes,
)

pub returns-then-not-has_to_serve-clause-underway : goal.returns-then-not-has_to_serve-clause-underway
returns-then-not-has_to_serve-clause-underway g c =
    commits_last c.next.new.self c.turn_over.new.self c.turns.invariant.0 c.in_default.ensures.idle.0 (c.in_default.ensures.none.0 refl)
    c.in_ok-see_changed.ensures.rest c.in_ok-see_changed.ensures.going c.in_ok-see_changed.ensures.unchanged c.turn_over.ensures.current
    c.turn_over.ensures.next c.turn_over.ensures.unplaced c.if-not-has_to_serve.ensures

pub returns-then-not-has_to_serve-clause-commits : goal.returns-then-not-has_to_serve-clause-commits
returns-then-not-has_to_serve-clause-commits g c =
    let turns = rw (← c.in_default.ensures.idle.1) at c.turns.invariant.1 in
    all_turns c.args.self.now c.see_changed.new.self c.args.answers.items c.next.new.self c.turn_over.new.self turns
    c.in_default.ensures.idle.0 (c.in_default.ensures.none.0 refl) c.in_ok-see_changed.ensures.rest c.turn_over.ensures.current

pub serve_round-requires-clause-going : goal.serve_round-requires-clause-going
serve_round-requires-clause-going g c =
    commits_going c.next.new.self c.turn_over.new.self c.turns.invariant.0 c.in_default.ensures.idle.0 (c.in_default.ensures.none.0 refl)
    c.in_ok-see_changed.ensures.rest c.in_ok-see_changed.ensures.going c.turn_over.ensures.current c.turn_over.ensures.next

pub serve_round-requires-clause-unserved : goal.serve_round-requires-clause-unserved
serve_round-requires-clause-unserved g c =
    commits_unserved c.next.new.self c.turn_over.new.self c.turns.invariant.0 c.in_default.ensures.idle.0 (c.in_default.ensures.none.0 refl)
    c.in_ok-see_changed.ensures.rest c.if-not-has_to_serve.ensures.1

pub returns-clause-underway : goal.returns-clause-underway
returns-clause-underway g c =
    commits_served c.in_ok-serve_round.ensures.served c.in_ok-serve_round.ensures.going c.in_ok-see_changed.ensures.unchanged
    c.turn_over.ensures.unplaced c.if-not-has_to_serve.ensures.0 c.turn_over.ensures.next

pub returns-clause-commits : goal.returns-clause-commits
returns-clause-commits g c =
    let turns = rw (← c.in_default.ensures.idle.1) at c.turns.invariant.1 in
    served_commits c.in_ok-serve_round.ensures.served
    (all_turns c.args.self.now c.see_changed.new.self c.args.answers.items c.next.new.self c.turn_over.new.self turns
    c.in_default.ensures.idle.0 (c.in_default.ensures.none.0 refl) c.in_ok-see_changed.ensures.rest c.turn_over.ensures.current)
