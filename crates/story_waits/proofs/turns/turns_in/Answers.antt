use Rattle.std.proofs.Common.{ap, map, sym, ◌∙◌}
use Rattle.story_index.specs.Seen.{event_in}
use Rattle.story_waits.specs.Moves.{turn_in}
use Rattle.story_waits.proofs.TurnLemmas.{no_turns_in, read_one_more}
use Rattle.story_waits.proofs.turns.turns_in.Goals as goal

pub events-preserved : goal.events-preserved
events-preserved c =
    let walked = map event_in c.args.walked.now in (
      c.events.invariant.0,
      read_one_more walked c.events.i c.events.joined c.args.walked.now c.index-walked-i.result _ _ _ c.events-test.true c.index-walked-i.is
          (c.in_ok-push_event.ensures walked c.events.invariant.0) c.events.invariant.1,
    )

pub returns-then-not-has_moves : goal.returns-then-not-has_moves
returns-then-not-has_moves c =
    let walked = map event_in c.args.walked.now in
    ap (map turn_in) c.new-turns.ensures.items ∙ sym (no_turns_in walked 0 0 walked (sym c.has_moves.ensures ∙ c.if-not-has_moves.true))
