use Rattle.std.proofs.Common.{sym, ap, ◌∙◌}
use Rattle.std.specs.Prelude.{Bool, ◌||◌, map}
use Rattle.story_index.specs.Seen.{event_in}
use Rattle.story_index.specs.Holds.{holds}
use Rattle.story_index.proofs.Bools.{or_false}
use Rattle.story_index.proofs.RoundLemmas.{round_is}
use Rattle.story_index.proofs.rounds.add_causers.Goals as goal

pub returns-then-is_empty-clause-grown : goal.returns-then-is_empty-clause-grown
returns-then-is_empty-clause-grown c = λ table kept known same l.
    let all = map event_in c.args.events.now in
    let has = holds c.args.tasks.now in
    or_false (has l)
    ∙ ap (λ (b : Bool). has l || b) (sym (c.is_empty.ensures c.if-is_empty.true l) ∙ c.in_ok-added.ensures table all known l)
    ∙ round_is has table all kept same l

pub returns-clause-grown : goal.returns-clause-grown
returns-clause-grown c = λ table kept known same l.
    let all = map event_in c.args.events.now in
    let has = holds c.args.tasks.now in
    c.in_ok-add_all.ensures l
    ∙ ap (λ (b : Bool). has l || b) (c.in_ok-added.ensures table all known l)
    ∙ round_is has table all kept same l
