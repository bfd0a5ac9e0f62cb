use Rattle.std.proofs.Common.{sym, ◌∙◌}
use Rattle.story_index.proofs.Puts.{put_there}
use Rattle.story_index.proofs.notes.put_first.Goals as goal

pub returns-clause-put : goal.returns-clause-put
returns-clause-put g c =
    put_there c.args.map.now c.insert.new.self c.args.label c.args.value c.in_ok-insert.ensures.updates
    (sym c.contains_key.ensures ∙ c.if-contains_key.false)
