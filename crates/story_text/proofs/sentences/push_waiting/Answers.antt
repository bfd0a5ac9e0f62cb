use Rattle.std.specs.Prelude.{codes, decimal}
use Rattle.exceptions.specs.Texts.{label_text}
use Rattle.job_meaning.specs.Clocks.{tick_of}
use Rattle.story_text.proofs.Joined.{two_of_four}
use Rattle.story_text.proofs.sentences.push_waiting.Goals as goal

pub returns : goal.returns
returns c =
    two_of_four c.push_since.result c.args.out.now.items c.args.words.now (label_text c.args.label.now) (codes " since ")
    (decimal (tick_of c.args.clock c.args.since)) _ _ c.in_ok-push_labelled.ensures c.push_since.ensures
