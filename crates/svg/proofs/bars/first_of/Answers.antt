use Rattle.story_index.specs.Seen.{event_in}
use Rattle.svg.specs.declared.layout.TheConstants.{MAX_TITLED}
use Rattle.svg.proofs.Taken.{front_of}
use Rattle.svg.proofs.bars.first_of.Goals as goal

pub returns : goal.returns
returns c = front_of event_in MAX_TITLED _ _ _ c.min.ensures c.split_at.ensures.front
