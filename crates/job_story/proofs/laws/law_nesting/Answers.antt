use Rattle.job_story.proofs.Nested.{blocks_are_nested}
use Rattle.job_story.proofs.laws.law_nesting.Goals as goal

pub returns : goal.returns
returns c = blocks_are_nested
