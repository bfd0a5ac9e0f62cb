use Rattle.job_story.proofs.Tables.{cancelled_from_gives_the_table}
use Rattle.job_story.proofs.laws.law_cancelled_from_of_meaning.Goals as goal

pub returns : goal.returns
returns c = cancelled_from_gives_the_table
