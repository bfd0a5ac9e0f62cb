use Rattle.job_reader.proofs.Passing.{format_headless}
use Rattle.job_reader.proofs.reading.format_of.Goals as goal

pub returns-in-None : goal.returns-in-None
returns-in-None c = format_headless c.args.text.now c.in-None.ensures
