use Rattle.job_lint.proofs.Lexed.{warnings_stand}
use Rattle.job_lint.proofs.laws.law_warnings_stand_at_keywords.Goals as goal

pub returns : goal.returns
returns c = warnings_stand
