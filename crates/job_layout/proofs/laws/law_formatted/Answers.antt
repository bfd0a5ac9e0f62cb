use Rattle.job_layout.proofs.Formatted.{formatted_spells, formatted_keeps, formatted_again}
use Rattle.job_layout.proofs.laws.law_formatted.Goals as goal

pub returns-clause-again : goal.returns-clause-again
returns-clause-again c = λ text job spells le. formatted_spells text job spells le

pub returns-clause-kept : goal.returns-clause-kept
returns-clause-kept c = λ text job spells le. formatted_keeps text job spells

pub returns-clause-same : goal.returns-clause-same
returns-clause-same c = λ text job other spells again. formatted_again text job other spells again
