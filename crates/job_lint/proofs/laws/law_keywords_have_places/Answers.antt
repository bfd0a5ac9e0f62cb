use Rattle.job_lint.proofs.Lexed.{keywords_of_text, keywords_have_places}
use Rattle.job_lint.proofs.laws.law_keywords_have_places.Goals as goal

pub returns-clause-keywords : goal.returns-clause-keywords
returns-clause-keywords c = keywords_of_text

pub returns-clause-places : goal.returns-clause-places
returns-clause-places c = keywords_have_places
