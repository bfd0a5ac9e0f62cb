use Rattle.json_story.proofs.Words.{labels_as_in_a_report}
use Rattle.json_story.proofs.laws.law_labels.Goals as goal

pub returns : goal.returns
returns c = labels_as_in_a_report
