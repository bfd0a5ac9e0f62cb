-- A law of labels.
use Rattle.std.specs.Prelude.{◌≡◌, true}
use Rattle.serde_json.specs.Data.{string}
use Rattle.job_tree.specs.Words.{is_word}
use Rattle.exceptions.specs.Exceptions.{Label}
use Rattle.exceptions.specs.Texts.{label_text}
use Rattle.json_story.specs.Values.{label_json}

-- a label whose name is a word, as all names of a job text are, is the text that a report shows
abbrev pub LabelsAreAsInAReport : Type 0
LabelsAreAsInAReport = (label : Label) → is_word label.name ≡ true → label_json label ≡ string (label_text label)
