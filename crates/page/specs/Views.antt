-- What the values of the code are.
use Rattle.std.specs.Prelude.{map}
use Rattle.page.specs.Links as links
use Rattle.page.specs.Lines as lines
use Rattle.page.specs.Pages as pages
use Rattle.page.specs.declared.rows.Row.{Row}
use Rattle.page.specs.declared.job.Warned.{Warned}
use Rattle.page.specs.declared.pages.Shown.{Shown}

abbrev pub row_held : Row → links.Row
row_held r = record { label = r.label.items; row = r.row }

abbrev pub warned_held : Warned → lines.Warned
warned_held w = record { line = w.line; sentence = w.sentence.items }

abbrev pub shown_held : Shown → pages.Shown
shown_held s = record {
  name = s.name.now;
  outcome = s.outcome.now;
  job = s.job.now;
  warned = map warned_held s.warned.now;
  places = s.places.now;
  chart = s.chart.now;
  rows = map row_held s.rows.now;
  story = s.story.now;
  changing = s.changing.now;
  faults = s.faults.now;
  races = s.races.now;
  report = s.report.now;
  made = s.made.now;
}
