-- A page about a job.
use Rattle.std.specs.Prelude.{ℕ, List, [], ◌∷◌, ◌++◌, codes, decimal}
use Rattle.svg.specs.Content.{attribute, start_tag, end_tag}
use Rattle.svg.specs.Escaping.{escaped_text}
use Rattle.svg.specs.Sheets.{y_of}
use Rattle.svg.specs.declared.names.Tag.{Tag}
use Rattle.svg.specs.declared.names.Tag.TheVariants as tags
use Rattle.svg.specs.declared.names.Attr.TheVariants as attrs
use Rattle.page.specs.Markup.{element_text, classed, link}
use Rattle.page.specs.Cuts.{shown_lines, hidden_text}
use Rattle.page.specs.Links.{Row}
use Rattle.page.specs.declared.places.Place.{Place}
use Rattle.page.specs.Lines.{Warned, row_id, table_row, lines_from, job_lines}
use Rattle.page.specs.declared.kind.LineKind.{LineKind}
use Rattle.page.specs.declared.kind.LineKind.TheVariants.{Plain, Placed, Story}
use Rattle.page.specs.declared.style.TheConstants.{STYLE}

-- What a page shows of a job: its name, how it ends, its text with the warnings about it, the names in the text, the chart and its rows, the
-- story, the faults that change how it ends, all faults, the races, the report, and how the page was made.
pub record Shown : Type 0 where
  pub name : List ℕ
  pub outcome : List ℕ
  pub job : List ℕ
  pub warned : List Warned
  pub places : List Place
  pub chart : List ℕ
  pub rows : List Row
  pub story : List ℕ
  pub changing : List ℕ
  pub faults : List ℕ
  pub races : List ℕ
  pub report : List ℕ
  pub made : List ℕ

abbrev pub head : Shown → List ℕ
head shown =
    element_text tags.Head [] (element_text tags.Title [] (escaped_text shown.name) ++ element_text tags.Style [] (escaped_text STYLE.now))

-- the start of an element that links can name, with its heading
abbrev pub headed : Tag → Tag → List ℕ → List ℕ → List ℕ
headed tag heading_tag id heading = start_tag tag (attribute attrs.Id id ∷ []) ++ element_text heading_tag [] (escaped_text heading)

-- a section with a heading
abbrev pub section : List ℕ → List ℕ → List ℕ → List ℕ
section id heading inside = headed tags.Section tags.H2 id heading ++ inside ++ end_tag tags.Section ++ codes "\n"

-- a section that can be folded
abbrev pub folded : List ℕ → List ℕ → List ℕ → List ℕ
folded id heading inside = headed tags.Details tags.Summary id heading ++ inside ++ end_tag tags.Details ++ codes "\n"

-- the first lines of a text
abbrev pub lines : LineKind → Shown → List ℕ → List ℕ
lines kind shown bytes = lines_from kind shown.places shown.rows [] (shown_lines bytes)

abbrev pub pre : LineKind → Shown → List ℕ → List ℕ
pre kind shown bytes = element_text tags.Pre [] (lines kind shown bytes) ++ hidden_text bytes

abbrev pub table_head : List ℕ → List ℕ
table_head columns =
    element_text tags.Thead [] (table_row tags.Th (attribute attrs.Scope (codes "col") ∷ []) (escaped_text columns))

abbrev pub table_body : Shown → List ℕ → List ℕ
table_body shown bytes = element_text tags.Tbody [] (lines Placed shown bytes)

abbrev pub table_element : (columns : List ℕ) → Shown → List ℕ → List ℕ
table_element columns shown bytes = element_text tags.Table [] (table_head columns ++ table_body shown bytes)

-- a table, of which each row is a line
abbrev pub table : (columns : List ℕ) → Shown → List ℕ → List ℕ
table columns shown bytes = table_element columns shown bytes ++ hidden_text bytes

-- where the rows of the chart begin, from its top
abbrev pub row_anchor : Row → List ℕ
row_anchor r =
    element_text tags.Span (attribute attrs.Id (row_id r.label) ∷ attribute attrs.Style (codes "top:" ++ decimal (y_of r.row) ++ codes "px") ∷ []) []

abbrev pub row_anchors : List Row → List ℕ
row_anchors [] = []
row_anchors (r ∷ rs) = row_anchor r ++ row_anchors rs

abbrev pub chart_part : Shown → List ℕ
chart_part shown = classed tags.Div (codes "chart") (row_anchors shown.rows ++ shown.chart)

abbrev pub job_section : Shown → List ℕ
job_section shown = section (codes "job") (codes "Job") (element_text tags.Pre [] (job_lines shown.warned 1 [] shown.job))

abbrev pub chart_section : Shown → List ℕ
chart_section shown = section (codes "chart") (codes "Chart") (chart_part shown)

-- links to the sections
abbrev pub contents : List ℕ
contents =
    element_text tags.Nav []
    (link (codes "job") (codes "Job") ++ codes "\n"
    ++ link (codes "chart") (codes "Chart") ++ codes "\n"
    ++ link (codes "story") (codes "Story") ++ codes "\n"
    ++ link (codes "report") (codes "Report") ++ codes "\n"
    ++ link (codes "changing") (codes "Faults") ++ codes "\n"
    ++ link (codes "races") (codes "Races"))

-- the job, how it ends, and its chart
abbrev pub front_part : Shown → List ℕ
front_part shown =
    element_text tags.H1 [] (escaped_text shown.name) ++ codes "\n"
    ++ classed tags.P (codes "outcome") (escaped_text shown.outcome) ++ codes "\n"
    ++ contents ++ codes "\n"
    ++ job_section shown ++ chart_section shown

-- ---- what happens in it

abbrev pub story_section : Shown → List ℕ
story_section shown = folded (codes "story") (codes "Story") (pre Story shown shown.story)

abbrev pub report_section : Shown → List ℕ
report_section shown = folded (codes "report") (codes "Report") (pre Plain shown shown.report)

abbrev pub story_part : Shown → List ℕ
story_part shown = story_section shown ++ report_section shown

-- ---- what changes with a fault or a hair

abbrev pub fault_table : Shown → List ℕ → List ℕ
fault_table shown bytes = table (codes "Place, step, fault and outcome") shown bytes

abbrev pub changing_section : Shown → List ℕ
changing_section shown = section (codes "changing") (codes "Faults that change the outcome") (fault_table shown shown.changing)

abbrev pub faults_section : Shown → List ℕ
faults_section shown = folded (codes "faults") (codes "All faults") (fault_table shown shown.faults)

abbrev pub race_table : Shown → List ℕ
race_table shown = table (codes "Place, step, change and what differs") shown shown.races

abbrev pub races_section : Shown → List ℕ
races_section shown = section (codes "races") (codes "Races") (race_table shown)

abbrev pub tried_part : Shown → List ℕ
tried_part shown = changing_section shown ++ faults_section shown ++ races_section shown

-- ---- the page

abbrev pub main_element : Shown → List ℕ
main_element shown = element_text tags.Main [] (front_part shown ++ story_part shown ++ tried_part shown)

abbrev pub body : Shown → List ℕ
body shown = element_text tags.Body [] (main_element shown ++ element_text tags.Footer [] (escaped_text shown.made))

-- the page: a line that says that it is HTML, and one element
abbrev pub page_element : Shown → List ℕ
page_element shown = element_text tags.Html (attribute attrs.Lang (codes "en") ∷ []) (head shown ++ body shown)

abbrev pub page_text : Shown → List ℕ
page_text shown = codes "<!DOCTYPE html>\n" ++ page_element shown ++ codes "\n"
