-- A page is well formed: it is one element, whose content is elements and text.
use Rattle.std.proofs.Common.{◌≡◌, ◌++◌, ℕ, zero, suc, ◌+◌, ◌==◌, Bool, true, false, if◌then◌else◌, Option, Some, None, List, [], ◌∷◌, codes, decimal, refl, sym, ap, ap₂, ◌∙◌, append_assoc, append-nil}
use Rattle.std.proofs.lemmas.Bool.{and_from}
use Rattle.svg.specs.Escaping.{escaped_text}
use Rattle.svg.specs.Content.{nothing, text, element, then_content, content_text, Attribute, attribute, start_tag, end_tag, are_distinct, IsDocument}
use Rattle.svg.specs.Sheets.{y_of}
use Rattle.svg.specs.declared.names.Tag.{Tag}
use Rattle.svg.specs.declared.names.Tag.TheVariants as tags
use Rattle.svg.specs.declared.names.Attr.TheVariants as attrs
use Rattle.svg.proofs.Contents.{written_then, well_then}
use Rattle.page.specs.Markup.{element_text, classed, link, IsContent}
use Rattle.page.specs.Cuts.{hidden_if, hidden_count, hidden_text, shown_lines}
use Rattle.page.specs.Fronts.{front, after_front}
use Rattle.page.specs.Links.{Row, has_row, line_of_sentence}
use Rattle.page.specs.Lines.{row_id, line_id, is_place, placed_if, placed_after, placed_line, label_text, sentence_at, story_after, story_rest, story_line, table_row, shown_line, line_text, last_line, lines_from, Warned, warning_text, warning_at, warnings_at, numbered, job_line, last_job_line, job_lines}
use Rattle.page.specs.Pages.{Shown, head, headed, section, folded, lines, pre, table_head, table, row_anchor, row_anchors, chart_part, job_section, chart_section, contents, front_part, story_part, fault_table, tried_part, body, page_element}
use Rattle.page.specs.declared.places.Place.{Place}
use Rattle.page.specs.declared.front.ByteKind.TheVariants.{Blank, Digit, Dark}
use Rattle.page.specs.declared.kind.LineKind.{LineKind}
use Rattle.page.specs.declared.kind.LineKind.TheVariants.{Plain, Placed, Story}
use Rattle.page.specs.declared.style.TheConstants.{STYLE}

-- ---- content in general

-- No bytes at all are content.
nothing_is_content : IsContent []
nothing_is_content = record { content = nothing; is_written = refl; well = refl }

-- Escaped text is content.
text_is_content : (bytes : List ℕ) → IsContent (escaped_text bytes)
text_is_content bytes = record { content = text bytes nothing; is_written = sym (append-nil (escaped_text bytes)); well = refl }

newline_written : codes "\n" ≡ content_text (text (codes "\n") nothing)
unfolding escaped_text
newline_written = refl

-- A newline is content.
newline_is_content : IsContent (codes "\n")
newline_is_content = record { content = text (codes "\n") nothing; is_written = newline_written; well = refl }

-- Content after content is content.
joined_is_content : (a b : List ℕ) → IsContent a → IsContent b → IsContent (a ++ b)
joined_is_content a b first second =
    record {
      content = then_content first.content second.content;
      is_written = ap₂ (λ x y. x ++ y) first.is_written second.is_written ∙ sym (written_then first.content second.content);
      well = well_then first.content second.content first.well second.well;
    }

-- An element is a document if no attribute occurs twice in its start tag, and its content is content.
element_is_document : (tag : Tag) (attributes : List Attribute) (inside : List ℕ) → are_distinct attributes ≡ true → IsContent inside →
    IsDocument (element_text tag attributes inside)
element_is_document tag attributes inside distinct known =
    record {
      tag = tag;
      attributes = attributes;
      inside = known.content;
      is_written =
          ap (λ x. start_tag tag attributes ++ x ++ end_tag tag) known.is_written
          ∙ sym (append-nil (start_tag tag attributes ++ content_text known.content ++ end_tag tag));
      well = and_from _ _ distinct (and_from _ _ known.well refl);
    }

-- A document is content.
pub document_is_content : (bytes : List ℕ) → IsDocument bytes → IsContent bytes
document_is_content bytes known =
    record { content = element known.tag known.attributes known.inside nothing; is_written = known.is_written; well = known.well }

-- An element is content if no attribute occurs twice in its start tag, and its content is content.
element_is_content : (tag : Tag) (attributes : List Attribute) (inside : List ℕ) → are_distinct attributes ≡ true → IsContent inside →
    IsContent (element_text tag attributes inside)
element_is_content tag attributes inside distinct known =
    document_is_content (element_text tag attributes inside) (element_is_document tag attributes inside distinct known)

-- An element of a class is content if its content is.
classed_is_content : (tag : Tag) (class inside : List ℕ) → IsContent inside → IsContent (classed tag class inside)
classed_is_content tag class inside known = element_is_content tag (attribute attrs.Class class ∷ []) inside refl known

-- A link is content.
link_is_content : (id shown : List ℕ) → IsContent (link id shown)
link_is_content id shown =
    element_is_content tags.A (attribute attrs.Href (codes "#" ++ id) ∷ []) (escaped_text shown) refl (text_is_content shown)

-- A choice of two contents is content.
choice_is_content : (c : Bool) (a b : List ℕ) → IsContent a → IsContent b → IsContent (if c then a else b)
choice_is_content true a b first second = first
choice_is_content false a b first second = second

-- ---- the number of lines that are not shown

hidden_if_is_content : (n : ℕ) → IsContent (hidden_if n)
hidden_if_is_content zero = nothing_is_content
hidden_if_is_content (suc n) =
    let words = codes "Lines that are not shown: " ++ decimal (suc n) in
    classed_is_content tags.P (codes "hidden") (escaped_text words) (text_is_content words)

hidden_is_content : (bytes : List ℕ) → IsContent (hidden_text bytes)
hidden_is_content bytes = hidden_if_is_content (hidden_count bytes)

-- ---- a line of a table

placed_if_is_content : (found : Bool) (blanks line : List ℕ) → IsContent (placed_if found blanks line)
placed_if_is_content false blanks line =
    joined_is_content (escaped_text blanks) (escaped_text line) (text_is_content blanks) (text_is_content line)
placed_if_is_content true blanks line =
    let id = codes "line-" ++ front Digit line in
    let place = front Dark line in
    let rest = after_front Dark line in
    joined_is_content (escaped_text blanks ++ link id place) (escaped_text rest)
    (joined_is_content (escaped_text blanks) (link id place) (text_is_content blanks) (link_is_content id place))
    (text_is_content rest)

placed_after_is_content : (blanks line : List ℕ) → IsContent (placed_after blanks line)
placed_after_is_content blanks line = placed_if_is_content (is_place (front Digit line) (after_front Digit line)) blanks line

placed_line_is_content : (line : List ℕ) → IsContent (placed_line line)
placed_line_is_content line = placed_after_is_content (front Blank line) (after_front Blank line)

-- ---- a line of a story

label_is_content : (rows : List Row) (label : List ℕ) → IsContent (label_text rows label)
label_is_content rows label =
    choice_is_content (has_row rows label) (link (row_id label) label) (escaped_text label) (link_is_content (row_id label) label)
    (text_is_content label)

sentence_is_content : (at : Option ℕ) (sentence : List ℕ) → IsContent (sentence_at at sentence)
sentence_is_content None sentence = text_is_content sentence
sentence_is_content (Some n) sentence = link_is_content (line_id n) sentence

told_parts_are_content : (rows : List Row) (at : Option ℕ) (label blanks sentence : List ℕ) →
    IsContent (label_text rows label ++ escaped_text blanks ++ sentence_at at sentence)
told_parts_are_content rows at label blanks sentence =
    joined_is_content (label_text rows label ++ escaped_text blanks) (sentence_at at sentence)
    (joined_is_content (label_text rows label) (escaped_text blanks) (label_is_content rows label) (text_is_content blanks))
    (sentence_is_content at sentence)

told_after_is_content : (places : List Place) (rows : List Row) (label rest : List ℕ) → IsContent (story_after places rows label rest)
told_after_is_content places rows label rest =
    told_parts_are_content rows (line_of_sentence places label (after_front Blank rest)) label (front Blank rest) (after_front Blank rest)

told_rest_is_content : (places : List Place) (rows : List Row) (blanks rest : List ℕ) → IsContent (story_rest places rows blanks rest)
told_rest_is_content places rows [] rest = text_is_content rest
told_rest_is_content places rows (b ∷ blanks) rest = told_after_is_content places rows (front Dark rest) (after_front Dark rest)

told_line_is_content : (places : List Place) (rows : List Row) (line : List ℕ) → IsContent (story_line places rows line)
told_line_is_content places rows line =
    joined_is_content (escaped_text (front Blank line)) (story_rest places rows (front Blank line) (after_front Blank line))
    (text_is_content (front Blank line))
    (told_rest_is_content places rows (front Blank line) (after_front Blank line))

-- ---- the lines of a text

-- A row of a table is content if the content of its cell is.
row_is_content : (tag : Tag) (attributes : List Attribute) (inside : List ℕ) → are_distinct attributes ≡ true → IsContent inside →
    IsContent (table_row tag attributes inside)
row_is_content tag attributes inside distinct known =
    element_is_content tags.Tr [] (element_text tag attributes inside) refl (element_is_content tag attributes inside distinct known)

shown_line_is_content : (kind : LineKind) (places : List Place) (rows : List Row) (line : List ℕ) →
    IsContent (shown_line kind places rows line)
shown_line_is_content Plain places rows line = text_is_content line
shown_line_is_content Placed places rows line = row_is_content tags.Td [] (placed_line line) refl (placed_line_is_content line)
shown_line_is_content Story places rows line = told_line_is_content places rows line

line_is_content : (kind : LineKind) (places : List Place) (rows : List Row) (line : List ℕ) → IsContent (line_text kind places rows line)
line_is_content kind places rows line =
    joined_is_content (shown_line kind places rows line) (codes "\n") (shown_line_is_content kind places rows line) newline_is_content

last_line_is_content : (kind : LineKind) (places : List Place) (rows : List Row) (line : List ℕ) →
    IsContent (last_line kind places rows line)
last_line_is_content kind places rows [] = nothing_is_content
last_line_is_content kind places rows (b ∷ bs) = line_is_content kind places rows (b ∷ bs)

lines_from_is_content : (kind : LineKind) (places : List Place) (rows : List Row) (seen bytes : List ℕ) →
    IsContent (lines_from kind places rows seen bytes)
lines_from_is_content kind places rows seen [] = last_line_is_content kind places rows seen
lines_from_is_content kind places rows seen (b ∷ bs) =
    choice_is_content (b == 10) (line_text kind places rows seen ++ lines_from kind places rows [] bs)
    (lines_from kind places rows (seen ++ b ∷ []) bs)
    (joined_is_content (line_text kind places rows seen) (lines_from kind places rows [] bs) (line_is_content kind places rows seen)
    (lines_from_is_content kind places rows [] bs))
    (lines_from_is_content kind places rows (seen ++ b ∷ []) bs)

-- ---- the lines of the job

warning_is_content : (sentence : List ℕ) → IsContent (warning_text sentence)
warning_is_content sentence =
    let words = codes "warning: " ++ sentence in
    joined_is_content (classed tags.Span (codes "warning") (escaped_text words)) (codes "\n")
    (classed_is_content tags.Span (codes "warning") (escaped_text words) (text_is_content words))
    newline_is_content

warning_at_is_content : (n : ℕ) (w : Warned) → IsContent (warning_at n w)
warning_at_is_content n w =
    choice_is_content (w.line == n) (warning_text w.sentence) [] (warning_is_content w.sentence) nothing_is_content

warnings_are_content : (n : ℕ) (warned : List Warned) → IsContent (warnings_at n warned)
warnings_are_content n [] = nothing_is_content
warnings_are_content n (w ∷ ws) =
    joined_is_content (warning_at n w) (warnings_at n ws) (warning_at_is_content n w) (warnings_are_content n ws)

numbered_parts_are_content : (number line : List ℕ) →
    IsContent (classed tags.Span (codes "number") (escaped_text number) ++ escaped_text line)
numbered_parts_are_content number line =
    joined_is_content (classed tags.Span (codes "number") (escaped_text number)) (escaped_text line)
    (classed_is_content tags.Span (codes "number") (escaped_text number) (text_is_content number))
    (text_is_content line)

numbered_is_content : (n : ℕ) (line : List ℕ) → IsContent (numbered n line)
numbered_is_content n line = numbered_parts_are_content (decimal n ++ codes " ") line

job_line_is_content : (warned : List Warned) (n : ℕ) (line : List ℕ) → IsContent (job_line warned n line)
job_line_is_content warned n line =
    let attributes = attribute attrs.Id (line_id n) ∷ attribute attrs.Class (codes "line") ∷ [] in
    let first = element_text tags.Span attributes (numbered n line) in
    joined_is_content (first ++ codes "\n") (warnings_at n warned)
    (joined_is_content first (codes "\n") (element_is_content tags.Span attributes (numbered n line) refl (numbered_is_content n line))
    newline_is_content)
    (warnings_are_content n warned)

last_job_line_is_content : (warned : List Warned) (n : ℕ) (line : List ℕ) → IsContent (last_job_line warned n line)
last_job_line_is_content warned n [] = nothing_is_content
last_job_line_is_content warned n (b ∷ bs) = job_line_is_content warned n (b ∷ bs)

job_lines_are_content : (warned : List Warned) (n : ℕ) (seen bytes : List ℕ) → IsContent (job_lines warned n seen bytes)
job_lines_are_content warned n seen [] = last_job_line_is_content warned n seen
job_lines_are_content warned n seen (b ∷ bs) =
    choice_is_content (b == 10) (job_line warned n seen ++ job_lines warned (n + 1) [] bs) (job_lines warned n (seen ++ b ∷ []) bs)
    (joined_is_content (job_line warned n seen) (job_lines warned (n + 1) [] bs) (job_line_is_content warned n seen)
    (job_lines_are_content warned (n + 1) [] bs))
    (job_lines_are_content warned n (seen ++ b ∷ []) bs)

-- ---- sections

-- What is headed, with its content and its end tag, is an element.
headed_is_content : (tag heading_tag : Tag) (id heading inside : List ℕ) → IsContent inside →
    IsContent (headed tag heading_tag id heading ++ inside ++ end_tag tag)
headed_is_content tag heading_tag id heading inside known =
    let attributes = attribute attrs.Id id ∷ [] in
    let title = element_text heading_tag [] (escaped_text heading) in
    let titled = element_is_content heading_tag [] (escaped_text heading) refl (text_is_content heading) in
    let whole = element_is_content tag attributes (title ++ inside) refl (joined_is_content title inside titled known) in
    record {
      content = whole.content;
      is_written = ap (λ x. x ++ end_tag tag) (append_assoc (start_tag tag attributes) title inside) ∙ whole.is_written;
      well = whole.well;
    }

section_is_content : (id heading inside : List ℕ) → IsContent inside → IsContent (section id heading inside)
section_is_content id heading inside known =
    joined_is_content (headed tags.Section tags.H2 id heading ++ inside ++ end_tag tags.Section) (codes "\n")
    (headed_is_content tags.Section tags.H2 id heading inside known)
    newline_is_content

folded_is_content : (id heading inside : List ℕ) → IsContent inside → IsContent (folded id heading inside)
folded_is_content id heading inside known =
    joined_is_content (headed tags.Details tags.Summary id heading ++ inside ++ end_tag tags.Details) (codes "\n")
    (headed_is_content tags.Details tags.Summary id heading inside known)
    newline_is_content

-- ---- the parts of a page

-- A part on a line of its own.
line_after_is_content : (a : List ℕ) → IsContent a → IsContent (a ++ codes "\n")
line_after_is_content a known = joined_is_content a (codes "\n") known newline_is_content

head_is_content : (shown : Shown) → IsContent (head shown)
head_is_content shown =
    let title = element_text tags.Title [] (escaped_text shown.name) in
    let style = element_text tags.Style [] (escaped_text STYLE.now) in
    element_is_content tags.Head [] (title ++ style) refl
    (joined_is_content title style (element_is_content tags.Title [] (escaped_text shown.name) refl (text_is_content shown.name))
    (element_is_content tags.Style [] (escaped_text STYLE.now) refl (text_is_content STYLE.now)))

lines_are_content : (kind : LineKind) (shown : Shown) (bytes : List ℕ) → IsContent (lines kind shown bytes)
lines_are_content kind shown bytes = lines_from_is_content kind shown.places shown.rows [] (shown_lines bytes)

pre_is_content : (kind : LineKind) (shown : Shown) (bytes : List ℕ) → IsContent (pre kind shown bytes)
pre_is_content kind shown bytes =
    joined_is_content (element_text tags.Pre [] (lines kind shown bytes)) (hidden_text bytes)
    (element_is_content tags.Pre [] (lines kind shown bytes) refl (lines_are_content kind shown bytes))
    (hidden_is_content bytes)

table_head_is_content : (columns : List ℕ) → IsContent (table_head columns)
table_head_is_content columns =
    let attributes = attribute attrs.Scope (codes "col") ∷ [] in
    element_is_content tags.Thead [] (table_row tags.Th attributes (escaped_text columns)) refl
    (row_is_content tags.Th attributes (escaped_text columns) refl (text_is_content columns))

table_is_content : (columns : List ℕ) (shown : Shown) (bytes : List ℕ) → IsContent (table columns shown bytes)
table_is_content columns shown bytes =
    let rows = element_text tags.Tbody [] (lines Placed shown bytes) in
    let rows_known = element_is_content tags.Tbody [] (lines Placed shown bytes) refl (lines_are_content Placed shown bytes) in
    joined_is_content (element_text tags.Table [] (table_head columns ++ rows)) (hidden_text bytes)
    (element_is_content tags.Table [] (table_head columns ++ rows) refl
    (joined_is_content (table_head columns) rows (table_head_is_content columns) rows_known))
    (hidden_is_content bytes)

row_anchor_is_content : (r : Row) → IsContent (row_anchor r)
row_anchor_is_content r =
    let top = codes "top:" ++ decimal (y_of r.row) ++ codes "px" in
    element_is_content tags.Span (attribute attrs.Id (row_id r.label) ∷ attribute attrs.Style top ∷ []) [] refl nothing_is_content

row_anchors_are_content : (rs : List Row) → IsContent (row_anchors rs)
row_anchors_are_content [] = nothing_is_content
row_anchors_are_content (r ∷ rs) =
    joined_is_content (row_anchor r) (row_anchors rs) (row_anchor_is_content r) (row_anchors_are_content rs)

chart_part_is_content : (shown : Shown) → IsContent shown.chart → IsContent (chart_part shown)
chart_part_is_content shown drawn =
    classed_is_content tags.Div (codes "chart") (row_anchors shown.rows ++ shown.chart)
    (joined_is_content (row_anchors shown.rows) shown.chart (row_anchors_are_content shown.rows) drawn)

job_section_is_content : (shown : Shown) → IsContent (job_section shown)
job_section_is_content shown =
    let job = job_lines shown.warned 1 [] shown.job in
    section_is_content (codes "job") (codes "Job") (element_text tags.Pre [] job)
    (element_is_content tags.Pre [] job refl (job_lines_are_content shown.warned 1 [] shown.job))

chart_section_is_content : (shown : Shown) → IsContent shown.chart → IsContent (chart_section shown)
chart_section_is_content shown drawn =
    section_is_content (codes "chart") (codes "Chart") (chart_part shown) (chart_part_is_content shown drawn)

-- A link on a line of its own, after content.
link_line_is_content : (a id shown : List ℕ) → IsContent a → IsContent (a ++ link id shown ++ codes "\n")
link_line_is_content a id shown known =
    line_after_is_content (a ++ link id shown) (joined_is_content a (link id shown) known (link_is_content id shown))

contents_are_content : IsContent contents
contents_are_content =
    let job = link (codes "job") (codes "Job") ++ codes "\n" in
    let chart = job ++ link (codes "chart") (codes "Chart") ++ codes "\n" in
    let story = chart ++ link (codes "story") (codes "Story") ++ codes "\n" in
    let report = story ++ link (codes "report") (codes "Report") ++ codes "\n" in
    let changing = report ++ link (codes "changing") (codes "Faults") ++ codes "\n" in
    let races = link (codes "races") (codes "Races") in
    element_is_content tags.Nav [] (changing ++ races) refl
    (joined_is_content changing races
    (link_line_is_content report (codes "changing") (codes "Faults")
    (link_line_is_content story (codes "report") (codes "Report")
    (link_line_is_content chart (codes "story") (codes "Story")
    (link_line_is_content job (codes "chart") (codes "Chart")
    (line_after_is_content (link (codes "job") (codes "Job")) (link_is_content (codes "job") (codes "Job")))))))
    (link_is_content (codes "races") (codes "Races")))

-- Five parts, of which the first three stand on lines of their own.
five_are_content : (a b c d e : List ℕ) → IsContent a → IsContent b → IsContent c → IsContent d → IsContent e →
    IsContent (a ++ codes "\n" ++ b ++ codes "\n" ++ c ++ codes "\n" ++ d ++ e)
five_are_content a b c d e a_known b_known c_known d_known e_known =
    let first = a ++ codes "\n" in
    let second = first ++ b ++ codes "\n" in
    let third = second ++ c ++ codes "\n" in
    joined_is_content (third ++ d) e
    (joined_is_content third d
    (line_after_is_content (second ++ c)
    (joined_is_content second c
    (line_after_is_content (first ++ b) (joined_is_content first b (line_after_is_content a a_known) b_known))
    c_known))
    d_known)
    e_known

front_part_is_content : (shown : Shown) → IsContent shown.chart → IsContent (front_part shown)
front_part_is_content shown drawn =
    five_are_content (element_text tags.H1 [] (escaped_text shown.name)) (classed tags.P (codes "outcome") (escaped_text shown.outcome))
    contents (job_section shown) (chart_section shown)
    (element_is_content tags.H1 [] (escaped_text shown.name) refl (text_is_content shown.name))
    (classed_is_content tags.P (codes "outcome") (escaped_text shown.outcome) (text_is_content shown.outcome))
    contents_are_content (job_section_is_content shown) (chart_section_is_content shown drawn)

told_part_is_content : (shown : Shown) → IsContent (story_part shown)
told_part_is_content shown =
    let story = pre Story shown shown.story in
    let report = pre Plain shown shown.report in
    joined_is_content (folded (codes "story") (codes "Story") story) (folded (codes "report") (codes "Report") report)
    (folded_is_content (codes "story") (codes "Story") story (pre_is_content Story shown shown.story))
    (folded_is_content (codes "report") (codes "Report") report (pre_is_content Plain shown shown.report))

fault_table_is_content : (shown : Shown) (bytes : List ℕ) → IsContent (fault_table shown bytes)
fault_table_is_content shown bytes = table_is_content (codes "Place, step, fault and outcome") shown bytes

changing_is_content : (shown : Shown) →
    IsContent (section (codes "changing") (codes "Faults that change the outcome") (fault_table shown shown.changing))
changing_is_content shown =
    section_is_content (codes "changing") (codes "Faults that change the outcome") (fault_table shown shown.changing)
    (fault_table_is_content shown shown.changing)

faults_are_content : (shown : Shown) → IsContent (folded (codes "faults") (codes "All faults") (fault_table shown shown.faults))
faults_are_content shown =
    folded_is_content (codes "faults") (codes "All faults") (fault_table shown shown.faults) (fault_table_is_content shown shown.faults)

races_are_content : (shown : Shown) →
    IsContent (section (codes "races") (codes "Races") (table (codes "Place, step, change and what differs") shown shown.races))
races_are_content shown =
    section_is_content (codes "races") (codes "Races") (table (codes "Place, step, change and what differs") shown shown.races)
    (table_is_content (codes "Place, step, change and what differs") shown shown.races)

-- Three parts, one after the other.
three_are_content : (a b c : List ℕ) → IsContent a → IsContent b → IsContent c → IsContent (a ++ b ++ c)
three_are_content a b c a_known b_known c_known = joined_is_content (a ++ b) c (joined_is_content a b a_known b_known) c_known

tried_part_is_content : (shown : Shown) → IsContent (tried_part shown)
tried_part_is_content shown =
    three_are_content (section (codes "changing") (codes "Faults that change the outcome") (fault_table shown shown.changing))
    (folded (codes "faults") (codes "All faults") (fault_table shown shown.faults))
    (section (codes "races") (codes "Races") (table (codes "Place, step, change and what differs") shown shown.races))
    (changing_is_content shown) (faults_are_content shown) (races_are_content shown)

main_is_content : (shown : Shown) → IsContent shown.chart →
    IsContent (element_text tags.Main [] (front_part shown ++ story_part shown ++ tried_part shown))
main_is_content shown drawn =
    element_is_content tags.Main [] (front_part shown ++ story_part shown ++ tried_part shown) refl
    (three_are_content (front_part shown) (story_part shown) (tried_part shown) (front_part_is_content shown drawn)
    (told_part_is_content shown)
    (tried_part_is_content shown))

body_is_content : (shown : Shown) → IsContent shown.chart → IsContent (body shown)
body_is_content shown drawn =
    let main = element_text tags.Main [] (front_part shown ++ story_part shown ++ tried_part shown) in
    let footer = element_text tags.Footer [] (escaped_text shown.made) in
    element_is_content tags.Body [] (main ++ footer) refl
    (joined_is_content main footer (main_is_content shown drawn)
    (element_is_content tags.Footer [] (escaped_text shown.made) refl (text_is_content shown.made)))

-- The page is a document if its chart is content.
pub page_is_document : (shown : Shown) → IsContent shown.chart → IsDocument (page_element shown)
page_is_document shown drawn =
    element_is_document tags.Html (attribute attrs.Lang (codes "en") ∷ []) (head shown ++ body shown) refl
    (joined_is_content (head shown) (body shown) (head_is_content shown) (body_is_content shown drawn))
