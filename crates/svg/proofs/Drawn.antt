-- The content of a drawing, from what its pieces are.
use Rattle.std.proofs.Common.{◌≡◌, ℕ, ◌+◌, ◌*◌, List, [], ◌++◌, length, take, ap, sym, ◌∙◌}
use Rattle.std.specs.Prelude.{Bool, Result, OnOk}
use Rattle.std.proofs.lemmas.List.{append-nil}
use Rattle.std.proofs.lemmas.Result.{on_ok_weaker}
use Rattle.cancel_scopes.specs.Sight.{Tick}
use Rattle.job_meaning.specs.Log.{Table}
use Rattle.job_meaning.specs.declared.clock.Clock.{Clock}
use Rattle.job_story.specs.Notes.{Notes, notes_in}
use Rattle.job_story.specs.Events.{Event, in_order}
use Rattle.chart.specs.Bars.{Bar}
use Rattle.chart.specs.Ticks.{all_ticks}
use Rattle.chart.specs.Columns.{Column, columns_of}
use Rattle.chart.specs.Text.{longest_name, less_to_fit}
use Rattle.svg.specs.Content.{Content, nothing, text, element, content_text, start_tag, end_tag}
use Rattle.svg.specs.declared.names.Tag.TheVariants as tags
use Rattle.svg.specs.declared.layout.TheConstants.{ROW, MAX_ROWS}
use Rattle.svg.specs.Sheets.{Sheet, is_linear}
use Rattle.svg.specs.Rows.{rows}
use Rattle.svg.specs.Arrows.{arrows}
use Rattle.svg.specs.Legend.{legend}
use Rattle.svg.specs.Drawing.{style, definitions, tick_lines, note, limit_note, axis_note, rows_note, notes, title_bytes, bottom_of, width_of, height_of, svg_attributes, inside_of, document, chart_svg}
use Rattle.svg.proofs.Elements.{element_is}

-- the three notes, one after the other
pub notes_drawn : {T E : Type 0} (result : Result T E) (until : Tick) (bottom : ℕ) (linear : Bool) (n : ℕ) (said old a b new : List ℕ) →
    ((rest : Content) → a ++ content_text rest ≡ old ++ content_text (note (bottom + ROW) (limit_note until) rest)) →
    said ≡ axis_note linear →
    ((rest : Content) → b ++ content_text rest ≡ a ++ content_text (note (bottom + ROW * 2) said rest)) →
    OnOk result ((rest : Content) → new ++ content_text rest ≡ b ++ content_text (note (bottom + ROW * 3) (rows_note n) rest)) →
    OnOk result ((rest : Content) → new ++ content_text rest ≡ old ++ content_text (notes until bottom linear n rest))
notes_drawn result until bottom linear n said old a b new first says second third =
    on_ok_weaker result
    (λ h rest.
    let last = note (bottom + ROW * 3) (rows_note n) rest in
    h rest ∙ second last
    ∙ ap (λ bytes. a ++ content_text (note (bottom + ROW * 2) bytes last)) says
    ∙ first (note (bottom + ROW * 2) (axis_note linear) last)) third

-- the content of the document: its head, the lines, the rows that are shown with their arrows, the notes, and the legend
pub inside_drawn : {T E : Type 0} (result : Result T E) (sheet : Sheet) (until : Tick) (bars shown : List Bar) (y : ℕ) (old a b c d new : List ℕ) →
    shown ≡ take MAX_ROWS bars → y ≡ bottom_of bars →
    ((rest : Content) → a ++ content_text rest ≡ old ++ content_text (element tags.Title [] (text (title_bytes bars) nothing) (style (definitions rest)))) →
    ((rest : Content) → b ++ content_text rest ≡ a ++ content_text (tick_lines sheet (bottom_of bars) 0 sheet.columns rest)) →
    ((rest : Content) → c ++ content_text rest ≡ b ++ content_text (rows sheet 0 shown (arrows sheet shown 0 shown rest))) →
    ((rest : Content) → d ++ content_text rest
    ≡ c ++ content_text (notes until (bottom_of bars) (is_linear sheet.less sheet.columns) (length bars) rest)) →
    OnOk result ((rest : Content) → new ++ content_text rest ≡ d ++ content_text (legend (y + ROW * 3 + 12) rest)) →
    OnOk result (new ≡ old ++ content_text (inside_of sheet until bars))
inside_drawn result sheet until bars shown y old a b c d new same ends first second third fourth fifth =
    let cut = take MAX_ROWS bars in
    let below = legend (bottom_of bars + ROW * 3 + 12) nothing in
    let last = notes until (bottom_of bars) (is_linear sheet.less sheet.columns) (length bars) below in
    let drawn = rows sheet 0 cut (arrows sheet cut 0 cut last) in
    on_ok_weaker result
    (λ h.
    sym (append-nil new) ∙ h nothing ∙ ap (λ z. d ++ content_text (legend (z + ROW * 3 + 12) nothing)) ends ∙ fourth below
    ∙ third last ∙ ap (λ z. b ++ content_text (rows sheet 0 z (arrows sheet z 0 z last))) same ∙ second drawn
    ∙ first (tick_lines sheet (bottom_of bars) 0 sheet.columns drawn)) fifth

-- the document: its start tag, its content, and its end tag
pub document_drawn : (sheet : Sheet) (until : Tick) (bars : List Bar) (width height : ℕ) (empty a b new : List ℕ) → empty ≡ [] →
    width ≡ width_of sheet bars → height ≡ height_of bars → a ≡ empty ++ start_tag tags.Svg (svg_attributes width height) →
    b ≡ a ++ content_text (inside_of sheet until bars) → new ≡ b ++ end_tag tags.Svg → new ≡ content_text (document sheet until bars)
document_drawn sheet until bars width height empty a b new none w h p q r =
    let whole = λ (x : ℕ) (y : ℕ). content_text (element tags.Svg (svg_attributes x y) (inside_of sheet until bars) nothing) in
    sym (append-nil new)
    ∙ element_is tags.Svg (svg_attributes width height) (inside_of sheet until bars) empty a b new p q r nothing
    ∙ ap (λ z. z ++ whole width height) none
    ∙ ap (λ x. whole x height) w
    ∙ ap (λ y. whole (width_of sheet bars) y) h

-- the drawing of a story, from what is known of its sheet
pub drawing_is : (clock : Clock) (width : ℕ) (table : Table) (until : Tick) (walked : List Event) (bars : List Bar)
    (names less : ℕ) (ticks : List ℕ) (all columns : List Column) (counted : Clock) (known : Table)
    (events sorted : List Event) (said : Notes) (svg : List ℕ) →
    ticks ≡ all_ticks clock walked until → all ≡ columns_of ticks → columns ≡ all → less ≡ less_to_fit width all bars →
    names ≡ longest_name bars → counted ≡ clock → known ≡ table → events ≡ sorted → sorted ≡ in_order walked → said ≡ notes_in walked →
    svg ≡ content_text (document
    (record { names = names; columns = columns; less = less; clock = counted; table = known; events = events; notes = said }) until bars) →
    svg ≡ chart_svg clock width table until walked bars
drawing_is clock width table until walked bars names less ticks all columns counted known events sorted said svg t a c f n m k e s w p =
    let drawn = λ (n : ℕ) (cs : List Column) (l : ℕ) (o : Clock) (k : Table) (es : List Event) (ns : Notes).
    content_text (document (record { names = n; columns = cs; less = l; clock = o; table = k; events = es; notes = ns }) until bars) in
    let every : all ≡ columns_of (all_ticks clock walked until) = a ∙ ap columns_of t in
    let shown = columns_of (all_ticks clock walked until) in
    let fit = less_to_fit width shown bars in
    p
    ∙ ap (λ n. drawn n columns less counted known events said) n
    ∙ ap (λ cs. drawn (longest_name bars) cs less counted known events said) (c ∙ every)
    ∙ ap (λ l. drawn (longest_name bars) shown l counted known events said) (f ∙ ap (λ z. less_to_fit width z bars) every)
    ∙ ap (λ o. drawn (longest_name bars) shown fit o known events said) m
    ∙ ap (λ k. drawn (longest_name bars) shown fit clock k events said) k
    ∙ ap (λ es. drawn (longest_name bars) shown fit clock table es said) (e ∙ s)
    ∙ ap (λ ns. drawn (longest_name bars) shown fit clock table (in_order walked) ns) w
