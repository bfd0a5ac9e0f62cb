-- A drawing is well formed.
use Rattle.std.proofs.Common.{◌≡◌, ℕ, ◌+◌, ◌*◌, length, take, List, [], ◌∷◌, true, refl, ◌∙◌, inl, inr}
use Rattle.std.proofs.lemmas.Bool.{cases_Bool, and_from}
use Rattle.std.specs.Prelude.{Bool, Option, Some, None, ◌&&◌}
use Rattle.exceptions.specs.Exceptions.{Label}
use Rattle.cancel_scopes.specs.Sight.{Tick}
use Rattle.job_meaning.specs.Log.{same_label}
use Rattle.job_story.specs.Story.{enters, enters_event, sleeps, is_cancelled, finds, misses, raises, cancels, sets, awaits, was_set, enters_object, queues, gets, finds_closed, deadlocks, gives_token_back, closes_channel, handles, cleans, replaces, waits, leaves}
use Rattle.job_story.specs.Tell.{is_from}
use Rattle.job_story.specs.Events.{What, starts, happens, ends, Event}
use Rattle.job_story.specs.Limit.{is_start}
use Rattle.job_story.specs.Causes.{Cause, by_deadline, by_task, by_set, by_failure, by_cancellation, cause_of}
use Rattle.chart.specs.Bars.{Bar}
use Rattle.chart.specs.Columns.{Column}
use Rattle.chart.specs.Marks.{is_cross, is_dot}
use Rattle.svg.specs.Content.{Content, nothing, content_text, is_well_formed, IsDocument}
use Rattle.svg.specs.declared.names.Tag.TheVariants as tags
use Rattle.svg.specs.Sheets.{Sheet, x_of, x_by, next_place, is_linear}
use Rattle.svg.specs.Rows.{cancelled_part, mark, marks, row, rows}
use Rattle.svg.specs.Arrows.{Source, source_of, culprit, arrow_from, arrow_by, cancelled_at, arrow_at, event_set, beside, set_arrow, leaves_queue, noted_source, queue_arrow, wait_arrow, wait_arrows, arrows}
use Rattle.svg.specs.Legend.{legend}
use Rattle.svg.specs.declared.layout.TheConstants.{ROW, MAX_ROWS}
use Rattle.svg.specs.declared.culprits.TheConstants.{MAX_DEPTH}
use Rattle.svg.specs.Drawing.{tick_lines, note, limit_note, axis_note, rows_note, notes, bottom_of, svg_attributes, inside_of, document, width_of, height_of}

-- ---- rows

cancelled_well : (sheet : Sheet) (i : ℕ) (bar : Bar) (from : Option ℕ) (rest : Content) →
    is_well_formed (cancelled_part sheet i bar from rest) ≡ is_well_formed rest
cancelled_well sheet i bar None rest = refl
cancelled_well sheet i bar (Some t) rest = refl

mark_well : (sheet : Sheet) (i : ℕ) (e : Event) (rest : Content) → is_well_formed (mark sheet i e rest) ≡ is_well_formed rest
mark_well sheet i e rest =
    elim (cases_Bool (is_cross e.what)) [
      | inl cross ↦ rw cross refl
      | inr cross ↦
          elim (cases_Bool (is_dot e.what)) [
            | inl dot ↦ rw (cross, dot) refl
            | inr dot ↦ rw (cross, dot) refl
          ]
    ]

marks_well : (sheet : Sheet) (i : ℕ) (es : List Event) (rest : Content) → is_well_formed (marks sheet i es rest) ≡ is_well_formed rest
marks_well sheet i [] rest = refl
marks_well sheet i (e ∷ es) rest = mark_well sheet i e (marks sheet i es rest) ∙ marks_well sheet i es rest

row_well : (sheet : Sheet) (i : ℕ) (bar : Bar) (rest : Content) → is_well_formed (row sheet i bar rest) ≡ is_well_formed rest
row_well sheet i bar rest = cancelled_well sheet i bar bar.cancelled _ ∙ marks_well sheet i bar.own _

rows_well : (sheet : Sheet) (i : ℕ) (bars : List Bar) (rest : Content) → is_well_formed (rows sheet i bars rest) ≡ is_well_formed rest
rows_well sheet i [] rest = refl
rows_well sheet i (b ∷ bs) rest = row_well sheet i b (rows sheet (i + 1) bs rest) ∙ rows_well sheet (i + 1) bs rest

-- ---- arrows

arrow_from_well : (sheet : Sheet) (i x : ℕ) (source : Source) (j : ℕ) (bars : List Bar) (rest : Content) →
    is_well_formed (arrow_from sheet i x source j bars rest) ≡ is_well_formed rest
arrow_from_well sheet i x source j [] rest = refl
arrow_from_well sheet i x source j (b ∷ bs) rest =
    elim (cases_Bool (is_start b.first.what && same_label source.task b.first.task)) [
      | inl here ↦ rw here refl
      | inr here ↦ rw here (arrow_from_well sheet i x source (j + 1) bs rest)
    ]

arrow_by_well : (sheet : Sheet) (all : List Bar) (i x : ℕ) (source : Option Source) (rest : Content) →
    is_well_formed (arrow_by sheet all i x source rest) ≡ is_well_formed rest
arrow_by_well sheet all i x None rest = refl
arrow_by_well sheet all i x (Some source) rest = arrow_from_well sheet i x source 0 all rest

cancelled_at_well : (sheet : Sheet) (all : List Bar) (i m : ℕ) (cause : Option Cause) (rest : Content) →
    is_well_formed (cancelled_at sheet all i m cause rest) ≡ is_well_formed rest
cancelled_at_well sheet all i m None rest = arrow_by_well sheet all i (x_by sheet m) (culprit sheet all MAX_DEPTH None) rest
cancelled_at_well sheet all i m (Some by_deadline) rest = refl
cancelled_at_well sheet all i m (Some (by_task task t)) rest =
    arrow_by_well sheet all i (x_by sheet m) (culprit sheet all MAX_DEPTH (Some (by_task task t))) rest
cancelled_at_well sheet all i m (Some (by_set task t)) rest =
    arrow_by_well sheet all i (x_by sheet m) (culprit sheet all MAX_DEPTH (Some (by_set task t))) rest
cancelled_at_well sheet all i m (Some (by_failure task t)) rest =
    arrow_by_well sheet all i (x_by sheet m) (culprit sheet all MAX_DEPTH (Some (by_failure task t))) rest
cancelled_at_well sheet all i m (Some (by_cancellation task t)) rest =
    arrow_by_well sheet all i (x_by sheet m) (culprit sheet all MAX_DEPTH (Some (by_cancellation task t))) rest

arrow_at_well : (sheet : Sheet) (all : List Bar) (i : ℕ) (what : What) (from : Option ℕ) (rest : Content) →
    is_well_formed (arrow_at sheet all i what from rest) ≡ is_well_formed rest
arrow_at_well sheet all i (happens (enters kind label deadline shield)) (Some m) rest =
    cancelled_at_well sheet all i m (cause_of sheet.table sheet.events label) rest
arrow_at_well sheet all i (happens (enters kind label deadline shield)) None rest = refl
arrow_at_well sheet all i (happens (enters_event label)) from rest = refl
arrow_at_well sheet all i (happens (sleeps until)) from rest = refl
arrow_at_well sheet all i (happens (is_cancelled by during in_cleanup)) from rest = refl
arrow_at_well sheet all i (happens (finds lines)) from rest = refl
arrow_at_well sheet all i (happens (misses name)) from rest = refl
arrow_at_well sheet all i (happens (raises name)) from rest = refl
arrow_at_well sheet all i (happens (cancels label)) from rest = refl
arrow_at_well sheet all i (happens (sets label)) from rest = refl
arrow_at_well sheet all i (happens (awaits event)) from rest = refl
arrow_at_well sheet all i (happens (was_set event)) from rest = refl
arrow_at_well sheet all i (happens (enters_object kind label)) from rest = refl
arrow_at_well sheet all i (happens (queues ask object lent left)) from rest = refl
arrow_at_well sheet all i (happens (gets ask object at_once)) from rest = refl
arrow_at_well sheet all i (happens (finds_closed ask object at_once)) from rest = refl
arrow_at_well sheet all i (happens (deadlocks ask object)) from rest = refl
arrow_at_well sheet all i (happens (gives_token_back object)) from rest = refl
arrow_at_well sheet all i (happens (closes_channel object)) from rest = refl
arrow_at_well sheet all i (happens (handles matched left)) from rest = refl
arrow_at_well sheet all i (happens (cleans exc)) from rest = refl
arrow_at_well sheet all i (happens (replaces lost fresh)) from rest = refl
arrow_at_well sheet all i (happens (waits nursery exc)) from rest = refl
arrow_at_well sheet all i (happens (leaves kind label inside caught outside)) from rest = refl
arrow_at_well sheet all i (starts home lent) from rest = refl
arrow_at_well sheet all i (ends home exc) from rest = refl

set_arrow_well : (sheet : Sheet) (all : List Bar) (i : ℕ) (task : Label) (m : ℕ) (event : Option Label) (rest : Content) →
    is_well_formed (set_arrow sheet all i task m event rest) ≡ is_well_formed rest
set_arrow_well sheet all i task m None rest = refl
set_arrow_well sheet all i task m (Some event) rest =
    elim (cases_Bool (is_from (sheet.table event) m)) [
      | inl now ↦
          rw now
          (arrow_by_well sheet all i (x_of sheet m) (beside task (source_of (cause_of sheet.table sheet.events event))) rest)
      | inr now ↦ rw now refl
    ]

queue_arrow_well : (sheet : Sheet) (all : List Bar) (i : ℕ) (e : Event) (rest : Content) →
    is_well_formed (queue_arrow sheet all i e rest) ≡ is_well_formed rest
queue_arrow_well sheet all i e rest =
    elim (cases_Bool (leaves_queue e.what)) [
      | inl gone ↦
          rw gone
          (arrow_by_well sheet all i (x_of sheet e.tick) (beside e.task (noted_source e.tick (sheet.notes e))) rest)
      | inr here ↦ rw here refl
    ]

wait_arrows_well : (sheet : Sheet) (all : List Bar) (i : ℕ) (es : List Event) (rest : Content) →
    is_well_formed (wait_arrows sheet all i es rest) ≡ is_well_formed rest
wait_arrows_well sheet all i [] rest = refl
wait_arrows_well sheet all i (e ∷ es) rest =
    set_arrow_well sheet all i e.task e.tick (event_set e.what) (queue_arrow sheet all i e (wait_arrows sheet all i es rest))
    ∙ queue_arrow_well sheet all i e (wait_arrows sheet all i es rest)
    ∙ wait_arrows_well sheet all i es rest

arrows_well : (sheet : Sheet) (all : List Bar) (i : ℕ) (bars : List Bar) (rest : Content) →
    is_well_formed (arrows sheet all i bars rest) ≡ is_well_formed rest
arrows_well sheet all i [] rest = refl
arrows_well sheet all i (b ∷ bs) rest =
    arrow_at_well sheet all i b.first.what b.cancelled (wait_arrows sheet all i b.own (arrows sheet all (i + 1) bs rest))
    ∙ wait_arrows_well sheet all i b.own (arrows sheet all (i + 1) bs rest)
    ∙ arrows_well sheet all (i + 1) bs rest

-- ---- the document

tick_lines_well : (sheet : Sheet) (bottom at : ℕ) (columns : List Column) (rest : Content) →
    is_well_formed (tick_lines sheet bottom at columns rest) ≡ is_well_formed rest
tick_lines_well sheet bottom at [] rest = refl
tick_lines_well sheet bottom at (c ∷ cs) rest = tick_lines_well sheet bottom (next_place sheet.less at c cs) cs rest

note_well : (y : ℕ) (bytes : List ℕ) (rest : Content) → is_well_formed (note y bytes rest) ≡ is_well_formed rest
note_well y [] rest = refl
note_well y (b ∷ bs) rest = refl

notes_well : (until : Tick) (bottom : ℕ) (linear : Bool) (n : ℕ) (rest : Content) →
    is_well_formed (notes until bottom linear n rest) ≡ is_well_formed rest
notes_well until bottom linear n rest =
    note_well (bottom + ROW) (limit_note until)
    (note (bottom + ROW * 2) (axis_note linear) (note (bottom + ROW * 3) (rows_note n) rest))
    ∙ note_well (bottom + ROW * 2) (axis_note linear) (note (bottom + ROW * 3) (rows_note n) rest)
    ∙ note_well (bottom + ROW * 3) (rows_note n) rest

legend_well : (y : ℕ) → is_well_formed (legend y nothing) ≡ true
legend_well y = refl

inside_well : (sheet : Sheet) (until : Tick) (bars : List Bar) → is_well_formed (inside_of sheet until bars) ≡ true
inside_well sheet until bars =
    let shown = take MAX_ROWS bars in
    let below = legend (bottom_of bars + ROW * 3 + 12) nothing in
    let last = notes until (bottom_of bars) (is_linear sheet.less sheet.columns) (length bars) below in
    tick_lines_well sheet (bottom_of bars) 0 sheet.columns (rows sheet 0 shown (arrows sheet shown 0 shown last))
    ∙ rows_well sheet 0 shown (arrows sheet shown 0 shown last)
    ∙ arrows_well sheet shown 0 shown last
    ∙ notes_well until (bottom_of bars) (is_linear sheet.less sheet.columns) (length bars) below
    ∙ legend_well (bottom_of bars + ROW * 3 + 12)

-- What is written of a drawing is a well-formed document.
pub is_document : (sheet : Sheet) (until : Tick) (bars : List Bar) (svg : List ℕ) → svg ≡ content_text (document sheet until bars) →
    IsDocument svg
is_document sheet until bars svg written_so =
    record {
      tag = tags.Svg;
      attributes = svg_attributes (width_of sheet bars) (height_of bars);
      inside = inside_of sheet until bars;
      is_written = written_so;
      well = and_from _ _ (inside_well sheet until bars) refl;
    }
