-- All numbers of a story are integers.
use Rattle.std.proofs.Common.{◌≡◌, ℕ, Bool, List, [], ◌∷◌, map, refl, Ordering, Less, Equal, Greater}
use Rattle.std.specs.Prelude.{true, false, ◌||◌, Option, Some, None, codes, is_some}
use Rattle.std.specs.Ordering.{nat_cmp, match_ordering}
use Rattle.std.specs.Cmp.Lexicographic.{slice_cmp}
use Rattle.serde_json.specs.Data.{Data, null, boolean, Members, no_members, member, put}
use Rattle.serde_json.specs.View.{items_of}
use Rattle.serde_json.specs.Written.{has_float, items_have_float, members_have_float}
use Rattle.input_lines.specs.Lines.{Span}
use Rattle.job_tree.specs.declared.object.Ask.{Ask}
use Rattle.job_tree.specs.declared.object.ObjectKind.{ObjectKind}
use Rattle.job_tree.specs.declared.object.ObjectKind.TheVariants.{Limiter, Channel}
use Rattle.exceptions.specs.Exceptions.{Label, Exc}
use Rattle.cancel_scopes.specs.Sight.{Tick}
use Rattle.job_meaning.specs.Log.{Table}
use Rattle.job_meaning.specs.Moments.{tick_of}
use Rattle.job_meaning.specs.declared.clock.Clock.{Clock}
use Rattle.job_story.specs.Story.{During, at_checkpoint, sleeping, waiting_for, in_queue, before_asking, Happening, enters, enters_event, sleeps, is_cancelled, finds, misses, raises, cancels, sets, awaits, was_set, enters_object, queues, gets, finds_closed, deadlocks, gives_token_back, closes_channel, handles, cleans, replaces, waits, leaves}
use Rattle.job_story.specs.Notes.{Note, all_in_use, no_room, nothing_there, given_back_by, sent_by, closed_by, Notes}
use Rattle.job_story.specs.Events.{What, starts, happens, ends, Event}
use Rattle.job_story.specs.Limit.{running_in, last_event}
use Rattle.job_story.specs.Causes.{Cause, by_deadline, by_task, by_set, by_failure, by_cancellation, cause_of}
use Rattle.job_report.specs.Text.{ask_word}
use Rattle.json_story.specs.Values.{integer, word, list_of, text_json, label_json, exc_json}
use Rattle.json_story.proofs.ReportIntegers.{exc_without_float}
use Rattle.json_story.specs.Events.{tick_json, moment_json, label_or_null, exc_or_null, cause_json, why_json, cancel_from, failure_from, kind_key, span_json, with_ask, with_size, with_during, with_happening, with_what, with_note, event_head, event_json}
use Rattle.json_story.specs.Running.{with_idle, with_doing, with_last, task_json}
use Rattle.json_story.specs.Stories.{running_json}

-- ---- members

neither : (a b : Bool) → (a || b) ≡ false → (a ≡ false) × (b ≡ false)
neither false false h = (refl, refl)
neither false true h = (refl, h)
neither true b h = (h, absurd (let f : true ≡ false = h in cc))

put_by : (o : Ordering) (k l : List ℕ) (d e : Data) (ms later : Members) → has_float d ≡ false → has_float e ≡ false →
    members_have_float ms ≡ false → members_have_float later ≡ false
    → members_have_float (match_ordering o (member k d (member l e ms)) (member l d ms) (member l e later)) ≡ false
put_by Less k l d e ms later hd he hm hl = rw (hd, he, hm) refl
put_by Equal k l d e ms later hd he hm hl = rw (hd, hm) refl
put_by Greater k l d e ms later hd he hm hl = rw (he, hl) refl

with_put : (k : List ℕ) (d : Data) (ms : Members) → has_float d ≡ false → members_have_float ms ≡ false →
    members_have_float (put k d ms) ≡ false
with_put k d no_members hd hm = rw hd refl
with_put k d (member l e ms) hd hm =
    let parts = neither (has_float e) (members_have_float ms) hm in
    put_by (slice_cmp nat_cmp k l) k l d e ms (put k d ms) hd parts.0 parts.1 (with_put k d ms hd parts.1)

put_two : (k l : List ℕ) (d e : Data) (ms : Members) → has_float d ≡ false → has_float e ≡ false → members_have_float ms ≡ false →
    members_have_float (put k d (put l e ms)) ≡ false
put_two k l d e ms hd he hm = with_put k d (put l e ms) hd (with_put l e ms he hm)

put_three : (k l m : List ℕ) (d e f : Data) (ms : Members) → has_float d ≡ false → has_float e ≡ false → has_float f ≡ false →
    members_have_float ms ≡ false → members_have_float (put k d (put l e (put m f ms))) ≡ false
put_three k l m d e f ms hd he hf hm = with_put k d (put l e (put m f ms)) hd (put_two l m e f ms he hf hm)

-- four members without a floating-point number, put into an object that has none
put_four : (k l m n : List ℕ) (d e f g : Data) (ms : Members) → has_float d ≡ false → has_float e ≡ false → has_float f ≡ false →
    has_float g ≡ false → members_have_float ms ≡ false → members_have_float (put k d (put l e (put m f (put n g ms)))) ≡ false
put_four k l m n d e f g ms hd he hf hg hm =
    with_put k d (put l e (put m f (put n g ms))) hd (put_three l m n e f g ms he hf hg hm)

-- ---- values that may be none

tick_has_none : (t : Tick) → has_float (tick_json t) ≡ false
tick_has_none None = refl
tick_has_none (Some t) = refl

moment_has_none : (clock : Clock) (m : Tick) → has_float (moment_json clock m) ≡ false
moment_has_none clock None = refl
moment_has_none clock (Some m) = refl

label_has_none : (l : Option Label) → has_float (label_or_null l) ≡ false
label_has_none None = refl
label_has_none (Some l) = refl

exc_has_none : (e : Option Exc) → has_float (exc_or_null e) ≡ false
exc_has_none None = refl
exc_has_none (Some e) = exc_without_float e

cause_has_none : (clock : Clock) (c : Option Cause) → has_float (cause_json clock c) ≡ false
cause_has_none clock None = refl
cause_has_none clock (Some by_deadline) = refl
cause_has_none clock (Some (by_task task t)) = refl
cause_has_none clock (Some (by_set task t)) = refl
cause_has_none clock (Some (by_failure task t)) = refl
cause_has_none clock (Some (by_cancellation task t)) = refl

why_has_none : (clock : Clock) (table : Table) (es : List Event) (l : Option Label) → has_float (why_json clock table es l) ≡ false
why_has_none clock table es None = refl
why_has_none clock table es (Some l) = cause_has_none clock (cause_of table es l)

spans_have_none : (ss : List Span) → items_have_float (items_of (map span_json ss)) ≡ false
spans_have_none [] = refl
spans_have_none (s ∷ ss) = spans_have_none ss

-- ---- events

ask_has_none : (ask : Ask) (key : List ℕ) (l : Label) (ms : Members) → members_have_float ms ≡ false →
    members_have_float (with_ask ask key l ms) ≡ false
ask_has_none ask key l ms hm = put_two key (codes "ask") (label_json l) (word (ask_word ask)) ms refl refl hm

size_has_none : (kind : ObjectKind) (ms : Members) → members_have_float ms ≡ false → members_have_float (with_size kind ms) ≡ false
size_has_none (Limiter tokens) ms hm = with_put (codes "tokens") (integer tokens) ms refl hm
size_has_none (Channel places) ms hm = with_put (codes "places") (integer places) ms refl hm

-- what is asked, and whether it was answered at once
answered_has_none : (ask : Ask) (l : Label) (at_once : Bool) (ms : Members) → members_have_float ms ≡ false →
    members_have_float (put (codes "at_once") (boolean at_once) (with_ask ask (codes "label") l ms)) ≡ false
answered_has_none ask l at_once ms hm =
    with_put (codes "at_once") (boolean at_once) (with_ask ask (codes "label") l ms) refl (ask_has_none ask (codes "label") l ms hm)

during_has_none : (clock : Clock) (d : During) (ms : Members) → members_have_float ms ≡ false →
    members_have_float (with_during clock d ms) ≡ false
during_has_none clock at_checkpoint ms hm = with_put (codes "since") null ms refl hm
during_has_none clock (sleeping since) ms hm = with_put (codes "since") (integer (tick_of clock since)) ms refl hm
during_has_none clock (waiting_for event since) ms hm =
    put_two (codes "waiting_for") (codes "since") (label_json event) (integer (tick_of clock since)) ms refl refl hm
during_has_none clock (in_queue ask label since) ms hm =
    ask_has_none ask (codes "waiting_for") label (put (codes "since") (integer (tick_of clock since)) ms)
    (with_put (codes "since") (integer (tick_of clock since)) ms refl hm)
during_has_none clock (before_asking ask label) ms hm =
    ask_has_none ask (codes "before_asking") label (put (codes "since") null ms) (with_put (codes "since") null ms refl hm)

happening_has_none : (clock : Clock) (table : Table) (es : List Event) (t : ℕ) (h : Happening) (ms : Members) →
    members_have_float ms ≡ false →
    members_have_float (with_happening clock table es t h ms) ≡ false
happening_has_none clock table es t (enters kind label deadline shield) ms hm =
    put_three (codes "shield") (codes "deadline") (kind_key kind) (boolean shield) (moment_json clock deadline) (label_json label) ms refl
    (moment_has_none clock deadline) refl hm
happening_has_none clock table es t (enters_event label) ms hm = with_put (codes "label") (label_json label) ms refl hm
happening_has_none clock table es t (sleeps until) ms hm =
    with_put (codes "until") (moment_json clock until) ms (moment_has_none clock until) hm
happening_has_none clock table es t (is_cancelled by during in_cleanup) ms hm =
    let by_whom = put (codes "why") (why_json clock table es by) (put (codes "by") (label_or_null by) ms) in
    with_put (codes "in_cleanup") (boolean in_cleanup) (with_during clock during by_whom) refl
    (during_has_none clock during by_whom
    (put_two (codes "why") (codes "by") (why_json clock table es by) (label_or_null by) ms (why_has_none clock table es by)
    (label_has_none by) hm))
happening_has_none clock table es t (finds lines) ms hm =
    with_put (codes "lines") (list_of (map span_json lines)) ms (spans_have_none lines) hm
happening_has_none clock table es t (misses name) ms hm = with_put (codes "name") (text_json name) ms refl hm
happening_has_none clock table es t (raises name) ms hm = with_put (codes "name") (text_json name) ms refl hm
happening_has_none clock table es t (cancels label) ms hm =
    put_two (codes "from") (codes "label") (moment_json clock (cancel_from table label t)) (label_or_null label) ms
    (moment_has_none clock (cancel_from table label t)) (label_has_none label) hm
happening_has_none clock table es t (sets label) ms hm =
    put_two (codes "from") (codes "label") (moment_json clock (cancel_from table label t)) (label_or_null label) ms
    (moment_has_none clock (cancel_from table label t)) (label_has_none label) hm
happening_has_none clock table es t (awaits event) ms hm = with_put (codes "label") (label_json event) ms refl hm
happening_has_none clock table es t (was_set event) ms hm = with_put (codes "label") (label_json event) ms refl hm
happening_has_none clock table es t (enters_object kind label) ms hm =
    with_put (codes "label") (label_json label) (with_size kind ms) refl (size_has_none kind ms hm)
happening_has_none clock table es t (queues ask label part left) ms hm = ask_has_none ask (codes "label") label ms hm
happening_has_none clock table es t (gets ask label at_once) ms hm = answered_has_none ask label (is_some at_once) ms hm
happening_has_none clock table es t (finds_closed ask label at_once) ms hm = answered_has_none ask label (is_some at_once) ms hm
happening_has_none clock table es t (deadlocks ask label) ms hm = ask_has_none ask (codes "label") label ms hm
happening_has_none clock table es t (gives_token_back label) ms hm = with_put (codes "label") (label_json label) ms refl hm
happening_has_none clock table es t (closes_channel label) ms hm =
    with_put (codes "label") (label_or_null label) ms (label_has_none label) hm
happening_has_none clock table es t (handles matched rest) ms hm =
    put_two (codes "rest") (codes "matched") (exc_or_null rest) (exc_json matched) ms (exc_has_none rest) (exc_without_float matched) hm
happening_has_none clock table es t (cleans exc) ms hm = with_put (codes "exception") (exc_or_null exc) ms (exc_has_none exc) hm
happening_has_none clock table es t (replaces lost fresh) ms hm =
    put_two (codes "fresh") (codes "lost") (exc_json fresh) (exc_json lost) ms (exc_without_float fresh) (exc_without_float lost) hm
happening_has_none clock table es t (waits nursery exc) ms hm =
    put_three (codes "from") (codes "exception") (codes "nursery") (moment_json clock (failure_from table (Some nursery) exc t))
    (exc_or_null exc) (label_json nursery) ms (moment_has_none clock (failure_from table (Some nursery) exc t)) (exc_has_none exc) refl hm
happening_has_none clock table es t (leaves kind label inside caught outside) ms hm =
    put_four (codes "outside") (codes "caught") (codes "inside") (kind_key kind) (exc_or_null outside) (boolean caught)
    (exc_or_null inside) (label_json label) ms (exc_has_none outside) refl (exc_has_none inside) refl hm

what_has_none : (clock : Clock) (table : Table) (es : List Event) (t : ℕ) (w : What) (ms : Members) → members_have_float ms ≡ false →
    members_have_float (with_what clock table es t w ms) ≡ false
what_has_none clock table es t (starts home part) ms hm = with_put (codes "nursery") (label_or_null home) ms (label_has_none home) hm
what_has_none clock table es t (happens what) ms hm = happening_has_none clock table es t what ms hm
what_has_none clock table es t (ends home exc) ms hm =
    put_three (codes "from") (codes "exception") (codes "nursery") (moment_json clock (failure_from table home exc t)) (exc_or_null exc)
    (label_or_null home) ms (moment_has_none clock (failure_from table home exc t)) (exc_has_none exc) (label_has_none home) hm

note_has_none : (note : Option Note) (ms : Members) → members_have_float ms ≡ false → members_have_float (with_note note ms) ≡ false
note_has_none None ms hm = hm
note_has_none (Some (all_in_use tokens place)) ms hm = with_put (codes "place") (integer place) ms refl hm
note_has_none (Some (no_room place)) ms hm = with_put (codes "place") (integer place) ms refl hm
note_has_none (Some (nothing_there place)) ms hm = with_put (codes "place") (integer place) ms refl hm
note_has_none (Some (given_back_by task)) ms hm = with_put (codes "by") (label_json task) ms refl hm
note_has_none (Some (sent_by task)) ms hm = with_put (codes "by") (label_json task) ms refl hm
note_has_none (Some (closed_by task)) ms hm = with_put (codes "by") (label_json task) ms refl hm

event_has_none : (clock : Clock) (table : Table) (notes : Notes) (es : List Event) (e : Event) →
    has_float (event_json clock table notes es e) ≡ false
event_has_none clock table notes es e = note_has_none (notes e) _ (what_has_none clock table es e.tick e.what (event_head clock e) refl)

-- ---- tasks that have not ended

idle_has_none : (ms : Members) → members_have_float ms ≡ false → members_have_float (with_idle ms) ≡ false
idle_has_none ms hm = with_put (codes "doing") null ms refl hm

doing_in_has_none : (clock : Clock) (t : ℕ) (h : Happening) (ms : Members) → members_have_float ms ≡ false →
    members_have_float (with_doing clock t (happens h) ms) ≡ false
doing_in_has_none clock t (enters kind label deadline shield) ms hm = idle_has_none ms hm
doing_in_has_none clock t (enters_event label) ms hm = idle_has_none ms hm
doing_in_has_none clock t (sleeps until) ms hm =
    put_three (codes "until") (codes "since") (codes "doing") (moment_json clock until) (integer (tick_of clock t))
    (word (codes "sleeping")) ms (moment_has_none clock until) refl refl hm
doing_in_has_none clock t (is_cancelled by during in_cleanup) ms hm = idle_has_none ms hm
doing_in_has_none clock t (finds lines) ms hm = idle_has_none ms hm
doing_in_has_none clock t (misses name) ms hm = idle_has_none ms hm
doing_in_has_none clock t (raises name) ms hm = idle_has_none ms hm
doing_in_has_none clock t (cancels label) ms hm = idle_has_none ms hm
doing_in_has_none clock t (sets label) ms hm = idle_has_none ms hm
doing_in_has_none clock t (awaits event) ms hm =
    put_three (codes "event") (codes "since") (codes "doing") (label_json event) (integer (tick_of clock t)) (word (codes "waiting")) ms
    refl refl refl hm
doing_in_has_none clock t (was_set event) ms hm = idle_has_none ms hm
doing_in_has_none clock t (enters_object kind label) ms hm = idle_has_none ms hm
doing_in_has_none clock t (queues ask label part left) ms hm =
    ask_has_none ask (codes "object") label (put (codes "since") (integer (tick_of clock t)) (put (codes "doing") (word (codes "waiting")) ms))
    (put_two (codes "since") (codes "doing") (integer (tick_of clock t)) (word (codes "waiting")) ms refl refl hm)
doing_in_has_none clock t (gets ask label at_once) ms hm = idle_has_none ms hm
doing_in_has_none clock t (finds_closed ask label at_once) ms hm = idle_has_none ms hm
doing_in_has_none clock t (deadlocks ask label) ms hm = idle_has_none ms hm
doing_in_has_none clock t (gives_token_back label) ms hm = idle_has_none ms hm
doing_in_has_none clock t (closes_channel label) ms hm = idle_has_none ms hm
doing_in_has_none clock t (handles matched rest) ms hm = idle_has_none ms hm
doing_in_has_none clock t (cleans exc) ms hm = idle_has_none ms hm
doing_in_has_none clock t (replaces lost fresh) ms hm = idle_has_none ms hm
doing_in_has_none clock t (waits nursery exc) ms hm =
    put_three (codes "nursery") (codes "since") (codes "doing") (label_json nursery) (integer (tick_of clock t)) (word (codes "waiting")) ms
    refl refl refl hm
doing_in_has_none clock t (leaves kind label inside caught outside) ms hm = idle_has_none ms hm

doing_has_none : (clock : Clock) (t : ℕ) (w : What) (ms : Members) → members_have_float ms ≡ false →
    members_have_float (with_doing clock t w ms) ≡ false
doing_has_none clock t (starts home part) ms hm = idle_has_none ms hm
doing_has_none clock t (happens what) ms hm = doing_in_has_none clock t what ms hm
doing_has_none clock t (ends home exc) ms hm = idle_has_none ms hm

last_has_none : (clock : Clock) (e : Option Event) (ms : Members) → members_have_float ms ≡ false →
    members_have_float (with_last clock e ms) ≡ false
last_has_none clock None ms hm = idle_has_none ms hm
last_has_none clock (Some e) ms hm = doing_has_none clock e.tick e.what ms hm

tasks_have_none : (clock : Clock) (es : List Event) (ls : List Label) → items_have_float (items_of (map (task_json clock es) ls)) ≡ false
tasks_have_none clock es [] = refl
tasks_have_none clock es (l ∷ ls) =
    let here : has_float (task_json clock es l) ≡ false =
    last_has_none clock (last_event l es None) (put (codes "task") (label_json l) no_members) refl in
    rw (here, tasks_have_none clock es ls) refl

running_has_none : (clock : Clock) (until : Tick) (sorted walked : List Event) →
    items_have_float (items_of (running_json clock until sorted walked)) ≡ false
running_has_none clock None sorted walked = refl
running_has_none clock (Some limit) sorted walked = tasks_have_none clock sorted (running_in walked walked)

-- values of an event, of a tick, of an exception and of the tasks that have not ended have no float
pub event_has_no_float : (value : Data) (clock : Clock) (table : Table) (notes : Notes) (es : List Event) (e : Event) →
    value ≡ event_json clock table notes es e → has_float value ≡ false
event_has_no_float value clock table notes es e is = rw (is, event_has_none clock table notes es e) refl

pub tick_has_no_float : (value : Data) (t : Tick) → value ≡ tick_json t → has_float value ≡ false
tick_has_no_float value t is = rw (is, tick_has_none t) refl

pub exc_has_no_float : (value : Data) (e : Option Exc) → value ≡ exc_or_null e → has_float value ≡ false
exc_has_no_float value e is = rw (is, exc_has_none e) refl

pub running_has_no_float : (value : Data) (clock : Clock) (until : Tick) (sorted walked : List Event) →
    value ≡ list_of (running_json clock until sorted walked) → has_float value ≡ false
running_has_no_float value clock until sorted walked is = rw (is, running_has_none clock until sorted walked) refl
