-- A task that continues from where it stopped, as a move of the definitions.
use Rattle.std.proofs.Common.{◌≡◌, ℕ, false, Option, Some, None, List, [], ◌∷◌, ◌++◌, map, refl, ap, sym, ◌∙◌, subst}
use Rattle.std.proofs.lemmas.List.{append-nil}
use Rattle.std.proofs.lemmas.List.Elements.{All-nil, All-cons, All-head, All-tail}
use Rattle.std.specs.Prelude.{All}
use Rattle.std.specs.Option.{option_map}
use Rattle.input_lines.specs.Lines.{Range, Span, text_of}
use Rattle.input_lines.specs.Part.{buffer_of, span_of, IsLineOf}
use Rattle.input_lines.specs.declared.line.Line.{Line}
use Rattle.exceptions.specs.declared.exc.Exc as held
use Rattle.exceptions.specs.Held.{exc_of}
use Rattle.cancel_scopes.specs.Sight.{Level}
use Rattle.exceptions.specs.Exceptions.{Label, Exc, raised}
use Rattle.input_lines.specs.Answers.{AreLinesAt}
use Rattle.job_tree.specs.declared.object.Ask.{Ask}
use Rattle.job_meaning.specs.Log.{Table, waited, was_granted, asks}
use Rattle.job_meaning.specs.Moments.{tick_of}
use Rattle.job_meaning.specs.declared.clock.Clock.{Clock}
use Rattle.job_meaning.specs.Walk.{Here}
use Rattle.job_meaning.specs.Walk as meaning
use Rattle.job_meaning.specs.Rest as rest
use Rattle.job_meaning.specs.Rest.{Stopped, awaiting}
use Rattle.job_meaning.specs.Shown.{Shown, line_shown, wait_shown, grant_shown}
use Rattle.nursery_book.specs.Nursery.{Nursery as Members}
use Rattle.nursery_book.specs.Book.{nursery_at, Updates}
use Rattle.nursery_book.specs.declared.book.NurseryBook.{NurseryBook}
use Rattle.task_machine.specs.declared.entry.Entry.{Entry}
use Rattle.task_machine.specs.declared.entry.Entry.TheVariants as entries
use Rattle.task_machine.specs.Noted.{entry_of, IsSlice, shown_made}
use Rattle.turn_semantics.specs.Midway.{Place, Move}
use Rattle.turn_semantics.specs.Placed.{PlacedStop}
use Rattle.turn_semantics.specs.Steps.{onward, makes, leaves, cancelled_from_after}
use Rattle.turn_semantics.specs.Wakes.{lines_made, leaves_settled, notes_wait, leaves_the_queue, goes_on_granted, raises_granted}
use Rattle.turn_semantics.proofs.Agreeing.{label_of}
use Rattle.task_machine.specs.declared.frame.Frame.{Frame}
use Rattle.block_exits.specs.declared.kind.Kind.TheVariants as kind
use Rattle.task_machine.specs.declared.stop.TaskState.{TaskState}
use Rattle.task_machine.specs.declared.stop.Moved.{Moved}
use Rattle.task_machine.specs.declared.stop.Moved.TheVariants.{On, Stops}
use Rattle.task_machine.specs.Acts.{Leaves, no_act, act_noted, act_shared, scoping_in}
use Rattle.task_machine.specs.Exits.{ExitsAt}
use Rattle.task_machine.specs.Fitting.{Block, blocks_of}
use Rattle.task_machine.specs.Frames.{frames_of, Lent}
use Rattle.task_machine.specs.Stacked.{AreAt}
use Rattle.task_machine.specs.Standing.{HasBlock, Stands, IsOfOther, Took}
use Rattle.task_machine.specs.States.{State, now_at, stack_in, lent_at}
use Rattle.task_machine.specs.Stops.{Numbers, StopsAs, MovesAs}
use Rattle.task_machine.specs.Worlds.{NotesWait, NotesGrant}
use Rattle.task_machine.proofs.Acting.{waits_not, lines_acts}
use Rattle.task_machine.proofs.Cancelled.{own_lines}
use Rattle.task_machine.proofs.Nurseries.{nurseries_closed}
use Rattle.task_machine.proofs.Served.{unacted, unserved, lines_unserved}
use Rattle.task_machine.proofs.Tooks.{none_noted, quiet_by, took_quiet, took_task_states, took_leaves}

-- ---- a nursery that is settled

-- a nursery that is waited for has a place, so the list of places is not empty
by_wait : (P : List Place → Type 0) (kids : List ℕ) (ended : ℕ) (exc : Option Exc) (gs : List rest.Frame) (ps : List Place) →
    PlacedStop (awaiting kids ended exc) gs ps →
    ((p : Place) (qs : List Place) → ps ≡ p ∷ qs → p.is_event ≡ false → P (p ∷ qs)) → P ps
by_wait P kids ended exc gs [] placed go = absurd placed
by_wait P kids ended exc gs (p ∷ ps) placed go = go p ps refl placed.0

-- the nursery that the task waits for was removed from the book, and is left
pub took_settled : (b u : State) (book : NurseryBook) (id : ℕ) (kids : List ℕ) (ended : ℕ) (earlier : Option Exc) (exc goes : Option held.Exc)
    (cancelled_from : Table) (numbers : Numbers) (ps : List Place) → Stands b cancelled_from numbers (Some (awaiting kids ended earlier)) ps →
    (HasBlock id (blocks_of b.frames) → ⊥) → Updates b.book book id None →
    u ≡ record b { own = u.own; cancelled_from = u.cancelled_from; entries = u.entries; tree = u.tree; labels = u.labels; events = u.events; book = book } →
    ExitsAt (record b { book = book }) u kind.Nursery (option_map exc_of exc) (option_map exc_of goes) →
    Leaves (scoping_in b) (scoping_in u) → ((n : Members) → nursery_at b.book id ≡ Some n → IsOfOther b.own b.tree n → ⊥) →
    Took b u (On goes) cancelled_from numbers (leaves_settled b.clock cancelled_from (now_at b) (option_map exc_of exc) (frames_of numbers b.frames) ps)
took_settled b u book id kids ended earlier exc goes cancelled_from numbers ps stands apart closed stays exits one mine =
    by_wait (λ (qs : List Place). Took b u (On goes) cancelled_from numbers
    (leaves_settled b.clock cancelled_from (now_at b) e gs qs)) kids ended earlier gs ps
    stands.placed at_place
  where
    e : Option Exc
    e = option_map exc_of exc

    gs : List rest.Frame
    gs = frames_of numbers b.frames

    left : u.frames ≡ b.frames
    left = ap (λ (s : State). s.frames) stays

    ended_there : Updates b.book u.book id None
    ended_there = subst (λ (x : NurseryBook). Updates b.book x id None) (sym (ap (λ (s : State). s.book) stays)) closed

    at_place : (p : Place) (qs : List Place) → ps ≡ p ∷ qs → p.is_event ≡ false → Took b u (On goes) cancelled_from numbers
        (leaves b.clock cancelled_from (now_at b) meaning.a_nursery gs p qs e)
    at_place p qs is scope =
        subst (λ (fs : List Frame). Took b u (On goes) cancelled_from numbers
        (leaves b.clock cancelled_from (now_at b) meaning.a_nursery (frames_of numbers fs) p qs e)) left
        (took_leaves b b.frames cancelled_from numbers (Some (awaiting kids ended earlier)) ps stands u book meaning.a_nursery e goes p qs
        (exits cancelled_from p qs scope (subst (λ (rs : List Place). AreAt b.labels b.events cancelled_from (stack_in b) rs) is stands.places))
        (ap (λ (s : State). s.started) stays) (ap (λ (s : State). s.cancelled) stays) (ap (λ (s : State). s.acts) stays)
        (nurseries_closed b u numbers id ended_there apart mine left stands.numbered) one)

-- ---- lines that a kernel answers

lines_quiet : (t : ℕ) (spans : List Span) (cancelled_from : Table) → cancelled_from_after cancelled_from (lines_made t spans) ≡ cancelled_from
lines_quiet t [] cancelled_from = refl
lines_quiet t (s ∷ spans) cancelled_from = lines_quiet t spans cancelled_from

lines_shown : (clock : Clock) (input : List ℕ) (t : ℕ) (lines : List Line) → All (IsLineOf input) lines →
    map entry_of (map entries.Line lines) ≡ shown_made clock input (lines_made t (map span_of lines))
lines_shown clock input t [] a = refl
lines_shown clock input t (l ∷ lines) a =
    ap (λ (x : List ℕ). line_shown (span_of l).at x ∷ map entry_of (map entries.Line lines)) (All-head (IsLineOf input) l lines a).text
    ∙ ap (λ (xs : List Shown). line_shown (span_of l).at (text_of input (span_of l)) ∷ xs)
    (lines_shown clock input t lines (All-tail (IsLineOf input) l lines a))

lines_slices : (input : List ℕ) (lines : List Line) → All (IsLineOf input) lines → All (IsSlice input) (map entries.Line lines)
lines_slices input [] a = All-nil (IsSlice input)
lines_slices input (l ∷ lines) a =
    All-cons (IsSlice input) (entries.Line l) (map entries.Line lines) (All-head (IsLineOf input) l lines a)
    (lines_slices input lines (All-tail (IsLineOf input) l lines a))

-- the task notes them, and continues
pub took_lines : (b : State) (cancelled_from : Table) (numbers : Numbers) (stopped : Option Stopped) (ps : List Place) (spans : List Span)
    (lines : List Line) → Stands b cancelled_from numbers stopped ps → AreLinesAt (buffer_of b.part) spans lines →
    Took b (record b { entries = b.entries ++ map entries.Line lines }) (On None) cancelled_from numbers
    (makes (lines_made b.tick spans) (frames_of numbers b.frames) ps)
took_lines b cancelled_from numbers stopped ps spans lines stands at =
    let u : State = record b { entries = b.entries ++ map entries.Line lines } in
    took_quiet b b.frames cancelled_from numbers stopped ps stands u (On None) (makes (lines_made b.tick spans) (frames_of numbers b.frames) ps)
    (map entries.Line lines)
    (record { book = refl; started = refl; noted = refl; kept = λ id has. has; back = λ id has. has })
    (record {
      shown =
          lines_shown b.clock (buffer_of b.part) b.tick lines at.texts
          ∙ ap (λ (ss : List Span). shown_made b.clock (buffer_of b.part) (lines_made b.tick ss)) at.places;
      slices = lines_slices (buffer_of b.part) lines at.texts;
    })
    refl refl (subst (λ (f : Table). AreAt b.labels b.events f (stack_in b) ps) (sym (lines_quiet b.tick spans cancelled_from)) stands.places) tt
    (refl, refl) refl
    (lines_acts b.tick b.tick spans (scoping_in b) (scoping_in b) refl) (own_lines b.clock b.cancelled b.tick spans)
    (unserved b.acts b.acts (lines_made b.tick spans) (lines_unserved b.tick spans) refl)

-- ---- a wait that ended

-- the task notes it, if there is such an event, and continues
pub took_noted : (b : State) (cancelled_from : Table) (numbers : Numbers) (stopped : Option Stopped) (ps : List Place) →
    Stands b cancelled_from numbers stopped ps → (entries : List Entry) (level : Option (Level Label)) →
    NotesWait (label_of level) (tick_of b.clock b.tick) b.entries entries →
    Took b (record b { entries = entries }) (On None) cancelled_from numbers (notes_wait level b.tick (frames_of numbers b.frames) ps)
took_noted b cancelled_from numbers stopped ps stands es None notes =
    let u : State = record b { entries = es } in
    took_quiet b b.frames cancelled_from numbers stopped ps stands u (On None) (onward (frames_of numbers b.frames) ps None) []
    (record { book = refl; started = refl; noted = notes ∙ sym (append-nil b.entries); kept = λ id has. has; back = λ id has. has })
    (none_noted b.clock (buffer_of b.part) [] refl) refl refl stands.places tt (refl, refl) refl (no_act (scoping_in b)) refl (unacted b.acts b.acts refl)
took_noted b cancelled_from numbers stopped ps stands es (Some l) notes =
    let u : State = record b { entries = es } in
    let tick : ℕ = tick_of b.clock b.tick in
    let one : Entry = entries.Wait notes.0 tick in
    took_quiet b b.frames cancelled_from numbers stopped ps stands u (On None)
    (makes (rest.noted b.tick (waited l.label) ∷ []) (frames_of numbers b.frames) ps) (one ∷ [])
    (record { book = refl; started = refl; noted = notes.2; kept = λ id has. has; back = λ id has. has })
    (record {
      shown = ap (λ (x : Label). wait_shown x tick ∷ []) notes.1;
      slices = All-cons (IsSlice (buffer_of b.part)) one [] tt (All-nil (IsSlice (buffer_of b.part)));
    })
    refl refl stands.places tt (refl, refl) refl
    (act_noted (scoping_in b) (scoping_in b) b.tick (waited l.label) [] (no_act (scoping_in b))) refl (unacted b.acts b.acts refl)

-- ---- a task that asked a limiter or channel

-- the code continues, or stops, as a move with the same exception and the same stop does
moves_alike : (clock : Clock) (numbers : Numbers) (book : NurseryBook) (lent : Lent) (goes : Moved) (task_state : TaskState) (o p : Move) →
    o.exc ≡ p.exc → o.stopped ≡ p.stopped → MovesAs clock numbers book lent goes task_state o → MovesAs clock numbers book lent goes task_state p
moves_alike clock numbers book lent (On exc) task_state o p e f h = (h.0 ∙ e, sym f ∙ h.1)
moves_alike clock numbers book lent (Stops stop) task_state o p e f h =
    (sym e ∙ h.0, subst (λ (x : Option Stopped). StopsAs clock numbers book lent stop task_state x) f h.1)

module _ (b : State) (cancelled_from : Table) (numbers : Numbers) (stopped : Option Stopped) (ps : List Place)
    (stands : Stands b cancelled_from numbers stopped ps) where
  -- the frames of the task, as the definitions have them
  abbrev gs : List rest.Frame
  gs = frames_of numbers b.frames

  -- it raises, and it is known when it asked
  took_acted : (l : Label) (a : Ask) (part : Range) (since : ℕ) (left : Option ℕ) (e : Exc) (goes : Moved) →
      MovesAs b.clock numbers b.book (lent_at b) goes b.task_state (onward gs ps (Some e)) →
      Took b b goes cancelled_from numbers
      (record { frames = gs; places = ps; exc = Some e; made = rest.acts l since (asks a part left) ∷ []; begun = []; stopped = None })
  took_acted l a part since left e goes moves =
      let made : List rest.Event = rest.acts l since (asks a part left) ∷ [] in
      let o : Move = record { frames = gs; places = ps; exc = Some e; made = made; begun = []; stopped = None } in
      let alike : MovesAs b.clock numbers b.book (lent_at b) goes b.task_state o =
      moves_alike b.clock numbers b.book (lent_at b) goes b.task_state (onward gs ps (Some e)) o refl refl moves in
      took_quiet b b.frames cancelled_from numbers stopped ps stands b goes o [] (quiet_by b b.frames b refl refl refl refl)
      (none_noted b.clock (buffer_of b.part) made refl) refl refl stands.places tt alike
      (waits_not b.clock numbers b.book (lent_at b) goes b.task_state o tt alike)
      (act_shared (scoping_in b) (scoping_in b) l since (asks a part left) [] (no_act (scoping_in b))) refl (unacted b.acts b.acts refl)

  -- it leaves the queue, and raises
  pub took_left_queue : (o : Option Label) (here : Here) (a : Ask) (since t : ℕ) (e : Exc) (goes : Moved) →
      MovesAs b.clock numbers b.book (lent_at b) goes b.task_state (onward gs ps (Some e)) →
      Took b b goes cancelled_from numbers (leaves_the_queue o here a since t e gs ps)
  took_left_queue None here a since t e goes moves =
      took_task_states b b.frames cancelled_from numbers stopped ps stands b.frames b.task_state goes (onward gs ps (Some e)) refl refl refl refl
      refl tt moves tt
  took_left_queue (Some l) here a since t e goes moves = took_acted l a here.part since (Some t) e goes moves

  -- what it is granted is an exception, which it raises
  pub took_raises_granted : (l : Label) (here : Here) (a : Ask) (since : ℕ) (name : List ℕ) (goes : Moved) →
      MovesAs b.clock numbers b.book (lent_at b) goes b.task_state
      (onward gs ps (Some (raised name here.task (tick_of here.clock b.tick)))) →
      Took b b goes cancelled_from numbers (raises_granted l here a since b.tick name gs ps)
  took_raises_granted l here a since name goes moves =
      took_acted l a here.part since None (raised name here.task (tick_of here.clock b.tick)) goes moves

  -- it notes what it is granted, and goes on with its block
  pub took_goes_on : (fs : List Frame) (es : List Entry) (hs : List rest.Frame) (l : Label) (here : Here) (a as_noted : Ask) (since : ℕ) →
      blocks_of fs ≡ blocks_of b.frames → frames_of numbers fs ≡ hs → NotesGrant as_noted l (tick_of b.clock b.tick) b.entries es →
      Took b (record b { frames = fs; entries = es }) (On None) cancelled_from numbers
      (goes_on_granted (was_granted as_noted l) l here a since b.tick hs ps)
  took_goes_on fs es hs l here a as_noted since same frames notes =
      let u : State = record b { frames = fs; entries = es } in
      let tick : ℕ = tick_of b.clock b.tick in
      let one : Entry = entries.Granted as_noted notes.0 tick in
      let later : List rest.Event = rest.noted b.tick (was_granted as_noted l) ∷ [] in
      took_quiet b b.frames cancelled_from numbers stopped ps stands u (On None)
      (makes (rest.acts l since (asks a here.part None) ∷ later) hs ps) (one ∷ [])
      (record {
        book = refl;
        started = refl;
        noted = notes.2;
        kept = λ id has. subst (λ (bs : List Block). HasBlock id bs) (sym same) has;
        back = λ id has. subst (λ (bs : List Block). HasBlock id bs) same has;
      })
      (record {
        shown = ap (λ (x : Label). grant_shown as_noted x tick ∷ []) notes.1;
        slices = All-cons (IsSlice (buffer_of b.part)) one [] tt (All-nil (IsSlice (buffer_of b.part)));
      })
      refl frames stands.places tt (refl, refl) refl
      (act_shared (scoping_in b) (scoping_in b) l since (asks a here.part None) later
      (act_noted (scoping_in b) (scoping_in b) b.tick (was_granted as_noted l) [] (no_act (scoping_in b)))) refl (unacted b.acts b.acts refl)
