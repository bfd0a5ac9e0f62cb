-- What a turn of a task does to limiters and channels in its moment, by its events and by what the world has noted.
use Rattle.std.proofs.Common.{◌≡◌, ◌≢◌, ℕ, ◌+◌, ◌<◌, Bool, true, false, ◌&&◌, ◌==◌, Option, Some, None, List, [], ◌∷◌, ◌++◌, map, refl, ap, sym, ◌∙◌, arith, nat_lt}
use Rattle.std.proofs.lemmas.Bool.{eqb-true, eq-eqb}
use Rattle.std.proofs.lemmas.Bool.Decides.{nat_tests}
use Rattle.exceptions.specs.Exceptions.{Label}
use Rattle.input_lines.specs.Lines.{Range}
use Rattle.input_lines.specs.Part.{range_of}
use Rattle.cancel_scopes.specs.Tree.{Stack}
use Rattle.nursery_book.specs.declared.book.NurseryBook.{NurseryBook}
use Rattle.job_tree.specs.declared.object.Ask.{Ask as AskKind}
use Rattle.job_meaning.specs.Log.{Act, opens, asks, gives_back, closes, Table, same_label}
use Rattle.job_meaning.specs.declared.clock.Clock.{Clock}
use Rattle.job_meaning.specs.Sharing.{Done, done_if}
use Rattle.job_meaning.specs.Walk.{Here}
use Rattle.job_meaning.specs.Rest.{Event, noted, signs, enters, acts, starts, Frame, Stopped, to_begin, asking, asleep, waiting_for, queued, giving_up, awaiting, at_end, inside}
use Rattle.turn_semantics.specs.Lists.{Each}
use Rattle.turn_semantics.specs.Midway.{Place, label_among}
use Rattle.turn_semantics.specs.Turned.{MadeAt, AsksNothing, AsksFirst, AskedFirst, StopsAt}
use Rattle.task_machine.specs.declared.serving.ObjectAct.{ObjectAct}
use Rattle.task_machine.specs.declared.stop.ObjectRequest.{ObjectRequest}
use Rattle.task_machine.specs.declared.stop.Stop.{Stop}
use Rattle.task_machine.specs.declared.stop.Stop.TheVariants.{Ask, Sleep, WaitFor, Queue, GiveUp, Wait, Ended}
use Rattle.task_machine.specs.declared.stop.TaskState.{TaskState}
use Rattle.task_machine.specs.declared.stop.TaskState.TheVariants.{ToBegin, Asked, Asleep, Waiting, Queued, GivingUp, Awaits, Over}
use Rattle.task_machine.specs.declared.task.Task.{Task}
use Rattle.task_machine.specs.Frames.{Lent}
use Rattle.task_machine.specs.Labels.{Labels}
use Rattle.task_machine.specs.Serving.{Acted, acted_of, acts_to_serve}
use Rattle.task_machine.specs.Stacked.{AwaitsEvent}
use Rattle.task_machine.specs.Stops.{Numbers, IsTaskState, IsReturned}
use Rattle.interleavings.specs.Acts.{acts_made, asked_on, acts_pending}
use Rattle.run_refinement.specs.Sharing.{RoundAct, done_by, done_from, round_act, asked_of, asked_by}

-- ---- what one task did in a round

pub done_by_append : (s : ℕ) (l : Label) (t : ℕ) (task : Label) (xs ys : List RoundAct) →
    done_by s l t task (xs ++ ys) ≡ done_by s l t task xs ++ done_by s l t task ys
done_by_append s l t task [] ys = refl
done_by_append s l t task (a ∷ xs) ys = by_test (a.serial == s && same_label l a.object) (done_by_append s l t task xs ys)
  where
    d : Done
    d = record { at = t; task = task; act = a.act }

    by_test : (b : Bool) → done_by s l t task (xs ++ ys) ≡ done_by s l t task xs ++ done_by s l t task ys →
        done_if b d (done_by s l t task (xs ++ ys)) ≡ done_if b d (done_by s l t task xs) ++ done_by s l t task ys
    by_test true h = ap (λ (ds : List Done). d ∷ ds) h
    by_test false h = h

-- another task did nothing
pub done_by_none : (s : ℕ) (l : Label) (t : ℕ) (task : Label) (xs : List RoundAct) → Each (λ (a : RoundAct). a.serial ≢ s) xs → done_by s l t task xs ≡ []
done_by_none s l t task [] h = refl
done_by_none s l t task (a ∷ xs) h =
    ap (λ (b : Bool). done_if (b && same_label l a.object) (record { at = t; task = task; act = a.act }) (done_by s l t task xs)) (other (a.serial == s) refl)
    ∙ done_by_none s l t task xs h.1
  where
    other : (b : Bool) → (a.serial == s) ≡ b → (a.serial == s) ≡ false
    other false e = e
    other true e = absurd (h.0 (eqb-true a.serial s e))

-- the acts on one limiter or channel that a turn noted
abbrev pub done_acted : Label → ℕ → Label → List Acted → List Done
done_acted l t task [] = []
done_acted l t task (a ∷ more) = done_if (same_label l a.object) (record { at = t; task = task; act = a.act }) (done_acted l t task more)

pub round_acted : (s : ℕ) (l : Label) (t : ℕ) (task : Label) (items : List ObjectAct) →
    done_by s l t task (map (round_act s) items) ≡ done_acted l t task (map acted_of items)
round_acted s l t task [] = refl
round_acted s l t task (a ∷ items) =
    ap (λ (b : Bool). done_if (b && same_label l a.object) (record { at = t; task = task; act = (acted_of a).act }) (done_by s l t task (map (round_act s) items)))
    (eq-eqb s s refl)
    ∙ ap (λ (ds : List Done). done_if (same_label l a.object) (record { at = t; task = task; act = (acted_of a).act }) ds) (round_acted s l t task items)

-- ---- by the events

pub from_if : (v : ℕ) (b : Bool) (d : Done) (ds : List Done) → nat_lt v (d.at + 1) ≡ true → done_from v (done_if b d ds) ≡ done_if b d (done_from v ds)
from_if v true d ds e = rw e refl
from_if v false d ds e = refl

pub from_if_not : (v : ℕ) (b : Bool) (d : Done) (ds : List Done) → nat_lt v (d.at + 1) ≡ false → done_from v (done_if b d ds) ≡ done_from v ds
from_if_not v true d ds e = rw e refl
from_if_not v false d ds e = refl

now_from : (t u : ℕ) → u ≡ t → nat_lt t (u + 1) ≡ true
now_from t u e = grind (arith, nat_tests)

past_from : (t u : ℕ) → u < t → nat_lt t (u + 1) ≡ false
past_from t u e = grind (arith, nat_tests)

-- an act of this moment is one to be served
one_now : (t : ℕ) (l task m : Label) (u : ℕ) (a : Act) (ds : List Done) (more : List Acted) → u ≡ t → done_from t ds ≡ done_acted l t task more →
    done_from t (done_if (same_label l m) (record { at = u; task = task; act = a }) ds)
    ≡ done_acted l t task (record { object = m; act = a } ∷ more)
one_now t l task m u a ds more e h =
    from_if t (same_label l m) (record { at = u; task = task; act = a }) ds (now_from t u e)
    ∙ (ap (λ (xs : List Done). done_if (same_label l m) (record { at = u; task = task; act = a }) xs) h
    ∙ ap (λ (v : ℕ). done_if (same_label l m) (record { at = v; task = task; act = a }) (done_acted l t task more)) e)

pub made_round : (clock : Clock) (t : ℕ) (ls : List Label) (l task : Label) (es : List Event) → MadeAt clock t ls es → AsksNothing es →
    done_from t (acts_made l task es) ≡ done_acted l t task (acts_to_serve es)
made_round clock t ls l task [] h k = refl
made_round clock t ls l task (acts m u (opens kind) ∷ es) h k =
    one_now t l task m u (opens kind) (acts_made l task es) (acts_to_serve es) h.0 (made_round clock t ls l task es h.1 k)
made_round clock t ls l task (acts m u (asks ask part left) ∷ es) h k = absurd k
made_round clock t ls l task (acts m u gives_back ∷ es) h k =
    one_now t l task m u gives_back (acts_made l task es) (acts_to_serve es) h.0 (made_round clock t ls l task es h.1 k)
made_round clock t ls l task (acts m u closes ∷ es) h k =
    one_now t l task m u closes (acts_made l task es) (acts_to_serve es) h.0 (made_round clock t ls l task es h.1 k)
made_round clock t ls l task (noted u e ∷ es) h k = made_round clock t ls l task es h.1 k
made_round clock t ls l task (signs m u ∷ es) h k = made_round clock t ls l task es h.2 k
made_round clock t ls l task (enters m u d ∷ es) h k = made_round clock t (m ∷ ls) l task es h.1 k
made_round clock t ls l task (starts i m u ∷ es) h k = made_round clock t ls l task es h.1 k

first_round : (clock : Clock) (t : ℕ) (ls : List Label) (o : Option Label) (here : Here) (ask : AskKind) (since : ℕ) (l task : Label) (es : List Event) →
    since < t → MadeAt clock t ls es → AsksFirst t o here ask since es → done_from t (acts_made l task es) ≡ done_acted l t task (acts_to_serve es)
first_round clock t ls None here ask since l task es lt h k = made_round clock t ls l task es h k
first_round clock t ls (Some n) here ask since l task [] lt h k = absurd k
first_round clock t ls (Some n) here ask since l task (acts m u (asks a part left) ∷ es) lt h k =
    from_if_not t (same_label l m) (record { at = u; task = task; act = asks a part left }) (acts_made l task es)
    (past_from t u (let e : u ≡ since = k.1 in omega (arith, e, lt)))
    ∙ made_round clock t ls l task es h.1 k.5
first_round clock t ls (Some n) here ask since l task (acts m u (opens kind) ∷ es) lt h k = absurd k
first_round clock t ls (Some n) here ask since l task (acts m u gives_back ∷ es) lt h k = absurd k
first_round clock t ls (Some n) here ask since l task (acts m u closes ∷ es) lt h k = absurd k
first_round clock t ls (Some n) here ask since l task (noted u e ∷ es) lt h k = absurd k
first_round clock t ls (Some n) here ask since l task (signs m u ∷ es) lt h k = absurd k
first_round clock t ls (Some n) here ask since l task (enters m u d ∷ es) lt h k = absurd k
first_round clock t ls (Some n) here ask since l task (starts i m u ∷ es) lt h k = absurd k

-- a task that was in a queue had asked before this moment
abbrev pub AskedEarlier : ℕ → Stopped → Type 0
AskedEarlier t (queued object ask since body) = since < t
AskedEarlier t _ = Unit {0}

pub turn_round : (clock : Clock) (t : ℕ) (ls : List Label) (here : Here) (fs : List Frame) (ps : List Place) (s : Stopped) (l task : Label) (es : List Event) →
    AskedEarlier t s → MadeAt clock t ls es → AskedFirst t here (Some s) fs ps es →
    done_from t (acts_made l task es) ≡ done_acted l t task (acts_to_serve es)
turn_round clock t ls here fs ps (queued object ask since body) l task es lt h k =
    first_round clock t ls (label_among true object ps) (inside fs here) ask since l task es lt h k
turn_round clock t ls here fs ps to_begin l task es lt h k = made_round clock t ls l task es h k
turn_round clock t ls here fs ps (asking kernel purpose) l task es lt h k = made_round clock t ls l task es h k
turn_round clock t ls here fs ps (asleep paced n since) l task es lt h k = made_round clock t ls l task es h k
turn_round clock t ls here fs ps (waiting_for event since) l task es lt h k = made_round clock t ls l task es h k
turn_round clock t ls here fs ps (giving_up since) l task es lt h k = made_round clock t ls l task es h k
turn_round clock t ls here fs ps (awaiting children ended exc) l task es lt h k = made_round clock t ls l task es h k
turn_round clock t ls here fs ps (at_end u e) l task es lt h k = made_round clock t ls l task es h k

-- what a task asked before is no act of this moment
pub pending_past : (t : ℕ) (l : Label) (here : Here) (fs : List Frame) (ps : List Place) (s : Stopped) → AskedEarlier t s →
    done_from t (acts_pending l here fs ps s) ≡ []
pending_past t l here fs ps (queued object ask since body) lt = by_label (label_among true object ps)
  where
    by_label : (o : Option Label) → done_from t (asked_on l o here.task (inside fs here) ask since) ≡ []
    by_label None = refl
    by_label (Some m) = from_if_not t (same_label l m) _ [] (past_from t since lt)
pending_past t l here fs ps to_begin lt = refl
pending_past t l here fs ps (asking kernel purpose) lt = refl
pending_past t l here fs ps (asleep paced n since) lt = refl
pending_past t l here fs ps (waiting_for event since) lt = refl
pending_past t l here fs ps (giving_up since) lt = refl
pending_past t l here fs ps (awaiting children ended exc) lt = refl
pending_past t l here fs ps (at_end u e) lt = refl

-- ---- what a task asks where it stops

asked_now : (s : ℕ) (l : Label) (t : ℕ) (task : Label) (here : Here) (ask : AskKind) (since : ℕ) (request : ObjectRequest) (o : Option Label) → since ≡ t →
    request.ask ≡ ask → range_of request.part ≡ here.part → done_from t (asked_on l o task here ask since) ≡ done_by s l t task (asked_of s request o)
asked_now s l t task here ask since request None e a p = refl
asked_now s l t task here ask since request (Some m) e a p =
    from_if t (same_label l m) (record { at = since; task = task; act = asks ask here.part None }) [] (now_from t since e)
    ∙ (ap (λ (v : ℕ). done_if (same_label l m) (record { at = v; task = task; act = asks ask here.part None }) []) e
    ∙ (ap (λ (x : AskKind). done_if (same_label l m) (record { at = t; task = task; act = asks x here.part None }) []) (sym a)
    ∙ (ap (λ (x : Range). done_if (same_label l m) (record { at = t; task = task; act = asks request.ask x None }) []) (sym p)
    ∙ ap (λ (b : Bool). done_if (b && same_label l m) (record { at = t; task = task; act = asks request.ask (range_of request.part) None }) [])
    (sym (eq-eqb s s refl)))))

-- whether a task is in a queue
abbrev pub IsQueued : Stopped → Type 0
IsQueued (queued object ask since body) = Unit {0}
IsQueued _ = ⊥

-- a task that is in no queue asks nothing
none_asked : (s : ℕ) (l : Label) (t : ℕ) (here : Here) (task : Task) (labels : Labels) (clock : Clock) (numbers : Numbers) (book : NurseryBook) (lent : Lent)
    (stop : Stop) (task_state : TaskState) (stopped : Stopped) → (IsQueued stopped → ⊥) → IsTaskState numbers book task_state stopped →
    IsReturned clock lent stop task_state stopped → [] ≡ done_by s l t here.task (asked_by s task labels stop)
none_asked s l t here task labels clock numbers book lent (Queue request) (ToBegin at) stopped not_queued is returned = absurd returned
none_asked s l t here task labels clock numbers book lent (Queue request) (Asked kernel purpose) stopped not_queued is returned = absurd returned
none_asked s l t here task labels clock numbers book lent (Queue request) (Asleep paced ticks since) stopped not_queued is returned = absurd returned
none_asked s l t here task labels clock numbers book lent (Queue request) (Waiting key since) stopped not_queued is returned = absurd returned
none_asked s l t here task labels clock numbers book lent (Queue request) (GivingUp since) stopped not_queued is returned = absurd returned
none_asked s l t here task labels clock numbers book lent (Queue request) (Awaits id since) stopped not_queued is returned = absurd returned
none_asked s l t here task labels clock numbers book lent (Queue request) Over stopped not_queued is returned = absurd returned
none_asked s l t here task labels clock numbers book lent (Queue request) (Queued key a since body) (queued name b u steps) not_queued is returned = absurd (not_queued tt)
none_asked s l t here task labels clock numbers book lent (Queue request) (Queued key a since body) to_begin not_queued is returned = absurd is
none_asked s l t here task labels clock numbers book lent (Queue request) (Queued key a since body) (asking kernel purpose) not_queued is returned = absurd is
none_asked s l t here task labels clock numbers book lent (Queue request) (Queued key a since body) (asleep p n v) not_queued is returned = absurd is
none_asked s l t here task labels clock numbers book lent (Queue request) (Queued key a since body) (waiting_for name v) not_queued is returned = absurd is
none_asked s l t here task labels clock numbers book lent (Queue request) (Queued key a since body) (giving_up v) not_queued is returned = absurd is
none_asked s l t here task labels clock numbers book lent (Queue request) (Queued key a since body) (awaiting children v exc) not_queued is returned = absurd is
none_asked s l t here task labels clock numbers book lent (Queue request) (Queued key a since body) (at_end u e) not_queued is returned = absurd is
none_asked s l t here task labels clock numbers book lent (Ask request) task_state stopped not_queued is returned = refl
none_asked s l t here task labels clock numbers book lent (Sleep due) task_state stopped not_queued is returned = refl
none_asked s l t here task labels clock numbers book lent (WaitFor id) task_state stopped not_queued is returned = refl
none_asked s l t here task labels clock numbers book lent (GiveUp due) task_state stopped not_queued is returned = refl
none_asked s l t here task labels clock numbers book lent (Wait id) task_state stopped not_queued is returned = refl
none_asked s l t here task labels clock numbers book lent (Ended exc) task_state stopped not_queued is returned = refl

pub pending_round : (s : ℕ) (l : Label) (t : ℕ) (here : Here) (fs : List Frame) (ps : List Place) (task : Task) (labels : Labels) (st : Stack) (clock : Clock)
    (numbers : Numbers) (book : NurseryBook) (there : Clock) (f : Table) (lent : Lent) (stop : Stop) (task_state : TaskState) (stopped : Stopped) →
    IsTaskState numbers book task_state stopped → IsReturned clock lent stop task_state stopped → StopsAt there t f (Some stopped) ps →
    AwaitsEvent labels st (Some stopped) task_state ps → lent.range ≡ (inside fs here).part →
    done_from t (acts_pending l here fs ps stopped) ≡ done_by s l t here.task (asked_by s task labels stop)
pending_round s l t here fs ps task labels st clock numbers book there f lent stop task_state (queued name b u steps) is returned stops event same = by_queued stop task_state is returned event
  where
    Pends : Stop → Type 0
    Pends stop = done_from t (acts_pending l here fs ps (queued name b u steps)) ≡ done_by s l t here.task (asked_by s task labels stop)

    by_queued : (stop : Stop) (task_state : TaskState) → IsTaskState numbers book task_state (queued name b u steps) →
        IsReturned clock lent stop task_state (queued name b u steps) → AwaitsEvent labels st (Some (queued name b u steps)) task_state ps → Pends stop
    by_queued (Queue request) (Queued key a since body) is returned event =
        asked_now s l t here.task (inside fs here) b u request (label_among true name ps) stops.0 (returned.1 ∙ is.0) (returned.3 ∙ same)
        ∙ ap (λ (o : Option Label). done_by s l t here.task (asked_of s request o)) (sym event.1 ∙ ap labels (sym returned.0))
    by_queued (Ask request) (Queued key a since body) is returned event = absurd returned
    by_queued (Sleep due) (Queued key a since body) is returned event = absurd returned
    by_queued (WaitFor id) (Queued key a since body) is returned event = absurd returned
    by_queued (GiveUp due) (Queued key a since body) is returned event = absurd returned
    by_queued (Wait id) (Queued key a since body) is returned event = absurd returned
    by_queued (Ended exc) (Queued key a since body) is returned event = absurd returned
    by_queued stop (ToBegin at) is returned event = absurd is
    by_queued stop (Asked kernel purpose) is returned event = absurd is
    by_queued stop (Asleep paced ticks since) is returned event = absurd is
    by_queued stop (Waiting key since) is returned event = absurd is
    by_queued stop (GivingUp since) is returned event = absurd is
    by_queued stop (Awaits id since) is returned event = absurd is
    by_queued stop Over is returned event = absurd is
pending_round s l t here fs ps task labels st clock numbers book there f lent stop task_state to_begin is returned stops event same =
    none_asked s l t here task labels clock numbers book lent stop task_state to_begin (λ z. z) is returned
pending_round s l t here fs ps task labels st clock numbers book there f lent stop task_state (asking kernel purpose) is returned stops event same =
    none_asked s l t here task labels clock numbers book lent stop task_state (asking kernel purpose) (λ z. z) is returned
pending_round s l t here fs ps task labels st clock numbers book there f lent stop task_state (asleep p n v) is returned stops event same =
    none_asked s l t here task labels clock numbers book lent stop task_state (asleep p n v) (λ z. z) is returned
pending_round s l t here fs ps task labels st clock numbers book there f lent stop task_state (waiting_for name v) is returned stops event same =
    none_asked s l t here task labels clock numbers book lent stop task_state (waiting_for name v) (λ z. z) is returned
pending_round s l t here fs ps task labels st clock numbers book there f lent stop task_state (giving_up v) is returned stops event same =
    none_asked s l t here task labels clock numbers book lent stop task_state (giving_up v) (λ z. z) is returned
pending_round s l t here fs ps task labels st clock numbers book there f lent stop task_state (awaiting children v exc) is returned stops event same =
    none_asked s l t here task labels clock numbers book lent stop task_state (awaiting children v exc) (λ z. z) is returned
pending_round s l t here fs ps task labels st clock numbers book there f lent stop task_state (at_end u e) is returned stops event same =
    none_asked s l t here task labels clock numbers book lent stop task_state (at_end u e) (λ z. z) is returned
