-- The nurseries of a task with the keys of their scopes, and how a task stopped, for all tasks of the program together.
use Rattle.std.proofs.Common.{◌≡◌, ◌⊎◌, inl, inr, ℕ, Option, Some, None, List, [], ◌∷◌, ◌++◌, append_assoc, refl, ap, ◌∙◌, sym, subst}
use Rattle.std.specs.Prelude.{IsSome}
use Rattle.std.specs.Option.{IsSomeAnd}
use Rattle.exceptions.specs.declared.exc.Exc as held
use Rattle.exceptions.specs.Exceptions.{Exc}
use Rattle.nursery_book.specs.Nursery.{Nursery as Members}
use Rattle.nursery_book.specs.Book.{nursery_at, HasNursery}
use Rattle.nursery_book.specs.declared.book.NurseryBook.{NurseryBook}
use Rattle.job_meaning.specs.declared.clock.Clock.{Clock}
use Rattle.job_meaning.specs.Rest as rest
use Rattle.job_meaning.specs.Rest.{Stopped, to_begin, asking, asleep, waiting_for, queued, giving_up, awaiting, at_end}
use Rattle.task_machine.specs.declared.frame.Frame.{Frame}
use Rattle.task_machine.specs.declared.frame.Frame.TheVariants.{Steps, Scope, Event, Token, Received, Nursery, Repeat, Try, Handler, Cleanup}
use Rattle.task_machine.specs.declared.stop.TaskState.{TaskState}
use Rattle.task_machine.specs.declared.stop.TaskState.TheVariants.{ToBegin, Asked, Asleep, Waiting, Queued, GivingUp, Awaits, Over}
use Rattle.task_machine.specs.declared.stop.Stop.{Stop}
use Rattle.task_machine.specs.declared.stop.Stop.TheVariants.{Ask, Sleep, WaitFor, Queue, GiveUp, Wait, Ended}
use Rattle.task_machine.specs.declared.task.Own.{Own}
use Rattle.task_machine.specs.declared.task.Task.{Task}
use Rattle.task_machine.specs.declared.world.World.{World}
use Rattle.task_machine.specs.States.{state_of}
use Rattle.task_machine.specs.Fitting.{Block, blocks_of, waits_of, IsMine, Opened}
use Rattle.task_machine.specs.Frames.{frame_of, frames_onto, frames_of, Lent}
use Rattle.task_machine.specs.Labels.{Labels}
use Rattle.task_machine.specs.Left.{keys_in}
use Rattle.task_machine.specs.Standing.{HasBlock, HasNurseryOf}
use Rattle.task_machine.specs.Stops.{Numbers, IsTaskState, IsReturned}

-- ---- what contracts see of a task and its world

-- the state follows the task and the world
pub state_eq : (t f : Task) (w g : World) → t ≡ f → w ≡ g → state_of t w ≡ state_of f g
state_eq t f w g e h = ap (λ (x : Task). state_of x w) e ∙ ap (λ (x : World). state_of f x) h

-- ---- nurseries with the keys of their scopes

-- Frames, innermost first, and the keys of the scopes that enclose them: each scope and nursery has its key, and a nursery
-- has the children that are numbered at its key in the book, with a fact about both.
abbrev pub Keyed : (ℕ → ℕ → Type 0) → Numbers → List rest.Frame → List ℕ → Type 0
Keyed P now [] ks = Unit {0}
Keyed P now (rest.steps_left ss ∷ fs) ks = Keyed P now fs ks
Keyed P now (rest.in_scope fail ∷ fs) [] = ⊥
Keyed P now (rest.in_scope fail ∷ fs) (k ∷ ks) = Keyed P now fs ks
Keyed P now (rest.in_event ∷ fs) [] = ⊥
Keyed P now (rest.in_event ∷ fs) (k ∷ ks) = Keyed P now fs ks
Keyed P now (rest.with_token limiter ∷ fs) ks = Keyed P now fs ks
Keyed P now (rest.with_part received ∷ fs) ks = Keyed P now fs ks
Keyed P now (rest.in_nursery children ∷ fs) [] = ⊥
Keyed P now (rest.in_nursery children ∷ fs) (k ∷ ks) = ((id : ℕ) × (children ≡ now id) × P id k) × Keyed P now fs ks
Keyed P now (rest.in_repeat pass left cuts body ∷ fs) ks = Keyed P now fs ks
Keyed P now (rest.in_try handler cleanup ∷ fs) ks = Keyed P now fs ks
Keyed P now (rest.in_handler others cleanup ∷ fs) ks = Keyed P now fs ks
Keyed P now (rest.in_cleanup outcome ∷ fs) ks = Keyed P now fs ks

-- the same with the nursery that the task waits for, if it does, as the innermost
abbrev pub KeyedAfter : (ℕ → ℕ → Type 0) → Option ℕ → Numbers → List rest.Frame → List ℕ → Type 0
KeyedAfter P None now fs ks = Keyed P now fs ks
KeyedAfter P (Some id) now fs [] = ⊥
KeyedAfter P (Some id) now fs (k ∷ ks) = P id k × Keyed P now fs ks

-- a nursery that is a task's has the scope
is_scope : (labels : Labels) (Q : Members → Type 0) (p : Option Members) (o : Own) → IsSomeAnd p (λ n. IsMine labels o n × Q n) →
    IsSomeAnd p (λ n. n.scope ≡ o.id)
is_scope labels Q None o i = i
is_scope labels Q (Some n) o i = i.0.scope

one_after : (id key : ℕ) (bs : List Block) (waits : Option ℕ) → HasNurseryOf id bs waits → ((id ≡ key) ⊎ HasBlock id bs)
    ⊎ (waits ≡ Some id)
one_after id key bs waits (inl h) = inl (inr h)
one_after id key bs waits (inr e) = inr e

keyed_onto : (P : ℕ → ℕ → Type 0) (now : Numbers) (labels : Labels) (book : NurseryBook) (fs : List Frame) (own : List Own)
    (waits : Option ℕ) (outer : List rest.Frame)
    (ks : List ℕ) →
    ((id : ℕ) (o : Own) → HasNurseryOf id (blocks_of fs) waits → HasNursery book id (λ n. n.scope ≡ o.id) → P id o.id) →
    Opened labels book (blocks_of fs) own waits → Keyed P now outer ks →
    KeyedAfter P waits now (frames_onto now fs outer) (keys_in own ++ ks)
keyed_onto P now labels book [] [] None outer ks has h k = k
keyed_onto P now labels book [] [] (Some id) outer ks has h k = absurd h
keyed_onto P now labels book [] (o ∷ own) None outer ks has h k = absurd h
keyed_onto P now labels book [] (o ∷ own) (Some id) outer ks has h k =
    subst (λ (os : List Own). KeyedAfter P (Some id) now outer (keys_in os ++ o.id ∷ [] ++ ks)) (sym h.0)
    (has id o (inr refl) (is_scope labels (λ n. IsSome n.body) (nursery_at book id) o h.1), k)
keyed_onto P now labels book (Steps steps ∷ fs) own waits outer ks has h k =
    keyed_onto P now labels book fs own waits (frame_of now (Steps steps) ∷ outer) ks has h k
keyed_onto P now labels book (Scope fail ∷ fs) [] waits outer ks has h k = absurd h
keyed_onto P now labels book (Scope fail ∷ fs) (o ∷ own) waits outer ks has h k =
    subst (λ (zs : List ℕ). KeyedAfter P waits now (frames_onto now fs (rest.in_scope fail ∷ outer)) zs)
    (sym (append_assoc (keys_in own) (o.id ∷ []) ks))
    (keyed_onto P now labels book fs own waits (rest.in_scope fail ∷ outer) (o.id ∷ ks) has h.2 k)
keyed_onto P now labels book (Event ∷ fs) [] waits outer ks has h k = absurd h
keyed_onto P now labels book (Event ∷ fs) (o ∷ own) waits outer ks has h k =
    subst (λ (zs : List ℕ). KeyedAfter P waits now (frames_onto now fs (rest.in_event ∷ outer)) zs)
    (sym (append_assoc (keys_in own) (o.id ∷ []) ks))
    (keyed_onto P now labels book fs own waits (rest.in_event ∷ outer) (o.id ∷ ks) has h.2 k)
keyed_onto P now labels book (Token limiter ∷ fs) own waits outer ks has h k =
    keyed_onto P now labels book fs own waits (frame_of now (Token limiter) ∷ outer) ks has h k
keyed_onto P now labels book (Received part ∷ fs) own waits outer ks has h k =
    keyed_onto P now labels book fs own waits (frame_of now (Received part) ∷ outer) ks has h k
keyed_onto P now labels book (Nursery id ∷ fs) [] waits outer ks has h k = absurd h
keyed_onto P now labels book (Nursery id ∷ fs) (o ∷ own) waits outer ks has h k =
    subst (λ (zs : List ℕ). KeyedAfter P waits now (frames_onto now fs (rest.in_nursery (now id) ∷ outer)) zs)
    (sym (append_assoc (keys_in own) (o.id ∷ []) ks))
    (keyed_onto P now labels book fs own waits (rest.in_nursery (now id) ∷ outer) (o.id ∷ ks)
    (λ key x i n. has key x (one_after key id (blocks_of fs) waits i) n) h.2
    ((id, refl, has id o (inl (inl refl)) (is_scope labels (λ n. n.body ≡ None) (nursery_at book id) o h.0)), k))
keyed_onto P now labels book (Repeat pass left cuts body ∷ fs) own waits outer ks has h k =
    keyed_onto P now labels book fs own waits (frame_of now (Repeat pass left cuts body) ∷ outer) ks has h k
keyed_onto P now labels book (Try handler cleanup ∷ fs) own waits outer ks has h k =
    keyed_onto P now labels book fs own waits (frame_of now (Try handler cleanup) ∷ outer) ks has h k
keyed_onto P now labels book (Handler others cleanup ∷ fs) own waits outer ks has h k =
    keyed_onto P now labels book fs own waits (frame_of now (Handler others cleanup) ∷ outer) ks has h k
keyed_onto P now labels book (Cleanup outcome ∷ fs) own waits outer ks has h k =
    keyed_onto P now labels book fs own waits (frame_of now (Cleanup outcome) ∷ outer) ks has h k

-- The frames of a task have the keys of the scopes that it opened.
pub keyed_by : (P : ℕ → ℕ → Type 0) (now : Numbers) (labels : Labels) (book : NurseryBook) (fs : List Frame) (own : List Own)
    (waits : Option ℕ) (ks : List ℕ) →
    ((id : ℕ) (o : Own) → HasNurseryOf id (blocks_of fs) waits → HasNursery book id (λ n. n.scope ≡ o.id) → P id o.id) →
    Opened labels book (blocks_of fs) own waits → KeyedAfter P waits now (frames_of now fs) (keys_in own ++ ks)
keyed_by P now labels book fs own waits ks has h = keyed_onto P now labels book fs own waits [] ks has h tt

-- ---- how a task stopped

-- a task that stopped at its end returned so
pub returned_end : (clock : Clock) (numbers : Numbers) (book : NurseryBook) (part : Lent) (stop : Stop) (task_state : TaskState) (u : ℕ)
    (e : Option Exc) →
    IsTaskState numbers book task_state (at_end u e) →
    IsReturned clock part stop task_state (at_end u e) → (exc : Option held.Exc) × (stop ≡ Ended exc)
returned_end clock numbers book part stop (ToBegin at) u e h returned = absurd h
returned_end clock numbers book part stop (Asked kernel purpose) u e h returned = absurd h
returned_end clock numbers book part stop (Asleep paced ticks since) u e h returned = absurd h
returned_end clock numbers book part stop (Waiting event since) u e h returned = absurd h
returned_end clock numbers book part stop (Queued object ask since body) u e h returned = absurd h
returned_end clock numbers book part stop (GivingUp since) u e h returned = absurd h
returned_end clock numbers book part stop (Awaits id since) u e h returned = absurd h
returned_end clock numbers book part (Ask request) Over u e h returned = absurd returned
returned_end clock numbers book part (Sleep due) Over u e h returned = absurd returned
returned_end clock numbers book part (WaitFor event) Over u e h returned = absurd returned
returned_end clock numbers book part (Queue request) Over u e h returned = absurd returned
returned_end clock numbers book part (GiveUp due) Over u e h returned = absurd returned
returned_end clock numbers book part (Wait id) Over u e h returned = absurd returned
returned_end clock numbers book part (Ended exc) Over u e h returned = (exc, refl)

-- a stop that is a wait is for a nursery, whose children are those numbered there, and no other stop is one
abbrev pub WaitsAs : Numbers → Option ℕ → Stopped → Type 0
WaitsAs numbers waits to_begin = waits ≡ None
WaitsAs numbers waits (asking kernel purpose) = waits ≡ None
WaitsAs numbers waits (asleep paced n since) = waits ≡ None
WaitsAs numbers waits (waiting_for event since) = waits ≡ None
WaitsAs numbers waits (queued object ask since body) = waits ≡ None
WaitsAs numbers waits (giving_up since) = waits ≡ None
WaitsAs numbers waits (awaiting children ended exc) = (id : ℕ) × (waits ≡ Some id) × (numbers id ≡ children)
WaitsAs numbers waits (at_end u e) = waits ≡ None

-- a task that stopped to wait for children waits for their nursery by its blocked state, and any other for none
pub task_state_waits : (numbers : Numbers) (book : NurseryBook) (task_state : TaskState) (stopped : Stopped) → IsTaskState numbers book task_state stopped →
    WaitsAs numbers (waits_of task_state) stopped
task_state_waits numbers book (ToBegin at) to_begin h = refl
task_state_waits numbers book (ToBegin at) (asking k p) h = absurd h
task_state_waits numbers book (ToBegin at) (asleep q n u) h = absurd h
task_state_waits numbers book (ToBegin at) (waiting_for event u) h = absurd h
task_state_waits numbers book (ToBegin at) (queued name a u steps) h = absurd h
task_state_waits numbers book (ToBegin at) (giving_up u) h = absurd h
task_state_waits numbers book (ToBegin at) (awaiting kids u exc) h = absurd h
task_state_waits numbers book (ToBegin at) (at_end u e) h = absurd h
task_state_waits numbers book (Asked kernel purpose) to_begin h = absurd h
task_state_waits numbers book (Asked kernel purpose) (asking k p) h = refl
task_state_waits numbers book (Asked kernel purpose) (asleep q n u) h = absurd h
task_state_waits numbers book (Asked kernel purpose) (waiting_for event u) h = absurd h
task_state_waits numbers book (Asked kernel purpose) (queued name a u steps) h = absurd h
task_state_waits numbers book (Asked kernel purpose) (giving_up u) h = absurd h
task_state_waits numbers book (Asked kernel purpose) (awaiting kids u exc) h = absurd h
task_state_waits numbers book (Asked kernel purpose) (at_end u e) h = absurd h
task_state_waits numbers book (Asleep paced ticks since) to_begin h = absurd h
task_state_waits numbers book (Asleep paced ticks since) (asking k p) h = absurd h
task_state_waits numbers book (Asleep paced ticks since) (asleep q n u) h = refl
task_state_waits numbers book (Asleep paced ticks since) (waiting_for event u) h = absurd h
task_state_waits numbers book (Asleep paced ticks since) (queued name a u steps) h = absurd h
task_state_waits numbers book (Asleep paced ticks since) (giving_up u) h = absurd h
task_state_waits numbers book (Asleep paced ticks since) (awaiting kids u exc) h = absurd h
task_state_waits numbers book (Asleep paced ticks since) (at_end u e) h = absurd h
task_state_waits numbers book (Waiting event since) to_begin h = absurd h
task_state_waits numbers book (Waiting event since) (asking k p) h = absurd h
task_state_waits numbers book (Waiting event since) (asleep q n u) h = absurd h
task_state_waits numbers book (Waiting event since) (waiting_for name u) h = refl
task_state_waits numbers book (Waiting event since) (queued name a u steps) h = absurd h
task_state_waits numbers book (Waiting event since) (giving_up u) h = absurd h
task_state_waits numbers book (Waiting event since) (awaiting kids u exc) h = absurd h
task_state_waits numbers book (Waiting event since) (at_end u e) h = absurd h
task_state_waits numbers book (Queued object ask since body) to_begin h = absurd h
task_state_waits numbers book (Queued object ask since body) (asking k p) h = absurd h
task_state_waits numbers book (Queued object ask since body) (asleep q n u) h = absurd h
task_state_waits numbers book (Queued object ask since body) (waiting_for event u) h = absurd h
task_state_waits numbers book (Queued object ask since body) (queued name a u steps) h = refl
task_state_waits numbers book (Queued object ask since body) (giving_up u) h = absurd h
task_state_waits numbers book (Queued object ask since body) (awaiting kids u exc) h = absurd h
task_state_waits numbers book (Queued object ask since body) (at_end u e) h = absurd h
task_state_waits numbers book (GivingUp since) to_begin h = absurd h
task_state_waits numbers book (GivingUp since) (asking k p) h = absurd h
task_state_waits numbers book (GivingUp since) (asleep q n u) h = absurd h
task_state_waits numbers book (GivingUp since) (waiting_for event u) h = absurd h
task_state_waits numbers book (GivingUp since) (queued name a u steps) h = absurd h
task_state_waits numbers book (GivingUp since) (giving_up u) h = refl
task_state_waits numbers book (GivingUp since) (awaiting kids u exc) h = absurd h
task_state_waits numbers book (GivingUp since) (at_end u e) h = absurd h
task_state_waits numbers book (Awaits id since) to_begin h = absurd h
task_state_waits numbers book (Awaits id since) (asking k p) h = absurd h
task_state_waits numbers book (Awaits id since) (asleep q n u) h = absurd h
task_state_waits numbers book (Awaits id since) (waiting_for event u) h = absurd h
task_state_waits numbers book (Awaits id since) (queued name a u steps) h = absurd h
task_state_waits numbers book (Awaits id since) (giving_up u) h = absurd h
task_state_waits numbers book (Awaits id since) (awaiting kids u exc) h = (id, refl, h.0)
task_state_waits numbers book (Awaits id since) (at_end u e) h = absurd h
task_state_waits numbers book Over to_begin h = absurd h
task_state_waits numbers book Over (asking k p) h = absurd h
task_state_waits numbers book Over (asleep q n u) h = absurd h
task_state_waits numbers book Over (waiting_for event u) h = absurd h
task_state_waits numbers book Over (queued name a u steps) h = absurd h
task_state_waits numbers book Over (giving_up u) h = absurd h
task_state_waits numbers book Over (awaiting kids u exc) h = absurd h
task_state_waits numbers book Over (at_end u e) h = refl
