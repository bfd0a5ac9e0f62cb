-- A step of the code by the innermost frame of a task, as the definitions' step: one lemma for each kind of frame.
use Rattle.std.proofs.Common.{◌≡◌, ℕ, zero, suc, ◌<◌, Bool, true, false, Option, Some, None, List, [], ◌∷◌, ◌++◌, length, refl, ap, sym, ◌∙◌, subst, arith, Bor}
use Rattle.std.proofs.lemmas.List.{append-nil}
use Rattle.std.specs.Global.{Box}
use Rattle.std.specs.Option.{option_map, option_copied}
use Rattle.exceptions.specs.declared.exc.Exc as held
use Rattle.exceptions.specs.Held.{exc_of}
use Rattle.exceptions.specs.Exceptions.{Label, Exc}
use Rattle.exceptions.specs.Split.{named, keep, drop}
use Rattle.job_tree.specs.Tree as tree
use Rattle.job_tree.specs.Blocks.{steps_of, handled_of, cleaned_of}
use Rattle.job_tree.specs.declared.step.Step.{Step}
use Rattle.job_tree.specs.declared.step.Handler.{Handler as HandlerOf}
use Rattle.input_lines.specs.declared.part.Part.{Part}
use Rattle.cancel_scopes.specs.Tree.{Tree}
use Rattle.job_meaning.specs.Log.{Table}
use Rattle.job_meaning.specs.Walk.{handler_exc, outcome_after}
use Rattle.job_meaning.specs.Rest as rest
use Rattle.nursery_book.specs.Nursery.{with_body}
use Rattle.nursery_book.specs.Book.{Changes}
use Rattle.nursery_book.specs.declared.book.NurseryBook.{NurseryBook}
use Rattle.turn_semantics.specs.Midway.{Place, Move}
use Rattle.turn_semantics.specs.Steps.{onward, gives_token_back, step_pass, handler_if, step_try, step_frames, step_of}
use Rattle.task_machine.specs.declared.frame.Frame.{Frame}
use Rattle.task_machine.specs.declared.frame.Frame.TheVariants.{Steps, Scope, Event, Token, Received, Nursery, Repeat, Try, Handler, Cleanup}
use Rattle.task_machine.specs.declared.serving.Act.TheVariants.{GivesBack}
use Rattle.block_exits.specs.declared.kind.Kind.TheVariants as kind
use Rattle.task_machine.specs.declared.stop.TaskState.TheVariants.{Awaits, Over}
use Rattle.task_machine.specs.declared.stop.Moved.{Moved}
use Rattle.task_machine.specs.declared.stop.Moved.TheVariants.{On, Stops}
use Rattle.task_machine.specs.declared.stop.Stop.TheVariants.{Wait, Ended}
use Rattle.task_machine.specs.Acts.{Leaves, scoping_in}
use Rattle.task_machine.specs.Exits.{ExitsAt, LeavesEventAt, FailsAt}
use Rattle.task_machine.specs.Fitting.{Block, a_scope, a_nursery, blocks_of}
use Rattle.task_machine.specs.Frames.{unboxed_exc, frame_of, frames_onto, frames_of}
use Rattle.task_machine.specs.Standing.{Stands, Took, StepsAs, with_frames}
use Rattle.task_machine.specs.States.{State, here_at, now_at}
use Rattle.task_machine.specs.Stops.{Numbers}
use Rattle.task_machine.proofs.FrameLemmas.{frames_pushed}
use Rattle.task_machine.proofs.Nurseries.{blocks_pushed}
use Rattle.task_machine.proofs.Tooks.{took_onward, took_end, took_exit, took_event_left, took_token_back, took_body}

-- ---- the definitions' step by the innermost frame

-- what the definitions do by this frame, which was the innermost one, is their step
pub takes_step : (b u : State) (whole fs : List Frame) (f : Frame) (goes : Moved) (exc : Option Exc) → whole ≡ fs ++ f ∷ [] →
    ((cancelled_from : Table) (numbers : Numbers) (ps : List Place) (count : ℕ) → Stands (with_frames b whole) cancelled_from numbers None ps →
    Took (with_frames b whole) u goes cancelled_from numbers
    (step_frames cancelled_from (now_at b) (here_at b) (frame_of numbers f ∷ frames_of numbers fs) ps exc count)) →
    StepsAs (with_frames b whole) u exc goes
unfolding step_of
takes_step b u whole fs f goes exc popped takes cancelled_from numbers ps count stands =
    subst (λ (gs : List rest.Frame). Took (with_frames b whole) u goes cancelled_from numbers
    (step_frames cancelled_from (now_at b) (here_at b) gs ps exc count))
    (sym (frames_pushed numbers fs whole f popped)) (takes cancelled_from numbers ps count stands)

-- ---- the blocks among frames

-- the key of a nursery whose numbers are its key
abbrev key_in : List ℕ → List Block
key_in [] = []
key_in (id ∷ ns) = a_nursery id ∷ []

-- the blocks among frames whose nurseries have their keys as numbers, followed by others
abbrev pub blocks_onto : List rest.Frame → List Block → List Block
blocks_onto [] bs = bs
blocks_onto (rest.steps_left ss ∷ fs) bs = blocks_onto fs bs
blocks_onto (rest.in_scope fail ∷ fs) bs = blocks_onto fs (a_scope ∷ bs)
blocks_onto (rest.in_event ∷ fs) bs = blocks_onto fs (a_scope ∷ bs)
blocks_onto (rest.with_token limiter ∷ fs) bs = blocks_onto fs bs
blocks_onto (rest.with_part received ∷ fs) bs = blocks_onto fs bs
blocks_onto (rest.in_nursery ns ∷ fs) bs = blocks_onto fs (key_in ns ++ bs)
blocks_onto (rest.in_repeat pass left cuts body ∷ fs) bs = blocks_onto fs bs
blocks_onto (rest.in_try handler cleanup ∷ fs) bs = blocks_onto fs bs
blocks_onto (rest.in_handler others cleanup ∷ fs) bs = blocks_onto fs bs
blocks_onto (rest.in_cleanup outcome ∷ fs) bs = blocks_onto fs bs

abbrev pub own_keys : Numbers
own_keys id = id ∷ []

onto_keys : (fs : List Frame) (outer : List rest.Frame) (bs : List Block) →
    blocks_onto (frames_onto own_keys fs outer) bs ≡ blocks_onto outer (blocks_of fs ++ bs)
onto_keys [] outer bs = refl
onto_keys (Steps steps ∷ fs) outer bs = onto_keys fs (frame_of own_keys (Steps steps) ∷ outer) bs
onto_keys (Scope fail ∷ fs) outer bs = onto_keys fs (rest.in_scope fail ∷ outer) bs
onto_keys (Event ∷ fs) outer bs = onto_keys fs (rest.in_event ∷ outer) bs
onto_keys (Token limiter ∷ fs) outer bs = onto_keys fs (frame_of own_keys (Token limiter) ∷ outer) bs
onto_keys (Received part ∷ fs) outer bs = onto_keys fs (frame_of own_keys (Received part) ∷ outer) bs
onto_keys (Nursery id ∷ fs) outer bs = onto_keys fs (rest.in_nursery (id ∷ []) ∷ outer) bs
onto_keys (Repeat pass left cuts body ∷ fs) outer bs = onto_keys fs (frame_of own_keys (Repeat pass left cuts body) ∷ outer) bs
onto_keys (Try handler cleanup ∷ fs) outer bs = onto_keys fs (frame_of own_keys (Try handler cleanup) ∷ outer) bs
onto_keys (Handler others cleanup ∷ fs) outer bs = onto_keys fs (frame_of own_keys (Handler others cleanup) ∷ outer) bs
onto_keys (Cleanup outcome ∷ fs) outer bs = onto_keys fs (frame_of own_keys (Cleanup outcome) ∷ outer) bs

-- Frames determine their blocks. So a clause about frames for all numbers determines the blocks.
pub blocks_by : (fs : List Frame) → blocks_onto (frames_of own_keys fs) [] ≡ blocks_of fs
blocks_by fs = onto_keys fs [] [] ∙ append-nil (blocks_of fs)

-- frames with no block among them are put inside others, or taken off
pub blocks_same : (fs gs : List Frame) → blocks_onto (frames_of own_keys gs) [] ≡ blocks_onto (frames_of own_keys fs) [] →
    blocks_of gs ≡ blocks_of fs
blocks_same fs gs e = sym (blocks_by gs) ∙ e ∙ blocks_by fs

-- so the frames before a frame that is no block was taken off have the same blocks as those after
pub blocks_off : (fs gs : List Frame) (f : Frame) → gs ≡ fs ++ f ∷ [] → blocks_of (f ∷ []) ≡ [] → blocks_of fs ≡ blocks_of gs
blocks_off fs gs f e none = sym (blocks_pushed fs gs f e ∙ ap (λ (bs : List Block). blocks_of fs ++ bs) none ∙ append-nil (blocks_of fs))

-- ---- a task with no frame left, or in a block with a scope

-- a list of which nothing could be taken has nothing, and so has what it is without that
none_left : (fs : List Frame) → (0 < length fs → false ≡ true) → fs ≡ []
none_left [] none = refl
none_left (f ∷ fs) none = absurd (let e : false ≡ true = none (omega arith) in cc)

-- the task ends: no frame could be taken off
pub takes_end : (b u : State) (whole : List Frame) (tree : Tree) (exc : Option held.Exc) (goes : Moved) → whole ≡ b.frames ++ [] →
    (0 < length whole → false ≡ true) → goes ≡ Stops (Ended exc) → u ≡ record b { task_state = Over; tree = tree } →
    FailsAt b u (option_map exc_of exc) → StepsAs (with_frames b whole) u (option_map exc_of exc) goes
unfolding step_of
takes_end b u whole tree exc goes popped none goes_is stays fails cancelled_from numbers ps count stands =
    let e = option_map exc_of exc in
    let empty : whole ≡ [] = none_left whole none in
    subst (λ (m : Moved). Took (with_frames b whole) u m cancelled_from numbers
    (step_frames cancelled_from (now_at b) (here_at b) (frames_of numbers whole) ps e count)) (sym goes_is)
    (subst (λ (fs : List Frame). Took (with_frames b whole) u (Stops (Ended exc)) cancelled_from numbers
    (step_frames cancelled_from (now_at b) (here_at b) (frames_of numbers fs) ps e count)) (sym empty)
    (subst (λ (v : State). FailsAt b v e → Took (with_frames b whole) v (Stops (Ended exc)) cancelled_from numbers
    (step_frames cancelled_from (now_at b) (here_at b) [] ps e count)) (sym stays)
    (took_end b whole cancelled_from numbers None ps stands tree exc empty (sym (append-nil b.frames) ∙ sym popped ∙ empty)) fails))

-- the innermost scope is left
pub takes_exit : (b u : State) (whole : List Frame) (fail : Bool) (exc goes : Option held.Exc) → whole ≡ b.frames ++ Scope fail ∷ [] →
    u ≡ record b { own = u.own; cancelled_from = u.cancelled_from; entries = u.entries; tree = u.tree; labels = u.labels; events = u.events } →
    ExitsAt b u (kind.Scope fail) (option_map exc_of exc) (option_map exc_of goes) → Leaves (scoping_in b) (scoping_in u) →
    StepsAs (with_frames b whole) u (option_map exc_of exc) (On goes)
takes_exit b u whole fail exc goes popped stays exits one =
    takes_step b u whole b.frames (Scope fail) (On goes) (option_map exc_of exc) popped
    (λ cancelled_from numbers ps count stands.
    took_exit b whole cancelled_from numbers ps stands u fail exc goes count popped (ap (λ (s : State). s.frames) stays)
    (ap (λ (s : State). s.book) stays) (ap (λ (s : State). s.started) stays) (ap (λ (s : State). s.cancelled) stays)
    (ap (λ (s : State). s.acts) stays) exits one)

-- the innermost event is left
pub takes_event_left : (b u : State) (whole : List Frame) (exc : Option held.Exc) → whole ≡ b.frames ++ Event ∷ [] →
    u ≡ record b { own = u.own; cancelled_from = u.cancelled_from; tree = u.tree; labels = u.labels; events = u.events } → LeavesEventAt b u →
    Leaves (scoping_in b) (scoping_in u) → StepsAs (with_frames b whole) u (option_map exc_of exc) (On exc)
takes_event_left b u whole exc popped stays left one =
    takes_step b u whole b.frames Event (On exc) (option_map exc_of exc) popped
    (λ cancelled_from numbers ps count stands. took_event_left b whole cancelled_from numbers ps stands u exc count popped stays left one)

-- the block of an `acquire` has ended, and its token comes back
pub takes_token : (b u : State) (whole : List Frame) (limiter : Box Label) (exc : Option held.Exc) → whole ≡ b.frames ++ Token limiter ∷ [] →
    u ≡ record b { acts = b.acts ++ record { object = limiter.value; act = GivesBack } ∷ [] } →
    StepsAs (with_frames b whole) u (option_map exc_of exc) (On exc)
takes_token b u whole limiter exc popped stays =
    takes_step b u whole b.frames (Token limiter) (On exc) (option_map exc_of exc) popped
    (λ cancelled_from numbers ps count stands.
    subst (λ (v : State). Took (with_frames b whole) v (On exc) cancelled_from numbers
    (gives_token_back limiter.value b.tick (frames_of numbers b.frames) ps (option_map exc_of exc))) (sym stays)
    (took_token_back b whole cancelled_from numbers None ps stands limiter.value exc (blocks_off b.frames whole (Token limiter) popped refl)))

-- the body of the innermost nursery has ended
pub takes_body : (b u : State) (whole : List Frame) (id : ℕ) (tree : Tree) (book : NurseryBook) (exc : Option held.Exc) (goes : Moved) →
    whole ≡ b.frames ++ Nursery id ∷ [] → goes ≡ Stops (Wait id) →
    u ≡ record b { task_state = Awaits id b.tick; tree = tree; book = book } →
    Changes b.book book id (with_body (option_map exc_of exc) b.tick) →
    FailsAt b u (option_map exc_of exc) → StepsAs (with_frames b whole) u (option_map exc_of exc) goes
takes_body b u whole id tree book exc goes popped goes_is stays changes fails =
    takes_step b u whole b.frames (Nursery id) goes e popped
    (λ cancelled_from numbers ps count stands.
    subst (λ (m : Moved). Took (with_frames b whole) u m cancelled_from numbers
    (step_frames cancelled_from (now_at b) (here_at b) (rest.in_nursery (numbers id) ∷ frames_of numbers b.frames) ps e count)) (sym goes_is)
    (subst (λ (v : State). FailsAt b v e → Took (with_frames b whole) v (Stops (Wait id)) cancelled_from numbers
    (step_frames cancelled_from (now_at b) (here_at b) (rest.in_nursery (numbers id) ∷ frames_of numbers b.frames) ps e count)) (sym stays)
    (took_body b whole cancelled_from numbers ps stands id exc tree book count popped changes) fails))
  where
    e : Option Exc
    e = option_map exc_of exc

-- ---- a frame that is no block

-- the task continues with other frames, where the definitions do
pub takes_onward : (b u : State) (whole : List Frame) (f : Frame) (exc : Option Exc) (goes : Option held.Exc) → whole ≡ b.frames ++ f ∷ [] →
    blocks_of (f ∷ []) ≡ [] → u ≡ with_frames b u.frames → blocks_of u.frames ≡ blocks_of b.frames →
    ((cancelled_from : Table) (numbers : Numbers) (ps : List Place) (count : ℕ) →
    step_frames cancelled_from (now_at b) (here_at b) (frame_of numbers f ∷ frames_of numbers b.frames) ps exc count
    ≡ onward (frames_of numbers u.frames) ps (option_map exc_of goes)) →
    StepsAs (with_frames b whole) u exc (On goes)
takes_onward b u whole f exc goes popped none stays same step =
    takes_step b u whole b.frames f (On goes) exc popped
    (λ cancelled_from numbers ps count stands.
    subst (λ (v : State). Took (with_frames b whole) v (On goes) cancelled_from numbers
    (step_frames cancelled_from (now_at b) (here_at b) (frame_of numbers f ∷ frames_of numbers b.frames) ps exc count)) (sym stays)
    (took_onward b whole cancelled_from numbers None ps stands u.frames goes _ (same ∙ blocks_off b.frames whole f popped none)
    (step cancelled_from numbers ps count)))

-- ---- a task in a pass of a `repeat`

pass_blocks : (pass left : ℕ) (cuts : Option ℕ) (body : tree.Steps) (fs : List rest.Frame) (ps : List Place) (exc : Option Exc) →
    blocks_onto (step_pass pass left cuts body fs ps exc).frames [] ≡ blocks_onto fs []
pass_blocks pass left cuts body fs ps (Some e) = refl
pass_blocks pass zero cuts body fs ps None = refl
pass_blocks pass (suc k) cuts body fs ps None = refl

-- a pass of the code that has ended is one step of the definitions: the next one begins, or none
pub takes_pass : (b u : State) (whole : List Frame) (pass left : ℕ) (cuts : Option ℕ) (body : Bor tree.Steps) (exc goes : Option held.Exc) →
    whole ≡ b.frames ++ Repeat pass left cuts body ∷ [] → u ≡ with_frames b u.frames →
    ((numbers : Numbers) (ps : List Place) → step_pass pass left cuts body.now (frames_of numbers b.frames) ps (option_map exc_of exc)
    ≡ onward (frames_of numbers u.frames) ps (option_map exc_of goes)) →
    StepsAs (with_frames b whole) u (option_map exc_of exc) (On goes)
takes_pass b u whole pass left cuts body exc goes popped stays step =
    takes_onward b u whole (Repeat pass left cuts body) (option_map exc_of exc) goes popped refl stays
    (blocks_same b.frames u.frames (sym (ap (λ (o : Move). blocks_onto o.frames []) (step own_keys []))
    ∙ pass_blocks pass left cuts body.now (frames_of own_keys b.frames) [] (option_map exc_of exc)))
    (λ cancelled_from numbers ps count. step numbers ps)

-- ---- a task in a `try`

if_blocks : (o others : Option Exc) (e : Exc) (body : tree.Steps) (cleanup : tree.Cleaned) (fs : List rest.Frame) (ps : List Place) →
    blocks_onto (handler_if o others e body cleanup fs ps).frames [] ≡ blocks_onto fs []
if_blocks None others e body cleanup fs ps = refl
if_blocks (Some x) others e body cleanup fs ps = refl

try_blocks : (handler : tree.Handled) (cleanup : tree.Cleaned) (fs : List rest.Frame) (ps : List Place) (exc : Option Exc) →
    blocks_onto (step_try handler cleanup fs ps exc).frames [] ≡ blocks_onto fs []
try_blocks tree.unhandled tree.uncleaned fs ps exc = refl
try_blocks tree.unhandled (tree.finally body) fs ps exc = refl
try_blocks (tree.except name body) cleanup fs ps None = refl
try_blocks (tree.except name body) cleanup fs ps (Some e) = if_blocks (keep (named name) e) (drop (named name) e) e body cleanup fs ps

-- its body has ended
pub takes_try : (b u : State) (whole : List Frame) (handler : Option (Bor HandlerOf)) (cleanup : Bor (Option tree.Steps))
    (exc goes : Option held.Exc) → whole ≡ b.frames ++ Try handler cleanup ∷ [] → u ≡ with_frames b u.frames →
    ((numbers : Numbers) (ps : List Place) → step_try (handled_of (option_copied handler)) (cleaned_of cleanup.now)
    (frames_of numbers b.frames) ps (option_map exc_of exc)
    ≡ onward (frames_of numbers u.frames) ps (option_map exc_of goes)) →
    StepsAs (with_frames b whole) u (option_map exc_of exc) (On goes)
takes_try b u whole handler cleanup exc goes popped stays step =
    takes_onward b u whole (Try handler cleanup) (option_map exc_of exc) goes popped refl stays
    (blocks_same b.frames u.frames (sym (ap (λ (o : Move). blocks_onto o.frames []) (step own_keys []))
    ∙ try_blocks (handled_of (option_copied handler)) (cleaned_of cleanup.now) (frames_of own_keys b.frames) [] (option_map exc_of exc)))
    (λ cancelled_from numbers ps count. step numbers ps)

-- its handler has ended
pub takes_handler : (b u : State) (whole : List Frame) (others : Option (Box held.Exc)) (cleanup : Bor (Option tree.Steps))
    (exc goes : Option held.Exc) → whole ≡ b.frames ++ Handler others cleanup ∷ [] → u ≡ with_frames b u.frames →
    ((numbers : Numbers) → frames_of numbers u.frames ≡ rest.in_try tree.unhandled (cleaned_of cleanup.now) ∷ frames_of numbers b.frames) →
    option_map exc_of goes ≡ handler_exc (option_map exc_of exc) (option_map exc_of (unboxed_exc others)) →
    StepsAs (with_frames b whole) u (option_map exc_of exc) (On goes)
takes_handler b u whole others cleanup exc goes popped stays held raised =
    takes_onward b u whole (Handler others cleanup) (option_map exc_of exc) goes popped refl stays
    (blocks_same b.frames u.frames (ap (λ (fs : List rest.Frame). blocks_onto fs []) (held own_keys)))
    (λ cancelled_from numbers ps count.
    ap (λ (fs : List rest.Frame). onward fs ps (handler_exc (option_map exc_of exc) (option_map exc_of (unboxed_exc others)))) (sym (held numbers))
    ∙ ap (λ (e : Option Exc). onward (frames_of numbers u.frames) ps e) (sym raised))

-- the block of a `receive` has ended
pub takes_received : (b : State) (whole : List Frame) (part : Part) (exc : Option held.Exc) → whole ≡ b.frames ++ Received part ∷ [] →
    StepsAs (with_frames b whole) b (option_map exc_of exc) (On exc)
takes_received b whole part exc popped =
    takes_onward b b whole (Received part) (option_map exc_of exc) exc popped refl refl refl (λ cancelled_from numbers ps count. refl)

-- its cleanup has ended
pub takes_cleanup : (b : State) (whole : List Frame) (outcome : Option (Box held.Exc)) (exc goes : Option held.Exc) →
    whole ≡ b.frames ++ Cleanup outcome ∷ [] → option_map exc_of goes
    ≡ outcome_after (option_map exc_of (unboxed_exc outcome)) (option_map exc_of exc) →
    StepsAs (with_frames b whole) b (option_map exc_of exc) (On goes)
takes_cleanup b whole outcome exc goes popped raised =
    takes_onward b b whole (Cleanup outcome) (option_map exc_of exc) goes popped refl refl refl
    (λ cancelled_from numbers ps count. ap (λ (e : Option Exc). onward (frames_of numbers b.frames) ps e) (sym raised))

-- ---- a task at the end of steps

-- an exception skips what is left of them
pub takes_skipped : (b : State) (steps : Bor (List Step)) (exc : Option held.Exc) (e : held.Exc) → exc ≡ Some e →
    StepsAs (with_frames b (b.frames ++ Steps steps ∷ [])) b (option_map exc_of exc) (On (Some e))
takes_skipped b steps exc e is =
    subst (λ (x : Option held.Exc). StepsAs (with_frames b (b.frames ++ Steps steps ∷ [])) b (option_map exc_of x) (On (Some e))) (sym is)
    (takes_onward b b (b.frames ++ Steps steps ∷ []) (Steps steps) (Some (exc_of e)) (Some e) refl refl refl refl
    (λ cancelled_from numbers ps count. refl))

-- none is left, and nothing was raised
pub takes_last : (b : State) (steps : Bor (List Step)) (exc : Option held.Exc) → steps.now ≡ [] → exc ≡ None →
    StepsAs (with_frames b (b.frames ++ Steps steps ∷ [])) b (option_map exc_of exc) (On None)
takes_last b steps exc none well =
    subst (λ (x : Option held.Exc). StepsAs (with_frames b (b.frames ++ Steps steps ∷ [])) b (option_map exc_of x) (On None)) (sym well)
    (takes_onward b b (b.frames ++ Steps steps ∷ []) (Steps steps) None None refl refl refl refl
    (λ cancelled_from numbers ps count.
    ap (λ (ss : List Step). step_frames cancelled_from (now_at b) (here_at b)
    (rest.steps_left (steps_of ss) ∷ frames_of numbers b.frames) ps None count)
    none))

-- where nothing was raised
pub takes_well : (s u : State) (goes : Moved) (exc : Option held.Exc) → exc ≡ None → StepsAs s u None goes →
    StepsAs s u (option_map exc_of exc) goes
takes_well s u goes exc is takes = subst (λ (x : Option held.Exc). StepsAs s u (option_map exc_of x) goes) (sym is) takes
