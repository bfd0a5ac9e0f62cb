-- What holds of a task and its world between moves: the remaining steps can run, and its scopes and nurseries are open.
use Rattle.std.specs.Prelude.{◌≡◌, ◌≢◌, ◌⊎◌, ℕ, zero, suc, ◌+◌, ◌<◌, ◌≤◌, List, [], ◌∷◌, ◌++◌, Option, Some, None, IsSome, is_some, All, length, map, slice_get}
use Rattle.std.specs.Option.{ForSome, option_map}
use Rattle.std.specs.List.{last_or}
use Rattle.job_tree.specs.Starting.{starts_in_pass, StartsIn, HandlerStarts, CleanupStarts}
use Rattle.job_tree.specs.Tree as tree
use Rattle.turn_semantics.specs.Placed.{in_body}
use Rattle.job_tree.specs.declared.limits.TheConstants.{MAX_COPIES, MAX_PASSES}
use Rattle.job_tree.specs.InRange.{AreInRange, IsInRangeHandler, IsInRangeCleanup}
use Rattle.input_lines.specs.Part.{buffer_of}
use Rattle.input_lines.specs.declared.part.Part.{Part}
use Rattle.cancel_scopes.specs.Tree.{Stack, Tree, stack_of, IsOpen}
use Rattle.nursery_book.specs.Nursery.{End, Nursery as Members}
use Rattle.nursery_book.specs.Book.{HasNursery}
use Rattle.nursery_book.specs.declared.book.NurseryBook.{NurseryBook}
use Rattle.job_meaning.specs.Rest as rest
use Rattle.job_meaning.specs.declared.limits.TheConstants.{MAX_INPUT}
use Rattle.task_machine.specs.declared.frame.Frame.{Frame}
use Rattle.task_machine.specs.declared.frame.Frame.TheVariants.{Steps, Scope, Event, Token, Received, Nursery, Repeat, Try, Handler, Cleanup}
use Rattle.task_machine.specs.declared.stop.TaskState.{TaskState}
use Rattle.task_machine.specs.declared.stop.TaskState.TheVariants.{ToBegin, Asked, Asleep, Waiting, Queued, GivingUp, Awaits, Over}
use Rattle.task_machine.specs.declared.task.Home.{Home}
use Rattle.task_machine.specs.declared.task.Own.{Own}
use Rattle.task_machine.specs.Frames.{frames_of}
use Rattle.task_machine.specs.Left.{keys_of, OwnFirst}
use Rattle.task_machine.specs.Stacked.{IsKey}
use Rattle.task_machine.specs.Labels.{Labels}
use Rattle.task_machine.specs.States.{State}

-- there are enough cuts for all passes of a `repeat over`, but not too many
abbrev pub AreInRangeCuts : (last : ℕ) → (cuts : Option ℕ) → Type 0
AreInRangeCuts last None = Unit {0}
AreInRangeCuts last (Some k) = (last < k) × (k ≤ MAX_COPIES)

-- all numbers of the steps and of the passes that are left are in range
abbrev pub AreInRangeFrames : List rest.Frame → Type 0
AreInRangeFrames [] = Unit {0}
AreInRangeFrames (rest.steps_left ss ∷ fs) = AreInRange ss × AreInRangeFrames fs
AreInRangeFrames (rest.in_scope fail ∷ fs) = AreInRangeFrames fs
AreInRangeFrames (rest.in_event ∷ fs) = AreInRangeFrames fs
AreInRangeFrames (rest.with_token limiter ∷ fs) = AreInRangeFrames fs
AreInRangeFrames (rest.with_part received ∷ fs) = AreInRangeFrames fs
AreInRangeFrames (rest.in_nursery children ∷ fs) = AreInRangeFrames fs
AreInRangeFrames (rest.in_repeat pass left cuts body ∷ fs) =
    AreInRange body × (pass + left ≤ MAX_PASSES) × AreInRangeCuts (pass + left) cuts × AreInRangeFrames fs
AreInRangeFrames (rest.in_try handler cleanup ∷ fs) = IsInRangeHandler handler × IsInRangeCleanup cleanup × AreInRangeFrames fs
AreInRangeFrames (rest.in_handler others cleanup ∷ fs) = IsInRangeCleanup cleanup × AreInRangeFrames fs
AreInRangeFrames (rest.in_cleanup outcome ∷ fs) = AreInRangeFrames fs

-- the code has a cut for the pass of a `repeat over`
abbrev pub HasCut : Frame → Type 0
HasCut (Repeat pass left (Some k) body) = (pass < k) × (k ≤ MAX_COPIES)
HasCut _ = Unit {0}

-- the inputs of which these frames hold parts that were received, outermost first
abbrev pub received_in : List Frame → List (List ℕ)
received_in [] = []
received_in (Steps steps ∷ fs) = received_in fs
received_in (Scope fail ∷ fs) = received_in fs
received_in (Event ∷ fs) = received_in fs
received_in (Token limiter ∷ fs) = received_in fs
received_in (Received received ∷ fs) = buffer_of received ∷ received_in fs
received_in (Nursery id ∷ fs) = received_in fs
received_in (Repeat pass left cuts body ∷ fs) = received_in fs
received_in (Try handler cleanup ∷ fs) = received_in fs
received_in (Handler others cleanup ∷ fs) = received_in fs
received_in (Cleanup outcome ∷ fs) = received_in fs

-- each of these inputs is this one
abbrev pub AreOf : List ℕ → List (List ℕ) → Type 0
AreOf input [] = Unit {0}
AreOf input (other ∷ others) = (other ≡ input) × AreOf input others

-- and with one more frame inside them
abbrev pub received_inside : Frame → List (List ℕ) → List (List ℕ)
received_inside (Received received) inputs = inputs ++ buffer_of received ∷ []
received_inside _ inputs = inputs

-- each `start` that is left is directly in a nursery, or in a `repeat` there
abbrev pub StartsFit : List rest.Frame → Type 0
StartsFit [] = Unit {0}
StartsFit (rest.steps_left ss ∷ fs) = StartsIn (in_body fs) ss × StartsFit fs
StartsFit (rest.in_scope fail ∷ fs) = StartsFit fs
StartsFit (rest.in_event ∷ fs) = StartsFit fs
StartsFit (rest.with_token limiter ∷ fs) = StartsFit fs
StartsFit (rest.with_part received ∷ fs) = StartsFit fs
StartsFit (rest.in_nursery children ∷ fs) = StartsFit fs
StartsFit (rest.in_repeat pass left cuts body ∷ fs) = StartsIn (starts_in_pass (is_some cuts) (in_body fs)) body × StartsFit fs
StartsFit (rest.in_try handler cleanup ∷ fs) = HandlerStarts handler × CleanupStarts cleanup × StartsFit fs
StartsFit (rest.in_handler others cleanup ∷ fs) = CleanupStarts cleanup × StartsFit fs
StartsFit (rest.in_cleanup outcome ∷ fs) = StartsFit fs

-- a step with a block, which begins it or starts children with it
abbrev pub HasBody : tree.Step → Type 0
HasBody (tree.scope name deadline shield fail body) = Unit {0}
HasBody (tree.nursery name deadline shield body) = Unit {0}
HasBody (tree.event name body) = Unit {0}
HasBody (tree.object name kind body) = Unit {0}
HasBody (tree.start name over body) = Unit {0}
HasBody (tree.repeat count over body) = Unit {0}
HasBody (tree.attempt body handler cleanup) = Unit {0}
HasBody _ = ⊥

-- a block with a scope of its own: a scope, or an event, limiter or channel, or a nursery with its key
pub data Block : Type 0 where
  a_scope : Block
  a_nursery : (id : ℕ) → Block

-- those among frames, outermost first
abbrev pub blocks_of : List Frame → List Block
blocks_of [] = []
blocks_of (Steps steps ∷ fs) = blocks_of fs
blocks_of (Scope fail ∷ fs) = a_scope ∷ blocks_of fs
blocks_of (Event ∷ fs) = a_scope ∷ blocks_of fs
blocks_of (Token limiter ∷ fs) = blocks_of fs
blocks_of (Received received ∷ fs) = blocks_of fs
blocks_of (Nursery id ∷ fs) = a_nursery id ∷ blocks_of fs
blocks_of (Repeat pass left cuts body ∷ fs) = blocks_of fs
blocks_of (Try handler cleanup ∷ fs) = blocks_of fs
blocks_of (Handler others cleanup ∷ fs) = blocks_of fs
blocks_of (Cleanup outcome ∷ fs) = blocks_of fs

-- frames of steps and of passes
abbrev pub AreLoops : List Frame → Type 0
AreLoops [] = Unit {0}
AreLoops (Steps steps ∷ fs) = AreLoops fs
AreLoops (Repeat pass left cuts body ∷ fs) = AreLoops fs
AreLoops (_ ∷ fs) = ⊥

-- the innermost frame is in the body of this nursery, perhaps in a `repeat` there
pub record InBody (fs : List Frame) (id : ℕ) : Type 0 where
  pub outer : List Frame
  pub loops : List Frame
  pub are : AreLoops loops
  pub is : fs ≡ outer ++ Nursery id ∷ loops

-- and with one more frame inside them
abbrev pub block_in : Frame → List Block → List Block
block_in (Steps steps) bs = bs
block_in (Scope fail) bs = bs ++ a_scope ∷ []
block_in Event bs = bs ++ a_scope ∷ []
block_in (Token limiter) bs = bs
block_in (Received received) bs = bs
block_in (Nursery id) bs = bs ++ a_nursery id ∷ []
block_in (Repeat pass left cuts body) bs = bs
block_in (Try handler cleanup) bs = bs
block_in (Handler others cleanup) bs = bs
block_in (Cleanup outcome) bs = bs

-- each of these scopes is another than that of a key
abbrev pub AreOthers : ℕ → List Own → Type 0
AreOthers key own = All (λ (o : Own). o.id ≢ key) own

-- a nursery is in the book with the scope of this one that the task opened, and its label
pub record IsMine (labels : Labels) (own : Own) (n : Members) : Type 0 where
  pub scope : n.scope ≡ own.id
  pub label : labels own.id ≡ Some n.label

-- the scope of the nursery that the task waits for, if it does: the body of the nursery ended
abbrev pub IsAwaited : Labels → NurseryBook → List Own → Option ℕ → Type 0
IsAwaited labels book [] None = Unit {0}
IsAwaited labels book [] (Some id) = ⊥
IsAwaited labels book (o ∷ own) None = ⊥
IsAwaited labels book (o ∷ own) (Some id) = (own ≡ []) × HasNursery book id (λ n. IsMine labels o n × IsSome n.body)

-- a scope that the task opened is that of this block: it has a label, and a nursery is in the book and its body runs
abbrev pub IsBlockOf : Labels → NurseryBook → Block → Own → Type 0
IsBlockOf labels book a_scope o = IsSome (labels o.id)
IsBlockOf labels book (a_nursery id) o = HasNursery book id (λ n. IsMine labels o n × (n.body ≡ None))

-- The scopes that the task opened are those of its blocks, outermost first, followed by that of the nursery that it waits for.
abbrev pub Opened : Labels → NurseryBook → List Block → List Own → Option ℕ → Type 0
Opened labels book [] own waits = IsAwaited labels book own waits
Opened labels book (b ∷ bs) [] waits = ⊥
Opened labels book (b ∷ bs) (o ∷ own) waits = IsBlockOf labels book b o × AreOthers o.id own × Opened labels book bs own waits

-- some child of a nursery runs
abbrev pub AnyRuns : List End → Type 0
AnyRuns [] = ⊥
AnyRuns (None ∷ es) = Unit {0}
AnyRuns (Some e ∷ es) = AnyRuns es

abbrev pub HasRunning : NurseryBook → Option ℕ → Type 0
HasRunning book None = ⊥
HasRunning book (Some id) = HasNursery book id (λ n. AnyRuns n.children)

-- the nursery of the block at this index, or one inside it, has a child that runs
abbrev pub RunsIn : NurseryBook → List Block → ℕ → Option ℕ → Type 0
RunsIn book [] i waits = HasRunning book waits
RunsIn book (a_scope ∷ bs) zero waits = RunsIn book bs zero waits
RunsIn book (a_nursery id ∷ bs) zero waits = HasRunning book (Some id) ⊎ RunsIn book bs zero waits
RunsIn book (b ∷ bs) (suc i) waits = RunsIn book bs i waits

-- the nursery that a task in this blocked state waits for, if it does
abbrev pub waits_of : TaskState → Option ℕ
waits_of (ToBegin at) = None
waits_of (Asked kernel purpose) = None
waits_of (Asleep paced ticks since) = None
waits_of (Waiting event since) = None
waits_of (Queued object ask since body) = None
waits_of (GivingUp since) = None
waits_of (Awaits id since) = Some id
waits_of Over = None

-- a scope that another task opened is enclosed by one of this task's only if a child of the task runs inside that
abbrev pub OthersRun : Tree → NurseryBook → List Block → List Own → Option ℕ → Type 0
OthersRun tree book bs own waits =
    (key : ℕ) (st : Stack) → stack_of tree key ≡ Some st → AreOthers key own → (i : ℕ) (o : Own) → slice_get own i ≡ Some o →
    IsKey o.id st →
    RunsIn book bs i waits

-- each scope stays open, or closed, inside the same ones
abbrev pub SameKeys : Tree → Tree → Type 0
SameKeys old new = (key : ℕ) → option_map keys_of (stack_of new key) ≡ option_map keys_of (stack_of old key)

-- A task that has these frames, and opened these scopes inside its home's, can run what it has left, and its scopes and nurseries are
-- open in a world with these scopes, labels and nurseries. What it received is of this input. It entered the given number of scopes, and
-- waits for a nursery, or not.
pub record CanRun
    (input : List ℕ) (frames : List Frame) (within : Option ℕ) (own : List Own) (entered : ℕ) (tree : Tree) (labels : Labels) (book : NurseryBook)
    (waits : Option ℕ) : Type 0
  where
    pub in_range : AreInRangeFrames (frames_of (λ id. []) frames)
    pub lent : AreOf input (received_in frames)
    pub starts : StartsFit (frames_of (λ id. []) frames)
    pub home : ForSome within (IsOpen tree)
    pub scope : ForSome (last_or within (map (λ (o : Own). o.id) own)) (IsOpen tree)
    pub first : OwnFirst tree within own
    pub cancelled_from : All (λ (o : Own). o.at < entered) own
    pub opened : Opened labels book (blocks_of frames) own waits

-- What holds of it between moves: this, an input that is not too long, and that scopes of other tasks are inside its own only while a
-- child of it runs.
pub record FitsIn
    (frames : List Frame) (part : Part) (within : Option ℕ) (own : List Own) (entered : ℕ) (tree : Tree) (labels : Labels)
    (book : NurseryBook) (waits : Option ℕ) : Type 0
  where
    pub runs : CanRun (buffer_of part) frames within own entered tree labels book waits
    pub small : length (buffer_of part) ≤ MAX_INPUT
    pub others : OthersRun tree book (blocks_of frames) own waits

abbrev pub Fits : State → Option ℕ → Type 0
Fits s waits =
    FitsIn s.frames s.part (option_map (λ (h : Home). h.scope) s.home) s.own (length s.cancelled_from) s.tree s.labels s.book waits
