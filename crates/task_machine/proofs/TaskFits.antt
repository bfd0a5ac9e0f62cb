-- What holds of a task and its world between moves, by what each step says.
use Rattle.std.proofs.Common.{◌≡◌, ◌≢◌, ◌<◌, ℕ, zero, suc, ◌+◌, ◌*◌, ◌≤◌, Bool, true, false, Option, Some, None, List, [], ◌∷◌, ◌++◌, length, length-append, append-nil, refl, ap, sym, ◌∙◌, subst, arith}
use Rattle.std.proofs.Math.Nat.{suc-mul}
use Rattle.std.proofs.lemmas.List.{length-set}
use Rattle.std.proofs.lemmas.Option.{none-some}
use Rattle.std.specs.Prelude.{IsSome, is_some, All}
use Rattle.std.specs.Option.{IsSomeAnd, option_map}
use Rattle.std.specs.List.{last_or}
use Rattle.input_lines.specs.Part.{buffer_of}
use Rattle.cancel_scopes.specs.Sight.{Tick}
use Rattle.cancel_scopes.specs.Tree.{Tree, IsChain, IsOwn, IsApart}
use Rattle.job_meaning.specs.Rest as rest
use Rattle.job_tree.specs.declared.limits.TheConstants.{MAX_PASSES}
use Rattle.job_tree.specs.InRange.{AreInRange, IsInRangeHandler, IsInRangeCleanup, IsInRangePasses}
use Rattle.job_tree.specs.Starting.{StartsIn, HandlerStarts, CleanupStarts, starts_in_pass}
use Rattle.job_tree.specs.Tree.{Steps}
use Rattle.job_tree.specs.Tree as tree
use Rattle.exceptions.specs.Split.{named, keep, drop}
use Rattle.turn_semantics.specs.Midway.{Place, Move}
use Rattle.turn_semantics.specs.Steps.{onward, begins_passes, step_pass, handler_if, step_try}
use Rattle.turn_semantics.specs.Bound.{turn_length, frames_length}
use Rattle.turn_semantics.specs.Placed.{in_body}
use Rattle.exceptions.specs.Exceptions.{Label, Exc}
use Rattle.nursery_book.specs.Nursery.{End, Nursery as Members, with_body}
use Rattle.nursery_book.specs.Book.{nursery_at, HasNursery, Updates, Changes}
use Rattle.nursery_book.specs.declared.book.NurseryBook.{NurseryBook}
use Rattle.task_machine.specs.declared.entry.ScopeFrom.{ScopeFrom}
use Rattle.task_machine.specs.declared.frame.Frame.{Frame}
use Rattle.task_machine.specs.declared.frame.Frame.TheVariants.{Nursery}
use Rattle.task_machine.specs.declared.stop.TaskState.{TaskState}
use Rattle.task_machine.specs.declared.stop.TaskState.TheVariants.{Awaits}
use Rattle.task_machine.specs.declared.stop.Wake.TheVariants.{Settled}
use Rattle.task_machine.specs.declared.task.Home.{Home}
use Rattle.task_machine.specs.declared.task.Own.{Own}
use Rattle.task_machine.specs.Acts.{Enters, Leaves, scoping_in}
use Rattle.task_machine.specs.Entered.{EntersBlock, EntersNursery}
use Rattle.task_machine.specs.Fitting.{Block, a_scope, a_nursery, blocks_of, received_in, AreOf, IsMine, Opened, AreInRangeFrames, StartsFit, IsBlockOf, SameKeys, FitsIn, Fits, waits_of, AreInRangeCuts, HasCut}
use Rattle.task_machine.specs.Frames.{frame_of, frames_of}
use Rattle.task_machine.specs.Labels.{Labels}
use Rattle.task_machine.specs.Left.{OwnFirst}
use Rattle.task_machine.specs.Standing.{with_frames}
use Rattle.task_machine.specs.States.{State, scope_at, lent_at}
use Rattle.task_machine.specs.Waking.{WakesFrom}
use Rattle.task_machine.proofs.Fits.{Ready, fits_frames}
use Rattle.task_machine.proofs.Blocks.{blocks_append, IsScope, scope_block, scope_received, range_inner, starts_inner}
use Rattle.task_machine.proofs.Bodies.{body_block}
use Rattle.task_machine.proofs.FrameLemmas.{frames_push, has_cuts, lent_before}
use Rattle.task_machine.proofs.Kept.{fits_signed, fits_entered, fits_left, fits_awaits}
use Rattle.task_machine.proofs.Leaves.{top_of}
use Rattle.task_machine.proofs.OwnLemmas.{ids, last_pushed}
use Rattle.task_machine.proofs.Stacked.{one_of}
use Rattle.task_machine.proofs.Settles.{ready_settled, fits_settled, fits_started}
use Rattle.task_machine.proofs.TooksEntered.{entered_frames, entered_blocks, entered_received}

-- the laws of the open scopes
pub record Laws (tree : Tree) : Type 0 where
  pub chain : IsChain tree
  pub own : IsOwn tree
  pub apart : IsApart tree

-- the scope of the home nursery, if there is one
abbrev pub home_in : State → Option ℕ
home_in s = option_map (λ (h : Home). h.scope) s.home

-- ---- a scope that is left

-- a task whose nursery is settled may leave its scope
pub ready_awaits : (s : State) (id since : ℕ) → Laws s.tree → s.task_state ≡ Awaits id since → WakesFrom s.task_state (lent_at s) s.book Settled →
    Fits s (waits_of s.task_state) → Ready (home_in s) s.own s.tree s.labels
ready_awaits s id since laws is wake h =
    ready_settled s.frames id s.part (home_in s) s.own (length s.cancelled_from) s.tree s.labels s.book laws.chain laws.own laws.apart
    (subst (λ (x : TaskState). WakesFrom x (lent_at s) s.book Settled) is wake) (subst (λ (x : TaskState). Fits s (waits_of x)) is h)

-- as many moments of cancellation as before
same_cancelled_from : (s u : State) (l : Leaves (scoping_in s) (scoping_in u)) → length u.cancelled_from ≡ length s.cancelled_from
same_cancelled_from s u l = ap (λ (fs : List ScopeFrom). length fs) l.cancelled_from ∙ length-set s.cancelled_from l.scope.at (record l.entry { seen = l.from })

-- what holds of a task is kept when the nursery that it waited for is closed and its scope is left
pub settled_fits : (s u : State) (book : NurseryBook) (id since : ℕ) → Laws s.tree → s.task_state ≡ Awaits id since →
    WakesFrom s.task_state (lent_at s) s.book Settled → Fits s (waits_of s.task_state) → Updates s.book book id None →
    (l : Leaves (scoping_in s) (scoping_in u)) → OwnFirst u.tree (home_in s) u.own →
    u ≡ record s { own = u.own; cancelled_from = u.cancelled_from; entries = u.entries; tree = u.tree; labels = u.labels; events = u.events; book = book } → Fits u None
settled_fits s u book id since laws is wake h ended l first stays =
    subst (λ (x : State). Fits x None) (sym stays)
    (subst (λ (n : ℕ). FitsIn s.frames s.part (home_in s) u.own n u.tree u.labels book None) (sym (same_cancelled_from s u l))
    (fits_settled s.frames id s.part (home_in s) u.own l.scope (length s.cancelled_from) s.tree u.tree s.labels u.labels s.book book
    laws.chain laws.own laws.apart
    (top_of s.tree laws.chain laws.own (home_in s) s.own u.own l.scope l.taken (waits.runs.scope l.scope.id last) waits.runs.first last) l.closed
    l.others l.unlabelled first (subst (λ (x : TaskState). WakesFrom x (lent_at s) s.book Settled) is wake) ended
    (subst (λ (own : List Own). FitsIn s.frames s.part (home_in s) own (length s.cancelled_from) s.tree s.labels s.book (Some id)) l.taken waits)))
  where
    waits : Fits s (Some id)
    waits = subst (λ (x : TaskState). Fits s (waits_of x)) is h

    last : last_or (home_in s) (ids s.own) ≡ Some l.scope.id
    last = last_pushed (home_in s) u.own s.own l.scope l.taken

-- what holds of a task is kept when it leaves the scope or event that is its innermost block
pub exited_fits : (f : Frame) → IsScope f → (s u : State) → Laws s.tree → Fits (with_frames s (s.frames ++ f ∷ [])) None →
    (l : Leaves (scoping_in s) (scoping_in u)) → OwnFirst u.tree (home_in s) u.own →
    u ≡ record s { own = u.own; cancelled_from = u.cancelled_from; entries = u.entries; tree = u.tree; labels = u.labels; events = u.events } → Fits u None
exited_fits f is s u laws h l first stays =
    subst (λ (x : State). Fits x None) (sym stays)
    (subst (λ (n : ℕ). FitsIn s.frames s.part (home_in s) u.own n u.tree u.labels s.book None) (sym (same_cancelled_from s u l))
    (fits_left s.frames f is s.part (home_in s) u.own l.scope (length s.cancelled_from) s.tree u.tree s.labels u.labels s.book laws.chain laws.own
    laws.apart
    (top_of s.tree laws.chain laws.own (home_in s) s.own u.own l.scope l.taken (h.runs.scope l.scope.id last) h.runs.first last) l.closed l.others
    l.unlabelled first
    (subst (λ (own : List Own). FitsIn (s.frames ++ f ∷ []) s.part (home_in s) own (length s.cancelled_from) s.tree s.labels s.book None)
    l.taken h)))
  where
    last : last_or (home_in s) (ids s.own) ≡ Some l.scope.id
    last = last_pushed (home_in s) u.own s.own l.scope l.taken

-- ---- a body that ended, and a task

-- scopes were signed, and the nursery's body ended
pub waits_fits : (id : ℕ) (exc : Option Exc) (at : ℕ) (s u : State) → Fits (with_frames s (s.frames ++ Nursery id ∷ [])) None →
    SameKeys s.tree u.tree → Changes s.book u.book id (with_body exc at) →
    u ≡ record s { task_state = u.task_state; tree = u.tree; book = u.book } → Fits u (Some id)
waits_fits id exc at s u h same changes stays =
    subst (λ (x : State). Fits x (Some id)) (sym stays)
    (fits_signed s.frames s.part (home_in s) s.own (length s.cancelled_from) s.tree u.tree s.labels u.book (Some id) same
    (fits_awaits s.frames id s.part (home_in s) s.own (length s.cancelled_from) s.tree s.labels s.book u.book exc at changes h))

-- scopes were signed
pub signed_fits : (s u : State) (waits : Option ℕ) → Fits s waits → SameKeys s.tree u.tree →
    u ≡ record s { task_state = u.task_state; tree = u.tree } → Fits u waits
signed_fits s u waits h same stays =
    subst (λ (x : State). Fits x waits) (sym stays)
    (fits_signed s.frames s.part (home_in s) s.own (length s.cancelled_from) s.tree u.tree s.labels s.book waits same h)

-- a scope was signed by a task that keeps its label
pub cancelled_fits : (s u : State) (waits : Option ℕ) → Fits s waits → SameKeys s.tree u.tree →
    u ≡ record s { tree = u.tree; cancelled = u.cancelled } → Fits u waits
cancelled_fits s u waits h same stays =
    subst (λ (x : State). Fits x waits) (sym stays)
    (fits_signed s.frames s.part (home_in s) s.own (length s.cancelled_from) s.tree u.tree s.labels s.book waits same h)

-- something was done to a limiter or channel
pub acted_fits : (s u : State) (waits : Option ℕ) → Fits s waits → u ≡ record s { acts = u.acts } → Fits u waits
acted_fits s u waits h stays = subst (λ (x : State). Fits x waits) (sym stays) h

-- an event was set by a task that keeps its label
pub set_fits : (s u : State) (waits : Option ℕ) → Fits s waits → u ≡ record s { events = u.events; set = u.set; cancelled = u.cancelled } →
    Fits u waits
set_fits s u waits h stays = subst (λ (x : State). Fits x waits) (sym stays) h

-- ---- frames alone

-- what was received is of the input of the task still without the innermost frame
pub lent_off : (s : State) (f : Frame) → Fits (with_frames s (s.frames ++ f ∷ [])) None → AreOf (buffer_of s.part) (received_in s.frames)
lent_off s f h = lent_before (buffer_of s.part) s.frames f h.runs.lent

-- what holds of a task is kept with other frames of the same blocks that can run
pub frames_fit : (s : State) (whole : List Frame) (u : State) → Fits (with_frames s whole) None → blocks_of u.frames ≡ blocks_of whole →
    AreInRangeFrames (frames_of (λ id. []) u.frames) → AreOf (buffer_of s.part) (received_in u.frames) →
    StartsFit (frames_of (λ id. []) u.frames) → u ≡ with_frames s u.frames → Fits u None
frames_fit s whole u h same in_range lent starts stays =
    subst (λ (x : State). Fits x None) (sym stays)
    (fits_frames whole u.frames s.part (home_in s) s.own (length s.cancelled_from) s.tree s.labels s.book same in_range lent starts h)

-- the blocks without an innermost frame that is no block
blocks_but : (fs : List Frame) (f : Frame) → blocks_of (f ∷ []) ≡ [] → blocks_of fs ≡ blocks_of (fs ++ f ∷ [])
blocks_but fs f none = sym (blocks_append fs (f ∷ []) ∙ ap (λ (bs : List Block). blocks_of fs ++ bs) none ∙ append-nil (blocks_of fs))

-- ---- a scope that is entered

-- what holds of a task is kept when it enters one more block, whatever that is
pub entered_fits : (b : Block) (label : Label) (s u : State) → Laws s.tree → Fits s None → {is_event : Bool} → {deadline : Tick} →
    (e : Enters (scope_at s) label is_event deadline (scoping_in s) (scoping_in u)) →
    ((id : ℕ) (m : Members) → nursery_at s.book id ≡ Some m → nursery_at u.book id ≡ Some m) → IsBlockOf u.labels u.book b e.scope →
    blocks_of u.frames ≡ blocks_of s.frames ++ b ∷ [] → AreInRangeFrames (frames_of (λ id. []) u.frames) →
    received_in u.frames ≡ received_in s.frames → StartsFit (frames_of (λ id. []) u.frames) → u.part ≡ s.part → u.home ≡ s.home → Fits u None
entered_fits b label s u laws h e stay block blocks in_range received starts part home =
    rw (part, home, cancelled_from, e.opened)
    (fits_entered s.frames u.frames b s.part (home_in s) s.own e.scope (length s.cancelled_from) s.tree u.tree s.labels u.labels s.book
    u.book label e.level laws.chain e.fresh e.stack e.named e.others e.labelled e.index stay block blocks in_range
    (subst (AreOf (buffer_of s.part)) (sym received) h.runs.lent) starts h)
  where
    cancelled_from : length u.cancelled_from ≡ suc (length s.cancelled_from)
    cancelled_from =
        ap (λ (fs : List ScopeFrom). length fs) e.cancelled_from
        ∙ (let f = length-append s.cancelled_from (record { label = label; seen = None } ∷ []) in omega (arith, f))

-- what holds of a task is kept when it enters a scope or event
pub scope_fits : (f : Frame) → IsScope f → (body : Steps) (label : Label) (s u : State) → Laws s.tree → Fits s None → {is_event : Bool} →
    {deadline : Tick} → Enters (scope_at s) label is_event deadline (scoping_in s) (scoping_in u) → EntersBlock s.frames u.frames f body →
    AreInRange body → StartsIn false body → u.book ≡ s.book → u.part ≡ s.part → u.home ≡ s.home → Fits u None
scope_fits f is body label s u laws h e inside in_range starts book part home =
    entered_fits a_scope label s u laws h e (λ id m at. ap (λ (b : NurseryBook). nursery_at b id) book ∙ at)
    (subst IsSome (sym e.labelled.changed) refl)
    (entered_blocks s.frames u.frames f inside.top body inside.block inside.frames
    ∙ ap (λ (bs : List Block). blocks_of s.frames ++ bs) (scope_block f is))
    (subst AreInRangeFrames (sym (entered_frames (λ id. []) s.frames u.frames f inside.top body inside.block inside.frames))
    (in_range, range_inner (λ id. []) f _ is h.runs.in_range))
    (entered_received s.frames u.frames f inside.top body inside.block inside.frames ∙ scope_received f is (received_in s.frames))
    (subst StartsFit (sym (entered_frames (λ id. []) s.frames u.frames f inside.top body inside.block inside.frames))
    (starts_inner (λ id. []) f body _ is starts h.runs.starts)) part home

-- what holds of a task is kept when it enters a nursery
pub nursery_fits : (me : ℕ) (body : Steps) (label : Label) (s u : State) → Laws s.tree → Fits s None → {is_event : Bool} →
    {deadline : Tick} → Enters (scope_at s) label is_event deadline (scoping_in s) (scoping_in u) → EntersNursery me s u label body → AreInRange body →
    StartsIn true body → u.part ≡ s.part → u.home ≡ s.home → Fits u None
nursery_fits me body label s u laws h e n in_range starts part home =
    entered_fits (a_nursery n.id) label s u laws h e (λ id m at. n.stands.others id (differs id m at) ∙ at)
    (subst (λ (m : Option Members). IsSomeAnd m (λ x. IsMine u.labels e.scope x × (x.body ≡ None))) (sym n.stands.changed)
    (record { scope = same; label = e.labelled.changed }, refl))
    (entered_blocks s.frames u.frames (Nursery n.id) n.frames.top body n.frames.block n.frames.frames)
    (subst AreInRangeFrames
    (sym (entered_frames (λ id. []) s.frames u.frames (Nursery n.id) n.frames.top body n.frames.block n.frames.frames)) (in_range, h.runs.in_range))
    (entered_received s.frames u.frames (Nursery n.id) n.frames.top body n.frames.block n.frames.frames)
    (subst StartsFit (sym (entered_frames (λ id. []) s.frames u.frames (Nursery n.id) n.frames.top body n.frames.block n.frames.frames))
    (starts, h.runs.starts)) part home
  where
    differs : (id : ℕ) (m : Members) → nursery_at s.book id ≡ Some m → id ≢ n.id
    differs id m at f = none-some m (sym n.fresh ∙ sym (ap (nursery_at s.book) f) ∙ at)

    same : n.scope ≡ e.scope.id
    same = one_of n.scope e.scope.id (sym n.inner ∙ last_pushed (home_in u) s.own u.own e.scope e.opened)

-- a turn has more steps to go once a block is entered: those of its body and one that leaves it
pub block_length : (fs gs : List Frame) (exit : Frame) (body : Steps) → EntersBlock fs gs exit body →
    frames_length (frames_of (λ id. []) gs) ≡ frames_length (rest.steps_left body ∷ frame_of (λ id. []) exit ∷ frames_of (λ id. []) fs)
block_length fs gs exit body e = ap frames_length (entered_frames (λ id. []) fs gs exit e.top body e.block e.frames)

-- ---- children that are started

-- what holds of a task is kept when children are started in a nursery
pub started_fits : (id : ℕ) (m : Members) (more : List End) (s u : State) → Fits s None → nursery_at s.book id ≡ Some m →
    Updates s.book u.book id (Some (record m { children = m.children ++ more })) →
    u ≡ record s { book = u.book; started = u.started } → Fits u None
started_fits id m more s u h was put world =
    subst (λ (x : State). Fits x None) (sym world)
    (fits_started s.frames id s.part (home_in s) s.own (length s.cancelled_from) s.tree s.labels s.book u.book m more was put h)

-- ---- the steps of a block

-- what holds of a state is held without the innermost frame, which is no block
pub frame_off : (s : State) (f : Frame) → blocks_of (f ∷ []) ≡ [] → Fits (with_frames s (s.frames ++ f ∷ [])) None →
    AreInRangeFrames (frames_of (λ id. []) s.frames) → StartsFit (frames_of (λ id. []) s.frames) → Fits s None
frame_off s f none h in_range starts = frames_fit s (s.frames ++ f ∷ []) s h (blocks_but s.frames f none) in_range (lent_off s f h) starts refl

-- what holds of the frames with one more
pub in_range_with : (s : State) (f : Frame) → Fits (with_frames s (s.frames ++ f ∷ [])) None →
    AreInRangeFrames (frame_of (λ id. []) f ∷ frames_of (λ id. []) s.frames)
in_range_with s f h = subst AreInRangeFrames (frames_push (λ id. []) s.frames f) h.runs.in_range

-- each `start` in the frames with one more is directly in a nursery
pub starts_with : (s : State) (f : Frame) → Fits (with_frames s (s.frames ++ f ∷ [])) None →
    StartsFit (frame_of (λ id. []) f ∷ frames_of (λ id. []) s.frames)
starts_with s f h = subst StartsFit (frames_push (λ id. []) s.frames f) h.runs.starts

turn_some : (ss : Steps) → 0 < turn_length ss
turn_some tree.stop = omega arith
turn_some (tree.step s ss) = (let e = turn_some ss in omega (arith, e))

-- a turn has more steps to go with the steps of a block left than without them
pub steps_longer : (fs : List Frame) (f : Frame) (ss : Steps) → frame_of (λ id. []) f ≡ rest.steps_left ss →
    frames_length (frames_of (λ id. []) fs) < frames_length (frames_of (λ id. []) (fs ++ f ∷ []))
steps_longer fs f ss e =
    (let g = ap frames_length (frames_push (λ id. []) fs f ∙ ap (λ (x : rest.Frame). x ∷ frames_of (λ id. []) fs) e) in let k =
    turn_some ss in omega (arith, g, k))

-- another frame instead of the innermost one, neither of them a block
pub pushed_fits : (s u : State) (f g : Frame) → blocks_of (f ∷ []) ≡ [] → Fits (with_frames s (s.frames ++ f ∷ [])) None →
    blocks_of u.frames ≡ blocks_of s.frames → received_in u.frames ≡ received_in s.frames →
    frames_of (λ id. []) u.frames ≡ frame_of (λ id. []) g ∷ frames_of (λ id. []) s.frames →
    AreInRangeFrames (frame_of (λ id. []) g ∷ frames_of (λ id. []) s.frames) →
    StartsFit (frame_of (λ id. []) g ∷ frames_of (λ id. []) s.frames) → u ≡ with_frames s u.frames → Fits u None
pushed_fits s u f g none h blocks received frames in_range starts stays =
    frames_fit s (s.frames ++ f ∷ []) u h (blocks ∙ blocks_but s.frames f none) (subst AreInRangeFrames (sym frames) in_range)
    (subst (AreOf (buffer_of s.part)) (sym received) (lent_off s f h)) (subst StartsFit (sym frames) starts) stays

-- ---- the innermost frame is popped

-- what holds with a frame, whatever it is known as
pub popped_fits : (s : State) (whole : List Frame) (f g : Frame) → whole ≡ s.frames ++ f ∷ [] → f ≡ g → Fits (with_frames s whole) None →
    Fits (with_frames s (s.frames ++ g ∷ [])) None
popped_fits s whole f g items same h =
    subst (λ (x : Frame). Fits (with_frames s (s.frames ++ x ∷ [])) None) same
    (subst (λ (xs : List Frame). Fits (with_frames s xs) None) items h)

-- how many steps are left to a turn, with its innermost frame given separately
pub popped_length : (all fs : List Frame) (f g : Frame) → all ≡ fs ++ f ∷ [] → f ≡ g →
    frames_length (frames_of (λ id. []) all) ≡ frames_length (frame_of (λ id. []) g ∷ frames_of (λ id. []) fs)
popped_length all fs f g items same =
    ap (λ (xs : List Frame). frames_length (frames_of (λ id. []) xs)) (items ∙ ap (λ (x : Frame). fs ++ x ∷ []) same)
    ∙ ap frames_length (frames_push (λ id. []) fs g)

-- the nursery of the innermost block has a body that runs
pub popped_body : (labels : Labels) (book : NurseryBook) (fs : List Frame) (id : ℕ) (own : List Own) →
    Opened labels book (blocks_of (fs ++ Nursery id ∷ [])) own None →
    HasNursery book id (λ n. n.body ≡ None)
popped_body labels book fs id own h =
    body_block labels book (blocks_of fs) [] id own None (subst (λ (bs : List Block). Opened labels book bs own None)
    (blocks_append fs (Nursery id ∷ [])) h)

-- ---- a `repeat`

-- a task that fits has a cut for each of its passes
pub cuts_fit : (s : State) (waits : Option ℕ) → Fits s waits → All HasCut s.frames
cuts_fit s waits fits = (has_cuts s.frames [] fits.runs.in_range).0

passes_in_range : (count : ℕ) (over : Bool) (body : Steps) (fs : List rest.Frame) (ps : List Place) → IsInRangePasses over count → AreInRange body →
    AreInRangeFrames fs → AreInRangeFrames (begins_passes count over body fs ps).frames
passes_in_range zero over body fs ps few b m = m
passes_in_range (suc k) false body fs ps few b m = (b, (b, (let e : 0 + k ≤ MAX_PASSES = omega (arith, few) in e), tt, m))
passes_in_range (suc k) true body fs ps few b m =
    let e : 0 + k ≤ MAX_PASSES = omega (arith, few.1) in
    let l : 0 + k < suc k = omega arith in
    (b, (b, e, (l, few.1), m))

passes_starts : (count : ℕ) (over : Bool) (body : Steps) (fs : List rest.Frame) (ps : List Place) →
    StartsIn (starts_in_pass over (in_body fs)) body → StartsFit fs → StartsFit (begins_passes count over body fs ps).frames
passes_starts zero over body fs ps b m = m
passes_starts (suc k) false body fs ps b m = (b, (b, m))
passes_starts (suc k) true body fs ps b m = (b, (b, m))

passes_shorter : (count : ℕ) (over : Bool) (body : Steps) (fs : List rest.Frame) (ps : List Place) →
    frames_length (begins_passes count over body fs ps).frames < 1 + count * (1 + turn_length body) + frames_length fs
passes_shorter zero over body fs ps = omega arith
passes_shorter (suc k) over body fs ps = let e = suc-mul k (1 + turn_length body) in omega (arith, e)

-- a `repeat` has begun: the task still fits
pub repeat_fits : (count : ℕ) (over : Bool) (body : Steps) (s u : State) → Fits s None → IsInRangePasses over count → AreInRange body →
    StartsIn (starts_in_pass over (in_body (frames_of (λ id. []) s.frames))) body →
    blocks_of u.frames ≡ blocks_of s.frames → received_in u.frames ≡ received_in s.frames →
    begins_passes count over body (frames_of (λ id. []) s.frames) [] ≡ onward (frames_of (λ id. []) u.frames) [] None →
    u ≡ with_frames s u.frames → Fits u None
repeat_fits count over body s u fits few b starts blocks received step stays =
    frames_fit s s.frames u fits blocks
    (subst AreInRangeFrames (ap (λ (o : Move). o.frames) step)
    (passes_in_range count over body (frames_of (λ id. []) s.frames) [] few b fits.runs.in_range))
    (subst (AreOf (buffer_of s.part)) (sym received) fits.runs.lent)
    (subst StartsFit (ap (λ (o : Move). o.frames) step)
    (passes_starts count over body (frames_of (λ id. []) s.frames) [] starts fits.runs.starts)) stays

-- a `repeat` that has begun has fewer steps left than its step had
pub repeat_length : (count : ℕ) (over : Bool) (body : Steps) (fs gs : List Frame) →
    begins_passes count over body (frames_of (λ id. []) fs) [] ≡ onward (frames_of (λ id. []) gs) [] None →
    frames_length (frames_of (λ id. []) gs) < 1 + count * (1 + turn_length body) + frames_length (frames_of (λ id. []) fs)
repeat_length count over body fs gs step =
    let e = passes_shorter count over body (frames_of (λ id. []) fs) [] in
    let f = ap (λ (o : Move). frames_length o.frames) step in
    omega (arith, e, f)

next_cuts : (pass k : ℕ) (cuts : Option ℕ) → AreInRangeCuts (pass + suc k) cuts → AreInRangeCuts (suc pass + k) cuts
next_cuts pass k None h = tt
next_cuts pass k (Some n) h = (let e : suc pass + k < n = omega (arith, h.0) in e, h.1)

pass_in_range : (pass left : ℕ) (cuts : Option ℕ) (body : Steps) (fs : List rest.Frame) (ps : List Place) (exc : Option Exc) → AreInRange body →
    pass + left ≤ MAX_PASSES → AreInRangeCuts (pass + left) cuts → AreInRangeFrames fs →
    AreInRangeFrames (step_pass pass left cuts body fs ps exc).frames
pass_in_range pass left cuts body fs ps (Some e) b few enough m = m
pass_in_range pass zero cuts body fs ps None b few enough m = m
pass_in_range pass (suc k) cuts body fs ps None b few enough m =
    (b, (b, (let e : suc pass + k ≤ MAX_PASSES = omega (arith, few) in e), next_cuts pass k cuts enough, m))

pass_starts : (pass left : ℕ) (cuts : Option ℕ) (body : Steps) (fs : List rest.Frame) (ps : List Place) (exc : Option Exc) →
    StartsIn (starts_in_pass (is_some cuts) (in_body fs)) body → StartsFit fs → StartsFit (step_pass pass left cuts body fs ps exc).frames
pass_starts pass left cuts body fs ps (Some e) b m = m
pass_starts pass zero cuts body fs ps None b m = m
pass_starts pass (suc k) cuts body fs ps None b m = (b, (b, m))

-- a pass that has ended leaves fewer steps
pub pass_shorter : (pass left : ℕ) (cuts : Option ℕ) (body : Steps) (fs : List rest.Frame) (ps : List Place) (exc : Option Exc) →
    frames_length (step_pass pass left cuts body fs ps exc).frames < frames_length (rest.in_repeat pass left cuts body ∷ fs)
pass_shorter pass left cuts body fs ps (Some e) = omega arith
pass_shorter pass zero cuts body fs ps None = omega arith
pass_shorter pass (suc k) cuts body fs ps None = let e = suc-mul k (1 + turn_length body) in omega (arith, e)

-- a frame that is no block has ended, and the task continues where the definitions do, with frames that can run: it still fits
stepped_fits : (s u : State) (f : Frame) (o : Move) (exc : Option Exc) → blocks_of (f ∷ []) ≡ [] →
    Fits (with_frames s (s.frames ++ f ∷ [])) None → o ≡ onward (frames_of (λ id. []) u.frames) [] exc → AreInRangeFrames o.frames →
    StartsFit o.frames → blocks_of u.frames ≡ blocks_of s.frames → received_in u.frames ≡ received_in s.frames → u ≡ with_frames s u.frames →
    Fits u None
stepped_fits s u f o exc none h step in_range starts blocks received stays =
    frames_fit s (s.frames ++ f ∷ []) u h (blocks ∙ blocks_but s.frames f none)
    (subst AreInRangeFrames (ap (λ (x : Move). x.frames) step) in_range) (subst (AreOf (buffer_of s.part)) (sym received) (lent_off s f h))
    (subst StartsFit (ap (λ (x : Move). x.frames) step) starts) stays

-- a pass of a `repeat` has ended: the task still fits
pub passed_fits : (pass left : ℕ) (cuts : Option ℕ) (body : Steps) (s u : State) (f : Frame) (exc after_exc : Option Exc) → blocks_of (f ∷ []) ≡ [] →
    frame_of (λ id. []) f ≡ rest.in_repeat pass left cuts body → Fits (with_frames s (s.frames ++ f ∷ [])) None →
    step_pass pass left cuts body (frames_of (λ id. []) s.frames) [] exc ≡ onward (frames_of (λ id. []) u.frames) [] after_exc →
    blocks_of u.frames ≡ blocks_of s.frames → received_in u.frames ≡ received_in s.frames → u ≡ with_frames s u.frames → Fits u None
passed_fits pass left cuts body s u f exc after_exc none is fits step blocks received stays =
    stepped_fits s u f (step_pass pass left cuts body (frames_of (λ id. []) s.frames) [] exc) after_exc none fits step
    (pass_in_range pass left cuts body (frames_of (λ id. []) s.frames) [] exc in_range.0 in_range.1 in_range.2 in_range.3)
    (pass_starts pass left cuts body (frames_of (λ id. []) s.frames) [] exc starts.0 starts.1) blocks received stays
  where
    in_range : AreInRangeFrames (rest.in_repeat pass left cuts body ∷ frames_of (λ id. []) s.frames)
    in_range = subst (λ (x : rest.Frame). AreInRangeFrames (x ∷ frames_of (λ id. []) s.frames)) is (in_range_with s f fits)

    starts : StartsFit (rest.in_repeat pass left cuts body ∷ frames_of (λ id. []) s.frames)
    starts = subst (λ (x : rest.Frame). StartsFit (x ∷ frames_of (λ id. []) s.frames)) is (starts_with s f fits)

-- ---- a `try`

try_in_range : (h : tree.Handled) (k : tree.Cleaned) (fs : List rest.Frame) (ps : List Place) (exc : Option Exc) → IsInRangeHandler h →
    IsInRangeCleanup k → AreInRangeFrames fs → AreInRangeFrames (step_try h k fs ps exc).frames
try_in_range tree.unhandled tree.uncleaned fs ps exc h k m = m
try_in_range tree.unhandled (tree.finally body) fs ps exc h k m = (k, m)
try_in_range (tree.except name body) cleanup fs ps None h k m = (tt, k, m)
try_in_range (tree.except name body) cleanup fs ps (Some e) h k m = by_match (keep (named name) e) (drop (named name) e)
  where
    by_match : (o r : Option Exc) → AreInRangeFrames (handler_if o r e body cleanup fs ps).frames
    by_match None r = (tt, k, m)
    by_match (Some x) r = (h, (k, m))

try_starts : (h : tree.Handled) (k : tree.Cleaned) (fs : List rest.Frame) (ps : List Place) (exc : Option Exc) → HandlerStarts h →
    CleanupStarts k → StartsFit fs → StartsFit (step_try h k fs ps exc).frames
try_starts tree.unhandled tree.uncleaned fs ps exc h k m = m
try_starts tree.unhandled (tree.finally body) fs ps exc h k m = (k, m)
try_starts (tree.except name body) cleanup fs ps None h k m = (tt, k, m)
try_starts (tree.except name body) cleanup fs ps (Some e) h k m = by_match (keep (named name) e) (drop (named name) e)
  where
    by_match : (o r : Option Exc) → StartsFit (handler_if o r e body cleanup fs ps).frames
    by_match None r = (tt, k, m)
    by_match (Some x) r = (h, (k, m))

-- a turn has fewer steps to go once the body of a `try` ended
pub try_shorter : (h : tree.Handled) (k : tree.Cleaned) (fs : List rest.Frame) (ps : List Place) (exc : Option Exc) →
    frames_length (step_try h k fs ps exc).frames < frames_length (rest.in_try h k ∷ fs)
try_shorter tree.unhandled tree.uncleaned fs ps exc = omega arith
try_shorter tree.unhandled (tree.finally body) fs ps exc = omega arith
try_shorter (tree.except name body) cleanup fs ps None = omega arith
try_shorter (tree.except name body) cleanup fs ps (Some e) = by_match (keep (named name) e) (drop (named name) e)
  where
    by_match : (o r : Option Exc) → frames_length (handler_if o r e body cleanup fs ps).frames < frames_length
        (rest.in_try (tree.except name body) cleanup ∷ fs)
    by_match None r = omega arith
    by_match (Some x) r = omega arith

-- what holds of a task is kept when the body of a `try` ends: its handler, its cleanup or what comes after it is
-- left
pub tried_fits : (h : tree.Handled) (k : tree.Cleaned) (s u : State) (f : Frame) (exc after_exc : Option Exc) → blocks_of (f ∷ []) ≡ [] →
    frame_of (λ id. []) f ≡ rest.in_try h k → Fits (with_frames s (s.frames ++ f ∷ [])) None →
    step_try h k (frames_of (λ id. []) s.frames) [] exc ≡ onward (frames_of (λ id. []) u.frames) [] after_exc →
    blocks_of u.frames ≡ blocks_of s.frames → received_in u.frames ≡ received_in s.frames → u ≡ with_frames s u.frames → Fits u None
tried_fits h k s u f exc after_exc none is fits step blocks received stays =
    stepped_fits s u f (step_try h k (frames_of (λ id. []) s.frames) [] exc) after_exc none fits step
    (try_in_range h k (frames_of (λ id. []) s.frames) [] exc in_range.0 in_range.1 in_range.2)
    (try_starts h k (frames_of (λ id. []) s.frames) [] exc starts.0 starts.1 starts.2) blocks received stays
  where
    in_range : AreInRangeFrames (rest.in_try h k ∷ frames_of (λ id. []) s.frames)
    in_range = subst (λ (x : rest.Frame). AreInRangeFrames (x ∷ frames_of (λ id. []) s.frames)) is (in_range_with s f fits)

    starts : StartsFit (rest.in_try h k ∷ frames_of (λ id. []) s.frames)
    starts = subst (λ (x : rest.Frame). StartsFit (x ∷ frames_of (λ id. []) s.frames)) is (starts_with s f fits)

-- a handler ended: what is left of its `try` is the cleanup
pub handled_fits : (k : tree.Cleaned) (o : Option Exc) (s u : State) (f : Frame) → blocks_of (f ∷ []) ≡ [] →
    frame_of (λ id. []) f ≡ rest.in_handler o k → Fits (with_frames s (s.frames ++ f ∷ [])) None →
    frames_of (λ id. []) u.frames ≡ rest.in_try tree.unhandled k ∷ frames_of (λ id. []) s.frames →
    blocks_of u.frames ≡ blocks_of s.frames → received_in u.frames ≡ received_in s.frames → u ≡ with_frames s u.frames → Fits u None
handled_fits k o s u f none is fits frames blocks received stays =
    frames_fit s (s.frames ++ f ∷ []) u fits (blocks ∙ blocks_but s.frames f none)
    (subst AreInRangeFrames (sym frames) (tt, in_range.0, in_range.1)) (subst (AreOf (buffer_of s.part)) (sym received) (lent_off s f fits)) (subst StartsFit (sym frames) (tt, starts.0, starts.1)) stays
  where
    in_range : AreInRangeFrames (rest.in_handler o k ∷ frames_of (λ id. []) s.frames)
    in_range = subst (λ (x : rest.Frame). AreInRangeFrames (x ∷ frames_of (λ id. []) s.frames)) is (in_range_with s f fits)

    starts : StartsFit (rest.in_handler o k ∷ frames_of (λ id. []) s.frames)
    starts = subst (λ (x : rest.Frame). StartsFit (x ∷ frames_of (λ id. []) s.frames)) is (starts_with s f fits)

-- ---- what is granted

-- what holds of a task is kept when it goes on with a block inside these frames, which were granted to it
pub granted_fits : (s u : State) (hs : List rest.Frame) → Fits s None → blocks_of u.frames ≡ blocks_of s.frames →
    frames_of (λ id. []) u.frames ≡ hs → AreInRangeFrames hs → StartsFit hs → AreOf (buffer_of s.part) (received_in u.frames) →
    u ≡ record s { frames = u.frames; entries = u.entries } → Fits u None
granted_fits s u hs fits blocks frames in_range starts lent stays =
    subst (λ (x : State). Fits x None) (sym stays)
    (frames_fit s s.frames (with_frames s u.frames) fits blocks (subst AreInRangeFrames (sym frames) in_range) lent
    (subst StartsFit (sym frames) starts) refl)
