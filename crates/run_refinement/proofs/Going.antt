-- A task that may continue, as the code sees it, may be woken so in the run of the definitions.
use Rattle.task_machine.proofs.FrameLemmas.{cuts_inside}
use Rattle.task_machine.specs.Frames.{Lent, frames_of}
use Rattle.std.proofs.Common.{◌≡◌, ◌⊎◌, inl, inr, ◌&&◌, Bool, true, false, ℕ, zero, suc, ◌<◌, ◌≤◌, max, Option, Some, None, List, [], ◌∷◌, ◌++◌, map, length, refl, ap, sym, ◌∙◌, subst, arith}
use Rattle.std.specs.Prelude.{IsSome, is_some, slice_get, MatchOption}
use Rattle.std.specs.List.{list_all}
use Rattle.turn_semantics.specs.Lists.{IsAmong}
use Rattle.input_lines.specs.Lines.{Span, Range}
use Rattle.input_lines.specs.Part.{buffer_of, range_of, span_of}
use Rattle.input_lines.specs.Answers.{AreLinesAt, IsAnswerOn}
use Rattle.input_lines.specs.Kernels.{needed_in}
use Rattle.input_lines.specs.declared.answers.Answer as held
use Rattle.input_lines.specs.declared.answers.Answer.TheVariants as answers
use Rattle.input_lines.specs.declared.kernel.Kernel.{Kernel}
use Rattle.input_lines.specs.declared.kernel.Kernel.TheVariants.{Find, Head, Longest, Need, Count}
use Rattle.exceptions.specs.Exceptions.{Label, Exc, by_nursery, parts_of, group_of}
use Rattle.cancel_scopes.specs.Sight.{seen}
use Rattle.cancel_scopes.specs.Tree.{Stack, outer_of}
use Rattle.nursery_book.specs.Nursery.{End, Nursery, is_settled, excs_in}
use Rattle.nursery_book.specs.Nursery as nursery
use Rattle.nursery_book.specs.Book.{nursery_at, HasNursery}
use Rattle.nursery_book.specs.declared.book.NurseryBook.{NurseryBook}
use Rattle.job_tree.specs.Tree.{Tree as Job, Steps}
use Rattle.job_tree.specs.Names.{GivesNamesOnce}
use Rattle.job_tree.specs.Starting.{StartsInNurseries}
use Rattle.job_meaning.specs.Log.{Member, Table}
use Rattle.job_meaning.specs.Moments.{a_round_after, wakes_at, Now, only_at}
use Rattle.job_meaning.specs.declared.clock.Clock.{Clock}
use Rattle.job_meaning.specs.Walk.{Here, with_exc, excs_of, latest, last_grant}
use Rattle.job_meaning.specs.Asking as ask
use Rattle.interleavings.specs.Laws.{IsSettledBy}
use Rattle.job_meaning.specs.Rest as rest
use Rattle.job_meaning.specs.Rest.{outcome_members, Stopped, to_begin, asking, asleep, waiting_for, giving_up, awaiting, at_end, inside, path_in, queued}
use Rattle.turn_semantics.specs.Midway.{Tables, Place, stack_at, label_among}
use Rattle.turn_semantics.specs.Turned.{AgreesOn}
use Rattle.turn_semantics.specs.Wakes.{ends_at, SettlesAt, granted_to, LeavesAt}
use Rattle.task_machine.specs.declared.stop.TaskState.{TaskState}
use Rattle.task_machine.specs.declared.stop.TaskState.TheVariants.{ToBegin, Asked, Asleep, Waiting, GivingUp, Awaits, Over, Queued}
use Rattle.task_machine.specs.declared.stop.Wake.{Wake}
use Rattle.task_machine.specs.declared.stop.Wake.TheVariants.{Begin, Due, Seen, Answer, Settled, Granted}
use Rattle.task_machine.specs.declared.task.Own.{Own}
use Rattle.task_machine.specs.declared.task.Task.{Task}
use Rattle.task_machine.specs.Fitting.{Block, a_scope, a_nursery, blocks_of, IsMine, Opened, waits_of}
use Rattle.task_machine.specs.Events.{set_by}
use Rattle.task_machine.specs.Labels.{Labels, Events}
use Rattle.task_machine.specs.Left.{keys_of, keys_in}
use Rattle.task_machine.specs.Stacked.{AreAt, IsEventNamed, AwaitsEvent}
use Rattle.task_machine.specs.Standing.{here_of, HasBlock, HasNurseryOf, now_for}
use Rattle.task_machine.specs.States.{state_of}
use Rattle.task_machine.specs.Stops.{kernel_in, IsTaskState}
use Rattle.task_machine.specs.Tasks.{home_scope, scope_of, lent_of}
use Rattle.task_machine.specs.Waking.{WakesFrom, answer_in, raised_in, wake_in}
use Rattle.task_machine.specs.Worlds.{label_at, event_at}
use Rattle.task_machine.proofs.Stacked.{one_of, seen_at}
use Rattle.interleavings.specs.Interleaving.{Started, RunInvariant, live, goes_on, AllFrom, leaves_by, leaves_at}
use Rattle.interleavings.specs.Going.{root_result}
use Rattle.interleavings.specs.Woken.{members_by, SeesNow, IsOver, WaitIsOver, MayWake}
use Rattle.interleavings.proofs.Running.{runs_keep_invariant}
use Rattle.interleavings.proofs.Agreement.{outcomes_tell, outcomes_ended}
use Rattle.run_refinement.specs.RunState.{RunState, IsMember, HasMembers, IsSince, SomeEnded, LastEnds, Follows, Refines, GrantedAt}
use Rattle.run_refinement.specs.Ready.{IsTimely, MayGo}
use Rattle.run_refinement.proofs.EventPlaces.{HasEvent, has_event, awaited_set}
use Rattle.run_refinement.proofs.LabelsApart.{below_of}
use Rattle.run_refinement.proofs.Parts.{among_got}
use Rattle.run_refinement.proofs.Found.{gives, puts, finds}
use Rattle.turn_semantics.specs.Placed.{IsSome as IsSomeLabel}
use Rattle.interleavings.specs.Runs.{keeping}
use Rattle.interleavings.specs.Acts.{InOrder, granted_so_far}
use Rattle.interleavings.proofs.GrantsKnown.{grants_are_known}
use Rattle.interleavings.proofs.Ordering.{orders_exist}
use Rattle.run_refinement.proofs.Grants.{granted_in}
use Rattle.run_refinement.proofs.Queues.{goes_granted, goes_seen, goes_last}
use Rattle.run_refinement.proofs.ActsKeep.{not_both}
use Rattle.std.proofs.lemmas.Bool.{cases_lt}
use Rattle.std.specs.Option.{option_map}
use Rattle.std.specs.Borrow.{Bor}
use Rattle.job_tree.specs.declared.object.Ask.{Ask}
use Rattle.objects.specs.Held.{what_in}
use Rattle.objects.specs.Whats.{What}
use Rattle.job_meaning.specs.Sharing.{granted_before}

-- ---- the answer of a kernel

-- an answer of the code is that of the definitions
answer_is : (clock : Clock) (kernel : Kernel) (part : Lent) (answer : held.Answer) (label : Label) (path : List ℕ) →
    IsAnswerOn kernel part.input part.range answer →
    answer_in answer ≡ ask.answer_of (kernel_in kernel) (record {
      clock = clock;
      input = part.input;
      part = part.range;
      task =
          label;
      path = path;
    })
answer_is clock (Find needle) part (answers.Lines lines) label path a = ap (λ (ls : List Span). ask.lines ls) a.places
answer_is clock (Head count) part (answers.Lines lines) label path a = ap (λ (ls : List Span). ask.lines ls) a.places
answer_is clock Longest part (answers.Lines lines) label path a = ap (λ (ls : List Span). ask.lines ls) a.places
answer_is clock (Need needle) part (answers.Lines lines) label path a = by_line (needed_in part.input needle.now part.range) a
  where
    by_line : (o : Option Span) → MatchOption o ⊥ (λ l. AreLinesAt part.input (l ∷ []) lines) →
        ask.lines (map span_of lines) ≡ ask.one_line o
    by_line None a = absurd a
    by_line (Some l) a = ap (λ (ls : List Span). ask.lines ls) a.places
answer_is clock (Need needle) part answers.Missing label path a = sym (ap ask.one_line a)
answer_is clock Count part (answers.Count n) label path a = ap (λ (x : ℕ). ask.counted x) a
answer_is clock _ part _ label path a = absurd a

-- ---- the children of a settled nursery

-- how a task ended that has ended
abbrev pub member_of : Stopped → Member
member_of to_begin = record { end = 0; exc = None }
member_of (asking kernel purpose) = record { end = 0; exc = None }
member_of (asleep paced n since) = record { end = 0; exc = None }
member_of (waiting_for event since) = record { end = 0; exc = None }
member_of (queued object ask since body) = record { end = 0; exc = None }
member_of (giving_up since) = record { end = 0; exc = None }
member_of (awaiting children ended exc) = record { end = 0; exc = None }
member_of (at_end u e) = record { end = u; exc = e }

-- at a place of a nursery is recorded how the task with a serial number ended, by moment t
abbrev pub EndsAs : (ℕ → Started) → ℕ → ℕ → Option End → Type 0
EndsAs at t serial None = ⊥
EndsAs at t serial (Some None) = Unit {0}
EndsAs at t serial (Some (Some exc)) = (u : ℕ) × (u ≤ t) × ((at serial).rest.stopped ≡ at_end u exc)

ends_as : (state : RunState) (at : ℕ → Started) (t id index serial : ℕ) (end : Option End) → IsMember state at t id index serial end →
    EndsAs at t serial end
ends_as state at t id index serial None h = h
ends_as state at t id index serial (Some None) h = tt
ends_as state at t id index serial (Some (Some exc)) h = (h.1, h.3, h.4)

-- all children have ended so
abbrev pub AllEnded : (ℕ → Started) → ℕ → (ℕ → ℕ) → List ℕ → List End → Type 0
AllEnded at t child [] [] = Unit {0}
AllEnded at t child [] (e ∷ es) = ⊥
AllEnded at t child (i ∷ is) [] = ⊥
AllEnded at t child (i ∷ is) (None ∷ es) = ⊥
AllEnded at t child (i ∷ is) (Some exc ∷ es) = EndsAs at t (child i) (Some (Some exc)) × AllEnded at t child is es

all_ended : (at : ℕ → Started) (t : ℕ) (child : ℕ → ℕ) (is : List ℕ) (es : List End) → length is ≡ length es → list_all is_some es ≡ true →
    ((index number : ℕ) → slice_get is index ≡ Some number → EndsAs at t (child number) (slice_get es index)) → AllEnded at t child is es
all_ended at t child [] [] long over h = tt
all_ended at t child [] (e ∷ es) long over h = absurd (let f : 0 ≡ suc (length es) = long in omega arith)
all_ended at t child (i ∷ is) [] long over h = absurd (let f : suc (length is) ≡ 0 = long in omega arith)
all_ended at t child (i ∷ is) (None ∷ es) long over h = absurd (let f : false ≡ true = over in cc)
all_ended at t child (i ∷ is) (Some exc ∷ es) long over h = (
  h zero i refl,
  all_ended at t child is es (let f : suc (length is) ≡ suc (length es) = long in omega arith) over
      (λ index number e. h (suc index) number e),
)

same_with : (exc : Option Exc) (es : List Exc) → nursery.with_exc (Some exc) es ≡ with_exc exc es
same_with None es = refl
same_with (Some e) es = refl

module _ (at : ℕ → Started) (t : ℕ) (child : ℕ → ℕ) where
  -- how the child of each number ended
  abbrev pub ends : ℕ → Member
  ends i = member_of (at (child i)).rest.stopped

  ended_so : (is : List ℕ) (es : List End) → AllEnded at t child is es → (i : ℕ) → IsAmong i is →
      (at (child i)).rest.stopped ≡ at_end (ends i).end (ends i).exc
  ended_so [] es h i among = absurd among
  ended_so (j ∷ is) [] h i among = absurd h
  ended_so (j ∷ is) (None ∷ es) h i among = absurd h
  ended_so (j ∷ is) (Some exc ∷ es) h i (inl e) =
      subst (λ (s : Stopped). s ≡ at_end (member_of s).end (member_of s).exc) (sym (ap (λ (n : ℕ). (at (child n)).rest.stopped) e ∙ h.0.2))
      refl
  ended_so (j ∷ is) (Some exc ∷ es) h i (inr among) = ended_so is es h.1 i among

  same_excs : (is : List ℕ) (es : List End) → AllEnded at t child is es → excs_in es ≡ excs_of (members_by ends is)
  same_excs [] [] h = refl
  same_excs [] (e ∷ es) h = absurd h
  same_excs (i ∷ is) [] h = absurd h
  same_excs (i ∷ is) (None ∷ es) h = absurd h
  same_excs (i ∷ is) (Some exc ∷ es) h =
      same_with exc (excs_in es) ∙ ap (with_exc exc) (same_excs is es h.1)
      ∙ ap (λ (x : Option Exc). with_exc x (excs_of (members_by ends is))) (sym (ap (λ (s : Stopped). (member_of s).exc) h.0.2))

  ends_by : (is : List ℕ) (es : List End) → AllEnded at t child is es → (u : ℕ) → u ≤ t → latest u (members_by ends is) ≤ t
  ends_by [] es h u le = le
  ends_by (i ∷ is) [] h u le = absurd h
  ends_by (i ∷ is) (None ∷ es) h u le = absurd h
  ends_by (i ∷ is) (Some exc ∷ es) h u le =
      let a : (ends i).end ≡ h.0.0 = ap (λ (s : Stopped). (member_of s).end) h.0.2 in
      let b : h.0.0 ≤ t = h.0.1 in
      ends_by is es h.1 (max u (ends i).end) (omega arith)

-- the last of some members ended no earlier than any of them
latest_of : (u : ℕ) (ms : List Member) → u ≤ latest u ms
latest_of u [] = omega arith
latest_of u (m ∷ ms) = let h = latest_of (max u m.end) ms in omega (arith, h)

latest_among : (ends : ℕ → Member) (u : ℕ) (is : List ℕ) (i : ℕ) → IsAmong i is → (ends i).end ≤ latest u (members_by ends is)
latest_among ends u [] i among = absurd among
latest_among ends u (j ∷ is) i (inl e) =
    let a = latest_of (max u (ends j).end) (members_by ends is) in
    let b : (ends i).end ≡ (ends j).end = ap (λ (n : ℕ). (ends n).end) e in
    omega (arith, a, b)
latest_among ends u (j ∷ is) i (inr among) = latest_among ends (max u (ends j).end) is i among

among_got_at : (i : ℕ) (is : List ℕ) (index : ℕ) → slice_get is index ≡ Some i → IsAmong i is
among_got_at i [] index e = absurd (let f : None ≡ Some i = e in cc)
among_got_at i (j ∷ is) zero e = inl (let f : Some j ≡ Some i = e in cc)
among_got_at i (j ∷ is) (suc index) e = inr (among_got_at i is index e)

-- ---- the scope of a nursery that is waited for

-- it is the last that the task opened
record Awaited (labels : Labels) (book : NurseryBook) (own : List Own) (id : ℕ) : Type 0 where
  pub before : List Own
  pub scope : Own
  pub is : own ≡ before ++ scope ∷ []
  pub has : HasNursery book id (λ n. IsMine labels scope n × IsSome n.body)

awaited : (labels : Labels) (book : NurseryBook) (bs : List Block) (own : List Own) (id : ℕ) → Opened labels book bs own (Some id) →
    Awaited labels book own id
awaited labels book [] [] id h = absurd h
awaited labels book [] (o ∷ own) id h = record { before = []; scope = o; is = ap (λ (os : List Own). o ∷ os) h.0; has = h.1 }
awaited labels book (b ∷ bs) [] id h = absurd h
awaited labels book (b ∷ bs) (o ∷ own) id h =
    let r = awaited labels book bs own id h.2 in
    record { before = o ∷ r.before; scope = r.scope; is = ap (λ (os : List Own). o ∷ os) r.is; has = r.has }

keys_last : (before : List Own) (o : Own) → keys_in (before ++ o ∷ []) ≡ o.id ∷ keys_in before
keys_last [] o = refl
keys_last (x ∷ before) o = ap (λ (ks : List ℕ). ks ++ x.id ∷ []) (keys_last before o)

same_key : (a b : ℕ) (xs ys : List ℕ) → a ∷ xs ≡ b ∷ ys → a ≡ b
same_key a b xs ys e = cc

-- the innermost place has the label of the innermost scope
first_label : (labels : Labels) (events : Events) (f : Table) (key : ℕ) (keys : List ℕ) (st : Stack) (ps : List Place) →
    AreAt labels events f st ps →
    keys_of st ≡ key ∷ keys → (label : Label) → labels key ≡ Some label →
    (p : Place) × (qs : List Place) × (ps ≡ p ∷ qs) × (p.label ≡ label)
first_label labels events f key keys [] ps a e label g = absurd (let h : [] ≡ key ∷ keys = e in cc)
first_label labels events f key keys (l ∷ ls) [] a e label g = absurd a
first_label labels events f key keys (l ∷ ls) (p ∷ ps) a e label g =
    (p, ps, refl, one_of p.label label (sym a.0 ∙ ap labels (same_key l.label key (keys_of ls) keys e) ∙ g))

-- ---- which nurseries are settled

-- the body of a nursery among a task's blocks runs
block_body : (labels : Labels) (book : NurseryBook) (bs : List Block) (own : List Own) (waits : Option ℕ) (id : ℕ) →
    Opened labels book bs own waits → HasBlock id bs →
    HasNursery book id (λ n. n.body ≡ None)
block_body labels book [] own waits id h has = absurd has
block_body labels book (b ∷ bs) [] waits id h has = absurd h
block_body labels book (a_scope ∷ bs) (o ∷ own) waits id h has = block_body labels book bs own waits id h.2 has
block_body labels book (a_nursery key ∷ bs) (o ∷ own) waits id h (inl e) =
    let n = finds book key (λ n. IsMine labels o n × (n.body ≡ None)) h.0 in
    subst (λ (x : ℕ). HasNursery book x (λ n. n.body ≡ None)) (sym e) (puts book key n.0 (λ n. n.body ≡ None) n.1 n.2.1)
block_body labels book (a_nursery key ∷ bs) (o ∷ own) waits id h (inr has) = block_body labels book bs own waits id h.2 has

-- each child of a settled nursery has ended
pub settled_children : (n : Nursery) → is_settled n ≡ true → list_all is_some n.children ≡ true
settled_children n s = by_body (is_some n.body) s
  where
    by_body : (b : Bool) → (b && list_all is_some n.children) ≡ true → list_all is_some n.children ≡ true
    by_body true e = e
    by_body false e = absurd (let f : false ≡ true = e in cc)

-- a nursery of a task whose body has ended is the one for which the task waits
pub ended_waits : (k : Tables) (job : Job) (input : List ℕ) (t m : ℕ) (leaving : Option ℕ) (state : RunState) →
    Refines k job input t m leaving state → (s : ℕ) (a : Task) (id : ℕ) → state.task s ≡ Some a →
    HasNurseryOf id (blocks_of a.frames.items) (waits_of a.task_state) → HasNursery state.world.book id (λ n. is_some n.body ≡ true) →
    waits_of a.task_state ≡ Some id
ended_waits k job input t m leaving state c s a id e (inl has) over =
    let book = state.world.book in
    let n = finds book id (λ n. is_some n.body ≡ true) over in
    let body = gives book id n.0 (λ n. n.body ≡ None) n.1
    (block_body (label_at state.world) book (blocks_of a.frames.items) a.own.items (waits_of a.task_state) id (c.follows s a e).goes.opened has) in
    absurd (let f : false ≡ true = sym (ap (λ (b : End). is_some b) body) ∙ n.2 in cc)
ended_waits k job input t m leaving state c s a id e (inr waits) over = waits

-- ---- the members of a settled nursery

-- How the members of the nursery ended that a task of the definitions waits for, and when the last of them did.
pub record Waited (at : ℕ → Started) (qs : List Started) (q : Started) (children : List ℕ) (ended : ℕ) (n : Nursery) : Type 0 where
  pub found : AllEnded at n.last q.child children n.children
  pub numbers : (i : ℕ) → IsAmong i children → i < q.count
  pub over : (i : ℕ) → IsAmong i children → (x : Started) → IsAmong x qs → x.serial ≡ q.child i →
      x.rest.stopped ≡ at_end (ends at n.last q.child i).end (ends at n.last q.child i).exc
  pub last : latest ended (members_by (ends at n.last q.child) children) ≡ n.last

pub waited : (k : Tables) (job : Job) (input : List ℕ) (t m : ℕ) (state : RunState) → (c : Refines k job input t m None state) →
    (s : ℕ) (task : Task) → state.task s ≡ Some task →
    (id since u : ℕ) (children : List ℕ) → task.task_state ≡ Awaits id since → c.numbers s id ≡ children → since ≡ u →
    (n : Nursery) → nursery_at state.world.book id ≡ Some n → is_settled n ≡ true →
    Waited c.interleaving.at c.interleaving.tasks (c.interleaving.at s) children u n
waited k job input t m state c s task lives id since u children task_state numbers same n is over =
    record { found = has_ended; numbers = is_child; over = child_over; last = last }
  where
    q : Started
    q = c.interleaving.at s

    at : ℕ → Started
    at = c.interleaving.at

    qs : List Started
    qs = c.interleaving.tasks

    book : NurseryBook
    book = state.world.book

    it : Follows state c.interleaving.cancelled_from input t at c.numbers None s task
    it = c.follows s task lives

    has : HasMembers state at t (c.numbers s) q id n
    has = gives book id n (λ n. HasMembers state at t (c.numbers s) q id n) is (it.nurseries id (inr (ap waits_of task_state)))

    when : (since ≤ n.last) × ((since ≡ n.last) ⊎ SomeEnded at (c.numbers s) q id n.last)
    when =
        gives book id n (λ n. (since ≤ n.last) × ((since ≡ n.last) ⊎ SomeEnded at (c.numbers s) q id n.last)) is
        (subst (LastEnds at (c.numbers s) q book) task_state it.last)

    has_ended : AllEnded at n.last q.child children n.children
    has_ended =
        subst (λ (is : List ℕ). AllEnded at n.last q.child is n.children) numbers
        (all_ended at n.last q.child (c.numbers s id) n.children has.long (settled_children n over)
        (λ index number e. ends_as state at n.last id index (q.child number) (slice_get n.children index) (has.members index number e).1))

    is_child : (i : ℕ) → IsAmong i children → i < q.count
    is_child i among =
        let g = among_got i (c.numbers s id) (subst (IsAmong i) (sym numbers) among) in
        (has.members g.0 i g.1).0

    child_over : (i : ℕ) → IsAmong i children → (x : Started) → IsAmong x qs → x.serial ≡ q.child i →
        x.rest.stopped ≡ at_end (ends at n.last q.child i).end (ends at n.last q.child i).exc
    child_over i among x j e =
        ap (λ (y : Started). y.rest.stopped) ((c.interleaving.one x j).0 ∙ ap at e)
        ∙ ended_so at n.last q.child children n.children has_ended i among

    no_later : latest u (members_by (ends at n.last q.child) children) ≤ n.last
    no_later =
        ends_by at n.last q.child children n.children has_ended u
        (let a : since ≤ n.last = when.0 in omega (arith, a, same))

    no_earlier : (since ≡ n.last) ⊎ SomeEnded at (c.numbers s) q id n.last →
        n.last ≤ latest u (members_by (ends at n.last q.child) children)
    no_earlier (inl now) = let a = latest_of u (members_by (ends at n.last q.child) children) in omega (arith, a, now, same)
    no_earlier (inr x) =
        let among : IsAmong x.number children =
        subst (IsAmong x.number) numbers (among_got_at x.number (c.numbers s id) x.index x.is) in
        let a = latest_among (ends at n.last q.child) u children x.number among in
        let b : (ends at n.last q.child x.number).end ≡ n.last = ap (λ (y : Stopped). (member_of y).end) x.ended in
        omega (arith, a, b)

    last : latest u (members_by (ends at n.last q.child) children) ≡ n.last
    last = let a = no_later in let b = no_earlier when.1 in omega (arith, a, b)

-- ---- continuing

same_now : (x : Now) (t : ℕ) (own : List Label) → x.at ≡ t → x.own ≡ own → x ≡ record { at = t; own = own }
same_now x t own e f = λ i. record { at = e i; own = f i }

-- a task that may continue by what the code sees may be woken so in the run of the definitions
pub may_wake : (k : Tables) (job : Job) (input : List ℕ) (t m : ℕ) (state : RunState) → IsSettledBy k job input → GivesNamesOnce job →
    StartsInNurseries job →
    (c : Refines k job input t m None state) → state.through ≡ t → (s : ℕ) (task : Task) → state.task s ≡ Some task → (wake : Wake) →
    MayGo state.world (state.granted s) task wake →
    MayWake (keeping c.interleaving.cancelled_from k) c.interleaving.tasks (record { at = t; own = (now_for wake (state_of task state.world)).own })
    (c.interleaving.at s) (wake_in state.world.book task.task_state wake) (c.interleaving.at s).rest.stopped
may_wake k job input t m state settled names starting c unserved s task lives wake may =
    by_stop task.task_state q.rest.stopped refl it.task_state it.since it.stands.event
    (has_event q.rest.stopped _ q.places it.stands.placed) (on.1 q there) granted may.fits may.timely
  where
    q : Started
    q = c.interleaving.at s

    qs : List Started
    qs = c.interleaving.tasks

    f : Table
    f = c.interleaving.cancelled_from

    book : NurseryBook
    book = state.world.book

    labels : Labels
    labels = label_at state.world

    it : Follows state f input t c.interleaving.at c.numbers None s task
    it = c.follows s task lives

    clock : state.world.clock ≡ q.here.clock
    clock = ap (λ (h : Here). h.clock) it.here

    below : s < m
    below = below_of c s task lives

    there : IsAmong q qs
    there = (c.interleaving.has s below).0

    -- the tasks in the order of records
    order : (taken : List Started) × InOrder qs (0 ∷ []) taken
    order = orders_exist k job input names starting settled f t m qs c.interleaving.reached

    granted : GrantedAt state order.0 s q q.rest.stopped
    granted = c.shares.granted order.0 order.1 s below

    on : RunInvariant k f (root_result k job input) qs × AllFrom k qs t × ((x : Started) → IsAmong x qs → AgreesOn t k.cancelled_from f x.places)
    on = runs_keep_invariant k job input settled names starting f t m qs c.interleaving.reached

    stack : Stack
    stack = outer_of state.world.scopes (scope_of task)

    now : Wake → Now
    now w = record { at = t; own = (now_for w (state_of task state.world)).own }

    begins_now : (w : Wake) (at : ℕ) → WakesFrom (ToBegin at) (lent_of task) book w → q.stop ≡ only_at at → at ≡ state.world.tick →
        MayWake (keeping f k) qs (now w) q (wake_in book (ToBegin at) w) to_begin
    begins_now Begin at h e timely = e ∙ ap only_at (timely ∙ c.tick)
    begins_now Due at h e timely = e ∙ ap only_at (timely ∙ c.tick)
    begins_now _ at h e timely = absurd h

    frames : List rest.Frame
    frames = frames_of (c.numbers s) task.frames.items

    here : Here
    here = record {
      clock = state.world.clock;
      input = buffer_of task.part;
      part = (lent_of task).range;
      task = task.label;
      path = path_in frames task.label.indices;
    }

    -- the task has the part that it has inside its frames
    at_frames : here ≡ inside frames (here_of state.world.clock task)
    at_frames =
        ap (λ (r : Range). record here { part = r })
        (sym (cuts_inside (c.numbers s) task.frames.items (buffer_of task.part) (range_of task.part)))

    answers_now : (w : Wake) (kernel : Kernel) (purpose : _) (asked : ask.Kernel) (p : ask.Purpose) → kernel_in kernel ≡ asked →
        WakesFrom (Asked kernel purpose) (lent_of task) book w → (q.stop.at ≤ t) × (q.stop.own ≡ task.cancelled.items) → t ≤ q.stop.at →
        MayWake (keeping f k) qs (now w) q (wake_in book (Asked kernel purpose) w) (asking asked p)
    answers_now (Answer answer) kernel purpose asked p same h since late = (
      same_now q.stop t task.cancelled.items (let le = since.0 in omega (arith, le, late)) since.1,
      answer_is state.world.clock kernel (lent_of task) answer task.label (path_in frames task.label.indices) h
          ∙ ap (λ (x : ask.Kernel). ask.answer_of x here) same
          ∙ ap (ask.answer_of asked) (at_frames ∙ ap (λ (fs : List rest.Frame). inside fs (here_of state.world.clock task)) it.frames
          ∙ ap (inside q.rest.frames) it.here),
    )
    answers_now _ kernel purpose asked p same h since late = absurd h

    -- the same is seen in the world and in the moments of cancellation
    same_seen : (b : Bool) → seen stack state.world.tick ≡ b → seen (stack_at f q.places).scopes t ≡ b
    same_seen b e = sym (seen_at labels (event_at state.world) f stack q.places t it.stands.places) ∙ ap (λ (v : ℕ). seen stack v) (sym c.tick) ∙ e

    sleeps_now : (w : Wake) (paced : Bool) (ticks since : ℕ) (p : Bool) (n u : ℕ) → ticks ≡ n → since ≡ u →
        WakesFrom (Asleep paced ticks since) (lent_of task) book w →
        IsTimely state.world (state.granted s) (scope_of task) (Asleep paced ticks since) w →
        MayWake (keeping f k) qs (now w) q (wake_in book (Asleep paced ticks since) w) (asleep p n u)
    sleeps_now Due paced ticks since p n u e g h timely = (
      ap (λ (x : Clock). wakes_at x n u) (sym clock) ∙ ap (λ (v : ℕ). wakes_at state.world.clock v u) (sym e)
          ∙ ap (wakes_at state.world.clock ticks) (sym g) ∙ timely.0 ∙ c.tick,
      same_seen false timely.1,
      refl,
    )
    sleeps_now Seen paced ticks since p n u e g h timely = (
      let a : since < state.world.tick = timely.0 in let b : state.world.tick ≡ t = c.tick in
          omega (arith, a, b, g),
      same_seen true timely.1,
      refl,
    )
    sleeps_now _ paced ticks since p n u e g h timely = absurd h

    -- a wait for an event ends when the definitions say so
    same_end : (key since : ℕ) (name : List ℕ) → IsEventNamed labels stack (Waiting key since) name q.places →
        HasEvent (waiting_for name since) q.places →
        set_by state.world.clock (event_at state.world key) since ≡ ends_at q.here.clock f name since q.places
    same_end key since name named some =
        (awaited_set labels (event_at state.world) f stack q.places key name state.world.clock since it.stands.own it.stands.places named.0
        named.1 some).0
        ∙ ap (λ (x : Clock). ends_at x f name since q.places) clock

    waits_now : (w : Wake) (key since : ℕ) (name : List ℕ) (u : ℕ) → since ≡ u →
        IsEventNamed labels stack (Waiting key since) name q.places → HasEvent (waiting_for name since) q.places →
        WakesFrom (Waiting key since) (lent_of task) book w → IsTimely state.world (state.granted s) (scope_of task) (Waiting key since) w →
        MayWake (keeping f k) qs (now w) q (wake_in book (Waiting key since) w) (waiting_for name u)
    waits_now Due key since name u e named some h timely = (
      subst (λ (x : ℕ). IsOver q.here.clock (ends_at q.here.clock f name x q.places) x t (seen (stack_at f q.places).scopes t)) e
          (subst (λ (b : Bool). IsOver q.here.clock (ends_at q.here.clock f name since q.places) since t b)
          (sym (same_seen (seen stack state.world.tick) refl))
          (subst (λ (v : ℕ). IsOver q.here.clock (ends_at q.here.clock f name since q.places) since v (seen stack state.world.tick)) c.tick
          (subst (λ (v : ℕ). IsOver q.here.clock v since state.world.tick (seen stack state.world.tick)) (same_end key since name named some)
          (subst (λ (x : Clock). IsOver x (set_by state.world.clock (event_at state.world key) since) since state.world.tick
          (seen stack state.world.tick)) clock timely)))),
      refl,
    )
    waits_now Seen key since name u e named some h timely = (
      subst (λ (x : ℕ). SeesNow q.here.clock (ends_at q.here.clock f name x q.places) x t) e
          (subst (λ (v : ℕ). SeesNow q.here.clock (ends_at q.here.clock f name since q.places) since v) c.tick
          (subst (λ (v : ℕ). SeesNow q.here.clock v since state.world.tick) (same_end key since name named some)
          (subst (λ (x : Clock). SeesNow x (set_by state.world.clock (event_at state.world key) since) since state.world.tick) clock
          timely.0))),
      same_seen true timely.1,
      refl,
    )
    waits_now _ key since name u e named some h timely = absurd h

    -- what the tables grant by now to a task in a queue is what the state says
    granted_known : (u : ℕ) (name : List ℕ) (l : Label) → label_among true name q.places ≡ Some l → u < t →
        (u < state.through → (m : Label) → label_among true name q.places ≡ Some m →
        granted_before (suc state.through) (granted_so_far order.0 m q.here.task u)
        ≡ option_map (λ (w : What). record { at = state.through; what = w }) (state.granted s)) →
        granted_before (suc t) (k.granted l q.here.task u) ≡ granted_in t (state.granted s)
    granted_known u name l is before h =
        grants_are_known k job input names starting settled f t m qs c.interleaving.reached t on.1 order.0 order.1 l q.here.task u
        ∙ subst (λ (v : ℕ). granted_before (suc v) (granted_so_far order.0 l q.here.task u) ≡ granted_in v (state.granted s)) unserved
        (h (subst (λ (v : ℕ). u < v) (sym unserved) before) l is)

    queues_by : (w : Wake) (key : ℕ) (wanted : Ask) (since : ℕ) (body : Bor Steps) (name : List ℕ) (a : Ask) (u : ℕ) (steps : Steps) (l : Label) →
        since ≡ u → label_among true name q.places ≡ Some l → GrantedAt state order.0 s q (queued name a u steps) →
        t ≤ leaves_by k (inside q.rest.frames q.here) (label_among true name q.places) u (stack_at k.cancelled_from q.places) →
        WakesFrom (Queued key wanted since body) (lent_of task) book w →
        IsTimely state.world (state.granted s) (scope_of task) (Queued key wanted since body) w →
        MayWake (keeping f k) qs (now w) q (wake_in book (Queued key wanted since body) w) (queued name a u steps)
    queues_by (Granted grant) key wanted since body name a u steps l e is h late fits timely = (
      subst (λ (o : Option Label). granted_to (keeping f k) (inside q.rest.frames q.here) o u (stack_at f q.places)
          ≡ Some (record { at = t; what = what_in grant })) (sym is)
          (goes_granted k f t q.places (on.2 q there) (inside q.rest.frames q.here) l u (state.granted s) before (granted_known u name l is before h.0)
          (subst (λ (o : Option Label). t ≤ leaves_by k (inside q.rest.frames q.here) o u (stack_at k.cancelled_from q.places)) is late) (what_in grant)
          timely),
      refl,
    )
      where
        by_order : (u < t) ⊎ (t ≤ u) → u < t
        by_order (inl lt) = lt
        by_order (inr le) = absurd (not_both (h.1 (subst (λ (v : ℕ). v ≤ u) (sym unserved) le)) timely)

        before : u < t
        before = by_order (cases_lt u t)
    queues_by Seen key wanted since body name a u steps l e is h late fits timely = (
      subst (λ (o : Option Label). LeavesAt (keeping f k) (inside q.rest.frames q.here) o u t (stack_at f q.places)) (sym is)
          (goes_seen k f t q.places (on.2 q there) (inside q.rest.frames q.here) l u (state.granted s) before (granted_known u name l is before h.0)
          (subst (λ (o : Option Label). t ≤ leaves_by k (inside q.rest.frames q.here) o u (stack_at k.cancelled_from q.places)) is late) timely.0
          (same_seen true timely.2)),
      same_seen true timely.2,
      refl,
    )
      where
        before : u < t
        before = let g : since < state.world.tick = timely.1 in let b : state.world.tick ≡ t = c.tick in omega (arith, g, b, e)
    queues_by Due key wanted since body name a u steps l e is h late fits timely = (
      subst (λ (o : Option Label). LeavesAt (keeping f k) (inside q.rest.frames q.here) o u t (stack_at f q.places)) (sym is)
          (goes_last k f t q.places (on.2 q there) (inside q.rest.frames q.here) l u (state.granted s) before (granted_known u name l is before h.0)
          (subst (λ (o : Option Label). t ≤ leaves_by k (inside q.rest.frames q.here) o u (stack_at k.cancelled_from q.places)) is late) timely.0
          (same_seen false timely.3) last),
      same_seen false timely.3,
      refl,
    )
      where
        before : u < t
        before = let g : since < state.world.tick = timely.1 in let b : state.world.tick ≡ t = c.tick in omega (arith, g, b, e)

        last : last_grant q.here.clock u ≡ t
        last = ap (λ (x : Clock). last_grant x u) (sym clock) ∙ (ap (last_grant state.world.clock) (sym e) ∙ (timely.2 ∙ c.tick))
    queues_by _ key wanted since body name a u steps l e is h late fits timely = absurd fits

    queues_now : (w : Wake) (key : ℕ) (wanted : Ask) (since : ℕ) (body : Bor Steps) (name : List ℕ) (a : Ask) (u : ℕ) (steps : Steps) →
        since ≡ u → HasEvent (queued name a u steps) q.places → GrantedAt state order.0 s q (queued name a u steps) →
        t ≤ leaves_by k (inside q.rest.frames q.here) (label_among true name q.places) u (stack_at k.cancelled_from q.places) →
        WakesFrom (Queued key wanted since body) (lent_of task) book w →
        IsTimely state.world (state.granted s) (scope_of task) (Queued key wanted since body) w →
        MayWake (keeping f k) qs (now w) q (wake_in book (Queued key wanted since body) w) (queued name a u steps)
    queues_now w key wanted since body name a u steps e some h late fits timely = by_label (label_among true name q.places) refl some
      where
        by_label : (o : Option Label) → label_among true name q.places ≡ o → IsSomeLabel o →
            MayWake (keeping f k) qs (now w) q (wake_in book (Queued key wanted since body) w) (queued name a u steps)
        by_label None is i = absurd i
        by_label (Some l) is i = queues_by w key wanted since body name a u steps l e is h late fits timely

    gives_up_now : (w : Wake) (since u : ℕ) → since ≡ u → WakesFrom (GivingUp since) (lent_of task) book w → suc since ≡ state.world.tick →
        MayWake (keeping f k) qs (now w) q (wake_in book (GivingUp since) w) (giving_up u)
    gives_up_now Due since u e h timely = (ap suc (sym e) ∙ timely ∙ c.tick, refl)
    gives_up_now _ since u e h timely = absurd h

    -- a nursery that is waited for is over when it is settled
    over_now : (id since u : ℕ) (children : List ℕ) (exc : Option Exc) → task.task_state ≡ Awaits id since → c.numbers s id ≡ children →
        since ≡ u → HasNursery book id (λ n. n.body ≡ Some exc) →
        t ≤ a_round_after q.here.clock (latest u (outcome_members q.outcomes children)) → HasNursery book id (λ n. is_settled n ≡ true) →
        HasNursery book id (λ n. a_round_after state.world.clock n.last ≤ state.world.tick) →
        WaitIsOver qs q t children u exc (raised_in (nursery_at book id))
    over_now id since u children exc task_state numbers same body late over timely =
        record {
          ends = found;
          numbers = w.numbers;
          over = w.over;
          settled = subst (SettlesAt q.here.clock t (raised_in (nursery_at book id)) (members_by found children) u exc) (sym first.2)
              (ends_now, raises);
        }
      where
        waits : waits_of task.task_state ≡ Some id
        waits = ap waits_of task_state

        n : (n : Nursery) × (nursery_at book id ≡ Some n) × (is_settled n ≡ true)
        n = finds book id (λ n. is_settled n ≡ true) over

        w : Waited c.interleaving.at qs q children u n.0
        w = waited k job input t m state c s task lives id since u children task_state numbers same n.0 n.1 n.2

        found : ℕ → Member
        found i = ends c.interleaving.at n.0.last q.child i

        ends_now : a_round_after q.here.clock (latest u (members_by found children)) ≡ t
        ends_now =
            let a : a_round_after state.world.clock n.0.last ≤ state.world.tick =
            gives book id n.0 (λ n. a_round_after state.world.clock n.last ≤ state.world.tick) n.1 timely in
            let b : a_round_after q.here.clock (latest u (members_by found children)) ≡ a_round_after state.world.clock n.0.last =
            ap (a_round_after q.here.clock) w.last ∙ ap (λ (x : Clock). a_round_after x n.0.last) (sym clock) in
            let as_found : latest u (outcome_members q.outcomes children) ≡ latest u (members_by found children) =
            ap (latest u)
            (outcomes_ended k f (root_result k job input) qs on.0 q there q.outcomes (outcomes_tell q) found children w.numbers w.over) in
            let d : t ≤ a_round_after q.here.clock (latest u (members_by found children)) =
            subst (λ (v : ℕ). t ≤ a_round_after q.here.clock v) as_found late in
            let e : state.world.tick ≡ t = c.tick in
            same_moment (a_round_after q.here.clock (latest u (members_by found children))) (a_round_after state.world.clock n.0.last)
            state.world.tick t b a e d
          where
            same_moment : (x y tick t : ℕ) → x ≡ y → y ≤ tick → tick ≡ t → t ≤ x → x ≡ t
            same_moment x y tick t b a e d = omega (arith, a, b, d, e)

        last : Awaited labels book task.own.items id
        last = awaited labels book (blocks_of task.frames.items) task.own.items id
            (subst (Opened labels book (blocks_of task.frames.items) task.own.items) waits it.goes.opened)

        mine : IsMine labels last.scope n.0
        mine = (gives book id n.0 (λ n. IsMine labels last.scope n × IsSome n.body) n.1 last.has).0

        outer : List ℕ
        outer = keys_of (outer_of state.world.scopes (home_scope task))

        keys : keys_of stack ≡ last.scope.id ∷ (keys_in last.before ++ outer)
        keys = it.goes.first ∙ ap (λ (ks : List ℕ). ks ++ outer) (ap keys_in last.is ∙ keys_last last.before last.scope)

        first : (p : Place) × (ps : List Place) × (q.places ≡ p ∷ ps) × (p.label ≡ n.0.label)
        first = first_label labels (event_at state.world) f last.scope.id (keys_in last.before ++ outer) stack q.places it.stands.places keys n.0.label mine.label

        raises : group_of (by_nursery first.0.label) (parts_of (with_exc exc (excs_of (members_by found children))))
            ≡ raised_in (nursery_at book id)
        raises =
            ap (λ (l : Label). group_of (by_nursery l) (parts_of (with_exc exc (excs_of (members_by found children))))) first.3
            ∙ ap (λ (es : List Exc). group_of (by_nursery n.0.label) (parts_of (with_exc exc es)))
            (sym (same_excs c.interleaving.at n.0.last q.child children n.0.children w.found))
            ∙ ap (λ (es : List Exc). group_of (by_nursery n.0.label) (parts_of es)) (sym (same_with exc (excs_in n.0.children)))
            ∙ ap (λ (b : End). group_of (by_nursery n.0.label) (parts_of (nursery.with_exc b (excs_in n.0.children))))
            (sym (gives book id n.0 (λ n. n.body ≡ Some exc) n.1 body))
            ∙ sym (ap raised_in n.1)

    settles_now : (w : Wake) (id since u : ℕ) (children : List ℕ) (exc : Option Exc) → task.task_state ≡ Awaits id since →
        c.numbers s id ≡ children → since ≡ u → HasNursery book id (λ n. n.body ≡ Some exc) →
        t ≤ a_round_after q.here.clock (latest u (outcome_members q.outcomes children)) → WakesFrom (Awaits id since) (lent_of task) book w →
        HasNursery book id (λ n. a_round_after state.world.clock n.last ≤ state.world.tick) →
        MayWake (keeping f k) qs (now w) q (wake_in book (Awaits id since) w) (awaiting children u exc)
    settles_now Settled id since u children exc task_state numbers same body late h timely =
        (over_now id since u children exc task_state numbers same body late h timely, refl)
    settles_now Due id since u children exc task_state numbers same body late h timely =
        (over_now id since u children exc task_state numbers same body late h timely, refl)
    settles_now _ id since u children exc task_state numbers same body late h timely = absurd h

    by_stop : (task_state : TaskState) (stopped : Stopped) → task.task_state ≡ task_state → IsTaskState (c.numbers s) book task_state stopped →
        IsSince t task.cancelled.items task_state q.stop → AwaitsEvent labels stack (Some stopped) task_state q.places →
        HasEvent stopped q.places → (live stopped ≡ true → t ≤ goes_on q.here.clock q.outcomes stopped (stack_at k.cancelled_from q.places)
        (leaves_at k stopped q.here q.places) q.stop.at) → GrantedAt state order.0 s q stopped → WakesFrom task_state (lent_of task) book wake → IsTimely state.world (state.granted s) (scope_of task) task_state wake →
        MayWake (keeping f k) qs (now wake) q (wake_in book task_state wake) stopped
    by_stop (ToBegin at) to_begin e h since event some late granted fits timely = begins_now wake at fits since timely
    by_stop (Asked kernel purpose) (asking asked p) e h since event some late granted fits timely =
        answers_now wake kernel purpose asked p h.0 fits since (late refl)
    by_stop (Asleep paced ticks since) (asleep p n u) e h stop event some late granted fits timely =
        sleeps_now wake paced ticks since p n u h.1 h.2 fits timely
    by_stop (Waiting key since) (waiting_for name u) e h stop event some late granted fits timely =
        waits_now wake key since name u h event some fits timely
    by_stop (Queued key wanted since body) (queued name a u steps) e h stop event some late granted fits timely =
        queues_now wake key wanted since body name a u steps h.1 some granted (late refl) fits timely
    by_stop (GivingUp since) (giving_up u) e h stop event some late granted fits timely = gives_up_now wake since u h fits timely
    by_stop (Awaits id since) (awaiting children u exc) e h stop event some late granted fits timely =
        settles_now wake id since u children exc e h.0 h.1 h.2 (late refl) fits timely
    by_stop Over (at_end u x) e h since event some late granted fits timely = absurd fits
    by_stop _ _ e h since event some late granted fits timely = absurd h
