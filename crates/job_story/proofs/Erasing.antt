-- A story with everything erased that a log does not contain is the log of following the tables.
use Rattle.std.proofs.Common.{◌≡◌, ℕ, zero, suc, ◌-◌, ◌≤◌, codes, true≢false, Bool, true, false, Option, Some, None, List, refl, ap, sym, ◌∙◌, arith}
use Rattle.std.proofs.lemmas.Bool.Decides.{nat_tests}
use Rattle.std.specs.Prelude.{nat_le, nat_lt, max, if◌then◌else◌}
use Rattle.job_tree.specs.Tree.{Step, sleep, checkpoint, forever, pace, find, head, longest, need, raise, cancel, set_event, wait_for, ask_for, close_channel, scope, nursery, event, object, start, repeat, attempt, Steps, stop, step, Handled, unhandled, except, Cleaned, uncleaned, finally}
use Rattle.job_tree.specs.declared.object.Ask.{Ask}
use Rattle.job_tree.specs.declared.object.ObjectKind.{ObjectKind}
use Rattle.job_tree.specs.declared.object.Ask.TheVariants.{Acquire, Send, Receive}
use Rattle.input_lines.specs.Lines.{Span}
use Rattle.input_lines.specs.Cuts.{cut_of}
use Rattle.exceptions.specs.Exceptions.{Label, Exc, cancelled, raised}
use Rattle.exceptions.specs.Split.{Wanted, named, keep, drop}
use Rattle.cancel_scopes.specs.Sight.{Tick, Level, sight, seen, is_reached, catches}
use Rattle.job_meaning.specs.Log.{waited, was_granted, opens, asks, Log, nil, entry, entered, task, followed_by, Result}
use Rattle.job_meaning.specs.Sharing.{What, a_token, was_sent, a_part, closed_resource, end_of_channel, Granted}
use Rattle.job_meaning.specs.Tables.{Tables, by_tables}
use Rattle.job_meaning.specs.Follow.{follow}
use Rattle.job_meaning.specs.Meaning.{root_log, root_label}
use Rattle.job_meaning.specs.Moments.{tick_of, a_round_after, wakes_at, gives_up_at, Now, only_at, far}
use Rattle.job_meaning.specs.declared.clock.Clock.{Clock}
use Rattle.job_meaning.specs.Walk.{Levels, Stack, no_stack, Mode, by_table, Here, walk, walk_step, walk_handler, walk_cleanup, in_sequence, then_if, and_then, done_at, raised_at, wait_by_sight, wait_until, set_moment, with_line_if, event_wait, sleep_result, pace_result, log_of_lines, lines_result, raise_result, need_result, sign_of, cancel_result, set_result, Kind, from_for, stack_for, exit_with_from, left_with, block, event_block, event_result, with_act, close_result, with_token_back, last_grant, leaves_queue, in_time, left_result, granted_result, asked_result, asks_in, ask_result, sign_if, home_of, with_sign, nursery_result, child, each, passes, handler_result, cleanup_result, with_outcome, handler_exc, label_here, label_over, stack_inside, stack_in_event, here_in, cuts_over, in_pass}
use Rattle.job_meaning.specs.Walk as walks
use Rattle.job_meaning.proofs.MomentLemmas.{round_after}
use Rattle.job_meaning.proofs.Finish.{followed_assoc}
use Rattle.job_meaning.proofs.Clips.{followed_nil}
use Rattle.job_meaning.proofs.Settled.{settled_is_meaning}
use Rattle.job_story.specs.Story.{at_checkpoint, waiting_for, in_queue, Asked, Happening, enters, enters_event, sleeps, is_cancelled, finds, misses, raises, cancels, sets, awaits, was_set, enters_object, queues, gets, finds_closed, deadlocks, gives_token_back, closes_channel, handles, cleans, replaces, waits, leaves, Story, no_more, happened, started, then_story, erased_ask, erased_one, erased_log, Tale, result_of}
use Rattle.job_story.specs.Tell.{Scene, ended_at, now_of, story_of_one, and_tale, tale_if, then_tale, failed_at, after_this, seer, asleep_for, during_sleep, tell_slept, tell_sleep, tell_pace, tell_waiting, with_set_if, tell_event_wait, tell_lines, tell_need, tell_raise, tell_cancel, tell_set, tell_left, tell_block, tell_event, tell_object, tell_close, with_token_told, tell_left_queue, tell_granted, queues_if, asked_if, tell_got, tell_asked, tell_asks, tell_unasked, tell_ask, tell_wait, tell_gathered, tell_child, tell_each, tell_passes, handled_if, handled_exc, tell_handled, replacement, cleaned_by, tell_cleaned, at_place, tell, tell_step, tell_handler, tell_cleanup, root_scene, tale_by}
use Rattle.job_story.specs.Laws.{TellingIsFollowing, StoriesAreTrue}

-- ---- stories, one after another

-- what a log contains of a happening is before the rest
erased_before : (t : ℕ) (what : Happening) (a b : Log) → followed_by (erased_one t what a) b ≡ erased_one t what (followed_by a b)
erased_before t (enters kind label deadline shield) a b = refl
erased_before t (enters_event label) a b = refl
erased_before t (sleeps until) a b = refl
erased_before t (is_cancelled by during in_cleanup) a b = refl
erased_before t (finds lines) a b = followed_assoc (log_of_lines t lines) a b
erased_before t (misses name) a b = refl
erased_before t (raises name) a b = refl
erased_before t (cancels label) a b = followed_assoc (sign_of label t) a b
erased_before t (sets label) a b = followed_assoc (sign_of label t) a b
erased_before t (awaits label) a b = refl
erased_before t (was_set label) a b = refl
erased_before t (enters_object kind label) a b = refl
erased_before t (queues ask label part left) a b = refl
erased_before t (gets ask label None) a b = refl
erased_before t (gets ask label (Some asked)) a b = refl
erased_before t (finds_closed ask label None) a b = refl
erased_before t (finds_closed ask label (Some asked)) a b = refl
erased_before t (deadlocks ask label) a b = refl
erased_before t (gives_token_back label) a b = refl
erased_before t (closes_channel None) a b = refl
erased_before t (closes_channel (Some label)) a b = refl
erased_before t (handles matched left) a b = refl
erased_before t (cleans exc) a b = refl
erased_before t (replaces lost fresh) a b = refl
erased_before t (waits label exc) a b = followed_assoc (sign_if exc (Some label) t) a b
erased_before t (leaves kind label inside caught outside) a b = refl

erased_then : (a b : Story) → erased_log (then_story a b) ≡ followed_by (erased_log a) (erased_log b)
erased_then no_more b = refl
erased_then (happened t what rest) b =
    ap (λ (l : Log). erased_one t what l) (erased_then rest b) ∙ sym (erased_before t what (erased_log rest) (erased_log b))
erased_then (started l home part s u e own rest) b =
    ap (λ (x : Log). task l s u e (followed_by (erased_log own) (sign_if e home u)) x) (erased_then rest b)

-- a tale whose story has this log is the result with it
with_log : (a : Tale) (l : Log) → erased_log a.story ≡ l → result_of a ≡ record { end = a.end; own = a.own; exc = a.exc; members = a.members; log = l }
with_log a l e = ap (λ (x : Log). record { end = a.end; own = a.own; exc = a.exc; members = a.members; log = x }) e

joined_is : (a b : Tale) → result_of (and_tale a b) ≡ in_sequence (result_of a) (result_of b)
joined_is a b = with_log (and_tale a b) (followed_by (erased_log a.story) (erased_log b.story)) (erased_then a.story b.story)

-- one tale and then another, from the results of both
then_is : (a : Tale) (r : Result) (go : Now → Tale) (walked : Now → Result) → result_of a ≡ r →
    ((later : Now) → result_of (go later) ≡ walked later) → result_of (then_tale a go) ≡ and_then r walked
unfolding then_tale and_then
then_is a r go walked e h = by_outcome a.exc ∙ ap (λ (x : Result). then_if x.exc x walked) e
  where
    by_outcome : (o : Option Exc) → result_of (tale_if o a go) ≡ then_if o (result_of a) walked
    by_outcome None = joined_is a (go (now_of a)) ∙ ap (λ (x : Result). in_sequence (result_of a) x) (h (now_of a))
    by_outcome (Some x) = refl

-- ---- steps that take time, and others

asleep_erased : (n m : ℕ) (until : Tick) (b : Story) → erased_log (then_story (asleep_for n m until) b) ≡ erased_log b
asleep_erased zero m until b = refl
asleep_erased (suc n) m until b = refl

asleep_nothing : (n m : ℕ) (until : Tick) → erased_log (asleep_for n m until) ≡ nil
asleep_nothing zero m until = refl
asleep_nothing (suc n) m until = refl

slept_is : (from : Tick) (n m least gives_up end : ℕ) (st : Levels) (c : Bool) (until : Tick) → m ≤ least →
    result_of (tell_slept from n m least gives_up end st c until) ≡ wait_by_sight from least gives_up end
slept_is None n m least gives_up end st c until le = with_log (ended_at (only_at end) (asleep_for n m until)) nil (asleep_nothing n m until)
slept_is (Some from) n m least gives_up end st c until le = by_now (nat_le from m) (nat_le from least) (nat_le from end) seen_by_then
  where
    seen_by_then : nat_le from m ≡ true → nat_le from least ≡ true
    seen_by_then at = grind (arith, nat_tests)

    while_asleep : ℕ → Tale
    while_asleep t =
        failed_at cancelled (only_at t)
        (then_story (asleep_for n m until) (story_of_one t (is_cancelled (seer st from) (during_sleep n m) c)))

    asleep_is : (t : ℕ) → result_of (while_asleep t) ≡ raised_at cancelled (only_at t)
    asleep_is t =
        with_log (while_asleep t) nil (asleep_erased n m until (story_of_one t (is_cancelled (seer st from) (during_sleep n m) c)))

    by_now : (b d w : Bool) → (b ≡ true → d ≡ true) →
        result_of (if b then failed_at cancelled (only_at gives_up) (story_of_one gives_up (is_cancelled (seer st from) at_checkpoint c))
        else (if d then while_asleep gives_up
        else (if w then while_asleep from else ended_at (only_at end) (asleep_for n m until))))
        ≡ (if d then raised_at cancelled (only_at gives_up)
        else (if w then raised_at cancelled (only_at from) else done_at (only_at end)))
    by_now true true w least_too = refl
    by_now true false w least_too = absurd (true≢false (sym (least_too refl)))
    by_now false true w least_too = asleep_is gives_up
    by_now false false true least_too = asleep_is from
    by_now false false false least_too = with_log (ended_at (only_at end) (asleep_for n m until)) nil (asleep_nothing n m until)

sleep_is : (clock : Clock) (st : Stack) (c : Bool) (until : Tick) (n m : ℕ) →
    result_of (tell_sleep clock st.scopes c until n m) ≡ sleep_result clock st n m
unfolding tell_sleep sleep_result
sleep_is clock st c until n m =
    slept_is (sight st.scopes) n m (a_round_after clock m) (gives_up_at clock n m) (wakes_at clock n m) st.scopes c until (round_after clock m)

pace_is : (clock : Clock) (st : Stack) (c : Bool) (until : Tick) (n m : ℕ) →
    result_of (tell_pace clock st.scopes c until n m) ≡ pace_result clock st n m
unfolding tell_pace pace_result
pace_is clock st c until n m =
    slept_is (sight st.scopes) n m (a_round_after clock m) (a_round_after clock m) (wakes_at clock n m) st.scopes c until (round_after clock m)

-- ---- waits for events

-- a sleep has no log
no_log : (from : Tick) (least gives_up end : ℕ) → (wait_by_sight from least gives_up end).log ≡ nil
no_log None least gives_up end = refl
no_log (Some from) least gives_up end = by_now (nat_le from least) (nat_le from end)
  where
    by_now : (d w : Bool) → (if d then raised_at cancelled (only_at gives_up)
        else (if w then raised_at cancelled (only_at from) else done_at (only_at end))).log ≡ nil
    by_now true w = refl
    by_now false true = refl
    by_now false false = refl

sleep_no_log : (clock : Clock) (st : Stack) (n m : ℕ) → (sleep_result clock st n m).log ≡ nil
unfolding sleep_result
sleep_no_log clock st n m = no_log (sight st.scopes) (a_round_after clock m) (gives_up_at clock n m) (wakes_at clock n m)

-- a checkpoint after which an event is set
set_is : (label : Label) (a : Tale) (r : Result) → result_of a ≡ r → r.log ≡ nil → result_of (with_set_if a.exc label a) ≡ with_line_if r.exc label r
set_is label a r e none = by_exc a.exc ∙ ap (λ (x : Result). with_line_if x.exc label x) e
  where
    erased : erased_log a.story ≡ nil
    erased = ap (λ (x : Result). x.log) e ∙ none

    by_exc : (o : Option Exc) → result_of (with_set_if o label a) ≡ with_line_if o label (result_of a)
    by_exc None =
        with_log (with_set_if None label a) (entry a.end (waited label) nil)
        (erased_then a.story (story_of_one a.end (was_set label))
        ∙ ap (λ (x : Log). followed_by x (entry a.end (waited label) nil)) erased)
    by_exc (Some x) = refl

-- a wait that is no checkpoint
waiting_is : (from : Tick) (m least end : ℕ) (st : Levels) (c : Bool) (label : Label) → m ≤ least → nat_le end least ≡ false →
    result_of (tell_waiting from m least end st c label) ≡ (let r = wait_until from least end in with_line_if r.exc label r)
waiting_is None m least end st c label le late = refl
waiting_is (Some from) m least end st c label le late = by_now (nat_le from m) (nat_lt from end) seen_by_then
  where
    seen_by_then : nat_le from m ≡ true → nat_lt from end ≡ true
    seen_by_then at = grind (arith, nat_tests)

    t : ℕ
    t = max least from

    by_now : (b w : Bool) → (b ≡ true → w ≡ true) →
        result_of (if b then failed_at cancelled (only_at t) (story_of_one t (is_cancelled (seer st from) at_checkpoint c))
        else (if w then failed_at cancelled (only_at t)
        (happened m (awaits label) (story_of_one t (is_cancelled (seer st from) (waiting_for label m) c)))
        else ended_at (only_at end) (happened m (awaits label) (story_of_one end (was_set label)))))
        ≡ (let r = (if w then raised_at cancelled (only_at t) else done_at (only_at end)) in with_line_if r.exc label r)
    by_now true true before = refl
    by_now true false before = absurd (true≢false (sym (before refl)))
    by_now false true before = refl
    by_now false false before = refl

event_wait_is : (clock : Clock) (st : Stack) (c : Bool) (level : Option (Level Label)) (now : Now) →
    result_of (tell_event_wait clock st.scopes c level now) ≡ event_wait clock st level now
unfolding tell_event_wait event_wait
event_wait_is clock st c None now = refl
event_wait_is clock st c (Some l) now = by_round (nat_le u (a_round_after clock now.at)) refl
  where
    u : ℕ
    u = set_moment clock l.from now.at

    by_round : (b : Bool) → nat_le u (a_round_after clock now.at) ≡ b →
        result_of (if b then (let a = tell_sleep clock st.scopes c (Some now.at) 0 now.at in with_set_if a.exc l.label a)
        else tell_waiting (sight st.scopes) now.at (a_round_after clock now.at) u st.scopes c l.label)
        ≡ (let r = (if b then sleep_result clock st 0 now.at else wait_until (sight st.scopes) (a_round_after clock now.at) u) in
        with_line_if r.exc l.label r)
    by_round true soon =
        set_is l.label (tell_sleep clock st.scopes c (Some now.at) 0 now.at) (sleep_result clock st 0 now.at)
        (sleep_is clock st c (Some now.at) 0 now.at) (sleep_no_log clock st 0 now.at)
    by_round false late = waiting_is (sight st.scopes) now.at (a_round_after clock now.at) u st.scopes c l.label (round_after clock now.at) late

-- ---- other steps

lines_is : (lines : List Span) (now : Now) → result_of (tell_lines lines now) ≡ lines_result lines now
unfolding tell_lines lines_result
lines_is lines now = with_log (tell_lines lines now) (log_of_lines now.at lines) (followed_nil (log_of_lines now.at lines))

need_is : (found : Option Span) (name : List ℕ) (here : Here) (now : Now) →
    result_of (tell_need found name here now) ≡ need_result found name here now
unfolding tell_need need_result lines_result raise_result
need_is None name here now = refl
need_is (Some l) name here now = refl

raise_is : (name : List ℕ) (here : Here) (now : Now) → result_of (tell_raise name here now) ≡ raise_result name here now
unfolding tell_raise raise_result
raise_is name here now = refl

cancel_is : (clock : Clock) (label : Option Label) (now : Now) → result_of (tell_cancel clock label now) ≡ cancel_result clock label now
unfolding tell_cancel cancel_result
cancel_is clock None now = refl
cancel_is clock (Some l) now = refl

set_step_is : (clock : Clock) (label : Option Label) (now : Now) → result_of (tell_set clock label now) ≡ set_result clock label now
unfolding tell_set set_result
set_step_is clock None now = refl
set_step_is clock (Some l) now = refl

-- ---- blocks

block_is : (clock : Clock) (k : Tables) (kind : Kind) (label : Label) (m : ℕ) (d : Tick) (shield : Bool) (st : Stack) (inside : Tick → Tale)
    (walked : Tick → Result) → ((f : Tick) → result_of (inside f) ≡ walked f) →
    result_of (tell_block clock k.cancelled_from kind label m d shield st.scopes inside)
    ≡ block clock (by_tables k) kind label m d shield st walked
unfolding tell_block block
block_is clock k kind label m d shield st inside walked h =
    let from = k.cancelled_from label in
    let a = inside from in
    with_log
    (tell_left clock kind label m d shield
    (left_with (catches (from_for a.own a.end label from) shield (stack_for a.own a.end st.scopes) a.end) a.exc) a) _
    (ap (λ (x : Log). entered label m d x) (erased_then a.story _))
    ∙ ap (λ (r : Result). exit_with_from clock kind label m d shield st from r) (h from)

event_is : (k : Tables) (label : Label) (m : ℕ) (inside : Tick → Tale) (walked : Tick → Result) → ((f : Tick) → result_of (inside f) ≡ walked f) →
    result_of (tell_event k.cancelled_from label m inside) ≡ event_block (by_tables k) label m walked
unfolding tell_event event_block
event_is k label m inside walked h = ap (λ (r : Result). event_result label m r) (h (k.cancelled_from label))

-- ---- limiters and channels

object_is : (k : Tables) (kind : ObjectKind) (label : Label) (m : ℕ) (inside : Tick → Tale) (walked : Tick → Result) →
    ((f : Tick) → result_of (inside f) ≡ walked f) →
    result_of (tell_object k.cancelled_from kind label m inside) ≡ with_act label m (opens kind) (event_block (by_tables k) label m walked)
unfolding tell_object event_block
object_is k kind label m inside walked h =
    ap (λ (r : Result). with_act label m (opens kind) (event_result label m r)) (h (k.cancelled_from label))

close_is : (label : Option Label) (now : Now) → result_of (tell_close label now) ≡ close_result label now
unfolding tell_close close_result
close_is None now = refl
close_is (Some l) now = refl

token_is : (label : Label) (a : Tale) (r : Result) → result_of a ≡ r → result_of (with_token_told label a) ≡ with_token_back label r
unfolding with_token_told with_token_back
token_is label a r e =
    with_log (with_token_told label a) _ (erased_then a.story (story_of_one a.end (gives_token_back label)))
    ∙ ap (λ (x : Result). with_token_back label x) e

-- what was asked at once is in the log before what was granted
abbrev with_ask : Label → Option Asked → Result → Result
with_ask label asked r = record r { log = erased_ask label asked r.log }

left_queue_is : (ask : Ask) (label : Label) (scene : Scene) (levels : Levels) (m left : ℕ) →
    result_of (tell_left_queue ask label scene levels m left) ≡ left_result scene.here (sight levels) left
left_queue_is ask label scene levels m left = by_sight (is_reached (sight levels) left)
  where
    by_sight : (b : Bool) →
        result_of (if b
        then failed_at cancelled (only_at left) (story_of_one left (is_cancelled (seer levels left) (in_queue ask label m) scene.in_cleanup))
        else failed_at (raised (codes "Deadlock") scene.here.task (tick_of scene.here.clock left)) (only_at left)
        (story_of_one left (deadlocks ask label)))
        ≡ (if b then raised_at cancelled (only_at left)
        else raised_at (raised (codes "Deadlock") scene.here.task (tick_of scene.here.clock left)) (only_at left))
    by_sight true = refl
    by_sight false = refl

granted_is : (label : Label) (here : Here) (g : ℕ) (what : What) (asked : Option Asked) (go : Here → Now → Tale) (walked : Here → Now → Result) →
    ((inner : Here) (later : Now) → result_of (go inner later) ≡ walked inner later) →
    result_of (tell_granted label here g what asked go) ≡ with_ask label asked (granted_result label here g what walked)
granted_is label here g a_token asked go walked h =
    ap (λ (r : Result). with_ask label asked (record r { log = entry g (was_granted Acquire label) r.log }))
    (token_is label (go here (only_at g)) (walked here (only_at g)) (h here (only_at g)))
granted_is label here g was_sent asked go walked h =
    ap (λ (r : Result). with_ask label asked (record r { log = entry g (was_granted Send label) r.log })) (h here (only_at g))
granted_is label here g (a_part lent) asked go walked h =
    ap (λ (r : Result). with_ask label asked (record r { log = entry g (was_granted Receive label) r.log }))
    (h (record here { part = lent }) (only_at g))
granted_is label here g closed_resource asked go walked h = refl
granted_is label here g end_of_channel asked go walked h = refl

got_is : (ask : Ask) (label : Label) (here : Here) (m : ℕ) (g : Granted) (go : Here → Now → Tale) (walked : Here → Now → Result) →
    ((inner : Here) (later : Now) → result_of (go inner later) ≡ walked inner later) →
    result_of (tell_got ask label here m g go) ≡ with_act label m (asks ask here.part None) (granted_result label here g.at g.what walked)
got_is ask label here m g go walked h = by_round (nat_le g.at (suc m))
  where
    by_round : (b : Bool) →
        (let a = tell_granted label here g.at g.what (asked_if b ask m here.part) go in
        result_of (record a { story = then_story (queues_if b ask label here.part m) a.story }))
        ≡ with_act label m (asks ask here.part None) (granted_result label here g.at g.what walked)
    by_round true = granted_is label here g.at g.what (asked_if true ask m here.part) go walked h
    by_round false = ap (λ (r : Result). with_act label m (asks ask here.part None) r) (granted_is label here g.at g.what None go walked h)

asked_is : (ask : Ask) (label : Label) (scene : Scene) (levels : Levels) (m left : ℕ) (o : Option Granted) (go : Here → Now → Tale)
    (walked : Here → Now → Result) → ((inner : Here) (later : Now) → result_of (go inner later) ≡ walked inner later) →
    result_of (tell_asked ask label scene levels m left o go) ≡ asked_result ask label scene.here (sight levels) m left o walked
asked_is ask label scene levels m left None go walked h =
    ap (λ (r : Result). with_act label m (asks ask scene.here.part (Some left)) r) (left_queue_is ask label scene levels m left)
asked_is ask label scene levels m left (Some g) go walked h = got_is ask label scene.here m g go walked h

ask_is : (k : Tables) (ask : Ask) (label : Option Label) (scene : Scene) (st : Stack) (now : Now) (go : Here → Now → Tale)
    (walked : Here → Now → Result) → ((inner : Here) (later : Now) → result_of (go inner later) ≡ walked inner later) →
    result_of (tell_ask k ask label scene st.scopes now go) ≡ ask_result (by_tables k) ask label scene.here st now walked
unfolding tell_ask ask_result
ask_is k ask None scene st now go walked h = refl
ask_is k ask (Some label) scene st now go walked h = by_sight (seen (stack_for now.own now.at st.scopes) now.at)
  where
    by_sight : (b : Bool) →
        result_of (if b then tell_unasked ask label scene st.scopes (gives_up_at scene.here.clock 0 now.at)
        else tell_asks k ask label scene st.scopes now.at go)
        ≡ (if b then raised_at cancelled (only_at (gives_up_at scene.here.clock 0 now.at))
        else asks_in (by_tables k) ask label scene.here st now.at walked)
    by_sight true = refl
    by_sight false =
        let left = leaves_queue (sight st.scopes) (last_grant scene.here.clock now.at) in
        asked_is ask label scene st.scopes now.at left (in_time now.at left (k.granted label scene.here.task now.at)) go walked h

-- ---- nurseries and started tasks

wait_is : (label : Label) (shield : Bool) (from : Tick) (st : Stack) (a : Tale) (r : Result) → result_of a ≡ r →
    result_of (tell_wait label a) ≡ with_sign (stack_inside label shield from st) r
unfolding tell_wait with_sign
wait_is label shield from st a r e =
    with_log (tell_wait label a) _
    (erased_then a.story (story_of_one a.end (waits label a.exc))
    ∙ ap (λ (x : Log). followed_by (erased_log a.story) x) (followed_nil (sign_if a.exc (Some label) a.end)))
    ∙ ap (λ (x : Result). with_sign (stack_inside label shield from st) x) e

gathered_is : (clock : Clock) (label : Label) (a : Tale) (r : Result) → result_of a ≡ r →
    result_of (tell_gathered clock label a) ≡ nursery_result clock label r
unfolding tell_gathered nursery_result
gathered_is clock label a r e = ap (λ (x : Result). nursery_result clock label x) e

child_is : (label : Label) (st : Stack) (scene : Scene) (begins : ℕ) (a : Tale) (r : Result) (now : Now) → result_of a ≡ r →
    result_of (tell_child label (home_of st.scopes) scene begins a now) ≡ child label begins (with_sign st r) now
unfolding tell_child child with_sign
child_is label st scene begins a r now e = ap (λ (x : Result). child label begins (with_sign st x) now) e

each_is : (k : ℕ) (go : ℕ → Tale) (walked : ℕ → Result) (now : Now) → ((i : ℕ) → result_of (go i) ≡ walked i) →
    result_of (tell_each k go now) ≡ each k walked now
each_is zero go walked now h = refl
each_is (suc k) go walked now h =
    joined_is (tell_each k go now) (go k)
    ∙ (ap (λ (x : Result). in_sequence x (result_of (go k))) (each_is k go walked now h)
    ∙ ap (λ (x : Result). in_sequence (each k walked now) x) (h k))

passes_is : (first k : ℕ) (go : ℕ → Now → Tale) (walked : ℕ → Now → Result) (now : Now) →
    ((i : ℕ) (later : Now) → result_of (go i later) ≡ walked i later) → result_of (tell_passes first k go now) ≡ passes first k walked now
passes_is first zero go walked now h = refl
passes_is first (suc k) go walked now h =
    then_is (go first now) (walked first now) (λ later. tell_passes (suc first) k go later) (λ later. passes (suc first) k walked later)
    (h first now) (λ later. passes_is (suc first) k go walked later h)

-- ---- handlers and cleanups

handled_is : (wanted : Wanted) (a : Tale) (r : Result) (go : Now → Tale) (walked : Now → Result) → result_of a ≡ r →
    ((later : Now) → result_of (go later) ≡ walked later) → result_of (tell_handled wanted a go) ≡ handler_result wanted r walked
unfolding tell_handled handler_result
handled_is wanted a r go walked e h =
    by_outcome a.exc ∙ ap (λ (x : Result). walks.handler_for x.exc wanted x walked) e
  where
    by_match : (o rest : Option Exc) → result_of (handled_if o rest a go) ≡ walks.handler_if_any o rest (result_of a) walked
    by_match None rest = refl
    by_match (Some m) rest =
        ap (λ (x : Result). with_outcome (handler_exc (go (now_of a)).exc rest) x)
        (joined_is a (after_this a.end (handles m rest) (go (now_of a))))
        ∙ ap (λ (x : Result). walks.handler_after rest (result_of a) x) (h (now_of a))

    by_outcome : (o : Option Exc) → result_of (handled_exc o wanted a go) ≡ walks.handler_for o wanted (result_of a) walked
    by_outcome None = refl
    by_outcome (Some x) = by_match (keep wanted x) (drop wanted x)

replaced_nothing : (lost fresh : Option Exc) (t : ℕ) → erased_log (replacement lost fresh t) ≡ nil
replaced_nothing None fresh t = refl
replaced_nothing (Some l) None t = refl
replaced_nothing (Some l) (Some f) t = refl

cleaned_is : (a : Tale) (r : Result) (go : Now → Tale) (walked : Now → Result) → result_of a ≡ r →
    ((later : Now) → result_of (go later) ≡ walked later) → result_of (tell_cleaned a go) ≡ cleanup_result r walked
unfolding tell_cleaned cleanup_result
cleaned_is a r go walked e h =
    with_log (cleaned_by a b) _
    (erased_then a.story _
    ∙ ap (λ (x : Log). followed_by (erased_log a.story) x)
    (erased_then b.story (replacement a.exc b.exc b.end)
    ∙ (ap (λ (x : Log). followed_by (erased_log b.story) x) (replaced_nothing a.exc b.exc b.end) ∙ followed_nil (erased_log b.story))))
    ∙ (ap (λ (x : Result). walks.cleanup_after (result_of a) x) (h (now_of a))
    ∙ ap (λ (x : Result). walks.cleanup_after x (walked (walks.now_of x))) e)
  where
    b : Tale
    b = go (now_of a)

-- ---- the walk

mutual
  unfolding tell walk

  -- the story of the steps of a block is the log of walking them
  pub tell_is : (k : Tables) (b : Steps) (scene : Scene) (st : Stack) (now : Now) →
      result_of (tell k b scene st now) ≡ walk (by_tables k) b scene.here st now
  tell_is k stop scene st now = refl
  tell_is k (step s ss) scene st now =
      then_is (tell_step k s scene st now) (walk_step (by_tables k) s scene.here st now) (λ later. tell k ss scene st later)
      (λ later. walk (by_tables k) ss scene.here st later) (step_is k s scene st now) (λ later. tell_is k ss scene st later)

  pub step_is : (k : Tables) (s : Step) (scene : Scene) (st : Stack) (now : Now) →
      result_of (tell_step k s scene st now) ≡ walk_step (by_tables k) s scene.here st now
  step_is k (sleep n) scene st now = sleep_is scene.here.clock st scene.in_cleanup _ n now.at
  step_is k checkpoint scene st now = sleep_is scene.here.clock st scene.in_cleanup _ 0 now.at
  step_is k forever scene st now =
      sleep_is scene.here.clock st scene.in_cleanup None (far - tick_of scene.here.clock now.at) now.at
  step_is k (pace n) scene st now = pace_is scene.here.clock st scene.in_cleanup _ _ now.at
  step_is k (find text) scene st now = lines_is _ now
  step_is k (head n) scene st now = lines_is _ now
  step_is k longest scene st now = lines_is _ now
  step_is k (need text name) scene st now = need_is _ name scene.here now
  step_is k (raise name) scene st now = raise_is name scene.here now
  step_is k (cancel name) scene st now = cancel_is scene.here.clock _ now
  step_is k (set_event name) scene st now = set_step_is scene.here.clock _ now
  step_is k (wait_for name) scene st now = event_wait_is scene.here.clock st scene.in_cleanup _ now
  step_is k (ask_for name ask body) scene st now =
      ask_is k ask _ scene st now _ _ (λ inner later. tell_is k body (at_place inner scene) st later)
  step_is k (close_channel name) scene st now = close_is _ now
  step_is k (scope name d shield fail body) scene st now =
      block_is scene.here.clock k _ (label_here name scene.here) now.at _ shield st _ _
      (λ f. tell_is k body scene (stack_inside (label_here name scene.here) shield f st) now)
  step_is k (nursery name d shield body) scene st now =
      block_is scene.here.clock k _ (label_here name scene.here) now.at _ shield st _ _
      (λ f. gathered_is scene.here.clock (label_here name scene.here) _ _
      (wait_is (label_here name scene.here) shield f st _ _
      (tell_is k body scene (stack_inside (label_here name scene.here) shield f st) now)))
  step_is k (event name body) scene st now =
      event_is k (label_here name scene.here) now.at _ _
      (λ f. tell_is k body scene (stack_in_event (label_here name scene.here) f st) now)
  step_is k (object name kind body) scene st now =
      object_is k kind (label_here name scene.here) now.at _ _
      (λ f. tell_is k body scene (stack_in_event (label_here name scene.here) f st) now)
  step_is k (start name None body) scene st now =
      let inner = at_place (here_in (label_here name scene.here) scene.here.part scene.here) scene in
      let begins = a_round_after scene.here.clock now.at in
      child_is (label_here name scene.here) st inner begins _ _ now (tell_is k body inner st (only_at begins))
  step_is k (start name (Some copies) body) scene st now =
      let begins = a_round_after scene.here.clock now.at in
      each_is copies _ _ now (λ i.
      let inner = at_place (here_in (label_over name scene.here i) (cut_of scene.here.input scene.here.part copies i) scene.here) scene in
      child_is (label_over name scene.here i) st inner begins _ _ now (tell_is k body inner st (only_at begins)))
  step_is k (repeat count over body) scene st now =
      passes_is 0 count _ _ now (λ i later. tell_is k body (at_place (in_pass (cuts_over over count) i scene.here) scene) st later)
  step_is k (attempt body handler cleanup) scene st now =
      cleanup_is k cleanup scene st _ _ (handler_is k handler scene st _ _ (tell_is k body scene st now))

  pub handler_is : (k : Tables) (x : Handled) (scene : Scene) (st : Stack) (a : Tale) (r : Result) → result_of a ≡ r →
      result_of (tell_handler k x scene st a) ≡ walk_handler (by_tables k) x scene.here st r
  handler_is k unhandled scene st a r e = e
  handler_is k (except name body) scene st a r e = handled_is (named name) a r _ _ e (λ later. tell_is k body scene st later)

  cleanup_is : (k : Tables) (x : Cleaned) (scene : Scene) (st : Stack) (a : Tale) (r : Result) → result_of a ≡ r →
      result_of (tell_cleanup k x scene st a) ≡ walk_cleanup (by_tables k) x scene.here st r
  cleanup_is k uncleaned scene st a r e = e
  cleanup_is k (finally body) scene st a r e =
      cleaned_is a r _ _ e (λ later. tell_is k body (record scene { in_cleanup = true }) st later)

-- ---- the laws

pub telling_is_following : TellingIsFollowing
unfolding tale_by follow
telling_is_following k job input = tell_is k job.steps (root_scene job input) no_stack (only_at 0)

-- so the story by settled tables is the log of the meaning
pub stories_are_true : StoriesAreTrue
stories_are_true k job input once in_range small settled =
    let e = telling_is_following k job input ∙ settled_is_meaning k.cancelled_from k.granted job input once in_range small settled in
    let a = tale_by k job input in
    ap (λ (x : Log). task (root_label job.name) 0 a.end a.exc x nil) (followed_by_none a.exc (erased_log a.story) a.end)
    ∙ ap (λ (r : Result). root_log job r) e
  where
    followed_by_none : (o : Option Exc) (a : Log) (t : ℕ) → followed_by a (sign_if o None t) ≡ a
    followed_by_none None a t = followed_nil a
    followed_by_none (Some x) a t = followed_nil a
