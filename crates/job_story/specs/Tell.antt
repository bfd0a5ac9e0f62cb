-- The story of a job's steps by two tables: the walk of its tree, with a story in place of the log.
use Rattle.std.specs.Prelude.{ℕ, zero, suc, ◌-◌, ◌==◌, Bool, true, false, Option, Some, None, List, [], ◌∷◌, ◌++◌, nat_le, nat_lt, max, codes, if◌then◌else◌}
use Rattle.job_tree.specs.Tree.{Step, sleep, checkpoint, forever, pace, find, head, longest, need, raise, cancel, set_event, wait_for, ask_for, close_channel, scope, nursery, event, object, start, repeat, attempt, Steps, stop, step, Handled, unhandled, except, Cleaned, uncleaned, finally, Tree}
use Rattle.job_tree.specs.declared.object.Ask.{Ask}
use Rattle.job_tree.specs.declared.object.ObjectKind.{ObjectKind}
use Rattle.job_tree.specs.declared.object.Ask.TheVariants.{Acquire, Send, Receive}
use Rattle.input_lines.specs.Lines.{Range, Span}
use Rattle.input_lines.specs.Cuts.{cut_of}
use Rattle.input_lines.specs.Kernels.{found_in, head_of, longest_in, needed_in, count_in}
use Rattle.exceptions.specs.Exceptions.{Label, by_nursery, Exc, cancelled, raised, parts_of, group_of}
use Rattle.exceptions.specs.Split.{Wanted, named, keep, drop}
use Rattle.cancel_scopes.specs.Sight.{Tick, Level, sight, seen, is_reached, catches}
use Rattle.job_meaning.specs.Log.{Table}
use Rattle.job_meaning.specs.Meaning.{root_label, root_here}
use Rattle.job_meaning.specs.Sharing.{What, a_token, was_sent, a_part, closed_resource, end_of_channel, Granted}
use Rattle.job_meaning.specs.Tables.{Tables}
use Rattle.job_meaning.specs.Moments.{tick_of, a_round_after, wakes_at, gives_up_at, due, Now, only_at, far}
use Rattle.job_meaning.specs.declared.clock.Clock.{Clock}
use Rattle.job_meaning.specs.Walk.{Levels, Stack, no_stack, Here, label_here, set_moment, pace_ticks, label_on, event_on, last_grant, leaves_queue, in_time, with_own, from_for, stack_for, Left, left_with, Kind, a_scope, a_nursery, exc_after, stack_inside, stack_in_event, home_of, latest, with_exc, excs_of, cuts_over, in_pass, here_in, label_over, handler_exc, outcome_after}
use Rattle.job_story.specs.Story.{During, at_checkpoint, sleeping, waiting_for, in_queue, before_asking, Asked, Happening, enters, enters_event, sleeps, is_cancelled, finds, misses, raises, cancels, sets, awaits, was_set, enters_object, queues, gets, finds_closed, deadlocks, gives_token_back, closes_channel, handles, cleans, replaces, waits, leaves, Story, no_more, happened, started, then_story, Tale}

-- where a walk is, and whether it is in a `finally` block of this task or of one that started it
pub record Scene : Type 0 where
  pub here : Here
  pub in_cleanup : Bool

abbrev pub ended_at : Now → Story → Tale
ended_at now story = record { end = now.at; own = now.own; exc = None; members = []; story = story }

-- where a task is after a tale
abbrev pub now_of : Tale → Now
now_of a = record { at = a.end; own = a.own }

-- the story in which only this happened, in this moment
abbrev pub story_of_one : ℕ → Happening → Story
story_of_one t what = happened t what no_more

abbrev pub failed_at : Exc → Now → Story → Tale
failed_at e now story = record { end = now.at; own = now.own; exc = Some e; members = []; story = story }

-- one tale after another: the end and the exception are those of the second
abbrev pub and_tale : Tale → Tale → Tale
and_tale a b = record { end = b.end; own = b.own; exc = b.exc; members = a.members ++ b.members; story = then_story a.story b.story }

abbrev pub tale_if : Option Exc → Tale → (Now → Tale) → Tale
tale_if None a go = and_tale a (go (now_of a))
tale_if (Some e) a go = a

unfoldable pub then_tale : Tale → (Now → Tale) → Tale
then_tale a go = tale_if a.exc a go

-- a tale with one more event before it, or after it
abbrev pub after_this : ℕ → Happening → Tale → Tale
after_this t what a = record a { story = happened t what a.story }

abbrev pub before_this : Tale → ℕ → Happening → Tale
before_this a t what = record a { story = then_story a.story (story_of_one t what) }

-- ---- sleeps

-- whether a scope is cancelled from exactly this tick on
abbrev pub is_from : Tick → ℕ → Bool
is_from None t = false
is_from (Some f) t = f == t

-- the innermost scope or nursery that determines the effective deadline (`sight`) t: the first that is cancelled from t on, up to and
-- including the first shielded one
abbrev pub seer : Levels → ℕ → Option Label
seer [] t = None
seer (l ∷ ls) t = if is_from l.from t then Some l.label else (if l.shield then None else seer ls t)

-- a sleep that takes no tick is not an event
abbrev pub asleep_for : ℕ → ℕ → Tick → Story
asleep_for zero m until = no_more
asleep_for (suc n) m until = story_of_one m (sleeps until)

-- what a task did that was cancelled in a sleep of n ticks from moment m: a sleep that takes no tick is a checkpoint
abbrev pub during_sleep : ℕ → ℕ → During
during_sleep zero m = at_checkpoint
during_sleep (suc n) m = sleeping m

-- A sleep of n ticks from moment m, which cannot end before `least`, and ends in `gives_up` if a cancellation is seen by then; the
-- story says that it is until `until`, or forever. A cancellation that is seen when it begins is one at a checkpoint.
abbrev pub tell_slept : Tick → (n m least gives_up end : ℕ) → Levels → Bool → Tick → Tale
tell_slept None n m least gives_up end levels cleanup until = ended_at (only_at end) (asleep_for n m until)
tell_slept (Some from) n m least gives_up end levels cleanup until =
    let while_asleep = (λ (t : ℕ). failed_at cancelled (only_at t)
    (then_story (asleep_for n m until) (story_of_one t (is_cancelled (seer levels from) (during_sleep n m) cleanup)))) in
    if nat_le from m then failed_at cancelled (only_at gives_up) (story_of_one gives_up (is_cancelled (seer levels from) at_checkpoint cleanup))
    else (if nat_le from least then while_asleep gives_up
    else (if nat_le from end then while_asleep from else ended_at (only_at end) (asleep_for n m until)))

unfoldable pub tell_sleep : Clock → Levels → Bool → Tick → ℕ → ℕ → Tale
tell_sleep clock levels cleanup until n m =
    tell_slept (sight levels) n m (a_round_after clock m) (gives_up_at clock n m) (wakes_at clock n m) levels cleanup until

-- a sleep of n ticks from moment m by `pace`
unfoldable pub tell_pace : Clock → Levels → Bool → Tick → ℕ → ℕ → Tale
tell_pace clock levels cleanup until n m =
    tell_slept (sight levels) n m (a_round_after clock m) (a_round_after clock m) (wakes_at clock n m) levels cleanup until

-- ---- waits for events

-- A wait from moment m for an event that is set in moment `end`, which cannot end before `least`. A cancellation that is seen when it
-- begins is one at a checkpoint.
abbrev pub tell_waiting : Tick → (m least end : ℕ) → Levels → Bool → Label → Tale
tell_waiting None m least end levels cleanup label =
    ended_at (only_at end) (happened m (awaits label) (story_of_one end (was_set label)))
tell_waiting (Some from) m least end levels cleanup label =
    let t = max least from in
    if nat_le from m then failed_at cancelled (only_at t) (story_of_one t (is_cancelled (seer levels from) at_checkpoint cleanup))
    else (if nat_lt from end then failed_at cancelled (only_at t)
    (happened m (awaits label) (story_of_one t (is_cancelled (seer levels from) (waiting_for label m) cleanup)))
    else ended_at (only_at end) (happened m (awaits label) (story_of_one end (was_set label))))

-- after a checkpoint that ended well, the event is set
abbrev pub with_set_if : Option Exc → Label → Tale → Tale
with_set_if None label a = before_this a a.end (was_set label)
with_set_if (Some e) label a = a

abbrev pub with_set : Label → Tale → Tale
with_set label a = with_set_if a.exc label a

-- a wait for an event that is set by the next round is a checkpoint
abbrev pub tell_wait_by : Clock → Levels → Bool → Label → (set m : ℕ) → Tale
tell_wait_by clock levels cleanup label set m =
    if nat_le set (a_round_after clock m) then with_set label (tell_sleep clock levels cleanup (Some m) 0 m)
    else tell_waiting (sight levels) m (a_round_after clock m) set levels cleanup label

-- where no event of the name encloses the task, nothing happens
abbrev pub tell_wait_on : Clock → Levels → Bool → Option (Level Label) → Now → Tale
tell_wait_on clock levels cleanup None now = ended_at now no_more
tell_wait_on clock levels cleanup (Some l) now =
    tell_wait_by clock levels cleanup l.label (set_moment clock l.from now.at) now.at

unfoldable pub tell_event_wait : Clock → Levels → Bool → Option (Level Label) → Now → Tale
tell_event_wait clock levels cleanup level now = tell_wait_on clock levels cleanup level now

-- ---- limiters and channels

-- a limiter or channel that was entered in moment m
unfoldable pub tell_object : Table → ObjectKind → Label → ℕ → (Tick → Tale) → Tale
tell_object table kind label m inside = after_this m (enters_object kind label) (inside (table label))

unfoldable pub tell_close : Option Label → Now → Tale
tell_close label now = ended_at now (story_of_one now.at (closes_channel label))

-- a token comes back when the block ends that took it, however it ends
unfoldable pub with_token_told : Label → Tale → Tale
with_token_told label a = before_this a a.end (gives_token_back label)

-- the scope or nursery whose cancellation is seen, if it has come by moment t
abbrev pub blamed_at : Levels → ℕ → Tick → Option Label
blamed_at levels t None = None
blamed_at levels t (Some from) = if nat_le from t then seer levels from else None

-- who leaves the queue is cancelled; who waited as long as `forever` raises `Deadlock`
abbrev pub tell_left_queue : Ask → Label → Scene → Levels → (m left : ℕ) → Tale
tell_left_queue ask label scene levels m left =
    if is_reached (sight levels) left
    then failed_at cancelled (only_at left) (story_of_one left (is_cancelled (seer levels left) (in_queue ask label m) scene.in_cleanup))
    else
    failed_at (raised (codes "Deadlock") scene.here.task (tick_of scene.here.clock left)) (only_at left)
    (story_of_one left (deadlocks ask label))

-- what a task does with what it is granted in moment g
abbrev pub tell_granted : Label → Here → (g : ℕ) → What → Option Asked → (Here → Now → Tale) → Tale
tell_granted label here g a_token asked go = after_this g (gets Acquire label asked) (with_token_told label (go here (only_at g)))
tell_granted label here g was_sent asked go = after_this g (gets Send label asked) (go here (only_at g))
tell_granted label here g (a_part lent) asked go = after_this g (gets Receive label asked) (go (record here { part = lent }) (only_at g))
tell_granted label here g closed_resource asked go =
    failed_at (raised (codes "ClosedResource") here.task (tick_of here.clock g)) (only_at g) (story_of_one g (finds_closed Send label asked))
tell_granted label here g end_of_channel asked go =
    failed_at (raised (codes "EndOfChannel") here.task (tick_of here.clock g)) (only_at g) (story_of_one g (finds_closed Receive label asked))

-- a task that asked in moment m waits in the queue, unless it is granted that in the next round
abbrev pub queues_if : (at_once : Bool) → Ask → Label → Range → ℕ → Story
queues_if true ask label lent m = no_more
queues_if false ask label lent m = story_of_one m (queues ask label lent None)

abbrev pub asked_if : (at_once : Bool) → Ask → ℕ → Range → Option Asked
asked_if true ask m lent = Some (record { ask = ask; since = m; part = lent })
asked_if false ask m lent = None

-- a tale after a story
abbrev pub after_story : Story → Tale → Tale
after_story story a = record a { story = then_story story a.story }

-- who asked in moment m leaves the queue
abbrev pub tell_leaving : Ask → Label → Scene → Levels → (m left : ℕ) → Tale
tell_leaving ask label scene levels m left =
    after_this m (queues ask label scene.here.part (Some left)) (tell_left_queue ask label scene levels m left)

-- who asked in moment m is granted that
abbrev pub tell_got : Ask → Label → Here → ℕ → Granted → (Here → Now → Tale) → Tale
tell_got ask label here m g go =
    let at_once = nat_le g.at (suc m) in
    after_story (queues_if at_once ask label here.part m) (tell_granted label here g.at g.what (asked_if at_once ask m here.part) go)

abbrev pub tell_asked : Ask → Label → Scene → Levels → (m left : ℕ) → Option Granted → (Here → Now → Tale) → Tale
tell_asked ask label scene levels m left None go = tell_leaving ask label scene levels m left
tell_asked ask label scene levels m left (Some g) go = tell_got ask label scene.here m g go

abbrev pub tell_asks : Tables → Ask → Label → Scene → Levels → ℕ → (Here → Now → Tale) → Tale
tell_asks k ask label scene levels m go =
    let left = leaves_queue (sight levels) (last_grant scene.here.clock m) in
    tell_asked ask label scene levels m left (in_time m left (k.granted label scene.here.task m)) go

-- a task that sees a cancellation, its own of this moment too, does not ask
abbrev pub tell_unasked : Ask → Label → Scene → Levels → ℕ → Tale
tell_unasked ask label scene levels t =
    failed_at cancelled (only_at t)
    (story_of_one t (is_cancelled (blamed_at levels t (sight levels)) (before_asking ask label) scene.in_cleanup))

-- where no limiter or channel of the name encloses the task, nothing happens
abbrev pub tell_ask_on : Tables → Ask → Option Label → Scene → Levels → Now → (Here → Now → Tale) → Tale
tell_ask_on k ask None scene levels now go = ended_at now no_more
tell_ask_on k ask (Some label) scene levels now go =
    if seen (stack_for now.own now.at levels) now.at then tell_unasked ask label scene levels (gives_up_at scene.here.clock 0 now.at)
    else tell_asks k ask label scene levels now.at go

unfoldable pub tell_ask : Tables → Ask → Option Label → Scene → Levels → Now → (Here → Now → Tale) → Tale
tell_ask k ask label scene levels now go = tell_ask_on k ask label scene levels now go

-- ---- other steps

unfoldable pub tell_lines : List Span → Now → Tale
tell_lines lines now = ended_at now (story_of_one now.at (finds lines))

abbrev pub need_if : Option Span → List ℕ → Here → Now → Tale
need_if (Some l) name here now = ended_at now (story_of_one now.at (finds (l ∷ [])))
need_if None name here now = failed_at (raised name here.task (tick_of here.clock now.at)) now (story_of_one now.at (misses name))

unfoldable pub tell_need : Option Span → List ℕ → Here → Now → Tale
tell_need found name here now = need_if found name here now

unfoldable pub tell_raise : List ℕ → Here → Now → Tale
tell_raise name here now = failed_at (raised name here.task (tick_of here.clock now.at)) now (story_of_one now.at (raises name))

unfoldable pub tell_cancel : Clock → Option Label → Now → Tale
tell_cancel clock label now = ended_at (record { at = now.at; own = with_own clock label now.own }) (story_of_one now.at (cancels label))

unfoldable pub tell_set : Clock → Option Label → Now → Tale
tell_set clock label now = ended_at (record { at = now.at; own = with_own clock label now.own }) (story_of_one now.at (sets label))

-- ---- blocks

-- a scope or nursery that was entered in moment m is left when its inside ends
abbrev pub tell_left : Clock → Kind → Label → ℕ → Tick → Bool → Left → Tale → Tale
tell_left clock kind label m deadline shield left a =
    let exc = exc_after kind label (tick_of clock a.end) left in
    record {
      end = a.end;
      own = a.own;
      exc = exc;
      members = [];
      story =
          happened m (enters kind label deadline shield)
          (then_story a.story (story_of_one a.end (leaves kind label a.exc left.caught exc)));
    }

unfoldable pub tell_block : Clock → Table → Kind → Label → ℕ → Tick → Bool → Levels → (Tick → Tale) → Tale
tell_block clock table kind label m deadline shield levels inside =
    let a = inside (table label) in
    tell_left clock kind label m deadline shield
    (left_with (catches (from_for a.own a.end label (table label)) shield (stack_for a.own a.end levels) a.end) a.exc) a

-- an event that was entered in moment m
unfoldable pub tell_event : Table → Label → ℕ → (Tick → Tale) → Tale
tell_event table label m inside = after_this m (enters_event label) (inside (table label))

-- the body of a nursery ended, and its task waits; what it has cancelled itself no longer counts
unfoldable pub tell_wait : Label → Tale → Tale
tell_wait label a = record (before_this a a.end (waits label a.exc)) { own = [] }

-- the nursery ends after its last member, with the group of the exceptions of its members
unfoldable pub tell_gathered : Clock → Label → Tale → Tale
tell_gathered clock label a =
    record {
      end = a_round_after clock (latest a.end a.members);
      own = [];
      exc = group_of (by_nursery label) (parts_of (with_exc a.exc (excs_of a.members)));
      members = [];
      story = a.story;
    }

-- a started task is in the story of the task that started it, at the place where it was started
unfoldable pub tell_child : Label → Option Label → Scene → ℕ → Tale → Now → Tale
tell_child label home scene begins a now =
    record {
      end = now.at;
      own = now.own;
      exc = None;
      members = record { end = a.end; exc = a.exc } ∷ [];
      story = started label home scene.here.part begins a.end a.exc a.story no_more;
    }

abbrev pub tell_each : ℕ → (ℕ → Tale) → Now → Tale
tell_each zero go now = ended_at now no_more
tell_each (suc k) go now = and_tale (tell_each k go now) (go k)

abbrev pub tell_passes : ℕ → ℕ → (ℕ → Now → Tale) → Now → Tale
tell_passes first zero go now = ended_at now no_more
tell_passes first (suc k) go now = then_tale (go first now) (λ later. tell_passes (suc first) k go later)

-- ---- handlers and cleanups

abbrev pub with_exc_of : Option Exc → Tale → Tale
with_exc_of e a = record a { exc = e }

abbrev pub handled_by : Exc → Option Exc → Tale → Tale → Tale
handled_by matched rest a b = with_exc_of (handler_exc b.exc rest) (and_tale a (after_this a.end (handles matched rest) b))

abbrev pub handled_if : Option Exc → Option Exc → Tale → (Now → Tale) → Tale
handled_if None rest a go = a
handled_if (Some matched) rest a go = handled_by matched rest a (go (now_of a))

abbrev pub handled_exc : Option Exc → Wanted → Tale → (Now → Tale) → Tale
handled_exc None wanted a go = a
handled_exc (Some e) wanted a go = handled_if (keep wanted e) (drop wanted e) a go

unfoldable pub tell_handled : Wanted → Tale → (Now → Tale) → Tale
tell_handled wanted a go = handled_exc a.exc wanted a go

-- an exception of a cleanup replaces an earlier one
abbrev pub replacement : Option Exc → Option Exc → ℕ → Story
replacement None fresh t = no_more
replacement (Some lost) None t = no_more
replacement (Some lost) (Some fresh) t = story_of_one t (replaces lost fresh)

abbrev pub cleaned_by : Tale → Tale → Tale
cleaned_by a b =
    record {
      end = b.end;
      own = b.own;
      exc = outcome_after a.exc b.exc;
      members = a.members ++ b.members;
      story = then_story a.story (happened a.end (cleans a.exc) (then_story b.story (replacement a.exc b.exc b.end)));
    }

unfoldable pub tell_cleaned : Tale → (Now → Tale) → Tale
tell_cleaned a go = cleaned_by a (go (now_of a))

-- ---- the walk

-- a scene with another place in the job
abbrev pub at_place : Here → Scene → Scene
at_place here scene = record scene { here = here }

unfoldable mutual
  -- the steps of a block, from a moment on
  pub tell : Tables → Steps → Scene → Stack → Now → Tale
  tell k stop scene st now = ended_at now no_more
  tell k (step s ss) scene st now = then_tale (tell_step k s scene st now) (λ later. tell k ss scene st later)

  -- one step
  pub tell_step : Tables → Step → Scene → Stack → Now → Tale
  tell_step k (sleep n) scene st now =
      tell_sleep scene.here.clock st.scopes scene.in_cleanup (Some (wakes_at scene.here.clock n now.at)) n now.at
  tell_step k checkpoint scene st now = tell_sleep scene.here.clock st.scopes scene.in_cleanup (Some now.at) 0 now.at
  tell_step k forever scene st now = tell_sleep scene.here.clock st.scopes scene.in_cleanup None (far - tick_of scene.here.clock now.at) now.at
  tell_step k (pace per_tick) scene st now =
      let n = pace_ticks (count_in scene.here.input scene.here.part) per_tick in
      tell_pace scene.here.clock st.scopes scene.in_cleanup (Some (wakes_at scene.here.clock n now.at)) n now.at
  tell_step k (find text) scene st now = tell_lines (found_in scene.here.input text scene.here.part) now
  tell_step k (head n) scene st now = tell_lines (head_of scene.here.input n scene.here.part) now
  tell_step k longest scene st now = tell_lines (longest_in scene.here.input scene.here.part) now
  tell_step k (need text name) scene st now = tell_need (needed_in scene.here.input text scene.here.part) name scene.here now
  tell_step k (raise name) scene st now = tell_raise name scene.here now
  tell_step k (cancel name) scene st now = tell_cancel scene.here.clock (label_on name st.scopes) now
  tell_step k (set_event name) scene st now = tell_set scene.here.clock (label_on name st.events) now
  tell_step k (wait_for name) scene st now = tell_event_wait scene.here.clock st.scopes scene.in_cleanup (event_on name st.events) now
  tell_step k (ask_for name ask body) scene st now =
      tell_ask k ask (label_on name st.events) scene st.scopes now (λ inner later. tell k body (at_place inner scene) st later)
  tell_step k (close_channel name) scene st now = tell_close (label_on name st.events) now
  tell_step k (scope name deadline shield fail body) scene st now =
      tell_block scene.here.clock k.cancelled_from (a_scope fail) (label_here name scene.here) now.at (due scene.here.clock deadline now.at) shield
      st.scopes
      (λ from. tell k body scene (stack_inside (label_here name scene.here) shield from st) now)
  tell_step k (nursery name deadline shield body) scene st now =
      tell_block scene.here.clock k.cancelled_from a_nursery (label_here name scene.here) now.at (due scene.here.clock deadline now.at) shield
      st.scopes
      (λ from. tell_gathered scene.here.clock (label_here name scene.here)
      (tell_wait (label_here name scene.here) (tell k body scene (stack_inside (label_here name scene.here) shield from st) now)))
  tell_step k (event name body) scene st now =
      tell_event k.cancelled_from (label_here name scene.here) now.at
      (λ from. tell k body scene (stack_in_event (label_here name scene.here) from st) now)
  tell_step k (object name kind body) scene st now =
      tell_object k.cancelled_from kind (label_here name scene.here) now.at
      (λ from. tell k body scene (stack_in_event (label_here name scene.here) from st) now)
  tell_step k (start name None body) scene st now =
      let inner = at_place (here_in (label_here name scene.here) scene.here.part scene.here) scene in
      let begins = a_round_after scene.here.clock now.at in
      tell_child (label_here name scene.here) (home_of st.scopes) inner begins (tell k body inner st (only_at begins)) now
  tell_step k (start name (Some copies) body) scene st now =
      let begins = a_round_after scene.here.clock now.at in
      tell_each copies (λ i.
      let inner = at_place (here_in (label_over name scene.here i) (cut_of scene.here.input scene.here.part copies i) scene.here) scene in
      tell_child (label_over name scene.here i) (home_of st.scopes) inner begins (tell k body inner st (only_at begins)) now) now
  tell_step k (repeat count over body) scene st now =
      tell_passes 0 count (λ i later. tell k body (at_place (in_pass (cuts_over over count) i scene.here) scene) st later) now
  tell_step k (attempt body handler cleanup) scene st now =
      tell_cleanup k cleanup scene st (tell_handler k handler scene st (tell k body scene st now))

  pub tell_handler : Tables → Handled → Scene → Stack → Tale → Tale
  tell_handler k unhandled scene st a = a
  tell_handler k (except name body) scene st a = tell_handled (named name) a (λ later. tell k body scene st later)

  pub tell_cleanup : Tables → Cleaned → Scene → Stack → Tale → Tale
  tell_cleanup k uncleaned scene st a = a
  tell_cleanup k (finally body) scene st a = tell_cleaned a (λ later. tell k body (record scene { in_cleanup = true }) st later)

-- the root task of a job, in moment 0, with no enclosing scope
abbrev pub root_scene : Tree → List ℕ → Scene
root_scene job input = record { here = root_here job input; in_cleanup = false }

-- the tale of a job's root task by two tables
unfoldable pub tale_by : Tables → Tree → List ℕ → Tale
tale_by k job input = tell k job.steps (root_scene job input) no_stack (only_at 0)

-- the story of the job, which is that of the root as a started task
abbrev pub story_by : Tables → Tree → List ℕ → Story
story_by k job input =
    let a = tale_by k job input in
    started (root_label job.name) None (root_here job input).part 0 a.end a.exc a.story no_more
