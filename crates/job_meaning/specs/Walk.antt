-- The walk of a job's steps. It recurses over the tree: it has no queue, no turns and no other task.
use Rattle.std.specs.Prelude.{ℕ, zero, suc, ◌+◌, ◌-◌, ◌/◌, Bool, true, false, ◌&&◌, ◌||◌, Option, Some, None, List, [], ◌∷◌, ◌++◌, nat_le, nat_lt, min, max, if◌then◌else◌, codes}
use Rattle.std.specs.Str.{bytes_eq}
use Rattle.job_tree.specs.Tree.{Step, sleep, checkpoint, forever, pace, find, head, longest, need, raise, cancel, set_event, wait_for, ask_for, close_channel, scope, nursery, event, object, start, repeat, attempt, Steps, stop, step, Handled, unhandled, except, Cleaned, uncleaned, finally}
use Rattle.job_tree.specs.declared.object.Ask.{Ask}
use Rattle.job_tree.specs.declared.object.Ask.TheVariants.{Acquire, Send, Receive}
use Rattle.input_lines.specs.Lines.{Range, Span}
use Rattle.input_lines.specs.Cuts.{cut_of}
use Rattle.input_lines.specs.Kernels.{found_in, head_of, longest_in, needed_in, count_in}
use Rattle.exceptions.specs.Exceptions.{Label, by_nursery, by_handler, Exc, cancelled, raised, too_slow, group, no_parts, part, parts_of, group_of, holds_cancelled}
use Rattle.exceptions.specs.Split.{Wanted, named, is_cancelled, keep, drop}
use Rattle.cancel_scopes.specs.Sight.{Tick, Level, earlier, is_reached, sight, seen, catches}
use Rattle.job_meaning.specs.Log.{Entry, line, waited, scope_left, nursery_left, Act, opens, asks, gives_back, closes, Log, nil, entry, sign, entered, act, task, followed_by, Member, Result, same_label, least_sign, from_by, Table, was_granted}
use Rattle.job_meaning.specs.Sharing.{What, a_token, was_sent, a_part, closed_resource, end_of_channel, Granted, granted_if, Grants}
use Rattle.job_meaning.specs.Moments.{tick_of, start_of, a_round_after, wakes_at, gives_up_at, due, far, Now, only_at}
use Rattle.job_meaning.specs.declared.clock.Clock.{Clock}
use Rattle.job_meaning.specs.declared.clock.Clock.TheVariants.{ByTicks as by_ticks, ByRounds as by_rounds}

abbrev pub Levels : Type 0
Levels = List (Level Label)

-- What encloses a task, innermost first: scopes and nurseries, each with the moment from which it is cancelled, and events, each
-- with the moment from which it is set. Limiters and channels stand among the events: they are never set.
pub record Stack : Type 0 where
  pub scopes : Levels
  pub events : Levels

-- nothing encloses the root of a job
abbrev pub no_stack : Stack
no_stack = record { scopes = []; events = [] }

-- How a block's from is found. The meaning walks it twice: first for its earliest sign, then with the from that
-- follows. A table contains each from. What limiters and channels grant is given in both.
pub data Mode : Type 0 where
  two_walks : (grants : Grants) → Mode
  by_table : (table : Table) → (grants : Grants) → Mode

abbrev pub grants_in : Mode → Grants
grants_in (two_walks grants) = grants
grants_in (by_table table grants) = grants

-- where a walk is: the input, the task's part of it, the task's label, and the path of indices
pub record Here : Type 0 where
  pub clock : Clock
  pub input : List ℕ
  pub part : Range
  pub task : Label
  pub path : List ℕ

-- the label of a scope, nursery, event, limiter, channel or task that is entered here
abbrev pub label_here : List ℕ → Here → Label
label_here name here = record { name = name; indices = here.path }

-- nothing happened
abbrev pub done_at : Now → Result
done_at now = record { end = now.at; own = now.own; exc = None; members = []; log = nil }

-- an exception in this moment
abbrev pub raised_at : Exc → Now → Result
raised_at e now = record { end = now.at; own = now.own; exc = Some e; members = []; log = nil }

-- where a task is after a result
abbrev pub now_of : Result → Now
now_of r = record { at = r.end; own = r.own }

-- one result after another: the end and the exception are those of the second
abbrev pub in_sequence : Result → Result → Result
in_sequence r q = record { end = q.end; own = q.own; exc = q.exc; members = r.members ++ q.members; log = followed_by r.log q.log }

abbrev pub then_if : Option Exc → Result → (Now → Result) → Result
then_if None r go = in_sequence r (go (now_of r))
then_if (Some e) r go = r

-- continues from where a walk ended without an exception; an exception ends it
unfoldable pub and_then : Result → (Now → Result) → Result
and_then r go = then_if r.exc r go

-- A wait that cannot end before a moment. A cancellation that is seen by then ends it with `Cancelled`, each time
-- (level-triggered cancellation, as in Trio); so does a later one up to its end: a sleeper that is due in the moment of its
-- cancellation is cancelled.
abbrev pub wait_by_sight : Tick → (least gives_up end : ℕ) → Result
wait_by_sight None least gives_up end = done_at (only_at end)
wait_by_sight (Some from) least gives_up end =
    if nat_le from least then raised_at cancelled (only_at gives_up)
    else (if nat_le from end then raised_at cancelled (only_at from) else done_at (only_at end))

-- a sleep of n ticks from moment m
unfoldable pub sleep_result : Clock → Stack → ℕ → ℕ → Result
sleep_result clock stack n m = wait_by_sight (sight stack.scopes) (a_round_after clock m) (gives_up_at clock n m) (wakes_at clock n m)

-- a sleep of n ticks from moment m by `pace`, which takes one round where its count is 0
unfoldable pub pace_result : Clock → Stack → ℕ → ℕ → Result
pace_result clock stack n m = wait_by_sight (sight stack.scopes) (a_round_after clock m) (a_round_after clock m) (wakes_at clock n m)

-- A wait that ends in a moment. A cancellation that is seen earlier ends it with `Cancelled`, but not before the next round: where
-- an event is set and its waiter cancelled in one round, it was set.
abbrev pub wait_until : Tick → (least end : ℕ) → Result
wait_until None least end = done_at (only_at end)
wait_until (Some from) least end = if nat_lt from end then raised_at cancelled (only_at (max least from)) else done_at (only_at end)

-- the moment in which a wait for an event ends that is set from this moment on; no wait lasts longer than `forever`
abbrev pub set_moment : Clock → Tick → ℕ → ℕ
set_moment clock None m = wakes_at clock (far - tick_of clock m) m
set_moment clock (Some from) m = min from (wakes_at clock (far - tick_of clock m) m)

-- a wait for an event that is set by the next round is a checkpoint
abbrev pub wait_by : Clock → Stack → (set m : ℕ) → Result
wait_by clock stack set m =
    if nat_le set (a_round_after clock m) then sleep_result clock stack 0 m
    else wait_until (sight stack.scopes) (a_round_after clock m) set

-- a wait that ends well is noted
abbrev pub with_line_if : Option Exc → Label → Result → Result
with_line_if None label r = record r { log = entry r.end (waited label) nil }
with_line_if (Some e) label r = r

abbrev pub with_line : Label → Result → Result
with_line label r = with_line_if r.exc label r

-- where no event of the name encloses the task, nothing happens
abbrev pub wait_on : Clock → Stack → Option (Level Label) → Now → Result
wait_on clock stack None now = done_at now
wait_on clock stack (Some l) now = with_line l.label (wait_by clock stack (set_moment clock l.from now.at) now.at)

-- a wait for an event from a moment on
unfoldable pub event_wait : Clock → Stack → Option (Level Label) → Now → Result
event_wait clock stack level now = wait_on clock stack level now

-- how long `pace` sleeps: the count divided by the lines of a tick, rounded up
abbrev pub pace_ticks : ℕ → ℕ → ℕ
pace_ticks count zero = 0
pace_ticks count (suc k) = (count + k) / suc k

-- lines are noted in the order in which a kernel answers them
abbrev pub log_of_lines : ℕ → List Span → Log
log_of_lines t [] = nil
log_of_lines t (l ∷ ls) = entry t (line l) (log_of_lines t ls)

-- a kernel takes no tick and is no checkpoint
unfoldable pub lines_result : List Span → Now → Result
lines_result lines now = record { end = now.at; own = now.own; exc = None; members = []; log = log_of_lines now.at lines }

-- an exception with a name, by the task that is here
unfoldable pub raise_result : List ℕ → Here → Now → Result
raise_result name here now = raised_at (raised name here.task (tick_of here.clock now.at)) now

abbrev pub need_if : Option Span → List ℕ → Here → Now → Result
need_if (Some l) name here now = lines_result (l ∷ []) now
need_if None name here now = raise_result name here now

-- `need` shows the line, or raises where there is none
unfoldable pub need_result : Option Span → List ℕ → Here → Now → Result
need_result found name here now = need_if found name here now

abbrev pub label_if : Bool → Label → Option Label → Option Label
label_if true l o = Some l
label_if false l o = o

-- the label of the scope or nursery of this name that encloses the task
abbrev pub label_on : List ℕ → Levels → Option Label
label_on name [] = None
label_on name (l ∷ ls) = label_if (bytes_eq name l.label.name) l.label (label_on name ls)

abbrev pub level_if : Bool → Level Label → Option (Level Label) → Option (Level Label)
level_if true l o = Some l
level_if false l o = o

-- the event of this name that encloses the task
abbrev pub event_on : List ℕ → Levels → Option (Level Label)
event_on name [] = None
event_on name (l ∷ ls) = level_if (bytes_eq name l.label.name) l (event_on name ls)

abbrev pub sign_of : Option Label → ℕ → Log
sign_of None t = nil
sign_of (Some l) t = sign l t nil

-- what a task has cancelled in this moment, of which it sees its own part at once where there are rounds
abbrev pub with_own : Clock → Option Label → List Label → List Label
with_own by_ticks label own = own
with_own by_rounds None own = own
with_own by_rounds (Some l) own = l ∷ own

-- `cancel` takes no tick and is no checkpoint
unfoldable pub cancel_result : Clock → Option Label → Now → Result
cancel_result clock label now =
    record { end = now.at; own = with_own clock label now.own; exc = None; members = []; log = sign_of label now.at }

-- `set` takes no tick and is no checkpoint. Its sign is kept with what the task has cancelled, as that of a `cancel`: no scope has the
-- label of an event.
unfoldable pub set_result : Clock → Option Label → Now → Result
set_result clock label now =
    record { end = now.at; own = with_own clock label now.own; exc = None; members = []; log = sign_of label now.at }

-- the exception that remains after a block is left, and whether a `Cancelled` was caught
pub record Left : Type 0 where
  pub caught : Bool
  pub exc : Option Exc

-- a block that catches removes every `Cancelled` leaf and lets the rest propagate
abbrev pub left_with : Bool → Option Exc → Left
left_with catches None = record { caught = false; exc = None }
left_with true (Some e) = record { caught = holds_cancelled e; exc = drop is_cancelled e }
left_with false (Some e) = record { caught = false; exc = Some e }

abbrev pub slow_if : Bool → Label → ℕ → Option Exc → Option Exc
slow_if true label t None = Some (too_slow label t)
slow_if true label t (Some e) = Some e
slow_if false label t e = e

-- what the block is: a scope, which may be a `fail` scope, or a nursery
pub data Kind : Type 0 where
  a_scope : (fail : Bool) → Kind
  a_nursery : Kind

abbrev pub left_as : Kind → Label → Bool → Entry
left_as (a_scope fail) label caught = scope_left label caught
left_as a_nursery label caught = nursery_left label caught

-- a `fail` scope that caught and has nothing left raises `TooSlow`
abbrev pub exc_after : Kind → Label → ℕ → Left → Option Exc
exc_after (a_scope fail) label t left = slow_if (fail && left.caught) label t left.exc
exc_after a_nursery label t left = left.exc

-- A block that was entered in moment m is left. No child is still open: a nursery waited for its own, and a child is
-- started directly in a nursery.
abbrev pub exit_result : Clock → Kind → Label → ℕ → Tick → Left → Result → Result
exit_result clock kind label m deadline left r =
    record {
      end = r.end;
      own = r.own;
      exc = exc_after kind label (tick_of clock r.end) left;
      members = [];
      log = entered label m deadline (followed_by r.log (entry r.end (left_as kind label left.caught) nil));
    }

-- the from of a block, whose inside is walked at each from
abbrev pub from_of : Mode → Label → Tick → (Tick → Result) → Tick
from_of (two_walks grants) label deadline inside = from_by deadline (least_sign label (inside deadline).log)
from_of (by_table table grants) label deadline inside = table label

-- whether a label is among some
abbrev pub is_among : Label → List Label → Bool
is_among l [] = false
is_among l (k ∷ ks) = same_label l k || is_among l ks

-- the from of a label for a task that has cancelled some labels in this moment
abbrev pub from_for : List Label → ℕ → Label → Tick → Tick
from_for own m label from = if is_among label own then earlier from (Some m) else from

-- a stack as the task sees it that has cancelled some labels in this moment
abbrev pub stack_for : List Label → ℕ → Levels → Levels
stack_for own m [] = []
stack_for own m (l ∷ ls) = record { label = l.label; shield = l.shield; from = from_for own m l.label l.from } ∷ stack_for own m ls

abbrev pub exit_with_from : Clock → Kind → Label → ℕ → Tick → Bool → Stack → Tick → Result → Result
exit_with_from clock kind label m deadline shield stack from r =
    exit_result clock kind label m deadline
    (left_with (catches (from_for r.own r.end label from) shield (stack_for r.own r.end stack.scopes) r.end) r.exc) r

-- A scope or a nursery that is entered in moment m: its inside is walked with the block's from.
unfoldable pub block : Clock → Mode → Kind → Label → ℕ → Tick → Bool → Stack → (Tick → Result) → Result
block clock mode kind label m deadline shield stack inside =
    let from = from_of mode label deadline inside in
    exit_with_from clock kind label m deadline shield stack from (inside from)

-- the stack inside a block
abbrev pub stack_inside : Label → Bool → Tick → Stack → Stack
stack_inside label shield from stack = record stack { scopes = record { label = label; shield = shield; from = from } ∷ stack.scopes }

-- the stack inside an event
abbrev pub stack_in_event : Label → Tick → Stack → Stack
stack_in_event label from stack = record stack { events = record { label = label; shield = false; from = from } ∷ stack.events }

-- an event that was entered in moment m has no end of its own: it is entered, and leaves no line
abbrev pub event_result : Label → ℕ → Result → Result
event_result label m r = record r { log = entered label m None r.log }

-- An event that is entered in moment m: its inside is walked with the moment from which it is set.
unfoldable pub event_block : Mode → Label → ℕ → (Tick → Result) → Result
event_block mode label m inside = event_result label m (inside (from_of mode label None inside))

-- ---- limiters and channels

-- an act, and then what follows
abbrev pub with_act : Label → ℕ → Act → Result → Result
with_act label m a r = record r { log = act label m a r.log }

-- `close` takes no round and is no checkpoint
abbrev pub close_on : Option Label → Now → Result
close_on None now = done_at now
close_on (Some label) now = with_act label now.at closes (done_at now)

unfoldable pub close_result : Option Label → Now → Result
close_result label now = close_on label now

-- a token comes back when the block ends that took it, however it ends
unfoldable pub with_token_back : Label → Result → Result
with_token_back label r = record r { log = followed_by r.log (act label r.end gives_back nil) }

-- The last moment in which what was asked of a limiter or channel in this one can be granted: that to which `forever` lasts, or else the
-- next one.
abbrev pub last_grant : Clock → ℕ → ℕ
last_grant clock m = max (suc m) (start_of clock far)

-- the moment in which a task leaves the queue, by its sight
abbrev pub leaves_queue : Tick → ℕ → ℕ
leaves_queue None last = last
leaves_queue (Some from) last = min from last

-- a grant counts if it comes after the ask, and by the moment in which the task leaves the queue
abbrev pub in_time : (m left : ℕ) → Option Granted → Option Granted
in_time m left None = None
in_time m left (Some g) = granted_if (nat_lt m g.at && nat_le g.at left) g None

-- who leaves the queue is cancelled; who waited as long as `forever` raises `Deadlock`
abbrev pub left_result : Here → Tick → ℕ → Result
left_result here from left =
    if is_reached from left then raised_at cancelled (only_at left)
    else raised_at (raised (codes "Deadlock") here.task (tick_of here.clock left)) (only_at left)

-- what was granted is noted, and the block of the step follows
abbrev pub goes_on : Entry → ℕ → (Now → Result) → Result
goes_on noted m go = in_sequence (record { end = m; own = []; exc = None; members = []; log = entry m noted nil }) (go (only_at m))

-- What a task does with what it is granted: with a token it runs the block of the step, and gives it back; with a part, that is its part
-- there; a closed channel raises.
abbrev pub granted_result : Label → Here → ℕ → What → (Here → Now → Result) → Result
granted_result label here m a_token go = goes_on (was_granted Acquire label) m (λ now. with_token_back label (go here now))
granted_result label here m was_sent go = goes_on (was_granted Send label) m (λ now. go here now)
granted_result label here m (a_part lent) go = goes_on (was_granted Receive label) m (λ now. go (record here { part = lent }) now)
granted_result label here m closed_resource go =
    raised_at (raised (codes "ClosedResource") here.task (tick_of here.clock m)) (only_at m)
granted_result label here m end_of_channel go =
    raised_at (raised (codes "EndOfChannel") here.task (tick_of here.clock m)) (only_at m)

-- a task that has asked in moment m is granted something, or leaves the queue
abbrev pub asked_result : Ask → Label → Here → Tick → (m left : ℕ) → Option Granted → (Here → Now → Result) → Result
asked_result ask label here from m left None go = with_act label m (asks ask here.part (Some left)) (left_result here from left)
asked_result ask label here from m left (Some g) go =
    with_act label m (asks ask here.part None) (granted_result label here g.at g.what go)

-- a task asks in moment m
abbrev pub asks_in : Mode → Ask → Label → Here → Stack → ℕ → (Here → Now → Result) → Result
asks_in mode ask label here st m go =
    let from = sight st.scopes in
    let left = leaves_queue from (last_grant here.clock m) in
    asked_result ask label here from m left (in_time m left (grants_in mode label here.task m)) go

-- A task that sees a cancellation, its own of this moment too, does not ask.
abbrev pub ask_of : Mode → Ask → Label → Here → Stack → Now → (Here → Now → Result) → Result
ask_of mode ask label here st now go =
    if seen (stack_for now.own now.at st.scopes) now.at then raised_at cancelled (only_at (gives_up_at here.clock 0 now.at))
    else asks_in mode ask label here st now.at go

-- where no limiter or channel of the name encloses the task, nothing happens
abbrev pub ask_on : Mode → Ask → Option Label → Here → Stack → Now → (Here → Now → Result) → Result
ask_on mode ask None here st now go = done_at now
ask_on mode ask (Some label) here st now go = ask_of mode ask label here st now go

-- something is asked of a limiter or channel, and the block of the step runs with what is granted
unfoldable pub ask_result : Mode → Ask → Option Label → Here → Stack → Now → (Here → Now → Result) → Result
ask_result mode ask label here st now go = ask_on mode ask label here st now go

abbrev pub home_of : Levels → Option Label
home_of [] = None
home_of (l ∷ ls) = Some l.label

abbrev pub sign_if : Option Exc → Option Label → ℕ → Log
sign_if None label t = nil
sign_if (Some e) label t = sign_of label t

-- A member that ends with any exception cancels its nursery, at the end of its own log. It is at its end, so what it has cancelled
-- in this moment does not count any more.
unfoldable pub with_sign : Stack → Result → Result
with_sign stack r = record r { own = []; log = followed_by r.log (sign_if r.exc (home_of stack.scopes) r.end) }

-- the later of an end and those of members
abbrev pub latest : ℕ → List Member → ℕ
latest t [] = t
latest t (m ∷ ms) = latest (max t m.end) ms

abbrev pub with_exc : Option Exc → List Exc → List Exc
with_exc None es = es
with_exc (Some e) es = e ∷ es

-- the exceptions of members, in the order of their starts
abbrev pub excs_of : List Member → List Exc
excs_of [] = []
excs_of (m ∷ ms) = with_exc m.exc (excs_of ms)

-- A nursery is left after its last member and its body ended. Its exception is one group: the body's first, then the
-- children's in the order of their starts (strict exception groups, as in Trio; the order is this language's own choice).
unfoldable pub nursery_result : Clock → Label → Result → Result
nursery_result clock label r =
    record {
      end = a_round_after clock (latest r.end r.members);
      own = [];
      exc = group_of (by_nursery label) (parts_of (with_exc r.exc (excs_of r.members)));
      members = [];
      log = r.log;
    }

-- what a started task adds to its starter's walk, which continues in the same moment; the child began in moment m
unfoldable pub child : Label → ℕ → Result → Now → Result
child label m r now =
    record {
      end = now.at;
      own = now.own;
      exc = None;
      members = record { end = r.end; exc = r.exc } ∷ [];
      log = task label m r.end r.exc r.log nil;
    }

-- the children 0 to k - 1 of a `start .. over`
abbrev pub each : ℕ → (ℕ → Result) → Now → Result
each zero go now = done_at now
each (suc k) go now = in_sequence (each k go now) (go k)

-- into how many cuts a `repeat` of this many passes divides the part of its task, if it does
abbrev pub cuts_over : (over : Bool) → (count : ℕ) → Option ℕ
cuts_over false count = None
cuts_over true count = Some count

-- the part of pass i: that of the task, or its cut
abbrev pub part_in_pass : List ℕ → (cuts : Option ℕ) → (i : ℕ) → Range → Range
part_in_pass input None i lent = lent
part_in_pass input (Some k) i lent = cut_of input lent k i

-- where pass i of a `repeat` is: its number is one index more
abbrev pub in_pass : (cuts : Option ℕ) → (i : ℕ) → Here → Here
in_pass cuts i here = record here { part = part_in_pass here.input cuts i here.part; path = here.path ++ i ∷ [] }

-- the given number of passes, numbered from the given number on, each from where the one before it ended without an
-- exception
abbrev pub passes : ℕ → ℕ → (ℕ → Now → Result) → Now → Result
passes first zero go now = done_at now
passes first (suc k) go now = and_then (go first now) (λ later. passes (suc first) k go later)

-- where a child is: with its label, on its part
abbrev pub here_in : Label → Range → Here → Here
here_in label lent here = record { clock = here.clock; input = here.input; part = lent; task = label; path = label.indices }

abbrev pub label_over : List ℕ → Here → ℕ → Label
label_over name here i = record { name = name; indices = here.path ++ i ∷ [] }

-- a handler's group: what it raised, then the rest of the split as one member
abbrev pub handler_exc : Option Exc → Option Exc → Option Exc
handler_exc None rest = rest
handler_exc (Some x) None = Some x
handler_exc (Some x) (Some rest) = Some (group by_handler (part x (part rest no_parts)))

-- a result, with another exception
abbrev pub with_outcome : Option Exc → Result → Result
with_outcome e r = record r { exc = e }

abbrev pub handler_after : Option Exc → Result → Result → Result
handler_after rest r q = with_outcome (handler_exc q.exc rest) (in_sequence r q)

abbrev pub handler_if_any : Option Exc → Option Exc → Result → (Now → Result) → Result
handler_if_any None rest r go = r
handler_if_any (Some matched) rest r go = handler_after rest r (go (now_of r))

abbrev pub handler_for : Option Exc → Wanted → Result → (Now → Result) → Result
handler_for None wanted r go = r
handler_for (Some e) wanted r go = handler_if_any (keep wanted e) (drop wanted e) r go

-- `except` runs once, if some leaf matches, at the tick at which the body ended (as `except*` in PEP 654; the
-- exception that results from a handler that raises is this language's own choice)
unfoldable pub handler_result : Wanted → Result → (Now → Result) → Result
handler_result wanted r go = handler_for r.exc wanted r go

abbrev pub outcome_after : Option Exc → Option Exc → Option Exc
outcome_after earlier_exc None = earlier_exc
outcome_after earlier_exc (Some e) = Some e

abbrev pub cleanup_after : Result → Result → Result
cleanup_after r q = with_outcome (outcome_after r.exc q.exc) (in_sequence r q)

-- `finally` always runs; an exception of its own replaces the earlier one
unfoldable pub cleanup_result : Result → (Now → Result) → Result
cleanup_result r go = cleanup_after r (go (now_of r))

unfoldable mutual
  -- the steps of a block, from a moment on
  pub walk : Mode → Steps → Here → Stack → Now → Result
  walk m stop here st now = done_at now
  walk m (step s ss) here st now = and_then (walk_step m s here st now) (λ later. walk m ss here st later)

  -- one step
  pub walk_step : Mode → Step → Here → Stack → Now → Result
  walk_step m (sleep n) here st now = sleep_result here.clock st n now.at
  walk_step m checkpoint here st now = sleep_result here.clock st 0 now.at
  walk_step m forever here st now = sleep_result here.clock st (far - tick_of here.clock now.at) now.at
  walk_step m (pace k) here st now = pace_result here.clock st (pace_ticks (count_in here.input here.part) k) now.at
  walk_step m (find text) here st now = lines_result (found_in here.input text here.part) now
  walk_step m (head n) here st now = lines_result (head_of here.input n here.part) now
  walk_step m longest here st now = lines_result (longest_in here.input here.part) now
  walk_step m (need text name) here st now = need_result (needed_in here.input text here.part) name here now
  walk_step m (raise name) here st now = raise_result name here now
  walk_step m (cancel name) here st now = cancel_result here.clock (label_on name st.scopes) now
  walk_step m (set_event name) here st now = set_result here.clock (label_on name st.events) now
  walk_step m (wait_for name) here st now = event_wait here.clock st (event_on name st.events) now
  walk_step m (ask_for name ask body) here st now =
      ask_result m ask (label_on name st.events) here st now (λ inner later. walk m body inner st later)
  walk_step m (close_channel name) here st now = close_result (label_on name st.events) now
  walk_step m (scope name deadline shield fail body) here st now =
      block here.clock m (a_scope fail) (label_here name here) now.at (due here.clock deadline now.at) shield st
      (λ from. walk m body here (stack_inside (label_here name here) shield from st) now)
  walk_step m (nursery name deadline shield body) here st now =
      block here.clock m a_nursery (label_here name here) now.at (due here.clock deadline now.at) shield st
      (λ from. let inner = stack_inside (label_here name here) shield from st in
      nursery_result here.clock (label_here name here) (with_sign inner (walk m body here inner now)))
  walk_step m (event name body) here st now =
      event_block m (label_here name here) now.at
      (λ from. walk m body here (stack_in_event (label_here name here) from st) now)
  walk_step m (object name kind body) here st now =
      with_act (label_here name here) now.at (opens kind)
      (event_block m (label_here name here) now.at
      (λ from. walk m body here (stack_in_event (label_here name here) from st) now))
  walk_step m (start name None body) here st now =
      let begins = a_round_after here.clock now.at in
      child (label_here name here) begins (with_sign st (walk m body (here_in (label_here name here) here.part here) st (only_at begins))) now
  walk_step m (start name (Some k) body) here st now =
      let begins = a_round_after here.clock now.at in
      each k (λ i. child (label_over name here i) begins
      (with_sign st (walk m body (here_in (label_over name here i) (cut_of here.input here.part k i) here) st (only_at begins))) now) now
  walk_step m (repeat count over body) here st now = passes 0 count (λ i later. walk m body (in_pass (cuts_over over count) i here) st later) now
  walk_step m (attempt body handler cleanup) here st now =
      walk_cleanup m cleanup here st (walk_handler m handler here st (walk m body here st now))

  pub walk_handler : Mode → Handled → Here → Stack → Result → Result
  walk_handler m unhandled here st r = r
  walk_handler m (except name body) here st r = handler_result (named name) r (λ later. walk m body here st later)

  pub walk_cleanup : Mode → Cleaned → Here → Stack → Result → Result
  walk_cleanup m uncleaned here st r = r
  walk_cleanup m (finally body) here st r = cleanup_result r (λ later. walk m body here st later)
