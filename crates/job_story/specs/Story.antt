-- The story of a task: what happened to it, in order, and the stories of the tasks that it started.
use Rattle.std.specs.Prelude.{ℕ, Bool, Option, Some, None, List}
use Rattle.job_tree.specs.declared.object.Ask.{Ask}
use Rattle.job_tree.specs.declared.object.ObjectKind.{ObjectKind}
use Rattle.input_lines.specs.Lines.{Range, Span}
use Rattle.exceptions.specs.Exceptions.{Label, Exc}
use Rattle.cancel_scopes.specs.Sight.{Tick}
use Rattle.job_meaning.specs.Log.{waited, was_granted, opens, asks, gives_back, closes, Log, nil, entry, entered, act, task, followed_by, Member, Result}
use Rattle.job_meaning.specs.Walk.{Kind, left_as, log_of_lines, sign_if, sign_of}

-- What a task did when `Cancelled` was raised in it: it was at a checkpoint, or since a moment it slept, waited for an event, or waited in
-- the queue of a limiter or channel; or it was to ask one of these for something, and did not, since it saw a cancellation.
pub data During : Type 0 where
  at_checkpoint : During
  sleeping : (since : ℕ) → During
  waiting_for : (event : Label) → (since : ℕ) → During
  in_queue : (ask : Ask) → (object : Label) → (since : ℕ) → During
  before_asking : (ask : Ask) → (object : Label) → During

-- that a task asked something in a moment, when this was its part of the input
pub record Asked : Type 0 where
  pub ask : Ask
  pub since : ℕ
  pub part : Range

-- One thing that happened to a task.
pub data Happening : Type 0 where
  -- the task entered a scope or a nursery
  enters : (kind : Kind) → (label : Label) → (deadline : Tick) → (shield : Bool) → Happening
  -- it entered an event, of which nothing is left where its block ends
  enters_event : (label : Label) → Happening
  -- it fell asleep until a moment, or forever; a sleep that takes no tick does not count
  sleeps : (until : Tick) → Happening
  -- `Cancelled` was raised: by which scope or nursery; during what; in a `finally` block or not
  is_cancelled : (by : Option Label) → (during : During) → (in_cleanup : Bool) → Happening
  -- a kernel found these lines
  finds : (lines : List Span) → Happening
  -- `need` found no line, and raised this name
  misses : (name : List ℕ) → Happening
  raises : (name : List ℕ) → Happening
  -- a `cancel` step, of the innermost scope or nursery of its name that encloses the task, if there is one
  cancels : (label : Option Label) → Happening
  -- a `set` step, of the innermost event of its name that encloses the task, if there is one
  sets : (label : Option Label) → Happening
  -- it waits until an event is set; a wait for an event that is set by the next round is a checkpoint, and does not count
  awaits : (event : Label) → Happening
  -- it has waited for an event, which is set
  was_set : (event : Label) → Happening
  -- it entered a limiter or channel, of which nothing is left where its block ends
  enters_object : (kind : ObjectKind) → (label : Label) → Happening
  -- it asked a limiter or channel for something, and waits in the queue; it leaves that in a moment, or is granted what it asked
  queues : (ask : Ask) → (object : Label) → (part : Range) → (left : Tick) → Happening
  -- It is granted what it asked. Where that is in the round after it asked, it did not wait in the queue.
  gets : (ask : Ask) → (object : Label) → (at_once : Option Asked) → Happening
  -- The channel is closed, so that it raises an exception; it may not have waited, too.
  finds_closed : (ask : Ask) → (object : Label) → (at_once : Option Asked) → Happening
  -- it waited as long as `forever` lasts, and raises `Deadlock`
  deadlocks : (ask : Ask) → (object : Label) → Happening
  -- the block of an `acquire` ended, and its token comes back
  gives_token_back : (object : Label) → Happening
  -- a `close` step, of the innermost channel of its name that encloses the task, if there is one
  closes_channel : (object : Option Label) → Happening
  -- a handler begins: the part of the exception that matches, and the rest
  handles : (matched : Exc) → (rest : Option Exc) → Happening
  -- a `finally` block begins, with the exception with which the block before it or its handler ended
  cleans : (exc : Option Exc) → Happening
  -- a cleanup ended with an exception, which replaces an earlier one
  replaces : (lost fresh : Exc) → Happening
  -- the body of a nursery ended, and the task waits for the children
  waits : (nursery : Label) → (exc : Option Exc) → Happening
  -- it left a scope or nursery: the exception inside, whether a cancellation was caught, and the exception that propagates
  leaves : (kind : Kind) → (label : Label) → (inside : Option Exc) → (caught : Bool) → (outside : Option Exc) → Happening

-- What happened to a task, each with its moment, and the tasks that it started. A started task has the nursery in which it was started
-- (`None` for the root), its part of the input, the moments of its start and end, how it ended, and its own story.
pub data Story : Type 0 where
  no_more : Story
  happened : (at : ℕ) → (what : Happening) → (rest : Story) → Story
  started : (label : Label) → (home : Option Label) → (part : Range) → (start end : ℕ) → (exc : Option Exc) → (own rest : Story) → Story

-- one story after another
abbrev pub then_story : Story → Story → Story
then_story no_more others = others
then_story (happened t what rest) others = happened t what (then_story rest others)
then_story (started l home part s u e own rest) others = started l home part s u e own (then_story rest others)

-- what was asked and granted at once
abbrev pub erased_ask : Label → Option Asked → Log → Log
erased_ask object None rest = rest
erased_ask object (Some a) rest = act object a.since (asks a.ask a.part None) rest

abbrev pub erased_close : ℕ → Option Label → Log → Log
erased_close t None rest = rest
erased_close t (Some object) rest = act object t closes rest

-- What a log contains of a happening: the lines, the labels entered, the signs, what was done to limiters and channels, the waits that
-- ended well, and the exits.
abbrev pub erased_one : ℕ → Happening → Log → Log
erased_one t (enters kind label deadline shield) rest = entered label t deadline rest
erased_one t (enters_event label) rest = entered label t None rest
erased_one t (sleeps until) rest = rest
erased_one t (is_cancelled by during in_cleanup) rest = rest
erased_one t (finds lines) rest = followed_by (log_of_lines t lines) rest
erased_one t (misses name) rest = rest
erased_one t (raises name) rest = rest
erased_one t (cancels label) rest = followed_by (sign_of label t) rest
erased_one t (sets label) rest = followed_by (sign_of label t) rest
erased_one t (awaits event) rest = rest
erased_one t (was_set event) rest = entry t (waited event) rest
erased_one t (enters_object kind label) rest = act label t (opens kind) (entered label t None rest)
erased_one t (queues ask object part left) rest = act object t (asks ask part left) rest
erased_one t (gets ask object at_once) rest = erased_ask object at_once (entry t (was_granted ask object) rest)
erased_one t (finds_closed ask object at_once) rest = erased_ask object at_once rest
erased_one t (deadlocks ask object) rest = rest
erased_one t (gives_token_back object) rest = act object t gives_back rest
erased_one t (closes_channel object) rest = erased_close t object rest
erased_one t (handles matched left) rest = rest
erased_one t (cleans exc) rest = rest
erased_one t (replaces lost fresh) rest = rest
erased_one t (waits nursery exc) rest = followed_by (sign_if exc (Some nursery) t) rest
erased_one t (leaves kind label inside caught outside) rest = entry t (left_as kind label caught) rest

-- a story with everything erased that a log does not contain
abbrev pub erased_log : Story → Log
erased_log no_more = nil
erased_log (happened t what rest) = erased_one t what (erased_log rest)
erased_log (started l home part s u e own rest) = task l s u e (followed_by (erased_log own) (sign_if e home u)) (erased_log rest)

-- the result of a walk that makes a story: like a `Result`, with a story in place of the log
pub record Tale : Type 0 where
  pub end : ℕ
  pub own : List Label
  pub exc : Option Exc
  pub members : List Member
  pub story : Story

abbrev pub result_of : Tale → Result
result_of tale = record { end = tale.end; own = tale.own; exc = tale.exc; members = tale.members; log = erased_log tale.story }
