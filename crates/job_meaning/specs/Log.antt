-- What a walk results in: its end, its exception, and the log of what was done on the way.
use Rattle.std.specs.Prelude.{ℕ, ◌+◌, Bool, true, false, if◌then◌else◌, Option, Some, None, List}
use Rattle.job_tree.specs.declared.object.Ask.{Ask}
use Rattle.job_tree.specs.declared.object.ObjectKind.{ObjectKind}
use Rattle.input_lines.specs.Lines.{Range, Span}
use Rattle.exceptions.specs.Exceptions.{Label, Exc}
pub use Rattle.exceptions.specs.Labels.{same_label}
use Rattle.cancel_scopes.specs.Sight.{Tick, earlier, next}

-- what a task notes: a line that it borrowed, the scopes and nurseries that it left, with whether they caught, and the events
-- for which it waited until they were set, and what it asked of limiters and channels and was granted
pub data Entry : Type 0 where
  line : (at : Span) → Entry
  waited : (label : Label) → Entry
  was_granted : (ask : Ask) → (label : Label) → Entry
  scope_left : (label : Label) → (caught : Bool) → Entry
  nursery_left : (label : Label) → (caught : Bool) → Entry

-- What is done to a limiter or channel: it is opened; something is asked by a task that has a part of the input, and that leaves the queue
-- in a moment or was granted it; a token comes back; it is closed.
pub data Act : Type 0 where
  opens : (kind : ObjectKind) → Act
  asks : (ask : Ask) → (part : Range) → (left : Tick) → Act
  gives_back : Act
  closes : Act

-- What a task did, in order; the log of a started task is inside its starter's, at the point where it was started. An
-- entry has its tick. A sign means that a scope or nursery was cancelled in a tick, or an event set. A label is entered in a tick, with
-- its deadline. An act is done to a limiter or channel in a moment. A task has its start, its end and how it ended, and its own log.
pub data Log : Type 0 where
  nil : Log
  entry : (tick : ℕ) → (noted : Entry) → (rest : Log) → Log
  sign : (label : Label) → (tick : ℕ) → (rest : Log) → Log
  entered : (label : Label) → (tick : ℕ) → (deadline : Tick) → (rest : Log) → Log
  act : (label : Label) → (moment : ℕ) → (done : Act) → (rest : Log) → Log
  task : (label : Label) → (start end : ℕ) → (exc : Option Exc) → (own : Log) → (rest : Log) → Log

-- one log after another
abbrev pub followed_by : Log → Log → Log
followed_by nil others = others
followed_by (entry t e rest) others = entry t e (followed_by rest others)
followed_by (sign l t rest) others = sign l t (followed_by rest others)
followed_by (entered l t d rest) others = entered l t d (followed_by rest others)
followed_by (act l m a rest) others = act l m a (followed_by rest others)
followed_by (task l s u e own rest) others = task l s u e own (followed_by rest others)

-- how a child of a nursery that is still open ended
pub record Member : Type 0 where
  pub end : ℕ
  pub exc : Option Exc

-- what a walk results in: the moment of its end, what the task itself has cancelled in that moment, the exception, the children of
-- the nursery that is open, and the log
pub record Result : Type 0 where
  pub end : ℕ
  pub own : List Label
  pub exc : Option Exc
  pub members : List Member
  pub log : Log

-- a tick where a test holds
abbrev pub tick_if : Bool → ℕ → Tick
tick_if true t = Some t
tick_if false t = None

-- the first tick in which a label was cancelled: never, where there is no sign for it
abbrev pub least_sign : Label → Log → Tick
least_sign l nil = None
least_sign l (entry t e rest) = least_sign l rest
least_sign l (sign m t rest) = earlier (tick_if (same_label l m) t) (least_sign l rest)
least_sign l (entered m t d rest) = least_sign l rest
least_sign l (act m t a rest) = least_sign l rest
least_sign l (task m s u e own rest) = earlier (least_sign l own) (least_sign l rest)

-- the first of two, if it exists, or else the second
abbrev pub either : Option Tick → Option Tick → Option Tick
either None o = o
either (Some d) o = Some d

abbrev pub deadline_if : Bool → Tick → Option Tick
deadline_if true d = Some d
deadline_if false d = None

-- the deadline with which a label was entered, or none if it was not
abbrev pub deadline_of : Label → Log → Option Tick
deadline_of l nil = None
deadline_of l (entry t e rest) = deadline_of l rest
deadline_of l (sign m t rest) = deadline_of l rest
deadline_of l (entered m t d rest) = either (deadline_if (same_label l m) d) (deadline_of l rest)
deadline_of l (act m t a rest) = deadline_of l rest
deadline_of l (task m s u e own rest) = either (deadline_of l own) (deadline_of l rest)

-- the tick from which a block is cancelled: its deadline, or the tick after its first sign, whichever comes first
abbrev pub from_by : Tick → Tick → Tick
from_by deadline signed = earlier deadline (next signed)

-- a table maps each label to the tick from which it is cancelled
abbrev pub Table : Type 0
Table = Label → Tick

abbrev pub entered_from : Option Tick → Tick → Tick
entered_from None signed = None
entered_from (Some deadline) signed = from_by deadline signed

-- the table of a log: for each label entered there the lesser of its deadline and the tick after its first sign, and
-- never for every other
abbrev pub table_of : Log → Table
table_of log l = entered_from (deadline_of l log) (least_sign l log)

-- how often a label is entered in a log
abbrev pub times_entered : Label → Log → ℕ
times_entered l nil = 0
times_entered l (entry t e rest) = times_entered l rest
times_entered l (sign m t rest) = times_entered l rest
times_entered l (entered m t d rest) = (if same_label l m then 1 else 0) + times_entered l rest
times_entered l (act m t a rest) = times_entered l rest
times_entered l (task m s u e own rest) = times_entered l own + times_entered l rest

-- how often a label is given in a log: to a scope or nursery that is entered, or to a task that is started
abbrev pub times_given : Label → Log → ℕ
times_given l nil = 0
times_given l (entry t e rest) = times_given l rest
times_given l (sign m t rest) = times_given l rest
times_given l (entered m t d rest) = (if same_label l m then 1 else 0) + times_given l rest
times_given l (act m t a rest) = times_given l rest
times_given l (task m s u e own rest) = (if same_label l m then 1 else 0) + (times_given l own + times_given l rest)
