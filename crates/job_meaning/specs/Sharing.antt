-- What limiters and channels grant, by what is done to them in a job.
use Rattle.std.specs.Prelude.{ℕ, ◌+◌, ◌==◌, Bool, true, false, not, ◌&&◌, if◌then◌else◌, Option, Some, None, List, [], ◌∷◌, ◌++◌, nat_le, map}
use Rattle.job_tree.specs.declared.object.Ask.TheVariants.{Acquire, Send, Receive}
use Rattle.job_tree.specs.declared.object.ObjectKind.{ObjectKind}
use Rattle.job_tree.specs.declared.object.ObjectKind.TheVariants as kinds
use Rattle.input_lines.specs.Lines.{Range}
use Rattle.exceptions.specs.Exceptions.{Label}
use Rattle.cancel_scopes.specs.Sight.{Tick, is_reached}
pub use Rattle.objects.specs.Whats.{What, a_token, was_sent, a_part, closed_resource, end_of_channel}
use Rattle.objects.specs.Limiters as limiters
use Rattle.objects.specs.Limiters.{Limiter, LimiterAct, LimiterServed, new_limiter}
use Rattle.objects.specs.Channels as channels
use Rattle.objects.specs.Channels.{Channel, ChannelAct, ChannelServed, Grant, new_channel}
use Rattle.job_meaning.specs.Log.{Act, opens, asks, gives_back, closes, Log, nil, entry, sign, entered, act, task, same_label}

-- an act with its moment and the task that does it
pub record Done : Type 0 where
  pub at : ℕ
  pub task : Label
  pub act : Act

abbrev pub done_if : Bool → Done → List Done → List Done
done_if true d ds = d ∷ ds
done_if false d ds = ds

-- what a task itself does to the object of a label
abbrev pub own_acts : Label → Label → Log → List Done
own_acts l t nil = []
own_acts l t (entry m e rest) = own_acts l t rest
own_acts l t (sign k m rest) = own_acts l t rest
own_acts l t (entered k m d rest) = own_acts l t rest
own_acts l t (act k m a rest) = done_if (same_label l k) (record { at = m; task = t; act = a }) (own_acts l t rest)
own_acts l t (task k s u e own rest) = own_acts l t rest

-- what the tasks in a log do to it, in the order of records
abbrev pub acts_in : Label → Log → List Done
acts_in l nil = []
acts_in l (entry m e rest) = acts_in l rest
acts_in l (sign k m rest) = acts_in l rest
acts_in l (entered k m d rest) = acts_in l rest
acts_in l (act k m a rest) = acts_in l rest
acts_in l (task k s u e own rest) = own_acts l k own ++ (acts_in l own ++ acts_in l rest)

-- acts in the order of their moments; those of one moment keep their order
abbrev pub insert_by_moment : Done → List Done → List Done
insert_by_moment d [] = d ∷ []
insert_by_moment d (e ∷ es) = if nat_le d.at e.at then d ∷ e ∷ es else e ∷ insert_by_moment d es

abbrev pub by_moment : List Done → List Done
by_moment [] = []
by_moment (d ∷ ds) = insert_by_moment d (by_moment ds)

-- who asks: a task, in a moment, until it leaves the queue
pub record Asker : Type 0 where
  pub task : Label
  pub at : ℕ
  pub left : Tick

-- the moment of a grant, and what it is
pub record Granted : Type 0 where
  pub at : ℕ
  pub what : What

pub record Given : Type 0 where
  pub task : Label
  pub asked : ℕ
  pub granted : Granted

-- a limiter or a channel, or nothing before it is opened
pub data Object : Type 0 where
  unopened : Object
  a_limiter : (limiter : Limiter Asker) → Object
  a_channel : (channel : Channel Asker Range) → Object

abbrev pub object_of : ObjectKind → Object
object_of (kinds.Limiter tokens) = a_limiter (new_limiter tokens)
object_of (kinds.Channel places) = a_channel (new_channel places)

-- whether it has not left the queue by a moment
abbrev pub stays_at : ℕ → Asker → Bool
stays_at m asker = not (is_reached asker.left m)

abbrev pub asker_of : Done → Tick → Asker
asker_of d left = record { task = d.task; at = d.at; left = left }

-- who is granted something by an act goes on in the next round
abbrev pub given_at : ℕ → Asker → What → Given
given_at m asker what = record { task = asker.task; asked = asker.at; granted = record { at = m + 1; what = what } }

abbrev pub given_by : ℕ → Grant Asker Range → Given
given_by m (channels.sent who part) = given_at m who was_sent
given_by m (channels.received who part) = given_at m who (a_part part)
given_by m (channels.closed_resource who) = given_at m who closed_resource
given_by m (channels.end_of_channel who) = given_at m who end_of_channel

-- an object after an act, with what was granted by it
pub record Outcome : Type 0 where
  pub object : Object
  pub given : List Given

abbrev pub of_limiter : ℕ → LimiterServed Asker → Outcome
of_limiter m served = record { object = a_limiter served.limiter; given = map (λ who. given_at m who a_token) served.granted }

abbrev pub of_channel : ℕ → ChannelServed Asker Range → Outcome
of_channel m served = record { object = a_channel served.channel; given = map (given_by m) served.granted }

-- what an act is to a limiter, and to a channel: nothing where it cannot be done to it
abbrev pub limiter_acts : Done → Act → List (LimiterAct Asker)
limiter_acts d (opens kind) = []
limiter_acts d (asks Acquire part left) = limiters.acquires (asker_of d left) ∷ []
limiter_acts d (asks Send part left) = []
limiter_acts d (asks Receive part left) = []
limiter_acts d gives_back = limiters.gives_back ∷ []
limiter_acts d closes = []

abbrev pub channel_acts : Done → Act → List (ChannelAct Asker Range)
channel_acts d (opens kind) = []
channel_acts d (asks Acquire part left) = []
channel_acts d (asks Send part left) = channels.sends (asker_of d left) part ∷ []
channel_acts d (asks Receive part left) = channels.receives (asker_of d left) ∷ []
channel_acts d gives_back = []
channel_acts d closes = channels.closes ∷ []

abbrev pub opened_by : Act → Outcome
opened_by (opens kind) = record { object = object_of kind; given = [] }
opened_by (asks ask part left) = record { object = unopened; given = [] }
opened_by gives_back = record { object = unopened; given = [] }
opened_by closes = record { object = unopened; given = [] }

-- Who has left the queue by the moment of an act does so before it.
abbrev pub serve_act : Object → Done → Outcome
serve_act unopened d = opened_by d.act
serve_act (a_limiter l) d = of_limiter d.at (limiters.after_acts l (limiters.leaves (stays_at d.at) ∷ limiter_acts d d.act))
serve_act (a_channel c) d = of_channel d.at (channels.after_acts c (channels.leaves (stays_at d.at) ∷ channel_acts d d.act))

-- what an object grants by these acts, one after the other
abbrev pub serve_acts : Object → List Done → List Given
serve_acts o [] = []
serve_acts o (d ∷ ds) = let first = serve_act o d in first.given ++ serve_acts first.object ds

abbrev pub granted_if : Bool → Granted → Option Granted → Option Granted
granted_if true g other = Some g
granted_if false g other = other

abbrev pub find_given : Label → ℕ → List Given → Option Granted
find_given t m [] = None
find_given t m (g ∷ gs) = granted_if (same_label t g.task && (m == g.asked)) g.granted (find_given t m gs)

-- What each object grants to each task that asks it in a moment.
abbrev pub Grants : Type 0
Grants = (object asker : Label) → ℕ → Option Granted

abbrev pub no_grants : Grants
no_grants object asker m = None

-- what objects grant by a log
abbrev pub grants_of : Log → Grants
grants_of log object asker m = find_given asker m (serve_acts unopened (by_moment (acts_in object log)))

-- what was granted before a moment
abbrev pub granted_before : ℕ → Option Granted → Option Granted
granted_before c None = None
granted_before c (Some g) = granted_if (nat_le (g.at + 1) c) g None

abbrev pub grants_before : ℕ → Grants → Grants
grants_before c grants object asker m = granted_before c (grants object asker m)
