-- What the code holds of limiters and channels, and how it corresponds to what the tasks of a run did to them.
use Rattle.std.specs.Prelude.{◌≡◌, ◌==◌, ◌&&◌, ◌||◌, ◌+◌, ◌<◌, ◌++◌, ℕ, Bool, true, false, nat_lt, Option, Some, None, List, [], ◌∷◌, map}
use Rattle.job_tree.specs.declared.object.Ask.TheVariants.{Acquire, Send, Receive}
use Rattle.std.specs.List.{filter}
use Rattle.std.specs.Option.{option_map}
use Rattle.input_lines.specs.Lines.{Range}
use Rattle.input_lines.specs.Part.{range_of}
use Rattle.exceptions.specs.Exceptions.{Label}
use Rattle.objects.specs.Limiters as limiters
use Rattle.objects.specs.Limiters.{Limiter, LimiterAct}
use Rattle.objects.specs.Channels as channels
use Rattle.objects.specs.Channels.{Channel, ChannelAct, Sender}
use Rattle.objects.specs.declared.object.Object.{Object as HeldObject}
use Rattle.objects.specs.Held.{ObjectOf, object_in, Gets, gets_token, gets_by, limiter_left, channel_left, new_object}
use Rattle.objects.specs.Held as held
use Rattle.objects.specs.Whats.{What}
use Rattle.objects.specs.declared.ticket.Ticket.{Ticket}
use Rattle.job_meaning.specs.Log.{Act, opens, asks, gives_back, closes, same_label}
use Rattle.job_meaning.specs.Rest as rest
use Rattle.job_meaning.specs.Sharing.{Done, done_if, Asker, stays_at, Object, unopened, a_limiter, a_channel, serve_act}
use Rattle.task_machine.specs.declared.serving.ObjectAct.{ObjectAct}
use Rattle.task_machine.specs.declared.stop.ObjectRequest.{ObjectRequest}
use Rattle.task_machine.specs.declared.stop.Stop.{Stop}
use Rattle.task_machine.specs.declared.stop.Stop.TheVariants.{Queue}
use Rattle.task_machine.specs.declared.stop.TaskState.{TaskState}
use Rattle.task_machine.specs.declared.stop.TaskState.TheVariants.{Queued}
use Rattle.task_machine.specs.declared.task.Task.{Task}
use Rattle.task_machine.specs.Labels.{Labels}
use Rattle.task_machine.specs.Serving.{act_in}
use Rattle.interleavings.specs.Interleaving.{Started}

-- ---- what was done

-- an act of the task with this serial number on the limiter or channel of a label
pub record RoundAct : Type 0 where
  pub serial : ℕ
  pub object : Label
  pub act : Act

-- those of one task on one limiter or channel, in a moment, by the task's label
abbrev pub done_by : ℕ → Label → ℕ → Label → List RoundAct → List Done
done_by s l t task [] = []
done_by s l t task (a ∷ round) =
    done_if (a.serial == s && same_label l a.object) (record { at = t; task = task; act = a.act }) (done_by s l t task round)

-- what was done before a moment, and what was done from it on
abbrev pub done_before : ℕ → List Done → List Done
done_before t ds = filter (λ (d : Done). nat_lt d.at t) ds

abbrev pub done_from : ℕ → List Done → List Done
done_from t ds = filter (λ (d : Done). nat_lt t (d.at + 1)) ds

-- what a turn of a task noted
abbrev pub round_act : ℕ → ObjectAct → RoundAct
round_act s a = record { serial = s; object = a.object; act = act_in a.act }

abbrev pub asked_of : ℕ → ObjectRequest → Option Label → List RoundAct
asked_of s request None = []
asked_of s request (Some l) = record { serial = s; object = l; act = asks request.ask (range_of request.part) None } ∷ []

-- what a task asks of a limiter or channel, if it stopped to do that
abbrev pub asked_by : ℕ → Task → Labels → Stop → List RoundAct
asked_by s task labels (Queue request) = asked_of s request (labels request.object)
asked_by s task labels _ = []

-- each time a task asked something before, by its events, was before a moment
abbrev pub AsksBefore : ℕ → List rest.Event → Type 0
AsksBefore v [] = Unit {0}
AsksBefore v (rest.acts l u (asks ask part left) ∷ es) = (u < v) × AsksBefore v es
AsksBefore v (_ ∷ es) = AsksBefore v es

-- the moment in which a task asked that is in a queue, or else this one
abbrev pub asked_at : ℕ → rest.Stopped → ℕ
asked_at t (rest.queued object ask since body) = since
asked_at t _ = t

-- ---- the order of records

-- whether a task comes before another one, or is the same, by the serial numbers of the tasks from the root to each
abbrev pub precedes : List ℕ → List ℕ → Bool
precedes [] path = true
precedes (s ∷ path) [] = false
precedes (s ∷ path) (u ∷ others) = nat_lt s u || (s == u && precedes path others)

abbrev pub PrecedesAll : (ℕ → List ℕ) → RoundAct → List RoundAct → Type 0
PrecedesAll path a [] = Unit {0}
PrecedesAll path a (b ∷ round) = (precedes (path a.serial) (path b.serial) ≡ true) × PrecedesAll path a round

-- each act is of a task that comes before those of the acts after it, or of the same task
abbrev pub AreSorted : (ℕ → List ℕ) → List RoundAct → Type 0
AreSorted path [] = Unit {0}
AreSorted path (a ∷ round) = PrecedesAll path a round × AreSorted path round

abbrev pub acts_by : ℕ → List RoundAct → List RoundAct
acts_by s round = filter (λ (a : RoundAct). a.serial == s) round

-- the same acts in the order of records, those of one task in the order in which it did them
pub record InRecordOrder (path : ℕ → List ℕ) (round ordered : List RoundAct) : Type 0 where
  pub same : (s : ℕ) → acts_by s ordered ≡ acts_by s round
  pub sorted : AreSorted path ordered

-- ---- limiters and channels

-- whether a task is in a queue since a moment
abbrev pub is_queued : TaskState → ℕ → Bool
is_queued (Queued object ask u body) since = u == since
is_queued _ since = false

abbrev pub waits_by : Option Task → ℕ → Bool
waits_by None since = false
waits_by (Some task) since = is_queued task.task_state since

-- whether the task of a ticket still waits, where these have not ended
abbrev pub waits_in : (ℕ → Option Task) → Ticket → Bool
waits_in tasks ticket = waits_by (tasks ticket.row) ticket.since

-- a test of tickets, which fails for those of this moment or later
abbrev pub asked_before : ℕ → (Ticket → Bool) → Ticket → Bool
asked_before t waits ticket = nat_lt ticket.since t && waits ticket

-- all who are in the queues of an object of the code asked before a moment
abbrev pub AreAskedBefore : ℕ → Option HeldObject → Type 0
AreAskedBefore t o = (waits : Ticket → Bool) → option_map (object_in (asked_before t waits)) o ≡ option_map (object_in waits) o

-- an object of the definitions after acts, one after the other
abbrev pub object_after : Object → List Done → Object
object_after o [] = o
object_after o (d ∷ ds) = object_after (serve_act o d).object ds

-- who waits: the label of a task, and the moment in which it asked
pub record Waiter : Type 0 where
  pub task : Label
  pub since : ℕ

abbrev pub waiter_of : (ℕ → Started) → Ticket → Waiter
waiter_of at ticket = record { task = (at ticket.row).here.task; since = ticket.since }

abbrev pub waiter_in : Asker → Waiter
waiter_in asker = record { task = asker.task; since = asker.at }

-- the same tickets and askers wait, of those who have not left the queue by a moment
abbrev pub SameWaiters : (ℕ → Started) → ℕ → List Ticket → List Asker → Type 0
SameWaiters at t tickets askers = map (waiter_of at) tickets ≡ map waiter_in (filter (stays_at t) askers)

-- with what they send
pub record Offer : Type 0 where
  pub waiter : Waiter
  pub part : Range

abbrev pub offer_of : (ℕ → Started) → Sender Ticket Range → Offer
offer_of at sender = record { waiter = waiter_of at sender.who; part = sender.part }

abbrev pub offer_in : Sender Asker Range → Offer
offer_in sender = record { waiter = waiter_in sender.who; part = sender.part }

abbrev pub stays_to_send : ℕ → Sender Asker Range → Bool
stays_to_send t sender = stays_at t sender.who

pub record SameLimiter (at : ℕ → Started) (t : ℕ) (code : Limiter Ticket) (meant : Limiter Asker) : Type 0 where
  pub free : code.free ≡ meant.free
  pub waiting : SameWaiters at t code.waiting meant.waiting

pub record SameChannel (at : ℕ → Started) (t : ℕ) (code : Channel Ticket Range) (meant : Channel Asker Range) : Type 0 where
  pub places : code.places ≡ meant.places
  pub buffer : code.buffer ≡ meant.buffer
  pub is_closed : code.is_closed ≡ meant.is_closed
  pub senders : map (offer_of at) code.senders ≡ map offer_in (filter (stays_to_send t) meant.senders)
  pub receivers : SameWaiters at t code.receivers meant.receivers

-- an object of the code, in which nobody is left who waits no more, is one of the definitions by a moment
abbrev pub SameObject : (ℕ → Started) → ℕ → Option ObjectOf → Object → Type 0
SameObject at t None unopened = Unit {0}
SameObject at t (Some (held.a_limiter l)) (a_limiter m) = SameLimiter at t l m
SameObject at t (Some (held.a_channel c)) (a_channel d) = SameChannel at t c d
SameObject at t _ _ = ⊥

-- ---- serving what was done in a round

abbrev pub to_limiter : Ticket → Act → List (LimiterAct Ticket)
to_limiter who (opens kind) = []
to_limiter who (asks Acquire part left) = limiters.acquires who ∷ []
to_limiter who (asks Send part left) = []
to_limiter who (asks Receive part left) = []
to_limiter who gives_back = limiters.gives_back ∷ []
to_limiter who closes = []

abbrev pub to_channel : Ticket → Act → List (ChannelAct Ticket Range)
to_channel who (opens kind) = []
to_channel who (asks Acquire part left) = []
to_channel who (asks Send part left) = channels.sends who part ∷ []
to_channel who (asks Receive part left) = channels.receives who ∷ []
to_channel who gives_back = []
to_channel who closes = channels.closes ∷ []

-- an object after acts, with what it granted
pub record Served : Type 0 where
  pub object : Option ObjectOf
  pub gets : List Gets

abbrev pub opened_by : Act → Option ObjectOf
opened_by (opens kind) = Some (new_object kind)
opened_by (asks ask part left) = None
opened_by gives_back = None
opened_by closes = None

-- what is done to an object by the task of a ticket, where it is known who still waits
abbrev pub serve_one : (Ticket → Bool) → Option ObjectOf → Ticket → Act → Served
serve_one waits None who act = record { object = opened_by act; gets = [] }
serve_one waits (Some (held.a_limiter l)) who act =
    let served = limiters.after_acts l (to_limiter who act) in
    record { object = Some (held.a_limiter (limiter_left waits served.limiter)); gets = map gets_token served.granted }
serve_one waits (Some (held.a_channel c)) who act =
    let served = channels.after_acts c (to_channel who act) in
    record { object = Some (held.a_channel (channel_left waits served.channel)); gets = map gets_by served.granted }

-- what is done to it in a moment, one act after the other
abbrev pub serve_all : (Ticket → Bool) → ℕ → Option ObjectOf → List RoundAct → Served
serve_all waits t o [] = record { object = o; gets = [] }
serve_all waits t o (a ∷ round) =
    let first = serve_one waits o (record { row = a.serial; since = t }) a.act in
    let rest = serve_all waits t first.object round in
    record { object = rest.object; gets = first.gets ++ rest.gets }

-- the acts on one of them
abbrev pub acts_on : Label → List RoundAct → List RoundAct
acts_on l round = filter (λ (a : RoundAct). same_label l a.object) round

abbrev pub what_if : Bool → What → Option What → Option What
what_if true w other = Some w
what_if false w other = other

-- what the task of a serial number gets that asked in a moment
abbrev pub find_get : ℕ → ℕ → List Gets → Option What
find_get s u [] = None
find_get s u (g ∷ gets) = what_if (g.who.row == s && g.who.since == u) g.what (find_get s u gets)
