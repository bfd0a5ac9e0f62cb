-- When a runner may wake a task, by the moments of cancellation that the runner keeps and the ends of the task's children.
use Rattle.std.specs.Prelude.{◌≡◌, ◌⊎◌, Bool, true, false, ℕ, suc, ◌<◌, ◌≤◌, Option, Some, List, []}
use Rattle.turn_semantics.specs.Lists.{IsAmong}
use Rattle.exceptions.specs.Exceptions.{Exc}
use Rattle.cancel_scopes.specs.Sight.{seen}
use Rattle.job_meaning.specs.Log.{Member}
use Rattle.job_meaning.specs.Moments.{a_round_after, wakes_at, Now}
use Rattle.job_meaning.specs.declared.clock.Clock.{Clock}
use Rattle.job_meaning.specs.Asking.{answer_of}
use Rattle.job_meaning.specs.Rest.{Stopped, to_begin, asking, asleep, waiting_for, queued, giving_up, awaiting, at_end, inside}
use Rattle.turn_semantics.specs.Midway.{label_among, Tables, stack_at}
use Rattle.turn_semantics.specs.Wakes.{Wake, begins, sees, gives_up, is_due, has_answer, is_granted, settles, ends_at, granted_to, LeavesAt, SettlesAt}
pub use Rattle.interleavings.specs.Interleaving.{members_by}
use Rattle.interleavings.specs.Interleaving.{Started}

-- the nursery of a wait is over in moment t: the tasks with the children's serial numbers have ended, the last of them
-- then or a round before, and this is their group
pub record WaitIsOver (qs : List Started) (q : Started) (t : ℕ) (children : List ℕ) (ended : ℕ) (e x : Option Exc) : Type 0 where
  pub ends : ℕ → Member
  pub numbers : (i : ℕ) → IsAmong i children → i < q.count
  pub over : (i : ℕ) → IsAmong i children → (c : Started) → IsAmong c qs → c.serial ≡ q.child i →
      c.rest.stopped ≡ at_end (ends i).end (ends i).exc
  pub settled : SettlesAt q.here.clock t x (members_by ends children) ended e q.places

-- a task that waits for an event may see a cancellation now: before the event is set, or at a checkpoint
abbrev pub SeesNow : Clock → (set since t : ℕ) → Type 0
SeesNow clock set since t =
    (a_round_after clock since ≤ t) × (((set ≤ a_round_after clock since) × (t ≤ a_round_after clock since)) ⊎ ((a_round_after clock since < set) × (t < set)))

-- its wait is over now: a checkpoint that sees nothing, or the event is set now
abbrev pub IsOver : Clock → (set since t : ℕ) → (seen_now : Bool) → Type 0
IsOver clock set since t seen_now =
    ((set ≤ a_round_after clock since) × (a_round_after clock since ≡ t) × (seen_now ≡ false)) ⊎ ((a_round_after clock since < set) × (set ≡ t))

-- A task may be woken so in a moment, by the moments of cancellation that the runner keeps and the grants of the tables that are followed: it begins in this moment, or asked in it and has the kernel's answer; it is due now and
-- sees nothing; it sees a cancellation now; its checkpoint was cancelled a round before; or its nursery is over. What it has
-- cancelled itself in the moment counts on, if it asked.
abbrev pub MayWake : Tables → List Started → Now → Started → Wake → Stopped → Type 0
MayWake f qs now q begins to_begin = q.stop ≡ now
MayWake f qs now q (has_answer a) (asking kernel purpose) = (q.stop ≡ now) × (a ≡ answer_of kernel (inside q.rest.frames q.here))
MayWake f qs now q is_due (asleep paced n since) =
    (wakes_at q.here.clock n since ≡ now.at) × (seen (stack_at f.cancelled_from q.places).scopes now.at ≡ false) × (now.own ≡ [])
MayWake f qs now q sees (asleep paced n since) = (since < now.at) × (seen (stack_at f.cancelled_from q.places).scopes now.at ≡ true) × (now.own ≡ [])
MayWake f qs now q sees (waiting_for event since) =
    SeesNow q.here.clock (ends_at q.here.clock f.cancelled_from event since q.places) since now.at × (seen (stack_at f.cancelled_from q.places).scopes now.at ≡ true) × (now.own ≡ [])
MayWake f qs now q is_due (waiting_for event since) =
    IsOver q.here.clock (ends_at q.here.clock f.cancelled_from event since q.places) since now.at (seen (stack_at f.cancelled_from q.places).scopes now.at) × (now.own ≡ [])
MayWake f qs now q (is_granted what) (queued object ask since body) =
    (granted_to f (inside q.rest.frames q.here) (label_among true object q.places) since (stack_at f.cancelled_from q.places)
    ≡ Some (record { at = now.at; what = what })) × (now.own ≡ [])
MayWake f qs now q sees (queued object ask since body) =
    LeavesAt f (inside q.rest.frames q.here) (label_among true object q.places) since now.at (stack_at f.cancelled_from q.places)
    × (seen (stack_at f.cancelled_from q.places).scopes now.at ≡ true) × (now.own ≡ [])
MayWake f qs now q is_due (queued object ask since body) =
    LeavesAt f (inside q.rest.frames q.here) (label_among true object q.places) since now.at (stack_at f.cancelled_from q.places)
    × (seen (stack_at f.cancelled_from q.places).scopes now.at ≡ false) × (now.own ≡ [])
MayWake f qs now q gives_up (giving_up since) = (suc since ≡ now.at) × (now.own ≡ [])
MayWake f qs now q (settles x) (awaiting children ended e) = WaitIsOver qs q now.at children ended e x × (now.own ≡ [])
MayWake f qs now q _ _ = ⊥
