-- What a task has cancelled itself in a moment, after a move; and that a move that waits for no nursery ends none.
use Rattle.std.proofs.Common.{◌≡◌, ℕ, zero, suc, ◌+◌, Option, Some, None, List, [], ◌∷◌, ◌++◌, refl, ap, sym, ◌∙◌}
use Rattle.exceptions.specs.Exceptions.{Label}
use Rattle.job_meaning.specs.declared.clock.Clock.{Clock}
use Rattle.job_meaning.specs.declared.clock.Clock.TheVariants.{ByTicks as by_ticks, ByRounds as by_rounds}
use Rattle.job_meaning.specs.Walk.{Here, with_own, label_over}
use Rattle.job_meaning.specs.Rest.{Event, starts, starts_over, Stopped, to_begin, asking, asleep, waiting_for, queued, giving_up, awaiting, at_end}
use Rattle.input_lines.specs.Lines.{Span}
use Rattle.nursery_book.specs.declared.book.NurseryBook.{NurseryBook}
use Rattle.turn_semantics.specs.Midway.{own_after}
use Rattle.turn_semantics.specs.Steps.{signs_to}
use Rattle.turn_semantics.specs.Wakes.{lines_made}
use Rattle.turn_semantics.proofs.Events.{own_append}
use Rattle.task_machine.specs.declared.stop.Moved.{Moved}
use Rattle.task_machine.specs.declared.stop.Moved.TheVariants.{On, Stops}
use Rattle.task_machine.specs.declared.stop.TaskState.{TaskState}
use Rattle.task_machine.specs.declared.stop.TaskState.TheVariants.{ToBegin, Asked, Asleep, Waiting, Queued, GivingUp, Awaits, Over}
use Rattle.task_machine.specs.Standing.{waits_by, EndsLast}
use Rattle.task_machine.specs.Stops.{OwnAfter}

-- what a move leaves is right where it is what its events leave
pub own_is : (clock : Clock) (before after : List Label) (made : List Event) (s : Option Stopped) → after ≡ own_after clock before made →
    OwnAfter clock before after made s
own_is clock before after made None e = e
own_is clock before after made (Some to_begin) e = tt
own_is clock before after made (Some (asking kernel purpose)) e = e
own_is clock before after made (Some (asleep paced n since)) e = tt
own_is clock before after made (Some (waiting_for event since)) e = tt
own_is clock before after made (Some (queued object ask since body)) e = tt
own_is clock before after made (Some (giving_up since)) e = tt
own_is clock before after made (Some (awaiting children ended exc)) e = tt
own_is clock before after made (Some (at_end u exc)) e = tt

-- a move without events leaves it as it was
pub own_same : (clock : Clock) (before after : List Label) (made : List Event) (s : Option Stopped) → made ≡ [] → after ≡ before →
    OwnAfter clock before after made s
own_same clock before after made s none e =
    own_is clock before after made s (e ∙ sym (ap (λ (es : List Event). own_after clock before es) none))

both_own : (clock : Clock) (before between after : List Label) (es fs : List Event) → between ≡ own_after clock before es →
    after ≡ own_after clock between fs → after ≡ own_after clock before (es ++ fs)
both_own clock before between after es fs first e =
    e ∙ ap (λ (own : List Label). own_after clock own fs) first ∙ sym (own_append clock es fs before)

-- where the task continues, it is what its events leave
pub own_on : (clock : Clock) (before after : List Label) (made : List Event) (s : Option Stopped) → s ≡ None →
    OwnAfter clock before after made s → after ≡ own_after clock before made
own_on clock before after made None none e = e
own_on clock before after made (Some s) none e = absurd (let f : Some s ≡ None = none in cc)

-- after a move, and another one
pub own_then : (clock : Clock) (before between after : List Label) (es fs : List Event) (s : Option Stopped) →
    between ≡ own_after clock before es → OwnAfter clock between after fs s → OwnAfter clock before after (es ++ fs) s
own_then clock before between after es fs None first e = both_own clock before between after es fs first e
own_then clock before between after es fs (Some to_begin) first e = tt
own_then clock before between after es fs (Some (asking kernel purpose)) first e = both_own clock before between after es fs first e
own_then clock before between after es fs (Some (asleep paced n since)) first e = tt
own_then clock before between after es fs (Some (waiting_for event since)) first e = tt
own_then clock before between after es fs (Some (queued object ask since body)) first e = tt
own_then clock before between after es fs (Some (giving_up since)) first e = tt
own_then clock before between after es fs (Some (awaiting children ended exc)) first e = tt
own_then clock before between after es fs (Some (at_end u exc)) first e = tt

-- a label that it cancels is one more
pub own_signed : (clock : Clock) (own : List Label) (o : Option Label) (t : ℕ) → with_own clock o own ≡ own_after clock own (signs_to o t)
own_signed by_ticks own None t = refl
own_signed by_ticks own (Some l) t = refl
own_signed by_rounds own None t = refl
own_signed by_rounds own (Some l) t = refl

-- lines that it notes change nothing
pub own_lines : (clock : Clock) (own : List Label) (t : ℕ) (spans : List Span) → own ≡ own_after clock own (lines_made t spans)
own_lines clock own t [] = refl
own_lines clock own t (l ∷ spans) = own_lines clock own t spans

-- nor do children that it starts
pub own_started : (clock : Clock) (own : List Label) (name : List ℕ) (here : Here) (t first k : ℕ) →
    own ≡ own_after clock own (starts_over name here t first k)
own_started clock own name here t first zero = refl
own_started clock own name here t first (suc k) =
    own_started clock own name here t first k
    ∙ sym (own_append clock (starts_over name here t first k) (starts (first + k) (label_over name here k) t ∷ []) own)

-- ---- no nursery is waited for

-- so no body ended
pub ends_none : (goes : Moved) (task_state : TaskState) (book : NurseryBook) → waits_by goes task_state ≡ None →
    EndsLast goes task_state book
ends_none (On exc) task_state book none = tt
ends_none (Stops stop) (ToBegin at) book none = tt
ends_none (Stops stop) (Asked kernel purpose) book none = tt
ends_none (Stops stop) (Asleep paced ticks since) book none = tt
ends_none (Stops stop) (Waiting event since) book none = tt
ends_none (Stops stop) (Queued object ask since body) book none = tt
ends_none (Stops stop) (GivingUp since) book none = tt
ends_none (Stops stop) (Awaits id since) book none = absurd (let f : Some id ≡ None = none in cc)
ends_none (Stops stop) Over book none = tt
