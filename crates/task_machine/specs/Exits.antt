-- Leaving a block, and the cancellation by a task or body that fails.
use Rattle.std.specs.Prelude.{◌≡◌, false, List, [], ◌∷◌, ◌++◌, Option}
use Rattle.input_lines.specs.Part.{buffer_of}
use Rattle.exceptions.specs.Exceptions.{Exc}
use Rattle.cancel_scopes.specs.Sight.{catches}
use Rattle.job_meaning.specs.Log.{Table}
use Rattle.job_meaning.specs.Moments.{tick_of}
use Rattle.job_meaning.specs.Walk.{from_for, stack_for, left_as, left_with, exc_after}
use Rattle.job_meaning.specs.Walk as meaning
use Rattle.job_meaning.specs.Rest.{noted}
use Rattle.task_machine.specs.declared.entry.Entry.{Entry}
use Rattle.turn_semantics.specs.Midway.{Place, stack_at}
use Rattle.turn_semantics.specs.Names.{names_at, OwnNames}
use Rattle.turn_semantics.specs.Steps.{signs_home, cancelled_from_after}
use Rattle.block_exits.specs.declared.kind.Kind.{Kind}
use Rattle.task_machine.specs.Acts.{Signed, key_failed}
use Rattle.block_exits.specs.Held.{kind_of}
use Rattle.task_machine.specs.Noted.{AreNoted}
use Rattle.task_machine.specs.Stacked.{AreAt}
use Rattle.task_machine.specs.States.{State, stack_in}

-- The innermost scope or nursery is left with an exception: what remains of the exception by the moments of cancellation
-- propagates, the entry is noted, and the task is enclosed by the others, with the same moments of cancellation.
pub record ExitsFrom
    (before after : State) (kind : meaning.Kind) (left : meaning.Left) (goes_on : Option Exc) (cancelled_from : Table) (p : Place) (ps : List Place) :
    Type 0
  where
    pub exc : goes_on ≡ exc_after kind p.label (tick_of before.clock before.tick) left
    pub entry : Entry
    pub entries : after.entries ≡ before.entries ++ entry ∷ []
    pub shown : AreNoted before.clock (buffer_of before.part) (entry ∷ []) (noted before.tick (left_as kind p.label left.caught) ∷ [])
    pub around : AreAt after.labels after.events cancelled_from (stack_in after) ps

abbrev pub ExitsAt : State → State → Kind → Option Exc → Option Exc → Type 0
ExitsAt before after kind exc goes_on =
    (cancelled_from : Table) (p : Place) (ps : List Place) → p.is_event ≡ false → AreAt before.labels before.events cancelled_from (stack_in before) (p ∷ ps) →
    ExitsFrom before after (kind_of kind)
    (left_with (catches (from_for before.cancelled before.tick p.label (cancelled_from p.label)) p.shield
    (stack_for before.cancelled before.tick (stack_at cancelled_from ps).scopes) before.tick) exc)
    goes_on
    cancelled_from p ps

-- the innermost event is left: the task is enclosed by the others, with the same moments of cancellation
abbrev pub LeavesEventAt : State → State → Type 0
LeavesEventAt before after =
    (cancelled_from : Table) (p : Place) (ps : List Place) → AreAt before.labels before.events cancelled_from (stack_in before) (p ∷ ps) →
    AreAt after.labels after.events cancelled_from (stack_in after) ps

-- A task or body that ends with an exception signs for the innermost scope that is no event, if there is one, and so lowers its from.
abbrev pub FailsAt : State → State → Option Exc → Type 0
FailsAt before after exc =
    Signed before.tick before.tree after.tree (key_failed exc before.events (stack_in before))
    × ((cancelled_from : Table) (ps : List Place) → OwnNames (names_at ps) → AreAt before.labels before.events cancelled_from (stack_in before) ps →
    AreAt after.labels after.events (cancelled_from_after cancelled_from (signs_home exc ps before.tick)) (stack_in after) ps)
