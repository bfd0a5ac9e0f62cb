-- Children that begin at their places, among others.
use Rattle.std.proofs.Common.{inl, inr, ℕ, Option, List, [], ◌∷◌, ◌++◌}
use Rattle.nursery_book.specs.declared.book.NurseryBook.{NurseryBook}
use Rattle.job_meaning.specs.declared.clock.Clock.{Clock}
use Rattle.turn_semantics.specs.Midway.{Begun}
use Rattle.task_machine.specs.declared.task.Task.{Task}
use Rattle.task_machine.specs.Fitting.{Block}
use Rattle.task_machine.specs.Standing.{AreBegun, BeginsAt}
use Rattle.task_machine.specs.Stops.{Numbers}

-- one of the first
pub begins_more : (id index number : ℕ) (ts us : List Task) (bs cs : List Begun) → BeginsAt id index number ts bs →
    BeginsAt id index number (ts ++ us) (bs ++ cs)
begins_more id index number [] us bs cs h = absurd h
begins_more id index number (t ∷ ts) us [] cs h = absurd h
begins_more id index number (t ∷ ts) us (b ∷ bs) cs (inl h) = inl h
begins_more id index number (t ∷ ts) us (b ∷ bs) cs (inr h) = inr (begins_more id index number ts us bs cs h)

-- one of the last
pub begins_last : (clock : Clock) (begins : ℕ) (id index number : ℕ) (numbers : Numbers) (book : NurseryBook) (blocks : List Block)
    (waits : Option ℕ)
    (ts us : List Task) (bs cs : List Begun) →
    AreBegun clock begins numbers book blocks waits ts bs → BeginsAt id index number us cs → BeginsAt id index number (ts ++ us) (bs ++ cs)
begins_last clock begins id index number numbers book blocks waits [] us [] cs a h = h
begins_last clock begins id index number numbers book blocks waits [] us (b ∷ bs) cs a h = absurd a
begins_last clock begins id index number numbers book blocks waits (t ∷ ts) us [] cs a h = absurd a
begins_last clock begins id index number numbers book blocks waits (t ∷ ts) us (b ∷ bs) cs a h =
    inr (begins_last clock begins id index number numbers book blocks waits ts us bs cs a.1 h)
