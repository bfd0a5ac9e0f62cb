-- Sleeps, as tales.
use Rattle.std.proofs.Common.{◌≡◌, ℕ, zero, suc, subst, sym, ap, ◌≤◌, ◌<◌, Bool, true, false, Some, None, List, [], reverse, refl, arith, nat_le, if◌then◌else◌}
use Rattle.std.proofs.lemmas.Bool.Decides.{nat_tests}
use Rattle.exceptions.specs.Exceptions.{Label, cancelled}
use Rattle.cancel_scopes.specs.Sight.{Tick}
use Rattle.job_meaning.specs.Moments.{only_at}
use Rattle.job_meaning.specs.Walk.{Levels}
use Rattle.job_story.specs.Story.{at_checkpoint, Story, Tale, is_cancelled, sleeps, then_story}
use Rattle.job_story.specs.Tell.{ended_at, failed_at, story_of_one, seer, asleep_for, during_sleep, tell_slept}
use Rattle.job_story.specs.declared.event.Event as held
use Rattle.job_story.specs.declared.progress.Progress.{Progress}
use Rattle.job_story.specs.declared.stretch.Stretch.{Stretch}
use Rattle.job_story.specs.Tales.{IsStretchOf, Adds, Tells}
use Rattle.job_story.proofs.Adding.{adds_nothing, adds_then}

-- a task that has cancelled nothing in its moment
pub none_own : (ls : List Label) → ls ≡ [] → reverse ls ≡ []
none_own ls e = ap (λ (xs : List Label). reverse xs) e

-- the tale of a sleep in which a cancellation is seen from a moment on: when it begins, at its earliest end, or before its end
abbrev slept_from : (at least due : Bool) → (from n m gives_up end : ℕ) → Levels → Bool → Tick → Tale
slept_from at least due from n m gives_up end st c until =
    let while_asleep = (λ (t : ℕ). failed_at cancelled (only_at t)
    (then_story (asleep_for n m until) (story_of_one t (is_cancelled (seer st from) (during_sleep n m) c)))) in
    if at then failed_at cancelled (only_at gives_up) (story_of_one gives_up (is_cancelled (seer st from) at_checkpoint c))
    else (if least then while_asleep gives_up
    else (if due then while_asleep from else ended_at (only_at end) (asleep_for n m until)))

-- no cancellation is seen
pub slept_never : (me : Label) (before : List held.Event) (after : Progress) (w : Stretch) (sight : Tick) (n m least gives_up end : ℕ)
    (st : Levels)
    (c : Bool) (until : Tick) → sight ≡ None → Adds me before after.events.items (asleep_for n m until) → after.cancelled.items ≡ [] →
    ((own : List Label) (s : Story) → IsStretchOf w (ended_at (record { at = end; own = own }) s)) →
    Tells me before w after (tell_slept sight n m least gives_up end st c until)
slept_never me before after w sight n m least gives_up end st c until e h own k =
    rw e (record { stretch = k [] (asleep_for n m until); events = h; own = none_own after.cancelled.items own })

-- a sleep at whose start the task is cancelled already
pub slept_now : (me : Label) (before : List held.Event) (after : Progress) (w : Stretch) (sight : Tick) (n m least gives_up end : ℕ)
    (st : Levels)
    (c : Bool) (until : Tick) (from : ℕ) → sight ≡ Some from → from ≤ m →
    Adds me before after.events.items (story_of_one gives_up (is_cancelled (seer st from) at_checkpoint c)) → after.cancelled.items ≡ [] →
    ((own : List Label) (s : Story) → IsStretchOf w (failed_at cancelled (record { at = gives_up; own = own }) s)) →
    Tells me before w after (tell_slept sight n m least gives_up end st c until)
slept_now me before after w sight n m least gives_up end st c until from e le h own k = rw e (by_test (nat_le from m) refl)
  where
    by_test : (at : Bool) → nat_le from m ≡ at →
        Tells me before w after (slept_from at (nat_le from least) (nat_le from end) from n m gives_up end st c until)
    by_test true x = record { stretch = k [] _; events = h; own = none_own after.cancelled.items own }
    by_test false x = absurd (grind (arith, nat_tests))

-- a sleep that is cancelled by its earliest end
pub slept_soon : (me : Label) (before mid : List held.Event) (after : Progress) (w : Stretch) (sight : Tick) (n m least gives_up end : ℕ)
    (st : Levels)
    (c : Bool) (until : Tick) (from : ℕ) → sight ≡ Some from → m < from → from ≤ least → Adds me before mid (asleep_for n m until) →
    Adds me mid after.events.items (story_of_one gives_up (is_cancelled (seer st from) (during_sleep n m) c)) → after.cancelled.items ≡ [] →
    ((own : List Label) (s : Story) → IsStretchOf w (failed_at cancelled (record { at = gives_up; own = own }) s)) →
    Tells me before w after (tell_slept sight n m least gives_up end st c until)
slept_soon me before mid after w sight n m least gives_up end st c until from e lt le h g own k =
    rw e (by_test (nat_le from m) refl (nat_le from least) refl)
  where
    by_test : (at : Bool) → nat_le from m ≡ at → (soon : Bool) → nat_le from least ≡ soon →
        Tells me before w after (slept_from at soon (nat_le from end) from n m gives_up end st c until)
    by_test true x soon y = absurd (grind (arith, nat_tests))
    by_test false x true y =
        record { stretch = k [] _; events = adds_then me before mid after.events.items _ _ h g; own = none_own after.cancelled.items own }
    by_test false x false y = absurd (grind (arith, nat_tests))

-- a sleep that is cancelled while the task is asleep
pub slept_later : (me : Label) (before mid : List held.Event) (after : Progress) (w : Stretch) (sight : Tick) (n m least gives_up end : ℕ)
    (st : Levels)
    (c : Bool) (until : Tick) (from : ℕ) → sight ≡ Some from → m < from → least < from → from ≤ end →
    Adds me before mid (asleep_for n m until) →
    Adds me mid after.events.items (story_of_one from (is_cancelled (seer st from) (during_sleep n m) c)) → after.cancelled.items ≡ [] →
    ((own : List Label) (s : Story) → IsStretchOf w (failed_at cancelled (record { at = from; own = own }) s)) →
    Tells me before w after (tell_slept sight n m least gives_up end st c until)
slept_later me before mid after w sight n m least gives_up end st c until from e lt later le h g own k =
    rw e (by_test (nat_le from m) refl (nat_le from least) refl (nat_le from end) refl)
  where
    by_test : (at : Bool) → nat_le from m ≡ at → (soon : Bool) → nat_le from least ≡ soon → (due : Bool) → nat_le from end ≡ due →
        Tells me before w after (slept_from at soon due from n m gives_up end st c until)
    by_test true x soon y due z = absurd (grind (arith, nat_tests))
    by_test false x true y due z = absurd (grind (arith, nat_tests))
    by_test false x false y true z =
        record { stretch = k [] _; events = adds_then me before mid after.events.items _ _ h g; own = none_own after.cancelled.items own }
    by_test false x false y false z = absurd (grind (arith, nat_tests))

-- a sleep that ends before the moment from which the task is cancelled
pub slept_past : (me : Label) (before : List held.Event) (after : Progress) (w : Stretch) (sight : Tick) (n m least gives_up end : ℕ)
    (st : Levels)
    (c : Bool) (until : Tick) (from : ℕ) → sight ≡ Some from → m < from → least < from → end < from →
    Adds me before after.events.items (asleep_for n m until) → after.cancelled.items ≡ [] →
    ((own : List Label) (s : Story) → IsStretchOf w (ended_at (record { at = end; own = own }) s)) →
    Tells me before w after (tell_slept sight n m least gives_up end st c until)
slept_past me before after w sight n m least gives_up end st c until from e lt later past h own k =
    rw e (by_test (nat_le from m) refl (nat_le from least) refl (nat_le from end) refl)
  where
    by_test : (at : Bool) → nat_le from m ≡ at → (soon : Bool) → nat_le from least ≡ soon → (due : Bool) → nat_le from end ≡ due →
        Tells me before w after (slept_from at soon due from n m gives_up end st c until)
    by_test true x soon y due z = absurd (grind (arith, nat_tests))
    by_test false x true y due z = absurd (grind (arith, nat_tests))
    by_test false x false y true z = absurd (grind (arith, nat_tests))
    by_test false x false y false z = record { stretch = k [] (asleep_for n m until); events = h; own = none_own after.cancelled.items own }

-- a sleep that takes time
pub asleep_some : (me : Label) (before after : List held.Event) (n m : ℕ) (until : Tick) → 0 < n →
    Adds me before after (story_of_one m (sleeps until)) →
    Adds me before after (asleep_for n m until)
asleep_some me before after zero m until lt h = absurd (omega arith)
asleep_some me before after (suc n) m until lt h = h

pub asleep_none : (me : Label) (es : List held.Event) (n m : ℕ) (until : Tick) → n ≡ 0 → Adds me es es (asleep_for n m until)
asleep_none me es n m until e = subst (λ (x : ℕ). Adds me es es (asleep_for x m until)) (sym e) (adds_nothing me es)
