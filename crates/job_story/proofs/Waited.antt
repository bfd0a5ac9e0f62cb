-- Waits for events, as tales.
use Rattle.std.proofs.Common.{◌≡◌, ℕ, ◌≤◌, ◌<◌, max, Bool, true, false, Option, Some, None, List, [], subst, sym, ◌∙◌, refl, nat_le, nat_lt, if◌then◌else◌, arith}
use Rattle.std.specs.Option.{is_some}
use Rattle.std.proofs.lemmas.Bool.Decides.{nat_tests}
use Rattle.exceptions.specs.Exceptions.{Label, Exc, cancelled}
use Rattle.cancel_scopes.specs.Sight.{Tick, Level, sight}
use Rattle.job_meaning.specs.Moments.{Now, only_at, a_round_after}
use Rattle.job_meaning.specs.declared.clock.Clock.{Clock}
use Rattle.job_meaning.specs.Walk.{Levels, set_moment}
use Rattle.job_story.specs.Story.{at_checkpoint, waiting_for, Story, Tale, no_more, is_cancelled, awaits, was_set, happened}
use Rattle.job_story.specs.Tell.{ended_at, failed_at, story_of_one, seer, tell_sleep, tell_waiting, with_set_if, with_set, tell_event_wait}
use Rattle.job_story.specs.declared.event.Event as held
use Rattle.job_story.specs.declared.progress.Progress.{Progress}
use Rattle.job_story.specs.declared.stretch.Stretch.{Stretch}
use Rattle.job_story.specs.Tales.{IsStretchOf, Adds, Tells, own_of}
use Rattle.job_story.proofs.Adding.{adds_nothing, adds_then}
use Rattle.job_story.proofs.Slept.{none_own}
use Rattle.job_story.proofs.Teller.{stretch_like, none_fails, none_well}

-- ---- a wait that is no checkpoint

-- the tale of a wait in which a cancellation is seen from a moment on: when it begins, or before its end
abbrev waiting_from : (at before : Bool) → (from m least end : ℕ) → Levels → Bool → Label → Tale
waiting_from at before from m least end st c label =
    let t = max least from in
    if at then failed_at cancelled (only_at t) (story_of_one t (is_cancelled (seer st from) at_checkpoint c))
    else (if before then failed_at cancelled (only_at t)
    (happened m (awaits label) (story_of_one t (is_cancelled (seer st from) (waiting_for label m) c)))
    else ended_at (only_at end) (happened m (awaits label) (story_of_one end (was_set label))))

-- no cancellation is seen
pub waited_never : (me : Label) (before : List held.Event) (after : Progress) (w : Stretch) (sight : Tick) (m least end : ℕ) (st : Levels)
    (c : Bool) (label : Label) → sight ≡ None →
    Adds me before after.events.items (happened m (awaits label) (story_of_one end (was_set label))) → after.cancelled.items ≡ [] →
    ((own : List Label) (s : Story) → IsStretchOf w (ended_at (record { at = end; own = own }) s)) →
    Tells me before w after (tell_waiting sight m least end st c label)
waited_never me before after w sight m least end st c label e h own k =
    rw e (record { stretch = k [] _; events = h; own = none_own after.cancelled.items own })

-- a wait at whose start the task is cancelled already
pub waited_now : (me : Label) (before : List held.Event) (after : Progress) (w : Stretch) (sight : Tick) (m least end : ℕ) (st : Levels)
    (c : Bool) (label : Label) (from t : ℕ) → sight ≡ Some from → from ≤ m → t ≡ max least from →
    Adds me before after.events.items (story_of_one t (is_cancelled (seer st from) at_checkpoint c)) → after.cancelled.items ≡ [] →
    ((own : List Label) (s : Story) → IsStretchOf w (failed_at cancelled (record { at = t; own = own }) s)) →
    Tells me before w after (tell_waiting sight m least end st c label)
waited_now me before after w sight m least end st c label from t e le is h own k = rw e (by_test (nat_le from m) refl)
  where
    tale : ℕ → Tale
    tale u = failed_at cancelled (only_at u) (story_of_one u (is_cancelled (seer st from) at_checkpoint c))

    by_test : (at : Bool) → nat_le from m ≡ at →
        Tells me before w after (waiting_from at (nat_lt from end) from m least end st c label)
    by_test true x =
        subst (λ (u : ℕ). Tells me before w after (tale u)) is
        (record { stretch = k [] _; events = h; own = none_own after.cancelled.items own })
    by_test false x = absurd (grind (arith, nat_tests))

-- a wait that is cancelled before the event is set
pub waited_cut : (me : Label) (before : List held.Event) (after : Progress) (w : Stretch) (sight : Tick) (m least end : ℕ) (st : Levels)
    (c : Bool) (label : Label) (from t : ℕ) → sight ≡ Some from → m < from → from < end → t ≡ max least from →
    Adds me before after.events.items
    (happened m (awaits label) (story_of_one t (is_cancelled (seer st from) (waiting_for label m) c))) → after.cancelled.items ≡ [] →
    ((own : List Label) (s : Story) → IsStretchOf w (failed_at cancelled (record { at = t; own = own }) s)) →
    Tells me before w after (tell_waiting sight m least end st c label)
waited_cut me before after w sight m least end st c label from t e later lt is h own k =
    rw e (by_test (nat_le from m) refl (nat_lt from end) refl)
  where
    tale : ℕ → Tale
    tale u =
        failed_at cancelled (only_at u)
        (happened m (awaits label) (story_of_one u (is_cancelled (seer st from) (waiting_for label m) c)))

    by_test : (at : Bool) → nat_le from m ≡ at → (cut : Bool) → nat_lt from end ≡ cut →
        Tells me before w after (waiting_from at cut from m least end st c label)
    by_test true x cut y = absurd (grind (arith, nat_tests))
    by_test false x true y =
        subst (λ (u : ℕ). Tells me before w after (tale u)) is
        (record { stretch = k [] _; events = h; own = none_own after.cancelled.items own })
    by_test false x false y = absurd (grind (arith, nat_tests))

-- a wait that ends before the moment from which the task is cancelled, or in that moment
pub waited_past : (me : Label) (before : List held.Event) (after : Progress) (w : Stretch) (sight : Tick) (m least end : ℕ) (st : Levels)
    (c : Bool) (label : Label) (from : ℕ) → sight ≡ Some from → m < from → end ≤ from →
    Adds me before after.events.items (happened m (awaits label) (story_of_one end (was_set label))) → after.cancelled.items ≡ [] →
    ((own : List Label) (s : Story) → IsStretchOf w (ended_at (record { at = end; own = own }) s)) →
    Tells me before w after (tell_waiting sight m least end st c label)
waited_past me before after w sight m least end st c label from e later le h own k =
    rw e (by_test (nat_le from m) refl (nat_lt from end) refl)
  where
    by_test : (at : Bool) → nat_le from m ≡ at → (cut : Bool) → nat_lt from end ≡ cut →
        Tells me before w after (waiting_from at cut from m least end st c label)
    by_test true x cut y = absurd (grind (arith, nat_tests))
    by_test false x true y = absurd (grind (arith, nat_tests))
    by_test false x false y = record { stretch = k [] _; events = h; own = none_own after.cancelled.items own }

-- ---- a wait that is a checkpoint

-- a checkpoint that was cancelled
pub set_failed : (me : Label) (start : List held.Event) (after : Progress) (w : Stretch) (a : Tale) (label : Label) → is_some w.exc ≡ true →
    Tells me start w after a → Tells me start w after (with_set label a)
set_failed me start after w a label failed h = by_exc a.exc refl
  where
    by_exc : (o : Option Exc) → a.exc ≡ o → Tells me start w after (with_set_if o label a)
    by_exc None e = absurd (none_fails w.exc (h.stretch.exc ∙ e) failed)
    by_exc (Some x) e = h

-- a checkpoint that ended well, after which the event is set
pub set_well : (me : Label) (start : List held.Event) (mid after : Progress) (w : Stretch) (a : Tale) (label : Label) (t : ℕ) →
    is_some w.exc ≡ false → Tells me start w mid a → t ≡ w.end →
    Adds me mid.events.items after.events.items (story_of_one t (was_set label)) → own_of after ≡ own_of mid →
    Tells me start w after (with_set label a)
set_well me start mid after w a label t well h is k own = by_exc a.exc refl
  where
    by_exc : (o : Option Exc) → a.exc ≡ o → Tells me start w after (with_set_if o label a)
    by_exc None e =
        record {
          stretch = stretch_like w a (with_set_if None label a) h.stretch refl refl refl;
          events =
              adds_then me start mid.events.items after.events.items a.story (story_of_one a.end (was_set label)) h.events
              (subst (λ (u : ℕ). Adds me mid.events.items after.events.items (story_of_one u (was_set label))) (is ∙ h.stretch.end) k);
          own = own ∙ h.own;
        }
    by_exc (Some x) e = absurd (clash x (sym e ∙ (sym h.stretch.exc ∙ none_well w.exc well)))
      where
        clash : (y : Exc) → Some y ≡ None → ⊥
        clash y same = cc

-- ---- a wait

-- where no event of the name encloses the task, nothing happens
pub waits_for_none : (me : Label) (start : Progress) (w : Stretch) (clock : Clock) (st : Levels) (c : Bool) (o : Option (Level Label)) (m : ℕ) →
    o ≡ None → ((own : List Label) (s : Story) → IsStretchOf w (ended_at (record { at = m; own = own }) s)) →
    Tells me start.events.items w start (tell_event_wait clock st c o (record { at = m; own = own_of start }))
unfolding tell_event_wait
waits_for_none me start w clock st c o m e k =
    rw e (record { stretch = k (own_of start) no_more; events = adds_nothing me start.events.items; own = refl })

-- an event that is set by the next round
pub waits_checked : (me : Label) (start : List held.Event) (after : Progress) (w : Stretch) (clock : Clock) (st : Levels) (c : Bool)
    (o : Option (Level Label)) (l : Level Label) (now : Now) (u : ℕ) → o ≡ Some l → u ≡ set_moment clock l.from now.at →
    u ≤ a_round_after clock now.at → Tells me start w after (with_set l.label (tell_sleep clock st c (Some now.at) 0 now.at)) →
    Tells me start w after (tell_event_wait clock st c o now)
unfolding tell_event_wait
waits_checked me start after w clock st c o l now u e is le h = rw e (by_test (nat_le end (a_round_after clock now.at)) refl)
  where
    end : ℕ
    end = set_moment clock l.from now.at

    by_test : (b : Bool) → nat_le end (a_round_after clock now.at) ≡ b →
        Tells me start w after (if b then with_set l.label (tell_sleep clock st c (Some now.at) 0 now.at)
        else tell_waiting (sight st) now.at (a_round_after clock now.at) end st c l.label)
    by_test true x = h
    by_test false x = absurd (late end (a_round_after clock now.at) (subst (λ (v : ℕ). v ≤ a_round_after clock now.at) is le) x)
      where
        late : (m n : ℕ) → m ≤ n → nat_le m n ≡ false → ⊥
        late m n some test = grind (arith, nat_tests)

-- an event that is set later
pub waits_awaited : (me : Label) (start : List held.Event) (after : Progress) (w : Stretch) (clock : Clock) (st : Levels) (c : Bool)
    (o : Option (Level Label)) (l : Level Label) (now : Now) (u : ℕ) → o ≡ Some l → u ≡ set_moment clock l.from now.at →
    a_round_after clock now.at < u →
    Tells me start w after (tell_waiting (sight st) now.at (a_round_after clock now.at) u st c l.label) →
    Tells me start w after (tell_event_wait clock st c o now)
unfolding tell_event_wait
waits_awaited me start after w clock st c o l now u e is lt h = rw e (by_test (nat_le end (a_round_after clock now.at)) refl)
  where
    end : ℕ
    end = set_moment clock l.from now.at

    by_test : (b : Bool) → nat_le end (a_round_after clock now.at) ≡ b →
        Tells me start w after (if b then with_set l.label (tell_sleep clock st c (Some now.at) 0 now.at)
        else tell_waiting (sight st) now.at (a_round_after clock now.at) end st c l.label)
    by_test true x = absurd (soon end (a_round_after clock now.at) (subst (λ (v : ℕ). a_round_after clock now.at < v) is lt) x)
      where
        soon : (m n : ℕ) → n < m → nat_le m n ≡ true → ⊥
        soon m n more test = grind (arith, nat_tests)
    by_test false x =
        subst (λ (v : ℕ). Tells me start w after (tell_waiting (sight st) now.at (a_round_after clock now.at) v st c l.label)) is h
