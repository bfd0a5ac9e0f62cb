-- What is asked of limiters and channels, as tales.
use Rattle.std.proofs.Common.{◌≡◌, ℕ, suc, ◌+◌, ◌*◌, ◌<◌, ◌≤◌, max, Bool, true, false, ◌&&◌, Option, Some, None, List, [], refl, ap, sym, subst, ◌∙◌, nat_le, nat_lt, if◌then◌else◌, arith, suc-mul}
use Rattle.std.specs.Prelude.{codes}
use Rattle.std.proofs.lemmas.Bool.Decides.{nat_tests}
use Rattle.job_tree.specs.declared.object.Ask.{Ask}
use Rattle.job_tree.specs.declared.object.Ask.TheVariants.{Acquire}
use Rattle.exceptions.specs.Exceptions.{Label, cancelled, raised}
use Rattle.cancel_scopes.specs.Sight.{Tick, sight, seen, is_reached}
use Rattle.job_meaning.specs.Moments.{tick_of, Now, only_at, gives_up_at}
use Rattle.job_meaning.specs.Sharing.{Granted, granted_if}
use Rattle.job_meaning.specs.Tables.{Tables}
use Rattle.job_meaning.specs.declared.clock.Clock.{Clock}
use Rattle.job_meaning.specs.declared.clock.Clock.TheVariants.{ByTicks as by_ticks, ByRounds as by_rounds}
use Rattle.job_meaning.specs.Walk.{Levels, Here, stack_for, last_grant, leaves_queue, in_time}
use Rattle.job_story.specs.Story.{in_queue, is_cancelled, queues, gets, deadlocks, gives_token_back, Story, Tale, no_more, then_story, Asked}
use Rattle.job_story.specs.Tell.{Scene, ended_at, failed_at, story_of_one, after_this, seer, with_token_told, tell_granted, queues_if, asked_if, tell_leaving, tell_got, tell_asked, tell_asks, tell_unasked, tell_ask}
use Rattle.job_story.specs.Rooms.{base, reach, span}
use Rattle.job_story.specs.declared.event.Event as held
use Rattle.job_story.specs.declared.progress.Progress.{Progress}
use Rattle.job_story.specs.declared.stretch.Stretch.{Stretch}
use Rattle.job_story.specs.Tales.{IsStretchOf, Adds, Tells, own_of}
use Rattle.job_story.proofs.Adding.{adds_then}
use Rattle.job_story.proofs.Slept.{none_own}
use Rattle.job_story.proofs.Teller.{stretch_like}

-- ---- who leaves the queue

module _ (me : Label) (before mid : List held.Event) (after : Progress) (w : Stretch) (ask : Ask) (label : Label) (scene : Scene) (st : Levels)
    (m left : ℕ) (begun : Adds me before mid (story_of_one m (queues ask label scene.here.part (Some left))))
    (none : after.cancelled.items ≡ []) where
  abbrev left_if : Bool → Tale
  left_if b =
      if b then failed_at cancelled (only_at left) (story_of_one left (is_cancelled (seer st left) (in_queue ask label m) scene.in_cleanup))
      else failed_at (raised (codes "Deadlock") scene.here.task (tick_of scene.here.clock left)) (only_at left)
      (story_of_one left (deadlocks ask label))

  -- it is cancelled
  pub left_cancelled : is_reached (sight st) left ≡ true →
      Adds me mid after.events.items (story_of_one left (is_cancelled (seer st left) (in_queue ask label m) scene.in_cleanup)) →
      ((own : List Label) (s : Story) → IsStretchOf w (failed_at cancelled (record { at = left; own = own }) s)) →
      Tells me before w after (tell_leaving ask label scene st m left)
  left_cancelled reached h k =
      subst (λ (b : Bool). Tells me before w after
      (let a = left_if b in record a { story = then_story (story_of_one m (queues ask label scene.here.part (Some left))) a.story })) (sym reached)
      (record { stretch = k [] _; events = adds_then me before mid after.events.items _ _ begun h; own = none_own after.cancelled.items none })

  -- it has waited as long as `forever` lasts
  pub left_at_last : is_reached (sight st) left ≡ false → Adds me mid after.events.items (story_of_one left (deadlocks ask label)) →
      ((own : List Label) (s : Story) → IsStretchOf w
      (failed_at (raised (codes "Deadlock") scene.here.task (tick_of scene.here.clock left)) (record { at = left; own = own }) s)) →
      Tells me before w after (tell_leaving ask label scene st m left)
  left_at_last unreached h k =
      subst (λ (b : Bool). Tells me before w after
      (let a = left_if b in record a { story = then_story (story_of_one m (queues ask label scene.here.part (Some left))) a.story })) (sym unreached)
      (record { stretch = k [] _; events = adds_then me before mid after.events.items _ _ begun h; own = none_own after.cancelled.items none })

-- ---- what is granted

-- a tale after a story that was told before
pub told_before : (me : Label) (before mid : List held.Event) (after : Progress) (w : Stretch) (s : Story) (a : Tale) → Adds me before mid s →
    Tells me mid w after a → Tells me before w after (let t = then_story s a.story in record a { story = t })
told_before me before mid after w s a h k =
    record {
      stretch = stretch_like w a (let t = then_story s a.story in record a { story = t }) k.stretch refl refl refl;
      events = adds_then me before mid after.events.items s a.story h k.events;
      own = k.own;
    }

-- a tale before a story that is told after it
pub told_after : (me : Label) (before : List held.Event) (mid after : Progress) (w : Stretch) (s : Story) (a : Tale) → Tells me before w mid a →
    Adds me mid.events.items after.events.items s → own_of after ≡ own_of mid →
    Tells me before w after (let t = then_story a.story s in record a { story = t })
told_after me before mid after w s a h k own =
    record {
      stretch = stretch_like w a (let t = then_story a.story s in record a { story = t }) h.stretch refl refl refl;
      events = adds_then me before mid.events.items after.events.items a.story s h.events k;
      own = own ∙ h.own;
    }

-- what was asked, and then what is granted
pub got_told : (me : Label) (before mid : List held.Event) (after : Progress) (w : Stretch) (ask : Ask) (label : Label) (here : Here) (m : ℕ)
    (g : Granted) (asked : Option Asked) (go : Here → Now → Tale) →
    Adds me before mid (queues_if (nat_le g.at (suc m)) ask label here.part m) → asked ≡ asked_if (nat_le g.at (suc m)) ask m here.part →
    Tells me mid w after (tell_granted label here g.at g.what asked go) → Tells me before w after (tell_got ask label here m g go)
got_told me before mid after w ask label here m g asked go h is k =
    told_before me before mid after w (queues_if (nat_le g.at (suc m)) ask label here.part m) _ h
    (subst (λ (o : Option Asked). Tells me mid w after (tell_granted label here g.at g.what o go)) is k)

-- a token is granted, and comes back where the block of the step ends
pub with_token : (me : Label) (before begun : List held.Event) (mid after : Progress) (w : Stretch) (m : ℕ) (label : Label)
    (asked : Option Asked) (a : Tale) (t : ℕ) → Adds me before begun (story_of_one m (gets Acquire label asked)) → Tells me begun w mid a →
    t ≡ w.end → Adds me mid.events.items after.events.items (story_of_one t (gives_token_back label)) → own_of after ≡ own_of mid →
    Tells me before w after (after_this m (gets Acquire label asked) (with_token_told label a))
unfolding with_token_told
with_token me before begun mid after w m label asked a t h body is back own =
    told_before me before begun after w (story_of_one m (gets Acquire label asked)) _ h
    (told_after me begun mid after w (story_of_one a.end (gives_token_back label)) a body
    (subst (λ (u : ℕ). Adds me mid.events.items after.events.items (story_of_one u (gives_token_back label))) (is ∙ body.stretch.end) back) own)

-- ---- the step

module _ (k : Tables) (ask : Ask) (o : Option Label) (scene : Scene) (st : Levels) (now : Now) (go : Here → Now → Tale) where
  -- nothing encloses the task that can be asked
  pub nobody_asked : o ≡ None → ended_at now no_more ≡ tell_ask k ask o scene st now go
  unfolding tell_ask
  nobody_asked e = rw e refl

  module _ (label : Label) (found : o ≡ Some label) where
    asked_by : (b : Bool) → seen (stack_for now.own now.at st) now.at ≡ b →
        (if b then tell_unasked ask label scene st (gives_up_at scene.here.clock 0 now.at) else tell_asks k ask label scene st now.at go)
        ≡ tell_ask k ask o scene st now go
    unfolding tell_ask
    asked_by b e =
        rw found
        (ap (λ (x : Bool). if x then tell_unasked ask label scene st (gives_up_at scene.here.clock 0 now.at)
        else tell_asks k ask label scene st now.at go) (sym e))

    -- a cancellation is seen
    pub unasked_told : seen (stack_for now.own now.at st) now.at ≡ true →
        tell_unasked ask label scene st (gives_up_at scene.here.clock 0 now.at) ≡ tell_ask k ask o scene st now go
    unasked_told e = asked_by true e

    -- nothing is granted, or something is
    pub asked_told : (given : Option Granted) → seen (stack_for now.own now.at st) now.at ≡ false →
        (let left = leaves_queue (sight st) (last_grant scene.here.clock now.at) in
        (given ≡ in_time now.at left (k.granted label scene.here.task now.at)) →
        tell_asked ask label scene st now.at left given go ≡ tell_ask k ask o scene st now go)
    asked_told given e is =
        ap (λ (x : Option Granted). tell_asked ask label scene st now.at (leaves_queue (sight st) (last_grant scene.here.clock now.at)) x go) is
        ∙ asked_by false e

-- ---- when it is granted

-- what is granted in time is granted later, and by the moment in which the task leaves the queue
pub granted_in_time : (m left : ℕ) (o : Option Granted) (g : Granted) → Some g ≡ in_time m left o → (m < g.at) × (g.at ≤ left)
granted_in_time m left None g e = absurd (cc)
granted_in_time m left (Some x) g e = by_time (nat_lt m x.at && nat_le x.at left) refl e
  where
    by_time : (b : Bool) → (nat_lt m x.at && nat_le x.at left) ≡ b → Some g ≡ granted_if b x None → (m < g.at) × (g.at ≤ left)
    by_time true t is =
        let same : g ≡ x = cc in
        subst (λ (y : Granted). (m < y.at) × (y.at ≤ left)) (sym same) (both (grind (arith, nat_tests)) (grind (arith, nat_tests)))
      where
        both : m < x.at → x.at ≤ left → (m < x.at) × (x.at ≤ left)
        both h l = (h, l)
    by_time false t is = absurd (cc)

-- no wait in a queue lasts beyond the room of one step
pub queue_by : (clock : Clock) (from : Tick) (m : ℕ) → leaves_queue from (last_grant clock m) ≤ reach clock m + span clock
queue_by clock from m = by_sight from
  where
    last_by : (c : Clock) → last_grant c m ≤ reach c m + span c
    last_by by_ticks = omega arith
    last_by by_rounds = omega arith

    by_sight : (f : Tick) → leaves_queue f (last_grant clock m) ≤ reach clock m + span clock
    by_sight None = last_by clock
    by_sight (Some f) = omega (arith, last_by clock)

-- so there is room for the block of the step
pub room_left : (clock : Clock) (from : Tick) (m at size : ℕ) → at ≤ leaves_queue from (last_grant clock m) →
    reach clock m + (1 + size) * span clock ≤ 4611686018427387904 → reach clock at + size * span clock ≤ 4611686018427387904
room_left clock from m at size le room = fits (span clock) (base clock) (queue_by clock from m) le room
  where
    fits : (n low : ℕ) → leaves_queue from (last_grant clock m) ≤ max m low + n → at ≤ leaves_queue from (last_grant clock m) →
        max m low + (1 + size) * n ≤ 4611686018427387904 → max at low + size * n ≤ 4611686018427387904
    fits n low by lower most =
        let one : 1 + size ≡ suc size = omega arith in
        let all : (1 + size) * n ≡ size * n + n = ap (λ (z : ℕ). z * n) one ∙ suc-mul size n in
        omega (arith, by, lower, most, all)
