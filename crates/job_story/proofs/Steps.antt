-- The walk of a block's steps, one after another.
use Rattle.std.proofs.Common.{◌≡◌, ℕ, zero, suc, ◌+◌, ◌*◌, ◌≤◌, ◌<◌, max, true, false, Option, Some, None, List, [], ◌∷◌, length, drop, get_or, refl, ap, sym, subst, ◌∙◌, arith}
use Rattle.std.specs.Option.{is_some}
use Rattle.job_tree.specs.Tree as tree
use Rattle.job_tree.specs.Tree.{Step, Steps, stop, step, Handled}
use Rattle.job_tree.specs.Blocks.{step_of, steps_of}
use Rattle.job_tree.specs.InRange.{AreInRange, IsInRangeStep, IsInRangeHandler}
use Rattle.job_tree.specs.Names.{size_of, size_in, handled_size}
use Rattle.job_tree.specs.declared.step.Step as held_step
use Rattle.exceptions.specs.Exceptions.{Label}
use Rattle.job_meaning.specs.Log.{Result, Member}
use Rattle.job_meaning.specs.Tables.{Tables, by_tables}
use Rattle.job_meaning.specs.Moments.{a_round_after, Now}
use Rattle.job_meaning.specs.declared.clock.Clock.{Clock}
use Rattle.job_meaning.specs.declared.clock.Clock.TheVariants.{ByTicks as by_ticks, ByRounds as by_rounds}
use Rattle.job_meaning.specs.Walk.{Stack, walk, walk_step, walk_handler, latest}
use Rattle.job_story.specs.Story.{Story, Tale, no_more, result_of}
use Rattle.job_story.specs.Tell.{Scene, ended_at, and_tale, tell, tell_step, tell_handler, tell_each, tell_child}
use Rattle.job_story.specs.declared.event.Event as held
use Rattle.job_story.proofs.Erasing.{tell_is, step_is, handler_is}
use Rattle.job_story.specs.declared.here.Here.{Here}
use Rattle.job_story.specs.declared.progress.Progress.{Progress}
use Rattle.job_story.specs.declared.stretch.Stretch.{Stretch}
use Rattle.job_story.specs.Heres.{CanWalk, scene_of, stack_of, started_by, started_over, tables_of}
use Rattle.job_story.specs.Rooms.{reach, span}
use Rattle.job_story.specs.Tales.{IsStretchOf, Tells, now_in}
use Rattle.job_meaning.proofs.Ends.{EndsBy, AllBy, ends_step, ends_by, ends_handler}
use Rattle.job_story.proofs.Going.{Going, going_start, going_failed, going_next, going_stop}

-- a moment after a round is at most the span away
pub round_by : (clock : Clock) (m : ℕ) → a_round_after clock m ≤ m + span clock
round_by by_ticks m = omega arith
round_by by_rounds m = omega arith

-- what the code recorded of a walk has ended when the walk and its members have
stretch_by : (w : Stretch) (a : Tale) (r : Result) (b : ℕ) → IsStretchOf w a → result_of a ≡ r → EndsBy b r → max w.end w.open_until ≤ b
stretch_by w a r b stretch is ends =
    let by : EndsBy b (result_of a) = subst (EndsBy b) (sym is) ends in
    let last : latest a.end a.members ≤ b = latest_by b a.end a.members by.end by.members in
    let end : w.end ≡ a.end = stretch.end in
    let all : latest a.end a.members ≡ max a.end w.open_until = stretch.open_until a.end in
    omega (arith, last, end, all)
  where
    latest_by : (c t : ℕ) (ms : List Member) → t ≤ c → AllBy c ms → latest t ms ≤ c
    latest_by c t [] le h = le
    latest_by c t (m ∷ ms) le h =
        let first : m.end ≤ c = h.0 in
        latest_by c (max t m.end) ms (omega arith) h.1

-- a walk of steps, and its members, end before any moment is too large
pub ends_small : (w : Stretch) (k : Tables) (ss : Steps) (scene : Scene) (st : Stack) (now : Now) → AreInRange ss →
    length scene.here.input ≤ 16777216 → IsStretchOf w (tell k ss scene st now) →
    max w.end w.open_until ≤ reach scene.here.clock now.at + size_of ss * span scene.here.clock
ends_small w k ss scene st now in_range small stretch =
    stretch_by w (tell k ss scene st now) (walk (by_tables k) ss scene.here st now) _ stretch (tell_is k ss scene st now)
    (ends_by (by_tables k) ss scene.here st now in_range small)

pub ends_one : (w : Stretch) (k : Tables) (s : Step) (scene : Scene) (st : Stack) (now : Now) → IsInRangeStep s →
    length scene.here.input ≤ 16777216 → IsStretchOf w (tell_step k s scene st now) →
    max w.end w.open_until ≤ reach scene.here.clock now.at + size_in s * span scene.here.clock
ends_one w k s scene st now in_range small stretch =
    stretch_by w (tell_step k s scene st now) (walk_step (by_tables k) s scene.here st now) _ stretch (step_is k s scene st now)
    (ends_step (by_tables k) s scene.here st now in_range small)

pub ends_handled : (w : Stretch) (k : Tables) (x : Handled) (ss : Steps) (scene : Scene) (st : Stack) (now : Now) → AreInRange ss →
    IsInRangeHandler x →
    length scene.here.input ≤ 16777216 → IsStretchOf w (tell_handler k x scene st (tell k ss scene st now)) →
    max w.end w.open_until
    ≤ reach scene.here.clock now.at + size_of ss * span scene.here.clock + handled_size x * span scene.here.clock
ends_handled w k x ss scene st now in_range in_range_handler small stretch =
    let walked = walk (by_tables k) ss scene.here st now in
    stretch_by w (tell_handler k x scene st (tell k ss scene st now)) (walk_handler (by_tables k) x scene.here st walked) _ stretch
    (handler_is k x scene st (tell k ss scene st now) walked (tell_is k ss scene st now))
    (ends_handler (by_tables k) x scene.here st walked (reach scene.here.clock now.at + size_of ss * span scene.here.clock) in_range_handler
    small (omega arith) (ends_by (by_tables k) ss scene.here st now in_range small))

-- at a step, what was walked ended without an exception and continues with the steps that are left
pub record AtStep (h : Here) (now : Now) (all left : Steps) (start : List held.Event) (w : Stretch) (at : Progress) : Type 0 where
  pub going : Going h.task.now start w at (tell (tables_of h) all (scene_of h) (stack_of h) now)
      (λ u. tell (tables_of h) left (scene_of h) (stack_of h) u)
  pub in_range : AreInRange left
  pub room : CanWalk (size_of left) h w.end

pub at_start : (h : Here) (m : ℕ) (all : Steps) (start : Progress) (w : Stretch) →
    ((own : List Label) (s : Story) → IsStretchOf w (ended_at (record { at = m; own = own }) s)) → AreInRange all →
    CanWalk (size_of all) h m → AtStep h (now_in m start) all all start.events.items w start
at_start h m all start w stretch in_range room =
    record {
      going = going_start h.task.now start w m (λ u. tell (tables_of h) all (scene_of h) (stack_of h) u) stretch;
      in_range = in_range;
      room = subst (λ (u : ℕ). CanWalk (size_of all) h u) (sym (stretch [] no_more).end) room;
    }

-- the first of the steps that are left
pub steps_at : (ss : List held_step.Step) (i : ℕ) (s : held_step.Step) → i < length ss → s ≡ get_or ss i s →
    steps_of (drop i ss) ≡ step (step_of s) (steps_of (drop (i + 1) ss))
steps_at [] i s lt is = absurd (omega arith)
steps_at (x ∷ xs) zero s lt is = ap (λ (y : held_step.Step). step (step_of y) (steps_of xs)) (sym is)
steps_at (x ∷ xs) (suc i) s lt is =
    let e : suc i + 1 ≡ suc (i + 1) = omega arith in
    rw e (steps_at xs i s (omega arith) is)

pub at_item : (h : Here) (now : Now) (all : Steps) (ss : List held_step.Step) (i : ℕ) (s : held_step.Step) (start : List held.Event)
    (w : Stretch)
    (mid : Progress) → AtStep h now all (steps_of (drop i ss)) start w mid → i < length ss → s ≡ get_or ss i s →
    AtStep h now all (step (step_of s) (steps_of (drop (i + 1) ss))) start w mid
at_item h now all ss i s start w mid at lt is = subst (λ (x : Steps). AtStep h now all x start w mid) (steps_at ss i s lt is) at

pub room_step : (h : Here) (now : Now) (all rest : Steps) (s : Step) (start : List held.Event) (w : Stretch) (mid : Progress) →
    AtStep h now all (step s rest) start w mid → CanWalk (size_in s) h w.end
room_step h now all rest s start w mid at = record { room = omega (arith, at.room.room); small = at.room.small; lent = at.room.lent }

-- a step that ended with an exception ends the block, and what was recorded is the tale of the whole block
pub at_failed : (h : Here) (now : Now) (all rest : Steps) (s : Step) (start : List held.Event) (mid over : Progress) (w v x : Stretch) →
    AtStep h now all (step s rest) start w mid → (u : ℕ) → u ≡ w.end →
    Tells h.task.now mid.events.items v over (tell_step (tables_of h) s (scene_of h) (stack_of h) (now_in u mid)) →
    ((p q : Tale) → IsStretchOf w p → IsStretchOf v q → IsStretchOf x (and_tale p q)) → is_some x.exc ≡ true →
    Tells h.task.now start x over (tell (tables_of h) all (scene_of h) (stack_of h) now)
unfolding tell
at_failed h now all rest s start mid over w v x at u ends tells join failed =
    going_failed h.task.now start mid over w v x _ _ (λ y. tell_step (tables_of h) s (scene_of h) (stack_of h) y)
    (λ y. tell (tables_of h) rest (scene_of h) (stack_of h) y) at.going (λ y. refl) u ends tells join failed

-- a step that ended well: the walk is at the next step, with the tales so far (`w`) and of this step (`v`) joined
pub at_next : (h : Here) (now : Now) (all rest : Steps) (s : Step) (start : List held.Event) (mid over : Progress) (w v x : Stretch) →
    AtStep h now all (step s rest) start w mid → (u : ℕ) → u ≡ w.end →
    Tells h.task.now mid.events.items v over (tell_step (tables_of h) s (scene_of h) (stack_of h) (now_in u mid)) →
    ((p q : Tale) → IsStretchOf w p → IsStretchOf v q → IsStretchOf x (and_tale p q)) → is_some x.exc ≡ false → AtStep h now all rest start x over
unfolding tell
at_next h now all rest s start mid over w v x at u ends tells join well =
    let fits : max v.end v.open_until ≤ reach h.clock u + size_in s * span h.clock =
    ends_one v (tables_of h) s (scene_of h) (stack_of h) (now_in u mid) at.in_range.0 at.room.small tells.stretch in
    let from : u ≡ w.end = ends in
    let last : x.end ≡ v.end = (join at.going.before _ at.going.tells.stretch tells.stretch).end ∙ sym tells.stretch.end in
    record {
      going =
          going_next h.task.now start mid over w v x _ _ (λ y. tell_step (tables_of h) s (scene_of h) (stack_of h) y)
          (λ y. tell (tables_of h) rest (scene_of h) (stack_of h) y) at.going (λ y. refl) u ends tells join well;
      in_range = at.in_range.1;
      room = record { room = omega (arith, at.room.room, fits, from, last); small = at.room.small; lent = at.room.lent };
    }

-- all steps were walked
pub at_stop : (h : Here) (now : Now) (all : Steps) (start : List held.Event) (w : Stretch) (mid : Progress) →
    AtStep h now all stop start w mid →
    Tells h.task.now start w mid (tell (tables_of h) all (scene_of h) (stack_of h) now)
unfolding tell
at_stop h now all start w mid at = going_stop h.task.now start mid w _ _ at.going (λ y. refl)

-- a `start` is walked with what it starts
pub start_is : (h : Here) (name : List ℕ) (over : Option ℕ) (body : Steps) (now : Now) →
    started_by name over body h now ≡ tell_step (tables_of h) (tree.start name over body) (scene_of h) (stack_of h) now
unfolding tell
start_is h name None body now = refl
start_is h name (Some k) body now = refl

-- the task that started others has cancelled no more
pub each_own : (k : ℕ) (name : List ℕ) (n : ℕ) (body : Steps) (h : Here) (begins : ℕ) (now : Now) →
    (tell_each k (started_over name n body h begins now) now).own ≡ now.own
unfolding tell_child
each_own zero name n body h begins now = refl
each_own (suc k) name n body h begins now = refl
