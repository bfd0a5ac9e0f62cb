-- The walk of the passes of a `repeat`, one after another.
use Rattle.std.proofs.Common.{◌≡◌, ℕ, suc, ◌+◌, ◌-◌, ◌*◌, ◌≤◌, ◌<◌, max, true, false, Option, List, [], refl, ap, sym, subst, ◌∙◌, arith, suc-mul}
use Rattle.std.specs.Option.{is_some}
use Rattle.job_tree.specs.Tree.{Steps}
use Rattle.job_tree.specs.InRange.{AreInRange}
use Rattle.job_tree.specs.Names.{size_of}
use Rattle.exceptions.specs.Exceptions.{Label}
use Rattle.job_meaning.specs.Moments.{Now}
use Rattle.job_meaning.specs.Walk.{in_pass}
use Rattle.job_story.specs.Story.{Story, Tale, no_more}
use Rattle.job_story.specs.Tell.{ended_at, and_tale, then_tale, tell_passes, at_place}
use Rattle.job_story.specs.declared.event.Event as held
use Rattle.job_story.specs.declared.here.Here.{Here}
use Rattle.job_story.specs.declared.progress.Progress.{Progress}
use Rattle.job_story.specs.declared.stretch.Stretch.{Stretch}
use Rattle.job_story.specs.Heres.{CanWalk, here_of, scene_of, stack_of, tables_of, pass}
use Rattle.job_story.specs.Rooms.{base, reach, span}
use Rattle.job_story.specs.Tales.{IsStretchOf, Tells, now_in}
use Rattle.job_story.proofs.Going.{Going, going_start, going_failed, going_next, going_stop}
use Rattle.job_story.proofs.Steps.{ends_small}

-- before a pass, what was walked ended without an exception and continues with the passes that are
-- left
pub record AtPass (cuts : Option ℕ) (h : Here) (now : Now) (count : ℕ) (body : Steps) (i : ℕ) (start : List held.Event) (w : Stretch)
    (mid : Progress) : Type 0 where
  pub going : Going h.task.now start w mid (tell_passes 0 count (pass cuts body h) now) (λ u. tell_passes i (count - i) (pass cuts body h) u)
  pub in_range : AreInRange body
  pub room : CanWalk ((count - i) * (1 + size_of body)) h w.end

pub at_first : (cuts : Option ℕ) (h : Here) (m count : ℕ) (body : Steps) (start : Progress) (w : Stretch) →
    ((own : List Label) (s : Story) → IsStretchOf w (ended_at (record { at = m; own = own }) s)) → AreInRange body →
    CanWalk (count * (1 + size_of body)) h m → AtPass cuts h (now_in m start) count body 0 start.events.items w start
at_first cuts h m count body start w stretch in_range room =
    let none : count ≡ count - 0 = omega arith in
    record {
      going =
          subst (λ (n : ℕ). Going h.task.now start.events.items w start (tell_passes 0 count (pass cuts body h) (now_in m start))
          (λ u. tell_passes 0 n (pass cuts body h) u)) none
          (going_start h.task.now start w m (λ u. tell_passes 0 count (pass cuts body h) u) stretch);
      in_range = in_range;
      room =
          subst (λ (n : ℕ). CanWalk (n * (1 + size_of body)) h w.end) none
          (subst (λ (u : ℕ). CanWalk (count * (1 + size_of body)) h u) (sym (stretch [] no_more).end) room);
    }

-- the first of the passes that are left
first_left : (i count : ℕ) (go : ℕ → Now → Tale) → i < count → (u : Now) →
    tell_passes i (count - i) go u ≡ then_tale (go i u) (λ v. tell_passes (i + 1) (count - (i + 1)) go v)
first_left i count go lt u =
    let left : suc (count - (i + 1)) ≡ count - i = omega (arith, lt) in
    let next : suc i ≡ i + 1 = omega arith in
    subst (λ (n : ℕ). tell_passes i n go u ≡ then_tale (go i u) (λ v. tell_passes (i + 1) (count - (i + 1)) go v)) left
    (subst (λ (j : ℕ). then_tale (go i u) (λ v. tell_passes (suc i) (count - (i + 1)) go v)
    ≡ then_tale (go i u) (λ v. tell_passes j (count - (i + 1)) go v)) next refl)

left_size : (i count size : ℕ) → i < count → (count - i) * size ≡ (count - (i + 1)) * size + size
left_size i count size lt =
    let left : count - i ≡ suc (count - (i + 1)) = omega (arith, lt) in
    ap (λ (n : ℕ). n * size) left ∙ suc-mul (count - (i + 1)) size

pub room_pass : (cuts : Option ℕ) (h : Here) (now : Now) (count : ℕ) (body : Steps) (i : ℕ) (start : List held.Event) (w : Stretch) (mid : Progress) →
    AtPass cuts h now count body i start w mid → i < count → CanWalk (size_of body) h w.end
room_pass cuts h now count body i start w mid at lt =
    record { room = fits (span h.clock) at.room.room; small = at.room.small; lent = at.room.lent }
  where
    fits : (n : ℕ) → reach h.clock w.end + (count - i) * (1 + size_of body) * n ≤ 4611686018427387904 →
        reach h.clock w.end + size_of body * n ≤ 4611686018427387904
    fits n le =
        let left : (count - i) * (1 + size_of body) * n ≡ (count - (i + 1)) * (1 + size_of body) * n + (1 + size_of body) * n =
        ap (λ (z : ℕ). z * n) (left_size i count (1 + size_of body) lt) ∙ omega arith in
        omega (arith, le, left)

-- a pass that ended with an exception ends the loop, and what was recorded is the tale of the whole loop
pub pass_failed : (cuts : Option ℕ) (h : Here) (now : Now) (count : ℕ) (body : Steps) (i : ℕ) (start : List held.Event) (mid over : Progress) (w v x : Stretch) →
    AtPass cuts h now count body i start w mid → i < count → (u : ℕ) → u ≡ w.end →
    Tells h.task.now mid.events.items v over (pass cuts body h i (now_in u mid)) →
    ((p q : Tale) → IsStretchOf w p → IsStretchOf v q → IsStretchOf x (and_tale p q)) → is_some x.exc ≡ true →
    Tells h.task.now start x over (tell_passes 0 count (pass cuts body h) now)
pass_failed cuts h now count body i start mid over w v x at lt u ends tells join failed =
    going_failed h.task.now start mid over w v x _ _ (λ y. pass cuts body h i y) (λ y. tell_passes (i + 1) (count - (i + 1))
    (pass cuts body h) y) at.going
    (first_left i count (pass cuts body h) lt) u ends tells join failed

-- a pass that ended well: the walk is at the next pass, with the tales so far (`w`) and of this pass (`v`) joined
pub pass_next : (cuts : Option ℕ) (h : Here) (now : Now) (count : ℕ) (body : Steps) (i : ℕ) (start : List held.Event) (mid over : Progress) (w v x : Stretch) →
    AtPass cuts h now count body i start w mid → i < count → (u : ℕ) → u ≡ w.end →
    Tells h.task.now mid.events.items v over (pass cuts body h i (now_in u mid)) →
    ((p q : Tale) → IsStretchOf w p → IsStretchOf v q → IsStretchOf x (and_tale p q)) → is_some x.exc ≡ false →
    AtPass cuts h now count body (i + 1) start x over
pass_next cuts h now count body i start mid over w v x at lt u ends tells join well =
    let ends_by : max v.end v.open_until ≤ reach h.clock u + size_of body * span h.clock =
    ends_small v (tables_of h) body (at_place (in_pass cuts i (here_of h)) (scene_of h)) (stack_of h) (now_in u mid) at.in_range at.room.small
    tells.stretch in
    let from : u ≡ w.end = ends in
    let last : x.end ≡ v.end = (join at.going.before _ at.going.tells.stretch tells.stretch).end ∙ sym tells.stretch.end in
    record {
      going =
          going_next h.task.now start mid over w v x _ _ (λ y. pass cuts body h i y) (λ y. tell_passes (i + 1) (count - (i + 1))
          (pass cuts body h) y) at.going
          (first_left i count (pass cuts body h) lt) u ends tells join well;
      in_range = at.in_range;
      room = record { room = fits (span h.clock) (base h.clock) ends_by from last at.room.room; small = at.room.small; lent = at.room.lent };
    }
  where
    fits : (n low : ℕ) → max v.end v.open_until ≤ max u low + size_of body * n → u ≡ w.end → x.end ≡ v.end →
        max w.end low + (count - i) * (1 + size_of body) * n ≤ 4611686018427387904 →
        max x.end low + (count - (i + 1)) * (1 + size_of body) * n ≤ 4611686018427387904
    fits n low ends_by from last le =
        let left : (count - i) * (1 + size_of body) * n ≡ (count - (i + 1)) * (1 + size_of body) * n + (1 + size_of body) * n =
        ap (λ (z : ℕ). z * n) (left_size i count (1 + size_of body) lt) ∙ omega arith in
        omega (arith, le, left, ends_by, from, last)

-- all passes were walked
pub pass_stop : (cuts : Option ℕ) (h : Here) (now : Now) (count : ℕ) (body : Steps) (i : ℕ) (start : List held.Event) (w : Stretch) (mid : Progress) →
    AtPass cuts h now count body i start w mid → count ≤ i → Tells h.task.now start w mid (tell_passes 0 count (pass cuts body h) now)
pass_stop cuts h now count body i start w mid at le =
    let none : 0 ≡ count - i = omega (arith, le) in
    going_stop h.task.now start mid w _ _ at.going
    (λ u. subst (λ (n : ℕ). tell_passes i n (pass cuts body h) u ≡ ended_at u no_more) none refl)
