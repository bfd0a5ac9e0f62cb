-- What holds of each story that a walk tells, by induction over the job's tree.
use Rattle.std.proofs.Common.{◌≡◌, true≢false, ℕ, zero, suc, ◌+◌, ◌-◌, ◌*◌, ◌/◌, min, max, ◌<◌, ◌≤◌, Bool, true, false, ◌&&◌, Option, Some, None, List, [], ◌∷◌, refl, ap, sym, subst, arith}
use Rattle.std.proofs.lemmas.Bool.Decides.{nat_tests}
use Rattle.std.specs.Str.{bytes_eq}
use Rattle.std.specs.Prelude.{nat_le, nat_lt, if◌then◌else◌, codes}
use Rattle.job_tree.specs.Tree.{Step, sleep, checkpoint, forever, pace, find, head, longest, need, raise, cancel, set_event, wait_for, ask_for, close_channel, scope, nursery, event, object, start, repeat, attempt, Steps, stop, step, Handled, unhandled, except, Cleaned, uncleaned, finally}
use Rattle.job_tree.specs.declared.object.Ask.{Ask}
use Rattle.job_tree.specs.declared.object.ObjectKind.{ObjectKind}
use Rattle.input_lines.specs.Lines.{Range, Span}
use Rattle.input_lines.specs.Cuts.{cut_of}
use Rattle.exceptions.specs.Exceptions.{Label, Exc, cancelled, raised}
use Rattle.exceptions.specs.Split.{Wanted, named, keep, drop}
use Rattle.cancel_scopes.specs.Sight.{Tick, Level, sight, seen, is_reached, catches}
use Rattle.job_meaning.specs.Log.{Table}
use Rattle.job_meaning.specs.Sharing.{What, a_token, was_sent, a_part, closed_resource, end_of_channel, Granted, granted_if}
use Rattle.job_meaning.specs.Tables.{Tables}
use Rattle.job_meaning.specs.Moments.{tick_of, a_round_after, wakes_at, gives_up_at, start_of, Now, only_at, far}
use Rattle.job_meaning.specs.declared.clock.Clock.{Clock}
use Rattle.job_meaning.specs.declared.clock.Clock.TheVariants.{ByTicks as by_ticks, ByRounds as by_rounds}
use Rattle.job_meaning.specs.Walk.{Levels, Stack, Here, Kind, home_of, set_moment, label_on, level_if, event_on, with_own, from_for, stack_for, left_with, exc_after, last_grant, leaves_queue, in_time, latest, label_here, label_over, stack_inside, stack_in_event, here_in, cuts_over, in_pass}
use Rattle.job_meaning.proofs.Late.{latest_ends, unseen_for}
use Rattle.job_meaning.proofs.MomentLemmas.{round_after, wakes_after, gives_up_after, last_grant_later}
use Rattle.job_story.specs.Story.{at_checkpoint, sleeping, waiting_for, in_queue, before_asking, Asked, Happening, enters, enters_event, sleeps, is_cancelled, finds, misses, raises, cancels, sets, awaits, was_set, enters_object, queues, gets, finds_closed, deadlocks, gives_token_back, closes_channel, handles, cleans, replaces, waits, leaves, Story, no_more, happened, started, then_story, Tale}
use Rattle.job_story.specs.Tell.{Scene, ended_at, now_of, story_of_one, tale_if, then_tale, failed_at, seer, tell_slept, tell_sleep, tell_pace, tell_waiting, with_set_if, tell_event_wait, tell_lines, tell_need, tell_raise, tell_cancel, tell_set, tell_block, tell_event, tell_object, tell_close, with_token_told, blamed_at, tell_granted, queues_if, asked_if, tell_leaving, tell_got, tell_asked, tell_asks, tell_unasked, tell_ask, tell_wait, tell_gathered, tell_child, tell_each, tell_passes, handled_if, handled_exc, tell_handled, replacement, tell_cleaned, at_place, tell, tell_step, tell_handler, tell_cleanup}
use Rattle.job_story.specs.Blame.{levels_inside}
use Rattle.job_story.specs.Waking.{until_tick, IsSetBy}

-- ---- stories, one after another

pub then_assoc : (a b c : Story) → then_story (then_story a b) c ≡ then_story a (then_story b c)
then_assoc no_more b c = refl
then_assoc (happened t what rest) b c = ap (λ (x : Story). happened t what x) (then_assoc rest b c)
then_assoc (started l home part s u e own rest) b c = ap (λ (x : Story). started l home part s u e own x) (then_assoc rest b c)

pub then_no_more : (a : Story) → then_story a no_more ≡ a
then_no_more no_more = refl
then_no_more (happened t what rest) = ap (λ (x : Story). happened t what x) (then_no_more rest)
then_no_more (started l home part s u e own rest) = ap (λ (x : Story). started l home part s u e own x) (then_no_more rest)

-- ---- what is kept

-- what takes no time, and neither enters nor leaves a scope or nursery
abbrev pub IsPlain : Happening → Type 0
IsPlain (enters_event label) = Unit {0}
IsPlain (finds lines) = Unit {0}
IsPlain (misses name) = Unit {0}
IsPlain (raises name) = Unit {0}
IsPlain (handles matched left) = Unit {0}
IsPlain (cleans exc) = Unit {0}
IsPlain (replaces lost fresh) = Unit {0}
IsPlain (enters_object kind label) = Unit {0}
IsPlain (gives_token_back label) = Unit {0}
IsPlain (closes_channel label) = Unit {0}
IsPlain _ = ⊥

-- how a block is left
abbrev pub left_in : Clock → Table → Levels → Now → Kind → Label → Bool → Option Exc → Happening
left_in clock k st last kind label shield inside =
    let left = left_with (catches (from_for last.own last.at label (k label)) shield (stack_for last.own last.at st) last.at) inside in
    leaves kind label inside left.caught (exc_after kind label (tick_of clock last.at) left)

-- what passes until a checkpoint ends: no time by ticks, and at least a round by rounds
abbrev pub Passes : Clock → ℕ → ℕ → Type 0
Passes by_ticks m t = t ≡ m
Passes by_rounds m t = m + 1 ≤ t

-- A claim on the stories inside these scopes and nurseries, from one place in time to another: it holds of each part
-- that a walk tells, and where it holds of two stories it holds of one after the other.
pub record IsKept (clock : Clock) (k : Table) (P : Levels → Now → Now → Story → Type 0) : Type 0 where
  pub nothing : (st : Levels) (now : Now) → P st now now no_more
  pub joined : (st : Levels) (now later last : Now) (a b : Story) → P st now later a → P st later last b → P st now last (then_story a b)
  pub passed : (st : Levels) (now : Now) (t : ℕ) → Passes clock now.at t → P st now (only_at t) no_more
  pub plain : (st : Levels) (now : Now) (what : Happening) → IsPlain what → P st now now (story_of_one now.at what)
  pub waited : (st : Levels) (now : Now) (u : ℕ) (label : Label) (exc : Option Exc) → a_round_after clock now.at ≤ u → home_of st ≡ Some label →
      P st now (only_at u) (story_of_one now.at (waits label exc))
  pub signed : (st : Levels) (now : Now) (name : List ℕ) →
      P st now (let own = with_own clock (label_on name st) now.own in record { at = now.at; own = own }) (story_of_one now.at (cancels (label_on name st)))
  pub marked : (st : Levels) (now : Now) (label : Option Label) →
      P st now (let own = with_own clock label now.own in record { at = now.at; own = own }) (story_of_one now.at (sets label))
  pub slept : (st : Levels) (now : Now) (u : ℕ) (until : Tick) → until_tick clock until ≡ u → a_round_after clock now.at ≤ u →
      P st now (only_at u) (story_of_one now.at (sleeps until))
  pub seen : (st : Levels) (now : Now) (from : ℕ) (c : Bool) → sight st ≡ Some from → from ≤ now.at →
      P st now now (story_of_one now.at (is_cancelled (seer st from) at_checkpoint c))
  pub cut : (st : Levels) (now : Now) (from : ℕ) (until : Tick) (c : Bool) → sight st ≡ Some from → now.at < from → from ≤ until_tick clock until →
      P st now (only_at from) (happened now.at (sleeps until) (story_of_one from (is_cancelled (seer st from) (sleeping now.at) c)))
  pub checked : (st : Levels) (now : Now) (label : Label) → IsSetBy clock (k label) now.at → P st now now (story_of_one now.at (was_set label))
  pub expected : (st : Levels) (now : Now) (u : ℕ) (label : Label) → set_moment clock (k label) now.at ≡ u → a_round_after clock now.at + 1 ≤ u →
      P st now (only_at u) (happened now.at (awaits label) (story_of_one u (was_set label)))
  pub given_up : (st : Levels) (now : Now) (from : ℕ) (label : Label) (c : Bool) → sight st ≡ Some from → now.at < from →
      from < set_moment clock (k label) now.at →
      P st now (only_at from) (happened now.at (awaits label) (story_of_one from (is_cancelled (seer st from) (waiting_for label now.at) c)))
  pub unasked : (st : Levels) (now : Now) (ask : Ask) (label : Label) (c : Bool) →
      P st now now (story_of_one now.at (is_cancelled (blamed_at st now.at (sight st)) (before_asking ask label) c))
  pub granted : (st : Levels) (now : Now) (got : Ask) (label : Label) (asked : Asked) → asked.since ≡ now.at →
      P st now (only_at (suc now.at)) (story_of_one (suc now.at) (gets got label (Some asked)))
  pub closed : (st : Levels) (now : Now) (got : Ask) (label : Label) (asked : Asked) → asked.since ≡ now.at →
      P st now (only_at (suc now.at)) (story_of_one (suc now.at) (finds_closed got label (Some asked)))
  pub granted_later : (st : Levels) (now : Now) (g : ℕ) (ask got : Ask) (label : Label) (lent : Range) → now.at < g →
      P st now (only_at g) (happened now.at (queues ask label lent None) (story_of_one g (gets got label None)))
  pub closed_later : (st : Levels) (now : Now) (g : ℕ) (ask got : Ask) (label : Label) (lent : Range) → now.at < g →
      P st now (only_at g) (happened now.at (queues ask label lent None) (story_of_one g (finds_closed got label None)))
  pub left_queue : (st : Levels) (now : Now) (from : ℕ) (ask : Ask) (label : Label) (lent : Range) (c : Bool) → sight st ≡ Some from →
      now.at < from →
      P st now (only_at from)
      (happened now.at (queues ask label lent (Some from)) (story_of_one from (is_cancelled (seer st from) (in_queue ask label now.at) c)))
  pub deadlocked : (st : Levels) (now : Now) (u : ℕ) (ask : Ask) (label : Label) (lent : Range) → now.at < u →
      P st now (only_at u) (happened now.at (queues ask label lent (Some u)) (story_of_one u (deadlocks ask label)))
  pub blocked : (st : Levels) (now last : Now) (kind : Kind) (label : Label) (d : Tick) (shield : Bool) (inside : Option Exc) (a : Story) →
      P (levels_inside label shield (k label) st) now last a →
      P st now last
      (happened now.at (enters kind label d shield) (then_story a (story_of_one last.at (left_in clock k st last kind label shield inside))))
  pub child : (st : Levels) (now last : Now) (label : Label) (part : Range) (exc : Option Exc) (a : Story) →
      P st (only_at (a_round_after clock now.at)) last a →
      P st now now (started label (home_of st) part (a_round_after clock now.at) last.at exc a no_more)

-- ---- when waits end

round_passes : (clock : Clock) (m : ℕ) → Passes clock m (a_round_after clock m)
round_passes by_ticks m = refl
round_passes by_rounds m = omega arith

checkpoint_passes : (clock : Clock) (m : ℕ) → Passes clock m (wakes_at clock 0 m)
checkpoint_passes by_ticks m = omega arith
checkpoint_passes by_rounds m = omega arith

checkpoint_wakes : (clock : Clock) (m : ℕ) → wakes_at clock 0 m ≤ a_round_after clock m
checkpoint_wakes by_ticks m = omega arith
checkpoint_wakes by_rounds m = omega arith

giving_up_passes : (clock : Clock) (m : ℕ) → Passes clock m (gives_up_at clock 0 m)
giving_up_passes by_ticks m = refl
giving_up_passes by_rounds m = omega arith

sleep_gives_up : (clock : Clock) (n m : ℕ) → gives_up_at clock (suc n) m ≡ a_round_after clock m
sleep_gives_up by_ticks n m = refl
sleep_gives_up by_rounds n m = refl

-- the moment after m is the first after it that is not after a round
next_is_first : (clock : Clock) (m from : ℕ) → m < from → from ≤ a_round_after clock m → a_round_after clock m ≡ from
next_is_first by_ticks m from lt le = omega arith
next_is_first by_rounds m from lt le = omega arith

round_after_both : (clock : Clock) (m t : ℕ) → m ≤ t → a_round_after clock m ≤ a_round_after clock t
round_after_both by_ticks m t le = le
round_after_both by_rounds m t le = omega arith

-- `forever` ends with the start of tick `far`
until_forever : (clock : Clock) (n m : ℕ) → far - tick_of clock m ≡ suc n → until_tick clock None ≡ wakes_at clock (suc n) m
until_forever by_ticks n m e = omega arith
until_forever by_rounds n m e = in_rounds e
  where
    in_rounds : 1099511627776 - m / 2097152 ≡ suc n →
        2305843009213693952 ≡ max (m + 1) (min 1099511627776 (m / 2097152 + suc n) * 2097152)
    in_rounds h = omega arith

-- a sleep of so many ticks is due after them
some_ticks : (clock : Clock) (n : ℕ) (now : Now) (m : ℕ) → n ≡ suc m → wakes_at clock n now.at ≡ wakes_at clock (suc m) now.at
some_ticks clock n now m e = ap (λ (x : ℕ). wakes_at clock x now.at) e

child_end : (label : Label) (home : Option Label) (scene : Scene) (begins : ℕ) (a : Tale) (now : Now) →
    now_of (tell_child label home scene begins a now) ≡ now
unfolding tell_child
child_end label home scene begins a now = refl

each_end : (n : ℕ) (go : ℕ → Tale) (now : Now) → ((i : ℕ) → now_of (go i) ≡ now) → now_of (tell_each n go now) ≡ now
each_end zero go now e = refl
each_end (suc n) go now e = e n

-- ---- the events that enclose a task

-- each level is cancelled, or set, as the table says
abbrev pub IsOf : Table → Levels → Type 0
IsOf k [] = Unit {0}
IsOf k (l ∷ ls) = (l.from ≡ k l.label) × IsOf k ls

abbrev pub IsOfOne : Table → Option (Level Label) → Type 0
IsOfOne k None = Unit {0}
IsOfOne k (Some l) = l.from ≡ k l.label

event_is_of : (k : Table) (name : List ℕ) (ls : Levels) → IsOf k ls → IsOfOne k (event_on name ls)
event_is_of k name [] of = tt
event_is_of k name (l ∷ ls) of = by_test (bytes_eq name l.label.name) (event_is_of k name ls of.1)
  where
    by_test : (b : Bool) → IsOfOne k (event_on name ls) → IsOfOne k (level_if b l (event_on name ls))
    by_test true others = of.0
    by_test false others = others

-- when a wait for an event ends
sight_passes : (clock : Clock) (m from : ℕ) → from ≤ m → Passes clock m (max (a_round_after clock m) from)
sight_passes by_ticks m from le = omega arith
sight_passes by_rounds m from le = omega arith

first_is : (clock : Clock) (m from : ℕ) → m < from → max (a_round_after clock m) from ≡ from
first_is by_ticks m from lt = omega arith
first_is by_rounds m from lt = omega arith

-- no wait lasts longer than `forever`
wakes_far : (clock : Clock) (n m : ℕ) → far - tick_of clock m ≡ n → start_of clock far ≤ wakes_at clock n m
wakes_far by_ticks n m e = omega arith
wakes_far by_rounds zero m e = omega arith
wakes_far by_rounds (suc n) m e = omega arith

set_by_then : (clock : Clock) (f : Tick) (m t : ℕ) → set_moment clock f m ≤ t → IsSetBy clock f t
set_by_then clock None m t le =
    let most : start_of clock far ≤ wakes_at clock (far - tick_of clock m) m = wakes_far clock (far - tick_of clock m) m refl in omega arith
set_by_then clock (Some from) m t le =
    let most : start_of clock far ≤ wakes_at clock (far - tick_of clock m) m = wakes_far clock (far - tick_of clock m) m refl in omega arith

most_right : (m n : ℕ) → n ≤ max m n
most_right m n = omega arith

is_before : (m n : ℕ) → nat_lt m n ≡ true → m < n
is_before m n is = grind (arith, nat_tests)

-- a task in the queue of a limiter or channel leaves it in a later moment: when it is cancelled, or at the end of `forever`
left_by_sight : (from : Tick) (m last : ℕ) → m < last → is_reached from m ≡ false → m < leaves_queue from last
left_by_sight None m last lt unseen = lt
left_by_sight (Some f) m last lt unseen = later_still (grind (arith, nat_tests))
  where
    later_still : m < f → m < min f last
    later_still h = omega arith

left_when_seen : (from : Tick) (last : ℕ) → is_reached from (leaves_queue from last) ≡ true → from ≡ Some (leaves_queue from last)
left_when_seen None last reached = absurd (true≢false (sym reached))
left_when_seen (Some f) last reached = ap (λ (x : ℕ). Some x) (least (grind (arith, nat_tests)))
  where
    least : f ≤ min f last → f ≡ min f last
    least h = omega arith

module _ (clock : Clock) (k : Table) (P : Levels → Now → Now → Story → Type 0) (kept : IsKept clock k P) where
  abbrev Keeps : Levels → Now → Tale → Type 0
  Keeps st now a = P st now (now_of a) a.story

  kept_then : (st : Levels) (now : Now) (a : Tale) (go : Now → Tale) → Keeps st now a → ((later : Now) → Keeps st later (go later)) →
      Keeps st now (then_tale a go)
  unfolding then_tale
  kept_then st now a go h f = by_exc a.exc
    where
      by_exc : (o : Option Exc) → Keeps st now (tale_if o a go)
      by_exc None = kept.joined st now (now_of a) (now_of (go (now_of a))) a.story (go (now_of a)).story h (f (now_of a))
      by_exc (Some e) = h

  -- ---- steps that take time, and others

  -- a cancellation at a checkpoint, from a moment that has passed
  kept_seen : (st : Levels) (now : Now) (t from : ℕ) (c : Bool) → Passes clock now.at t → sight st ≡ Some from → from ≤ t →
      P st now (only_at t) (story_of_one t (is_cancelled (seer st from) at_checkpoint c))
  kept_seen st now t from c passes e le =
      kept.joined st now (only_at t) (only_at t) no_more (story_of_one t (is_cancelled (seer st from) at_checkpoint c)) (kept.passed st now t passes)
      (kept.seen st (only_at t) from c e le)

  reached : (from u : ℕ) → nat_le from u ≡ true → from ≤ u
  reached from u is = grind (arith, nat_tests)

  missed : (from u : ℕ) → nat_le from u ≡ false → u < from
  missed from u is = grind (arith, nat_tests)

  -- a sleep of no tick, which is a checkpoint
  kept_checked : (from : Tick) (st : Levels) (now : Now) (gives_up : ℕ) (c : Bool) (until : Tick) → Passes clock now.at gives_up →
      a_round_after clock now.at ≤ gives_up → sight st ≡ from →
      Keeps st now (tell_slept from 0 now.at (a_round_after clock now.at) gives_up (wakes_at clock 0 now.at) st c until)
  kept_checked None st now gives_up c until passes late e = kept.passed st now (wakes_at clock 0 now.at) (checkpoint_passes clock now.at)
  kept_checked (Some from) st now gives_up c until passes late e =
      by_now (nat_le from now.at) (nat_le from (a_round_after clock now.at)) (nat_le from (wakes_at clock 0 now.at)) refl refl refl
    where
      by_now : (b d w : Bool) → nat_le from now.at ≡ b → nat_le from (a_round_after clock now.at) ≡ d → nat_le from (wakes_at clock 0 now.at) ≡ w →
          Keeps st now (if b then failed_at cancelled (only_at gives_up) (story_of_one gives_up (is_cancelled (seer st from) at_checkpoint c))
          else (if d then failed_at cancelled (only_at gives_up) (story_of_one gives_up (is_cancelled (seer st from) at_checkpoint c))
          else (if w then failed_at cancelled (only_at from) (story_of_one from (is_cancelled (seer st from) at_checkpoint c))
          else ended_at (only_at (wakes_at clock 0 now.at)) no_more)))
      by_now true d w at least due =
          let le : from ≤ now.at = reached from now.at at in
          let first : now.at ≤ a_round_after clock now.at = round_after clock now.at in
          kept_seen st now gives_up from c passes e (omega arith)
      by_now false true w at least due =
          let le : from ≤ a_round_after clock now.at = reached from (a_round_after clock now.at) least in
          kept_seen st now gives_up from c passes e (omega arith)
      by_now false false true at least due =
          let lt : a_round_after clock now.at < from = missed from (a_round_after clock now.at) least in
          let le : from ≤ wakes_at clock 0 now.at = reached from (wakes_at clock 0 now.at) due in
          let last : wakes_at clock 0 now.at ≤ a_round_after clock now.at = checkpoint_wakes clock now.at in
          absurd (omega arith)
      by_now false false false at least due = kept.passed st now (wakes_at clock 0 now.at) (checkpoint_passes clock now.at)

  -- a sleep of some ticks
  kept_dozed : (from : Tick) (st : Levels) (now : Now) (n : ℕ) (c : Bool) (until : Tick) → until_tick clock until ≡ wakes_at clock (suc n) now.at →
      sight st ≡ from →
      Keeps st now (tell_slept from (suc n) now.at (a_round_after clock now.at) (a_round_after clock now.at) (wakes_at clock (suc n) now.at) st c until)
  kept_dozed None st now n c until until_is e = kept.slept st now (wakes_at clock (suc n) now.at) until until_is (wakes_after clock (suc n) now.at)
  kept_dozed (Some from) st now n c until until_is e =
      by_now (nat_le from now.at) (nat_le from (a_round_after clock now.at)) (nat_le from (wakes_at clock (suc n) now.at)) refl refl refl
    where
      cut_at : (t : ℕ) → t ≡ from → now.at < from → from ≤ wakes_at clock (suc n) now.at →
          P st now (only_at t) (happened now.at (sleeps until) (story_of_one t (is_cancelled (seer st from) (sleeping now.at) c)))
      cut_at t same lt le =
          subst (λ (u : ℕ). P st now (only_at u) (happened now.at (sleeps until) (story_of_one u (is_cancelled (seer st from) (sleeping now.at) c))))
          (sym same) (kept.cut st now from until c e lt (subst (λ (u : ℕ). from ≤ u) (sym until_is) le))

      by_now : (b d w : Bool) → nat_le from now.at ≡ b → nat_le from (a_round_after clock now.at) ≡ d →
          nat_le from (wakes_at clock (suc n) now.at) ≡ w →
          Keeps st now (if b then failed_at cancelled (only_at (a_round_after clock now.at))
          (story_of_one (a_round_after clock now.at) (is_cancelled (seer st from) at_checkpoint c))
          else (if d then failed_at cancelled (only_at (a_round_after clock now.at))
          (happened now.at (sleeps until) (story_of_one (a_round_after clock now.at) (is_cancelled (seer st from) (sleeping now.at) c)))
          else (if w then failed_at cancelled (only_at from)
          (happened now.at (sleeps until) (story_of_one from (is_cancelled (seer st from) (sleeping now.at) c)))
          else ended_at (only_at (wakes_at clock (suc n) now.at)) (story_of_one now.at (sleeps until)))))
      by_now true d w at least due =
          let le : from ≤ now.at = reached from now.at at in
          let first : now.at ≤ a_round_after clock now.at = round_after clock now.at in
          kept_seen st now (a_round_after clock now.at) from c (round_passes clock now.at) e (omega arith)
      by_now false true w at least due =
          let lt : now.at < from = missed from now.at at in
          let le : from ≤ a_round_after clock now.at = reached from (a_round_after clock now.at) least in
          let last : a_round_after clock now.at ≤ wakes_at clock (suc n) now.at = wakes_after clock (suc n) now.at in
          cut_at (a_round_after clock now.at) (next_is_first clock now.at from lt le) lt (omega arith)
      by_now false false true at least due = cut_at from refl (missed from now.at at) (reached from (wakes_at clock (suc n) now.at) due)
      by_now false false false at least due =
          kept.slept st now (wakes_at clock (suc n) now.at) until until_is (wakes_after clock (suc n) now.at)

  kept_sleep : (st : Levels) (c : Bool) (until : Tick) (n : ℕ) (now : Now) →
      ((m : ℕ) → n ≡ suc m → until_tick clock until ≡ wakes_at clock (suc m) now.at) → Keeps st now (tell_sleep clock st c until n now.at)
  unfolding tell_sleep
  kept_sleep st c until zero now h =
      kept_checked (sight st) st now (gives_up_at clock 0 now.at) c until (giving_up_passes clock now.at) (gives_up_after clock 0 now.at) refl
  kept_sleep st c until (suc m) now h =
      subst (λ (g : ℕ). Keeps st now (tell_slept (sight st) (suc m) now.at (a_round_after clock now.at) g (wakes_at clock (suc m) now.at) st c until))
      (sym (sleep_gives_up clock m now.at)) (kept_dozed (sight st) st now m c until (h m refl) refl)

  kept_pace : (st : Levels) (c : Bool) (until : Tick) (n : ℕ) (now : Now) →
      ((m : ℕ) → n ≡ suc m → until_tick clock until ≡ wakes_at clock (suc m) now.at) → Keeps st now (tell_pace clock st c until n now.at)
  unfolding tell_pace
  kept_pace st c until zero now h =
      kept_checked (sight st) st now (a_round_after clock now.at) c until (round_passes clock now.at) (omega arith) refl
  kept_pace st c until (suc m) now h = kept_dozed (sight st) st now m c until (h m refl) refl

  kept_lines : (st : Levels) (lines : List Span) (now : Now) → Keeps st now (tell_lines lines now)
  unfolding tell_lines
  kept_lines st lines now = kept.plain st now (finds lines) tt

  kept_need : (st : Levels) (found : Option Span) (name : List ℕ) (here : Here) (now : Now) → Keeps st now (tell_need found name here now)
  unfolding tell_need
  kept_need st None name here now = kept.plain st now (misses name) tt
  kept_need st (Some l) name here now = kept.plain st now (finds _) tt

  kept_raise : (st : Levels) (name : List ℕ) (here : Here) (now : Now) → Keeps st now (tell_raise name here now)
  unfolding tell_raise
  kept_raise st name here now = kept.plain st now (raises name) tt

  -- ---- waits for events

  kept_waiting : (from : Tick) (st : Levels) (now : Now) (u : ℕ) (c : Bool) (label : Label) → set_moment clock (k label) now.at ≡ u →
      a_round_after clock now.at + 1 ≤ u → sight st ≡ from →
      Keeps st now (tell_waiting from now.at (a_round_after clock now.at) u st c label)
  kept_waiting None st now u c label is late e = kept.expected st now u label is late
  kept_waiting (Some from) st now u c label is late e = by_now (nat_le from now.at) (nat_lt from u) refl refl
    where
      t : ℕ
      t = max (a_round_after clock now.at) from

      cut_at : t ≡ from → now.at < from → from < u →
          P st now (only_at t) (happened now.at (awaits label) (story_of_one t (is_cancelled (seer st from) (waiting_for label now.at) c)))
      cut_at same lt before =
          subst (λ (v : ℕ). P st now (only_at v) (happened now.at (awaits label) (story_of_one v (is_cancelled (seer st from) (waiting_for label now.at) c))))
          (sym same) (kept.given_up st now from label c e lt (subst (λ (v : ℕ). from < v) (sym is) before))

      by_now : (b w : Bool) → nat_le from now.at ≡ b → nat_lt from u ≡ w →
          Keeps st now (if b then failed_at cancelled (only_at t) (story_of_one t (is_cancelled (seer st from) at_checkpoint c))
          else (if w then failed_at cancelled (only_at t)
          (happened now.at (awaits label) (story_of_one t (is_cancelled (seer st from) (waiting_for label now.at) c)))
          else ended_at (only_at u) (happened now.at (awaits label) (story_of_one u (was_set label)))))
      by_now true w at before =
          let le : from ≤ now.at = reached from now.at at in
          kept_seen st now t from c (sight_passes clock now.at from le) e (most_right (a_round_after clock now.at) from)
      by_now false true at before =
          let lt : now.at < from = missed from now.at at in
          cut_at (first_is clock now.at from lt) lt (is_before from u before)
      by_now false false at before = kept.expected st now u label is late

  -- a checkpoint does not end before the next round
  checked_end : (from : Tick) (m gives_up : ℕ) (st : Levels) (c : Bool) (until : Tick) → a_round_after clock m ≤ gives_up →
      a_round_after clock m ≤ (tell_slept from 0 m (a_round_after clock m) gives_up (wakes_at clock 0 m) st c until).end
  checked_end None m gives_up st c until late = wakes_after clock 0 m
  checked_end (Some from) m gives_up st c until late =
      by_now (nat_le from m) (nat_le from (a_round_after clock m)) (nat_le from (wakes_at clock 0 m)) refl
    where
      by_now : (b d w : Bool) → nat_le from (a_round_after clock m) ≡ d →
          a_round_after clock m ≤ (if b then failed_at cancelled (only_at gives_up) (story_of_one gives_up (is_cancelled (seer st from) at_checkpoint c))
          else (if d then failed_at cancelled (only_at gives_up) (story_of_one gives_up (is_cancelled (seer st from) at_checkpoint c))
          else (if w then failed_at cancelled (only_at from) (story_of_one from (is_cancelled (seer st from) at_checkpoint c))
          else ended_at (only_at (wakes_at clock 0 m)) no_more))).end
      by_now true d w least = late
      by_now false true w least = late
      by_now false false true least =
          let lt : a_round_after clock m < from = missed from (a_round_after clock m) least in omega arith
      by_now false false false least = wakes_after clock 0 m

  checkpoint_end : (st : Levels) (c : Bool) (until : Tick) (m : ℕ) → a_round_after clock m ≤ (tell_sleep clock st c until 0 m).end
  unfolding tell_sleep
  checkpoint_end st c until m = checked_end (sight st) m (gives_up_at clock 0 m) st c until (gives_up_after clock 0 m)

  kept_with_set : (o : Option Exc) (label : Label) (st : Levels) (now : Now) (a : Tale) → IsSetBy clock (k label) a.end → Keeps st now a →
      Keeps st now (with_set_if o label a)
  kept_with_set None label st now a set h =
      kept.joined st now (now_of a) (now_of a) a.story (story_of_one a.end (was_set label)) h (kept.checked st (now_of a) label set)
  kept_with_set (Some e) label st now a set h = h

  kept_event_wait : (st : Levels) (c : Bool) (level : Option (Level Label)) (now : Now) → IsOfOne k level →
      Keeps st now (tell_event_wait clock st c level now)
  unfolding tell_event_wait
  kept_event_wait st c None now of = kept.nothing st now
  kept_event_wait st c (Some l) now of = by_round (nat_le (set_moment clock l.from now.at) (a_round_after clock now.at)) refl
    where
      u : ℕ
      u = set_moment clock l.from now.at

      most : {m n p : ℕ} → m ≤ n → n ≤ p → m ≤ p
      most h k = omega arith

      by_round : (b : Bool) → nat_le u (a_round_after clock now.at) ≡ b →
          Keeps st now (if b then (let a = tell_sleep clock st c (Some now.at) 0 now.at in with_set_if a.exc l.label a)
          else tell_waiting (sight st) now.at (a_round_after clock now.at) u st c l.label)
      by_round true soon =
          let a = tell_sleep clock st c (Some now.at) 0 now.at in
          let by_end : u ≤ a.end = most (reached u (a_round_after clock now.at) soon) (checkpoint_end st c (Some now.at) now.at) in
          kept_with_set a.exc l.label st now a
          (subst (λ (f : Tick). IsSetBy clock f a.end) of (set_by_then clock l.from now.at a.end by_end))
          (kept_sleep st c (Some now.at) 0 now (λ m e. absurd (cc)))
      by_round false late =
          let lt : a_round_after clock now.at < u = missed u (a_round_after clock now.at) late in
          kept_waiting (sight st) st now u c l.label (ap (λ (f : Tick). set_moment clock f now.at) (sym of)) (omega arith) refl

  kept_set : (st : Levels) (label : Option Label) (now : Now) → Keeps st now (tell_set clock label now)
  unfolding tell_set
  kept_set st label now = kept.marked st now label

  kept_cancel : (st : Levels) (name : List ℕ) (now : Now) → Keeps st now (tell_cancel clock (label_on name st) now)
  unfolding tell_cancel
  kept_cancel st name now = kept.signed st now name

  -- ---- limiters and channels

  -- a story after one more event
  kept_after : (st : Levels) (now last : Now) (what : Happening) (a : Story) → IsPlain what → P st now last a → P st now last (happened now.at what a)
  kept_after st now last what a plain h = kept.joined st now now last (story_of_one now.at what) a (kept.plain st now what plain) h

  kept_object : (kind : ObjectKind) (label : Label) (now : Now) (st : Levels) (inside : Tick → Tale) →
      ((f : Tick) → f ≡ k label → Keeps st now (inside f)) → Keeps st now (tell_object k kind label now.at inside)
  unfolding tell_object
  kept_object kind label now st inside h =
      let a = inside (k label) in kept_after st now (now_of a) (enters_object kind label) a.story tt (h (k label) refl)

  kept_close : (st : Levels) (label : Option Label) (now : Now) → Keeps st now (tell_close label now)
  unfolding tell_close
  kept_close st label now = kept.plain st now (closes_channel label) tt

  kept_token : (st : Levels) (now : Now) (label : Label) (a : Tale) → Keeps st now a → Keeps st now (with_token_told label a)
  unfolding with_token_told
  kept_token st now label a h =
      kept.joined st now (now_of a) (now_of a) a.story (story_of_one a.end (gives_token_back label)) h
      (kept.plain st (now_of a) (gives_token_back label) tt)

  kept_unasked : (st : Levels) (now : Now) (ask : Ask) (label : Label) (scene : Scene) →
      Keeps st now (tell_unasked ask label scene st (gives_up_at clock 0 now.at))
  kept_unasked st now ask label scene =
      let t = gives_up_at clock 0 now.at in
      kept.joined st now (only_at t) (only_at t) no_more _ (kept.passed st now t (giving_up_passes clock now.at))
      (kept.unasked st (only_at t) ask label scene.in_cleanup)

  -- what was asked is granted in the next round, or later
  module _ (st : Levels) (now : Now) (ask : Ask) (label : Label) (lent : Range) (g : ℕ) (after : now.at < g) where
    next_round : nat_le g (suc now.at) ≡ true → suc now.at ≡ g
    next_round soon = is_next (grind (arith, nat_tests))
      where
        is_next : g ≤ suc now.at → suc now.at ≡ g
        is_next le = omega (arith, le, after)

    -- what is granted, and then any rest
    kept_gets : (b : Bool) → nat_le g (suc now.at) ≡ b → (got : Ask) (last : Now) (rest : Story) → P st (only_at g) last rest →
        P st now last (then_story (queues_if b ask label lent now.at) (happened g (gets got label (asked_if b ask now.at lent)) rest))
    kept_gets true soon got last rest h =
        kept.joined st now (only_at g) last (story_of_one g (gets got label (asked_if true ask now.at lent))) rest
        (subst (λ (u : ℕ). P st now (only_at u) (story_of_one u (gets got label (asked_if true ask now.at lent)))) (next_round soon)
        (kept.granted st now got label (record { ask = ask; since = now.at; part = lent }) refl)) h
    kept_gets false late got last rest h =
        kept.joined st now (only_at g) last (happened now.at (queues ask label lent None) (story_of_one g (gets got label None))) rest
        (kept.granted_later st now g ask got label lent after) h

    kept_closed : (b : Bool) → nat_le g (suc now.at) ≡ b → (got : Ask) →
        P st now (only_at g) (then_story (queues_if b ask label lent now.at) (story_of_one g (finds_closed got label (asked_if b ask now.at lent))))
    kept_closed true soon got =
        subst (λ (u : ℕ). P st now (only_at u) (story_of_one u (finds_closed got label (asked_if true ask now.at lent)))) (next_round soon)
        (kept.closed st now got label (record { ask = ask; since = now.at; part = lent }) refl)
    kept_closed false late got = kept.closed_later st now g ask got label lent after

  kept_got : (st : Levels) (now : Now) (ask : Ask) (label : Label) (here : Here) (g : Granted) (go : Here → Now → Tale) → now.at < g.at →
      ((lent : Range) (later : Now) → Keeps st later (go (record here { part = lent }) later)) →
      Keeps st now (tell_got ask label here now.at g go)
  kept_got st now ask label here g go after h = by_what g.what
    where
      b : Bool
      b = nat_le g.at (suc now.at)

      by_what : (what : What) →
          (let a = tell_granted label here g.at what (asked_if b ask now.at here.part) go in
          P st now (now_of a) (then_story (queues_if b ask label here.part now.at) a.story))
      by_what a_token =
          let a = with_token_told label (go here (only_at g.at)) in
          kept_gets st now ask label here.part g.at after b refl _ (now_of a) a.story
          (kept_token st (only_at g.at) label (go here (only_at g.at)) (h here.part (only_at g.at)))
      by_what was_sent =
          let a = go here (only_at g.at) in
          kept_gets st now ask label here.part g.at after b refl _ (now_of a) a.story (h here.part (only_at g.at))
      by_what (a_part lent) =
          let a = go (record here { part = lent }) (only_at g.at) in
          kept_gets st now ask label here.part g.at after b refl _ (now_of a) a.story (h lent (only_at g.at))
      by_what closed_resource = kept_closed st now ask label here.part g.at after b refl _
      by_what end_of_channel = kept_closed st now ask label here.part g.at after b refl _

  -- a task in the queue is cancelled, or has waited as long as `forever` lasts
  kept_leaving : (st : Levels) (now : Now) (ask : Ask) (label : Label) (scene : Scene) → seen st now.at ≡ false →
      Keeps st now (tell_leaving ask label scene st now.at (leaves_queue (sight st) (last_grant clock now.at)))
  kept_leaving st now ask label scene unseen = by_sight (is_reached (sight st) left) refl
    where
      left : ℕ
      left = leaves_queue (sight st) (last_grant clock now.at)

      after : now.at < left
      after = left_by_sight (sight st) now.at (last_grant clock now.at) (last_grant_later clock now.at) unseen

      by_sight : (b : Bool) → is_reached (sight st) left ≡ b →
          (let a = (if b then failed_at cancelled (only_at left)
          (story_of_one left (is_cancelled (seer st left) (in_queue ask label now.at) scene.in_cleanup))
          else failed_at (raised (codes "Deadlock") scene.here.task (tick_of scene.here.clock left)) (only_at left)
          (story_of_one left (deadlocks ask label))) in
          P st now (now_of a) (happened now.at (queues ask label scene.here.part (Some left)) a.story))
      by_sight true reached =
          kept.left_queue st now left ask label scene.here.part scene.in_cleanup (left_when_seen (sight st) (last_grant clock now.at) reached) after
      by_sight false unreached = kept.deadlocked st now left ask label scene.here.part after

  kept_asked : (st : Levels) (now : Now) (ask : Ask) (label : Label) (scene : Scene) (o : Option Granted) (go : Here → Now → Tale) →
      seen st now.at ≡ false → ((lent : Range) (later : Now) → Keeps st later (go (record scene.here { part = lent }) later)) →
      (let left = leaves_queue (sight st) (last_grant clock now.at) in
      Keeps st now (tell_asked ask label scene st now.at left (in_time now.at left o) go))
  kept_asked st now ask label scene None go unseen h = kept_leaving st now ask label scene unseen
  kept_asked st now ask label scene (Some g) go unseen h = by_time (nat_lt now.at g.at && nat_le g.at left) refl
    where
      left : ℕ
      left = leaves_queue (sight st) (last_grant clock now.at)

      by_time : (b : Bool) → (nat_lt now.at g.at && nat_le g.at left) ≡ b →
          Keeps st now (tell_asked ask label scene st now.at left (granted_if b g None) go)
      by_time true e = kept_got st now ask label scene.here g go (grind (arith, nat_tests)) h
      by_time false e = kept_leaving st now ask label scene unseen

  kept_ask : (tables : Tables) (ask : Ask) (label : Option Label) (scene : Scene) (st : Levels) (now : Now) (go : Here → Now → Tale) →
      clock ≡ scene.here.clock → ((lent : Range) (later : Now) → Keeps st later (go (record scene.here { part = lent }) later)) →
      Keeps st now (tell_ask tables ask label scene st now go)
  unfolding tell_ask
  kept_ask tables ask None scene st now go is h = kept.nothing st now
  kept_ask tables ask (Some label) scene st now go is h = by_sight (seen (stack_for now.own now.at st) now.at) refl
    where
      unasked : Keeps st now (tell_unasked ask label scene st (gives_up_at scene.here.clock 0 now.at))
      unasked =
          subst (λ (c : Clock). Keeps st now (tell_unasked ask label scene st (gives_up_at c 0 now.at))) is (kept_unasked st now ask label scene)

      asks : seen st now.at ≡ false → Keeps st now (tell_asks tables ask label scene st now.at go)
      asks unseen =
          subst (λ (c : Clock). (let left = leaves_queue (sight st) (last_grant c now.at) in
          Keeps st now (tell_asked ask label scene st now.at left (in_time now.at left (tables.granted label scene.here.task now.at)) go))) is
          (kept_asked st now ask label scene (tables.granted label scene.here.task now.at) go unseen h)

      by_sight : (b : Bool) → seen (stack_for now.own now.at st) now.at ≡ b →
          Keeps st now (if b then tell_unasked ask label scene st (gives_up_at scene.here.clock 0 now.at)
          else tell_asks tables ask label scene st now.at go)
      by_sight true e = unasked
      by_sight false e = asks (unseen_for now.own now.at st e)

  -- ---- blocks

  kept_block : (kind : Kind) (label : Label) (now : Now) (d : Tick) (shield : Bool) (st : Levels) (inside : Tick → Tale) →
      ((f : Tick) → f ≡ k label → Keeps (levels_inside label shield f st) now (inside f)) →
      Keeps st now (tell_block clock k kind label now.at d shield st inside)
  unfolding tell_block
  kept_block kind label now d shield st inside h =
      let a = inside (k label) in
      kept.blocked st now (now_of a) kind label d shield a.exc a.story (h (k label) refl)

  kept_event : (label : Label) (now : Now) (st : Levels) (inside : Tick → Tale) → ((f : Tick) → f ≡ k label → Keeps st now (inside f)) →
      Keeps st now (tell_event k label now.at inside)
  unfolding tell_event
  kept_event label now st inside h =
      let a = inside (k label) in
      kept.joined st now now (now_of a) (story_of_one now.at (enters_event label)) a.story (kept.plain st now (enters_event label) tt) (h (k label) refl)

  kept_gathered : (st : Levels) (now : Now) (label : Label) (a : Tale) → home_of st ≡ Some label → Keeps st now a →
      Keeps st now (tell_gathered clock label (tell_wait label a))
  unfolding tell_wait tell_gathered
  kept_gathered st now label a home h =
      kept.joined st now (now_of a) (only_at (a_round_after clock (latest a.end a.members))) a.story (story_of_one a.end (waits label a.exc)) h
      (kept.waited st (now_of a) (a_round_after clock (latest a.end a.members)) label a.exc
      (round_after_both clock a.end (latest a.end a.members) (latest_ends a.end a.members)) home)

  kept_child : (label : Label) (st : Levels) (scene : Scene) (now : Now) (a : Tale) → Keeps st (only_at (a_round_after clock now.at)) a →
      Keeps st now (tell_child label (home_of st) scene (a_round_after clock now.at) a now)
  unfolding tell_child
  kept_child label st scene now a h = kept.child st now (now_of a) label scene.here.part a.exc a.story h

  kept_each : (n : ℕ) (go : ℕ → Tale) (now : Now) (st : Levels) → ((i : ℕ) → now_of (go i) ≡ now) → ((i : ℕ) → Keeps st now (go i)) →
      Keeps st now (tell_each n go now)
  kept_each zero go now st e h = kept.nothing st now
  kept_each (suc n) go now st e h =
      kept.joined st now (now_of (tell_each n go now)) (now_of (go n)) (tell_each n go now).story (go n).story (kept_each n go now st e h)
      (subst (λ (u : Now). P st u (now_of (go n)) (go n).story) (sym (each_end n go now e)) (h n))

  kept_passes : (first n : ℕ) (go : ℕ → Now → Tale) (now : Now) (st : Levels) → ((i : ℕ) (later : Now) → Keeps st later (go i later)) →
      Keeps st now (tell_passes first n go now)
  kept_passes first zero go now st h = kept.nothing st now
  kept_passes first (suc n) go now st h =
      kept_then st now (go first now) (λ later. tell_passes (suc first) n go later) (h first now)
      (λ later. kept_passes (suc first) n go later st h)

  -- ---- handlers and cleanups

  kept_handled : (st : Levels) (now : Now) (wanted : Wanted) (a : Tale) (go : Now → Tale) → Keeps st now a →
      ((later : Now) → Keeps st later (go later)) → Keeps st now (tell_handled wanted a go)
  unfolding tell_handled
  kept_handled st now wanted a go h f = by_outcome a.exc
    where
      by_match : (o rest : Option Exc) → Keeps st now (handled_if o rest a go)
      by_match None rest = h
      by_match (Some m) rest =
          let b = go (now_of a) in
          kept.joined st now (now_of a) (now_of b) a.story (happened a.end (handles m rest) b.story) h
          (kept_after st (now_of a) (now_of b) (handles m rest) b.story tt (f (now_of a)))

      by_outcome : (o : Option Exc) → Keeps st now (handled_exc o wanted a go)
      by_outcome None = h
      by_outcome (Some x) = by_match (keep wanted x) (drop wanted x)

  kept_replaced : (st : Levels) (lost fresh : Option Exc) (now : Now) → P st now now (replacement lost fresh now.at)
  kept_replaced st None fresh now = kept.nothing st now
  kept_replaced st (Some l) None now = kept.nothing st now
  kept_replaced st (Some l) (Some f) now = kept.plain st now (replaces l f) tt

  kept_cleaned : (st : Levels) (now : Now) (a : Tale) (go : Now → Tale) → Keeps st now a → ((later : Now) → Keeps st later (go later)) →
      Keeps st now (tell_cleaned a go)
  unfolding tell_cleaned
  kept_cleaned st now a go h f =
      let b = go (now_of a) in
      kept.joined st now (now_of a) (now_of b) a.story (happened a.end (cleans a.exc) (then_story b.story (replacement a.exc b.exc b.end))) h
      (kept_after st (now_of a) (now_of b) (cleans a.exc) (then_story b.story (replacement a.exc b.exc b.end)) tt
      (kept.joined st (now_of a) (now_of b) (now_of b) b.story (replacement a.exc b.exc b.end) (f (now_of a))
      (kept_replaced st a.exc b.exc (now_of b))))

-- ---- the walk

module _ (tables : Tables) (P : Clock → Levels → Now → Now → Story → Type 0)
    (kept : (clock : Clock) → IsKept clock tables.cancelled_from (P clock)) where
  abbrev k : Table
  k = tables.cancelled_from

  abbrev KeepsIn : Scene → Stack → Now → Tale → Type 0
  KeepsIn scene st now a = P scene.here.clock st.scopes now (now_of a) a.story

  mutual
    unfolding tell

    -- what is kept holds of the story of each block of steps
    pub kept_tell : (b : Steps) (scene : Scene) (st : Stack) (now : Now) → IsOf k st.events → KeepsIn scene st now (tell tables b scene st now)
    kept_tell stop scene st now of = (kept scene.here.clock).nothing st.scopes now
    kept_tell (step s ss) scene st now of =
        let c = scene.here.clock in
        kept_then c k (P c) (kept c) st.scopes now (tell_step tables s scene st now) (λ later. tell tables ss scene st later)
        (kept_step s scene st now of)
        (λ later. kept_tell ss scene st later of)

    kept_step : (s : Step) (scene : Scene) (st : Stack) (now : Now) → IsOf k st.events → KeepsIn scene st now (tell_step tables s scene st now)
    kept_step (sleep n) scene st now of =
        let c = scene.here.clock in kept_sleep c k (P c) (kept c) st.scopes scene.in_cleanup _ n now (λ m e. some_ticks c n now m e)
    kept_step checkpoint scene st now of =
        let c = scene.here.clock in kept_sleep c k (P c) (kept c) st.scopes scene.in_cleanup _ 0 now (λ m e. absurd (cc))
    kept_step forever scene st now of =
        let c = scene.here.clock in
        kept_sleep c k (P c) (kept c) st.scopes scene.in_cleanup None (far - tick_of c now.at) now (λ m e. until_forever c m now.at e)
    kept_step (pace n) scene st now of =
        let c = scene.here.clock in kept_pace c k (P c) (kept c) st.scopes scene.in_cleanup _ _ now (λ m e. some_ticks c _ now m e)
    kept_step (find text) scene st now of = let c = scene.here.clock in kept_lines c k (P c) (kept c) st.scopes _ now
    kept_step (head n) scene st now of = let c = scene.here.clock in kept_lines c k (P c) (kept c) st.scopes _ now
    kept_step longest scene st now of = let c = scene.here.clock in kept_lines c k (P c) (kept c) st.scopes _ now
    kept_step (need text name) scene st now of = let c = scene.here.clock in kept_need c k (P c) (kept c) st.scopes _ name scene.here now
    kept_step (raise name) scene st now of = let c = scene.here.clock in kept_raise c k (P c) (kept c) st.scopes name scene.here now
    kept_step (cancel name) scene st now of = let c = scene.here.clock in kept_cancel c k (P c) (kept c) st.scopes name now
    kept_step (set_event name) scene st now of = let c = scene.here.clock in kept_set c k (P c) (kept c) st.scopes _ now
    kept_step (wait_for name) scene st now of =
        let c = scene.here.clock in
        kept_event_wait c k (P c) (kept c) st.scopes scene.in_cleanup _ now (event_is_of k name st.events of)
    kept_step (ask_for name ask body) scene st now of =
        let c = scene.here.clock in
        kept_ask c k (P c) (kept c) tables ask _ scene st.scopes now _ refl
        (λ lent later. kept_tell body (at_place (record scene.here { part = lent }) scene) st later of)
    kept_step (close_channel name) scene st now of = let c = scene.here.clock in kept_close c k (P c) (kept c) st.scopes _ now
    kept_step (scope name d shield fail body) scene st now of =
        let c = scene.here.clock in
        kept_block c k (P c) (kept c) _ (label_here name scene.here) now _ shield st.scopes _
        (λ f e. kept_tell body scene (stack_inside (label_here name scene.here) shield f st) now of)
    kept_step (nursery name d shield body) scene st now of =
        let c = scene.here.clock in
        kept_block c k (P c) (kept c) _ (label_here name scene.here) now _ shield st.scopes _
        (λ f e. kept_gathered c k (P c) (kept c) (levels_inside (label_here name scene.here) shield f st.scopes) now (label_here name scene.here) _ refl
        (kept_tell body scene (stack_inside (label_here name scene.here) shield f st) now of))
    kept_step (event name body) scene st now of =
        let c = scene.here.clock in
        kept_event c k (P c) (kept c) (label_here name scene.here) now st.scopes _
        (λ f e. kept_tell body scene (stack_in_event (label_here name scene.here) f st) now (e, of))
    kept_step (object name kind body) scene st now of =
        let c = scene.here.clock in
        kept_object c k (P c) (kept c) kind (label_here name scene.here) now st.scopes _
        (λ f e. kept_tell body scene (stack_in_event (label_here name scene.here) f st) now (e, of))
    kept_step (start name None body) scene st now of =
        let c = scene.here.clock in
        let inner = at_place (here_in (label_here name scene.here) scene.here.part scene.here) scene in
        kept_child c k (P c) (kept c) (label_here name scene.here) st.scopes inner now _ (kept_tell body inner st (only_at (a_round_after c now.at)) of)
    kept_step (start name (Some copies) body) scene st now of =
        let c = scene.here.clock in
        kept_each c k (P c) (kept c) copies _ now st.scopes (λ i. child_end _ _ _ _ _ now) (λ i.
        let inner = at_place (here_in (label_over name scene.here i) (cut_of scene.here.input scene.here.part copies i) scene.here) scene in
        kept_child c k (P c) (kept c) (label_over name scene.here i) st.scopes inner now _ (kept_tell body inner st (only_at (a_round_after c now.at)) of))
    kept_step (repeat count over body) scene st now of =
        let c = scene.here.clock in
        kept_passes c k (P c) (kept c) 0 count _ now st.scopes (λ i later. kept_tell body (at_place (in_pass (cuts_over over count) i scene.here) scene) st later of)
    kept_step (attempt body handler cleanup) scene st now of =
        kept_cleanup cleanup scene st now _ of (kept_handler handler scene st now _ of (kept_tell body scene st now of))

    kept_handler : (x : Handled) (scene : Scene) (st : Stack) (now : Now) (a : Tale) → IsOf k st.events → KeepsIn scene st now a →
        KeepsIn scene st now (tell_handler tables x scene st a)
    kept_handler unhandled scene st now a of h = h
    kept_handler (except name body) scene st now a of h =
        let c = scene.here.clock in kept_handled c k (P c) (kept c) st.scopes now (named name) a _ h (λ later. kept_tell body scene st later of)

    kept_cleanup : (x : Cleaned) (scene : Scene) (st : Stack) (now : Now) (a : Tale) → IsOf k st.events → KeepsIn scene st now a →
        KeepsIn scene st now (tell_cleanup tables x scene st a)
    kept_cleanup uncleaned scene st now a of h = h
    kept_cleanup (finally body) scene st now a of h =
        let c = scene.here.clock in
        kept_cleaned c k (P c) (kept c) st.scopes now a _ h (λ later. kept_tell body (record scene { in_cleanup = true }) st later of)
