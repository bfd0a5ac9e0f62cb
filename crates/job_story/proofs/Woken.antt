-- The time of a task of a story passes only while it sleeps or waits, and by rounds at a checkpoint too.
use Rattle.std.proofs.Common.{◌≡◌, ℕ, suc, ◌≤◌, ap, refl, sym, ◌∙◌, subst, [], arith}
use Rattle.exceptions.specs.Exceptions.{Label}
use Rattle.job_meaning.specs.Log.{Table}
use Rattle.job_meaning.specs.Moments.{clock_of, a_round_after, Now, only_at}
use Rattle.job_meaning.specs.declared.clock.Clock.{Clock}
use Rattle.job_meaning.specs.declared.clock.Clock.TheVariants.{ByTicks as by_ticks, ByRounds as by_rounds}
use Rattle.job_meaning.specs.Walk.{Levels, no_stack}
use Rattle.job_meaning.proofs.MomentLemmas.{round_after}
use Rattle.job_story.specs.Story.{Happening, enters_event, enters_object, gives_token_back, closes_channel, finds, misses, raises, handles, cleans, replaces, Story, no_more, happened, then_story}
use Rattle.job_story.specs.Tell.{story_of_one, root_scene, tale_by}
use Rattle.job_story.specs.Waking.{until_tick, Doing, awake, asleep, waiting, expecting, queueing, GoesOnIn, IsNext, IsSetBy, IsSet, starter_at, AllInTime}
use Rattle.job_story.specs.LawsOfCauses.{TimePassesAsleep}
use Rattle.job_story.proofs.Telling.{then_assoc, then_no_more, IsPlain, left_in, Passes, IsKept, kept_tell}

-- ---- when a task goes on

goes_on : (clock : Clock) (t : ℕ) → GoesOnIn clock t t
goes_on by_ticks t = refl
goes_on by_rounds t = omega arith

goes_on_at : (clock : Clock) (m t : ℕ) → m ≡ t → GoesOnIn clock m t
goes_on_at clock m t e = subst (λ (u : ℕ). GoesOnIn clock m u) e (goes_on clock m)

-- and after a checkpoint
goes_on_past : (clock : Clock) (m t u : ℕ) → GoesOnIn clock m t → Passes clock t u → GoesOnIn clock m u
goes_on_past by_ticks m t u e passes = passes ∙ e
goes_on_past by_rounds m t u le passes = omega arith

waited_past : (clock : Clock) (m t u : ℕ) → m ≤ t → Passes clock t u → m ≤ u
waited_past by_ticks m t u le passes = omega arith
waited_past by_rounds m t u le passes = omega arith

next_past : (clock : Clock) (doing : Doing) (t u : ℕ) → IsNext clock doing t → Passes clock t u → IsNext clock doing u
next_past clock (awake at) t u next passes = goes_on_past clock at t u next passes
next_past clock (asleep since due) t u next passes = goes_on_past clock due t u next passes
next_past clock (waiting since) t u next passes = waited_past clock since t u next passes
next_past clock (expecting event since set) t u next passes = absurd next
next_past clock (queueing label since) t u next passes = absurd next

-- a task to which something happens next is not one that waits for an event, or in a queue
next_is_set : (clock : Clock) (table : Table) (doing : Doing) (t : ℕ) (label : Label) → IsNext clock doing t → IsSetBy clock (table label) t →
    IsSet clock table doing t label
next_is_set clock table (awake at) t label next set = (next, set)
next_is_set clock table (asleep since due) t label next set = (next, set)
next_is_set clock table (waiting since) t label next set = (next, set)
next_is_set clock table (expecting event since due) t label next set = absurd next
next_is_set clock table (queueing other since) t label next set = absurd next

-- a task is started in the moment of its starter
starter_is : (clock : Clock) (t : ℕ) → starter_at clock (a_round_after clock t) ≡ t
starter_is by_ticks t = refl
starter_is by_rounds t = omega arith

root_starts : (clock : Clock) → starter_at clock 0 ≡ 0
root_starts by_ticks = refl
root_starts by_rounds = refl

-- ---- the stories of a walk

-- a story is in time from a moment on, whatever the task did before, if the moment is next for it
abbrev GoesOn : Table → Clock → ℕ → ℕ → Story → Type 0
GoesOn table clock t end a = (doing : Doing) → IsNext clock doing t → AllInTime clock table doing end a

-- where any rest goes on from the second moment, the story and the rest go on from the first
abbrev Leads : Table → Clock → Levels → Now → Now → Story → Type 0
Leads table clock st now last a = (end : ℕ) (rest : Story) → GoesOn table clock last.at end rest → GoesOn table clock now.at end (then_story a rest)

leads_plain : (table : Table) (clock : Clock) (st : Levels) (now : Now) (what : Happening) → IsPlain what → Leads table clock st now now (story_of_one now.at what)
leads_plain table clock st now (enters_event label) plain end rest h doing at = (at, h (awake now.at) (goes_on clock now.at))
leads_plain table clock st now (finds lines) plain end rest h doing at = (at, h (awake now.at) (goes_on clock now.at))
leads_plain table clock st now (misses name) plain end rest h doing at = (at, h (awake now.at) (goes_on clock now.at))
leads_plain table clock st now (raises name) plain end rest h doing at = (at, h (awake now.at) (goes_on clock now.at))
leads_plain table clock st now (handles matched left) plain end rest h doing at = (at, h (awake now.at) (goes_on clock now.at))
leads_plain table clock st now (cleans exc) plain end rest h doing at = (at, h (awake now.at) (goes_on clock now.at))
leads_plain table clock st now (replaces lost fresh) plain end rest h doing at = (at, h (awake now.at) (goes_on clock now.at))
leads_plain table clock st now (enters_object kind label) plain end rest h doing at = (at, h (awake now.at) (goes_on clock now.at))
leads_plain table clock st now (gives_token_back label) plain end rest h doing at = (at, h (awake now.at) (goes_on clock now.at))
leads_plain table clock st now (closes_channel label) plain end rest h doing at = (at, h (awake now.at) (goes_on clock now.at))
leads_plain table clock st now _ plain end rest h doing at = absurd plain

-- the own story of a task, from its start to its end
own_story : (table : Table) (clock : Clock) (st : Levels) (t : ℕ) (last : Now) (a : Story) → Leads table clock st (only_at t) last a → AllInTime clock table (awake t) last.at a
own_story table clock st t last a f =
    subst (AllInTime clock table (awake t) last.at) (then_no_more a) (f last.at no_more (λ doing at. at) (awake t) (goes_on clock t))

waits_until : (clock : Clock) (t u : ℕ) → a_round_after clock t ≤ u → t ≤ u
waits_until clock t u le = let first : t ≤ a_round_after clock t = round_after clock t in omega arith

leads : (table : Table) (clock : Clock) → IsKept clock table (Leads table clock)
leads table clock =
    record {
      nothing = λ st now end rest h. h;
      joined = λ st now later last a b f g end rest h.
          subst (GoesOn table clock now.at end) (sym (then_assoc a b rest)) (f end (then_story b rest) (g end rest h));
      passed = λ st now t passes end rest h doing at. h doing (next_past clock doing now.at t at passes);
      plain = leads_plain table clock;
      waited = λ st now u label exc le home end rest h doing at. (at, h (waiting now.at) (waits_until clock now.at u le));
      signed = λ st now name end rest h doing at. (at, h (awake now.at) (goes_on clock now.at));
      marked = λ st now label end rest h doing at. (at, h (awake now.at) (goes_on clock now.at));
      slept = λ st now u until e le end rest h doing at.
          (at, h (asleep now.at (until_tick clock until)) (goes_on_at clock (until_tick clock until) u e));
      seen = λ st now from c e le end rest h doing at. (at, h (awake now.at) (goes_on clock now.at));
      cut = λ st now from until c e lt le end rest h doing at. (at, ((refl, lt, le), h (awake from) (goes_on clock from)));
      checked = λ st now label set end rest h doing at. (next_is_set clock table doing now.at label at set, h (awake now.at) (goes_on clock now.at));
      expected = λ st now u label is le end rest h doing at. (at, ((refl, sym is), h (awake u) (goes_on clock u)));
      given_up = λ st now from label c e lt before end rest h doing at. (at, ((refl, refl, lt, before), h (awake from) (goes_on clock from)));
      unasked = λ st now ask label c end rest h doing at. (at, h (awake now.at) (goes_on clock now.at));
      granted = λ st now got label asked is end rest h doing at. (
        (subst (IsNext clock doing) (sym is) at, ap suc (sym is)),
        h (awake (suc now.at)) (goes_on clock (suc now.at)),
      );
      closed = λ st now got label asked is end rest h doing at. (
        (subst (IsNext clock doing) (sym is) at, ap suc (sym is)),
        h (awake (suc now.at)) (goes_on clock (suc now.at)),
      );
      granted_later = λ st now g ask got label lent lt end rest h doing at.
          (at, ((now.at, (refl, refl, lt)), h (awake g) (goes_on clock g)));
      closed_later = λ st now g ask got label lent lt end rest h doing at.
          (at, ((now.at, (refl, refl, lt)), h (awake g) (goes_on clock g)));
      left_queue = λ st now from ask label lent c e lt end rest h doing at. (at, ((refl, refl, lt), h (awake from) (goes_on clock from)));
      deadlocked = λ st now u ask label lent lt end rest h doing at. (at, ((now.at, (refl, refl, lt)), h (awake u) (goes_on clock u)));
      blocked = λ st now last kind label d shield inside a f end rest h doing at. (
        at,
        subst (AllInTime clock table (awake now.at) end) (sym (then_assoc a _ rest))
            (f end (happened last.at (left_in clock table st last kind label shield inside) rest)
            (λ before then. (then, h (awake last.at) (goes_on clock last.at))) (awake now.at) (goes_on clock now.at)),
      );
      child = λ st now last label part exc a f end rest h doing at.
          let same = starter_is clock now.at in (
            subst (IsNext clock doing) (sym same) at,
            own_story table clock st (a_round_after clock now.at) last a f,
            h (awake (starter_at clock (a_round_after clock now.at))) (goes_on_at clock (starter_at clock (a_round_after clock now.at)) now.at same),
          );
    }

pub time_passes_asleep : TimePassesAsleep
unfolding tale_by
time_passes_asleep k job input =
    let clock = clock_of job.format in
    let table = k.cancelled_from in
    let a = tale_by k job input in
    let same = root_starts clock in (
      goes_on_at clock 0 (starter_at clock 0) (sym same),
      own_story table clock [] 0 (let own = a.own in record { at = a.end; own = own }) a.story
          (kept_tell k (Leads table) (leads table) job.steps (root_scene job input) no_stack (only_at 0) tt),
      goes_on_at clock (starter_at clock 0) 0 same,
    )
