-- Every cancellation of a job's story up to a limit, by settled tables, has a cause in the events up to the limit if it names a scope or
-- nursery.
use Rattle.std.proofs.Common.{◌≡◌, ℕ, suc, ◌<◌, ◌≤◌, true≢false, Bool, true, false, Option, Some, None, List, [], ◌∷◌, ◌++◌, refl, ap, sym, ◌∙◌, subst, ◌⊎◌, inl, inr, arith}
use Rattle.std.proofs.lemmas.Bool.Decides.{nat_tests}
use Rattle.std.specs.Prelude.{is_some, nat_le, if◌then◌else◌}
use Rattle.job_tree.specs.Tree.{Tree}
use Rattle.job_tree.specs.declared.object.Ask.{Ask}
use Rattle.job_meaning.specs.Tables.{Tables}
use Rattle.exceptions.specs.Exceptions.{Label}
use Rattle.cancel_scopes.specs.Sight.{Tick, sight}
use Rattle.job_meaning.specs.Log.{Table}
use Rattle.job_meaning.specs.Moments.{clock_of, tick_of, a_round_after, Now, only_at}
use Rattle.job_meaning.specs.declared.clock.Clock.{Clock}
use Rattle.job_meaning.specs.declared.clock.Clock.TheVariants.{ByTicks as by_ticks, ByRounds as by_rounds}
use Rattle.job_meaning.specs.Walk.{Levels, no_stack, Kind}
use Rattle.job_meaning.specs.Meaning.{root_label}
use Rattle.job_meaning.proofs.Distinct.{OnLevels}
use Rattle.job_meaning.proofs.MomentLemmas.{round_after}
use Rattle.job_story.specs.Story.{During, at_checkpoint, sleeping, waiting_for, in_queue, before_asking, Happening, enters, enters_event, enters_object, queues, gets, finds_closed, deadlocks, gives_token_back, closes_channel, sleeps, is_cancelled, finds, misses, raises, awaits, was_set, handles, cleans, replaces, Story, no_more, happened, started, then_story}
use Rattle.job_story.specs.Tell.{story_of_one, seer, blamed_at, root_scene, tale_by, story_by}
use Rattle.job_story.specs.Events.{What, starts, happens, ends, Event, event, events_of, in_order}
use Rattle.job_story.specs.Causes.{cause_of}
use Rattle.job_story.specs.Limit.{by_limit, walked_to}
use Rattle.job_story.specs.Blame.{levels_inside, IsInnermost}
use Rattle.job_story.specs.Shown.{IsIn, IsCaused, HasACause}
use Rattle.job_story.specs.LawsOfCauses.{CancellationsHaveCausesByLimit}
use Rattle.job_story.proofs.Telling.{IsPlain, left_in, Passes, IsOf, IsKept, kept_tell}
use Rattle.job_story.proofs.Blamed.{seer_is}
use Rattle.job_story.proofs.Members.{in_append, append_left, append_right, from_order, to_order}
use Rattle.job_story.proofs.Caused.{walked, entering_found, cause_among, IfNamed, if_some, if_named, cause_for}

-- ---- the events up to a limit

in_limit : (clock : Clock) (limit : ℕ) (x : Event) (es : List Event) → IsIn x es → tick_of clock x.tick ≤ limit → IsIn x (by_limit clock limit es)
in_limit clock limit x [] i le = i
in_limit clock limit x (e ∷ es) (inl same) le =
    by_test (nat_le (tick_of clock e.tick) limit) (is_true (tick_of clock e.tick) (subst (λ (y : Event). tick_of clock y.tick ≤ limit) same le))
  where
    is_true : (t : ℕ) → t ≤ limit → nat_le t limit ≡ true
    is_true t h = grind (arith, nat_tests)

    by_test : (b : Bool) → b ≡ true → IsIn x (if b then e ∷ by_limit clock limit es else by_limit clock limit es)
    by_test true h = inl same
    by_test false h = absurd (true≢false (sym h))
in_limit clock limit x (e ∷ es) (inr i) le = by_test (nat_le (tick_of clock e.tick) limit) (in_limit clock limit x es i le)
  where
    by_test : (b : Bool) → IsIn x (by_limit clock limit es) → IsIn x (if b then e ∷ by_limit clock limit es else by_limit clock limit es)
    by_test true j = inr j
    by_test false j = j

limit_in : (clock : Clock) (limit : ℕ) (x : Event) (es : List Event) → IsIn x (by_limit clock limit es) → IsIn x es × (tick_of clock x.tick ≤ limit)
limit_in clock limit x [] i = absurd i
limit_in clock limit x (e ∷ es) i = by_test (nat_le (tick_of clock e.tick) limit) refl i (limit_in clock limit x es)
  where
    is_le : (t : ℕ) → nat_le t limit ≡ true → t ≤ limit
    is_le t h = grind (arith, nat_tests)

    by_test : (b : Bool) → nat_le (tick_of clock e.tick) limit ≡ b → IsIn x (if b then e ∷ by_limit clock limit es else by_limit clock limit es) →
        (IsIn x (by_limit clock limit es) → IsIn x es × (tick_of clock x.tick ≤ limit)) → IsIn x (e ∷ es) × (tick_of clock x.tick ≤ limit)
    by_test true le (inl same) f =
        (inl same, subst (λ (y : Event). tick_of clock y.tick ≤ limit) (sym same) (is_le (tick_of clock e.tick) le))
    by_test true le (inr j) f = let h = f j in (inr h.0, h.1)
    by_test false le j f = let h = f j in (inr h.0, h.1)

-- an earlier moment is of no later tick
earlier_tick : (clock : Clock) (m t : ℕ) → m ≤ t → tick_of clock m ≤ tick_of clock t
earlier_tick by_ticks m t le = le
earlier_tick by_rounds m t le = omega arith

-- so it is up to the limit, where the later one is
by_then : (clock : Clock) (limit m t : ℕ) → m ≤ t → tick_of clock t ≤ limit → tick_of clock m ≤ limit
by_then clock limit m t le most =
    let first : tick_of clock m ≤ tick_of clock t = earlier_tick clock m t le in omega arith

-- ---- a label that cancels a task was entered before

events_then : (me : Label) (a b : Story) → events_of me (then_story a b) ≡ events_of me a ++ events_of me b
events_then me no_more b = refl
events_then me (happened t what rest) b = ap (λ (es : List Event). event t me (happens what) ∷ es) (events_then me rest b)
events_then me (started l home part s u exc own rest) b =
    ap (λ (es : List Event). event s l (starts home part) ∷ (events_of l own ++ event u l (ends home exc) ∷ es)) (events_then me rest b)
    ∙ ap (λ (es : List Event). event s l (starts home part) ∷ es)
    (sym (assoc (events_of l own) (event u l (ends home exc) ∷ events_of me rest) (events_of me b)))
  where
    assoc : (xs ys zs : List Event) → (xs ++ ys) ++ zs ≡ xs ++ (ys ++ zs)
    assoc [] ys zs = refl
    assoc (x ∷ xs) ys zs = ap (λ (es : List Event). x ∷ es) (assoc xs ys zs)

record BeganBy (l : Label) (t : ℕ) (all : List Event) : Type 0 where
  tick : ℕ
  task : Label
  kind : Kind
  deadline : Tick
  shield : Bool
  by : tick ≤ t
  entered : IsIn (event tick task (happens (enters kind l deadline shield))) all

later : (l : Label) (t u : ℕ) (all : List Event) → t ≤ u → BeganBy l t all → BeganBy l u all
later l t u all le h =
    let first : h.tick ≤ t = h.by in
    record {
      tick = h.tick;
      task = h.task;
      kind = h.kind;
      deadline = h.deadline;
      shield = h.shield;
      by = omega arith;
      entered = h.entered;
    }

on_stack : (l : Label) (from : ℕ) (st : Levels) → IsInnermost l from st → OnLevels l st
on_stack l from [] h = h
on_stack l from (k ∷ ks) (inl h) = inl h.0
on_stack l from (k ∷ ks) (inr h) = inr (on_stack l from ks h.2)

-- a cancellation in moment t names a label that is cancelled from then on or before, and was entered by then
abbrev IsCoveredBy : Table → List Event → ℕ → Option Label → Type 0
IsCoveredBy table all t by = (l : Label) × (by ≡ Some l) × (from : ℕ) × (table l ≡ Some from) × (from ≤ t) × BeganBy l t all

abbrev IsCovered : Table → List Event → ℕ → What → Type 0
IsCovered table all t (happens (is_cancelled by during in_cleanup)) = IfNamed (IsCoveredBy table all t) by during
IsCovered table all t _ = Unit {0}

abbrev AllCovered : Table → List Event → List Event → Type 0
AllCovered table all es = (x : Event) → IsIn x es → IsCovered table all x.tick x.what

one_covered : (table : Table) (all : List Event) (t : ℕ) (who : Label) (w : What) → IsCovered table all t w →
    (x : Event) → x ≡ event t who w → IsCovered table all x.tick x.what
one_covered table all t who w h x e = subst (λ (y : Event). IsCovered table all y.tick y.what) (sym e) h

both_covered : (table : Table) (all es fs : List Event) → AllCovered table all es → AllCovered table all fs → AllCovered table all (es ++ fs)
both_covered table all es fs h k x i = by_part (in_append x es fs i)
  where
    by_part : IsIn x es ⊎ IsIn x fs → IsCovered table all x.tick x.what
    by_part (inl j) = h x j
    by_part (inr j) = k x j

-- one more event
more_covered : (table : Table) (all : List Event) (t : ℕ) (who : Label) (w : What) (es : List Event) → IsCovered table all t w →
    AllCovered table all es → AllCovered table all (event t who w ∷ es)
more_covered table all t who w es h k x (inl e) = one_covered table all t who w h x e
more_covered table all t who w es h k x (inr i) = k x i

abbrev Known : Levels → ℕ → List Event → Type 0
Known st t all = (l : Label) → OnLevels l st → BeganBy l t all

abbrev Covers : Table → Levels → Now → Now → Story → Type 0
Covers table st now last a =
    (all : List Event) (me : Label) → IsOf table st → Known st now.at all → ((x : Event) → IsIn x (events_of me a) → IsIn x all) →
    (now.at ≤ last.at) × AllCovered table all (events_of me a)

seen_covered : (table : Table) (all : List Event) (st : Levels) (t u from : ℕ) (during : During) (c : Bool) → IsOf table st → Known st t all →
    t ≤ u → sight st ≡ Some from → from ≤ u → IsCovered table all u (happens (is_cancelled (seer st from) during c))
seen_covered table all st t u from during c of known le e at =
    let named = seer_is table st from of e in
    if_some (IsCoveredBy table all u) (seer st from) during named.0 named.1
    (named.0, named.1, from, named.2, at, later named.0 t u all le (known named.0 (on_stack named.0 from st named.3)))

unasked_covered : (table : Table) (all : List Event) (st : Levels) (t : ℕ) (ask : Ask) (label : Label) (c : Bool) → IsOf table st →
    Known st t all → IsCovered table all t (happens (is_cancelled (blamed_at st t (sight st)) (before_asking ask label) c))
unasked_covered table all st t ask label c of known = by_seen (sight st) refl
  where
    by_reached : (from : ℕ) (b : Bool) → nat_le from t ≡ b → sight st ≡ Some from →
        IsCovered table all t (happens (is_cancelled (if b then seer st from else None) (before_asking ask label) c))
    by_reached from true reached e =
        seen_covered table all st t t from (before_asking ask label) c of known (omega arith) e (grind (arith, nat_tests))
    by_reached from false missed e = tt

    by_seen : (from : Tick) → sight st ≡ from → IsCovered table all t (happens (is_cancelled (blamed_at st t from) (before_asking ask label) c))
    by_seen None e = tt
    by_seen (Some from) e = by_reached from (nat_le from t) refl e

none_covered : (table : Table) (all : List Event) → AllCovered table all []
none_covered table all x i = absurd i

covers_joined : (table : Table) (st : Levels) (now mid last : Now) (a b : Story) → Covers table st now mid a → Covers table st mid last b →
    Covers table st now last (then_story a b)
covers_joined table st now mid last a b f g all me of known within =
    let le : now.at ≤ mid.at = first.0 in
    let le₂ : mid.at ≤ last.at = second.0 in (
      omega arith,
      subst (AllCovered table all) (sym (events_then me a b))
          (both_covered table all (events_of me a) (events_of me b) first.1 second.1),
    )
  where
    within_both : (x : Event) → IsIn x (events_of me a ++ events_of me b) → IsIn x all
    within_both x i = within x (subst (λ (es : List Event). IsIn x es) (sym (events_then me a b)) i)

    first : (now.at ≤ mid.at) × AllCovered table all (events_of me a)
    first = f all me of known (λ x i. within_both x (append_left x (events_of me a) (events_of me b) i))

    second : (mid.at ≤ last.at) × AllCovered table all (events_of me b)
    second =
        g all me of (λ l i. later l now.at mid.at all first.0 (known l i))
        (λ x i. within_both x (append_right x (events_of me a) (events_of me b) i))

covers_plain : (table : Table) (st : Levels) (now : Now) (what : Happening) → IsPlain what → Covers table st now now (story_of_one now.at what)
covers_plain table st now (enters_event label) plain all me of known within = (omega arith, more_covered table all now.at me _ [] tt (none_covered table all))
covers_plain table st now (finds lines) plain all me of known within = (omega arith, more_covered table all now.at me _ [] tt (none_covered table all))
covers_plain table st now (misses name) plain all me of known within = (omega arith, more_covered table all now.at me _ [] tt (none_covered table all))
covers_plain table st now (raises name) plain all me of known within = (omega arith, more_covered table all now.at me _ [] tt (none_covered table all))
covers_plain table st now (handles matched left) plain all me of known within = (omega arith, more_covered table all now.at me _ [] tt (none_covered table all))
covers_plain table st now (cleans exc) plain all me of known within = (omega arith, more_covered table all now.at me _ [] tt (none_covered table all))
covers_plain table st now (replaces lost fresh) plain all me of known within = (omega arith, more_covered table all now.at me _ [] tt (none_covered table all))
covers_plain table st now (enters_object kind label) plain all me of known within =
    (omega arith, more_covered table all now.at me _ [] tt (none_covered table all))
covers_plain table st now (gives_token_back label) plain all me of known within =
    (omega arith, more_covered table all now.at me _ [] tt (none_covered table all))
covers_plain table st now (closes_channel label) plain all me of known within =
    (omega arith, more_covered table all now.at me _ [] tt (none_covered table all))
covers_plain table st now _ plain all me of known within = absurd plain

covers_blocked : (table : Table) (st : Levels) (now last : Now) (kind : Kind) (label : Label) (d : Tick) (shield : Bool) (left : Happening)
    (a : Story) → ((all : List Event) → IsCovered table all last.at (happens left)) →
    Covers table (levels_inside label shield (table label) st) now last a →
    Covers table st now last (happened now.at (enters kind label d shield) (then_story a (story_of_one last.at left)))
covers_blocked table st now last kind label d shield left a plain f all me of known within = (
  inner.0,
  more_covered table all now.at me (happens (enters kind label d shield)) (events_of me (then_story a (story_of_one last.at left))) tt
      (subst (AllCovered table all) (sym (events_then me a (story_of_one last.at left)))
      (both_covered table all (events_of me a) (event last.at me (happens left) ∷ []) inner.1
      (more_covered table all last.at me (happens left) [] (plain all) (none_covered table all)))),
)
  where
    inside : (l : Label) → OnLevels l (levels_inside label shield (table label) st) → BeganBy l now.at all
    inside l (inl e) =
        subst (λ (m : Label). BeganBy m now.at all) (sym e)
        (record { tick = now.at; task = me; kind = kind; deadline = d; shield = shield; by = omega arith; entered = within _ (inl refl) })
    inside l (inr i) = known l i

    inner : (now.at ≤ last.at) × AllCovered table all (events_of me a)
    inner =
        f all me (refl, of) inside
        (λ x i. within x (inr (subst (λ (es : List Event). IsIn x es) (sym (events_then me a (story_of_one last.at left)))
        (append_left x (events_of me a) (event last.at me (happens left) ∷ []) i))))

after_time : (clock : Clock) (m t : ℕ) → Passes clock m t → m ≤ t
after_time by_ticks m t passes = omega arith
after_time by_rounds m t passes = omega arith

after_a_round : (clock : Clock) (m t : ℕ) → a_round_after clock m ≤ t → m ≤ t
after_a_round by_ticks m t le = le
after_a_round by_rounds m t le = omega arith

-- two events in turn, the second in a later moment
covers_two : (table : Table) (st : Levels) (now : Now) (u : ℕ) (what next : Happening) → now.at < u →
    ((all : List Event) → IsCovered table all now.at (happens what)) → ((all : List Event) → IsCovered table all u (happens next)) →
    Covers table st now (only_at u) (happened now.at what (story_of_one u next))
covers_two table st now u what next lt first second all me of known within = (
  omega arith,
  more_covered table all now.at me (happens what) (event u me (happens next) ∷ []) (first all)
      (more_covered table all u me (happens next) [] (second all) (none_covered table all)),
)

covers : (table : Table) (clock : Clock) → IsKept clock table (Covers table)
covers table clock =
    record {
      nothing = λ st now all me of known within. (omega arith, none_covered table all);
      joined = covers_joined table;
      passed = λ st now t passes all me of known within. (after_time clock now.at t passes, none_covered table all);
      plain = covers_plain table;
      waited = λ st now u label exc le home all me of known within.
          (after_a_round clock now.at u le, more_covered table all now.at me _ [] tt (none_covered table all));
      signed = λ st now name all me of known within. (omega arith, more_covered table all now.at me _ [] tt (none_covered table all));
      marked = λ st now label all me of known within. (omega arith, more_covered table all now.at me _ [] tt (none_covered table all));
      slept = λ st now u until e le all me of known within.
          (after_a_round clock now.at u le, more_covered table all now.at me _ [] tt (none_covered table all));
      seen = λ st now from c e le all me of known within. (
        omega arith,
        more_covered table all now.at me (happens (is_cancelled (seer st from) at_checkpoint c)) []
            (seen_covered table all st now.at now.at from at_checkpoint c of known (omega arith) e le) (none_covered table all),
      );
      cut = λ st now from until c e lt le all me of known within. (
        omega arith,
        more_covered table all now.at me (happens (sleeps until))
            (event from me (happens (is_cancelled (seer st from) (sleeping now.at) c)) ∷ []) tt
            (more_covered table all from me (happens (is_cancelled (seer st from) (sleeping now.at) c)) []
            (seen_covered table all st now.at from from (sleeping now.at) c of known (omega arith) e (omega arith)) (none_covered table all)),
      );
      checked = λ st now label set all me of known within. (omega arith, more_covered table all now.at me _ [] tt (none_covered table all));
      expected = λ st now u label is le all me of known within. (
        after_a_round clock now.at u (omega arith),
        more_covered table all now.at me (happens (awaits label)) (event u me (happens (was_set label)) ∷ []) tt
            (more_covered table all u me (happens (was_set label)) [] tt (none_covered table all)),
      );
      given_up = λ st now from label c e lt before all me of known within. (
        omega arith,
        more_covered table all now.at me (happens (awaits label))
            (event from me (happens (is_cancelled (seer st from) (waiting_for label now.at) c)) ∷ []) tt
            (more_covered table all from me (happens (is_cancelled (seer st from) (waiting_for label now.at) c)) []
            (seen_covered table all st now.at from from (waiting_for label now.at) c of known (omega arith) e (omega arith)) (none_covered table all)),
      );
      unasked = λ st now ask label c all me of known within. (
        omega arith,
        more_covered table all now.at me (happens (is_cancelled (blamed_at st now.at (sight st)) (before_asking ask label) c)) []
            (unasked_covered table all st now.at ask label c of known) (none_covered table all),
      );
      granted = λ st now got label asked is all me of known within.
          (omega arith, more_covered table all (suc now.at) me _ [] tt (none_covered table all));
      closed = λ st now got label asked is all me of known within.
          (omega arith, more_covered table all (suc now.at) me _ [] tt (none_covered table all));
      granted_later = λ st now g ask got label lent lt.
          covers_two table st now g (queues ask label lent None) (gets got label None) lt (λ all. tt) (λ all. tt);
      closed_later = λ st now g ask got label lent lt.
          covers_two table st now g (queues ask label lent None) (finds_closed got label None) lt (λ all. tt) (λ all. tt);
      left_queue = λ st now from ask label lent c e lt all me of known within. (
        omega arith,
        more_covered table all now.at me (happens (queues ask label lent (Some from)))
            (event from me (happens (is_cancelled (seer st from) (in_queue ask label now.at) c)) ∷ []) tt
            (more_covered table all from me (happens (is_cancelled (seer st from) (in_queue ask label now.at) c)) []
            (seen_covered table all st now.at from from (in_queue ask label now.at) c of known (omega arith) e (omega arith))
            (none_covered table all)),
      );
      deadlocked = λ st now u ask label lent lt.
          covers_two table st now u (queues ask label lent (Some u)) (deadlocks ask label) lt (λ all. tt) (λ all. tt);
      blocked = λ st now last kind label d shield inside a f.
          covers_blocked table st now last kind label d shield (left_in clock table st last kind label shield inside) a (λ all. tt) f;
      child = λ st now last label part exc a f all me of known within. (
        omega arith,
        more_covered table all (a_round_after clock now.at) label _ _ tt
            (both_covered table all (events_of label a) _
            ((f all label of (λ l i. later l now.at (a_round_after clock now.at) all (round_after clock now.at) (known l i))
            (λ x i. within x (inr (append_left x (events_of label a) _ i)))).1)
            (more_covered table all last.at label _ [] tt (none_covered table all))),
      );
    }

-- ---- the story of a job

module _ (k : Tables) (job : Tree) (input : List ℕ) where
  abbrev story_events : List Event
  story_events = walked k job input

  all_covered : AllCovered k.cancelled_from story_events story_events
  unfolding tale_by
  all_covered =
      let table = k.cancelled_from in
      let a = tale_by k job input in
      let own = events_of (root_label job.name) a.story in
      let inner = kept_tell k (λ c. Covers table) (covers table) job.steps (root_scene job input) no_stack (only_at 0) tt story_events
      (root_label job.name) tt (λ l i. absurd i) (λ x i. inr (append_left x own _ i)) in
      more_covered table story_events 0 (root_label job.name) _ _ tt
      (both_covered table story_events own _ inner.1
      (more_covered table story_events a.end (root_label job.name) _ [] tt (none_covered table story_events)))

pub cancellations_have_causes_by_limit : CancellationsHaveCausesByLimit
cancellations_have_causes_by_limit k limit job input once settled e i =
    by_what e.what (limited e i).1 (all_covered k job input e (limited e i).0)
  where
    clock : Clock
    clock = clock_of job.format

    table : Table
    table = k.cancelled_from

    story : List Event
    story = events_of (root_label job.name) (story_by k job input)

    shown : List Event
    shown = in_order (walked_to k limit job input)

    limited : (x : Event) → IsIn x (walked_to k limit job input) → IsIn x story × (tick_of clock x.tick ≤ limit)
    limited x j = limit_in clock limit x story j

    to_limit : (x : Event) → IsIn x story → tick_of clock x.tick ≤ limit → IsIn x shown
    to_limit x j le = to_order x (walked_to k limit job input) (in_limit clock limit x story j le)

    there : (l : Label) (from : ℕ) → table l ≡ Some from → from ≤ e.tick → tick_of clock e.tick ≤ limit → BeganBy l e.tick story →
        is_some (cause_of table shown l) ≡ true
    there l from in_table le most began =
        cause_among k job input once settled shown (λ x j. (limited x (from_order x (walked_to k limit job input) j)).0) l from in_table
        (λ x j at. to_limit x j (by_then clock limit x.tick e.tick (omega arith) most))
        (λ is. entering_found l shown _ began.kind began.deadline began.shield
        (to_limit _ began.entered (by_then clock limit began.tick e.tick began.by most)) refl)

    caused : tick_of clock e.tick ≤ limit → (by : Option Label) → IsCoveredBy table story e.tick by → IsCaused table shown by
    caused most by h = (h.0, h.1, there h.0 h.2 h.3 h.4 most h.5)

    by_what : (w : What) → tick_of clock e.tick ≤ limit → IsCovered table story e.tick w → HasACause table shown w
    by_what (happens (is_cancelled by during in_cleanup)) most h =
        cause_for table shown by during (if_named (IsCoveredBy table story e.tick) (IsCaused table shown) (caused most) by during h)
    by_what _ most h = tt
