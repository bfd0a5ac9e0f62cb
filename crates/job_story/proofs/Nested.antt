-- The scopes and nurseries of a story are nested.
use Rattle.std.proofs.Common.{◌≡◌, ℕ, suc, ◌+◌, ◌<◌, ◌≤◌, Bool, true, false, Option, Some, None, List, [], ◌∷◌, refl, ap, sym, ◌∙◌, subst, ◌⊎◌, inl, inr, arith}
use Rattle.std.proofs.lemmas.Bool.Decides.{nat_tests}
use Rattle.std.specs.Prelude.{◌==◌, if◌then◌else◌}
use Rattle.std.proofs.lemmas.Slice.Eq.{bytes_eq-Decides}
use Rattle.std.specs.Str.{bytes_eq}
use Rattle.exceptions.specs.Exceptions.{Label, Exc}
use Rattle.job_meaning.specs.Log.{Table}
use Rattle.job_meaning.specs.Moments.{clock_of, a_round_after, Now, only_at}
use Rattle.job_meaning.specs.declared.clock.Clock.{Clock}
use Rattle.job_meaning.specs.declared.clock.Clock.TheVariants.{ByTicks as by_ticks, ByRounds as by_rounds}
use Rattle.job_meaning.specs.Walk.{Levels, no_stack, Kind, label_if, label_on, with_own}
use Rattle.job_story.specs.Story.{Happening, enters_event, enters_object, gives_token_back, closes_channel, finds, misses, raises, handles, cleans, replaces, Story, happened, then_story}
use Rattle.job_story.specs.Tell.{story_of_one, root_scene, tale_by}
use Rattle.job_story.specs.Blame.{levels_inside}
use Rattle.job_story.specs.Nesting.{own_at, IsOpen, IsNestedIn, AllNested}
use Rattle.job_story.specs.LawsOfCauses.{BlocksAreNested}
use Rattle.job_story.proofs.Found.{some_is}
use Rattle.job_story.proofs.Telling.{then_assoc, then_no_more, IsPlain, left_in, Passes, IsKept, kept_tell}

-- ---- the innermost of a name

named_on : (name : List ℕ) (st : Levels) (l : Label) → label_on name st ≡ Some l → name ≡ l.name
named_on name [] l e = absurd (cc)
named_on name (k ∷ ks) l e = by_test (bytes_eq name k.label.name) refl e (named_on name ks l)
  where
    by_test : (b : Bool) → bytes_eq name k.label.name ≡ b → label_if b k.label (label_on name ks) ≡ Some l →
        (label_on name ks ≡ Some l → name ≡ l.name) → name ≡ l.name
    by_test true same h others = (bytes_eq-Decides name k.label.name).0 same ∙ ap (λ (x : Label). x.name) (some_is k.label l h)
    by_test false differs h others = others h

on_is_open : (name : List ℕ) (st : Levels) → IsOpen st (label_on name st)
on_is_open name st = by_found (label_on name st) refl
  where
    by_found : (o : Option Label) → label_on name st ≡ o → IsOpen st o
    by_found None e = tt
    by_found (Some l) e = subst (λ (n : List ℕ). label_on n st ≡ Some l) (named_on name st l e) e

-- ---- what a task has itself cancelled

-- a story that was read up to `read` says of a task at `now` what it has itself cancelled in this moment
abbrev Reads : Clock → Now → Now → Type 0
Reads by_ticks read now = (read.own ≡ []) × (now.own ≡ [])
Reads by_rounds read now = (read.at ≤ now.at) × (own_at read now.at ≡ now.own)

same_moment : (t : ℕ) → (t == t) ≡ true
same_moment t = grind (arith, nat_tests)

other_moment : (t m : ℕ) → m + 1 ≤ t → (t == m) ≡ false
other_moment t m le = grind (arith, nat_tests)

own_now : (now : Now) → own_at now now.at ≡ now.own
own_now now = ap (λ (b : Bool). if b then now.own else []) (same_moment now.at)

own_later : (read : Now) (t : ℕ) → read.at + 1 ≤ t → own_at read t ≡ []
own_later read t le = ap (λ (b : Bool). if b then read.own else []) (other_moment t read.at le)

own_none : (read : Now) (t : ℕ) → read.own ≡ [] → own_at read t ≡ []
own_none read t e = ap (λ (own : List Label). if t == read.at then own else []) e ∙ neither (t == read.at)
  where
    neither : (b : Bool) → (if b then (let none : List Label = [] in none) else []) ≡ []
    neither true = refl
    neither false = refl

-- what the story says is what the task has
reads_own : (clock : Clock) (read now : Now) → Reads clock read now → own_at read now.at ≡ now.own
reads_own by_ticks read now h = own_none read now.at h.0 ∙ sym h.1
reads_own by_rounds read now h = h.1

reads_start : (clock : Clock) (t : ℕ) → Reads clock (only_at t) (only_at t)
reads_start by_ticks t = (refl, refl)
reads_start by_rounds t = (omega arith, own_none (only_at t) t refl)

-- after a time in which nothing happens
reads_later : (clock : Clock) (read now : Now) (t : ℕ) → Reads clock read now → Passes clock now.at t ⊎ (a_round_after clock now.at ≤ t) → Reads clock read (only_at t)
reads_later by_ticks read now t h passes = (h.0, refl)
reads_later by_rounds read now t h (inl passes) = let le : read.at ≤ now.at = h.0 in (omega arith, own_later read t (omega arith))
reads_later by_rounds read now t h (inr passes) = let le : read.at ≤ now.at = h.0 in (omega arith, own_later read t (omega arith))

-- after one more event, which is no `cancel` and no `set`
reads_event : (clock : Clock) (read now : Now) → Reads clock read now → Reads clock (let own = own_at read now.at in record { at = now.at; own = own }) now
reads_event by_ticks read now h = (own_none read now.at h.0, h.1)
reads_event by_rounds read now h =
    (omega arith, own_now (let own = own_at read now.at in record { at = now.at; own = own }) ∙ h.1)

-- after an event in a later moment, and after two
reads_in_later : (clock : Clock) (read now : Now) (t : ℕ) → Reads clock read now → now.at < t →
    Reads clock (let own = own_at read t in record { at = t; own = own }) (only_at t)
reads_in_later clock read now t h lt =
    reads_event clock read (only_at t) (reads_later clock read now t h (inr (round_before clock now.at t lt)))
  where
    round_before : (c : Clock) (m u : ℕ) → m < u → a_round_after c m ≤ u
    round_before by_ticks m u le = omega arith
    round_before by_rounds m u le = omega arith

reads_two : (clock : Clock) (read now : Now) (t : ℕ) → Reads clock read now → now.at < t →
    (let first : Now = record { at = now.at; own = own_at read now.at } in
    Reads clock (let own = own_at first t in record { at = t; own = own }) (only_at t))
reads_two clock read now t h lt =
    reads_in_later clock (let own = own_at read now.at in record { at = now.at; own = own }) now t (reads_event clock read now h) lt

-- after a `cancel`, or a `set`
reads_cancel : (clock : Clock) (read now : Now) (label : Option Label) → Reads clock read now →
    Reads clock (let own = with_own clock label (own_at read now.at) in record { at = now.at; own = own })
    (let own = with_own clock label now.own in record { at = now.at; own = own })
reads_cancel by_ticks read now label h = (own_none read now.at h.0, h.1)
reads_cancel by_rounds read now label h = (
  omega arith,
  own_now (let own = with_own by_rounds label (own_at read now.at) in record { at = now.at; own = own })
      ∙ ap (λ (own : List Label). with_own by_rounds label own) h.1,
)

-- ---- the stories of a walk

-- a story that is nested, before any rest that is
abbrev Leads : Table → Clock → Levels → Now → Now → Story → Type 0
Leads table clock st now last a =
    (outside : Levels) (read : Now) (rest : Story) → Reads clock read now →
    ((later : Now) → Reads clock later last → AllNested clock table later outside st rest) → AllNested clock table read outside st (then_story a rest)

leads_plain : (table : Table) (clock : Clock) (st : Levels) (now : Now) (what : Happening) → IsPlain what →
    Leads table clock st now now (story_of_one now.at what)
leads_plain table clock st now (enters_event label) plain outside read rest r h = (tt, h _ (reads_event clock read now r))
leads_plain table clock st now (finds lines) plain outside read rest r h = (tt, h _ (reads_event clock read now r))
leads_plain table clock st now (misses name) plain outside read rest r h = (tt, h _ (reads_event clock read now r))
leads_plain table clock st now (raises name) plain outside read rest r h = (tt, h _ (reads_event clock read now r))
leads_plain table clock st now (handles matched left) plain outside read rest r h = (tt, h _ (reads_event clock read now r))
leads_plain table clock st now (cleans exc) plain outside read rest r h = (tt, h _ (reads_event clock read now r))
leads_plain table clock st now (replaces lost fresh) plain outside read rest r h = (tt, h _ (reads_event clock read now r))
leads_plain table clock st now (enters_object kind label) plain outside read rest r h = (tt, h _ (reads_event clock read now r))
leads_plain table clock st now (gives_token_back label) plain outside read rest r h = (tt, h _ (reads_event clock read now r))
leads_plain table clock st now (closes_channel label) plain outside read rest r h = (tt, h _ (reads_event clock read now r))
leads_plain table clock st now _ plain outside read rest r h = absurd plain

-- a block is left as the story says
left_in_story : (table : Table) (clock : Clock) (st : Levels) (last : Now) (kind : Kind) (label : Label) (shield : Bool) (inside : Option Exc)
    (own : List Label) → own ≡ last.own →
    IsNestedIn clock own (levels_inside label shield (table label) st) last.at (left_in clock table st last kind label shield inside)
left_in_story table clock st last kind label shield inside own e =
    subst (λ (o : List Label). IsNestedIn clock o (levels_inside label shield (table label) st) last.at (left_in clock table st last kind label shield inside))
    (sym e) (refl, refl, refl)

leads : (table : Table) (clock : Clock) → IsKept clock table (Leads table clock)
leads table clock =
    record {
      nothing = λ st now outside read rest r h. h read r;
      joined = λ st now later last a b f g outside read rest r h.
          subst (AllNested clock table read outside st) (sym (then_assoc a b rest))
          (f outside read (then_story b rest) r (λ next s. g outside next rest s h));
      passed = λ st now t passes outside read rest r h. h read (reads_later clock read now t r (inl passes));
      plain = leads_plain table clock;
      waited = λ st now u label exc le home outside read rest r h.
          (home, h _ (reads_later clock _ now u (reads_event clock read now r) (inr le)));
      signed = λ st now name outside read rest r h. (on_is_open name st, h _ (reads_cancel clock read now (label_on name st) r));
      marked = λ st now label outside read rest r h. (tt, h _ (reads_cancel clock read now label r));
      slept = λ st now u until e le outside read rest r h. (tt, h _ (reads_later clock _ now u (reads_event clock read now r) (inr le)));
      seen = λ st now from c e le outside read rest r h. (tt, h _ (reads_event clock read now r));
      cut = λ st now from until c e lt le outside read rest r h. (tt, (tt, h _ (reads_two clock read now from r lt)));
      checked = λ st now label set outside read rest r h. (tt, h _ (reads_event clock read now r));
      expected = λ st now u label is le outside read rest r h. (
        tt,
        (
          tt,
          h _ (reads_event clock _ (only_at u) (reads_later clock _ now u (reads_event clock read now r) (inr (omega arith)))),
        ),
      );
      given_up = λ st now from label c e lt before outside read rest r h. (tt, (tt, h _ (reads_two clock read now from r lt)));
      unasked = λ st now ask label c outside read rest r h. (tt, h _ (reads_event clock read now r));
      granted = λ st now got label asked is outside read rest r h. (tt, h _ (reads_in_later clock read now (suc now.at) r (omega arith)));
      closed = λ st now got label asked is outside read rest r h. (tt, h _ (reads_in_later clock read now (suc now.at) r (omega arith)));
      granted_later = λ st now g ask got label lent lt outside read rest r h. (tt, (tt, h _ (reads_two clock read now g r lt)));
      closed_later = λ st now g ask got label lent lt outside read rest r h. (tt, (tt, h _ (reads_two clock read now g r lt)));
      left_queue = λ st now from ask label lent c e lt outside read rest r h. (tt, (tt, h _ (reads_two clock read now from r lt)));
      deadlocked = λ st now u ask label lent lt outside read rest r h. (tt, (tt, h _ (reads_two clock read now u r lt)));
      blocked = λ st now last kind label d shield inside a f outside read rest r h. (
        tt,
        subst (AllNested clock table _ outside (levels_inside label shield (table label) st)) (sym (then_assoc a _ rest))
            (f outside _ (happened last.at (left_in clock table st last kind label shield inside) rest) (reads_event clock read now r)
            (λ next s. (
              left_in_story table clock st last kind label shield inside _ (reads_own clock next last s),
              h _ (reads_event clock next last s),
            ))),
      );
      child = λ st now last label part exc a f outside read rest r h. (
        refl,
        subst (AllNested clock table (only_at (a_round_after clock now.at)) st st) (then_no_more a)
            (f st (only_at (a_round_after clock now.at)) _ (reads_start clock (a_round_after clock now.at)) (λ next s. refl)),
        h read r,
      );
    }

pub blocks_are_nested : BlocksAreNested
unfolding tale_by
blocks_are_nested k job input =
    let clock = clock_of job.format in
    let table = k.cancelled_from in (
      refl,
      subst (AllNested clock table (only_at 0) [] []) (then_no_more (tale_by k job input).story)
          (kept_tell k (Leads table) (leads table) job.steps (root_scene job input) no_stack (only_at 0) tt [] (only_at 0) _ (reads_start clock 0)
          (λ next s. refl)),
      refl,
    )
