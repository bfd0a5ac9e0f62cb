-- The scope or nursery that a story names for a cancellation is the one that the task sees.
use Rattle.std.proofs.Common.{◌≡◌, ℕ, true≢false, Bool, true, false, Option, Some, None, [], ◌∷◌, refl, ap, sym, ◌∙◌, subst, ◌⊎◌, inl, inr, arith}
use Rattle.std.proofs.lemmas.Bool.Decides.{nat_tests}
use Rattle.std.specs.Prelude.{nat_le, nat_lt, if◌then◌else◌}
use Rattle.job_tree.specs.declared.object.Ask.{Ask}
use Rattle.exceptions.specs.Exceptions.{Label}
use Rattle.cancel_scopes.specs.Sight.{Tick, earlier, sight}
use Rattle.job_meaning.specs.Log.{Table}
use Rattle.job_meaning.specs.Moments.{Now, only_at}
use Rattle.job_meaning.specs.declared.clock.Clock.{Clock}
use Rattle.job_meaning.specs.Walk.{Levels, no_stack}
use Rattle.job_story.specs.Story.{During, at_checkpoint, sleeping, waiting_for, in_queue, before_asking, Happening, enters_event, enters_object, gives_token_back, closes_channel, finds, misses, raises, handles, cleans, replaces, Story, happened, then_story}
use Rattle.job_story.specs.Tell.{is_from, seer, blamed_at, story_of_one, root_scene, tale_by}
use Rattle.job_story.specs.Blame.{IsInnermost, IsRaisedAt, IsBlamed, IsBlamedIfNamed, AllBlamed}
use Rattle.job_story.specs.LawsOfCauses.{CancellationsAreSeen}
use Rattle.job_story.proofs.Telling.{then_assoc, then_no_more, IsPlain, left_in, IsOf, IsKept, kept_tell}

-- ---- the level that determines the effective deadline

pub is_from_at : (f : Tick) (t : ℕ) → is_from f t ≡ true → f ≡ Some t
is_from_at None t h = absurd (true≢false (sym h))
is_from_at (Some f) t h = ap (λ (x : ℕ). Some x) (grind (arith, nat_tests))

pub is_from_itself : (t : ℕ) → is_from (Some t) t ≡ true
is_from_itself t = grind (arith, nat_tests)

is_from_other : (f : Tick) (t : ℕ) → is_from f t ≡ false → f ≡ Some t → ⊥
is_from_other f t h e = true≢false (sym (is_from_itself t) ∙ (ap (λ (x : Tick). is_from x t) (sym e) ∙ h))

-- the earlier of two is one of them
pub earlier_is : (a b : Tick) (t : ℕ) → earlier a b ≡ Some t → (a ≡ Some t) ⊎ (b ≡ Some t)
earlier_is None b t e = inr e
earlier_is (Some x) None t e = inl e
earlier_is (Some x) (Some y) t e = by_test (nat_lt y x) e
  where
    by_test : (b : Bool) → Some (if b then y else x) ≡ Some t → (Some x ≡ Some t) ⊎ (Some y ≡ Some t)
    by_test true k = inr k
    by_test false k = inl k

-- what the walk names: the label, and what is known of it
abbrev pub Named : Table → Levels → ℕ → Option Label → Type 0
Named table st from o = (l : Label) × (o ≡ Some l) × (table l ≡ Some from) × IsInnermost l from st

pub seer_is : (table : Table) (st : Levels) (from : ℕ) → IsOf table st → sight st ≡ Some from → Named table st from (seer st from)
seer_is table [] from of e = absurd (cc)
seer_is table (l ∷ ls) from of e = by_from (is_from l.from from) refl (seer_is table ls from of.1)
  where
    outside : (s : Bool) → l.shield ≡ s → is_from l.from from ≡ false → (if s then l.from else earlier l.from (sight ls)) ≡ Some from →
        (sight ls ≡ Some from → Named table ls from (seer ls from)) → Named table (l ∷ ls) from (if s then None else seer ls from)
    outside true shielded not_this is others = absurd (is_from_other l.from from not_this is)
    outside false shielded not_this is others =
        let next = others (beyond (earlier_is l.from (sight ls) from is)) in
        (next.0, next.1, next.2, inr (shielded, is_from_other l.from from not_this, next.3))
      where
        beyond : (l.from ≡ Some from) ⊎ (sight ls ≡ Some from) → sight ls ≡ Some from
        beyond (inl this) = absurd (is_from_other l.from from not_this this)
        beyond (inr other) = other

    by_from : (b : Bool) → is_from l.from from ≡ b → (sight ls ≡ Some from → Named table ls from (seer ls from)) →
        Named table (l ∷ ls) from (if b then Some l.label else (if l.shield then None else seer ls from))
    by_from true this others =
        let at = is_from_at l.from from this in
        (l.label, refl, sym of.0 ∙ at, inl (refl, at))
    by_from false not_this others = outside l.shield refl not_this e others

blamed : (table : Table) (st : Levels) (t from : ℕ) (during : During) → IsOf table st → sight st ≡ Some from → IsRaisedAt from t during →
    IsBlamed table st t (seer st from) during
blamed table st t from during of e when =
    let named = seer_is table st from of e in
    record { label = named.0; from = from; named = named.1; in_table = named.2; seen = e; innermost = named.3; raised = when }

-- a task that does not ask: where the story names a scope or nursery, that is the one whose cancellation is seen
unasked : (table : Table) (st : Levels) (t : ℕ) (ask : Ask) (label : Label) → IsOf table st →
    IsBlamedIfNamed table st t (blamed_at st t (sight st)) (before_asking ask label)
unasked table st t ask label of = by_seen (sight st) refl
  where
    if_named : (o : Option Label) → IsBlamed table st t o (before_asking ask label) → IsBlamedIfNamed table st t o (before_asking ask label)
    if_named None b = tt
    if_named (Some l) b = b

    by_reached : (from : ℕ) (b : Bool) → nat_le from t ≡ b → sight st ≡ Some from →
        IsBlamedIfNamed table st t (if b then seer st from else None) (before_asking ask label)
    by_reached from true reached e = if_named (seer st from) (blamed table st t from (before_asking ask label) of e (grind (arith, nat_tests)))
    by_reached from false missed e = tt

    by_seen : (from : Tick) → sight st ≡ from → IsBlamedIfNamed table st t (blamed_at st t from) (before_asking ask label)
    by_seen None e = tt
    by_seen (Some from) e = by_reached from (nat_le from t) refl e

-- ---- the stories of a walk

-- a story whose cancellations name what they should, before any rest whose cancellations do
abbrev Leads : Table → Levels → Now → Now → Story → Type 0
Leads table st now last a = IsOf table st → (rest : Story) → AllBlamed table st rest → AllBlamed table st (then_story a rest)

leads_plain : (table : Table) (st : Levels) (now : Now) (what : Happening) → IsPlain what → Leads table st now now (story_of_one now.at what)
leads_plain table st now (enters_event label) plain of rest h = (tt, h)
leads_plain table st now (finds lines) plain of rest h = (tt, h)
leads_plain table st now (misses name) plain of rest h = (tt, h)
leads_plain table st now (raises name) plain of rest h = (tt, h)
leads_plain table st now (handles matched left) plain of rest h = (tt, h)
leads_plain table st now (cleans exc) plain of rest h = (tt, h)
leads_plain table st now (replaces lost fresh) plain of rest h = (tt, h)
leads_plain table st now (enters_object kind label) plain of rest h = (tt, h)
leads_plain table st now (gives_token_back label) plain of rest h = (tt, h)
leads_plain table st now (closes_channel label) plain of rest h = (tt, h)
leads_plain table st now _ plain of rest h = absurd plain

leads : (table : Table) (clock : Clock) → IsKept clock table (Leads table)
leads table clock =
    record {
      nothing = λ st now of rest h. h;
      joined = λ st now later last a b f g of rest h.
          subst (AllBlamed table st) (sym (then_assoc a b rest)) (f of (then_story b rest) (g of rest h));
      passed = λ st now t passes of rest h. h;
      plain = leads_plain table;
      waited = λ st now u label exc le home of rest h. (tt, h);
      signed = λ st now name of rest h. (tt, h);
      marked = λ st now label of rest h. (tt, h);
      slept = λ st now u until e le of rest h. (tt, h);
      seen = λ st now from c e le of rest h. (blamed table st now.at from at_checkpoint of e le, h);
      cut = λ st now from until c e lt le of rest h. (tt, (blamed table st from from (sleeping now.at) of e (lt, refl), h));
      checked = λ st now label set of rest h. (tt, h);
      expected = λ st now u label is le of rest h. (tt, (tt, h));
      given_up = λ st now from label c e lt before of rest h. (tt, (blamed table st from from (waiting_for label now.at) of e (lt, refl), h));
      unasked = λ st now ask label c of rest h. (unasked table st now.at ask label of, h);
      granted = λ st now got label asked is of rest h. (tt, h);
      closed = λ st now got label asked is of rest h. (tt, h);
      granted_later = λ st now g ask got label lent lt of rest h. (tt, (tt, h));
      closed_later = λ st now g ask got label lent lt of rest h. (tt, (tt, h));
      left_queue = λ st now from ask label lent c e lt of rest h.
          (tt, (blamed table st from from (in_queue ask label now.at) of e (lt, refl), h));
      deadlocked = λ st now u ask label lent lt of rest h. (tt, (tt, h));
      blocked = λ st now last kind label d shield inside a f of rest h. (
        tt,
        subst (AllBlamed table _) (sym (then_assoc a _ rest))
            (f (refl, of) (happened last.at (left_in clock table st last kind label shield inside) rest) (tt, h)),
      );
      child = λ st now last label part exc a f of rest h.
          (subst (AllBlamed table st) (then_no_more a) (f of _ tt), h);
    }

pub cancellations_are_seen : CancellationsAreSeen
unfolding tale_by
cancellations_are_seen k job input = (
  subst (AllBlamed k.cancelled_from []) (then_no_more (tale_by k job input).story)
      (kept_tell k (λ c. Leads k.cancelled_from) (leads k.cancelled_from) job.steps (root_scene job input) no_stack (only_at 0) tt tt _ tt),
  tt,
)
