-- A walk that continues: what was walked so far, and what is left.
use Rattle.std.proofs.Common.{◌≡◌, ℕ, true, false, Option, Some, None, List, [], ◌++◌, refl, ap, sym, subst, ◌∙◌, append_assoc}
use Rattle.std.specs.Option.{option_map, is_some}
use Rattle.std.proofs.lemmas.List.{append-nil}
use Rattle.exceptions.specs.Exceptions.{Label, Exc}
use Rattle.exceptions.specs.Held.{exc_of}
use Rattle.job_meaning.specs.Log.{Member}
use Rattle.job_meaning.specs.Moments.{Now}
use Rattle.job_story.specs.Story.{Story, Tale, no_more, then_story}
use Rattle.job_story.specs.Tell.{ended_at, now_of, and_tale, tale_if, then_tale}
use Rattle.job_story.specs.declared.event.Event as held
use Rattle.job_story.specs.declared.progress.Progress.{Progress}
use Rattle.job_story.specs.declared.stretch.Stretch.{Stretch}
use Rattle.job_story.specs.Tales.{IsStretchOf, Tells, now_in, own_of}
use Rattle.job_story.proofs.Adding.{adds_nothing, story_assoc, story_end}
use Rattle.job_story.proofs.Blocks.{same_now}
use Rattle.job_story.proofs.Teller.{tells_joined, none_fails, none_well}

-- what was walked ended without an exception, and continues with what is left from there
pub record Going (me : Label) (start : List held.Event) (w : Stretch) (now : Progress) (all : Tale) (left : Now → Tale) : Type 0 where
  pub before : Tale
  pub tells : Tells me start w now before
  pub well : before.exc ≡ None
  pub goes : all ≡ and_tale before (left (now_of before))

tale_assoc : (p q r : Tale) → and_tale (and_tale p q) r ≡ and_tale p (and_tale q r)
tale_assoc p q r = cc (append_assoc p.members q.members r.members, story_assoc p.story q.story r.story)

tale_done : (r : Tale) → r.exc ≡ None → and_tale r (ended_at (now_of r) no_more) ≡ r
tale_done r e =
    ap (λ (x : Option Exc). record { end = r.end; own = r.own; exc = x; members = r.members ++ []; story = then_story r.story no_more })
    (sym e)
    ∙ (ap (λ (x : List Member). record { end = r.end; own = r.own; exc = r.exc; members = x; story = then_story r.story no_more })
    (append-nil r.members)
    ∙ ap (λ (x : Story). record { end = r.end; own = r.own; exc = r.exc; members = r.members; story = x }) (story_end r.story))

pub going_start : (me : Label) (start : Progress) (w : Stretch) (m : ℕ) (all : Now → Tale) →
    ((own : List Label) (s : Story) → IsStretchOf w (ended_at (record { at = m; own = own }) s)) →
    Going me start.events.items w start (all (now_in m start)) all
going_start me start w m all h =
    record {
      before = ended_at (now_in m start) no_more;
      tells = record { stretch = h (own_of start) no_more; events = adds_nothing me start.events.items; own = refl };
      well = refl;
      goes = refl;
    }

-- what was walked, with what is walked next
next_tells : (me : Label) (start : List held.Event) (mid now : Progress) (w v x : Stretch) (all : Tale) (left step : Now → Tale)
    (at : Going me start w mid all left) (u : ℕ) → u ≡ w.end → Tells me mid.events.items v now (step (now_in u mid)) →
    ((p q : Tale) → IsStretchOf w p → IsStretchOf v q → IsStretchOf x (and_tale p q)) →
    Tells me start x now (and_tale at.before (step (now_of at.before)))
next_tells me start mid now w v x all left step at u ends h join =
    tells_joined me start mid now w v x at.before (step (now_of at.before)) at.tells
    (subst (λ (y : Now). Tells me mid.events.items v now (step y))
    (same_now u mid.cancelled.items at.before.end at.before.own (ends ∙ at.tells.stretch.end) at.tells.own) h) join

-- a step that ends with an exception ends all
pub going_failed : (me : Label) (start : List held.Event) (mid now : Progress) (w v x : Stretch) (all : Tale) (left step rest : Now → Tale)
    (at : Going me start w mid all left) → ((y : Now) → left y ≡ then_tale (step y) rest) → (u : ℕ) → u ≡ w.end →
    Tells me mid.events.items v now (step (now_in u mid)) →
    ((p q : Tale) → IsStretchOf w p → IsStretchOf v q → IsStretchOf x (and_tale p q)) → is_some x.exc ≡ true → Tells me start x now all
unfolding then_tale
going_failed me start mid now w v x all left step rest at is u ends h join failed =
    let tells = next_tells me start mid now w v x all left step at u ends h join in
    by_exc (step (now_of at.before)).exc refl tells.stretch.exc tells
  where
    by_exc : (o : Option Exc) → (step (now_of at.before)).exc ≡ o → option_map exc_of x.exc ≡ (step (now_of at.before)).exc →
        Tells me start x now (and_tale at.before (step (now_of at.before))) → Tells me start x now all
    by_exc None e same tells = absurd (none_fails x.exc (same ∙ e) failed)
    by_exc (Some y) e same tells =
        let goes : all ≡ and_tale at.before (step (now_of at.before)) =
        at.goes ∙ (ap (and_tale at.before) (is (now_of at.before))
        ∙ ap (λ (o : Option Exc). and_tale at.before (tale_if o (step (now_of at.before)) rest)) e) in
        subst (λ (a : Tale). Tells me start x now a) (sym goes) tells

-- a step that ends without an exception continues with the rest
pub going_next : (me : Label) (start : List held.Event) (mid now : Progress) (w v x : Stretch) (all : Tale) (left step rest : Now → Tale)
    (at : Going me start w mid all left) → ((y : Now) → left y ≡ then_tale (step y) rest) → (u : ℕ) → u ≡ w.end →
    Tells me mid.events.items v now (step (now_in u mid)) →
    ((p q : Tale) → IsStretchOf w p → IsStretchOf v q → IsStretchOf x (and_tale p q)) → is_some x.exc ≡ false → Going me start x now all rest
unfolding then_tale
going_next me start mid now w v x all left step rest at is u ends h join well =
    let tells = next_tells me start mid now w v x all left step at u ends h join in
    let q = step (now_of at.before) in
    let e : q.exc ≡ None = sym tells.stretch.exc ∙ none_well x.exc well in
    record {
      before = and_tale at.before q;
      tells = tells;
      well = e;
      goes =
          at.goes
          ∙ (ap (and_tale at.before) (is (now_of at.before))
          ∙ (ap (λ (o : Option Exc). and_tale at.before (tale_if o q rest)) e ∙ sym (tale_assoc at.before q (rest (now_of q)))));
    }

-- nothing is left
pub going_stop : (me : Label) (start : List held.Event) (now : Progress) (w : Stretch) (all : Tale) (left : Now → Tale) →
    Going me start w now all left → ((y : Now) → left y ≡ ended_at y no_more) → Tells me start w now all
going_stop me start now w all left at is =
    subst (λ (a : Tale). Tells me start w now a)
    (sym (at.goes ∙ (ap (and_tale at.before) (is (now_of at.before)) ∙ tale_done at.before at.well))) at.tells
