-- What handlers and cleanups continue with.
use Rattle.std.proofs.Common.{◌≡◌, ℕ, Option, Some, None, List, sym, subst, ◌∙◌}
use Rattle.std.specs.Option.{option_map}
use Rattle.exceptions.specs.Exceptions.{Label, Exc}
use Rattle.exceptions.specs.Held.{exc_of}
use Rattle.exceptions.specs.Split.{Wanted, keep, drop}
use Rattle.job_meaning.specs.Moments.{Now}
use Rattle.job_story.specs.Story.{Tale, happened, handles, cleans, then_story}
use Rattle.job_story.specs.Tell.{now_of, story_of_one, handled_by, handled_if, handled_exc, tell_handled, replacement, cleaned_by, tell_cleaned}
use Rattle.job_story.specs.declared.event.Event as held
use Rattle.job_story.specs.declared.progress.Progress.{Progress}
use Rattle.job_story.specs.declared.stretch.Stretch.{Stretch}
use Rattle.job_story.specs.Tales.{IsStretchOf, Adds, Tells, own_of}
use Rattle.job_story.proofs.Adding.{adds_then}

-- nothing was raised
pub not_raised : (me : Label) (before : List held.Event) (after : Progress) (w : Stretch) (wanted : Wanted) (a : Tale) (go : Now → Tale) →
    a.exc ≡ None →
    Tells me before w after a → Tells me before w after (tell_handled wanted a go)
unfolding tell_handled
not_raised me before after w wanted a go e h = subst (λ (o : Option Exc). Tells me before w after (handled_exc o wanted a go)) (sym e) h

-- nothing that was raised is wanted
pub not_wanted : (me : Label) (before : List held.Event) (after : Progress) (w : Stretch) (wanted : Wanted) (a : Tale)
    (go : Now → Tale) (e : Exc) →
    a.exc ≡ Some e →
    keep wanted e ≡ None → Tells me before w after a → Tells me before w after (tell_handled wanted a go)
unfolding tell_handled
not_wanted me before after w wanted a go e raised none h =
    subst (λ (o : Option Exc). Tells me before w after (handled_exc o wanted a go)) (sym raised)
    (subst (λ (o : Option Exc). Tells me before w after (handled_if o (drop wanted e) a go)) (sym none) h)

-- something that was raised is wanted
pub is_wanted : (me : Label) (before : List held.Event) (after : Progress) (w : Stretch) (wanted : Wanted) (a : Tale)
    (go : Now → Tale) (e m : Exc) (rest : Option Exc) →
    a.exc ≡ Some e → Some m ≡ keep wanted e → rest ≡ drop wanted e → Tells me before w after (handled_by m rest a (go (now_of a))) →
    Tells me before w after (tell_handled wanted a go)
unfolding tell_handled
is_wanted me before after w wanted a go e m rest raised kept dropped h =
    subst (λ (o : Option Exc). Tells me before w after (handled_exc o wanted a go)) (sym raised)
    (subst (λ (o : Option Exc). Tells me before w after (handled_if o (drop wanted e) a go)) kept
    (subst (λ (o : Option Exc). Tells me before w after (handled_by m o a (go (now_of a)))) dropped h))

-- the handler ran
pub tells_handled : (me : Label) (start : List held.Event) (mid : Progress) (begun : List held.Event) (now : Progress)
    (stretch next w : Stretch) (m : Exc)
    (rest : Option Exc) (a b : Tale) →
    Tells me start stretch mid a → Adds me mid.events.items begun (story_of_one stretch.end (handles m rest)) → Tells me begun next now b →
    ((x : Exc) (p q : Tale) → IsStretchOf stretch p → IsStretchOf next q → IsStretchOf w (handled_by x rest p q)) →
    Tells me start w now (handled_by m rest a b)
tells_handled me start mid begun now stretch next w m rest a b h k n join =
    let handling : Adds me mid.events.items begun (story_of_one a.end (handles m rest)) =
    subst (λ (t : ℕ). Adds me mid.events.items begun (story_of_one t (handles m rest))) h.stretch.end k in
    record {
      stretch = join m a b h.stretch n.stretch;
      events = adds_then me start mid.events.items now.events.items a.story (happened a.end (handles m rest) b.story) h.events
          (adds_then me mid.events.items begun now.events.items _ b.story handling n.events);
      own = n.own;
    }

-- the cleanup ran
pub tells_cleaned : (me : Label) (start : List held.Event) (mid : Progress) (begun : List held.Event) (over now : Progress)
    (stretch next w : Stretch)
    (a : Tale) (go : Now → Tale) →
    Tells me start stretch mid a → Adds me mid.events.items begun (story_of_one stretch.end (cleans (option_map exc_of stretch.exc))) →
    Tells me begun next over (go (now_of a)) →
    Adds me over.events.items now.events.items (replacement (option_map exc_of stretch.exc) (option_map exc_of next.exc) next.end) →
    own_of now ≡ own_of over → ((p q : Tale) → IsStretchOf stretch p → IsStretchOf next q → IsStretchOf w (cleaned_by p q)) →
    Tells me start w now (tell_cleaned a go)
unfolding tell_cleaned
tells_cleaned me start mid begun over now stretch next w a go h k n r own join =
    let b = go (now_of a) in
    let cleaning : Adds me mid.events.items begun (story_of_one a.end (cleans a.exc)) =
    subst (λ (t : ℕ). Adds me mid.events.items begun (story_of_one t (cleans a.exc))) h.stretch.end
    (subst (λ (o : Option Exc). Adds me mid.events.items begun (story_of_one stretch.end (cleans o))) h.stretch.exc k) in
    let replacing : Adds me over.events.items now.events.items (replacement a.exc b.exc b.end) =
    subst (λ (t : ℕ). Adds me over.events.items now.events.items (replacement a.exc b.exc t)) n.stretch.end
    (subst (λ (o : Option Exc). Adds me over.events.items now.events.items (replacement a.exc o next.end)) n.stretch.exc
    (subst (λ (o : Option Exc). Adds me over.events.items now.events.items (replacement o (option_map exc_of next.exc) next.end))
    h.stretch.exc r)) in
    record {
      stretch = join a b h.stretch n.stretch;
      events =
          adds_then me start mid.events.items now.events.items a.story
          (happened a.end (cleans a.exc) (then_story b.story (replacement a.exc b.exc b.end))) h.events
          (adds_then me mid.events.items begun now.events.items (story_of_one a.end (cleans a.exc))
          (then_story b.story (replacement a.exc b.exc b.end)) cleaning
          (adds_then me begun over.events.items now.events.items b.story (replacement a.exc b.exc b.end) n.events replacing));
      own = own ∙ n.own;
    }
