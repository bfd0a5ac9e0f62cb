-- What a set and a map of tasks contain after an insertion.
use Rattle.std.proofs.Common.{◌≡◌, refl, ap, ◌∙◌, cond}
use Rattle.std.specs.Prelude.{Bool, true, false, ◌||◌, Option, Some, if◌then◌else◌}
use Rattle.std.specs.Borrow.{Bor}
use Rattle.indexmap.specs.IndexMap.{IndexMap}
use Rattle.indexmap.specs.IndexSet.{IndexSet}
use Rattle.exceptions.specs.Exceptions.{Label}
use Rattle.exceptions.specs.Labels.{same_label_equiv}
use Rattle.job_meaning.specs.Log.{same_label}
use Rattle.job_story.specs.Held.{event_of}
use Rattle.job_story.specs.declared.event.Event.{Event}
use Rattle.story_index.specs.Lasts.{is_among, event_at, seen_last}

or_by : (b x : Bool) → cond b true x ≡ (x || b)
or_by true true = refl
or_by true false = refl
or_by false true = refl
or_by false false = refl

-- a label at some place
abbrev pub at_some : Label → Bor Label
at_some l = record { ref_ptr = (0, 0); now = l }

-- a task that is inserted is among them, with all that were
pub among_more : {S : Type 0} (old new : IndexSet (Bor Label) S) (k : Label) →
    ((q : Bor Label) → is_among new q.now ≡ cond (same_label k q.now) true (is_among old q.now)) →
    (l : Label) → is_among new l ≡ (is_among old l || same_label l k)
among_more old new k updates l =
    updates (at_some l) ∙ or_by (same_label k l) (is_among old l) ∙ ap (λ b. is_among old l || b) (same_label_equiv.symm k l)

seen_by : (b : Bool) (e : Bor Event) (o : Option (Bor Event)) →
    seen_last (cond b (Some e) o) ≡ (if b then Some (event_of e.now) else seen_last o)
seen_by true e o = refl
seen_by false e o = refl

-- an event that is inserted is the last of its task
pub last_more : {S : Type 0} (old new : IndexMap (Bor Label) (Bor Event) S) (k : Label) (e : Bor Event) →
    ((q : Bor Label) → event_at new q.now ≡ cond (same_label k q.now) (Some e) (event_at old q.now)) →
    (l : Label) → seen_last (event_at new l) ≡ (if same_label l k then Some (event_of e.now) else seen_last (event_at old l))
last_more old new k e updates l =
    ap seen_last (updates (at_some l)) ∙ seen_by (same_label k l) e (event_at old l)
    ∙ ap (λ (b : Bool). if b then Some (event_of e.now) else seen_last (event_at old l)) (same_label_equiv.symm k l)
