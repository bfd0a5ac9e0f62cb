-- What a set contains, as more is added.
use Rattle.std.proofs.Common.{◌≡◌, ℕ, ◌+◌, ◌<◌, length, get_or, take, refl, sym, ap, ◌∙◌, cond}
use Rattle.std.specs.Prelude.{Bool, true, false, ◌||◌, List, [], ◌∷◌, ◌++◌, map}
use Rattle.std.specs.List.{list_any}
use Rattle.std.specs.Borrow.{Bor}
use Rattle.indexmap.specs.IndexSet.{IndexSet, contains_by, Updates, InsertsAll}
use Rattle.exceptions.specs.Exceptions.{Label}
use Rattle.job_meaning.specs.Log.{Table, same_label}
use Rattle.job_story.specs.Events.{Event}
use Rattle.std.specs.Borrow.{Bor}
use Rattle.job_story.specs.declared.event.Event as held
use Rattle.story_index.specs.Seen.{event_in}
use Rattle.story_index.specs.Added.{is_added, is_added_by}
use Rattle.story_index.proofs.Bools.{or_order, or_false}
use Rattle.story_index.proofs.SeenMore.{seen_more}

-- whether the label is in a set of borrowed labels
abbrev in_set : {S : Type 0} → IndexSet (Bor Label) S → Label → Bool
in_set set l = contains_by (λ k. same_label l k.now) set

by_test : (b o : Bool) → cond b true o ≡ (o || b)
by_test true true = refl
by_test true false = refl
by_test false true = refl
by_test false false = refl

-- equality of borrowed labels
abbrev same_seen : Bor Label → Bor Label → Bool
same_seen x y = same_label x.now y.now

-- the borrowed label that is asked for
abbrev pub asked : Bor Label → Label → Bor Label
asked k l = record { ref_ptr = k.ref_ptr; now = l }

turned : (k l : Label) (o : Bool) → same_label k l ≡ same_label l k → cond (same_label k l) true o ≡ (o || same_label l k)
turned k l o is = by_test (same_label k l) o ∙ ap (λ (b : Bool). o || b) is

-- one more label
pub one_added : {S : Type 0} (old new : IndexSet (Bor Label) S) (k : Bor Label) → Updates same_seen old new k true →
    (l : Label) → same_label k.now l ≡ same_label l k.now → in_set new l ≡ (in_set old l || same_label l k.now)
one_added old new k updates l is = updates.0 (asked k l) ∙ turned k.now l (in_set old l) is

-- one more event
pub is_added-append : (has : Label → Bool) (table : Table) (all : List Event) (l : Label) (es fs : List Event) →
    is_added has table all l (es ++ fs) ≡ (is_added has table all l es || is_added has table all l fs)
is_added-append has table all l [] fs = refl
is_added-append has table all l (e ∷ es) fs =
    ap (λ (b : Bool). is_added_by has table all l e || b) (is_added-append has table all l es fs)
    ∙ sym (or_order (is_added_by has table all l e) (is_added has table all l es) (is_added has table all l fs))

-- each label of a list
pub all_added : {S : Type 0} (old new : IndexSet (Bor Label) S) (ks : List (Bor Label)) → InsertsAll same_seen old ks new →
    (l : Label) → in_set new l ≡ (in_set old l || list_any (λ k. same_label l k.now) ks)
all_added old new ks inserts l = inserts.0 (record { ref_ptr = (0, 0); now = l })

-- a round as one more event is read
pub one_more_added : (has : Label → Bool) (table : Table) (all : List Event) (l : Label) (xs : List (Bor held.Event)) (i : ℕ) (x : Bor held.Event) (old new : Bool) →
    i < length xs → x ≡ get_or xs i x → old ≡ is_added has table all l (map event_in (take i xs)) →
    new ≡ (old || is_added_by has table all l (event_in x)) → new ≡ is_added has table all l (map event_in (take (i + 1) xs))
one_more_added has table all l xs i x old new within is before adds =
    let front = map event_in (take i xs) in
    adds
    ∙ ap (λ (b : Bool). b || is_added_by has table all l (event_in x)) before
    ∙ ap (λ (b : Bool). is_added has table all l front || b) (or_false (is_added_by has table all l (event_in x)))
    ∙ sym (is_added-append has table all l front (event_in x ∷ []))
    ∙ ap (is_added has table all l) (sym (seen_more xs i x within is))
