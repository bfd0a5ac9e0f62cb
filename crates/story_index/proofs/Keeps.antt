-- The events of some tasks, as one more is read.
use Rattle.std.proofs.Common.{◌≡◌, ℕ, ◌+◌, ◌<◌, length, get_or, take, refl, sym, ap, ◌∙◌}
use Rattle.std.specs.Prelude.{Bool, true, false, List, [], ◌∷◌, ◌++◌, map, if◌then◌else◌}
use Rattle.exceptions.specs.Exceptions.{Label}
use Rattle.job_story.specs.Events.{Event}
use Rattle.job_story.specs.Focus.{is_among, of_tasks}
use Rattle.std.proofs.lemmas.List.{append-nil, map-append}
use Rattle.std.specs.Borrow.{Bor}
use Rattle.job_story.specs.declared.event.Event as held
use Rattle.story_index.specs.Seen.{event_in}
use Rattle.story_index.proofs.SeenMore.{seen_more}

-- whether an event goes in front of others, or not
in_front : (b : Bool) (e : Event) (xs ys zs : List Event) → xs ≡ ys ++ zs →
    (if b then e ∷ xs else xs) ≡ (if b then e ∷ ys else ys) ++ zs
in_front true e xs ys zs is = ap (λ rest. e ∷ rest) is
in_front false e xs ys zs is = is

-- the events of some tasks in two lists
pub of_tasks-append : (ls : List Label) (es fs : List Event) → of_tasks ls (es ++ fs) ≡ of_tasks ls es ++ of_tasks ls fs
of_tasks-append ls [] fs = refl
of_tasks-append ls (e ∷ es) fs =
    in_front (is_among e.task ls) e (of_tasks ls (es ++ fs)) (of_tasks ls es) (of_tasks ls fs) (of_tasks-append ls es fs)

-- the events of some tasks before one more event
before_more : (ls : List Label) (xs : List (Bor held.Event)) (i : ℕ) (x : Bor held.Event) → i < length xs → x ≡ get_or xs i x →
    of_tasks ls (map event_in (take (i + 1) xs)) ≡ of_tasks ls (map event_in (take i xs)) ++ of_tasks ls (event_in x ∷ [])
before_more ls xs i x within is =
    ap (of_tasks ls) (seen_more xs i x within is) ∙ of_tasks-append ls (map event_in (take i xs)) (event_in x ∷ [])

-- one more event, of one of the tasks
pub kept_more : (ls : List Label) (xs : List (Bor held.Event)) (i : ℕ) (x : Bor held.Event) (old : List (Bor held.Event)) → i < length xs → x ≡ get_or xs i x →
    is_among (event_in x).task ls ≡ true → map event_in old ≡ of_tasks ls (map event_in (take i xs)) →
    map event_in (old ++ x ∷ []) ≡ of_tasks ls (map event_in (take (i + 1) xs))
kept_more ls xs i x old within is among before =
    map-append event_in old (x ∷ [])
    ∙ ap (λ es. es ++ event_in x ∷ []) before
    ∙ ap (λ (b : Bool). of_tasks ls (map event_in (take i xs)) ++ (if b then event_in x ∷ [] else [])) (sym among)
    ∙ sym (before_more ls xs i x within is)

-- one more event, of another task
pub kept_same : (ls : List Label) (xs : List (Bor held.Event)) (i : ℕ) (x : Bor held.Event) (old : List (Bor held.Event)) → i < length xs → x ≡ get_or xs i x →
    is_among (event_in x).task ls ≡ false → map event_in old ≡ of_tasks ls (map event_in (take i xs)) →
    map event_in old ≡ of_tasks ls (map event_in (take (i + 1) xs))
kept_same ls xs i x old within is among before =
    before
    ∙ sym (append-nil (of_tasks ls (map event_in (take i xs))))
    ∙ ap (λ (b : Bool). of_tasks ls (map event_in (take i xs)) ++ (if b then event_in x ∷ [] else [])) (sym among)
    ∙ sym (before_more ls xs i x within is)
