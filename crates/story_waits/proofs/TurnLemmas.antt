-- The moves of one more event.
use Rattle.std.proofs.Common.{◌≡◌, ◌<◌, ℕ, suc, ◌+◌, arith, subst, List, [], ◌∷◌, ◌++◌, refl, sym, ap, ◌∙◌, length, map, drop, get_or}
use Rattle.std.specs.Prelude.{Bool, true, false, ◌||◌}
use Rattle.std.specs.Borrow.{Bor}
use Rattle.std.proofs.Math.Seq.{drop-cons}
use Rattle.std.proofs.lemmas.List.{append_assoc}
use Rattle.exceptions.specs.Exceptions.{Label}
use Rattle.job_story.specs.Story.{awaits, cancels, cleans, closes_channel, deadlocks, enters, enters_event, enters_object, finds, finds_closed, gets, gives_token_back, handles, is_cancelled, leaves, misses, queues, raises, replaces, sets, sleeps, waits, was_set}
use Rattle.job_story.specs.Events as story_events
use Rattle.job_story.specs.Events.{What, starts, happens, ends}
use Rattle.job_story.specs.Notes.{Turn, record_of, turns_by, turns_in}
use Rattle.job_story.specs.declared.event.Event.{Event}
use Rattle.story_index.specs.Seen.{event_in}
use Rattle.story_waits.specs.Moves.{may_move, some_may_move}

abbrev turns_at : List story_events.Event → ℕ → ℕ → story_events.Event → List Turn
turns_at walked i joined e = turns_by i (record_of e.task walked) joined e.task e.tick e.what

pub next : (i : ℕ) → suc i ≡ i + 1
next i = omega arith

-- the moves of the event at a place, and those of the others after it
pub read_one_more : (walked : List story_events.Event) (i joined : ℕ) (xs : List (Bor Event)) (x : Bor Event) (before now all : List Turn) →
    i < length xs → x ≡ get_or xs i x → now ≡ before ++ turns_at walked i joined (event_in x) →
    before ++ turns_in walked i joined (map event_in (drop i xs)) ≡ all →
    now ++ turns_in walked (i + 1) x.now.tick (map event_in (drop (i + 1) xs)) ≡ all
read_one_more walked i joined xs x before now all lt at is h =
    subst (λ n. now ++ turns_in walked (i + 1) x.now.tick (map event_in (drop n xs)) ≡ all) (next i)
    (let rest = turns_in walked (i + 1) x.now.tick (map event_in (drop (suc i) xs)) in
    ap (λ ts. ts ++ rest) is ∙ append_assoc before (turns_at walked i joined (event_in x)) rest
    ∙ ap (λ (y : Bor Event). before ++ (turns_at walked i joined (event_in y)
    ++ turns_in walked (i + 1) y.now.tick (map event_in (drop (suc i) xs)))) at
    ∙ ap (λ es. before ++ turns_in walked i joined (map event_in es)) (sym (drop-cons xs i x lt)) ∙ h)

-- what an event is that can have no moves has none
no_turns : (i place joined : ℕ) (task : Label) (t : ℕ) (what : What) → may_move what ≡ false → turns_by i place joined task t what ≡ []
no_turns i place joined task t (starts home part) none = refl
no_turns i place joined task t (ends home exc) none = refl
no_turns i place joined task t (happens (enters kind label deadline shield)) none = refl
no_turns i place joined task t (happens (enters_event label)) none = refl
no_turns i place joined task t (happens (sleeps until)) none = refl
no_turns i place joined task t (happens (is_cancelled by during in_cleanup)) none = let clash : true ≡ false = none in cc
no_turns i place joined task t (happens (finds lines)) none = refl
no_turns i place joined task t (happens (misses name)) none = refl
no_turns i place joined task t (happens (raises name)) none = refl
no_turns i place joined task t (happens (cancels label)) none = refl
no_turns i place joined task t (happens (sets label)) none = refl
no_turns i place joined task t (happens (awaits event)) none = refl
no_turns i place joined task t (happens (was_set event)) none = refl
no_turns i place joined task t (happens (enters_object kind label)) none = refl
no_turns i place joined task t (happens (queues ask object part left)) none = let clash : true ≡ false = none in cc
no_turns i place joined task t (happens (gets ask object at_once)) none = let clash : true ≡ false = none in cc
no_turns i place joined task t (happens (finds_closed ask object at_once)) none = let clash : true ≡ false = none in cc
no_turns i place joined task t (happens (deadlocks ask object)) none = let clash : true ≡ false = none in cc
no_turns i place joined task t (happens (gives_token_back object)) none = let clash : true ≡ false = none in cc
no_turns i place joined task t (happens (closes_channel object)) none = let clash : true ≡ false = none in cc
no_turns i place joined task t (happens (handles matched rest)) none = refl
no_turns i place joined task t (happens (cleans exc)) none = refl
no_turns i place joined task t (happens (replaces lost fresh)) none = refl
no_turns i place joined task t (happens (waits nursery exc)) none = refl
no_turns i place joined task t (happens (leaves kind label inside caught outside)) none = refl

no_event_moves : (b c : Bool) → (b || c) ≡ false → (b ≡ false) × (c ≡ false)
no_event_moves true c none = let clash : true ≡ false = none in cc
no_event_moves false c none = (refl, none)

-- events of which none can have moves have none
pub no_turns_in : (walked : List story_events.Event) (i joined : ℕ) (es : List story_events.Event) → some_may_move es ≡ false →
    turns_in walked i joined es ≡ []
no_turns_in walked i joined [] none = refl
no_turns_in walked i joined (e ∷ es) none =
    let parts = no_event_moves (may_move e.what) (some_may_move es) none in
    ap (λ ts. ts ++ turns_in walked (i + 1) e.tick es) (no_turns i (record_of e.task walked) joined e.task e.tick e.what parts.0)
    ∙ no_turns_in walked (i + 1) e.tick es parts.1
