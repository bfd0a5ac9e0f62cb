-- The first of the events, as one more is read.
use Rattle.std.proofs.Common.{◌≡◌, ℕ, refl, sym, ap, ◌∙◌}
use Rattle.std.specs.Prelude.{◌+◌, ◌==◌, Bool, true, false, Option, Some, None, List, [], ◌∷◌, ◌++◌, if◌then◌else◌}
use Rattle.std.specs.Option.{option_map, option_or}
use Rattle.exceptions.specs.Exceptions.{Label}
use Rattle.job_meaning.specs.Log.{Table, same_label}
use Rattle.job_story.specs.Story.{Happening, enters}
use Rattle.job_story.specs.Events.{What, starts, happens, ends, Event}
use Rattle.job_story.specs.Causes.{Cause, Entering, entering_by, entering_of, cause_in, or_later, signed_by}
use Rattle.job_story.specs.CancelledFrom.{table_in}
use Rattle.story_index.specs.declared.causes.Causes.{Causes}
use Rattle.story_index.specs.Found.{entering_in_code, cause_in_code, value_at}
use Rattle.story_index.specs.Knows.{Knows}

-- the cause that an event is for the cancellation of a label from a tick on
abbrev sign_from : Label → ℕ → Event → Option Cause
sign_from l from e = if e.tick + 1 == from then cause_in l e.tick e.task e.what else None

-- ---- how a label was entered

-- what is last stays last under a test
if_first : (b : Bool) (x : Entering) (o n : Option Entering) →
    (if b then Some x else option_or o n) ≡ option_or (if b then Some x else o) n
if_first true x o n = refl
if_first false x o n = refl

-- and under what happens to a task
entering_in_first : (l : Label) (h : Happening) (o n : Option Entering) →
    entering_by l (happens h) (option_or o n) ≡ option_or (entering_by l (happens h) o) n
entering_in_first l (enters kind label deadline shield) o n =
    if_first (same_label l label) (record { kind = kind; deadline = deadline }) o n
entering_in_first l _ o n = refl

-- and under any event
entering_by_first : (l : Label) (w : What) (o n : Option Entering) →
    entering_by l w (option_or o n) ≡ option_or (entering_by l w o) n
entering_by_first l (starts home part) o n = refl
entering_by_first l (happens h) o n = entering_in_first l h o n
entering_by_first l (ends home exc) o n = refl

-- one more event adds how it enters a label that was not entered before
pub entering_of_more : (l : Label) (es : List Event) (e : Event) →
    entering_of l (es ++ e ∷ []) ≡ option_or (entering_of l es) (entering_by l e.what None)
entering_of_more l [] e = refl
entering_of_more l (x ∷ es) e =
    ap (entering_by l x.what) (entering_of_more l es e)
    ∙ entering_by_first l x.what (entering_of l es) (entering_by l e.what None)

-- ---- what cancelled it

-- what is last stays last under an earlier cause
or_later_first : (c o n : Option Cause) → or_later c (option_or o n) ≡ option_or (or_later c o) n
or_later_first None o n = refl
or_later_first (Some c) o n = refl

-- nothing after a cause
or_later_none : (c : Option Cause) → or_later c None ≡ c
or_later_none None = refl
or_later_none (Some c) = refl

-- one more event adds its cause where there was none before
pub signed_by_more : (l : Label) (from : ℕ) (es : List Event) (e : Event) →
    signed_by l from (es ++ e ∷ []) ≡ option_or (signed_by l from es) (sign_from l from e)
signed_by_more l from [] e = or_later_none (sign_from l from e)
signed_by_more l from (x ∷ es) e =
    ap (or_later (sign_from l from x)) (signed_by_more l from es e)
    ∙ or_later_first (sign_from l from x) (signed_by l from es) (sign_from l from e)

-- ---- what the index knows

-- the index after one more event
pub knows_more : (old new : Causes) (table : Table) (es : List Event) (e : Event) → Knows old table es →
    new.cancelled_from ≡ old.cancelled_from →
    ((l : Label) → option_map entering_in_code (value_at new.entered l)
    ≡ option_or (option_map entering_in_code (value_at old.entered l)) (entering_by l e.what None)) →
    ((l : Label) (from : ℕ) → table_in old.cancelled_from.now l ≡ Some from → option_map cause_in_code (value_at new.signed l)
    ≡ option_or (option_map cause_in_code (value_at old.signed l)) (sign_from l from e)) →
    Knows new table (es ++ e ∷ [])
knows_more old new table es e known stays entered signed =
    record {
      cancelled_from = λ l. ap (λ f. table_in f.now l) stays ∙ known.cancelled_from l;
      entered = λ l.
          entered l ∙ ap (λ o. option_or o (entering_by l e.what None)) (known.entered l) ∙ sym (entering_of_more l es e);
      signed = λ l from is.
          signed l from (known.cancelled_from l ∙ is)
          ∙ ap (λ o. option_or o (sign_from l from e)) (known.signed l from is)
          ∙ sym (signed_by_more l from es e);
    }
