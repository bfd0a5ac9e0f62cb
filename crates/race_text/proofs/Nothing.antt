-- An event that concerns no other meets none.
use Rattle.std.proofs.Common.{◌≡◌, refl, sym, ◌∙◌, true≢false}
use Rattle.std.specs.Prelude.{ℕ, Bool, true, false, ◌&&◌, ◌||◌, List, [], ◌∷◌, Option, Some, None, is_some}
use Rattle.exceptions.specs.Exceptions.{Label}
use Rattle.job_story.specs.Events.{What}
use Rattle.race_text.specs.Copies.{Sight, acts, cancels_some, contended, used, is_same_object, concerns, may_meet, first_meeting}

concerns_none : (a b : What) → may_meet a ≡ false → concerns a b ≡ false
concerns_none a b none = by_both (cancels_some a) (contended a) none
  where
    by_both : (c : Bool) (o : Option Label) → (c || is_some o) ≡ false → ((c && acts b) || is_same_object o (used b)) ≡ false
    by_both true o h = absurd (true≢false h)
    by_both false None h = refl
    by_both false (Some l) h = absurd (true≢false h)

meets_none : (hair : ℕ) (a : Sight) (bs : List Sight) → may_meet a.what ≡ false → first_meeting hair a bs ≡ None
meets_none hair a [] none = refl
meets_none hair a (b ∷ bs) none = rw (concerns_none a.what b.what none) (meets_none hair a bs none)

-- the same, by the test as the code does it
pub meets_none_by : (hair : ℕ) (a : Sight) (bs : List Sight) (b : Bool) → b ≡ may_meet a.what → b ≡ false → None ≡ first_meeting hair a bs
meets_none_by hair a bs b by none = sym (meets_none hair a bs (sym by ∙ none))
