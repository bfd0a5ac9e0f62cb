-- Which events are among those of a story, and among the same in order.
use Rattle.std.proofs.Common.{◌≡◌, Bool, true, false, Option, List, [], ◌∷◌, ◌++◌, ◌⊎◌, inl, inr}
use Rattle.std.specs.Prelude.{nat_le, if◌then◌else◌}
use Rattle.basics.specs.Sorting.{put_by}
use Rattle.input_lines.specs.Lines.{Range}
use Rattle.exceptions.specs.Exceptions.{Label, Exc}
use Rattle.job_story.specs.Story.{Happening}
use Rattle.job_story.specs.Events.{starts, happens, ends, Event, moment_of, in_order}
use Rattle.job_story.specs.Shown.{IsIn}

-- ---- one list after another

pub in_append : (x : Event) (es fs : List Event) → IsIn x (es ++ fs) → IsIn x es ⊎ IsIn x fs
in_append x [] fs i = inr i
in_append x (e ∷ es) fs (inl same) = inl (inl same)
in_append x (e ∷ es) fs (inr i) = after (in_append x es fs i)
  where
    after : IsIn x es ⊎ IsIn x fs → ((x ≡ e) ⊎ IsIn x es) ⊎ IsIn x fs
    after (inl j) = inl (inr j)
    after (inr j) = inr j

pub append_left : (x : Event) (es fs : List Event) → IsIn x es → IsIn x (es ++ fs)
append_left x [] fs i = absurd i
append_left x (e ∷ es) fs (inl same) = inl same
append_left x (e ∷ es) fs (inr i) = inr (append_left x es fs i)

pub append_right : (x : Event) (es fs : List Event) → IsIn x fs → IsIn x (es ++ fs)
append_right x [] fs i = i
append_right x (e ∷ es) fs i = inr (append_right x es fs i)

-- ---- in order

in_put : (x e : Event) (es : List Event) → IsIn x (put_by moment_of e es) → IsIn x (e ∷ es)
in_put x e [] i = i
in_put x e (y ∷ ys) i = by_test (nat_le e.tick y.tick) i (in_put x e ys)
  where
    after : IsIn x (e ∷ ys) → IsIn x (e ∷ y ∷ ys)
    after (inl same) = inl same
    after (inr j) = inr (inr j)

    by_test : (b : Bool) → IsIn x (if b then e ∷ y ∷ ys else y ∷ put_by moment_of e ys) → (IsIn x (put_by moment_of e ys) → IsIn x (e ∷ ys)) →
        IsIn x (e ∷ y ∷ ys)
    by_test true j f = j
    by_test false (inl same) f = inr (inl same)
    by_test false (inr j) f = after (f j)

put_in : (x e : Event) (es : List Event) → IsIn x (e ∷ es) → IsIn x (put_by moment_of e es)
put_in x e [] i = i
put_in x e (y ∷ ys) i = by_test (nat_le e.tick y.tick) i (put_in x e ys)
  where
    by_test : (b : Bool) → IsIn x (e ∷ y ∷ ys) → (IsIn x (e ∷ ys) → IsIn x (put_by moment_of e ys)) →
        IsIn x (if b then e ∷ y ∷ ys else y ∷ put_by moment_of e ys)
    by_test true j f = j
    by_test false (inl same) f = inr (f (inl same))
    by_test false (inr (inl same)) f = inl same
    by_test false (inr (inr j)) f = inr (f (inr j))

-- the same events are in both
pub from_order : (x : Event) (es : List Event) → IsIn x (in_order es) → IsIn x es
from_order x [] i = i
from_order x (e ∷ es) i = after (in_put x e (in_order es) i) (from_order x es)
  where
    after : IsIn x (e ∷ in_order es) → (IsIn x (in_order es) → IsIn x es) → IsIn x (e ∷ es)
    after (inl same) f = inl same
    after (inr j) f = inr (f j)

pub to_order : (x : Event) (es : List Event) → IsIn x es → IsIn x (in_order es)
to_order x [] i = i
to_order x (e ∷ es) (inl same) = put_in x e (in_order es) (inl same)
to_order x (e ∷ es) (inr i) = put_in x e (in_order es) (inr (to_order x es i))

-- ---- kinds of events

pub happens_is : (a b : Happening) → happens a ≡ happens b → a ≡ b
happens_is a b e = cc

pub no_start : (a : Happening) (home : Option Label) (part : Range) → happens a ≡ starts home part → ⊥
no_start a home part e = cc

pub no_end : (a : Happening) (home : Option Label) (exc : Option Exc) → happens a ≡ ends home exc → ⊥
no_end a home exc e = cc
