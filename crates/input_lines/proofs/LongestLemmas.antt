-- The first of the longest lines, found by searching for longer lines.
use Rattle.std.proofs.Common.{◌≡◌, ℕ, ◌<◌, ◌≤◌, true, false, ltb, List, [], ◌∷◌, length, refl, sym, ap, ◌∙◌, ⊎_elim, arith}
use Rattle.std.proofs.lemmas.Bool.{lt-ltb, ltb-true, cases_Bool}
use Rattle.input_lines.specs.Lines.{Span, from_longer}
use Rattle.input_lines.specs.Kernels.{longest_among}

-- lines that are not longer than the first make no difference
longest-from : (l : Span) (ls : List Span) → longest_among (l ∷ ls) ≡ longest_among (l ∷ from_longer l.len ls)
longest-from l [] = refl
longest-from l (m ∷ ms) =
    ⊎_elim
    (λ (yes_is : ltb l.len m.len ≡ true).
    let all : from_longer l.len (m ∷ ms) ≡ m ∷ ms = rw yes_is refl in
    ap (λ xs. longest_among (l ∷ xs)) (sym all))
    (λ (no_is : ltb l.len m.len ≡ false).
    let kept : longest_among (l ∷ m ∷ ms) ≡ longest_among (l ∷ ms) = rw no_is refl in
    let passed : from_longer l.len (m ∷ ms) ≡ from_longer l.len ms = rw no_is refl in
    kept ∙ longest-from l ms ∙ ap (λ xs. longest_among (l ∷ xs)) (sym passed))
    (cases_Bool (ltb l.len m.len))

abbrev first_len : List Span → ℕ
first_len [] = 0
first_len (l ∷ ls) = l.len

-- the first line that is left is longer
from_longer-head : (n : ℕ) (ls : List Span) (m : Span) (ms : List Span) → from_longer n ls ≡ m ∷ ms → n < m.len
from_longer-head n [] m ms is = absurd (omega (arith, ap length is))
from_longer-head n (l ∷ ls) m ms is =
    ⊎_elim
    (λ (yes_is : ltb n l.len ≡ true). let same : l.len ≡ m.len = ap first_len (rw yes_is at is) in omega (arith, ltb-true n l.len yes_is))
    (λ (no_is : ltb n l.len ≡ false). from_longer-head n ls m ms (rw no_is at is))
    (cases_Bool (ltb n l.len))

longest-next : (l m : Span) (ms : List Span) → l.len < m.len → longest_among (l ∷ m ∷ ms) ≡ longest_among (m ∷ ms)
longest-next l m ms longer = rw (lt-ltb l.len m.len longer) refl

-- the first longer line takes the place of the line before
pub longest-longer : (l : Span) (ls : List Span) (m : Span) (ms : List Span) → from_longer l.len ls ≡ m ∷ ms →
    longest_among (l ∷ ls) ≡ longest_among (m ∷ ms)
longest-longer l ls m ms is = longest-from l ls ∙ ap (λ xs. longest_among (l ∷ xs)) is
    ∙ longest-next l m ms (from_longer-head l.len ls m ms is)

-- where no line is longer it is the longest
pub longest-last : (l : Span) (ls : List Span) → from_longer l.len ls ≡ [] → longest_among (l ∷ ls) ≡ l ∷ []
longest-last l ls is = longest-from l ls ∙ ap (λ xs. longest_among (l ∷ xs)) is

from_longer-length : (n : ℕ) (ls : List Span) → length (from_longer n ls) ≤ length ls
from_longer-length n [] = omega arith
from_longer-length n (l ∷ ls) =
    ⊎_elim
    (λ (yes_is : ltb n l.len ≡ true). rw yes_is (omega arith))
    (λ (no_is : ltb n l.len ≡ false). rw no_is (omega (arith, from_longer-length n ls)))
    (cases_Bool (ltb n l.len))

-- fewer lines are left after it
pub longer-fewer : (n : ℕ) (ls : List Span) (m : Span) (ms : List Span) → from_longer n ls ≡ m ∷ ms → length ms < length ls
longer-fewer n ls m ms is = omega (arith, ap length is, from_longer-length n ls)
