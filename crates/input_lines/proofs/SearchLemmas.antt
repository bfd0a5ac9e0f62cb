-- What a search for a newline says of the next start of a line.
use Rattle.std.proofs.Common.{◌≡◌, ◌≢◌, ℕ, ◌+◌, ◌-◌, ◌<◌, ◌≤◌, true, false, eqb, List, length, get_or, slice_range, Some, None, sym, ap, ◌∙◌, inl, inr, arith}
use Rattle.std.proofs.lemmas.Bool.{ne_eqb, eq-eqb, eqb-true}
use Rattle.memchr.specs.Find.{IsFirstByte, is_byte}
use Rattle.input_lines.specs.Cuts.{starts_line, next_start}
use Rattle.input_lines.proofs.RangeLemmas.{length-slice_range, get_or-slice_range}
use Rattle.input_lines.proofs.CutLemmas.{NoStart, next_start-is, or_right}

-- a line starts after a newline
pub starts_line-newline : (buffer : List ℕ) (p : ℕ) → get_or buffer (p - 1) 0 ≡ 10 → starts_line buffer p ≡ true
starts_line-newline buffer p is = or_right (eqb p 0) _ (eq-eqb _ _ is)

-- no line starts after any other byte
pub starts_line-other : (buffer : List ℕ) (p : ℕ) → 0 < p → get_or buffer (p - 1) 0 ≢ 10 → starts_line buffer p ≡ false
starts_line-other buffer p some other =
    let no : eqb p 0 ≡ false = ne_eqb p 0 (λ is. omega arith) in
    rw no (ne_eqb _ _ other)

-- the first newline from the preceding place on is directly before the next start
pub next_start-newline : (buffer : List ℕ) (target end k : ℕ) → 0 < target → target ≤ end → end ≤ length buffer →
    IsFirstByte (is_byte 10) (slice_range buffer (target - 1) end) (Some k) → (target + k ≤ end)
    × (next_start buffer target (end - target) ≡ target + k)
next_start-newline buffer target end k some ordered within found =
    let bytes = slice_range buffer (target - 1) end in
    let high : k < length bytes = found.0.high in
    let long : length bytes ≡ end - (target - 1) = length-slice_range buffer (target - 1) end within in
    let here : get_or bytes k 0 ≡ 10 = eqb-true _ _ found.1 in
    let place : target - 1 + k ≡ target + k - 1 = omega arith in
    let starts : starts_line buffer (target + k) ≡ true =
    starts_line-newline buffer (target + k) (ap (λ n. get_or buffer n 0) (sym place)
    ∙ sym (get_or-slice_range buffer (target - 1) end k (omega arith)) ∙ here) in
    let before : NoStart buffer target (target + k) = λ p from to.
    let at : target - 1 + (p - target) ≡ p - 1 = omega arith in
    starts_line-other buffer p (omega arith) (λ is. found.0.before (p - target) (omega arith) (omega arith)
    (eq-eqb _ _ (get_or-slice_range buffer (target - 1) end (p - target) (omega arith) ∙ ap (λ n. get_or buffer n 0) at ∙ is))) in (
      omega arith,
      next_start-is buffer target (end - target) (target + k)
          (record { low = omega arith; high = omega arith; before = before; stops = inr starts }),
    )

-- where there is no newline from the preceding place on, no line starts
pub next_start-missed : (buffer : List ℕ) (target end : ℕ) → 0 < target → target ≤ end → end ≤ length buffer →
    IsFirstByte (is_byte 10) (slice_range buffer (target - 1) end) None → next_start buffer target (end - target) ≡ end
next_start-missed buffer target end some ordered within missed =
    let bytes = slice_range buffer (target - 1) end in
    let long : length bytes ≡ end - (target - 1) = length-slice_range buffer (target - 1) end within in
    let before : NoStart buffer target end = λ p from to.
    let at : target - 1 + (p - target) ≡ p - 1 = omega arith in
    starts_line-other buffer p (omega arith) (λ is. missed (p - target) (omega arith) (omega arith)
    (eq-eqb _ _ (get_or-slice_range buffer (target - 1) end (p - target) (omega arith) ∙ ap (λ n. get_or buffer n 0) at ∙ is))) in
    next_start-is buffer target (end - target) end (record {
      low = omega arith;
      high = omega arith;
      before = before;
      stops =
          inl (omega arith);
    })
