-- Where the cuts of a range lie.
use Rattle.std.proofs.Common.{◌≡◌, ◌≢◌, ◌⊎◌, ℕ, zero, suc, ◌+◌, ◌-◌, ◌*◌, ◌/◌, ◌<◌, ◌≤◌, Bool, true, false, ◌||◌, eqb, List, IsTrue, refl, sym, ap, subst, ◌∙◌, inl, inr, ⊎_elim, arith}
use Rattle.std.proofs.lemmas.Bool.{ne_eqb, eq-eqb, eqb-true, cases_eq, cases_lt, cases_Bool, both_ways}
use Rattle.std.proofs.lemmas.Nat.{le-div}
use Rattle.std.proofs.Math.Nat.{mul-le-mul_right, div-mul-le_self, div-le_of_le-mul}
use Rattle.input_lines.specs.Lines.{Range}
use Rattle.input_lines.specs.Cuts.{starts_line, next_start, cut_point}

-- no line starts from one place up to another
abbrev pub NoStart : List ℕ → ℕ → ℕ → Type 0
NoStart buffer from to = (p : ℕ) → from ≤ p → p < to → starts_line buffer p ≡ false

-- found is the first line start from a place on, or the end where there is none
pub record IsNextStart (buffer : List ℕ) (place end found : ℕ) : Type 0 where
  pub low : place ≤ found
  pub high : found ≤ end
  pub before : NoStart buffer place found
  pub stops : (found ≡ end) ⊎ (starts_line buffer found ≡ true)

-- where a line starts at the place itself, that place is the next start
pub next_start-stopped : (buffer : List ℕ) (place left : ℕ) → starts_line buffer place ≡ true → next_start buffer place left ≡ place
next_start-stopped buffer place zero here = refl
next_start-stopped buffer place (suc left) here = rw here refl

-- where none starts there, the next start is the one from the following place on
pub next_start-passed : (buffer : List ℕ) (place left : ℕ) → starts_line buffer place ≡ false →
    next_start buffer place (suc left) ≡ next_start buffer (place + 1) left
next_start-passed buffer place left none = rw none refl

-- the definition computes every next start
pub next_start-is : (buffer : List ℕ) (place left found : ℕ) → IsNextStart buffer place (place + left) found →
    next_start buffer place left ≡ found
next_start-is buffer place zero found is = let low = is.low in let high = is.high in omega arith
next_start-is buffer place (suc left) found is =
    let low = is.low in
    let high = is.high in
    ⊎_elim
    (λ (here : place ≡ found). ⊎_elim (λ (ends : found ≡ place + suc left). absurd (omega arith))
    (λ starts. next_start-stopped buffer place (suc left) (ap (starts_line buffer) here ∙ starts) ∙ here) is.stops)
    (λ (other : place ≢ found).
    let sum : place + suc left ≡ place + 1 + left = omega arith in
    let later : IsNextStart buffer (place + 1) (place + 1 + left) found = record {
      low = omega arith;
      high = omega arith;
      before = λ p from to. is.before p (omega arith) to;
      stops = subst (λ (e : ℕ). (found ≡ e) ⊎ (starts_line buffer found ≡ true)) sum is.stops;
    } in
    next_start-passed buffer place left (is.before place (omega arith) (omega arith)) ∙ next_start-is buffer (place + 1) left found later)
    (cases_eq place found)

-- what the definition computes is the next start
pub next_start-finds : (buffer : List ℕ) (place left : ℕ) → IsNextStart buffer place (place + left) (next_start buffer place left)
next_start-finds buffer place zero =
    record { low = omega arith; high = omega arith; before = λ p from to. absurd (omega arith); stops = inl (omega arith) }
next_start-finds buffer place (suc left) =
    ⊎_elim
    (λ (starts : starts_line buffer place ≡ true).
    let same = next_start-stopped buffer place (suc left) starts in
    let here : IsNextStart buffer place (place + suc left) place =
    record { low = omega arith; high = omega arith; before = λ p from to. absurd (omega arith); stops = inr starts } in
    subst (IsNextStart buffer place (place + suc left)) (sym same) here)
    (λ (none : starts_line buffer place ≡ false).
    let same = next_start-passed buffer place left none in
    let rest = next_start-finds buffer (place + 1) left in
    let low = rest.low in
    let high = rest.high in
    let found = next_start buffer (place + 1) left in
    let sum : place + 1 + left ≡ place + suc left = omega arith in
    let before : NoStart buffer place found = λ p from to. ⊎_elim (λ (is : p ≡ place). ap (starts_line buffer) is ∙ none)
    (λ (other : p ≢ place). rest.before p (omega arith) to) (cases_eq p place) in
    let here : IsNextStart buffer place (place + suc left) found = record {
      low = omega arith;
      high = omega arith;
      before = before;
      stops = subst (λ (e : ℕ). (found ≡ e) ⊎ (starts_line buffer found ≡ true)) sum rest.stops;
    } in
    subst (IsNextStart buffer place (place + suc left)) (sym same) here)
    (cases_Bool (starts_line buffer place))

-- a search from further on finds no earlier start
pub next_start-ordered : (buffer : List ℕ) (p q l m : ℕ) → p ≤ q → p + l ≡ q + m → next_start buffer p l ≤ next_start buffer q m
next_start-ordered buffer p q l m le same =
    let first = next_start-finds buffer p l in
    let second = next_start-finds buffer q m in
    let low = second.low in
    let high = first.high in
    ⊎_elim
    (λ (less : next_start buffer q m < next_start buffer p l).
    ⊎_elim (λ (ends : next_start buffer q m ≡ q + m). absurd (omega arith))
    (λ starts. absurd (both_ways _ (first.before (next_start buffer q m) (omega arith) less) starts)) second.stops)
    (λ (le : next_start buffer p l ≤ next_start buffer q m). le)
    (cases_lt (next_start buffer q m) (next_start buffer p l))

-- i of k equal steps of a length, rounded down, are no more than the length
pub step-le : (len k i : ℕ) → 0 < k → i ≤ k → i * len / k ≤ len
step-le len k i some le = div-le_of_le-mul k (mul-le-mul_right len le)

-- more of k equal steps of a length reach at least as far
pub step-ordered : (len k i j : ℕ) → 0 < k → i ≤ j → i * len / k ≤ j * len / k
step-ordered len k i j some le =
    let low : i * len / k * k ≤ i * len = div-mul-le_self (i * len) k in
    let high : i * len ≤ j * len = mul-le-mul_right len le in
    le-div (i * len / k) (j * len) k some (omega arith)

-- cut point k of k is the range's end
pub cut_point-last : (buffer : List ℕ) (r : Range) (k : ℕ) → 0 < k → cut_point buffer r k k ≡ r.to
cut_point-last buffer r k some =
    let no : eqb k 0 ≡ false = ne_eqb k 0 (λ is. omega arith) in
    let yes : eqb k k ≡ true = eq-eqb k k refl in
    rw no (rw yes refl)

-- where the i-th of k equal steps of a range ends
abbrev pub target_of : Range → ℕ → ℕ → ℕ
target_of r k i = r.from + i * (r.to - r.from) / k

-- any other cut point is the next line start from the end of its step on, searched for up to the range's end
pub cut_point-between : (buffer : List ℕ) (r : Range) (k i : ℕ) → i ≢ 0 → i ≢ k →
    cut_point buffer r k i ≡ next_start buffer (target_of r k i) (r.to - target_of r k i)
cut_point-between buffer r k i some less =
    let no : eqb i 0 ≡ false = ne_eqb i 0 some in
    let not_last : eqb i k ≡ false = ne_eqb i k less in
    rw no (rw not_last refl)

-- none of the k equal steps of a range ends after the range
pub target-le : (r : Range) (k i : ℕ) → r.from ≤ r.to → 0 < k → i ≤ k → target_of r k i ≤ r.to
target-le r k i ordered some le =
    let step = step-le (r.to - r.from) k i some le in
    omega arith

-- a cut point lies in the range, and is its end or the start of a line, or is the range's start
pub record IsCutPoint (buffer : List ℕ) (r : Range) (i place : ℕ) : Type 0 where
  pub low : r.from ≤ place
  pub high : place ≤ r.to
  pub stops : 0 < i → (place ≡ r.to) ⊎ (starts_line buffer place ≡ true)

-- each cut point lies in the range, and each but the first is the range's end or the start of a line
pub cut_point-lies : (buffer : List ℕ) (r : Range) (k i : ℕ) → r.from ≤ r.to → 0 < k → i ≤ k →
    IsCutPoint buffer r i (cut_point buffer r k i)
cut_point-lies buffer r k i ordered some le =
    ⊎_elim
    (λ (zero_is : i ≡ 0).
    let at : cut_point buffer r k i ≡ r.from = ap (cut_point buffer r k) zero_is in
    record { low = omega arith; high = omega arith; stops = λ more. absurd (omega arith) })
    (λ (not_zero : i ≢ 0).
    ⊎_elim
    (λ (last : i ≡ k).
    let at : cut_point buffer r k i ≡ r.to = ap (cut_point buffer r k) last ∙ cut_point-last buffer r k some in
    record { low = omega arith; high = omega arith; stops = λ more. inl at })
    (λ (not_last : i ≢ k).
    let target = target_of r k i in
    let within = target-le r k i ordered some le in
    let found = next_start-finds buffer target (r.to - target) in
    let low = found.low in
    let high = found.high in
    let end : target + (r.to - target) ≡ r.to = omega arith in
    let is : IsCutPoint buffer r i (next_start buffer target (r.to - target)) = record {
      low = omega arith;
      high = omega arith;
      stops = λ more. subst (λ (e : ℕ). (next_start buffer target (r.to - target) ≡ e)
          ⊎ (starts_line buffer (next_start buffer target (r.to - target)) ≡ true)) end found.stops;
    } in
    subst (IsCutPoint buffer r i) (sym (cut_point-between buffer r k i not_zero not_last)) is)
    (cases_eq i k))
    (cases_eq i 0)

-- each cut point is no later than the next
pub cut_point-ordered : (buffer : List ℕ) (r : Range) (k i : ℕ) → r.from ≤ r.to → i < k →
    cut_point buffer r k i ≤ cut_point buffer r k (i + 1)
cut_point-ordered buffer r k i ordered less =
    let here = cut_point-lies buffer r k i ordered (omega arith) (omega arith) in
    let next = cut_point-lies buffer r k (i + 1) ordered (omega arith) (omega arith) in
    let high = here.high in
    let low = next.low in
    ⊎_elim
    (λ (zero_is : i ≡ 0).
    let at : cut_point buffer r k i ≡ r.from = ap (cut_point buffer r k) zero_is in
    omega arith)
    (λ (not_zero : i ≢ 0).
    ⊎_elim
    (λ (last : i + 1 ≡ k).
    let at : cut_point buffer r k (i + 1) ≡ r.to = ap (cut_point buffer r k) last ∙ cut_point-last buffer r k (omega arith) in
    omega arith)
    (λ (not_last : i + 1 ≢ k).
    let first = target_of r k i in
    let second = target_of r k (i + 1) in
    let steps : i * (r.to - r.from) / k ≤ (i + 1) * (r.to - r.from) / k =
    step-ordered (r.to - r.from) k i (i + 1) (omega arith) (omega arith) in
    let within = target-le r k i ordered (omega arith) (omega arith) in
    let within_next = target-le r k (i + 1) ordered (omega arith) (omega arith) in
    let le = next_start-ordered buffer first second (r.to - first) (r.to - second) (omega arith) (omega arith) in
    let at = cut_point-between buffer r k i not_zero (λ is. omega arith) in
    let at_next = cut_point-between buffer r k (i + 1) (λ is. omega arith) not_last in
    omega (arith, le, at, at_next))
    (cases_eq (i + 1) k))
    (cases_eq i 0)

-- one of two tests passes where the first does
pub or_left : (a b : Bool) → a ≡ true → IsTrue (a || b)
or_left a b is = rw is refl

-- one of two tests passes where the second does
pub or_right : (a b : Bool) → b ≡ true → IsTrue (a || b)
or_right true b is = refl
or_right false b is = is

-- a cut starts where a line starts, or is empty
pub cut-aligned : (buffer : List ℕ) (r : Range) (k i : ℕ) → r.from ≤ r.to → i < k → IsTrue (starts_line buffer r.from || eqb r.from r.to) →
    IsTrue (starts_line buffer (cut_point buffer r k i) || eqb (cut_point buffer r k i) (cut_point buffer r k (i + 1)))
cut-aligned buffer r k i ordered less aligned =
    let here = cut_point-lies buffer r k i ordered (omega arith) (omega arith) in
    let next = cut_point-lies buffer r k (i + 1) ordered (omega arith) (omega arith) in
    let step = cut_point-ordered buffer r k i ordered less in
    let high = next.high in
    let at_end = λ (ends : cut_point buffer r k i ≡ r.to). or_right (starts_line buffer (cut_point buffer r k i)) _
    (eq-eqb (cut_point buffer r k i) (cut_point buffer r k (i + 1)) (omega arith)) in
    ⊎_elim
    (λ (zero_is : i ≡ 0).
    let at : cut_point buffer r k i ≡ r.from = ap (cut_point buffer r k) zero_is in
    ⊎_elim
    (λ (starts : starts_line buffer r.from ≡ true). or_left _ _ (ap (starts_line buffer) at ∙ starts))
    (λ (none : starts_line buffer r.from ≡ false).
    let empty : r.from ≡ r.to = eqb-true r.from r.to (rw none at aligned) in
    at_end (at ∙ empty))
    (cases_Bool (starts_line buffer r.from)))
    (λ (not_zero : i ≢ 0). ⊎_elim at_end (λ starts. or_left _ _ starts) (here.stops (omega arith)))
    (cases_eq i 0)

-- a range from a cut point to the range's end starts where a line starts, or is empty
pub rest-aligned : (buffer : List ℕ) (r : Range) (k i : ℕ) → r.from ≤ r.to → 0 < i → i ≤ k →
    IsTrue (starts_line buffer (cut_point buffer r k i) || eqb (cut_point buffer r k i) r.to)
rest-aligned buffer r k i ordered some le =
    let here = cut_point-lies buffer r k i ordered (omega arith) le in
    ⊎_elim
    (λ (ends : cut_point buffer r k i ≡ r.to). or_right (starts_line buffer (cut_point buffer r k i)) _ (eq-eqb _ _ ends))
    (λ starts. or_left _ _ starts)
    (here.stops some)
