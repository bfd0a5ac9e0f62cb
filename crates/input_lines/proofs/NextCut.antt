-- Where the next cut ends.
use Rattle.std.proofs.Common.{◌≡◌, ◌≢◌, ◌⊎◌, ℕ, ◌+◌, ◌-◌, ◌*◌, ◌/◌, ◌<◌, ◌≤◌, true, false, ◌||◌, eqb, List, IsTrue, sym, ap, subst, ◌∙◌, inl, inr, ⊎_elim, arith}
use Rattle.std.proofs.lemmas.Bool.{eqb-true, cases_eq, cases_Bool}
use Rattle.input_lines.specs.Lines.{Range}
use Rattle.input_lines.specs.Cuts.{starts_line, cut_point}
use Rattle.input_lines.proofs.CutLemmas.{IsNextStart, next_start-is, next_start-finds, cut_point-between, cut_point-lies, step-ordered, target_of}

-- where a cut ends after the next step, the next one ends there too
pub same_end : (buffer : List ℕ) (r : Range) (k i : ℕ) → r.from ≤ r.to → IsTrue (starts_line buffer r.from || eqb r.from r.to) → i + 1 < k →
    target_of r k (i + 1) ≤ cut_point buffer r k i
    → cut_point buffer r k (i + 1) ≡ cut_point buffer r k i
same_end buffer r k i ordered aligned less reached =
    let target = target_of r k (i + 1) in
    let here = cut_point buffer r k i in
    let lies = cut_point-lies buffer r k i ordered (omega arith) (omega arith) in
    let high = lies.high in
    let end : target + (r.to - target) ≡ r.to = omega arith in
    let is : IsNextStart buffer target r.to here = ⊎_elim
    (λ (zero_is : i ≡ 0).
    let at : here ≡ r.from = ap (cut_point buffer r k) zero_is in
    record {
      low = reached;
      high = high;
      before = λ p from to. absurd (omega arith);
      stops = ⊎_elim (λ (starts : starts_line buffer r.from ≡ true). inr (ap (starts_line buffer) at ∙ starts))
          (λ (none : starts_line buffer r.from ≡ false). inl (at ∙ eqb-true r.from r.to (rw none at aligned)))
          (cases_Bool (starts_line buffer r.from));
    })
    (λ (some : i ≢ 0).
    let first = target_of r k i in
    let between = cut_point-between buffer r k i some (λ is. omega arith) in
    let found = next_start-finds buffer first (r.to - first) in
    let steps : i * (r.to - r.from) / k ≤ (i + 1) * (r.to - r.from) / k =
    step-ordered (r.to - r.from) k i (i + 1) (omega arith) (omega arith) in
    record {
      low = reached;
      high = high;
      before = λ p from to. found.before p (omega arith) (omega arith);
      stops = lies.stops (omega arith);
    })
    (cases_eq i 0) in
    cut_point-between buffer r k (i + 1) (λ is. omega arith) (λ is. omega arith)
    ∙ next_start-is buffer target (r.to - target) here (subst (λ (e : ℕ). IsNextStart buffer target e here) (sym end) is)
