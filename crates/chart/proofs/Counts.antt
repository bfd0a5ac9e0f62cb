-- How many things happen at the first of the columns.
use Rattle.std.proofs.Common.{◌≡◌, ℕ, suc, ◌+◌, ◌-◌, ◌^◌, ◌<◌, ◌≤◌, min, List, [], ◌∷◌, ◌++◌, length, sym, ap, ◌∙◌, subst, arith, eq-eqb}
use Rattle.std.specs.Prelude.{Bool, true, false, ◌==◌, if◌then◌else◌, map, reverse}
use Rattle.std.proofs.lemmas.Bool.{cond-true}
use Rattle.std.proofs.lemmas.List.{map-append}
use Rattle.chart.specs.Columns as columns
use Rattle.chart.specs.Columns.{with_tick, columns_in}
use Rattle.chart.specs.HeldColumns.{column_of}
use Rattle.chart.specs.declared.column.Column.{Column}
use Rattle.chart.proofs.Lists.{reverse_push}

-- at most the given number of things happen at the first of some columns
abbrev FewFirst : ℕ → List columns.Column → Type 0
FewFirst n [] = Unit {0}
FewFirst n (c ∷ cs) = c.count ≤ n

-- one more thing that happens adds at most one
few_if : (n t : ℕ) (b : Bool) (c : columns.Column) (cs : List columns.Column) → c.count ≤ n →
    FewFirst (suc n) (if b then record { tick = t; count = c.count + 1 } ∷ cs else record { tick = t; count = 1 } ∷ c ∷ cs)
few_if n t true c cs few = omega (arith, few)
few_if n t false c cs few = omega arith

few_counted : (n t : ℕ) (cs : List columns.Column) → FewFirst n cs → FewFirst (suc n) (with_tick t cs)
few_counted n t [] few = omega arith
few_counted n t (c ∷ cs) few = few_if n t (c.tick == t) c cs few

few_first : (ts : List ℕ) → FewFirst (length ts) (columns_in ts)
few_first [] = tt
few_first (t ∷ ts) = few_counted (length ts) t (columns_in ts) (few_first ts)

-- at most as many things happen at the first of the columns of some ticks as there are ticks
few_at_first : (ts : List ℕ) (c : columns.Column) (cs : List columns.Column) → columns_in ts ≡ c ∷ cs → c.count ≤ length ts
few_at_first ts c cs is = subst (FewFirst (length ts)) is (few_first ts)

-- columns in reverse order, with another last one
reverse_held : (rest : List Column) (c : Column) → reverse (map column_of (rest ++ c ∷ [])) ≡ column_of c ∷ reverse (map column_of rest)
reverse_held rest c = ap reverse (map-append column_of rest (c ∷ [])) ∙ reverse_push (map column_of rest) (column_of c)

-- one more thing that happens at the first column's tick
pub counted_again : (ts : List ℕ) (t n : ℕ) (old rest new : List Column) (c : Column) → length ts < 2 ^ 63 →
    columns_in ts ≡ reverse (map column_of old) → old ≡ rest ++ c ∷ [] → c.tick ≡ t → n ≡ min (c.count + 1) (2 ^ 64 - 1) →
    new ≡ rest ++ record { tick = t; count = n } ∷ [] → reverse (map column_of new) ≡ with_tick t (columns_in ts)
counted_again ts t n old rest new c short held parts here adds pushed =
    let before : columns_in ts ≡ column_of c ∷ reverse (map column_of rest) =
    held ∙ ap (λ l. reverse (map column_of l)) parts ∙ reverse_held rest c in
    let few = few_at_first ts (column_of c) (reverse (map column_of rest)) before in
    let more : n ≡ c.count + 1 = omega (arith, few) in
    ap (λ l. reverse (map column_of l)) pushed ∙ reverse_held rest (record { tick = t; count = n })
    ∙ ap (λ m. record { tick = t; count = m } ∷ reverse (map column_of rest)) more
    ∙ sym (cond-true _ _ _ (eq-eqb c.tick t here)) ∙ ap (with_tick t) (sym before)
