-- Columns that are capped at the maximum `u64`.
use Rattle.std.proofs.Common.{◌≡◌, ℕ, zero, suc, ◌+◌, ◌-◌, ◌<◌, Bool, leb, min, List, [], ◌∷◌, ◌++◌, length, take, drop, refl, sym, ap, ◌∙◌, arith}
use Rattle.std.proofs.lemmas.List.{take_min, drop_min}
use Rattle.job_tokens.specs.Canon.{token}
use Rattle.job_layout.specs.declared.spaced.Gap.{Gap}
use Rattle.job_layout.specs.declared.spaced.Gap.TheVariants as gaps
use Rattle.job_layout.specs.declared.spaced.SpacedToken.{SpacedToken}
use Rattle.job_layout.specs.Spaced.{indent, start_column, column_after}
use Rattle.job_layout.specs.Layout.{fits}
use Rattle.std.specs.Io.Iter.{u64_saturate}

pub indent_more : (n : ℕ) → 0 < n → indent n ≡ 32 ∷ 32 ∷ indent (n - 1)
indent_more zero some = absurd (omega arith)
indent_more (suc n) some = let k : suc n - 1 ≡ n = omega arith in rw k refl

pub column_append : (c : ℕ) (xs ys : List SpacedToken) → column_after c (xs ++ ys) ≡ column_after (column_after c xs) ys
column_append c [] ys = refl
column_append c (x ∷ xs) ys = column_append (start_column c x.gap + length (token x.shape)) xs ys

-- the column after the first of some tokens
capped_first : (c d w : ℕ) (gap : Gap) → u64_saturate c ≡ u64_saturate d → u64_saturate (start_column c gap + w) ≡ u64_saturate (start_column d gap + w)
capped_first c d w gaps.Joined e = omega (arith, e)
capped_first c d w gaps.Space e = omega (arith, e)
capped_first c d w (gaps.Line level) e = refl

pub capped_after : (c d : ℕ) (ts : List SpacedToken) → u64_saturate c ≡ u64_saturate d → u64_saturate (column_after c ts) ≡ u64_saturate (column_after d ts)
capped_after c d [] e = e
capped_after c d (t ∷ ts) e =
    capped_after (start_column c t.gap + length (token t.shape)) (start_column d t.gap + length (token t.shape)) ts
    (capped_first c d (length (token t.shape)) t.gap e)

-- one more token
pub capped_next : (c end w : ℕ) (t : SpacedToken) (ts : List SpacedToken) → w ≡ length (token t.shape) →
    end ≡ u64_saturate (u64_saturate (start_column c t.gap) + w) → u64_saturate (column_after end ts) ≡ u64_saturate (column_after c (t ∷ ts))
capped_next c end w t ts is e =
    capped_after end (start_column c t.gap + length (token t.shape)) ts (omega (arith, is, e))

pub capped_fits : (n : ℕ) → leb (u64_saturate n) 80 ≡ leb n 80
capped_fits n = grind arith

-- whether tokens fit, decided by the columns that are counted
pub fits_by : (before ts : List SpacedToken) (column end : ℕ) → column ≡ u64_saturate (column_after 0 before) → end ≡ u64_saturate (column_after column ts) →
    leb end 80 ≡ fits before ts
fits_by before ts column end is at =
    ap (λ (n : ℕ). leb n 80) (at ∙ capped_after column (column_after 0 before) ts (omega (arith, is)))
    ∙ capped_fits (column_after (column_after 0 before) ts)

-- the column that is kept, after one more token
pub next_by : (before : List SpacedToken) (t : SpacedToken) (column end : ℕ) → column ≡ u64_saturate (column_after 0 before) →
    end ≡ u64_saturate (u64_saturate (start_column column t.gap) + length (token t.shape)) → end ≡ u64_saturate (column_after 0 (before ++ t ∷ []))
next_by before t column end is at =
    let next : u64_saturate end ≡ u64_saturate (column_after column (t ∷ [])) = capped_next column end (length (token t.shape)) t [] refl at in
    let same : u64_saturate (column_after column (t ∷ [])) ≡ u64_saturate (column_after (column_after 0 before) (t ∷ [])) =
    capped_after column (column_after 0 before) (t ∷ []) (omega (arith, is)) in
    omega (arith, at, next, same, column_append 0 before (t ∷ []))

-- ---- flags

drop_next : (n : ℕ) (xs inner : List Bool) (first : Bool) → drop n xs ≡ first ∷ inner → drop (suc n) xs ≡ inner
drop_next zero [] inner first e = absurd (no_first inner first e)
  where
    no_first : (ys : List Bool) (y : Bool) → [] ≡ y ∷ ys → ⊥
    no_first ys y p = cc
drop_next zero (x ∷ xs) inner first e = tail_of xs inner x first e
  where
    tail_of : (us vs : List Bool) (u v : Bool) → u ∷ us ≡ v ∷ vs → us ≡ vs
    tail_of us vs u v p = cc
drop_next (suc n) [] inner first e = absurd (no_first inner first e)
  where
    no_first : (ys : List Bool) (y : Bool) → [] ≡ y ∷ ys → ⊥
    no_first ys y p = cc
drop_next (suc n) (x ∷ xs) inner first e = drop_next n xs inner first e

-- the flags of the tokens after the first of some tokens
pub inner_flags : (bare from inner : List Bool) (first : Bool) (before count n less most : ℕ) → n ≡ min before (length bare) → from ≡ drop n bare →
    from ≡ first ∷ inner → less ≡ count - 1 → most ≡ min less (length inner) → take most inner ≡ take (count - 1) (drop (before + 1) bare)
inner_flags bare from inner first before count n less most is_n is_from split is_less is_most =
    let k : before + 1 ≡ suc before = omega arith in
    let after : drop before bare ≡ first ∷ inner =
    sym (drop_min before bare) ∙ ap (λ (i : ℕ). drop i bare) (sym is_n) ∙ sym is_from ∙ split in
    let same : drop (before + 1) bare ≡ inner = ap (λ (i : ℕ). drop i bare) k ∙ drop_next before bare inner first after in
    ap (λ (i : ℕ). take i inner) (is_most ∙ ap (λ (i : ℕ). min i (length inner)) is_less) ∙ take_min (count - 1) inner
    ∙ ap (take (count - 1)) (sym same)
