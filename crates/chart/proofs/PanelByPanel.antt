-- Panels that are appended one after the other.
use Rattle.std.proofs.Common.{◌≡◌, ℕ, zero, suc, ◌-◌, ◌<◌, ◌≤◌, List, [], ◌∷◌, ◌++◌, take, drop, length, map, refl, sym, ap, ◌∙◌, append_assoc, arith}
use Rattle.job_meaning.specs.declared.clock.Clock.{Clock}
use Rattle.chart.specs.Bars.{Bar}
use Rattle.chart.specs.Columns as columns
use Rattle.chart.specs.declared.column.Column.{Column}
use Rattle.chart.specs.HeldColumns.{column_of}
use Rattle.chart.specs.Text.{panel_text, panels_text}

-- ---- the columns of a panel, and those after it

take_held : (size n : ℕ) (cs : List Column) → n ≤ size → n ≤ length cs → (n < length cs → size ≤ n) →
    map column_of (take n cs) ≡ take size (map column_of cs)
take_held zero zero cs small within full = refl
take_held (suc size) zero [] small within full = refl
take_held (suc size) zero (c ∷ cs) small within full = absurd (omega (arith, full (omega arith)))
take_held zero (suc n) cs small within full = absurd (omega (arith, small))
take_held (suc size) (suc n) [] small within full = absurd (omega (arith, within))
take_held (suc size) (suc n) (c ∷ cs) small within full =
    ap (λ held. column_of c ∷ held)
    (take_held size n cs (omega (arith, small)) (omega (arith, within)) (λ less. omega (arith, full (omega (arith, less)))))

drop_held : (size n : ℕ) (cs : List Column) → n ≤ size → n ≤ length cs → (n < length cs → size ≤ n) →
    map column_of (drop n cs) ≡ drop size (map column_of cs)
drop_held zero zero cs small within full = refl
drop_held (suc size) zero [] small within full = refl
drop_held (suc size) zero (c ∷ cs) small within full = absurd (omega (arith, full (omega arith)))
drop_held zero (suc n) cs small within full = absurd (omega (arith, small))
drop_held (suc size) (suc n) [] small within full = absurd (omega (arith, within))
drop_held (suc size) (suc n) (c ∷ cs) small within full =
    drop_held size n cs (omega (arith, small)) (omega (arith, within)) (λ less. omega (arith, full (omega (arith, less))))

-- ---- one panel, and then the others

one_more : (left : ℕ) → 0 < left → left ≡ suc (left - 1)
one_more left some = omega (arith, some)

first_panel : (clock : Clock) (width last less names : ℕ) (bars : List Bar) (size left : ℕ) (cs : List columns.Column) → 0 < left →
    panels_text clock width last less names bars size left cs
    ≡ panel_text clock width last less names bars (take size cs) ++ panels_text clock width last less names bars size (left - 1) (drop size cs)
first_panel clock width last less names bars size left cs some =
    ap (λ n. panels_text clock width last less names bars size n cs) (one_more left some)

-- with one more panel of the columns that are left, the text of the panels that are left is that of one less
pub more_panels : (clock : Clock) (width last less names : ℕ) (bars : List Bar) (size end left : ℕ) (rest panel others : List Column)
    (before after whole : List ℕ) → 0 < left → end ≤ size → end ≤ length rest → (end < length rest → size ≤ end) →
    panel ≡ take end rest → others ≡ drop end rest →
    after ≡ before ++ panel_text clock width last less names bars (map column_of panel) →
    before ++ panels_text clock width last less names bars size left (map column_of rest) ≡ whole →
    after ++ panels_text clock width last less names bars size (left - 1) (map column_of others) ≡ whole
more_panels clock width last less names bars size end left rest panel others before after whole some small within full is_panel is_others appended so_far =
    let text = panel_text clock width last less names bars in
    let texts = panels_text clock width last less names bars size in
    let here : map column_of panel ≡ take size (map column_of rest) = ap (map column_of) is_panel ∙ take_held size end rest small within full in
    let there : map column_of others ≡ drop size (map column_of rest) = ap (map column_of) is_others ∙ drop_held size end rest small within full in
    let step : texts left (map column_of rest) ≡ text (map column_of panel) ++ texts (left - 1) (map column_of others) =
    first_panel clock width last less names bars size left (map column_of rest) some
    ∙ ap (λ cs. text cs ++ texts (left - 1) (drop size (map column_of rest))) (sym here)
    ∙ ap (λ cs. text (map column_of panel) ++ texts (left - 1) cs) (sym there) in
    ap (λ out. out ++ texts (left - 1) (map column_of others)) appended
    ∙ append_assoc before (text (map column_of panel)) (texts (left - 1) (map column_of others))
    ∙ ap (λ out. before ++ out) (sym step) ∙ so_far

-- where no panel is left, everything is there
pub all_panels : (clock : Clock) (width last less names : ℕ) (bars : List Bar) (size left : ℕ) (rest : List Column) (out whole : List ℕ) →
    left ≤ 0 → out ++ panels_text clock width last less names bars size left (map column_of rest) ≡ whole → out ++ [] ≡ whole
all_panels clock width last less names bars size zero rest out whole none so_far = so_far
all_panels clock width last less names bars size (suc left) rest out whole none so_far = absurd (omega (arith, none))
