-- The last of the scopes that a task opened.
use Rattle.std.proofs.Common.{◌≡◌, ℕ, zero, suc, ◌+◌, ◌-◌, List, [], ◌∷◌, ◌++◌, ◌∙◌, map, length, Option, Some, None, refl, ap, arith}
use Rattle.std.specs.List.{slice_get, last_or}
use Rattle.std.proofs.lemmas.Option.{slice_get-get_or}
use Rattle.task_machine.specs.declared.task.Own.{Own}

abbrev pub ids : List Own → List ℕ
ids own = map (λ (o : Own). o.id) own

last_at : (o : Option ℕ) (own : List Own) (n : ℕ) (x : Own) → length own ≡ n + 1 → slice_get own n ≡ Some x →
    last_or o (ids own) ≡ Some x.id
last_at o [] n x long got = absurd (omega (arith, long))
last_at o (y ∷ []) zero x long got =
    let same : y ≡ x = (let e : Some y ≡ Some x = got in cc) in
    ap (λ (z : Own). Some z.id) same
last_at o (y ∷ []) (suc n) x long got = absurd (omega (arith, long))
last_at o (y ∷ z ∷ zs) zero x long got = absurd (omega (arith, long))
last_at o (y ∷ z ∷ zs) (suc n) x long got = last_at (Some y.id) (z ∷ zs) n x (omega (arith, long)) got

-- the last scope that a task opened is the innermost one that encloses it
pub last_own : (o : Option ℕ) (own : List Own) (x : Own) → slice_get own (length own - 1) ≡ Some x → last_or o (ids own) ≡ Some x.id
last_own o [] x got = absurd (let e : None ≡ Some x = got in cc)
last_own o (y ∷ ys) x got = last_at o (y ∷ ys) (length (y ∷ ys) - 1) x (omega arith) got

-- if a task opened no scope, the innermost is that of its home, if it has one
pub no_own : (o : Option ℕ) (own : List Own) → slice_get own (length own - 1) ≡ None → last_or o (ids own) ≡ o
no_own o [] none = refl
no_own o (y ∷ ys) none =
    absurd (let e = slice_get-get_or (y ∷ ys) (length (y ∷ ys) - 1) y (omega arith) in cc)

-- a scope that a task opens after all others is the innermost one that encloses it
pub last_pushed : (o : Option ℕ) (own pushed : List Own) (x : Own) → pushed ≡ own ++ x ∷ [] → last_or o (ids pushed) ≡ Some x.id
last_pushed o own pushed x e = ap (λ (os : List Own). last_or o (ids os)) e ∙ by_own o own
  where
    by_own : (o : Option ℕ) (own : List Own) → last_or o (ids (own ++ x ∷ [])) ≡ Some x.id
    by_own o [] = refl
    by_own o (y ∷ ys) = by_own (Some y.id) ys
