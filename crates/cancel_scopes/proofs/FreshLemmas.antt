-- Each scope has its new effective deadline, and each for which it became earlier is marked.
use Rattle.std.proofs.Common.{◌≡◌, ℕ, Bool, true, false, Some, None, refl, sym, ap, ◌∙◌, arith, inl, inr}
use Rattle.std.specs.Prelude.{◌||◌}
use Rattle.std.proofs.lemmas.Bool.{le-ltb}
use Rattle.cancel_scopes.specs.Sight.{Tick, before}
use Rattle.cancel_scopes.specs.Kept.{Slots, Find, IsTree, scope_in, find_in, own_sight, seen_at, is_listed, AllFresh}
use Rattle.cancel_scopes.specs.Lowering.{AllRight, Moves, Along}
use Rattle.cancel_scopes.proofs.MarkLemmas.{same_find, same-tree}
use Rattle.cancel_scopes.proofs.LowerLemmas.{sights_of}

-- no tick comes before itself
pub not_before : (t : Tick) → before t t ≡ false
not_before None = refl
not_before (Some t) = le-ltb t t (omega arith)

or_false : (b : Bool) → (b || false) ≡ b
or_false true = refl
or_false false = refl

or_true : (b : Bool) → (b || true) ≡ true
or_true true = refl
or_true false = refl

-- a mark stays where the effective deadline stays
pub stays_marked : (a b : Bool) (t u : Tick) → a ≡ b → t ≡ u → a ≡ (b || before t u)
stays_marked a b t u same e =
    let f : before t u ≡ false = ap (λ (v : Tick). before v u) e ∙ not_before u in
    rw f (same ∙ sym (or_false b))

-- where the rule holds for each scope, the moves say which effective deadlines became earlier
pub fresh-along : (tick : ℕ) (old new : Slots) → Along tick old new → IsTree (find_in old) → AllRight new → AllFresh old new
fresh-along tick old new h tree all = record {
  long = h.long;
  finds = h.finds;
  fresh = λ k. (
    sights_of new (same-tree old new h.finds tree) all k
        ∙ ap (λ (find : Find). seen_at find k) (same_find old new h.finds),
    by_move k (h.moves k),
  );
}
  where
    by_move : (k : ℕ) → Moves tick (scope_in old k) (scope_in new k) →
        is_listed (scope_in new k) ≡ (is_listed (scope_in old k) || before (own_sight (scope_in new k)) (own_sight (scope_in old k)))
    by_move k (inl m) = stays_marked _ _ _ _ m.1 m.0
    by_move k (inr m) =
        let test : before (own_sight (scope_in new k)) (own_sight (scope_in old k)) ≡ true =
        ap (λ (t : Tick). before t (own_sight (scope_in old k))) m.0 ∙ m.1 in
        m.2 ∙ sym (or_true (is_listed (scope_in old k))) ∙ ap (λ (b : Bool). is_listed (scope_in old k) || b) (sym test)
