-- Events that are set, and waits for them.
use Rattle.std.proofs.Common.{◌≡◌, ℕ, true, false, Option, Some, None, List, [], ◌∷◌, ◌++◌, refl, sym, subst}
use Rattle.std.specs.Prelude.{IsSome}
use Rattle.cancel_scopes.specs.Sight.{Tick, earlier, next}
use Rattle.task_machine.specs.Acts.{SetsKey}
use Rattle.task_machine.specs.Labels.{Events, Updates}

-- an event is set, whose moment was lowered
pub sets_key : (key at tick : ℕ) (old new : Events) (set more : List ℕ) → at ≡ key → IsSome (old key) →
    ((from : Tick) → old at ≡ Some from → Updates old new at (Some (earlier from (next (Some tick))))) → more ≡ set ++ key ∷ [] →
    SetsKey key tick old new set more
sets_key key at tick old new set more same is lowers among = by_event (old key) refl is
  where
    by_event : (o : Option Tick) → old key ≡ o → IsSome o → SetsKey key tick old new set more
    by_event None e s = absurd (let f : false ≡ true = s in cc)
    by_event (Some from) e s =
        record {
          from = from;
          was = e;
          lowered =
              subst (λ (k : ℕ). Updates old new k (Some (earlier from (next (Some tick))))) same
              (lowers from (subst (λ (k : ℕ). old k ≡ Some from) (sym same) e));
          among = among;
        }
