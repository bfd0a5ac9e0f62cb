-- The tasks of a run have an order, that of the records: each task is followed by those that it started.
use Rattle.std.proofs.Common.{◌≡◌, ℕ, zero, suc, ◌+◌, ◌<◌, ◌≤◌, List, [], ◌∷◌, ◌++◌, refl, sym, subst, inl, inr, arith, append_assoc, map}
use Rattle.std.proofs.lemmas.List.{append-nil}
use Rattle.turn_semantics.specs.Lists.{Exists, IsAmong}
use Rattle.turn_semantics.specs.Made.{StartedChild, started_in}
use Rattle.turn_semantics.specs.Midway.{Tables}
use Rattle.job_meaning.specs.Log.{Result, Table}
use Rattle.interleavings.specs.Interleaving.{Started, StartsChild, Kid, RunInvariant}
use Rattle.interleavings.specs.Going.{root_result}
use Rattle.interleavings.specs.Rows.{children_made}
use Rattle.interleavings.specs.Acts.{InOrder, all_taken, next_taken}
use Rattle.interleavings.specs.Laws.{OrdersExist}
use Rattle.interleavings.proofs.Running.{runs_keep_invariant}
use Rattle.interleavings.proofs.Housing.{serials_below}

module _ (k : Tables) (f : Table) (whole : Result) (qs : List Started) (o : RunInvariant k f whole qs) (m : ℕ)
    (small : (q : Started) → IsAmong q qs → q.serial < m) where
  -- from a stack of serial numbers
  record Ordered (stack : List ℕ) : Type 0 where
    taken : List Started
    order : InOrder qs stack taken

  -- one stack on another
  appended : (xs ys : List ℕ) (a b : List Started) → InOrder qs xs a → InOrder qs ys b → InOrder qs (xs ++ ys) (a ++ b)
  appended _ ys _ b all_taken r = r
  appended _ ys _ b (next_taken q stack taken i h) r =
      next_taken q (stack ++ ys) (taken ++ b) i
      (subst (λ (s : List ℕ). InOrder qs s (taken ++ b)) (append_assoc (children_made q.child q.made) stack ys)
      (appended (children_made q.child q.made ++ stack) ys taken b h r))

  -- those that a task started, if each later task is followed by those that it started
  kids_ordered : (q : Started) → IsAmong q qs → ((c : Started) → IsAmong c qs → q.serial < c.serial → Ordered (c.serial ∷ [])) →
      (ss : List StartedChild) → ((i : ℕ) → Exists (λ (s : StartedChild). i ≡ s.number) ss → StartsChild i q.made) →
      Ordered (map (λ (s : StartedChild). q.child s.number) ss)
  kids_ordered q i later [] among = record { taken = []; order = all_taken }
  kids_ordered q i later (s ∷ ss) among =
      let kid : Kid qs q s.number = o.kids q i s.number (o.numbered q i s.number (among s.number (inl refl))) in
      let first : Ordered (kid.kid.serial ∷ []) = later kid.kid kid.among kid.later in
      let rest : Ordered (map (λ (x : StartedChild). q.child x.number) ss) = kids_ordered q i later ss (λ j e. among j (inr e)) in
      record {
        taken = first.taken ++ rest.taken;
        order =
            subst (λ (x : ℕ). InOrder qs (x ∷ map (λ (y : StartedChild). q.child y.number) ss) (first.taken ++ rest.taken)) kid.serial
            (appended (kid.kid.serial ∷ []) (map (λ (y : StartedChild). q.child y.number) ss) first.taken rest.taken first.order rest.order);
      }

  -- a task with all that come from it
  ordered : (n : ℕ) (q : Started) → IsAmong q qs → m ≤ n + q.serial → Ordered (q.serial ∷ [])
  ordered zero q i le = let below : q.serial < m = small q i in absurd (omega arith)
  ordered (suc n) q i le =
      let all : Ordered (children_made q.child q.made) =
      kids_ordered q i (λ c j later. ordered n c j (omega arith)) (started_in q.made) (λ x e. e) in
      record {
        taken = q ∷ all.taken;
        order =
            next_taken q [] all.taken i
            (subst (λ (s : List ℕ). InOrder qs s all.taken) (sym (append-nil (children_made q.child q.made))) all.order);
      }

pub orders_exist : OrdersExist
orders_exist k job input names nurseries settled f t m qs r =
    (all.taken, subst (λ (n : ℕ). InOrder qs (n ∷ []) all.taken) interleaving.root.first all.order)
  where
    whole : Result
    whole = root_result k job input

    interleaving : RunInvariant k f whole qs
    interleaving = (runs_keep_invariant k job input settled names nurseries f t m qs r).0

    all : Ordered k f whole qs interleaving m (serials_below k job input f t m qs r) (interleaving.root.root.serial ∷ [])
    all =
        ordered k f whole qs interleaving m (serials_below k job input f t m qs r) m interleaving.root.root interleaving.root.among (omega arith)
