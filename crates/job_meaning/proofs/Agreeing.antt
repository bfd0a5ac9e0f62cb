-- When walks agree before a tick, one after another.
use Rattle.std.proofs.Common.{◌≡◌, ℕ, ◌<◌, ◌≤◌, Option, Some, None, refl, sym, ◌∙◌, subst, ◌⊎◌, inl, inr, arith}
use Rattle.std.proofs.lemmas.Bool.{cases_lt}
use Rattle.exceptions.specs.Exceptions.{Exc}
use Rattle.job_meaning.specs.Log.{Result}
use Rattle.job_meaning.specs.Moments.{Now}
use Rattle.job_meaning.specs.Walk.{now_of, in_sequence, and_then, then_if}
use Rattle.job_meaning.specs.Before.{Agree, soon, later, log_before}
use Rattle.job_meaning.proofs.Late.{Late}
use Rattle.job_meaning.proofs.Clips.{both_clipped, clipped_tail, both_known}

-- a walk agrees with itself
pub agree_same : (c : ℕ) (r : Result) → Agree c r r
agree_same c r = by_order (cases_lt r.end c)
  where
    by_order : (r.end < c) ⊎ (c ≤ r.end) → Agree c r r
    by_order (inl lt) = soon lt refl refl refl refl refl
    by_order (inr le) = later le le refl

-- one after another
pub agree_joined : (c : ℕ) (r r' q q' : Result) → Agree c r r' → Agree c q q' → r.end ≤ q.end → r'.end ≤ q'.end →
    Agree c (in_sequence r q) (in_sequence r' q')
agree_joined c r r' q q' (soon b e o x m l) (soon b₂ e₂ o₂ x₂ m₂ l₂) le le' =
    soon b₂ e₂ o₂ x₂ (both_known c _ _ _ _ m m₂) (both_clipped c r.log q.log r'.log q'.log l l₂)
agree_joined c r r' q q' (soon b e o x m l) (later f s l₂) le le' = later f s (both_clipped c r.log q.log r'.log q'.log l l₂)
agree_joined c r r' q q' (later f s l) (soon b₂ e₂ o₂ x₂ m₂ l₂) le le' = absurd (omega arith)
agree_joined c r r' q q' (later f s l) (later f₂ s₂ l₂) le le' = later f₂ s₂ (both_clipped c r.log q.log r'.log q'.log l l₂)

-- x continues from r, which ended at c or later: before c it has the same log
pub record Past (c : ℕ) (r x : Result) : Type 0 where
  pub ends : c ≤ x.end
  pub logs : log_before c x.log ≡ log_before c r.log

pub past_same : (c : ℕ) (r : Result) → c ≤ r.end → Past c r r
past_same c r le = record { ends = le; logs = refl }

pub past_joined : (c : ℕ) (r q : Result) → c ≤ r.end → Late r.end q → Past c r (in_sequence r q)
past_joined c r q le h =
    let first = h.ends in
    record { ends = omega arith; logs = clipped_tail c r.end r.log q.log le h.timed }

pub agree_past : (c : ℕ) (r r' x x' : Result) → log_before c r.log ≡ log_before c r'.log → Past c r x → Past c r' x' → Agree c x x'
agree_past c r r' x x' l p p' = later p.ends p'.ends (p.logs ∙ (l ∙ sym p'.logs))

pub past_then : (c : ℕ) (r : Result) (go : Now → Result) → ((u : Now) → Late u.at (go u)) → c ≤ r.end → (o : Option Exc) → Past c r (then_if o r go)
past_then c r go h le None = past_joined c r (go (now_of r)) le (h (now_of r))
past_then c r go h le (Some e) = past_same c r le

same_now : (r q : Result) → r.end ≡ q.end → r.own ≡ q.own → now_of r ≡ now_of q
same_now r q e o = cc

-- the second walks agree where they start at one moment
pub agree_from : (c : ℕ) (go go' : Now → Result) → ((u : Now) → Agree c (go u) (go' u)) → (r q : Result) → r.end ≡ q.end → r.own ≡ q.own
    → Agree c (go (now_of r)) (go' (now_of q))
agree_from c go go' h r q e o = subst (λ (w : Now). Agree c (go (now_of r)) (go' w)) (same_now r q e o) (h (now_of r))

-- if walks agree before c, and what continues them agrees before c from each tick on, the whole walks
-- agree
pub agree_and_then : (c : ℕ) (r r' : Result) (go go' : Now → Result) → Agree c r r' → ((u : Now) → Agree c (go u) (go' u)) →
    ((u : Now) → Late u.at (go u)) → ((u : Now) → Late u.at (go' u)) → Agree c (and_then r go) (and_then r' go')
unfolding and_then
agree_and_then c r r' go go' (soon b e o x m l) h k k' =
    subst (λ (z : Option Exc). Agree c (then_if r.exc r go) (then_if z r' go')) x (by_exc r.exc)
  where
    by_exc : (z : Option Exc) → Agree c (then_if z r go) (then_if z r' go')
    by_exc None = agree_joined c r r' (go (now_of r)) (go' (now_of r')) (soon b e o x m l) (agree_from c go go' h r r' e o) (k (now_of r)).ends
        (k' (now_of r')).ends
    by_exc (Some y) = soon b e o x m l
agree_and_then c r r' go go' (later f s l) h k k' = agree_past c r r' _ _ l (past_then c r go k f r.exc) (past_then c r' go' k' s r'.exc)

-- walks that agree before c have the same log cut at c
pub agree_logs : {c : ℕ} {r q : Result} → Agree c r q → log_before c r.log ≡ log_before c q.log
agree_logs (soon b e o x m l) = l
agree_logs (later f s l) = l
