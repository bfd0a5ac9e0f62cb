-- The limit is exact, and in a blocked run some task has a next turn.
use Rattle.std.proofs.Common.{◌≡◌, ℕ, zero, suc, ◌+◌, ◌<◌, ◌≤◌, true, List, [], ◌∷◌, refl, sym, ap, subst, ◌⊎◌, inl, inr, arith}
use Rattle.turn_semantics.specs.Lists.{IsAmong}
use Rattle.job_meaning.specs.Log.{Log, Result, Table, followed_by}
use Rattle.job_meaning.specs.Rest.{Event, noted, signs, enters, acts, starts, ChildOutcomes, fill, Stopped, to_begin, asking, asleep, waiting_for, queued, giving_up, awaiting, at_end, rest_comes_to}
use Rattle.turn_semantics.specs.Midway.{Tables, by_tables, stack_at}
use Rattle.interleavings.specs.Interleaving.{Started, StartsChild, Kid, Parent, RunInvariant, live, AllFrom, Unended, Settling, StaysUntil, Blocked}
use Rattle.interleavings.specs.Runs.{keeping}
use Rattle.interleavings.specs.Laws.{HasNextTurn, GoesOn}
use Rattle.interleavings.proofs.Agreement.{outcomes_tell, ends_at}
use Rattle.interleavings.proofs.Ends.{Inside, inside_first}

-- a child that was started ends by the end of its starter
inside_child : (e : ℕ) (outcomes : ChildOutcomes) (i : ℕ) (es : List Event) → Inside e (fill outcomes es) → StartsChild i es → ((outcomes i).end ≤ e)
    × Inside (outcomes i).end (outcomes i).log
inside_child e outcomes i [] h s = absurd s
inside_child e outcomes i (noted t x ∷ es) h s = inside_child e outcomes i es h s
inside_child e outcomes i (signs l t ∷ es) h s = inside_child e outcomes i es h s
inside_child e outcomes i (enters l t d ∷ es) h s = inside_child e outcomes i es h s
inside_child e outcomes i (acts label moment done ∷ es) h s = inside_child e outcomes i es h s
inside_child e outcomes i (starts j l t ∷ es) h (inl p) =
    subst (λ (n : ℕ). ((outcomes n).end ≤ e) × Inside (outcomes n).end (outcomes n).log) (sym p) (h.0, h.1)
inside_child e outcomes i (starts j l t ∷ es) h (inr s) = inside_child e outcomes i es h.2 s

module _ (k : Tables) (f : Table) (whole : Result) (qs : List Started) (o : RunInvariant k f whole qs) where
  -- what a task did is first in the log of its whole result
  log_of : (q : Started) → IsAmong q qs → followed_by (fill q.outcomes q.made)
      (rest_comes_to (by_tables k) q.outcomes q.rest q.here (stack_at k.cancelled_from q.places) q.stop).log ≡ q.final_result.log
  log_of q i = ap (λ (r : Result). r.log) ((o.fits q i).comes q.outcomes (outcomes_tell q))

  -- each task ends by the end of the whole, where each of the whole's does
  pub ends_by_whole : Inside whole.end whole.log → (n : ℕ) (q : Started) → IsAmong q qs → q.serial < n → (q.final_result.end ≤ whole.end)
      × Inside q.final_result.end q.final_result.log
  ends_by_whole h zero q i l = absurd (omega arith)
  ends_by_whole h (suc n) q i l =
      by_parent (o.parents q i) (λ p. let x : p.starter.serial < q.serial = p.earlier in ends_by_whole h n p.starter p.among (omega arith))
    where
      of_starter : (p : Parent qs q) → (p.starter.final_result.end ≤ whole.end) × Inside p.starter.final_result.end p.starter.final_result.log →
          (q.final_result.end ≤ whole.end) × Inside q.final_result.end q.final_result.log
      of_starter p s =
          let a : Inside p.starter.final_result.end (fill p.starter.outcomes p.starter.made) =
          inside_first p.starter.final_result.end (fill p.starter.outcomes p.starter.made) _
          (subst (λ (x : Log). Inside p.starter.final_result.end x) (sym (log_of p.starter p.among)) s.1) in
          let b = inside_child p.starter.final_result.end p.starter.outcomes p.number p.starter.made a p.started in
          let c : (p.starter.outcomes p.number).end ≤ p.starter.final_result.end = b.0 in
          let d : p.starter.final_result.end ≤ whole.end = s.0 in
          let e : q.final_result.end ≡ (p.starter.outcomes p.number).end = ap (λ (r : Result). r.end) p.same in
          (omega arith, subst (λ (r : Result). Inside r.end r.log) (sym p.same) b.1)

      by_parent : (q.final_result ≡ whole) ⊎ Parent qs q → ((p : Parent qs q) → (p.starter.final_result.end ≤ whole.end)
          × Inside p.starter.final_result.end p.starter.final_result.log) → (q.final_result.end ≤ whole.end) × Inside q.final_result.end q.final_result.log
      by_parent (inl e) up = let x : q.final_result.end ≡ whole.end = ap (λ (r : Result). r.end) e in
          (omega arith, subst (λ (r : Result). Inside r.end r.log) (sym e) h)
      by_parent (inr p) up = of_starter p (up p)

  -- while a task has not ended, the whole does not end before the present moment
  pub not_before : Inside whole.end whole.log → (t : ℕ) → AllFrom k qs t → (q : Started) → IsAmong q qs → live q.rest.stopped ≡ true →
      t ≤ whole.end
  not_before h t from q i l =
      let a : t ≤ q.final_result.end = ends_at k q t (o.fits q i) (o.shape q i) l (from q i l) in
      let b : q.final_result.end ≤ whole.end = (ends_by_whole h (suc q.serial) q i (omega arith)).0 in
      omega arith

  -- in a blocked run some task has a next turn: a task that waits does so for a child that has not ended, or its nursery settles
  pub has_next : (u bound : ℕ) → Blocked (keeping f k) qs u → ((q : Started) → IsAmong q qs → q.serial < bound) → (n : ℕ) (q : Started) →
      IsAmong q qs →
      live q.rest.stopped ≡ true → bound ≤ q.serial + n → GoesOn qs
  has_next u m b small zero q i a z = let w : q.serial < m = small q i in absurd (omega arith)
  has_next u m b small (suc n) q i a z =
      by_stop q.rest.stopped refl a (b q i)
      (λ children c.
      let kid : Kid qs q c.number = o.kids q i c.number c.below in
      let x : q.serial < kid.kid.serial = kid.later in
      has_next u m b small n kid.kid kid.among (c.alive kid.kid kid.among kid.serial) (omega arith))
    where
      by_stop : (s : Stopped) → q.rest.stopped ≡ s → live s ≡ true → StaysUntil (keeping f k) qs u q s →
          ((children : List ℕ) (c : Unended qs q children) → GoesOn qs) → GoesOn qs
      by_stop to_begin e l p go = record { next = q; among = i; has = subst (λ (x : Stopped). HasNextTurn qs q x) (sym e) tt }
      by_stop (asking kernel purpose) e l p go =
          record { next = q; among = i; has = subst (λ (x : Stopped). HasNextTurn qs q x) (sym e) tt }
      by_stop (asleep paced d since) e l p go =
          record { next = q; among = i; has = subst (λ (x : Stopped). HasNextTurn qs q x) (sym e) tt }
      by_stop (waiting_for event since) e l p go =
          record { next = q; among = i; has = subst (λ (x : Stopped). HasNextTurn qs q x) (sym e) tt }
      by_stop (queued object ask since body) e l p go =
          record { next = q; among = i; has = subst (λ (x : Stopped). HasNextTurn qs q x) (sym e) tt }
      by_stop (giving_up since) e l p go =
          record { next = q; among = i; has = subst (λ (x : Stopped). HasNextTurn qs q x) (sym e) tt }
      by_stop (awaiting children ended exc) e l (inl p) go = go children p
      by_stop (awaiting children ended exc) e l (inr p) go =
          let c : Settling qs q children ended 0 = record { ends = p.ends; numbers = p.numbers; over = p.over; later = omega arith } in
          record { next = q; among = i; has = subst (λ (x : Stopped). HasNextTurn qs q x) (sym e) c }
      by_stop (at_end t x) e l p go = cc
