-- If a run agrees with a table, the table and the moments of cancellation that the run keeps agree in the present moment; and the
-- jump: nothing that was not done yet happens before the moment to which the clock jumps.
use Rattle.std.proofs.Common.{◌≡◌, ◌⊎◌, ℕ, zero, suc, ◌+◌, ◌-◌, ◌<◌, ◌≤◌, min, max, Bool, true, Option, Some, None, List, [], ◌∷◌, refl, sym, ap, ◌∙◌, subst, inl, inr, arith}
use Rattle.turn_semantics.specs.Lists.{IsAmong}
use Rattle.exceptions.specs.Exceptions.{Label, Exc}
use Rattle.cancel_scopes.specs.Sight.{Tick, Level, sight}
use Rattle.job_meaning.specs.Log.{Log, Member, Result, Table, least_sign}
use Rattle.job_meaning.specs.Moments.{a_round_after, wakes_at, only_at}
use Rattle.job_meaning.specs.declared.clock.Clock.{Clock}
use Rattle.job_meaning.specs.Walk.{Stack, Here, last_grant, leaves_queue, event_on, event_wait, latest}
use Rattle.job_meaning.specs.Before.{upto}
use Rattle.job_meaning.specs.Rest.{ChildOutcomes, outcome_members, Stopped, to_begin, asking, asleep, waiting_for, queued, giving_up, awaiting, at_end, task_comes_to}
use Rattle.job_meaning.proofs.MomentLemmas.{round_after}
use Rattle.job_meaning.proofs.Clips.{upto_most, sight_near, event_near}
use Rattle.turn_semantics.specs.Midway.{Place, label_among, Tables, by_tables, stack_at}
use Rattle.turn_semantics.specs.Placed.{IsSome, PlacedStop}
use Rattle.turn_semantics.specs.Wakes.{set_at}
use Rattle.turn_semantics.specs.Turned.{AgreesOn, AgreesIn, made_sign}
use Rattle.interleavings.specs.Interleaving.{Started, Tells, Fits, made_least, all_least, EnteredIn, Kid, HasFrom, Entered, EachPlace, RunInvariant, live, slept, leaves_by, goes_on, leaves_at, resumes, AllFrom, Unended, members_by, Settling, StaysUntil, Blocked}
use Rattle.interleavings.specs.Runs.{keeping}
use Rattle.interleavings.proofs.Readings.{upto_from, entered_times, left_fresh}
use Rattle.interleavings.proofs.Contract.{near_places, agrees_each}
use Rattle.interleavings.proofs.Queues.{left_near, leaves_alike, late_from_ends, left_unsigned}
use Rattle.interleavings.proofs.Lateness.{slept_after, slept_unseen, awaited_after, awaited_unseen, event_there, ends_near, late_rest, left_rest, latest_in}

-- a record of outcomes says the same as itself
pub outcomes_tell : (q : Started) → Tells q q.outcomes
outcomes_tell q = λ i h. refl

-- what a task has left has no sign before v
unsigned_left : (k : Tables) (q : Started) (v : ℕ) → Fits k q → PlacedStop q.rest.stopped q.rest.frames q.places →
    (live q.rest.stopped ≡ true → v ≤ resumes k q) → (l : Label) → upto v (least_sign l q.left) ≡ v
unsigned_left k q v p s h l =
    subst (λ (a : Log). upto v (least_sign l a) ≡ v) (p.lefts q.outcomes (outcomes_tell q))
    (left_unsigned v q.here q.rest.frames q.places q.rest.stopped _
    (left_rest k q.outcomes q.here q.stop v q.rest.stopped q.rest.frames q.places s h) l)

-- a task ends no earlier than it continues
pub ends_at : (k : Tables) (q : Started) (v : ℕ) → Fits k q → PlacedStop q.rest.stopped q.rest.frames q.places →
    live q.rest.stopped ≡ true → v ≤ resumes k q → v ≤ q.final_result.end
ends_at k q v p s l h =
    subst (λ (r : Result). v ≤ r.end) (p.comes q.outcomes (outcomes_tell q))
    (late_from_ends v q.here q.rest.frames q.places q.rest.stopped _
    (late_rest k q.outcomes q.here q.stop v q.rest.stopped q.rest.frames q.places s l h))

lefts_late : (v : ℕ) (l : Label) (qs : List Started) → ((q : Started) → IsAmong q qs → upto v (least_sign l q.left) ≡ v) →
    all_least v l qs ≡ made_least v l qs
unfolding all_least made_least
lefts_late v l [] h = refl
lefts_late v l (q ∷ qs) h =
    let a : upto v (least_sign l q.left) ≡ v = h q (inl refl) in
    let b : upto v (made_sign l q.made) ≤ v = upto_most v (made_sign l q.made) in
    let c : all_least v l qs ≡ made_least v l qs = lefts_late v l qs (λ x i. h x (inr i)) in
    omega arith

-- the result of an ended task
pub ended_final_result : (k : Tables) (q : Started) → Fits k q → (u : ℕ) (e : Option Exc) → q.rest.stopped ≡ at_end u e → (q.final_result.end ≡ u)
    × (q.final_result.exc ≡ e)
ended_final_result k q p u e s = (
  sym (ap (λ (r : Result). r.end) (p.comes q.outcomes (outcomes_tell q)))
      ∙ ap (λ (z : Stopped). (task_comes_to (by_tables k) q.outcomes q.made (record { stopped = z; frames = q.rest.frames }) q.here
      (stack_at k.cancelled_from q.places) q.stop).end) s,
  sym (ap (λ (r : Result). r.exc) (p.comes q.outcomes (outcomes_tell q)))
      ∙ ap (λ (z : Stopped). (task_comes_to (by_tables k) q.outcomes q.made (record { stopped = z; frames = q.rest.frames }) q.here
      (stack_at k.cancelled_from q.places) q.stop).exc) s,
)

same_member : (m n : Member) → m.end ≡ n.end → m.exc ≡ n.exc → m ≡ n
same_member m n e f = λ i. record { end = e i; exc = f i }

module _ (k : Tables) (f : Table) (whole : Result) (qs : List Started) (o : RunInvariant k f whole qs) (q : Started) (i : IsAmong q qs) where
  -- what is recorded of children that have ended is how they ended
  pub outcomes_ended : (outcomes : ChildOutcomes) → Tells q outcomes → (ends : ℕ → Member) (is : List ℕ) → ((n : ℕ) → IsAmong n is → n < q.count) →
      ((n : ℕ) → IsAmong n is → (c : Started) → IsAmong c qs → c.serial ≡ q.child n → c.rest.stopped ≡ at_end (ends n).end (ends n).exc) →
      outcome_members outcomes is ≡ members_by ends is
  outcomes_ended outcomes tells ends [] h e = refl
  outcomes_ended outcomes tells ends (n ∷ is) h e =
      let c : Kid qs q n = o.kids q i n (h n (inl refl)) in
      let z : (c.kid.final_result.end ≡ (ends n).end) × (c.kid.final_result.exc ≡ (ends n).exc) =
      ended_final_result k c.kid (o.fits c.kid c.among) (ends n).end (ends n).exc (e n (inl refl) c.kid c.among c.serial) in
      let y : outcomes n ≡ c.kid.final_result = tells n (h n (inl refl)) ∙ sym c.same in
      let first : _ = same_member (record { end = (outcomes n).end; exc = (outcomes n).exc }) (ends n) (ap (λ (r : Result). r.end) y ∙ z.0)
      (ap (λ (r : Result). r.exc) y ∙ z.1) in
      λ j. first j ∷ outcomes_ended outcomes tells ends is (λ m x. h m (inr x)) (λ m x. e m (inr x)) j

module _ (k : Tables) (f : Table) (whole : Result) (qs : List Started) (o : RunInvariant k f whole qs) (v : ℕ) (from : AllFrom k qs v) where
  -- the first sign before v, where there is one, was made
  pub same_least : (l : Label) → upto v (least_sign l whole.log) ≡ made_least v l qs
  same_least l = o.signed v l ∙ lefts_late v l qs (λ q i. unsigned_left k q v (o.fits q i) (o.shape q i) (from q i) l)

  -- the table agrees at v with the from that is kept of a label that was entered
  pub agrees : (l : Label) (d : Tick) → HasFrom k.cancelled_from f whole.log qs l d → upto (suc v) (k.cancelled_from l) ≡ upto (suc v) (f l)
  agrees l d p =
      ap (upto (suc v)) p.settled
      ∙ (upto_from v d (least_sign l whole.log)
      ∙ (ap (λ (n : ℕ). min (upto (suc v) d) (suc n)) (same_least l) ∙ sym (p.kept v)))

  -- so of each label that some task entered
  pub agrees_entered : (l : Label) → Entered qs l → upto (suc v) (k.cancelled_from l) ≡ upto (suc v) (f l)
  agrees_entered l e = agrees l e.deadline (o.known e.by e.among l e.deadline e.made)

  -- so they agree for the scopes and nurseries that enclose each task
  pub agrees_on : (ps : List Place) → EachPlace (Entered qs) ps → AgreesOn v k.cancelled_from f ps
  agrees_on [] p = tt
  agrees_on (x ∷ ps) p = (agrees_entered x.label p.0, agrees_on ps p.1)

  -- and the table has, at v, the deadline of each label that a task has left to enter
  deadline_left : (q : Started) → IsAmong q qs → (l : Label) (d : Tick) → EnteredIn l d q.left → upto (suc v) (k.cancelled_from l) ≡ upto (suc v) d
  deadline_left q i l d e =
      let a : made_least v l qs ≡ v = o.made v l (left_fresh l q qs i (entered_times l d q.left e) (o.once l)) in
      let b : upto v (least_sign l whole.log) ≡ made_least v l qs = same_least l in
      let c : upto (suc v) d ≤ suc v = upto_most (suc v) d in
      ap (upto (suc v)) (o.follows q i l d e) ∙ (upto_from v d (least_sign l whole.log) ∙ omega arith)

  -- so it agrees with the log of what that task has left
  pub agrees_in : (q : Started) → IsAmong q qs → AgreesIn v k.cancelled_from q.left
  agrees_in q i = agrees_each v k.cancelled_from q.left (deadline_left q i)

  unseen : (x y : Tick) (u : ℕ) → upto u y ≡ u → v < u → upto (suc v) x ≡ upto (suc v) y → upto (suc v) x ≡ suc v
  unseen x None u g m j = j
  unseen x (Some y) u g m j = j ∙ omega arith

  sleeps_until : (clock : Clock) (paced : Bool) (n since u : ℕ) (ps : List Place) → v < u → u ≤ wakes_at clock n since →
      (upto u (sight (stack_at f ps).scopes) ≡ u) ⊎ (u ≤ a_round_after clock since) →
      upto (suc v) (sight (stack_at k.cancelled_from ps).scopes) ≡ upto (suc v) (sight (stack_at f ps).scopes) →
      suc v ≤ min (slept clock paced (stack_at k.cancelled_from ps) n since).end (wakes_at clock n since)
  sleeps_until clock paced n since u ps m p (inl g) j =
      let a : upto (suc v) (sight (stack_at k.cancelled_from ps).scopes) ≡ suc v =
      unseen (sight (stack_at k.cancelled_from ps).scopes) (sight (stack_at f ps).scopes) u g m j in
      let b : suc v ≤ (slept clock paced (stack_at k.cancelled_from ps) n since).end =
      slept_unseen clock paced (stack_at k.cancelled_from ps) n since (suc v) (omega arith) a in
      omega arith
  sleeps_until clock paced n since u ps m p (inr g) j =
      let b : a_round_after clock since ≤ (slept clock paced (stack_at k.cancelled_from ps) n since).end =
      slept_after clock paced (stack_at k.cancelled_from ps) n since in
      omega arith

  -- nor is a wait for an event over, whether the event is set by then or not
  waits_until : (clock : Clock) (since u : ℕ) (st su : Stack) (x y : Option (Level Label)) → IsSome x → v < u →
      u ≤ max (a_round_after clock since) (set_at clock y since) → (upto u (sight su.scopes) ≡ u) ⊎ (u ≤ a_round_after clock since) →
      upto (suc v) (sight st.scopes) ≡ upto (suc v) (sight su.scopes) → min (suc v) (set_at clock x since) ≡ min (suc v) (set_at clock y since) →
      suc v ≤ min (event_wait clock st x (only_at since)).end (max (a_round_after clock since) (set_at clock x since))
  waits_until clock since u st su x y there m p (inl g) j n =
      let b : suc v ≤ (event_wait clock st x (only_at since)).end = awaited_unseen clock st x since (suc v) there (omega arith)
      (unseen (sight st.scopes) (sight su.scopes) u g m j) in
      omega arith
  waits_until clock since u st su x y there m p (inr g) j n =
      let b : a_round_after clock since ≤ (event_wait clock st x (only_at since)).end = awaited_after clock st x since there in
      omega arith

  -- nor does a task leave a queue
  queues_until : (here : Here) (l : Option Label) (since u : ℕ) (ps : List Place) → v < u → u ≤ leaves_by (keeping f k) here l since (stack_at f ps) →
      upto (suc v) (sight (stack_at k.cancelled_from ps).scopes) ≡ upto (suc v) (sight (stack_at f ps).scopes) →
      suc v ≤ leaves_by k here l since (stack_at k.cancelled_from ps)
  queues_until here None since u ps m p j =
      leaves_alike v u since (leaves_queue (sight (stack_at k.cancelled_from ps).scopes) (last_grant here.clock since))
      (leaves_queue (sight (stack_at f ps).scopes) (last_grant here.clock since)) None m
      (left_near (suc v) (sight (stack_at k.cancelled_from ps).scopes) (sight (stack_at f ps).scopes) (last_grant here.clock since) j) p
  queues_until here (Some l) since u ps m p j =
      leaves_alike v u since (leaves_queue (sight (stack_at k.cancelled_from ps).scopes) (last_grant here.clock since))
      (leaves_queue (sight (stack_at f ps).scopes) (last_grant here.clock since)) (k.granted l here.task since) m
      (left_near (suc v) (sight (stack_at k.cancelled_from ps).scopes) (sight (stack_at f ps).scopes) (last_grant here.clock since) j) p

  waits_on : (clock : Clock) (q : Started) (children : List ℕ) (ended : ℕ) (c : Unended qs q children) → suc v ≤ (q.outcomes c.number).end →
      suc v ≤ a_round_after clock (latest ended (outcome_members q.outcomes children))
  waits_on clock q children ended c h =
      let j : (q.outcomes c.number).end ≤ latest ended (outcome_members q.outcomes children) = latest_in q.outcomes ended children c.number c.among in
      let g : latest ended (outcome_members q.outcomes children) ≤ a_round_after clock (latest ended (outcome_members q.outcomes children)) =
      round_after clock (latest ended (outcome_members q.outcomes children)) in
      omega arith

  -- One moment further: no sleeper has its next turn before it; and one that waits, no earlier than a child that has not ended,
  -- whose serial number is greater, or when its nursery settles.
  pub further :
      (u bound : ℕ) → v < u → Blocked (keeping f k) qs u → ((q : Started) → IsAmong q qs → q.serial < bound) → (n : ℕ) (q : Started) → IsAmong q qs →
      live q.rest.stopped ≡ true → bound ≤ q.serial + n →
      suc v ≤ resumes k q
  further u m h b small zero q i a z = let w : q.serial < m = small q i in absurd (omega arith)
  further u m h b small (suc n) q i a z =
      by_stop q.rest.stopped (o.shape q i) a (b q i)
      (λ children c.
      let kid : Kid qs q c.number = o.kids q i c.number c.below in
      let x : q.serial < kid.kid.serial = kid.later in
      let w : live kid.kid.rest.stopped ≡ true = c.alive kid.kid kid.among kid.serial in
      let y : suc v ≤ resumes k kid.kid = further u m h b small n kid.kid kid.among w (omega arith) in
      let d : suc v ≤ kid.kid.final_result.end = ends_at k kid.kid (suc v) (o.fits kid.kid kid.among) (o.shape kid.kid kid.among) w y in
      subst (λ (r : Result). suc v ≤ r.end) kid.same d)
    where
      settling : (children : List ℕ) (ended : ℕ) → Settling qs q children ended u →
          suc v ≤ a_round_after q.here.clock (latest ended (outcome_members q.outcomes children))
      settling children ended c =
          let e : outcome_members q.outcomes children ≡ members_by c.ends children =
          outcomes_ended k f whole qs o q i q.outcomes (outcomes_tell q) c.ends children c.numbers c.over in
          let g : u ≤ a_round_after q.here.clock (latest ended (outcome_members q.outcomes children)) =
          subst (λ (ms : List Member). u ≤ a_round_after q.here.clock (latest ended ms)) (sym e) c.later in
          omega arith

      by_stop : (s : Stopped) → PlacedStop s q.rest.frames q.places → live s ≡ true → StaysUntil (keeping f k) qs u q s →
          ((children : List ℕ) (c : Unended qs q children) → suc v ≤ (q.outcomes c.number).end) →
          suc v ≤ goes_on q.here.clock q.outcomes s (stack_at k.cancelled_from q.places) (leaves_at k s q.here q.places) q.stop.at
      by_stop to_begin s l p go = omega arith
      by_stop (asking kernel purpose) s l p go = omega arith
      by_stop (asleep paced n since) s l p go =
          sleeps_until q.here.clock paced n since u q.places h p.0 p.1
          (sight_near (suc v) _ _ (near_places v k.cancelled_from f q.places (agrees_on q.places (o.placed q i))).0)
      by_stop (waiting_for event since) s l p go =
          let near = near_places v k.cancelled_from f q.places (agrees_on q.places (o.placed q i)) in
          waits_until q.here.clock since u (stack_at k.cancelled_from q.places) (stack_at f q.places)
          (event_on event (stack_at k.cancelled_from q.places).events)
          (event_on event (stack_at f q.places).events) (event_there k.cancelled_from event q.places s.0) h p.0 p.1 (sight_near (suc v) _ _ near.0)
          (ends_near (suc v) q.here.clock _ _ since (event_near (suc v) event _ _ near.1))
      by_stop (queued object ask since body) s l p go =
          queues_until q.here (label_among true object q.places) since u q.places h p
          (sight_near (suc v) _ _ (near_places v k.cancelled_from f q.places (agrees_on q.places (o.placed q i))).0)
      by_stop (giving_up since) s l p go = omega arith
      by_stop (awaiting children ended exc) s l (inl p) go = waits_on q.here.clock q children ended p (go children p)
      by_stop (awaiting children ended exc) s l (inr p) go = settling children ended p
      by_stop (at_end t e) s l p go = cc

-- nothing that was not made happens before the moment to which the clock jumps
pub climb :
    (k : Tables) (f : Table) (whole : Result) (qs : List Started) → RunInvariant k f whole qs → (t bound : ℕ) →
    ((q : Started) → IsAmong q qs → q.serial < bound) → AllFrom k qs t → (u : ℕ) → Blocked (keeping f k) qs u →
    (n v : ℕ) → v ≡ t + n → v ≤ u → AllFrom k qs v
climb k f whole qs o t m small a u b zero v e h = subst (AllFrom k qs) (omega arith) a
climb k f whole qs o t m small a u b (suc n) v e h = λ q i l.
    let w : ℕ = t + n in
    let p : AllFrom k qs w = climb k f whole qs o t m small a u b n w refl (omega arith) in
    let z : suc w ≤ resumes k q = further k f whole qs o w p u m (omega arith) b small m q i l (omega arith) in
    omega arith

-- so where the clock jumps
pub jumps :
    (k : Tables) (f : Table) (whole : Result) (qs : List Started) → RunInvariant k f whole qs → (t bound : ℕ) →
    ((q : Started) → IsAmong q qs → q.serial < bound) → AllFrom k qs t → (u : ℕ) → t ≤ u → Blocked (keeping f k) qs u →
    AllFrom k qs u
jumps k f whole qs o t m small a u h b = climb k f whole qs o t m small a u b (u - t) u (omega arith) (omega arith)
