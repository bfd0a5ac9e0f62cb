-- By rounds, no moment of a run has a greater round than the weight that its turns have taken off so far.
use Rattle.std.proofs.Common.{◌≡◌, ◌⊎◌, ℕ, zero, suc, ◌+◌, ◌-◌, ◌*◌, ◌/◌, ◌<◌, ◌≤◌, min, max, Bool, true, false, ◌&&◌, Option, Some, None, List, [], ◌∷◌, ◌++◌, refl, sym, ap, ◌∙◌, subst, inl, inr, arith, nat_le, nat_lt, if◌then◌else◌}
use Rattle.turn_semantics.specs.Lists.{IsAmong}
use Rattle.job_tree.specs.Tree.{Tree}
use Rattle.job_tree.specs.Names.{GivesNamesOnce, size_of}
use Rattle.job_tree.specs.Starting.{StartsInNurseries}
use Rattle.std.specs.Str.{bytes_eq}
use Rattle.exceptions.specs.Exceptions.{Label, Exc}
use Rattle.cancel_scopes.specs.Sight.{Tick, Level, earlier, next, sight}
use Rattle.job_meaning.specs.Log.{opens, asks, gives_back, closes, Log, Member, Result, Table, tick_if, same_label, from_by, entered_from, least_sign, deadline_of}
use Rattle.job_meaning.specs.Sharing.{acts_in, by_moment, What, Granted, unopened, serve_acts, granted_if}
use Rattle.job_meaning.specs.Moments.{clock_of, tick_of, start_of, a_round_after, far, wakes_at, Now, only_at}
use Rattle.job_meaning.specs.declared.clock.Clock.{Clock}
use Rattle.job_meaning.specs.declared.clock.Clock.TheVariants.{ByTicks as by_ticks, ByRounds as by_rounds}
use Rattle.job_meaning.proofs.MomentLemmas.{round_after, last_grant_is}
use Rattle.job_meaning.specs.Walk.{Stack, no_stack, Here, last_grant, leaves_queue, in_time, event_on, level_if, set_moment, latest}
use Rattle.job_meaning.specs.Before.{upto}
use Rattle.job_meaning.specs.Meaning.{root_here, root_log}
use Rattle.job_meaning.specs.Follow.{follow}
use Rattle.job_meaning.specs.Rest.{Event, noted, signs, enters, acts, starts, ChildOutcomes, fill, Frame, Stopped, to_begin, asking, asleep, waiting_for, queued, giving_up, awaiting, at_end, rest_comes_to, inside}
use Rattle.turn_semantics.specs.Midway.{Place, label_among, level_on, Tables, by_tables, stack_at, Begun, Move, OwnFits}
use Rattle.turn_semantics.specs.Wakes.{Wake, begins, sees, gives_up, is_due, has_answer, is_granted, settles, set_at, ends_at, SettlesAt, SeesAt, GoesOnWaiting, granted_to, WakesBy}
use Rattle.turn_semantics.specs.Turned.{AllBy, MadeAt, AsksNothing, AsksFirst, AskedFirst, made_sign, StopsAt, rounds_skipped, TurnsOver}
use Rattle.interleavings.specs.Interleaving.{Started, made_least, StartsChild, Kid, RunInvariant, granted_or_left, AllFrom, members_by}
use Rattle.interleavings.specs.Going.{root_result, root_task, children_from, task_after_turn}
use Rattle.interleavings.specs.Woken.{WaitIsOver, MayWake}
use Rattle.interleavings.specs.Runs.{keeping, Reached, begun, turn, jump, turns_taken, all_weights}
use Rattle.interleavings.specs.Laws.{IsSettledBy, round_of, RoundsAreFew, RoundsStayInTicks}
use Rattle.job_tree.specs.declared.object.Ask.{Ask}
use Rattle.job_meaning.proofs.Late.{Late}
use Rattle.job_meaning.proofs.GrantsBefore.{OnGranted, each_by_moment, each_served, found_given}
use Rattle.interleavings.proofs.Readings.{in_either}
use Rattle.interleavings.proofs.KnownActs.{EachAct, act_followed, act_timed, acts_each}
use Rattle.interleavings.proofs.Queues.{PendingOn, LeftFrom}
use Rattle.interleavings.proofs.Lateness.{left_rest}
use Rattle.interleavings.proofs.Contract.{stops_at}
use Rattle.interleavings.proofs.Agreement.{outcomes_tell, same_least}
use Rattle.interleavings.proofs.Picking.{SameTasks, front_same, interleaving_moved, from_moved}
use Rattle.interleavings.proofs.Waking.{woken}
use Rattle.interleavings.proofs.Running.{all_own_fit, runs_keep_invariant, weights_turned, runs_end}
use Rattle.interleavings.proofs.Housing.{serials_below}
use Rattle.interleavings.proofs.Deadlines.{OnTick, EachOnTick, OnTickIf, first_round, each_walked, deadline_on}

-- ---- rounds of moments

-- the next moment is one round later, or in round 0
round_later : (m : ℕ) → round_of (m + 1) ≤ round_of m + 1
round_later m = omega arith

round_of_max : (n x y : ℕ) → round_of x ≤ n → round_of y ≤ n → round_of (max x y) ≤ n
round_of_max n x y h k = omega arith

-- a sleep ends a round after it began, or in round 0
round_due : (n ticks since : ℕ) → round_of since < n → round_of (wakes_at by_rounds ticks since) ≤ n
round_due n zero since h = let a : round_of (since + 1) ≤ round_of since + 1 = round_later since in omega arith
round_due n (suc ticks) since h =
    let a : round_of (since + 1) ≤ round_of since + 1 = round_later since in
    let t : ℕ = min 1099511627776 (since / 2097152 + suc ticks) in
    let b : round_of (t * 2097152) ≡ 0 = first_round t in
    round_of_max n (since + 1) (t * 2097152) (omega arith) (omega arith)

-- what is asked can be granted until a round later, or until round 0 of the tick in which `forever` ends
round_granted : (n since : ℕ) → round_of since < n → round_of (last_grant by_rounds since) ≤ n
round_granted n since h = elim (last_grant_is by_rounds since) [ inl e ↦ next e | inr e ↦ at_far e ]
  where
    next : last_grant by_rounds since ≡ suc since → round_of (last_grant by_rounds since) ≤ n
    next e = subst (λ (z : ℕ). round_of z ≤ n) (sym e) (omega arith)

    at_far : last_grant by_rounds since ≡ start_of by_rounds far → round_of (last_grant by_rounds since) ≤ n
    at_far e = subst (λ (z : ℕ). round_of z ≤ n) (sym e) (omega (arith, first_round far))

-- the last of some ends, none of which has too great a round
abbrev EachEnd : ℕ → List Member → Type 0
EachEnd n [] = Unit {0}
EachEnd n (m ∷ ms) = (round_of m.end < n) × EachEnd n ms

round_last : (n u : ℕ) (ms : List Member) → round_of u < n → EachEnd n ms → round_of (latest u ms) < n
round_last n u [] h k = h
round_last n u (m ∷ ms) h k = round_last n (max u m.end) ms (of_two k.0) k.1
  where
    of_two : round_of m.end < n → round_of (max u m.end) < n
    of_two j = omega arith

-- the first moment is in round 0
no_round : (n : ℕ) → round_of 0 ≤ n
no_round n = omega arith

-- after so small a round there is another one in the same tick
has_room : (weights size m : ℕ) → round_of m + weights ≤ 2 * size + 1 → size ≤ 1000000 → tick_of by_rounds (m + 1) ≡ tick_of by_rounds m
has_room weights size m h l = omega arith

-- ---- what is pending

-- each sign and each act among events is in a round less than n
abbrev pub SignsBelow : ℕ → List Event → Type 0
SignsBelow n [] = Unit {0}
SignsBelow n (noted t e ∷ es) = SignsBelow n es
SignsBelow n (signs l t ∷ es) = (round_of t < n) × SignsBelow n es
SignsBelow n (enters l t d ∷ es) = SignsBelow n es
SignsBelow n (acts label moment done ∷ es) = (round_of moment < n) × SignsBelow n es
SignsBelow n (starts i l t ∷ es) = SignsBelow n es

-- A task that stopped in a moment did so in a round less than n, but for one that begins; and one that gives up does so after such a round.
abbrev pub StopBelow : ℕ → ℕ → Stopped → Type 0
StopBelow n at to_begin = round_of at ≤ n
StopBelow n at (asking kernel purpose) = round_of at < n
StopBelow n at (asleep paced ticks since) = (round_of at < n) × (since ≡ at)
StopBelow n at (waiting_for event since) = (round_of at < n) × (since ≡ at)
StopBelow n at (queued object ask since body) = (round_of at < n) × (since ≡ at)
StopBelow n at (giving_up since) = (round_of at < n) × (round_of since < n)
StopBelow n at (awaiting children ended e) = (round_of at < n) × (ended ≡ at)
StopBelow n at (at_end u e) = (round_of at < n) × (u ≡ at)

-- what a task has done, and what it has pending, is in few rounds
pub record IsBelow (n : ℕ) (q : Started) : Type 0 where
  pub signs : SignsBelow n q.made
  pub stop : StopBelow n q.stop.at q.rest.stopped

signs_later : (n p : ℕ) (es : List Event) → n ≤ p → SignsBelow n es → SignsBelow p es
signs_later n p [] le h = tt
signs_later n p (noted t e ∷ es) le h = signs_later n p es le h
signs_later n p (signs l t ∷ es) le h = (more h.0, signs_later n p es le h.1)
  where
    more : round_of t < n → round_of t < p
    more j = omega arith
signs_later n p (enters l t d ∷ es) le h = signs_later n p es le h
signs_later n p (acts label moment done ∷ es) le h = (more h.0, signs_later n p es le h.1)
  where
    more : round_of moment < n → round_of moment < p
    more j = omega arith
signs_later n p (starts i l t ∷ es) le h = signs_later n p es le h

stop_later : (n p at : ℕ) (s : Stopped) → n ≤ p → StopBelow n at s → StopBelow p at s
stop_later n p at to_begin le h = omega arith
stop_later n p at (asking kernel purpose) le h = omega arith
stop_later n p at (asleep paced ticks since) le h = let a : round_of at < n = h.0 in (omega arith, h.1)
stop_later n p at (waiting_for event since) le h = let a : round_of at < n = h.0 in (omega arith, h.1)
stop_later n p at (queued object ask since body) le h = let a : round_of at < n = h.0 in (omega arith, h.1)
stop_later n p at (giving_up since) le h =
    let a : round_of at < n = h.0 in let b : round_of since < n = h.1 in (omega arith, omega arith)
stop_later n p at (awaiting children ended e) le h = let a : round_of at < n = h.0 in (omega arith, h.1)
stop_later n p at (at_end u e) le h = let a : round_of at < n = h.0 in (omega arith, h.1)

below_later : (n p : ℕ) (q : Started) → n ≤ p → IsBelow n q → IsBelow p q
below_later n p q le h = record { signs = signs_later n p q.made le h.signs; stop = stop_later n p q.stop.at q.rest.stopped le h.stop }

signs_append : (n : ℕ) (xs ys : List Event) → SignsBelow n xs → SignsBelow n ys → SignsBelow n (xs ++ ys)
signs_append n [] ys h k = k
signs_append n (noted t e ∷ xs) ys h k = signs_append n xs ys h k
signs_append n (signs l t ∷ xs) ys h k = (h.0, signs_append n xs ys h.1 k)
signs_append n (enters l t d ∷ xs) ys h k = signs_append n xs ys h k
signs_append n (acts label moment done ∷ xs) ys h k = (h.0, signs_append n xs ys h.1 k)
signs_append n (starts i l t ∷ xs) ys h k = signs_append n xs ys h k

-- events that ask nothing are in the moment of their turn
signs_made : (n : ℕ) (clock : Clock) (t : ℕ) (ls : List Label) (es : List Event) → round_of t < n → MadeAt clock t ls es → AsksNothing es →
    SignsBelow n es
signs_made n clock t ls [] h m a = tt
signs_made n clock t ls (noted u e ∷ es) h m a = signs_made n clock t ls es h m.1 a
signs_made n clock t ls (signs l u ∷ es) h m a = (subst (λ (x : ℕ). round_of x < n) (sym m.0) h, signs_made n clock t ls es h m.2 a)
signs_made n clock t ls (enters l u d ∷ es) h m a = signs_made n clock t (l ∷ ls) es h m.1 a
signs_made n clock t ls (acts l u (opens kind) ∷ es) h m a = (subst (λ (x : ℕ). round_of x < n) (sym m.0) h, signs_made n clock t ls es h m.1 a)
signs_made n clock t ls (acts l u (asks ask part left) ∷ es) h m a = absurd a
signs_made n clock t ls (acts l u gives_back ∷ es) h m a = (subst (λ (x : ℕ). round_of x < n) (sym m.0) h, signs_made n clock t ls es h m.1 a)
signs_made n clock t ls (acts l u closes ∷ es) h m a = (subst (λ (x : ℕ). round_of x < n) (sym m.0) h, signs_made n clock t ls es h m.1 a)
signs_made n clock t ls (starts i l u ∷ es) h m a = signs_made n clock t ls es h m.1 a

-- what was asked before is in the moment in which it was asked
first_made : (n : ℕ) (clock : Clock) (t : ℕ) (ls : List Label) (o : Option Label) (here : Here) (ask : Ask) (since : ℕ) (es : List Event) →
    round_of t < n → round_of since < n → MadeAt clock t ls es → AsksFirst t o here ask since es → SignsBelow n es
first_made n clock t ls None here ask since es h k m a = signs_made n clock t ls es h m a
first_made n clock t ls (Some l) here ask since [] h k m a = absurd a
first_made n clock t ls (Some l) here ask since (noted u e ∷ es) h k m a = absurd a
first_made n clock t ls (Some l) here ask since (signs x u ∷ es) h k m a = absurd a
first_made n clock t ls (Some l) here ask since (enters x u d ∷ es) h k m a = absurd a
first_made n clock t ls (Some l) here ask since (acts x u (opens kind) ∷ es) h k m a = absurd a
first_made n clock t ls (Some l) here ask since (acts x u (asks b part left) ∷ es) h k m a =
    (subst (λ (y : ℕ). round_of y < n) (sym a.1) k, signs_made n clock t ls es h m.1 a.5)
first_made n clock t ls (Some l) here ask since (acts x u gives_back ∷ es) h k m a = absurd a
first_made n clock t ls (Some l) here ask since (acts x u closes ∷ es) h k m a = absurd a
first_made n clock t ls (Some l) here ask since (starts i x u ∷ es) h k m a = absurd a

-- so the events of a turn are in its moment, but for what the task had asked
turn_made : (n : ℕ) (clock : Clock) (t : ℕ) (ls : List Label) (here : Here) (s : Stopped) (fs : List Frame) (ps : List Place) (at : ℕ)
    (es : List Event) → round_of t < n → StopBelow n at s → MadeAt clock t ls es → AskedFirst t here (Some s) fs ps es → SignsBelow n es
turn_made n clock t ls here (queued object ask since body) fs ps at es h b m a =
    first_made n clock t ls (label_among true object ps) (inside fs here) ask since es h (subst (λ (x : ℕ). round_of x < n) (sym b.1) b.0) m a
turn_made n clock t ls here to_begin fs ps at es h b m a = signs_made n clock t ls es h m a
turn_made n clock t ls here (asking kernel purpose) fs ps at es h b m a = signs_made n clock t ls es h m a
turn_made n clock t ls here (asleep paced ticks since) fs ps at es h b m a = signs_made n clock t ls es h m a
turn_made n clock t ls here (waiting_for event since) fs ps at es h b m a = signs_made n clock t ls es h m a
turn_made n clock t ls here (giving_up since) fs ps at es h b m a = signs_made n clock t ls es h m a
turn_made n clock t ls here (awaiting children ended e) fs ps at es h b m a = signs_made n clock t ls es h m a
turn_made n clock t ls here (at_end u e) fs ps at es h b m a = signs_made n clock t ls es h m a

-- So is its stop; a task that gives up after an ask does so a round later than after a checkpoint.
stop_made : (n : ℕ) (clock : Clock) (t : ℕ) (f : Table) (ps : List Place) (s : Stopped) → round_of t + rounds_skipped t (Some s) < n →
    StopsAt clock t f (Some s) ps → StopBelow n t s
stop_made n clock t f ps to_begin h k = absurd k
stop_made n clock t f ps (asking kernel purpose) h k = omega arith
stop_made n clock t f ps (asleep paced ticks since) h k = (omega arith, k.0)
stop_made n clock t f ps (waiting_for event since) h k = (omega arith, k)
stop_made n clock t f ps (queued object ask since body) h k = (omega arith, k.0)
stop_made n clock t f ps (giving_up since) h (inl e) = let a : round_of t < n = omega arith in (a, subst (λ (x : ℕ). round_of x < n) (sym e) a)
stop_made n clock t f ps (giving_up since) h (inr e) =
    let a : round_of (t + 1) ≤ round_of t + 1 = round_later t in
    let b : round_of (t + 1) < n = omega arith in
    let c : since ≡ t + 1 = omega arith in
    (omega arith, subst (λ (x : ℕ). round_of x < n) (sym c) b)
stop_made n clock t f ps (awaiting children ended e) h k = (omega arith, k)
stop_made n clock t f ps (at_end u e) h k = (omega arith, k)

-- ---- acts

-- a moment is t or later, or in a round less than n; and the next moment is later than t, or in a round of at most n
abbrev IsKnown : ℕ → ℕ → ℕ → Type 0
IsKnown t n u = (t ≤ u) ⊎ (round_of u < n)

abbrev IsSoon : ℕ → ℕ → ℕ → Type 0
IsSoon t n u = (t < u) ⊎ (round_of u ≤ n)

known_next : (t n u : ℕ) → IsKnown t n u → IsSoon t n (u + 1)
known_next t n u (inl le) = inl (omega arith)
known_next t n u (inr h) = let a : round_of (u + 1) ≤ round_of u + 1 = round_later u in inr (omega arith)

-- what a task has done, where it holds of what its children do
fill_known : (t n : ℕ) (outcomes : ChildOutcomes) (es : List Event) → SignsBelow n es →
    ((i : ℕ) → StartsChild i es → EachAct (IsKnown t n) (outcomes i).log) → EachAct (IsKnown t n) (fill outcomes es)
fill_known t n outcomes [] h k = tt
fill_known t n outcomes (noted u e ∷ es) h k = fill_known t n outcomes es h k
fill_known t n outcomes (signs l u ∷ es) h k = fill_known t n outcomes es h.1 k
fill_known t n outcomes (enters l u d ∷ es) h k = fill_known t n outcomes es h k
fill_known t n outcomes (acts l u a ∷ es) h k = (inr h.0, fill_known t n outcomes es h.1 k)
fill_known t n outcomes (starts i l u ∷ es) h k = (k i (inl refl), fill_known t n outcomes es h (λ j s. k j (inr s)))

late_known : (t n : ℕ) (r : Result) → Late t r → EachAct (IsKnown t n) r.log
late_known t n r h = act_timed (IsKnown t n) t r.log (λ u le. inl le) h.timed

-- and what it has left
left_known : (t n : ℕ) (here : Here) (fs : List Frame) (ps : List Place) (at : ℕ) (s : Stopped) (r : Result) → LeftFrom t here fs ps s r →
    StopBelow n at s → EachAct (IsKnown t n) r.log
left_known t n here fs ps at (queued object ask since body) r h b = of_label (label_among true object ps) h
  where
    of_label : (o : Option Label) → PendingOn t o since ask (inside fs here).part r → EachAct (IsKnown t n) r.log
    of_label None p = absurd p
    of_label (Some l) p =
        subst (λ (x : Result). EachAct (IsKnown t n) x.log) (sym p.same)
        (inr (subst (λ (y : ℕ). round_of y < n) (sym b.1) b.0), late_known t n p.rest p.late)
left_known t n here fs ps at (at_end u e) r h b = subst (λ (a : Log). EachAct (IsKnown t n) a) (sym h) tt
left_known t n here fs ps at to_begin r h b = late_known t n r h
left_known t n here fs ps at (asking kernel purpose) r h b = late_known t n r h
left_known t n here fs ps at (asleep paced ticks since) r h b = late_known t n r h
left_known t n here fs ps at (waiting_for event since) r h b = late_known t n r h
left_known t n here fs ps at (giving_up since) r h b = late_known t n r h
left_known t n here fs ps at (awaiting children ended exc) r h b = late_known t n r h

-- ---- what is seen

-- the first sign among events is in a round less than n
abbrev SignBelow : ℕ → Tick → Type 0
SignBelow n None = Unit {0}
SignBelow n (Some t) = round_of t < n

sign_earlier : (n : ℕ) (a b : Tick) → SignBelow n a → SignBelow n b → SignBelow n (earlier a b)
sign_earlier n None b h k = k
sign_earlier n (Some t) None h k = h
sign_earlier n (Some t) (Some u) h k = by_order (nat_lt u t)
  where
    by_order : (b : Bool) → round_of (if b then u else t) < n
    by_order true = k
    by_order false = h

sign_if : (n : ℕ) (b : Bool) (t : ℕ) → round_of t < n → SignBelow n (tick_if b t)
sign_if n true t h = h
sign_if n false t h = tt

made_below : (n : ℕ) (l : Label) (es : List Event) → SignsBelow n es → SignBelow n (made_sign l es)
made_below n l [] h = tt
made_below n l (noted t e ∷ es) h = made_below n l es h
made_below n l (signs m t ∷ es) h = sign_earlier n _ _ (sign_if n (same_label l m) t h.0) (made_below n l es h.1)
made_below n l (enters m t d ∷ es) h = made_below n l es h
made_below n l (acts label moment done ∷ es) h = made_below n l es h.1
made_below n l (starts i m t ∷ es) h = made_below n l es h

-- the first sign that any task made before c is in a round less than n, if there is one
upto_below : (n c : ℕ) (a : Tick) → SignBelow n a → upto c a < c → round_of (upto c a) < n
upto_below n c None h lt = absurd (omega arith)
upto_below n c (Some t) h lt = subst (λ (x : ℕ). round_of x < n) (omega arith) h

least_below : (n c : ℕ) (l : Label) (qs : List Started) → ((q : Started) → IsAmong q qs → IsBelow n q) → made_least c l qs < c →
    round_of (made_least c l qs) < n
unfolding made_least
least_below n c l [] h lt = absurd (omega arith)
least_below n c l (q ∷ qs) h lt =
    of_two (upto c (made_sign l q.made)) (made_least c l qs)
    (upto_below n c (made_sign l q.made) (made_below n l q.made (h q (inl refl)).signs))
    (least_below n c l qs (λ x i. h x (inr i))) lt
  where
    of_two : (a b : ℕ) → (a < c → round_of a < n) → (b < c → round_of b < n) → min a b < c → round_of (min a b) < n
    of_two a b i j lt = by_order (split a b)
      where
        split : (a b : ℕ) → (a ≤ b) ⊎ (b ≤ a)
        split a b = grind arith

        by_order : (a ≤ b) ⊎ (b ≤ a) → round_of (min a b) < n
        by_order (inl le) = subst (λ (x : ℕ). round_of x < n) (omega arith) (i (omega arith))
        by_order (inr le) = subst (λ (x : ℕ). round_of x < n) (omega arith) (j (omega arith))

-- a label is cancelled from t on: by its deadline, or by a sign in the moment before
from_is : (D s : Tick) (t : ℕ) → from_by D s ≡ Some t → (D ≡ Some t) ⊎ (next s ≡ Some t)
from_is None s t e = inr e
from_is (Some d) None t e = inl e
from_is (Some d) (Some u) t e = by_order (nat_lt (u + 1) d) e
  where
    by_order : (b : Bool) → Some (if b then u + 1 else d) ≡ Some t → (Some d ≡ Some t) ⊎ (Some (u + 1) ≡ Some t)
    by_order true g = inr g
    by_order false g = inl g

none_is : (t : ℕ) → None ≡ Some t → ⊥
none_is t e = cc

next_is : (s : Tick) (t : ℕ) → next s ≡ Some t → (u : ℕ) × (s ≡ Some u) × (u + 1 ≡ t)
next_is None t e = cc
next_is (Some u) t e = (u, refl, some_same (u + 1) t e)
  where
    some_same : (x y : ℕ) → Some x ≡ Some y → x ≡ y
    some_same x y e = cc

-- what is seen on a stack from t on is a from of one of its levels
sight_is : (k : Table) (t : ℕ) (P : Type 0) → ((l : Label) → k l ≡ Some t → P) → (ps : List Place) → sight (stack_at k ps).scopes ≡ Some t → P
sight_is k t P h [] e = absurd (none_is t e)
sight_is k t P h (p ∷ ps) e = by_kind p.is_event e (sight_is k t P h ps)
  where
    of_two : (a b : Tick) → (a ≡ Some t → P) → (b ≡ Some t → P) → earlier a b ≡ Some t → P
    of_two None b i j g = j g
    of_two (Some x) None i j g = i g
    of_two (Some x) (Some y) i j g = by_order (nat_lt y x) g
      where
        by_order : (b : Bool) → Some (if b then y else x) ≡ Some t → P
        by_order true g = j g
        by_order false g = i g

    by_shield : (b : Bool) → (if b then k p.label else earlier (k p.label) (sight (stack_at k ps).scopes)) ≡ Some t →
        (sight (stack_at k ps).scopes ≡ Some t → P) → P
    by_shield true g more = h p.label g
    by_shield false g more = of_two (k p.label) (sight (stack_at k ps).scopes) (h p.label) more g

    by_kind : (b : Bool) → sight (level_on b (record { label = p.label; shield = p.shield; from = k p.label }) (stack_at k ps)).scopes ≡ Some t →
        (sight (stack_at k ps).scopes ≡ Some t → P) → P
    by_kind true g more = more g
    by_kind false g more = by_shield p.shield g more

-- an event on a stack is set from the from of its label on
event_is : (k : Table) (name : List ℕ) (Q : Option (Level Label) → Type 0) → Q None → ((l : Level Label) → l.from ≡ k l.label → Q (Some l)) →
    (ps : List Place) → Q (event_on name (stack_at k ps).events)
event_is k name Q none some [] = none
event_is k name Q none some (p ∷ ps) = by_kind p.is_event (bytes_eq name p.label.name) refl (event_is k name Q none some ps)
  where
    level : Level Label
    level = record { label = p.label; shield = p.shield; from = k p.label }

    by_kind : (a b : Bool) → bytes_eq name p.label.name ≡ b → Q (event_on name (stack_at k ps).events) →
        Q (event_on name (level_on a level (stack_at k ps)).events)
    by_kind false b e more = more
    by_kind true true e more = subst (λ (x : Bool). Q (level_if x level (event_on name (stack_at k ps).events))) (sym e) (some level refl)
    by_kind true false e more = subst (λ (x : Bool). Q (level_if x level (event_on name (stack_at k ps).events))) (sym e) more

-- ---- a turn

-- the deadlines of following a table
follow_on : (k : Tables) (job : Tree) (input : List ℕ) → clock_of job.format ≡ by_rounds →
    EachOnTick (follow k.cancelled_from k.granted job input).log
unfolding follow
follow_on k job input c = each_walked (by_tables k) job.steps (root_here job input) c no_stack (only_at 0)

module _ (k : Tables) (f : Table) (job : Tree) (input : List ℕ) (settled : IsSettledBy k job input)
    (on : EachOnTick (follow k.cancelled_from k.granted job input).log)
    (qs : List Started) (o : RunInvariant k f (root_result k job input) qs) (t : ℕ) (from : AllFrom k qs t)
    (n : ℕ) (all : (q : Started) → IsAmong q qs → IsBelow n q) (bound : ℕ) (small : (q : Started) → IsAmong q qs → q.serial < bound) where
  -- a label that is cancelled from the moment on is so by its deadline, or by a sign that some task made
  from_below : (l : Label) → k.cancelled_from l ≡ Some t → round_of t ≤ n
  from_below l e =
      by_entry (deadline_of l (follow k.cancelled_from k.granted job input).log)
      (deadline_on l (follow k.cancelled_from k.granted job input).log on) (sym (settled.froms l) ∙ e)
    where
      by_sign : (u : ℕ) → least_sign l (follow k.cancelled_from k.granted job input).log ≡ Some u → u + 1 ≡ t → round_of t ≤ n
      by_sign u g h =
          let a : upto t (least_sign l (follow k.cancelled_from k.granted job input).log) ≡ made_least t l qs =
          same_least k f (root_result k job input) qs o t from l in
          let b : min t u ≡ made_least t l qs = sym (ap (λ (x : Tick). upto t x) g) ∙ a in
          let c : made_least t l qs ≡ u = omega arith in
          let d : round_of u < n =
          subst (λ (x : ℕ). round_of x < n) c (least_below n t l qs all (omega arith)) in
          let j : round_of (u + 1) ≤ round_of u + 1 = round_later u in
          subst (λ (x : ℕ). round_of x ≤ n) h (omega arith)

      by_from : (d : Tick) → OnTick d → (d ≡ Some t) ⊎ (next (least_sign l (follow k.cancelled_from k.granted job input).log) ≡ Some t) →
          round_of t ≤ n
      by_from d first (inl g) = let a : round_of t ≡ 0 = subst OnTick g first in omega arith
      by_from d first (inr g) = let h : _ = next_is (least_sign l (follow k.cancelled_from k.granted job input).log) t g in by_sign h.0 h.1 h.2

      by_entry : (x : Option Tick) → OnTickIf x → entered_from x (least_sign l (follow k.cancelled_from k.granted job input).log) ≡ Some t →
          round_of t ≤ n
      by_entry None first g = absurd (none_is t g)
      by_entry (Some d) first g = by_from d first (from_is d (least_sign l (follow k.cancelled_from k.granted job input).log) t g)

  -- each act in what a task results in is at the moment or later, or in a round less than n
  act_known : (s : ℕ) (q : Started) → IsAmong q qs → bound ≤ q.serial + s → EachAct (IsKnown t n) q.final_result.log
  act_known zero q i le = let w : q.serial < bound = small q i in absurd (omega arith)
  act_known (suc s) q i le =
      subst (λ (r : Result). EachAct (IsKnown t n) r.log) ((o.fits q i).comes q.outcomes (outcomes_tell q))
      (act_followed (IsKnown t n) (fill q.outcomes q.made)
      (rest_comes_to (by_tables k) q.outcomes q.rest q.here (stack_at k.cancelled_from q.places) q.stop).log
      (fill_known t n q.outcomes q.made (all q i).signs (λ j h. of_child j (o.kids q i j (o.numbered q i j h)) (λ x p le. act_known s x p le)))
      (left_known t n q.here q.rest.frames q.places q.stop.at q.rest.stopped _
      (left_rest k q.outcomes q.here q.stop t q.rest.stopped q.rest.frames q.places (o.shape q i) (from q i)) (all q i).stop))
    where
      of_child : (j : ℕ) (c : Kid qs q j) → ((x : Started) → IsAmong x qs → bound ≤ x.serial + s → EachAct (IsKnown t n) x.final_result.log) →
          EachAct (IsKnown t n) (q.outcomes j).log
      of_child j c go =
          let x : q.serial < c.kid.serial = c.later in
          subst (λ (r : Result). EachAct (IsKnown t n) r.log) c.same (go c.kid c.among (omega arith))

  whole_known : EachAct (IsKnown t n) (follow k.cancelled_from k.granted job input).log
  whole_known =
      subst (λ (r : Result). EachAct (IsKnown t n) r.log) o.root.comes (act_known bound o.root.root o.root.among (omega arith))

  -- so what is granted by the moment is granted in few rounds
  grants_known : (l asker : Label) (since : ℕ) → OnGranted (IsSoon t n) (k.granted l asker since)
  grants_known l asker since =
      subst (λ (g : Option Granted). OnGranted (IsSoon t n) g) (sym (settled.granted l asker since))
      (found_given (IsSoon t n) asker since (serve_acts unopened (by_moment (acts_in l log)))
      (each_served (IsKnown t n) (IsSoon t n) (known_next t n) unopened (by_moment (acts_in l log))
      (each_by_moment (IsKnown t n) (acts_in l log) (acts_each (IsKnown t n) l log (whole_known, tt)))))
    where
      log : Log
      log = root_log job (follow k.cancelled_from k.granted job input)

  granted_below : (here : Here) (l : Option Label) (since : ℕ) (st : Stack) (what : What) →
      granted_to k here l since st ≡ Some (record { at = t; what = what }) → round_of t ≤ n
  granted_below here None since st what e = cc
  granted_below here (Some l) since st what e = of_grant (k.granted l here.task since) (grants_known l here.task since) e
    where
      left : ℕ
      left = leaves_queue (sight st.scopes) (last_grant here.clock since)

      of_grant : (x : Option Granted) → OnGranted (IsSoon t n) x → in_time since left x ≡ Some (record { at = t; what = what }) → round_of t ≤ n
      of_grant None g h = cc
      of_grant (Some x) g h = by_time (nat_lt since x.at && nat_le x.at left) g h
        where
          by_time : (b : Bool) → IsSoon t n x.at → granted_if b x None ≡ Some (record { at = t; what = what }) → round_of t ≤ n
          by_time false i j = cc
          by_time true (inl lt) j = let a : x.at ≡ t = ap (λ (y : Option Granted). granted_or_left y 0) j in absurd (omega arith)
          by_time true (inr le) j =
              subst (λ (y : ℕ). round_of y ≤ n) (ap (λ (y : Option Granted). granted_or_left y 0) j) le

  module _ (q : Started) (i : IsAmong q qs) (by : q.here.clock ≡ by_rounds) where
    -- the children for which a task waits have ended in few rounds
    ends_below : (ends : ℕ → Member) (is : List ℕ) → ((j : ℕ) → IsAmong j is → j < q.count) →
        ((j : ℕ) → IsAmong j is → (c : Started) → IsAmong c qs → c.serial ≡ q.child j → c.rest.stopped ≡ at_end (ends j).end (ends j).exc) →
        EachEnd n (members_by ends is)
    ends_below ends [] few over = tt
    ends_below ends (j ∷ is) few over =
        let c : Kid qs q j = o.kids q i j (few j (inl refl)) in
        let b : (round_of c.kid.stop.at < n) × ((ends j).end ≡ c.kid.stop.at) =
        subst (StopBelow n c.kid.stop.at) (over j (inl refl) c.kid c.among c.serial) (all c.kid c.among).stop in (
          subst (λ (x : ℕ). round_of x < n) (sym b.1) b.0,
          ends_below ends is (λ m x. few m (inr x)) (λ m x. over m (inr x)),
        )

    settled_below : (x e : Option Exc) (ms : List Member) (ended : ℕ) (ps : List Place) → round_of ended < n → EachEnd n ms →
        SettlesAt q.here.clock t x ms ended e ps → round_of t ≤ n
    settled_below x e ms ended [] h k s = absurd s
    settled_below x e ms ended (p ∷ ps) h k s =
        let a : latest ended ms + 1 ≡ t = sym (ap (λ (c : Clock). a_round_after c (latest ended ms)) by) ∙ s.0 in
        let b : round_of (latest ended ms) < n = round_last n ended ms h k in
        let c : round_of (latest ended ms + 1) ≤ round_of (latest ended ms) + 1 = round_later (latest ended ms) in
        subst (λ (z : ℕ). round_of z ≤ n) a (omega arith)

    next_below : (since : ℕ) → round_of since < n → a_round_after q.here.clock since ≡ t → round_of t ≤ n
    next_below since h e =
        let a : since + 1 ≡ t = sym (ap (λ (c : Clock). a_round_after c since) by) ∙ e in
        let b : round_of (since + 1) ≤ round_of since + 1 = round_later since in
        subst (λ (z : ℕ). round_of z ≤ n) a (omega arith)

    seen_below : (since : ℕ) → round_of since < n → SeesAt q.here.clock since t (stack_at k.cancelled_from q.places) → round_of t ≤ n
    seen_below since h (inl e) = sight_is k.cancelled_from t (round_of t ≤ n) from_below q.places e
    seen_below since h (inr e) = next_below since h e.0

    due_below : (ticks since : ℕ) → round_of since < n → wakes_at q.here.clock ticks since ≡ t → round_of t ≤ n
    due_below ticks since h e =
        subst (λ (z : ℕ). round_of z ≤ n) (sym (ap (λ (c : Clock). wakes_at c ticks since) by) ∙ e) (round_due n ticks since h)

    stopped_in : (since : ℕ) → round_of q.stop.at < n → since ≡ q.stop.at → round_of since < n
    stopped_in since h e = subst (λ (z : ℕ). round_of z < n) (sym e) h

    -- the earlier of two moments
    either_below : (a b : ℕ) → (a ≡ t → round_of t ≤ n) → (b ≡ t → round_of t ≤ n) → min a b ≡ t → round_of t ≤ n
    either_below a b h k e = by_order (smaller a b)
      where
        smaller : (x y : ℕ) → (min x y ≡ x) ⊎ (min x y ≡ y)
        smaller x y = grind arith

        by_order : (min a b ≡ a) ⊎ (min a b ≡ b) → round_of t ≤ n
        by_order (inl g) = h (sym g ∙ e)
        by_order (inr g) = k (sym g ∙ e)

    -- a wait for an event is over a round after it began, when the event is set, or when no wait lasts longer
    moment_below : (set : Tick) (since : ℕ) → round_of since < n → (set ≡ Some t → round_of t ≤ n) → set_moment q.here.clock set since ≡ t → round_of t ≤ n
    moment_below None since h from e = due_below (far - tick_of q.here.clock since) since h e
    moment_below (Some u) since h from e =
        either_below u (wakes_at q.here.clock (far - tick_of q.here.clock since) since) (λ g. from (ap (λ (z : ℕ). Some z) g))
        (due_below (far - tick_of q.here.clock since) since h) e

    set_below : (event : List ℕ) (since : ℕ) → round_of since < n →
        GoesOnWaiting q.here.clock (ends_at q.here.clock k.cancelled_from event since q.places) since t (stack_at k.cancelled_from q.places) →
        round_of t ≤ n
    set_below event since h (inl e) = next_below since h e.1
    set_below event since h (inr e) =
        event_is k.cancelled_from event
        (λ (x : Option (Level Label)). a_round_after q.here.clock since < set_at q.here.clock x since → set_at q.here.clock x since ≡ t →
        round_of t ≤ n) none some q.places e.0 e.1
      where
        none : a_round_after q.here.clock since < since → since ≡ t → round_of t ≤ n
        none lt g = let a : since ≤ a_round_after q.here.clock since = round_after q.here.clock since in absurd (omega arith)

        some : (l : Level Label) → l.from ≡ k.cancelled_from l.label → a_round_after q.here.clock since < set_moment q.here.clock l.from since →
            set_moment q.here.clock l.from since ≡ t → round_of t ≤ n
        some l same lt g = moment_below l.from since h (λ x. from_below l.label (sym same ∙ x)) g

    -- a task leaves a queue when it sees a cancellation, or in the last moment of a grant
    left_below : (since : ℕ) → round_of since < n →
        leaves_queue (sight (stack_at k.cancelled_from q.places).scopes) (last_grant q.here.clock since) ≡ t → round_of t ≤ n
    left_below since h e =
        by_sight (sight (stack_at k.cancelled_from q.places).scopes)
        (λ x. sight_is k.cancelled_from t (round_of t ≤ n) from_below q.places x) e
      where
        last : ℕ
        last = last_grant q.here.clock since

        last_below : last ≡ t → round_of t ≤ n
        last_below g =
            subst (λ (z : ℕ). round_of z ≤ n) (sym (ap (λ (c : Clock). last_grant c since) by) ∙ g) (round_granted n since h)

        by_sight : (a : Tick) → (a ≡ Some t → round_of t ≤ n) → leaves_queue a last ≡ t → round_of t ≤ n
        by_sight None cancelled_now g = last_below g
        by_sight (Some u) cancelled_now g = either_below u last (λ e. cancelled_now (ap (λ (z : ℕ). Some z) e)) last_below g

    by_stop : (own : List Label) (wake : Wake) (s : Stopped) → StopBelow n q.stop.at s →
        WakesBy k q.outcomes (inside q.rest.frames q.here) q.stop (record { at = t; own = own }) wake s q.places →
        MayWake (keeping f k) qs (record { at = t; own = own }) q wake s → round_of t ≤ n
    by_stop own begins to_begin b w h = subst (λ (v : Now). round_of v.at ≤ n) h b
    by_stop own begins (asking kernel purpose) b w h = absurd h
    by_stop own begins (asleep paced ticks since) b w h = absurd h
    by_stop own begins (waiting_for event since) b w h = absurd h
    by_stop own begins (queued object ask since body) b w h = absurd h
    by_stop own begins (giving_up since) b w h = absurd h
    by_stop own begins (awaiting children ended e) b w h = absurd h
    by_stop own begins (at_end u e) b w h = absurd h
    by_stop own (has_answer a) to_begin b w h = absurd h
    by_stop own (has_answer a) (asking kernel purpose) b w h = subst (λ (v : Now). round_of v.at ≤ n) h.0 (omega arith)
    by_stop own (has_answer a) (asleep paced ticks since) b w h = absurd h
    by_stop own (has_answer a) (waiting_for event since) b w h = absurd h
    by_stop own (has_answer a) (queued object ask since body) b w h = absurd h
    by_stop own (has_answer a) (giving_up since) b w h = absurd h
    by_stop own (has_answer a) (awaiting children ended e) b w h = absurd h
    by_stop own (has_answer a) (at_end u e) b w h = absurd h
    by_stop own (is_granted what) to_begin b w h = absurd h
    by_stop own (is_granted what) (asking kernel purpose) b w h = absurd h
    by_stop own (is_granted what) (asleep paced ticks since) b w h = absurd h
    by_stop own (is_granted what) (waiting_for event since) b w h = absurd h
    by_stop own (is_granted what) (queued object ask since body) b w h =
        granted_below (inside q.rest.frames q.here) (label_among true object q.places) since (stack_at k.cancelled_from q.places) what w.0
    by_stop own (is_granted what) (giving_up since) b w h = absurd h
    by_stop own (is_granted what) (awaiting children ended e) b w h = absurd h
    by_stop own (is_granted what) (at_end u e) b w h = absurd h
    by_stop own is_due to_begin b w h = absurd h
    by_stop own is_due (asking kernel purpose) b w h = absurd h
    by_stop own is_due (asleep paced ticks since) b w h = due_below ticks since (stopped_in since b.0 b.1) h.0
    by_stop own is_due (waiting_for event since) b w h = set_below event since (stopped_in since b.0 b.1) w.0
    by_stop own is_due (queued object ask since body) b w h = left_below since (stopped_in since b.0 b.1) w.0.1
    by_stop own is_due (giving_up since) b w h = absurd h
    by_stop own is_due (awaiting children ended e) b w h = absurd h
    by_stop own is_due (at_end u e) b w h = absurd h
    by_stop own sees to_begin b w h = absurd h
    by_stop own sees (asking kernel purpose) b w h = absurd h
    by_stop own sees (asleep paced ticks since) b w h = seen_below since (stopped_in since b.0 b.1) w.2
    by_stop own sees (waiting_for event since) b w h = seen_below since (stopped_in since b.0 b.1) w.0.1
    by_stop own sees (queued object ask since body) b w h = left_below since (stopped_in since b.0 b.1) w.0.1
    by_stop own sees (giving_up since) b w h = absurd h
    by_stop own sees (awaiting children ended e) b w h = absurd h
    by_stop own sees (at_end u e) b w h = absurd h
    by_stop own gives_up to_begin b w h = absurd h
    by_stop own gives_up (asking kernel purpose) b w h = absurd h
    by_stop own gives_up (asleep paced ticks since) b w h = absurd h
    by_stop own gives_up (waiting_for event since) b w h = absurd h
    by_stop own gives_up (queued object ask since body) b w h = absurd h
    by_stop own gives_up (giving_up since) b w h =
        let a : round_of since < n = b.1 in
        let c : round_of (since + 1) ≤ round_of since + 1 = round_later since in
        let d : since + 1 ≡ t = omega (arith, h.0) in
        subst (λ (z : ℕ). round_of z ≤ n) d (omega arith)
    by_stop own gives_up (awaiting children ended e) b w h = absurd h
    by_stop own gives_up (at_end u e) b w h = absurd h
    by_stop own (settles x) to_begin b w h = absurd h
    by_stop own (settles x) (asking kernel purpose) b w h = absurd h
    by_stop own (settles x) (asleep paced ticks since) b w h = absurd h
    by_stop own (settles x) (waiting_for event since) b w h = absurd h
    by_stop own (settles x) (queued object ask since body) b w h = absurd h
    by_stop own (settles x) (giving_up since) b w h = absurd h
    by_stop own (settles x) (awaiting children ended e) b w h =
        let over : WaitIsOver qs q t children ended e x = h.0 in
        settled_below x e (members_by over.ends children) ended q.places (stopped_in ended b.0 b.1)
        (ends_below over.ends children over.numbers over.over) over.settled
    by_stop own (settles x) (at_end u e) b w h = absurd h

    -- the moment in which a task may be woken is in a round of at most the number of turns so far
    pub woken_below : (own : List Label) (wake : Wake) → OwnFits q.here.clock q.stop.own →
        MayWake (keeping f k) qs (record { at = t; own = own }) q wake q.rest.stopped → round_of t ≤ n
    woken_below own wake fits h =
        by_stop own wake q.rest.stopped (all q i).stop
        (woken k f (root_result k job input) qs o t from q i own wake fits h q.outcomes (λ j lt. refl)) h

-- ---- a run

-- children that begin in few rounds
begun_below : (n : ℕ) (k : Tables) (t m : ℕ) (bs : List Begun) → round_of t ≤ n → (x : Started) → IsAmong x (children_from k t m bs) → IsBelow n x
unfolding children_from
begun_below n k t m [] h x i = absurd i
begun_below n k t m (b ∷ bs) h x (inl e) = subst (λ (z : Started). IsBelow n z) (sym e) (record { signs = tt; stop = h })
begun_below n k t m (b ∷ bs) h x (inr i) = begun_below n k t (suc m) bs h x i

-- after a turn in a round of at most n all is in few rounds
turned_below : (n p : ℕ) (k : Tables) (f : Table) (now : Now) (m : ℕ) (q : Started) (others : List Started) (wake : Wake) (o : Move) (s : Stopped) →
    ((x : Started) → IsAmong x (q ∷ others) → IsBelow n x) → q.here.clock ≡ by_rounds → round_of now.at ≤ n →
    n + suc (rounds_skipped now.at (Some s)) ≤ p →
    TurnsOver q.stop now q.here f wake q.rest q.places q.count o → o.stopped ≡ Some s →
    (x : Started) → IsAmong x ((task_after_turn k now m q o s ∷ children_from k (a_round_after q.here.clock now.at) m o.begun) ++ others) →
    IsBelow p x
turned_below n p k f now m q others wake o s all by h le w e x (inl g) =
    subst (λ (z : Started). IsBelow p z) (sym g) (record {
      signs =
          signs_append p q.made o.made (signs_later n p q.made (omega arith) (all q (inl refl)).signs)
          (turn_made p q.here.clock now.at _ q.here q.rest.stopped q.rest.frames q.places q.stop.at o.made (omega arith)
          (stop_later n p q.stop.at q.rest.stopped (omega arith) (all q (inl refl)).stop) w.made_now w.asked);
      stop = stop_made p q.here.clock now.at _ o.places s (omega arith) (stops_at now f wake q o s w e);
    })
turned_below n p k f now m q others wake o s all by h le w e x (inr i) =
    by_place (in_either x (children_from k (a_round_after q.here.clock now.at) m o.begun) others i)
  where
    child_round : round_of (a_round_after q.here.clock now.at) ≤ p
    child_round =
        let a : round_of (now.at + 1) ≤ round_of now.at + 1 = round_later now.at in
        subst (λ (c : Clock). round_of (a_round_after c now.at) ≤ p) (sym by) (omega arith)

    by_place : IsAmong x (children_from k (a_round_after q.here.clock now.at) m o.begun) ⊎ IsAmong x others → IsBelow p x
    by_place (inl j) = begun_below p k (a_round_after q.here.clock now.at) m o.begun child_round x j
    by_place (inr j) = below_later n p x (omega arith) (all x (inr j))

-- children that begin count by this clock
begun_count : (clock : Clock) (k : Tables) (t m : ℕ) (bs : List Begun) → AllBy clock bs → (x : Started) → IsAmong x (children_from k t m bs) →
    x.here.clock ≡ clock
unfolding children_from
begun_count clock k t m [] h x i = absurd i
begun_count clock k t m (b ∷ bs) h x (inl e) = ap (λ (z : Started). z.here.clock) e ∙ h.0
begun_count clock k t m (b ∷ bs) h x (inr i) = begun_count clock k t (suc m) bs h.1 x i

-- each task of a run counts by the clock of the job
same_clock : (k : Tables) (job : Tree) (input : List ℕ) (f : Table) (t m : ℕ) (qs : List Started) → Reached k job input f t m qs →
    (q : Started) → IsAmong q qs → q.here.clock ≡ clock_of job.format
same_clock k job input f t m _ (begun f') x (inl e) = ap (λ (z : Started). z.here.clock) e
same_clock k job input f t m _ (begun f') x (inr i) = absurd i
same_clock k job input f t m _ (turn g now p q qs others wake o s r at may goes stopped) x i =
    after x i (λ y j. same_clock k job input g now.at p qs r y j)
  where
    same : SameTasks qs (q ∷ others)
    same = front_same q qs others at

    Before : Type 0
    Before = (y : Started) → IsAmong y qs → y.here.clock ≡ clock_of job.format

    by_place : (x : Started) → IsAmong x (children_from k (a_round_after q.here.clock now.at) p o.begun) ⊎ IsAmong x others → Before →
        x.here.clock ≡ clock_of job.format
    by_place x (inl j) h = begun_count q.here.clock k (a_round_after q.here.clock now.at) p o.begun goes.clocks x j ∙ h q (same.back q (inl refl))
    by_place x (inr j) h = h x (same.back x (inr j))

    after : (x : Started) → IsAmong x ((task_after_turn k now p q o s ∷ children_from k (a_round_after q.here.clock now.at) p o.begun) ++ others) → Before →
        x.here.clock ≡ clock_of job.format
    after x (inl e) h = ap (λ (z : Started). z.here.clock) e ∙ h q (same.back q (inl refl))
    after x (inr j) h = by_place x (in_either x (children_from k (a_round_after q.here.clock now.at) p o.begun) others j) h
same_clock k job input f t m qs (jump g v u p qs' r le blocked) x i = same_clock k job input g v p qs' r x i

module _ (k : Tables) (job : Tree) (input : List ℕ) (names : GivesNamesOnce job) (nurseries : StartsInNurseries job)
    (settled : IsSettledBy k job input) (clocked : clock_of job.format ≡ by_rounds) where
  -- the weight that the turns of a run have taken off so far
  abbrev taken : List Started → ℕ
  taken qs = (2 * size_of job.steps + 1) - all_weights qs

  -- what each task has done, and what it has pending, is in a round of at most that
  all_below : (f : Table) (t m : ℕ) (qs : List Started) → Reached k job input f t m qs → (q : Started) → IsAmong q qs → IsBelow (taken qs) q
  all_below f t m _ (begun f') x (inl e) =
      subst (λ (z : Started). IsBelow (taken (root_task k job input ∷ [])) z) (sym e)
      (record { signs = tt; stop = no_round (taken (root_task k job input ∷ [])) })
  all_below f t m _ (begun f') x (inr i) = absurd i
  all_below f t m _ (turn g now p q qs others wake o s r at may goes stopped) x i =
      let same : SameTasks qs (q ∷ others) = front_same q qs others at in
      let by : q.here.clock ≡ by_rounds = same_clock k job input g now.at p qs r q (same.back q (inl refl)) ∙ clocked in
      let kept : _ = runs_keep_invariant k job input settled names nurseries g now.at p qs r in
      let all : (y : Started) → IsAmong y (q ∷ others) → IsBelow (taken qs) y = λ y j. all_below g now.at p qs r y (same.back y j) in
      let whole : Result = root_result k job input in
      let weights : all_weights ((task_after_turn k now p q o s ∷ children_from k (a_round_after q.here.clock now.at) p o.begun) ++ others)
      + suc (rounds_skipped now.at (Some s)) ≤ all_weights qs = weights_turned k g now p q qs others wake o s at goes stopped in
      let few : turns_taken r + all_weights qs ≤ 2 * size_of job.steps + 1 = runs_end k job input g now.at p qs r in
      turned_below (taken qs) (taken ((task_after_turn k now p q o s ∷ children_from k (a_round_after q.here.clock now.at) p o.begun) ++ others))
      k g now p q others wake o s all by
      (woken_below k g job input settled (follow_on k job input clocked) (q ∷ others) (interleaving_moved k g whole qs (q ∷ others) same kept.0) now.at
      (from_moved k g whole qs (q ∷ others) same now.at kept.1) (taken qs) all p
      (λ y j. serials_below k job input g now.at p qs r y (same.back y j)) q (inl refl) by
      now.own wake (all_own_fit k job input g now.at p qs r q (same.back q (inl refl))) may)
      (omega arith) goes stopped x i
  all_below f t m qs (jump g v u p qs' r le blocked) x i = all_below g v p qs' r x i

-- ---- the laws

stop_within : (n at : ℕ) (s : Stopped) → StopBelow n at s → round_of at ≤ n
stop_within n at to_begin h = h
stop_within n at (asking kernel purpose) h = omega arith
stop_within n at (asleep paced ticks since) h = let a : round_of at < n = h.0 in omega arith
stop_within n at (waiting_for event since) h = let a : round_of at < n = h.0 in omega arith
stop_within n at (queued object ask since body) h = let a : round_of at < n = h.0 in omega arith
stop_within n at (giving_up since) h = let a : round_of at < n = h.0 in omega arith
stop_within n at (awaiting children ended e) h = let a : round_of at < n = h.0 in omega arith
stop_within n at (at_end u e) h = let a : round_of at < n = h.0 in omega arith

-- no round is greater than the weight that was taken off
pub rounds_are_few : RoundsAreFew
rounds_are_few k job input names nurseries settled clocked f t m qs r q i =
    let few : turns_taken r + all_weights qs ≤ 2 * size_of job.steps + 1 = runs_end k job input f t m qs r in
    let a : round_of q.stop.at ≤ (2 * size_of job.steps + 1) - all_weights qs =
    stop_within ((2 * size_of job.steps + 1) - all_weights qs) q.stop.at q.rest.stopped
    (all_below k job input names nurseries settled clocked f t m qs r q i).stop in
    omega arith

-- so none overflows into the next tick
pub rounds_stay_in_ticks : RoundsStayInTicks
rounds_stay_in_ticks k job input names nurseries settled small f t m qs r q i = by_clock (clock_of job.format) refl
  where
    by_clock : (clock : Clock) → clock_of job.format ≡ clock → tick_of clock (a_round_after clock q.stop.at) ≡ tick_of clock q.stop.at
    by_clock by_ticks e = refl
    by_clock by_rounds e =
        has_room (all_weights qs) (size_of job.steps) q.stop.at (rounds_are_few k job input names nurseries settled e f t m qs r q i) small
