-- Each run in turns agrees with the table, and has the result that the job means.
use Rattle.std.proofs.Common.{◌≡◌, ◌≤◌, ◌*◌, ℕ, suc, ◌+◌, ◌<◌, Some, List, [], ◌∷◌, ◌++◌, length, refl, sym, ap, subst, ◌∙◌, ◌⊎◌, inl, inr, arith}
use Rattle.turn_semantics.specs.Lists.{IsAmong}
use Rattle.job_tree.specs.Tree.{Tree}
use Rattle.job_tree.specs.Names.{GivesNamesOnce, size_of}
use Rattle.job_tree.specs.Starting.{StartsInNurseries}
use Rattle.job_meaning.specs.Log.{Result, Table}
use Rattle.job_meaning.specs.Moments.{clock_of, tick_of, a_round_after, Now, only_at}
use Rattle.job_meaning.specs.declared.clock.Clock.{Clock}
use Rattle.job_meaning.specs.declared.clock.Clock.TheVariants.{ByTicks as by_ticks, ByRounds as by_rounds}
use Rattle.job_meaning.specs.Walk.{no_stack}
use Rattle.job_meaning.specs.Meaning.{root_here, records_of, root_log, all_entered, cancelled_from_by, meaning}
use Rattle.job_meaning.specs.Follow.{follow}
use Rattle.job_meaning.specs.Rest.{ChildOutcomes, Stopped, to_begin, asking, asleep, waiting_for, queued, giving_up, awaiting, at_end, rest_weight, rest_at_start, inside}
use Rattle.job_meaning.proofs.Settled.{following_is_meaning, table_is_settled}
use Rattle.turn_semantics.specs.Midway.{Tables, by_tables, Begun, Move, OwnFits}
use Rattle.turn_semantics.specs.Steps.{cancelled_from_after}
use Rattle.turn_semantics.specs.Wakes.{Wake, begins, sees, gives_up, is_due, has_answer, is_granted, settles, WakesBy}
use Rattle.turn_semantics.specs.Turned.{weight_of_begun, rounds_skipped, TurnsOver}
use Rattle.turn_semantics.proofs.Events.{own_fits, none_fits}
use Rattle.interleavings.specs.Interleaving.{Started, Tells, RunInvariant, AllFrom}
use Rattle.interleavings.specs.Going.{root_result, root_task, children_from, task_after_turn}
use Rattle.interleavings.specs.Woken.{MayWake}
use Rattle.interleavings.specs.Runs.{Front, is_front, after_one, keeping, Reached, begun, turn, jump, turns_taken, all_weights}
use Rattle.interleavings.specs.Laws.{IsSettledBy, meaning_tables, RunsKeepInvariant, RunsAreTheMeaning, BlockedRunsGoOn, LimitsAreExact, RunsEnd}
use Rattle.interleavings.proofs.Readings.{in_either}
use Rattle.interleavings.proofs.Contract.{lighter}
use Rattle.interleavings.proofs.Agreement.{agrees_on, jumps}
use Rattle.interleavings.proofs.Picking.{SameTasks, front_same, interleaving_moved, from_moved}
use Rattle.interleavings.proofs.Waking.{woken}
use Rattle.interleavings.proofs.Turning.{interleaving_turned, from_turned}
use Rattle.interleavings.proofs.Beginning.{opens, opens_from}
use Rattle.interleavings.proofs.Ending.{records_over, cancelled_from_of_over, ends_over}
use Rattle.interleavings.proofs.Ends.{Inside, ends_by_root}
use Rattle.interleavings.proofs.Limits.{has_next, not_before}

-- what each task has cancelled in the moment of its last stop fits its clock: where moments are ticks, that is nothing
abbrev pub AllOwnFit : List Started → Type 0
AllOwnFit qs = (q : Started) → IsAmong q qs → OwnFits q.here.clock q.stop.own

-- what each step of a run keeps
record Kept (k : Tables) (f : Table) (whole : Result) (t m : ℕ) (qs : List Started) : Type 0 where
  interleaving : RunInvariant k f whole qs
  from : AllFrom k qs t
  small : (q : Started) → IsAmong q qs → q.serial < m

-- new children have the next serial numbers
pub begun_small : (k : Tables) (t m : ℕ) (bs : List Begun) (x : Started) → IsAmong x (children_from k t m bs) → x.serial < m + length bs
unfolding children_from
begun_small k t m [] x i = absurd i
begun_small k t m (b ∷ bs) x (inl e) = let a : x.serial ≡ m = ap (λ (z : Started). z.serial) e in omega arith
begun_small k t m (b ∷ bs) x (inr i) = let a : x.serial < suc m + length bs = begun_small k t (suc m) bs x i in omega arith

-- children that begin have cancelled nothing
begun_fit : (k : Tables) (t m : ℕ) (bs : List Begun) → AllOwnFit (children_from k t m bs)
unfolding children_from
begun_fit k t m [] x i = absurd i
begun_fit k t m (b ∷ bs) x (inl e) =
    subst (λ (z : Started). OwnFits z.here.clock z.stop.own) (sym e) (none_fits b.here.clock [] refl)
begun_fit k t m (b ∷ bs) x (inr i) = begun_fit k t (suc m) bs x i

-- what a task has cancelled in the moment of a turn is what it had cancelled before, if it is the same moment, or nothing
woken_fit : (f : Tables) (qs : List Started) (now : Now) (q : Started) (wake : Wake) (s : Stopped) → OwnFits q.here.clock q.stop.own →
    MayWake f qs now q wake s → OwnFits q.here.clock now.own
woken_fit f qs now q begins to_begin fits h = subst (λ (v : Now). OwnFits q.here.clock v.own) h fits
woken_fit f qs now q begins (asking kernel purpose) fits h = absurd h
woken_fit f qs now q begins (asleep paced n since) fits h = absurd h
woken_fit f qs now q begins (waiting_for event since) fits h = absurd h
woken_fit f qs now q begins (queued object ask since body) fits h = absurd h
woken_fit f qs now q begins (giving_up since) fits h = absurd h
woken_fit f qs now q begins (awaiting children ended e) fits h = absurd h
woken_fit f qs now q begins (at_end u e) fits h = absurd h
woken_fit f qs now q (has_answer a) to_begin fits h = absurd h
woken_fit f qs now q (has_answer a) (asking kernel purpose) fits h = subst (λ (v : Now). OwnFits q.here.clock v.own) h.0 fits
woken_fit f qs now q (has_answer a) (asleep paced n since) fits h = absurd h
woken_fit f qs now q (has_answer a) (waiting_for event since) fits h = absurd h
woken_fit f qs now q (has_answer a) (queued object ask since body) fits h = absurd h
woken_fit f qs now q (has_answer a) (giving_up since) fits h = absurd h
woken_fit f qs now q (has_answer a) (awaiting children ended e) fits h = absurd h
woken_fit f qs now q (has_answer a) (at_end u e) fits h = absurd h
woken_fit f qs now q (is_granted what) to_begin fits h = absurd h
woken_fit f qs now q (is_granted what) (asking kernel purpose) fits h = absurd h
woken_fit f qs now q (is_granted what) (asleep paced n since) fits h = absurd h
woken_fit f qs now q (is_granted what) (waiting_for event since) fits h = absurd h
woken_fit f qs now q (is_granted what) (queued object ask since body) fits h = none_fits q.here.clock now.own h.1
woken_fit f qs now q (is_granted what) (giving_up since) fits h = absurd h
woken_fit f qs now q (is_granted what) (awaiting children ended e) fits h = absurd h
woken_fit f qs now q (is_granted what) (at_end u e) fits h = absurd h
woken_fit f qs now q is_due to_begin fits h = absurd h
woken_fit f qs now q is_due (asking kernel purpose) fits h = absurd h
woken_fit f qs now q is_due (asleep paced n since) fits h = none_fits q.here.clock now.own h.2
woken_fit f qs now q is_due (waiting_for event since) fits h = none_fits q.here.clock now.own h.1
woken_fit f qs now q is_due (queued object ask since body) fits h = none_fits q.here.clock now.own h.2
woken_fit f qs now q is_due (giving_up since) fits h = absurd h
woken_fit f qs now q is_due (awaiting children ended e) fits h = absurd h
woken_fit f qs now q is_due (at_end u e) fits h = absurd h
woken_fit f qs now q sees to_begin fits h = absurd h
woken_fit f qs now q sees (asking kernel purpose) fits h = absurd h
woken_fit f qs now q sees (asleep paced n since) fits h = none_fits q.here.clock now.own h.2
woken_fit f qs now q sees (waiting_for event since) fits h = none_fits q.here.clock now.own h.2
woken_fit f qs now q sees (queued object ask since body) fits h = none_fits q.here.clock now.own h.2
woken_fit f qs now q sees (giving_up since) fits h = absurd h
woken_fit f qs now q sees (awaiting children ended e) fits h = absurd h
woken_fit f qs now q sees (at_end u e) fits h = absurd h
woken_fit f qs now q gives_up to_begin fits h = absurd h
woken_fit f qs now q gives_up (asking kernel purpose) fits h = absurd h
woken_fit f qs now q gives_up (asleep paced n since) fits h = absurd h
woken_fit f qs now q gives_up (waiting_for event since) fits h = absurd h
woken_fit f qs now q gives_up (queued object ask since body) fits h = absurd h
woken_fit f qs now q gives_up (giving_up since) fits h = none_fits q.here.clock now.own h.1
woken_fit f qs now q gives_up (awaiting children ended e) fits h = absurd h
woken_fit f qs now q gives_up (at_end u e) fits h = absurd h
woken_fit f qs now q (settles x) to_begin fits h = absurd h
woken_fit f qs now q (settles x) (asking kernel purpose) fits h = absurd h
woken_fit f qs now q (settles x) (asleep paced n since) fits h = absurd h
woken_fit f qs now q (settles x) (waiting_for event since) fits h = absurd h
woken_fit f qs now q (settles x) (queued object ask since body) fits h = absurd h
woken_fit f qs now q (settles x) (giving_up since) fits h = absurd h
woken_fit f qs now q (settles x) (awaiting children ended e) fits h = none_fits q.here.clock now.own h.1
woken_fit f qs now q (settles x) (at_end u e) fits h = absurd h

-- after a turn each task still has cancelled what fits its clock
fit_turned : (k : Tables) (f : Table) (now : Now) (m : ℕ) (q : Started) (qs others : List Started) (wake : Wake) (o : Move) (s : Stopped) →
    SameTasks qs (q ∷ others) → AllOwnFit qs → MayWake (keeping f k) (q ∷ others) now q wake q.rest.stopped →
    AllOwnFit ((task_after_turn k now m q o s ∷ children_from k (a_round_after q.here.clock now.at) m o.begun) ++ others)
fit_turned k f now m q qs others wake o s same owns may x (inl e) =
    subst (λ (z : Started). OwnFits z.here.clock z.stop.own) (sym e)
    (own_fits q.here.clock now.own o.made
    (woken_fit (keeping f k) (q ∷ others) now q wake q.rest.stopped (owns q (same.back q (inl refl))) may))
fit_turned k f now m q qs others wake o s same owns may x (inr i) =
    by_place (in_either x (children_from k (a_round_after q.here.clock now.at) m o.begun) others i)
  where
    by_place : IsAmong x (children_from k (a_round_after q.here.clock now.at) m o.begun) ⊎ IsAmong x others → OwnFits x.here.clock x.stop.own
    by_place (inl j) = begun_fit k (a_round_after q.here.clock now.at) m o.begun x j
    by_place (inr j) = owns x (same.back x (inr j))

-- so it is in each run, for any table
pub all_own_fit : (k : Tables) (job : Tree) (input : List ℕ) (f : Table) (t m : ℕ) (qs : List Started) → Reached k job input f t m qs → AllOwnFit qs
all_own_fit k job input f t m _ (begun f') x (inl e) =
    subst (λ (z : Started). OwnFits z.here.clock z.stop.own) (sym e) (none_fits (root_here job input).clock [] refl)
all_own_fit k job input f t m _ (begun f') x (inr i) = absurd i
all_own_fit k job input f t m _ (turn g now n q qs others wake o s r at may goes stopped) x i =
    fit_turned k g now n q qs others wake o s (front_same q qs others at) (λ y j. all_own_fit k job input g now.at n qs r y j) may x i
all_own_fit k job input f t m qs (jump g v u n qs' r le blocked) x i = all_own_fit k job input g v n qs' r x i

-- the run invariant is kept by the turn of a task that stops again
kept_turn : (k : Tables) (f : Table) (whole : Result) (now : Now) (m : ℕ) (q : Started) (qs others : List Started) (wake : Wake) (o : Move)
    (s : Stopped) →
    Kept k f whole now.at m qs → AllOwnFit qs → Front q qs others → MayWake (keeping f k) (q ∷ others) now q wake q.rest.stopped →
    TurnsOver q.stop now q.here f wake q.rest q.places q.count o → o.stopped ≡ Some s →
    Kept k (cancelled_from_after f o.made) whole now.at (m + length o.begun)
    ((task_after_turn k now m q o s ∷ children_from k (a_round_after q.here.clock now.at) m o.begun) ++ others)
kept_turn k f whole now m q qs others wake o s h owns at may w e = record {
  interleaving = interleaving_turned k f whole q others interleaving now from m small wake o s w e come;
  from = from_turned k f whole q others interleaving now from m small wake o s w e come;
  small = small_after;
}
  where
    same : SameTasks qs (q ∷ others)
    same = front_same q qs others at

    interleaving : RunInvariant k f whole (q ∷ others)
    interleaving = interleaving_moved k f whole qs (q ∷ others) same h.interleaving

    from : AllFrom k (q ∷ others) now.at
    from = from_moved k f whole qs (q ∷ others) same now.at h.from

    small : (x : Started) → IsAmong x (q ∷ others) → x.serial < m
    small x i = h.small x (same.back x i)

    come : (outcomes : ChildOutcomes) → Tells q outcomes → WakesBy k outcomes (inside q.rest.frames q.here) q.stop now wake q.rest.stopped q.places
    come = woken k f whole (q ∷ others) interleaving now.at from q (inl refl) now.own wake (owns q (same.back q (inl refl))) may

    small_after : (x : Started) →
        IsAmong x ((task_after_turn k now m q o s ∷ children_from k (a_round_after q.here.clock now.at) m o.begun) ++ others) →
        x.serial < m + length o.begun
    small_after x (inl e) = let a : x.serial ≡ q.serial = ap (λ (z : Started). z.serial) e in let b : q.serial < m =
        small q (inl refl) in omega arith
    small_after x (inr i) = by_place (in_either x (children_from k (a_round_after q.here.clock now.at) m o.begun) others i)
      where
        by_place : IsAmong x (children_from k (a_round_after q.here.clock now.at) m o.begun) ⊎ IsAmong x others → x.serial < m + length o.begun
        by_place (inl j) = begun_small k (a_round_after q.here.clock now.at) m o.begun x j
        by_place (inr j) = let b : x.serial < m = small x (inr j) in omega arith

kept : (k : Tables) (job : Tree) (input : List ℕ) → GivesNamesOnce job → StartsInNurseries job → IsSettledBy k job input →
    {f : Table} {t m : ℕ} {qs : List Started} → Reached k job input f t m qs → Kept k f (root_result k job input) t m qs
kept k job input names nurseries settled (begun f) = record {
  interleaving = opens k f job input names nurseries settled;
  from = opens_from k f job input names nurseries settled;
  small = one_task;
}
  where
    one_task : (q : Started) → IsAmong q (root_task k job input ∷ []) → q.serial < 1
    one_task q (inl e) = let a : q.serial ≡ 0 = ap (λ (z : Started). z.serial) e in omega arith
    one_task q (inr i) = absurd i
kept k job input names nurseries settled (turn f now m q qs others wake o s r at may goes stopped) =
    kept_turn k f (root_result k job input) now m q qs others wake o s (kept k job input names nurseries settled r) (λ x i. all_own_fit k job input f now.at m qs r x i) at may goes stopped
kept k job input names nurseries settled (jump f t u m qs r le blocked) =
    let h : Kept k f (root_result k job input) t m qs = kept k job input names nurseries settled r in
    record { interleaving = h.interleaving; from = jumps k f (root_result k job input) qs h.interleaving t m h.small h.from u le blocked; small = h.small }

-- the first moment is in the first tick
first_tick : (clock : Clock) → tick_of clock 0 ≡ 0
first_tick by_ticks = refl
first_tick by_rounds = refl

-- a later moment is in no earlier tick
tick_later : (clock : Clock) (t u : ℕ) → t ≤ u → tick_of clock t ≤ tick_of clock u
tick_later by_ticks t u le = le
tick_later by_rounds t u le = omega arith

-- all that following a table starts ends by its end
ends_whole : (k : Tables) (job : Tree) (input : List ℕ) → StartsInNurseries job → Inside (follow k.cancelled_from k.granted job input).end
    (follow k.cancelled_from k.granted job input).log
unfolding follow
ends_whole k job input p = ends_by_root (by_tables k) job.steps (root_here job input) no_stack (only_at 0) p

-- ---- the laws

-- each run agrees with the table
pub runs_keep_invariant : RunsKeepInvariant
runs_keep_invariant k job input settled names nurseries f t m qs r =
    let whole : Result = root_result k job input in
    let h : Kept k f whole t m qs = kept k job input names nurseries settled r in
    (h.interleaving, h.from, λ q i. agrees_on k f whole qs h.interleaving t h.from q.places (h.interleaving.placed q i))

-- a run that is over says what the job means
pub runs_are_the_meaning : RunsAreTheMeaning
runs_are_the_meaning job input names in_range small nurseries f t m qs r rows rowed a b taken d =
    let k : Tables = meaning_tables job input in
    let clock : Clock = clock_of job.format in
    let whole : Result = root_result k job input in
    let h : Kept k f whole t m qs = kept k job input names nurseries (table_is_settled job input names in_range small) r in
    let e : follow k.cancelled_from k.granted job input ≡ meaning job input = following_is_meaning job input names in (
      records_over k f whole qs h.interleaving clock rows rowed job a (b ∙ sym (first_tick clock)) taken d
          ∙ ap (λ (v : Result). records_of clock (root_log job v)) e,
      cancelled_from_of_over k f whole qs h.interleaving clock rows rowed job taken d
          ∙ ap (λ (v : Result). cancelled_from_by k.cancelled_from (all_entered (root_log job v))) e,
      ends_over k f whole qs h.interleaving clock rows rowed ∙ ap (λ (v : Result). tick_of clock v.end) e,
    )

-- where none is ready, one has a next turn
pub blocked_runs_go_on : BlockedRunsGoOn
blocked_runs_go_on k job input names nurseries settled f t m qs r u blocked q i l =
    let whole : Result = root_result k job input in
    let h : Kept k f whole t m qs = kept k job input names nurseries settled r in
    has_next k f whole qs h.interleaving u m blocked h.small m q i l (omega arith)

-- while a task has not ended, the job does not end before the tick
pub limits_are_exact : LimitsAreExact
limits_are_exact job input names in_range small nurseries f t m qs r q i l =
    let k : Tables = meaning_tables job input in
    let whole : Result = root_result k job input in
    let h : Kept k f whole t m qs = kept k job input names nurseries (table_is_settled job input names in_range small) r in
    let e : follow k.cancelled_from k.granted job input ≡ meaning job input = following_is_meaning job input names in
    tick_later (clock_of job.format) t (meaning job input).end
    (subst (λ (v : Result). t ≤ v.end) e (not_before k f whole qs h.interleaving (ends_whole k job input nurseries) t h.from q i l))

-- ---- weights

weights_join : (xs ys : List Started) → all_weights (xs ++ ys) ≡ all_weights xs + all_weights ys
weights_join [] ys = omega arith
weights_join (x ∷ xs) ys = omega (arith, weights_join xs ys)

weights_begun : (k : Tables) (t m : ℕ) (bs : List Begun) → all_weights (children_from k t m bs) ≡ weight_of_begun bs
unfolding children_from
weights_begun k t m [] = refl
weights_begun k t m (b ∷ bs) = ap (λ (n : ℕ). rest_weight (rest_at_start b.body) + n) (weights_begun k t (suc m) bs)

weights_front : {q : Started} {qs others : List Started} → Front q qs others → all_weights qs ≡ rest_weight q.rest + all_weights others
weights_front (is_front q qs) = refl
weights_front (after_one q x qs others at) = omega (arith, weights_front at)

-- A turn takes a weight off, and one more where its task gives up two rounds later.
pub weights_turned : (k : Tables) (f : Table) (now : Now) (m : ℕ) (q : Started) (qs others : List Started) (wake : Wake) (o : Move) (s : Stopped) →
    Front q qs others → TurnsOver q.stop now q.here f wake q.rest q.places q.count o → o.stopped ≡ Some s →
    all_weights ((task_after_turn k now m q o s ∷ children_from k (a_round_after q.here.clock now.at) m o.begun) ++ others)
    + suc (rounds_skipped now.at (Some s)) ≤ all_weights qs
weights_turned k f now m q qs others wake o s at goes stopped =
    let a : all_weights qs ≡ rest_weight q.rest + all_weights others = weights_front at in
    let b : all_weights (children_from k (a_round_after q.here.clock now.at) m o.begun) ≡ weight_of_begun o.begun =
    weights_begun k (a_round_after q.here.clock now.at) m o.begun in
    let c : all_weights (children_from k (a_round_after q.here.clock now.at) m o.begun ++ others)
    ≡ all_weights (children_from k (a_round_after q.here.clock now.at) m o.begun) + all_weights others =
    weights_join (children_from k (a_round_after q.here.clock now.at) m o.begun) others in
    let d : rest_weight (record { stopped = s; frames = o.frames }) + weight_of_begun o.begun + rounds_skipped now.at (Some s)
    < rest_weight q.rest = lighter now f wake q o s goes stopped in
    omega arith

ends_run : (k : Tables) {job : Tree} {input : List ℕ} {f : Table} {t m : ℕ} {qs : List Started} → (r : Reached k job input f t m qs) →
    turns_taken r + all_weights qs ≤ 2 * size_of job.steps + 1
ends_run k (begun f) = omega arith
ends_run k (turn f now m q qs others wake o s r at may goes stopped) =
    let a : all_weights ((task_after_turn k now m q o s ∷ children_from k (a_round_after q.here.clock now.at) m o.begun) ++ others)
    + suc (rounds_skipped now.at (Some s)) ≤ all_weights qs = weights_turned k f now m q qs others wake o s at goes stopped in
    let b : turns_taken r + all_weights qs ≤ _ = ends_run k r in
    omega arith
ends_run k (jump f t u m qs r le blocked) = ends_run k r

-- a run takes at most this number of turns
pub runs_end : RunsEnd
runs_end k job input f t m qs r = ends_run k r
