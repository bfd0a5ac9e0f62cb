-- A cancellation or a grant from tick c on changes nothing before tick c.
use Rattle.std.proofs.Common.{◌≡◌, ℕ, zero, suc, ◌<◌, ◌≤◌, ◌-◌, min, max, Bool, true, false, ◌&&◌, ◌||◌, not, Option, Some, None, List, [], ◌∷◌, refl, ap, sym, ◌∙◌, subst, ◌⊎◌, inl, inr, arith, nat_le, nat_lt, if◌then◌else◌}
use Rattle.std.proofs.lemmas.Bool.{true≢false, le-ltb, cases_lt}
use Rattle.std.proofs.lemmas.Bool.Decides.{nat_tests}
use Rattle.job_tree.specs.Tree.{Step, sleep, checkpoint, forever, pace, find, head, longest, need, raise, cancel, set_event, wait_for, ask_for, close_channel, scope, nursery, event, object, start, repeat, attempt, Steps, stop, step, Handled, unhandled, except, Cleaned, uncleaned, finally}
use Rattle.exceptions.specs.Exceptions.{Label, Exc, cancelled, by_nursery, group_of, parts_of}
use Rattle.exceptions.specs.Split.{Wanted, keep, drop}
use Rattle.cancel_scopes.specs.Sight.{Tick, Level, sight, seen, is_reached, catches}
use Rattle.job_meaning.specs.Log.{Log, nil, entry, waited, entered, followed_by, Member, Result}
use Rattle.job_meaning.specs.Moments.{tick_of, a_round_after, wakes_at, gives_up_at, far, Now, only_at}
use Rattle.job_meaning.specs.declared.clock.Clock.{Clock}
use Rattle.job_meaning.proofs.MomentLemmas.{round_after, wakes_after, gives_up_after}
use Rattle.job_meaning.specs.Walk.{Levels, Stack, Mode, two_walks, by_table, Here, walk, walk_step, walk_handler, walk_cleanup, done_at, raised_at, now_of, in_sequence, wait_by_sight, sleep_result, pace_result, wait_until, set_moment, wait_by, with_line_if, with_line, event_wait, cancel_result, set_result, from_for, stack_for, label_on, Kind, from_of, block, event_block, event_result, close_result, exit_with_from, left_with, left_as, exc_after, stack_inside, stack_in_event, with_sign, sign_if, home_of, latest, with_exc, excs_of, nursery_result, child, each, passes, handler_result, handler_for, handler_if_any, handler_exc, with_outcome, outcome_after, cleanup_result}
use Rattle.job_meaning.specs.Before.{upto, NearLevels, Near, NearModes, Agree, soon, later, known_members, log_before, exc_if, entered_if, task_if}
use Rattle.job_meaning.specs.Laws.{NothingBeforeItsCause}
use Rattle.job_meaning.proofs.Late.{Timed, Late, late, late_waited, late_until, late_signed, late_gathered, latest_ends, child_ends, each_ends, late_passes}
use Rattle.job_meaning.proofs.Agreeing.{agree_same, agree_joined, Past, past_same, past_joined, agree_past, agree_from, agree_and_then, agree_logs}
pub use Rattle.job_meaning.proofs.OwnSight.{from_for_near, stack_for_near}
use Rattle.job_meaning.proofs.Asking.{agree_acted, agree_asking}
use Rattle.job_meaning.proofs.Clips.{sight_near, seen_near, reached_near, label_near, NearEvents, event_near, home_near, both_clipped, clipped_late, clipped_tail, least_near, from_near, latest_known, all_known}

module _ (c least gives_up end : ℕ) (le : least ≤ gives_up) (hi : least ≤ end) where
  waits : Tick → Result
  waits a = wait_by_sight a least gives_up end

  -- a wait that is seen at c or later
  waited_past : (from : ℕ) → c ≤ from → c ≤ end → Past c (done_at (only_at c)) (wait_by_sight (Some from) least gives_up end)
  waited_past from p far = by_now (nat_le from least) (nat_le from end) refl
    where
      by_now : (now due : Bool) → nat_le from least ≡ now → Past c (done_at (only_at c))
          (if now then raised_at cancelled (only_at gives_up) else (if due then raised_at cancelled (only_at from) else done_at (only_at end)))
      by_now true due e = record { ends = grind (arith, nat_tests); logs = refl }
      by_now false true e = record { ends = p; logs = refl }
      by_now false false e = record { ends = far; logs = refl }

  waited_whole : (from : ℕ) → c ≤ from → end < c → wait_by_sight (Some from) least gives_up end ≡ done_at (only_at end)
  waited_whole from p lt = by_now (nat_le from least) (nat_le from end) (grind (arith, nat_tests)) (grind (arith, nat_tests))
    where
      by_now : (now due : Bool) → now ≡ false → due ≡ false →
          (if now then raised_at cancelled (only_at gives_up) else (if due then raised_at cancelled (only_at from) else done_at (only_at end)))
          ≡ done_at (only_at end)
      by_now true due e f = absurd (true≢false e)
      by_now false true e f = absurd (true≢false f)
      by_now false false e f = refl

  never_past : c ≤ end → Past c (done_at (only_at c)) (wait_by_sight None least gives_up end)
  never_past far = record { ends = far; logs = refl }

  pub agree_waited : (a b : Tick) → upto c a ≡ upto c b → Agree c (wait_by_sight a least gives_up end) (wait_by_sight b least gives_up end)
  agree_waited None None e = agree_same c (wait_by_sight None least gives_up end)
  agree_waited None (Some y) e = by_order (cases_lt end c)
    where
      p : c ≤ y
      p = omega arith

      by_order : (end < c) ⊎ (c ≤ end) → Agree c (wait_by_sight None least gives_up end) (wait_by_sight (Some y) least gives_up end)
      by_order (inl lt) = subst (λ (r : Result). Agree c (done_at (only_at end)) r) (sym (waited_whole y p lt)) (agree_same c (done_at (only_at end)))
      by_order (inr far) = agree_past c (done_at (only_at c)) (done_at (only_at c)) _ _ refl (never_past far) (waited_past y p far)
  agree_waited (Some x) None e = by_order (cases_lt end c)
    where
      p : c ≤ x
      p = omega arith

      by_order : (end < c) ⊎ (c ≤ end) → Agree c (wait_by_sight (Some x) least gives_up end) (wait_by_sight None least gives_up end)
      by_order (inl lt) = subst (λ (r : Result). Agree c r (done_at (only_at end))) (sym (waited_whole x p lt)) (agree_same c (done_at (only_at end)))
      by_order (inr far) = agree_past c (done_at (only_at c)) (done_at (only_at c)) _ _ refl (waited_past x p far) (never_past far)
  agree_waited (Some x) (Some y) e = by_before (cases_lt x c)
    where
      by_order : c ≤ x → c ≤ y → (end < c) ⊎ (c ≤ end) → Agree c (wait_by_sight (Some x) least gives_up end) (wait_by_sight (Some y) least gives_up end)
      by_order p q (inl lt) =
          subst (λ (r : Result). Agree c r (wait_by_sight (Some y) least gives_up end)) (sym (waited_whole x p lt))
          (subst (λ (r : Result). Agree c (done_at (only_at end)) r) (sym (waited_whole y q lt)) (agree_same c (done_at (only_at end))))
      by_order p q (inr far) = agree_past c (done_at (only_at c)) (done_at (only_at c)) _ _ refl (waited_past x p far) (waited_past y q far)

      by_before : (x < c) ⊎ (c ≤ x) → Agree c (wait_by_sight (Some x) least gives_up end) (wait_by_sight (Some y) least gives_up end)
      by_before (inl lt) = subst (λ (u : ℕ). Agree c (wait_by_sight (Some x) least gives_up end) (wait_by_sight (Some u) least gives_up end)) (omega arith)
          (agree_same c (wait_by_sight (Some x) least gives_up end))
      by_before (inr p) = by_order p (omega arith) (cases_lt end c)

-- a sleep agrees before c on near stacks
pub agree_sleeping : (c : ℕ) (clock : Clock) (st su : Stack) (n t : ℕ) → Near c st su → Agree c (sleep_result clock st n t) (sleep_result clock su n t)
unfolding sleep_result
agree_sleeping c clock st su n t near =
    agree_waited c (a_round_after clock t) (gives_up_at clock n t) (wakes_at clock n t) (gives_up_after clock n t) (wakes_after clock n t)
    (sight st.scopes) (sight su.scopes) (sight_near c st.scopes su.scopes near.0)

pub agree_pacing : (c : ℕ) (clock : Clock) (st su : Stack) (n t : ℕ) → Near c st su → Agree c (pace_result clock st n t) (pace_result clock su n t)
unfolding pace_result
agree_pacing c clock st su n t near =
    agree_waited c (a_round_after clock t) (a_round_after clock t) (wakes_at clock n t) (omega arith) (wakes_after clock n t)
    (sight st.scopes) (sight su.scopes) (sight_near c st.scopes su.scopes near.0)

-- of near events, the moments in which a wait for them ends are the same when cut at c
pub set_near : (c : ℕ) (clock : Clock) (f g : Tick) (m : ℕ) → upto c f ≡ upto c g → min c (set_moment clock f m) ≡ min c (set_moment clock g m)
set_near c clock None None m e = refl
set_near c clock None (Some y) m e = no_earlier y (wakes_at clock (far - tick_of clock m) m) e
  where
    no_earlier : (u last : ℕ) → c ≡ min c u → min c last ≡ min c (min u last)
    no_earlier u last h = omega arith
set_near c clock (Some x) None m e = no_earlier x (wakes_at clock (far - tick_of clock m) m) e
  where
    no_earlier : (u last : ℕ) → min c u ≡ c → min c (min u last) ≡ min c last
    no_earlier u last h = omega arith
set_near c clock (Some x) (Some y) m e = same_cut x y (wakes_at clock (far - tick_of clock m) m) e
  where
    same_cut : (u v last : ℕ) → min c u ≡ min c v → min c (min u last) ≡ min c (min v last)
    same_cut u v last h = omega arith

-- a wait notes nothing
quiet_waited : (a : Tick) (least gives_up end : ℕ) → (wait_by_sight a least gives_up end).log ≡ nil
quiet_waited None least gives_up end = refl
quiet_waited (Some from) least gives_up end = by_now (nat_le from least) (nat_le from end)
  where
    by_now : (now due : Bool) →
        (let r : Result = if now then raised_at cancelled (only_at gives_up) else (if due then raised_at cancelled (only_at from) else done_at (only_at end)) in
        r.log) ≡ nil
    by_now true due = refl
    by_now false true = refl
    by_now false false = refl

quiet_until : (a : Tick) (least end : ℕ) → (wait_until a least end).log ≡ nil
quiet_until None least end = refl
quiet_until (Some from) least end = by_order (nat_lt from end)
  where
    by_order : (b : Bool) → (let r : Result = if b then raised_at cancelled (only_at (max least from)) else done_at (only_at end) in r.log) ≡ nil
    by_order true = refl
    by_order false = refl

-- ends that are the same when cut at c
agree_done : (c u v : ℕ) → min c u ≡ min c v → Agree c (done_at (only_at u)) (done_at (only_at v))
agree_done c u v e = by_order (cases_lt u c)
  where
    by_order : (u < c) ⊎ (c ≤ u) → Agree c (done_at (only_at u)) (done_at (only_at v))
    by_order (inl lt) = soon lt (omega arith) refl refl refl refl
    by_order (inr le) = later le (omega arith) refl

agree_raised : (c u v : ℕ) → min c u ≡ min c v → Agree c (raised_at cancelled (only_at u)) (raised_at cancelled (only_at v))
agree_raised c u v e = by_order (cases_lt u c)
  where
    by_order : (u < c) ⊎ (c ≤ u) → Agree c (raised_at cancelled (only_at u)) (raised_at cancelled (only_at v))
    by_order (inl lt) = soon lt (omega arith) refl refl refl refl
    by_order (inr le) = later le (omega arith) refl

-- waits agree before c by what they see and by their ends, when these are the same cut at c
agree_until : (c least : ℕ) (a b : Tick) (s u : ℕ) → upto c a ≡ upto c b → min c s ≡ min c u → Agree c (wait_until a least s) (wait_until b least u)
agree_until c least None None s u e h = agree_done c s u h
agree_until c least None (Some y) s u e h = by_order (nat_lt y u) refl
  where
    by_order : (b : Bool) → nat_lt y u ≡ b → Agree c (done_at (only_at s)) (if b then raised_at cancelled (only_at (max least y)) else done_at (only_at u))
    by_order true i = later (grind (arith, nat_tests)) (omega arith) refl
    by_order false i = agree_done c s u h
agree_until c least (Some x) None s u e h = by_order (nat_lt x s) refl
  where
    by_order : (b : Bool) → nat_lt x s ≡ b → Agree c (if b then raised_at cancelled (only_at (max least x)) else done_at (only_at s)) (done_at (only_at u))
    by_order true i = later (omega arith) (grind (arith, nat_tests)) refl
    by_order false i = agree_done c s u h
agree_until c least (Some x) (Some y) s u e h = by_order (nat_lt x s) (nat_lt y u) refl refl
  where
    by_order : (a b : Bool) → nat_lt x s ≡ a → nat_lt y u ≡ b → Agree c (if a then raised_at cancelled (only_at (max least x)) else done_at (only_at s))
        (if b then raised_at cancelled (only_at (max least y)) else done_at (only_at u))
    by_order true true i j = agree_raised c (max least x) (max least y) (omega arith)
    by_order true false i j = later (grind (arith, nat_tests)) (grind (arith, nat_tests)) refl
    by_order false true i j = later (grind (arith, nat_tests)) (grind (arith, nat_tests)) refl
    by_order false false i j = agree_done c s u h

-- where the next round is at c or later, waits end at c or later
slept_past : (c : ℕ) (clock : Clock) (st : Stack) (m : ℕ) → c ≤ a_round_after clock m → Past c (done_at (only_at c)) (sleep_result clock st 0 m)
unfolding sleep_result
slept_past c clock st m le =
    let h = late_waited (sight st.scopes) (a_round_after clock m) (gives_up_at clock 0 m) (wakes_at clock 0 m) (a_round_after clock m) (omega arith)
    (gives_up_after clock 0 m) (wakes_after clock 0 m) in
    let first = h.ends in
    record { ends = omega arith; logs = ap (λ (x : Log). log_before c x) (quiet_waited (sight st.scopes) _ _ _) }

until_past : (c least : ℕ) (a : Tick) (end : ℕ) → c ≤ least → least ≤ end → Past c (done_at (only_at c)) (wait_until a least end)
until_past c least a end le hi =
    let h = late_until a least end least (omega arith) hi in
    let first = h.ends in
    record { ends = omega arith; logs = ap (λ (x : Log). log_before c x) (quiet_until a least end) }

-- waits for events agree where the moments in which they end are the same when cut at c: if one event is set by the next round and the
-- other later, both are at c or later
agree_set : (c : ℕ) (clock : Clock) (st su : Stack) (s u m : ℕ) → Near c st su → min c s ≡ min c u →
    Agree c (wait_by clock st s m) (wait_by clock su u m)
agree_set c clock st su s u m near h = by_round (nat_le s (a_round_after clock m)) (nat_le u (a_round_after clock m)) refl refl
  where
    by_round : (a b : Bool) → nat_le s (a_round_after clock m) ≡ a → nat_le u (a_round_after clock m) ≡ b →
        Agree c (if a then sleep_result clock st 0 m else wait_until (sight st.scopes) (a_round_after clock m) s)
        (if b then sleep_result clock su 0 m else wait_until (sight su.scopes) (a_round_after clock m) u)
    by_round true true i j = agree_sleeping c clock st su 0 m near
    by_round true false i j =
        agree_past c (done_at (only_at c)) (done_at (only_at c)) _ _ refl (slept_past c clock st m (grind (arith, nat_tests)))
        (until_past c _ (sight su.scopes) u (grind (arith, nat_tests)) (grind (arith, nat_tests)))
    by_round false true i j =
        agree_past c (done_at (only_at c)) (done_at (only_at c)) _ _ refl
        (until_past c _ (sight st.scopes) s (grind (arith, nat_tests)) (grind (arith, nat_tests))) (slept_past c clock su m (grind (arith, nat_tests)))
    by_round false false i j = agree_until c _ _ _ s u (sight_near c st.scopes su.scopes near.0) h

quiet_set : (clock : Clock) (st : Stack) (set m : ℕ) → (wait_by clock st set m).log ≡ nil
unfolding sleep_result
quiet_set clock st set m = by_round (nat_le set (a_round_after clock m))
  where
    by_round : (b : Bool) →
        (let r : Result = if b then sleep_result clock st 0 m else wait_until (sight st.scopes) (a_round_after clock m) set in r.log) ≡ nil
    by_round true = quiet_waited (sight st.scopes) _ _ _
    by_round false = quiet_until (sight st.scopes) _ _

-- the line of a wait that ended at c or later is cut away
lined_past : (c : ℕ) (label : Label) (r : Result) → r.log ≡ nil → c ≤ r.end → (o : Option Exc) → Past c r (with_line_if o label r)
lined_past c label r quiet le None =
    record {
      ends = le;
      logs = clipped_late c r.end (entry r.end (waited label) nil) le (omega arith, tt) ∙ sym (ap (λ (x : Log). log_before c x) quiet);
    }
lined_past c label r quiet le (Some e) = past_same c r le

agree_lined : (c : ℕ) (label : Label) (r q : Result) → r.log ≡ nil → q.log ≡ nil → Agree c r q → Agree c (with_line label r) (with_line label q)
agree_lined c label r q i j (soon b e o x m l) = subst (λ (z : Option Exc). Agree c (with_line_if r.exc label r) (with_line_if z label q)) x (by_exc r.exc)
  where
    by_exc : (z : Option Exc) → Agree c (with_line_if z label r) (with_line_if z label q)
    by_exc None = soon b e o x m (ap (λ (u : ℕ). log_before c (entry u (waited label) nil)) e)
    by_exc (Some y) = soon b e o x m l
agree_lined c label r q i j (later f s l) = agree_past c r q _ _ l (lined_past c label r i f r.exc) (lined_past c label q j s q.exc)

-- so a wait for an event agrees before c on near stacks
pub agree_awaiting : (c : ℕ) (clock : Clock) (st su : Stack) (l k : Option (Level Label)) (t : Now) → Near c st su → NearEvents c l k →
    Agree c (event_wait clock st l t) (event_wait clock su k t)
unfolding event_wait
agree_awaiting c clock st su None None t near e = agree_same c (done_at t)
agree_awaiting c clock st su None (Some k) t near e = absurd e
agree_awaiting c clock st su (Some l) None t near e = absurd e
agree_awaiting c clock st su (Some l) (Some k) t near e =
    subst (λ (z : Label). Agree c (with_line l.label (wait_by clock st (set_moment clock l.from t.at) t.at))
    (with_line z (wait_by clock su (set_moment clock k.from t.at) t.at))) e.0
    (agree_lined c l.label _ _ (quiet_set clock st (set_moment clock l.from t.at) t.at) (quiet_set clock su (set_moment clock k.from t.at) t.at)
    (agree_set c clock st su (set_moment clock l.from t.at) (set_moment clock k.from t.at) t.at near (set_near c clock l.from k.from t.at e.1)))

-- a `cancel` of a name agrees before c on near stacks
pub agree_cancelling : (c : ℕ) (clock : Clock) (name : List ℕ) (st su : Stack) (t : Now) → Near c st su →
    Agree c (cancel_result clock (label_on name st.scopes) t) (cancel_result clock (label_on name su.scopes) t)
agree_cancelling c clock name st su t near =
    subst (λ (o : Option Label). Agree c (cancel_result clock (label_on name st.scopes) t) (cancel_result clock o t))
    (label_near c name st.scopes su.scopes near.0)
    (agree_same c (cancel_result clock (label_on name st.scopes) t))

-- and so does a `set`
pub agree_setting : (c : ℕ) (clock : Clock) (name : List ℕ) (st su : Stack) (t : Now) → Near c st su →
    Agree c (set_result clock (label_on name st.events) t) (set_result clock (label_on name su.events) t)
agree_setting c clock name st su t near =
    subst (λ (o : Option Label). Agree c (set_result clock (label_on name st.events) t) (set_result clock o t))
    (label_near c name st.events su.events near.1)
    (agree_same c (set_result clock (label_on name st.events) t))

-- whether a block catches in a tick before c depends only on stacks and moments of cancellation before c
pub catches_near : (c : ℕ) (f g : Tick) (shield : Bool) (st su : Levels) (u v : ℕ) → upto c f ≡ upto c g → NearLevels c st su → u < c → u ≡ v →
    catches f shield st u ≡ catches g shield su v
catches_near c f g shield st su u v e near lt same =
    let a : is_reached f u ≡ is_reached g u = reached_near c f g u e lt in
    let b : seen st u ≡ seen su u = seen_near c st su u near lt in
    same_tests a b
  where
    same_tests : is_reached f u ≡ is_reached g u → seen st u ≡ seen su u →
        (is_reached f u && (shield || not (seen st u))) ≡ (is_reached g v && (shield || not (seen su v)))
    same_tests a b = ap2 a b ∙ ap (λ (w : ℕ). is_reached g w && (shield || not (seen su w))) same
      where
        ap2 : is_reached f u ≡ is_reached g u → seen st u ≡ seen su u → (is_reached f u && (shield || not (seen st u)))
            ≡ (is_reached g u && (shield || not (seen su u)))
        ap2 p q = cc

-- what is left of an inside that ended in moment u with an exception, caught or not
abbrev left_result : Clock → Kind → Label → ℕ → Tick → Log → ℕ → List Label → Option Exc → Bool → Result
left_result clock kind label t d log u own o caught =
    record {
      end = u;
      own = own;
      exc = exc_after kind label (tick_of clock u) (left_with caught o);
      members = [];
      log = entered label t d (followed_by log (entry u (left_as kind label (left_with caught o).caught) nil));
    }

-- the moments of cancellation of a block are near, where its insides agree
block_near : (c : ℕ) (label : Label) (t : ℕ) (d : Tick) (m other : Mode) (inside inside' : Tick → Result) → NearModes c m other →
    ((f : Tick) → Late t (inside f)) → ((f : Tick) → Late t (inside' f)) → ((f g : Tick) → upto c f ≡ upto c g → Agree c (inside f) (inside' g)) →
    upto c (from_of m label d inside) ≡ upto c (from_of other label d inside')
block_near c label t d (two_walks grants) (two_walks other) inside inside' near h h' k =
    from_near c d _ _ (least_near c t label _ _ (h d).timed (h' d).timed (agree_logs (k d d refl)))
block_near c label t d (by_table table grants) (by_table other_table other) inside inside' near h h' k = ap (λ (x : Tick). upto c x) (near.0 label)
block_near c label t d (two_walks grants) (by_table table other) inside inside' near h h' k = absurd near
block_near c label t d (by_table table grants) (two_walks other) inside inside' near h h' k = absurd near

module _ (c : ℕ) (clock : Clock) (kind : Kind) (label : Label) (t : ℕ) (d : Tick) where
  same_left : (a b : Log) (u v : ℕ) (n w : List Label) (o p : Option Exc) (x y : Bool) → u < c → log_before c a ≡ log_before c b → u ≡ v → n ≡ w →
      o ≡ p → x ≡ y → Agree c (left_result clock kind label t d a u n o x) (left_result clock kind label t d b v w p y)
  same_left a b u v n w o p x y lt l i h j k =
      subst (λ (z : Bool). Agree c (left_result clock kind label t d a u n o x) (left_result clock kind label t d b v w p z)) k
      (subst (λ (z : Option Exc). Agree c (left_result clock kind label t d a u n o x) (left_result clock kind label t d b v w z x)) j
      (subst (λ (z : List Label). Agree c (left_result clock kind label t d a u n o x) (left_result clock kind label t d b v z o x)) h
      (subst (λ (z : ℕ). Agree c (left_result clock kind label t d a u n o x) (left_result clock kind label t d b z n o x)) i
      (soon lt refl refl refl refl (ap (λ (z : Log). entered_if (nat_lt t c) label t d z) (both_clipped c a _ b _ l refl))))))

  module _ (shield : Bool) (st su : Stack) (near : Near c st su) where
    -- how a block is left agrees, where its insides agree
    agree_left : (f g : Tick) (r q : Result) → upto c f ≡ upto c g → Agree c r q →
        Agree c (exit_with_from clock kind label t d shield st f r) (exit_with_from clock kind label t d shield su g q)
    agree_left f g r q e (soon b en o x m l) =
        same_left r.log q.log r.end q.end r.own q.own r.exc q.exc _ _ b l en o x (same_catch en o)
      where
        at_first : catches (from_for r.own r.end label f) shield (stack_for r.own r.end st.scopes) r.end
            ≡ catches (from_for r.own r.end label g) shield (stack_for r.own r.end su.scopes) r.end
        at_first = catches_near c _ _ shield _ _ r.end r.end (from_for_near c r.own r.end label label f g refl e) (stack_for_near c r.own r.end st.scopes su.scopes near.0) b refl

        same_catch : r.end ≡ q.end → r.own ≡ q.own → catches (from_for r.own r.end label f) shield (stack_for r.own r.end st.scopes) r.end
            ≡ catches (from_for q.own q.end label g) shield (stack_for q.own q.end su.scopes) q.end
        same_catch i j = at_first ∙ (ap (λ (z : ℕ). catches (from_for r.own z label g) shield (stack_for r.own z su.scopes) z) i
            ∙ ap (λ (z : List Label). catches (from_for z q.end label g) shield (stack_for z q.end su.scopes) q.end) j)
    agree_left f g r q e (later p s l) =
        later p s (ap (λ (z : Log). entered_if (nat_lt t c) label t d z)
        (clipped_tail c r.end r.log _ p (omega arith, tt) ∙ (l ∙ sym (clipped_tail c q.end q.log _ s (omega arith, tt)))))

    -- blocks on near stacks agree before c where their insides do
    pub agree_block : (m other : Mode) (inside inside' : Tick → Result) → NearModes c m other → ((f : Tick) → Late t (inside f)) →
        ((f : Tick) → Late t (inside' f)) →
        ((f g : Tick) → upto c f ≡ upto c g → Agree c (inside f) (inside' g)) →
        Agree c (block clock m kind label t d shield st inside) (block clock other kind label t d shield su inside')
    unfolding block
    agree_block m other inside inside' modes h h' k =
        let e = block_near c label t d m other inside inside' modes h h' k in
        agree_left _ _ _ _ e (k _ _ e)

-- near stacks stay near inside a block whose two moments of cancellation are the same when cut at c
pub near_within : (c : ℕ) (label : Label) (shield : Bool) (f g : Tick) (st su : Stack) → upto c f ≡ upto c g → Near c st su →
    Near c (stack_inside label shield f st) (stack_inside label shield g su)
near_within c label shield f g st su e near = ((refl, refl, e, near.0), near.1)

-- an event is entered
agree_entered : (c : ℕ) (label : Label) (t : ℕ) (r q : Result) → Agree c r q → Agree c (event_result label t r) (event_result label t q)
agree_entered c label t r q (soon b e o x m l) = soon b e o x m (ap (λ (z : Log). entered_if (nat_lt t c) label t None z) l)
agree_entered c label t r q (later f s l) = later f s (ap (λ (z : Log). entered_if (nat_lt t c) label t None z) l)

-- events agree before c where their insides do
pub agree_event : (c : ℕ) (label : Label) (t : ℕ) (m other : Mode) (inside inside' : Tick → Result) → NearModes c m other →
    ((f : Tick) → Late t (inside f)) → ((f : Tick) → Late t (inside' f)) → ((f g : Tick) → upto c f ≡ upto c g → Agree c (inside f) (inside' g)) →
    Agree c (event_block m label t inside) (event_block other label t inside')
unfolding event_block
agree_event c label t m other inside inside' modes h h' k =
    let e = block_near c label t None m other inside inside' modes h h' k in
    agree_entered c label t _ _ (k _ _ e)

-- and near stacks stay near inside an event
pub near_in_event : (c : ℕ) (label : Label) (f g : Tick) (st su : Stack) → upto c f ≡ upto c g → Near c st su →
    Near c (stack_in_event label f st) (stack_in_event label g su)
near_in_event c label f g st su e near = (near.0, (refl, refl, e, near.1))

-- a `close` of a name agrees before c on near stacks
pub agree_closing : (c : ℕ) (name : List ℕ) (st su : Stack) (t : Now) → Near c st su →
    Agree c (close_result (label_on name st.events) t) (close_result (label_on name su.events) t)
agree_closing c name st su t near =
    subst (λ (o : Option Label). Agree c (close_result (label_on name st.events) t) (close_result o t)) (label_near c name st.events su.events near.1)
    (agree_same c (close_result (label_on name st.events) t))

-- a member's sign at the end of its log
pub agree_signed : (c : ℕ) (st su : Stack) (r q : Result) → Near c st su → Agree c r q → Agree c (with_sign st r) (with_sign su q)
unfolding with_sign
agree_signed c st su r q near (soon b e o x m l) =
    soon b e refl x m (both_clipped c r.log _ q.log _ l (ap (λ (z : Log). log_before c z)
    (same_sign r.exc q.exc (home_of st.scopes) (home_of su.scopes) r.end q.end x (home_near c st.scopes su.scopes near.0) e)))
  where
    same_sign : (o p : Option Exc) (a b : Option Label) (u v : ℕ) → o ≡ p → a ≡ b → u ≡ v → sign_if o a u ≡ sign_if p b v
    same_sign o p a b u v i j k = cc
agree_signed c st su r q near (later p s l) =
    later p s (clipped_tail c r.end r.log _ p (timed_sign r.exc (home_of st.scopes) r.end)
    ∙ (l ∙ sym (clipped_tail c q.end q.log _ s (timed_sign q.exc (home_of su.scopes) q.end))))
  where
    timed_sign : (o : Option Exc) (a : Option Label) (u : ℕ) → Timed u (sign_if o a u)
    timed_sign None a u = tt
    timed_sign (Some e) None u = tt
    timed_sign (Some e) (Some x) u = (omega arith, tt)

-- a nursery's end before c, and its group, are determined by what is known of its members
pub agree_gathered : (c : ℕ) (clock : Clock) (label : Label) (r q : Result) → Agree c r q → Agree c (nursery_result clock label r) (nursery_result clock label q)
unfolding nursery_result
agree_gathered c clock label r q (soon b e o x m l) = by_order (cases_lt (a_round_after clock (latest r.end r.members)) c)
  where
    known : min c (latest r.end r.members) ≡ min c (latest q.end q.members)
    known =
        latest_known c r.end r.members
        ∙ (ends_known (min c r.end) (min c q.end) (known_members c r.members) (known_members c q.members) (ap (λ (u : ℕ). min c u) e) m
        ∙ sym (latest_known c q.end q.members))
      where
        ends_known : (u v : ℕ) (ms ns : List Member) → u ≡ v → ms ≡ ns → latest u ms ≡ latest v ns
        ends_known u v ms ns i j = cc

    same_group : (o p : Option Exc) (ms ns : List Member) → o ≡ p → ms ≡ ns →
        group_of (by_nursery label) (parts_of (with_exc o (excs_of ms))) ≡ group_of (by_nursery label) (parts_of (with_exc p (excs_of ns)))
    same_group o p ms ns i j = cc

    by_order : (a_round_after clock (latest r.end r.members) < c) ⊎ (c ≤ a_round_after clock (latest r.end r.members)) →
        Agree c (nursery_result clock label r) (nursery_result clock label q)
    by_order (inl lt) = at_end same_end
      where
        before : latest r.end r.members < c
        before = let after_it = round_after clock (latest r.end r.members) in omega arith

        same_end : latest r.end r.members ≡ latest q.end q.members
        same_end = let k = known in let h = before in omega arith

        at_end : latest r.end r.members ≡ latest q.end q.members → Agree c (nursery_result clock label r) (nursery_result clock label q)
        at_end i =
            soon lt (ap (λ (u : ℕ). a_round_after clock u) i) refl
            (same_group r.exc q.exc r.members q.members x (sym (all_known c r.end r.members before)
            ∙ (m ∙ all_known c q.end q.members (below i))))
            refl l
          where
            below : latest r.end r.members ≡ latest q.end q.members → latest q.end q.members < c
            below j = let h = before in omega arith
    by_order (inr le) = later le (at_least (cases_lt (latest r.end r.members) c)) l
      where
        at_least : (latest r.end r.members < c) ⊎ (c ≤ latest r.end r.members) → c ≤ a_round_after clock (latest q.end q.members)
        at_least (inl lt) = subst (λ (u : ℕ). c ≤ a_round_after clock u) same le
          where
            same : latest r.end r.members ≡ latest q.end q.members
            same = let k = known in omega arith
        at_least (inr past) = let k = known in let after_it = round_after clock (latest q.end q.members) in omega arith
agree_gathered c clock label r q (later f s l) =
    let a = latest_ends r.end r.members in
    let b = latest_ends q.end q.members in
    let a' = round_after clock (latest r.end r.members) in
    let b' = round_after clock (latest q.end q.members) in
    later (omega arith) (omega arith) l

-- what is known of an end and an exception, where walks agree
known_end : (c : ℕ) (r q : Result) → Agree c r q → min c r.end ≡ min c q.end
known_end c r q (soon b e o x m l) = ap (λ (u : ℕ). min c u) e
known_end c r q (later f s l) = omega arith

known_outcome : (c : ℕ) (r q : Result) → Agree c r q → exc_if (nat_lt r.end c) r.exc ≡ exc_if (nat_lt q.end c) q.exc
known_outcome c r q (soon b e o x m l) = same_known r.end q.end r.exc q.exc e x
  where
    same_known : (u v : ℕ) (o p : Option Exc) → u ≡ v → o ≡ p → exc_if (nat_lt u c) o ≡ exc_if (nat_lt v c) p
    same_known u v o p i j = cc
known_outcome c r q (later f s l) = unknown (nat_lt r.end c) r.exc (le-ltb r.end c f)
    ∙ sym (unknown (nat_lt q.end c) q.exc (le-ltb q.end c s))
  where
    unknown : (b : Bool) (o : Option Exc) → b ≡ false → exc_if b o ≡ None
    unknown true o e = absurd (true≢false e)
    unknown false o e = refl

-- what started tasks leave in their starter's walk agrees before c where their own walks do
pub agree_child : (c : ℕ) (label : Label) (begins : ℕ) (r q : Result) (t : Now) → Agree c r q → Agree c (child label begins r t) (child label begins q t)
unfolding child
agree_child c label begins r q t h = by_order (cases_lt t.at c) (known_end c r q h) (known_outcome c r q h) (agree_logs h)
  where
    same_member : (u v : ℕ) (o p : Option Exc) → u ≡ v → o ≡ p →
        ◌≡◌ {A = List Member} (record { end = u; exc = o } ∷ []) (record { end = v; exc = p } ∷ [])
    same_member u v o p i j = cc

    same_task : (b : Bool) (u v : ℕ) (o p : Option Exc) (x y : Log) → u ≡ v → o ≡ p → x ≡ y →
        task_if b label begins u o x nil ≡ task_if b label begins v p y nil
    same_task b u v o p x y i j k = cc

    by_order : (t.at < c) ⊎ (c ≤ t.at) → min c r.end ≡ min c q.end → exc_if (nat_lt r.end c) r.exc ≡ exc_if (nat_lt q.end c) q.exc →
        log_before c r.log ≡ log_before c q.log → Agree c (child label begins r t) (child label begins q t)
    by_order (inl lt) i j k = soon lt refl refl refl (same_member _ _ _ _ i j) (same_task (nat_lt begins c) _ _ _ _ _ _ i j k)
    by_order (inr le) i j k = later le le (same_task (nat_lt begins c) _ _ _ _ _ _ i j k)

-- the children of a `start .. over`, all started in one moment, agree before c where each of them does
pub agree_each : (c : ℕ) (k : ℕ) (go go' : ℕ → Result) (t : Now) → ((i : ℕ) → (go i).end ≡ t.at) → ((i : ℕ) → (go' i).end ≡ t.at) →
    ((i : ℕ) → Agree c (go i) (go' i)) → Agree c (each k go t) (each k go' t)
agree_each c zero go go' t e e' h = agree_same c (done_at t)
agree_each c (suc k) go go' t e e' h =
    let a = each_ends k go t e in
    let b = each_ends k go' t e' in
    let x = e k in
    let y = e' k in
    agree_joined c (each k go t) (each k go' t) (go k) (go' k) (agree_each c k go go' t e e' h) (h k) (omega arith) (omega arith)

-- passes of a `repeat`
pub agree_passes : (c : ℕ) (k first : ℕ) (go go' : ℕ → Now → Result) (t : Now) → ((i : ℕ) (u : Now) → Agree c (go i u) (go' i u)) →
    ((i : ℕ) (u : Now) → Late u.at (go i u)) → ((i : ℕ) (u : Now) → Late u.at (go' i u)) → Agree c (passes first k go t) (passes first k go' t)
agree_passes c zero first go go' t h l l' = agree_same c (done_at t)
agree_passes c (suc k) first go go' t h l l' =
    agree_and_then c (go first t) (go' first t) _ _ (h first t) (λ u. agree_passes c k (suc first) go go' u h l l')
    (λ u. late_passes k (suc first) go u l) (λ u. late_passes k (suc first) go' u l')

-- an outcome that goes by the exception agrees where the walks do
agree_outcome : (c : ℕ) (r q : Result) (f : Option Exc → Option Exc) → Agree c r q →
    Agree c (with_outcome (f r.exc) r) (with_outcome (f q.exc) q)
agree_outcome c r q f (soon b e o x m l) = soon b e o (ap f x) m l
agree_outcome c r q f (later p s l) = later p s l

past_handled : (c : ℕ) (wanted : Wanted) (r : Result) (go : Now → Result) → ((u : Now) → Late u.at (go u)) → c ≤ r.end → (o : Option Exc) →
    Past c r (handler_for o wanted r go)
past_handled c wanted r go h le None = past_same c r le
past_handled c wanted r go h le (Some e) = by_match (keep wanted e) (drop wanted e)
  where
    both : Past c r (in_sequence r (go (now_of r)))
    both = past_joined c r (go (now_of r)) le (h (now_of r))

    by_match : (o rest : Option Exc) → Past c r (handler_if_any o rest r go)
    by_match None rest = past_same c r le
    by_match (Some y) rest = record { ends = both.ends; logs = both.logs }

-- bodies with their handlers agree before c where the bodies do, and the handlers from each tick on
pub agree_handled : (c : ℕ) (wanted : Wanted) (r r' : Result) (go go' : Now → Result) → Agree c r r' → ((u : Now) → Agree c (go u) (go' u)) →
    ((u : Now) → Late u.at (go u)) → ((u : Now) → Late u.at (go' u)) → Agree c (handler_result wanted r go) (handler_result wanted r' go')
unfolding handler_result
agree_handled c wanted r r' go go' (soon b e o x m l) h k k' =
    subst (λ (z : Option Exc). Agree c (handler_for r.exc wanted r go) (handler_for z wanted r' go')) x (by_exc r.exc)
  where
    both : Agree c (in_sequence r (go (now_of r))) (in_sequence r' (go' (now_of r')))
    both = agree_joined c r r' (go (now_of r)) (go' (now_of r')) (soon b e o x m l) (agree_from c go go' h r r' e o) (k (now_of r)).ends
        (k' (now_of r')).ends

    by_match : (z rest : Option Exc) → Agree c (handler_if_any z rest r go) (handler_if_any z rest r' go')
    by_match None rest = soon b e o x m l
    by_match (Some y) rest = agree_outcome c (in_sequence r (go (now_of r))) (in_sequence r' (go' (now_of r'))) (λ z. handler_exc z rest) both

    by_exc : (z : Option Exc) → Agree c (handler_for z wanted r go) (handler_for z wanted r' go')
    by_exc None = soon b e o x m l
    by_exc (Some y) = by_match (keep wanted y) (drop wanted y)
agree_handled c wanted r r' go go' (later f s l) h k k' =
    agree_past c r r' _ _ l (past_handled c wanted r go k f r.exc) (past_handled c wanted r' go' k' s r'.exc)

-- results with their cleanups agree before c likewise
pub agree_cleaned : (c : ℕ) (r r' : Result) (go go' : Now → Result) → Agree c r r' → ((u : Now) → Agree c (go u) (go' u)) →
    ((u : Now) → Late u.at (go u)) → ((u : Now) → Late u.at (go' u)) → Agree c (cleanup_result r go) (cleanup_result r' go')
unfolding cleanup_result
agree_cleaned c r r' go go' (soon b e o x m l) h k k' =
    subst (λ (z : Option Exc). Agree c (with_outcome (outcome_after r.exc (go (now_of r)).exc) (in_sequence r (go (now_of r))))
    (with_outcome (outcome_after z (go' (now_of r')).exc) (in_sequence r' (go' (now_of r'))))) x
    (agree_outcome c (in_sequence r (go (now_of r))) (in_sequence r' (go' (now_of r'))) (λ z. outcome_after r.exc z)
    (agree_joined c r r' (go (now_of r)) (go' (now_of r')) (soon b e o x m l) (agree_from c go go' h r r' e o) (k (now_of r)).ends (k' (now_of r')).ends))
agree_cleaned c r r' go go' (later f s l) h k k' =
    let a = past_joined c r (go (now_of r)) f (k (now_of r)) in
    let b = past_joined c r' (go' (now_of r')) s (k' (now_of r')) in
    agree_past c r r' _ _ l (record { ends = a.ends; logs = a.logs }) (record { ends = b.ends; logs = b.logs })

mutual
  unfolding walk

  -- on near stacks and with near grants every walk agrees
  pub agree : (c : ℕ) (m o : Mode) (b : Steps) (here : Here) (st su : Stack) (t : Now) → NearModes c m o → Near c st su →
      Agree c (walk m b here st t) (walk o b here su t)
  agree c m o stop here st su t modes near = agree_same c (done_at t)
  agree c m o (step s ss) here st su t modes near =
      agree_and_then c _ _ _ _ (agree_step c m o s here st su t modes near) (λ u. agree c m o ss here st su u modes near)
      (λ u. late m ss here st u) (λ u. late o ss here su u)

  -- the same of one step
  pub agree_step : (c : ℕ) (m o : Mode) (s : Step) (here : Here) (st su : Stack) (t : Now) → NearModes c m o → Near c st su →
      Agree c (walk_step m s here st t) (walk_step o s here su t)
  agree_step c m o (sleep n) here st su t modes near = agree_sleeping c here.clock st su _ t.at near
  agree_step c m o checkpoint here st su t modes near = agree_sleeping c here.clock st su _ t.at near
  agree_step c m o forever here st su t modes near = agree_sleeping c here.clock st su _ t.at near
  agree_step c m o (pace k) here st su t modes near = agree_pacing c here.clock st su _ t.at near
  agree_step c m o (find text) here st su t modes near = agree_same c _
  agree_step c m o (head n) here st su t modes near = agree_same c _
  agree_step c m o longest here st su t modes near = agree_same c _
  agree_step c m o (need text name) here st su t modes near = agree_same c _
  agree_step c m o (raise name) here st su t modes near = agree_same c _
  agree_step c m o (cancel name) here st su t modes near = agree_cancelling c here.clock name st su t near
  agree_step c m o (set_event name) here st su t modes near = agree_setting c here.clock name st su t near
  agree_step c m o (wait_for name) here st su t modes near =
      agree_awaiting c here.clock st su _ _ t near (event_near c name st.events su.events near.1)
  agree_step c m o (ask_for name ask body) here st su t modes near =
      agree_asking c m o ask _ _ here st su t _ _ (label_near c name st.events su.events near.1) modes near
      (λ inner u. agree c m o body inner st su u modes near) (λ inner u. late m body inner st u)
      (λ inner u. late o body inner su u)
  agree_step c m o (close_channel name) here st su t modes near = agree_closing c name st su t near
  agree_step c m o (scope name d shield fail body) here st su t modes near =
      agree_block c here.clock _ _ t.at _ shield st su near m o _ _ modes
      (λ f. late m body here _ t)
      (λ f. late o body here _ t)
      (λ f g e. agree c m o body here _ _ t modes (near_within c _ shield f g st su e near))
  agree_step c m o (nursery name d shield body) here st su t modes near =
      agree_block c here.clock _ _ t.at _ shield st su near m o _ _ modes
      (λ f. late_gathered here.clock t.at _ _ (late_signed t.at _ _ (late m body here _ t)))
      (λ f. late_gathered here.clock t.at _ _ (late_signed t.at _ _ (late o body here _ t)))
      (λ f g e. agree_gathered c here.clock _ _ _ (agree_signed c _ _ _ _ (near_within c _ shield f g st su e near)
      (agree c m o body here _ _ t modes (near_within c _ shield f g st su e near))))
  agree_step c m o (event name body) here st su t modes near =
      agree_event c _ t.at m o _ _ modes
      (λ f. late m body here _ t)
      (λ f. late o body here _ t)
      (λ f g e. agree c m o body here _ _ t modes (near_in_event c _ f g st su e near))
  agree_step c m o (object name kind body) here st su t modes near =
      agree_acted c _ t.at _ _ _ _ refl
      (agree_event c _ t.at m o _ _ modes
      (λ f. late m body here _ t)
      (λ f. late o body here _ t)
      (λ f g e. agree c m o body here _ _ t modes (near_in_event c _ f g st su e near)))
  agree_step c m o (start name None body) here st su t modes near =
      agree_child c _ (a_round_after here.clock t.at) _ _ t
      (agree_signed c st su _ _ near (agree c m o body _ st su (only_at (a_round_after here.clock t.at)) modes near))
  agree_step c m o (start name (Some k) body) here st su t modes near =
      agree_each c k _ _ t (λ i. child_ends _ (a_round_after here.clock t.at) _ t) (λ i. child_ends _ (a_round_after here.clock t.at) _ t)
      (λ i. agree_child c _ (a_round_after here.clock t.at) _ _ t
      (agree_signed c st su _ _ near (agree c m o body _ st su (only_at (a_round_after here.clock t.at)) modes near)))
  agree_step c m o (repeat count over body) here st su t modes near =
      agree_passes c count 0 _ _ t (λ i u. agree c m o body _ st su u modes near) (λ i u. late m body _ st u) (λ i u. late o body _ su u)
  agree_step c m o (attempt body handler cleanup) here st su t modes near =
      agree_cleanup c m o cleanup here st su _ _ modes near
      (agree_handler c m o handler here st su _ _ modes near (agree c m o body here st su t modes near))

  -- the same for a handler, if what it follows agrees
  pub agree_handler : (c : ℕ) (m o : Mode) (x : Handled) (here : Here) (st su : Stack) (r q : Result) → NearModes c m o → Near c st su → Agree c r q →
      Agree c (walk_handler m x here st r) (walk_handler o x here su q)
  agree_handler c m o unhandled here st su r q modes near h = h
  agree_handler c m o (except name body) here st su r q modes near h =
      agree_handled c _ r q _ _ h (λ u. agree c m o body here st su u modes near) (λ u. late m body here st u) (λ u. late o body here su u)

  -- the same for a cleanup, if what it follows agrees
  pub agree_cleanup : (c : ℕ) (m o : Mode) (x : Cleaned) (here : Here) (st su : Stack) (r q : Result) → NearModes c m o → Near c st su → Agree c r q →
      Agree c (walk_cleanup m x here st r) (walk_cleanup o x here su q)
  agree_cleanup c m o uncleaned here st su r q modes near h = h
  agree_cleanup c m o (finally body) here st su r q modes near h =
      agree_cleaned c r q _ _ h (λ u. agree c m o body here st su u modes near) (λ u. late m body here st u) (λ u. late o body here su u)

-- on stacks that agree except where both moments of cancellation are at least c, and with grants that agree before c, a walk does the
-- same before c
pub nothing_before_its_cause : NothingBeforeItsCause
nothing_before_its_cause c mode other_mode steps here stack other now modes near = agree c mode other_mode steps here stack other now modes near
