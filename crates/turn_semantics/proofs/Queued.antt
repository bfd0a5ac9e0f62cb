-- What a task does with limiters and channels leaves its result unchanged: it opens and closes them, asks, goes on with what it is
-- granted, or leaves the queue.
use Rattle.std.proofs.Common.{◌≡◌, ℕ, suc, ◌+◌, Bool, true, false, if◌then◌else◌, Option, Some, None, List, [], ◌∷◌, refl, ap, sym, ◌∙◌, arith}
use Rattle.std.specs.Prelude.{codes}
use Rattle.job_tree.specs.Tree.{close_channel, ask_for, object, Steps, step}
use Rattle.job_tree.specs.declared.object.Ask.{Ask}
use Rattle.job_tree.specs.declared.object.Ask.TheVariants.{Acquire, Send, Receive}
use Rattle.job_tree.specs.declared.object.ObjectKind.{ObjectKind}
use Rattle.input_lines.specs.Lines.{Range}
use Rattle.exceptions.specs.Exceptions.{Label, Exc, cancelled, raised}
use Rattle.cancel_scopes.specs.Sight.{sight, seen}
use Rattle.job_meaning.specs.Log.{Entry, was_granted, Act, asks, gives_back, closes, nil, entry, act, Result, Table}
use Rattle.job_meaning.specs.Sharing.{What, a_token, was_sent, a_part, closed_resource, end_of_channel, Granted}
use Rattle.job_meaning.specs.Moments.{tick_of, gives_up_at, Now, only_at}
use Rattle.job_meaning.specs.declared.clock.Clock.{Clock}
use Rattle.job_meaning.specs.declared.clock.Clock.TheVariants.{ByTicks as by_ticks, ByRounds as by_rounds}
use Rattle.job_meaning.specs.Walk.{Here, walk, done_at, raised_at, stack_for, label_on, label_here, and_then, with_act, close_result, with_token_back, last_grant, leaves_queue, left_result, goes_on, granted_result, asked_result, asks_in, ask_of, ask_result}
use Rattle.job_meaning.specs.Rest.{ChildOutcomes, Frame, steps_left, with_token, with_part, inside, queued, finish, queue_result, finished_from}
use Rattle.job_meaning.proofs.Finish.{after, finish_after, finish_step, finish_object}
use Rattle.turn_semantics.specs.Midway.{Place, Tables, by_tables, label_among, stack_at, Move, OwnFits, so_far, after_events, left_after}
use Rattle.turn_semantics.specs.Steps.{onward, makes, asks_if, asks_of, acts_on, enters_object, gives_token_back}
use Rattle.turn_semantics.specs.Placed.{IsSome}
use Rattle.turn_semantics.specs.Wakes.{granted_move, granted_on, with_grant, leaves_the_queue, granted_to, LeavesAt}
use Rattle.turn_semantics.specs.Turned.{AgreesOn}
use Rattle.turn_semantics.proofs.Agreeing.{own_seen_alike, event_at_places}

-- following these tables, in a moment
module _ (table : Tables) (outcomes : ChildOutcomes) (now : Now) (here : Here) where
  -- the result of a task with a result so far, inside these scopes, nurseries, events, limiters and channels
  abbrev pub left_with_result : List Frame → List Place → Result → Result
  left_with_result fs ps r = finish (by_tables table) outcomes fs here (stack_at table.cancelled_from ps) r

  -- a move results in this
  abbrev pub MovesTo : Result → Move → Type 0
  MovesTo r o = r ≡ after_events outcomes o.made (left_after table outcomes here now o)

  -- a moment in which a task has cancelled nothing
  nothing_own : now.own ≡ [] → only_at now.at ≡ now
  nothing_own e = ap at_own (sym e)
    where
      at_own : List Label → Now
      at_own ls = record { at = now.at; own = ls }

  -- ---- steps

  -- a channel is closed, if there is one
  closes_found : (o : Option Label) (fs : List Frame) (ps : List Place) →
      MovesTo (left_with_result fs ps (close_result o now)) (makes (acts_on o now.at closes) fs ps)
  unfolding close_result
  closes_found None fs ps = refl
  closes_found (Some l) fs ps = finish_after fs (act l now.at closes nil) (by_tables table) outcomes here (stack_at table.cancelled_from ps) (done_at now)

  pub keeps_close : (name : List ℕ) (ss : Steps) (fs : List Frame) (ps : List Place) →
      MovesTo (left_with_result (steps_left (step (close_channel name) ss) ∷ fs) ps (done_at now))
      (makes (acts_on (label_among true name ps) now.at closes) (steps_left ss ∷ fs) ps)
  unfolding walk
  keeps_close name ss fs ps =
      finish_step fs (by_tables table) outcomes (close_channel name) ss here (stack_at table.cancelled_from ps) now
      ∙ ap (λ (o : Option Label). left_with_result (steps_left ss ∷ fs) ps (close_result o now)) (event_at_places table.cancelled_from name ps)
      ∙ closes_found (label_among true name ps) (steps_left ss ∷ fs) ps

  -- a limiter or channel is opened, and then entered as an event is
  pub keeps_object : (name : List ℕ) (kind : ObjectKind) (body ss : Steps) (fs : List Frame) (ps : List Place) →
      MovesTo (left_with_result (steps_left (step (object name kind body) ss) ∷ fs) ps (done_at now))
      (enters_object (label_here name (inside fs here)) kind now.at body (steps_left ss ∷ fs) ps)
  keeps_object name kind body ss fs ps = finish_object fs table.cancelled_from table.granted outcomes name kind body ss here (stack_at table.cancelled_from ps) now

  -- a block that has a token has ended
  pub keeps_token : (limiter : Label) (fs : List Frame) (ps : List Place) (exc : Option Exc) →
      MovesTo (left_with_result (with_token limiter ∷ fs) ps (so_far exc now)) (gives_token_back limiter now.at fs ps exc)
  unfolding finish with_token_back
  keeps_token limiter fs ps exc =
      finish_after fs (act limiter now.at gives_back nil) (by_tables table) outcomes here (stack_at table.cancelled_from ps) (so_far exc now)

  -- and one that has a part of its own
  pub keeps_part : (received : Range) (fs : List Frame) (ps : List Place) (exc : Option Exc) →
      MovesTo (left_with_result (with_part received ∷ fs) ps (so_far exc now)) (onward fs ps exc)
  unfolding finish
  keeps_part received fs ps exc = refl

  -- a task that sees a cancellation raises, as a checkpoint does
  gives_up_asking : (clock : Clock) → here.clock ≡ clock → OwnFits clock now.own → (name : List ℕ) (ask : Ask) (body : Steps) (fs : List Frame)
      (ps : List Place) →
      MovesTo (left_with_result fs ps (raised_at cancelled (only_at (gives_up_at here.clock 0 now.at)))) (asks_if clock true name ask now.at body fs ps)
  gives_up_asking by_ticks c own name ask body fs ps =
      ap (λ (x : Clock). left_with_result fs ps (raised_at cancelled (only_at (gives_up_at x 0 now.at)))) c
      ∙ ap (λ (x : Now). left_with_result fs ps (raised_at cancelled x)) (nothing_own own)
  gives_up_asking by_rounds c own name ask body fs ps =
      ap (λ (x : Clock). left_with_result fs ps (raised_at cancelled (only_at (gives_up_at x 0 now.at)))) c
      ∙ ap (λ (x : ℕ). left_with_result fs ps (raised_at cancelled (only_at x))) two_rounds
    where
      two_rounds : now.at + 2 ≡ suc (suc now.at)
      two_rounds = omega arith

  -- a task asks, or raises
  asks_seen : (b : Bool) (l : Label) (name : List ℕ) (ask : Ask) (body : Steps) (fs : List Frame) (ps : List Place) → OwnFits here.clock now.own →
      label_on name (stack_at table.cancelled_from ps).events ≡ Some l →
      seen (stack_for now.own now.at (stack_at table.cancelled_from ps).scopes) now.at ≡ b →
      MovesTo
      (left_with_result fs ps (ask_of (by_tables table) ask l (inside fs here) (stack_at table.cancelled_from ps) now
      (λ inner later. walk (by_tables table) body inner (stack_at table.cancelled_from ps) later)))
      (asks_if here.clock b name ask now.at body fs ps)
  asks_seen true l name ask body fs ps own e s =
      ap (λ (c : Bool). left_with_result fs ps (if c then raised_at cancelled (only_at (gives_up_at here.clock 0 now.at))
      else asks_in (by_tables table) ask l (inside fs here) (stack_at table.cancelled_from ps) now.at
      (λ inner later. walk (by_tables table) body inner (stack_at table.cancelled_from ps) later))) s
      ∙ gives_up_asking here.clock refl own name ask body fs ps
  asks_seen false l name ask body fs ps own e s =
      ap (λ (c : Bool). left_with_result fs ps (if c then raised_at cancelled (only_at (gives_up_at here.clock 0 now.at))
      else asks_in (by_tables table) ask l (inside fs here) (stack_at table.cancelled_from ps) now.at
      (λ inner later. walk (by_tables table) body inner (stack_at table.cancelled_from ps) later))) s
      ∙ sym (ap (λ (x : Option Label). left_with_result fs ps (queue_result (by_tables table) ask x (inside fs here) (stack_at table.cancelled_from ps) now.at
      (λ inner later. walk (by_tables table) body inner (stack_at table.cancelled_from ps) later))) e)

  -- it asks a limiter or channel of this name, if there is one
  asks_found : (cancelled_from : Table) (o : Option Label) (name : List ℕ) (ask : Ask) (body : Steps) (fs : List Frame) (ps : List Place) →
      OwnFits here.clock now.own → AgreesOn now.at table.cancelled_from cancelled_from ps → label_on name (stack_at table.cancelled_from ps).events ≡ o →
      MovesTo
      (left_with_result fs ps (ask_result (by_tables table) ask o (inside fs here) (stack_at table.cancelled_from ps) now
      (λ inner later. walk (by_tables table) body inner (stack_at table.cancelled_from ps) later)))
      (asks_of here.clock o (seen (stack_for now.own now.at (stack_at cancelled_from ps).scopes) now.at) name ask now.at body fs ps)
  unfolding ask_result
  asks_found cancelled_from None name ask body fs ps own a e = refl
  asks_found cancelled_from (Some l) name ask body fs ps own a e =
      asks_seen (seen (stack_for now.own now.at (stack_at cancelled_from ps).scopes) now.at) l name ask body fs ps own e
      (own_seen_alike now.own now.at table.cancelled_from cancelled_from ps a)

  pub keeps_ask : (cancelled_from : Table) (name : List ℕ) (ask : Ask) (body ss : Steps) (fs : List Frame) (ps : List Place) →
      OwnFits here.clock now.own → AgreesOn now.at table.cancelled_from cancelled_from ps →
      MovesTo (left_with_result (steps_left (step (ask_for name ask body) ss) ∷ fs) ps (done_at now))
      (asks_of here.clock (label_among true name ps) (seen (stack_for now.own now.at (stack_at cancelled_from ps).scopes) now.at) name ask now.at body
      (steps_left ss ∷ fs) ps)
  unfolding walk
  keeps_ask cancelled_from name ask body ss fs ps own a =
      finish_step fs (by_tables table) outcomes (ask_for name ask body) ss here (stack_at table.cancelled_from ps) now
      ∙ ap (λ (o : Option Label). left_with_result (steps_left ss ∷ fs) ps (ask_result (by_tables table) ask o (inside fs here)
      (stack_at table.cancelled_from ps) now (λ inner later. walk (by_tables table) body inner (stack_at table.cancelled_from ps) later)))
      (event_at_places table.cancelled_from name ps)
      ∙ asks_found cancelled_from (label_among true name ps) name ask body (steps_left ss ∷ fs) ps own a (event_at_places table.cancelled_from name ps)

  -- ---- wakes

  -- an exception after an act
  acted_raised : (l : Label) (since : ℕ) (a : Act) (e : Exc) (fs : List Frame) (ps : List Place) → now.own ≡ [] →
      left_with_result fs ps (with_act l since a (raised_at e (only_at now.at)))
      ≡ after (act l since a nil) (left_with_result fs ps (raised_at e now))
  acted_raised l since a e fs ps own =
      finish_after fs (act l since a nil) (by_tables table) outcomes here (stack_at table.cancelled_from ps) (raised_at e (only_at now.at))
      ∙ ap (λ (v : Now). after (act l since a nil) (left_with_result fs ps (raised_at e v))) (nothing_own own)

  -- the block of a step comes after an act and a note
  acted_on : (e : Entry) (l : Label) (since : ℕ) (a : Act) (gs fs : List Frame) (ps : List Place) (go : Now → Result) → now.own ≡ [] →
      ((v : Now) → left_with_result gs ps (done_at v) ≡ left_with_result fs ps (go v)) →
      left_with_result fs ps (with_act l since a (goes_on e now.at go))
      ≡ after (act l since a (entry now.at e nil)) (left_with_result gs ps (done_at now))
  acted_on e l since a gs fs ps go own same =
      finish_after fs (act l since a (entry now.at e nil)) (by_tables table) outcomes here (stack_at table.cancelled_from ps) (go (only_at now.at))
      ∙ ap (λ (r : Result). after (act l since a (entry now.at e nil)) r)
      (sym (same (only_at now.at)) ∙ ap (λ (v : Now). left_with_result gs ps (done_at v)) (nothing_own own))

  -- a block, in the frames in which it runs
  token_block : (l : Label) (body : Steps) (fs : List Frame) (ps : List Place) (v : Now) →
      left_with_result (steps_left body ∷ with_token l ∷ fs) ps (done_at v)
      ≡ left_with_result fs ps (with_token_back l (walk (by_tables table) body (inside fs here) (stack_at table.cancelled_from ps) v))
  unfolding finish and_then
  token_block l body fs ps v = refl

  sent_block : (body : Steps) (fs : List Frame) (ps : List Place) (v : Now) →
      left_with_result (steps_left body ∷ fs) ps (done_at v)
      ≡ left_with_result fs ps (walk (by_tables table) body (inside fs here) (stack_at table.cancelled_from ps) v)
  unfolding finish and_then
  sent_block body fs ps v = refl

  part_block : (received : Range) (body : Steps) (fs : List Frame) (ps : List Place) (v : Now) →
      left_with_result (steps_left body ∷ with_part received ∷ fs) ps (done_at v)
      ≡ left_with_result fs ps (walk (by_tables table) body (record (inside fs here) { part = received }) (stack_at table.cancelled_from ps) v)
  unfolding finish and_then
  part_block received body fs ps v = refl

  -- what was granted
  granted_keeps : (what : What) (l : Label) (ask : Ask) (since : ℕ) (body : Steps) (fs : List Frame) (ps : List Place) → now.own ≡ [] →
      MovesTo
      (left_with_result fs ps (with_act l since (asks ask (inside fs here).part None) (granted_result l (inside fs here) now.at what
      (λ inner later. walk (by_tables table) body inner (stack_at table.cancelled_from ps) later))))
      (granted_move l (inside fs here) ask since now.at body what fs ps)
  granted_keeps a_token l ask since body fs ps own =
      acted_on (was_granted Acquire l) l since (asks ask (inside fs here).part None) (steps_left body ∷ with_token l ∷ fs) fs ps _ own (token_block l body fs ps)
  granted_keeps was_sent l ask since body fs ps own =
      acted_on (was_granted Send l) l since (asks ask (inside fs here).part None) (steps_left body ∷ fs) fs ps _ own (sent_block body fs ps)
  granted_keeps (a_part received) l ask since body fs ps own =
      acted_on (was_granted Receive l) l since (asks ask (inside fs here).part None) (steps_left body ∷ with_part received ∷ fs) fs ps _ own (part_block received body fs ps)
  granted_keeps closed_resource l ask since body fs ps own = acted_raised l since (asks ask (inside fs here).part None) _ fs ps own
  granted_keeps end_of_channel l ask since body fs ps own = acted_raised l since (asks ask (inside fs here).part None) _ fs ps own

  -- a task that is granted something
  pub wakes_granted : (u : Now) (what : What) (name : List ℕ) (ask : Ask) (since : ℕ) (body : Steps) (fs : List Frame) (ps : List Place) →
      IsSome (label_among true name ps) →
      granted_to table (inside fs here) (label_among true name ps) since (stack_at table.cancelled_from ps)
      ≡ Some (record { at = now.at; what = what }) → now.own ≡ [] →
      MovesTo (finished_from (by_tables table) outcomes (queued name ask since body) fs here (stack_at table.cancelled_from ps) u)
      (with_grant now.at here what (queued name ask since body) fs ps)
  wakes_granted u what name ask since body fs ps found granted own =
      by_label (label_among true name ps) (event_at_places table.cancelled_from name ps) found granted
    where
      by_label : (o : Option Label) → label_on name (stack_at table.cancelled_from ps).events ≡ o → IsSome o →
          granted_to table (inside fs here) o since (stack_at table.cancelled_from ps) ≡ Some (record { at = now.at; what = what }) →
          MovesTo (finished_from (by_tables table) outcomes (queued name ask since body) fs here (stack_at table.cancelled_from ps) u)
          (granted_on o (inside fs here) ask since now.at body what fs ps)
      by_label None e found granted = absurd found
      by_label (Some l) e found granted =
          ap (λ (x : Option Label). left_with_result fs ps (queue_result (by_tables table) ask x (inside fs here) (stack_at table.cancelled_from ps) since
          (λ inner later. walk (by_tables table) body inner (stack_at table.cancelled_from ps) later))) e
          ∙ ap (λ (x : Option Granted). left_with_result fs ps (asked_result ask l (inside fs here) (sight (stack_at table.cancelled_from ps).scopes) since
          (leaves_queue (sight (stack_at table.cancelled_from ps).scopes) (last_grant here.clock since)) x
          (λ inner later. walk (by_tables table) body inner (stack_at table.cancelled_from ps) later))) granted
          ∙ granted_keeps what l ask since body fs ps own

  -- what a task raises that leaves its queue
  abbrev pub raised_leaving : (seen_now : Bool) → Exc
  raised_leaving true = cancelled
  raised_leaving false = raised (codes "Deadlock") here.task (tick_of here.clock now.at)

  -- a task that leaves its queue
  pub wakes_leaving : (u : Now) (b : Bool) (name : List ℕ) (ask : Ask) (since : ℕ) (body : Steps) (fs : List Frame) (ps : List Place) →
      IsSome (label_among true name ps) →
      LeavesAt table (inside fs here) (label_among true name ps) since now.at (stack_at table.cancelled_from ps) →
      seen (stack_at table.cancelled_from ps).scopes now.at ≡ b → now.own ≡ [] →
      MovesTo (finished_from (by_tables table) outcomes (queued name ask since body) fs here (stack_at table.cancelled_from ps) u)
      (leaves_the_queue (label_among true name ps) (inside fs here) ask since now.at (raised_leaving b) fs ps)
  wakes_leaving u b name ask since body fs ps found leaves s own =
      by_label (label_among true name ps) (event_at_places table.cancelled_from name ps) found leaves
    where
      by_label : (o : Option Label) → label_on name (stack_at table.cancelled_from ps).events ≡ o → IsSome o →
          LeavesAt table (inside fs here) o since now.at (stack_at table.cancelled_from ps) →
          MovesTo (finished_from (by_tables table) outcomes (queued name ask since body) fs here (stack_at table.cancelled_from ps) u)
          (leaves_the_queue o (inside fs here) ask since now.at (raised_leaving b) fs ps)
      by_label None e found leaves = absurd found
      by_label (Some l) e found leaves =
          ap (λ (x : Option Label). left_with_result fs ps (queue_result (by_tables table) ask x (inside fs here) (stack_at table.cancelled_from ps) since
          (λ inner later. walk (by_tables table) body inner (stack_at table.cancelled_from ps) later))) e
          ∙ ap (λ (x : Option Granted). left_with_result fs ps (asked_result ask l (inside fs here) (sight (stack_at table.cancelled_from ps).scopes) since
          (leaves_queue (sight (stack_at table.cancelled_from ps).scopes) (last_grant here.clock since)) x
          (λ inner later. walk (by_tables table) body inner (stack_at table.cancelled_from ps) later))) leaves.0
          ∙ ap (λ (v : ℕ). left_with_result fs ps (with_act l since (asks ask (inside fs here).part (Some v))
          (left_result (inside fs here) (sight (stack_at table.cancelled_from ps).scopes) v))) leaves.1
          ∙ ap (λ (c : Bool). left_with_result fs ps (with_act l since (asks ask (inside fs here).part (Some now.at))
          (if c then raised_at cancelled (only_at now.at)
          else raised_at (raised (codes "Deadlock") here.task (tick_of here.clock now.at)) (only_at now.at)))) s
          ∙ by_seen b
        where
          by_seen : (c : Bool) →
              left_with_result fs ps (with_act l since (asks ask (inside fs here).part (Some now.at))
              (if c then raised_at cancelled (only_at now.at)
              else raised_at (raised (codes "Deadlock") here.task (tick_of here.clock now.at)) (only_at now.at)))
              ≡ after (act l since (asks ask (inside fs here).part (Some now.at)) nil) (left_with_result fs ps (raised_at (raised_leaving c) now))
          by_seen true = acted_raised l since (asks ask (inside fs here).part (Some now.at)) cancelled fs ps own
          by_seen false =
              acted_raised l since (asks ask (inside fs here).part (Some now.at)) (raised (codes "Deadlock") here.task (tick_of here.clock now.at)) fs ps own
