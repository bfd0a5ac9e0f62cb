-- The result of a task that has frames left: no frame reads what was done before, and what each step does to the frames.
use Rattle.std.proofs.Common.{◌≡◌, ℕ, zero, suc, ◌+◌, Bool, Option, Some, None, List, [], ◌∷◌, ◌++◌, refl, ap, sym, ◌∙◌, append_assoc, ◌<◌, arith}
use Rattle.std.proofs.lemmas.List.{append-nil}
use Rattle.job_tree.specs.declared.deadline.Deadline.{Deadline}
use Rattle.job_tree.specs.declared.object.ObjectKind.{ObjectKind}
use Rattle.job_tree.specs.Tree.{Step, scope, nursery, event, object, start, repeat, attempt, Steps, stop, step, Handled, unhandled, except, Cleaned, uncleaned, finally}
use Rattle.input_lines.specs.Cuts.{cut_of}
use Rattle.exceptions.specs.Exceptions.{Label, Exc}
use Rattle.exceptions.specs.Split.{Wanted, named, keep, drop}
use Rattle.cancel_scopes.specs.Sight.{Level}
use Rattle.job_meaning.proofs.Clips.{followed_nil}
use Rattle.job_meaning.specs.Log.{Log, nil, entry, sign, entered, opens, gives_back, act, task, followed_by, Member, Result, Table}
use Rattle.job_meaning.specs.Sharing.{Grants}
use Rattle.job_meaning.specs.Moments.{due, a_round_after, Now, only_at}
use Rattle.job_meaning.specs.declared.clock.Clock.{Clock}
use Rattle.job_meaning.specs.Walk.{now_of, cuts_over, in_pass, passes, Levels, Stack, Mode, by_table, Here, walk, walk_step, walk_handler, walk_cleanup, done_at, in_sequence, and_then, then_if, block, event_block, with_token_back, stack_inside, stack_in_event, Kind, with_sign, nursery_result, child, handler_result, handler_for, handler_if_any, cleanup_result, with_outcome, handler_exc, outcome_after, sign_if, a_scope, a_nursery, label_here, label_over, each, here_in}
use Rattle.job_meaning.specs.Rest.{Event, noted, signs, enters, acts, starts, fill, consecutive, starts_over, ChildOutcomes, outcome_members, Frame, steps_left, in_scope, in_event, with_token, with_part, in_nursery, in_repeat, in_try, in_handler, in_cleanup, inside, block_left, left_if, without_scope, without_event, with_children, wait_result, finish, rest_comes_to, rest_at_start}

-- three logs one after another are the same, whichever two are joined first
pub followed_assoc : (a b c : Log) → followed_by (followed_by a b) c ≡ followed_by a (followed_by b c)
followed_assoc nil b c = refl
followed_assoc (entry t e rest) b c = ap (λ (x : Log). entry t e x) (followed_assoc rest b c)
followed_assoc (sign l t rest) b c = ap (λ (x : Log). sign l t x) (followed_assoc rest b c)
followed_assoc (entered l t d rest) b c = ap (λ (x : Log). entered l t d x) (followed_assoc rest b c)
followed_assoc (act l t a rest) b c = ap (λ (x : Log). act l t a x) (followed_assoc rest b c)
followed_assoc (task l s u e own rest) b c = ap (λ (x : Log). task l s u e own x) (followed_assoc rest b c)

-- a result with something made before it
abbrev pub after : Log → Result → Result
after a r = record r { log = followed_by a r.log }

after_joined : (a : Log) (r q : Result) → in_sequence (after a r) q ≡ after a (in_sequence r q)
after_joined a r q = ap (λ (x : Log). record (in_sequence r q) { log = x }) (followed_assoc a r.log q.log)

after_and_then : (a : Log) (r : Result) (go : Now → Result) → and_then (after a r) go ≡ after a (and_then r go)
unfolding and_then
after_and_then a r go = by_exc r.exc
  where
    by_exc : (o : Option Exc) → then_if o (after a r) go ≡ after a (then_if o r go)
    by_exc None = after_joined a r (go (now_of r))
    by_exc (Some e) = refl

after_signed : (a : Log) (st : Stack) (r : Result) → with_sign st (after a r) ≡ after a (with_sign st r)
unfolding with_sign
after_signed a st r = ap (λ (x : Log). record r { own = []; log = x }) (followed_assoc a r.log _)

after_block_left : (a : Log) (clock : Clock) (kind : Kind) (l : Level Label) (outer : Levels) (r : Result) →
    block_left clock kind l outer (after a r) ≡ after a (block_left clock kind l outer r)
after_block_left a clock kind l outer r = ap (λ (x : Log). record (block_left clock kind l outer r) { log = x }) (followed_assoc a r.log _)

after_left_if : (a : Log) (clock : Clock) (kind : Kind) (ls : Levels) (go others : Level Label → Result) (r : Result) →
    ((l : Level Label) → others l ≡ after a (go l)) → left_if clock kind ls others (after a r) ≡ after a (left_if clock kind ls go r)
after_left_if a clock kind [] go others r h = refl
after_left_if a clock kind (l ∷ outer) go others r h =
    ap (λ (x : Result). block_left clock kind l outer x) (h l) ∙ after_block_left a clock kind l outer (go l)

after_handled : (a : Log) (wanted : Wanted) (r : Result) (go : Now → Result) → handler_result wanted (after a r) go ≡ after a (handler_result wanted r go)
unfolding handler_result
after_handled a wanted r go = by_exc r.exc
  where
    by_match : (o rest : Option Exc) → handler_if_any o rest (after a r) go ≡ after a (handler_if_any o rest r go)
    by_match None rest = refl
    by_match (Some e) rest = ap (λ (x : Result). with_outcome (handler_exc (go (now_of r)).exc rest) x) (after_joined a r (go (now_of r)))

    by_exc : (o : Option Exc) → handler_for o wanted (after a r) go ≡ after a (handler_for o wanted r go)
    by_exc None = refl
    by_exc (Some e) = by_match (keep wanted e) (drop wanted e)

after_cleaned : (a : Log) (r : Result) (go : Now → Result) → cleanup_result (after a r) go ≡ after a (cleanup_result r go)
unfolding cleanup_result
after_cleaned a r go = ap (λ (x : Result). with_outcome (outcome_after r.exc (go (now_of r)).exc) x) (after_joined a r (go (now_of r)))

after_handler : (a : Log) (m : Mode) (x : Handled) (here : Here) (st : Stack) (r : Result) →
    walk_handler m x here st (after a r) ≡ after a (walk_handler m x here st r)
unfolding walk
after_handler a m unhandled here st r = refl
after_handler a m (except name body) here st r = after_handled a (named name) r (λ u. walk m body here st u)

after_cleanup : (a : Log) (m : Mode) (x : Cleaned) (here : Here) (st : Stack) (r : Result) →
    walk_cleanup m x here st (after a r) ≡ after a (walk_cleanup m x here st r)
unfolding walk
after_cleanup a m uncleaned here st r = refl
after_cleanup a m (finally body) here st r = after_cleaned a r (λ u. walk m body here st u)

after_token_back : (a : Log) (label : Label) (r : Result) → with_token_back label (after a r) ≡ after a (with_token_back label r)
unfolding with_token_back
after_token_back a label r = ap (λ (x : Log). record r { log = x }) (followed_assoc a r.log (act label r.end gives_back nil))

-- no frame reads what was made before it
pub finish_after : (fs : List Frame) (a : Log) (m : Mode) (outcomes : ChildOutcomes) (here : Here) (st : Stack) (r : Result) →
    finish m outcomes fs here st (after a r) ≡ after a (finish m outcomes fs here st r)
unfolding finish nursery_result
finish_after [] a m outcomes here st r = after_signed a st r
finish_after (steps_left ss ∷ fs) a m outcomes here st r =
    ap (λ (x : Result). finish m outcomes fs here st x) (after_and_then a r (λ u. walk m ss (inside fs here) st u))
    ∙ finish_after fs a m outcomes here st (and_then r (λ u. walk m ss (inside fs here) st u))
finish_after (in_scope fail ∷ fs) a m outcomes here st r =
    ap (λ (x : Result). finish m outcomes fs here (without_scope st) x)
    (after_left_if a here.clock (a_scope fail) st.scopes (λ l. r) (λ l. after a r) r (λ l. refl))
    ∙ finish_after fs a m outcomes here (without_scope st) _
finish_after (in_event ∷ fs) a m outcomes here st r = finish_after fs a m outcomes here (without_event st) r
finish_after (with_token limiter ∷ fs) a m outcomes here st r =
    ap (λ (x : Result). finish m outcomes fs here st x) (after_token_back a limiter r)
    ∙ finish_after fs a m outcomes here st (with_token_back limiter r)
finish_after (with_part received ∷ fs) a m outcomes here st r = finish_after fs a m outcomes here st r
finish_after (in_nursery children ∷ fs) a m outcomes here st r =
    ap (λ (x : Result). finish m outcomes fs here (without_scope st) x)
    (after_left_if a here.clock a_nursery st.scopes
    (λ l. nursery_result here.clock l.label (with_children (outcome_members outcomes children) (with_sign st r)))
    (λ l. nursery_result here.clock l.label (with_children (outcome_members outcomes children) (with_sign st (after a r)))) r
    (λ l. ap (λ (x : Result). nursery_result here.clock l.label (with_children (outcome_members outcomes children) x)) (after_signed a st r)))
    ∙ finish_after fs a m outcomes here (without_scope st) _
finish_after (in_repeat pass left cuts body ∷ fs) a m outcomes here st r =
    ap (λ (x : Result). finish m outcomes fs here st x)
    (after_and_then a r (λ u. passes (suc pass) left (λ i v. walk m body (in_pass cuts i (inside fs here)) st v) u))
    ∙ finish_after fs a m outcomes here st _
finish_after (in_try handler cleanup ∷ fs) a m outcomes here st r =
    ap (λ (x : Result). finish m outcomes fs here st (walk_cleanup m cleanup (inside fs here) st x))
    (after_handler a m handler (inside fs here) st r)
    ∙ (ap (λ (x : Result). finish m outcomes fs here st x) (after_cleanup a m cleanup (inside fs here) st
    (walk_handler m handler (inside fs here) st r))
    ∙ finish_after fs a m outcomes here st _)
finish_after (in_handler rest cleanup ∷ fs) a m outcomes here st r =
    ap (λ (x : Result). finish m outcomes fs here st x) (after_cleanup a m cleanup (inside fs here) st
    (with_outcome (handler_exc r.exc rest) r))
    ∙ finish_after fs a m outcomes here st _
finish_after (in_cleanup outcome ∷ fs) a m outcomes here st r = finish_after fs a m outcomes here st _

-- the result of a task that was just started is that of its block
pub finish_begin : (m : Mode) (outcomes : ChildOutcomes) (b : Steps) (here : Here) (st : Stack) (t : Now) →
    rest_comes_to m outcomes (rest_at_start b) here st t ≡ with_sign st (walk m b here st t)
unfolding finish and_then
finish_begin m outcomes b here st t = refl

-- a block with no step left
pub finish_stop : (fs : List Frame) (m : Mode) (outcomes : ChildOutcomes) (here : Here) (st : Stack) (t : Now) →
    finish m outcomes (steps_left stop ∷ fs) here st (done_at t) ≡ finish m outcomes fs here st (done_at t)
unfolding finish and_then walk
finish_stop fs m outcomes here st t = refl

-- a step that opens no frame
pub finish_step : (fs : List Frame) (m : Mode) (outcomes : ChildOutcomes) (s : Step) (ss : Steps) (here : Here) (st : Stack) (t : Now) →
    finish m outcomes (steps_left (step s ss) ∷ fs) here st (done_at t)
    ≡ finish m outcomes (steps_left ss ∷ fs) here st (walk_step m s (inside fs here) st t)
unfolding finish and_then walk
finish_step fs m outcomes s ss here st t = refl

-- steps after an exception are not begun
pub finish_raised : (fs : List Frame) (m : Mode) (outcomes : ChildOutcomes) (ss : Steps) (here : Here) (st : Stack) (r : Result) (e : Exc) →
    finish m outcomes (steps_left ss ∷ fs) here st (record r { exc = Some e }) ≡ finish m outcomes fs here st (record r { exc = Some e })
unfolding finish and_then
finish_raised fs m outcomes ss here st r e = refl

-- a scope is entered
pub finish_scope : (fs : List Frame) (table : Table) (grants : Grants) (outcomes : ChildOutcomes) (name : List ℕ) (d : Deadline) (shield fail : Bool)
    (body ss : Steps)
    (here : Here) (st : Stack) (t : Now) →
    finish (by_table table grants) outcomes (steps_left (step (scope name d shield fail body) ss) ∷ fs) here st (done_at t)
    ≡ after (entered (label_here name (inside fs here)) t.at (due here.clock d t.at) nil)
    (finish (by_table table grants) outcomes (steps_left body ∷ in_scope fail ∷ steps_left ss ∷ fs) here
    (stack_inside (label_here name (inside fs here)) shield (table (label_here name (inside fs here))) st) (done_at t))
unfolding finish and_then walk block
finish_scope fs table grants outcomes name d shield fail body ss here st t =
    finish_after (steps_left body ∷ in_scope fail ∷ steps_left ss ∷ fs) (entered (label_here name (inside fs here)) t.at (due here.clock d t.at) nil)
    (by_table table grants) outcomes here
    (stack_inside (label_here name (inside fs here)) shield (table (label_here name (inside fs here))) st) (done_at t)

-- an event is entered
pub finish_event : (fs : List Frame) (table : Table) (grants : Grants) (outcomes : ChildOutcomes) (name : List ℕ) (body ss : Steps) (here : Here)
    (st : Stack) (t : Now) →
    finish (by_table table grants) outcomes (steps_left (step (event name body) ss) ∷ fs) here st (done_at t)
    ≡ after (entered (label_here name (inside fs here)) t.at None nil)
    (finish (by_table table grants) outcomes (steps_left body ∷ in_event ∷ steps_left ss ∷ fs) here
    (stack_in_event (label_here name (inside fs here)) (table (label_here name (inside fs here))) st) (done_at t))
unfolding finish and_then walk event_block
finish_event fs table grants outcomes name body ss here st t =
    finish_after (steps_left body ∷ in_event ∷ steps_left ss ∷ fs) (entered (label_here name (inside fs here)) t.at None nil)
    (by_table table grants) outcomes here
    (stack_in_event (label_here name (inside fs here)) (table (label_here name (inside fs here))) st) (done_at t)

-- a limiter or channel is entered
pub finish_object : (fs : List Frame) (table : Table) (grants : Grants) (outcomes : ChildOutcomes) (name : List ℕ) (kind : ObjectKind)
    (body ss : Steps)
    (here : Here) (st : Stack) (t : Now) →
    finish (by_table table grants) outcomes (steps_left (step (object name kind body) ss) ∷ fs) here st (done_at t)
    ≡ after (act (label_here name (inside fs here)) t.at (opens kind) (entered (label_here name (inside fs here)) t.at None nil))
    (finish (by_table table grants) outcomes (steps_left body ∷ in_event ∷ steps_left ss ∷ fs) here
    (stack_in_event (label_here name (inside fs here)) (table (label_here name (inside fs here))) st) (done_at t))
unfolding finish and_then walk event_block
finish_object fs table grants outcomes name kind body ss here st t =
    finish_after (steps_left body ∷ in_event ∷ steps_left ss ∷ fs)
    (act (label_here name (inside fs here)) t.at (opens kind) (entered (label_here name (inside fs here)) t.at None nil))
    (by_table table grants) outcomes here
    (stack_in_event (label_here name (inside fs here)) (table (label_here name (inside fs here))) st) (done_at t)

-- a nursery is entered
pub finish_nursery : (fs : List Frame) (table : Table) (grants : Grants) (outcomes : ChildOutcomes) (name : List ℕ) (d : Deadline) (shield : Bool)
    (body ss : Steps)
    (here : Here) (st : Stack) (t : Now) →
    finish (by_table table grants) outcomes (steps_left (step (nursery name d shield body) ss) ∷ fs) here st (done_at t)
    ≡ after (entered (label_here name (inside fs here)) t.at (due here.clock d t.at) nil)
    (finish (by_table table grants) outcomes (steps_left body ∷ in_nursery [] ∷ steps_left ss ∷ fs) here
    (stack_inside (label_here name (inside fs here)) shield (table (label_here name (inside fs here))) st) (done_at t))
unfolding finish and_then walk block nursery_result with_sign
finish_nursery fs table grants outcomes name d shield body ss here st t =
    finish_after (steps_left body ∷ in_nursery [] ∷ steps_left ss ∷ fs) (entered (label_here name (inside fs here)) t.at (due here.clock d t.at) nil)
    (by_table table grants) outcomes here
    (stack_inside (label_here name (inside fs here)) shield (table (label_here name (inside fs here))) st) (done_at t)

-- a `try` is entered
pub finish_try : (fs : List Frame) (m : Mode) (outcomes : ChildOutcomes) (body : Steps) (handler : Handled) (cleanup : Cleaned) (ss : Steps)
    (here : Here) (st : Stack) (t : Now) →
    finish m outcomes (steps_left (step (attempt body handler cleanup) ss) ∷ fs) here st (done_at t)
    ≡ finish m outcomes (steps_left body ∷ in_try handler cleanup ∷ steps_left ss ∷ fs) here st (done_at t)
unfolding finish and_then walk
finish_try fs m outcomes body handler cleanup ss here st t = refl

-- a handler is entered where the exception has such leaves
pub finish_handler : (fs : List Frame) (m : Mode) (outcomes : ChildOutcomes) (name : List ℕ) (body : Steps) (cleanup : Cleaned) (here : Here)
    (st : Stack) (r : Result) (e x : Exc) → keep (named name) e ≡ Some x →
    finish m outcomes (in_try (except name body) cleanup ∷ fs) here st (record r { exc = Some e })
    ≡ finish m outcomes (steps_left body ∷ in_handler (drop (named name) e) cleanup ∷ fs) here st (record r { exc = None })
unfolding finish and_then walk handler_result
finish_handler fs m outcomes name body cleanup here st r e x k =
    ap (λ (o : Option Exc). finish m outcomes fs here st (walk_cleanup m cleanup (inside fs here) st
    (handler_if_any o (drop (named name) e) (record r { exc = Some e }) (λ u. walk m body (inside fs here) st u)))) k

-- and where it has none, or there is no exception, it is passed by
pub finish_unhandled : (fs : List Frame) (m : Mode) (outcomes : ChildOutcomes) (name : List ℕ) (body : Steps) (cleanup : Cleaned) (here : Here)
    (st : Stack) (r : Result) (e : Exc) → keep (named name) e ≡ None →
    finish m outcomes (in_try (except name body) cleanup ∷ fs) here st (record r { exc = Some e })
    ≡ finish m outcomes (in_try unhandled cleanup ∷ fs) here st (record r { exc = Some e })
unfolding finish walk handler_result
finish_unhandled fs m outcomes name body cleanup here st r e k =
    ap (λ (o : Option Exc). finish m outcomes fs here st (walk_cleanup m cleanup (inside fs here) st
    (handler_if_any o (drop (named name) e) (record r { exc = Some e }) (λ u. walk m body (inside fs here) st u)))) k

-- where the body of a `try` raised nothing, its handler is passed by
pub finish_no_handler : (fs : List Frame) (m : Mode) (outcomes : ChildOutcomes) (handler : Handled) (cleanup : Cleaned) (here : Here) (st : Stack)
    (r : Result) →
    finish m outcomes (in_try handler cleanup ∷ fs) here st (record r { exc = None })
    ≡ finish m outcomes (in_try unhandled cleanup ∷ fs) here st (record r { exc = None })
unfolding finish walk handler_result
finish_no_handler fs m outcomes unhandled cleanup here st r = refl
finish_no_handler fs m outcomes (except name body) cleanup here st r = refl

-- a `repeat` without a pass
pub finish_no_pass : (fs : List Frame) (m : Mode) (outcomes : ChildOutcomes) (over : Bool) (body ss : Steps) (here : Here) (st : Stack) (t : Now) →
    finish m outcomes (steps_left (step (repeat zero over body) ss) ∷ fs) here st (done_at t) ≡ finish m outcomes (steps_left ss ∷ fs) here st
    (done_at t)
unfolding finish and_then walk
finish_no_pass fs m outcomes over body ss here st t = refl

-- the first pass of a `repeat` is entered
pub finish_first_pass : (fs : List Frame) (m : Mode) (outcomes : ChildOutcomes) (k : ℕ) (over : Bool) (body ss : Steps) (here : Here) (st : Stack) (t : Now) →
    finish m outcomes (steps_left (step (repeat (suc k) over body) ss) ∷ fs) here st (done_at t)
    ≡ finish m outcomes (steps_left body ∷ in_repeat 0 k (cuts_over over (suc k)) body ∷ steps_left ss ∷ fs) here st (done_at t)
unfolding finish and_then walk
finish_first_pass fs m outcomes k over body ss here st t = refl

-- a pass has ended, and the next one is entered
pub finish_next_pass : (fs : List Frame) (m : Mode) (outcomes : ChildOutcomes) (pass k : ℕ) (cuts : Option ℕ) (body : Steps) (here : Here) (st : Stack) (t : Now) →
    finish m outcomes (in_repeat pass (suc k) cuts body ∷ fs) here st (done_at t)
    ≡ finish m outcomes (steps_left body ∷ in_repeat (suc pass) k cuts body ∷ fs) here st (done_at t)
unfolding finish and_then
finish_next_pass fs m outcomes pass k cuts body here st t = refl

-- the last pass has ended
pub finish_last_pass : (fs : List Frame) (m : Mode) (outcomes : ChildOutcomes) (pass : ℕ) (cuts : Option ℕ) (body : Steps) (here : Here) (st : Stack) (t : Now) →
    finish m outcomes (in_repeat pass zero cuts body ∷ fs) here st (done_at t) ≡ finish m outcomes fs here st (done_at t)
unfolding finish and_then
finish_last_pass fs m outcomes pass cuts body here st t = refl

-- no pass follows an exception
pub finish_raised_pass : (fs : List Frame) (m : Mode) (outcomes : ChildOutcomes) (pass left : ℕ) (cuts : Option ℕ) (body : Steps) (here : Here) (st : Stack)
    (r : Result) (e : Exc) →
    finish m outcomes (in_repeat pass left cuts body ∷ fs) here st (record r { exc = Some e }) ≡ finish m outcomes fs here st (record r { exc = Some e })
unfolding finish and_then
finish_raised_pass fs m outcomes pass left cuts body here st r e = refl

-- a handler has ended: the rest of the split goes with what it raised
pub finish_handled : (fs : List Frame) (m : Mode) (outcomes : ChildOutcomes) (rest : Option Exc) (cleanup : Cleaned) (here : Here) (st : Stack)
    (r : Result) →
    finish m outcomes (in_handler rest cleanup ∷ fs) here st r ≡ finish m outcomes (in_try unhandled cleanup ∷ fs) here st
    (with_outcome (handler_exc r.exc rest) r)
unfolding finish walk
finish_handled fs m outcomes rest cleanup here st r = refl

-- with no cleanup to come a `try` is left
pub finish_uncleaned : (fs : List Frame) (m : Mode) (outcomes : ChildOutcomes) (here : Here) (st : Stack) (r : Result) →
    finish m outcomes (in_try unhandled uncleaned ∷ fs) here st r ≡ finish m outcomes fs here st r
unfolding finish walk
finish_uncleaned fs m outcomes here st r = refl

-- a cleanup is entered, with the outcome so far
pub finish_cleanup : (fs : List Frame) (m : Mode) (outcomes : ChildOutcomes) (body : Steps) (here : Here) (st : Stack) (r : Result) →
    finish m outcomes (in_try unhandled (finally body) ∷ fs) here st r
    ≡ finish m outcomes (steps_left body ∷ in_cleanup r.exc ∷ fs) here st (record r { exc = None })
unfolding finish and_then walk cleanup_result
finish_cleanup fs m outcomes body here st r = refl

-- a cleanup has ended
pub finish_cleaned : (fs : List Frame) (m : Mode) (outcomes : ChildOutcomes) (outcome : Option Exc) (here : Here) (st : Stack) (r : Result) →
    finish m outcomes (in_cleanup outcome ∷ fs) here st r ≡ finish m outcomes fs here st (with_outcome (outcome_after outcome r.exc) r)
unfolding finish
finish_cleaned fs m outcomes outcome here st r = refl

-- a stack with a scope or nursery more, and with an event more
abbrev pub scope_over : Level Label → Stack → Stack
scope_over l outer = record outer { scopes = l ∷ outer.scopes }

abbrev pub event_over : Level Label → Stack → Stack
event_over l outer = record outer { events = l ∷ outer.events }

-- a scope is left
pub finish_leave : (fs : List Frame) (m : Mode) (outcomes : ChildOutcomes) (fail : Bool) (here : Here) (l : Level Label) (outer : Stack)
    (r : Result) →
    finish m outcomes (in_scope fail ∷ fs) here (scope_over l outer) r ≡ finish m outcomes fs here outer (block_left here.clock (a_scope fail) l outer.scopes r)
unfolding finish
finish_leave fs m outcomes fail here l outer r = refl

-- an event is left
pub finish_leave_event : (fs : List Frame) (m : Mode) (outcomes : ChildOutcomes) (here : Here) (l : Level Label) (outer : Stack) (r : Result) →
    finish m outcomes (in_event ∷ fs) here (event_over l outer) r ≡ finish m outcomes fs here outer r
unfolding finish
finish_leave_event fs m outcomes here l outer r = refl

-- the body of a nursery has ended, and the wait begins: with the sign of a body that failed before it
pub finish_wait : (fs : List Frame) (m : Mode) (outcomes : ChildOutcomes) (children : List ℕ) (here : Here) (l : Level Label) (outer : Stack) (t : Now)
    (e : Option Exc) →
    finish m outcomes (in_nursery children ∷ fs) here (scope_over l outer) (record { end = t.at; own = t.own; exc = e; members = []; log = nil })
    ≡ after (sign_if e (Some l.label) t.at) (finish m outcomes fs here outer (wait_result here.clock (outcome_members outcomes children) t.at e (l ∷ outer.scopes) t))
unfolding finish with_sign nursery_result
finish_wait fs m outcomes children here l outer t e =
    ap (λ (ms : List Member). finish m outcomes fs here outer (block_left here.clock a_nursery l outer.scopes
    (nursery_result here.clock l.label (record { end = t.at; own = []; exc = e; members = ms; log = sign_if e (Some l.label) t.at }))))
    (append-nil (outcome_members outcomes children))
    ∙ (ap (λ (x : Log). finish m outcomes fs here outer (block_left here.clock a_nursery l outer.scopes
    (nursery_result here.clock l.label (record { end = t.at; own = []; exc = e; members = outcome_members outcomes children; log = x }))))
    (sym (followed_nil (sign_if e (Some l.label) t.at)))
    ∙ (ap (λ (x : Result). finish m outcomes fs here outer x) (after_block_left (sign_if e (Some l.label) t.at) here.clock a_nursery l outer.scopes
    (nursery_result here.clock l.label (record { end = t.at; own = []; exc = e; members = outcome_members outcomes children; log = nil })))
    ∙ finish_after fs (sign_if e (Some l.label) t.at) m outcomes here outer (wait_result here.clock (outcome_members outcomes children) t.at e (l ∷ outer.scopes) t)))

outcome_members_append : (outcomes : ChildOutcomes) (is js : List ℕ) → outcome_members outcomes (is ++ js) ≡ outcome_members outcomes is ++ outcome_members outcomes js
outcome_members_append outcomes [] js = refl
outcome_members_append outcomes (i ∷ is) js = ap (λ (ms : List Member). record { end = (outcomes i).end; exc = (outcomes i).exc } ∷ ms) (outcome_members_append outcomes is js)

-- children of a nursery count by number as they did by their results
pub finish_children : (fs : List Frame) (m : Mode) (outcomes : ChildOutcomes) (children more : List ℕ) (here : Here) (l : Level Label) (outer : Stack)
    (r : Result) →
    finish m outcomes (in_nursery (children ++ more) ∷ fs) here (scope_over l outer) r
    ≡ finish m outcomes (in_nursery children ∷ fs) here (scope_over l outer) (record r { members = outcome_members outcomes more ++ r.members })
unfolding finish with_sign
finish_children fs m outcomes children more here l outer r =
    ap (λ (ms : List Member). finish m outcomes fs here outer (block_left here.clock a_nursery l outer.scopes
    (nursery_result here.clock l.label (record {
      end = r.end;
      own = [];
      exc = r.exc;
      members = ms;
      log =
          followed_by r.log (sign_if r.exc (Some l.label) r.end);
    }))))
    (ap (λ (ms : List Member). ms ++ r.members) (outcome_members_append outcomes children more)
    ∙ append_assoc (outcome_members outcomes children) (outcome_members outcomes more) r.members)

-- the result of starting children: the starter continues in the same tick
abbrev pub just_started : ChildOutcomes → List ℕ → Log → Now → Result
just_started outcomes more a t = record { end = t.at; own = t.own; exc = None; members = outcome_members outcomes more; log = a }

-- after children were started, the body's steps continue with these among the nursery's, after the log so far
pub finish_started : (fs : List Frame) (m : Mode) (outcomes : ChildOutcomes) (ss : Steps) (children more : List ℕ) (here : Here) (l : Level Label)
    (outer : Stack) (t : Now) (a : Log) →
    finish m outcomes (steps_left ss ∷ in_nursery children ∷ fs) here (scope_over l outer) (just_started outcomes more a t)
    ≡ after a (finish m outcomes (steps_left ss ∷ in_nursery (children ++ more) ∷ fs) here (scope_over l outer) (done_at t))
unfolding finish and_then
finish_started fs m outcomes ss children more here l outer t a =
    sym (finish_children fs m outcomes children more here l outer (after a (walk m ss (inside fs here) (scope_over l outer) t)))
    ∙ finish_after (in_nursery (children ++ more) ∷ fs) a m outcomes here (scope_over l outer) (walk m ss (inside fs here) (scope_over l outer) t)

-- a child is started
pub finish_start : (fs : List Frame) (m : Mode) (outcomes : ChildOutcomes) (i : ℕ) (name : List ℕ) (body ss : Steps) (children : List ℕ) (here : Here)
    (l : Level Label) (outer : Stack) (t : Now) →
    outcomes i ≡ with_sign (scope_over l outer) (walk m body (here_in (label_here name (inside fs here)) (inside fs here).part here) (scope_over l outer) (only_at (a_round_after here.clock t.at))) →
    finish m outcomes (steps_left (step (start name None body) ss) ∷ in_nursery children ∷ fs) here (scope_over l outer) (done_at t)
    ≡ after (fill outcomes (starts i (label_here name (inside fs here)) (a_round_after here.clock t.at) ∷ []))
    (finish m outcomes (steps_left ss ∷ in_nursery (children ++ i ∷ []) ∷ fs) here (scope_over l outer) (done_at t))
unfolding walk child
finish_start fs m outcomes i name body ss children here l outer t e =
    finish_step (in_nursery children ∷ fs) m outcomes (start name None body) ss here (scope_over l outer) t
    ∙ (ap (λ (r : Result). finish m outcomes (steps_left ss ∷ in_nursery children ∷ fs) here (scope_over l outer)
    (child (label_here name (inside fs here)) (a_round_after here.clock t.at) r t)) (sym e)
    ∙ finish_started fs m outcomes ss children (i ∷ []) here l outer t
    (fill outcomes (starts i (label_here name (inside fs here)) (a_round_after here.clock t.at) ∷ [])))

-- what was made, and more
pub fill_append : (outcomes : ChildOutcomes) (es others : List Event) → fill outcomes (es ++ others) ≡ followed_by (fill outcomes es) (fill outcomes others)
fill_append outcomes [] others = refl
fill_append outcomes (noted t e ∷ es) others = ap (λ (x : Log). entry t e x) (fill_append outcomes es others)
fill_append outcomes (signs l t ∷ es) others = ap (λ (x : Log). sign l t x) (fill_append outcomes es others)
fill_append outcomes (enters l t d ∷ es) others = ap (λ (x : Log). entered l t d x) (fill_append outcomes es others)
fill_append outcomes (acts l t a ∷ es) others = ap (λ (x : Log). act l t a x) (fill_append outcomes es others)
fill_append outcomes (starts i l t ∷ es) others =
    ap (λ (x : Log). task l t (outcomes i).end (outcomes i).exc (outcomes i).log x) (fill_append outcomes es others)

-- the children of a `start .. over`, by their numbers
pub each_started : (outcomes : ChildOutcomes) (name : List ℕ) (here : Here) (begins : ℕ) (t : Now) (first k : ℕ) (go : ℕ → Result) →
    ((i : ℕ) → i < k → outcomes (first + i) ≡ go i) →
    each k (λ i. child (label_over name here i) begins (go i) t) t ≡ just_started outcomes (consecutive first k)
    (fill outcomes (starts_over name here begins first k)) t
unfolding child
each_started outcomes name here begins t first zero go h = refl
each_started outcomes name here begins t first (suc k) go h =
    ap (λ (r : Result). in_sequence r (child (label_over name here k) begins (go k) t))
    (each_started outcomes name here begins t first k go (λ i lt. h i (below i lt)))
    ∙ (ap (λ (r : Result). in_sequence (just_started outcomes (consecutive first k) (fill outcomes (starts_over name here begins first k)) t)
    (child (label_over name here k) begins r t)) (sym (h k (omega arith)))
    ∙ both (sym (outcome_members_append outcomes (consecutive first k) ((first + k) ∷ [])))
    (sym (fill_append outcomes (starts_over name here begins first k) (starts (first + k) (label_over name here k) begins ∷ []))))
  where
    below : (i : ℕ) → i < k → i < suc k
    below i lt = omega arith

    both : {ms ns : List Member} {a b : Log} → ms ≡ ns → a ≡ b →
        ◌≡◌ {A = Result} (record { end = t.at; own = t.own; exc = None; members = ms; log = a }) (record { end = t.at; own = t.own; exc = None; members = ns; log = b })
    both e f = cc

-- the children of a `start .. over` are started
pub finish_start_over : (fs : List Frame) (m : Mode) (outcomes : ChildOutcomes) (first k : ℕ) (name : List ℕ) (body ss : Steps) (children : List ℕ)
    (here : Here) (l : Level Label) (outer : Stack) (t : Now) →
    ((i : ℕ) → i < k → outcomes (first + i) ≡ with_sign (scope_over l outer) (walk m body
    (here_in (label_over name (inside fs here) i) (cut_of here.input (inside fs here).part k i) here) (scope_over l outer) (only_at (a_round_after here.clock t.at)))) →
    finish m outcomes (steps_left (step (start name (Some k) body) ss) ∷ in_nursery children ∷ fs) here (scope_over l outer) (done_at t)
    ≡ after (fill outcomes (starts_over name (inside fs here) (a_round_after here.clock t.at) first k))
    (finish m outcomes (steps_left ss ∷ in_nursery (children ++ consecutive first k) ∷ fs) here (scope_over l outer) (done_at t))
unfolding walk
finish_start_over fs m outcomes first k name body ss children here l outer t h =
    finish_step (in_nursery children ∷ fs) m outcomes (start name (Some k) body) ss here (scope_over l outer) t
    ∙ (ap (λ (r : Result). finish m outcomes (steps_left ss ∷ in_nursery children ∷ fs) here (scope_over l outer) r)
    (each_started outcomes name (inside fs here) (a_round_after here.clock t.at) t first k (λ i. with_sign (scope_over l outer)
    (walk m body (here_in (label_over name (inside fs here) i) (cut_of here.input (inside fs here).part k i) here) (scope_over l outer) (only_at (a_round_after here.clock t.at)))) h)
    ∙ finish_started fs m outcomes ss children (consecutive first k) here l outer t (fill outcomes (starts_over name (inside fs here) (a_round_after here.clock t.at) first k)))
