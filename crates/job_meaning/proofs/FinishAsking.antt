-- What comes of a task that asks a limiter or channel, with the frames that it has left.
use Rattle.std.proofs.Common.{◌≡◌, ℕ, Bool, true, false, Option, Some, None, List, ◌∷◌, refl, ap, sym, ◌∙◌, if◌then◌else◌}
use Rattle.job_tree.specs.declared.object.Ask.{Ask}
use Rattle.job_tree.specs.declared.object.Ask.TheVariants.{Acquire, Send, Receive}
use Rattle.job_tree.specs.Tree.{ask_for, close_channel, Steps, step}
use Rattle.input_lines.specs.Lines.{Range}
use Rattle.exceptions.specs.Exceptions.{Label, cancelled}
use Rattle.cancel_scopes.specs.Sight.{sight, seen}
use Rattle.job_meaning.specs.Log.{nil, entry, was_granted, asks, gives_back, closes, act, Result}
use Rattle.job_meaning.specs.Sharing.{a_token, was_sent, a_part, Granted}
use Rattle.job_meaning.specs.Moments.{gives_up_at, Now, only_at}
use Rattle.job_meaning.specs.Walk.{Stack, Mode, grants_in, Here, walk, and_then, done_at, raised_at, close_result, with_token_back, last_grant, leaves_queue, in_time, left_result, granted_result, asked_result, asks_in, ask_result, ask_on, close_on, stack_for, label_on}
use Rattle.job_meaning.specs.Rest.{ChildOutcomes, Frame, steps_left, with_token, with_part, inside, queued, queue_result, finish, finished_from}
use Rattle.job_meaning.proofs.Finish.{after, finish_after}

-- a channel is closed
pub finish_close : (fs : List Frame) (m : Mode) (outcomes : ChildOutcomes) (name : List ℕ) (ss : Steps) (here : Here) (st : Stack) (t : Now)
    (label : Label) → label_on name st.events ≡ Some label →
    finish m outcomes (steps_left (step (close_channel name) ss) ∷ fs) here st (done_at t)
    ≡ after (act label t.at closes nil) (finish m outcomes (steps_left ss ∷ fs) here st (done_at t))
unfolding finish and_then walk close_result
finish_close fs m outcomes name ss here st t label e =
    ap (λ (o : Option Label). finish m outcomes (steps_left ss ∷ fs) here st (close_on o t)) e
    ∙ finish_after (steps_left ss ∷ fs) (act label t.at closes nil) m outcomes here st (done_at t)

-- where no channel of the name encloses the task, nothing happens
pub finish_no_close : (fs : List Frame) (m : Mode) (outcomes : ChildOutcomes) (name : List ℕ) (ss : Steps) (here : Here) (st : Stack) (t : Now) →
    label_on name st.events ≡ None →
    finish m outcomes (steps_left (step (close_channel name) ss) ∷ fs) here st (done_at t)
    ≡ finish m outcomes (steps_left ss ∷ fs) here st (done_at t)
unfolding finish and_then walk close_result
finish_no_close fs m outcomes name ss here st t e =
    ap (λ (o : Option Label). finish m outcomes (steps_left ss ∷ fs) here st (close_on o t)) e

-- a task that asks is in the queue from then on
pub finish_ask : (fs : List Frame) (m : Mode) (outcomes : ChildOutcomes) (name : List ℕ) (ask : Ask) (body ss : Steps) (here : Here) (st : Stack)
    (t : Now)
    (label : Label) → label_on name st.events ≡ Some label → seen (stack_for t.own t.at st.scopes) t.at ≡ false →
    finish m outcomes (steps_left (step (ask_for name ask body) ss) ∷ fs) here st (done_at t)
    ≡ finished_from m outcomes (queued name ask t.at body) (steps_left ss ∷ fs) here st t
unfolding finish and_then walk ask_result
finish_ask fs m outcomes name ask body ss here st t label e unseen =
    ap (λ (o : Option Label). finish m outcomes (steps_left ss ∷ fs) here st
    (ask_on m ask o (inside fs here) st t (λ inner u. walk m body inner st u))) e
    ∙ (ap (λ (b : Bool). finish m outcomes (steps_left ss ∷ fs) here st (if b then raised_at cancelled (only_at (gives_up_at here.clock 0 t.at))
    else asks_in m ask label (inside fs here) st t.at (λ inner u. walk m body inner st u))) unseen
    ∙ sym (ap (λ (o : Option Label). finish m outcomes (steps_left ss ∷ fs) here st
    (queue_result m ask o (inside fs here) st t.at (λ inner u. walk m body inner st u))) e))

-- where it sees a cancellation, it gives up
pub finish_ask_cancelled : (fs : List Frame) (m : Mode) (outcomes : ChildOutcomes) (name : List ℕ) (ask : Ask) (body ss : Steps) (here : Here)
    (st : Stack)
    (t : Now) (label : Label) → label_on name st.events ≡ Some label → seen (stack_for t.own t.at st.scopes) t.at ≡ true →
    finish m outcomes (steps_left (step (ask_for name ask body) ss) ∷ fs) here st (done_at t)
    ≡ finish m outcomes (steps_left ss ∷ fs) here st (raised_at cancelled (only_at (gives_up_at here.clock 0 t.at)))
unfolding finish and_then walk ask_result
finish_ask_cancelled fs m outcomes name ask body ss here st t label e is_seen =
    ap (λ (o : Option Label). finish m outcomes (steps_left ss ∷ fs) here st
    (ask_on m ask o (inside fs here) st t (λ inner u. walk m body inner st u))) e
    ∙ ap (λ (b : Bool). finish m outcomes (steps_left ss ∷ fs) here st (if b then raised_at cancelled (only_at (gives_up_at here.clock 0 t.at))
    else asks_in m ask label (inside fs here) st t.at (λ inner u. walk m body inner st u))) is_seen

-- and where no limiter or channel of the name encloses it, nothing happens
pub finish_no_ask : (fs : List Frame) (m : Mode) (outcomes : ChildOutcomes) (name : List ℕ) (ask : Ask) (body ss : Steps) (here : Here) (st : Stack)
    (t : Now) →
    label_on name st.events ≡ None →
    finish m outcomes (steps_left (step (ask_for name ask body) ss) ∷ fs) here st (done_at t)
    ≡ finish m outcomes (steps_left ss ∷ fs) here st (done_at t)
unfolding finish and_then walk ask_result
finish_no_ask fs m outcomes name ask body ss here st t e =
    ap (λ (o : Option Label). finish m outcomes (steps_left ss ∷ fs) here st
    (ask_on m ask o (inside fs here) st t (λ inner u. walk m body inner st u))) e

-- the moment in which a task that asked in moment m leaves the queue
abbrev pub queue_left : Here → Stack → ℕ → ℕ
queue_left here st m = leaves_queue (sight st.scopes) (last_grant here.clock m)

-- a task in the queue is granted something in time
pub finish_granted : (fs : List Frame) (m : Mode) (outcomes : ChildOutcomes) (name : List ℕ) (ask : Ask) (since : ℕ) (body : Steps) (here : Here)
    (st : Stack)
    (t : Now) (label : Label) (g : Granted) → label_on name st.events ≡ Some label →
    in_time since (queue_left here st since) (grants_in m label here.task since) ≡ Some g →
    finished_from m outcomes (queued name ask since body) fs here st t
    ≡ after (act label since (asks ask (inside fs here).part None) nil)
    (finish m outcomes fs here st (granted_result label (inside fs here) g.at g.what (λ inner u. walk m body inner st u)))
finish_granted fs m outcomes name ask since body here st t label g e granted =
    ap (λ (o : Option Label). finish m outcomes fs here st (queue_result m ask o (inside fs here) st since (λ inner u. walk m body inner st u))) e
    ∙ (ap (λ (o : Option Granted). finish m outcomes fs here st
    (asked_result ask label (inside fs here) (sight st.scopes) since (queue_left here st since) o (λ inner u. walk m body inner st u))) granted
    ∙ finish_after fs (act label since (asks ask (inside fs here).part None) nil) m outcomes here st
    (granted_result label (inside fs here) g.at g.what (λ inner u. walk m body inner st u)))

-- or it leaves the queue
pub finish_left : (fs : List Frame) (m : Mode) (outcomes : ChildOutcomes) (name : List ℕ) (ask : Ask) (since : ℕ) (body : Steps) (here : Here)
    (st : Stack)
    (t : Now) (label : Label) → label_on name st.events ≡ Some label →
    in_time since (queue_left here st since) (grants_in m label here.task since) ≡ None →
    finished_from m outcomes (queued name ask since body) fs here st t
    ≡ after (act label since (asks ask (inside fs here).part (Some (queue_left here st since))) nil)
    (finish m outcomes fs here st (left_result (inside fs here) (sight st.scopes) (queue_left here st since)))
finish_left fs m outcomes name ask since body here st t label e granted =
    ap (λ (o : Option Label). finish m outcomes fs here st (queue_result m ask o (inside fs here) st since (λ inner u. walk m body inner st u))) e
    ∙ (ap (λ (o : Option Granted). finish m outcomes fs here st
    (asked_result ask label (inside fs here) (sight st.scopes) since (queue_left here st since) o (λ inner u. walk m body inner st u))) granted
    ∙ finish_after fs (act label since (asks ask (inside fs here).part (Some (queue_left here st since))) nil) m outcomes here st
    (left_result (inside fs here) (sight st.scopes) (queue_left here st since)))

-- with a token it runs the block of the step
pub finish_with_token : (fs : List Frame) (m : Mode) (outcomes : ChildOutcomes) (body : Steps) (here : Here) (st : Stack) (label : Label) (t : ℕ) →
    finish m outcomes fs here st (granted_result label (inside fs here) t a_token (λ inner u. walk m body inner st u))
    ≡ after (entry t (was_granted Acquire label) nil) (finish m outcomes (steps_left body ∷ with_token label ∷ fs) here st (done_at (only_at t)))
unfolding finish and_then
finish_with_token fs m outcomes body here st label t =
    finish_after fs (entry t (was_granted Acquire label) nil) m outcomes here st (with_token_back label (walk m body (inside fs here) st (only_at t)))

-- what was sent was sent, and the block of the step runs
pub finish_sent : (fs : List Frame) (m : Mode) (outcomes : ChildOutcomes) (body : Steps) (here : Here) (st : Stack) (label : Label) (t : ℕ) →
    finish m outcomes fs here st (granted_result label (inside fs here) t was_sent (λ inner u. walk m body inner st u))
    ≡ after (entry t (was_granted Send label) nil) (finish m outcomes (steps_left body ∷ fs) here st (done_at (only_at t)))
unfolding finish and_then
finish_sent fs m outcomes body here st label t =
    finish_after fs (entry t (was_granted Send label) nil) m outcomes here st (walk m body (inside fs here) st (only_at t))

-- with a part it runs the block of the step on that part
pub finish_with_part : (fs : List Frame) (m : Mode) (outcomes : ChildOutcomes) (body : Steps) (here : Here) (st : Stack) (label : Label) (t : ℕ)
    (lent : Range) →
    finish m outcomes fs here st (granted_result label (inside fs here) t (a_part lent) (λ inner u. walk m body inner st u))
    ≡ after (entry t (was_granted Receive label) nil) (finish m outcomes (steps_left body ∷ with_part lent ∷ fs) here st (done_at (only_at t)))
unfolding finish and_then
finish_with_part fs m outcomes body here st label t lent =
    finish_after fs (entry t (was_granted Receive label) nil) m outcomes here st (walk m body (inside (with_part lent ∷ fs) here) st (only_at t))

-- a block with a token has ended: the token comes back, whatever it ended with
pub finish_token_back : (fs : List Frame) (m : Mode) (outcomes : ChildOutcomes) (label : Label) (here : Here) (st : Stack) (r : Result) →
    finish m outcomes (with_token label ∷ fs) here st (record r { log = nil })
    ≡ after (act label r.end gives_back nil) (finish m outcomes fs here st (record r { log = nil }))
unfolding finish with_token_back
finish_token_back fs m outcomes label here st r =
    finish_after fs (act label r.end gives_back nil) m outcomes here st (record r { log = nil })

-- a block with a part has ended
pub finish_part_left : (fs : List Frame) (m : Mode) (outcomes : ChildOutcomes) (received : Range) (here : Here) (st : Stack) (r : Result) →
    finish m outcomes (with_part received ∷ fs) here st r ≡ finish m outcomes fs here st r
unfolding finish
finish_part_left fs m outcomes received here st r = refl
