-- A walk enters only labels of its own block, and signs only labels that it entered or that are on its stack. It
-- holds in both modes.
use Rattle.std.proofs.Common.{◌≡◌, ℕ, zero, suc, ◌<◌, ◌≤◌, Bool, true, false, Option, Some, None, List, [], ◌∷◌, ◌++◌, refl, sym, subst, ◌⊎◌, inl, inr, arith, max, nat_le, nat_lt, if◌then◌else◌}
use Rattle.std.proofs.lemmas.List.{append-nil}
use Rattle.std.specs.Prelude.{codes}
use Rattle.std.specs.Str.{bytes_eq}
use Rattle.job_tree.specs.Tree.{Step, sleep, checkpoint, forever, pace, find, head, longest, need, raise, cancel, set_event, wait_for, ask_for, close_channel, scope, nursery, event, object, start, repeat, attempt, Steps, stop, step, Handled, unhandled, except, Cleaned, uncleaned, finally}
use Rattle.job_tree.specs.Names.{names_of, names_in, handled_names, cleaned_names}
use Rattle.job_tree.specs.declared.object.Ask.{Ask}
use Rattle.input_lines.specs.Lines.{Range, Span}
use Rattle.exceptions.specs.Exceptions.{Label, Exc, cancelled, raised}
use Rattle.exceptions.specs.Split.{Wanted, keep, drop}
use Rattle.cancel_scopes.specs.Sight.{Tick, Level, is_reached, sight, seen, catches}
use Rattle.job_tree.specs.declared.object.Ask.TheVariants.{Acquire, Send, Receive}
use Rattle.job_meaning.specs.Log.{Log, nil, entry, Act, act, gives_back, followed_by, Result, Entry, was_granted}
use Rattle.job_meaning.specs.Sharing.{What, a_token, was_sent, a_part, closed_resource, end_of_channel, Granted}
use Rattle.job_meaning.specs.Moments.{tick_of, a_round_after, gives_up_at, Now, only_at}
use Rattle.job_meaning.specs.declared.clock.Clock.{Clock}
use Rattle.job_meaning.specs.Walk.{Levels, Stack, Mode, grants_in, Here, walk, walk_step, walk_handler, walk_cleanup, done_at, raised_at, now_of, in_sequence, and_then, then_if, wait_by_sight, sleep_result, pace_result, wait_until, set_moment, wait_by, with_line_if, with_line, event_wait, log_of_lines, lines_result, raise_result, need_result, from_for, stack_for, label_on, label_if, sign_of, cancel_result, set_result, Kind, from_of, block, event_block, event_result, with_act, close_result, with_token_back, last_grant, leaves_queue, in_time, left_result, goes_on, granted_result, asked_result, asks_in, ask_result, stack_in_event, exit_with_from, left_as, left_with, stack_inside, with_sign, sign_if, home_of, nursery_result, child, each, passes, handler_result, handler_for, handler_if_any, cleanup_result, label_here, label_over, here_in, in_pass, cuts_over}
use Rattle.job_meaning.proofs.Late.{noted_at}
use Rattle.job_meaning.proofs.Distinct.{among_left, among_right, Belongs, belongs_in, belongs_after, OnLevels, OnStack}
use Rattle.job_meaning.proofs.Touched.{Gives, Signs, gives_followed, gives_first, gives_second, signs_followed}

-- a walk on a stack gives only labels that belong to it, and signs only those and labels of the stack
pub record Tidy (st : Stack) (Own : Label → Type 0) (r : Result) : Type 0 where
  pub gives : (l : Label) → Gives l r.log → Own l
  pub signs : (l : Label) → Signs l r.log → OnStack l st ⊎ Gives l r.log

-- a walk that is tidy with some labels is tidy with any more of them
pub tidy_in : (st : Stack) (P Q : Label → Type 0) (r : Result) → ((l : Label) → P l → Q l) → Tidy st P r → Tidy st Q r
tidy_in st P Q r f h = record { gives = λ l e. f l (h.gives l e); signs = h.signs }

-- a log with no entered label and no sign
record Plain (a : Log) : Type 0 where
  none : (l : Label) → Gives l a → ⊥
  unsigned : (l : Label) → Signs l a → ⊥

plain_nil : Plain nil
plain_nil = record { none = λ l h. h; unsigned = λ l h. h }

tidy_plain : (st : Stack) (P : Label → Type 0) (r : Result) → Plain r.log → Tidy st P r
tidy_plain st P r h = record { gives = λ l e. absurd (h.none l e); signs = λ l e. absurd (h.unsigned l e) }

-- one tidy result after another is tidy
pub tidy_joined : (st : Stack) (P : Label → Type 0) (r q : Result) → Tidy st P r → Tidy st P q → Tidy st P (in_sequence r q)
tidy_joined st P r q h k =
    record {
      gives = λ l e. own l (gives_followed l r.log q.log e);
      signs = λ l e. seen_to l (signs_followed l r.log q.log e);
    }
  where
    own : (l : Label) → Gives l r.log ⊎ Gives l q.log → P l
    own l (inl e) = h.gives l e
    own l (inr e) = k.gives l e

    first : (l : Label) → OnStack l st ⊎ Gives l r.log → OnStack l st ⊎ Gives l (followed_by r.log q.log)
    first l (inl o) = inl o
    first l (inr e) = inr (gives_first l r.log q.log e)

    second : (l : Label) → OnStack l st ⊎ Gives l q.log → OnStack l st ⊎ Gives l (followed_by r.log q.log)
    second l (inl o) = inl o
    second l (inr e) = inr (gives_second l r.log q.log e)

    seen_to : (l : Label) → Signs l r.log ⊎ Signs l q.log → OnStack l st ⊎ Gives l (followed_by r.log q.log)
    seen_to l (inl e) = first l (h.signs l e)
    seen_to l (inr e) = second l (k.signs l e)

-- a tidy walk that continues with tidy ones is tidy as a whole
pub tidy_and_then : (st : Stack) (P : Label → Type 0) (r : Result) (go : Now → Result) → Tidy st P r → ((u : Now) → Tidy st P (go u)) →
    Tidy st P (and_then r go)
unfolding and_then
tidy_and_then st P r go h k = by_exc r.exc
  where
    by_exc : (o : Option Exc) → Tidy st P (then_if o r go)
    by_exc None = tidy_joined st P r (go (now_of r)) h (k (now_of r))
    by_exc (Some e) = h

-- where nothing happens, that is tidy
pub tidy_done : (st : Stack) (P : Label → Type 0) (t : Now) → Tidy st P (done_at t)
tidy_done st P t = tidy_plain st P (done_at t) plain_nil

-- an exception is tidy
pub tidy_raised : (st : Stack) (P : Label → Type 0) (e : Exc) (t : Now) → Tidy st P (raised_at e t)
tidy_raised st P e t = tidy_plain st P (raised_at e t) plain_nil

-- a wait is tidy
tidy_waited : (st : Stack) (P : Label → Type 0) (a : Tick) (least gives_up end : ℕ) → Tidy st P (wait_by_sight a least gives_up end)
tidy_waited st P None least gives_up end = tidy_done st P (only_at end)
tidy_waited st P (Some from) least gives_up end = by_now (nat_le from least) (nat_le from end)
  where
    by_now : (now due : Bool) → Tidy st P (if now then raised_at cancelled (only_at gives_up) else
        (if due then raised_at cancelled (only_at from) else done_at (only_at end)))
    by_now true due = tidy_raised st P cancelled (only_at gives_up)
    by_now false true = tidy_raised st P cancelled (only_at from)
    by_now false false = tidy_done st P (only_at end)

-- a sleep is tidy
pub tidy_sleeping : (clock : Clock) (st : Stack) (P : Label → Type 0) (n t : ℕ) → Tidy st P (sleep_result clock st n t)
unfolding sleep_result
tidy_sleeping clock st P n t = tidy_waited st P (sight st.scopes) _ _ _

-- and so is a `pace`
pub tidy_pacing : (clock : Clock) (st : Stack) (P : Label → Type 0) (n t : ℕ) → Tidy st P (pace_result clock st n t)
unfolding pace_result
tidy_pacing clock st P n t = tidy_waited st P (sight st.scopes) _ _ _

tidy_until : (st : Stack) (P : Label → Type 0) (a : Tick) (least end : ℕ) → Tidy st P (wait_until a least end)
tidy_until st P None least end = tidy_done st P (only_at end)
tidy_until st P (Some from) least end = by_order (nat_lt from end)
  where
    by_order : (b : Bool) → Tidy st P (if b then raised_at cancelled (only_at (max least from)) else done_at (only_at end))
    by_order true = tidy_raised st P cancelled (only_at (max least from))
    by_order false = tidy_done st P (only_at end)

tidy_set : (clock : Clock) (st : Stack) (P : Label → Type 0) (set t : ℕ) → Tidy st P (wait_by clock st set t)
tidy_set clock st P set t = by_round (nat_le set (a_round_after clock t))
  where
    by_round : (b : Bool) → Tidy st P (if b then sleep_result clock st 0 t else wait_until (sight st.scopes) (a_round_after clock t) set)
    by_round true = tidy_sleeping clock st P 0 t
    by_round false = tidy_until st P (sight st.scopes) (a_round_after clock t) set

tidy_lined : (st : Stack) (P : Label → Type 0) (label : Label) (r : Result) → Tidy st P r → Tidy st P (with_line label r)
tidy_lined st P label r h = by_exc r.exc
  where
    by_exc : (o : Option Exc) → Tidy st P (with_line_if o label r)
    by_exc None = record { gives = λ l e. absurd e; signs = λ l e. absurd e }
    by_exc (Some e) = h

-- a wait for an event is tidy
pub tidy_awaiting : (clock : Clock) (st : Stack) (P : Label → Type 0) (level : Option (Level Label)) (t : Now) →
    Tidy st P (event_wait clock st level t)
unfolding event_wait
tidy_awaiting clock st P None t = tidy_done st P t
tidy_awaiting clock st P (Some l) t = tidy_lined st P l.label _ (tidy_set clock st P (set_moment clock l.from t.at) t.at)

no_enters_lines : (l : Label) (t : ℕ) (ls : List Span) → Gives l (log_of_lines t ls) → ⊥
no_enters_lines l t [] h = h
no_enters_lines l t (s ∷ ss) h = no_enters_lines l t ss h

no_signs_lines : (l : Label) (t : ℕ) (ls : List Span) → Signs l (log_of_lines t ls) → ⊥
no_signs_lines l t [] h = h
no_signs_lines l t (s ∷ ss) h = no_signs_lines l t ss h

-- lines that are shown are tidy
pub tidy_showing : (st : Stack) (P : Label → Type 0) (ls : List Span) (t : Now) → Tidy st P (lines_result ls t)
unfolding lines_result
tidy_showing st P ls t = tidy_plain st P (lines_result ls t) (record
    { none = λ l h. no_enters_lines l t.at ls h; unsigned = λ l h. no_signs_lines l t.at ls h })

-- an exception that is raised here is tidy
pub tidy_raising : (st : Stack) (P : Label → Type 0) (name : List ℕ) (here : Here) (t : Now) → Tidy st P (raise_result name here t)
unfolding raise_result
tidy_raising st P name here t = tidy_raised st P _ t

-- a `need` is tidy, whether its line is found or not
pub tidy_needing : (st : Stack) (P : Label → Type 0) (found : Option Span) (name : List ℕ) (here : Here) (t : Now) →
    Tidy st P (need_result found name here t)
unfolding need_result
tidy_needing st P (Some l) name here t = tidy_showing st P (l ∷ []) t
tidy_needing st P None name here t = tidy_raising st P name here t

-- a label that was found among some levels is that of one of them
abbrev OnLevelsIf : Option Label → Levels → Type 0
OnLevelsIf None ls = Unit {0}
OnLevelsIf (Some l) ls = OnLevels l ls

found_on : (name : List ℕ) (ls : Levels) → OnLevelsIf (label_on name ls) ls
found_on name [] = tt
found_on name (k ∷ ks) = by_test (bytes_eq name k.label.name) (label_on name ks) (found_on name ks)
  where
    by_test : (b : Bool) (o : Option Label) → OnLevelsIf o ks → OnLevelsIf (label_if b k.label o) (k ∷ ks)
    by_test true o h = inl refl
    by_test false None h = tt
    by_test false (Some l) h = inr h

-- the innermost label is one of them, if there is one
pub home_on : (ls : Levels) → OnLevelsIf (home_of ls) ls
home_on [] = tt
home_on (k ∷ ks) = inl refl

-- a sign for such a label, and nothing else
pub sign_on : (ls : Levels) (o : Option Label) (t : ℕ) → OnLevelsIf o ls → (l : Label) → Signs l (sign_of o t) → OnLevels l ls
sign_on ls None t h l s = absurd s
sign_on ls (Some m) t h l (inl e) = subst (λ (x : Label). OnLevels x ls) (sym e) h
sign_on ls (Some m) t h l (inr s) = absurd s

no_enters_sign : (o : Option Label) (t : ℕ) (l : Label) → Gives l (sign_of o t) → ⊥
no_enters_sign None t l h = h
no_enters_sign (Some m) t l h = h

-- a `cancel` of a name is tidy
pub tidy_cancelling : (clock : Clock) (st : Stack) (P : Label → Type 0) (name : List ℕ) (t : Now) →
    Tidy st P (cancel_result clock (label_on name st.scopes) t)
unfolding cancel_result
tidy_cancelling clock st P name t =
    record {
      gives = λ l e. absurd (no_enters_sign (label_on name st.scopes) t.at l e);
      signs = λ l e. inl (inl (sign_on st.scopes (label_on name st.scopes) t.at (found_on name st.scopes) l e));
    }

-- a `set` of a name is tidy
pub tidy_setting : (clock : Clock) (st : Stack) (P : Label → Type 0) (name : List ℕ) (t : Now) →
    Tidy st P (set_result clock (label_on name st.events) t)
unfolding set_result
tidy_setting clock st P name t =
    record {
      gives = λ l e. absurd (no_enters_sign (label_on name st.events) t.at l e);
      signs = λ l e. inl (inr (sign_on st.events (label_on name st.events) t.at (found_on name st.events) l e));
    }

-- a scope or nursery with a label of its own is tidy, where its inside is tidy on the stack within it
pub tidy_block : (clock : Clock) (m : Mode) (kind : Kind) (label : Label) (t : ℕ) (d : Tick) (shield : Bool) (st : Stack) (P : Label → Type 0)
    (inside : Tick → Result) →
    P label → ((f : Tick) → Tidy (stack_inside label shield f st) P (inside f)) → Tidy st P (block clock m kind label t d shield st inside)
unfolding block
tidy_block clock m kind label t d shield st P inside p h = at_from (from_of m label d inside)
  where
    at_from : (f : Tick) → Tidy st P (exit_with_from clock kind label t d shield st f (inside f))
    at_from f = record { gives = own; signs = λ l e. seen_to l (signs_followed l (inside f).log _ e) }
      where
        end_log : Log
        end_log = entry (inside f).end (left_as kind label (left_with (catches (from_for (inside f).own (inside f).end label f) shield (stack_for (inside f).own (inside f).end st.scopes) (inside f).end) (inside f).exc).caught) nil

        after : (l : Label) → Gives l (inside f).log ⊎ ⊥ → P l
        after l (inl e) = (h f).gives l e
        after l (inr e) = absurd e

        own : (l : Label) → (l ≡ label) ⊎ Gives l (followed_by (inside f).log end_log) → P l
        own l (inl e) = subst P (sym e) p
        own l (inr e) = after l (gives_followed l (inside f).log end_log e)

        by_place : (l : Label) → (((l ≡ label) ⊎ OnLevels l st.scopes) ⊎ OnLevels l st.events) ⊎ Gives l (inside f).log → OnStack l st
            ⊎ ((l ≡ label) ⊎ Gives l (followed_by (inside f).log end_log))
        by_place l (inl (inl (inl e))) = inr (inl e)
        by_place l (inl (inl (inr o))) = inl (inl o)
        by_place l (inl (inr o)) = inl (inr o)
        by_place l (inr e) = inr (inr (gives_first l (inside f).log end_log e))

        seen_to : (l : Label) → Signs l (inside f).log ⊎ ⊥ → OnStack l st ⊎ ((l ≡ label) ⊎ Gives l (followed_by (inside f).log end_log))
        seen_to l (inl e) = by_place l ((h f).signs l e)
        seen_to l (inr e) = absurd e

-- so is an event with a label of its own
pub tidy_event : (m : Mode) (label : Label) (t : ℕ) (st : Stack) (P : Label → Type 0) (inside : Tick → Result) →
    P label → ((f : Tick) → Tidy (stack_in_event label f st) P (inside f)) → Tidy st P (event_block m label t inside)
unfolding event_block
tidy_event m label t st P inside p h = at_from (from_of m label None inside)
  where
    at_from : (f : Tick) → Tidy st P (event_result label t (inside f))
    at_from f = record { gives = own; signs = λ l e. by_place l ((h f).signs l e) }
      where
        own : (l : Label) → (l ≡ label) ⊎ Gives l (inside f).log → P l
        own l (inl e) = subst P (sym e) p
        own l (inr e) = (h f).gives l e

        by_place : (l : Label) → (OnLevels l st.scopes ⊎ ((l ≡ label) ⊎ OnLevels l st.events)) ⊎ Gives l (inside f).log →
            OnStack l st ⊎ ((l ≡ label) ⊎ Gives l (inside f).log)
        by_place l (inl (inl o)) = inl (inl o)
        by_place l (inl (inr (inl e))) = inr (inl e)
        by_place l (inl (inr (inr o))) = inl (inr o)
        by_place l (inr e) = inr (inr e)

-- an act, which gives no label and signs none
pub tidy_acted : (st : Stack) (P : Label → Type 0) (label : Label) (t : ℕ) (a : Act) (r : Result) → Tidy st P r → Tidy st P (with_act label t a r)
tidy_acted st P label t a r h = record { gives = h.gives; signs = h.signs }

-- a `close` is tidy
pub tidy_closing : (st : Stack) (P : Label → Type 0) (label : Option Label) (t : Now) → Tidy st P (close_result label t)
unfolding close_result
tidy_closing st P None t = tidy_done st P t
tidy_closing st P (Some l) t = tidy_acted st P l t.at _ (done_at t) (tidy_done st P t)

-- what is tidy is tidy with a token that comes back at its end
pub tidy_token_back : (st : Stack) (P : Label → Type 0) (label : Label) (r : Result) → Tidy st P r → Tidy st P (with_token_back label r)
unfolding with_token_back
tidy_token_back st P label r h =
    record { gives = λ l e. own l (gives_followed l r.log back e); signs = λ l e. seen_to l (signs_followed l r.log back e) }
  where
    back : Log
    back = act label r.end gives_back nil

    own : (l : Label) → Gives l r.log ⊎ ⊥ → P l
    own l (inl e) = h.gives l e
    own l (inr e) = absurd e

    first : (l : Label) → OnStack l st ⊎ Gives l r.log → OnStack l st ⊎ Gives l (followed_by r.log back)
    first l (inl o) = inl o
    first l (inr e) = inr (gives_first l r.log back e)

    seen_to : (l : Label) → Signs l r.log ⊎ ⊥ → OnStack l st ⊎ Gives l (followed_by r.log back)
    seen_to l (inl e) = first l (h.signs l e)
    seen_to l (inr e) = absurd e

-- who leaves the queue of a limiter or channel
tidy_left : (st : Stack) (P : Label → Type 0) (here : Here) (from : Tick) (left : ℕ) → Tidy st P (left_result here from left)
tidy_left st P here from left = by_sight (is_reached from left)
  where
    by_sight : (b : Bool) → Tidy st P (if b then raised_at cancelled (only_at left)
        else raised_at (raised (codes "Deadlock") here.task (tick_of here.clock left)) (only_at left))
    by_sight true = tidy_raised st P _ (only_at left)
    by_sight false = tidy_raised st P _ (only_at left)

tidy_goes_on : (st : Stack) (P : Label → Type 0) (e : Entry) (m : ℕ) (go : Now → Result) → ((u : Now) → Tidy st P (go u)) →
    Tidy st P (goes_on e m go)
tidy_goes_on st P e m go h =
    tidy_joined st P (noted_at e m) (go (only_at m)) (record { gives = λ l i. absurd i; signs = λ l i. absurd i }) (h (only_at m))

tidy_granted : (st : Stack) (P : Label → Type 0) (label : Label) (here : Here) (m : ℕ) (what : What) (go : Here → Now → Result) →
    ((lent : Range) (u : Now) → Tidy st P (go (record here { part = lent }) u)) → Tidy st P (granted_result label here m what go)
tidy_granted st P label here m a_token go h = tidy_goes_on st P (was_granted Acquire label) m _ (λ u. tidy_token_back st P label _ (h here.part u))
tidy_granted st P label here m was_sent go h = tidy_goes_on st P (was_granted Send label) m _ (λ u. h here.part u)
tidy_granted st P label here m (a_part lent) go h = tidy_goes_on st P (was_granted Receive label) m _ (λ u. h lent u)
tidy_granted st P label here m closed_resource go h = tidy_raised st P _ (only_at m)
tidy_granted st P label here m end_of_channel go h = tidy_raised st P _ (only_at m)

-- an ask is tidy where what follows it is, on whatever part it is
pub tidy_asking : (m : Mode) (st : Stack) (P : Label → Type 0) (ask : Ask) (label : Option Label) (here : Here) (t : Now) (go : Here → Now → Result) →
    ((lent : Range) (u : Now) → Tidy st P (go (record here { part = lent }) u)) → Tidy st P (ask_result m ask label here st t go)
unfolding ask_result
tidy_asking m st P ask None here t go h = tidy_done st P t
tidy_asking m st P ask (Some label) here t go h = by_sight (seen (stack_for t.own t.at st.scopes) t.at)
  where
    left : ℕ
    left = leaves_queue (sight st.scopes) (last_grant here.clock t.at)

    by_grant : (o : Option Granted) → Tidy st P (asked_result ask label here (sight st.scopes) t.at left o go)
    by_grant None = tidy_acted st P label t.at _ _ (tidy_left st P here (sight st.scopes) left)
    by_grant (Some g) = tidy_acted st P label t.at _ _ (tidy_granted st P label here g.at g.what go h)

    by_sight : (b : Bool) →
        Tidy st P (if b then raised_at cancelled (only_at (gives_up_at here.clock 0 t.at)) else asks_in m ask label here st t.at go)
    by_sight true = tidy_raised st P cancelled (only_at (gives_up_at here.clock 0 t.at))
    by_sight false = by_grant (in_time t.at left (grants_in m label here.task t.at))

-- a member signs its home
pub signs_home : (st : Stack) (o : Option Exc) (t : ℕ) (l : Label) → Signs l (sign_if o (home_of st.scopes) t) → OnStack l st
signs_home st None t l s = absurd s
signs_home st (Some e) t l s = inl (sign_on st.scopes (home_of st.scopes) t (home_on st.scopes) l s)

-- and gives no label with that sign
pub gives_home : (st : Stack) (o : Option Exc) (t : ℕ) (l : Label) → Gives l (sign_if o (home_of st.scopes) t) → ⊥
gives_home st None t l s = s
gives_home st (Some e) t l s = no_enters_sign (home_of st.scopes) t l s

-- a tidy member is tidy with its sign too
pub tidy_signed : (st : Stack) (P : Label → Type 0) (r : Result) → Tidy st P r → Tidy st P (with_sign st r)
unfolding with_sign
tidy_signed st P r h =
    record {
      gives = λ l e. own l (gives_followed l r.log (sign_if r.exc (home_of st.scopes) r.end) e);
      signs = λ l e. seen_to l (signs_followed l r.log (sign_if r.exc (home_of st.scopes) r.end) e);
    }
  where
    own : (l : Label) → Gives l r.log ⊎ Gives l (sign_if r.exc (home_of st.scopes) r.end) → P l
    own l (inl e) = h.gives l e
    own l (inr e) = absurd (gives_home st r.exc r.end l e)

    first : (l : Label) → OnStack l st ⊎ Gives l r.log → OnStack l st ⊎ Gives l (followed_by r.log (sign_if r.exc (home_of st.scopes) r.end))
    first l (inl o) = inl o
    first l (inr e) = inr (gives_first l r.log _ e)

    seen_to : (l : Label) → Signs l r.log ⊎ Signs l (sign_if r.exc (home_of st.scopes) r.end) → OnStack l st
        ⊎ Gives l (followed_by r.log (sign_if r.exc (home_of st.scopes) r.end))
    seen_to l (inl e) = first l (h.signs l e)
    seen_to l (inr e) = inl (signs_home st r.exc r.end l e)

-- a nursery with a tidy body is tidy, once its members have ended
pub tidy_gathered : (clock : Clock) (st : Stack) (P : Label → Type 0) (label : Label) (r : Result) → Tidy st P r → Tidy st P (nursery_result clock label r)
unfolding nursery_result
tidy_gathered clock st P label r h = record { gives = h.gives; signs = h.signs }

-- what a tidy started task with a label of its own leaves in its starter's walk is tidy
pub tidy_child : (st : Stack) (P : Label → Type 0) (label : Label) (begins : ℕ) (r : Result) (t : Now) → P label → Tidy st P r →
    Tidy st P (child label begins r t)
unfolding child
tidy_child st P label begins r t p h = record { gives = own; signs = seen_to }
  where
    own : (l : Label) → (l ≡ label) ⊎ (Gives l r.log ⊎ ⊥) → P l
    own l (inl e) = subst P (sym e) p
    own l (inr (inl e)) = h.gives l e
    own l (inr (inr e)) = absurd e

    first : (l : Label) → OnStack l st ⊎ Gives l r.log → OnStack l st ⊎ ((l ≡ label) ⊎ (Gives l r.log ⊎ ⊥))
    first l (inl o) = inl o
    first l (inr e) = inr (inr (inl e))

    seen_to : (l : Label) → Signs l r.log ⊎ ⊥ → OnStack l st ⊎ ((l ≡ label) ⊎ (Gives l r.log ⊎ ⊥))
    seen_to l (inl e) = first l (h.signs l e)
    seen_to l (inr e) = absurd e

-- the children of a `start .. over` are tidy where each of them is
pub tidy_each : (st : Stack) (P : Label → Type 0) (k : ℕ) (go : ℕ → Result) (t : Now) → ((i : ℕ) → i < k → Tidy st P (go i)) →
    Tidy st P (each k go t)
tidy_each st P zero go t h = tidy_done st P t
tidy_each st P (suc k) go t h = tidy_joined st P (each k go t) (go k) (tidy_each st P k go t (λ i lt. h i (below i lt))) (h k (omega arith))
  where
    below : (i : ℕ) → i < k → i < suc k
    below i lt = omega arith

-- passes of a `repeat` from one on
pub tidy_passes : (st : Stack) (P : Label → Type 0) (k first : ℕ) (go : ℕ → Now → Result) (t : Now) →
    ((i : ℕ) (u : Now) → first ≤ i → Tidy st P (go i u)) → Tidy st P (passes first k go t)
tidy_passes st P zero first go t h = tidy_done st P t
tidy_passes st P (suc k) first go t h =
    tidy_and_then st P (go first t) _ (h first t (omega arith)) (λ u. tidy_passes st P k (suc first) go u (λ i v le. h i v (later i le)))
  where
    later : (i : ℕ) → suc first ≤ i → first ≤ i
    later i le = omega arith

-- a tidy body and its tidy handler are tidy
pub tidy_handled : (st : Stack) (P : Label → Type 0) (wanted : Wanted) (r : Result) (go : Now → Result) → Tidy st P r →
    ((u : Now) → Tidy st P (go u)) → Tidy st P (handler_result wanted r go)
unfolding handler_result
tidy_handled st P wanted r go h k = by_exc r.exc
  where
    both : Tidy st P (in_sequence r (go (now_of r)))
    both = tidy_joined st P r (go (now_of r)) h (k (now_of r))

    by_match : (o rest : Option Exc) → Tidy st P (handler_if_any o rest r go)
    by_match None rest = h
    by_match (Some e) rest = record { gives = both.gives; signs = both.signs }

    by_exc : (o : Option Exc) → Tidy st P (handler_for o wanted r go)
    by_exc None = h
    by_exc (Some e) = by_match (keep wanted e) (drop wanted e)

-- a tidy result and its tidy cleanup are tidy
pub tidy_cleaned : (st : Stack) (P : Label → Type 0) (r : Result) (go : Now → Result) → Tidy st P r → ((u : Now) → Tidy st P (go u)) →
    Tidy st P (cleanup_result r go)
unfolding cleanup_result
tidy_cleaned st P r go h k =
    let both : Tidy st P (in_sequence r (go (now_of r))) = tidy_joined st P r (go (now_of r)) h (k (now_of r)) in
    record { gives = both.gives; signs = both.signs }

-- a label that is entered here belongs to its block
pub belongs_here : (name : List ℕ) (names : List (List ℕ)) (here : Here) → Belongs (name ∷ names) here.path (label_here name here)
belongs_here name names here = record { named = inl refl; beyond = []; extends = sym (append-nil here.path) }

-- so does that of a child of a `start .. over`, with its index
pub belongs_over : (name : List ℕ) (names : List (List ℕ)) (here : Here) (i : ℕ) →
    Belongs (name ∷ names) (here.path ++ i ∷ []) (label_over name here i)
belongs_over name names here i = record { named = inl refl; beyond = []; extends = sym (append-nil (here.path ++ i ∷ [])) }

-- what belongs to a part belongs to the whole
pub in_left : (a b : List (List ℕ)) (path : List ℕ) (l : Label) → Belongs a path l → Belongs (a ++ b) path l
in_left a b path l h = belongs_in a (a ++ b) path (λ n i. among_left n a b i) l h

-- and so does what belongs to the part after it
pub in_right : (a b : List (List ℕ)) (path : List ℕ) (l : Label) → Belongs b path l → Belongs (a ++ b) path l
in_right a b path l h = belongs_in b (a ++ b) path (λ n i. among_right n a b i) l h

-- what belongs to the body of a block belongs to the block
pub in_body : (name : List ℕ) (names : List (List ℕ)) (path : List ℕ) (l : Label) → Belongs names path l → Belongs (name ∷ names) path l
in_body name names path l h = belongs_in names (name ∷ names) path (λ n i. inr i) l h

mutual
  unfolding walk

  -- every walk is tidy
  pub tidy : (m : Mode) (b : Steps) (here : Here) (st : Stack) (t : Now) → Tidy st (Belongs (names_of b) here.path) (walk m b here st t)
  tidy m stop here st t = tidy_done st _ t
  tidy m (step s ss) here st t =
      tidy_and_then st _ _ _
      (tidy_in st _ _ _ (in_left (names_in s) (names_of ss) here.path) (tidy_step m s here st t))
      (λ u. tidy_in st _ _ _ (in_right (names_in s) (names_of ss) here.path) (tidy m ss here st u))

  -- the same of one step
  pub tidy_step : (m : Mode) (s : Step) (here : Here) (st : Stack) (t : Now) →
      Tidy st (Belongs (names_in s) here.path) (walk_step m s here st t)
  tidy_step m (sleep n) here st t = tidy_sleeping here.clock st _ _ t.at
  tidy_step m checkpoint here st t = tidy_sleeping here.clock st _ _ t.at
  tidy_step m forever here st t = tidy_sleeping here.clock st _ _ t.at
  tidy_step m (pace k) here st t = tidy_pacing here.clock st _ _ t.at
  tidy_step m (find text) here st t = tidy_showing st _ _ t
  tidy_step m (head n) here st t = tidy_showing st _ _ t
  tidy_step m longest here st t = tidy_showing st _ _ t
  tidy_step m (need text name) here st t = tidy_needing st _ _ name here t
  tidy_step m (raise name) here st t = tidy_raising st _ name here t
  tidy_step m (cancel name) here st t = tidy_cancelling here.clock st _ name t
  tidy_step m (set_event name) here st t = tidy_setting here.clock st _ name t
  tidy_step m (wait_for name) here st t = tidy_awaiting here.clock st _ _ t
  tidy_step m (ask_for name ask body) here st t =
      tidy_asking m st _ ask _ here t _ (λ lent u. tidy m body (record here { part = lent }) st u)
  tidy_step m (close_channel name) here st t = tidy_closing st _ _ t
  tidy_step m (scope name d shield fail body) here st t =
      tidy_block here.clock m _ _ t.at _ shield st _ _ (belongs_here name (names_of body) here)
      (λ f. tidy_in _ _ _ _ (in_body name (names_of body) here.path) (tidy m body here _ t))
  tidy_step m (nursery name d shield body) here st t =
      tidy_block here.clock m _ _ t.at _ shield st _ _ (belongs_here name (names_of body) here)
      (λ f. tidy_in _ _ _ _ (in_body name (names_of body) here.path) (tidy_gathered here.clock _ _ _ _ (tidy_signed _ _ _ (tidy m body here _ t))))
  tidy_step m (event name body) here st t =
      tidy_event m _ t.at st _ _ (belongs_here name (names_of body) here)
      (λ f. tidy_in _ _ _ _ (in_body name (names_of body) here.path) (tidy m body here _ t))
  tidy_step m (object name kind body) here st t =
      tidy_acted st _ _ t.at _ _
      (tidy_event m _ t.at st _ _ (belongs_here name (names_of body) here)
      (λ f. tidy_in _ _ _ _ (in_body name (names_of body) here.path) (tidy m body here _ t)))
  tidy_step m (start name None body) here st t =
      tidy_child st _ _ (a_round_after here.clock t.at) _ t (belongs_here name (names_of body) here)
      (tidy_in st _ _ _ (in_body name (names_of body) here.path) (tidy_signed st _ _ (tidy m body _ st (only_at (a_round_after here.clock t.at)))))
  tidy_step m (start name (Some k) body) here st t =
      tidy_each st _ k _ t (λ i lt. tidy_in st _ _ _ (belongs_after (name ∷ names_of body) here.path i)
      (tidy_child st _ _ (a_round_after here.clock t.at) _ t (belongs_over name (names_of body) here i)
      (tidy_in st _ _ _ (in_body name (names_of body) (here.path ++ i ∷ [])) (tidy_signed st _ _ (tidy m body _ st (only_at (a_round_after here.clock t.at)))))))
  tidy_step m (repeat count over body) here st t =
      tidy_passes st _ count 0 _ t (λ i u le. tidy_in st _ _ _ (belongs_after (names_of body) here.path i)
      (tidy m body (in_pass (cuts_over over count) i here) st u))
  tidy_step m (attempt body handler cleanup) here st t =
      tidy_cleanup m cleanup here st _ (names_of body ++ handled_names handler)
      (tidy_handler m handler here st _ (names_of body) (tidy m body here st t))

  -- the same of a body with its handler, by the names of the two
  pub tidy_handler : (m : Mode) (x : Handled) (here : Here) (st : Stack) (r : Result) (names : List (List ℕ)) →
      Tidy st (Belongs names here.path) r → Tidy st (Belongs (names ++ handled_names x) here.path) (walk_handler m x here st r)
  tidy_handler m unhandled here st r names h = tidy_in st _ _ _ (in_left names [] here.path) h
  tidy_handler m (except name body) here st r names h =
      tidy_handled st _ _ r _ (tidy_in st _ _ _ (in_left names (names_of body) here.path) h)
      (λ u. tidy_in st _ _ _ (in_right names (names_of body) here.path) (tidy m body here st u))

  -- the same of these with their cleanup, by the names of all of them
  pub tidy_cleanup : (m : Mode) (x : Cleaned) (here : Here) (st : Stack) (r : Result) (names : List (List ℕ)) →
      Tidy st (Belongs names here.path) r → Tidy st (Belongs (names ++ cleaned_names x) here.path) (walk_cleanup m x here st r)
  tidy_cleanup m uncleaned here st r names h = tidy_in st _ _ _ (in_left names [] here.path) h
  tidy_cleanup m (finally body) here st r names h =
      tidy_cleaned st _ r _ (tidy_in st _ _ _ (in_left names (names_of body) here.path) h)
      (λ u. tidy_in st _ _ _ (in_right names (names_of body) here.path) (tidy m body here st u))

-- a child of a `start .. over` gives only labels with its index
pub tidy_over : (m : Mode) (name : List ℕ) (body : Steps) (here : Here) (lent : Range) (i : ℕ) (st : Stack) (t : Now) →
    Tidy st (Belongs (name ∷ names_of body) (here.path ++ i ∷ []))
    (child (label_over name here i) (a_round_after here.clock t.at) (with_sign st (walk m body (here_in (label_over name here i) lent here) st (only_at (a_round_after here.clock t.at)))) t)
tidy_over m name body here lent i st t =
    tidy_child st _ (label_over name here i) (a_round_after here.clock t.at) _ t (belongs_over name (names_of body) here i)
    (tidy_in st _ _ _ (in_body name (names_of body) (here.path ++ i ∷ []))
    (tidy_signed st _ _ (tidy m body (here_in (label_over name here i) lent here) st (only_at (a_round_after here.clock t.at)))))
