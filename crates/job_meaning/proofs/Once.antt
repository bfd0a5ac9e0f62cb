-- Where names are given once, no label of a scope, nursery, event or task is given twice. It holds in both modes.
use Rattle.std.proofs.Common.{◌≡◌, ℕ, zero, suc, ◌+◌, ◌<◌, ◌≤◌, Bool, true, false, Option, Some, None, List, [], ◌∷◌, ◌++◌, refl, subst, ◌⊎◌, inl, inr, arith, max, nat_le, nat_lt, if◌then◌else◌}
use Rattle.std.specs.Prelude.{codes}
use Rattle.std.proofs.lemmas.Bool.{cases_lt}
use Rattle.job_tree.specs.Tree.{Step, sleep, checkpoint, forever, pace, find, head, longest, need, raise, cancel, set_event, wait_for, ask_for, close_channel, scope, nursery, event, object, start, repeat, attempt, Steps, stop, step, Handled, unhandled, except, Cleaned, uncleaned, finally, Tree}
use Rattle.job_tree.specs.Names.{names_of, names_in, handled_names, cleaned_names, GivesNamesOnce}
use Rattle.job_tree.specs.declared.object.Ask.{Ask}
use Rattle.input_lines.specs.Lines.{Range, Span}
use Rattle.input_lines.specs.Cuts.{cut_of}
use Rattle.exceptions.specs.Exceptions.{Label, Exc, cancelled, raised}
use Rattle.exceptions.specs.Split.{Wanted, keep, drop}
use Rattle.cancel_scopes.specs.Sight.{Tick, Level, is_reached, sight, seen}
use Rattle.job_tree.specs.declared.object.Ask.TheVariants.{Acquire, Send, Receive}
use Rattle.job_meaning.specs.Log.{Log, nil, entry, sign, entered, Act, act, task, followed_by, Result, same_label, times_entered, times_given, Entry, was_granted}
use Rattle.job_meaning.specs.Sharing.{What, a_token, was_sent, a_part, closed_resource, end_of_channel, Granted}
use Rattle.job_meaning.specs.Moments.{tick_of, a_round_after, gives_up_at, Now, only_at}
use Rattle.job_meaning.specs.declared.clock.Clock.{Clock}
use Rattle.job_meaning.specs.Walk.{Stack, no_stack, Mode, grants_in, Here, walk, walk_step, walk_handler, walk_cleanup, done_at, raised_at, now_of, in_sequence, and_then, then_if, wait_by_sight, sleep_result, pace_result, wait_until, set_moment, wait_by, with_line_if, with_line, event_wait, log_of_lines, lines_result, raise_result, need_result, sign_of, cancel_result, set_result, Kind, from_of, block, event_block, with_act, close_result, with_token_back, last_grant, leaves_queue, in_time, left_result, goes_on, granted_result, asked_result, asks_in, ask_result, stack_for, stack_in_event, exit_with_from, stack_inside, with_sign, sign_if, home_of, nursery_result, child, each, passes, handler_result, handler_for, handler_if_any, cleanup_result, label_here, label_over, here_in, in_pass, cuts_over}
use Rattle.job_meaning.specs.Meaning.{root_walk, root_here, root_label, root_log}
use Rattle.job_meaning.proofs.Late.{noted_at}
use Rattle.job_meaning.proofs.Distinct.{Distinct, distinct_left, distinct_right, distinct_apart, distinct_by_bytes, same_label_equal, Belongs, after_other}
use Rattle.job_meaning.proofs.Touched.{Gives, gives_followed}
use Rattle.job_meaning.proofs.Tidy.{Tidy, tidy, tidy_step, tidy_handler, tidy_in, tidy_each, tidy_passes, tidy_signed, tidy_gathered, tidy_over, gives_home}

-- no label is given twice in a log
abbrev pub GivesOnce : Log → Type 0
GivesOnce nil = Unit {0}
GivesOnce (entry t e rest) = GivesOnce rest
GivesOnce (sign l t rest) = GivesOnce rest
GivesOnce (entered l t d rest) = (Gives l rest → ⊥) × GivesOnce rest
GivesOnce (act m t a rest) = GivesOnce rest
GivesOnce (task m s u e own rest) =
    (Gives m own ⊎ Gives m rest → ⊥) × GivesOnce own × GivesOnce rest × ((l : Label) → Gives l own → Gives l rest → ⊥)

-- if two logs each give no label twice and have no label in common, one after the other gives none twice
pub once_followed : (a b : Log) → GivesOnce a → GivesOnce b → ((l : Label) → Gives l a → Gives l b → ⊥) → GivesOnce (followed_by a b)
once_followed nil b h k differ = k
once_followed (entry t e rest) b h k differ = once_followed rest b h k differ
once_followed (sign l t rest) b h k differ = once_followed rest b h k differ
once_followed (entered l t d rest) b h k differ =
    (λ i. neither (gives_followed l rest b i), once_followed rest b h.1 k (λ m i. differ m (inr i)))
  where
    neither : Gives l rest ⊎ Gives l b → ⊥
    neither (inl i) = h.0 i
    neither (inr i) = differ l (inl refl) i
once_followed (act m t a rest) b h k differ = once_followed rest b h k differ
once_followed (task m s u e own rest) b h k differ =
    (none, h.1, once_followed rest b h.2 k (λ l i. differ l (inr (inr i))), λ l i j. neither l i (gives_followed l rest b j))
  where
    neither : (l : Label) → Gives l own → Gives l rest ⊎ Gives l b → ⊥
    neither l i (inl j) = h.3 l i j
    neither l i (inr j) = differ l (inr (inl i)) j

    after : Gives m rest ⊎ Gives m b → ⊥
    after (inl j) = h.0 (inr j)
    after (inr j) = differ m (inl refl) j

    none : Gives m own ⊎ Gives m (followed_by rest b) → ⊥
    none (inl i) = h.0 (inl i)
    none (inr j) = after (gives_followed m rest b j)

-- the log of a walk gives no label twice
pub record Unique (r : Result) : Type 0 where
  pub once : GivesOnce r.log

unique_joined : (r q : Result) → Unique r → Unique q → ((l : Label) → Gives l r.log → Gives l q.log → ⊥) → Unique (in_sequence r q)
unique_joined r q h k differ = record { once = once_followed r.log q.log h.once k.once differ }

unique_and_then : (r : Result) (go : Now → Result) → Unique r → ((u : Now) → Unique (go u)) →
    ((u : Now) (l : Label) → Gives l r.log → Gives l (go u).log → ⊥) → Unique (and_then r go)
unfolding and_then
unique_and_then r go h k differ = by_exc r.exc
  where
    by_exc : (o : Option Exc) → Unique (then_if o r go)
    by_exc None = unique_joined r (go (now_of r)) h (k (now_of r)) (differ (now_of r))
    by_exc (Some e) = h

unique_done : (t : Now) → Unique (done_at t)
unique_done t = record { once = tt }

unique_waited : (a : Tick) (least gives_up end : ℕ) → Unique (wait_by_sight a least gives_up end)
unique_waited None least gives_up end = unique_done (only_at end)
unique_waited (Some from) least gives_up end = by_now (nat_le from least) (nat_le from end)
  where
    by_now : (now due : Bool) → Unique (if now then raised_at cancelled (only_at gives_up) else
        (if due then raised_at cancelled (only_at from) else done_at (only_at end)))
    by_now true due = record { once = tt }
    by_now false true = record { once = tt }
    by_now false false = record { once = tt }

unique_sleeping : (clock : Clock) (st : Stack) (n t : ℕ) → Unique (sleep_result clock st n t)
unfolding sleep_result
unique_sleeping clock st n t = unique_waited (sight st.scopes) _ _ _

unique_pacing : (clock : Clock) (st : Stack) (n t : ℕ) → Unique (pace_result clock st n t)
unfolding pace_result
unique_pacing clock st n t = unique_waited (sight st.scopes) _ _ _

unique_until : (a : Tick) (least end : ℕ) → Unique (wait_until a least end)
unique_until None least end = unique_done (only_at end)
unique_until (Some from) least end = by_order (nat_lt from end)
  where
    by_order : (b : Bool) → Unique (if b then raised_at cancelled (only_at (max least from)) else done_at (only_at end))
    by_order true = record { once = tt }
    by_order false = record { once = tt }

unique_set : (clock : Clock) (st : Stack) (set t : ℕ) → Unique (wait_by clock st set t)
unique_set clock st set t = by_round (nat_le set (a_round_after clock t))
  where
    by_round : (b : Bool) → Unique (if b then sleep_result clock st 0 t else wait_until (sight st.scopes) (a_round_after clock t) set)
    by_round true = unique_sleeping clock st 0 t
    by_round false = unique_until (sight st.scopes) (a_round_after clock t) set

unique_lined : (label : Label) (r : Result) → Unique r → Unique (with_line label r)
unique_lined label r h = by_exc r.exc
  where
    by_exc : (o : Option Exc) → Unique (with_line_if o label r)
    by_exc None = record { once = tt }
    by_exc (Some e) = h

unique_awaiting : (clock : Clock) (st : Stack) (level : Option (Level Label)) (t : Now) → Unique (event_wait clock st level t)
unfolding event_wait
unique_awaiting clock st None t = unique_done t
unique_awaiting clock st (Some l) t = unique_lined l.label _ (unique_set clock st (set_moment clock l.from t.at) t.at)

once_lines : (ls : List Span) (t : ℕ) → GivesOnce (log_of_lines t ls)
once_lines [] t = tt
once_lines (l ∷ ls) t = once_lines ls t

unique_showing : (ls : List Span) (t : Now) → Unique (lines_result ls t)
unfolding lines_result
unique_showing ls t = record { once = once_lines ls t.at }

unique_needing : (found : Option Span) (name : List ℕ) (here : Here) (t : Now) → Unique (need_result found name here t)
unfolding need_result raise_result
unique_needing (Some l) name here t = unique_showing (l ∷ []) t
unique_needing None name here t = record { once = tt }

unique_raising : (name : List ℕ) (here : Here) (t : Now) → Unique (raise_result name here t)
unfolding raise_result
unique_raising name here t = record { once = tt }

once_sign : (o : Option Label) (t : ℕ) → GivesOnce (sign_of o t)
once_sign None t = tt
once_sign (Some l) t = tt

unique_cancelling : (clock : Clock) (o : Option Label) (t : Now) → Unique (cancel_result clock o t)
unfolding cancel_result
unique_cancelling clock o t = record { once = once_sign o t.at }

unique_setting : (clock : Clock) (o : Option Label) (t : Now) → Unique (set_result clock o t)
unfolding set_result
unique_setting clock o t = record { once = once_sign o t.at }

unique_block : (clock : Clock) (m : Mode) (kind : Kind) (label : Label) (t : ℕ) (d : Tick) (shield : Bool) (st : Stack) (inside : Tick → Result) →
    ((f : Tick) → Unique (inside f)) → ((f : Tick) → Gives label (inside f).log → ⊥) → Unique (block clock m kind label t d shield st inside)
unfolding block
unique_block clock m kind label t d shield st inside h own = at_from (from_of m label d inside)
  where
    at_from : (f : Tick) → Unique (exit_with_from clock kind label t d shield st f (inside f))
    at_from f =
        record {
          once = (
            λ i. not_there (gives_followed label (inside f).log _ i),
            once_followed (inside f).log _ (h f).once tt (λ l i j. j),
          );
        }
      where
        not_there : Gives label (inside f).log ⊎ ⊥ → ⊥
        not_there (inl i) = own f i
        not_there (inr i) = i

unique_event : (m : Mode) (label : Label) (t : ℕ) (inside : Tick → Result) → ((f : Tick) → Unique (inside f)) →
    ((f : Tick) → Gives label (inside f).log → ⊥) → Unique (event_block m label t inside)
unfolding event_block
unique_event m label t inside h own =
    record { once = (own (from_of m label None inside), (h (from_of m label None inside)).once) }

unique_acted : (label : Label) (t : ℕ) (a : Act) (r : Result) → Unique r → Unique (with_act label t a r)
unique_acted label t a r h = record { once = h.once }

unique_closing : (o : Option Label) (t : Now) → Unique (close_result o t)
unfolding close_result
unique_closing None t = unique_done t
unique_closing (Some l) t = record { once = tt }

unique_token_back : (label : Label) (r : Result) → Unique r → Unique (with_token_back label r)
unfolding with_token_back
unique_token_back label r h = record { once = once_followed r.log _ h.once tt (λ l i j. j) }

unique_left : (here : Here) (from : Tick) (left : ℕ) → Unique (left_result here from left)
unique_left here from left = by_sight (is_reached from left)
  where
    by_sight : (b : Bool) → Unique (if b then raised_at cancelled (only_at left)
        else raised_at (raised (codes "Deadlock") here.task (tick_of here.clock left)) (only_at left))
    by_sight true = record { once = tt }
    by_sight false = record { once = tt }

unique_goes_on : (e : Entry) (m : ℕ) (go : Now → Result) → ((u : Now) → Unique (go u)) → Unique (goes_on e m go)
unique_goes_on e m go h = unique_joined (noted_at e m) (go (only_at m)) (record { once = tt }) (h (only_at m)) (λ l i j. i)

unique_granted : (label : Label) (here : Here) (m : ℕ) (what : What) (go : Here → Now → Result) →
    ((lent : Range) (u : Now) → Unique (go (record here { part = lent }) u)) → Unique (granted_result label here m what go)
unique_granted label here m a_token go h = unique_goes_on (was_granted Acquire label) m _ (λ u. unique_token_back label _ (h here.part u))
unique_granted label here m was_sent go h = unique_goes_on (was_granted Send label) m _ (λ u. h here.part u)
unique_granted label here m (a_part lent) go h = unique_goes_on (was_granted Receive label) m _ (λ u. h lent u)
unique_granted label here m closed_resource go h = record { once = tt }
unique_granted label here m end_of_channel go h = record { once = tt }

unique_asking : (m : Mode) (st : Stack) (ask : Ask) (label : Option Label) (here : Here) (t : Now) (go : Here → Now → Result) →
    ((lent : Range) (u : Now) → Unique (go (record here { part = lent }) u)) → Unique (ask_result m ask label here st t go)
unfolding ask_result
unique_asking m st ask None here t go h = unique_done t
unique_asking m st ask (Some label) here t go h = by_sight (seen (stack_for t.own t.at st.scopes) t.at)
  where
    left : ℕ
    left = leaves_queue (sight st.scopes) (last_grant here.clock t.at)

    by_grant : (o : Option Granted) → Unique (asked_result ask label here (sight st.scopes) t.at left o go)
    by_grant None = unique_acted label t.at _ _ (unique_left here (sight st.scopes) left)
    by_grant (Some g) = unique_acted label t.at _ _ (unique_granted label here g.at g.what go h)

    by_sight : (b : Bool) → Unique (if b then raised_at cancelled (only_at (gives_up_at here.clock 0 t.at)) else asks_in m ask label here st t.at go)
    by_sight true = record { once = tt }
    by_sight false = by_grant (in_time t.at left (grants_in m label here.task t.at))

unique_signed : (st : Stack) (r : Result) → Unique r → Unique (with_sign st r)
unfolding with_sign
unique_signed st r h =
    record {
      once = once_followed r.log (sign_if r.exc (home_of st.scopes) r.end) h.once (once_home r.exc) (λ l i j. gives_home st r.exc r.end l j);
    }
  where
    once_home : (o : Option Exc) → GivesOnce (sign_if o (home_of st.scopes) r.end)
    once_home None = tt
    once_home (Some e) = once_sign (home_of st.scopes) r.end

unique_gathered : (clock : Clock) (label : Label) (r : Result) → Unique r → Unique (nursery_result clock label r)
unfolding nursery_result
unique_gathered clock label r h = record { once = h.once }

unique_child : (label : Label) (begins : ℕ) (r : Result) (t : Now) → (Gives label r.log → ⊥) → Unique r → Unique (child label begins r t)
unfolding child
unique_child label begins r t own h = record { once = (none, h.once, tt, λ l i j. j) }
  where
    none : Gives label r.log ⊎ ⊥ → ⊥
    none (inl i) = own i
    none (inr j) = j

unique_each : (st : Stack) (names : List (List ℕ)) (path : List ℕ) (k : ℕ) (go : ℕ → Result) (t : Now) →
    ((i : ℕ) → Tidy st (Belongs names (path ++ i ∷ [])) (go i)) → ((i : ℕ) → Unique (go i)) → Unique (each k go t)
unique_each st names path zero go t h k = unique_done t
unique_each st names path (suc n) go t h k = unique_joined (each n go t) (go n) (unique_each st names path n go t h k) (k n) differ
  where
    Before : Label → Type 0
    Before l = (i : ℕ) × (i < n) × Belongs names (path ++ i ∷ []) l

    before : (i : ℕ) → i < n → (l : Label) → Belongs names (path ++ i ∷ []) l → Before l
    before i lt l b = (i, lt, b)

    earlier_ones : Tidy st Before (each n go t)
    earlier_ones = tidy_each st Before n go t (λ i lt. tidy_in st (Belongs names (path ++ i ∷ [])) Before (go i) (before i lt) (h i))

    differ : (l : Label) → Gives l (each n go t).log → Gives l (go n).log → ⊥
    differ l i j = apart (earlier_ones.gives l i) ((h n).gives l j)
      where
        apart : Before l → Belongs names (path ++ n ∷ []) l → ⊥
        apart b c = after_other names names path b.0 n l b.1 b.2 c

-- labels given in a pass, and in the later ones
unique_passes : (st : Stack) (names : List (List ℕ)) (path : List ℕ) (k first : ℕ) (go : ℕ → Now → Result) (t : Now) →
    ((i : ℕ) (u : Now) → Tidy st (Belongs names (path ++ i ∷ [])) (go i u)) → ((i : ℕ) (u : Now) → Unique (go i u)) → Unique (passes first k go t)
unique_passes st names path zero first go t h k = unique_done t
unique_passes st names path (suc n) first go t h k =
    unique_and_then (go first t) _ (k first t) (λ u. unique_passes st names path n (suc first) go u h k) differ
  where
    Later : Label → Type 0
    Later l = (i : ℕ) × (first < i) × Belongs names (path ++ i ∷ []) l

    after : (i : ℕ) → suc first ≤ i → (l : Label) → Belongs names (path ++ i ∷ []) l → Later l
    after i le l b = (i, omega arith, b)

    later_ones : (u : Now) → Tidy st Later (passes (suc first) n go u)
    later_ones u =
        tidy_passes st Later n (suc first) go u (λ i v le. tidy_in st (Belongs names (path ++ i ∷ [])) Later (go i v) (after i le)
        (h i v))

    apart : (l : Label) → Belongs names (path ++ first ∷ []) l → Later l → ⊥
    apart l b c = after_other names names path first c.0 l c.1 b c.2

    differ : (u : Now) (l : Label) → Gives l (go first t).log → Gives l (passes (suc first) n go u).log → ⊥
    differ u l i j = apart l ((h first t).gives l i) ((later_ones u).gives l j)

unique_handled : (wanted : Wanted) (r : Result) (go : Now → Result) → Unique r → ((u : Now) → Unique (go u)) →
    ((u : Now) (l : Label) → Gives l r.log → Gives l (go u).log → ⊥) → Unique (handler_result wanted r go)
unfolding handler_result
unique_handled wanted r go h k differ = by_exc r.exc
  where
    both : Unique (in_sequence r (go (now_of r)))
    both = unique_joined r (go (now_of r)) h (k (now_of r)) (differ (now_of r))

    by_match : (o rest : Option Exc) → Unique (handler_if_any o rest r go)
    by_match None rest = h
    by_match (Some e) rest = record { once = both.once }

    by_exc : (o : Option Exc) → Unique (handler_for o wanted r go)
    by_exc None = h
    by_exc (Some e) = by_match (keep wanted e) (drop wanted e)

unique_cleaned : (r : Result) (go : Now → Result) → Unique r → ((u : Now) → Unique (go u)) →
    ((u : Now) (l : Label) → Gives l r.log → Gives l (go u).log → ⊥) → Unique (cleanup_result r go)
unfolding cleanup_result
unique_cleaned r go h k differ =
    let both : Unique (in_sequence r (go (now_of r))) = unique_joined r (go (now_of r)) h (k (now_of r)) (differ (now_of r)) in
    record { once = both.once }

-- two blocks whose names are given once give no label in common
differ_by_names : (st : Stack) (a b : List (List ℕ)) (path : List ℕ) (r q : Result) → Distinct (a ++ b) → Tidy st (Belongs a path) r →
    Tidy st (Belongs b path) q →
    (l : Label) → Gives l r.log → Gives l q.log → ⊥
differ_by_names st a b path r q distinct h k l i j = apart (h.gives l i) (k.gives l j)
  where
    apart : Belongs a path l → Belongs b path l → ⊥
    apart x y = distinct_apart a b distinct l.name x.named y.named

mutual
  unfolding walk

  -- a walk of a block whose names are given once gives no label twice
  pub unique : (m : Mode) (b : Steps) (here : Here) (st : Stack) (t : Now) → Distinct (names_of b) → Unique (walk m b here st t)
  unique m stop here st t distinct = unique_done t
  unique m (step s ss) here st t distinct =
      unique_and_then _ _
      (unique_step m s here st t (distinct_left (names_in s) (names_of ss) distinct))
      (λ u. unique m ss here st u (distinct_right (names_in s) (names_of ss) distinct))
      (λ u. differ_by_names st (names_in s) (names_of ss) here.path _ _ distinct (tidy_step m s here st t) (tidy m ss here st u))

  -- the same of one step
  pub unique_step : (m : Mode) (s : Step) (here : Here) (st : Stack) (t : Now) → Distinct (names_in s) → Unique (walk_step m s here st t)
  unique_step m (sleep n) here st t distinct = unique_sleeping here.clock st _ t.at
  unique_step m checkpoint here st t distinct = unique_sleeping here.clock st _ t.at
  unique_step m forever here st t distinct = unique_sleeping here.clock st _ t.at
  unique_step m (pace k) here st t distinct = unique_pacing here.clock st _ t.at
  unique_step m (find text) here st t distinct = unique_showing _ t
  unique_step m (head n) here st t distinct = unique_showing _ t
  unique_step m longest here st t distinct = unique_showing _ t
  unique_step m (need text name) here st t distinct = unique_needing _ name here t
  unique_step m (raise name) here st t distinct = unique_raising name here t
  unique_step m (cancel name) here st t distinct = unique_cancelling here.clock _ t
  unique_step m (set_event name) here st t distinct = unique_setting here.clock _ t
  unique_step m (wait_for name) here st t distinct = unique_awaiting here.clock st _ t
  unique_step m (ask_for name ask body) here st t distinct =
      unique_asking m st ask _ here t _ (λ lent u. unique m body (record here { part = lent }) st u distinct)
  unique_step m (close_channel name) here st t distinct = unique_closing _ t
  unique_step m (scope name d shield fail body) here st t distinct =
      unique_block here.clock m _ (label_here name here) t.at _ shield st _
      (λ f. unique m body here _ t distinct.1)
      (λ f i. distinct.0 ((tidy m body here (stack_inside (label_here name here) shield f st) t).gives _ i).named)
  unique_step m (nursery name d shield body) here st t distinct =
      unique_block here.clock m _ (label_here name here) t.at _ shield st _
      (λ f. unique_gathered here.clock _ _ (unique_signed _ _ (unique m body here _ t distinct.1)))
      (λ f i. distinct.0
      ((tidy_gathered here.clock (stack_inside (label_here name here) shield f st) (Belongs (names_of body) here.path) (label_here name here) _
      (tidy_signed (stack_inside (label_here name here) shield f st) _ _ (tidy m body here (stack_inside (label_here name here) shield f st) t))).gives
      _ i).named)
  unique_step m (event name body) here st t distinct =
      unique_event m (label_here name here) t.at _
      (λ f. unique m body here _ t distinct.1)
      (λ f i. distinct.0 ((tidy m body here (stack_in_event (label_here name here) f st) t).gives _ i).named)
  unique_step m (object name kind body) here st t distinct =
      unique_acted _ t.at _ _
      (unique_event m (label_here name here) t.at _
      (λ f. unique m body here _ t distinct.1)
      (λ f i. distinct.0 ((tidy m body here (stack_in_event (label_here name here) f st) t).gives _ i).named))
  unique_step m (start name None body) here st t distinct =
      unique_child _ (a_round_after here.clock t.at) _ t
      (λ i. distinct.0 ((tidy_signed st _ _ (tidy m body (here_in (label_here name here) here.part here) st (only_at (a_round_after here.clock t.at)))).gives _ i).named)
      (unique_signed st _ (unique m body _ st (only_at (a_round_after here.clock t.at)) distinct.1))
  unique_step m (start name (Some k) body) here st t distinct =
      unique_each st (name ∷ names_of body) here.path k _ t
      (λ i. tidy_over m name body here (cut_of here.input here.part k i) i st t)
      (λ i. unique_child _ (a_round_after here.clock t.at) _ t
      (λ j. distinct.0 ((tidy_signed st _ _ (tidy m body (here_in (label_over name here i) (cut_of here.input here.part k i) here) st
      (only_at (a_round_after here.clock t.at)))).gives _ j).named)
      (unique_signed st _ (unique m body _ st (only_at (a_round_after here.clock t.at)) distinct.1)))
  unique_step m (repeat count over body) here st t distinct =
      unique_passes st (names_of body) here.path count 0 _ t (λ i u. tidy m body (in_pass (cuts_over over count) i here) st u)
      (λ i u. unique m body (in_pass (cuts_over over count) i here) st u distinct)
  unique_step m (attempt body handler cleanup) here st t distinct =
      unique_cleanup m cleanup here st _ (names_of body ++ handled_names handler)
      (tidy_handler m handler here st _ (names_of body) (tidy m body here st t)) distinct
      (unique_handler m handler here st _ (names_of body) (tidy m body here st t)
      (distinct_left (names_of body ++ handled_names handler) (cleaned_names cleanup) distinct)
      (unique m body here st t
      (distinct_left (names_of body) (handled_names handler) (distinct_left (names_of body ++ handled_names handler) (cleaned_names cleanup)
      distinct))))

  -- the same of a body with its handler, where no name is given twice in the two
  pub unique_handler : (m : Mode) (x : Handled) (here : Here) (st : Stack) (r : Result) (names : List (List ℕ)) →
      Tidy st (Belongs names here.path) r →
      Distinct (names ++ handled_names x) → Unique r → Unique (walk_handler m x here st r)
  unique_handler m unhandled here st r names h distinct k = k
  unique_handler m (except name body) here st r names h distinct k =
      unique_handled _ r _ k (λ u. unique m body here st u (distinct_right names (names_of body) distinct))
      (λ u. differ_by_names st names (names_of body) here.path r _ distinct h (tidy m body here st u))

  -- the same of these with their cleanup, where no name is given twice in all of them
  pub unique_cleanup : (m : Mode) (x : Cleaned) (here : Here) (st : Stack) (r : Result) (names : List (List ℕ)) →
      Tidy st (Belongs names here.path) r →
      Distinct (names ++ cleaned_names x) → Unique r → Unique (walk_cleanup m x here st r)
  unique_cleanup m uncleaned here st r names h distinct k = k
  unique_cleanup m (finally body) here st r names h distinct k =
      unique_cleaned r _ k (λ u. unique m body here st u (distinct_right names (names_of body) distinct))
      (λ u. differ_by_names st names (names_of body) here.path r _ distinct h (tidy m body here st u))

-- a label that is not given is given no time
times_none : (l : Label) (a : Log) → (Gives l a → ⊥) → times_given l a ≡ 0
times_none l nil h = refl
times_none l (entry t e rest) h = times_none l rest h
times_none l (sign m t rest) h = times_none l rest h
times_none l (entered m t d rest) h = by_test (same_label l m) refl (times_none l rest (λ i. h (inr i)))
  where
    by_test : (b : Bool) → same_label l m ≡ b → times_given l rest ≡ 0 → (if b then 1 else 0) + times_given l rest ≡ 0
    by_test true e k = absurd (h (inl (same_label_equal l m e)))
    by_test false e k = omega arith
times_none l (act m t a rest) h = times_none l rest h
times_none l (task m s u e own rest) h =
    by_test (same_label l m) refl (times_none l own (λ i. h (inr (inl i)))) (times_none l rest (λ i. h (inr (inr i))))
  where
    by_test : (b : Bool) → same_label l m ≡ b → times_given l own ≡ 0 → times_given l rest ≡ 0 →
        (if b then 1 else 0) + (times_given l own + times_given l rest) ≡ 0
    by_test true e i j = absurd (h (inl (same_label_equal l m e)))
    by_test false e i j = omega arith

-- a label that is given some time is given
times_some : (l : Label) (a : Log) → 0 < times_given l a → Gives l a
times_some l nil h = absurd (omega arith)
times_some l (entry t e rest) h = times_some l rest h
times_some l (sign m t rest) h = times_some l rest h
times_some l (entered m t d rest) h = by_test (same_label l m) refl h (times_some l rest)
  where
    by_test : (b : Bool) → same_label l m ≡ b → 0 < (if b then 1 else 0) + times_given l rest → (0 < times_given l rest → Gives l rest) →
        (l ≡ m) ⊎ Gives l rest
    by_test true e k others = inl (same_label_equal l m e)
    by_test false e k others = inr (others (omega arith))
times_some l (act m t a rest) h = times_some l rest h
times_some l (task m s u e own rest) h = by_test (same_label l m) refl h (times_some l own) (times_some l rest)
  where
    by_own : (0 < times_given l own) ⊎ (times_given l own ≤ 0) → 0 < times_given l own + times_given l rest →
        (0 < times_given l own → Gives l own) → (0 < times_given l rest → Gives l rest) → Gives l own ⊎ Gives l rest
    by_own (inl there) k inner others = inl (inner there)
    by_own (inr none) k inner others = inr (others (omega arith))

    by_test : (b : Bool) → same_label l m ≡ b → 0 < (if b then 1 else 0) + (times_given l own + times_given l rest) →
        (0 < times_given l own → Gives l own) → (0 < times_given l rest → Gives l rest) → (l ≡ m) ⊎ (Gives l own ⊎ Gives l rest)
    by_test true e k inner others = inl (same_label_equal l m e)
    by_test false e k inner others = inr (by_own (cases_lt 0 (times_given l own)) (omega arith) inner others)

-- in a log that gives none twice each is given at most once
pub times_once : (l : Label) (a : Log) → GivesOnce a → times_given l a ≤ 1
times_once l nil h = omega arith
times_once l (entry t e rest) h = times_once l rest h
times_once l (sign m t rest) h = times_once l rest h
times_once l (entered m t d rest) h = by_test (same_label l m) refl (times_once l rest h.1)
  where
    none_after : l ≡ m → times_given l rest ≡ 0
    none_after e = times_none l rest (λ i. h.0 (subst (λ (x : Label). Gives x rest) e i))

    by_test : (b : Bool) → same_label l m ≡ b → times_given l rest ≤ 1 → (if b then 1 else 0) + times_given l rest ≤ 1
    by_test true e k = let n = none_after (same_label_equal l m e) in omega arith
    by_test false e k = omega arith
times_once l (act m t a rest) h = times_once l rest h
times_once l (task m s u e own rest) h = by_test (same_label l m) refl (times_once l own h.1) (times_once l rest h.2)
  where
    none_own : l ≡ m → times_given l own ≡ 0
    none_own e = times_none l own (λ i. h.0 (inl (subst (λ (x : Label). Gives x own) e i)))

    none_rest : l ≡ m → times_given l rest ≡ 0
    none_rest e = times_none l rest (λ i. h.0 (inr (subst (λ (x : Label). Gives x rest) e i)))

    by_own : (0 < times_given l own) ⊎ (times_given l own ≤ 0) → times_given l own ≤ 1 → times_given l rest ≤ 1 →
        times_given l own + times_given l rest ≤ 1
    by_own (inl there) i j = let n = times_none l rest (λ k. h.3 l (times_some l own there) k) in omega arith
    by_own (inr none) i j = omega arith

    by_test : (b : Bool) → same_label l m ≡ b → times_given l own ≤ 1 → times_given l rest ≤ 1 →
        (if b then 1 else 0) + (times_given l own + times_given l rest) ≤ 1
    by_test true e i j = let n = none_own (same_label_equal l m e) in let k = none_rest (same_label_equal l m e) in omega arith
    by_test false e i j = let k = by_own (cases_lt 0 (times_given l own)) i j in omega arith

-- a label is entered no more often than it is given
entered_given : (l : Label) (a : Log) → times_entered l a ≤ times_given l a
entered_given l nil = omega arith
entered_given l (entry t e rest) = entered_given l rest
entered_given l (sign m t rest) = entered_given l rest
entered_given l (entered m t d rest) = let h = entered_given l rest in omega arith
entered_given l (act m t a rest) = entered_given l rest
entered_given l (task m s u e own rest) = let h = entered_given l own in let k = entered_given l rest in omega arith

-- so no label of a scope, nursery or event is entered twice either
pub enters_once : (l : Label) (a : Log) → GivesOnce a → times_entered l a ≤ 1
enters_once l a h = let i = entered_given l a in let j = times_once l a h in omega arith

-- no label is given twice in a walk of a job whose names are given once
pub job_gives_once : (m : Mode) (job : Tree) (input : List ℕ) → GivesNamesOnce job → GivesOnce (root_walk m job input).log
job_gives_once m job input once =
    (unique m job.steps (root_here job input) no_stack (only_at 0) (distinct_by_bytes (job.name ∷ names_of job.steps) once).1).once

-- nor with the root, whose label is the job's name
pub labels_once : (m : Mode) (job : Tree) (input : List ℕ) → GivesNamesOnce job → (l : Label) →
    times_given l (root_log job (root_walk m job input)) ≤ 1
labels_once m job input once l = times_once l (root_log job (root_walk m job input)) (none, job_gives_once m job input once, tt, λ n i j. j)
  where
    distinct : Distinct (job.name ∷ names_of job.steps)
    distinct = distinct_by_bytes (job.name ∷ names_of job.steps) once

    none : Gives (root_label job.name) (root_walk m job input).log ⊎ ⊥ → ⊥
    none (inl i) = distinct.0 ((tidy m job.steps (root_here job input) no_stack (only_at 0)).gives (root_label job.name) i).named
    none (inr j) = j
