-- Following a table is a walk of a job with what is granted, where the table is that of the walk, and where it is settled.
use Rattle.std.proofs.Common.{◌≡◌, ℕ, zero, suc, ◌<◌, ◌≤◌, Bool, true, false, Option, Some, None, List, [], ◌∷◌, ◌++◌, refl, ap, sym, ◌∙◌, subst, ◌⊎◌, inl, inr, arith, if◌then◌else◌}
use Rattle.job_tree.specs.Tree.{Tree, Step, sleep, checkpoint, forever, pace, find, head, longest, need, raise, cancel, set_event, wait_for, ask_for, close_channel, scope, nursery, event, object, start, repeat, attempt, Steps, stop, step, Handled, unhandled, except, Cleaned, uncleaned, finally}
use Rattle.job_tree.specs.Names.{names_of, names_in, handled_names, cleaned_names, GivesNamesOnce}
use Rattle.job_tree.specs.declared.object.Ask.{Ask}
use Rattle.input_lines.specs.Lines.{Range}
use Rattle.input_lines.specs.Cuts.{cut_of}
use Rattle.exceptions.specs.Exceptions.{Label, Exc, cancelled}
use Rattle.exceptions.specs.Split.{Wanted, keep, drop}
use Rattle.cancel_scopes.specs.Sight.{Tick, sight, seen, catches}
use Rattle.job_tree.specs.declared.object.Ask.TheVariants.{Acquire, Send, Receive}
use Rattle.job_meaning.specs.Log.{Act, opens, asks, gives_back, Log, nil, entry, act, followed_by, Result, least_sign, deadline_of, deadline_if, either, same_label, from_by, Table, table_of, entered_from, Entry, was_granted}
use Rattle.job_meaning.specs.Sharing.{What, a_token, was_sent, a_part, closed_resource, end_of_channel, Granted, Grants}
use Rattle.job_meaning.specs.Moments.{a_round_after, gives_up_at, Now, only_at}
use Rattle.job_meaning.specs.declared.clock.Clock.{Clock}
use Rattle.job_meaning.specs.Walk.{Levels, Stack, no_stack, Mode, two_walks, by_table, grants_in, Here, walk, walk_step, walk_handler, walk_cleanup, raised_at, now_of, from_for, stack_for, in_sequence, and_then, then_if, Kind, block, event_block, event_result, with_act, with_token_back, last_grant, leaves_queue, in_time, goes_on, granted_result, asked_result, asks_in, ask_result, exit_with_from, left_as, left_with, stack_inside, stack_in_event, with_sign, sign_if, home_of, nursery_result, child, each, passes, handler_result, handler_for, handler_if_any, handler_after, cleanup_result, cleanup_after, label_here, label_over, here_in, in_pass, cuts_over}
use Rattle.job_meaning.specs.Meaning.{root_walk, root_here}
use Rattle.job_meaning.specs.Follow.{follow}
use Rattle.job_meaning.specs.Before.{upto, log_before, NearLevels, Near, NearModes}
use Rattle.job_meaning.proofs.Late.{Late, noted_at, late, late_signed, late_gathered}
use Rattle.job_meaning.proofs.Clips.{least_near}
use Rattle.job_meaning.proofs.Agreeing.{agree_logs}
use Rattle.job_meaning.proofs.Causality.{agree, agree_signed, agree_gathered, near_within, near_in_event}
use Rattle.job_meaning.proofs.Distinct.{Among, among_left, among_right, Distinct, distinct_left, distinct_right, distinct_apart, distinct_by_bytes, same_label_itself, same_label_equal, Belongs, after_other, OnLevels, OnStack, Fresh, fresh_in}
use Rattle.job_meaning.proofs.Touched.{Gives, least_followed, deadline_followed, deadline_entered, either_nothing, earlier_never}
use Rattle.job_meaning.proofs.Tidy.{Tidy, tidy, tidy_step, tidy_handler, tidy_in, tidy_each, tidy_passes, tidy_signed, tidy_gathered, tidy_over, signs_home, gives_home}
use Rattle.job_meaning.proofs.Fits.{Fits, fits_own, fits_first, fits_second, Apart, apart_tidy, same_first_sign}

-- one after another: the first walk is the same, and then the second
fits_then : (table : Table) (r : Result) (go : Now → Result) → ((u : Now) → Apart r.log (go u).log) → (o : Option Exc) →
    Fits table (then_if o r go).log → Fits table r.log
fits_then table r go apart None f = fits_first table r.log (go (now_of r)).log (apart (now_of r)) f
fits_then table r go apart (Some e) f = f

same_then : (table : Table) (r : Result) (go go' : Now → Result) → ((u : Now) → Apart r.log (go u).log) →
    ((u : Now) → Fits table (go u).log → go' u ≡ go u) →
    (o : Option Exc) → Fits table (then_if o r go).log → then_if o r go' ≡ then_if o r go
same_then table r go go' apart h None f =
    ap (λ (q : Result). in_sequence r q) (h (now_of r) (fits_second table r.log (go (now_of r)).log (apart (now_of r)) f))
same_then table r go go' apart h (Some e) f = refl

settled_and_then : (table : Table) (r q : Result) (go go' : Now → Result) → (Fits table r.log → q ≡ r) →
    ((u : Now) → Fits table (go u).log → go' u ≡ go u) →
    ((u : Now) → Apart r.log (go u).log) → Fits table (and_then r go).log → and_then q go' ≡ and_then r go
unfolding and_then
settled_and_then table r q go go' h k apart f =
    ap (λ (x : Result). then_if x.exc x go') (h (fits_then table r go apart r.exc f)) ∙ same_then table r go go' apart k r.exc f

-- What is inside a block that is entered in a tick, walked at each from: nothing is earlier than that tick, and a from changes
-- nothing before its tick.
record Inside (t : ℕ) (inside : Tick → Result) : Type 0 where
  later : (f : Tick) → Late t (inside f)
  causal : (c : ℕ) (f g : Tick) → upto c f ≡ upto c g → log_before c (inside f).log ≡ log_before c (inside g).log

module _ (table : Table) (grants : Grants) (clock : Clock) (kind : Kind) (label : Label) (t : ℕ) (d : Tick) (shield : Bool) (st : Stack)
    (inside inside' : Tick → Result)
    (own : (f : Tick) → Gives label (inside f).log → ⊥) where
  -- the log of a block after the entering of its label
  abbrev inner_log : Tick → Log
  inner_log f = followed_by (inside f).log (entry (inside f).end
      (left_as kind label (left_with
      (catches (from_for (inside f).own (inside f).end label f) shield (stack_for (inside f).own (inside f).end st.scopes) (inside f).end)
      (inside f).exc).caught) nil)

  -- the deadline and signs in a block's log are those inside, but for its own deadline
  block_signs : (f : Tick) (l : Label) → least_sign l (exit_with_from clock kind label t d shield st f (inside f)).log ≡ least_sign l (inside f).log
  block_signs f l = least_followed l (inside f).log _ ∙ earlier_never (least_sign l (inside f).log)

  fits_inside : (f : Tick) → Fits table (exit_with_from clock kind label t d shield st f (inside f)).log → Fits table (inside f).log
  fits_inside f h = record { each_label = each_one }
    where
      each_one : (l : Label) (x : Tick) → deadline_of l (inside f).log ≡ Some x → table l ≡ from_by x (least_sign l (inside f).log)
      each_one l x e = h.each_label l x (found (same_label l label) refl) ∙ ap (λ (s : Tick). from_by x s) (block_signs f l)
        where
          rest : deadline_of l (inner_log f) ≡ Some x
          rest = deadline_followed l (inside f).log _ ∙ (either_nothing (deadline_of l (inside f).log) ∙ e)

          found : (b : Bool) → same_label l label ≡ b → either (deadline_if b d) (deadline_of l (inner_log f)) ≡ Some x
          found true i = absurd (own f (subst (λ (m : Label). Gives m (inside f).log) (same_label_equal l label i)
              (deadline_entered l (inside f).log x e)))
          found false i = rest

  fits_label : (f : Tick) → Fits table (exit_with_from clock kind label t d shield st f (inside f)).log →
      table label ≡ from_by d (least_sign label (inside f).log)
  fits_label f h =
      h.each_label label d (ap (λ (b : Bool). either (deadline_if b d) (deadline_of label (inner_log f))) (same_label_itself label))
      ∙ ap (λ (s : Tick). from_by d s) (block_signs f label)

  -- A block by two walks and by a table that fits these: the table has its from, and inside all is the same.
  block_by_table : Inside t inside → ((f : Tick) → Fits table (inside f).log → inside' f ≡ inside f) →
      Fits table (block clock (two_walks grants) kind label t d shield st inside).log →
      block clock (by_table table grants) kind label t d shield st inside' ≡ block clock (two_walks grants) kind label t d shield st inside
  unfolding block
  block_by_table i same h =
      let first : Tick = least_sign label (inside d).log in
      let from : Tick = from_by d first in
      let again : least_sign label (inside from).log ≡ first =
      same_first_sign d first (least_sign label (inside from).log)
      (λ c e. least_near c t label (inside d).log (inside from).log (i.later d).timed (i.later from).timed (i.causal c d from e)) in
      let outcomes : table label ≡ from = fits_label from h ∙ ap (λ (s : Tick). from_by d s) again in
      ap (λ (f : Tick). exit_with_from clock kind label t d shield st f (inside' f)) outcomes
      ∙ ap (λ (r : Result). exit_with_from clock kind label t d shield st from r) (same from (fits_inside from h))

  -- A block by a table that fits its own following, and by two walks: the first of these has the sign from which the table's
  -- from follows, and inside all is the same.
  block_by_walks : Inside t inside' → ((f : Tick) → Fits table (inside f).log → inside' f ≡ inside f) →
      Fits table (block clock (by_table table grants) kind label t d shield st inside).log →
      block clock (two_walks grants) kind label t d shield st inside' ≡ block clock (by_table table grants) kind label t d shield st inside
  unfolding block
  block_by_walks i same h =
      let from : Tick = table label in
      let inner : inside' from ≡ inside from = same from (fits_inside from h) in
      let first : Tick = least_sign label (inside' from).log in
      let outcomes : from ≡ from_by d first =
      fits_label from h ∙ ap (λ (r : Result). from_by d (least_sign label r.log)) (sym inner) in
      let again : least_sign label (inside' d).log ≡ first =
      same_first_sign d first (least_sign label (inside' d).log)
      (λ c e. least_near c t label (inside' from).log (inside' d).log (i.later from).timed (i.later d).timed
      (i.causal c from d (ap (λ (x : Tick). upto c x) outcomes ∙ sym e))) in
      let found : from_by d (least_sign label (inside' d).log) ≡ from = ap (λ (s : Tick). from_by d s) again ∙ sym outcomes in
      ap (λ (f : Tick). exit_with_from clock kind label t d shield st f (inside' f)) found
      ∙ ap (λ (r : Result). exit_with_from clock kind label t d shield st from r) inner

-- The same of an event, whose log has only its label more.
module _ (table : Table) (grants : Grants) (label : Label) (t : ℕ) (inside inside' : Tick → Result)
    (own : (f : Tick) → Gives label (inside f).log → ⊥) where
  fits_in_event : (f : Tick) → Fits table (event_result label t (inside f)).log → Fits table (inside f).log
  fits_in_event f h = record { each_label = each_one }
    where
      each_one : (l : Label) (x : Tick) → deadline_of l (inside f).log ≡ Some x → table l ≡ from_by x (least_sign l (inside f).log)
      each_one l x e = h.each_label l x (found (same_label l label) refl)
        where
          found : (b : Bool) → same_label l label ≡ b → either (deadline_if b None) (deadline_of l (inside f).log) ≡ Some x
          found true i = absurd (own f (subst (λ (m : Label). Gives m (inside f).log) (same_label_equal l label i)
              (deadline_entered l (inside f).log x e)))
          found false i = e

  fits_event : (f : Tick) → Fits table (event_result label t (inside f)).log → table label ≡ from_by None (least_sign label (inside f).log)
  fits_event f h =
      h.each_label label None (ap (λ (b : Bool). either (deadline_if b None) (deadline_of label (inside f).log)) (same_label_itself label))

  event_by_table : Inside t inside → ((f : Tick) → Fits table (inside f).log → inside' f ≡ inside f) →
      Fits table (event_block (two_walks grants) label t inside).log →
      event_block (by_table table grants) label t inside' ≡ event_block (two_walks grants) label t inside
  unfolding event_block
  event_by_table i same h =
      let first : Tick = least_sign label (inside None).log in
      let from : Tick = from_by None first in
      let again : least_sign label (inside from).log ≡ first =
      same_first_sign None first (least_sign label (inside from).log)
      (λ c e. least_near c t label (inside None).log (inside from).log (i.later None).timed (i.later from).timed (i.causal c None from e)) in
      let outcomes : table label ≡ from = fits_event from h ∙ ap (λ (s : Tick). from_by None s) again in
      ap (λ (f : Tick). event_result label t (inside' f)) outcomes
      ∙ ap (λ (r : Result). event_result label t r) (same from (fits_in_event from h))

  event_by_walks : Inside t inside' → ((f : Tick) → Fits table (inside f).log → inside' f ≡ inside f) →
      Fits table (event_block (by_table table grants) label t inside).log →
      event_block (two_walks grants) label t inside' ≡ event_block (by_table table grants) label t inside
  unfolding event_block
  event_by_walks i same h =
      let from : Tick = table label in
      let inner : inside' from ≡ inside from = same from (fits_in_event from h) in
      let first : Tick = least_sign label (inside' from).log in
      let outcomes : from ≡ from_by None first =
      fits_event from h ∙ ap (λ (r : Result). from_by None (least_sign label r.log)) (sym inner) in
      let again : least_sign label (inside' None).log ≡ first =
      same_first_sign None first (least_sign label (inside' None).log)
      (λ c e. least_near c t label (inside' from).log (inside' None).log (i.later from).timed (i.later None).timed
      (i.causal c from None (ap (λ (x : Tick). upto c x) outcomes ∙ sym e))) in
      let found : from_by None (least_sign label (inside' None).log) ≡ from = ap (λ (s : Tick). from_by None s) again ∙ sym outcomes in
      ap (λ (f : Tick). event_result label t (inside' f)) found
      ∙ ap (λ (r : Result). event_result label t r) inner

-- A block or an event has the same result in two modes, if the table fits it in the first and its inside has the same result. What is
-- granted is the same in both.
record SameBlocks (table : Table) (m other : Mode) : Type 0 where
  blocks :
      (clock : Clock) (kind : Kind) (label : Label) (t : ℕ) (d : Tick) (shield : Bool) (st : Stack) (inside inside' : Tick → Result) →
      ((f : Tick) → Gives label (inside f).log → ⊥) → Inside t inside → Inside t inside' →
      ((f : Tick) → Fits table (inside f).log → inside' f ≡ inside f) → Fits table (block clock m kind label t d shield st inside).log →
      block clock other kind label t d shield st inside' ≡ block clock m kind label t d shield st inside
  events :
      (label : Label) (t : ℕ) (inside inside' : Tick → Result) →
      ((f : Tick) → Gives label (inside f).log → ⊥) → Inside t inside → Inside t inside' →
      ((f : Tick) → Fits table (inside f).log → inside' f ≡ inside f) → Fits table (event_block m label t inside).log →
      event_block other label t inside' ≡ event_block m label t inside
  grants : grants_in other ≡ grants_in m

same_by_table : (table : Table) (grants : Grants) → SameBlocks table (two_walks grants) (by_table table grants)
same_by_table table grants =
    record {
      blocks =
          λ clock kind label t d shield st inside inside' own i j same h. block_by_table table grants clock kind label t d shield st inside inside' own i same h;
      events = λ label t inside inside' own i j same h. event_by_table table grants label t inside inside' own i same h;
      grants = refl;
    }

same_by_walks : (table : Table) (grants : Grants) → SameBlocks table (by_table table grants) (two_walks grants)
same_by_walks table grants =
    record {
      blocks =
          λ clock kind label t d shield st inside inside' own i j same h. block_by_walks table grants clock kind label t d shield st inside inside' own j same h;
      events = λ label t inside inside' own i j same h. event_by_walks table grants label t inside inside' own j same h;
      grants = refl;
    }

-- a sign for the home of a stack is for no label that a walk on it enters
home_apart : (st : Stack) (P : Label → Type 0) (r : Result) → Tidy st P r → ((l : Label) → OnStack l st → P l → ⊥) →
    Apart r.log (sign_if r.exc (home_of st.scopes) r.end)
home_apart st P r h fresh =
    record {
      unsigned_after = λ l e s. fresh l (signs_home st r.exc r.end l s) (h.gives l e);
      entered_once = λ l e i. gives_home st r.exc r.end l i;
      unsigned_before = λ l i s. gives_home st r.exc r.end l i;
    }

settled_signed : (table : Table) (st : Stack) (P : Label → Type 0) (r q : Result) → Tidy st P r → ((l : Label) → OnStack l st → P l → ⊥) →
    (Fits table r.log → q ≡ r) → Fits table (with_sign st r).log → with_sign st q ≡ with_sign st r
unfolding with_sign
settled_signed table st P r q h fresh same f =
    ap (λ (x : Result). with_sign st x) (same (fits_first table r.log (sign_if r.exc (home_of st.scopes) r.end) (home_apart st P r h fresh) f))

settled_gathered : (table : Table) (clock : Clock) (label : Label) (r q : Result) → (Fits table r.log → q ≡ r) →
    Fits table (nursery_result clock label r).log →
    nursery_result clock label q ≡ nursery_result clock label r
unfolding nursery_result
settled_gathered table clock label r q same f = ap (λ (x : Result). nursery_result clock label x) (same f)

-- a child's log is separate in what the child adds
settled_child : (table : Table) (label : Label) (begins : ℕ) (r q : Result) (t : Now) → (Fits table r.log → q ≡ r) →
    Fits table (child label begins r t).log →
    child label begins q t ≡ child label begins r t
unfolding child
settled_child table label begins r q t same f = ap (λ (x : Result). child label begins x t) (same (record { each_label = own }))
  where
    own : (l : Label) (d : Tick) → deadline_of l r.log ≡ Some d → table l ≡ from_by d (least_sign l r.log)
    own l d e = f.each_label l d (either_nothing (deadline_of l r.log) ∙ e)
        ∙ ap (λ (s : Tick). from_by d s) (earlier_never (least_sign l r.log))

-- the children of one `start .. over` enter different labels
settled_each : (table : Table) (st : Stack) (names : List (List ℕ)) (path : List ℕ) (k : ℕ) (go go' : ℕ → Result) (t : Now) →
    Fresh st names → ((i : ℕ) → Tidy st (Belongs names (path ++ i ∷ [])) (go i)) → ((i : ℕ) → Fits table (go i).log → go' i ≡ go i) →
    Fits table (each k go t).log → each k go' t ≡ each k go t
settled_each table st names path zero go go' t fresh h same f = refl
settled_each table st names path (suc k) go go' t fresh h same f =
    both (settled_each table st names path k go go' t fresh h same (fits_first table (each k go t).log (go k).log apart f))
    (same k (fits_second table (each k go t).log (go k).log apart f))
  where
    Before : Label → Type 0
    Before l = (i : ℕ) × (i < k) × Belongs names (path ++ i ∷ []) l

    before : (i : ℕ) → i < k → (l : Label) → Belongs names (path ++ i ∷ []) l → Before l
    before i lt l b = (i, lt, b)

    apart : Apart (each k go t).log (go k).log
    apart =
        apart_tidy st Before (Belongs names (path ++ k ∷ [])) (each k go t) (go k)
        (tidy_each st Before k go t (λ i lt. tidy_in st (Belongs names (path ++ i ∷ [])) Before (go i) (before i lt) (h i)))
        (h k)
        (λ l b c. after_other names names path b.0 k l b.1 b.2 c)
        (λ l o b. fresh.none l o b.2.named)
        (λ l o b. fresh.none l o b.named)

    both : each k go' t ≡ each k go t → go' k ≡ go k → in_sequence (each k go' t) (go' k) ≡ in_sequence (each k go t) (go k)
    both e i = ap (λ (x : Result). in_sequence x (go' k)) e ∙ ap (λ (x : Result). in_sequence (each k go t) x) i

-- an act changes nothing in what a table fits
fits_acted : (table : Table) (label : Label) (t : ℕ) (a : Act) (r : Result) → Fits table (with_act label t a r).log → Fits table r.log
fits_acted table label t a r f = record { each_label = f.each_label }

-- nor does a token that comes back
fits_token_back : (table : Table) (label : Label) (r : Result) → Fits table (with_token_back label r).log → Fits table r.log
unfolding with_token_back
fits_token_back table label r f = fits_first table r.log (act label r.end gives_back nil) apart f
  where
    apart : Apart r.log (act label r.end gives_back nil)
    apart = record { unsigned_after = λ l i j. j; entered_once = λ l i j. j; unsigned_before = λ l i j. i }

settled_goes_on : (table : Table) (e : Entry) (m : ℕ) (go go' : Now → Result) → ((u : Now) → Fits table (go u).log → go' u ≡ go u) →
    Fits table (goes_on e m go).log → goes_on e m go' ≡ goes_on e m go
settled_goes_on table e m go go' same f =
    ap (λ (x : Result). in_sequence (noted_at e m) x) (same (only_at m) (record { each_label = f.each_label }))

-- what a task does with what it is granted is the same, where the block of the step is
settled_granted : (table : Table) (label : Label) (here : Here) (m : ℕ) (what : What) (go go' : Here → Now → Result) →
    ((lent : Range) (u : Now) → Fits table (go (record here { part = lent }) u).log →
    go' (record here { part = lent }) u ≡ go (record here { part = lent }) u) →
    Fits table (granted_result label here m what go).log → granted_result label here m what go' ≡ granted_result label here m what go
settled_granted table label here m a_token go go' same f =
    settled_goes_on table (was_granted Acquire label) m (λ u. with_token_back label (go here u)) (λ u. with_token_back label (go' here u))
    (λ u g. ap (λ (x : Result). with_token_back label x) (same here.part u (fits_token_back table label (go here u) g))) f
settled_granted table label here m was_sent go go' same f =
    settled_goes_on table (was_granted Send label) m (λ u. go here u) (λ u. go' here u) (λ u g. same here.part u g) f
settled_granted table label here m (a_part lent) go go' same f =
    settled_goes_on table (was_granted Receive label) m (λ u. go (record here { part = lent }) u) (λ u. go' (record here { part = lent }) u) (λ u g. same lent u g) f
settled_granted table label here m closed_resource go go' same f = refl
settled_granted table label here m end_of_channel go go' same f = refl

-- an ask in two modes that grant the same
settled_asking : (table : Table) (m other : Mode) (ask : Ask) (label : Option Label) (here : Here) (st : Stack) (t : Now)
    (go go' : Here → Now → Result) →
    grants_in other ≡ grants_in m →
    ((lent : Range) (u : Now) → Fits table (go (record here { part = lent }) u).log →
    go' (record here { part = lent }) u ≡ go (record here { part = lent }) u) →
    Fits table (ask_result m ask label here st t go).log → ask_result other ask label here st t go' ≡ ask_result m ask label here st t go
unfolding ask_result
settled_asking table m other ask None here st t go go' grants same f = refl
settled_asking table m other ask (Some label) here st t go go' grants same f = by_sight (seen (stack_for t.own t.at st.scopes) t.at) f
  where
    left : ℕ
    left = leaves_queue (sight st.scopes) (last_grant here.clock t.at)

    by_grant : (o : Option Granted) → Fits table (asked_result ask label here (sight st.scopes) t.at left o go).log →
        asked_result ask label here (sight st.scopes) t.at left o go' ≡ asked_result ask label here (sight st.scopes) t.at left o go
    by_grant None g = refl
    by_grant (Some x) g =
        ap (λ (r : Result). with_act label t.at (asks ask here.part None) r)
        (settled_granted table label here x.at x.what go go' same
        (fits_acted table label t.at (asks ask here.part None) (granted_result label here x.at x.what go) g))

    by_sight : (b : Bool) →
        Fits table (if b then raised_at cancelled (only_at (gives_up_at here.clock 0 t.at)) else asks_in m ask label here st t.at go).log →
        (if b then raised_at cancelled (only_at (gives_up_at here.clock 0 t.at)) else asks_in other ask label here st t.at go')
        ≡ (if b then raised_at cancelled (only_at (gives_up_at here.clock 0 t.at)) else asks_in m ask label here st t.at go)
    by_sight true g = refl
    by_sight false g =
        ap (λ (given : Grants). asked_result ask label here (sight st.scopes) t.at left (in_time t.at left (given label here.task t.at)) go') grants
        ∙ by_grant (in_time t.at left (grants_in m label here.task t.at)) g

-- the passes of one `repeat` enter different labels
settled_passes : (table : Table) (st : Stack) (names : List (List ℕ)) (path : List ℕ) (k first : ℕ) (go go' : ℕ → Now → Result) (t : Now) →
    Fresh st names → ((i : ℕ) (u : Now) → Tidy st (Belongs names (path ++ i ∷ [])) (go i u)) →
    ((i : ℕ) (u : Now) → Fits table (go i u).log → go' i u ≡ go i u) →
    Fits table (passes first k go t).log → passes first k go' t ≡ passes first k go t
settled_passes table st names path zero first go go' t fresh h same f = refl
settled_passes table st names path (suc k) first go go' t fresh h same f =
    settled_and_then table (go first t) (go' first t) (λ u. passes (suc first) k go u) (λ u. passes (suc first) k go' u) (same first t)
    (λ u g. settled_passes table st names path k (suc first) go go' u fresh h same g) apart f
  where
    Later : Label → Type 0
    Later l = (i : ℕ) × (first < i) × Belongs names (path ++ i ∷ []) l

    from_later : (i : ℕ) → suc first ≤ i → (l : Label) → Belongs names (path ++ i ∷ []) l → Later l
    from_later i le l b = (i, omega arith, b)

    apart : (u : Now) → Apart (go first t).log (passes (suc first) k go u).log
    apart u =
        apart_tidy st (Belongs names (path ++ first ∷ [])) Later (go first t) (passes (suc first) k go u) (h first t)
        (tidy_passes st Later k (suc first) go u
        (λ i v le. tidy_in st (Belongs names (path ++ i ∷ [])) Later (go i v) (from_later i le) (h i v)))
        (λ l b c. after_other names names path first c.0 l c.1 b c.2)
        (λ l o b. fresh.none l o b.named)
        (λ l o b. fresh.none l o b.2.named)

-- a handler or a cleanup after a body that is the same
fits_handled : (table : Table) (wanted : Wanted) (r : Result) (go : Now → Result) → ((u : Now) → Apart r.log (go u).log) → (o : Option Exc) →
    Fits table (handler_for o wanted r go).log → Fits table r.log
fits_handled table wanted r go apart None f = f
fits_handled table wanted r go apart (Some e) f = by_match (keep wanted e) (drop wanted e) f
  where
    by_match : (o rest : Option Exc) → Fits table (handler_if_any o rest r go).log → Fits table r.log
    by_match None rest h = h
    by_match (Some x) rest h = fits_first table r.log (go (now_of r)).log (apart (now_of r)) h

same_handled : (table : Table) (wanted : Wanted) (r : Result) (go go' : Now → Result) → ((u : Now) → Apart r.log (go u).log) →
    ((u : Now) → Fits table (go u).log → go' u ≡ go u) →
    (o : Option Exc) → Fits table (handler_for o wanted r go).log → handler_for o wanted r go' ≡ handler_for o wanted r go
same_handled table wanted r go go' apart same None f = refl
same_handled table wanted r go go' apart same (Some e) f = by_match (keep wanted e) (drop wanted e) f
  where
    by_match : (o rest : Option Exc) → Fits table (handler_if_any o rest r go).log → handler_if_any o rest r go' ≡ handler_if_any o rest r go
    by_match None rest h = refl
    by_match (Some x) rest h = ap (λ (q : Result). handler_after rest r q)
        (same (now_of r) (fits_second table r.log (go (now_of r)).log (apart (now_of r)) h))

settled_handled : (table : Table) (wanted : Wanted) (r : Result) (go go' : Now → Result) → ((u : Now) → Apart r.log (go u).log) →
    ((u : Now) → Fits table (go u).log → go' u ≡ go u) →
    Fits table (handler_result wanted r go).log → Fits table r.log × (handler_result wanted r go' ≡ handler_result wanted r go)
unfolding handler_result
settled_handled table wanted r go go' apart same f =
    (fits_handled table wanted r go apart r.exc f, same_handled table wanted r go go' apart same r.exc f)

settled_cleaned : (table : Table) (r : Result) (go go' : Now → Result) → ((u : Now) → Apart r.log (go u).log) →
    ((u : Now) → Fits table (go u).log → go' u ≡ go u) →
    Fits table (cleanup_result r go).log → Fits table r.log × (cleanup_result r go' ≡ cleanup_result r go)
unfolding cleanup_result
settled_cleaned table r go go' apart same f = (
  fits_first table r.log (go (now_of r)).log (apart (now_of r)) f,
  ap (λ (q : Result). cleanup_after r q) (same (now_of r) (fits_second table r.log (go (now_of r)).log (apart (now_of r)) f)),
)

-- two blocks side by side, whose names are given once, on a stack with none of them
side_by_side : (st : Stack) (a b : List (List ℕ)) (path : List ℕ) (r q : Result) → Distinct (a ++ b) → Fresh st (a ++ b) →
    Tidy st (Belongs a path) r → Tidy st (Belongs b path) q → Apart r.log q.log
side_by_side st a b path r q distinct fresh h k =
    apart_tidy st (Belongs a path) (Belongs b path) r q h k
    (λ l x y. distinct_apart a b distinct l.name x.named y.named)
    (λ l o x. fresh.none l o (among_left l.name a b x.named))
    (λ l o y. fresh.none l o (among_right l.name a b y.named))

fresh_left : (st : Stack) (a b : List (List ℕ)) → Fresh st (a ++ b) → Fresh st a
fresh_left st a b h = fresh_in st a (a ++ b) (λ n i. among_left n a b i) h

fresh_right : (st : Stack) (a b : List (List ℕ)) → Fresh st (a ++ b) → Fresh st b
fresh_right st a b h = fresh_in st b (a ++ b) (λ n i. among_right n a b i) h

-- inside a block its own name is on the stack, and is not given again
fresh_within : (name : List ℕ) (names : List (List ℕ)) (here : Here) (shield : Bool) (f : Tick) (st : Stack) → Distinct (name ∷ names) →
    Fresh st (name ∷ names) → Fresh (stack_inside (label_here name here) shield f st) names
fresh_within name names here shield f st distinct fresh = record { none = none }
  where
    none : (l : Label) → ((l ≡ label_here name here) ⊎ OnLevels l st.scopes) ⊎ OnLevels l st.events → Among l.name names → ⊥
    none l (inl (inl e)) i = distinct.0 (subst (λ (x : Label). Among x.name names) e i)
    none l (inl (inr o)) i = fresh.none l (inl o) (inr i)
    none l (inr o) i = fresh.none l (inr o) (inr i)

fresh_in_event : (name : List ℕ) (names : List (List ℕ)) (here : Here) (f : Tick) (st : Stack) → Distinct (name ∷ names) →
    Fresh st (name ∷ names) → Fresh (stack_in_event (label_here name here) f st) names
fresh_in_event name names here f st distinct fresh = record { none = none }
  where
    none : (l : Label) → OnLevels l st.scopes ⊎ ((l ≡ label_here name here) ⊎ OnLevels l st.events) → Among l.name names → ⊥
    none l (inl o) i = fresh.none l (inl o) (inr i)
    none l (inr (inl e)) i = distinct.0 (subst (λ (x : Label). Among x.name names) e i)
    none l (inr (inr o)) i = fresh.none l (inr o) (inr i)

-- no name is on the stack of the root
fresh_root : (names : List (List ℕ)) → Fresh no_stack names
fresh_root names = record { none = none }
  where
    none : (l : Label) → ⊥ ⊎ ⊥ → Among l.name names → ⊥
    none l (inl o) i = o
    none l (inr o) i = o

-- a block's own label is not entered inside it
not_inside : (name : List ℕ) (names : List (List ℕ)) (here : Here) (path : List ℕ) → Distinct (name ∷ names) →
    Belongs names path (label_here name here) → ⊥
not_inside name names here path distinct b = distinct.0 b.named

levels_same : (c : ℕ) (ls : Levels) → NearLevels c ls ls
levels_same c [] = tt
levels_same c (l ∷ ls) = (refl, refl, refl, levels_same c ls)

near_same : (c : ℕ) (st : Stack) → Near c st st
near_same c st = (levels_same c st.scopes, levels_same c st.events)

-- a mode is near itself
modes_same : (c : ℕ) (m : Mode) → NearModes c m m
modes_same c (two_walks grants) = λ object asker t. refl
modes_same c (by_table table grants) = (λ l. refl, λ object asker t. refl)

-- the inside of a nursery, walked on the stack within it
abbrev nursery_inside : Mode → Steps → Label → Here → Stack → Now → Result
nursery_inside m body label here inner t = nursery_result here.clock label (with_sign inner (walk m body here inner t))

-- the inside of a scope, of an event, and of a nursery, by any mode
scope_is_inside : (m : Mode) (body : Steps) (label : Label) (here : Here) (shield : Bool) (st : Stack) (t : Now) →
    Inside t.at (λ f. walk m body here (stack_inside label shield f st) t)
scope_is_inside m body label here shield st t =
    record {
      later = λ f. late m body here (stack_inside label shield f st) t;
      causal = λ c f g e. agree_logs (agree c m m body here _ _ t (modes_same c m) (near_within c label shield f g st st e (near_same c st)));
    }

event_is_inside : (m : Mode) (body : Steps) (label : Label) (here : Here) (st : Stack) (t : Now) →
    Inside t.at (λ f. walk m body here (stack_in_event label f st) t)
event_is_inside m body label here st t =
    record {
      later = λ f. late m body here (stack_in_event label f st) t;
      causal = λ c f g e. agree_logs (agree c m m body here _ _ t (modes_same c m) (near_in_event c label f g st st e (near_same c st)));
    }

tidy_nursery : (m : Mode) (body : Steps) (label : Label) (here : Here) (inner : Stack) (t : Now) →
    Tidy inner (Belongs (names_of body) here.path) (nursery_inside m body label here inner t)
tidy_nursery m body label here inner t = tidy_gathered here.clock inner _ label _ (tidy_signed inner _ _ (tidy m body here inner t))

late_nursery : (m : Mode) (body : Steps) (label : Label) (here : Here) (inner : Stack) (t : Now) →
    Late t.at (nursery_inside m body label here inner t)
late_nursery m body label here inner t = late_gathered here.clock t.at label _ (late_signed t.at inner _ (late m body here inner t))

agree_nursery : (c : ℕ) (m : Mode) (body : Steps) (label : Label) (here : Here) (inner outer : Stack) (t : Now) → Near c inner outer →
    log_before c (nursery_inside m body label here inner t).log ≡ log_before c (nursery_inside m body label here outer t).log
agree_nursery c m body label here inner outer t near =
    agree_logs (agree_gathered c here.clock label _ _
    (agree_signed c inner outer _ _ near (agree c m m body here inner outer t (modes_same c m) near)))

nursery_is_inside : (m : Mode) (body : Steps) (label : Label) (here : Here) (shield : Bool) (st : Stack) (t : Now) →
    Inside t.at (λ f. nursery_inside m body label here (stack_inside label shield f st) t)
nursery_is_inside m body label here shield st t =
    record {
      later = λ f. late_nursery m body label here (stack_inside label shield f st) t;
      causal = λ c f g e. agree_nursery c m body label here _ _ t (near_within c label shield f g st st e (near_same c st));
    }

mutual
  unfolding walk

  -- a walk in one mode is that in another, if a table fits the first and blocks have the same results
  settled : (table : Table) (m other : Mode) → SameBlocks table m other → (b : Steps) (here : Here) (st : Stack) (t : Now) → Distinct (names_of b) →
      Fresh st (names_of b) →
      Fits table (walk m b here st t).log → walk other b here st t ≡ walk m b here st t
  settled table m other same stop here st t distinct fresh f = refl
  settled table m other same (step s ss) here st t distinct fresh f =
      settled_and_then table (walk_step m s here st t) (walk_step other s here st t)
      (λ u. walk m ss here st u) (λ u. walk other ss here st u)
      (λ g. settled_step table m other same s here st t (distinct_left (names_in s) (names_of ss) distinct)
      (fresh_left st (names_in s) (names_of ss) fresh) g)
      (λ u g. settled table m other same ss here st u (distinct_right (names_in s) (names_of ss) distinct)
      (fresh_right st (names_in s) (names_of ss) fresh) g)
      (λ u. side_by_side st (names_in s) (names_of ss) here.path (walk_step m s here st t) (walk m ss here st u) distinct
      fresh (tidy_step m s here st t) (tidy m ss here st u))
      f

  settled_step : (table : Table) (m other : Mode) → SameBlocks table m other → (s : Step) (here : Here) (st : Stack) (t : Now) →
      Distinct (names_in s) → Fresh st (names_in s) →
      Fits table (walk_step m s here st t).log → walk_step other s here st t ≡ walk_step m s here st t
  settled_step table m other same (sleep n) here st t distinct fresh f = refl
  settled_step table m other same checkpoint here st t distinct fresh f = refl
  settled_step table m other same forever here st t distinct fresh f = refl
  settled_step table m other same (pace k) here st t distinct fresh f = refl
  settled_step table m other same (find text) here st t distinct fresh f = refl
  settled_step table m other same (head n) here st t distinct fresh f = refl
  settled_step table m other same longest here st t distinct fresh f = refl
  settled_step table m other same (need text name) here st t distinct fresh f = refl
  settled_step table m other same (raise name) here st t distinct fresh f = refl
  settled_step table m other same (cancel name) here st t distinct fresh f = refl
  settled_step table m other same (set_event name) here st t distinct fresh f = refl
  settled_step table m other same (wait_for name) here st t distinct fresh f = refl
  settled_step table m other same (ask_for name ask body) here st t distinct fresh f =
      settled_asking table m other ask _ here st t (λ inner u. walk m body inner st u) (λ inner u. walk other body inner st u) same.grants
      (λ lent u g. settled table m other same body (record here { part = lent }) st u distinct fresh g) f
  settled_step table m other same (close_channel name) here st t distinct fresh f = refl
  settled_step table m other same (scope name d shield fail body) here st t distinct fresh f =
      same.blocks here.clock _ (label_here name here) t.at _ shield st _ _
      (λ g e. not_inside name (names_of body) here here.path distinct ((tidy m body here _ t).gives _ e))
      (scope_is_inside m body (label_here name here) here shield st t)
      (scope_is_inside other body (label_here name here) here shield st t)
      (λ g h. settled table m other same body here _ t distinct.1 (fresh_within name (names_of body) here shield g st distinct fresh) h)
      f
  settled_step table m other same (nursery name d shield body) here st t distinct fresh f =
      same.blocks here.clock _ (label_here name here) t.at _ shield st _ _
      (λ g e. not_inside name (names_of body) here here.path distinct
      ((tidy_nursery m body (label_here name here) here (stack_inside (label_here name here) shield g st) t).gives _ e))
      (nursery_is_inside m body (label_here name here) here shield st t)
      (nursery_is_inside other body (label_here name here) here shield st t)
      (λ g h. settled_gathered table here.clock (label_here name here) _ _
      (settled_signed table (stack_inside (label_here name here) shield g st) (Belongs (names_of body) here.path) _ _
      (tidy m body here (stack_inside (label_here name here) shield g st) t)
      (λ l o b. (fresh_within name (names_of body) here shield g st distinct fresh).none l o b.named)
      (λ i. settled table m other same body here (stack_inside (label_here name here) shield g st) t distinct.1
      (fresh_within name (names_of body) here shield g st distinct fresh) i))
      h)
      f
  settled_step table m other same (event name body) here st t distinct fresh f =
      same.events (label_here name here) t.at _ _
      (λ g e. not_inside name (names_of body) here here.path distinct ((tidy m body here _ t).gives _ e))
      (event_is_inside m body (label_here name here) here st t)
      (event_is_inside other body (label_here name here) here st t)
      (λ g h. settled table m other same body here _ t distinct.1 (fresh_in_event name (names_of body) here g st distinct fresh) h)
      f
  settled_step table m other same (object name kind body) here st t distinct fresh f =
      ap (λ (r : Result). with_act (label_here name here) t.at (opens kind) r)
      (same.events (label_here name here) t.at _ _
      (λ g e. not_inside name (names_of body) here here.path distinct ((tidy m body here _ t).gives _ e))
      (event_is_inside m body (label_here name here) here st t)
      (event_is_inside other body (label_here name here) here st t)
      (λ g h. settled table m other same body here _ t distinct.1 (fresh_in_event name (names_of body) here g st distinct fresh) h)
      (fits_acted table (label_here name here) t.at (opens kind)
      (event_block m (label_here name here) t.at (λ from. walk m body here (stack_in_event (label_here name here) from st) t)) f))
  settled_step table m other same (start name None body) here st t distinct fresh f =
      settled_child table (label_here name here) (a_round_after here.clock t.at) _ _ t
      (settled_signed table st (Belongs (names_of body) here.path) _ _ (tidy m body _ st (only_at (a_round_after here.clock t.at)))
      (λ l o b. fresh.none l o (inr b.named))
      (λ g. settled table m other same body _ st (only_at (a_round_after here.clock t.at)) distinct.1
      (fresh_in st (names_of body) (name ∷ names_of body) (λ n i. inr i) fresh) g))
      f
  settled_step table m other same (start name (Some k) body) here st t distinct fresh f =
      settled_each table st (name ∷ names_of body) here.path k _ _ t fresh
      (λ i. tidy_over m name body here (cut_of here.input here.part k i) i st t)
      (λ i g. settled_child table (label_over name here i) (a_round_after here.clock t.at) _ _ t
      (settled_signed table st (Belongs (names_of body) (here.path ++ i ∷ [])) _ _
      (tidy m body (here_in (label_over name here i) (cut_of here.input here.part k i) here) st (only_at (a_round_after here.clock t.at)))
      (λ l o b. fresh.none l o (inr b.named))
      (λ h. settled table m other same body (here_in (label_over name here i) (cut_of here.input here.part k i) here) st
      (only_at (a_round_after here.clock t.at)) distinct.1
      (fresh_in st (names_of body) (name ∷ names_of body) (λ n j. inr j) fresh) h))
      g)
      f
  settled_step table m other same (repeat count over body) here st t distinct fresh f =
      settled_passes table st (names_of body) here.path count 0 _ _ t fresh (λ i u. tidy m body (in_pass (cuts_over over count) i here) st u)
      (λ i u g. settled table m other same body (in_pass (cuts_over over count) i here) st u distinct fresh g) f
  settled_step table m other same (attempt body handler cleanup) here st t distinct fresh f =
      let names : List (List ℕ) = names_of body ++ handled_names handler in
      let first : Result = walk m body here st t in
      let second : Result = walk_handler m handler here st first in
      let tidy_first : Tidy st (Belongs (names_of body) here.path) first = tidy m body here st t in
      let cleanup_same = settled_cleanup table m other same cleanup here st second names
      (tidy_handler m handler here st first (names_of body) tidy_first) distinct fresh f in
      let handler_same = settled_handler table m other same handler here st first (names_of body) tidy_first
      (distinct_left names (cleaned_names cleanup) distinct) (fresh_left st names (cleaned_names cleanup) fresh) cleanup_same.0 in
      let body_same = settled table m other same body here st t
      (distinct_left (names_of body) (handled_names handler) (distinct_left names (cleaned_names cleanup) distinct))
      (fresh_left st (names_of body) (handled_names handler) (fresh_left st names (cleaned_names cleanup) fresh)) handler_same.0 in
      ap (λ (r : Result). walk_cleanup other cleanup here st (walk_handler other handler here st r)) body_same
      ∙ (ap (λ (r : Result). walk_cleanup other cleanup here st r) handler_same.1 ∙ cleanup_same.1)

  -- a handler after a body that is the same
  settled_handler : (table : Table) (m other : Mode) → SameBlocks table m other →
      (x : Handled) (here : Here) (st : Stack) (r : Result) (names : List (List ℕ)) →
      Tidy st (Belongs names here.path) r →
      Distinct (names ++ handled_names x) → Fresh st (names ++ handled_names x) → Fits table (walk_handler m x here st r).log →
      Fits table r.log × (walk_handler other x here st r ≡ walk_handler m x here st r)
  settled_handler table m other same unhandled here st r names h distinct fresh f = (f, refl)
  settled_handler table m other same (except name body) here st r names h distinct fresh f =
      settled_handled table _ r (λ u. walk m body here st u) (λ u. walk other body here st u)
      (λ u. side_by_side st names (names_of body) here.path r (walk m body here st u) distinct fresh h
      (tidy m body here st u))
      (λ u g. settled table m other same body here st u (distinct_right names (names_of body) distinct)
      (fresh_right st names (names_of body) fresh) g)
      f

  -- a cleanup after what is the same
  settled_cleanup : (table : Table) (m other : Mode) → SameBlocks table m other →
      (x : Cleaned) (here : Here) (st : Stack) (r : Result) (names : List (List ℕ)) →
      Tidy st (Belongs names here.path) r →
      Distinct (names ++ cleaned_names x) → Fresh st (names ++ cleaned_names x) → Fits table (walk_cleanup m x here st r).log →
      Fits table r.log × (walk_cleanup other x here st r ≡ walk_cleanup m x here st r)
  settled_cleanup table m other same uncleaned here st r names h distinct fresh f = (f, refl)
  settled_cleanup table m other same (finally body) here st r names h distinct fresh f =
      settled_cleaned table r (λ u. walk m body here st u) (λ u. walk other body here st u)
      (λ u. side_by_side st names (names_of body) here.path r (walk m body here st u) distinct fresh h
      (tidy m body here st u))
      (λ u g. settled table m other same body here st u (distinct_right names (names_of body) distinct)
      (fresh_right st names (names_of body) fresh) g)
      f

-- where names are given once, following the table of a walk is that walk, whatever is granted
pub following_is_walking : (grants : Grants) (job : Tree) (input : List ℕ) → GivesNamesOnce job →
    follow (table_of (root_walk (two_walks grants) job input).log) grants job input ≡ root_walk (two_walks grants) job input
unfolding follow
following_is_walking grants job input once =
    settled table (two_walks grants) (by_table table grants) (same_by_table table grants)
    job.steps (root_here job input) no_stack (only_at 0)
    (distinct_by_bytes (job.name ∷ names_of job.steps) once).1
    (fresh_root (names_of job.steps))
    (fits_own (root_walk (two_walks grants) job input).log)
  where
    table : Table
    table = table_of (root_walk (two_walks grants) job input).log

-- and following any table that is that of its own following is a walk with what is granted
pub settled_is_walking : (table : Table) (grants : Grants) (job : Tree) (input : List ℕ) → GivesNamesOnce job →
    ((l : Label) → table l ≡ table_of (follow table grants job input).log l) →
    follow table grants job input ≡ root_walk (two_walks grants) job input
unfolding follow
settled_is_walking table grants job input once h =
    sym (settled table (by_table table grants) (two_walks grants) (same_by_walks table grants) job.steps (root_here job input) no_stack (only_at 0)
    (distinct_by_bytes (job.name ∷ names_of job.steps) once).1
    (fresh_root (names_of job.steps))
    fits)
  where
    fits : Fits table (root_walk (by_table table grants) job input).log
    fits =
        record {
          each_label = λ l d e. h l ∙ ap (λ (o : Option Tick). entered_from o (least_sign l (root_walk (by_table table grants) job input).log)) e;
        }
