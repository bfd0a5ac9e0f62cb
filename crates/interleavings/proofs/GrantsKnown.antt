-- What limiters and channels grant up to the present moment is what they grant by what the tasks of a run did to them before.
use Rattle.std.proofs.Common.{◌≡◌, ℕ, suc, ◌+◌, ◌<◌, ◌≤◌, min, Bool, true, false, Option, Some, None, List, [], ◌∷◌, ◌++◌, refl, sym, ap, ◌∙◌, inl, inr, arith, append_assoc, nat_le, nat_lt, if◌then◌else◌}
use Rattle.std.proofs.lemmas.Bool.{le-ltb}
use Rattle.std.proofs.lemmas.Bool.Decides.{nat_tests}
use Rattle.std.proofs.lemmas.List.{append-nil}
use Rattle.turn_semantics.specs.Lists.{IsAmong}
use Rattle.job_tree.specs.Tree.{Tree}
use Rattle.job_tree.specs.Names.{GivesNamesOnce}
use Rattle.job_tree.specs.Starting.{StartsInNurseries}
use Rattle.input_lines.specs.Lines.{Range}
use Rattle.exceptions.specs.Exceptions.{Label}
use Rattle.cancel_scopes.specs.Sight.{Tick}
use Rattle.job_meaning.specs.Log.{Act, opens, asks, gives_back, closes, Log, nil, entry, sign, entered, act, task, followed_by, Result, Table, same_label}
use Rattle.job_meaning.specs.Sharing.{Done, done_if, own_acts, acts_in, by_moment, unopened, serve_acts, Granted, granted_if, find_given, grants_of, granted_before}
use Rattle.job_meaning.specs.Walk.{Here}
use Rattle.job_meaning.specs.Meaning.{root_label, root_log}
use Rattle.job_meaning.specs.Follow.{follow}
use Rattle.job_meaning.specs.Before.{later, left_before, act_before, act_if, exc_if, task_if, log_before}
use Rattle.job_meaning.specs.Rest.{Event, noted, signs, enters, acts, starts, ChildOutcomes, fill, Frame, Stopped, to_begin, asking, asleep, waiting_for, queued, giving_up, awaiting, at_end, rest_comes_to, inside}
use Rattle.job_meaning.proofs.Distinct.{same_label_itself}
use Rattle.job_meaning.proofs.Late.{Timed, Late}
use Rattle.job_meaning.proofs.GrantsBefore.{Each, near_grants}
use Rattle.turn_semantics.specs.Midway.{Place, label_among, Tables, by_tables, stack_at}
use Rattle.interleavings.specs.Interleaving.{Started, StartsChild, Kid, RunInvariant, live, AllFrom}
use Rattle.interleavings.specs.Going.{root_result}
use Rattle.interleavings.specs.Rows.{children_made}
use Rattle.interleavings.specs.Acts.{acts_made, asked_on, acts_pending, acts_of, acts_of_all, InOrder, all_taken, next_taken, granted_so_far}
use Rattle.interleavings.specs.Laws.{IsSettledBy, GrantsAreKnown}
use Rattle.interleavings.specs.Runs.{Reached}
use Rattle.interleavings.proofs.KnownActs.{act_timed, own_acts_each, acts_each}
use Rattle.interleavings.proofs.Queues.{PendingOn, LeftFrom}
use Rattle.interleavings.proofs.Lateness.{left_rest}
use Rattle.interleavings.proofs.Agreement.{outcomes_tell}
use Rattle.interleavings.proofs.Running.{runs_keep_invariant}
use Rattle.interleavings.proofs.Naming.{one_serial, root_named, StartsNamed, Named, kids_named}

-- ---- what is known of acts before a moment

abbrev pub cut_done : ℕ → Done → Done
cut_done c d = record d { act = act_before c d.act }

-- the acts before c, with what is known of them before c
abbrev pub cut : ℕ → List Done → List Done
cut c [] = []
cut c (d ∷ ds) = done_if (nat_lt d.at c) (cut_done c d) (cut c ds)

-- of acts and more acts it is known of both
pub cut_append : (c : ℕ) (xs ys : List Done) → cut c (xs ++ ys) ≡ cut c xs ++ cut c ys
cut_append c [] ys = refl
cut_append c (d ∷ xs) ys = by_order (nat_lt d.at c) (cut_append c xs ys)
  where
    by_order : (b : Bool) → cut c (xs ++ ys) ≡ cut c xs ++ cut c ys →
        done_if b (cut_done c d) (cut c (xs ++ ys)) ≡ done_if b (cut_done c d) (cut c xs) ++ cut c ys
    by_order true h = ap (λ (zs : List Done). cut_done c d ∷ zs) h
    by_order false h = h

-- of acts from c on nothing is known before c
pub cut_late : (c : ℕ) (ds : List Done) → Each (λ t. c ≤ t) ds → cut c ds ≡ []
cut_late c [] h = refl
cut_late c (d ∷ ds) h = ap (λ (b : Bool). done_if b (cut_done c d) (cut c ds)) (le-ltb d.at c h.0) ∙ cut_late c ds h.1

left_twice : (c : ℕ) (left : Tick) → left_before c (left_before c left) ≡ left_before c left
left_twice c None = refl
left_twice c (Some m) = by_order (nat_lt m c) refl
  where
    by_order : (b : Bool) → nat_lt m c ≡ b → left_before c (if b then Some m else None) ≡ (if b then Some m else None)
    by_order true e = ap (λ (x : Bool). if x then Some m else None) e
    by_order false e = refl

before_twice : (c : ℕ) (a : Act) → act_before c (act_before c a) ≡ act_before c a
before_twice c (opens kind) = refl
before_twice c (asks ask part left) = ap (λ (x : Tick). asks ask part x) (left_twice c left)
before_twice c gives_back = refl
before_twice c closes = refl

-- a log in which tasks do these to an object, one after the other
abbrev acting : Label → List Done → Log
acting l [] = nil
acting l (d ∷ ds) = task d.task 0 0 None (act l d.at d.act nil) (acting l ds)

-- and one with what is known of it before c
abbrev acting_before : ℕ → Label → List Done → Log
acting_before c l [] = nil
acting_before c l (d ∷ ds) = task d.task 0 0 None (act_if (nat_lt d.at c) l d.at (act_before c d.act) nil) (acting_before c l ds)

acting_acts : (l : Label) (ds : List Done) → acts_in l (acting l ds) ≡ ds
acting_acts l [] = refl
acting_acts l (d ∷ ds) =
    ap (λ (b : Bool). done_if b d [] ++ acts_in l (acting l ds)) (same_label_itself l) ∙ ap (λ (xs : List Done). d ∷ xs) (acting_acts l ds)

acting_before_acts : (c : ℕ) (l : Label) (ds : List Done) → acts_in l (acting_before c l ds) ≡ cut c ds
acting_before_acts c l [] = refl
acting_before_acts c l (d ∷ ds) = by_order (nat_lt d.at c) (acting_before_acts c l ds)
  where
    by_order : (b : Bool) → acts_in l (acting_before c l ds) ≡ cut c ds →
        own_acts l d.task (act_if b l d.at (act_before c d.act) nil)
        ++ (acts_in l (act_if b l d.at (act_before c d.act) nil) ++ acts_in l (acting_before c l ds)) ≡ done_if b (cut_done c d) (cut c ds)
    by_order true h =
        ap (λ (x : Bool). done_if x (cut_done c d) [] ++ acts_in l (acting_before c l ds)) (same_label_itself l)
        ∙ ap (λ (xs : List Done). cut_done c d ∷ xs) h
    by_order false h = h

acting_own : (l t : Label) (ds : List Done) → own_acts l t (acting l ds) ≡ []
acting_own l t [] = refl
acting_own l t (d ∷ ds) = acting_own l t ds

acting_before_own : (c : ℕ) (l t : Label) (ds : List Done) → own_acts l t (acting_before c l ds) ≡ []
acting_before_own c l t [] = refl
acting_before_own c l t (d ∷ ds) = acting_before_own c l t ds

acting_timed : (l : Label) (ds : List Done) → Timed 0 (acting l ds)
acting_timed l [] = tt
acting_timed l (d ∷ ds) = (omega arith, omega arith, (omega arith, tt), acting_timed l ds)

acting_before_timed : (c : ℕ) (l : Label) (ds : List Done) → Timed 0 (acting_before c l ds)
acting_before_timed c l [] = tt
acting_before_timed c l (d ∷ ds) = (omega arith, omega arith, of_act (nat_lt d.at c), acting_before_timed c l ds)
  where
    of_act : (b : Bool) → Timed 0 (act_if b l d.at (act_before c d.act) nil)
    of_act true = (omega arith, tt)
    of_act false = tt

-- the two logs are the same before c
acting_near : (c : ℕ) (l : Label) (ds : List Done) → log_before c (acting l ds) ≡ log_before c (acting_before c l ds)
acting_near c l [] = refl
acting_near c l (d ∷ ds) = both (by_order (nat_lt d.at c) refl) (acting_near c l ds)
  where
    both : {a b x y : Log} → a ≡ b → x ≡ y →
        task_if (nat_lt 0 c) d.task 0 (min c 0) (exc_if (nat_lt 0 c) None) a x
        ≡ task_if (nat_lt 0 c) d.task 0 (min c 0) (exc_if (nat_lt 0 c) None) b y
    both e f = cc

    by_order : (b : Bool) → nat_lt d.at c ≡ b →
        act_if (nat_lt d.at c) l d.at (act_before c d.act) nil ≡ log_before c (act_if b l d.at (act_before c d.act) nil)
    by_order true e = ap (λ (a : Act). act_if (nat_lt d.at c) l d.at a nil) (sym (before_twice c d.act))
    by_order false e = ap (λ (x : Bool). act_if x l d.at (act_before c d.act) nil) e

-- a result with this log, which does not end before c
abbrev doing : ℕ → Log → Result
doing c a = record { end = c; own = []; exc = None; members = []; log = a }

-- What is granted up to c is granted by what is known before c of what was done.
pub served_before : (c : ℕ) (job : Tree) (l asker : Label) (m : ℕ) (ds : List Done) →
    granted_before (suc c) (find_given asker m (serve_acts unopened (by_moment ds)))
    ≡ granted_before (suc c) (find_given asker m (serve_acts unopened (by_moment (cut c ds))))
served_before c job l asker m ds =
    sym (of_log (acting l ds) ds (acting_own l (root_label job.name) ds) (acting_acts l ds))
    ∙ (near_grants c job (doing c (acting l ds)) (doing c (acting_before c l ds)) (acting_timed l ds) (acting_before_timed c l ds)
    (later (omega arith) (omega arith) (acting_near c l ds)) l asker m
    ∙ of_log (acting_before c l ds) (cut c ds) (acting_before_own c l (root_label job.name) ds) (acting_before_acts c l ds))
  where
    of_log : (a : Log) (xs : List Done) → own_acts l (root_label job.name) a ≡ [] → acts_in l a ≡ xs →
        granted_before (suc c) (grants_of (root_log job (doing c a)) l asker m)
        ≡ granted_before (suc c) (find_given asker m (serve_acts unopened (by_moment xs)))
    of_log a xs e f =
        ap (λ (zs : List Done). granted_before (suc c) (find_given asker m (serve_acts unopened (by_moment zs))))
        (ap (λ (ys : List Done). ys ++ (acts_in l a ++ [])) e ∙ (append-nil (acts_in l a) ∙ f))

-- ---- readings of logs

own_acts_followed : (l t : Label) (a b : Log) → own_acts l t (followed_by a b) ≡ own_acts l t a ++ own_acts l t b
own_acts_followed l t nil b = refl
own_acts_followed l t (entry m e rest) b = own_acts_followed l t rest b
own_acts_followed l t (sign k m rest) b = own_acts_followed l t rest b
own_acts_followed l t (entered k m d rest) b = own_acts_followed l t rest b
own_acts_followed l t (act k m a rest) b = by_label (same_label l k) (own_acts_followed l t rest b)
  where
    d : Done
    d = record { at = m; task = t; act = a }

    by_label : (x : Bool) → own_acts l t (followed_by rest b) ≡ own_acts l t rest ++ own_acts l t b →
        done_if x d (own_acts l t (followed_by rest b)) ≡ done_if x d (own_acts l t rest) ++ own_acts l t b
    by_label true h = ap (λ (xs : List Done). d ∷ xs) h
    by_label false h = h
own_acts_followed l t (task k s u e own rest) b = own_acts_followed l t rest b

acts_in_followed : (l : Label) (a b : Log) → acts_in l (followed_by a b) ≡ acts_in l a ++ acts_in l b
acts_in_followed l nil b = refl
acts_in_followed l (entry m e rest) b = acts_in_followed l rest b
acts_in_followed l (sign k m rest) b = acts_in_followed l rest b
acts_in_followed l (entered k m d rest) b = acts_in_followed l rest b
acts_in_followed l (act k m a rest) b = acts_in_followed l rest b
acts_in_followed l (task k s u e own rest) b =
    ap (λ (xs : List Done). own_acts l k own ++ (acts_in l own ++ xs)) (acts_in_followed l rest b)
    ∙ (ap (λ (xs : List Done). own_acts l k own ++ xs) (sym (append_assoc (acts_in l own) (acts_in l rest) (acts_in l b)))
    ∙ sym (append_assoc (own_acts l k own) (acts_in l own ++ acts_in l rest) (acts_in l b)))

-- what a task itself did, by its events
own_acts_fill : (l t : Label) (outcomes : ChildOutcomes) (es : List Event) → own_acts l t (fill outcomes es) ≡ acts_made l t es
own_acts_fill l t outcomes [] = refl
own_acts_fill l t outcomes (noted u e ∷ es) = own_acts_fill l t outcomes es
own_acts_fill l t outcomes (signs k u ∷ es) = own_acts_fill l t outcomes es
own_acts_fill l t outcomes (enters k u d ∷ es) = own_acts_fill l t outcomes es
own_acts_fill l t outcomes (acts k u a ∷ es) =
    ap (λ (xs : List Done). done_if (same_label l k) (record { at = u; task = t; act = a }) xs) (own_acts_fill l t outcomes es)
own_acts_fill l t outcomes (starts i k u ∷ es) = own_acts_fill l t outcomes es

-- ---- what a task has left

late_own : (t : ℕ) (l x : Label) (r : Result) → Late t r → cut t (own_acts l x r.log) ≡ []
late_own t l x r h =
    cut_late t (own_acts l x r.log) (own_acts_each (λ u. t ≤ u) l x r.log (act_timed (λ u. t ≤ u) t r.log (λ u le. le) h.timed))

late_in : (t : ℕ) (l : Label) (r : Result) → Late t r → cut t (acts_in l r.log) ≡ []
late_in t l r h = cut_late t (acts_in l r.log) (acts_each (λ u. t ≤ u) l r.log (act_timed (λ u. t ≤ u) t r.log (λ u le. le) h.timed))

-- before t a task in a queue has left what it asked, and every other task nothing
own_left : (t : ℕ) (l : Label) (here : Here) (fs : List Frame) (ps : List Place) (s : Stopped) (r : Result) → LeftFrom t here fs ps s r →
    cut t (own_acts l here.task r.log) ≡ cut t (acts_pending l here fs ps s)
own_left t l here fs ps (queued object ask since body) r h = of_label (label_among true object ps) h
  where
    lent : Range
    lent = (inside fs here).part

    of_label : (o : Option Label) → PendingOn t o since ask lent r →
        cut t (own_acts l here.task r.log) ≡ cut t (asked_on l o here.task (inside fs here) ask since)
    of_label None p = absurd p
    of_label (Some x) p = ap (λ (q : Result). cut t (own_acts l here.task q.log)) p.same ∙ by_label (same_label l x)
      where
        asked : Tick → Done
        asked left = record { at = since; task = here.task; act = asks ask lent left }

        none : cut t (own_acts l here.task p.rest.log) ≡ []
        none = late_own t l here.task p.rest p.late

        by_label : (b : Bool) → cut t (done_if b (asked p.left) (own_acts l here.task p.rest.log)) ≡ cut t (done_if b (asked None) [])
        by_label false = none
        by_label true =
            ap (λ (xs : List Done). done_if (nat_lt since t) (cut_done t (asked p.left)) xs) none
            ∙ ap (λ (left : Tick). done_if (nat_lt since t) (asked left) []) p.unknown
own_left t l here fs ps (at_end u e) r h = ap (λ (a : Log). cut t (own_acts l here.task a)) h
own_left t l here fs ps to_begin r h = late_own t l here.task r h
own_left t l here fs ps (asking kernel purpose) r h = late_own t l here.task r h
own_left t l here fs ps (asleep paced n since) r h = late_own t l here.task r h
own_left t l here fs ps (waiting_for event since) r h = late_own t l here.task r h
own_left t l here fs ps (giving_up since) r h = late_own t l here.task r h
own_left t l here fs ps (awaiting children ended exc) r h = late_own t l here.task r h

in_left : (t : ℕ) (l : Label) (here : Here) (fs : List Frame) (ps : List Place) (s : Stopped) (r : Result) → LeftFrom t here fs ps s r →
    cut t (acts_in l r.log) ≡ []
in_left t l here fs ps (queued object ask since body) r h = of_label (label_among true object ps) h
  where
    of_label : (o : Option Label) → PendingOn t o since ask (inside fs here).part r → cut t (acts_in l r.log) ≡ []
    of_label None p = absurd p
    of_label (Some x) p = ap (λ (q : Result). cut t (acts_in l q.log)) p.same ∙ late_in t l p.rest p.late
in_left t l here fs ps (at_end u e) r h = ap (λ (a : Log). cut t (acts_in l a)) h
in_left t l here fs ps to_begin r h = late_in t l r h
in_left t l here fs ps (asking kernel purpose) r h = late_in t l r h
in_left t l here fs ps (asleep paced n since) r h = late_in t l r h
in_left t l here fs ps (waiting_for event since) r h = late_in t l r h
in_left t l here fs ps (giving_up since) r h = late_in t l r h
in_left t l here fs ps (awaiting children ended exc) r h = late_in t l r h

-- ---- the tasks of a run

module _ (k : Tables) (f : Table) (whole : Result) (qs : List Started) (o : RunInvariant k f whole qs) (t : ℕ) (from : AllFrom k qs t)
    (one : (x y : Started) → IsAmong x qs → IsAmong y qs → x.serial ≡ y.serial → x ≡ y)
    (named : (x : Started) → IsAmong x qs → (i : ℕ) (n : Label) → StartsNamed i n x.made → Named qs x i n) (l : Label) where
  abbrev left_result : Started → Result
  left_result q = rest_comes_to (by_tables k) q.outcomes q.rest q.here (stack_at k.cancelled_from q.places) q.stop

  final_log : (q : Started) → IsAmong q qs → q.final_result.log ≡ followed_by (fill q.outcomes q.made) (left_result q).log
  final_log q i = sym (ap (λ (r : Result). r.log) ((o.fits q i).comes q.outcomes (outcomes_tell q)))

  left_of : (q : Started) → IsAmong q qs → LeftFrom t q.here q.rest.frames q.places q.rest.stopped (left_result q)
  left_of q i = left_rest k q.outcomes q.here q.stop t q.rest.stopped q.rest.frames q.places (o.shape q i) (from q i)

  -- what a task itself does before t it has done, or asked
  own_final : (q : Started) → IsAmong q qs → cut t (own_acts l q.here.task q.final_result.log) ≡ cut t (acts_of l q)
  own_final q i =
      ap (λ (a : Log). cut t (own_acts l q.here.task a)) (final_log q i)
      ∙ (ap (λ (xs : List Done). cut t xs) (own_acts_followed l q.here.task (fill q.outcomes q.made) (left_result q).log)
      ∙ (cut_append t (own_acts l q.here.task (fill q.outcomes q.made)) (own_acts l q.here.task (left_result q).log)
      ∙ (ap (λ (xs : List Done). cut t xs ++ cut t (own_acts l q.here.task (left_result q).log)) (own_acts_fill l q.here.task q.outcomes q.made)
      ∙ (ap (λ (ys : List Done). cut t (acts_made l q.here.task q.made) ++ ys)
      (own_left t l q.here q.rest.frames q.places q.rest.stopped (left_result q) (left_of q i))
      ∙ sym (cut_append t (acts_made l q.here.task q.made) (acts_pending l q.here q.rest.frames q.places q.rest.stopped))))))

  -- and what the tasks that it starts do before t is done by those that it has started
  in_final : (q : Started) → IsAmong q qs → cut t (acts_in l q.final_result.log) ≡ cut t (acts_in l (fill q.outcomes q.made))
  in_final q i =
      ap (λ (a : Log). cut t (acts_in l a)) (final_log q i)
      ∙ (ap (λ (xs : List Done). cut t xs) (acts_in_followed l (fill q.outcomes q.made) (left_result q).log)
      ∙ (cut_append t (acts_in l (fill q.outcomes q.made)) (acts_in l (left_result q).log)
      ∙ (ap (λ (ys : List Done). cut t (acts_in l (fill q.outcomes q.made)) ++ ys)
      (in_left t l q.here q.rest.frames q.places q.rest.stopped (left_result q) (left_of q i))
      ∙ append-nil (cut t (acts_in l (fill q.outcomes q.made))))))

  -- what tasks do before t with all that they start
  abbrev acts_all : List Started → List Done
  acts_all [] = []
  acts_all (q ∷ ts) = cut t (own_acts l q.here.task q.final_result.log) ++ (cut t (acts_in l q.final_result.log) ++ acts_all ts)

  abbrev serials : List Started → List ℕ
  serials [] = []
  serials (q ∷ ts) = q.serial ∷ serials ts

  abbrev AllIn : List Started → Type 0
  AllIn [] = Unit {0}
  AllIn (q ∷ ts) = IsAmong q qs × AllIn ts

  all_in_append : (ts us : List Started) → AllIn ts → AllIn us → AllIn (ts ++ us)
  all_in_append [] us p r = r
  all_in_append (q ∷ ts) us p r = (p.0, all_in_append ts us p.1 r)

  serials_append : (ts us : List Started) → serials (ts ++ us) ≡ serials ts ++ serials us
  serials_append [] us = refl
  serials_append (q ∷ ts) us = ap (λ (x : List ℕ). q.serial ∷ x) (serials_append ts us)

  acts_append : (ts us : List Started) → acts_all (ts ++ us) ≡ acts_all ts ++ acts_all us
  acts_append [] us = refl
  acts_append (q ∷ ts) us =
      let own : List Done = cut t (own_acts l q.here.task q.final_result.log) in
      let inner : List Done = cut t (acts_in l q.final_result.log) in
      ap (λ (xs : List Done). own ++ (inner ++ xs)) (acts_append ts us)
      ∙ (ap (λ (xs : List Done). own ++ xs) (sym (append_assoc inner (acts_all ts) (acts_all us)))
      ∙ sym (append_assoc own (inner ++ acts_all ts) (acts_all us)))

  -- the tasks that these events of a task started
  record Children (q : Started) (es : List Event) : Type 0 where
    tasks : List Started
    among : AllIn tasks
    numbers : serials tasks ≡ children_made q.child es
    doings : acts_all tasks ≡ cut t (acts_in l (fill q.outcomes es))

  -- a child does what is recorded of it
  child_acts : (q : Started) (i : ℕ) (n : Label) (c : Started) (rest : List Done) → c.final_result ≡ q.outcomes i → c.here.task ≡ n →
      cut t (own_acts l c.here.task c.final_result.log) ++ (cut t (acts_in l c.final_result.log) ++ rest)
      ≡ cut t (own_acts l n (q.outcomes i).log) ++ (cut t (acts_in l (q.outcomes i).log) ++ rest)
  child_acts q i n c rest e g =
      ap (λ (x : Label). cut t (own_acts l x c.final_result.log) ++ (cut t (acts_in l c.final_result.log) ++ rest)) g
      ∙ ap (λ (r : Result). cut t (own_acts l n r.log) ++ (cut t (acts_in l r.log) ++ rest)) e

  children_of : (q : Started) → IsAmong q qs → (es : List Event) → ((i : ℕ) → StartsChild i es → i < q.count) →
      ((i : ℕ) (n : Label) → StartsNamed i n es → Named qs q i n) → Children q es
  children_of q j [] h s = record { tasks = []; among = tt; numbers = refl; doings = refl }
  children_of q j (noted u e ∷ es) h s =
      let r : Children q es = children_of q j es h s in record { tasks = r.tasks; among = r.among; numbers = r.numbers; doings = r.doings }
  children_of q j (signs n u ∷ es) h s =
      let r : Children q es = children_of q j es h s in record { tasks = r.tasks; among = r.among; numbers = r.numbers; doings = r.doings }
  children_of q j (enters n u d ∷ es) h s =
      let r : Children q es = children_of q j es h s in record { tasks = r.tasks; among = r.among; numbers = r.numbers; doings = r.doings }
  children_of q j (acts n u a ∷ es) h s =
      let r : Children q es = children_of q j es h s in record { tasks = r.tasks; among = r.among; numbers = r.numbers; doings = r.doings }
  children_of q j (starts i n u ∷ es) h s =
      let r : Children q es = children_of q j es (λ x m. h x (inr m)) (λ x y m. s x y (inr m)) in
      let c : Kid qs q i = o.kids q j i (h i (inl refl)) in
      let d : Named qs q i n = s i n (inl (refl, refl)) in
      let same : d.kid ≡ c.kid = one d.kid c.kid d.among c.among (d.serial ∙ sym c.serial) in
      let label : c.kid.here.task ≡ n = sym (ap (λ (x : Started). x.here.task) same) ∙ d.task in
      record {
        tasks = c.kid ∷ r.tasks;
        among = (c.among, r.among);
        numbers = λ v. c.serial v ∷ r.numbers v;
        doings =
            child_acts q i n c.kid (acts_all r.tasks) c.same label
            ∙ (ap (λ (xs : List Done). cut t (own_acts l n (q.outcomes i).log) ++ (cut t (acts_in l (q.outcomes i).log) ++ xs)) r.doings
            ∙ sym (cut_append t (own_acts l n (q.outcomes i).log) (acts_in l (q.outcomes i).log ++ acts_in l (fill q.outcomes es))
            ∙ ap (λ (xs : List Done). cut t (own_acts l n (q.outcomes i).log) ++ xs)
            (cut_append t (acts_in l (q.outcomes i).log) (acts_in l (fill q.outcomes es)))));
      }

  -- what is done before t by the tasks that are taken from a stack is done by its tasks with all that they start
  taken_acts : {stack : List ℕ} {taken : List Started} → InOrder qs stack taken → (ts : List Started) → AllIn ts → stack ≡ serials ts →
      cut t (acts_of_all l taken) ≡ acts_all ts
  taken_acts all_taken [] p e = refl
  taken_acts all_taken (q ∷ ts) p e = absurd (cc)
  taken_acts (next_taken q stack taken i d) [] p e = absurd (cc)
  taken_acts (next_taken q stack taken i d) (x ∷ ts) p e =
      let c : Children q q.made = children_of q i q.made (o.numbered q i) (named q i) in
      let first : q.serial ≡ x.serial = cc in
      let rest : stack ≡ serials ts = cc in
      let same : q ≡ x = one q x i p.0 first in
      let more : children_made q.child q.made ++ stack ≡ serials (c.tasks ++ ts) =
      ap (λ (y : List ℕ). y ++ stack) (sym c.numbers) ∙ (ap (λ (y : List ℕ). serials c.tasks ++ y) rest ∙ sym (serials_append c.tasks ts)) in
      let inner : acts_all c.tasks ≡ cut t (acts_in l q.final_result.log) = c.doings ∙ sym (in_final q i) in
      cut_append t (acts_of l q) (acts_of_all l taken)
      ∙ (ap (λ (xs : List Done). xs ++ cut t (acts_of_all l taken)) (sym (own_final q i))
      ∙ (ap (λ (xs : List Done). cut t (own_acts l q.here.task q.final_result.log) ++ xs)
      (taken_acts d (c.tasks ++ ts) (all_in_append c.tasks ts c.among p.1) more
      ∙ (acts_append c.tasks ts ∙ ap (λ (xs : List Done). xs ++ acts_all ts) inner))
      ∙ ap (λ (y : Started). acts_all (y ∷ ts)) same))

  -- so it is with the whole, by the root
  whole_acts : (name : Label) → o.root.root.here.task ≡ name → (taken : List Started) → InOrder qs (0 ∷ []) taken →
      cut t (own_acts l name whole.log ++ (acts_in l whole.log ++ [])) ≡ cut t (acts_of_all l taken)
  whole_acts name label taken order =
      let q : Started = o.root.root in
      cut_append t (own_acts l name whole.log) (acts_in l whole.log ++ [])
      ∙ (ap (λ (xs : List Done). cut t (own_acts l name whole.log) ++ xs) (cut_append t (acts_in l whole.log) [])
      ∙ (sym (ap (λ (x : Label). cut t (own_acts l x q.final_result.log) ++ (cut t (acts_in l q.final_result.log) ++ [])) label
      ∙ ap (λ (r : Result). cut t (own_acts l name r.log) ++ (cut t (acts_in l r.log) ++ [])) o.root.comes)
      ∙ sym (taken_acts order (q ∷ []) (o.root.among, tt) (ap (λ (n : ℕ). n ∷ []) (sym o.root.first)))))

-- ---- the law

-- what is granted up to a moment is known, before which nothing happens that was not done
pub grants_are_known : GrantsAreKnown
grants_are_known k job input names nurseries settled f t m qs r v from taken order object asker since =
    ap (λ (g : Option Granted). granted_before (suc v) g) (settled.granted object asker since)
    ∙ (served_before v job object asker since (acts_in object (root_log job (follow k.cancelled_from k.granted job input)))
    ∙ (ap (λ (xs : List Done). granted_before (suc v) (find_given asker since (serve_acts unopened (by_moment xs)))) same_acts
    ∙ sym (served_before v job object asker since (acts_of_all object taken))))
  where
    whole : Result
    whole = root_result k job input

    interleaving : RunInvariant k f whole qs
    interleaving = (runs_keep_invariant k job input settled names nurseries f t m qs r).0

    same_acts : cut v (acts_in object (root_log job (follow k.cancelled_from k.granted job input))) ≡ cut v (acts_of_all object taken)
    same_acts =
        whole_acts k f whole qs interleaving v from (one_serial k job input f t m qs r)
        (kids_named k job input names nurseries settled f t m qs r) object (root_label job.name)
        (root_named k job input f t m qs r interleaving.root.root interleaving.root.among interleaving.root.first) taken order

-- ---- all that was granted

-- in its moment a grant is known
known_by : (g : Granted) (v : ℕ) → g.at ≤ v → granted_before (suc v) (Some g) ≡ Some g
known_by g v le = ap (λ (b : Bool). granted_if b g None) early
  where
    early : nat_le (g.at + 1) (suc v) ≡ true
    early = grind (arith, nat_tests)

-- so what is known in all moments determines it
known_determines : (a b : Option Granted) → ((v : ℕ) → granted_before (suc v) a ≡ granted_before (suc v) b) → a ≡ b
known_determines None None h = refl
known_determines None (Some y) h = h y.at ∙ known_by y y.at (omega arith)
known_determines (Some x) None h = sym (known_by x x.at (omega arith)) ∙ h x.at
known_determines (Some x) (Some y) h =
    sym (known_by x (x.at + y.at) (omega arith)) ∙ (h (x.at + y.at) ∙ known_by y (x.at + y.at) (omega arith))

-- when all tasks of a run have ended, what tables grant is what was granted by what they did
pub all_granted : (k : Tables) (job : Tree) (input : List ℕ) → GivesNamesOnce job → StartsInNurseries job → IsSettledBy k job input →
    (f : Table) (t m : ℕ) (qs : List Started) → Reached k job input f t m qs → ((q : Started) → IsAmong q qs → live q.rest.stopped ≡ false) →
    (taken : List Started) → InOrder qs (0 ∷ []) taken → (object asker : Label) (since : ℕ) →
    k.granted object asker since ≡ granted_so_far taken object asker since
all_granted k job input names nurseries settled f t m qs r ended taken order object asker since =
    known_determines (k.granted object asker since) (granted_so_far taken object asker since)
    (λ v. grants_are_known k job input names nurseries settled f t m qs r v (λ q i lives. absurd (let e : false ≡ true = sym (ended q i) ∙ lives in cc)) taken order
    object asker since)
