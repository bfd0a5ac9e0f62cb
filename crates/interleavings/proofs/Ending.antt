-- A run that is over: its rows contain the result of following the table.
use Rattle.std.proofs.Common.{◌≡◌, ℕ, suc, ◌+◌, ◌<◌, min, true, Option, Some, None, List, [], ◌∷◌, ◌++◌, refl, sym, ap, ◌∙◌, subst, inl, inr, arith, append_assoc}
use Rattle.std.proofs.lemmas.List.{append-nil}
use Rattle.turn_semantics.specs.Lists.{IsAmong}
use Rattle.job_tree.specs.Tree.{Tree}
use Rattle.exceptions.specs.Exceptions.{Label, Exc}
use Rattle.cancel_scopes.specs.Sight.{Tick}
use Rattle.job_meaning.specs.Log.{Log, Result, Table}
use Rattle.job_meaning.specs.Moments.{tick_of}
use Rattle.job_meaning.specs.declared.clock.Clock.{Clock}
use Rattle.job_meaning.specs.Before.{upto}
use Rattle.job_meaning.specs.Meaning.{Noted, Record, entries_of, records_of, entered_by, all_entered, root_label, root_log, From, cancelled_from_by}
use Rattle.job_meaning.specs.Rest.{Event, noted, signs, enters, acts, starts, ChildOutcomes, fill, Stopped, at_end, task_comes_to}
use Rattle.job_meaning.proofs.Clips.{followed_nil}
use Rattle.turn_semantics.specs.Midway.{Tables, by_tables, stack_at}
use Rattle.interleavings.specs.Interleaving.{Started, Fits, EntersWith, StartsChild, Kid, RunInvariant, live, AllFrom}
use Rattle.interleavings.specs.Rows.{Row, entries_made, entered_made, children_made, StartsRows, HasRow, record_of, records_by, cancelled_from_in, DepthFirst, no_more, and_more}
use Rattle.interleavings.proofs.Agreement.{outcomes_tell, agrees, ended_final_result}

-- ---- readings of the log of events

entries_fill : (clock : Clock) (outcomes : ChildOutcomes) (es : List Event) → entries_of clock (fill outcomes es) ≡ entries_made clock es
entries_fill clock outcomes [] = refl
entries_fill clock outcomes (noted t e ∷ es) =
    ap (λ (x : List Noted). record { tick = tick_of clock t; entry = e } ∷ x) (entries_fill clock outcomes es)
entries_fill clock outcomes (signs l t ∷ es) = entries_fill clock outcomes es
entries_fill clock outcomes (enters l t d ∷ es) = entries_fill clock outcomes es
entries_fill clock outcomes (acts label moment done ∷ es) = entries_fill clock outcomes es
entries_fill clock outcomes (starts i l t ∷ es) = entries_fill clock outcomes es

entered_fill : (outcomes : ChildOutcomes) (es : List Event) → entered_by (fill outcomes es) ≡ entered_made es
entered_fill outcomes [] = refl
entered_fill outcomes (noted t e ∷ es) = entered_fill outcomes es
entered_fill outcomes (signs l t ∷ es) = entered_fill outcomes es
entered_fill outcomes (enters l t d ∷ es) = ap (λ (x : List Label). l ∷ x) (entered_fill outcomes es)
entered_fill outcomes (acts label moment done ∷ es) = entered_fill outcomes es
entered_fill outcomes (starts i l t ∷ es) = entered_fill outcomes es

cancelled_from_append : (k : Table) (a b : List Label) → cancelled_from_by k (a ++ b) ≡ cancelled_from_by k a ++ cancelled_from_by k b
cancelled_from_append k [] b = refl
cancelled_from_append k (l ∷ a) b = ap (λ (x : List From). record { label = l; seen = k l } ∷ x) (cancelled_from_append k a b)

-- the log of an ended task is the log of what it did
ended_log : (k : Tables) (q : Started) → Fits k q → (u : ℕ) (e : Option Exc) → q.rest.stopped ≡ at_end u e →
    q.final_result.log ≡ fill q.outcomes q.made
ended_log k q p u e s =
    sym (ap (λ (r : Result). r.log) (p.comes q.outcomes (outcomes_tell q)))
    ∙ (ap (λ (z : Stopped). (task_comes_to (by_tables k) q.outcomes q.made (record { stopped = z; frames = q.rest.frames }) q.here
    (stack_at k.cancelled_from q.places) q.stop).log) s
    ∙ followed_nil (fill q.outcomes q.made))

-- ticks that are equal as far as each tick
same_tick : (a b : Tick) → ((c : ℕ) → upto (suc c) a ≡ upto (suc c) b) → a ≡ b
same_tick None None h = refl
same_tick None (Some b) h = let z : suc b ≡ min (suc b) b = h b in absurd (omega arith)
same_tick (Some a) None h = let z : min (suc a) a ≡ suc a = h a in absurd (omega arith)
same_tick (Some a) (Some b) h =
    let z : min (suc (a + b)) a ≡ min (suc (a + b)) b = h (a + b) in
    let y : a ≡ b = omega arith in
    ap (λ (v : ℕ). Some v) y

-- ---- the rows

module _ (k : Tables) (f : Table) (whole : Result) (qs : List Started) (o : RunInvariant k f whole qs) (clock : Clock) (rows : ℕ → Row)
    (rowed : (q : Started) → IsAmong q qs → HasRow clock f rows q) where
  none_live : (v : ℕ) → AllFrom k qs v
  none_live v q i l = absurd (no (rowed q i))
    where
      no : HasRow clock f rows q → ⊥
      no h = let z : live (at_end h.end (rows q.serial).exc) ≡ true = subst (λ (s : Stopped). live s ≡ true) h.ended l in cc

  -- each from that was kept is the table's
  pub from_over : (q : Started) → IsAmong q qs → (l : Label) (d : Tick) → EntersWith l d q.made → f l ≡ k.cancelled_from l
  from_over q i l d h = sym (same_tick (k.cancelled_from l) (f l) (λ c. agrees k f whole qs o c (none_live c) l d (o.known q i l d h)))

  cancelled_from_over : (q : Started) → IsAmong q qs → (es : List Event) → ((l : Label) (d : Tick) → EntersWith l d es → EntersWith l d q.made) →
      cancelled_from_by f (entered_made es) ≡ cancelled_from_by k.cancelled_from (entered_made es)
  cancelled_from_over q i [] h = refl
  cancelled_from_over q i (noted t e ∷ es) h = cancelled_from_over q i es h
  cancelled_from_over q i (signs l t ∷ es) h = cancelled_from_over q i es h
  cancelled_from_over q i (enters l t d ∷ es) h =
      let z : f l ≡ k.cancelled_from l = from_over q i l d (h l d (inl (refl, refl))) in
      let y : cancelled_from_by f (entered_made es) ≡ cancelled_from_by k.cancelled_from (entered_made es) =
      cancelled_from_over q i es (λ m c j. h m c (inr j)) in
      λ j. record { label = l; seen = z j } ∷ y j
  cancelled_from_over q i (acts label moment done ∷ es) h = cancelled_from_over q i es h
  cancelled_from_over q i (starts n l t ∷ es) h = cancelled_from_over q i es h

  -- the log of a task that ended
  log_of : (q : Started) → IsAmong q qs → q.final_result.log ≡ fill q.outcomes q.made
  log_of q i = let h : HasRow clock f rows q = rowed q i in ended_log k q (o.fits q i) h.end (rows q.serial).exc h.ended

  -- a row says of its task what its outcome does
  row_entries : (q : Started) → IsAmong q qs → (rows q.serial).entries ≡ entries_of clock q.final_result.log
  row_entries q i = (rowed q i).entries ∙ sym (ap (entries_of clock) (log_of q i) ∙ entries_fill clock q.outcomes q.made)

  row_cancelled_from : (q : Started) → IsAmong q qs → (rows q.serial).cancelled_from
      ≡ cancelled_from_by k.cancelled_from (entered_by q.final_result.log)
  row_cancelled_from q i = (rowed q i).cancelled_from ∙ (cancelled_from_over q i q.made (λ l d j. j)
      ∙ sym (ap (λ (a : Log). cancelled_from_by k.cancelled_from (entered_by a)) (log_of q i) ∙ ap (cancelled_from_by k.cancelled_from) (entered_fill q.outcomes q.made)))

  -- ---- tasks with all that they started

  abbrev records_all : List Started → List Record
  records_all [] = []
  records_all (q ∷ ts) = (record_of (rows q.serial) ∷ records_of clock q.final_result.log) ++ records_all ts

  abbrev cancelled_from_all : List Started → List From
  cancelled_from_all [] = []
  cancelled_from_all (q ∷ ts) =
      ((rows q.serial).cancelled_from ++ cancelled_from_by k.cancelled_from (all_entered q.final_result.log)) ++ cancelled_from_all ts

  abbrev serials : List Started → List ℕ
  serials [] = []
  serials (q ∷ ts) = q.serial ∷ serials ts

  abbrev AllIn : List Started → Type 0
  AllIn [] = Unit {0}
  AllIn (q ∷ ts) = IsAmong q qs × AllIn ts

  all_in_append : (ts us : List Started) → AllIn ts → AllIn us → AllIn (ts ++ us)
  all_in_append [] us p r = r
  all_in_append (q ∷ ts) us p r = (p.0, all_in_append ts us p.1 r)

  serials_append : (ts us : List Started) → serials (ts ++ us) ≡ serials ts ++ serials us
  serials_append [] us = refl
  serials_append (q ∷ ts) us = ap (λ (x : List ℕ). q.serial ∷ x) (serials_append ts us)

  records_append : (ts us : List Started) → records_all (ts ++ us) ≡ records_all ts ++ records_all us
  records_append [] us = refl
  records_append (q ∷ ts) us =
      ap (λ (x : List Record). (record_of (rows q.serial) ∷ records_of clock q.final_result.log) ++ x) (records_append ts us)
      ∙ sym (append_assoc (record_of (rows q.serial) ∷ records_of clock q.final_result.log) (records_all ts) (records_all us))

  cancelled_from_all_append : (ts us : List Started) → cancelled_from_all (ts ++ us) ≡ cancelled_from_all ts ++ cancelled_from_all us
  cancelled_from_all_append [] us = refl
  cancelled_from_all_append (q ∷ ts) us =
      ap (λ (x : List From). ((rows q.serial).cancelled_from ++ cancelled_from_by k.cancelled_from (all_entered q.final_result.log)) ++ x)
      (cancelled_from_all_append ts us)
      ∙ sym (append_assoc ((rows q.serial).cancelled_from ++ cancelled_from_by k.cancelled_from (all_entered q.final_result.log)) (cancelled_from_all ts) (cancelled_from_all us))

  -- the tasks that these events of a task started
  record Children (q : Started) (es : List Event) : Type 0 where
    tasks : List Started
    among : AllIn tasks
    numbers : serials tasks ≡ children_made q.child es
    records : records_all tasks ≡ records_of clock (fill q.outcomes es)
    cancelled_from : cancelled_from_all tasks ≡ cancelled_from_by k.cancelled_from (all_entered (fill q.outcomes es))

  child_record : (q : Started) (i : ℕ) (l : Label) (t : ℕ) (c : Kid qs q i) → (rows (q.child i)).label ≡ l → (rows (q.child i)).start ≡ tick_of clock t →
      record_of (rows c.kid.serial) ≡ record {
        label = l;
        start = tick_of clock t;
        end = tick_of clock (q.outcomes i).end;
        exc = (q.outcomes i).exc;
        entries =
            entries_of clock (q.outcomes i).log;
      }
  child_record q i l t c a b =
      let h : HasRow clock f rows c.kid = rowed c.kid c.among in
      let z : (c.kid.final_result.end ≡ h.end) × (c.kid.final_result.exc ≡ (rows c.kid.serial).exc) =
      ended_final_result k c.kid (o.fits c.kid c.among) h.end (rows c.kid.serial).exc h.ended in
      let x1 : (rows c.kid.serial).label ≡ l = ap (λ (n : ℕ). (rows n).label) c.serial ∙ a in
      let x2 : (rows c.kid.serial).start ≡ tick_of clock t = ap (λ (n : ℕ). (rows n).start) c.serial ∙ b in
      let x3 : (rows c.kid.serial).end ≡ tick_of clock (q.outcomes i).end =
      h.tick ∙ ap (tick_of clock) (sym z.0 ∙ ap (λ (r : Result). r.end) c.same) in
      let x4 : (rows c.kid.serial).exc ≡ (q.outcomes i).exc = sym z.1 ∙ ap (λ (r : Result). r.exc) c.same in
      let x5 : (rows c.kid.serial).entries ≡ entries_of clock (q.outcomes i).log =
      row_entries c.kid c.among ∙ ap (λ (r : Result). entries_of clock r.log) c.same in
      λ j. record { label = x1 j; start = x2 j; end = x3 j; exc = x4 j; entries = x5 j }

  children_of : (q : Started) → IsAmong q qs → (es : List Event) → ((i : ℕ) → StartsChild i es → i < q.count) → StartsRows clock rows q.child es →
      Children q es
  children_of q j [] h s = record { tasks = []; among = tt; numbers = refl; records = refl; cancelled_from = refl }
  children_of q j (noted t e ∷ es) h s =
      let r : Children q es = children_of q j es h s in record {
        tasks = r.tasks;
        among = r.among;
        numbers = r.numbers;
        records =
            r.records;
        cancelled_from = r.cancelled_from;
      }
  children_of q j (signs l t ∷ es) h s =
      let r : Children q es = children_of q j es h s in record {
        tasks = r.tasks;
        among = r.among;
        numbers = r.numbers;
        records =
            r.records;
        cancelled_from = r.cancelled_from;
      }
  children_of q j (enters l t d ∷ es) h s =
      let r : Children q es = children_of q j es h s in record {
        tasks = r.tasks;
        among = r.among;
        numbers = r.numbers;
        records =
            r.records;
        cancelled_from = r.cancelled_from;
      }
  children_of q j (acts label moment done ∷ es) h s =
      let r : Children q es = children_of q j es h s in record {
        tasks = r.tasks;
        among = r.among;
        numbers = r.numbers;
        records =
            r.records;
        cancelled_from = r.cancelled_from;
      }
  children_of q j (starts i l t ∷ es) h s =
      let r : Children q es = children_of q j es (λ n m. h n (inr m)) s.1 in
      let c : Kid qs q i = o.kids q j i (h i (inl refl)) in
      let x : record_of (rows c.kid.serial) ≡ record {
        label = l;
        start = tick_of clock t;
        end = tick_of clock (q.outcomes i).end;
        exc = (q.outcomes i).exc;
        entries =
            entries_of clock (q.outcomes i).log;
      } = child_record q i l t c s.0.0 s.0.1 in
      let y : records_of clock c.kid.final_result.log ≡ records_of clock (q.outcomes i).log = ap (λ (v : Result). records_of clock v.log) c.same in
      let z : (rows c.kid.serial).cancelled_from ++ cancelled_from_by k.cancelled_from (all_entered c.kid.final_result.log)
      ≡ cancelled_from_by k.cancelled_from (entered_by (q.outcomes i).log)
      ++ cancelled_from_by k.cancelled_from (all_entered (q.outcomes i).log) =
      ap (λ (v : List From). v ++ cancelled_from_by k.cancelled_from (all_entered c.kid.final_result.log)) (row_cancelled_from c.kid c.among)
      ∙ ap (λ (v : Result). cancelled_from_by k.cancelled_from (entered_by v.log) ++ cancelled_from_by k.cancelled_from (all_entered v.log)) c.same in
      record {
        tasks = c.kid ∷ r.tasks;
        among = (c.among, r.among);
        numbers = λ n. c.serial n ∷ r.numbers n;
        records = λ n. (x n ∷ y n) ++ r.records n;
        cancelled_from =
            ap (λ (v : List From). v ++ cancelled_from_all r.tasks) z
            ∙ (ap (λ (v : List From). (cancelled_from_by k.cancelled_from (entered_by (q.outcomes i).log) ++ cancelled_from_by k.cancelled_from (all_entered (q.outcomes i).log)) ++ v) r.cancelled_from
            ∙ (append_assoc (cancelled_from_by k.cancelled_from (entered_by (q.outcomes i).log)) (cancelled_from_by k.cancelled_from (all_entered (q.outcomes i).log))
            (cancelled_from_by k.cancelled_from (all_entered (fill q.outcomes es)))
            ∙ sym (cancelled_from_append k.cancelled_from (entered_by (q.outcomes i).log) (all_entered (q.outcomes i).log ++ all_entered (fill q.outcomes es))
            ∙ ap (λ (v : List From). cancelled_from_by k.cancelled_from (entered_by (q.outcomes i).log) ++ v)
            (cancelled_from_append k.cancelled_from (all_entered (q.outcomes i).log) (all_entered (fill q.outcomes es))))));
      }

  all_children : (q : Started) → IsAmong q qs → Children q q.made
  all_children q i = children_of q i q.made (o.numbered q i) (rowed q i).starts

  -- the rows that are taken from a stack are those of its tasks with all that they started
  taken_records : {stack taken : List ℕ} → DepthFirst rows stack taken → (ts : List Started) → AllIn ts → stack ≡ serials ts →
      records_by rows taken ≡ records_all ts
  taken_records no_more [] p e = refl
  taken_records no_more (q ∷ ts) p e = absurd (cc)
  taken_records (and_more s stack taken d) [] p e = absurd (cc)
  taken_records (and_more s stack taken d) (q ∷ ts) p e =
      let c : Children q q.made = all_children q p.0 in
      let first : s ≡ q.serial = cc in
      let rest : stack ≡ serials ts = cc in
      let kids : (rows s).children ≡ serials c.tasks = ap (λ (n : ℕ). (rows n).children) first ∙ ((rowed q p.0).children ∙ sym c.numbers) in
      let more : (rows s).children ++ stack ≡ serials (c.tasks ++ ts) =
      ap (λ (x : List ℕ). x ++ stack) kids ∙ (ap (λ (x : List ℕ). serials c.tasks ++ x) rest ∙ sym (serials_append c.tasks ts)) in
      let own : records_all c.tasks ≡ records_of clock q.final_result.log = c.records ∙ sym (ap (records_of clock) (log_of q p.0)) in
      ap (λ (n : ℕ). record_of (rows n) ∷ records_by rows taken) first
      ∙ ap (λ (x : List Record). record_of (rows q.serial) ∷ x)
      (taken_records d (c.tasks ++ ts) (all_in_append c.tasks ts c.among p.1) more
      ∙ (records_append c.tasks ts ∙ ap (λ (x : List Record). x ++ records_all ts) own))

  taken_cancelled_from : {stack taken : List ℕ} → DepthFirst rows stack taken → (ts : List Started) → AllIn ts → stack ≡ serials ts →
      cancelled_from_in rows taken ≡ cancelled_from_all ts
  taken_cancelled_from no_more [] p e = refl
  taken_cancelled_from no_more (q ∷ ts) p e = absurd (cc)
  taken_cancelled_from (and_more s stack taken d) [] p e = absurd (cc)
  taken_cancelled_from (and_more s stack taken d) (q ∷ ts) p e =
      let c : Children q q.made = all_children q p.0 in
      let first : s ≡ q.serial = cc in
      let rest : stack ≡ serials ts = cc in
      let kids : (rows s).children ≡ serials c.tasks = ap (λ (n : ℕ). (rows n).children) first ∙ ((rowed q p.0).children ∙ sym c.numbers) in
      let more : (rows s).children ++ stack ≡ serials (c.tasks ++ ts) =
      ap (λ (x : List ℕ). x ++ stack) kids ∙ (ap (λ (x : List ℕ). serials c.tasks ++ x) rest ∙ sym (serials_append c.tasks ts)) in
      let own : cancelled_from_all c.tasks ≡ cancelled_from_by k.cancelled_from (all_entered q.final_result.log) =
      c.cancelled_from ∙ sym (ap (λ (a : Log). cancelled_from_by k.cancelled_from (all_entered a)) (log_of q p.0)) in
      ap (λ (n : ℕ). (rows n).cancelled_from ++ cancelled_from_in rows taken) first
      ∙ (ap (λ (x : List From). (rows q.serial).cancelled_from ++ x)
      (taken_cancelled_from d (c.tasks ++ ts) (all_in_append c.tasks ts c.among p.1) more
      ∙ (cancelled_from_all_append c.tasks ts ∙ ap (λ (x : List From). x ++ cancelled_from_all ts) own))
      ∙ sym (append_assoc (rows q.serial).cancelled_from (cancelled_from_by k.cancelled_from (all_entered q.final_result.log)) (cancelled_from_all ts)))

  -- ---- the whole

  root_row : (rows 0).end ≡ tick_of clock whole.end
  root_row = let h : HasRow clock f rows o.root.root = rowed o.root.root o.root.among in
      ap (λ (n : ℕ). (rows n).end) (sym o.root.first)
      ∙ (h.tick ∙ ap (tick_of clock) (sym (ended_final_result k o.root.root (o.fits o.root.root o.root.among) h.end
      (rows o.root.root.serial).exc h.ended).0 ∙ ap (λ (r : Result). r.end) o.root.comes))

  root_exc : (rows 0).exc ≡ whole.exc
  root_exc = let h : HasRow clock f rows o.root.root = rowed o.root.root o.root.among in
      ap (λ (n : ℕ). (rows n).exc) (sym o.root.first)
      ∙ (sym (ended_final_result k o.root.root (o.fits o.root.root o.root.among) h.end (rows o.root.root.serial).exc
      h.ended).1 ∙ ap (λ (r : Result). r.exc) o.root.comes)

  -- the row of the root has the end of the whole
  pub ends_over : (rows 0).end ≡ tick_of clock whole.end
  ends_over = root_row

  -- the records of the rows, each followed by its descendants, are those of the whole
  pub records_over : (job : Tree) → (rows 0).label ≡ root_label job.name → (rows 0).start ≡ tick_of clock 0 → (taken : List ℕ) →
      DepthFirst rows (0 ∷ []) taken →
      records_by rows taken ≡ records_of clock (root_log job whole)
  records_over job a b taken d =
      let q : Started = o.root.root in
      let z : q.serial ≡ 0 = o.root.first in
      let y : (rows q.serial).entries ≡ entries_of clock whole.log = row_entries q o.root.among
      ∙ ap (λ (r : Result). entries_of clock r.log) o.root.comes in
      let x : (rows 0).entries ≡ entries_of clock whole.log = ap (λ (n : ℕ). (rows n).entries) (sym z) ∙ y in
      let w : records_of clock q.final_result.log ≡ records_of clock whole.log = ap (λ (r : Result). records_of clock r.log) o.root.comes in
      taken_records d (q ∷ []) (o.root.among, tt) (ap (λ (n : ℕ). n ∷ []) (sym z))
      ∙ (ap (λ (n : ℕ). (record_of (rows n) ∷ records_of clock q.final_result.log) ++ []) z
      ∙ λ j. (record { label = a j; start = b j; end = root_row j; exc = root_exc j; entries = x j } ∷ w j) ++ [])

  -- and so are the moments of cancellation
  pub cancelled_from_of_over : (job : Tree) → (taken : List ℕ) → DepthFirst rows (0 ∷ []) taken →
      cancelled_from_in rows taken ≡ cancelled_from_by k.cancelled_from (all_entered (root_log job whole))
  cancelled_from_of_over job taken d =
      let q : Started = o.root.root in
      let z : q.serial ≡ 0 = o.root.first in
      taken_cancelled_from d (q ∷ []) (o.root.among, tt) (ap (λ (n : ℕ). n ∷ []) (sym z))
      ∙ (ap (λ (x : List From). (x ++ cancelled_from_by k.cancelled_from (all_entered q.final_result.log)) ++ []) (row_cancelled_from q o.root.among)
      ∙ (ap (λ (r : Result). (cancelled_from_by k.cancelled_from (entered_by r.log) ++ cancelled_from_by k.cancelled_from (all_entered r.log)) ++ []) o.root.comes
      ∙ (append-nil (cancelled_from_by k.cancelled_from (entered_by whole.log) ++ cancelled_from_by k.cancelled_from (all_entered whole.log))
      ∙ (sym (cancelled_from_append k.cancelled_from (entered_by whole.log) (all_entered whole.log))
      ∙ ap (λ (x : List Label). cancelled_from_by k.cancelled_from (entered_by whole.log ++ x)) (sym (append-nil (all_entered whole.log)))))))
