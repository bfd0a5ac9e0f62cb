-- The tasks that concern a task contain every task that caused a cancellation of one of them.
use Rattle.std.proofs.Common.{◌≡◌, ℕ, zero, suc, ◌+◌, ◌<◌, ◌≤◌, true≢false, Bool, true, false, not, ◌&&◌, ◌||◌, Option, Some, None, List, [], ◌∷◌, length, refl, ap, sym, ◌∙◌, subst, ◌⊎◌, inl, inr, arith}
use Rattle.std.proofs.lemmas.Bool.{or_left, or_right}
use Rattle.std.specs.Prelude.{if◌then◌else◌}
use Rattle.exceptions.specs.Exceptions.{Label, Exc}
use Rattle.job_meaning.specs.Log.{Table, same_label}
use Rattle.job_meaning.proofs.Distinct.{same_label_equal, same_label_itself}
use Rattle.job_story.specs.Story.{is_cancelled}
use Rattle.job_story.specs.Events.{What, happens, Event}
use Rattle.job_story.specs.Causes.{Cause, by_deadline, by_task, by_set, by_failure, by_cancellation, cause_of}
use Rattle.job_story.specs.Focus.{task_of, cause_by, causer_of, is_some_label, is_causer_of, is_among, is_causer_of_some, add_if, with_causers, causers_in, concerned_tasks}
use Rattle.job_story.specs.Shown.{IsIn, IsEndIn}
use Rattle.job_story.specs.Closed.{IsClosed}
use Rattle.job_story.specs.LawsOfCauses.{ConcernedTasksAreClosed}
use Rattle.job_story.proofs.Found.{some_is, causes_are_shown}

-- an event of this task is among these
abbrev HasTask : Label → List Event → Type 0
HasTask l all = (x : Event) × IsIn x all × (x.task ≡ l)

-- ---- a task that caused a cancellation has an event

cause_has_task : (table : Table) (all : List Event) (k m : Label) (c : Cause) → cause_of table all k ≡ Some c → task_of (Some c) ≡ Some m →
    HasTask m all
cause_has_task table all k m by_deadline is h = absurd (cc)
cause_has_task table all k m (by_task task t) is h =
    let shown = causes_are_shown table all k (by_task task t) is in
    (_, shown.2.1, some_is task m h)
cause_has_task table all k m (by_set task t) is h =
    let shown = causes_are_shown table all k (by_set task t) is in
    (_, shown.2.1, some_is task m h)
cause_has_task table all k m (by_failure task t) is h =
    let shown = causes_are_shown table all k (by_failure task t) is in
    either shown.2.1 shown.2.3
  where
    either : (e : Exc) → IsEndIn k t task e all → HasTask m all
    either e (inl i) = (_, i, some_is task m h)
    either e (inr i) = (_, i, some_is task m h)
cause_has_task table all k m (by_cancellation task t) is h =
    let shown = causes_are_shown table all k (by_cancellation task t) is in
    either shown.2.1 shown.2.3
  where
    either : (e : Exc) → IsEndIn k t task e all → HasTask m all
    either e (inl i) = (_, i, some_is task m h)
    either e (inr i) = (_, i, some_is task m h)

by_has_task : (table : Table) (all : List Event) (m : Label) (by : Option Label) → cause_by table all by ≡ Some m → HasTask m all
by_has_task table all m None h = absurd (cc)
by_has_task table all m (Some k) h = by_cause (cause_of table all k) refl h
  where
    by_cause : (o : Option Cause) → cause_of table all k ≡ o → task_of o ≡ Some m → HasTask m all
    by_cause None is e = absurd (cc)
    by_cause (Some c) is e = cause_has_task table all k m c is e

causer_has_task : (table : Table) (all : List Event) (m : Label) (w : What) → causer_of table all w ≡ Some m → HasTask m all
causer_has_task table all m (happens (is_cancelled by during in_cleanup)) h = by_has_task table all m by h
causer_has_task table all m _ h = absurd (cc)

-- ---- a round adds each task that caused a cancellation of one of the set

among_more : (b : Bool) (l m : Label) (ls : List Label) → is_among m ls ≡ true → is_among m (add_if b l ls) ≡ true
among_more true l m ls h = or_right (same_label m l) (is_among m ls) h
among_more false l m ls h = h

module _ (table : Table) (all : List Event) where
  with_more : (kept : List Label) (es : List Event) (m : Label) → is_among m kept ≡ true → is_among m (with_causers table all kept es) ≡ true
  with_more kept [] m h = h
  with_more kept (e ∷ es) m h =
      among_more (is_causer_of_some table all e.task kept && not (is_among e.task (with_causers table all kept es))) e.task m
      (with_causers table all kept es) (with_more kept es m h)

  added : (x : Label) (rest : List Label) (c a : Bool) → c ≡ true → is_among x rest ≡ a → is_among x (add_if (c && not a) x rest) ≡ true
  added x rest false a caused is = absurd (true≢false (sym caused))
  added x rest true true caused is = is
  added x rest true false caused is = or_left (same_label x x) (is_among x rest) (same_label_itself x)

  with_adds : (kept : List Label) (es : List Event) (e : Event) → IsIn e es → is_causer_of_some table all e.task kept ≡ true →
      is_among e.task (with_causers table all kept es) ≡ true
  with_adds kept [] e i h = absurd i
  with_adds kept (x ∷ es) e (inl same) h =
      let rest = with_causers table all kept es in
      subst (λ (y : Event). is_among y.task (with_causers table all kept (x ∷ es)) ≡ true) (sym same)
      (added x.task rest (is_causer_of_some table all x.task kept) (is_among x.task rest)
      (subst (λ (y : Event). is_causer_of_some table all y.task kept ≡ true) same h) refl)
  with_adds kept (x ∷ es) e (inr i) h =
      among_more (is_causer_of_some table all x.task kept && not (is_among x.task (with_causers table all kept es))) x.task e.task
      (with_causers table all kept es) (with_adds kept es e i h)

  -- ---- sets to which a round adds nothing

  -- of these events, each whose task caused a cancellation of one of the set is of a task of the set
  abbrev IsWhole : List Label → List Event → Type 0
  IsWhole kept es = (e : Event) → IsIn e es → is_causer_of_some table all e.task kept ≡ true → is_among e.task kept ≡ true

  nothing_added : (x : Label) (kept rest : List Label) (c : Bool) → rest ≡ kept → (c ≡ true → is_among x kept ≡ true) →
      add_if (c && not (is_among x rest)) x rest ≡ kept
  nothing_added x kept rest false same whole = same
  nothing_added x kept rest true same whole =
      ap (λ (b : Bool). add_if (not b) x rest) (ap (is_among x) same ∙ whole refl) ∙ same

  whole_round : (kept : List Label) (es : List Event) → IsWhole kept es → with_causers table all kept es ≡ kept
  whole_round kept [] whole = refl
  whole_round kept (e ∷ es) whole =
      nothing_added e.task kept (with_causers table all kept es) (is_causer_of_some table all e.task kept)
      (whole_round kept es (λ x i. whole x (inr i))) (whole e (inl refl))

  whole_stays : (n : ℕ) (kept : List Label) → IsWhole kept all → causers_in n table all kept ≡ kept
  whole_stays zero kept whole = refl
  whole_stays (suc n) kept whole = ap (causers_in n table all) (whole_round kept all whole) ∙ whole_stays n kept whole

  -- ---- how many events are of no task of the set

  abbrev one_if : Bool → ℕ
  one_if true = 0
  one_if false = 1

  abbrev left : List Label → List Event → ℕ
  left kept [] = 0
  left kept (e ∷ es) = one_if (is_among e.task kept) + left kept es

  left_most : (kept : List Label) (es : List Event) → left kept es ≤ length es
  left_most kept [] = omega arith
  left_most kept (e ∷ es) = by_test (is_among e.task kept) (left_most kept es)
    where
      by_test : (b : Bool) → left kept es ≤ length es → one_if b + left kept es ≤ suc (length es)
      by_test true le = omega arith
      by_test false le = omega arith

  -- an event is of a task of the set, where none is left
  left_none : (kept : List Label) (es : List Event) (e : Event) → left kept es ≡ 0 → IsIn e es → is_among e.task kept ≡ true
  left_none kept [] e none i = absurd i
  left_none kept (x ∷ es) e none (inl same) =
      subst (λ (y : Event). is_among y.task kept ≡ true) (sym same) (by_test (is_among x.task kept) none)
    where
      by_test : (b : Bool) → one_if b + left kept es ≡ 0 → b ≡ true
      by_test true n = refl
      by_test false n = absurd (omega arith)
  left_none kept (x ∷ es) e none (inr i) = left_none kept es e (omega arith) i

  -- a greater set leaves no more, and less where it contains the task of an event that the other does not
  one_less : (a b : Bool) → (a ≡ true → b ≡ true) → one_if b ≤ one_if a
  one_less true true f = omega arith
  one_less true false f = absurd (true≢false (sym (f refl)))
  one_less false true f = omega arith
  one_less false false f = omega arith

  left_less : (kept more : List Label) (es : List Event) → ((m : Label) → is_among m kept ≡ true → is_among m more ≡ true) →
      left more es ≤ left kept es
  left_less kept more [] grows = omega arith
  left_less kept more (e ∷ es) grows =
      let first = one_less (is_among e.task kept) (is_among e.task more) (grows e.task) in
      let others = left_less kept more es grows in
      omega arith

  left_fewer : (kept more : List Label) (es : List Event) (e : Event) → ((m : Label) → is_among m kept ≡ true → is_among m more ≡ true) →
      IsIn e es → is_among e.task kept ≡ false → is_among e.task more ≡ true → left more es < left kept es
  left_fewer kept more [] e grows i out within = absurd i
  left_fewer kept more (x ∷ es) e grows (inl same) out within =
      by_tests (is_among x.task kept) (is_among x.task more) (left_less kept more es grows)
      (subst (λ (y : Event). is_among y.task kept ≡ false) same out) (subst (λ (y : Event). is_among y.task more ≡ true) same within)
    where
      by_tests : (a b : Bool) → left more es ≤ left kept es → a ≡ false → b ≡ true → one_if b + left more es < one_if a + left kept es
      by_tests true b le o w = absurd (true≢false o)
      by_tests false false le o w = absurd (true≢false (sym w))
      by_tests false true le o w = omega arith
  left_fewer kept more (x ∷ es) e grows (inr i) out within =
      let first = one_less (is_among x.task kept) (is_among x.task more) (grows x.task) in
      let others = left_fewer kept more es e grows i out within in
      omega arith

  -- ---- all rounds

  -- an event of a task that the next round adds
  abbrev Next : List Label → Type 0
  Next kept = (e : Event) × IsIn e all × (is_causer_of_some table all e.task kept ≡ true) × (is_among e.task kept ≡ false)

  next_or_whole : (kept : List Label) (es : List Event) → ((e : Event) → IsIn e es → IsIn e all) → Next kept ⊎ IsWhole kept es
  next_or_whole kept [] within = inr (λ e i h. absurd i)
  next_or_whole kept (x ∷ es) within =
      by_tests (is_causer_of_some table all x.task kept) (is_among x.task kept) refl refl (next_or_whole kept es (λ e i. within e (inr i)))
    where
      more : (is_causer_of_some table all x.task kept ≡ true → is_among x.task kept ≡ true) → IsWhole kept es → IsWhole kept (x ∷ es)
      more this others e (inl same) h =
          subst (λ (y : Event). is_among y.task kept ≡ true) (sym same)
          (this (subst (λ (y : Event). is_causer_of_some table all y.task kept ≡ true) same h))
      more this others e (inr i) h = others e i h

      by_tests : (c a : Bool) → is_causer_of_some table all x.task kept ≡ c → is_among x.task kept ≡ a → Next kept ⊎ IsWhole kept es →
          Next kept ⊎ IsWhole kept (x ∷ es)
      by_tests c a is am (inl next) = inl next
      by_tests true false is am (inr whole) = inl (x, within x (inl refl), is, am)
      by_tests true true is am (inr whole) = inr (more (λ h. am) whole)
      by_tests false a is am (inr whole) = inr (more (λ h. absurd (true≢false (sym h ∙ is))) whole)

  fewer_left : (kept : List Label) (n : ℕ) → left kept all ≤ suc n → Next kept → left (with_causers table all kept all) all ≤ n
  fewer_left kept n le next =
      let less =
      left_fewer kept (with_causers table all kept all) all next.0 (λ m h. with_more kept all m h) next.1 next.3
      (with_adds kept all next.0 next.1 next.2) in
      omega arith

  rounds_whole : (n : ℕ) (kept : List Label) → left kept all ≤ n → IsWhole (causers_in n table all kept) all
  rounds_whole zero kept le = λ e i h. left_none kept all e (omega arith) i
  rounds_whole (suc n) kept le =
      by_search (next_or_whole kept all (λ e i. i)) (rounds_whole n (with_causers table all kept all))
    where
      by_search : Next kept ⊎ IsWhole kept all →
          (left (with_causers table all kept all) all ≤ n → IsWhole (causers_in n table all (with_causers table all kept all)) all) →
          IsWhole (causers_in (suc n) table all kept) all
      by_search (inl next) others = others (fewer_left kept n le next)
      by_search (inr whole) others = subst (λ (ls : List Label). IsWhole ls all) (sym (whole_stays (suc n) kept whole)) whole

  -- ---- so the set is closed

  causer_by : (m : Label) (o : Option Label) → o ≡ Some m → is_some_label m o ≡ true
  causer_by m o e = subst (λ (x : Option Label). is_some_label m x ≡ true) (sym e) (same_label_itself m)

  caused_one : (m whose : Label) (es : List Event) (e : Event) → IsIn e es → e.task ≡ whose → causer_of table all e.what ≡ Some m →
      is_causer_of table all m whose es ≡ true
  caused_one m whose [] e i same is = absurd i
  caused_one m whose (x ∷ es) e (inl at) same is =
      or_left (if same_label whose x.task then is_some_label m (causer_of table all x.what) else false) (is_causer_of table all m whose es)
      (by_test (same_label whose x.task)
      (subst (λ (y : Label). same_label whose y ≡ true) (sym same ∙ ap (λ (y : Event). y.task) at) (same_label_itself whose)))
    where
      by_test : (b : Bool) → b ≡ true → (if b then is_some_label m (causer_of table all x.what) else false) ≡ true
      by_test true h = causer_by m (causer_of table all x.what) (subst (λ (y : Event). causer_of table all y.what ≡ Some m) at is)
      by_test false h = absurd (true≢false (sym h))
  caused_one m whose (x ∷ es) e (inr i) same is =
      or_right (if same_label whose x.task then is_some_label m (causer_of table all x.what) else false) (is_causer_of table all m whose es)
      (caused_one m whose es e i same is)

  caused_some : (m : Label) (kept : List Label) (e : Event) → IsIn e all → is_among e.task kept ≡ true → causer_of table all e.what ≡ Some m →
      is_causer_of_some table all m kept ≡ true
  caused_some m [] e i among is = absurd (true≢false (sym among))
  caused_some m (k ∷ ks) e i among is = by_test (same_label e.task k) refl among (caused_some m ks e i)
    where
      by_test : (b : Bool) → same_label e.task k ≡ b → (b || is_among e.task ks) ≡ true →
          (is_among e.task ks ≡ true → causer_of table all e.what ≡ Some m → is_causer_of_some table all m ks ≡ true) →
          (is_causer_of table all m k all || is_causer_of_some table all m ks) ≡ true
      by_test true same h others =
          or_left (is_causer_of table all m k all) (is_causer_of_some table all m ks)
          (caused_one m k all e i (same_label_equal e.task k same) is)
      by_test false differs h others =
          or_right (is_causer_of table all m k all) (is_causer_of_some table all m ks) (others h is)

  whole_closed : (kept : List Label) → IsWhole kept all → IsClosed table all kept
  whole_closed kept whole e m i among is =
      let found = causer_has_task table all m e.what is in
      subst (λ (y : Label). is_among y kept ≡ true) found.2
      (whole found.0 found.1
      (subst (λ (y : Label). is_causer_of_some table all y kept ≡ true) (sym found.2) (caused_some m kept e i among is)))

  rounds_more : (n : ℕ) (kept : List Label) (m : Label) → is_among m kept ≡ true → is_among m (causers_in n table all kept) ≡ true
  rounds_more zero kept m h = h
  rounds_more (suc n) kept m h = rounds_more n (with_causers table all kept all) m (with_more kept all m h)

pub concerned_tasks_are_closed : ConcernedTasksAreClosed
concerned_tasks_are_closed table all l = (
  rounds_more table all (length all) (l ∷ []) l (or_left (same_label l l) false (same_label_itself l)),
  whole_closed table all (concerned_tasks table all l) (rounds_whole table all (length all) (l ∷ []) (left_most table all (l ∷ []) all)),
)
