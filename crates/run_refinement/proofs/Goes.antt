-- A run of the definitions continues with a turn of one of its tasks: which tasks it has then, by their serial
-- numbers.
use Rattle.std.proofs.Common.{◌≡◌, ◌≢◌, ◌⊎◌, inl, inr, ℕ, zero, suc, ◌+◌, ◌-◌, ◌<◌, ◌≤◌, ◌==◌, nat_lt, Bool, true, false, Option, Some, None, List, [], ◌∷◌, ◌++◌, length, refl, ap, sym, ◌∙◌, subst, arith}
use Rattle.std.proofs.lemmas.Bool.{eqb-true, eq-eqb}
use Rattle.std.proofs.lemmas.Bool.Decides.{nat_tests}
use Rattle.std.specs.List.{slice_get}
use Rattle.turn_semantics.specs.Lists.{IsAmong}
use Rattle.job_tree.specs.Tree.{Tree as Job}
use Rattle.exceptions.specs.Exceptions.{Exc, Label}
use Rattle.job_meaning.specs.Moments.{a_round_after, Now}
use Rattle.job_meaning.specs.Rest.{Stopped, to_begin, asking, asleep, waiting_for, queued, giving_up, awaiting}
use Rattle.turn_semantics.specs.Midway.{Tables, Begun, Move}
use Rattle.turn_semantics.specs.Steps.{cancelled_from_after}
use Rattle.turn_semantics.specs.Turned.{TurnsOver}
use Rattle.turn_semantics.specs.Wakes.{Wake, begins, sees, gives_up, is_due, has_answer, is_granted, settles, CanWake, from_start, from_asking, from_sleep, from_due, from_seen_waiting, from_set, from_granted, from_seen_queued, from_deadlock, from_giving_up, from_wait}
use Rattle.interleavings.specs.Interleaving.{Started}
use Rattle.interleavings.specs.Going.{task_after_turn, children_from}
use Rattle.interleavings.specs.Woken.{MayWake, WaitIsOver}
use Rattle.interleavings.specs.Runs.{keeping, turn, Front, is_front, after_one, turns_taken}
use Rattle.interleavings.proofs.Picking.{SameTasks, front_same}
use Rattle.interleavings.proofs.Readings.{in_first, in_second, in_either}
use Rattle.run_refinement.specs.RunState.{Interleaving, AreApart}
use Rattle.run_refinement.specs.Turn.{child_at}

-- ---- any task may be taken to the front

-- the others, where one is taken to the front
pub record Others (q : Started) (qs : List Started) : Type 0 where
  pub others : List Started
  pub front : Front q qs others

-- any task of a run may be taken to the front
pub front_of : (q : Started) (qs : List Started) → IsAmong q qs → Others q qs
front_of q [] i = absurd i
front_of q (x ∷ qs) (inl e) = subst (λ (y : Started). Others q (y ∷ qs)) e (record { others = qs; front = is_front q qs })
front_of q (x ∷ qs) (inr i) =
    let o = front_of q qs i in record { others = x ∷ o.others; front = after_one q x qs o.others o.front }

apart_front : (q : Started) (qs others : List Started) → Front q qs others → AreApart qs → AreApart (q ∷ others)
apart_front q _ _ (is_front q' qs') a = a
apart_front q _ _ (after_one q' x qs' others' at) a =
    let inner = apart_front q' qs' others' at a.1 in
    let same = front_same q' qs' others' at in
    (by_either inner.0 (same.back q' (inl refl)), (λ y i e. a.0 y (same.back y (inr i)) e, inner.1))
  where
    by_either : ((y : Started) → IsAmong y others' → y.serial ≢ q'.serial) → IsAmong q' qs' → (y : Started) → IsAmong y (x ∷ others') →
        y.serial ≢ q'.serial
    by_either inner there y (inl e) f = a.0 q' there (sym f ∙ ap (λ (z : Started). z.serial) e)
    by_either inner there y (inr i) f = inner y i f

-- ---- the children begun, by their serial numbers

-- the child at this index, where the first has this serial number
abbrev nth_child : Tables → ℕ → ℕ → List Begun → ℕ → Started → Started
nth_child k t m [] i d = d
nth_child k t m (b ∷ bs) zero d = child_at k t m b
nth_child k t m (b ∷ bs) (suc i) d = nth_child k t (suc m) bs i d

nth_in : (k : Tables) (t m : ℕ) (bs : List Begun) (i : ℕ) (d : Started) → i < length bs →
    IsAmong (nth_child k t m bs i d) (children_from k t m bs) × ((nth_child k t m bs i d).serial ≡ m + i)
unfolding children_from
nth_in k t m [] i d less = absurd (omega (arith, less))
nth_in k t m (b ∷ bs) zero d less = (inl refl, omega arith)
nth_in k t m (b ∷ bs) (suc i) d less = let h = nth_in k t (suc m) bs i d (omega (arith, less)) in (inr h.0, let e = h.1 in omega (arith, e))

-- the child at an index of those begun
record IsNth (k : Tables) (t m : ℕ) (bs : List Begun) (d x : Started) : Type 0 where
  pub index : ℕ
  pub below : index < length bs
  pub serial : x.serial ≡ m + index
  pub is : x ≡ nth_child k t m bs index d

in_nth : (k : Tables) (t m : ℕ) (bs : List Begun) (d x : Started) → IsAmong x (children_from k t m bs) → IsNth k t m bs d x
unfolding children_from
in_nth k t m [] d x i = absurd i
in_nth k t m (b ∷ bs) d x (inl e) =
    record { index = 0; below = omega arith; serial = ap (λ (y : Started). y.serial) e ∙ omega arith; is = e }
in_nth k t m (b ∷ bs) d x (inr i) =
    let h = in_nth k t (suc m) bs d x i in
    record {
      index = suc h.index;
      below = (let e = h.below in omega (arith, e));
      serial = (let e = h.serial in omega (arith, e));
      is =
          h.is;
    }

nth_at : (k : Tables) (t m : ℕ) (bs : List Begun) (i : ℕ) (d : Started) (b : Begun) → slice_get bs i ≡ Some b →
    nth_child k t m bs i d ≡ child_at k t (m + i) b
nth_at k t m [] i d b e = absurd (let f : None ≡ Some b = e in cc)
nth_at k t m (c ∷ bs) zero d b e =
    let f : Some c ≡ Some b = e in let g : c ≡ b = cc in let n : m ≡ m + 0 = omega arith in
    ap (λ (x : Begun). child_at k t m x) g ∙ ap (λ (x : ℕ). child_at k t x b) n
nth_at k t m (c ∷ bs) (suc i) d b e =
    let n : suc m + i ≡ m + suc i = omega arith in nth_at k t (suc m) bs i d b e ∙ ap (λ (x : ℕ). child_at k t x b) n

nth_past : (k : Tables) (t m : ℕ) (bs : List Begun) (i : ℕ) (d : Started) → length bs ≤ i → nth_child k t m bs i d ≡ d
nth_past k t m [] i d le = refl
nth_past k t m (b ∷ bs) zero d le = absurd (omega (arith, le))
nth_past k t m (b ∷ bs) (suc i) d le = nth_past k t (suc m) bs i d (omega (arith, le))

children_apart : (k : Tables) (t m : ℕ) (bs : List Begun) → AreApart (children_from k t m bs)
unfolding children_from
children_apart k t m [] = tt
children_apart k t m (b ∷ bs) =
    (λ x i e. let h = in_nth k t (suc m) bs x x i in let g = h.serial in absurd (omega (arith, e, g)), children_apart k t (suc m) bs)

apart_append : (xs ys : List Started) → AreApart xs → AreApart ys → ((x y : Started) → IsAmong x xs → IsAmong y ys → y.serial ≢ x.serial) →
    AreApart (xs ++ ys)
apart_append [] ys a b differ = b
apart_append (x ∷ xs) ys a b differ = (by_part, apart_append xs ys a.1 b (λ y z i j. differ y z (inr i) j))
  where
    by_either : (y : Started) → IsAmong y xs ⊎ IsAmong y ys → y.serial ≢ x.serial
    by_either y (inl i) = a.0 y i
    by_either y (inr i) = differ x y (inl refl) i

    by_part : (y : Started) → IsAmong y (xs ++ ys) → y.serial ≢ x.serial
    by_part y i = by_either y (in_either y xs ys i)

-- ---- what may wake a task, where the tasks are in another order

wait_moved : (qs rs : List Started) (q : Started) (t : ℕ) (children : List ℕ) (ended : ℕ) (e x : Option Exc) →
    ((c : Started) → IsAmong c rs → IsAmong c qs) →
    WaitIsOver qs q t children ended e x → WaitIsOver rs q t children ended e x
wait_moved qs rs q t children ended e x back h =
    record { ends = h.ends; numbers = h.numbers; over = λ i among c is serial. h.over i among c (back c is) serial; settled = h.settled }

-- a task that may be woken among some tasks may be woken among fewer of them
pub may_moved : (f : Tables) (qs rs : List Started) (now : Now) (q : Started) (w : Wake) (s : Stopped) →
    ((c : Started) → IsAmong c rs → IsAmong c qs) → MayWake f qs now q w s → MayWake f rs now q w s
may_moved f qs rs now q begins to_begin back h = h
may_moved f qs rs now q (has_answer a) (asking k p) back h = h
may_moved f qs rs now q is_due (asleep paced n u) back h = h
may_moved f qs rs now q sees (asleep paced n u) back h = h
may_moved f qs rs now q is_due (waiting_for event u) back h = h
may_moved f qs rs now q sees (waiting_for event u) back h = h
may_moved f qs rs now q (is_granted what) (queued object ask u body) back h = h
may_moved f qs rs now q sees (queued object ask u body) back h = h
may_moved f qs rs now q is_due (queued object ask u body) back h = h
may_moved f qs rs now q gives_up (giving_up u) back h = h
may_moved f qs rs now q (settles x) (awaiting cs u e) back h = (wait_moved qs rs q now.at cs u e x back h.0, h.1)
may_moved f qs rs now q _ _ back h = absurd h

-- and such a wake can come of its stop
pub may_can : (f : Tables) (qs : List Started) (now : Now) (q : Started) (w : Wake) (s : Stopped) → MayWake f qs now q w s → CanWake w s
may_can f qs now q begins to_begin h = from_start
may_can f qs now q (has_answer a) (asking k p) h = from_asking
may_can f qs now q is_due (asleep paced n u) h = from_due
may_can f qs now q sees (asleep paced n u) h = from_sleep
may_can f qs now q is_due (waiting_for event u) h = from_set
may_can f qs now q sees (waiting_for event u) h = from_seen_waiting
may_can f qs now q (is_granted what) (queued object ask u body) h = from_granted
may_can f qs now q sees (queued object ask u body) h = from_seen_queued
may_can f qs now q is_due (queued object ask u body) h = from_deadlock
may_can f qs now q gives_up (giving_up u) h = from_giving_up
may_can f qs now q (settles x) (awaiting cs u e) h = from_wait
may_can f qs now q _ _ h = absurd h

-- ---- the run after a turn

-- which task has a serial number: the one that had its turn, another, or a child begun
abbrev picked : Bool → Bool → Started → Started → Started → Started
picked true b turned_now old new = turned_now
picked false true turned_now old new = old
picked false false turned_now old new = new

-- The run with the turn taken, and what it has at each serial number.
pub record WentOn
    (k : Tables) (job : Job) (input : List ℕ) (t m s : ℕ) (own : List Label) (was : Interleaving k job input t m) (o : Move)
    (stopped : Stopped) :
    Type 0
  where
    pub is : Interleaving k job input t (m + length o.begun)
    pub counts : turns_taken is.reached ≡ turns_taken was.reached + 1
    pub cancelled_from : is.cancelled_from ≡ cancelled_from_after was.cancelled_from o.made
    pub of_task : is.at s ≡ task_after_turn k (record { at = t; own = own }) m (was.at s) o stopped
    pub of_child : (i : ℕ) (b : Begun) → slice_get o.begun i ≡ Some b → is.at (m + i) ≡ child_at k (a_round_after (was.at s).here.clock t)
        (m + i) b
    pub of_other : (p : ℕ) → p < m → p ≢ s → is.at p ≡ was.at p

-- a turn of a task that may be woken so takes a run on
pub went_on : (k : Tables) (job : Job) (input : List ℕ) (t m s : ℕ) (own : List Label) (was : Interleaving k job input t m) (wake : Wake)
    (o : Move) (stopped : Stopped) → s < m →
    MayWake (keeping was.cancelled_from k) was.tasks (record { at = t; own = own }) (was.at s) wake (was.at s).rest.stopped →
    TurnsOver (was.at s).stop (record { at = t; own = own }) (was.at s).here was.cancelled_from wake (was.at s).rest (was.at s).places
    (was.at s).count o →
    o.stopped ≡ Some stopped →
    WentOn k job input t m s own was o stopped
went_on k job input t m s own was wake o stopped less may goes stops =
    record {
      is =
          record {
            cancelled_from = cancelled_from_after was.cancelled_from o.made;
            tasks = (task_after_turn k now m q o stopped ∷ children_from k later m o.begun) ++ others;
            reached =
                turn was.cancelled_from now m q was.tasks others wake o stopped was.reached front.front
                (may_moved (keeping was.cancelled_from k) was.tasks (q ∷ others) now q wake q.rest.stopped same.back may) goes stops;
            at = at_after;
            has = has_after;
            one = one_after;
            differ = differ_after;
            none = none_after;
          };
      counts = refl;
      cancelled_from = refl;
      of_task = at_task;
      of_child = λ i b e. at_child i ∙ nth_at k later m o.begun i (was.at (m + i)) b e;
      of_other = at_other;
    }
  where
    q : Started
    q = was.at s

    now : Now
    now = record { at = t; own = own }

    later : ℕ
    later = a_round_after q.here.clock t

    front : Others q was.tasks
    front = front_of q was.tasks (was.has s less).0

    others : List Started
    others = front.others

    same : SameTasks was.tasks (q ∷ others)
    same = front_same q was.tasks others front.front

    apart : AreApart (q ∷ others)
    apart = apart_front q was.tasks others front.front was.differ

    at_after : ℕ → Started
    at_after p = picked (p == s) (nat_lt p m) (task_after_turn k now m q o stopped) (was.at p)
        (nth_child k later m o.begun (p - m) (was.at p))

    at_task : at_after s ≡ task_after_turn k now m q o stopped
    at_task = ap (λ (b : Bool). picked b (nat_lt s m) (task_after_turn k now m q o stopped) (was.at s)
        (nth_child k later m o.begun (s - m) (was.at s)))
        (eq-eqb s s refl)

    at_other : (p : ℕ) → p < m → p ≢ s → at_after p ≡ was.at p
    at_other p lt differs = by_same (p == s) refl (nat_lt p m) refl
      where
        by_same : (b : Bool) → (p == s) ≡ b → (c : Bool) → nat_lt p m ≡ c →
            picked b c (task_after_turn k now m q o stopped) (was.at p) (nth_child k later m o.begun (p - m) (was.at p)) ≡ was.at p
        by_same true e c f = absurd (differs (eqb-true p s e))
        by_same false e true f = refl
        by_same false e false f = absurd (grind (arith, nat_tests))

    at_born : (p : ℕ) → m ≤ p → at_after p ≡ nth_child k later m o.begun (p - m) (was.at p)
    at_born p le = by_same (p == s) refl (nat_lt p m) refl
      where
        by_same : (b : Bool) → (p == s) ≡ b → (c : Bool) → nat_lt p m ≡ c →
            picked b c (task_after_turn k now m q o stopped) (was.at p) (nth_child k later m o.begun (p - m) (was.at p))
            ≡ nth_child k later m o.begun (p - m) (was.at p)
        by_same true e c f = absurd (let g : p ≡ s = eqb-true p s e in omega (arith, g, le, less))
        by_same false e true f = absurd (grind (arith, nat_tests))
        by_same false e false f = refl

    at_child : (i : ℕ) → at_after (m + i) ≡ nth_child k later m o.begun i (was.at (m + i))
    at_child i = at_born (m + i) (omega arith) ∙ ap (λ (x : ℕ). nth_child k later m o.begun x (was.at (m + i)))
        (let e : m + i - m ≡ i = omega arith in e)

    has_old : (p : ℕ) → p < m → p ≢ s → IsAmong (was.at p) others
    has_old p lt differs = by_either (same.forth (was.at p) (was.has p lt).0)
      where
        by_either : IsAmong (was.at p) (q ∷ others) → IsAmong (was.at p) others
        by_either (inl e) = absurd (differs (sym (was.has p lt).1 ∙ ap (λ (x : Started). x.serial) e ∙ (was.has s less).1))
        by_either (inr i) = i

    has_after : (p : ℕ) → p < m + length o.begun → IsAmong (at_after p) ((task_after_turn k now m q o stopped ∷ children_from k later m o.begun)
        ++ others)
        × ((at_after p).serial ≡ p)
    has_after p lt = by_same (p == s) refl (nat_lt p m) refl
      where
        Has : Started → Type 0
        Has x = IsAmong x ((task_after_turn k now m q o stopped ∷ children_from k later m o.begun) ++ others) × (x.serial ≡ p)

        by_same : (b : Bool) → (p == s) ≡ b → (c : Bool) → nat_lt p m ≡ c → Has (at_after p)
        by_same true e c f =
            let g : p ≡ s = eqb-true p s e in
            subst Has (sym (ap at_after g ∙ at_task)) (inl refl, (was.has s less).1 ∙ sym g)
        by_same false e true f =
            let lower : p < m = grind (arith, nat_tests) in
            let differs : p ≢ s = λ g. absurd (let x : true ≡ false = sym (eq-eqb p s g) ∙ e in cc) in
            subst Has (sym (at_other p lower differs)) (
              in_second (was.at p) (task_after_turn k now m q o stopped ∷ children_from k later m o.begun) others (has_old p lower differs),
              (was.has p lower).1,
            )
        by_same false e false f =
            let upper : m ≤ p = grind (arith, nat_tests) in
            let h = nth_in k later m o.begun (p - m) (was.at p) (omega (arith, lt, upper)) in
            subst Has (sym (at_born p upper)) (
              inr (in_first (nth_child k later m o.begun (p - m) (was.at p)) (children_from k later m o.begun) others h.0),
              (let e = h.1 in omega (arith, e, upper)),
            )

    one_after : (x : Started) → IsAmong x ((task_after_turn k now m q o stopped ∷ children_from k later m o.begun) ++ others) →
        (x ≡ at_after x.serial)
        × (x.serial < m + length o.begun)
    one_after x i = by_part (in_either x (task_after_turn k now m q o stopped ∷ children_from k later m o.begun) others i)
      where
        by_part : IsAmong x (task_after_turn k now m q o stopped ∷ children_from k later m o.begun) ⊎ IsAmong x others → (x ≡ at_after x.serial)
            × (x.serial < m + length o.begun)
        by_part (inl (inl e)) =
            let is_s : x.serial ≡ s = ap (λ (y : Started). y.serial) e ∙ (was.has s less).1 in
            (e ∙ sym at_task ∙ ap at_after (sym is_s), omega (arith, is_s, less))
        by_part (inl (inr j)) =
            let h = in_nth k later m o.begun (was.at x.serial) x j in
            let upper : m ≤ x.serial = (let e = h.serial in omega (arith, e)) in
            let index : h.index ≡ x.serial - m = (let e = h.serial in omega (arith, e)) in (
              h.is ∙ ap (λ (n : ℕ). nth_child k later m o.begun n (was.at x.serial)) index
                  ∙ sym (at_born x.serial upper),
              (let e = h.serial in let f = h.below in omega (arith, e, f)),
            )
        by_part (inr j) =
            let h = was.one x (same.back x (inr j)) in
            let differs : x.serial ≢ s = λ e. absurd (apart.0 x j (e ∙ sym (was.has s less).1)) in
            (h.0 ∙ sym (at_other x.serial h.1 differs), (let e = h.1 in omega (arith, e)))

    differ_after : AreApart ((task_after_turn k now m q o stopped ∷ children_from k later m o.begun) ++ others)
    differ_after =
        (by_part, apart_append (children_from k later m o.begun) others (children_apart k later m o.begun) apart.1 after)
      where
        after : (x y : Started) → IsAmong x (children_from k later m o.begun) → IsAmong y others → y.serial ≢ x.serial
        after x y i j e =
            let h = in_nth k later m o.begun x x i in let g = (was.one y (same.back y (inr j))).1 in let z =
            h.serial in absurd (omega (arith, e, g, z))

        by_either : (x : Started) → IsAmong x (children_from k later m o.begun) ⊎ IsAmong x others → x.serial ≢ q.serial
        by_either x (inl i) e =
            let h = in_nth k later m o.begun x x i in let g = (was.has s less).1 in let z =
            h.serial in absurd (omega (arith, e, g, z, less))
        by_either x (inr i) e = apart.0 x i e

        by_part : (x : Started) → IsAmong x (children_from k later m o.begun ++ others) → x.serial ≢ q.serial
        by_part x i = by_either x (in_either x (children_from k later m o.begun) others i)

    none_after : (p : ℕ) → m + length o.begun ≤ p → (at_after p).made ≡ []
    none_after p le =
        ap (λ (x : Started). x.made) (at_born p (omega (arith, le)) ∙ nth_past k later m o.begun (p - m) (was.at p) (omega (arith, le)))
        ∙ was.none p (omega (arith, le))
