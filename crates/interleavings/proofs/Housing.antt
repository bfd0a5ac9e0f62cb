-- Each task of a run is in a nursery of the task that started it, until it has ended.
use Rattle.turn_semantics.specs.Lists.{IsAmong}
use Rattle.cancel_scopes.specs.Sight.{Tick}
use Rattle.std.proofs.Common.{◌≡◌, ◌⊎◌, inl, inr, ℕ, zero, suc, ◌+◌, ◌-◌, ◌<◌, ◌≤◌, true, false, Option, Some, List, [], ◌∷◌, ◌++◌, length, refl, sym, ap, ◌∙◌, subst, arith}
use Rattle.job_tree.specs.Tree.{Tree}
use Rattle.exceptions.specs.Exceptions.{Label}
use Rattle.job_meaning.specs.Log.{Table}
use Rattle.job_meaning.specs.Moments.{a_round_after, Now}
use Rattle.job_meaning.specs.Rest.{Event, noted, signs, enters, acts, starts, Frame, steps_left, in_scope, in_event, with_token, with_part, in_nursery, in_repeat, in_try, in_handler, in_cleanup, Stopped, to_begin, asking, asleep, waiting_for, queued, giving_up, awaiting, at_end}
use Rattle.turn_semantics.specs.Midway.{Place, Tables, Begun, Move}
use Rattle.turn_semantics.specs.Placed.{PlacedStop, PlacedAfter, home_after, AllBelow, KidsBelow, KidsAfter, HasChild, WaitsFor, HasChildAfter, AllHoused}
use Rattle.turn_semantics.specs.Wakes.{Wake, begins, sees, gives_up, is_due, has_answer, is_granted, settles}
use Rattle.turn_semantics.specs.Turned.{labels_of, AllKnown, known_after, EntersIn, Starts, BegunIn, TurnsOver}
use Rattle.interleavings.specs.Interleaving.{Started, EachPlace, EntersWith, times_made, made_times, all_times, live}
use Rattle.interleavings.specs.Going.{root_task, children_from, task_after_turn}
use Rattle.interleavings.specs.Woken.{MayWake}
use Rattle.interleavings.specs.Runs.{keeping, Reached, begun, turn, jump}
use Rattle.interleavings.specs.Laws.{Home, home_of, IsHoused, TasksAreHoused, LastToLeave}
use Rattle.interleavings.proofs.Picking.{SameTasks, front_same}
use Rattle.interleavings.proofs.Readings.{in_second, in_either, made_few, made_counted, enters_too, enters_counted}
use Rattle.interleavings.proofs.Contract.{known_of, each_known}
use Rattle.interleavings.proofs.Turning.{old_child, later_child}
use Rattle.interleavings.proofs.Running.{begun_small, runs_keep_invariant}

-- ---- numbers of children

among_below : (n i : ℕ) (is : List ℕ) → AllBelow n is → IsAmong i is → i < n
among_below n i [] b a = absurd a
among_below n i (j ∷ is) b (inl e) = let x : j < n = b.0 in omega arith
among_below n i (j ∷ is) b (inr a) = among_below n i is b.1 a

child_below : (n i : ℕ) (home : List Place) (fs : List Frame) (ps : List Place) → KidsBelow n fs → HasChild i home fs ps → i < n
child_below n i home [] ps b h = absurd h
child_below n i home (steps_left ss ∷ fs) ps b h = child_below n i home fs ps b h
child_below n i home (in_scope fail ∷ fs) [] b h = absurd h
child_below n i home (in_scope fail ∷ fs) (p ∷ ps) b h = child_below n i home fs ps b h
child_below n i home (in_event ∷ fs) [] b h = absurd h
child_below n i home (in_event ∷ fs) (p ∷ ps) b h = child_below n i home fs ps b h
child_below n i home (with_token limiter ∷ fs) ps b h = child_below n i home fs ps b h
child_below n i home (with_part received ∷ fs) ps b h = child_below n i home fs ps b h
child_below n i home (in_nursery children ∷ fs) [] b h = absurd h
child_below n i home (in_nursery children ∷ fs) (p ∷ ps) b (inl a) = among_below n i children b.0 a.0
child_below n i home (in_nursery children ∷ fs) (p ∷ ps) b (inr h) = child_below n i home fs ps b.1 h
child_below n i home (in_repeat pass left cuts body ∷ fs) ps b h = child_below n i home fs ps b h
child_below n i home (in_try handler cleanup ∷ fs) ps b h = child_below n i home fs ps b h
child_below n i home (in_handler rest cleanup ∷ fs) ps b h = child_below n i home fs ps b h
child_below n i home (in_cleanup outcome ∷ fs) ps b h = child_below n i home fs ps b h

-- the children of a stopped task are below its count
stop_below : (n i : ℕ) (home : List Place) (s : Stopped) (fs : List Frame) (ps : List Place) → KidsAfter n (Some s) fs →
    HasChildAfter i home (Some s) fs ps → i < n
stop_below n i home to_begin fs ps b (inr h) = child_below n i home fs ps b h
stop_below n i home (asking kernel purpose) fs ps b (inr h) = child_below n i home fs ps b h
stop_below n i home (asleep paced m since) fs ps b (inr h) = child_below n i home fs ps b h
stop_below n i home (waiting_for event since) fs ps b (inr h) = child_below n i home fs ps b h
stop_below n i home (queued object ask since body) fs ps b (inr h) = child_below n i home fs ps b h
stop_below n i home (giving_up since) fs ps b (inr h) = child_below n i home fs ps b h
stop_below n i home (awaiting children ended exc) fs [] b (inr h) = child_below n i home fs [] b.1 h
stop_below n i home (awaiting children ended exc) fs (p ∷ ps) b (inl a) = among_below n i children b.0 a.0
stop_below n i home (awaiting children ended exc) fs (p ∷ ps) b (inr h) = child_below n i home fs ps b.1 h
stop_below n i home (at_end u e) fs ps b (inr h) = child_below n i home fs ps b h
stop_below n i home to_begin fs ps b (inl h) = absurd h
stop_below n i home (asking kernel purpose) fs ps b (inl h) = absurd h
stop_below n i home (asleep paced m since) fs ps b (inl h) = absurd h
stop_below n i home (waiting_for event since) fs ps b (inl h) = absurd h
stop_below n i home (queued object ask since body) fs ps b (inl h) = absurd h
stop_below n i home (giving_up since) fs ps b (inl h) = absurd h
stop_below n i home (awaiting children ended exc) fs [] b (inl h) = absurd h
stop_below n i home (at_end u e) fs ps b (inl h) = absurd h

-- ---- which tasks may be woken

-- a task that may be woken has not ended
wakes_live : (f : Tables) (qs : List Started) (t : Now) (q : Started) (w : Wake) (s : Stopped) → MayWake f qs t q w s → live s ≡ true
wakes_live f qs t q w to_begin h = refl
wakes_live f qs t q w (asking kernel purpose) h = refl
wakes_live f qs t q w (asleep paced n since) h = refl
wakes_live f qs t q w (waiting_for event since) h = refl
wakes_live f qs t q w (queued object ask since body) h = refl
wakes_live f qs t q w (giving_up since) h = refl
wakes_live f qs t q w (awaiting children ended exc) h = refl
wakes_live f qs t q begins (at_end u e) h = absurd h
wakes_live f qs t q sees (at_end u e) h = absurd h
wakes_live f qs t q gives_up (at_end u e) h = absurd h
wakes_live f qs t q is_due (at_end u e) h = absurd h
wakes_live f qs t q (has_answer a) (at_end u e) h = absurd h
wakes_live f qs t q (is_granted what) (at_end u e) h = absurd h
wakes_live f qs t q (settles x) (at_end u e) h = absurd h

-- and none for which it waited is live
none_waited : (f : Tables) (qs : List Started) (t : Now) (q : Started) (w : Wake) (s : Stopped) (ps : List Place) → MayWake f qs t q w s →
    (i : ℕ) (home : List Place) → WaitsFor i home (Some s) ps → (c : Started) → IsAmong c qs → c.serial ≡ q.child i →
    live c.rest.stopped ≡ true → ⊥
none_waited f qs t q (settles x) (awaiting children ended e) (p ∷ ps) h i home a c among serial l =
    let y : c.rest.stopped ≡ at_end (h.0.ends i).end (h.0.ends i).exc = h.0.over i a.0 c among serial in
    let z : live c.rest.stopped ≡ false = ap live y in
    absurd (cc)
none_waited f qs t q begins (awaiting children ended e) (p ∷ ps) h i home a c among serial l = absurd h
none_waited f qs t q sees (awaiting children ended e) (p ∷ ps) h i home a c among serial l = absurd h
none_waited f qs t q gives_up (awaiting children ended e) (p ∷ ps) h i home a c among serial l = absurd h
none_waited f qs t q is_due (awaiting children ended e) (p ∷ ps) h i home a c among serial l = absurd h
none_waited f qs t q (has_answer b) (awaiting children ended e) (p ∷ ps) h i home a c among serial l = absurd h
none_waited f qs t q (is_granted what) (awaiting children ended e) (p ∷ ps) h i home a c among serial l = absurd h
none_waited f qs t q w (awaiting children ended e) [] h i home a c among serial l = absurd a
none_waited f qs t q w to_begin ps h i home a c among serial l = absurd a
none_waited f qs t q w (asking kernel purpose) ps h i home a c among serial l = absurd a
none_waited f qs t q w (asleep paced n since) ps h i home a c among serial l = absurd a
none_waited f qs t q w (waiting_for event since) ps h i home a c among serial l = absurd a
none_waited f qs t q w (queued object ask since body) ps h i home a c among serial l = absurd a
none_waited f qs t q w (giving_up since) ps h i home a c among serial l = absurd a
none_waited f qs t q w (at_end u e) ps h i home a c among serial l = absurd a

-- ---- labels of enclosing scopes and nurseries

-- what is true for the label of each enclosing scope or nursery is true for a label among them
at_place : (P : Label → Type 0) (l : Label) (ps : List Place) → EachPlace P ps → IsAmong l (labels_of ps) → P l
at_place P l [] e k = absurd k
at_place P l (p ∷ ps) e (inl g) = subst P (sym g) e.0
at_place P l (p ∷ ps) e (inr k) = at_place P l ps e.1 k

all_after : (ps : List Place) (ls ms : List Label) → ((l : Label) → IsAmong l ls → IsAmong l ms) → AllKnown ps ls → AllKnown ps ms
all_after [] ls ms f a = tt
all_after (p ∷ ps) ls ms f a = (f p.label a.0, all_after ps ls ms f a.1)

all_themselves : (ps : List Place) → AllKnown ps (labels_of ps)
all_themselves [] = tt
all_themselves (p ∷ ps) = (inl refl, all_after ps (labels_of ps) (p.label ∷ labels_of ps) (λ l k. inr k) (all_themselves ps))

enters_before : (l : Label) (es more : List Event) → EntersIn l es → EntersIn l (es ++ more)
enters_before l [] more h = absurd h
enters_before l (noted t e ∷ es) more h = enters_before l es more h
enters_before l (signs m t ∷ es) more h = enters_before l es more h
enters_before l (enters m t d ∷ es) more (inl e) = inl e
enters_before l (enters m t d ∷ es) more (inr h) = inr (enters_before l es more h)
enters_before l (acts label moment done ∷ es) more h = enters_before l es more h
enters_before l (starts i m t ∷ es) more h = enters_before l es more h

enters_after : (l : Label) (es more : List Event) → EntersIn l more → EntersIn l (es ++ more)
enters_after l [] more h = h
enters_after l (noted t e ∷ es) more h = enters_after l es more h
enters_after l (signs m t ∷ es) more h = enters_after l es more h
enters_after l (enters m t d ∷ es) more h = inr (enters_after l es more h)
enters_after l (acts label moment done ∷ es) more h = enters_after l es more h
enters_after l (starts i m t ∷ es) more h = enters_after l es more h

-- ---- a turn

module _ (k : Tables) (f : Table) (now : Now) (m : ℕ) (q : Started) (ys : List Started) (wake : Wake) (o : Move) (s : Stopped)
    (all : (x : Started) → IsAmong x (q ∷ ys) → IsHoused (q ∷ ys) x) (may : MayWake (keeping f k) (q ∷ ys) now q wake q.rest.stopped)
    (goes : TurnsOver q.stop now q.here f wake q.rest q.places q.count o) (stopped : o.stopped ≡ Some s)
    (small : (x : Started) → IsAmong x (q ∷ ys) → x.serial < m) where
  -- the moment in which the new children begin
  abbrev next : ℕ
  next = a_round_after q.here.clock now.at

  abbrev q' : Started
  q' = task_after_turn k now m q o s

  abbrev new : List Started
  new = children_from k next m o.begun

  abbrev after_turn : List Started
  after_turn = (q' ∷ new) ++ ys

  -- what is said of where the task stopped
  here_stopped : (P : Option Stopped → Type 0) → P o.stopped → P (Some s)
  here_stopped P h = subst P stopped h

  -- a task's home before the turn is its home after it
  home_stays : (serial : ℕ) (home : List Place) → (x : Started) → IsAmong x (q ∷ ys) → x.serial ≡ serial → live x.rest.stopped ≡ true →
      Home (q ∷ ys) serial home → Home after_turn serial home
  home_stays serial home x i e l h = by_starter h.among
    where
      of_turned : (number : ℕ) → q.serial < serial → serial ≡ q.child number →
          HasChildAfter number home (Some q.rest.stopped) q.rest.frames q.places → Home after_turn serial home
      of_turned number earlier same has = record {
        starter = q';
        among = inl refl;
        earlier = earlier;
        number = number;
        same = same ∙ sym (old_child q.count q.child m number (stop_below q.count number home q.rest.stopped q.rest.frames q.places
            (all q (inl refl)).kids has));
        has = here_stopped (λ (z : Option Stopped). HasChildAfter number home z o.frames o.places) (by_wait has);
      }
        where
          by_wait : HasChildAfter number home (Some q.rest.stopped) q.rest.frames q.places →
              HasChildAfter number home o.stopped o.frames o.places
          by_wait (inl a) = absurd (none_waited (keeping f k) (q ∷ ys) now q wake q.rest.stopped q.places may number home a x i (e ∙ same) l)
          by_wait (inr a) = goes.stays number home a

      by_starter : IsAmong h.starter (q ∷ ys) → Home after_turn serial home
      by_starter (inl z) =
          of_turned h.number (subst (λ (v : Started). v.serial < serial) z h.earlier) (h.same ∙ ap (λ (v : Started). v.child h.number) z)
          (subst (λ (v : Started). HasChildAfter h.number home (Some v.rest.stopped) v.rest.frames v.places) z h.has)
      by_starter (inr j) = record {
        starter = h.starter;
        among = inr (in_second h.starter new ys j);
        earlier = h.earlier;
        number =
            h.number;
        same = h.same;
        has = h.has;
      }

  -- the task that had its turn
  turned_housed : IsHoused after_turn q'
  turned_housed = record {
    placed = here_stopped (λ (z : Option Stopped). PlacedAfter z o.frames o.places) goes.placed;
    kids = here_stopped (λ (z : Option Stopped). KidsAfter (q.count + length o.begun) z o.frames) (goes.kids (all q (inl refl)).kids);
    own = each_known (λ l. EntersIn l (q.made ++ o.made) ⊎ IsAmong l (labels_of (home_of q'))) (known_after (labels_of q.places) o.made)
        own_after o.places goes.places;
    home = λ l. at_home ((all q (inl refl)).home before);
  }
    where
      before : live q.rest.stopped ≡ true
      before = wakes_live (keeping f k) (q ∷ ys) now q wake q.rest.stopped may

      same_home : home_of q' ≡ home_of q
      same_home = here_stopped (λ (z : Option Stopped). home_after z o.frames o.places
          ≡ home_after (Some q.rest.stopped) q.rest.frames q.places) goes.at_home

      of_old : (l : Label) → EntersIn l q.made ⊎ IsAmong l (labels_of (home_of q)) → EntersIn l (q.made ++ o.made)
          ⊎ IsAmong l (labels_of (home_of q'))
      of_old l (inl h) = inl (enters_before l q.made o.made h)
      of_old l (inr h) = inr (subst (λ (ps : List Place). IsAmong l (labels_of ps)) (sym same_home) h)

      own_after : (l : Label) → IsAmong l (known_after (labels_of q.places) o.made) → EntersIn l (q.made ++ o.made)
          ⊎ IsAmong l (labels_of (home_of q'))
      own_after l h = by_time (known_of (labels_of q.places) o.made l h)
        where
          by_time : IsAmong l (labels_of q.places) ⊎ ((d : Tick) × EntersWith l d o.made) → EntersIn l (q.made ++ o.made)
              ⊎ IsAmong l (labels_of (home_of q'))
          by_time (inl k) = of_old l (at_place (λ n. EntersIn n q.made ⊎ IsAmong n (labels_of (home_of q))) l q.places (all q (inl refl)).own
              k)
          by_time (inr k) = inl (enters_after l q.made o.made (enters_too l k.0 o.made k.1))

      at_home : ((q.serial ≡ 0) × (home_of q ≡ [])) ⊎ Home (q ∷ ys) q.serial (home_of q) → ((q.serial ≡ 0) × (home_of q' ≡ []))
          ⊎ Home after_turn q.serial (home_of q')
      at_home (inl e) = inl (e.0, same_home ∙ e.1)
      at_home (inr h) = inr (subst (λ (ps : List Place). Home after_turn q.serial ps) (sym same_home)
          (home_stays q.serial _ q (inl refl) refl before h))

  -- the children that it began
  begun_housed : (i n j : ℕ) (es : List Event) (bs : List Begun) → Starts n es bs → n ≡ q.count + j → i ≡ m + j →
      BegunIn (known_after (labels_of q.places) o.made) bs →
      AllHoused bs o.stopped o.frames o.places → (x : Started) → IsAmong x (children_from k next i bs) → IsHoused after_turn x
  unfolding children_from
  begun_housed i n j es [] a e g b h x z = absurd z
  begun_housed i n j [] (c ∷ bs) a e g b h x z = absurd a
  begun_housed i n j (noted u y ∷ es) (c ∷ bs) a e g b h x z = begun_housed i n j es (c ∷ bs) a e g b h x z
  begun_housed i n j (signs l u ∷ es) (c ∷ bs) a e g b h x z = begun_housed i n j es (c ∷ bs) a e g b h x z
  begun_housed i n j (enters l u d ∷ es) (c ∷ bs) a e g b h x z = begun_housed i n j es (c ∷ bs) a e g b h x z
  begun_housed i n j (acts label moment done ∷ es) (c ∷ bs) a e g b h x z = begun_housed i n j es (c ∷ bs) a e g b h x z
  begun_housed i n j (starts v l u ∷ es) (c ∷ bs) a e g b h x (inr z) =
      begun_housed (suc i) (suc n) (suc j) es bs a.3 (omega arith) (omega arith) b.2 h.1 x z
  begun_housed i n j (starts v l u ∷ es) (c ∷ bs) a e g b h x (inl z) = subst (λ (y : Started). IsHoused after_turn y) (sym z) (record {
    placed = (b.1, tt);
    kids = tt;
    own = each_known (λ l. EntersIn l [] ⊎ IsAmong l (labels_of c.places)) (labels_of c.places) (λ l h. inr h) c.places
        (all_themselves c.places);
    home = λ live. inr (record {
      starter = q';
      among = inl refl;
      earlier = (let below : q.serial < m = small q (inl refl) in let at : i ≡ m + j = g in omega arith);
      number = c.number;
      same = serial ∙ sym (later_child q.count q.child m c.number counted);
      has = here_stopped (λ (y : Option Stopped). HasChildAfter c.number c.places y o.frames o.places) h.0;
    });
  })
    where
      numbered : c.number ≡ n
      numbered = a.1

      counted : q.count ≤ c.number
      counted = omega arith

      serial : i ≡ m + (c.number - q.count)
      serial = omega arith

  -- each task after the turn
  pub housed_after : (x : Started) → IsAmong x after_turn → IsHoused after_turn x
  housed_after x (inl e) = subst (λ (y : Started). IsHoused after_turn y) (sym e) turned_housed
  housed_after x (inr i) = by_place (in_either x new ys i)
    where
      by_place : IsAmong x new ⊎ IsAmong x ys → IsHoused after_turn x
      by_place (inl j) = begun_housed m q.count 0 o.made o.begun goes.starts (omega arith) (omega arith) goes.begun_in goes.housed x j
      by_place (inr j) = record { placed = h.placed; kids = h.kids; own = h.own; home = λ l. at_home l (h.home l) }
        where
          h : IsHoused (q ∷ ys) x
          h = all x (inr j)

          at_home : live x.rest.stopped ≡ true → ((x.serial ≡ 0) × (home_of x ≡ [])) ⊎ Home (q ∷ ys) x.serial (home_of x) →
              ((x.serial ≡ 0) × (home_of x ≡ [])) ⊎ Home after_turn x.serial (home_of x)
          at_home l (inl e) = inl e
          at_home l (inr g) = inr (home_stays x.serial _ x (inr j) refl l g)

-- ---- a run

housed_moved : (qs rs : List Started) → SameTasks qs rs → ((x : Started) → IsAmong x qs → IsHoused qs x) → (x : Started) → IsAmong x rs →
    IsHoused rs x
housed_moved qs rs same all x i = record { placed = h.placed; kids = h.kids; own = h.own; home = λ l. moved (h.home l) }
  where
    h : IsHoused qs x
    h = all x (same.back x i)

    moved : ((x.serial ≡ 0) × (home_of x ≡ [])) ⊎ Home qs x.serial (home_of x) → ((x.serial ≡ 0) × (home_of x ≡ []))
        ⊎ Home rs x.serial (home_of x)
    moved (inl e) = inl e
    moved (inr g) = inr (record {
      starter = g.starter;
      among = same.forth g.starter g.among;
      earlier = g.earlier;
      number = g.number;
      same =
          g.same;
      has = g.has;
    })

-- serial numbers are below the number of tasks started
pub serials_below : (k : Tables) (job : Tree) (input : List ℕ) (f : Table) (t m : ℕ) (qs : List Started) → Reached k job input f t m qs →
    (x : Started) → IsAmong x qs → x.serial < m
serials_below k job input f t m _ (begun f') x (inl e) = let a : x.serial ≡ 0 = ap (λ (z : Started). z.serial) e in omega arith
serials_below k job input f t m _ (begun f') x (inr i) = absurd i
serials_below k job input f t m _ (turn g now n p qs others wake o s r at may goes stopped) x (inl e) =
    let a : x.serial ≡ p.serial = ap (λ (z : Started). z.serial) e in
    let b : p.serial < n = serials_below k job input g now.at n qs r p ((front_same p qs others at).back p (inl refl)) in
    omega arith
serials_below k job input f t m _ (turn g now n p qs others wake o s r at may goes stopped) x (inr i) =
    by_place (λ j. serials_below k job input g now.at n qs r x j) (in_either x (children_from k (a_round_after p.here.clock now.at) n o.begun) others i)
  where
    by_place : (IsAmong x qs → x.serial < n) → IsAmong x (children_from k (a_round_after p.here.clock now.at) n o.begun) ⊎ IsAmong x others → x.serial < n + length o.begun
    by_place before (inl j) = begun_small k (a_round_after p.here.clock now.at) n o.begun x j
    by_place before (inr j) = let b : x.serial < n = before ((front_same p qs others at).back x (inr j)) in omega arith
serials_below k job input f t m qs (jump g v u n qs' r le blocked) x i = serials_below k job input g v n qs' r x i

-- each task of a run is housed
pub tasks_are_housed : TasksAreHoused
tasks_are_housed k job input inside f t m _ (begun f') q (inl e) =
    subst (λ (x : Started). IsHoused (root_task k job input ∷ []) x) (sym e)
    (record { placed = (inside, tt); kids = tt; own = tt; home = λ l. inl (refl, refl) })
tasks_are_housed k job input inside f t m _ (begun f') q (inr i) = absurd i
tasks_are_housed k job input inside f t m _ (turn g now n p qs others wake o s r at may goes stopped) q i =
    housed_after k g now n p others wake o s
    (housed_moved qs (p ∷ others) (front_same p qs others at) (λ x j. tasks_are_housed k job input inside g now.at n qs r x j))
    may goes stopped (λ x j. serials_below k job input g now.at n qs r x ((front_same p qs others at).back x j)) q i
tasks_are_housed k job input inside f t m qs (jump g v u n qs' r le blocked) q i = tasks_are_housed k job input inside g v n qs' r q i

-- ---- which tasks are in a scope or nursery

-- the home of a child is among the scopes and nurseries that enclose the task that has it
home_among : (i : ℕ) (l : Label) (home : List Place) (fs : List Frame) (ps : List Place) → HasChild i home fs ps →
    IsAmong l (labels_of home) → IsAmong l (labels_of ps)
home_among i l home [] ps h k = absurd h
home_among i l home (steps_left ss ∷ fs) ps h k = home_among i l home fs ps h k
home_among i l home (in_scope fail ∷ fs) [] h k = absurd h
home_among i l home (in_scope fail ∷ fs) (p ∷ ps) h k = inr (home_among i l home fs ps h k)
home_among i l home (in_event ∷ fs) [] h k = absurd h
home_among i l home (in_event ∷ fs) (p ∷ ps) h k = inr (home_among i l home fs ps h k)
home_among i l home (with_token limiter ∷ fs) ps h k = home_among i l home fs ps h k
home_among i l home (with_part received ∷ fs) ps h k = home_among i l home fs ps h k
home_among i l home (in_nursery children ∷ fs) [] h k = absurd h
home_among i l home (in_nursery children ∷ fs) (p ∷ ps) (inl a) k = subst (λ (rs : List Place). IsAmong l (labels_of rs)) a.1 k
home_among i l home (in_nursery children ∷ fs) (p ∷ ps) (inr h) k = inr (home_among i l home fs ps h k)
home_among i l home (in_repeat pass left cuts body ∷ fs) ps h k = home_among i l home fs ps h k
home_among i l home (in_try handler cleanup ∷ fs) ps h k = home_among i l home fs ps h k
home_among i l home (in_handler rest cleanup ∷ fs) ps h k = home_among i l home fs ps h k
home_among i l home (in_cleanup outcome ∷ fs) ps h k = home_among i l home fs ps h k

home_within : (i : ℕ) (l : Label) (home : List Place) (s : Stopped) (fs : List Frame) (ps : List Place) →
    HasChildAfter i home (Some s) fs ps →
    IsAmong l (labels_of home) → IsAmong l (labels_of ps)
home_within i l home to_begin fs ps (inl h) k = absurd h
home_within i l home to_begin fs ps (inr h) k = home_among i l home fs ps h k
home_within i l home (asking kernel purpose) fs ps (inl h) k = absurd h
home_within i l home (asking kernel purpose) fs ps (inr h) k = home_among i l home fs ps h k
home_within i l home (asleep paced n since) fs ps (inl h) k = absurd h
home_within i l home (waiting_for event since) fs ps (inl h) k = absurd h
home_within i l home (queued object ask since body) fs ps (inl h) k = absurd h
home_within i l home (giving_up since) fs ps (inl h) k = absurd h
home_within i l home (asleep paced n since) fs ps (inr h) k = home_among i l home fs ps h k
home_within i l home (waiting_for event since) fs ps (inr h) k = home_among i l home fs ps h k
home_within i l home (queued object ask since body) fs ps (inr h) k = home_among i l home fs ps h k
home_within i l home (giving_up since) fs ps (inr h) k = home_among i l home fs ps h k
home_within i l home (awaiting children ended exc) fs [] (inl h) k = absurd h
home_within i l home (awaiting children ended exc) fs [] (inr h) k = home_among i l home fs [] h k
home_within i l home (awaiting children ended exc) fs (p ∷ ps) (inl a) k = subst (λ (rs : List Place). IsAmong l (labels_of rs)) a.1 k
home_within i l home (awaiting children ended exc) fs (p ∷ ps) (inr h) k = inr (home_among i l home fs ps h k)
home_within i l home (at_end u e) fs ps (inl h) k = absurd h
home_within i l home (at_end u e) fs ps (inr h) k = home_among i l home fs ps h k

-- a task that has a child has not ended
has_live : (i : ℕ) (home : List Place) (s : Stopped) (fs : List Frame) (ps : List Place) → PlacedStop s fs ps →
    HasChildAfter i home (Some s) fs ps → live s ≡ true
has_live i home to_begin fs ps p h = refl
has_live i home (asking kernel purpose) fs ps p h = refl
has_live i home (asleep paced n since) fs ps p h = refl
has_live i home (waiting_for event since) fs ps p h = refl
has_live i home (queued object ask since body) fs ps p h = refl
has_live i home (giving_up since) fs ps p h = refl
has_live i home (awaiting children ended exc) fs ps p h = refl
has_live i home (at_end u e) fs ps p (inl h) = absurd h
has_live i home (at_end u e) fs ps p (inr h) = absurd (subst (λ (gs : List Frame). HasChild i home gs ps) p h)

-- a label that is entered at most once is entered by one task
one_enters : (l : Label) (qs : List Started) → made_times l qs ≤ 1 → (x y : Started) → IsAmong x qs → IsAmong y qs → 1 ≤ times_made l x.made →
    1 ≤ times_made l y.made → x ≡ y
unfolding made_times
one_enters l [] n x y i j a b = absurd i
one_enters l (z ∷ zs) n x y (inl e) (inl g) a b = e ∙ sym g
one_enters l (z ∷ zs) n x y (inl e) (inr j) a b =
    let c : 1 ≤ times_made l z.made = subst (λ (v : Started). 1 ≤ times_made l v.made) e a in
    let d : times_made l y.made ≤ made_times l zs = made_counted l y zs j in
    absurd (omega arith)
one_enters l (z ∷ zs) n x y (inr i) (inl g) a b =
    let c : 1 ≤ times_made l z.made = subst (λ (v : Started). 1 ≤ times_made l v.made) g b in
    let d : times_made l x.made ≤ made_times l zs = made_counted l x zs i in
    absurd (omega arith)
one_enters l (z ∷ zs) n x y (inr i) (inr j) a b = one_enters l zs (omega arith) x y i j a b

module _ (qs : List Started) (all : (x : Started) → IsAmong x qs → IsHoused qs x) (once : (l : Label) → made_times l qs ≤ 1)
    (l : Label) (q : Started) (i : IsAmong q qs) (h : EntersIn l q.made) where
  -- a label that encloses a live task encloses the task that entered it
  in_force : (n : ℕ) (x : Started) → IsAmong x qs → x.serial < n → live x.rest.stopped ≡ true → IsAmong l (labels_of x.places) →
      IsAmong l (labels_of q.places)
  in_force zero x j lt a k = absurd (omega arith)
  in_force (suc n) x j lt a k =
      by_own (λ y b c d. in_force n y b c d) (at_place (λ m. EntersIn m x.made ⊎ IsAmong m (labels_of (home_of x))) l x.places (all x j).own
      k)
    where
      Earlier : Type 0
      Earlier = (y : Started) → IsAmong y qs → y.serial < n → live y.rest.stopped ≡ true → IsAmong l (labels_of y.places) →
          IsAmong l (labels_of q.places)

      by_home : Earlier → IsAmong l (labels_of (home_of x)) → ((x.serial ≡ 0) × (home_of x ≡ [])) ⊎ Home qs x.serial (home_of x) →
          IsAmong l (labels_of q.places)
      by_home up g (inl e) = absurd (subst (λ (ps : List Place). IsAmong l (labels_of ps)) e.1 g)
      by_home up g (inr y) =
          let lower : y.starter.serial < x.serial = y.earlier in
          up y.starter y.among (omega arith)
          (has_live y.number (home_of x) y.starter.rest.stopped y.starter.rest.frames y.starter.places (all y.starter y.among).placed y.has)
          (home_within y.number l (home_of x) y.starter.rest.stopped y.starter.rest.frames y.starter.places y.has g)

      by_own : Earlier → EntersIn l x.made ⊎ IsAmong l (labels_of (home_of x)) → IsAmong l (labels_of q.places)
      by_own up (inl e) =
          subst (λ (z : Started). IsAmong l (labels_of z.places))
          (one_enters l qs (once l) x q j i (enters_counted l x.made e) (enters_counted l q.made h)) k
      by_own up (inr g) = by_home up g ((all x j).home a)

-- the task that leaves a scope or nursery is the last one in it
pub last_to_leave : LastToLeave
last_to_leave k job input names inside settled f t m qs r l q i h x j a w =
    in_force qs (λ y g. tasks_are_housed k job input inside f t m qs r y g) at_most l q i h (suc x.serial) x j (omega arith) a w
  where
    at_most : (n : Label) → made_times n qs ≤ 1
    at_most n =
        let c : all_times n qs ≤ 1 = (runs_keep_invariant k job input settled names inside f t m qs r).0.once n in
        let d : made_times n qs ≤ all_times n qs = made_few n qs in
        omega arith
