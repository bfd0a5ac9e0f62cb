-- Moves of the code, one after another.
use Rattle.std.proofs.Common.{◌≡◌, ◌⊎◌, inl, inr, ℕ, zero, suc, ◌+◌, ◌≤◌, Option, Some, None, List, [], ◌∷◌, ◌++◌, map, length, refl, ap, sym, ◌∙◌, subst, append_assoc, length-append, arith}
use Rattle.std.proofs.lemmas.List.{append-nil, map-append}
use Rattle.std.proofs.lemmas.List.Elements.{All-nil, All-append}
use Rattle.std.specs.Option.{IsSomeAnd, option_map}
use Rattle.std.specs.List.{slice_get}
use Rattle.input_lines.specs.Part.{buffer_of}
use Rattle.input_lines.specs.declared.part.Part.{Part}
use Rattle.exceptions.specs.declared.exc.Exc as held
use Rattle.exceptions.specs.Held.{exc_of}
use Rattle.exceptions.specs.Exceptions.{Exc}
use Rattle.nursery_book.specs.Nursery.{End, Nursery}
use Rattle.nursery_book.specs.Book.{nursery_at, HasNursery}
use Rattle.nursery_book.specs.declared.book.NurseryBook.{NurseryBook}
use Rattle.job_meaning.specs.Log.{Table}
use Rattle.job_meaning.specs.Shown.{shown_at}
use Rattle.exceptions.specs.Exceptions.{Label}
use Rattle.job_meaning.specs.Moments.{tick_of, a_round_after, Now}
use Rattle.job_meaning.specs.declared.clock.Clock.{Clock}
use Rattle.job_meaning.specs.Walk.{Here}
use Rattle.job_meaning.specs.Rest as rest
use Rattle.job_meaning.specs.Rest.{Event, noted, signs, enters, acts, starts, Stopped}
use Rattle.task_machine.specs.declared.entry.Entry.{Entry}
use Rattle.task_machine.specs.Noted.{entry_of, IsSlice, shown_made, AreNoted}
use Rattle.turn_semantics.specs.Midway.{Place, Midway, Begun, Move, after_move, no_move, then_move, now_after}
use Rattle.turn_semantics.specs.Steps.{cancelled_from_after, step_of, turn_of}
use Rattle.turn_semantics.specs.Placed.{PlacedAfter, outer_places}
use Rattle.turn_semantics.specs.Names.{NewIn}
use Rattle.turn_semantics.proofs.Events.{cancelled_from_append, own_append}
use Rattle.turn_semantics.proofs.Turns.{turned_step}
use Rattle.turn_semantics.proofs.Names.{step_stays_new}
use Rattle.task_machine.specs.declared.frame.Frame.{Frame}
use Rattle.task_machine.specs.declared.stop.TaskState.{TaskState}
use Rattle.task_machine.specs.declared.stop.Moved.{Moved}
use Rattle.task_machine.specs.declared.stop.Moved.TheVariants.{On, Stops}
use Rattle.task_machine.specs.declared.task.Task.{Task}
use Rattle.task_machine.specs.Acts.{Acts, no_act, scoping_in}
use Rattle.task_machine.specs.Fitting.{Block, blocks_of}
use Rattle.task_machine.specs.Frames.{frames_of, Lent}
use Rattle.task_machine.specs.Stacked.{AreAt}
use Rattle.task_machine.specs.Standing.{HasBlock, HasNurseryOf, waits_by, Stands, IsBegun, AreBegun, BeginsAt, Grown, Grow, IsOfOther, EndsBy, Owns, Covers, ChangesNurseries, Took, midway_at}
use Rattle.task_machine.specs.Stops.{Numbers, MovesAs, OwnAfter}
use Rattle.task_machine.specs.States.{State, stack_in, lent_at}
use Rattle.task_machine.proofs.Acting.{has_or_not, acts_append, acts_stay}
use Rattle.task_machine.proofs.Begins.{begins_more, begins_last}
use Rattle.task_machine.proofs.Cancelled.{own_on, own_then}
use Rattle.task_machine.proofs.Lists.{got_first}
use Rattle.task_machine.proofs.Nurseries.{nurseries_same}
use Rattle.task_machine.proofs.Served.{unacted, served_then}

-- ---- one more step of a turn

-- no move after one adds nothing
nothing_more : (m : Midway) (o : Move) → o.stopped ≡ None → then_move None o (no_move (after_move m o)) ≡ o
nothing_more m o e = by_made ∙ by_begun ∙ by_stopped
  where
    by_made : then_move None o (no_move (after_move m o)) ≡ record o { begun = o.begun ++ []; stopped = None }
    by_made = ap (λ (es : List Event). record o { made = es; begun = o.begun ++ []; stopped = None }) (append-nil o.made)

    by_begun : (let p : Move = record o { begun = o.begun ++ []; stopped = None } in p) ≡ record o { stopped = None }
    by_begun = ap (λ (bs : List Begun). record o { begun = bs; stopped = None }) (append-nil o.begun)

    by_stopped : (let p : Move = record o { stopped = None } in p) ≡ o
    by_stopped = ap (λ (s : Option Stopped). record o { stopped = s }) (sym e)

nothing_then : (m : Midway) (s : Option Stopped) (o : Move) → o.stopped ≡ s → then_move s o (no_move (after_move m o)) ≡ o
nothing_then m None o e = nothing_more m o e
nothing_then m (Some s) o e = refl

-- moves one after another are grouped as one likes
grouped : (o p q : Move) (s : Option Stopped) → then_move None o (then_move s p q) ≡ then_move s (then_move None o p) q
grouped o p q (Some s) = refl
grouped o p q None =
    ap (λ (es : List Event). record q { made = es; begun = o.begun ++ (p.begun ++ q.begun) }) (sym (append_assoc o.made p.made q.made))
    ∙ ap (λ (bs : List Begun). record q { made = o.made ++ p.made ++ q.made; begun = bs }) (sym (append_assoc o.begun p.begun q.begun))

-- what a task does by the moments of cancellation of its world, by where it is in time, and by how far it is
module _ (f : Table → Now → Midway → Move) (clock : Clock) (cancelled_from : Table) (now : Now) (m : Midway) where
  -- a move after no move is that move
  after_nothing : f cancelled_from now m ≡ then_move None (no_move m) (f cancelled_from now (after_move m (no_move m)))
  after_nothing = ap (f cancelled_from now) by_count
    where
      zero_more : (n : ℕ) → n ≡ n + 0
      zero_more n = omega arith

      by_count : m ≡ after_move m (no_move m)
      by_count = ap (λ (n : ℕ). record m { count = n }) (zero_more m.count)

  -- the task after two moves, and the moments of cancellation then
  after_both : (o p : Move) →
      f (cancelled_from_after (cancelled_from_after cancelled_from o.made) p.made) (now_after clock (now_after clock now o.made) p.made)
      (after_move (after_move m o) p)
      ≡ f (cancelled_from_after cancelled_from (then_move None o p).made) (now_after clock now (then_move None o p).made) (after_move m (then_move None o p))
  after_both o p =
      ap (λ (fr : Table). f fr (now_after clock (now_after clock now o.made) p.made) (after_move (after_move m o) p))
      (sym (cancelled_from_append o.made p.made cancelled_from))
      ∙ ap (λ (own : List Label). f (cancelled_from_after cancelled_from (o.made ++ p.made)) (record { at = now.at; own = own })
      (after_move (after_move m o) p))
      (sym (own_append clock o.made p.made now.own))
      ∙ ap (λ (n : ℕ). f (cancelled_from_after cancelled_from (o.made ++ p.made)) (now_after clock now (o.made ++ p.made))
      (record { frames = p.frames; places = p.places; exc = p.exc; count = n }))
      (by_lengths m.count (length o.begun) (length p.begun) (length (o.begun ++ p.begun)) (length-append o.begun p.begun))
    where
      by_lengths : (n a b c : ℕ) → c ≡ a + b → n + a + b ≡ n + c
      by_lengths n a b c e = omega arith

  then_both : (s : Option Stopped) (o p : Move) → o.stopped ≡ s →
      then_move s o (then_move p.stopped p
      (f (cancelled_from_after (cancelled_from_after cancelled_from o.made) p.made) (now_after clock (now_after clock now o.made) p.made)
      (after_move (after_move m o) p)))
      ≡ (let b = then_move s o p in then_move b.stopped b (f (cancelled_from_after cancelled_from b.made) (now_after clock now b.made) (after_move m b)))
  then_both None o p e =
      grouped o p
      (f (cancelled_from_after (cancelled_from_after cancelled_from o.made) p.made) (now_after clock (now_after clock now o.made) p.made)
      (after_move (after_move m o) p))
      p.stopped
      ∙ ap (λ (q : Move). then_move p.stopped (then_move None o p) q) (after_both o p)
  then_both (Some s) o p e =
      ap (λ (z : Option Stopped). then_move z o (f (cancelled_from_after cancelled_from o.made) (now_after clock now o.made) (after_move m o))) (sym e)

-- a turn of one step more is the turn, and a step from where it led
pub turn_snoc : (n : ℕ) (cancelled_from : Table) (now : Now) (here : Here) (m : Midway) →
    (let o = turn_of n cancelled_from now here m in turn_of (suc n) cancelled_from now here m
    ≡ then_move o.stopped o (step_of (cancelled_from_after cancelled_from o.made) (now_after here.clock now o.made) here (after_move m o)))
unfolding turn_of
turn_snoc zero cancelled_from now here m =
    let o = step_of cancelled_from now here m in
    nothing_then m o.stopped o refl ∙ after_nothing (λ (fr : Table) (u : Now) (k : Midway). step_of fr u here k) here.clock cancelled_from now m
turn_snoc (suc n) cancelled_from now here m =
    let o = step_of cancelled_from now here m in
    ap (λ (q : Move). then_move o.stopped o q)
    (turn_snoc n (cancelled_from_after cancelled_from o.made) (now_after here.clock now o.made) here (after_move m o))
    ∙ then_both (λ (fr : Table) (u : Now) (k : Midway). step_of fr u here k) here.clock cancelled_from now m o.stopped o
    (turn_of n (cancelled_from_after cancelled_from o.made) (now_after here.clock now o.made) here (after_move m o)) refl

-- ---- what two moves noted and began

-- what is shown of events, and of more of them
pub shown_append : (clock : Clock) (input : List ℕ) (es fs : List Event) →
    shown_made clock input (es ++ fs) ≡ shown_made clock input es ++ shown_made clock input fs
shown_append clock input [] fs = refl
shown_append clock input (noted t e ∷ es) fs = ap (λ x. shown_at input (tick_of clock t) e ∷ x) (shown_append clock input es fs)
shown_append clock input (signs l t ∷ es) fs = shown_append clock input es fs
shown_append clock input (enters l t d ∷ es) fs = shown_append clock input es fs
shown_append clock input (acts l t a ∷ es) fs = shown_append clock input es fs
shown_append clock input (starts i l t ∷ es) fs = shown_append clock input es fs

noted_append : (clock : Clock) (input : List ℕ) (xs ys : List Entry) (es fs : List Event) → AreNoted clock input xs es →
    AreNoted clock input ys fs →
    AreNoted clock input (xs ++ ys) (es ++ fs)
noted_append clock input xs ys es fs h k =
    record {
      shown =
          map-append entry_of xs ys ∙ ap (λ x. x ++ map entry_of ys) h.shown ∙ ap (λ x. shown_made clock input es ++ x) k.shown
          ∙ sym (shown_append clock input es fs);
      slices = All-append (IsSlice input) xs ys h.slices k.slices;
    }

-- lists that grew twice
grew_twice : {A : Type 0} (xs ys zs more rest : List A) → ys ≡ xs ++ more → zs ≡ ys ++ rest → zs ≡ xs ++ (more ++ rest)
grew_twice xs ys zs more rest e f = f ∙ (ap (λ l. l ++ rest) e ∙ append_assoc xs more rest)

begun_append : (clock : Clock) (at : ℕ) (numbers : Numbers) (book : NurseryBook) (blocks : List Block) (waits : Option ℕ)
    (ts us : List Task) (bs cs : List Begun) →
    AreBegun clock at numbers book blocks waits ts bs → AreBegun clock at numbers book blocks waits us cs →
    AreBegun clock at numbers book blocks waits (ts ++ us) (bs ++ cs)
begun_append clock at numbers book blocks waits [] us [] cs h k = k
begun_append clock at numbers book blocks waits [] us (b ∷ bs) cs h k = absurd h
begun_append clock at numbers book blocks waits (t ∷ ts) us [] cs h k = absurd h
begun_append clock at numbers book blocks waits (t ∷ ts) us (b ∷ bs) cs h k =
    (h.0, begun_append clock at numbers book blocks waits ts us bs cs h.1 k)

-- ---- nurseries that grew

grown_number : (at : ℕ) (o : Option Nursery) (n : Nursery) (was are : List ℕ) (i x : ℕ) → IsSomeAnd o (λ m. Grown at n m was are) →
    slice_get was i ≡ Some x → slice_get are i ≡ Some x
grown_number at None n was are i x h e = absurd h
grown_number at (Some m) n was are i x h e = subst (λ (l : List ℕ). slice_get l i ≡ Some x) (sym h.numbers) (got_first was h.added i x e)

grown_home : (at : ℕ) (o : Option Nursery) (n : Nursery) (was are : List ℕ) (scope index : ℕ) → IsSomeAnd o (λ m. Grown at n m was are) →
    (n.scope ≡ scope) × (slice_get n.children index ≡ Some None) →
    IsSomeAnd o (λ m. (m.scope ≡ scope) × (slice_get m.children index ≡ Some None))
grown_home at None n was are scope index h e = absurd h
grown_home at (Some m) n was are scope index h e = (
  h.scope ∙ e.0,
  subst (λ (es : List End). slice_get es index ≡ Some None) (sym h.children)
      (got_first n.children h.more index None e.1),
)

-- where a member ended last, in both moves
last_twice : (at a b c : ℕ) → (b ≡ a) ⊎ (b ≡ at) → (c ≡ b) ⊎ (c ≡ at) → (c ≡ a) ⊎ (c ≡ at)
last_twice at a b c (inl e) (inl f) = inl (f ∙ e)
last_twice at a b c (inr e) (inl f) = inr (f ∙ e)
last_twice at a b c e (inr f) = inr f

grown_twice : (at : ℕ) (a b c : Nursery) (ns ms ks : List ℕ) → Grown at a b ns ms → Grown at b c ms ks → Grown at a c ns ks
grown_twice at a b c ns ms ks h k =
    record {
      scope = k.scope ∙ h.scope;
      waiter = k.waiter ∙ h.waiter;
      label = k.label ∙ h.label;
      more = h.more ++ k.more;
      children = grew_twice a.children b.children c.children h.more k.more h.children k.children;
      run = All-append (λ (e : End). e ≡ None) h.more k.more h.run k.run;
      added = h.added ++ k.added;
      numbers = grew_twice ns ms ks h.added k.added h.numbers k.numbers;
      last = last_twice at a.last b.last c.last h.last k.last;
    }

grown_then : (at : ℕ) (o : Option Nursery) (a b : Nursery) (ns ms ks : List ℕ) → Grown at a b ns ms →
    IsSomeAnd o (λ c. Grown at b c ms ks) →
    IsSomeAnd o (λ c. Grown at a c ns ks)
grown_then at None a b ns ms ks h k = absurd k
grown_then at (Some c) a b ns ms ks h k = grown_twice at a b c ns ms ks h k

-- a task that continues waits for no nursery, so one that it has is among its blocks
goes_with : (id : ℕ) (bs : List Block) → HasNurseryOf id bs None → HasBlock id bs
goes_with id bs (inl h) = h
goes_with id bs (inr e) = absurd (let f : None ≡ Some id = e in cc)

-- ---- a move, and another from where it led

-- nurseries that grew by both moves, where the first kept them
grow_then : (at : ℕ) (fs gs : List Frame) (numbers between after : Numbers) (old mid new : NurseryBook) →
    Grow at fs numbers between old mid → ((id : ℕ) → HasBlock id (blocks_of fs) → HasBlock id (blocks_of gs)) →
    Grow at gs between after mid new → Grow at fs numbers after old new
grow_then at fs gs numbers between after old mid new h kept k id has n e = by_nursery (nursery_at mid id) refl (h id has n e)
  where
    by_nursery : (o : Option Nursery) → nursery_at mid id ≡ o → IsSomeAnd o (λ m. Grown at n m (numbers id) (between id)) →
        HasNursery new id (λ m. Grown at n m (numbers id) (after id))
    by_nursery None f g = absurd g
    by_nursery (Some m) f g = grown_then at (nursery_at new id) n m (numbers id) (between id) (after id) g (k id (kept id has) m f)

-- a child that was begun is still the same after a move of its starter
begun_on : (clock : Clock) (begins at : ℕ) (gs : List Frame) (between after : Numbers) (mid new : NurseryBook) (blocks : List Block)
    (waits : Option ℕ) →
    Grow at gs between after mid new →
    ((id : ℕ) → HasBlock id (blocks_of gs) → HasNurseryOf id blocks waits) → (task : Task) (b : Begun) →
    IsBegun clock begins between mid (blocks_of gs) None task b →
    IsBegun clock begins after new blocks waits task b
begun_on clock begins at gs between after mid new blocks waits grow kept task b h =
    record {
      here = h.here;
      frames = h.frames;
      own = h.own;
      task_state = h.task_state;
      entries = h.entries;
      cancelled_from = h.cancelled_from;
      cancelled = h.cancelled;
      home = h.home;
      at_home = h.at_home;
      number = by_number (nursery_at mid h.home.nursery) refl h.nursery;
      nursery = by_nursery (nursery_at mid h.home.nursery) refl h.nursery;
      owned = kept h.home.nursery among;
      in_range = h.in_range;
    }
  where
    among : HasBlock h.home.nursery (blocks_of gs)
    among = goes_with h.home.nursery (blocks_of gs) h.owned

    by_number : (o : Option Nursery) → nursery_at mid h.home.nursery ≡ o →
        IsSomeAnd o (λ n. (n.scope ≡ h.home.scope) × (slice_get n.children h.home.index ≡ Some None)) →
        slice_get (after h.home.nursery) h.home.index ≡ Some b.number
    by_number None e s = absurd s
    by_number (Some n) e s =
        grown_number at (nursery_at new h.home.nursery) n (between h.home.nursery) (after h.home.nursery) h.home.index b.number
        (grow h.home.nursery among n e) h.number

    by_nursery : (o : Option Nursery) → nursery_at mid h.home.nursery ≡ o →
        IsSomeAnd o (λ n. (n.scope ≡ h.home.scope) × (slice_get n.children h.home.index ≡ Some None)) →
        HasNursery new h.home.nursery (λ n. (n.scope ≡ h.home.scope) × (slice_get n.children h.home.index ≡ Some None))
    by_nursery None e s = absurd s
    by_nursery (Some n) e s =
        grown_home at (nursery_at new h.home.nursery) n (between h.home.nursery) (after h.home.nursery) h.home.scope h.home.index
        (grow h.home.nursery among n e) s

all_begun_on : (clock : Clock) (begins at : ℕ) (gs : List Frame) (between after : Numbers) (mid new : NurseryBook) (blocks : List Block)
    (waits : Option ℕ) →
    Grow at gs between after mid new →
    ((id : ℕ) → HasBlock id (blocks_of gs) → HasNurseryOf id blocks waits) → (ts : List Task) (bs : List Begun) →
    AreBegun clock begins between mid (blocks_of gs) None ts bs →
    AreBegun clock begins after new blocks waits ts bs
all_begun_on clock begins at gs between after mid new blocks waits grow kept [] [] h = tt
all_begun_on clock begins at gs between after mid new blocks waits grow kept [] (b ∷ bs) h = absurd h
all_begun_on clock begins at gs between after mid new blocks waits grow kept (t ∷ ts) [] h = absurd h
all_begun_on clock begins at gs between after mid new blocks waits grow kept (t ∷ ts) (b ∷ bs) h = (
  begun_on clock begins at gs between after mid new blocks waits grow kept t b h.0,
  all_begun_on clock begins at gs between after mid new blocks waits grow kept ts bs h.1,
)

-- how the second of two moves continues is how both do
moves_then : (clock : Clock) (numbers : Numbers) (book : NurseryBook) (lent : Lent) (goes : Moved) (task_state : TaskState)
    (o q : Move) →
    MovesAs clock numbers book lent goes task_state q →
    MovesAs clock numbers book lent goes task_state (then_move None o q)
moves_then clock numbers book lent (On exc) task_state o q h = h
moves_then clock numbers book lent (Stops stop) task_state o q h = h

-- what two moves do to nurseries, one after the other
module _ (s m u : State) (waits : Option ℕ) (was between are : Numbers) (ts us : List Task) (bs cs : List Begun) (made : List Event)
    (first : ChangesNurseries s m None was between ts bs) (second : ChangesNurseries m u waits between are us cs)
    (acts : Acts s.tick (scoping_in s) made (scoping_in m)) (clock : Clock) (begins : ℕ)
    (begun : AreBegun clock begins between m.book (blocks_of m.frames) None ts bs) (tick : m.tick ≡ s.tick) where
  kept : (id : ℕ) → HasBlock id (blocks_of s.frames) → HasBlock id (blocks_of m.frames)
  kept id has = goes_with id (blocks_of m.frames) (first.kept id has)

  -- a nursery of another task is one where the first move led
  still_other : (n : Nursery) → IsOfOther s.own s.tree n → IsOfOther m.own m.tree n
  still_other n other = acts_stay s.tick (scoping_in s) (scoping_in m) made n.scope acts other

  stays_there : (id : ℕ) (n : Nursery) → nursery_at s.book id ≡ Some n → (HasBlock id (blocks_of s.frames) → ⊥) → IsOfOther s.own s.tree n →
      HasBlock id (blocks_of m.frames) → ⊥
  stays_there id n at apart other has = by_owned (first.owned id (inl has))
    where
      by_owned : HasBlock id (blocks_of s.frames) ⊎ ((x : Nursery) → nursery_at s.book id ≡ Some x → IsOfOther s.own s.tree x → ⊥) → ⊥
      by_owned (inl h) = apart h
      by_owned (inr h) = h n at other

  owned_then : Owns (blocks_of s.frames) s.own s.tree s.book (blocks_of u.frames) waits
  owned_then id has = by_second (second.owned id has)
    where
      by_old : ((n : Nursery) → nursery_at m.book id ≡ Some n → IsOfOther m.own m.tree n → ⊥) → HasBlock id (blocks_of s.frames)
          ⊎ (HasBlock id (blocks_of s.frames) → ⊥) →
          HasBlock id (blocks_of s.frames) ⊎ ((n : Nursery) → nursery_at s.book id ≡ Some n → IsOfOther s.own s.tree n → ⊥)
      by_old h (inl f) = inl f
      by_old h (inr f) = inr (λ n at other. h n (first.others id n at f other) (still_other n other))

      by_second : HasBlock id (blocks_of m.frames) ⊎ ((n : Nursery) → nursery_at m.book id ≡ Some n → IsOfOther m.own m.tree n → ⊥) →
          HasBlock id (blocks_of s.frames) ⊎ ((n : Nursery) → nursery_at s.book id ≡ Some n → IsOfOther s.own s.tree n → ⊥)
      by_second (inl h) = first.owned id (inl h)
      by_second (inr h) = by_old h (has_or_not id (blocks_of s.frames))

  covered_then : Covers (blocks_of s.frames) was are (blocks_of u.frames) waits (ts ++ us) (bs ++ cs)
  covered_then id index number has at = by_second (second.covered id index number has at)
    where
      by_first : (HasBlock id (blocks_of s.frames) × (slice_get (was id) index ≡ Some number)) ⊎ BeginsAt id index number ts bs →
          (HasBlock id (blocks_of s.frames) × (slice_get (was id) index ≡ Some number)) ⊎ BeginsAt id index number (ts ++ us) (bs ++ cs)
      by_first (inl h) = inl h
      by_first (inr h) = inr (begins_more id index number ts us bs cs h)

      by_second : (HasBlock id (blocks_of m.frames) × (slice_get (between id) index ≡ Some number)) ⊎ BeginsAt id index number us cs →
          (HasBlock id (blocks_of s.frames) × (slice_get (was id) index ≡ Some number)) ⊎ BeginsAt id index number (ts ++ us) (bs ++ cs)
      by_second (inl h) = by_first (first.covered id index number (inl h.0) h.1)
      by_second (inr h) = inr (begins_last clock begins id index number between m.book (blocks_of m.frames) None ts us bs cs begun h)

  grow_next : Grow s.tick m.frames between are m.book u.book
  grow_next = subst (λ (t : ℕ). Grow t m.frames between are m.book u.book) tick second.grow

  ends_then : EndsBy s.tick (blocks_of s.frames) u.book (blocks_of u.frames) waits
  ends_then id has = by_second (second.ends id has)
    where
      by_last : (n x : ℕ) → n ≤ s.tick → (x ≡ n) ⊎ (x ≡ s.tick) → x ≤ s.tick
      by_last n x le (inl e) = omega (arith, le, e)
      by_last n x le (inr e) = omega (arith, e)

      by_nursery : (o p : Option Nursery) → nursery_at m.book id ≡ o → nursery_at u.book id ≡ p → IsSomeAnd o (λ n. n.last ≤ s.tick) →
          HasBlock id (blocks_of m.frames) → IsSomeAnd p (λ n. n.last ≤ s.tick)
      by_nursery None p e f h g = absurd h
      by_nursery (Some n) None e f h g =
          absurd (subst (λ (x : Option Nursery). IsSomeAnd x (λ y. Grown s.tick n y (between id) (are id))) f (grow_next id g n e))
      by_nursery (Some n) (Some x) e f h g =
          by_last n.last x.last h
          (subst (λ (y : Option Nursery). IsSomeAnd y (λ z. Grown s.tick n z (between id) (are id))) f (grow_next id g n e)).last

      by_first : HasBlock id (blocks_of m.frames) → HasBlock id (blocks_of s.frames) ⊎ HasNursery m.book id (λ n. n.last ≤ s.tick) →
          HasBlock id (blocks_of s.frames) ⊎ HasNursery u.book id (λ n. n.last ≤ s.tick)
      by_first g (inl h) = inl h
      by_first g (inr h) = inr (by_nursery (nursery_at m.book id) (nursery_at u.book id) refl refl h g)

      by_second : HasBlock id (blocks_of m.frames) ⊎ HasNursery u.book id (λ n. n.last ≤ m.tick) →
          HasBlock id (blocks_of s.frames) ⊎ HasNursery u.book id (λ n. n.last ≤ s.tick)
      by_second (inl h) = by_first h (first.ends id (inl h))
      by_second (inr h) = inr (subst (λ (t : ℕ). HasNursery u.book id (λ n. n.last ≤ t)) tick h)

  pub nurseries_then : ChangesNurseries s u waits was are (ts ++ us) (bs ++ cs)
  nurseries_then =
      record {
        grow = grow_then s.tick s.frames m.frames was between are s.book m.book u.book first.grow kept grow_next;
        kept = λ id has. second.kept id (kept id has);
        numbered = second.numbered;
        owned = owned_then;
        covered = covered_then;
        ends = ends_then;
        others = λ id n at apart other.
            second.others id n (first.others id n at apart other) (stays_there id n at apart other) (still_other n other);
      }

-- a move after which the task continues, and another from where it led: the move of both, with the numbers of the second
pub took_both : (s m u : State) (exc : Option held.Exc) (goes : Moved) (cancelled_from : Table) (numbers : Numbers) (o q : Move) →
    (first : Took s m (On exc) cancelled_from numbers o) →
    (second : Took m u goes (cancelled_from_after cancelled_from o.made) first.numbers_after q) → m.part ≡ s.part → m.clock ≡ s.clock → m.tick ≡ s.tick →
    (took : Took s u goes cancelled_from numbers (then_move None o q)) × (took.numbers_after ≡ second.numbers_after)
took_both s m u exc goes cancelled_from numbers o q first second part clock tick = (
  record {
    numbers_after = second.numbers_after;
    frames_after = second.frames_after;
    places = subst (λ (f : Table). AreAt u.labels u.events f (stack_in u) q.places) (sym (cancelled_from_append o.made q.made cancelled_from)) second.places;
    event = second.event;
    moves =
        moves_then s.clock second.numbers_after u.book (lent_at u) goes u.task_state o q
        (subst (λ (c : Clock). MovesAs c second.numbers_after u.book (lent_at u) goes u.task_state q) clock second.moves);
    entries = first.entries ++ second.entries;
    noted = grew_twice s.entries m.entries u.entries first.entries second.entries first.noted second.noted;
    shown = noted_append s.clock (buffer_of s.part) first.entries second.entries o.made q.made first.shown
        (subst (λ (p : Part). AreNoted s.clock (buffer_of p) second.entries q.made) part
        (subst (λ (c : Clock). AreNoted c (buffer_of m.part) second.entries q.made) clock second.shown));
    tasks = first.tasks ++ second.tasks;
    started = grew_twice s.started m.started u.started first.tasks second.tasks first.started second.started;
    begun =
        begun_append s.clock (a_round_after s.clock s.tick) second.numbers_after u.book (blocks_of u.frames)
        (waits_by goes u.task_state) first.tasks second.tasks o.begun q.begun
        (all_begun_on s.clock (a_round_after s.clock s.tick) m.tick m.frames first.numbers_after second.numbers_after m.book u.book
        (blocks_of u.frames) (waits_by goes u.task_state)
        second.nurseries.grow second.nurseries.kept first.tasks o.begun first.begun)
        (subst (λ (t : ℕ). AreBegun s.clock (a_round_after s.clock t) second.numbers_after u.book (blocks_of u.frames)
        (waits_by goes u.task_state) second.tasks q.begun) tick
        (subst (λ (c : Clock). AreBegun c (a_round_after c m.tick) second.numbers_after u.book (blocks_of u.frames)
        (waits_by goes u.task_state) second.tasks q.begun) clock second.begun));
    last = second.last;
    nurseries =
        nurseries_then s m u (waits_by goes u.task_state) numbers first.numbers_after second.numbers_after first.tasks second.tasks o.begun
        q.begun o.made first.nurseries second.nurseries first.acts s.clock (a_round_after s.clock s.tick) first.begun tick;
    acts = acts_append s.tick (scoping_in s) (scoping_in m) (scoping_in u) o.made q.made first.acts
        (subst (λ (t : ℕ). Acts t (scoping_in m) q.made (scoping_in u)) tick second.acts);
    served = served_then s.acts m.acts u.acts o.made q.made first.served second.served;
    own =
        own_then s.clock s.cancelled m.cancelled u.cancelled o.made q.made q.stopped
        (own_on s.clock s.cancelled m.cancelled o.made o.stopped first.moves.1 first.own)
        (subst (λ (c : Clock). OwnAfter c m.cancelled u.cancelled q.made q.stopped) clock second.own);
  },
  refl,
)

-- A move of the code after which the task continues, and another from where it led, are the move of both.
pub took_then : (s m u : State) (exc : Option held.Exc) (goes : Moved) (cancelled_from : Table) (numbers : Numbers) (o q : Move) →
    (first : Took s m (On exc) cancelled_from numbers o) → Took m u goes (cancelled_from_after cancelled_from o.made) first.numbers_after q →
    m.part ≡ s.part → m.clock ≡ s.clock → m.tick ≡ s.tick → Took s u goes cancelled_from numbers (then_move o.stopped o q)
took_then s m u exc goes cancelled_from numbers o q first second part clock tick =
    subst (λ (x : Option Stopped). Took s u goes cancelled_from numbers (then_move x o q)) (sym first.moves.1)
    (took_both s m u exc goes cancelled_from numbers o q first second part clock tick).0

-- ---- the state of a task after a step

-- a task has the state to which a step led, whether it continues or stops
pub stands_where : (s u : State) (cancelled_from : Table) (numbers : Numbers) (ps : List Place) (now : Now) (here : Here) →
    Stands s cancelled_from numbers None ps → (count : ℕ) (exc : Option Exc) (goes : Moved) →
    (let o = step_of cancelled_from now here (midway_at s exc numbers ps count) in (took : Took s u goes cancelled_from numbers o) →
    Stands u (cancelled_from_after cancelled_from o.made) took.numbers_after o.stopped o.places)
stands_where s u cancelled_from numbers ps now here stands count exc goes took =
    let m : Midway = midway_at s exc numbers ps count in
    let o = step_of cancelled_from now here m in
    let step = turned_step now here cancelled_from m stands.placed in
    let names = step_stays_new cancelled_from now here m stands.new stands.own in
    record {
      places = took.places;
      event = took.event;
      numbered = λ id has. took.nurseries.numbered id (inl has);
      placed = subst (λ (gs : List rest.Frame). PlacedAfter o.stopped gs o.places) (sym took.frames_after) step.placed;
      new = subst (λ (gs : List rest.Frame). NewIn gs (outer_places o.stopped o.places)) (sym took.frames_after) names.frames;
      stop = names.stop;
      own = names.own;
    }

-- ---- the steps of a turn of the code, one after another

-- Before its first step a task has taken a turn of no steps.
pub took_nothing : (s : State) (exc : Option held.Exc) (cancelled_from : Table) (numbers : Numbers) (now : Now) (here : Here) (ps : List Place)
    (count : ℕ) → Stands s cancelled_from numbers None ps →
    (took : Took s s (On exc) cancelled_from numbers (turn_of zero cancelled_from now here (midway_at s (option_map exc_of exc) numbers ps count)))
    × (took.numbers_after ≡ numbers)
unfolding turn_of
took_nothing s exc cancelled_from numbers now here ps count stands = (
  record {
    numbers_after = numbers;
    frames_after = refl;
    places = stands.places;
    event = tt;
    moves = (refl, refl);
    entries = [];
    noted = sym (append-nil s.entries);
    shown = record { shown = refl; slices = All-nil (IsSlice (buffer_of s.part)) };
    tasks = [];
    started = sym (append-nil s.started);
    begun = tt;
    last = tt;
    nurseries = nurseries_same s s None numbers refl refl (λ id has. has) (λ id has. has) stands.numbered;
    acts = no_act (scoping_in s);
    served = unacted s.acts s.acts refl;
    own = refl;
  },
  refl,
)

-- the definitions' turn of one step more, by what the code holds after the turn so far
one_more : (n : ℕ) (cancelled_from : Table) (now : Now) (here : Here) (m : Midway) (gs : List rest.Frame) (exc : Option Exc) →
    (let o = turn_of n cancelled_from now here m in
    gs ≡ o.frames → exc ≡ o.exc → o.stopped ≡ None →
    then_move None o (step_of (cancelled_from_after cancelled_from o.made) (now_after here.clock now o.made) here (record
    { frames = gs; places = o.places; exc = exc; count = m.count + length o.begun }))
    ≡ turn_of (suc n) cancelled_from now here m)
one_more n cancelled_from now here m gs exc frames raised going =
    let o = turn_of n cancelled_from now here m in
    let step : Midway → Move = λ k. step_of (cancelled_from_after cancelled_from o.made) (now_after here.clock now o.made) here k in
    ap (λ (s : Option Stopped). then_move s o
    (step (record { frames = gs; places = o.places; exc = exc; count = m.count + length o.begun }))) (sym going)
    ∙ ap (λ (fs : List rest.Frame).
    then_move o.stopped o (step (record { frames = fs; places = o.places; exc = exc; count = m.count + length o.begun }))) frames
    ∙ ap (λ (e : Option Exc). then_move o.stopped o
    (step (record { frames = o.frames; places = o.places; exc = e; count = m.count + length o.begun }))) raised
    ∙ sym (turn_snoc n cancelled_from now here m)

-- A turn of some steps, and a step from where it led, are the turn with one step more, and the task has the state to which they
-- led, with the same numbers, whether it continues or stops.
pub goes_and_stands : (n : ℕ) (s m u : State) (exc : Option held.Exc) (goes : Moved) (cancelled_from : Table) (numbers : Numbers) (now : Now)
    (here : Here) (ps : List Place) (count : ℕ) (exc0 : Option Exc) →
    (let o = turn_of n cancelled_from now here (midway_at s exc0 numbers ps count) in
    let more = turn_of (suc n) cancelled_from now here (midway_at s exc0 numbers ps count) in
    (first : Took s m (On exc) cancelled_from numbers o) → Stands m (cancelled_from_after cancelled_from o.made) first.numbers_after None o.places →
    m.part ≡ s.part → m.clock ≡ s.clock → m.tick ≡ s.tick →
    Took m u goes (cancelled_from_after cancelled_from o.made) first.numbers_after
    (step_of (cancelled_from_after cancelled_from o.made) (now_after here.clock now o.made) here
    (midway_at m (option_map exc_of exc) first.numbers_after o.places (count + length o.begun))) →
    (took : Took s u goes cancelled_from numbers more) × Stands u (cancelled_from_after cancelled_from more.made) took.numbers_after more.stopped more.places)
goes_and_stands n s m u exc goes cancelled_from numbers now here ps count exc0 first stands part clock tick second =
    let k : Midway = midway_at s exc0 numbers ps count in
    let o = turn_of n cancelled_from now here k in
    let q = step_of (cancelled_from_after cancelled_from o.made) (now_after here.clock now o.made) here
    (midway_at m (option_map exc_of exc) first.numbers_after o.places (count + length o.begun)) in
    let both = took_both s m u exc goes cancelled_from numbers o q first second part clock tick in
    let there = stands_where m u (cancelled_from_after cancelled_from o.made) first.numbers_after o.places (now_after here.clock now o.made) here stands
    (count + length o.begun) _ goes second in
    subst
    (λ (p : Move). (took : Took s u goes cancelled_from numbers p) × Stands u (cancelled_from_after cancelled_from p.made) took.numbers_after p.stopped p.places)
    (one_more n cancelled_from now here k (frames_of first.numbers_after m.frames) (option_map exc_of exc) first.frames_after first.moves.0
    first.moves.1) (
      both.0,
      subst (λ (ns : Numbers). Stands u (cancelled_from_after cancelled_from (o.made ++ q.made)) ns q.stopped q.places) (sym both.1)
          (subst (λ (f : Table). Stands u f second.numbers_after q.stopped q.places) (sym (cancelled_from_append o.made q.made cancelled_from)) there),
    )
