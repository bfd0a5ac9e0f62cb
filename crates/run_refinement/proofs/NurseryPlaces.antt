-- The scopes and nurseries that enclose the nursery of a block are those of its scope's stack.
use Rattle.std.proofs.Common.{◌≡◌, ◌⊎◌, inl, inr, ℕ, Bool, Option, Some, None, List, [], ◌∷◌, ◌++◌, append_assoc, refl, ap, sym, ◌∙◌, subst}
use Rattle.std.specs.Option.{IsSomeAnd, unwrap_or}
use Rattle.turn_semantics.specs.Lists.{IsAmong}
use Rattle.exceptions.specs.Exceptions.{Label, Exc}
use Rattle.cancel_scopes.specs.Sight.{Tick, Level}
use Rattle.cancel_scopes.specs.Tree.{Stack, Tree, stack_of, outer_of, IsChain}
use Rattle.nursery_book.specs.Nursery.{Nursery as Members}
use Rattle.nursery_book.specs.Book.{nursery_at, HasNursery}
use Rattle.nursery_book.specs.declared.book.NurseryBook.{NurseryBook}
use Rattle.job_meaning.specs.Log.{Table}
use Rattle.job_meaning.specs.Rest as rest
use Rattle.turn_semantics.specs.Midway.{Place}
use Rattle.turn_semantics.specs.Placed.{outer_places, HasChild, WaitsFor, HasChildAfter}
use Rattle.task_machine.specs.declared.frame.Frame.{Frame}
use Rattle.task_machine.specs.declared.frame.Frame.TheVariants.{Steps, Scope, Event, Nursery, Repeat, Try, Handler, Cleanup, Token, Received}
use Rattle.task_machine.specs.declared.stop.TaskState.{TaskState}
use Rattle.task_machine.specs.declared.stop.TaskState.TheVariants.{ToBegin, Asked, Asleep, Waiting, GivingUp, Awaits, Over, Queued}
use Rattle.task_machine.specs.declared.task.Own.{Own}
use Rattle.task_machine.specs.Fitting.{Block, a_nursery, blocks_of, Opened, waits_of}
use Rattle.task_machine.specs.Frames.{frame_of, frames_onto, frames_of}
use Rattle.task_machine.specs.Labels.{Labels, Events}
use Rattle.task_machine.specs.Left.{keys_of, keys_in}
use Rattle.task_machine.specs.Stacked.{IsLevelOf, AreAt}
use Rattle.task_machine.specs.Standing.{HasBlock, HasNurseryOf}
use Rattle.task_machine.specs.Stops.{Numbers, IsTaskState}

-- ---- stacks and enclosing scopes and nurseries

-- the rest of a stack, from the scope with a key on, corresponds to these places
pub record StandsIn (labels : Labels) (events : Events) (f : Table) (key : ℕ) (st : Stack) (ps : List Place) : Type 0 where
  pub before : Stack
  pub level : Level ℕ
  pub following : Stack
  pub is : st ≡ before ++ level ∷ following
  pub named : level.label ≡ key
  pub at : AreAt labels events f (level ∷ following) ps

-- a stack that begins with the scope with a key, and its places
pub record First (labels : Labels) (events : Events) (f : Table) (key : ℕ) (keys : List ℕ) (st : Stack) (ps : List Place) : Type 0 where
  pub level : Level ℕ
  pub following : Stack
  pub place : Place
  pub places : List Place
  pub is : st ≡ level ∷ following
  pub are : ps ≡ place ∷ places
  pub named : level.label ≡ key
  pub others : keys_of following ≡ keys
  pub at : AreAt labels events f (level ∷ following) (place ∷ places)

first_key : (a b : ℕ) (xs ys : List ℕ) → a ∷ xs ≡ b ∷ ys → a ≡ b
first_key a b xs ys e = cc

other_keys : (a b : ℕ) (xs ys : List ℕ) → a ∷ xs ≡ b ∷ ys → xs ≡ ys
other_keys a b xs ys e = cc

first_at : (labels : Labels) (events : Events) (f : Table) (key : ℕ) (keys : List ℕ) (st : Stack) (ps : List Place) → AreAt labels events f st ps →
    keys_of st ≡ key ∷ keys → First labels events f key keys st ps
first_at labels events f key keys [] ps a e = absurd (let g : [] ≡ key ∷ keys = e in cc)
first_at labels events f key keys (l ∷ ls) [] a e = absurd a
first_at labels events f key keys (l ∷ ls) (p ∷ ps) a e =
    record {
      level = l;
      following = ls;
      place = p;
      places = ps;
      is = refl;
      are = refl;
      named = first_key l.label key (keys_of ls) keys e;
      others = other_keys l.label key (keys_of ls) keys e;
      at = a;
    }

abbrev place_of : Label → Bool → Bool → Place
place_of l b c = record { label = l; shield = b; is_event = c }

same_parts : (l m : Label) (b c x y : Bool) → l ≡ m → b ≡ c → x ≡ y → place_of l b x ≡ place_of m c y
same_parts l m b c x y e f g = cc

same_place : (p q : Place) → p.label ≡ q.label → p.shield ≡ q.shield → p.is_event ≡ q.is_event → p ≡ q
same_place p q e f g = same_parts p.label q.label p.shield q.shield p.is_event q.is_event e f g

-- a level is an event for both of two places, or for none
same_kind : (o : Option Tick) (l : Level ℕ) (f : Table) (p q : Place) → IsLevelOf o l f p → IsLevelOf o l f q → p.is_event ≡ q.is_event
same_kind None l f p q h k = h.0 ∙ sym k.0
same_kind (Some set) l f p q h k = h.0 ∙ sym k.0

-- a stack corresponds to one list of places
pub same_places : (labels : Labels) (events : Events) (f : Table) (st : Stack) (ps qs : List Place) → AreAt labels events f st ps → AreAt labels events f st qs → ps ≡ qs
same_places labels events f [] [] [] a b = refl
same_places labels events f [] [] (q ∷ qs) a b = absurd b
same_places labels events f [] (p ∷ ps) qs a b = absurd a
same_places labels events f (l ∷ ls) [] qs a b = absurd a
same_places labels events f (l ∷ ls) (p ∷ ps) [] a b = absurd b
same_places labels events f (l ∷ ls) (p ∷ ps) (q ∷ qs) a b =
    ap (λ (z : Place). z ∷ ps) (same_place p q (let e : Some p.label ≡ Some q.label = sym a.0 ∙ b.0 in cc) (sym a.1 ∙ b.1)
    (same_kind (events l.label) l f p q a.2 b.2))
    ∙ ap (λ (zs : List Place). q ∷ zs) (same_places labels events f ls ps qs a.3 b.3)

-- the stack of the key is that rest, where stacks are chains
pub stack_here : (labels : Labels) (events : Events) (f : Table) (tree : Tree) (scope : Option ℕ) (key : ℕ) (ps : List Place) → IsChain tree →
    StandsIn labels events f key (outer_of tree scope) ps →
    (st : Stack) × (stack_of tree key ≡ Some st) × AreAt labels events f st ps
stack_here labels events f tree None key ps chain h = absurd (none h.before h.is)
  where
    none : (before : Stack) → [] ≡ before ++ h.level ∷ h.following → ⊥
    none [] e = cc
    none (l ∷ before) e = cc
stack_here labels events f tree (Some scope) key ps chain h = by_stack (stack_of tree scope) refl h.is
  where
    none : (before : Stack) → [] ≡ before ++ h.level ∷ h.following → ⊥
    none [] e = cc
    none (l ∷ before) e = cc

    by_stack : (o : Option Stack) → stack_of tree scope ≡ o → unwrap_or o [] ≡ h.before ++ h.level ∷ h.following → (st : Stack)
        × (stack_of tree key ≡ Some st) × AreAt labels events f st ps
    by_stack None e is = absurd (none h.before is)
    by_stack (Some st) e is =
        (h.level ∷ h.following, ap (stack_of tree) (sym h.named) ∙ chain scope st e h.before h.level h.following is, h.at)

-- ---- what a task waits for

-- a stop is that of a task which waits for this nursery, or for none
abbrev pub IsStop : Numbers → Option ℕ → rest.Stopped → Type 0
IsStop numbers None stopped = ((ps : List Place) → outer_places (Some stopped) ps ≡ ps)
    × ((i : ℕ) (home ps : List Place) → WaitsFor i home (Some stopped) ps → ⊥)
IsStop numbers (Some id) stopped = (children : List ℕ) × (u : ℕ) × (e : Option Exc) × (stopped ≡ rest.awaiting children u e)
    × (numbers id ≡ children)

-- a blocked state waits for the nursery for which its stop does, or for none
pub is_stop : (numbers : Numbers) (book : NurseryBook) (task_state : TaskState) (stopped : rest.Stopped) → IsTaskState numbers book task_state stopped →
    IsStop numbers (waits_of task_state) stopped
is_stop numbers book (ToBegin at) rest.to_begin h = ((λ ps. refl), (λ i home ps w. w))
is_stop numbers book (Asked kernel purpose) (rest.asking k p) h = ((λ ps. refl), (λ i home ps w. w))
is_stop numbers book (Asleep paced ticks since) (rest.asleep p n u) h = ((λ ps. refl), (λ i home ps w. w))
is_stop numbers book (Waiting event since) (rest.waiting_for name u) h = ((λ ps. refl), (λ i home ps w. w))
is_stop numbers book (Queued object ask since body) (rest.queued name a u steps) h = ((λ ps. refl), (λ i home ps w. w))
is_stop numbers book (GivingUp since) (rest.giving_up u) h = ((λ ps. refl), (λ i home ps w. w))
is_stop numbers book (Awaits nursery since) (rest.awaiting children u exc) h = (children, u, exc, refl, h.0)
is_stop numbers book Over (rest.at_end u e) h = ((λ ps. refl), (λ i home ps w. w))
is_stop numbers book _ _ h = absurd h

-- ---- frames, from the outermost one inwards

-- a nursery of the task has this child, and its scope's stack corresponds to these places
pub record Found
    (labels : Labels) (events : Events) (book : NurseryBook) (f : Table) (numbers : Numbers) (bs : List Block) (waits : Option ℕ) (st : Stack) (i : ℕ)
    (home : List Place) : Type 0
  where
    pub id : ℕ
    pub scope : Own
    pub among : IsAmong i (numbers id)
    pub has : HasNurseryOf id bs waits
    pub nursery : HasNursery book id (λ n. n.scope ≡ scope.id)
    pub at : StandsIn labels events f scope.id st home

found_more : {labels : Labels} {events : Events} {book : NurseryBook} {f : Table} {numbers : Numbers} {bs cs : List Block} {waits : Option ℕ} {st : Stack}
    {i : ℕ} {home : List Place} →
    ((id : ℕ) → HasBlock id bs → HasBlock id cs) →
    Found labels events book f numbers bs waits st i home → Found labels events book f numbers cs waits st i home
found_more {bs = bs} {cs = cs} {waits = waits} more h =
    record { id = h.id; scope = h.scope; among = h.among; has = by_has h.has; nursery = h.nursery; at = h.at }
  where
    by_has : HasNurseryOf h.id bs waits → HasNurseryOf h.id cs waits
    by_has (inl b) = inl (more h.id b)
    by_has (inr w) = inr w

-- The outer frames of a task correspond to a rest of its places, which are those of a rest of its stack: each child of a
-- nursery is one of theirs, or of the inner blocks.
pub record Outer
    (labels : Labels) (events : Events) (book : NurseryBook) (f : Table) (numbers : Numbers) (bs : List Block) (waits : Option ℕ) (stopped : rest.Stopped)
    (keys : List ℕ) (outer fs : List rest.Frame) (st : Stack) (ps : List Place) : Type 0
  where
    pub before : Stack
    pub stack : Stack
    pub places : List Place
    pub is : st ≡ before ++ stack
    pub at : AreAt labels events f stack places
    pub others : keys_of stack ≡ keys
    pub inside : (i : ℕ) (home : List Place) → HasChild i home outer places → HasChild i home fs (outer_places (Some stopped) ps)
    pub outside :
        (i : ℕ) (home : List Place) → HasChildAfter i home (Some stopped) fs ps →
        Found labels events book f numbers bs waits st i home ⊎ HasChild i home outer places

has_weaker : {P Q : Members → Type 0} (p : Option Members) → ((n : Members) → P n → Q n) → IsSomeAnd p P → IsSomeAnd p Q
has_weaker None weaker h = h
has_weaker (Some n) weaker h = weaker n h

-- one frame that is no block
outer_plain : {labels : Labels} {events : Events} {book : NurseryBook} {f : Table} {numbers : Numbers} {bs : List Block} {waits : Option ℕ}
    {stopped : rest.Stopped} {keys : List ℕ} {outer more fs : List rest.Frame} {st : Stack} {ps : List Place} →
    ((i : ℕ) (home qs : List Place) → HasChild i home outer qs → HasChild i home more qs) →
    ((i : ℕ) (home qs : List Place) → HasChild i home more qs → HasChild i home outer qs) →
    Outer labels events book f numbers bs waits stopped keys more fs st ps → Outer labels events book f numbers bs waits stopped keys outer fs st ps
outer_plain {labels} {events} {book} {f} {numbers} {bs} {waits} {stopped} {keys} {outer} {more} {fs} {st} {ps} to back r =
    record {
      before = r.before;
      stack = r.stack;
      places = r.places;
      is = r.is;
      at = r.at;
      others = r.others;
      inside = λ i home c. r.inside i home (to i home r.places c);
      outside = λ i home c. by_case i home (r.outside i home c);
    }
  where
    by_case : (i : ℕ) (home : List Place) → Found labels events book f numbers bs waits st i home ⊎ HasChild i home more r.places →
        Found labels events book f numbers bs waits st i home ⊎ HasChild i home outer r.places
    by_case i home (inl x) = inl x
    by_case i home (inr c) = inr (back i home r.places c)

-- the first level of a rest, with those before it
longer : (st before stack following : Stack) (l : Level ℕ) → st ≡ before ++ stack → stack ≡ l ∷ following → st ≡ before ++ l ∷ following
longer st before stack following l e g = e ∙ ap (λ (z : Stack). before ++ z) g

stands_first : {labels : Labels} {events : Events} {f : Table} {key : ℕ} {keys : List ℕ} (st before stack : Stack) {ps : List Place} → st ≡ before ++ stack →
    (first : First labels events f key keys stack ps) →
    StandsIn labels events f key st (first.place ∷ first.places)
stands_first st before stack e first =
    record {
      before = before;
      level = first.level;
      following = first.following;
      is = longer st before stack first.following first.level e first.is;
      named = first.named;
      at = first.at;
    }

-- one block, with its scope
outer_block : {labels : Labels} {events : Events} {book : NurseryBook} {f : Table} {numbers : Numbers} {bs cs : List Block} {waits : Option ℕ}
    {stopped : rest.Stopped} {keys : List ℕ} {outer more fs : List rest.Frame} {st : Stack} {ps : List Place} (o : Own) →
    ((i : ℕ) (home : List Place) (p : Place) (qs : List Place) → HasChild i home outer qs → HasChild i home more (p ∷ qs)) →
    ((id : ℕ) → HasBlock id bs → HasBlock id cs) →
    ((i : ℕ) (home : List Place) (p : Place) (qs : List Place) → StandsIn labels events f o.id st (p ∷ qs) → HasChild i home more (p ∷ qs) →
    Found labels events book f numbers cs waits st i home ⊎ HasChild i home outer qs) →
    Outer labels events book f numbers bs waits stopped (o.id ∷ keys) more fs st ps →
    Outer labels events book f numbers cs waits stopped keys outer fs st ps
outer_block {labels} {events} {book} {f} {numbers} {bs} {cs} {waits} {stopped} {keys} {outer} {more} {fs} {st} {ps} o to blocks back r =
    record {
      before = r.before ++ first.level ∷ [];
      stack = first.following;
      places = first.places;
      is = longer st r.before r.stack first.following first.level r.is first.is ∙ sym (append_assoc r.before (first.level ∷ []) first.following);
      at = first.at.3;
      others = first.others;
      inside = λ i home c. r.inside i home (subst (HasChild i home more) (sym first.are) (to i home first.place first.places c));
      outside = λ i home c. by_case i home (r.outside i home c);
    }
  where
    first : First labels events f o.id keys r.stack r.places
    first = first_at labels events f o.id keys r.stack r.places r.at r.others

    here : StandsIn labels events f o.id st (first.place ∷ first.places)
    here = stands_first st r.before r.stack r.is first

    by_case : (i : ℕ) (home : List Place) → Found labels events book f numbers bs waits st i home ⊎ HasChild i home more r.places →
        Found labels events book f numbers cs waits st i home ⊎ HasChild i home outer first.places
    by_case i home (inl x) = inl (found_more blocks x)
    by_case i home (inr c) = back i home first.place first.places here (subst (HasChild i home more) first.are c)

-- frames that enclose a task's own correspond to a rest of its stack and places, and each of its children is theirs or its own
-- frames'
pub carry : (labels : Labels) (events : Events) (book : NurseryBook) (f : Table) (numbers : Numbers) (fs : List Frame) (own : List Own) (waits : Option ℕ)
    (stopped : rest.Stopped) (keys : List ℕ) (outer : List rest.Frame)
    (st : Stack) (ps : List Place) → Opened labels book (blocks_of fs) own waits → IsStop numbers waits stopped → AreAt labels events f st ps →
    keys_of st ≡ keys_in own ++ keys →
    Outer labels events book f numbers (blocks_of fs) waits stopped keys outer (frames_onto numbers fs outer) st ps
carry labels events book f numbers [] [] None stopped keys outer st ps opened stop at e =
    record {
      before = [];
      stack = st;
      places = ps;
      is = refl;
      at = at;
      others = e;
      inside = λ i home c. subst (HasChild i home outer) (sym (stop.0 ps)) c;
      outside = λ i home c. by_case i home c;
    }
  where
    by_case : (i : ℕ) (home : List Place) → HasChildAfter i home (Some stopped) outer ps → Found labels events book f numbers [] None st i home
        ⊎ HasChild i home outer ps
    by_case i home (inl w) = absurd (stop.1 i home ps w)
    by_case i home (inr c) = inr (subst (HasChild i home outer) (stop.0 ps) c)
carry labels events book f numbers [] [] (Some id) stopped keys outer st ps opened stop at e = absurd opened
carry labels events book f numbers [] (o ∷ own) None stopped keys outer st ps opened stop at e = absurd opened
carry labels events book f numbers [] (o ∷ own) (Some id) stopped keys outer st ps opened stop at e =
    record {
      before = first.level ∷ [];
      stack = first.following;
      places = first.places;
      is = first.is;
      at = first.at.3;
      others = first.others;
      inside = λ i home c. subst (HasChild i home outer) (sym following) c;
      outside = λ i home c. by_case i home c;
    }
  where
    first : First labels events f o.id keys st ps
    first = first_at labels events f o.id keys st ps at (e ∙ ap (λ (xs : List Own). (keys_in xs ++ o.id ∷ []) ++ keys) opened.0)

    following : outer_places (Some stopped) ps ≡ first.places
    following = ap (λ (s : rest.Stopped). outer_places (Some s) ps) stop.3
        ∙ ap (outer_places (Some (rest.awaiting stop.0 stop.1 stop.2))) first.are

    waited : (i : ℕ) (home : List Place) → WaitsFor i home (Some stopped) ps →
        WaitsFor i home (Some (rest.awaiting stop.0 stop.1 stop.2)) (first.place ∷ first.places)
    waited i home w = subst (WaitsFor i home (Some (rest.awaiting stop.0 stop.1 stop.2))) first.are
        (subst (λ (s : rest.Stopped). WaitsFor i home (Some s) ps) stop.3 w)

    by_case : (i : ℕ) (home : List Place) → HasChildAfter i home (Some stopped) outer ps →
        Found labels events book f numbers [] (Some id) st i home ⊎ HasChild i home outer first.places
    by_case i home (inl w) =
        let a = waited i home w in
        inl (record {
          id = id;
          scope = o;
          among = subst (IsAmong i) (sym stop.4) a.0;
          has = inr refl;
          nursery = has_weaker (nursery_at book id) (λ n h. h.0.scope) opened.1;
          at =
              record {
                before = [];
                level = first.level;
                following = first.following;
                is = first.is;
                named = first.named;
                at = subst (AreAt labels events f (first.level ∷ first.following)) (sym a.1) first.at;
              };
        })
    by_case i home (inr c) = inr (subst (HasChild i home outer) following c)
carry labels events book f numbers (Steps steps ∷ fs) own waits stopped keys outer st ps opened stop at e =
    outer_plain (λ i home qs c. c) (λ i home qs c. c) (carry labels events book f numbers fs own waits stopped keys
    (frame_of numbers (Steps steps) ∷ outer) st ps opened stop at e)
carry labels events book f numbers (Token limiter ∷ fs) own waits stopped keys outer st ps opened stop at e =
    outer_plain (λ i home qs c. c) (λ i home qs c. c) (carry labels events book f numbers fs own waits stopped keys
    (frame_of numbers (Token limiter) ∷ outer) st ps opened stop at e)
carry labels events book f numbers (Received received ∷ fs) own waits stopped keys outer st ps opened stop at e =
    outer_plain (λ i home qs c. c) (λ i home qs c. c) (carry labels events book f numbers fs own waits stopped keys
    (frame_of numbers (Received received) ∷ outer) st ps opened stop at e)
carry labels events book f numbers (Repeat pass left cuts body ∷ fs) own waits stopped keys outer st ps opened stop at e =
    outer_plain (λ i home qs c. c) (λ i home qs c. c) (carry labels events book f numbers fs own waits stopped keys
    (frame_of numbers (Repeat pass left cuts body) ∷ outer) st ps opened stop at e)
carry labels events book f numbers (Try handler cleanup ∷ fs) own waits stopped keys outer st ps opened stop at e =
    outer_plain (λ i home qs c. c) (λ i home qs c. c) (carry labels events book f numbers fs own waits stopped keys
    (frame_of numbers (Try handler cleanup) ∷ outer) st ps opened stop at e)
carry labels events book f numbers (Handler others cleanup ∷ fs) own waits stopped keys outer st ps opened stop at e =
    outer_plain (λ i home qs c. c) (λ i home qs c. c) (carry labels events book f numbers fs own waits stopped keys
    (frame_of numbers (Handler others cleanup) ∷ outer) st ps opened stop at e)
carry labels events book f numbers (Cleanup outcome ∷ fs) own waits stopped keys outer st ps opened stop at e =
    outer_plain (λ i home qs c. c) (λ i home qs c. c) (carry labels events book f numbers fs own waits stopped keys
    (frame_of numbers (Cleanup outcome) ∷ outer) st ps opened stop at e)
carry labels events book f numbers (Scope fail ∷ fs) [] waits stopped keys outer st ps opened stop at e = absurd opened
carry labels events book f numbers (Scope fail ∷ fs) (o ∷ own) waits stopped keys outer st ps opened stop at e =
    outer_block o (λ i home p qs c. c) (λ id b. b) (λ i home p qs here c. inr c)
    (carry labels events book f numbers fs own waits stopped (o.id ∷ keys) (rest.in_scope fail ∷ outer) st ps opened.2 stop at
    (e ∙ append_assoc (keys_in own) (o.id ∷ []) keys))
carry labels events book f numbers (Event ∷ fs) [] waits stopped keys outer st ps opened stop at e = absurd opened
carry labels events book f numbers (Event ∷ fs) (o ∷ own) waits stopped keys outer st ps opened stop at e =
    outer_block o (λ i home p qs c. c) (λ id b. b) (λ i home p qs here c. inr c)
    (carry labels events book f numbers fs own waits stopped (o.id ∷ keys) (rest.in_event ∷ outer) st ps opened.2 stop at
    (e ∙ append_assoc (keys_in own) (o.id ∷ []) keys))
carry labels events book f numbers (Nursery key ∷ fs) [] waits stopped keys outer st ps opened stop at e = absurd opened
carry labels events book f numbers (Nursery key ∷ fs) (o ∷ own) waits stopped keys outer st ps opened stop at e =
    outer_block o (λ i home p qs c. inr c) (λ id b. inr b) back
    (carry labels events book f numbers fs own waits stopped (o.id ∷ keys) (rest.in_nursery (numbers key) ∷ outer) st ps opened.2 stop at
    (e ∙ append_assoc (keys_in own) (o.id ∷ []) keys))
  where
    back : (i : ℕ) (home : List Place) (p : Place) (qs : List Place) → StandsIn labels events f o.id st (p ∷ qs) →
        HasChild i home (rest.in_nursery (numbers key) ∷ outer) (p ∷ qs) →
        Found labels events book f numbers (a_nursery key ∷ blocks_of fs) waits st i home ⊎ HasChild i home outer qs
    back i home p qs here (inl c) =
        inl (record {
          id = key;
          scope = o;
          among = c.0;
          has = inl (inl refl);
          nursery = has_weaker (nursery_at book key) (λ n h. h.0.scope) opened.0;
          at = subst (StandsIn labels events f o.id st) (sym c.1) here;
        })
    back i home p qs here (inr c) = inr c

-- A child of a nursery of a task, in whose body it started, or for which it waits: its home's places are those of the stack of
-- the nursery's scope.
pub found : (labels : Labels) (events : Events) (book : NurseryBook) (f : Table) (numbers : Numbers) (fs : List Frame) (own : List Own) (waits : Option ℕ)
    (stopped : rest.Stopped) (keys : List ℕ)
    (st : Stack) (ps : List Place) → Opened labels book (blocks_of fs) own waits → IsStop numbers waits stopped → AreAt labels events f st ps →
    keys_of st ≡ keys_in own ++ keys →
    (i : ℕ) (home : List Place) → HasChildAfter i home (Some stopped) (frames_of numbers fs) ps →
    Found labels events book f numbers (blocks_of fs) waits st i home
found labels events book f numbers fs own waits stopped keys st ps opened stop at e i home c = by_case (r.outside i home c)
  where
    r : Outer labels events book f numbers (blocks_of fs) waits stopped keys [] (frames_of numbers fs) st ps
    r = carry labels events book f numbers fs own waits stopped keys [] st ps opened stop at e

    by_case : Found labels events book f numbers (blocks_of fs) waits st i home ⊎ HasChild i home [] r.places →
        Found labels events book f numbers (blocks_of fs) waits st i home
    by_case (inl x) = x
    by_case (inr c) = absurd c

-- a child of a nursery among the frames, with the places of the stack of the nursery's scope
pub record Housed
    (labels : Labels) (events : Events) (book : NurseryBook) (f : Table) (id i : ℕ) (fs : List rest.Frame) (st : Stack) (ps : List Place) : Type 0
  where
    pub home : List Place
    pub scope : Own
    pub child : HasChild i home fs ps
    pub nursery : HasNursery book id (λ n. n.scope ≡ scope.id)
    pub at : StandsIn labels events f scope.id st home

-- each child of a nursery among a task's frames has the places of the stack of the nursery's scope
pub housed_onto : (labels : Labels) (events : Events) (book : NurseryBook) (f : Table) (numbers : Numbers) (fs : List Frame) (own : List Own)
    (waits : Option ℕ) (stopped : rest.Stopped) (keys : List ℕ) (outer : List rest.Frame)
    (st : Stack) (ps : List Place) → Opened labels book (blocks_of fs) own waits → IsStop numbers waits stopped → AreAt labels events f st ps →
    keys_of st ≡ keys_in own ++ keys →
    (id i : ℕ) → HasBlock id (blocks_of fs) → IsAmong i (numbers id) →
    Housed labels events book f id i (frames_onto numbers fs outer) st (outer_places (Some stopped) ps)
housed_onto labels events book f numbers [] own waits stopped keys outer st ps opened stop at e id i has among = absurd has
housed_onto labels events book f numbers (Steps steps ∷ fs) own waits stopped keys outer st ps opened stop at e id i has among =
    housed_onto labels events book f numbers fs own waits stopped keys (frame_of numbers (Steps steps) ∷ outer) st ps opened stop at e id i has
    among
housed_onto labels events book f numbers (Token limiter ∷ fs) own waits stopped keys outer st ps opened stop at e id i has among =
    housed_onto labels events book f numbers fs own waits stopped keys (frame_of numbers (Token limiter) ∷ outer) st ps opened stop at e id i has
    among
housed_onto labels events book f numbers (Received received ∷ fs) own waits stopped keys outer st ps opened stop at e id i has among =
    housed_onto labels events book f numbers fs own waits stopped keys (frame_of numbers (Received received) ∷ outer) st ps opened stop at e id i has
    among
housed_onto labels events book f numbers (Repeat pass left cuts body ∷ fs) own waits stopped keys outer st ps opened stop at e id i has among =
    housed_onto labels events book f numbers fs own waits stopped keys (frame_of numbers (Repeat pass left cuts body) ∷ outer) st ps opened stop at e id
    i has among
housed_onto labels events book f numbers (Try handler cleanup ∷ fs) own waits stopped keys outer st ps opened stop at e id i has among =
    housed_onto labels events book f numbers fs own waits stopped keys (frame_of numbers (Try handler cleanup) ∷ outer) st ps opened stop at e id i
    has among
housed_onto labels events book f numbers (Handler others cleanup ∷ fs) own waits stopped keys outer st ps opened stop at e id i has among =
    housed_onto labels events book f numbers fs own waits stopped keys (frame_of numbers (Handler others cleanup) ∷ outer) st ps opened stop at e
    id i has among
housed_onto labels events book f numbers (Cleanup outcome ∷ fs) own waits stopped keys outer st ps opened stop at e id i has among =
    housed_onto labels events book f numbers fs own waits stopped keys (frame_of numbers (Cleanup outcome) ∷ outer) st ps opened stop at e id i has
    among
housed_onto labels events book f numbers (Scope fail ∷ fs) [] waits stopped keys outer st ps opened stop at e id i has among = absurd opened
housed_onto labels events book f numbers (Scope fail ∷ fs) (o ∷ own) waits stopped keys outer st ps opened stop at e id i has among =
    housed_onto labels events book f numbers fs own waits stopped (o.id ∷ keys) (rest.in_scope fail ∷ outer) st ps opened.2 stop at
    (e ∙ append_assoc (keys_in own) (o.id ∷ []) keys) id i has among
housed_onto labels events book f numbers (Event ∷ fs) [] waits stopped keys outer st ps opened stop at e id i has among = absurd opened
housed_onto labels events book f numbers (Event ∷ fs) (o ∷ own) waits stopped keys outer st ps opened stop at e id i has among =
    housed_onto labels events book f numbers fs own waits stopped (o.id ∷ keys) (rest.in_event ∷ outer) st ps opened.2 stop at
    (e ∙ append_assoc (keys_in own) (o.id ∷ []) keys) id i has among
housed_onto labels events book f numbers (Nursery key ∷ fs) [] waits stopped keys outer st ps opened stop at e id i has among = absurd opened
housed_onto labels events book f numbers (Nursery key ∷ fs) (o ∷ own) waits stopped keys outer st ps opened stop at e id i (inr has) among =
    housed_onto labels events book f numbers fs own waits stopped (o.id ∷ keys) (rest.in_nursery (numbers key) ∷ outer) st ps opened.2 stop at
    (e ∙ append_assoc (keys_in own) (o.id ∷ []) keys) id i has among
housed_onto labels events book f numbers (Nursery key ∷ fs) (o ∷ own) waits stopped keys outer st ps opened stop at e id i (inl same) among =
    record {
      home = first.place ∷ first.places;
      scope = o;
      child = r.inside i (first.place ∷ first.places)
          (subst (HasChild i (first.place ∷ first.places) (rest.in_nursery (numbers key) ∷ outer)) (sym first.are)
          (inl (subst (λ (k : ℕ). IsAmong i (numbers k)) same among, refl)));
      nursery = subst (λ (k : ℕ). HasNursery book k (λ n. n.scope ≡ o.id)) (sym same)
          (has_weaker (nursery_at book key) (λ n h. h.0.scope) opened.0);
      at = stands_first st r.before r.stack r.is first;
    }
  where
    r : Outer labels events book f numbers (blocks_of fs) waits stopped (o.id ∷ keys) (rest.in_nursery (numbers key) ∷ outer)
        (frames_onto numbers fs (rest.in_nursery (numbers key) ∷ outer)) st ps
    r = carry labels events book f numbers fs own waits stopped (o.id ∷ keys) (rest.in_nursery (numbers key) ∷ outer) st ps opened.2 stop at
        (e ∙ append_assoc (keys_in own) (o.id ∷ []) keys)

    first : First labels events f o.id keys r.stack r.places
    first = first_at labels events f o.id keys r.stack r.places r.at r.others
