-- A task that starts children in the nursery whose body it is in, as a move of the definitions.
use Rattle.input_lines.specs.declared.part.Part.{Part}
use Rattle.std.proofs.Common.{◌≡◌, ◌⊎◌, inl, inr, ◌==◌, ℕ, zero, suc, ◌+◌, ◌<◌, ◌≤◌, nat_lt, Bool, true, false, Option, Some, None, List, [], ◌∷◌, ◌++◌, length, length-append, refl, ap, sym, ◌∙◌, subst, arith}
use Rattle.std.proofs.lemmas.Bool.{eqb-true, eq-eqb}
use Rattle.std.proofs.lemmas.Bool.Decides.{nat_tests}
use Rattle.std.proofs.lemmas.List.{append-nil}
use Rattle.std.proofs.lemmas.List.Elements.{All-nil, All-cons, All-append}
use Rattle.std.proofs.lemmas.Option.{same_Some, none-some}
use Rattle.std.specs.Prelude.{All}
use Rattle.std.specs.Borrow.{Bor}
use Rattle.std.specs.Option.{IsSomeAnd, option_map}
use Rattle.std.specs.List.{slice_get}
use Rattle.input_lines.specs.Lines.{Range}
use Rattle.input_lines.specs.Part.{buffer_of, range_of}
use Rattle.input_lines.specs.Cuts.{cut_of}
use Rattle.exceptions.specs.Exceptions.{Label}
use Rattle.job_tree.specs.Tree as tree
use Rattle.job_tree.specs.Blocks.{steps_of}
use Rattle.job_tree.specs.InRange.{AreInRange}
use Rattle.job_tree.specs.declared.step.Step.{Step}
use Rattle.job_meaning.specs.Log.{Table}
use Rattle.job_meaning.specs.Moments.{a_round_after}
use Rattle.job_meaning.specs.declared.clock.Clock.{Clock}
use Rattle.job_meaning.specs.Walk.{Here, here_in, label_here, label_over}
use Rattle.job_meaning.specs.Rest as rest
use Rattle.job_meaning.specs.Rest.{Event, starts, starts_over, consecutive, Stopped}
use Rattle.nursery_book.specs.Nursery.{End, Nursery as Members}
use Rattle.nursery_book.specs.Book.{nursery_at, HasNursery, Updates}
use Rattle.nursery_book.specs.declared.book.NurseryBook.{NurseryBook}
use Rattle.task_machine.specs.Noted.{shown_made}
use Rattle.turn_semantics.specs.Midway.{Place, Begun, own_after}
use Rattle.turn_semantics.specs.Steps.{with_started, begun_one, begun_over, cancelled_from_after, step_on}
use Rattle.turn_semantics.proofs.Events.{cancelled_from_append}
use Rattle.task_machine.specs.declared.frame.Frame.{Frame}
use Rattle.task_machine.specs.declared.frame.Frame.TheVariants.{Steps, Nursery}
use Rattle.task_machine.specs.declared.stop.Moved.TheVariants.{On}
use Rattle.task_machine.specs.declared.task.Home.{Home}
use Rattle.task_machine.specs.declared.task.Task.{Task}
use Rattle.task_machine.specs.Acts.{Acts, scoping_in}
use Rattle.task_machine.specs.Fitting.{Block, a_nursery, blocks_of, AreLoops}
use Rattle.task_machine.specs.Frames.{frames_onto, frames_of}
use Rattle.task_machine.specs.Stacked.{AreAt}
use Rattle.task_machine.specs.Serving.{acts_to_serve}
use Rattle.task_machine.specs.Standing.{HasBlock, HasNurseryOf, Stands, IsBegun, AreBegun, BeginsAt, Took, with_frames}
use Rattle.task_machine.specs.Started.{IsChild, running_children, home_at, begins_in, StartsOne, AreChildren, StartsOver}
use Rattle.task_machine.specs.States.{State, here_at, now_at, path_at, stack_in, lent_at}
use Rattle.task_machine.specs.Stops.{Numbers}
use Rattle.task_machine.proofs.Acting.{block_of, start_acts, starts_acts}
use Rattle.task_machine.proofs.Begins.{begins_more}
use Rattle.task_machine.proofs.Cancelled.{own_started}
use Rattle.task_machine.proofs.Lists.{got_after, got_first, GotAfter, got_either}
use Rattle.task_machine.proofs.FrameLemmas.{frames_pushed}
use Rattle.task_machine.proofs.Loops.{body_blocks, onto_append, started_onto, loops_onto}
use Rattle.task_machine.proofs.Nurseries.{has_last, blocks_pushed, nurseries_put}
use Rattle.task_machine.proofs.Served.{unserved, over_unserved}
use Rattle.task_machine.proofs.Taking.{shown_append}
use Rattle.task_machine.proofs.Tooks.{none_noted}
use Rattle.task_machine.proofs.TooksEntered.{with_numbers, numbers_put, numbers_else, frames_others}

-- where a task is inside its passes, as its steps see it
abbrev pub here_inside : State → Here
here_inside s = record (here_at s) { part = (lent_at s).range; path = path_at s }

-- where a child was started, of its home
abbrev home_in : Option Home → Option (ℕ × ℕ)
home_in h = option_map (λ (x : Home). (x.nursery, x.index)) h

-- ---- consecutive numbers

numbered_length : (first k : ℕ) → length (consecutive first k) ≡ k
numbered_length first zero = refl
numbered_length first (suc k) = length-append (consecutive first k) ((first + k) ∷ []) ∙ (let e = numbered_length first k in omega (arith, e))

-- the number of a child at its place
pub numbered_at : (first k i : ℕ) → i < k → slice_get (consecutive first k) i ≡ Some (first + i)
numbered_at first zero i less = absurd (omega (arith, less))
numbered_at first (suc k) i less = by_order (λ lt. numbered_at first k i lt) (nat_lt i k) refl
  where
    by_order : (i < k → slice_get (consecutive first k) i ≡ Some (first + i)) → (b : Bool) → nat_lt i k ≡ b →
        slice_get (consecutive first k ++ (first + k) ∷ []) i ≡ Some (first + i)
    by_order inner true e = got_first (consecutive first k) ((first + k) ∷ []) i (first + i) (inner (grind (arith, nat_tests)))
    by_order inner false e =
        let same : i ≡ k = grind (arith, nat_tests) in
        got_after (consecutive first k) ((first + k) ∷ []) 0 i (let f = numbered_length first k in omega (arith, f, same))
        ∙ ap (λ (n : ℕ). Some (first + n)) (sym same)

running_length : (k : ℕ) → length (running_children k) ≡ k
running_length zero = refl
running_length (suc k) = length-append (running_children k) (None ∷ []) ∙ (let e = running_length k in omega (arith, e))

-- each of them runs
running_at : (k i : ℕ) → i < k → slice_get (running_children k) i ≡ Some None
running_at zero i less = absurd (omega (arith, less))
running_at (suc k) i less = by_order (λ lt. running_at k i lt) (nat_lt i k) refl
  where
    by_order : (i < k → slice_get (running_children k) i ≡ Some None) → (b : Bool) → nat_lt i k ≡ b →
        slice_get (running_children k ++ None ∷ []) i ≡ Some None
    by_order inner true e = got_first (running_children k) (None ∷ []) i None (inner (grind (arith, nat_tests)))
    by_order inner false e =
        let same : i ≡ k = grind (arith, nat_tests) in
        got_after (running_children k) (None ∷ []) 0 i (let f = running_length k in omega (arith, f, same))

all_running : (k : ℕ) → All (λ (e : End). e ≡ None) (running_children k)
all_running zero = All-nil (λ (e : End). e ≡ None)
all_running (suc k) = All-append (λ (e : End). e ≡ None) (running_children k) (None ∷ []) (all_running k)
    (All-cons (λ (e : End). e ≡ None) None [] refl (All-nil (λ (e : End). e ≡ None)))

-- the innermost nursery is among the blocks
has_innermost : (fs ls outer gs : List Frame) (id : ℕ) (left : Bor (List Step)) → AreLoops ls → outer ≡ fs ++ Nursery id ∷ ls →
    gs ≡ outer ++ Steps left ∷ [] → HasBlock id (blocks_of gs)
has_innermost fs ls outer gs id left are within held =
    subst (λ (bs : List Block). HasBlock id bs)
    (sym (blocks_pushed outer gs (Steps left) held ∙ append-nil (blocks_of outer) ∙ ap blocks_of within ∙ body_blocks fs ls id are))
    (has_last id (blocks_of fs) (a_nursery id ∷ []) (inl refl))

-- the frames that enclose the steps, once the nursery has more children with these numbers
started_frames : (numbers : Numbers) (fs ls outer : List Frame) (id : ℕ) (added : List ℕ) → AreLoops ls → outer ≡ fs ++ Nursery id ∷ ls →
    (HasBlock id (blocks_of fs) → ⊥) →
    frames_of (with_numbers numbers id (numbers id ++ added)) outer ≡ with_started added (frames_of numbers outer)
started_frames numbers fs ls outer id added are within apart =
    ap (frames_of more) within ∙ onto_append more fs (Nursery id ∷ ls) []
    ∙ ap (λ (ns : List ℕ). frames_onto more ls (rest.in_nursery ns ∷ frames_of more fs))
    (numbers_put numbers id (numbers id ++ added) id refl)
    ∙ ap (λ (gs : List rest.Frame). frames_onto more ls (rest.in_nursery (numbers id ++ added) ∷ gs))
    (frames_others numbers more fs (λ key has. numbers_else numbers id (numbers id ++ added) key
    (λ is. apart (subst (λ (k : ℕ). HasBlock k (blocks_of fs)) is has))))
    ∙ loops_onto numbers more ls (rest.in_nursery (numbers id ++ added) ∷ frames_of numbers fs) are
    ∙ sym (started_onto numbers added ls (rest.in_nursery (numbers id) ∷ frames_of numbers fs) are)
    ∙ sym (ap (with_started added) (ap (frames_of numbers) within ∙ onto_append numbers fs (Nursery id ∷ ls) []))
  where
    more : Numbers
    more = with_numbers numbers id (numbers id ++ added)

-- ---- any children that are started in the innermost nursery

-- What is known of a task before it starts children in the nursery in whose body it is: the frames before the move, those inside which
-- the nursery's body is, and the steps that are left of the body.
module _ (b : State) (whole fs ls outer : List Frame) (id : ℕ) (left : Bor (List Step)) (u : State) (cancelled_from : Table) (numbers : Numbers)
    (stopped : Option Stopped) (ps : List Place) (stands : Stands (with_frames b whole) cancelled_from numbers stopped ps)
    (are : AreLoops ls) (within : outer ≡ fs ++ Nursery id ∷ ls) (held : b.frames ≡ outer ++ Steps left ∷ []) (same : blocks_of b.frames ≡ blocks_of whole)
    (apart : HasBlock id (blocks_of fs) → ⊥) (world : u ≡ record b { book = u.book; started = u.started }) where
  -- its nursery is among its blocks
  mine : HasBlock id (blocks_of b.frames)
  mine = has_innermost fs ls outer b.frames id left are within held

  innermost : HasBlock id (blocks_of whole)
  innermost = subst (λ (cs : List Block). HasBlock id cs) same mine

  -- its children have as many numbers
  have_numbers : (n : Members) → nursery_at b.book id ≡ Some n → length (numbers id) ≡ length n.children
  have_numbers n was = subst (λ (o : Option Members). IsSomeAnd o (λ m. length (numbers id) ≡ length m.children)) was (stands.numbered id innermost)

  frames_after : u.frames ≡ b.frames
  frames_after = ap (λ (s : State). s.frames) world

  -- it makes the move in which they begin with these numbers
  pub took_starts : (n : Members) (ends : List End) (added : List ℕ) (tasks : List Task) (bs : List Begun) (made : List Event) →
      nursery_at b.book id ≡ Some n → Updates b.book u.book id (Some (record n { children = n.children ++ ends })) →
      All (λ (e : End). e ≡ None) ends → length added ≡ length ends → u.started ≡ b.started ++ tasks →
      AreBegun b.clock (a_round_after b.clock b.tick) (with_numbers numbers id (numbers id ++ added)) u.book
      (blocks_of b.frames) None tasks bs → cancelled_from_after cancelled_from made ≡ cancelled_from →
      shown_made b.clock (buffer_of b.part) made ≡ [] → Acts b.tick (scoping_in b) made (scoping_in b) →
      ((i number : ℕ) → slice_get added i ≡ Some number → BeginsAt id (length n.children + i) number tasks bs) →
      b.cancelled ≡ own_after b.clock b.cancelled made → acts_to_serve made ≡ [] →
      Took (with_frames b whole) u (On None) cancelled_from numbers
      (record {
        frames = rest.steps_left (steps_of left.now) ∷ with_started added (frames_of numbers outer);
        places = ps;
        exc = None;
        made = made;
        begun = bs;
        stopped = None;
      })
  took_starts n ends added tasks bs made was put run long started begun quiet unshown acts begins own none =
      record {
        numbers_after = more;
        frames_after =
            ap (frames_of more) frames_after ∙ frames_pushed more outer b.frames (Steps left) held
            ∙ ap (λ (gs : List rest.Frame). rest.steps_left (steps_of left.now) ∷ gs)
            (started_frames numbers fs ls outer id added are within apart);
        places =
            subst (λ (f : Table). AreAt u.labels u.events f (stack_in u) ps) (sym quiet)
            (subst (λ (s : State). AreAt s.labels s.events cancelled_from (stack_in s) ps) (sym world) stands.places);
        event = tt;
        moves = (refl, refl);
        entries = [];
        noted = ap (λ (s : State). s.entries) world ∙ sym (append-nil b.entries);
        shown = none_noted b.clock (buffer_of b.part) made unshown;
        tasks = tasks;
        started = started;
        begun =
            subst (λ (gs : List Frame). AreBegun b.clock (a_round_after b.clock b.tick) more u.book (blocks_of gs) None tasks bs)
            (sym frames_after) begun;
        last = tt;
        served = unserved b.acts u.acts made none (ap (λ (s : State). s.acts) world);
        nurseries =
            nurseries_put (with_frames b whole) u None numbers id n (record n { children = n.children ++ ends }) was put innermost there more
            tasks bs
            (record {
              scope = refl;
              waiter = refl;
              label = refl;
              more = ends;
              children = refl;
              run = run;
              added = added;
              numbers = put_at id refl;
              last = inl refl;
            })
            (λ key differs. numbers_else numbers id (numbers id ++ added) key differs) by_lengths kept covered stands.numbered;
        acts = subst (λ (s : State). Acts b.tick (scoping_in b) made (scoping_in s)) (sym world) acts;
        own = ap (λ (s : State). s.cancelled) world ∙ own;
      }
    where
      more : Numbers
      more = with_numbers numbers id (numbers id ++ added)

      blocks : blocks_of u.frames ≡ blocks_of whole
      blocks = ap blocks_of frames_after ∙ same

      there : (key : ℕ) → HasNurseryOf key (blocks_of u.frames) None → HasBlock key (blocks_of whole)
      there key has = subst (λ (cs : List Block). HasBlock key cs) blocks (block_of key (blocks_of u.frames) None refl has)

      kept : (key : ℕ) → HasBlock key (blocks_of whole) → HasNurseryOf key (blocks_of u.frames) None
      kept key has = inl (subst (λ (cs : List Block). HasBlock key cs) (sym blocks) has)

      put_at : (key : ℕ) → key ≡ id → more key ≡ numbers key ++ added
      put_at key is = numbers_put numbers id (numbers id ++ added) key is ∙ ap (λ (k : ℕ). numbers k ++ added) (sym is)

      by_lengths : length (numbers id) ≡ length n.children → length (more id) ≡ length (n.children ++ ends)
      by_lengths count =
          ap (λ (ns : List ℕ). length ns) (put_at id refl) ∙ length-append (numbers id) added ∙ ap (λ (x : ℕ). x + length added) count
          ∙ ap (λ (x : ℕ). length n.children + x) long
          ∙ sym (length-append n.children ends)

      -- a number stood among those before, or was added
      by_key : (key index number : ℕ) → HasNurseryOf key (blocks_of u.frames) None → slice_get (more key) index ≡ Some number →
          (b : Bool) → (key == id) ≡ b →
          (HasBlock key (blocks_of whole) × (slice_get (numbers key) index ≡ Some number)) ⊎ BeginsAt key index number tasks bs
      by_key key index number has at false e =
          inl (
            there key has,
            subst (λ (ns : List ℕ). slice_get ns index ≡ Some number)
                (numbers_else numbers id (numbers id ++ added) key (λ is. absurd (let x : true ≡ false = sym (eq-eqb key id is) ∙ e in cc)))
                at,
          )
      by_key key index number has at true e =
          by_part (got_either (numbers key) added index number (subst (λ (ns : List ℕ). slice_get ns index ≡ Some number) (put_at key is) at))
        where
          is : key ≡ id
          is = eqb-true key id e

          by_part : (slice_get (numbers key) index ≡ Some number) ⊎ GotAfter (length (numbers key)) added index number →
              (HasBlock key (blocks_of whole) × (slice_get (numbers key) index ≡ Some number)) ⊎ BeginsAt key index number tasks bs
          by_part (inl got) = inl (there key has, got)
          by_part (inr got) =
              inr
              (subst (λ (k : ℕ). BeginsAt k index number tasks bs) (sym is)
              (subst (λ (x : ℕ). BeginsAt id x number tasks bs)
              (sym (got.following ∙ ap (λ (x : ℕ). x + got.index) (ap (λ (k : ℕ). length (numbers k)) is ∙ have_numbers n was)))
              (begins got.index number got.got)))

      covered : (key index number : ℕ) → HasNurseryOf key (blocks_of u.frames) None → slice_get (more key) index ≡ Some number →
          (HasBlock key (blocks_of whole) × (slice_get (numbers key) index ≡ Some number)) ⊎ BeginsAt key index number tasks bs
      covered key index number has at = by_key key index number has at (key == id) refl

-- a child that was started is the one that began, at its place
begun_child : (clock : Clock) (begins : ℕ) (more : Numbers) (book : NurseryBook) (blocks : List Block) (waits : Option ℕ) (task : Task)
    (label : Label) (input : List ℕ)
    (range : Range) (body : tree.Steps)
    (id i : ℕ)
    (n : Members) (ps : List Place) (number : ℕ) → IsChild begins task label input range body (home_at id n i) →
    slice_get (more id) (length n.children + i) ≡ Some number →
    HasNursery book id (λ m. (m.scope ≡ n.scope) × (slice_get m.children (length n.children + i) ≡ Some None)) → HasBlock id blocks →
    AreInRange body →
    IsBegun clock begins more book blocks waits task
    (begun_one number (record { clock = clock; input = input; part = range; task = label; path = label.indices }) body ps)
begun_child clock begins more book blocks waits task label input range body id i n ps number c at scope has in_range =
    record {
      here =
          ap (λ (x : List ℕ). (let h : Here = record {
            clock = clock;
            input = x;
            part = range_of task.part;
            task = task.label;
            path =
                task.label.indices;
          } in h)) c.input_is
          ∙ ap (λ (x : Range). (let h : Here =
          record { clock = clock; input = input; part = x; task = task.label; path = task.label.indices } in h))
          c.range_is
          ∙ ap (λ (x : Label). (let h : Here =
          record { clock = clock; input = input; part = range; task = x; path = x.indices } in h)) c.label_is;
      frames = c.frames;
      own = c.own;
      task_state = c.task_state;
      entries = c.entries;
      cancelled_from = c.cancelled_from;
      cancelled = c.cancelled;
      home = home_at id n i;
      at_home = c.home_is;
      number = at;
      nursery = scope;
      owned = inl has;
      in_range = in_range;
    }

-- ---- children that are started over the cuts of a part

over_cancelled_from : (name : List ℕ) (here : Here) (t first k : ℕ) (cancelled_from : Table) → cancelled_from_after cancelled_from (starts_over name here t first k) ≡ cancelled_from
over_cancelled_from name here t first zero cancelled_from = refl
over_cancelled_from name here t first (suc k) cancelled_from = cancelled_from_append (starts_over name here t first k) (starts (first + k)
    (label_over name here k) t ∷ []) cancelled_from ∙ over_cancelled_from name here t first k cancelled_from

over_unshown : (clock : Clock) (input name : List ℕ) (here : Here) (t first k : ℕ) →
    shown_made clock input (starts_over name here t first k) ≡ []
over_unshown clock input name here t first zero = refl
over_unshown clock input name here t first (suc k) =
    shown_append clock input (starts_over name here t first k) (starts (first + k) (label_over name here k) t ∷ [])
    ∙ append-nil (shown_made clock input (starts_over name here t first k))
    ∙ over_unshown clock input name here t first k

-- as many tasks as children begun
abbrev AreAsMany : List Task → List Begun → Type 0
AreAsMany [] [] = Unit {0}
AreAsMany [] (b ∷ bs) = ⊥
AreAsMany (t ∷ ts) [] = ⊥
AreAsMany (t ∷ ts) (b ∷ bs) = AreAsMany ts bs

same_long : (id index number : ℕ) (ts us : List Task) (bs cs : List Begun) → AreAsMany ts bs → BeginsAt id index number us cs →
    BeginsAt id index number (ts ++ us) (bs ++ cs)
same_long id index number [] us [] cs a h = h
same_long id index number [] us (b ∷ bs) cs a h = absurd a
same_long id index number (t ∷ ts) us [] cs a h = absurd a
same_long id index number (t ∷ ts) us (b ∷ bs) cs a h = inr (same_long id index number ts us bs cs a h)

long_more : (t : Task) (b : Begun) (ts : List Task) (bs : List Begun) → AreAsMany ts bs → AreAsMany (ts ++ t ∷ []) (bs ++ b ∷ [])
long_more t b [] [] a = tt
long_more t b [] (c ∷ bs) a = absurd a
long_more t b (u ∷ ts) [] a = absurd a
long_more t b (u ∷ ts) (c ∷ bs) a = long_more t b ts bs a

children_long : (self : State) (id : ℕ) (n : Members) (name : List ℕ) (k : ℕ) (body : tree.Steps) (ps : List Place) (first i : ℕ)
    (tasks : List Task) →
    AreChildren self id n name k body tasks i → AreAsMany tasks (begun_over name (here_inside self) k body ps first i)
children_long self id n name k body ps first zero tasks c = subst (λ (ts : List Task). AreAsMany ts []) (sym c) tt
children_long self id n name k body ps first (suc i) tasks c =
    subst (λ (ts : List Task). AreAsMany ts (begun_over name (here_inside self) k body ps first (suc i))) (sym c.2)
    (long_more c.1 _ c.0 (begun_over name (here_inside self) k body ps first i) (children_long self id n name k body ps first i c.0 c.3))

begun_more : (clock : Clock) (at : ℕ) (numbers : Numbers) (book : NurseryBook) (blocks : List Block) (waits : Option ℕ)
    (ts us : List Task) (bs cs : List Begun) →
    AreBegun clock at numbers book blocks waits ts bs →
    AreBegun clock at numbers book blocks waits us cs → AreBegun clock at numbers book blocks waits (ts ++ us) (bs ++ cs)
begun_more clock at numbers book blocks waits [] us [] cs h k = k
begun_more clock at numbers book blocks waits [] us (b ∷ bs) cs h k = absurd h
begun_more clock at numbers book blocks waits (t ∷ ts) us [] cs h k = absurd h
begun_more clock at numbers book blocks waits (t ∷ ts) us (b ∷ bs) cs h k =
    (h.0, begun_more clock at numbers book blocks waits ts us bs cs h.1 k)

-- the first i of them began
begun_first : (more : Numbers) (book : NurseryBook) (blocks : List Block) (waits : Option ℕ) (self : State) (id : ℕ) (n : Members)
    (name : List ℕ) (k : ℕ) (body : tree.Steps)
    (ps : List Place)
    (first : ℕ) → ((i : ℕ) → i < k → slice_get (more id) (length n.children + i) ≡ Some (first + i)) →
    ((i : ℕ) → i < k → HasNursery book id (λ m. (m.scope ≡ n.scope) × (slice_get m.children (length n.children + i) ≡ Some None))) →
    HasBlock id blocks →
    AreInRange body → (i : ℕ) → i ≤ k → (tasks : List Task) → AreChildren self id n name k body tasks i →
    AreBegun self.clock (begins_in self) more book blocks waits tasks (begun_over name (here_inside self) k body ps first i)
begun_first more book blocks waits self id n name k body ps first got scope has in_range zero few tasks c =
    subst (λ (ts : List Task). AreBegun self.clock (begins_in self) more book blocks waits ts []) (sym c) tt
begun_first more book blocks waits self id n name k body ps first got scope has in_range (suc i) few tasks c =
    subst (λ (ts : List Task). AreBegun self.clock (begins_in self) more book blocks waits ts
    (begun_over name (here_inside self) k body ps first (suc i))) (sym c.2)
    (begun_more self.clock (begins_in self) more book blocks waits c.0 (c.1 ∷ []) (begun_over name (here_inside self) k body ps first i)
    (begun_one (first + i) (here_in (label_over name (here_inside self) i) (cut_of (buffer_of self.part) (lent_at self).range k i)
    (here_inside self)) body ps ∷ [])
    (begun_first more book blocks waits self id n name k body ps first got scope has in_range i (omega (arith, few)) c.0 c.3) (
      begun_child self.clock (begins_in self) more book blocks waits c.1 (label_over name (here_inside self) i) (buffer_of self.part)
          (cut_of (buffer_of self.part) (lent_at self).range k i) body id i n ps
          (first + i) c.4
          (got i (omega (arith, few))) (scope i (omega (arith, few))) has in_range,
      tt,
    ))

-- each of the first i begins at its place
begins_over : (self : State) (id : ℕ) (n : Members) (name : List ℕ) (k : ℕ) (body : tree.Steps) (ps : List Place) (first i : ℕ)
    (tasks : List Task) →
    AreChildren self id n name k body tasks i → (at number : ℕ) → slice_get (consecutive first i) at ≡ Some number →
    BeginsAt id (length n.children + at) number tasks (begun_over name (here_inside self) k body ps first i)
begins_over self id n name k body ps first zero tasks c at number e = absurd (let f : None ≡ Some number = e in cc)
begins_over self id n name k body ps first (suc i) tasks c at number e =
    subst (λ (ts : List Task). BeginsAt id (length n.children + at) number ts (begun_over name (here_inside self) k body ps first (suc i)))
    (sym c.2)
    (by_part (λ got. begins_over self id n name k body ps first i c.0 c.3 at number got)
    (got_either (consecutive first i) ((first + i) ∷ []) at number e))
  where
    last : Begun
    last = begun_one (first + i) (here_in (label_over name (here_inside self) i) (cut_of (buffer_of self.part) (lent_at self).range k i)
        (here_inside self)) body ps

    by_part : (slice_get (consecutive first i) at ≡ Some number → BeginsAt id (length n.children + at) number c.0
        (begun_over name (here_inside self) k body ps first i)) →
        (slice_get (consecutive first i) at ≡ Some number) ⊎ GotAfter (length (consecutive first i)) ((first + i) ∷ []) at number →
        BeginsAt id (length n.children + at) number (c.0 ++ c.1 ∷ []) (begun_over name (here_inside self) k body ps first i ++ last ∷ [])
    by_part before (inl got) =
        begins_more id (length n.children + at) number c.0 (c.1 ∷ []) (begun_over name (here_inside self) k body ps first i) (last ∷ [])
        (before got)
    by_part before (inr got) = by_place got.index got.following got.got
      where
        by_place : (j : ℕ) → at ≡ length (consecutive first i) + j → slice_get ((first + i) ∷ []) j ≡ Some number →
            BeginsAt id (length n.children + at) number (c.0 ++ c.1 ∷ [])
            (begun_over name (here_inside self) k body ps first i ++ last ∷ [])
        by_place zero following at_first =
            same_long id (length n.children + at) number c.0 (c.1 ∷ []) (begun_over name (here_inside self) k body ps first i) (last ∷ [])
            (children_long self id n name k body ps first i c.0 c.3)
            (inl (
              ap (λ (h : Option Home). home_in h) c.4.home_is ∙ ap (λ (x : ℕ). Some (id, length n.children + x))
                  (let f = numbered_length first i in let g : i ≡ at = omega (arith, f, following) in g),
              same_Some (first + i) number at_first,
            ))
        by_place (suc j) following at_first = absurd (let f : None ≡ Some number = at_first in cc)

-- ---- the children of a `start`

module _ (b : State) (whole fs ls outer : List Frame) (id : ℕ) (left : Bor (List Step)) (u : State) (cancelled_from : Table) (numbers : Numbers)
    (stopped : Option Stopped) (ps : List Place) (stands : Stands (with_frames b whole) cancelled_from numbers stopped ps)
    (are : AreLoops ls) (within : outer ≡ fs ++ Nursery id ∷ ls) (held : b.frames ≡ outer ++ Steps left ∷ []) (same : blocks_of b.frames ≡ blocks_of whole)
    (apart : HasBlock id (blocks_of fs) → ⊥) (world : u ≡ record b { book = u.book; started = u.started }) (name : List ℕ)
    (body : tree.Steps) (count : ℕ) (in_range : AreInRange body) where
  -- one child is started
  pub took_start : (part : Part) → buffer_of part ≡ buffer_of b.part → range_of part ≡ (lent_at b).range →
      StartsOne b u id (record { name = name; indices = path_at b }) part body →
      Took (with_frames b whole) u (On None) cancelled_from numbers
      (step_on cancelled_from (now_at b) (here_inside b) (tree.start name None body) (steps_of left.now)
      (frames_of numbers outer) ps count)
  took_start part input_is range_is s =
      took_starts b whole fs ls outer id left u cancelled_from numbers stopped ps stands are within held same apart world s.nursery (None ∷ []) (count ∷ []) (s.task ∷ [])
      (begun_one count (here_in (label_here name (here_inside b)) (lent_at b).range (here_inside b)) body ps ∷ [])
      (starts count (label_here name (here_inside b)) (begins_in b) ∷ [])
      s.was s.book (All-cons (λ (e : End). e ≡ None) None [] refl (All-nil (λ (e : End). e ≡ None))) refl
      s.started (
        begun_child b.clock (begins_in b) more u.book (blocks_of b.frames) None s.task (label_here name (here_inside b)) (buffer_of b.part)
            (lent_at b).range body id 0 s.nursery ps count child got
            (subst (λ (o : Option Members). IsSomeAnd o (λ m. (m.scope ≡ s.nursery.scope)
            × (slice_get m.children (length s.nursery.children + 0) ≡ Some None)))
            (sym s.book.changed) (refl, got_after s.nursery.children (None ∷ []) 0 (length s.nursery.children + 0) refl))
            (mine b whole fs ls outer id left u cancelled_from numbers stopped ps stands are within held same apart world) in_range,
        tt,
      ) refl refl (start_acts b.tick count (label_here name (here_inside b)) (begins_in b) (scoping_in b) (scoping_in b) refl) begins refl refl
    where
      more : Numbers
      more = with_numbers numbers id (numbers id ++ count ∷ [])

      child : IsChild (begins_in b) s.task (label_here name (here_inside b)) (buffer_of b.part) (lent_at b).range body (home_at id s.nursery 0)
      child =
          subst (λ (input : List ℕ). IsChild (begins_in b) s.task (label_here name (here_inside b)) input (lent_at b).range body
          (home_at id s.nursery 0)) input_is
          (subst (λ (r : Range). IsChild (begins_in b) s.task (label_here name (here_inside b)) (buffer_of part) r body
          (home_at id s.nursery 0)) range_is s.child)

      begins : (i number : ℕ) → slice_get (count ∷ []) i ≡ Some number →
          BeginsAt id (length s.nursery.children + i) number (s.task ∷ [])
          (begun_one count (here_in (label_here name (here_inside b)) (lent_at b).range (here_inside b)) body ps ∷ [])
      begins zero number e = inl (ap (λ (h : Option Home). home_in h) s.child.home_is, same_Some count number e)
      begins (suc i) number e = absurd (none-some number e)

      got : slice_get (more id) (length s.nursery.children + 0) ≡ Some count
      got =
          ap (λ (ns : List ℕ). slice_get ns (length s.nursery.children + 0)) (numbers_put numbers id (numbers id ++ count ∷ []) id refl)
          ∙ got_after (numbers id) (count ∷ []) 0 (length s.nursery.children + 0)
          (ap (λ (x : ℕ). x + 0) (sym (have_numbers b whole fs ls outer id left u cancelled_from numbers stopped ps stands are within held same apart world s.nursery s.was)))

  -- the given number of children are started
  pub took_start_over : (k : ℕ) → StartsOver b u id name k body k →
      Took (with_frames b whole) u (On None) cancelled_from numbers
      (step_on cancelled_from (now_at b) (here_inside b) (tree.start name (Some k) body) (steps_of left.now)
      (frames_of numbers outer) ps count)
  took_start_over k s =
      took_starts b whole fs ls outer id left u cancelled_from numbers stopped ps stands are within held same apart world s.nursery (running_children k)
      (consecutive count k) s.tasks (begun_over name (here_inside b) k body ps count k)
      (starts_over name (here_inside b) (begins_in b) count k) s.was s.book (all_running k)
      (numbered_length count k ∙ sym (running_length k)) s.started
      (begun_first more u.book (blocks_of b.frames) None b id s.nursery name k body ps count got
      (λ i less.
      subst (λ (o : Option Members). IsSomeAnd o (λ m. (m.scope ≡ s.nursery.scope)
      × (slice_get m.children (length s.nursery.children + i) ≡ Some None)))
      (sym s.book.changed) (refl, got_after s.nursery.children (running_children k) i (length s.nursery.children + i) refl ∙ running_at k i less))
      (mine b whole fs ls outer id left u cancelled_from numbers stopped ps stands are within held same apart world) in_range k (omega arith) s.tasks s.children)
      (over_cancelled_from name (here_inside b) (begins_in b) count k cancelled_from)
      (over_unshown b.clock (buffer_of b.part) name (here_inside b) (begins_in b) count k)
      (starts_acts b.tick name (here_inside b) (begins_in b) count k (scoping_in b) (scoping_in b) refl)
      (begins_over b id s.nursery name k body ps count k s.tasks s.children)
      (own_started b.clock b.cancelled name (here_inside b) (begins_in b) count k)
      (over_unserved name (here_inside b) (begins_in b) count k)
    where
      more : Numbers
      more = with_numbers numbers id (numbers id ++ consecutive count k)

      got : (i : ℕ) → i < k → slice_get (more id) (length s.nursery.children + i) ≡ Some (count + i)
      got i less =
          ap (λ (ns : List ℕ). slice_get ns (length s.nursery.children + i)) (numbers_put numbers id (numbers id ++ consecutive count k) id refl)
          ∙ got_after (numbers id) (consecutive count k) i (length s.nursery.children + i)
          (ap (λ (x : ℕ). x + i) (sym (have_numbers b whole fs ls outer id left u cancelled_from numbers stopped ps stands are within held same apart world s.nursery s.was)))
          ∙ numbered_at count k i less
