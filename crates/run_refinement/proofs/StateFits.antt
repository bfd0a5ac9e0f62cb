-- Each task of the program can have its turn: a scope of another task that is inside one of its scopes belongs to a descendant,
-- and so a child of the task runs inside that.
use Rattle.std.proofs.lemmas.Bool.{eqb-true, eq-eqb}
use Rattle.std.proofs.lemmas.Bool.Decides.{nat_tests}
use Rattle.std.proofs.lemmas.List.Elements.{All-head, All-tail}
use Rattle.std.proofs.Common.{◌≡◌, ◌≢◌, ◌⊎◌, inl, inr, ◌==◌, nat_lt, Bool, true, false, ℕ, zero, suc, ◌<◌, ◌≤◌, Option, Some, None, List, [], ◌∷◌, ◌++◌, length, append_assoc, refl, ap, sym, ◌∙◌, subst, arith}
use Rattle.std.specs.Prelude.{All, IsSome, slice_get}
use Rattle.turn_semantics.specs.Lists.{IsAmong}
use Rattle.input_lines.specs.Part.{buffer_of}
use Rattle.job_meaning.specs.Walk.{Here}
use Rattle.std.specs.Option.{ForSome, unwrap_or, option_map}
use Rattle.std.specs.List.{last_or}
use Rattle.cancel_scopes.specs.Sight.{Level}
use Rattle.cancel_scopes.specs.Tree.{Stack, Tree, stack_of, outer_of, IsOpen, IsChain, IsApart}
use Rattle.job_tree.specs.Tree.{Tree as Job}
use Rattle.nursery_book.specs.Nursery.{End, Nursery}
use Rattle.nursery_book.specs.Book.{nursery_at}
use Rattle.nursery_book.specs.declared.book.NurseryBook.{NurseryBook}
use Rattle.task_machine.specs.States.{state_of}
use Rattle.task_machine.specs.declared.task.Home.{Home}
use Rattle.task_machine.specs.declared.task.Own.{Own}
use Rattle.task_machine.specs.declared.task.Task.{Task}
use Rattle.task_machine.specs.Fitting.{Block, a_scope, a_nursery, blocks_of, AreOthers, AnyRuns, RunsIn, OthersRun, Opened, waits_of, Fits}
use Rattle.task_machine.specs.Labels.{Labels}
use Rattle.task_machine.specs.Left.{keys_of, keys_in, OwnFirst}
use Rattle.task_machine.specs.Stacked.{IsKey}
use Rattle.task_machine.specs.Standing.{HasNurseryOf}
use Rattle.task_machine.specs.Tasks.{home_scope}
use Rattle.task_machine.specs.Worlds.{label_at}
use Rattle.task_machine.proofs.Stacked.{one_of}
use Rattle.task_machine.proofs.OwnLemmas.{ids}
use Rattle.task_machine.proofs.Others.{LevelAt, level_at, all_after, among_left, among_right}
use Rattle.run_refinement.specs.RunState.{RunState, LivesIn, HasHome, OpenedBy, Refines}
use Rattle.run_refinement.specs.Turn.{IsSound}
use Rattle.run_refinement.proofs.Found.{got_first, SplitAt, split_at, later_after, finds, gives, puts, KeysAt, keys_at}
use Rattle.turn_semantics.specs.Midway.{Tables}

-- ---- keys

keys_split : (before following : List Own) (o : Own) → keys_in (before ++ o ∷ following) ≡ keys_in following ++ o.id ∷ keys_in before
keys_split [] following o = refl
keys_split (x ∷ before) following o =
    ap (λ (ks : List ℕ). ks ++ x.id ∷ []) (keys_split before following o) ∙ append_assoc (keys_in following) (o.id ∷ keys_in before) (x.id ∷ [])

among_own : (own : List Own) (i : ℕ) (o : Own) → slice_get own i ≡ Some o → IsAmong o.id (keys_in own)
among_own [] i o e = absurd (let f : None ≡ Some o = e in cc)
among_own (x ∷ own) zero o e =
    let f : Some x ≡ Some o = e in let g : o.id ≡ x.id = cc in among_right o.id (keys_in own) (x.id ∷ []) (inl g)
among_own (x ∷ own) (suc i) o e = among_left o.id (keys_in own) (x.id ∷ []) (among_own own i o e)

among_either : (k : ℕ) (ks ms : List ℕ) → IsAmong k (ks ++ ms) → IsAmong k ks ⊎ IsAmong k ms
among_either k [] ms i = inr i
among_either k (x ∷ ks) ms (inl e) = inl (inl e)
among_either k (x ∷ ks) ms (inr i) = by_rest (among_either k ks ms i)
  where
    by_rest : IsAmong k ks ⊎ IsAmong k ms → IsAmong k (x ∷ ks) ⊎ IsAmong k ms
    by_rest (inl j) = inl (inr j)
    by_rest (inr j) = inr j

-- a key among those of own scopes is that of one of them
record IsOwnAt (own : List Own) (key : ℕ) : Type 0 where
  pub index : ℕ
  pub scope : Own
  pub at : slice_get own index ≡ Some scope
  pub is : scope.id ≡ key

own_last : (own : List Own) (o x : Own) (i : ℕ) → slice_get own i ≡ Some x → slice_get (o ∷ own) (suc i) ≡ Some x
own_last own o x i e = e

own_among : (own : List Own) (key : ℕ) → IsAmong key (keys_in own) → IsOwnAt own key
own_among [] key i = absurd i
own_among (o ∷ own) key i = by_part (among_either key (keys_in own) (o.id ∷ []) i) (λ j. own_among own key j)
  where
    by_part : IsAmong key (keys_in own) ⊎ IsAmong key (o.id ∷ []) → (IsAmong key (keys_in own) → IsOwnAt own key) → IsOwnAt (o ∷ own) key
    by_part (inl j) rest = let r = rest j in record { index = suc r.index; scope = r.scope; at = r.at; is = r.is }
    by_part (inr (inl e)) rest = record { index = 0; scope = o; at = refl; is = sym e }
    by_part (inr (inr e)) rest = absurd e

key_among : (key : ℕ) (st : Stack) → IsKey key st → IsAmong key (keys_of st)
key_among key [] i = absurd i
key_among key (l ∷ ls) (inl e) = inl e
key_among key (l ∷ ls) (inr i) = inr (key_among key ls i)

-- ---- the stack of a scope that a task opened

-- it is the rest of the task's stack from that scope on: those that the task opened before it, and then the home's
pub record OwnStack (tree : Tree) (home : Option ℕ) (own : List Own) (o : Own) (n : ℕ) : Type 0 where
  pub split : SplitAt own o n
  pub level : Level ℕ
  pub following : Stack
  pub at : stack_of tree o.id ≡ Some (level ∷ following)
  pub named : level.label ≡ o.id
  pub keys : keys_of following ≡ keys_in split.before ++ keys_of (outer_of tree home)
  pub inner : (i : ℕ) (x : Own) → n < i → slice_get own i ≡ Some x → IsAmong x.id (keys_of (level ∷ following)) → ⊥

last_some : (home : Option ℕ) (before following : List Own) (o : Own) → (k : ℕ) × (last_or home (ids (before ++ o ∷ following)) ≡ Some k)
last_some home [] [] o = (o.id, refl)
last_some home [] (x ∷ following) o = last_some (Some o.id) [] following x
last_some home (y ∷ before) following o = last_some (Some y.id) before following o

stack_is : (tree : Tree) (key : ℕ) → IsOpen tree key → stack_of tree key ≡ Some (outer_of tree (Some key))
stack_is tree key h = by_stack (stack_of tree key) refl h
  where
    by_stack : (o : Option Stack) → stack_of tree key ≡ o → IsSome o → o ≡ Some (unwrap_or (stack_of tree key) [])
    by_stack None e s = absurd (let f : false ≡ true = s in cc)
    by_stack (Some st) e s = ap (λ (x : Option Stack). Some (unwrap_or x [])) (sym e)

-- a scope that a task opened is enclosed by those that it opened before, and then by its home's
pub own_stack : (tree : Tree) → IsChain tree → IsApart tree → (home : Option ℕ) (own : List Own) → OwnFirst tree home own →
    ForSome (last_or home (ids own)) (IsOpen tree) →
    (n : ℕ) (o : Own) → slice_get own n ≡ Some o → OwnStack tree home own o n
own_stack tree chain apart home own first opened n o e =
    record {
      split = split;
      level = at.level;
      following = at.following;
      at = ap (stack_of tree) (sym at.named) ∙ chain last.0 whole is_whole at.before at.level at.following at.is;
      named = at.named;
      keys = at.outer;
      inner = inner;
    }
  where
    split : SplitAt own o n
    split = split_at own o n e

    last : (k : ℕ) × (last_or home (ids own) ≡ Some k)
    last = subst (λ (os : List Own). (k : ℕ) × (last_or home (ids os) ≡ Some k)) (sym split.is) (last_some home split.before split.following o)

    whole : Stack
    whole = outer_of tree (Some last.0)

    is_whole : stack_of tree last.0 ≡ Some whole
    is_whole = stack_is tree last.0 (opened last.0 last.1)

    keys : keys_of whole ≡ keys_in split.following ++ o.id ∷ (keys_in split.before ++ keys_of (outer_of tree home))
    keys =
        ap (λ (x : Option ℕ). keys_of (outer_of tree x)) (sym last.1) ∙ first
        ∙ ap (λ (os : List Own). keys_in os ++ keys_of (outer_of tree home)) split.is
        ∙ ap (λ (ks : List ℕ). ks ++ keys_of (outer_of tree home)) (keys_split split.before split.following o)
        ∙ append_assoc (keys_in split.following) (o.id ∷ keys_in split.before) (keys_of (outer_of tree home))

    at : KeysAt whole (keys_in split.following) o.id (keys_in split.before ++ keys_of (outer_of tree home))
    at = keys_at whole (keys_in split.following) o.id (keys_in split.before ++ keys_of (outer_of tree home)) keys

    inner : (i : ℕ) (x : Own) → n < i → slice_get own i ≡ Some x → IsAmong x.id (keys_of (at.level ∷ at.following)) → ⊥
    inner i x lt f within = all_not x.id (at.level ∷ at.following) (all_after (λ (l : Level ℕ). l.label ≢ x.id) up.following
        (at.level ∷ at.following) others) within
      where
        later : (j : ℕ) × (slice_get split.following j ≡ Some x)
        later =
            later_after split.before split.following o x i (let g = split.long in omega (arith, g, lt))
            (subst (λ (os : List Own). slice_get os i ≡ Some x) split.is f)

        up : LevelAt x.id at.before
        up = level_at x.id at.before (subst (λ (ks : List ℕ). IsAmong x.id ks) (sym at.inner) (among_own split.following later.0 x later.1))

        others : All (λ (l : Level ℕ). l.label ≢ x.id) (up.following ++ at.level ∷ at.following)
        others =
            subst (λ (k : ℕ). All (λ (l : Level ℕ). l.label ≢ k) (up.following ++ at.level ∷ at.following)) up.named
            (apart last.0 whole is_whole up.before up.level (up.following ++ at.level ∷ at.following)
            (at.is ∙ ap (λ (st : Stack). st ++ at.level ∷ at.following) up.is
            ∙ append_assoc up.before (up.level ∷ up.following) (at.level ∷ at.following)))

        all_not : (key : ℕ) (st : Stack) → All (λ (l : Level ℕ). l.label ≢ key) st → IsAmong key (keys_of st) → ⊥
        all_not key [] a i = i
        all_not key (l ∷ ls) a (inl g) = All-head (λ (m : Level ℕ). m.label ≢ key) l ls a (sym g)
        all_not key (l ∷ ls) a (inr i) = all_not key ls (All-tail (λ (m : Level ℕ). m.label ≢ key) l ls a) i

-- ---- the scope of a nursery that a task has

-- the task opened it, and if a child of the nursery runs, one runs in it and in each scope of the task that encloses it
pub record NurseryOwn (book : NurseryBook) (bs : List Block) (own : List Own) (waits : Option ℕ) (id : ℕ) (n : Nursery) : Type 0 where
  pub index : ℕ
  pub scope : Own
  pub at : slice_get own index ≡ Some scope
  pub is : n.scope ≡ scope.id
  pub runs : AnyRuns n.children → (i : ℕ) → i ≤ index → RunsIn book bs i waits

-- of a nursery further in
later_own : (book : NurseryBook) (b : Block) (bs : List Block) (o : Own) (own : List Own) (waits : Option ℕ) (id : ℕ) (n : Nursery) →
    (RunsIn book bs 0 waits → RunsIn book (b ∷ bs) 0 waits) → ((i : ℕ) → RunsIn book bs i waits → RunsIn book (b ∷ bs) (suc i) waits) →
    NurseryOwn book bs own waits id n →
    NurseryOwn book (b ∷ bs) (o ∷ own) waits id n
later_own book b bs o own waits id n first later h =
    record { index = suc h.index; scope = h.scope; at = h.at; is = h.is; runs = runs }
  where
    runs : AnyRuns n.children → (i : ℕ) → i ≤ suc h.index → RunsIn book (b ∷ bs) i waits
    runs r zero le = first (h.runs r 0 (omega arith))
    runs r (suc i) le = later i (h.runs r i (omega (arith, le)))

-- a task opened its nursery's scope; where a child runs in that nursery, one runs in each of its scopes up to that one
pub nursery_own : (labels : Labels) (book : NurseryBook) (bs : List Block) (own : List Own) (waits : Option ℕ) (id : ℕ) (n : Nursery) →
    Opened labels book bs own waits →
    HasNurseryOf id bs waits → nursery_at book id ≡ Some n → NurseryOwn book bs own waits id n
nursery_own labels book [] own waits id n h (inl has) e = absurd has
nursery_own labels book [] [] None id n h (inr w) e = absurd (let f : None ≡ Some id = w in cc)
nursery_own labels book [] [] (Some key) id n h (inr w) e = absurd h
nursery_own labels book [] (o ∷ own) None id n h (inr w) e = absurd h
nursery_own labels book [] (o ∷ own) (Some key) id n h (inr w) e =
    let same : key ≡ id = (let f : Some key ≡ Some id = w in cc) in
    let at : nursery_at book key ≡ Some n = ap (nursery_at book) same ∙ e in
    record {
      index = 0;
      scope = o;
      at = refl;
      is = (gives book key n _ at h.1).0.scope;
      runs =
          λ r i le. puts book key n (λ m. AnyRuns m.children) at r;
    }
nursery_own labels book (b ∷ bs) [] waits id n h has e = absurd h
nursery_own labels book (a_scope ∷ bs) (o ∷ own) waits id n h has e =
    later_own book a_scope bs o own waits id n (λ r. r) (λ i r. r) (nursery_own labels book bs own waits id n h.2 has e)
nursery_own labels book (a_nursery key ∷ bs) (o ∷ own) waits id n h (inl (inl is)) e =
    let at : nursery_at book key ≡ Some n = ap (nursery_at book) (sym is) ∙ e in
    record { index = 0; scope = o; at = refl; is = (gives book key n _ at h.0).0.scope; runs = first at }
  where
    first : nursery_at book key ≡ Some n → AnyRuns n.children → (i : ℕ) → i ≤ 0 → RunsIn book (a_nursery key ∷ bs) i waits
    first at r zero le = inl (puts book key n (λ m. AnyRuns m.children) at r)
    first at r (suc i) le = absurd (omega (arith, le))
nursery_own labels book (a_nursery key ∷ bs) (o ∷ own) waits id n h (inl (inr has)) e =
    later_own book (a_nursery key) bs o own waits id n (λ r. inr r) (λ i r. r) (nursery_own labels book bs own waits id n h.2 (inl has) e)
nursery_own labels book (a_nursery key ∷ bs) (o ∷ own) waits id n h (inr w) e =
    later_own book (a_nursery key) bs o own waits id n (λ r. inr r) (λ i r. r) (nursery_own labels book bs own waits id n h.2 (inr w) e)

one_runs : (es : List End) (index : ℕ) → slice_get es index ≡ Some None → AnyRuns es
one_runs [] index e = absurd (let f : None ≡ Some None = e in cc)
one_runs (None ∷ es) index e = tt
one_runs (Some x ∷ es) zero e = absurd (let f : Some (Some x) ≡ Some None = e in cc)
one_runs (Some x ∷ es) (suc index) e = one_runs es index e

-- ---- a scope of a task that encloses those of another

module _ (k : Tables) (job : Job) (input : List ℕ) (t m : ℕ) (leaving : Option ℕ) (state : RunState) (c : Refines k job input t m leaving state)
    (sound : IsSound state.world.scopes) where
  -- the stack of one of a task's scopes
  stack_by : (s : ℕ) (task : Task) → state.task s ≡ Some task → (n : ℕ) (o : Own) → slice_get task.own.items n ≡ Some o →
      OwnStack state.world.scopes (home_scope task) task.own.items o n
  stack_by s task e n o at =
      let f = (c.follows s task e).goes in own_stack state.world.scopes sound.chain sound.apart (home_scope task) task.own.items f.first
      f.scope n o at

  opened_by : (s : ℕ) (task : Task) → state.task s ≡ Some task → (n : ℕ) (o : Own) → slice_get task.own.items n ≡ Some o →
      OpenedBy state o.id s
  opened_by s task e n o at = record { task = task; lives = e; index = n; scope = o; own = at; is = refl }

  -- a key in the stack of a task's scope that is none of the task's encloses its home
  beyond : (s : ℕ) (task : Task) (e : state.task s ≡ Some task) (n : ℕ) (o : Own) (at : slice_get task.own.items n ≡ Some o) (key : ℕ) →
      (let w = stack_by s task e n o at in IsAmong key (keys_of (w.level ∷ w.following))) → (OpenedBy state key s → ⊥) →
      IsAmong key (keys_of (outer_of state.world.scopes (home_scope task)))
  beyond s task e n o at key i never = by_first i
    where
      w : OwnStack state.world.scopes (home_scope task) task.own.items o n
      w = stack_by s task e n o at

      mine : IsAmong key (keys_in w.split.before) → ⊥
      mine j =
          let f = own_among w.split.before key j in
          never (subst (λ (x : ℕ). OpenedBy state x s) f.is (opened_by s task e f.index f.scope
          (subst (λ (os : List Own). slice_get os f.index ≡ Some f.scope) (sym w.split.is)
          (got_first w.split.before (o ∷ w.split.following) f.index f.scope f.at))))

      by_part : IsAmong key (keys_in w.split.before) ⊎ IsAmong key (keys_of (outer_of state.world.scopes (home_scope task))) →
          IsAmong key (keys_of (outer_of state.world.scopes (home_scope task)))
      by_part (inl j) = absurd (mine j)
      by_part (inr j) = j

      by_first : IsAmong key (keys_of (w.level ∷ w.following)) → IsAmong key (keys_of (outer_of state.world.scopes (home_scope task)))
      by_first (inl f) = absurd (never (subst (λ (x : ℕ). OpenedBy state x s) (sym w.named ∙ sym f) (opened_by s task e n o at)))
      by_first (inr j) =
          by_part (among_either key (keys_in w.split.before) (keys_of (outer_of state.world.scopes (home_scope task)))
          (subst (λ (ks : List ℕ). IsAmong key ks) w.keys j))

  module _ (s : ℕ) (mine : Task) (lives : state.task s ≡ Some mine) (i : ℕ) (o : Own) (at : slice_get mine.own.items i ≡ Some o) where
    -- it is none of another task's
    of_another : (u : ℕ) → u ≢ s → OpenedBy state o.id u → ⊥
    of_another u differs h = differs (c.apart o.id u s h (opened_by s mine lives i o at))

    -- the task is the parent: the child runs in the scope, or in one inside it
    in_mine : (parent : ℕ) (starter : Task) (there : state.task parent ≡ Some starter) → parent ≡ s →
        (n : ℕ) (scope : Own) (e : slice_get starter.own.items n ≡ Some scope) →
        (let w = stack_by parent starter there n scope e in IsAmong o.id (keys_of (w.level ∷ w.following))) →
        ((j : ℕ) → j ≤ n → RunsIn state.world.book (blocks_of starter.frames.items) j (waits_of starter.task_state)) →
        RunsIn state.world.book (blocks_of mine.frames.items) i (waits_of mine.task_state)
    in_mine parent starter there is n scope e among runs = by_order (nat_lt n i) refl
      where
        same : starter ≡ mine
        same = one_of starter mine (sym there ∙ ap state.task is ∙ lives)

        w : OwnStack state.world.scopes (home_scope starter) starter.own.items scope n
        w = stack_by parent starter there n scope e

        by_order : (b : Bool) → nat_lt n i ≡ b → RunsIn state.world.book (blocks_of mine.frames.items) i (waits_of mine.task_state)
        by_order true f =
            absurd (w.inner i o (grind (arith, nat_tests)) (subst (λ (x : Task). slice_get x.own.items i ≡ Some o) (sym same) at) among)
        by_order false f = subst (λ (x : Task). RunsIn state.world.book (blocks_of x.frames.items) i (waits_of x.task_state)) same
            (runs i (grind (arith, nat_tests)))

    runs_around : (n u : ℕ) (task : Task) → u < n → u ≢ s → state.task u ≡ Some task →
        IsAmong o.id (keys_of (outer_of state.world.scopes (home_scope task))) →
        RunsIn state.world.book (blocks_of mine.frames.items) i (waits_of mine.task_state)
    runs_around zero u task lt differs e among = absurd (omega (arith, lt))
    runs_around (suc n) u task lt differs e among =
        by_home task.home refl (λ p starter less other there further. runs_around n p starter less other there further)
      where
        by_home : (h : Option Home) → task.home ≡ h →
            ((p : ℕ) (starter : Task) → p < n → p ≢ s → state.task p ≡ Some starter →
            IsAmong o.id (keys_of (outer_of state.world.scopes (home_scope starter))) →
            RunsIn state.world.book (blocks_of mine.frames.items) i (waits_of mine.task_state)) →
            RunsIn state.world.book (blocks_of mine.frames.items) i (waits_of mine.task_state)
        by_home None f further = absurd (subst (λ (h : Option Home).
            IsAmong o.id (keys_of (outer_of state.world.scopes (option_map (λ (x : Home). x.scope) h)))) f among)
        by_home (Some home) f further = by_parent (l.parent == s) refl
          where
            l : LivesIn state c.interleaving.at c.numbers u home
            l = subst (λ (h : Option Home). HasHome state c.interleaving.at c.numbers u h) f (c.follows u task e).home

            nursery : (n : Nursery) × (nursery_at state.world.book home.nursery ≡ Some n)
                × ((n.scope ≡ home.scope) × (slice_get n.children home.index ≡ Some None))
            nursery = finds state.world.book home.nursery (λ n. (n.scope ≡ home.scope) × (slice_get n.children home.index ≡ Some None))
                l.runs

            own : NurseryOwn state.world.book (blocks_of l.starter.frames.items) l.starter.own.items (waits_of l.starter.task_state) home.nursery
                nursery.0
            own =
                nursery_own (label_at state.world) state.world.book (blocks_of l.starter.frames.items) l.starter.own.items
                (waits_of l.starter.task_state) home.nursery nursery.0
                (c.follows l.parent l.starter l.lives).goes.opened l.owned nursery.1

            w : OwnStack state.world.scopes (home_scope l.starter) l.starter.own.items own.scope own.index
            w = stack_by l.parent l.starter l.lives own.index own.scope own.at

            around : outer_of state.world.scopes (home_scope task) ≡ w.level ∷ w.following
            around =
                ap (λ (h : Option Home). outer_of state.world.scopes (option_map (λ (x : Home). x.scope) h)) f
                ∙ ap (λ (key : ℕ). unwrap_or (stack_of state.world.scopes key) []) (sym nursery.2.0 ∙ own.is)
                ∙ ap (λ (st : Option Stack). unwrap_or st []) w.at

            there : IsAmong o.id (keys_of (w.level ∷ w.following))
            there = subst (λ (st : Stack). IsAmong o.id (keys_of st)) around among

            by_parent : (b : Bool) → (l.parent == s) ≡ b → RunsIn state.world.book (blocks_of mine.frames.items) i (waits_of mine.task_state)
            by_parent true g =
                in_mine l.parent l.starter l.lives (eqb-true l.parent s g) own.index own.scope own.at there
                (own.runs (one_runs nursery.0.children home.index nursery.2.1))
            by_parent false g =
                let other : l.parent ≢ s = λ h. absurd (let x : true ≡ false = sym (eq-eqb l.parent s h) ∙ g in cc) in
                further l.parent l.starter (let h = l.earlier in omega (arith, h, lt)) other l.lives
                (beyond l.parent l.starter l.lives own.index own.scope own.at o.id there (of_another l.parent other))

  -- so it is with each scope of another task inside one of a task's
  others_run : (s : ℕ) (mine : Task) → state.task s ≡ Some mine →
      OthersRun state.world.scopes state.world.book (blocks_of mine.frames.items) mine.own.items (waits_of mine.task_state)
  others_run s mine lives key st e others i o at within =
      runs_around s mine lives i o at (suc by.0) by.0 by.1.task (omega arith) differs by.1.lives
      (beyond by.0 by.1.task by.1.lives by.1.index by.1.scope by.1.own o.id among (of_another s mine lives i o at by.0 differs))
    where
      by : (u : ℕ) × OpenedBy state key u
      by = c.owned key (subst IsSome (sym e) refl)

      no_other : (own : List Own) (n : ℕ) (x : Own) → slice_get own n ≡ Some x → x.id ≡ key → AreOthers key own → ⊥
      no_other [] n x f is a = absurd (let g : None ≡ Some x = f in cc)
      no_other (y ∷ own) zero x f is a =
          All-head (λ (z : Own). z.id ≢ key) y own a (let g : Some y ≡ Some x = f in ap (λ (z : Option Own). id_of z key) g ∙ is)
        where
          id_of : Option Own → ℕ → ℕ
          id_of None d = d
          id_of (Some z) d = z.id
      no_other (y ∷ own) (suc n) x f is a = no_other own n x f is (All-tail (λ (z : Own). z.id ≢ key) y own a)

      differs : by.0 ≢ s
      differs f =
          let same : by.1.task ≡ mine = one_of by.1.task mine (sym by.1.lives ∙ ap state.task f ∙ lives) in
          no_other mine.own.items by.1.index by.1.scope (subst (λ (x : Task). slice_get x.own.items by.1.index ≡ Some by.1.scope) same
          by.1.own) by.1.is others

      w : OwnStack state.world.scopes (home_scope by.1.task) by.1.task.own.items by.1.scope by.1.index
      w = stack_by by.0 by.1.task by.1.lives by.1.index by.1.scope by.1.own

      among : IsAmong o.id (keys_of (w.level ∷ w.following))
      among =
          subst (λ (x : Stack). IsAmong o.id (keys_of x)) (one_of st (w.level ∷ w.following)
          (sym e ∙ ap (stack_of state.world.scopes) (sym by.1.is) ∙ w.at)) (key_among o.id st within)

  -- each task has all that a turn asks of it
  pub state_fits : (s : ℕ) (task : Task) → state.task s ≡ Some task → Fits (state_of task state.world) (waits_of task.task_state)
  state_fits s task e =
      let f = c.follows s task e in
      record {
        runs = f.goes;
        small =
            (let same : buffer_of task.part ≡ input = ap (λ (h : Here). h.input) f.here ∙ f.input_is in
            let long : length (buffer_of task.part) ≡ length input = ap (λ (b : List ℕ). length b) same in
            let most = c.small in omega (arith, long, most));
        others = others_run s task e;
      }
