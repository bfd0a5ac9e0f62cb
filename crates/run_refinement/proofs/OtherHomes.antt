-- What a turn leaves of the homes of other tasks, which may be nurseries of the mover.
use Rattle.std.proofs.Common.{◌≡◌, ◌≢◌, ◌⊎◌, inl, inr, ℕ, zero, suc, ◌<◌, ◌&&◌, Bool, true, false, Option, Some, None, List, [], ◌∷◌, refl, ap, sym, ◌∙◌, subst, arith}
use Rattle.std.specs.Prelude.{slice_get, is_some}
use Rattle.std.specs.List.{list_all}
use Rattle.std.specs.Option.{ForSome, IsSomeAnd, option_map}
use Rattle.cancel_scopes.specs.Tree.{outer_of, IsOpen}
use Rattle.nursery_book.specs.Nursery.{End, Nursery as Members, is_settled}
use Rattle.nursery_book.specs.Book.{nursery_at, HasNursery}
use Rattle.job_tree.specs.Tree.{Tree as Job}
use Rattle.task_machine.specs.declared.stop.Stop.{Stop}
use Rattle.task_machine.specs.declared.task.Home.{Home}
use Rattle.task_machine.specs.declared.task.Task.{Task}
use Rattle.task_machine.specs.Fitting.{blocks_of, AreOthers, waits_of}
use Rattle.task_machine.specs.Standing.{HasBlock, HasNurseryOf, Grown}
use Rattle.task_machine.specs.Stops.{Numbers}
use Rattle.task_machine.specs.Tasks.{scope_of}
use Rattle.task_machine.specs.Worlds.{label_at}
use Rattle.interleavings.specs.Interleaving.{Started}
use Rattle.run_refinement.specs.RunState.{RunState, LivesIn, HasHome, Refines}
use Rattle.run_refinement.specs.Turn.{numbers_then}
use Rattle.run_refinement.specs.Turning.{Turning}
use Rattle.run_refinement.proofs.ActsKeep.{not_both, same_or}
use Rattle.run_refinement.proofs.StateTurn.{ActsOf, else_own, own_open, nursery_same}
use Rattle.run_refinement.proofs.LabelsApart.{own_around}
use Rattle.run_refinement.proofs.OtherScopes.{key_stays_open}
use Rattle.run_refinement.proofs.OtherNurseries.{HasScope, scope_of_nursery, same_nursery}
use Rattle.interleavings.proofs.Turning.{old_child}
use Rattle.task_machine.proofs.Cancels.{open_around}
use Rattle.task_machine.proofs.Stacked.{one_of}
use Rattle.run_refinement.proofs.Found.{got_first, finds}
use Rattle.run_refinement.proofs.Parts.{numbers_mover, numbers_other}
use Rattle.turn_semantics.specs.Midway.{Tables}

-- ---- a nursery in which a child runs

-- one is not settled
running_unsettled : (es : List End) (i : ℕ) → slice_get es i ≡ Some None → list_all is_some es ≡ true → ⊥
running_unsettled [] i e s = not_both refl e
running_unsettled (None ∷ es) i e s = let f : false ≡ true = s in cc
running_unsettled (Some x ∷ es) zero e s = let f : Some x ≡ None = one_of (Some x) None e in cc
running_unsettled (Some x ∷ es) (suc i) e s = running_unsettled es i e s

unsettled : (n : Members) (i : ℕ) → slice_get n.children i ≡ Some None → is_settled n ≡ true → ⊥
unsettled n i e s = by_body (is_some n.body) s
  where
    by_body : (b : Bool) → (b && list_all is_some n.children) ≡ true → ⊥
    by_body true f = running_unsettled n.children i e f
    by_body false f = let g : false ≡ true = f in cc

-- a home among the nurseries of the mover is one of its blocks
pub home_block : {k : Tables} {job : Job} {input : List ℕ} {t m s : ℕ} {old new : RunState} {before after : Task} {stop : Stop} →
    (c : Refines k job input t m None old) →
    Turning k job input t m s old new c.numbers before after stop c.interleaving → (home : Home) →
    HasNurseryOf home.nursery (blocks_of before.frames.items) (waits_of before.task_state) →
    HasNursery old.world.book home.nursery (λ n. (n.scope ≡ home.scope) × (slice_get n.children home.index ≡ Some None)) →
    HasBlock home.nursery (blocks_of before.frames.items)
home_block c T home (inl has) runs = has
home_block {old = old} c T home (inr waits) runs =
    let n = finds old.world.book home.nursery _ runs in
    let o = finds old.world.book home.nursery _ (T.over home.nursery waits) in
    absurd (unsettled n.0 home.index n.2.1 (subst (λ (x : Members). is_settled x ≡ true) (one_of o.0 n.0 (sym o.1 ∙ n.1)) o.2))

-- that nursery after the turn
pub grown : {k : Tables} {job : Job} {input : List ℕ} {t m s : ℕ} {old new : RunState} {before after : Task} {stop : Stop} →
    (c : Refines k job input t m None old) →
    (T : Turning k job input t m s old new c.numbers before after stop c.interleaving) → (id : ℕ) → HasBlock id (blocks_of before.frames.items) →
    (n : Members) → nursery_at old.world.book id ≡ Some n → (x : Members) × (nursery_at new.world.book id ≡ Some x)
    × Grown old.world.tick n x (c.numbers s id) (T.took.numbers_after id)
grown {old = old} {new = new} c T id has n e = finds new.world.book id _ (T.took.nurseries.grow id has n e)

-- ---- the home of another task

-- one of the mover's nurseries is one still
pub mover_owned : {k : Tables} {job : Job} {input : List ℕ} {t m s : ℕ} {old new : RunState} {before after : Task} {stop : Stop} →
    (c : Refines k job input t m None old) →
    (T : Turning k job input t m s old new c.numbers before after stop c.interleaving) → (u : ℕ) (home : Home) →
    (h : LivesIn old c.interleaving.at c.numbers u home) → h.parent ≡ s →
    HasBlock home.nursery (blocks_of before.frames.items) × HasNurseryOf home.nursery (blocks_of after.frames.items) (waits_of after.task_state)
mover_owned {old = old} {before = before} c T u home h e = (block, T.took.nurseries.kept home.nursery block)
  where
    starter : h.starter ≡ before
    starter = one_of h.starter before (sym h.lives ∙ (ap old.task e ∙ T.code.task))

    block : HasBlock home.nursery (blocks_of before.frames.items)
    block = home_block c T home (subst (λ (x : Task). HasNurseryOf home.nursery (blocks_of x.frames.items) (waits_of x.task_state)) starter
        h.owned) h.runs

-- a task that lives in a nursery of the mover does so after its turn
pub mover_home : {k : Tables} {job : Job} {input : List ℕ} {t m s : ℕ} {old new : RunState} {before after : Task} {stop : Stop} →
    (c : Refines k job input t m None old) →
    (T : Turning k job input t m s old new c.numbers before after stop c.interleaving) → (u : ℕ) (home : Home) →
    (h : LivesIn old c.interleaving.at c.numbers u home) → h.parent ≡ s →
    LivesIn new T.is.at (numbers_then c.numbers s m T.took.numbers_after) u home
mover_home {k} {job} {input} {t} {m} {s} {old} {new} {before} {after} c T u home h e =
    record {
      parent = s;
      starter = after;
      lives = T.code.task_after;
      earlier = subst (λ (p : ℕ). p < u) e h.earlier;
      owned = T.took.nurseries.kept home.nursery block;
      runs = subst (λ (o : Option Members). IsSomeAnd o (λ x. (x.scope ≡ home.scope) × (slice_get x.children home.index ≡ Some None)))
          (sym g.1) (g.2.scope ∙ n.2.0, child);
      number = h.number;
      stands = ap (λ (f : Numbers). slice_get (f home.nursery) home.index) (numbers_mover c.numbers s m T.took.numbers_after) ∙ number;
      below = subst (λ (x : ℕ). h.number < x) (sym (ap (λ (q : Started). q.count) T.of_task))
          (let b : h.number < (c.interleaving.at s).count = below in omega arith);
      serial = ap (λ (q : Started). q.child h.number) T.of_task ∙ (old_child (c.interleaving.at s).count (c.interleaving.at s).child m h.number below
          ∙ subst (λ (p : ℕ). (c.interleaving.at p).child h.number ≡ u) e h.serial);
    }
  where
    block : HasBlock home.nursery (blocks_of before.frames.items)
    block = (mover_owned c T u home h e).0

    n : (x : Members) × (nursery_at old.world.book home.nursery ≡ Some x)
        × ((x.scope ≡ home.scope) × (slice_get x.children home.index ≡ Some None))
    n = finds old.world.book home.nursery _ h.runs

    g : (x : Members) × (nursery_at new.world.book home.nursery ≡ Some x)
        × Grown old.world.tick n.0 x (c.numbers s home.nursery) (T.took.numbers_after home.nursery)
    g = grown c T home.nursery block n.0 n.1

    child : slice_get g.0.children home.index ≡ Some None
    child = ap (λ (es : List End). slice_get es home.index) g.2.children ∙ got_first n.0.children g.2.more home.index None n.2.1

    number : slice_get (T.took.numbers_after home.nursery) home.index ≡ Some h.number
    number =
        ap (λ (is : List ℕ). slice_get is home.index) g.2.numbers
        ∙ got_first (c.numbers s home.nursery) g.2.added home.index h.number
        (subst (λ (p : ℕ). slice_get (c.numbers p home.nursery) home.index ≡ Some h.number) e h.stands)

    below : h.number < (c.interleaving.at s).count
    below = subst (λ (p : ℕ). h.number < (c.interleaving.at p).count) e h.below

-- one of another task's
else_home : {k : Tables} {job : Job} {input : List ℕ} {t m s : ℕ} {old new : RunState} {before after : Task} {stop : Stop} →
    (c : Refines k job input t m None old) →
    (T : Turning k job input t m s old new c.numbers before after stop c.interleaving) → (u : ℕ) (home : Home) → u < m →
    (h : LivesIn old c.interleaving.at c.numbers u home) → h.parent ≢ s →
    LivesIn new T.is.at (numbers_then c.numbers s m T.took.numbers_after) u home
else_home {k} {job} {input} {t} {m} {s} {old} {new} {before} {after} c T u home small h differs =
    record {
      parent = h.parent;
      starter = h.starter;
      lives = T.code.other_after h.parent low differs ∙ h.lives;
      earlier = h.earlier;
      owned = h.owned;
      runs = same_nursery (λ x. (x.scope ≡ home.scope) × (slice_get x.children home.index ≡ Some None)) old.world.book new.world.book
          home.nursery
          (nursery_same c T h.parent h.starter differs h.lives home.nursery h.owned) h.runs;
      number = h.number;
      stands = ap (λ (f : Numbers). slice_get (f home.nursery) home.index)
          (numbers_other c.numbers s m T.took.numbers_after h.parent low differs) ∙ h.stands;
      below = subst (λ (q : Started). h.number < q.count) (sym (T.of_other h.parent low differs)) h.below;
      serial = ap (λ (q : Started). q.child h.number) (T.of_other h.parent low differs) ∙ h.serial;
    }
  where
    low : h.parent < m
    low = let e : h.parent < u = h.earlier in omega arith

-- a task that lives in another's nursery does so after any turn
pub lives_in : {k : Tables} {job : Job} {input : List ℕ} {t m s : ℕ} {old new : RunState} {before after : Task} {stop : Stop} →
    (c : Refines k job input t m None old) →
    (T : Turning k job input t m s old new c.numbers before after stop c.interleaving) → (u : ℕ) (home : Home) → u < m →
    LivesIn old c.interleaving.at c.numbers u home →
    LivesIn new T.is.at (numbers_then c.numbers s m T.took.numbers_after) u home
lives_in {k} {job} {input} {t} {m} {s} {old} {new} {before} {after} c T u home small h = by_parent (same_or h.parent s)
  where
    by_parent : (h.parent ≡ s) ⊎ (h.parent ≢ s) → LivesIn new T.is.at (numbers_then c.numbers s m T.took.numbers_after) u home
    by_parent (inl e) = mover_home c T u home h e
    by_parent (inr differs) = else_home c T u home small h differs

-- a task has the home that it had after any turn, or none if it had none
pub home_stays : {k : Tables} {job : Job} {input : List ℕ} {t m s : ℕ} {old new : RunState} {before after : Task} {stop : Stop} →
    (c : Refines k job input t m None old) →
    (T : Turning k job input t m s old new c.numbers before after stop c.interleaving) → (u : ℕ) (home : Option Home) → u < m →
    HasHome old c.interleaving.at c.numbers u home →
    HasHome new T.is.at (numbers_then c.numbers s m T.took.numbers_after) u home
home_stays c T u None small h = h
home_stays c T u (Some home) small h = lives_in c T u home small h

-- ---- the scope of a home

-- that of another task's nursery is open, and none of the mover's
pub home_else : {k : Tables} {job : Job} {input : List ℕ} {t m s : ℕ} {old new : RunState} {before after : Task} {stop : Stop} →
    (c : Refines k job input t m None old) →
    Turning k job input t m s old new c.numbers before after stop c.interleaving → (u : ℕ) (home : Home) →
    (h : LivesIn old c.interleaving.at c.numbers u home) → h.parent ≢ s →
    IsOpen old.world.scopes home.scope × AreOthers home.scope before.own.items
home_else {old = old} {before = before} c T u home h differs =
    let n = finds old.world.book home.nursery _ h.runs in
    let x : HasScope old.world.book h.starter.own.items home.nursery =
    scope_of_nursery (label_at old.world) old.world.book (blocks_of h.starter.frames.items) h.starter.own.items (waits_of h.starter.task_state)
    home.nursery
    (c.follows h.parent h.starter h.lives).goes.opened h.owned in
    let same : x.scope.id ≡ home.scope = sym x.same ∙ (ap (λ (y : Members). y.scope) (one_of x.nursery n.0 (sym x.at ∙ n.1)) ∙ n.2.0) in (
      subst (IsOpen old.world.scopes) same (own_open c h.parent h.starter h.lives x.scope x.index x.got),
      subst (λ (key : ℕ). AreOthers key before.own.items) same (else_own c T h.parent h.starter differs h.lives x.scope x.index x.got),
    )

-- that of a nursery of the mover's is open after the turn
mover_open : {k : Tables} {job : Job} {input : List ℕ} {t m s : ℕ} {old new : RunState} {before after : Task} {stop : Stop} →
    (c : Refines k job input t m None old) →
    (T : Turning k job input t m s old new c.numbers before after stop c.interleaving) → (u : ℕ) (home : Home) →
    (h : LivesIn old c.interleaving.at c.numbers u home) → h.parent ≡ s →
    IsOpen new.world.scopes home.scope
mover_open {new = new} {after = after} c T u home h e =
    let now = mover_home c T u home h e in
    let n = finds new.world.book home.nursery _ now.runs in
    let x : HasScope new.world.book after.own.items home.nursery =
    scope_of_nursery (label_at new.world) new.world.book (blocks_of after.frames.items) after.own.items (waits_of after.task_state) home.nursery
    T.code.fits_after.runs.opened
    (mover_owned c T u home h e).1 in
    let same : x.scope.id ≡ home.scope = sym x.same ∙ (ap (λ (y : Members). y.scope) (one_of x.nursery n.0 (sym x.at ∙ n.1)) ∙ n.2.0) in
    subst (IsOpen new.world.scopes) same
    (open_around new.world.scopes T.code.sound_after.chain (scope_of after) x.scope.id
    (own_around (outer_of new.world.scopes (scope_of after)) after.own.items _ x.scope x.index T.code.fits_after.runs.first x.got))

-- so the scope of each home stays open
pub home_open : {k : Tables} {job : Job} {input : List ℕ} {t m s : ℕ} {old new : RunState} {before after : Task} {stop : Stop} →
    (c : Refines k job input t m None old) →
    (T : Turning k job input t m s old new c.numbers before after stop c.interleaving) → ActsOf c T → (u : ℕ) (home : Option Home) →
    HasHome old c.interleaving.at c.numbers u home →
    ForSome (option_map (λ (h : Home). h.scope) home) (IsOpen new.world.scopes)
home_open c T a u None h key e = absurd (not_both refl e)
home_open {s = s} {new = new} c T a u (Some home) h key e =
    subst (IsOpen new.world.scopes) (one_of home.scope key e) (by_parent (same_or h.parent s))
  where
    by_parent : (h.parent ≡ s) ⊎ (h.parent ≢ s) → IsOpen new.world.scopes home.scope
    by_parent (inl f) = mover_open c T u home h f
    by_parent (inr differs) = let x = home_else c T u home h differs in key_stays_open a home.scope x.0 x.1
