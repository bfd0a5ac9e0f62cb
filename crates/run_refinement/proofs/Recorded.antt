-- An end is recorded in a nursery, which belongs to one task: its place has the end then, and everything else stays.
use Rattle.std.proofs.lemmas.Bool.{eqb-true, eq-eqb}
use Rattle.std.proofs.Common.{◌≡◌, ◌≢◌, ◌==◌, Bool, true, false, ℕ, zero, suc, Option, Some, None, List, [], ◌∷◌, length, refl, ap, sym, ◌∙◌}
use Rattle.std.specs.Prelude.{slice_get, slice_set}
use Rattle.exceptions.specs.Exceptions.{Exc}
use Rattle.job_tree.specs.Tree.{Tree as Job}
use Rattle.nursery_book.specs.Nursery.{End, Nursery, with_child}
use Rattle.nursery_book.specs.Book.{nursery_at, HasNursery, Updates}
use Rattle.nursery_book.specs.declared.book.NurseryBook.{NurseryBook}
use Rattle.task_machine.specs.declared.task.Home.{Home}
use Rattle.task_machine.specs.declared.task.Task.{Task}
use Rattle.task_machine.specs.Fitting.{blocks_of, waits_of}
use Rattle.task_machine.specs.Standing.{HasNurseryOf}
use Rattle.task_machine.specs.Worlds.{label_at}
use Rattle.run_refinement.specs.RunState.{RunState, Refines}
use Rattle.run_refinement.specs.Leaving.{EndIsRecorded}
use Rattle.run_refinement.proofs.Found.{finds, puts}
use Rattle.run_refinement.proofs.OtherNurseries.{scope_of_nursery}
use Rattle.run_refinement.proofs.RunStates.{one_nursery}
use Rattle.turn_semantics.specs.Midway.{Tables}

-- ---- which task a nursery belongs to

-- no two tasks have one nursery
pub same_owner : (k : Tables) (job : Job) (input : List ℕ) (t m : ℕ) (leaving : Option ℕ) (state : RunState) →
    Refines k job input t m leaving state → (p u : ℕ) (a b : Task) (id : ℕ) →
    state.task p ≡ Some a → state.task u ≡ Some b → HasNurseryOf id (blocks_of a.frames.items) (waits_of a.task_state) →
    HasNurseryOf id (blocks_of b.frames.items) (waits_of b.task_state) → p ≡ u
same_owner k job input t m leaving state c p u a b id e f h g =
    let x = scope_of_nursery (label_at state.world) state.world.book (blocks_of a.frames.items) a.own.items (waits_of a.task_state) id
    (c.follows p a e).goes.opened h in
    one_nursery k job input t m leaving state c p u a b e f id x.nursery h g x.at

-- ---- what stays the same in nurseries when an end is recorded

-- another nursery is like this one except for the ends of its children
pub record Like (n m : Nursery) : Type 0 where
  pub scope : m.scope ≡ n.scope
  pub label : m.label ≡ n.label
  pub body : m.body ≡ n.body
  pub long : length m.children ≡ length n.children

abbrev pub AllLike : NurseryBook → NurseryBook → Type 0
AllLike old new = (id : ℕ) (n : Nursery) → nursery_at old id ≡ Some n → (m : Nursery) × (nursery_at new id ≡ Some m) × Like n m

-- How recording an end leaves a nursery: it is as it was, and not the home of the task that left; or it is that home, and
-- has the end at its place.
pub data Recorded (t : ℕ) (new : NurseryBook) (exc : Option Exc) (id : ℕ) (n : Nursery) : Option Home → Type 0 where
  stays : (home : Option Home) → nursery_at new id ≡ Some n → ((h : Home) → home ≡ Some h → h.nursery ≢ id) → Recorded t new exc id n home
  tells : (h : Home) → h.nursery ≡ id → nursery_at new id ≡ Some (with_child h.index exc t n) → Recorded t new exc id n (Some h)

-- if an end is recorded, each nursery is as it was, or is the home and has the end at its place
pub recorded : (t : ℕ) (old new : NurseryBook) (home : Option Home) (exc : Option Exc) → EndIsRecorded t old new home exc → (id : ℕ) (n : Nursery) →
    nursery_at old id ≡ Some n → Recorded t new exc id n home
recorded t old new None exc h id n e =
    stays None (ap (λ (b : NurseryBook). nursery_at b id) h ∙ e) (λ x f. absurd (let g : None ≡ Some x = f in cc))
recorded t old new (Some x) exc h id n e = by_key (x.nursery == id) refl
  where
    u : (n : Nursery) × (nursery_at old x.nursery ≡ Some n) × Updates old new x.nursery (Some (with_child x.index exc t n))
    u = finds old x.nursery (λ n. Updates old new x.nursery (Some (with_child x.index exc t n))) h

    by_key : (b : Bool) → (x.nursery == id) ≡ b → Recorded t new exc id n (Some x)
    by_key true f =
        let g : x.nursery ≡ id = eqb-true x.nursery id f in
        let same : Some u.0 ≡ Some n = sym u.1 ∙ ap (nursery_at old) g ∙ e in
        let one : u.0 ≡ n = cc in
        tells x g (ap (nursery_at new) (sym g) ∙ u.2.changed ∙ ap (λ (y : Nursery). Some (with_child x.index exc t y)) one)
    by_key false f =
        let differs : x.nursery ≢ id = λ g. absurd (let z : true ≡ false = sym (eq-eqb x.nursery id g) ∙ f in cc) in
        stays (Some x) (u.2.others id (λ g. differs (sym g)) ∙ e)
        (λ y g w. let same : Some x ≡ Some y = g in let one : x ≡ y = cc in differs (ap (λ (z : Home). z.nursery) one ∙ w))

-- a nursery has as many children after the end of one is recorded
pub set_long : (es : List End) (n : ℕ) (x : End) → length (slice_set es n x) ≡ length es
set_long [] zero x = refl
set_long [] (suc n) x = refl
set_long (e ∷ es) zero x = refl
set_long (e ∷ es) (suc n) x = ap suc (set_long es n x)

-- the child whose end is recorded has that end
pub set_at : (es : List End) (n : ℕ) (x y : End) → slice_get es n ≡ Some y → slice_get (slice_set es n x) n ≡ Some x
set_at [] n x y e = absurd (let f : None ≡ Some y = e in cc)
set_at (e ∷ es) zero x y f = refl
set_at (e ∷ es) (suc n) x y f = set_at es n x y f

-- every other child is as it was
pub set_else : (es : List End) (n p : ℕ) (x : End) → n ≢ p → slice_get (slice_set es n x) p ≡ slice_get es p
set_else [] zero p x differs = refl
set_else [] (suc n) p x differs = refl
set_else (e ∷ es) zero zero x differs = absurd (differs refl)
set_else (e ∷ es) zero (suc p) x differs = refl
set_else (e ∷ es) (suc n) zero x differs = refl
set_else (e ∷ es) (suc n) (suc p) x differs = set_else es n p x (λ f. differs (ap suc f))

-- if an end is recorded, each nursery keeps its scope, its label, its body's end and the number of its children
pub all_like : (t : ℕ) (old new : NurseryBook) (home : Option Home) (exc : Option Exc) → EndIsRecorded t old new home exc → AllLike old new
all_like t old new home exc h id n e = by_recorded home (recorded t old new home exc h id n e)
  where
    by_recorded : (x : Option Home) → Recorded t new exc id n x → (m : Nursery) × (nursery_at new id ≡ Some m) × Like n m
    by_recorded _ (stays x f g) = (n, f, record { scope = refl; label = refl; body = refl; long = refl })
    by_recorded _ (tells x f g) = (
      with_child x.index exc t n,
      g,
      record
          { scope = refl; label = refl; body = refl; long = set_long n.children x.index (Some exc) },
    )

-- what is true of nurseries like one
pub carry : (old new : NurseryBook) (id : ℕ) (P Q : Nursery → Type 0) → AllLike old new → ((n m : Nursery) → Like n m → P n → Q m) →
    HasNursery old id P → HasNursery new id Q
carry old new id P Q like step h =
    let n = finds old id P h in let m = like id n.0 n.1 in puts new id m.0 Q m.1 (step n.0 m.0 m.2 n.2)
