-- Numbers of tasks, and what is at an index of several lists.
use Rattle.std.proofs.Common.{◌≡◌, ◌≢◌, ◌⊎◌, inl, inr, ℕ, zero, suc, ◌+◌, ◌<◌, Bool, false, Option, Some, List, [], ◌∷◌, ◌++◌, refl, ap, sym, ◌∙◌, subst, arith}
use Rattle.std.proofs.lemmas.Bool.{eq-eqb, ne_eqb, lt-ltb, le-ltb}
use Rattle.std.proofs.lemmas.List.Elements.{All-nil, All-cons}
use Rattle.std.specs.Prelude.{slice_get, nat_lt}
use Rattle.turn_semantics.specs.Lists.{IsAmong}
use Rattle.job_tree.specs.Starting.{StartsIn}
use Rattle.job_meaning.specs.declared.clock.Clock.{Clock}
use Rattle.job_meaning.specs.Rest.{Event, noted, signs, enters, acts, starts, Frame, Stopped}
use Rattle.exceptions.specs.Exceptions.{Label}
use Rattle.nursery_book.specs.declared.book.NurseryBook.{NurseryBook}
use Rattle.turn_semantics.specs.Midway.{Place, Begun}
use Rattle.turn_semantics.specs.Names.{names_at, OwnNames, AllNew}
use Rattle.turn_semantics.specs.Names as names
use Rattle.turn_semantics.specs.Placed.{HasChildAfter, AllHoused}
use Rattle.turn_semantics.specs.Turned.{Starts, BegunIn}
use Rattle.task_machine.specs.declared.task.Own.{Own}
use Rattle.task_machine.specs.declared.task.Task.{Task}
use Rattle.task_machine.specs.Fitting.{Block, AreOthers}
use Rattle.task_machine.specs.Standing.{IsBegun, AreBegun, BeginsAt}
use Rattle.task_machine.specs.Stops.{Numbers}
use Rattle.task_machine.specs.Tasks.{home_of}
use Rattle.interleavings.specs.Rows.{entered_made}
use Rattle.run_refinement.specs.Turn.{numbers_if, numbers_then}
use Rattle.run_refinement.proofs.ActsKeep.{labels_entered, not_both, same_or}
use Rattle.task_machine.proofs.Stacked.{one_of}

-- ---- the numbers of a task's children after a turn

-- after a turn the mover's children have the numbers that it gave
pub numbers_mover : (numbers : ℕ → Numbers) (s m : ℕ) (now : Numbers) → numbers_then numbers s m now s ≡ now
numbers_mover numbers s m now = ap (λ (b : Bool). numbers_if b (nat_lt m (s + 1)) now (numbers s)) (eq-eqb s s refl)

-- after a turn the children of each other task have the numbers that they had
pub numbers_other : (numbers : ℕ → Numbers) (s m : ℕ) (now : Numbers) (p : ℕ) → p < m → p ≢ s → numbers_then numbers s m now p ≡ numbers p
numbers_other numbers s m now p below differs =
    ap (λ (b : Bool). numbers_if b (nat_lt m (p + 1)) now (numbers p)) (ne_eqb p s differs)
    ∙ ap (λ (b : Bool). numbers_if false b now (numbers p)) (le-ltb m (p + 1) (omega (arith, below)))

-- after a turn a task that has just begun has given no numbers
pub numbers_child : (numbers : ℕ → Numbers) (s m : ℕ) (now : Numbers) (i : ℕ) → s < m → numbers_then numbers s m now (m + i) ≡ (λ id. [])
numbers_child numbers s m now i below =
    ap (λ (b : Bool). numbers_if b (nat_lt m (m + i + 1)) now (numbers (m + i))) (ne_eqb (m + i) s (λ e. omega (arith, below, e)))
    ∙ ap (λ (b : Bool). numbers_if false b now (numbers (m + i))) (lt-ltb m (m + i + 1) (omega arith))

-- ---- what is at an index

-- a number among others is at an index
pub among_got : (x : ℕ) (xs : List ℕ) → IsAmong x xs → (i : ℕ) × (slice_get xs i ≡ Some x)
among_got x [] a = absurd a
among_got x (y ∷ xs) (inl e) = (zero, ap (λ (z : ℕ). Some z) (sym e))
among_got x (y ∷ xs) (inr a) = let g = among_got x xs a in (suc g.0, g.1)

-- ---- the children begun

-- a task that was started is the child begun at the same index
pub begun_at : (clock : Clock) (at : ℕ) (numbers : Numbers) (book : NurseryBook) (blocks : List Block) (waits : Option ℕ) (ts : List Task)
    (bs : List Begun) →
    AreBegun clock at numbers book blocks waits ts bs →
    (i : ℕ) (task : Task) → slice_get ts i ≡ Some task → (b : Begun) × (slice_get bs i ≡ Some b) × IsBegun clock at numbers book blocks
    waits task b
begun_at clock at numbers book blocks waits [] bs h i task e = absurd (not_both refl e)
begun_at clock at numbers book blocks waits (u ∷ ts) [] h i task e = absurd h
begun_at clock at numbers book blocks waits (u ∷ ts) (b ∷ bs) h zero task e =
    (b, refl, subst (λ (z : Task). IsBegun clock at numbers book blocks waits z b) (one_of u task e) h.0)
begun_at clock at numbers book blocks waits (u ∷ ts) (b ∷ bs) h (suc i) task e = begun_at clock at numbers book blocks waits ts bs h.1 i
    task e

-- a child that begins at an index of a nursery is one of those begun
pub record BeginsThere (id child_index number : ℕ) (ts : List Task) (bs : List Begun) : Type 0 where
  pub index : ℕ
  pub task : Task
  pub child : Begun
  pub is : slice_get ts index ≡ Some task
  pub begun : slice_get bs index ≡ Some child
  pub home : home_of task ≡ Some (id, child_index)
  pub number_is : child.number ≡ number

-- a task that begins at an index of a nursery is one of the tasks that were started
pub begins_there : (id child_index number : ℕ) (ts : List Task) (bs : List Begun) → BeginsAt id child_index number ts bs →
    BeginsThere id child_index number ts bs
begins_there id child_index number [] bs h = absurd h
begins_there id child_index number (t ∷ ts) [] h = absurd h
begins_there id child_index number (t ∷ ts) (b ∷ bs) (inl h) =
    record { index = zero; task = t; child = b; is = refl; begun = refl; home = h.0; number_is = h.1 }
begins_there id child_index number (t ∷ ts) (b ∷ bs) (inr h) =
    let r = begins_there id child_index number ts bs h in
    record { index = suc r.index; task = r.task; child = r.child; is = r.is; begun = r.begun; home = r.home; number_is = r.number_is }

-- they are numbered on
pub numbered_on : (n : ℕ) (es : List Event) (bs : List Begun) → Starts n es bs → (i : ℕ) (b : Begun) → slice_get bs i ≡ Some b →
    b.number ≡ n + i
numbered_on n [] [] h i b e = absurd (not_both refl e)
numbered_on n [] (c ∷ bs) h i b e = absurd h
numbered_on n (noted t x ∷ es) bs h i b e = numbered_on n es bs h i b e
numbered_on n (acts shared t done ∷ es) bs h i b e = numbered_on n es bs h i b e
numbered_on n (signs l t ∷ es) bs h i b e = numbered_on n es bs h i b e
numbered_on n (enters l t d ∷ es) bs h i b e = numbered_on n es bs h i b e
numbered_on n (starts j l t ∷ es) [] h i b e = absurd h
numbered_on n (starts j l t ∷ es) (c ∷ bs) h zero b e =
    let f : b.number ≡ c.number = ap (λ (z : Begun). z.number) (sym (one_of c b e)) in
    let g : c.number ≡ n = h.1 in
    omega arith
numbered_on n (starts j l t ∷ es) (c ∷ bs) h (suc i) b e = let f : b.number ≡ suc n + i = numbered_on (suc n) es bs h.3 i b e in omega arith

-- each child begun has steps that start tasks in nurseries alone
pub starts_at : (ls : List Label) (bs : List Begun) → BegunIn ls bs → (i : ℕ) (b : Begun) → slice_get bs i ≡ Some b → StartsIn false b.body
starts_at ls [] h i b e = absurd (not_both refl e)
starts_at ls (c ∷ bs) h zero b e = subst (λ (z : Begun). StartsIn false z.body) (one_of c b e) h.1
starts_at ls (c ∷ bs) h (suc i) b e = starts_at ls bs h.2 i b e

-- the steps of each child begun give no name of an enclosing scope, and no two of its enclosing scopes
-- have the same name
pub new_at : (bs : List Begun) → AllNew bs → (i : ℕ) (b : Begun) → slice_get bs i ≡ Some b → names.AreNew (names_at b.places) b.body
    × OwnNames (names_at b.places)
new_at [] h i b e = absurd (not_both refl e)
new_at (c ∷ bs) h zero b e = subst (λ (z : Begun). names.AreNew (names_at z.places) z.body × OwnNames (names_at z.places)) (one_of c b e)
    (h.0, h.1)
new_at (c ∷ bs) h (suc i) b e = new_at bs h.2 i b e

-- each child begun has its number in a nursery of its starter, with its places
pub housed_at : (bs : List Begun) (s : Option Stopped) (fs : List Frame) (ps : List Place) → AllHoused bs s fs ps → (i : ℕ) (b : Begun) →
    slice_get bs i ≡ Some b →
    HasChildAfter b.number b.places s fs ps
housed_at [] s fs ps h i b e = absurd (not_both refl e)
housed_at (c ∷ bs) s fs ps h zero b e = subst (λ (z : Begun). HasChildAfter z.number z.places s fs ps) (one_of c b e) h.0
housed_at (c ∷ bs) s fs ps h (suc i) b e = housed_at bs s fs ps h.1 i b e

-- ---- scopes of a task

-- a key is that of one of a task's scopes, or of none
pub own_or : (key : ℕ) (own : List Own) → AreOthers key own ⊎ ((i : ℕ) × (o : Own) × (slice_get own i ≡ Some o) × (o.id ≡ key))
own_or key [] = inl (All-nil (λ (o : Own). o.id ≢ key))
own_or key (o ∷ own) = by_test (same_or o.id key) (own_or key own)
  where
    Mine : List Own → Type 0
    Mine os = (i : ℕ) × (x : Own) × (slice_get os i ≡ Some x) × (x.id ≡ key)

    by_test : (o.id ≡ key) ⊎ (o.id ≢ key) → AreOthers key own ⊎ Mine own → AreOthers key (o ∷ own) ⊎ Mine (o ∷ own)
    by_test (inl e) h = inr (zero, o, refl, e)
    by_test (inr differs) (inl a) = inl (All-cons (λ (x : Own). x.id ≢ key) o own differs a)
    by_test (inr differs) (inr h) = inr (suc h.0, h.1, h.2, h.3)

-- ---- events

-- the labels entered in events and in further ones are those of the first and then those of the others
pub entered_append : (es fs : List Event) → entered_made (es ++ fs) ≡ entered_made es ++ entered_made fs
entered_append [] fs = refl
entered_append (noted t e ∷ es) fs = entered_append es fs
entered_append (acts shared t done ∷ es) fs = entered_append es fs
entered_append (signs l t ∷ es) fs = entered_append es fs
entered_append (enters l t d ∷ es) fs = ap (λ (ls : List Label). l ∷ ls) (entered_append es fs)
entered_append (starts i l t ∷ es) fs = entered_append es fs

-- both ways to compute which labels events enter have the same result
pub entered_same : (es : List Event) → labels_entered es ≡ entered_made es
entered_same [] = refl
entered_same (noted t e ∷ es) = entered_same es
entered_same (acts shared t done ∷ es) = entered_same es
entered_same (signs l t ∷ es) = entered_same es
entered_same (enters l t d ∷ es) = ap (λ (ls : List Label). l ∷ ls) (entered_same es)
entered_same (starts i l t ∷ es) = entered_same es

-- a label among the first ones is among all
pub known_first : (l : Label) (xs ys : List Label) → IsAmong l xs → IsAmong l (xs ++ ys)
known_first l [] ys k = absurd k
known_first l (x ∷ xs) ys (inl e) = inl e
known_first l (x ∷ xs) ys (inr k) = inr (known_first l xs ys k)

-- a label among the last ones is among all
pub known_last : (l : Label) (xs ys : List Label) → IsAmong l ys → IsAmong l (xs ++ ys)
known_last l [] ys k = k
known_last l (x ∷ xs) ys k = inr (known_last l xs ys k)
