-- What is found at an index of a list, at a key of a book of nurseries, and among the keys of a
-- stack.
use Rattle.std.proofs.Common.{◌≡◌, ℕ, zero, suc, ◌<◌, ◌≤◌, Option, Some, None, List, [], ◌∷◌, ◌++◌, length, refl, ap, sym, ◌∙◌, subst, arith}
use Rattle.std.specs.Prelude.{slice_get}
use Rattle.std.specs.Option.{IsSomeAnd}
use Rattle.cancel_scopes.specs.Sight.{Level}
use Rattle.cancel_scopes.specs.Tree.{Stack}
use Rattle.nursery_book.specs.Nursery.{Nursery}
use Rattle.nursery_book.specs.Book.{nursery_at, HasNursery}
use Rattle.nursery_book.specs.declared.book.NurseryBook.{NurseryBook}
use Rattle.task_machine.specs.Left.{keys_of}
use Rattle.task_machine.proofs.Stacked.{one_of}

-- ---- at an index of a list

-- an index at which there is something is below the length
pub below_length : {A : Type 0} (xs : List A) (i : ℕ) (x : A) → slice_get xs i ≡ Some x → i < length xs
below_length [] i x e = absurd (let f : None ≡ Some x = e in cc)
below_length (y ∷ xs) zero x e = omega arith
below_length (y ∷ xs) (suc i) x e = let h : i < length xs = below_length xs i x e in omega arith

-- nothing is at an index from the length on
pub past_length : {A : Type 0} (xs : List A) (i : ℕ) → length xs ≤ i → slice_get xs i ≡ None
past_length [] i le = refl
past_length (x ∷ xs) zero le = absurd (omega (arith, le))
past_length (x ∷ xs) (suc i) le = past_length xs i (omega (arith, le))

-- something is at each index below the length
pub nth : {A : Type 0} (xs : List A) (i : ℕ) → i < length xs → (x : A) × (slice_get xs i ≡ Some x)
nth [] i lt = absurd (omega (arith, lt))
nth (x ∷ xs) zero lt = (x, refl)
nth (x ∷ xs) (suc i) lt = nth xs i (omega (arith, lt))

-- only one thing is at an index
pub same_got : {A : Type 0} (xs : List A) (i : ℕ) (x y : A) → slice_get xs i ≡ Some x → slice_get xs i ≡ Some y → x ≡ y
same_got xs i x y e f = one_of x y (sym e ∙ f)

-- what is at an index of a list is there also if more follows
pub got_first : {A : Type 0} (xs ys : List A) (i : ℕ) (x : A) → slice_get xs i ≡ Some x → slice_get (xs ++ ys) i ≡ Some x
got_first [] ys i x e = absurd (let f : None ≡ Some x = e in cc)
got_first (y ∷ xs) ys zero x e = e
got_first (y ∷ xs) ys (suc i) x e = got_first xs ys i x e

-- what is at an index, with what is before and after it
pub record SplitAt {A : Type 0} (xs : List A) (x : A) (n : ℕ) : Type 0 where
  pub before : List A
  pub following : List A
  pub is : xs ≡ before ++ x ∷ following
  pub long : length before ≡ n

-- a list is what is before an index, what is there, and what is after it
pub split_at : {A : Type 0} (xs : List A) (x : A) (n : ℕ) → slice_get xs n ≡ Some x → SplitAt xs x n
split_at [] x n e = absurd (let f : None ≡ Some x = e in cc)
split_at (y ∷ xs) x zero e =
    let f : Some y ≡ Some x = e in let g : y ≡ x = cc in record { before = []; following = xs; is = ap (λ z. z ∷ xs) g; long = refl }
split_at (y ∷ xs) x (suc n) e =
    let s = split_at xs x n e in record { before = y ∷ s.before; following = s.following; is = ap (λ zs. y ∷ zs) s.is; long = ap suc s.long }

-- what is at a later index is after it
pub later_after : {A : Type 0} (before following : List A) (x y : A) (i : ℕ) → length before < i →
    slice_get (before ++ x ∷ following) i ≡ Some y → (j : ℕ) × (slice_get following j ≡ Some y)
later_after [] following x y zero lt e = absurd (omega (arith, lt))
later_after [] following x y (suc i) lt e = (i, e)
later_after (z ∷ before) following x y zero lt e = absurd (omega (arith, lt))
later_after (z ∷ before) following x y (suc i) lt e = later_after before following x y i (omega (arith, lt)) e

-- ---- at a key of a book

-- if a nursery with this property is open in a book, the book has that nursery
pub finds : (book : NurseryBook) (id : ℕ) (P : Nursery → Type 0) → HasNursery book id P → (n : Nursery) × (nursery_at book id ≡ Some n)
    × P n
finds book id P h = by_nursery (nursery_at book id) h
  where
    by_nursery : (o : Option Nursery) → IsSomeAnd o P → (n : Nursery) × (o ≡ Some n) × P n
    by_nursery None g = absurd g
    by_nursery (Some n) g = (n, refl, g)

-- what is true of a book's nursery is true of the one that is found there
pub gives : (book : NurseryBook) (id : ℕ) (n : Nursery) (P : Nursery → Type 0) → nursery_at book id ≡ Some n → HasNursery book id P → P n
gives book id n P e h = subst (λ (o : Option Nursery). IsSomeAnd o P) e h

-- what is true of the nursery that is found is true of the book's
pub puts : (book : NurseryBook) (id : ℕ) (n : Nursery) (P : Nursery → Type 0) → nursery_at book id ≡ Some n → P n → HasNursery book id P
puts book id n P e h = subst (λ (o : Option Nursery). IsSomeAnd o P) (sym e) h

-- ---- among the keys of a stack

-- a stack whose keys are these, in parts
pub record KeysAt (st : Stack) (ks : List ℕ) (k : ℕ) (ms : List ℕ) : Type 0 where
  pub before : Stack
  pub level : Level ℕ
  pub following : Stack
  pub is : st ≡ before ++ level ∷ following
  pub named : level.label ≡ k
  pub inner : keys_of before ≡ ks
  pub outer : keys_of following ≡ ms

-- a stack whose keys come in parts comes in these parts
pub keys_at : (st : Stack) (ks : List ℕ) (k : ℕ) (ms : List ℕ) → keys_of st ≡ ks ++ k ∷ ms → KeysAt st ks k ms
keys_at [] [] k ms e = absurd (let f : [] ≡ k ∷ ms = e in cc)
keys_at [] (x ∷ ks) k ms e = absurd (let f : [] ≡ x ∷ (ks ++ k ∷ ms) = e in cc)
keys_at (l ∷ ls) [] k ms e =
    let f : l.label ∷ keys_of ls ≡ k ∷ ms = e in
    record {
      before = [];
      level = l;
      following = ls;
      is = refl;
      named = (let g : l.label ≡ k = cc in g);
      inner = refl;
      outer =
          (let g : keys_of ls ≡ ms = cc in g);
    }
keys_at (l ∷ ls) (x ∷ ks) k ms e =
    let f : l.label ∷ keys_of ls ≡ x ∷ (ks ++ k ∷ ms) = e in
    let first : l.label ≡ x = cc in let more : keys_of ls ≡ ks ++ k ∷ ms = cc in
    let r = keys_at ls ks k ms more in
    record {
      before = l ∷ r.before;
      level = r.level;
      following = r.following;
      is = ap (λ (s : Stack). l ∷ s) r.is;
      named = r.named;
      inner = ap (λ (y : ℕ). y ∷ keys_of r.before) first ∙ ap (λ (ys : List ℕ). x ∷ ys) r.inner;
      outer = r.outer;
    }
