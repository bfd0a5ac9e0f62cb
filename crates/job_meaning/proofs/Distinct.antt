-- Names that are given once, and labels by their names and indices.
use Rattle.std.proofs.Common.{◌≡◌, ℕ, ◌<◌, true, false, List, [], ◌∷◌, ◌++◌, refl, sym, ◌∙◌, subst, ◌⊎◌, inl, inr, arith, append_assoc}
use Rattle.std.proofs.lemmas.Bool.{true≢false, and_parts, and_from}
use Rattle.std.proofs.lemmas.Slice.Eq.{bytes_eq-Decides}
use Rattle.std.specs.List.{IsDistinct, AllByRecursion}
use Rattle.std.specs.Str.{bytes_eq}
use Rattle.exceptions.specs.Exceptions.{Label}
use Rattle.job_meaning.specs.Log.{same_label}
use Rattle.job_meaning.specs.Walk.{Levels, Stack}

-- a name is in a list
abbrev pub Among : List ℕ → List (List ℕ) → Type 0
Among n [] = ⊥
Among n (m ∷ ms) = (n ≡ m) ⊎ Among n ms

-- a name of the first list is in both together
pub among_left : (n : List ℕ) (a b : List (List ℕ)) → Among n a → Among n (a ++ b)
among_left n [] b h = absurd h
among_left n (m ∷ ms) b (inl e) = inl e
among_left n (m ∷ ms) b (inr h) = inr (among_left n ms b h)

-- and so does a name of the second
pub among_right : (n : List ℕ) (a b : List (List ℕ)) → Among n b → Among n (a ++ b)
among_right n [] b h = h
among_right n (m ∷ ms) b h = inr (among_right n ms b h)

-- no name is in the list twice
abbrev pub Distinct : List (List ℕ) → Type 0
Distinct [] = Unit {0}
Distinct (n ∷ ns) = (Among n ns → ⊥) × Distinct ns

-- two lists have no name in common
abbrev pub NoneIn : List (List ℕ) → List (List ℕ) → Type 0
NoneIn a b = (n : List ℕ) → Among n a → Among n b → ⊥

-- if no name is twice in two lists together, none is twice in the first
pub distinct_left : (a b : List (List ℕ)) → Distinct (a ++ b) → Distinct a
distinct_left [] b h = tt
distinct_left (n ∷ ns) b h = (λ i. h.0 (among_left n ns b i), distinct_left ns b h.1)

-- nor in the second
pub distinct_right : (a b : List (List ℕ)) → Distinct (a ++ b) → Distinct b
distinct_right [] b h = h
distinct_right (n ∷ ns) b h = distinct_right ns b h.1

-- and the two have no name in common
pub distinct_apart : (a b : List (List ℕ)) → Distinct (a ++ b) → NoneIn a b
distinct_apart [] b h m i j = absurd i
distinct_apart (n ∷ ns) b h m (inl e) j = h.0 (subst (λ (x : List ℕ). Among x (ns ++ b)) e (among_right m ns b j))
distinct_apart (n ∷ ns) b h m (inr i) j = distinct_apart ns b h.1 m i j

-- names that are distinct by the test on bytes are distinct
pub distinct_by_bytes : (ns : List (List ℕ)) → IsDistinct bytes_eq ns → Distinct ns
unfolding IsDistinct
distinct_by_bytes [] h = tt
distinct_by_bytes (n ∷ ns) h = (none_equal ns h.0, distinct_by_bytes ns h.1)
  where
    none_equal : (ms : List (List ℕ)) → AllByRecursion (λ y. bytes_eq n y ≡ false) ms → Among n ms → ⊥
    none_equal [] k i = i
    none_equal (m ∷ ms) k (inl e) = true≢false (sym ((bytes_eq-Decides n m).1 e) ∙ k.0)
    none_equal (m ∷ ms) k (inr i) = none_equal ms k.1 i

label_of : (n m : List ℕ) (a b : List ℕ) → n ≡ m → a ≡ b → (let x : Label = record { name = n; indices = a } in x)
    ≡ record { name = m; indices = b }
label_of n m a b e f = cc

-- the test on labels finds the equal ones
pub same_label_equal : (l m : Label) → same_label l m ≡ true → l ≡ m
same_label_equal l m h =
    let both = and_parts (bytes_eq l.name m.name) (bytes_eq l.indices m.indices) h in
    label_of l.name m.name l.indices m.indices ((bytes_eq-Decides l.name m.name).0 both.0) ((bytes_eq-Decides l.indices m.indices).0 both.1)

-- a label is the same as itself by the test
pub same_label_itself : (l : Label) → same_label l l ≡ true
same_label_itself l = and_from (bytes_eq l.name l.name) (bytes_eq l.indices l.indices) ((bytes_eq-Decides l.name l.name).1 refl)
    ((bytes_eq-Decides l.indices l.indices).1 refl)

-- a label that a block with these names may enter, where the block has this path of indices
pub record Belongs (names : List (List ℕ)) (path : List ℕ) (l : Label) : Type 0 where
  pub named : Among l.name names
  pub beyond : List ℕ
  pub extends : l.indices ≡ path ++ beyond

-- a label that belongs to some names belongs to any larger set of names, with the same path
pub belongs_in : (a b : List (List ℕ)) (path : List ℕ) → ((n : List ℕ) → Among n a → Among n b) → (l : Label) → Belongs a path l →
    Belongs b path l
belongs_in a b path f l h = record { named = f l.name h.named; beyond = h.beyond; extends = h.extends }

-- a longer path
pub belongs_after : (a : List (List ℕ)) (path : List ℕ) (i : ℕ) (l : Label) → Belongs a (path ++ i ∷ []) l → Belongs a path l
belongs_after a path i l h = record { named = h.named; beyond = i ∷ h.beyond; extends = h.extends ∙ append_assoc path (i ∷ []) h.beyond }

-- no path continues two different indices of one path
pub after_one : (path : List ℕ) (i j : ℕ) (x y : List ℕ) → (path ++ i ∷ []) ++ x ≡ (path ++ j ∷ []) ++ y → i ≡ j
after_one [] i j x y e = cc
after_one (p ∷ path) i j x y e = after_one path i j x y (cc)

-- no label belongs to a path with an index and also to the same path with a later index
pub after_other : (a b : List (List ℕ)) (path : List ℕ) (i j : ℕ) (l : Label) → i < j → Belongs a (path ++ i ∷ []) l →
    Belongs b (path ++ j ∷ []) l → ⊥
after_other a b path i j l lt h k =
    let e = after_one path i j h.beyond k.beyond (sym h.extends ∙ k.extends) in
    absurd (omega arith)

-- a label is that of one of some levels
abbrev pub OnLevels : Label → Levels → Type 0
OnLevels l [] = ⊥
OnLevels l (k ∷ ks) = (l ≡ k.label) ⊎ OnLevels l ks

-- a label is on a stack: that of a scope or nursery, or that of an event
abbrev pub OnStack : Label → Stack → Type 0
OnStack l st = OnLevels l st.scopes ⊎ OnLevels l st.events

-- no name is that of a level of the stack
pub record Fresh (st : Stack) (names : List (List ℕ)) : Type 0 where
  pub none : (l : Label) → OnStack l st → Among l.name names → ⊥

-- where none of some names is on the stack, none of fewer names is
pub fresh_in : (st : Stack) (a b : List (List ℕ)) → ((n : List ℕ) → Among n a → Among n b) → Fresh st b → Fresh st a
fresh_in st a b f h = record { none = λ l o i. h.none l o (f l.name i) }
