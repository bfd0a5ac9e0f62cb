-- Runs of bytes and tests, as they are read after they were written.
use Rattle.std.proofs.Common.{◌≡◌, ℕ, suc, ◌+◌, Bool, true, false, cond, ◌&&◌, ◌||◌, List, [], ◌∷◌, ◌++◌, length, take, drop, ◌⊎◌, inl, inr, refl, sym, ap, ◌∙◌, arith}
use Rattle.std.specs.List.{prefix_len, list_all}

-- if two tests pass together, each passes
pub and_parts : (a b : Bool) → (a && b) ≡ true → (a ≡ true) × (b ≡ true)
and_parts true true e = (refl, refl)
and_parts true false e = absurd cc
and_parts false true e = absurd cc
and_parts false false e = absurd cc

-- if each of two tests passes, they pass together
pub and_whole : (a b : Bool) → a ≡ true → b ≡ true → (a && b) ≡ true
and_whole true true p q = refl
and_whole true false p q = q
and_whole false true p q = p
and_whole false false p q = p

-- if neither of two tests passes, each fails
pub or_none : (a b : Bool) → (a || b) ≡ false → (a ≡ false) × (b ≡ false)
or_none true true e = absurd cc
or_none true false e = absurd cc
or_none false true e = absurd cc
or_none false false e = (refl, refl)

-- the two cases of a test
pub chosen : {A : Type 0} (b : Bool) (x y z : A) → cond b x y ≡ z → ((b ≡ true) × (x ≡ z)) ⊎ ((b ≡ false) × (y ≡ z))
chosen true x y z e = inl (refl, e)
chosen false x y z e = inr (refl, e)

-- a test passes or fails
pub either_way : (b : Bool) → (b ≡ true) ⊎ (b ≡ false)
either_way true = inl refl
either_way false = inr refl

-- a run that passes, followed by bytes of which the first does not pass
pub prefix_len-run : (p : ℕ → Bool) (run rest : List ℕ) → list_all p run ≡ true → prefix_len p rest ≡ 0 →
    prefix_len p (run ++ rest) ≡ length run
prefix_len-run p [] rest all stops = stops
prefix_len-run p (b ∷ run) rest all stops =
    let parts = and_parts (p b) (list_all p run) all in
    let others = prefix_len-run p run rest parts.1 stops in
    rw parts.0 (omega (arith, others))

-- the run that was taken passes, and the first byte after it does not
pub taken_passes : (p : ℕ → Bool) (bytes : List ℕ) → list_all p (take (prefix_len p bytes) bytes) ≡ true
taken_passes p [] = refl
taken_passes p (b ∷ bytes) = by_test (taken_passes p bytes) (p b) refl
  where
    by_test : list_all p (take (prefix_len p bytes) bytes) ≡ true → (t : Bool) → p b ≡ t →
        list_all p (take (cond t (1 + prefix_len p bytes) 0) (b ∷ bytes)) ≡ true
    by_test others true is = let k : 1 + prefix_len p bytes ≡ suc (prefix_len p bytes) =
        omega arith in rw k (and_whole (p b) (list_all p (take (prefix_len p bytes) bytes)) is others)
    by_test others false is = refl

-- the first byte after the longest run that passes does not pass
pub left_stops : (p : ℕ → Bool) (bytes : List ℕ) → prefix_len p (drop (prefix_len p bytes) bytes) ≡ 0
left_stops p [] = refl
left_stops p (b ∷ bytes) = by_test (left_stops p bytes) (p b) refl
  where
    by_test : prefix_len p (drop (prefix_len p bytes) bytes) ≡ 0 → (t : Bool) → p b ≡ t →
        prefix_len p (drop (cond t (1 + prefix_len p bytes) 0) (b ∷ bytes)) ≡ 0
    by_test others true is = let k : 1 + prefix_len p bytes ≡ suc (prefix_len p bytes) = omega arith in rw k others
    by_test others false is = rw is refl

-- a test that passes for fewer bytes stops no later
pub stops_sooner : (p q : ℕ → Bool) (bytes : List ℕ) → ((b : ℕ) → q b ≡ true → p b ≡ true) → prefix_len p bytes ≡ 0 → prefix_len q bytes ≡ 0
stops_sooner p q [] fewer stops = refl
stops_sooner p q (b ∷ bytes) fewer stops = by_test (q b) refl
  where
    by_test : (t : Bool) → q b ≡ t → cond t (1 + prefix_len q bytes) 0 ≡ 0
    by_test true is = let e : cond true (1 + prefix_len p bytes) 0 ≡ 0 =
        sym (ap (λ (x : Bool). cond x (1 + prefix_len p bytes) 0) (fewer b is)) ∙ stops in absurd (omega (arith, e))
    by_test false is = refl
