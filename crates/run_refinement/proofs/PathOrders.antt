-- The order of records by the paths of tasks: what is sorted by them is what the tasks did, taken in that order.
use Rattle.std.proofs.Common.{◌≡◌, ◌≢◌, ◌⊎◌, inl, inr, ℕ, ◌<◌, Bool, true, false, not, ◌&&◌, ◌||◌, ◌==◌, List, [], ◌∷◌, ◌++◌, refl, ap, sym, ◌∙◌, subst, arith, append_assoc, nat_lt}
use Rattle.std.proofs.lemmas.Bool.{eqb-true, eq-eqb}
use Rattle.std.proofs.lemmas.Bool.Decides.{nat_tests}
use Rattle.std.proofs.lemmas.List.{append-nil}
use Rattle.std.specs.List.{filter}
use Rattle.turn_semantics.specs.Lists.{Each, IsAmong}
use Rattle.interleavings.specs.Interleaving.{Started}
use Rattle.interleavings.specs.Acts.{InOrder, all_taken, next_taken}
use Rattle.interleavings.specs.Rows.{children_made}
use Rattle.interleavings.proofs.Readings.{in_either}
use Rattle.run_refinement.specs.Sharing.{RoundAct, precedes, PrecedesAll, AreSorted, acts_by}
use Rattle.run_refinement.proofs.DoneLists.{each_weaker, each_among, none_kept}
use Rattle.run_refinement.proofs.Orders.{Rises}
use Rattle.run_refinement.proofs.RunFacts.{each_append}

-- ---- paths

-- a path is left of another one, and so is whatever goes on from it
abbrev pub IsLeft : List ℕ → List ℕ → Type 0
IsLeft [] ys = ⊥
IsLeft (x ∷ xs) [] = ⊥
IsLeft (x ∷ xs) (y ∷ ys) = (x < y) ⊎ ((x ≡ y) × IsLeft xs ys)

after_none : (x y : ℕ) (b : Bool) → x < y → (nat_lt y x || ((y == x) && b)) ≡ false
after_none x y b lt = ap (λ (z : Bool). z || ((y == x) && b)) late ∙ by_test (y == x) refl
  where
    late : nat_lt y x ≡ false
    late = grind (arith, nat_tests)

    by_test : (z : Bool) → (y == x) ≡ z → (z && b) ≡ false
    by_test false e = refl
    by_test true e = absurd (let f : y ≡ x = eqb-true y x e in omega (arith, f, lt))

same_first : (x y : ℕ) (b : Bool) → x ≡ y → b ≡ false → (nat_lt y x || ((y == x) && b)) ≡ false
same_first x y b e f = ap (λ (z : Bool). z || ((y == x) && b)) late ∙ (ap (λ (z : Bool). z && b) (eq-eqb y x (sym e)) ∙ f)
  where
    late : nat_lt y x ≡ false
    late = grind (arith, nat_tests)

left_false : (xs ys zs : List ℕ) → IsLeft xs ys → precedes (ys ++ zs) xs ≡ false
left_false [] ys zs h = absurd h
left_false (x ∷ xs) [] zs h = absurd h
left_false (x ∷ xs) (y ∷ ys) zs (inl lt) = after_none x y (precedes (ys ++ zs) xs) lt
left_false (x ∷ xs) (y ∷ ys) zs (inr h) = same_first x y (precedes (ys ++ zs) xs) h.0 (left_false xs ys zs h.1)

prefix_false : (xs : List ℕ) (z : ℕ) (zs : List ℕ) → precedes (xs ++ z ∷ zs) xs ≡ false
prefix_false [] z zs = refl
prefix_false (x ∷ xs) z zs = same_first x x (precedes (xs ++ z ∷ zs) xs) refl (prefix_false xs z zs)

left_extends : (xs ys us : List ℕ) → IsLeft xs ys → IsLeft (xs ++ us) ys
left_extends [] ys us h = absurd h
left_extends (x ∷ xs) [] us h = absurd h
left_extends (x ∷ xs) (y ∷ ys) us (inl lt) = inl lt
left_extends (x ∷ xs) (y ∷ ys) us (inr h) = inr (h.0, left_extends xs ys us h.1)

left_children : (xs : List ℕ) (a b : ℕ) → a < b → IsLeft (xs ++ a ∷ []) (xs ++ b ∷ [])
left_children [] a b lt = inl lt
left_children (x ∷ xs) a b lt = inr (refl, left_children xs a b lt)

-- ---- tasks in order

-- from each path in a stack to the later ones
abbrev AreLeft : (ℕ → List ℕ) → List ℕ → Type 0
AreLeft path [] = Unit {0}
AreLeft path (x ∷ xs) = Each (λ (y : ℕ). IsLeft (path x) (path y)) xs × AreLeft path xs

left_append : (path : ℕ → List ℕ) (xs ys : List ℕ) → AreLeft path xs → AreLeft path ys → Each (λ (x : ℕ). Each (λ (y : ℕ). IsLeft (path x) (path y)) ys) xs →
    AreLeft path (xs ++ ys)
left_append path [] ys a b h = b
left_append path (x ∷ xs) ys a b h = (each_append (λ (y : ℕ). IsLeft (path x) (path y)) xs ys a.0 h.0, left_append path xs ys a.1 b h.1)

-- no later task precedes an earlier one
abbrev pub RiseIn : (ℕ → List ℕ) → List ℕ → Type 0
RiseIn path [] = Unit {0}
RiseIn path (x ∷ xs) = Each (λ (y : ℕ). precedes (path y) (path x) ≡ false) xs × RiseIn path xs

abbrev pub serials : List Started → List ℕ
serials [] = []
serials (q ∷ qs) = q.serial ∷ serials qs

-- a path goes on from one of a stack
record ComesFrom (path : ℕ → List ℕ) (stack : List ℕ) (n : ℕ) : Type 0 where
  from : ℕ
  among : IsAmong from stack
  more : List ℕ
  is : path n ≡ path from ++ more

module _ (qs : List Started) (path : ℕ → List ℕ) (m : ℕ) (rises : (q : Started) → IsAmong q qs → Rises m (children_made q.child q.made))
    (goes_on : (q : Started) → IsAmong q qs → (n : ℕ) → IsAmong n (children_made q.child q.made) → path n ≡ path q.serial ++ n ∷ [])
  where
    children_left : (q : Started) → (xs : List ℕ) → Rises m xs → ((n : ℕ) → IsAmong n xs → path n ≡ path q.serial ++ n ∷ []) → AreLeft path xs
    children_left q [] r g = tt
    children_left q (x ∷ xs) r g = (of_rest xs r.1 (λ n i. g n (inr i)), children_left q xs r.2 (λ n i. g n (inr i)))
      where
        of_rest : (ys : List ℕ) → Each (λ (y : ℕ). x < y) ys → ((n : ℕ) → IsAmong n ys → path n ≡ path q.serial ++ n ∷ []) →
            Each (λ (y : ℕ). IsLeft (path x) (path y)) ys
        of_rest [] h k = tt
        of_rest (y ∷ ys) h k = (
          subst (λ (p : List ℕ). IsLeft p (path y)) (sym (g x (inl refl)))
              (subst (λ (p : List ℕ). IsLeft (path q.serial ++ x ∷ []) p) (sym (k y (inl refl))) (left_children (path q.serial) x y h.0)),
          of_rest ys h.1 (λ n i. k n (inr i)),
        )

    children_before : (q : Started) → (xs stack : List ℕ) → Each (λ (y : ℕ). IsLeft (path q.serial) (path y)) stack →
        ((n : ℕ) → IsAmong n xs → path n ≡ path q.serial ++ n ∷ []) → Each (λ (x : ℕ). Each (λ (y : ℕ). IsLeft (path x) (path y)) stack) xs
    children_before q [] stack h g = tt
    children_before q (x ∷ xs) stack h g = (
      each_weaker (λ (y : ℕ). IsLeft (path q.serial) (path y)) (λ (y : ℕ). IsLeft (path x) (path y)) stack
          (λ y l. subst (λ (p : List ℕ). IsLeft p (path y)) (sym (g x (inl refl))) (left_extends (path q.serial) (path y) (x ∷ []) l)) h,
      children_before q xs stack h (λ n i. g n (inr i)),
    )

    record Sorted (stack : List ℕ) (taken : List Started) : Type 0 where
      rise : RiseIn path (serials taken)
      from : Each (λ (n : ℕ). ComesFrom path stack n) (serials taken)

    sorted : (stack : List ℕ) (taken : List Started) → InOrder qs stack taken → AreLeft path stack → Sorted stack taken
    sorted _ _ all_taken h = record { rise = tt; from = tt }
    sorted _ _ (next_taken q stack taken i ord) h =
        by_rest
        (sorted (children_made q.child q.made ++ stack) taken ord
        (left_append path (children_made q.child q.made) stack (children_left q (children_made q.child q.made) (rises q i) (goes_on q i)) h.1
        (children_before q (children_made q.child q.made) stack h.0 (goes_on q i))))
      where
        After : ℕ → Type 0
        After n = (precedes (path n) (path q.serial) ≡ false) × ComesFrom path (q.serial ∷ stack) n

        one : (n : ℕ) → ComesFrom path (children_made q.child q.made ++ stack) n → After n
        one n r = by_place (in_either r.from (children_made q.child q.made) stack r.among)
          where
            by_place : IsAmong r.from (children_made q.child q.made) ⊎ IsAmong r.from stack → After n
            by_place (inl j) =
                let is : path n ≡ path q.serial ++ (r.from ∷ r.more) =
                r.is ∙ (ap (λ (p : List ℕ). p ++ r.more) (goes_on q i r.from j) ∙ append_assoc (path q.serial) (r.from ∷ []) r.more) in (
                  ap (λ (p : List ℕ). precedes p (path q.serial)) is ∙ prefix_false (path q.serial) r.from r.more,
                  record { from = q.serial; among = inl refl; more = r.from ∷ r.more; is = is },
                )
            by_place (inr j) = (
              ap (λ (p : List ℕ). precedes p (path q.serial)) r.is
                  ∙ left_false (path q.serial) (path r.from) r.more (each_among (λ (y : ℕ). IsLeft (path q.serial) (path y)) stack h.0 r.from j),
              record { from = r.from; among = inr j; more = r.more; is = r.is },
            )

        by_rest : Sorted (children_made q.child q.made ++ stack) taken → Sorted (q.serial ∷ stack) (q ∷ taken)
        by_rest r =
            record {
              rise = (
                each_weaker (λ (n : ℕ). ComesFrom path (children_made q.child q.made ++ stack) n) (λ (n : ℕ). precedes (path n) (path q.serial) ≡ false)
                    (serials taken) (λ n x. (one n x).0) r.from,
                r.rise,
              );
              from = (
                record { from = q.serial; among = inl refl; more = []; is = sym (append-nil (path q.serial)) },
                each_weaker (λ (n : ℕ). ComesFrom path (children_made q.child q.made ++ stack) n) (λ (n : ℕ). ComesFrom path (q.serial ∷ stack) n)
                    (serials taken) (λ n x. (one n x).1) r.from,
              );
            }

    -- along the order of records paths rise
    pub paths_rise : (taken : List Started) → InOrder qs (0 ∷ []) taken → RiseIn path (serials taken)
    paths_rise taken ord = (sorted (0 ∷ []) taken ord (tt, tt)).rise

-- ---- what is sorted by paths

-- what each of these tasks did, one after the other
abbrev pub gather : List ℕ → List RoundAct → List RoundAct
gather [] round = []
gather (s ∷ ss) round = acts_by s round ++ gather ss round

abbrev others_by : ℕ → List RoundAct → List RoundAct
others_by s round = filter (λ (a : RoundAct). not (a.serial == s)) round

module _ (path : ℕ → List ℕ) where
  differs : (a : RoundAct) (s : ℕ) → (a.serial == s) ≡ false → a.serial ≢ s
  differs a s e g = let x : true ≡ false = sym (eq-eqb a.serial s g) ∙ e in cc

  none_later : (a : RoundAct) (s : ℕ) (round : List RoundAct) → PrecedesAll path a round → precedes (path a.serial) (path s) ≡ false →
      Each (λ (b : RoundAct). (b.serial == s) ≡ false) round
  none_later a s [] h e = tt
  none_later a s (b ∷ round) h e = (by_test (b.serial == s) refl, none_later a s round h.1 e)
    where
      by_test : (x : Bool) → (b.serial == s) ≡ x → (b.serial == s) ≡ false
      by_test false g = g
      by_test true g =
          absurd (let f : true ≡ false = sym h.0 ∙ (ap (λ (n : ℕ). precedes (path a.serial) (path n)) (eqb-true b.serial s g) ∙ e) in cc)

  all_others : (s : ℕ) (round : List RoundAct) → Each (λ (b : RoundAct). (b.serial == s) ≡ false) round → others_by s round ≡ round
  all_others s [] h = refl
  all_others s (b ∷ round) h = let k = all_others s round h.1 in rw h.0 (ap (λ (xs : List RoundAct). b ∷ xs) k)

  -- those of the first task come first
  first_split : (s : ℕ) (round : List RoundAct) → AreSorted path round → Each (λ (a : RoundAct). a.serial ≢ s → precedes (path a.serial) (path s) ≡ false) round →
      round ≡ acts_by s round ++ others_by s round
  first_split s [] h e = refl
  first_split s (a ∷ round) h e = by_test (a.serial == s) refl (first_split s round h.1 e.1)
    where
      by_test : (b : Bool) → (a.serial == s) ≡ b → round ≡ acts_by s round ++ others_by s round → a ∷ round ≡ acts_by s (a ∷ round) ++ others_by s (a ∷ round)
      by_test true g k = rw g (ap (λ (xs : List RoundAct). a ∷ xs) k)
      by_test false g k =
          let none = none_later a s round h.0 (e.0 (differs a s g)) in
          let no_acts = none_kept (λ (b : RoundAct). b.serial == s) round none in
          let others = all_others s round none in
          rw g (ap (λ (xs : List RoundAct). a ∷ xs) (sym others) ∙ ap (λ (xs : List RoundAct). xs ++ a ∷ others_by s round) (sym no_acts))

  other_acts : (s p : ℕ) (round : List RoundAct) → p ≢ s → acts_by p (others_by s round) ≡ acts_by p round
  other_acts s p [] d = refl
  other_acts s p (a ∷ round) d = by_tests (a.serial == s) (a.serial == p) refl refl (other_acts s p round d)
    where
      by_tests : (b c : Bool) → (a.serial == s) ≡ b → (a.serial == p) ≡ c → acts_by p (others_by s round) ≡ acts_by p round →
          acts_by p (others_by s (a ∷ round)) ≡ acts_by p (a ∷ round)
      by_tests true true e f k = absurd (d (sym (eqb-true a.serial p f) ∙ eqb-true a.serial s e))
      by_tests true false e f k = rw e (rw f k)
      by_tests false true e f k = rw e (rw f (ap (λ (xs : List RoundAct). a ∷ xs) k))
      by_tests false false e f k = rw e (rw f k)

  gather_others : (s : ℕ) (ss : List ℕ) (round : List RoundAct) → Each (λ (p : ℕ). p ≢ s) ss → gather ss (others_by s round) ≡ gather ss round
  gather_others s [] round d = refl
  gather_others s (p ∷ ss) round d =
      ap (λ (xs : List RoundAct). xs ++ gather ss (others_by s round)) (other_acts s p round d.0)
      ∙ ap (λ (xs : List RoundAct). acts_by p round ++ xs) (gather_others s ss round d.1)

  precedes_itself : (p : List ℕ) → precedes p p ≡ true
  precedes_itself [] = refl
  precedes_itself (x ∷ p) =
      ap (λ (b : Bool). nat_lt x x || (b && precedes p p)) (eq-eqb x x refl)
      ∙ (ap (λ (b : Bool). nat_lt x x || b) (precedes_itself p) ∙ or_true (nat_lt x x))
    where
      or_true : (b : Bool) → (b || true) ≡ true
      or_true true = refl
      or_true false = refl

  sorted_others : (s : ℕ) (round : List RoundAct) → AreSorted path round → AreSorted path (others_by s round)
  sorted_others s [] h = tt
  sorted_others s (a ∷ round) h = by_test (a.serial == s) refl (sorted_others s round h.1)
    where
      all_kept : (xs : List RoundAct) → PrecedesAll path a xs → PrecedesAll path a (others_by s xs)
      all_kept [] g = tt
      all_kept (b ∷ xs) g = inner (b.serial == s) refl (all_kept xs g.1)
        where
          inner : (x : Bool) → (b.serial == s) ≡ x → PrecedesAll path a (others_by s xs) → PrecedesAll path a (others_by s (b ∷ xs))
          inner true e k = rw e k
          inner false e k = rw e (g.0, k)

      by_test : (b : Bool) → (a.serial == s) ≡ b → AreSorted path (others_by s round) → AreSorted path (others_by s (a ∷ round))
      by_test true e k = rw e k
      by_test false e k = rw e (all_kept round h.0, k)

  among_others : (s : ℕ) (ss : List ℕ) (round : List RoundAct) → Each (λ (a : RoundAct). IsAmong a.serial (s ∷ ss)) round →
      Each (λ (a : RoundAct). IsAmong a.serial ss) (others_by s round)
  among_others s ss [] h = tt
  among_others s ss (a ∷ round) h = by_test (a.serial == s) refl (among_others s ss round h.1)
    where
      later : IsAmong a.serial (s ∷ ss) → a.serial ≢ s → IsAmong a.serial ss
      later (inl e) d = absurd (d e)
      later (inr i) d = i

      by_test : (b : Bool) → (a.serial == s) ≡ b → Each (λ (x : RoundAct). IsAmong x.serial ss) (others_by s round) →
          Each (λ (x : RoundAct). IsAmong x.serial ss) (others_by s (a ∷ round))
      by_test true e k = rw e k
      by_test false e k = rw e (later h.0 (differs a s e), k)

  -- what is sorted by paths is what the tasks did, one after the other
  pub gathered : (ss : List ℕ) (round : List RoundAct) → RiseIn path ss → AreSorted path round → Each (λ (a : RoundAct). IsAmong a.serial ss) round →
      gather ss round ≡ round
  gathered [] [] r h i = refl
  gathered [] (a ∷ round) r h i = absurd i.0
  gathered (s ∷ ss) round r h i =
      ap (λ (xs : List RoundAct). acts_by s round ++ xs)
      (sym (gather_others s ss round apart) ∙ gathered ss (others_by s round) r.1 (sorted_others s round h) (among_others s ss round i))
      ∙ sym (first_split s round h (each_weaker (λ (a : RoundAct). IsAmong a.serial (s ∷ ss)) (λ (a : RoundAct). a.serial ≢ s → precedes (path a.serial) (path s) ≡ false)
      round (λ a j d. after a j d) i))
    where
      apart : Each (λ (p : ℕ). p ≢ s) ss
      apart =
          each_weaker (λ (p : ℕ). precedes (path p) (path s) ≡ false) (λ (p : ℕ). p ≢ s) ss
          (λ p e g. absurd (let f : true ≡ false = sym (precedes_itself (path s)) ∙ (ap (λ (n : ℕ). precedes (path n) (path s)) (sym g) ∙ e) in cc)) r.0

      after : (a : RoundAct) → IsAmong a.serial (s ∷ ss) → a.serial ≢ s → precedes (path a.serial) (path s) ≡ false
      after a (inl e) d = absurd (d e)
      after a (inr j) d = each_among (λ (p : ℕ). precedes (path p) (path s) ≡ false) ss r.0 a.serial j
