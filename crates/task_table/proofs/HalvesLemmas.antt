use Rattle.std.proofs.Common.{◌≡◌, ℕ, zero, suc, ◌+◌, ◌-◌, ◌<◌, ◌≤◌, ◌≢◌, ◌/◌, List, ◌∷◌, ◌++◌, take, drop, length, refl, ap, sym, ◌∙◌, arith, length-append, zero-add, add-zero, ◌⊎◌, inl, inr}
use Rattle.std.specs.Prelude.{slice_index_or}
use Rattle.std.specs.List.{remove}
use Rattle.std.proofs.Math.Seq.{get_or-append_seam, take-append_seam, drop-append-add}
use Rattle.std.proofs.lemmas.List.{get_or_append_left, get_or-append_right}
use Rattle.std.proofs.lemmas.List.Edits.{remove-append_left, remove-append_right}
use Rattle.task_table.specs.Halves.{inner_nodes, places_by_counts, numbers, IsTree, Drawn}

-- a list cut at its middle
pub record Cut (d : ℕ) (ls l : List ℕ) (m : ℕ) (r : List ℕ) : Type 0 where
  pub first : take (inner_nodes d) ls ≡ l
  pub middle : slice_index_or ls (inner_nodes d) 0 ≡ m
  pub last : drop (inner_nodes d + 1) ls ≡ r

-- the counts of a first half, one more and the counts of a last half are cut into these three
pub cut_at : (d : ℕ) (l : List ℕ) (m : ℕ) (r : List ℕ) → length l ≡ inner_nodes d → Cut d (l ++ m ∷ r) l m r
cut_at d l m r e =
    record {
      first = rw (← e) (take-append_seam l (m ∷ r));
      middle = rw (← e) (get_or-append_seam l m r 0);
      last = rw (← e) (drop-append-add l (m ∷ r) 1);
    }

left_cut : (d base c : ℕ) (ls l : List ℕ) (m : ℕ) (r : List ℕ) → Cut d ls l m r →
    places_by_counts (suc d) base ls c ≡ places_by_counts d base l m ++ places_by_counts d (base + inner_nodes d + 1) r (c - m)
left_cut d base c ls l m r cut = rw (cut.first, cut.middle, cut.last) refl

tree_cut : (d c : ℕ) (ls l : List ℕ) (m : ℕ) (r : List ℕ) → Cut d ls l m r → IsTree (suc d) ls c → (m ≤ c) × IsTree d l m
    × IsTree d r (c - m)
tree_cut d c ls l m r cut t = rw (cut.first, cut.middle, cut.last) at t

tree_join : (d c : ℕ) (ls l : List ℕ) (m : ℕ) (r : List ℕ) → Cut d ls l m r → m ≤ c → IsTree d l m → IsTree d r (c - m) →
    IsTree (suc d) ls c
tree_join d c ls l m r cut le first last = rw (cut.first, cut.middle, cut.last) (le, first, last)

-- this many are left
pub left_count : (d base : ℕ) (ls : List ℕ) (c : ℕ) → IsTree d ls c → length (places_by_counts d base ls c) ≡ c
left_count zero base ls zero t = refl
left_count zero base ls (suc zero) t = refl
left_count zero base ls (suc (suc n)) t = absurd (omega (arith, t))
left_count (suc d) base ls c t =
    let m = slice_index_or ls (inner_nodes d) 0 in
    length-append (places_by_counts d base (take (inner_nodes d) ls) m) (places_by_counts d (base + inner_nodes d + 1) (drop (inner_nodes d + 1) ls) (c - m))
    ∙ omega (arith, t.0, left_count d base (take (inner_nodes d) ls) m t.1, left_count d (base + inner_nodes d + 1) (drop (inner_nodes d + 1) ls) (c - m) t.2)

cut_of : (d : ℕ) (ls l : List ℕ) (m : ℕ) (r : List ℕ) → ls ≡ l ++ m ∷ r → length l ≡ inner_nodes d → Cut d ls l m r
cut_of d ls l m r is n = rw is (cut_at d l m r n)

-- ---- a whole whose counts are those of its first half, the number of places left there, and those of its last half
module _ (depth d c : ℕ) (ls l : List ℕ) (m : ℕ) (r : List ℕ) (e : depth ≡ suc d) (is : ls ≡ l ++ m ∷ r) (n : length l ≡ inner_nodes d)
    (t : IsTree depth ls c) where
  -- the counts determine what is left in the first half, and the other places are left in the last half
  pub tree_parts : (m ≤ c) × IsTree d l m × IsTree d r (c - m)
  tree_parts =
      let t' : IsTree (suc d) ls c = rw e at t in
      tree_cut d c ls l m r (cut_of d ls l m r is n) t'

  -- the places that are left are those of the first half and then those of the last
  parts_left : (base : ℕ) → places_by_counts depth base ls c ≡ places_by_counts d base l m
      ++ places_by_counts d (base + inner_nodes d + 1) r (c - m)
  parts_left base = rw e (left_cut d base c ls l m r (cut_of d ls l m r is n))

  -- a place of the first half was drawn
  pub drawn_first : (base k : ℕ) (l' : List ℕ) (place : ℕ) → length l' ≡ inner_nodes d → k < m → Drawn d base l m k l' place →
      Drawn depth base ls c k (l' ++ (m - 1) ∷ r) place
  drawn_first base k l' place n' lt drawn =
      let cut' = cut_at d l' (m - 1) r n' in
      let parts = tree_parts in
      let first = places_by_counts d base l m in
      let rest = places_by_counts d (base + inner_nodes d + 1) r (c - m) in
      let old = parts_left base in
      let same : c - 1 - (m - 1) ≡ c - m = omega (arith, lt, parts.0) in
      let right : IsTree d r (c - 1 - (m - 1)) = rw same parts.2 in
      let count = left_count d base l m parts.1 in
      let lt' : k < length (places_by_counts d base l m) = rw count lt in
      let new : places_by_counts depth base (l' ++ (m - 1) ∷ r) (c - 1) ≡ places_by_counts d base l' (m - 1) ++ rest =
      rw e (left_cut d base (c - 1) (l' ++ (m - 1) ∷ r) l' (m - 1) r cut'
      ∙ ap (λ n. places_by_counts d base l' (m - 1) ++ places_by_counts d (base + inner_nodes d + 1) r n) same)
      in
      record {
        tree = rw e (tree_join d (c - 1) (l' ++ (m - 1) ∷ r) l' (m - 1) r cut' (omega (arith, lt, parts.0)) drawn.tree right);
        left = new ∙ ap (λ xs. xs ++ rest) drawn.left ∙ sym (remove-append_left first rest k lt') ∙ sym (ap (λ xs. remove xs k) old);
        at_k = drawn.at_k ∙ sym (get_or_append_left first rest 0 k lt') ∙ sym (ap (λ xs. slice_index_or xs k 0) old);
      }

  -- a place of the last half was drawn
  pub drawn_last : (base k : ℕ) (r' : List ℕ) (place : ℕ) → k < c → m ≤ k →
      Drawn d (base + inner_nodes d + 1) r (c - m) (k - m) r' place → Drawn depth base ls c k (l ++ m ∷ r') place
  drawn_last base k r' place lt le drawn =
      let cut' = cut_at d l m r' n in
      let parts = tree_parts in
      let off = base + inner_nodes d + 1 in
      let first = places_by_counts d base l m in
      let rest = places_by_counts d off r (c - m) in
      let old = parts_left base in
      let count = left_count d base l m parts.1 in
      let same : c - 1 - m ≡ c - m - 1 = omega (arith, lt, le) in
      let right : IsTree d r' (c - 1 - m) = rw same drawn.tree in
      let new : places_by_counts depth base (l ++ m ∷ r') (c - 1) ≡ first ++ places_by_counts d off r' (c - m - 1) =
      rw e (left_cut d base (c - 1) (l ++ m ∷ r') l m r' cut' ∙ ap (λ n. first ++ places_by_counts d off r' n) same)
      in
      record {
        tree = rw e (tree_join d (c - 1) (l ++ m ∷ r') l m r' cut' (omega (arith, lt, le)) parts.1 right);
        left = new ∙ ap (λ xs. first ++ xs) drawn.left ∙ sym (remove-append_right first rest m k count le)
            ∙ sym (ap (λ xs. remove xs k) old);
        at_k = drawn.at_k ∙ sym (get_or-append_right first rest m k 0 count le) ∙ sym (ap (λ xs. slice_index_or xs k 0) old);
      }

-- the depth of a half
pub above : (depth : ℕ) → depth ≢ 0 → depth ≡ suc (depth - 1)
above depth ne = omega (arith, ne)

-- as many counts are kept for a whole as for its two halves and one more
pub inner_of : (depth d : ℕ) → depth ≡ suc d → inner_nodes depth ≡ inner_nodes d + 1 + inner_nodes d
inner_of depth d e = rw e refl

-- the middle
pub half_of : (depth d n : ℕ) → depth ≡ suc d → n ≡ inner_nodes depth → n / 2 ≡ inner_nodes d
half_of depth d n e is = let i = inner_of depth d e in omega (arith, i, is)

-- numbers from one on: the first a of them, and b from there on
pub numbers_append : (base a b : ℕ) → numbers base (a + b) ≡ numbers base a ++ numbers (base + a) b
numbers_append base zero b = rw (zero-add b, add-zero base) refl
numbers_append base (suc a) b =
    let again = numbers_append (base + 1) a b in
    let there : base + 1 + a ≡ base + suc a = omega arith in
    let sum : suc a + b ≡ suc (a + b) = omega arith in
    rw sum (ap (λ xs. base ∷ xs) (again ∙ ap (λ n. numbers (base + 1) a ++ numbers n b) there))

-- how many places of the first half are left
pub record InFirst (d c m : ℕ) : Type 0 where
  pub most : m ≤ c
  pub fits : m ≤ inner_nodes d + 1
  pub all : (m ≡ inner_nodes d + 1) ⊎ (c ≡ m)

-- the counts of two halves, with what is left in the first between them, are those of a whole
pub filled_tree : (depth d c m : ℕ) (l r : List ℕ) → depth ≡ suc d → length l ≡ inner_nodes d → InFirst d c m → IsTree d l m →
    IsTree d r (c - m) → IsTree depth (l ++ m ∷ r) c
filled_tree depth d c m l r e n some first last = rw e (tree_join d c (l ++ m ∷ r) l m r (cut_at d l m r n) some.most first last)

-- if each half has its first places left, and the last half has none unless the first is full, so has the whole
pub filled_all : (depth d c m : ℕ) (l r : List ℕ) → depth ≡ suc d → length l ≡ inner_nodes d → InFirst d c m →
    ((base : ℕ) → places_by_counts d base l m ≡ numbers base m) → ((base : ℕ) → places_by_counts d base r (c - m) ≡ numbers base (c - m)) → (base : ℕ) →
    places_by_counts depth base (l ++ m ∷ r) c ≡ numbers base c
filled_all depth d c m l r e n some first last base =
    let off = base + inner_nodes d + 1 in
    let whole : c ≡ m + (c - m) = omega (arith, some.most) in
    let seam : numbers base m ++ numbers off (c - m) ≡ numbers base m ++ numbers (base + m) (c - m) = elim some.all [
      | inl full ↦ let there : off ≡ base + m = omega (arith, full) in ap (λ n. numbers base m ++ numbers n (c - m)) there
      | inr none ↦ let absent : c - m ≡ 0 = omega (arith, none) in rw absent refl
    ] in
    let cut = left_cut d base c (l ++ m ∷ r) l m r (cut_at d l m r n) in
    rw e (cut ∙ ap (λ xs. xs ++ places_by_counts d off r (c - m)) (first base) ∙ ap (λ xs. numbers base m ++ xs) (last off) ∙ seam
    ∙ sym (numbers_append base m (c - m)) ∙ ap (numbers base) (sym whole))

-- a number that is all of the first half or all of what is left, whichever is less, is what the first half has left
pub in_first : (d c m half : ℕ) → half ≡ inner_nodes d → m ≤ c → m ≤ half + 1 → (m ≡ half + 1) ⊎ (c ≡ m) → InFirst d c m
in_first d c m half e most fits all = record { most = most; fits = rw e at fits; all = rw e at all }
