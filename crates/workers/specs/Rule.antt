-- The rule of the shared word, which counts all claims so far, and of the hands, which are what is known of the tickets. A
-- hand that was joined to another is spent: it stands for no ticket and has drawn nothing.
use Rattle.std.specs.Prelude.{◌≡◌, ℕ, ◌+◌, ◌-◌, ◌<◌, ◌≤◌, List, [], ◌∷◌, ◌++◌, length, min, ◌==◌, if◌then◌else◌, slice_index, All}
use mathlib.Core.Option.{some}
use lib.ListN.{get_elem?}
use Rattle.atomic_table.specs.Table.{State, Me, Step}
use Rattle.workers.specs.declared.rule.Hand.{Hand}
use Rattle.workers.specs.declared.rule.Counts.{Counts}

abbrev pub hand : ℕ → ℕ → List ℕ → ℕ → Hand
hand most parts drawn nones = record { most = most; parts = parts; drawn = drawn; nones = nones }

-- how often x occurs in a list
abbrev pub times : ℕ → List ℕ → ℕ
times x [] = 0
times x (y ∷ ys) = (if x == y then 1 else 0) + times x ys

-- the sum of f over all hands
abbrev pub total : (Hand → ℕ) → List Hand → ℕ
total f [] = 0
total f (v ∷ vs) = f v + total f vs

-- A hand got `None` at most once for each ticket that it stands for. It has the number of requests while it stands for a
-- ticket, and has drawn nothing where it stands for none.
pub record Fair (requests : ℕ) (v : Hand) : Type 0 where
  pub nones : v.nones ≤ v.parts
  pub most : 0 < v.parts → v.most ≡ requests
  pub empty : v.parts ≡ 0 → v.drawn ≡ []

-- The word counts the claims. The numbers below it that are below the number of requests were drawn, each by one hand, once,
-- and no others were. Each further claim returned `None` to a hand. The hands together stand for all tickets.
pub record Claimed (requests passes word : ℕ) (hands : List Hand) : Type 0 where
  pub once : (x : ℕ) → x < min word requests → total (λ v. times x v.drawn) hands ≡ 1
  pub no_other : (x : ℕ) → min word requests ≤ x → total (λ v. times x v.drawn) hands ≡ 0
  pub nones : total (λ v. v.nones) hands ≡ word - requests
  pub parts : total (λ v. v.parts) hands ≡ passes
  pub fair : (i : ℕ) (v : Hand) → get_elem? hands i ≡ some v → Fair requests v

-- the rule of a table with one word
abbrev pub Kept : Counts → State (Unit {0}) Hand → Type 0
Kept counts s = (length s.words ≡ 1) × Claimed counts.requests counts.passes (slice_index s.words 0) s.views

-- the hand that stands for all tickets, at the start
abbrev pub first_hand : Counts → Hand
first_hand counts = hand counts.requests counts.passes [] 0

-- a hand after one ticket was split off
abbrev pub one_less : Hand → Hand
one_less v = hand v.most (v.parts - 1) v.drawn v.nones

-- the hand of a new ticket
abbrev pub new_hand : Hand → Hand
new_hand v = hand v.most 1 [] 0

-- two hands joined into one
abbrev pub both_hands : Hand → Hand → Hand
both_hands v w = hand v.most (v.parts + w.parts) (v.drawn ++ w.drawn) (v.nones + w.nones)

-- a hand that was joined to another
abbrev pub spent_hand : Hand
spent_hand = hand 0 0 [] 0

-- Where the number found is that of a request, the hand draws it, and it is greater than all that the hand drew before.
-- Otherwise the hand gets `None`.
pub record Takes (v : Hand) (found : ℕ) (w : Hand) : Type 0 where
  pub number : found < v.most → All (λ j. j < found) v.drawn × (w ≡ hand v.most v.parts (v.drawn ++ found ∷ []) v.nones)
  pub none : v.most ≤ found → w ≡ hand v.most v.parts v.drawn (v.nones + 1)

-- what a claim does to a seat, which holds no slot before and after
abbrev pub Draws : Step (Unit {0}) → Me (Unit {0}) Hand → ℕ → Me (Unit {0}) Hand → Type 0
Draws step before found after = (after.1 ≡ before.1) × Takes before.0 found after.0
