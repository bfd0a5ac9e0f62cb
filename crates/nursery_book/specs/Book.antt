-- What contracts see of a book: a map from the keys of open nurseries to the nurseries.
use Rattle.std.specs.Prelude.{◌≡◌, ◌≢◌, ℕ, Option, Some, IsSomeAnd}
use Rattle.std.specs.Option.{option_map}
use Rattle.slab.specs.Slab.{get}
use Rattle.nursery_book.specs.Nursery.{Nursery}
use Rattle.nursery_book.specs.Ends.{end_of}
use Rattle.nursery_book.specs.declared.book.Members.{Members}
use Rattle.nursery_book.specs.declared.book.NurseryBook.{NurseryBook}

-- a nursery of the code, as contracts see it
abbrev pub nursery_of : Members → Nursery
nursery_of m = record { scope = m.scope; waiter = m.waiter; label = m.label; body = end_of m.body; children = m.children; last = m.last }

-- the nursery of a key, if one is open there
abbrev pub nursery_at : NurseryBook → ℕ → Option Nursery
nursery_at book key = option_map nursery_of (get book.nurseries key)

-- a nursery is open at the key, and `P` is true of it
abbrev pub HasNursery : NurseryBook → ℕ → (Nursery → Type 0) → Type 0
HasNursery book key P = IsSomeAnd (nursery_at book key) P

-- every key keeps its nursery
abbrev pub SameNurseries : NurseryBook → NurseryBook → Type 0
SameNurseries old new = (key : ℕ) → nursery_at new key ≡ nursery_at old key

-- the key now has this nursery, or none, and every other key keeps its own
pub record Updates (old new : NurseryBook) (key : ℕ) (nursery : Option Nursery) : Type 0 where
  pub changed : nursery_at new key ≡ nursery
  pub others : (other : ℕ) → other ≢ key → nursery_at new other ≡ nursery_at old other

-- the nursery of the key changed by `change`, and no other nursery changed
abbrev pub Changes : NurseryBook → NurseryBook → ℕ → (Nursery → Nursery) → Type 0
Changes old new key change = HasNursery old key (λ n. Updates old new key (Some (change n)))
