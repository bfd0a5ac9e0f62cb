-- What a write to the store does to the map of nurseries.
use Rattle.std.proofs.Common.{◌≡◌, ℕ, Option, Some, None, refl, ap}
use Rattle.std.specs.Prelude.{IsSome, IsSomeAnd}
use Rattle.std.specs.Option.{option_map}
use Rattle.slab.specs.Slab.{get, with_value, Updates as Slots}
use Rattle.slab.proofs.SlabLemmas.{Updates-with_value}
use Rattle.nursery_book.specs.Nursery.{Nursery}
use Rattle.nursery_book.specs.Book.{nursery_of, Updates, Changes}
use Rattle.nursery_book.specs.declared.book.Members.{Members}
use Rattle.nursery_book.specs.declared.book.NurseryBook.{NurseryBook}

-- an open nursery has members
pub has_members : (o : Option Members) (P : Nursery → Type 0) → IsSomeAnd (option_map nursery_of o) P → IsSome o
has_members None P h = absurd h
has_members (Some m) P h = refl

-- a nursery that is open is held by the store
pub is_held : (o : Option Members) → IsSome (option_map nursery_of o) → IsSome o
is_held None h = absurd (cc)
is_held (Some m) h = refl

-- what is true of the nursery is true of its members
pub of_members : (o : Option Members) (m : Members) (P : Nursery → Type 0) → o ≡ Some m → IsSomeAnd (option_map nursery_of o) P →
    P (nursery_of m)
of_members o m P e h = rw e at h

-- what is true of the members is true of the nursery
pub from_members : (o : Option Members) (m : Members) (P : Nursery → Type 0) → o ≡ Some m → P (nursery_of m) →
    IsSomeAnd (option_map nursery_of o) P
from_members o m P e p = rw e p

-- a slot of the store changed
pub Updates-slot : (old new : NurseryBook) (key : ℕ) (slot : Option Members) → Slots old.nurseries new.nurseries key slot →
    Updates old new key (option_map nursery_of slot)
Updates-slot old new key slot updates =
    record {
      changed = ap (option_map nursery_of) updates.changed;
      others = λ other ne. ap (option_map nursery_of) (updates.others other ne);
    }

some_value : {T : Type 0} (o : Option T) (x : T) → o ≡ Some x → IsSome o
some_value o x e = rw e refl

-- the members of a nursery were written
pub Changes-write : (old new : NurseryBook) (key : ℕ) (m m' : Members) (change : Nursery → Nursery) → get old.nurseries key ≡ Some m →
    new.nurseries ≡ with_value old.nurseries key m' → nursery_of m' ≡ change (nursery_of m) → Changes old new key change
Changes-write old new key m m' change at written same =
    let slots : Slots old.nurseries new.nurseries key (Some m') =
    rw written (Updates-with_value old.nurseries key m' (some_value (get old.nurseries key) m at)) in
    from_members (get old.nurseries key) m (λ n. Updates old new key (Some (change n))) at
    (rw (← same) (Updates-slot old new key (Some m') slots))
