-- What the code knows of the numbers of events.
use Rattle.std.specs.Prelude.{ℕ, nat_eq, Option}
use Rattle.indexmap.specs.IndexMap.{IndexMap, get_by}

-- the number of the event with this number in the walk, if it has one
abbrev pub number_at : {S : Type 0} → IndexMap ℕ ℕ S → ℕ → Option ℕ
number_at numbers i = get_by (nat_eq i) numbers
