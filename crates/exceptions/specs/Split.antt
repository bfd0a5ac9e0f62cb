-- Splitting an exception, as `split` of PEP 654 does: the leaves that match and the others. Nesting is kept, and a group
-- that became empty is dropped.
use Rattle.std.specs.Prelude.{ℕ, Bool, true, false, not, Option, Some, None, List, codes}
use Rattle.std.specs.Str.{bytes_eq}
use Rattle.exceptions.specs.Exceptions.{Exc, cancelled, raised, too_slow, group, Excs, no_parts, part, group_of}

-- what to split by: the name of exceptions, or `Cancelled`
pub data Wanted : Type 0 where
  named : (name : List ℕ) → Wanted
  is_cancelled : Wanted

-- the name of the exception that a `fail` scope raises
abbrev pub too_slow_name : List ℕ
too_slow_name = codes "TooSlow"

-- whether a leaf matches; a group is not a leaf, so it never matches
abbrev pub matches : Wanted → Exc → Bool
matches (named n) (raised name task tick) = bytes_eq n name
matches (named n) (too_slow scope tick) = bytes_eq n too_slow_name
matches is_cancelled cancelled = true
matches _ _ = false

-- a part in front, if there is one
abbrev pub with_part : Option Exc → Excs → Excs
with_part None es = es
with_part (Some e) es = part e es

abbrev pub leaf_if : Bool → Exc → Option Exc
leaf_if true e = Some e
leaf_if false e = None

-- an exception reduced to the leaves that pass a test, or `None` where none does
abbrev mutual
  pub pruned_exc : (Exc → Bool) → Exc → Option Exc
  pruned_exc test cancelled = leaf_if (test cancelled) cancelled
  pruned_exc test (raised name task tick) = leaf_if (test (raised name task tick)) (raised name task tick)
  pruned_exc test (too_slow scope tick) = leaf_if (test (too_slow scope tick)) (too_slow scope tick)
  pruned_exc test (group whose parts) = group_of whose (pruned_parts test parts)

  pub pruned_parts : (Exc → Bool) → Excs → Excs
  pruned_parts test no_parts = no_parts
  pruned_parts test (part e es) = with_part (pruned_exc test e) (pruned_parts test es)

-- the leaves that match
abbrev pub keep : Wanted → Exc → Option Exc
keep w e = pruned_exc (matches w) e

-- the leaves that do not match
abbrev pub drop : Wanted → Exc → Option Exc
drop w e = pruned_exc (λ leaf. not (matches w leaf)) e
