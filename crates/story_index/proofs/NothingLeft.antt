-- Nothing is left of an exception without its `Cancelled` leaves if it has no other leaves.
use Rattle.std.proofs.Common.{◌≡◌, refl, ◌∙◌}
use Rattle.std.specs.Prelude.{Bool, true, false, not, ◌&&◌, Option, Some, None, is_none}
use Rattle.exceptions.specs.Exceptions.{Whose, Exc, cancelled, raised, too_slow, group, Excs, no_parts, part, group_of}
use Rattle.exceptions.specs.Split.{is_cancelled, matches, pruned_exc, pruned_parts, with_part, drop}
use Rattle.story_index.specs.Leaves.{all_cancelled, all_in}

abbrev are_none : Excs → Bool
are_none no_parts = true
are_none (part e es) = false

-- the test of the leaves that stay
abbrev is_other : Exc → Bool
is_other leaf = not (matches is_cancelled leaf)

no_group : (whose : Whose) (es : Excs) → is_none (group_of whose es) ≡ are_none es
no_group whose no_parts = refl
no_group whose (part e es) = refl

none_with : (o : Option Exc) (es : Excs) → are_none (with_part o es) ≡ (is_none o && are_none es)
none_with None es = refl
none_with (Some e) es = refl

mutual
  pub nothing_left : (e : Exc) → is_none (drop is_cancelled e) ≡ all_cancelled e
  nothing_left cancelled = refl
  nothing_left (raised name task tick) = refl
  nothing_left (too_slow scope tick) = refl
  nothing_left (group whose parts) = no_group whose (pruned_parts is_other parts) ∙ nothing_in parts

  nothing_in : (es : Excs) → are_none (pruned_parts is_other es) ≡ all_in es
  nothing_in no_parts = refl
  nothing_in (part e es) =
      none_with (pruned_exc is_other e) (pruned_parts is_other es) ∙ cc (nothing_left e, nothing_in es)
