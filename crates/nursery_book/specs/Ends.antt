-- The ends of members in the code, as contracts see them. No public clause cites this module.
use Rattle.std.specs.Prelude.{ℕ, suc, Option, Some, None, List, [], ◌∷◌, filter_map}
use Rattle.std.specs.Option.{option_map}
use Rattle.exceptions.specs.declared.exc.Exc.{Exc}
use Rattle.exceptions.specs.Held.{exc_of}
use Rattle.nursery_book.specs.Nursery.{End}
use Rattle.nursery_book.specs.declared.ending.MemberEnd.{MemberEnd}
use Rattle.nursery_book.specs.declared.ending.MemberEnd.TheVariants.{Running, Ended}

abbrev pub end_of : MemberEnd → End
end_of Running = None
end_of (Ended exc) = Some (option_map exc_of exc)

-- a member's exception in the code, if it ended with one
abbrev pub exc_held : MemberEnd → Option Exc
exc_held Running = None
exc_held (Ended exc) = exc

-- the number of members that run
abbrev pub running_in : List MemberEnd → ℕ
running_in [] = 0
running_in (Running ∷ es) = suc (running_in es)
running_in (Ended exc ∷ es) = running_in es

abbrev pub excs_held : List MemberEnd → List Exc
excs_held es = filter_map exc_held es
