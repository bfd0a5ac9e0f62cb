-- The exceptions of the code, seen as trees.
use Rattle.std.specs.Prelude.{List, [], ◌∷◌}
use Rattle.exceptions.specs.declared.exc.Exc.{Exc}
use Rattle.exceptions.specs.declared.exc.Exc.TheVariants.{Cancelled, Raised, TooSlow, Group}
use Rattle.exceptions.specs.declared.exc.Whose.{Whose}
use Rattle.exceptions.specs.declared.exc.Whose.TheVariants.{Nursery, Handler}
use Rattle.exceptions.specs.Exceptions as tree

abbrev pub whose_of : Whose → tree.Whose
whose_of (Nursery label) = tree.by_nursery label
whose_of Handler = tree.by_handler

-- an exception as a tree
abbrev pub exc_of : Exc → tree.Exc
exc_of Cancelled = tree.cancelled
exc_of (Raised name task tick) = tree.raised name task tick
exc_of (TooSlow scope tick) = tree.too_slow scope tick
exc_of (Group whose parts) = tree.group (whose_of whose) parts

-- a list of exceptions as the parts of a group
abbrev pub excs_of : List Exc → tree.Excs
excs_of [] = tree.no_parts
excs_of (e ∷ es) = tree.part (exc_of e) (excs_of es)
