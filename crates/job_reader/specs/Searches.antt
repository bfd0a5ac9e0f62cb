-- The state of a search for a stray use of a name.
use Rattle.std.specs.Prelude.{ℕ, List, [], Option}
use Rattle.job_reader.specs.declared.uses.Search.{Search}
use Rattle.job_reader.specs.declared.uses.Search.TheVariants.{Passed, Stopped}
use Rattle.job_reader.specs.declared.uses.Around.{Around, Nothing, Inside'}
use Rattle.job_reader.specs.Targets.{Named}
use Rattle.job_reader.specs.Uses.{Use, inside, targets_in, stray_in}

-- what encloses a block and can be named, the innermost first
abbrev pub named_around : Around → List Named
named_around Nothing = []
named_around (Inside' kind name p outer) = inside kind name.now (named_around outer)

-- the result of a search if these uses follow
abbrev pub found_in : Search → List Use → Option ℕ
found_in (Passed left) us = stray_in us (targets_in left.tokens.now left.roles.now)
found_in (Stopped at) us = at
