use Rattle.interleavings.proofs.laws.law_grants.Goals as goal
use Rattle.interleavings.proofs.GrantsKnown.{grants_are_known}
use Rattle.interleavings.proofs.Ordering.{orders_exist}

pub returns : goal.returns
returns c = record { grants = grants_are_known; order = orders_exist }
