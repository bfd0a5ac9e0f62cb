use Rattle.std.proofs.Common.{◌≡◌, [], drop}
use Rattle.job_reader.specs.Given.{twice_in}
use Rattle.job_reader.proofs.given.given_twice.Given as goal

abbrev pub invariant-tokens : goal.invariant-tokens
invariant-tokens l = twice_in l.names.keys (drop l.token-index l.tokens) l.left ≡ twice_in [] l.tokens l.roles
