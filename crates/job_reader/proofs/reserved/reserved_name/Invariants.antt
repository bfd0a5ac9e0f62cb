use Rattle.std.proofs.Common.{◌≡◌, drop}
use Rattle.job_reader.specs.Reserved.{reserved_in}
use Rattle.job_reader.proofs.reserved.reserved_name.Given as goal

abbrev pub invariant-tokens : goal.invariant-tokens
invariant-tokens l = reserved_in (drop l.token-index l.tokens) l.left ≡ reserved_in l.tokens l.roles
