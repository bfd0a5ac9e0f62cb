use Rattle.std.proofs.Common.{◌≡◌, ◌++◌, drop}
use Rattle.job_edits.specs.WrittenOut.{given_in}
use Rattle.job_edits.proofs.writing_out.given_in.Given as goal

abbrev pub invariant-tokens : goal.invariant-tokens
invariant-tokens l =
    l.names.items ++ given_in l.from l.to (drop l.token-index l.tokens) l.left ≡ given_in l.from l.to l.tokens l.roles
