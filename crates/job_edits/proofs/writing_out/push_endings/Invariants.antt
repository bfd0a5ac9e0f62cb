use Rattle.std.proofs.Common.{◌≡◌, ◌++◌, drop}
use Rattle.job_edits.specs.WrittenOut.{endings}
use Rattle.job_edits.proofs.writing_out.push_endings.Given as goal

abbrev pub invariant-tokens : goal.invariant-tokens
invariant-tokens l =
    l.changes.items ++ endings l.end l.given l.places.0 l.places.1 (drop l.token-index l.tokens) l.left
    ≡ l.fn.changes.items ++ endings l.end l.given l.places.0 l.places.1 l.tokens l.roles
