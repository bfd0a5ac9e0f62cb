use Rattle.std.proofs.Common.{◌≡◌, length}
use Rattle.job_hints.specs.ByBytes.{after_digits}
use Rattle.job_hints.proofs.by_bytes.after_digits.Given as goal

abbrev pub invariant-digits : goal.invariant-digits
invariant-digits l = after_digits l.left ≡ after_digits l.bytes

abbrev pub decreases-digits : goal.decreases-digits
decreases-digits l = length l.left
