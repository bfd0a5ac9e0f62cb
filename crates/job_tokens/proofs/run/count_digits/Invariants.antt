use Rattle.std.proofs.Common.{◌≡◌, ◌+◌, drop}
use Rattle.std.specs.List.{prefix_len}
use Rattle.job_tree.specs.Words.{is_digit}
use Rattle.job_tokens.proofs.run.count_digits.Given as goal

abbrev pub invariant-loop-n : goal.invariant-loop-n
invariant-loop-n l = l.n + prefix_len is_digit (drop l.n l.bytes) ≡ prefix_len is_digit l.bytes
