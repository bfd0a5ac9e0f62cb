use Rattle.std.proofs.Common.{◌≡◌, ◌+◌, drop}
use Rattle.std.specs.List.{prefix_len}
use Rattle.job_tree.specs.Words.{is_word_byte}
use Rattle.job_tokens.proofs.run.count_word_bytes.Given as goal

abbrev pub invariant-loop-n : goal.invariant-loop-n
invariant-loop-n l = l.n + prefix_len is_word_byte (drop l.n l.bytes) ≡ prefix_len is_word_byte l.bytes
