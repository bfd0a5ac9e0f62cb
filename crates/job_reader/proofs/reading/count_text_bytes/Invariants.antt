use Rattle.std.proofs.Common.{◌≡◌, ◌+◌, drop}
use Rattle.std.specs.List.{prefix_len}
use Rattle.job_reader.specs.Refusals.{is_text_byte}
use Rattle.job_reader.proofs.reading.count_text_bytes.Given as goal

abbrev pub invariant-loop-n : goal.invariant-loop-n
invariant-loop-n l = l.n + prefix_len (is_text_byte l.format) (drop l.n l.text) ≡ prefix_len (is_text_byte l.format) l.text
