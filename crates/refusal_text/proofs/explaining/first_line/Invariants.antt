use Rattle.std.proofs.Common.{◌≡◌, ◌+◌, drop}
use Rattle.std.specs.List.{position_or_len}
use Rattle.refusal_text.specs.Explaining.{is_newline}
use Rattle.refusal_text.proofs.explaining.first_line.Given as goal

abbrev pub invariant-bytes : goal.invariant-bytes
invariant-bytes l = position_or_len is_newline l.bytes ≡ l.i + position_or_len is_newline (drop l.i l.bytes)
