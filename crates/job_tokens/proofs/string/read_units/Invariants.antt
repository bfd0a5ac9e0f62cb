use Rattle.std.proofs.Common.{◌≡◌, ◌-◌, ◌≤◌, length, take}
use Rattle.job_tokens.specs.Lexing.{units}
use Rattle.job_tokens.proofs.Units.{with_front}
use Rattle.job_tokens.proofs.string.read_units.Given as goal

abbrev pub invariant-loop-len : goal.invariant-loop-len
invariant-loop-len l = record {
  room : length l.room ≡ 64;
  within : length l.rest ≤ length l.bytes;
  so_far : with_front (take l.len l.room) (units (64 - l.len) l.rest) ≡ units 64 l.bytes;
}
