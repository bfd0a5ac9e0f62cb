use Rattle.std.proofs.Common.{◌≡◌, ◌++◌, take}
use Rattle.std.specs.Prelude.{map}
use Rattle.std.specs.String.{string_bytes}
use Rattle.refusal_text.specs.Explaining.{shown_byte}
use Rattle.refusal_text.proofs.explaining.push_shown.Given as goal

abbrev pub invariant-bytes : goal.invariant-bytes
invariant-bytes l = string_bytes l.message ≡ string_bytes l.fn.message ++ map shown_byte (take l.b-index l.bytes)
