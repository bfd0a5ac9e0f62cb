use Rattle.std.proofs.Common.{◌≡◌, ◌++◌, drop}
use Rattle.svg.specs.Escaping.{escaped_text}
use Rattle.svg.proofs.pieces.text.Given as goal

abbrev pub invariant-bytes : goal.invariant-bytes
invariant-bytes l = l.out.items ++ escaped_text (drop l.byte-index l.bytes) ≡ l.fn.out.items ++ escaped_text l.bytes
