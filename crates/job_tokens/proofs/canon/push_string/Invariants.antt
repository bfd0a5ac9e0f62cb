use Rattle.std.proofs.Common.{◌≡◌, ◌++◌, ◌∷◌, take}
use Rattle.std.specs.List.{flat_map}
use Rattle.job_tokens.specs.Canon.{unit}
use Rattle.job_tokens.proofs.canon.push_string.Given as goal

abbrev pub invariant-loop-byte : goal.invariant-loop-byte
invariant-loop-byte l = l.out.items ≡ l.fn.out.items ++ 34 ∷ flat_map unit (take l.byte-index l.text)
