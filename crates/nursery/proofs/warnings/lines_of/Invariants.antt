use Rattle.std.proofs.Common.{◌≡◌, take}
use Rattle.std.specs.String.{string_bytes}
use Rattle.refusal_text.specs.Positions.{IsPosition}
use Rattle.nursery.specs.Warned.{warnings_text}
use Rattle.nursery.proofs.warnings.lines_of.Given as goal

abbrev pub invariant-warnings : goal.invariant-warnings
invariant-warnings l = (string_bytes l.lines ≡ warnings_text l.name l.text (take l.warning-index l.warnings)) × IsPosition l.text l.position
