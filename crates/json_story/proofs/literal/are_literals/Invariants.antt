use Rattle.std.proofs.Common.{◌≡◌, take}
use Rattle.json.specs.Print.{escape}
use Rattle.json_story.proofs.literal.are_literals.Given as goal

abbrev pub invariant-bytes : goal.invariant-bytes
invariant-bytes l = escape (take l.b-index l.bytes) ≡ take l.b-index l.bytes
