use Rattle.std.proofs.Common.{◌≡◌, length}
use Rattle.expect_text.specs.Patterns.{any_suffix, matches}
use Rattle.expect_text.proofs.pieces.suffix_matches.Given as goal

abbrev pub invariant-pieces : goal.invariant-pieces
invariant-pieces l = any_suffix (matches l.pieces) l.left ≡ any_suffix (matches l.pattern) l.text

abbrev pub decreases-pieces : goal.decreases-pieces
decreases-pieces l = length l.pieces
