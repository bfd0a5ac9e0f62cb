use Rattle.std.proofs.Common.{◌≡◌, length}
use Rattle.expect_text.specs.Expectations.{from_word}
use Rattle.expect_text.proofs.words.from_word.Given as goal

abbrev pub invariant-blanks : goal.invariant-blanks
invariant-blanks l = from_word l.left ≡ from_word l.text

abbrev pub decreases-blanks : goal.decreases-blanks
decreases-blanks l = length l.left
