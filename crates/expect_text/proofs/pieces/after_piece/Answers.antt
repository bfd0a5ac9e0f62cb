use Rattle.std.proofs.Common.{◌∙◌, ap, sym}
use Rattle.expect_text.specs.Patterns.{any_suffix}
use Rattle.expect_text.proofs.PieceLemmas.{found_after, found_nowhere}
use Rattle.expect_text.proofs.pieces.after_piece.Goals as goal

pub returns-in-Some : goal.returns-in-Some
returns-in-Some c = λ test. found_after c.args.piece.now c.args.text.now c.in-Some.at c.in-Some.ensures test ∙ ap (any_suffix test) (sym c.split_at.ensures.back)

pub returns-in-None : goal.returns-in-None
returns-in-None c = found_nowhere c.args.piece.now c.args.text.now c.in-None.ensures
