use Rattle.std.proofs.Common.{◌∙◌, sym}
use Rattle.expect_text.specs.Patterns.{matches}
use Rattle.expect_text.proofs.PieceLemmas.{last_piece, piece_found}
use Rattle.expect_text.proofs.pieces.suffix_matches.Goals as goal

pub returns-in_default-after_piece : goal.returns-in_default-after_piece
returns-in_default-after_piece c =
    sym (sym c.pieces.invariant
    ∙ piece_found c.pieces.pieces.now c.in-Some.piece.now c.in-Some.rest.now c.pieces.left.now c.in-Some.ensures.bytes.0 c.in-Some.ensures.bytes.1
    ∙ c.in_default-after_piece.ensures (matches c.in-Some.rest.now))

pub pieces-preserved : goal.pieces-preserved
pieces-preserved c =
    sym (sym c.pieces.invariant
    ∙ piece_found c.pieces.pieces.now c.in-Some.piece.now c.in-Some.rest.now c.pieces.left.now c.in-Some.ensures.bytes.0 c.in-Some.ensures.bytes.1
    ∙ c.in-Some-after_piece.ensures (matches c.in-Some.rest.now))

pub returns : goal.returns
returns c = c.ends_with.ensures.value ∙ sym (last_piece c.pieces.pieces.now c.pieces.left.now c.in_default.ensures.bytes) ∙ c.pieces.invariant
