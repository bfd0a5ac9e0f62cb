-- How the writer appends the tokens of a job.
use Rattle.std.specs.Prelude.{◌≡◌, List, ◌++◌}
use Rattle.job_tokens.specs.declared.token.Shape.{Shape}
use Rattle.job_syntax.specs.Pieces.{Piece, shapes_in}

-- the tokens of something are appended, whatever tokens follow
abbrev pub Appends : (List Piece → List Piece) → List Shape → List Shape → Type 0
Appends print old new = (rest : List Piece) → old ++ shapes_in (print rest) ≡ new ++ shapes_in rest
