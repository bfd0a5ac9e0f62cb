-- A step is its head and what follows it.
use Rattle.std.proofs.Common.{◌≡◌, List, ◌++◌, refl, ap, ◌∙◌}
use Rattle.job_tree.specs.Tree.{Step, scope}
use Rattle.job_tokens.specs.declared.token.Shape.{Shape}
use Rattle.job_syntax.specs.Pieces.{Piece, shapes_in, step_pieces}
use Rattle.job_reader.specs.Heads.{head_onto, tail_onto}
use Rattle.job_reader.specs.Printing.{Appends}

pub head_and_tail : (s : Step) (rest : List Piece) → step_pieces s rest ≡ head_onto s (tail_onto s rest)
head_and_tail (scope name deadline shield fail body) rest = refl
head_and_tail _ rest = refl

-- a step is appended by its head and what follows it
pub step_appended : (s : Step) (old now new : List Shape) → Appends (head_onto s) old now → Appends (tail_onto s) now new →
    Appends (step_pieces s) old new
step_appended s old now new head tail = λ rest.
    ap (λ (ps : List Piece). old ++ shapes_in ps) (head_and_tail s rest) ∙ head (tail_onto s rest) ∙ tail rest
