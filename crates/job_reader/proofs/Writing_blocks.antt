-- Tokens that are appended one after the other.
use Rattle.std.proofs.Common.{◌≡◌, ℕ, ◌≤◌, List, [], ◌∷◌, ◌++◌, length, drop, refl, sym, ap, ◌∙◌, append_assoc}
use Rattle.std.proofs.lemmas.List.{drop_all}
use Rattle.job_tree.specs.declared.step.Step.{Step}
use Rattle.job_tree.specs.Tree.{stop}
use Rattle.job_tree.specs.Blocks.{steps_of}
use Rattle.job_tokens.specs.declared.token.Shape.{Shape}
use Rattle.job_tokens.specs.declared.token.Shape.TheVariants as shape
use Rattle.job_tokens.specs.declared.token.Mark.TheVariants as mark
use Rattle.job_syntax.specs.Pieces.{Piece, shapes_in, steps_pieces}
use Rattle.job_reader.specs.Printing.{Appends}

abbrev Print : Type 0
Print = List Piece → List Piece

-- a list of tokens after those that are already there
pub pushed : (print : Print) (old new more : List Shape) → new ≡ old ++ more →
    ((rest : List Piece) → shapes_in (print rest) ≡ more ++ shapes_in rest) → Appends print old new
pushed print old new more is prints =
    λ rest. ap (λ (x : List Shape). old ++ x) (prints rest) ∙ sym (append_assoc old more (shapes_in rest))
    ∙ ap (λ (x : List Shape). x ++ shapes_in rest) (sym is)

-- what was appended, and what is left to append
abbrev pub Left : Print → List Shape → Print → List Shape → Type 0
Left whole old left now = (rest : List Piece) → old ++ shapes_in (whole rest) ≡ now ++ shapes_in (left rest)

abbrev pub left_from : List Step → ℕ → Print
left_from steps i = steps_pieces (steps_of (drop i steps))

-- the mark after the last step
pub closed : (whole : Print) (old now new : List Shape) (steps : List Step) (i : ℕ) → length steps ≤ i →
    Left whole old (left_from steps i) now → new ≡ now ++ shape.Mark mark.Close ∷ [] → Appends whole old new
closed whole old now new steps i le so_far is = λ rest.
    so_far rest ∙ ap (λ (ss : List Step). now ++ shapes_in (steps_pieces (steps_of ss) rest)) (drop_all i steps le)
    ∙ pushed (steps_pieces stop) now new (shape.Mark mark.Close ∷ []) is (λ others. refl) rest
