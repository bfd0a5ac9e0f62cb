-- The role of each token of a job, found token by token.
use Rattle.std.proofs.Common.{◌≡◌, false, List, [], ◌∷◌, ◌++◌, Some, None, refl, sym, ap, subst, ◌∙◌}
use Rattle.job_tree.specs.declared.format.Format.{Format}
use Rattle.job_tree.specs.Tree.{Tree}
use Rattle.job_tokens.specs.declared.token.Shape.{Shape}
use Rattle.job_tokens.specs.declared.token.Token.{Token}
use Rattle.job_tokens.specs.Shapes.{shapes_of}
use Rattle.job_syntax.specs.declared.nonterminal.Nonterminal.{Nonterminal}
use Rattle.job_syntax.specs.Nonterminals.{Rest, next}
use Rattle.job_syntax.specs.Pieces.{Piece, shapes_in, roles_in, job_onto, job_pieces, AreSteps}
use Rattle.job_syntax.specs.Syntax.{Fits, IsText, role_of, roles_at, or_nothing, whole_job}
use Rattle.job_syntax.proofs.Grammar.{Left, goes}

-- the roles found along tokens that fit are those of their pieces
pub roles_at-in : (format : Format) (ss : List Nonterminal) (tokens : List Token) (ps : List Piece) → Fits format ss ps →
    shapes_of tokens ≡ shapes_in ps →
    roles_at format ss tokens ≡ roles_in ps
roles_at-in format ss [] [] fits e = refl
roles_at-in format ss [] (p ∷ ps) fits e = absurd cc
roles_at-in format ss (t ∷ ts) [] fits e = absurd cc
roles_at-in format [] (t ∷ ts) (p ∷ ps) fits e = absurd cc
roles_at-in format (s ∷ ss) (t ∷ ts) (p ∷ ps) fits e =
    by_rest (λ more. roles_at-in format (more ++ ss) ts ps) (next format s t.shape)
    (subst (λ (x : Shape). Left format (next format s x) ss ps) (sym head) left.0)
  where
    left : Left format (next format s p.shape) ss ps × (p.role ≡ role_of s)
    left = goes format s ss (p ∷ ps) fits

    head : t.shape ≡ p.shape
    head = cc

    tail : shapes_of ts ≡ shapes_in ps
    tail = cc

    by_rest : ((more : List Nonterminal) → Fits format (more ++ ss) ps → shapes_of ts ≡ shapes_in ps →
        roles_at format (more ++ ss) ts ≡ roles_in ps) →
        (r : Rest) → Left format r ss ps → role_of s ∷ or_nothing r (λ more. roles_at format (more ++ ss) ts) ≡ p.role ∷ roles_in ps
    by_rest others None fit = absurd fit
    by_rest others (Some more) fit = let same = others more fit tail in λ i. sym left.1 i ∷ same i

-- the tokens of a job fit
pub job_fits : (job : Tree) → AreSteps job.format false job.steps → Fits job.format whole_job (job_pieces job)
job_fits job are = ([], (job, refl, are, refl), refl)

-- the roles found along the tokens of a job are those of its pieces
pub roles_of_job : (job : Tree) (tokens : List Token) → AreSteps job.format false job.steps →
    shapes_of tokens ≡ shapes_in (job_pieces job) → roles_at job.format whole_job tokens ≡ roles_in (job_pieces job)
roles_of_job job tokens are e = roles_at-in job.format whole_job tokens (job_pieces job) (job_fits job are) e

-- tokens that fit a whole job of a format are the tokens of a job
pub job_of_text : (format : Format) (shapes : List Shape) → IsText format whole_job shapes →
    (job : Tree) × (job.format ≡ format) × AreSteps format false job.steps × (shapes ≡ shapes_in (job_pieces job))
job_of_text format shapes (ps, (rest, (job, same_format, are, e), none), same) =
    let all : ps ≡ job_pieces job = e ∙ ap (job_onto job) none in
    (job, same_format, are, sym same ∙ ap shapes_in all)

-- the tokens of a job are a text of its format
pub text_of_job : (shapes : List Shape) (job : Tree) → AreSteps job.format false job.steps → shapes ≡ shapes_in (job_pieces job) →
    IsText job.format whole_job shapes
text_of_job shapes job are same = (job_pieces job, job_fits job are, sym same)
