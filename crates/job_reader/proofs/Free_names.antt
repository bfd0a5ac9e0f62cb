-- No name that a job gives is a keyword that may not be a name, if no name of its tokens is reserved.
use Rattle.std.proofs.Common.{◌≡◌, Bool, true, false, ◌||◌, not, cond, List, [], ◌∷◌, Some, None, refl, subst}
use Rattle.std.specs.Prelude.{codes}
use Rattle.std.specs.Str.{bytes_eq}
use Rattle.job_tree.specs.Tree.{Tree}
use Rattle.job_tree.specs.Names.{names_of}
use Rattle.job_tokens.specs.declared.token.Shape.{Shape}
use Rattle.job_tokens.specs.declared.token.Shape.TheVariants as shape
use Rattle.job_tokens.specs.declared.token.Token.{Token}
use Rattle.job_tokens.specs.Shapes.{shapes_of}
use Rattle.job_syntax.specs.declared.role.Role.{Role}
use Rattle.job_syntax.specs.declared.role.Role.TheVariants as role
use Rattle.job_syntax.specs.Keywords.{is_kept, keyword_of}
use Rattle.job_syntax.specs.Pieces.{Piece, shapes_in, roles_in, job_pieces, AreSteps}
use Rattle.job_syntax.proofs.InRange.{AreFree}
use Rattle.job_reader.specs.Given.{given_by}
use Rattle.job_reader.specs.Reserved.{allows, is_cancelled, reserved_in}
use Rattle.job_reader.proofs.Distinct_names.{Names, with_name, given_in, job_gives}

neither : (a b c : Bool) → not ((a || b) || c) ≡ true → a ≡ false
neither false b c e = refl
neither true b c e = absurd cc

-- the name that a token gives, if it is not reserved, and others
given_free : (r : Role) (s : Shape) (names : Names) → allows r s ≡ true → AreFree names → AreFree (with_name (given_by r s) names)
given_free role.Plain s names allowed free = free
given_free role.Raised s names allowed free = free
given_free role.Handled s names allowed free = free
given_free role.Target s names allowed free = free
given_free role.Given (shape.Word w) names allowed free =
    (neither (is_kept (keyword_of w)) (is_cancelled w) (bytes_eq w (codes "TooSlow")) allowed, free)
given_free role.Given (shape.Number n) names allowed free = free
given_free role.Given (shape.Text t) names allowed free = free
given_free role.Given (shape.Mark m) names allowed free = free

-- if the search finds no reserved name, the names that the tokens give are free
all_free : (ts : List Token) (ps : List Piece) → shapes_of ts ≡ shapes_in ps → reserved_in ts (roles_in ps) ≡ None → AreFree (given_in ps)
all_free [] [] e none = tt
all_free [] (p ∷ ps) e none = absurd cc
all_free (t ∷ ts) [] e none = absurd cc
all_free (t ∷ ts) (p ∷ ps) e none = by_test (allows p.role t.shape) refl none (all_free ts ps tail)
  where
    head : t.shape ≡ p.shape
    head = cc

    tail : shapes_of ts ≡ shapes_in ps
    tail = cc

    by_test : (b : Bool) → allows p.role t.shape ≡ b → cond b (reserved_in ts (roles_in ps)) (Some t.at) ≡ None
        → (reserved_in ts (roles_in ps) ≡ None → AreFree (given_in ps)) → AreFree (given_in (p ∷ ps))
    by_test true allowed none' others =
        given_free p.role p.shape (given_in ps) (subst (λ (s : Shape). allows p.role s ≡ true) head allowed) (others none')
    by_test false allowed none' others = absurd cc

-- so are the names of a job whose tokens these are
pub names_free : (job : Tree) (tokens : List Token) → AreSteps job.format false job.steps → shapes_of tokens ≡ shapes_in (job_pieces job)
    → reserved_in tokens (roles_in (job_pieces job)) ≡ None → AreFree (names_of job.steps)
names_free job tokens are e none =
    let all : AreFree (job.name ∷ names_of job.steps) = subst AreFree (job_gives job are) (all_free tokens (job_pieces job) e none) in
    all.1
