-- The texts of the grammar, and the place at which a list of tokens leaves them.
use Rattle.std.specs.Prelude.{◌≡◌, ◌⊎◌, ℕ, List, [], ◌∷◌, ◌++◌, Bool, true, false, Option, Some, None}
use Rattle.job_tree.specs.declared.deadline.Deadline.{Deadline}
use Rattle.job_tree.specs.declared.deadline.Deadline.TheVariants.{Never}
use Rattle.job_tree.specs.declared.format.Format.{Format}
use Rattle.job_tree.specs.Starting.{starts_in_pass}
use Rattle.job_tree.specs.Tree.{Steps, Handled, Cleaned, Tree}
use Rattle.job_syntax.specs.declared.keyword.Keyword.TheVariants as word
use Rattle.job_tokens.specs.declared.token.Shape.{Shape}
use Rattle.job_tokens.specs.declared.token.Token.{Token}
use Rattle.job_tokens.specs.Shapes.{shapes_of}
use Rattle.job_syntax.specs.declared.nonterminal.Nonterminal.{Nonterminal}
use Rattle.job_syntax.specs.declared.nonterminal.Nonterminal.TheVariants as nonterminal
use Rattle.job_syntax.specs.declared.role.Role.{Role}
use Rattle.job_syntax.specs.declared.role.Role.TheVariants as role
use Rattle.job_syntax.specs.Pieces.{Piece, shapes_in, name_piece, number, string, opens, ends, deadline_pieces, flag_pieces, over_pieces, passes_pieces, steps_pieces, handler_pieces, cleanup_pieces, job_onto, IsNurseryHead, AreSteps, IsHandler, IsCleanup, HasTail}
use Rattle.job_syntax.specs.Nonterminals.{Rest, next}

-- the rest of a block
abbrev pub IsBlock : Format → Bool → List Piece → List Piece → Type 0
IsBlock format inside ps rest = (steps : Steps) × AreSteps format inside steps × (ps ≡ steps_pieces steps rest)

-- what follows the block of a `try`, and the rest of the enclosing block
abbrev pub IsTail : Format → Bool → List Piece → List Piece → Type 0
IsTail format inside ps rest =
    (handler : Handled) × (cleanup : Cleaned) × (steps : Steps) × HasTail handler cleanup × IsHandler format handler
    × IsCleanup format cleanup
    × AreSteps format inside steps
    × (ps ≡ handler_pieces handler (cleanup_pieces cleanup (steps_pieces steps rest)))

-- what follows a handler, and the rest of the enclosing block
abbrev pub IsCleanupAndBlock : Format → Bool → List Piece → List Piece → Type 0
IsCleanupAndBlock format inside ps rest =
    (cleanup : Cleaned) × (steps : Steps) × IsCleanup format cleanup × AreSteps format inside steps
    × (ps ≡ cleanup_pieces cleanup (steps_pieces steps rest))

-- the passes of a `repeat` and its block, in which a `start` may stand if `inside`
abbrev pub IsPasses : Format → Bool → List Piece → List Piece → Type 0
IsPasses format inside ps rest =
    (count : ℕ) × (over : Bool) × (body : Steps) × AreSteps format (starts_in_pass over inside) body
    × (ps ≡ passes_pieces over count (opens ∷ steps_pieces body rest))

abbrev pub IsName : Role → List Piece → List Piece → Type 0
IsName role ps rest = (bytes : List ℕ) × (ps ≡ name_piece role bytes ∷ rest)

-- `ps` are the tokens of something that the nonterminal derives, followed by `rest`
abbrev pub Stands : Format → Nonterminal → List Piece → List Piece → Type 0
Stands format nonterminal.Job ps rest = (job : Tree) × (job.format ≡ format) × AreSteps format false job.steps × (ps ≡ job_onto job rest)
Stands format nonterminal.Steps ps rest = IsBlock format false ps rest
Stands format nonterminal.Items ps rest = IsBlock format true ps rest
Stands format nonterminal.StepsTail ps rest = IsTail format false ps rest
Stands format nonterminal.ItemsTail ps rest = IsTail format true ps rest
Stands format nonterminal.StepsCleanup ps rest = IsCleanupAndBlock format false ps rest
Stands format nonterminal.ItemsCleanup ps rest = IsCleanupAndBlock format true ps rest
Stands format nonterminal.Scope ps rest =
    (deadline : Deadline) × (shield : Bool) × (fail : Bool) × (body : Steps) × AreSteps format false body
    × (ps ≡ deadline_pieces deadline (flag_pieces word.Shield shield (flag_pieces word.Fail fail (opens ∷ steps_pieces body rest))))
Stands format nonterminal.Shield ps rest =
    (shield : Bool) × (fail : Bool) × (body : Steps) × AreSteps format false body
    × (ps ≡ flag_pieces word.Shield shield (flag_pieces word.Fail fail (opens ∷ steps_pieces body rest)))
Stands format nonterminal.Fail ps rest = (fail : Bool) × (body : Steps) × AreSteps format false body
    × (ps ≡ flag_pieces word.Fail fail (opens ∷ steps_pieces body rest))
Stands format nonterminal.Nursery ps rest =
    (deadline : Deadline) × (shield : Bool) × (body : Steps) × IsNurseryHead format deadline shield × AreSteps format true body
    × (ps ≡ deadline_pieces deadline (flag_pieces word.Shield shield (opens ∷ steps_pieces body rest)))
Stands format nonterminal.NurseryShield ps rest =
    (shield : Bool) × (body : Steps) × IsNurseryHead format Never shield × AreSteps format true body
    × (ps ≡ flag_pieces word.Shield shield (opens ∷ steps_pieces body rest))
Stands format nonterminal.Over ps rest = (over : Option ℕ) × (body : Steps) × AreSteps format false body
    × (ps ≡ over_pieces over (opens ∷ steps_pieces body rest))
Stands format nonterminal.Passes ps rest = IsPasses format false ps rest
Stands format nonterminal.ItemsPasses ps rest = IsPasses format true ps rest
Stands format nonterminal.Given ps rest = IsName role.Given ps rest
Stands format nonterminal.Raised ps rest = IsName role.Raised ps rest
Stands format nonterminal.Handled ps rest = IsName role.Handled ps rest
Stands format nonterminal.Target ps rest = IsName role.Target ps rest
Stands format nonterminal.Number ps rest = (n : ℕ) × (ps ≡ number n ∷ rest)
Stands format nonterminal.Text ps rest = (bytes : List ℕ) × (ps ≡ string bytes ∷ rest)
Stands format nonterminal.Open ps rest = ps ≡ opens ∷ rest
Stands format nonterminal.Semicolon ps rest = ps ≡ ends ∷ rest

-- the tokens of something that each nonterminal derives, in turn
abbrev pub Fits : Format → List Nonterminal → List Piece → Type 0
Fits format [] ps = ps ≡ []
Fits format (s ∷ ss) ps = (rest : List Piece) × Stands format s ps rest × Fits format ss rest

-- exactly these tokens
abbrev pub IsText : Format → List Nonterminal → List Shape → Type 0
IsText format ss shapes = (ps : List Piece) × Fits format ss ps × (shapes_in ps ≡ shapes)

-- some text begins with these tokens
abbrev pub Begins : Format → List Nonterminal → List Shape → Type 0
Begins format ss shapes = (rest : List Shape) × IsText format ss (shapes ++ rest)

-- the first token that no text continues with
pub record StopsAt (format : Format) (ss : List Nonterminal) (tokens : List Token) (at : ℕ) : Type 0 where
  pub front : List Token
  pub stop : Token
  pub rest : List Token
  pub whole : tokens ≡ front ++ stop ∷ rest
  pub begins : Begins format ss (shapes_of front)
  pub no_further : Begins format ss (shapes_of (front ++ stop ∷ [])) → ⊥
  pub place : at ≡ stop.at

-- a text begins with these tokens, and does not end with them
pub record EndsEarly (format : Format) (ss : List Nonterminal) (tokens : List Token) : Type 0 where
  pub begins : Begins format ss (shapes_of tokens)
  pub not_whole : IsText format ss (shapes_of tokens) → ⊥

-- the place at which the tokens of a text that ends at `end` leave the grammar
abbrev pub LeavesAt : Format → ℕ → List Nonterminal → List Token → ℕ → Type 0
LeavesAt format end ss tokens at = StopsAt format ss tokens at ⊎ (EndsEarly format ss tokens × (at ≡ end))

-- the nonterminals of a whole job
abbrev pub whole_job : List Nonterminal
whole_job = nonterminal.Job ∷ []

-- ---- where tokens leave the grammar, computed token by token

abbrev pub or_stop : Rest → ℕ → (List Nonterminal → Option ℕ) → Option ℕ
or_stop None at others = Some at
or_stop (Some more) at others = others more

-- the place at which tokens leave the grammar, or `None`
abbrev pub fault_at : Format → ℕ → List Nonterminal → List Token → Option ℕ
fault_at format end [] [] = None
fault_at format end [] (t ∷ ts) = Some t.at
fault_at format end (s ∷ ss) [] = Some end
fault_at format end (s ∷ ss) (t ∷ ts) = or_stop (next format s t.shape) t.at (λ more. fault_at format end (more ++ ss) ts)

-- the role of a token that is read for a nonterminal
abbrev pub role_of : Nonterminal → Role
role_of nonterminal.Given = role.Given
role_of nonterminal.Raised = role.Raised
role_of nonterminal.Handled = role.Handled
role_of nonterminal.Target = role.Target
role_of _ = role.Plain

-- continues after a token that can be read for a nonterminal
abbrev pub or_nothing : {A : Type 0} → Rest → (List Nonterminal → List A) → List A
or_nothing None others = []
or_nothing (Some more) others = others more

-- the role of each token of a text
abbrev pub roles_at : Format → List Nonterminal → List Token → List Role
roles_at format ss [] = []
roles_at format [] (t ∷ ts) = []
roles_at format (s ∷ ss) (t ∷ ts) = role_of s ∷ or_nothing (next format s t.shape) (λ more. roles_at format (more ++ ss) ts)
