-- Tokens with what comes between them, and the columns that they take.
use Rattle.std.specs.Prelude.{ℕ, zero, suc, ◌+◌, ◌*◌, List, [], ◌∷◌, length, map}
use Rattle.job_tokens.specs.declared.token.Mark.{Mark}
use Rattle.job_tokens.specs.declared.token.Shape.{Shape}
use Rattle.job_tokens.specs.declared.token.Shape.TheVariants as shapes
use Rattle.job_tokens.specs.Canon.{token}
use Rattle.job_layout.specs.declared.spaced.Gap.{Gap}
use Rattle.job_layout.specs.declared.spaced.Gap.TheVariants as gaps
use Rattle.job_layout.specs.declared.spaced.SpacedToken.{SpacedToken}

-- two spaces for each level
abbrev pub indent : ℕ → List ℕ
indent zero = []
indent (suc level) = 32 ∷ 32 ∷ indent level

abbrev pub gap_text : Gap → List ℕ
gap_text gaps.Joined = []
gap_text gaps.Space = 32 ∷ []
gap_text (gaps.Line level) = 10 ∷ indent level

-- the column at which a token begins, if the token before it ends at this column
abbrev pub start_column : ℕ → Gap → ℕ
start_column column gaps.Joined = column
start_column column gaps.Space = column + 1
start_column column (gaps.Line level) = 2 * level

-- the column at which tokens end, if the token before them ends at this column
abbrev pub column_after : ℕ → List SpacedToken → ℕ
column_after column [] = column
column_after column (t ∷ ts) = column_after (start_column column t.gap + length (token t.shape)) ts

-- ---- tokens with the same gap

abbrev pub with_gap : Gap → Shape → SpacedToken
with_gap gap shape = record { gap = gap; shape = shape }

abbrev pub mark_after : Gap → Mark → SpacedToken
mark_after gap mark = with_gap gap (shapes.Mark mark)

-- a space before each
abbrev pub spaced_tokens : List Shape → List SpacedToken
spaced_tokens ss = map (with_gap gaps.Space) ss

-- the given gap before the first, and a space before each other token
abbrev pub after_gap : Gap → List Shape → List SpacedToken
after_gap gap [] = []
after_gap gap (s ∷ ss) = with_gap gap s ∷ spaced_tokens ss
