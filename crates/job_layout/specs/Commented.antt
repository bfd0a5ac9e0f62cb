-- The text of tokens with comments between them.
use Rattle.std.specs.Prelude.{ℕ, ◌+◌, List, [], ◌∷◌, ◌++◌, Bool, true, false}
use Rattle.std.specs.List.{flat_map}
use Rattle.job_tokens.specs.declared.token.Mark.TheVariants as mark
use Rattle.job_tokens.specs.declared.token.Shape.{Shape}
use Rattle.job_tokens.specs.declared.token.Shape.TheVariants as shapes
use Rattle.job_tokens.specs.Canon.{token}
use Rattle.job_tokens.specs.Comments.{Comment}
use Rattle.job_layout.specs.declared.spaced.Gap.{Gap}
use Rattle.job_layout.specs.declared.spaced.Gap.TheVariants as gaps
use Rattle.job_layout.specs.declared.spaced.SpacedToken.{SpacedToken}
use Rattle.job_layout.specs.Spaced.{indent, gap_text}

-- what comes before a comment: a line of its own at a level, or a space after a token
abbrev pub lead : ℕ → Bool → List ℕ
lead level true = 10 ∷ indent level
lead level false = 32 ∷ []

-- comments of which each that is alone has a line of its own, at a level
abbrev pub comments_text : ℕ → List Comment → List ℕ
comments_text level comments = flat_map (λ c. lead level c.alone ++ c.text) comments

-- the comments before the first token, each on a line of its own
abbrev pub lines_of : List Comment → List ℕ
lines_of comments = flat_map (λ c. c.text ++ 10 ∷ []) comments

-- The level of comments before a token, where `level` is that of the step in whose line it would be: the level of the line
-- that the token begins, one more before the mark that ends a block, and one more than its step inside a step.
abbrev pub comment_level : ℕ → Gap → Shape → ℕ
comment_level level (gaps.Line next) (shapes.Mark mark.Close) = next + 1
comment_level level (gaps.Line next) shape = next
comment_level level gap shape = level + 1

-- the gap before a token after comments, which end with their line
abbrev pub gap_after : ℕ → List Comment → Gap → Gap
gap_after level [] gap = gap
gap_after level (c ∷ cs) (gaps.Line next) = gaps.Line next
gap_after level (c ∷ cs) gap = gaps.Line (level + 1)

-- the level of the step in whose line the next token is
abbrev pub level_after : ℕ → Gap → ℕ
level_after level (gaps.Line next) = next
level_after level gap = level

abbrev pub first_of : List (List Comment) → List Comment
first_of [] = []
first_of (c ∷ cs) = c

abbrev pub others_of : List (List Comment) → List (List Comment)
others_of [] = []
others_of (c ∷ cs) = cs

-- a token, with the comments and the gap before it
abbrev pub commented_token : ℕ → List Comment → SpacedToken → List ℕ
commented_token level comments t =
    (comments_text (comment_level level t.gap t.shape) comments ++ gap_text (gap_after level comments t.gap)) ++ token t.shape

-- the text of tokens with the comments before each, and those after the last
abbrev pub commented_text : ℕ → List SpacedToken → List (List Comment) → List ℕ
commented_text level [] comments = comments_text 0 (first_of comments)
commented_text level (t ∷ ts) comments =
    commented_token level (first_of comments) t ++ commented_text (level_after level t.gap) ts (others_of comments)
