-- The layout of a job text: one step on each line, two spaces for each level. A block that is empty or holds a single step
-- without a block is on one line with what it belongs to, if there is no comment in it and that line ends at column 80 or
-- before. `bare` says for each token whether there is no comment before it.
use Rattle.std.specs.Prelude.{ℕ, ◌+◌, ◌-◌, Bool, true, false, ◌&&◌, ◌==◌, nat_le, List, [], ◌∷◌, ◌++◌, length, map, take, drop, Option, Some, None, if◌then◌else◌}
use Rattle.std.specs.List.{list_all}
use Rattle.job_tree.specs.Tree.{Step, ask_for, scope, nursery, event, object, start, repeat, attempt, Steps, stop, step, Handled, unhandled, except, Cleaned, uncleaned, finally, Tree}
use Rattle.job_tokens.specs.declared.token.Mark.TheVariants as mark
use Rattle.job_tokens.specs.declared.token.Shape.{Shape}
use Rattle.job_tokens.specs.Lexing.{has_comments}
use Rattle.job_tokens.specs.Comments.{Comment, comments_along}
use Rattle.job_syntax.specs.declared.keyword.Keyword.TheVariants as word
use Rattle.job_syntax.specs.declared.role.Role.TheVariants as role
use Rattle.job_syntax.specs.Pieces.{shapes_in, block_or_end, keyword, name_piece, job_pieces}
use Rattle.job_reader.specs.Refusals.{first_line}
use Rattle.job_layout.specs.Heads.{head_of, is_plain}
use Rattle.job_layout.specs.declared.spaced.Gap.TheVariants as gaps
use Rattle.job_layout.specs.declared.spaced.SpacedToken.{SpacedToken}
use Rattle.job_layout.specs.declared.layout.TheConstants.{MAX_COLUMNS}
use Rattle.job_layout.specs.Commented.{first_of, others_of, lines_of, commented_text}
use Rattle.job_layout.specs.Spaced.{column_after, mark_after, spaced_tokens, after_gap}

-- ---- blocks on one line

abbrev pub open_mark : SpacedToken
open_mark = mark_after gaps.Space mark.Open

abbrev pub semicolon_mark : SpacedToken
semicolon_mark = mark_after gaps.Joined mark.Semicolon

abbrev pub plain_block : Bool → List Shape → Option (List SpacedToken)
plain_block false head = None
plain_block true head = Some (open_mark ∷ (spaced_tokens head ++ semicolon_mark ∷ mark_after gaps.Space mark.Close ∷ []))

-- the tokens of a block on one line, if it may be on one line: `{}`, or `{ step; }`
abbrev pub one_line : Steps → Option (List SpacedToken)
one_line stop = Some (open_mark ∷ mark_after gaps.Joined mark.Close ∷ [])
one_line (step s stop) = plain_block (is_plain s) (head_of s)
one_line (step s (step t ss)) = None

-- ---- a job

-- whether the tokens, after the ones before them, end at column 80 or before
abbrev pub fits : List SpacedToken → List SpacedToken → Bool
fits before ts = nat_le (column_after (column_after 0 before) ts) MAX_COLUMNS

-- whether there is no comment between tokens that come after the ones before them
abbrev pub is_bare : List Bool → List SpacedToken → List SpacedToken → Bool
is_bare bare before ts = list_all (λ b. b) (take (length ts - 1) (drop (length before + 1) bare))

-- a line, if it fits
abbrev pub fitting_line : List Bool → List SpacedToken → Option (List SpacedToken) → Option (List SpacedToken)
fitting_line bare before None = None
fitting_line bare before (Some line) = if fits before line && is_bare bare before line then Some line else None

-- the line, or otherwise the steps on lines of their own
abbrev pub line_or : ℕ → Option (List SpacedToken) → (List SpacedToken → List SpacedToken) → List SpacedToken → List SpacedToken
line_or level (Some line) steps before = before ++ line
line_or level None steps before = steps (before ++ open_mark ∷ []) ++ mark_after (gaps.Line level) mark.Close ∷ []

-- a block of a step at a level, after the tokens before it
abbrev pub with_block : List Bool → ℕ → Steps → (List SpacedToken → List SpacedToken) → List SpacedToken → List SpacedToken
with_block bare level body steps before = line_or level (fitting_line bare before (one_line body)) steps before

-- the line that a step begins
abbrev pub step_line : ℕ → Step → List SpacedToken
step_line level s = after_gap (gaps.Line level) (head_of s)

abbrev mutual
  -- the steps of a block at a level, after the tokens before them
  pub with_steps : List Bool → ℕ → Steps → List SpacedToken → List SpacedToken
  with_steps bare level stop before = before
  with_steps bare level (step s ss) before = with_steps bare level ss (with_rest bare level s (before ++ step_line level s))

  -- what follows the head of a step: its semicolon or its blocks
  pub with_rest : List Bool → ℕ → Step → List SpacedToken → List SpacedToken
  with_rest bare level (scope name deadline shield fail body) before = with_block bare level body (with_steps bare (level + 1) body) before
  with_rest bare level (nursery name deadline shield body) before = with_block bare level body (with_steps bare (level + 1) body) before
  with_rest bare level (event name body) before = with_block bare level body (with_steps bare (level + 1) body) before
  with_rest bare level (object name kind body) before = with_block bare level body (with_steps bare (level + 1) body) before
  with_rest bare level (ask_for name ask body) before =
      block_or_end ask (with_block bare level body (with_steps bare (level + 1) body) before) (before ++ semicolon_mark ∷ [])
  with_rest bare level (start name over body) before = with_block bare level body (with_steps bare (level + 1) body) before
  with_rest bare level (repeat count over body) before = with_block bare level body (with_steps bare (level + 1) body) before
  with_rest bare level (attempt body handler cleanup) before =
      with_cleanup bare level cleanup (with_handler bare level handler (with_block bare level body (with_steps bare (level + 1) body) before))
  with_rest bare level _ before = before ++ semicolon_mark ∷ []

  pub with_handler : List Bool → ℕ → Handled → List SpacedToken → List SpacedToken
  with_handler bare level unhandled before = before
  with_handler bare level (except name body) before = with_block bare level body (with_steps bare (level + 1) body)
      (before ++ after_gap gaps.Space (shapes_in (keyword word.Except ∷ name_piece role.Handled name ∷ [])))

  pub with_cleanup : List Bool → ℕ → Cleaned → List SpacedToken → List SpacedToken
  with_cleanup bare level uncleaned before = before
  with_cleanup bare level (finally body) before = with_block bare level body (with_steps bare (level + 1) body)
      (before ++ after_gap gaps.Space (shapes_in (keyword word.Finally ∷ [])))

-- one step at a level, after the tokens before it
abbrev pub with_step : List Bool → ℕ → Step → List SpacedToken → List SpacedToken
with_step bare level s before = with_rest bare level s (before ++ step_line level s)

-- the tokens of a job, without its first line
abbrev pub job_tokens : List Bool → Tree → List SpacedToken
job_tokens bare job = with_block bare 0 job.steps (with_steps bare 1 job.steps)
    (after_gap gaps.Joined (shapes_in (keyword word.Job ∷ name_piece role.Given job.name ∷ [])))

-- ---- comments

-- the comments before each token of a job in a text that spells it, and those after the last
abbrev pub comments_of : List ℕ → Tree → List (List Comment)
comments_of text job = comments_along true (length (shapes_in (job_pieces job))) (if has_comments job.format then drop 11 text else [])

-- for each token, whether there is no comment before it
abbrev pub bare_of : List (List Comment) → List Bool
bare_of comments = map (λ before. length before == 0) comments

-- the formatted text of a job with these comments before its tokens, and after the last
abbrev pub text_with : List (List Comment) → Tree → List ℕ
text_with comments job = first_line job.format ++ (lines_of (first_of comments)
    ++ (commented_text 0 (job_tokens (bare_of comments) job) ([] ∷ others_of comments) ++ 10 ∷ []))

-- the formatted text of a job as some text spells it
abbrev pub formatted_text : List ℕ → Tree → List ℕ
formatted_text text job = text_with (comments_of text job) job
