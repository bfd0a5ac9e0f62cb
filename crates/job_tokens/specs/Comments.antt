-- The comments of a text: what stands between its tokens, besides blanks.
use Rattle.std.specs.Prelude.{ℕ, zero, suc, ◌-◌, List, [], ◌∷◌, Bool, true, false, not, ◌||◌, ◌==◌, length, take, Some, None, if◌then◌else◌}
use Rattle.job_tokens.specs.Lexing.{Read, ends_line, after_blanks, token_at}

-- a comment: whether nothing stands before it on its line, and its bytes from `#` to the end of the line
pub record Comment : Type 0 where
  pub alone : Bool
  pub text : List ℕ

-- the bytes up to the end of their first line, and the bytes from there on
abbrev pub line_at : List ℕ → List ℕ
line_at [] = []
line_at (b ∷ bs) = if ends_line b then [] else b ∷ line_at bs

abbrev pub after_line : List ℕ → List ℕ
after_line [] = []
after_line (b ∷ bs) = if ends_line b then b ∷ bs else after_line bs

-- The comments among blanks. `alone` says whether nothing stands before the bytes on their line, and `inside` whether they
-- begin in a comment, which is left out.
abbrev pub comments_in : Bool → Bool → List ℕ → List Comment
comments_in alone inside [] = []
comments_in alone true (b ∷ bs) = comments_in true (not (ends_line b)) bs
comments_in alone false (b ∷ bs) =
    if b == 35 then record { alone = alone; text = line_at (b ∷ bs) } ∷ comments_in true true bs
    else comments_in (alone || ends_line b) false bs

-- the blanks and comments that the bytes begin with
abbrev pub separator : List ℕ → List ℕ
separator bytes = take (length bytes - length (after_blanks true bytes)) bytes

abbrev pub rest_of : Read → List ℕ
rest_of None = []
rest_of (Some read) = read.1

-- the bytes after their first token
abbrev pub after_token : List ℕ → List ℕ
after_token bytes = rest_of (token_at (after_blanks true bytes))

-- the comments before each of the first tokens of the bytes, as many as given, and those after these tokens
abbrev pub comments_along : Bool → ℕ → List ℕ → List (List Comment)
comments_along alone zero bytes = comments_in alone false (separator bytes) ∷ []
comments_along alone (suc n) bytes = comments_in alone false (separator bytes) ∷ comments_along false n (after_token bytes)
