-- The opening keywords of a job, which begin a step, a handler or a cleanup. They are numbered from 0, in the order of the text.
use Rattle.std.specs.Prelude.{ℕ, ◌+◌, Bool, true, false, List, [], ◌∷◌, Option, Some, None, is_some, slice_index}
use Rattle.job_tree.specs.Tree.{Step, sleep, checkpoint, forever, pace, find, head, longest, need, raise, cancel, set_event, wait_for, ask_for, close_channel, scope, nursery, event, object, start, repeat, attempt, Steps, stop, step, Handled, unhandled, except, Cleaned, uncleaned, finally}
use Rattle.job_tokens.specs.declared.token.Shape.{Shape}
use Rattle.job_tokens.specs.declared.token.Token.{Token}
use Rattle.job_tokens.specs.Shapes.{word_in, mark_in}
use Rattle.job_syntax.specs.declared.keyword.Keyword.{Keyword}
use Rattle.job_syntax.specs.declared.keyword.Keyword.TheVariants as keyword
use Rattle.job_syntax.specs.Keywords.{keyword_of}

-- ---- in the text

abbrev pub is_opening : Keyword → Bool
is_opening keyword.Job = false
is_opening keyword.After = false
is_opening keyword.At = false
is_opening keyword.Shield = false
is_opening keyword.Fail = false
is_opening keyword.Over = false
is_opening _ = true

abbrev pub opens_as : Option Keyword → Bool
opens_as None = false
opens_as (Some k) = is_opening k

abbrev pub opens_by : Option (List ℕ) → Bool
opens_by None = false
opens_by (Some word) = opens_as (keyword_of word)

-- A step, a handler or a cleanup begins directly after a `{`, `}` or `;`, and no name stands there. So a name that is spelled as a
-- keyword, as `event` and the others of format 3 may be, does not open anything.
abbrev pub opens_after : Shape → Bool
opens_after shape = is_some (mark_in shape)

-- whether a token is an opening keyword, given whether one may stand there
abbrev pub begins : Bool → Shape → Bool
begins false shape = false
begins true shape = opens_by (word_in shape)

abbrev pub with_place : Bool → ℕ → List ℕ → List ℕ
with_place false at places = places
with_place true at places = at ∷ places

-- the places of the opening keywords from a token on, given whether one may stand there
abbrev pub places_from : (opens : Bool) → List Token → List ℕ
places_from opens [] = []
places_from opens (t ∷ ts) = with_place (begins opens t.shape) t.at (places_from (opens_after t.shape) ts)

-- the places of the opening keywords of a text, which begins with the keyword `job`
abbrev pub opening_places : List Token → List ℕ
opening_places ts = places_from false ts

-- the place of the keyword with this number
abbrev pub numbered_in : List ℕ → ℕ → ℕ
numbered_in places number = slice_index places number

-- ---- in the tree

abbrev mutual
  -- how many opening keywords a block has: one for each step, and those inside it
  pub openings_of : Steps → ℕ
  openings_of stop = 0
  openings_of (step s ss) = 1 + openings_in s + openings_of ss

  -- how many opening keywords a step has after its own
  pub openings_in : Step → ℕ
  openings_in (sleep n) = 0
  openings_in checkpoint = 0
  openings_in forever = 0
  openings_in (pace k) = 0
  openings_in (find text) = 0
  openings_in (head n) = 0
  openings_in longest = 0
  openings_in (need text name) = 0
  openings_in (raise name) = 0
  openings_in (cancel name) = 0
  openings_in (set_event name) = 0
  openings_in (wait_for name) = 0
  openings_in (ask_for name ask body) = openings_of body
  openings_in (close_channel name) = 0
  openings_in (scope name deadline shield fail body) = openings_of body
  openings_in (nursery name deadline shield body) = openings_of body
  openings_in (event name body) = openings_of body
  openings_in (object name kind body) = openings_of body
  openings_in (start name over body) = openings_of body
  openings_in (repeat count over body) = openings_of body
  openings_in (attempt body handler cleanup) = openings_of body + handled_openings handler + cleaned_openings cleanup

  pub handled_openings : Handled → ℕ
  handled_openings unhandled = 0
  handled_openings (except name body) = 1 + openings_of body

  pub cleaned_openings : Cleaned → ℕ
  cleaned_openings uncleaned = 0
  cleaned_openings (finally body) = 1 + openings_of body
