-- The opening keywords of a job, found along its tokens: since a name stands after no mark, they are those of its tree.
use Rattle.std.proofs.Common.{◌≡◌, ℕ, Bool, true, false, cond, List, [], ◌∷◌, length, Option, Some, None, refl, ap, ◌∙◌, arith}
use Rattle.job_tree.specs.declared.deadline.Deadline.{Deadline}
use Rattle.job_tree.specs.declared.deadline.Deadline.TheVariants.{Never, After, At}
use Rattle.job_tree.specs.declared.format.Format.{Format}
use Rattle.job_tree.specs.declared.object.ObjectKind.TheVariants.{Limiter, Channel}
use Rattle.job_tree.specs.declared.object.Ask.TheVariants.{Acquire, Send, Receive}
use Rattle.job_tree.specs.Starting.{starts_in_pass}
use Rattle.job_tree.specs.Tree.{Step, sleep, checkpoint, forever, pace, find, head, longest, need, raise, cancel, set_event, wait_for, ask_for, close_channel, scope, nursery, event, object, start, repeat, attempt, Steps, stop, step, Handled, unhandled, except, Cleaned, uncleaned, finally, Tree}
use Rattle.job_tokens.specs.declared.token.Shape.{Shape}
use Rattle.job_tokens.specs.declared.token.Token.{Token}
use Rattle.job_tokens.specs.Shapes.{shapes_of, word_in}
use Rattle.job_syntax.specs.declared.keyword.Keyword.{Keyword}
use Rattle.job_syntax.specs.declared.keyword.Keyword.TheVariants as word
use Rattle.job_syntax.specs.Keywords.{spelling_of, keyword_of}
use Rattle.job_syntax.specs.Pieces.{Piece, shapes_in, opens, deadline_pieces, flag_pieces, over_pieces, passes_pieces, steps_pieces, step_pieces, handler_pieces, cleanup_pieces, job_pieces, loop_inside, AreSteps, IsStep, IsHandler, IsCleanup}
use Rattle.job_reader.specs.Refusals.{AreTokensOf}
use Rattle.job_lint.specs.Openings.{is_opening, opens_after, opens_as, opens_by, begins, with_place, places_from, opening_places}
use Rattle.job_lint.specs.Fitting.{kept_as, kept_by, kept_if, keywords_from, opening_keywords, keywords_of, handled_keywords, cleaned_keywords}

-- ---- one token

-- the opening keywords of tokens, given whether one may stand at the first
abbrev along : Bool → List Piece → List Keyword
along may_open [] = []
along may_open (p ∷ ps) = kept_if may_open (word_in p.shape) (along (opens_after p.shape) ps)

-- each keyword is read as itself
read_as_itself : (k : Keyword) → keyword_of (spelling_of k) ≡ Some k
unfolding keyword_of
read_as_itself word.Job = refl
read_as_itself _ = refl

-- a keyword, followed by others
opening : (k : Keyword) (others : List Keyword) → kept_as (keyword_of (spelling_of k)) others ≡ cond (is_opening k) (k ∷ others) others
opening k others = ap (λ (o : Option Keyword). kept_as o others) (read_as_itself k)

-- ---- along the tokens

same_shape : (t : Token) (p : Piece) (ts : List Token) (ps : List Piece) → shapes_of (t ∷ ts) ≡ shapes_in (p ∷ ps) →
    (t.shape ≡ p.shape) × (shapes_of ts ≡ shapes_in ps)
same_shape t p ts ps e = (cc, cc)

keywords_along : (may_open : Bool) (ts : List Token) (ps : List Piece) → shapes_of ts ≡ shapes_in ps → keywords_from may_open ts ≡ along may_open ps
keywords_along may_open [] [] e = refl
keywords_along may_open [] (p ∷ ps) e = absurd cc
keywords_along may_open (t ∷ ts) [] e = absurd cc
keywords_along may_open (t ∷ ts) (p ∷ ps) e =
    let two = same_shape t p ts ps e in
    ap (λ (others : List Keyword). kept_if may_open (word_in t.shape) others) (keywords_along (opens_after t.shape) ts ps two.1)
    ∙ ap (λ (s : Shape). kept_if may_open (word_in s) (along (opens_after s) ps)) two.0

-- there are as many places as keywords
as_many_kept : (o : Option Keyword) (at : ℕ) (places : List ℕ) (others : List Keyword) → length places ≡ length others →
    length (with_place (opens_as o) at places) ≡ length (kept_as o others)
as_many_kept None at places others e = e
as_many_kept (Some k) at places others e = by_opening (is_opening k)
  where
    by_opening : (b : Bool) → length (with_place b at places) ≡ length (cond b (k ∷ others) others)
    by_opening false = e
    by_opening true = omega (arith, e)

as_many_by : (o : Option (List ℕ)) (at : ℕ) (places : List ℕ) (others : List Keyword) → length places ≡ length others →
    length (with_place (opens_by o) at places) ≡ length (kept_by o others)
as_many_by None at places others e = e
as_many_by (Some name) at places others e = as_many_kept (keyword_of name) at places others e

as_many_if : (may_open : Bool) (shape : Shape) (at : ℕ) (places : List ℕ) (others : List Keyword) → length places ≡ length others →
    length (with_place (begins may_open shape) at places) ≡ length (kept_if may_open (word_in shape) others)
as_many_if false shape at places others e = e
as_many_if true shape at places others e = as_many_by (word_in shape) at places others e

as_many_from : (may_open : Bool) (ts : List Token) → length (places_from may_open ts) ≡ length (keywords_from may_open ts)
as_many_from may_open [] = refl
as_many_from may_open (t ∷ ts) =
    as_many_if may_open t.shape t.at (places_from (opens_after t.shape) ts) (keywords_from (opens_after t.shape) ts)
    (as_many_from (opens_after t.shape) ts)

pub as_many_places : (ts : List Token) → length (opening_places ts) ≡ length (opening_keywords ts)
as_many_places ts = as_many_from false ts

-- ---- construct by construct, of which none opens anything but the last

past_flag : (k : Keyword) (b : Bool) (rest : List Piece) → along false (flag_pieces k b rest) ≡ along false rest
past_flag k false rest = refl
past_flag k true rest = refl

past_deadline : (d : Deadline) (rest : List Piece) → along false (deadline_pieces d rest) ≡ along false rest
past_deadline Never rest = refl
past_deadline (After n) rest = refl
past_deadline (At n) rest = refl

past_over : (o : Option ℕ) (rest : List Piece) → along false (over_pieces o rest) ≡ along false rest
past_over None rest = refl
past_over (Some n) rest = refl

past_passes : (over : Bool) (n : ℕ) (rest : List Piece) → along false (passes_pieces over n rest) ≡ along false rest
past_passes false n rest = refl
past_passes true n rest = refl

-- a keyword before what is found
following : {found others : List Keyword} (k : Keyword) → found ≡ others → k ∷ found ≡ k ∷ others
following k e = ap (λ (ks : List Keyword). k ∷ ks) e

mutual
  steps_along : (format : Format) (inside : Bool) (ss : Steps) (rest : List Piece) → AreSteps format inside ss →
      along true (steps_pieces ss rest) ≡ keywords_of ss (along true rest)
  steps_along format inside stop rest are = refl
  steps_along format inside (step s ss) rest are =
      step_along format inside s (steps_pieces ss rest) are.0
      ∙ ap (λ (ks : List Keyword). keywords_of (step s stop) ks) (steps_along format inside ss rest are.1)

  step_along : (format : Format) (inside : Bool) (s : Step) (rest : List Piece) → IsStep format inside s →
      along true (step_pieces s rest) ≡ keywords_of (step s stop) (along true rest)
  step_along format inside (sleep n) rest is = opening word.Sleep (along true rest)
  step_along format inside checkpoint rest is = opening word.Checkpoint (along true rest)
  step_along format inside forever rest is = opening word.Forever (along true rest)
  step_along format inside (pace n) rest is = opening word.Pace (along true rest)
  step_along format inside (find t) rest is = opening word.Find (along true rest)
  step_along format inside (head n) rest is = opening word.Head (along true rest)
  step_along format inside longest rest is = opening word.Longest (along true rest)
  step_along format inside (need t n) rest is = opening word.Need (along true rest)
  step_along format inside (raise n) rest is = opening word.Raise (along true rest)
  step_along format inside (cancel n) rest is = opening word.Cancel (along true rest)
  step_along format inside (set_event n) rest is = opening word.Set (along true rest)
  step_along format inside (wait_for n) rest is = opening word.Wait (along true rest)
  step_along format inside (ask_for n Acquire body) rest is =
      opening word.Acquire (along true (steps_pieces body rest)) ∙ following word.Acquire (steps_along format false body rest is.2)
  -- a `send` has no block
  step_along format inside (ask_for n Send stop) rest is = opening word.Send (along true rest)
  step_along format inside (ask_for n Send (step s ss)) rest is = absurd is.1
  step_along format inside (ask_for n Receive body) rest is =
      opening word.Receive (along true (steps_pieces body rest)) ∙ following word.Receive (steps_along format false body rest is.2)
  step_along format inside (close_channel n) rest is = opening word.Close (along true rest)
  step_along format inside (scope n d s f body) rest is =
      let block = opens ∷ steps_pieces body rest in
      let flagged = flag_pieces word.Fail f block in
      let shielded = flag_pieces word.Shield s flagged in
      opening word.Scope (along false (deadline_pieces d shielded))
      ∙ following word.Scope
      (past_deadline d shielded ∙ past_flag word.Shield s flagged ∙ past_flag word.Fail f block ∙ steps_along format false body rest is)
  step_along format inside (nursery n d s body) rest is =
      let block = opens ∷ steps_pieces body rest in
      let shielded = flag_pieces word.Shield s block in
      opening word.Nursery (along false (deadline_pieces d shielded))
      ∙ following word.Nursery (past_deadline d shielded ∙ past_flag word.Shield s block ∙ steps_along format true body rest is.1)
  step_along format inside (event n body) rest is =
      opening word.Event (along true (steps_pieces body rest)) ∙ following word.Event (steps_along format false body rest is.1)
  step_along format inside (object n (Limiter c) body) rest is =
      opening word.Limiter (along true (steps_pieces body rest)) ∙ following word.Limiter (steps_along format false body rest is.1)
  step_along format inside (object n (Channel c) body) rest is =
      opening word.Channel (along true (steps_pieces body rest)) ∙ following word.Channel (steps_along format false body rest is.1)
  step_along format inside (start n o body) rest is =
      let block = opens ∷ steps_pieces body rest in
      opening word.Start (along false (over_pieces o block)) ∙ following word.Start (past_over o block ∙ steps_along format false body rest is.1)
  step_along format inside (repeat n over body) rest is =
      let block = opens ∷ steps_pieces body rest in
      opening word.Repeat (along false (passes_pieces over n block))
      ∙ following word.Repeat
      (past_passes over n block ∙ steps_along format (starts_in_pass over (loop_inside format inside)) body rest is.2)
  step_along format inside (attempt body h c) rest is =
      let cleaned = cleanup_pieces c rest in
      let after = handler_along format h cleaned is.2 ∙ ap (λ (ks : List Keyword). handled_keywords h ks) (cleanup_along format c rest is.3) in
      opening word.Try (along true (steps_pieces body (handler_pieces h cleaned)))
      ∙ following word.Try
      (steps_along format false body (handler_pieces h cleaned) is.1 ∙ ap (λ (ks : List Keyword). keywords_of body ks) after)

  handler_along : (format : Format) (h : Handled) (rest : List Piece) → IsHandler format h →
      along true (handler_pieces h rest) ≡ handled_keywords h (along true rest)
  handler_along format unhandled rest is = refl
  handler_along format (except n body) rest is =
      opening word.Except (along true (steps_pieces body rest)) ∙ following word.Except (steps_along format false body rest is)

  cleanup_along : (format : Format) (c : Cleaned) (rest : List Piece) → IsCleanup format c →
      along true (cleanup_pieces c rest) ≡ cleaned_keywords c (along true rest)
  cleanup_along format uncleaned rest is = refl
  cleanup_along format (finally body) rest is =
      opening word.Finally (along true (steps_pieces body rest)) ∙ following word.Finally (steps_along format false body rest is)

-- the tokens of a job have the opening keywords of the tree, in the same order
pub same_keywords : (job : Tree) (tokens : List Token) → AreTokensOf tokens job → opening_keywords tokens ≡ keywords_of job.steps []
same_keywords job tokens are = keywords_along false tokens (job_pieces job) are.1 ∙ steps_along job.format false job.steps [] are.0
