-- A job of a format is also one of each newer format: its blocks are in the grammar, and its numbers in their ranges.
use Rattle.std.proofs.Common.{◌≡◌, ℕ, nat_le, Bool, true, false, ◌&&◌, List, [], ◌∷◌, Option, Some, None, refl, sym, subst}
use Rattle.job_tree.specs.declared.format.Format.{Format}
use Rattle.job_tree.specs.declared.format.Format.TheVariants.{One, Two, Three}
use Rattle.job_tree.specs.declared.deadline.Deadline.{Deadline}
use Rattle.job_tree.specs.declared.deadline.Deadline.TheVariants.{Never, After, At}
use Rattle.job_tree.specs.Formats.{extends_format_1, has_events, newer}
use Rattle.job_tree.specs.Starting.{starts_in_pass}
use Rattle.job_tree.specs.Tree.{Step, sleep, checkpoint, forever, pace, find, head, longest, need, raise, cancel, set_event, wait_for, ask_for, close_channel, scope, nursery, event, object, start, repeat, attempt, Steps, stop, step, Handled, unhandled, except, Cleaned, uncleaned, finally, Tree}
use Rattle.job_tokens.specs.declared.token.Token.{Token}
use Rattle.job_tokens.specs.Shapes.{shapes_of}
use Rattle.job_syntax.specs.declared.keyword.Keyword.{Keyword}
use Rattle.job_syntax.specs.declared.keyword.Keyword.TheVariants as word
use Rattle.job_syntax.specs.Keywords.{keyword_of}
use Rattle.job_syntax.specs.Pieces.{Piece, shapes_in, opens, deadline_pieces, flag_pieces, over_pieces, steps_pieces, step_pieces, handler_pieces, cleanup_pieces, passes_pieces, keyword, job_pieces, IsNurseryDeadline, IsNurseryHead, loop_inside, MayDivide, AreSteps, IsStep, IsHandler, IsCleanup}
use Rattle.job_syntax.specs.Ranges.{most_passes, number_fault}
use Rattle.job_syntax.proofs.InRange.{AllInRange, all_in_range, no_fault}

-- ---- blocks

-- the first format has nothing that the second one does not have
abbrev IsUpTo : Format → Format → Type 0
IsUpTo One to = Unit {0}
IsUpTo Two to = extends_format_1 to ≡ true
IsUpTo Three to = has_events to ≡ true

-- no format has anything that a newer one does not have
up_to_newer : (to format : Format) → IsUpTo format (newer to format)
up_to_newer to One = tt
up_to_newer One Two = refl
up_to_newer Two Two = refl
up_to_newer Three Two = refl
up_to_newer One Three = refl
up_to_newer Two Three = refl
up_to_newer Three Three = refl

extends_again : (from to : Format) → IsUpTo from to → extends_format_1 from ≡ true → extends_format_1 to ≡ true
extends_again One to up may = absurd cc
extends_again Two to up may = up
extends_again Three One up may = let e : false ≡ true = up in absurd cc
extends_again Three Two up may = refl
extends_again Three Three up may = refl

events_again : (from to : Format) → IsUpTo from to → has_events from ≡ true → has_events to ≡ true
events_again One to up may = absurd cc
events_again Two to up may = absurd cc
events_again Three to up may = up

-- a `start` may stand in a loop if it could before
loop_again : (from to : Format) (before after : Bool) → IsUpTo from to → (before ≡ true → after ≡ true) →
    loop_inside from before ≡ true → loop_inside to after ≡ true
loop_again One to before after up more may = let e : false ≡ true = may in absurd cc
loop_again Two to before after up more may = let e : false ≡ true = may in absurd cc
loop_again Three One before after up more may = let e : false ≡ true = up in absurd cc
loop_again Three Two before after up more may = let e : false ≡ true = up in absurd cc
loop_again Three Three before after up more may = more may

pass_again : (from to : Format) (before after over : Bool) → IsUpTo from to → (before ≡ true → after ≡ true) →
    starts_in_pass over (loop_inside from before) ≡ true → starts_in_pass over (loop_inside to after) ≡ true
pass_again from to before after false up more may = loop_again from to before after up more may
pass_again from to before after true up more may = may

-- a `repeat` may divide the part if it could before
divide_again : (from to : Format) (over : Bool) → IsUpTo from to → MayDivide from over → MayDivide to over
divide_again from to false up may = tt
divide_again from to true up may = events_again from to up may

-- a head that both formats may have
head_on : (to : Format) (d : Deadline) (s : Bool) → extends_format_1 to ≡ true → IsNurseryDeadline d → IsNurseryHead to d s
head_on One d s may is = absurd cc
head_on Two d s may is = is
head_on Three d s may is = is

plain_on : (to : Format) (d : Deadline) (s : Bool) → d ≡ Never → s ≡ false → IsNurseryHead to d s
plain_on One d s never unshielded = (never, unshielded)
plain_on Two d s never unshielded = rw never tt
plain_on Three d s never unshielded = rw never tt

head_again : (from to : Format) (d : Deadline) (s : Bool) → IsUpTo from to → IsNurseryHead from d s → IsNurseryHead to d s
head_again One to d s up may = plain_on to d s may.0 may.1
head_again Two to d s up may = head_on to d s up may
head_again Three to d s up may = head_on to d s (extends_again Three to up refl) may

mutual
  -- a block of a format's grammar is one of each format that has all of it, wherever a `start` may stand if it could before
  upgraded_steps : (from to : Format) (before after : Bool) (ss : Steps) → IsUpTo from to → (before ≡ true → after ≡ true) →
      AreSteps from before ss → AreSteps to after ss
  upgraded_steps from to before after stop up more a = tt
  upgraded_steps from to before after (step s ss) up more a =
      (upgraded_step from to before after s up more a.0, upgraded_steps from to before after ss up more a.1)

  upgraded_step : (from to : Format) (before after : Bool) (s : Step) → IsUpTo from to → (before ≡ true → after ≡ true) →
      IsStep from before s → IsStep to after s
  upgraded_step from to before after (sleep n) up more a = tt
  upgraded_step from to before after checkpoint up more a = tt
  upgraded_step from to before after forever up more a = tt
  upgraded_step from to before after (pace k) up more a = tt
  upgraded_step from to before after (find text) up more a = tt
  upgraded_step from to before after (head n) up more a = tt
  upgraded_step from to before after longest up more a = tt
  upgraded_step from to before after (need text name) up more a = tt
  upgraded_step from to before after (raise name) up more a = tt
  upgraded_step from to before after (cancel name) up more a = tt
  upgraded_step from to before after (set_event name) up more a = events_again from to up a
  upgraded_step from to before after (wait_for name) up more a = events_again from to up a
  upgraded_step from to before after (ask_for name ask body) up more a =
      (events_again from to up a.0, a.1, upgraded_steps from to false false body up (λ e. e) a.2)
  upgraded_step from to before after (close_channel name) up more a = events_again from to up a
  upgraded_step from to before after (scope name d shield fail body) up more a = upgraded_steps from to false false body up (λ e. e) a
  upgraded_step from to before after (nursery name d shield body) up more a =
      (head_again from to d shield up a.0, upgraded_steps from to true true body up (λ e. e) a.1)
  upgraded_step from to before after (event name body) up more a = (events_again from to up a.0, upgraded_steps from to false false body up (λ e. e) a.1)
  upgraded_step from to before after (object name kind body) up more a =
      (events_again from to up a.0, upgraded_steps from to false false body up (λ e. e) a.1)
  upgraded_step from to before after (start name over body) up more a = (more a.0, upgraded_steps from to false false body up (λ e. e) a.1)
  upgraded_step from to before after (repeat count over body) up more a = (
    extends_again from to up a.0,
    divide_again from to over up a.1,
    upgraded_steps from to (starts_in_pass over (loop_inside from before)) (starts_in_pass over (loop_inside to after)) body up
        (pass_again from to before after over up more) a.2,
  )
  upgraded_step from to before after (attempt body handler cleanup) up more a =
      (a.0, upgraded_steps from to false false body up (λ e. e) a.1, upgraded_handler from to handler up a.2, upgraded_cleanup from to cleanup up a.3)

  upgraded_handler : (from to : Format) (x : Handled) → IsUpTo from to → IsHandler from x → IsHandler to x
  upgraded_handler from to unhandled up a = tt
  upgraded_handler from to (except name body) up a = upgraded_steps from to false false body up (λ e. e) a

  upgraded_cleanup : (from to : Format) (x : Cleaned) → IsUpTo from to → IsCleanup from x → IsCleanup to x
  upgraded_cleanup from to uncleaned up a = tt
  upgraded_cleanup from to (finally body) up a = upgraded_steps from to false false body up (λ e. e) a

-- ---- numbers

-- Numbers of tokens that are in the ranges of a format are in those of another format. The tokens do not begin with a number, so that
-- what the token before them names does not matter.
abbrev Again : (from to : Format) → List Piece → Type 0
Again from to ps =
    (named other before : Option Keyword) → AllInRange from named before (shapes_in ps) → AllInRange to other before (shapes_in ps)

flag_again : (from to : Format) (k : Keyword) (b : Bool) (rest : List Piece) → Again from to rest → Again from to (flag_pieces k b rest)
flag_again from to k false rest again = again
flag_again from to k true rest again = λ named other before all. (all.0, again _ _ _ all.1)

deadline_again : (from to : Format) (d : Deadline) (rest : List Piece) → Again from to rest → Again from to (deadline_pieces d rest)
unfolding keyword_of
deadline_again from to Never rest again = again
deadline_again from to (After n) rest again = λ named other before all. (all.0, (all.1.0, again _ _ _ all.1.1))
deadline_again from to (At n) rest again = λ named other before all. (all.0, (all.1.0, again _ _ _ all.1.1))

over_again : (from to : Format) (o : Option ℕ) (rest : List Piece) → Again from to rest → Again from to (over_pieces o rest)
unfolding keyword_of
over_again from to None rest again = again
over_again from to (Some n) rest again = λ named other before all. (all.0, (all.1.0, again _ _ _ all.1.1))

-- formats that have the same range for `repeat`
passes_again : (from to : Format) (n : ℕ) (rest : List Piece) → most_passes from ≡ most_passes to → Again from to rest →
    Again from to (keyword word.Repeat ∷ passes_pieces false n rest)
unfolding keyword_of
passes_again from to n rest same again = λ named other before all.
    (all.0, (subst (λ (most : ℕ). nat_le 0 n && nat_le n most ≡ true) same all.1.0, again _ _ _ all.1.1))

opens_again : (from to : Format) (rest : List Piece) → Again from to rest → Again from to (opens ∷ rest)
opens_again from to rest again = λ named other before all. (all.0, again _ _ _ all.1)

-- a format without what format 3 added, and another one, with the same range for `repeat` if the first one has it
record IsOlder (from to : Format) : Type 0 where
  pub plain : has_events from ≡ false
  pub passes : extends_format_1 from ≡ true → most_passes from ≡ most_passes to

no_events : (from to : Format) → IsOlder from to → has_events from ≡ true → ⊥
no_events from to older has = let plain = older.plain in absurd cc

mutual
  unfolding keyword_of

  steps_again : (from to : Format) (ss : Steps) (inside : Bool) (rest : List Piece) → IsOlder from to → AreSteps from inside ss →
      Again from to rest → Again from to (steps_pieces ss rest)
  steps_again from to stop inside rest older a again = λ named other before all. (all.0, again _ _ _ all.1)
  steps_again from to (step s ss) inside rest older a again =
      step_again from to s inside (steps_pieces ss rest) older a.0 (steps_again from to ss inside rest older a.1 again)

  step_again : (from to : Format) (s : Step) (inside : Bool) (rest : List Piece) → IsOlder from to → IsStep from inside s →
      Again from to rest → Again from to (step_pieces s rest)
  step_again from to (sleep n) inside rest older a again = λ named other before all. (all.0, (all.1.0, (all.1.1.0, again _ _ _ all.1.1.1)))
  step_again from to checkpoint inside rest older a again = λ named other before all. (all.0, (all.1.0, again _ _ _ all.1.1))
  step_again from to forever inside rest older a again = λ named other before all. (all.0, (all.1.0, again _ _ _ all.1.1))
  step_again from to (pace k) inside rest older a again = λ named other before all. (all.0, (all.1.0, (all.1.1.0, again _ _ _ all.1.1.1)))
  step_again from to (find text) inside rest older a again = λ named other before all. (all.0, (all.1.0, (all.1.1.0, again _ _ _ all.1.1.1)))
  step_again from to (head n) inside rest older a again = λ named other before all. (all.0, (all.1.0, (all.1.1.0, again _ _ _ all.1.1.1)))
  step_again from to longest inside rest older a again = λ named other before all. (all.0, (all.1.0, again _ _ _ all.1.1))
  step_again from to (need text name) inside rest older a again =
      λ named other before all. (all.0, (all.1.0, (all.1.1.0, (all.1.1.1.0, again _ _ _ all.1.1.1.1))))
  step_again from to (raise name) inside rest older a again = λ named other before all. (all.0, (all.1.0, (all.1.1.0, again _ _ _ all.1.1.1)))
  step_again from to (cancel name) inside rest older a again = λ named other before all. (all.0, (all.1.0, (all.1.1.0, again _ _ _ all.1.1.1)))
  step_again from to (set_event name) inside rest older a again = absurd (no_events from to older a)
  step_again from to (wait_for name) inside rest older a again = absurd (no_events from to older a)
  step_again from to (ask_for name ask body) inside rest older a again = absurd (no_events from to older a.0)
  step_again from to (close_channel name) inside rest older a again = absurd (no_events from to older a)
  step_again from to (scope name d shield fail body) inside rest older a again =
      let block = opens ∷ steps_pieces body rest in
      let flagged = flag_pieces word.Fail fail block in
      let more = deadline_again from to d (flag_pieces word.Shield shield flagged) (flag_again from to word.Shield shield flagged
      (flag_again from to word.Fail fail block
      (opens_again from to (steps_pieces body rest) (steps_again from to body false rest older a again)))) in
      λ named other before all. (all.0, (all.1.0, more _ _ _ all.1.1))
  step_again from to (nursery name d shield body) inside rest older a again =
      let block = opens ∷ steps_pieces body rest in
      let more = deadline_again from to d (flag_pieces word.Shield shield block) (flag_again from to word.Shield shield block
      (opens_again from to (steps_pieces body rest) (steps_again from to body true rest older a.1 again))) in
      λ named other before all. (all.0, (all.1.0, more _ _ _ all.1.1))
  step_again from to (event name body) inside rest older a again = absurd (no_events from to older a.0)
  step_again from to (object name kind body) inside rest older a again = absurd (no_events from to older a.0)
  step_again from to (start name over body) inside rest older a again =
      let more = over_again from to over (opens ∷ steps_pieces body rest)
      (opens_again from to (steps_pieces body rest) (steps_again from to body false rest older a.1 again)) in
      λ named other before all. (all.0, (all.1.0, more _ _ _ all.1.1))
  step_again from to (repeat count false body) inside rest older a again =
      passes_again from to count (opens ∷ steps_pieces body rest) (older.passes a.0)
      (opens_again from to (steps_pieces body rest) (steps_again from to body (loop_inside from inside) rest older a.2 again))
  step_again from to (repeat count true body) inside rest older a again = absurd (no_events from to older a.1)
  step_again from to (attempt body handler cleanup) inside rest older a again =
      let cleaned = cleanup_again from to cleanup rest older a.3 again in
      let handled = handler_again from to handler (cleanup_pieces cleanup rest) older a.2 cleaned in
      let more = steps_again from to body false (handler_pieces handler (cleanup_pieces cleanup rest)) older a.1 handled in
      λ named other before all. (all.0, (all.1.0, more _ _ _ all.1.1))

  handler_again : (from to : Format) (x : Handled) (rest : List Piece) → IsOlder from to → IsHandler from x → Again from to rest →
      Again from to (handler_pieces x rest)
  handler_again from to unhandled rest older a again = again
  handler_again from to (except name body) rest older a again =
      let more = steps_again from to body false rest older a again in
      λ named other before all. (all.0, (all.1.0, (all.1.1.0, more _ _ _ all.1.1.1)))

  cleanup_again : (from to : Format) (x : Cleaned) (rest : List Piece) → IsOlder from to → IsCleanup from x → Again from to rest →
      Again from to (cleanup_pieces x rest)
  cleanup_again from to uncleaned rest older a again = again
  cleanup_again from to (finally body) rest older a again =
      let more = steps_again from to body false rest older a again in
      λ named other before all. (all.0, (all.1.0, more _ _ _ all.1.1))

-- formats that extend format 1 have the same range for `repeat`
same_passes : (from to : Format) → extends_format_1 from ≡ true → extends_format_1 to ≡ true → most_passes from ≡ most_passes to
same_passes from to a b = rw (a, b) refl

one_passes : (to : Format) → extends_format_1 One ≡ true → most_passes One ≡ most_passes to
one_passes to e = absurd cc

older_one : (to : Format) → IsOlder One to
older_one to = record { plain = refl; passes = one_passes to }

older_two : (to : Format) → extends_format_1 to ≡ true → IsOlder Two to
older_two to up = record { plain = refl; passes = λ e. same_passes Two to refl up }

by_format : (from to : Format) (steps : Steps) → IsUpTo from to → AreSteps from false steps → (named before : Option Keyword) →
    AllInRange from named before (shapes_in (steps_pieces steps [])) → AllInRange to named before (shapes_in (steps_pieces steps []))
by_format One to steps up are named before all =
    steps_again One to steps false [] (older_one to) are (λ n o b none. tt) named named before all
by_format Two to steps up are named before all =
    steps_again Two to steps false [] (older_two to up) are (λ n o b none. tt) named named before all
by_format Three Three steps up are named before all = all
by_format Three Two steps up are named before all = let e : false ≡ true = up in absurd cc
by_format Three One steps up are named before all = let e : false ≡ true = up in absurd cc

-- numbers of a job's tokens that are in the ranges of its format are in those of each format that has all of it
upgraded_numbers : (to : Format) (job : Tree) (tokens : List Token) → IsUpTo job.format to → AreSteps job.format false job.steps →
    shapes_of tokens ≡ shapes_in (job_pieces job) → number_fault job.format tokens ≡ None → number_fault to tokens ≡ None
upgraded_numbers to job tokens up are e none =
    let all : AllInRange job.format None None (shapes_in (job_pieces job)) =
    subst (AllInRange job.format None None) e (all_in_range job.format None None tokens none) in
    let more : AllInRange to None None (shapes_in (job_pieces job)) =
    (all.0, (all.1.0, (all.1.1.0, by_format job.format to job.steps up are None None all.1.1.1))) in
    no_fault to None None tokens (subst (AllInRange to None None) (sym e) more)

-- ---- the same job in a newer format

pub newer_steps : (to : Format) (job : Tree) → AreSteps job.format false job.steps → AreSteps (newer to job.format) false job.steps
newer_steps to job are = upgraded_steps job.format (newer to job.format) false false job.steps (up_to_newer to job.format) (λ e. e) are

pub newer_numbers : (to : Format) (job : Tree) (tokens : List Token) → AreSteps job.format false job.steps →
    shapes_of tokens ≡ shapes_in (job_pieces job) → number_fault job.format tokens ≡ None →
    number_fault (newer to job.format) tokens ≡ None
newer_numbers to job tokens are e none = upgraded_numbers (newer to job.format) job tokens (up_to_newer to job.format) are e none
