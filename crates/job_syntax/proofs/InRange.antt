-- Numbers in their ranges, from the tokens to the steps.
use Rattle.std.proofs.Common.{◌≡◌, ℕ, ◌≤◌, nat_le, Bool, true, false, ◌&&◌, cond, List, [], ◌∷◌, ◌++◌, Option, Some, None, refl, subst}
use Rattle.std.proofs.lemmas.Bool.{leb-true}
use Rattle.job_tree.specs.declared.format.Format.{Format}
use Rattle.job_tree.specs.declared.format.Format.TheVariants.{One, Two, Three}
use Rattle.job_tree.specs.Formats.{extends_format_1, has_events}
use Rattle.job_tree.specs.declared.limits.TheConstants.{MAX_NUMBER, MAX_PACE, MAX_COPIES, MAX_PASSES, MAX_TOKENS, MAX_PLACES}
use Rattle.job_tree.specs.declared.deadline.Deadline.{Deadline}
use Rattle.job_tree.specs.declared.deadline.Deadline.TheVariants.{Never, After, At}
use Rattle.job_tree.specs.Starting.{starts_in_pass}
use Rattle.job_tree.specs.declared.object.ObjectKind.TheVariants.{Limiter, Channel}
use Rattle.job_tree.specs.declared.object.Ask.TheVariants.{Acquire, Send, Receive}
use Rattle.job_tree.specs.Tree.{Step, sleep, checkpoint, forever, pace, find, head, longest, need, raise, cancel, set_event, wait_for, ask_for, close_channel, scope, nursery, event, object, start, repeat, attempt, Steps, stop, step, Handled, unhandled, except, Cleaned, uncleaned, finally, Tree}
use Rattle.job_tree.specs.Names.{names_of, names_in, handled_names, cleaned_names}
use Rattle.job_tree.specs.InRange.{AreInRange, IsInRangeStep, IsInRangeHandler, IsInRangeCleanup, IsInRangeDeadline, IsInRangeOver, IsInRangePasses}
use Rattle.job_tokens.specs.declared.token.Shape.{Shape}
use Rattle.job_tokens.specs.declared.token.Shape.TheVariants as shape
use Rattle.job_tokens.specs.declared.token.Token.{Token}
use Rattle.job_tokens.specs.Shapes.{shapes_of}
use Rattle.job_syntax.specs.declared.keyword.Keyword.{Keyword}
use Rattle.job_syntax.specs.declared.keyword.Keyword.TheVariants as word
use Rattle.job_syntax.specs.Keywords.{is_kept, keyword_of}
use Rattle.job_syntax.specs.Pieces.{Piece, shapes_in, keyword, number, opens, deadline_pieces, flag_pieces, over_pieces, passes_pieces, steps_pieces, step_pieces, handler_pieces, cleanup_pieces, job_pieces, loop_inside, AreSteps, IsStep, IsHandler, IsCleanup}
use Rattle.job_syntax.specs.Ranges.{object_named, keyword_in, is_in_range, fault_after, number_fault}

-- ---- along the shapes

-- all numbers are in their ranges, after a token that may name a limiter or channel, or be a keyword
abbrev pub AllInRange : (format : Format) → (named before : Option Keyword) → List Shape → Type 0
AllInRange format named before [] = Unit {0}
AllInRange format named before (s ∷ rest) =
    (is_in_range format named before s ≡ true) × AllInRange format (object_named format before s) (keyword_in s) rest

-- if no number out of its range is found, all are in their ranges
pub all_in_range : (format : Format) (named before : Option Keyword) (tokens : List Token) → fault_after format named before tokens ≡ None →
    AllInRange format named before (shapes_of tokens)
all_in_range format named before [] none = tt
all_in_range format named before (t ∷ ts) none =
    by_test (all_in_range format following (keyword_in t.shape) ts) (is_in_range format named before t.shape) refl none
  where
    following : Option Keyword
    following = object_named format before t.shape

    by_test : (fault_after format following (keyword_in t.shape) ts ≡ None → AllInRange format following (keyword_in t.shape) (shapes_of ts)) →
        (b : Bool) → is_in_range format named before t.shape ≡ b →
        cond b (fault_after format following (keyword_in t.shape) ts) (Some t.at) ≡ None
        → (is_in_range format named before t.shape ≡ true) × AllInRange format following (keyword_in t.shape) (shapes_of ts)
    by_test others true is none' = (is, others none')
    by_test others false is none' = absurd cc

-- if all numbers are in their ranges, no fault is found
pub no_fault : (format : Format) (named before : Option Keyword) (tokens : List Token) → AllInRange format named before (shapes_of tokens) →
    fault_after format named before tokens ≡ None
no_fault format named before [] all = refl
no_fault format named before (t ∷ ts) all =
    rw all.0 (no_fault format (object_named format before t.shape) (keyword_in t.shape) ts all.1)

-- which numbers are out of their ranges depends only on the shapes
pub numbers_by_shapes : (format : Format) (xs ys : List Token) → shapes_of xs ≡ shapes_of ys → number_fault format xs ≡ None →
    number_fault format ys ≡ None
numbers_by_shapes format xs ys e none = no_fault format None None ys
    (subst (AllInRange format None None) e (all_in_range format None None xs none))

-- ---- one number after its keyword

both : (a b : Bool) → a && b ≡ true → (a ≡ true) × (b ≡ true)
both true true e = (refl, refl)
both true false e = absurd cc
both false b e = absurd cc

between : (least most n : ℕ) → nat_le least n && nat_le n most ≡ true → (least ≤ n) × (n ≤ most)
between least most n e = let two = both (nat_le least n) (nat_le n most) e in (leb-true least n two.0, leb-true n most two.1)

-- a number after a keyword, which may come after another
abbrev IsFit : (format : Format) → (before : Option Keyword) → Keyword → ℕ → Type 0
IsFit format before k n =
    is_in_range format (object_named format before (keyword k).shape) (keyword_in (keyword k).shape) (number n).shape ≡ true

sleep_fit : (format : Format) (before : Option Keyword) (n : ℕ) → IsFit format before word.Sleep n → n ≤ MAX_NUMBER
unfolding keyword_of
sleep_fit format before n e = (between 0 MAX_NUMBER n e).1

head_fit : (format : Format) (before : Option Keyword) (n : ℕ) → IsFit format before word.Head n → n ≤ MAX_NUMBER
unfolding keyword_of
head_fit format before n e = (between 0 MAX_NUMBER n e).1

after_fit : (format : Format) (before : Option Keyword) (n : ℕ) → IsFit format before word.After n → n ≤ MAX_NUMBER
unfolding keyword_of
after_fit format before n e = (between 0 MAX_NUMBER n e).1

at_fit : (format : Format) (before : Option Keyword) (n : ℕ) → IsFit format before word.At n → n ≤ MAX_NUMBER
unfolding keyword_of
at_fit format before n e = (between 0 MAX_NUMBER n e).1

pace_fit : (format : Format) (before : Option Keyword) (n : ℕ) → IsFit format before word.Pace n → (1 ≤ n) × (n ≤ MAX_PACE)
unfolding keyword_of
pace_fit format before n e = between 1 MAX_PACE n e

over_fit : (format : Format) (before : Option Keyword) (n : ℕ) → IsFit format before word.Over n → (1 ≤ n) × (n ≤ MAX_COPIES)
unfolding keyword_of
over_fit format before n e = between 1 MAX_COPIES n e

repeat_fit : (format : Format) (before : Option Keyword) (n : ℕ) → extends_format_1 format ≡ true → IsFit format before word.Repeat n →
    n ≤ MAX_PASSES
unfolding keyword_of
repeat_fit Two before n may e = (between 0 MAX_PASSES n e).1
repeat_fit Three before n may e = (between 0 MAX_PASSES n e).1
repeat_fit One before n may e = absurd cc

-- a number after a word that is no keyword, or one that may be a name
named_fit : (format : Format) (k : Keyword) (before : Option Keyword) (n : ℕ) → is_kept before ≡ false →
    is_in_range format (cond (is_kept before) None (Some k)) before (number n).shape ≡ true →
    is_in_range format (Some k) before (number n).shape ≡ true
named_fit format k before n free e =
    subst (λ (kept : Bool). is_in_range format (cond kept None (Some k)) before (number n).shape ≡ true) free e

-- a number after the name of a limiter or channel
abbrev IsNamedFit : (format : Format) → Keyword → List ℕ → ℕ → Type 0
IsNamedFit format k name n =
    is_in_range format (object_named format (keyword_in (keyword k).shape) (shape.Word name)) (keyword_in (shape.Word name)) (number n).shape
    ≡ true

tokens_fit : (format : Format) (name : List ℕ) (n : ℕ) → has_events format ≡ true → is_kept (keyword_of name) ≡ false →
    IsNamedFit format word.Limiter name n → (1 ≤ n) × (n ≤ MAX_TOKENS)
unfolding keyword_of
tokens_fit Three name n may free e = between 1 MAX_TOKENS n (named_fit Three word.Limiter (keyword_of name) n free e)
tokens_fit Two name n may free e = absurd cc
tokens_fit One name n may free e = absurd cc

places_fit : (format : Format) (name : List ℕ) (n : ℕ) → has_events format ≡ true → is_kept (keyword_of name) ≡ false →
    IsNamedFit format word.Channel name n → n ≤ MAX_PLACES
unfolding keyword_of
places_fit Three name n may free e = (between 0 MAX_PLACES n (named_fit Three word.Channel (keyword_of name) n free e)).1
places_fit Two name n may free e = absurd cc
places_fit One name n may free e = absurd cc

-- ---- names

-- names of which none is a keyword that may not be a name
abbrev pub AreFree : List (List ℕ) → Type 0
AreFree [] = Unit {0}
AreFree (n ∷ ns) = (is_kept (keyword_of n) ≡ false) × AreFree ns

free_parts : (xs ys : List (List ℕ)) → AreFree (xs ++ ys) → AreFree xs × AreFree ys
free_parts [] ys free = (tt, free)
free_parts (x ∷ xs) ys free = let parts = free_parts xs ys free.1 in ((free.0, parts.0), parts.1)

-- ---- construct by construct

-- the numbers of tokens are in their ranges, whatever comes before them
abbrev InRangeAfter : (format : Format) → List Piece → Type 0
InRangeAfter format rest = (named : Option Keyword) × (before : Option Keyword) × AllInRange format named before (shapes_in rest)

-- the same after a keyword and a name
after_name : (format : Format) (k : Keyword) (name : List ℕ) (rest : List Piece)
    → AllInRange format (object_named format (keyword_in (keyword k).shape) (shape.Word name)) (keyword_in (shape.Word name)) (shapes_in rest) →
    InRangeAfter format rest
after_name format k name rest all =
    (object_named format (keyword_in (keyword k).shape) (shape.Word name), keyword_in (shape.Word name), all)

-- the same after a number or a mark
after_other : (format : Format) (rest : List Piece) → AllInRange format None None (shapes_in rest) → InRangeAfter format rest
after_other format rest all = (None, None, all)

past_flag : (format : Format) (k : Keyword) (b : Bool) (rest : List Piece) → InRangeAfter format (flag_pieces k b rest) →
    InRangeAfter format rest
past_flag format k false rest all = all
past_flag format k true rest all = (object_named format all.1 (keyword k).shape, keyword_in (keyword k).shape, all.2.1)

deadline_in_range : (format : Format) (d : Deadline) (rest : List Piece) → InRangeAfter format (deadline_pieces d rest) →
    IsInRangeDeadline d × InRangeAfter format rest
deadline_in_range format Never rest all = (tt, all)
deadline_in_range format (After n) rest all = (after_fit format all.1 n all.2.1.0, after_other format rest all.2.1.1)
deadline_in_range format (At n) rest all = (at_fit format all.1 n all.2.1.0, after_other format rest all.2.1.1)

over_in_range : (format : Format) (o : Option ℕ) (rest : List Piece) → InRangeAfter format (over_pieces o rest) →
    IsInRangeOver o × InRangeAfter format rest
over_in_range format None rest all = (tt, all)
over_in_range format (Some n) rest all = (over_fit format all.1 n all.2.1.0, after_other format rest all.2.1.1)

passes_in_range : (format : Format) (over : Bool) (n : ℕ) (rest : List Piece) → extends_format_1 format ≡ true →
    InRangeAfter format (keyword word.Repeat ∷ passes_pieces over n rest) → IsInRangePasses over n × InRangeAfter format rest
passes_in_range format false n rest may all = (repeat_fit format all.1 n may all.2.1.0, after_other format rest all.2.1.1)
passes_in_range format true n rest may all =
    (over_fit format (keyword_in (keyword word.Repeat).shape) n all.2.1.1.0, after_other format rest all.2.1.1.1)

mutual
  -- the numbers of the steps of the grammar are in their ranges, if those of their tokens are, and their names may be names
  steps_in_range : (format : Format) (steps : Steps) (inside : Bool) (rest : List Piece) → AreSteps format inside steps →
      AreFree (names_of steps) → InRangeAfter format (steps_pieces steps rest) → AreInRange steps × InRangeAfter format rest
  steps_in_range format stop inside rest are free all = (tt, after_other format rest all.2.1)
  steps_in_range format (step s ss) inside rest are free all =
      let parts = free_parts (names_in s) (names_of ss) free in
      let one = step_in_range format s inside (steps_pieces ss rest) are.0 parts.0 all in
      let others = steps_in_range format ss inside rest are.1 parts.1 one.1 in
      ((one.0, others.0), others.1)

  step_in_range : (format : Format) (s : Step) (inside : Bool) (rest : List Piece) → IsStep format inside s → AreFree (names_in s) →
      InRangeAfter format (step_pieces s rest) → IsInRangeStep s × InRangeAfter format rest
  step_in_range format (sleep n) inside rest is free all = (sleep_fit format all.1 n all.2.1.0, after_other format rest all.2.1.1.1)
  step_in_range format checkpoint inside rest is free all = (tt, after_other format rest all.2.1.1)
  step_in_range format forever inside rest is free all = (tt, after_other format rest all.2.1.1)
  step_in_range format (pace n) inside rest is free all = (pace_fit format all.1 n all.2.1.0, after_other format rest all.2.1.1.1)
  step_in_range format (find t) inside rest is free all = (tt, after_other format rest all.2.1.1.1)
  step_in_range format (head n) inside rest is free all = (head_fit format all.1 n all.2.1.0, after_other format rest all.2.1.1.1)
  step_in_range format longest inside rest is free all = (tt, after_other format rest all.2.1.1)
  step_in_range format (need t n) inside rest is free all = (tt, after_other format rest all.2.1.1.1.1)
  step_in_range format (raise n) inside rest is free all = (tt, after_other format rest all.2.1.1.1)
  step_in_range format (cancel n) inside rest is free all = (tt, after_other format rest all.2.1.1.1)
  step_in_range format (set_event n) inside rest is free all = (tt, after_other format rest all.2.1.1.1)
  step_in_range format (wait_for n) inside rest is free all = (tt, after_other format rest all.2.1.1.1)
  step_in_range format (ask_for n Acquire body) inside rest is free all =
      steps_in_range format body false rest is.2 free (after_other format (steps_pieces body rest) all.2.1.1.1)
  step_in_range format (ask_for n Send stop) inside rest is free all = (tt, after_other format rest all.2.1.1.1)
  step_in_range format (ask_for n Send (step s ss)) inside rest is free all = absurd is.1
  step_in_range format (ask_for n Receive body) inside rest is free all =
      steps_in_range format body false rest is.2 free (after_other format (steps_pieces body rest) all.2.1.1.1)
  step_in_range format (close_channel n) inside rest is free all = (tt, after_other format rest all.2.1.1.1)
  step_in_range format (scope n d s f body) inside rest is free all =
      let block = opens ∷ steps_pieces body rest in
      let flagged = flag_pieces word.Fail f block in
      let shielded = flag_pieces word.Shield s flagged in
      let headed = after_name format word.Scope n (deadline_pieces d shielded) all.2.1.1 in
      let dated = deadline_in_range format d shielded headed in
      let opened = past_flag format word.Fail f block (past_flag format word.Shield s flagged dated.1) in
      let inner = steps_in_range format body false rest is free.1 (after_other format (steps_pieces body rest) opened.2.1) in
      ((dated.0, inner.0), inner.1)
  step_in_range format (nursery n d s body) inside rest is free all =
      let block = opens ∷ steps_pieces body rest in
      let shielded = flag_pieces word.Shield s block in
      let headed = after_name format word.Nursery n (deadline_pieces d shielded) all.2.1.1 in
      let dated = deadline_in_range format d shielded headed in
      let opened = past_flag format word.Shield s block dated.1 in
      let inner = steps_in_range format body true rest is.1 free.1 (after_other format (steps_pieces body rest) opened.2.1) in
      ((dated.0, inner.0), inner.1)
  step_in_range format (event n body) inside rest is free all =
      steps_in_range format body false rest is.1 free.1 (after_other format (steps_pieces body rest) all.2.1.1.1)
  step_in_range format (object n (Limiter count) body) inside rest is free all =
      let inner = steps_in_range format body false rest is.1 free.1 (after_other format (steps_pieces body rest) all.2.1.1.1.1) in
      ((tokens_fit format n count is.0 free.0 all.2.1.1.0, inner.0), inner.1)
  step_in_range format (object n (Channel count) body) inside rest is free all =
      let inner = steps_in_range format body false rest is.1 free.1 (after_other format (steps_pieces body rest) all.2.1.1.1.1) in
      ((places_fit format n count is.0 free.0 all.2.1.1.0, inner.0), inner.1)
  step_in_range format (start n o body) inside rest is free all =
      let block = opens ∷ steps_pieces body rest in
      let headed = after_name format word.Start n (over_pieces o block) all.2.1.1 in
      let copies = over_in_range format o block headed in
      let inner = steps_in_range format body false rest is.1 free.1 (after_other format (steps_pieces body rest) copies.1.2.1) in
      ((copies.0, inner.0), inner.1)
  step_in_range format (repeat n over body) inside rest is free all =
      let counted = passes_in_range format over n (opens ∷ steps_pieces body rest) is.0 all in
      let inner = steps_in_range format body (starts_in_pass over (loop_inside format inside)) rest is.2 free
      (after_other format (steps_pieces body rest) counted.1.2.1) in
      ((counted.0, inner.0), inner.1)
  step_in_range format (attempt body h c) inside rest is free all =
      let cleaned_free = free_parts (names_of body ++ handled_names h) (cleaned_names c) free in
      let tried_free = free_parts (names_of body) (handled_names h) cleaned_free.0 in
      let after = handler_pieces h (cleanup_pieces c rest) in
      let inner = steps_in_range format body false after is.1 tried_free.0 (after_other format (steps_pieces body after) all.2.1.1) in
      let handled = handler_in_range format h (cleanup_pieces c rest) is.2 tried_free.1 inner.1 in
      let cleaned = cleanup_in_range format c rest is.3 cleaned_free.1 handled.1 in
      ((inner.0, handled.0, cleaned.0), cleaned.1)

  handler_in_range : (format : Format) (h : Handled) (rest : List Piece) → IsHandler format h → AreFree (handled_names h) →
      InRangeAfter format (handler_pieces h rest) → IsInRangeHandler h × InRangeAfter format rest
  handler_in_range format unhandled rest is free all = (tt, all)
  handler_in_range format (except n body) rest is free all =
      steps_in_range format body false rest is free (after_other format (steps_pieces body rest) all.2.1.1.1)

  cleanup_in_range : (format : Format) (c : Cleaned) (rest : List Piece) → IsCleanup format c → AreFree (cleaned_names c) →
      InRangeAfter format (cleanup_pieces c rest) → IsInRangeCleanup c × InRangeAfter format rest
  cleanup_in_range format uncleaned rest is free all = (tt, all)
  cleanup_in_range format (finally body) rest is free all =
      steps_in_range format body false rest is free (after_other format (steps_pieces body rest) all.2.1.1)

-- if no number of a job's tokens is out of its range, and no name that it gives is reserved, its numbers are in their ranges
pub in_range_numbers : (job : Tree) (tokens : List Token) → AreSteps job.format false job.steps → AreFree (names_of job.steps) →
    shapes_of tokens ≡ shapes_in (job_pieces job) →
    number_fault job.format tokens ≡ None → AreInRange job.steps
in_range_numbers job tokens are free e none =
    let all : AllInRange job.format None None (shapes_in (job_pieces job)) = subst (AllInRange job.format None None) e
    (all_in_range job.format None None tokens none) in
    (steps_in_range job.format job.steps false [] are free (after_other job.format (steps_pieces job.steps []) all.1.1.1)).0
