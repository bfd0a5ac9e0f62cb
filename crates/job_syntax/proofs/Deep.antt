-- If no `{` is too deep, the blocks of the tree are nested within the maximum depth.
use Rattle.std.proofs.Common.{◌≡◌, ℕ, suc, ◌+◌, ◌-◌, ◌<◌, ◌≤◌, nat_le, Bool, true, false, cond, List, [], ◌∷◌, Option, Some, None, refl, subst, arith}
use Rattle.std.proofs.lemmas.Bool.{leb-true, le-leb}
use Rattle.job_tree.specs.declared.deadline.Deadline.{Deadline}
use Rattle.job_tree.specs.declared.deadline.Deadline.TheVariants.{Never, After, At}
use Rattle.job_tree.specs.declared.object.Ask.TheVariants.{Acquire, Send, Receive}
use Rattle.job_tree.specs.Tree.{Step, sleep, checkpoint, forever, pace, find, head, longest, need, raise, cancel, set_event, wait_for, ask_for, close_channel, scope, nursery, event, object, start, repeat, attempt, Steps, stop, step, Handled, unhandled, except, Cleaned, uncleaned, finally, Tree}
use Rattle.job_tokens.specs.declared.token.Shape.{Shape}
use Rattle.job_tokens.specs.declared.token.Token.{Token}
use Rattle.job_tokens.specs.Shapes.{shapes_of, mark_in}
use Rattle.job_syntax.specs.declared.keyword.Keyword.{Keyword}
use Rattle.job_syntax.specs.declared.keyword.Keyword.TheVariants as word
use Rattle.job_syntax.specs.Pieces.{Piece, shapes_in, opens, deadline_pieces, flag_pieces, over_pieces, passes_pieces, steps_pieces, step_pieces, handler_pieces, cleanup_pieces, job_pieces}
use Rattle.job_syntax.specs.Depth.{AreWithin, IsWithin, IsHandlerWithin, IsCleanupWithin, depth_after, depth_fault}

-- ---- along the shapes

-- after none of the tokens are more blocks open than the maximum, if `depth` are open before them
abbrev pub NoneTooDeep : ℕ → List Shape → Type 0
NoneTooDeep depth [] = Unit {0}
NoneTooDeep depth (s ∷ rest) = (depth_after depth (mark_in s) ≤ 32) × NoneTooDeep (depth_after depth (mark_in s)) rest

-- where no block too deep is found, no token opens one
pub none_too_deep : (depth : ℕ) (tokens : List Token) → depth_fault depth tokens ≡ None → NoneTooDeep depth (shapes_of tokens)
none_too_deep depth [] none = tt
none_too_deep depth (t ∷ ts) none = by_test (none_too_deep following ts) (nat_le following 32) refl none
  where
    following : ℕ
    following = depth_after depth (mark_in t.shape)

    by_test : (depth_fault following ts ≡ None → NoneTooDeep following (shapes_of ts)) → (b : Bool) → nat_le following 32 ≡ b →
        cond b (depth_fault following ts) (Some t.at) ≡ None → (following ≤ 32) × NoneTooDeep following (shapes_of ts)
    by_test others true is none' = (leb-true following 32 is, others none')
    by_test others false is none' = absurd cc

no_fault : (depth : ℕ) (tokens : List Token) → NoneTooDeep depth (shapes_of tokens) → depth_fault depth tokens ≡ None
no_fault depth [] none = refl
no_fault depth (t ∷ ts) none =
    let following : ℕ = depth_after depth (mark_in t.shape) in
    rw (le-leb following 32 none.0) (no_fault following ts none.1)

-- whether blocks are too deep depends only on the shapes
pub depth_by_shapes : (d : ℕ) (xs ys : List Token) → shapes_of xs ≡ shapes_of ys → depth_fault d xs ≡ None → depth_fault d ys ≡ None
depth_by_shapes d xs ys e none = no_fault d ys (subst (NoneTooDeep d) e (none_too_deep d xs none))

-- ---- construct by construct

past_flag : (depth : ℕ) (k : Keyword) (b : Bool) (rest : List Piece) → NoneTooDeep depth (shapes_in (flag_pieces k b rest)) →
    NoneTooDeep depth (shapes_in rest)
past_flag depth k false rest none = none
past_flag depth k true rest none = none.1

past_deadline : (depth : ℕ) (d : Deadline) (rest : List Piece) → NoneTooDeep depth (shapes_in (deadline_pieces d rest)) →
    NoneTooDeep depth (shapes_in rest)
past_deadline depth Never rest none = none
past_deadline depth (After n) rest none = none.1.1
past_deadline depth (At n) rest none = none.1.1

past_over : (depth : ℕ) (o : Option ℕ) (rest : List Piece) → NoneTooDeep depth (shapes_in (over_pieces o rest)) →
    NoneTooDeep depth (shapes_in rest)
past_over depth None rest none = none
past_over depth (Some n) rest none = none.1.1

past_passes : (depth : ℕ) (over : Bool) (n : ℕ) (rest : List Piece) → NoneTooDeep depth (shapes_in (passes_pieces over n rest)) →
    NoneTooDeep depth (shapes_in rest)
past_passes depth false n rest none = none.1
past_passes depth true n rest none = none.1.1

-- if `depth` blocks are open and no `{` is too deep, the blocks of these steps are nested at most `more` deep
abbrev StepsWithin : Steps → List Piece → Type 0
StepsWithin steps rest = (depth more : ℕ) → depth + more ≡ 32 → NoneTooDeep depth (shapes_in (steps_pieces steps rest)) →
    AreWithin more steps × NoneTooDeep (depth - 1) (shapes_in rest)

block_within : (depth more : ℕ) (body : Steps) (rest : List Piece) → StepsWithin body rest → depth + more ≡ 32 →
    NoneTooDeep depth (shapes_in (opens ∷ steps_pieces body rest)) → ((0 < more) × AreWithin (more - 1) body)
    × NoneTooDeep depth (shapes_in rest)
block_within depth more body rest within e none =
    let le : suc depth ≤ 32 = none.0 in
    let inner = within (suc depth) (more - 1) (omega (arith, e, le)) none.1 in
    let same : suc depth - 1 ≡ depth = omega arith in
    ((omega (arith, e, le), inner.0), subst (λ (n : ℕ). NoneTooDeep n (shapes_in rest)) same inner.1)

mutual
  steps_within : (steps : Steps) (rest : List Piece) (depth more : ℕ) → depth + more ≡ 32 →
      NoneTooDeep depth (shapes_in (steps_pieces steps rest)) → AreWithin more steps × NoneTooDeep (depth - 1) (shapes_in rest)
  steps_within stop rest depth more e none = (tt, none.1)
  steps_within (step s ss) rest depth more e none =
      let one = step_within s (steps_pieces ss rest) depth more e none in
      let others = steps_within ss rest depth more e one.1 in
      ((one.0, others.0), others.1)

  step_within : (s : Step) (rest : List Piece) (depth more : ℕ) → depth + more ≡ 32 → NoneTooDeep depth (shapes_in (step_pieces s rest)) →
      IsWithin more s × NoneTooDeep depth (shapes_in rest)
  step_within (sleep n) rest depth more e none = (tt, none.1.1.1)
  step_within checkpoint rest depth more e none = (tt, none.1.1)
  step_within forever rest depth more e none = (tt, none.1.1)
  step_within (pace n) rest depth more e none = (tt, none.1.1.1)
  step_within (find t) rest depth more e none = (tt, none.1.1.1)
  step_within (head n) rest depth more e none = (tt, none.1.1.1)
  step_within longest rest depth more e none = (tt, none.1.1)
  step_within (need t n) rest depth more e none = (tt, none.1.1.1.1)
  step_within (raise n) rest depth more e none = (tt, none.1.1.1)
  step_within (cancel n) rest depth more e none = (tt, none.1.1.1)
  step_within (set_event n) rest depth more e none = (tt, none.1.1.1)
  step_within (wait_for n) rest depth more e none = (tt, none.1.1.1)
  step_within (ask_for n Acquire body) rest depth more e none =
      block_within depth more body rest (λ depth' more'. steps_within body rest depth' more') e none.1.1
  step_within (ask_for n Send body) rest depth more e none = (tt, none.1.1.1)
  step_within (ask_for n Receive body) rest depth more e none =
      block_within depth more body rest (λ depth' more'. steps_within body rest depth' more') e none.1.1
  step_within (close_channel n) rest depth more e none = (tt, none.1.1.1)
  step_within (scope n d s f body) rest depth more e none =
      let block = opens ∷ steps_pieces body rest in
      let flagged = flag_pieces word.Fail f block in
      let shielded = flag_pieces word.Shield s flagged in
      block_within depth more body rest (λ depth' more'. steps_within body rest depth' more') e
      (past_flag depth word.Fail f block (past_flag depth word.Shield s flagged (past_deadline depth d shielded none.1.1)))
  step_within (nursery n d s body) rest depth more e none =
      let block = opens ∷ steps_pieces body rest in
      let shielded = flag_pieces word.Shield s block in
      block_within depth more body rest (λ depth' more'. steps_within body rest depth' more') e
      (past_flag depth word.Shield s block (past_deadline depth d shielded none.1.1))
  step_within (event n body) rest depth more e none =
      block_within depth more body rest (λ depth' more'. steps_within body rest depth' more') e none.1.1
  step_within (object n kind body) rest depth more e none =
      block_within depth more body rest (λ depth' more'. steps_within body rest depth' more') e none.1.1.1
  step_within (start n o body) rest depth more e none =
      block_within depth more body rest (λ depth' more'. steps_within body rest depth' more') e
      (past_over depth o (opens ∷ steps_pieces body rest) none.1.1)
  step_within (repeat n over body) rest depth more e none =
      block_within depth more body rest (λ depth' more'. steps_within body rest depth' more') e
      (past_passes depth over n (opens ∷ steps_pieces body rest) none.1)
  step_within (attempt body h c) rest depth more e none =
      let after = handler_pieces h (cleanup_pieces c rest) in
      let one = block_within depth more body after (λ depth' more'. steps_within body after depth' more') e none.1 in
      let handled = handler_within h (cleanup_pieces c rest) depth more e one.1 in
      let cleaned = cleanup_within c rest depth more e handled.1 in
      ((one.0, handled.0, cleaned.0), cleaned.1)

  handler_within : (h : Handled) (rest : List Piece) (depth more : ℕ) → depth + more ≡ 32 →
      NoneTooDeep depth (shapes_in (handler_pieces h rest)) → IsHandlerWithin more h × NoneTooDeep depth (shapes_in rest)
  handler_within unhandled rest depth more e none = (tt, none)
  handler_within (except n body) rest depth more e none =
      block_within depth more body rest (λ depth' more'. steps_within body rest depth' more') e none.1.1

  cleanup_within : (c : Cleaned) (rest : List Piece) (depth more : ℕ) → depth + more ≡ 32 →
      NoneTooDeep depth (shapes_in (cleanup_pieces c rest)) → IsCleanupWithin more c × NoneTooDeep depth (shapes_in rest)
  cleanup_within uncleaned rest depth more e none = (tt, none)
  cleanup_within (finally body) rest depth more e none =
      block_within depth more body rest (λ depth' more'. steps_within body rest depth' more') e none.1

-- if no `{` of a job is too deep, its blocks are nested within the maximum depth
pub within_depth : (job : Tree) (tokens : List Token) → shapes_of tokens ≡ shapes_in (job_pieces job) → depth_fault 0 tokens ≡ None →
    AreWithin 31 job.steps
within_depth job tokens e none =
    let deep : NoneTooDeep 0 (shapes_in (job_pieces job)) = subst (NoneTooDeep 0) e (none_too_deep 0 tokens none) in
    (steps_within job.steps [] 1 31 (omega arith) deep.1.1.1).0
