-- The grammar, nonterminal by nonterminal: each can be completed, and a first token determines what must follow it.
use Rattle.std.proofs.Common.{◌≡◌, ℕ, Bool, true, false, List, [], ◌∷◌, ◌++◌, Option, Some, None, ◌⊎◌, inl, inr, refl, sym, subst}
use Rattle.job_tree.specs.declared.format.Format.{Format}
use Rattle.job_tree.specs.declared.format.Format.TheVariants.{One, Two, Three}
use Rattle.job_tree.specs.Formats.{extends_format_1, has_events}
use Rattle.job_tree.specs.Starting.{starts_in_pass}
use Rattle.job_tree.specs.declared.deadline.Deadline.{Deadline}
use Rattle.job_tree.specs.declared.deadline.Deadline.TheVariants.{Never, After, At}
use Rattle.job_tree.specs.declared.object.ObjectKind.TheVariants.{Limiter, Channel}
use Rattle.job_tree.specs.declared.object.Ask.TheVariants.{Acquire, Send, Receive}
use Rattle.job_tree.specs.Tree.{sleep, checkpoint, forever, pace, find, head, longest, need, raise, cancel, set_event, wait_for, ask_for, close_channel, scope, nursery, event, object, start, repeat, attempt, Steps, stop, step, Handled, unhandled, except, Cleaned, uncleaned, finally, Tree}
use Rattle.job_syntax.specs.declared.keyword.Keyword.{Keyword}
use Rattle.job_syntax.specs.declared.keyword.Keyword.TheVariants as word
use Rattle.job_syntax.specs.declared.nonterminal.Nonterminal.{Nonterminal}
use Rattle.job_syntax.specs.declared.nonterminal.Nonterminal.TheVariants as nonterminal
use Rattle.job_syntax.specs.Keywords.{spelling_of, keyword_of}
use Rattle.job_syntax.specs.Nonterminals.{Rest, next, event_rest, use_rest, object_rest, grant_rest, step_rest, cleanup_rest, outer_block, tail, cleanup, passes, ◌>>=◌}
use Rattle.job_syntax.specs.declared.role.Role.TheVariants as role
use Rattle.job_syntax.specs.Pieces.{Piece, keyword, name_piece, number, string, opens, closes, ends, deadline_pieces, flag_pieces, over_pieces, passes_pieces, steps_pieces, handler_pieces, cleanup_pieces, job_onto, IsNurseryHead, loop_inside, MayDivide, AreSteps, IsHandler, IsCleanup, HasTail}
use Rattle.job_syntax.specs.Syntax.{Stands, Fits, role_of}

-- ---- completion

-- the shortest tokens of a nonterminal, followed by others
abbrev shortest : (format : Format) → Nonterminal → List Piece → List Piece
shortest format nonterminal.Job rest = job_onto (record { format = format; name = []; steps = stop }) rest
shortest format nonterminal.Steps rest = closes ∷ rest
shortest format nonterminal.Items rest = closes ∷ rest
shortest format nonterminal.StepsTail rest = handler_pieces unhandled (cleanup_pieces (finally stop) (closes ∷ rest))
shortest format nonterminal.ItemsTail rest = handler_pieces unhandled (cleanup_pieces (finally stop) (closes ∷ rest))
shortest format nonterminal.StepsCleanup rest = closes ∷ rest
shortest format nonterminal.ItemsCleanup rest = closes ∷ rest
shortest format nonterminal.Scope rest = opens ∷ closes ∷ rest
shortest format nonterminal.Shield rest = opens ∷ closes ∷ rest
shortest format nonterminal.Fail rest = opens ∷ closes ∷ rest
shortest format nonterminal.Nursery rest = opens ∷ closes ∷ rest
shortest format nonterminal.NurseryShield rest = opens ∷ closes ∷ rest
shortest format nonterminal.Over rest = opens ∷ closes ∷ rest
shortest format nonterminal.Passes rest = number 0 ∷ opens ∷ closes ∷ rest
shortest format nonterminal.ItemsPasses rest = number 0 ∷ opens ∷ closes ∷ rest
shortest format nonterminal.Given rest = name_piece role.Given [] ∷ rest
shortest format nonterminal.Raised rest = name_piece role.Raised [] ∷ rest
shortest format nonterminal.Handled rest = name_piece role.Handled [] ∷ rest
shortest format nonterminal.Target rest = name_piece role.Target [] ∷ rest
shortest format nonterminal.Number rest = number 0 ∷ rest
shortest format nonterminal.Text rest = string [] ∷ rest
shortest format nonterminal.Open rest = opens ∷ rest
shortest format nonterminal.Semicolon rest = ends ∷ rest

-- nothing needs to follow the name of a nursery
pub plain_head : (format : Format) → IsNurseryHead format Never false
plain_head One = (refl, refl)
plain_head Two = tt
plain_head Three = tt

shortest_stands : (format : Format) (s : Nonterminal) (rest : List Piece) → Stands format s (shortest format s rest) rest
shortest_stands format nonterminal.Job rest = (record { format = format; name = []; steps = stop }, refl, tt, refl)
shortest_stands format nonterminal.Steps rest = (stop, tt, refl)
shortest_stands format nonterminal.Items rest = (stop, tt, refl)
shortest_stands format nonterminal.StepsTail rest = (unhandled, finally stop, stop, tt, tt, tt, tt, refl)
shortest_stands format nonterminal.ItemsTail rest = (unhandled, finally stop, stop, tt, tt, tt, tt, refl)
shortest_stands format nonterminal.StepsCleanup rest = (uncleaned, stop, tt, tt, refl)
shortest_stands format nonterminal.ItemsCleanup rest = (uncleaned, stop, tt, tt, refl)
shortest_stands format nonterminal.Scope rest = (Never, false, false, stop, tt, refl)
shortest_stands format nonterminal.Shield rest = (false, false, stop, tt, refl)
shortest_stands format nonterminal.Fail rest = (false, stop, tt, refl)
shortest_stands format nonterminal.Nursery rest = (Never, false, stop, plain_head format, tt, refl)
shortest_stands format nonterminal.NurseryShield rest = (false, stop, plain_head format, tt, refl)
shortest_stands format nonterminal.Over rest = (None, stop, tt, refl)
shortest_stands format nonterminal.Passes rest = (0, false, stop, tt, refl)
shortest_stands format nonterminal.ItemsPasses rest = (0, false, stop, tt, refl)
shortest_stands format nonterminal.Given rest = ([], refl)
shortest_stands format nonterminal.Raised rest = ([], refl)
shortest_stands format nonterminal.Handled rest = ([], refl)
shortest_stands format nonterminal.Target rest = ([], refl)
shortest_stands format nonterminal.Number rest = (0, refl)
shortest_stands format nonterminal.Text rest = ([], refl)
shortest_stands format nonterminal.Open rest = refl
shortest_stands format nonterminal.Semicolon rest = refl

-- each list of nonterminals has a completion
pub completed : (format : Format) (ss : List Nonterminal) → (ps : List Piece) × Fits format ss ps
completed format [] = ([], refl)
completed format (s ∷ ss) = let others = completed format ss in
    (shortest format s others.0, (others.0, shortest_stands format s others.0, others.1))

-- ---- back: from a token and the rest to what must be in the rest

-- what the first token leaves
abbrev pub Left : (format : Format) → Rest → List Nonterminal → List Piece → Type 0
Left format None ss ps = ⊥
Left format (Some more) ss ps = Fits format (more ++ ss) ps

abbrev pub Goes : (format : Format) → Nonterminal → List Nonterminal → List Piece → Type 0
Goes format s ss [] = ⊥
Goes format s ss (p ∷ ps) = Left format (next format s p.shape) ss ps × (p.role ≡ role_of s)

-- the first token of the rest of a block
abbrev First : (format : Format) → Bool → List Nonterminal → List Piece → Type 0
First format inside ss [] = ⊥
First format inside ss (p ∷ ps) = ((p ≡ closes) × Fits format ss ps) ⊎
    ((k : Keyword) × (p ≡ keyword k) × Left format (step_rest format inside k) ss ps)

block_stands : (format : Format) (inside : Bool) (steps : Steps) (rest : List Piece) → AreSteps format inside steps →
    Stands format (outer_block inside) (steps_pieces steps rest) rest
block_stands format false steps rest are = (steps, are, refl)
block_stands format true steps rest are = (steps, are, refl)

tail_stands : (format : Format) (inside : Bool) (h : Handled) (c : Cleaned) (steps : Steps) (rest : List Piece) → HasTail h c →
    IsHandler format h → IsCleanup format c →
    AreSteps format inside steps → Stands format (tail inside) (handler_pieces h (cleanup_pieces c (steps_pieces steps rest))) rest
tail_stands format false h c steps rest has handler clean are = (h, c, steps, has, handler, clean, are, refl)
tail_stands format true h c steps rest has handler clean are = (h, c, steps, has, handler, clean, are, refl)

cleanup_stands : (format : Format) (inside : Bool) (c : Cleaned) (steps : Steps) (rest : List Piece) → IsCleanup format c →
    AreSteps format inside steps →
    Stands format (cleanup inside) (cleanup_pieces c (steps_pieces steps rest)) rest
cleanup_stands format false c steps rest clean are = (c, steps, clean, are, refl)
cleanup_stands format true c steps rest clean are = (c, steps, clean, are, refl)

start_left : (format : Format) (inside : Bool) (n : List ℕ) (o : Option ℕ) (body others : Steps) (ss : List Nonterminal) (rest : List Piece) →
    inside ≡ true →
    AreSteps format false body → AreSteps format inside others → Fits format ss rest
    → Left format (step_rest format inside word.Start) ss (name_piece role.Given n ∷ over_pieces o
    (opens ∷ steps_pieces body (steps_pieces others rest)))
start_left format true n o body others ss rest e are following fits = (
  over_pieces o (opens ∷ steps_pieces body (steps_pieces others rest)),
  (n, refl),
  (steps_pieces others rest, (o, body, are, refl), (rest, block_stands format true others rest following, fits)),
)
start_left format false n o body others ss rest e are following fits = absurd cc

-- a number and a block after it, followed by the rest of the enclosing block
loop_fits : (format : Format) (inside loop : Bool) (n : ℕ) (body others : Steps) (ss : List Nonterminal) (rest : List Piece) →
    AreSteps format loop body → AreSteps format inside others → Fits format ss rest
    → Fits format (nonterminal.Number ∷ nonterminal.Open ∷ outer_block loop ∷ outer_block inside ∷ ss)
    (number n ∷ opens ∷ steps_pieces body (steps_pieces others rest))
loop_fits format inside loop n body others ss rest are following fits = (
  opens ∷ steps_pieces body (steps_pieces others rest),
  (n, refl),
  (
    steps_pieces body (steps_pieces others rest),
    refl,
    (
      steps_pieces others rest,
      block_stands format loop body (steps_pieces others rest) are,
      (rest, block_stands format inside others rest following, fits),
    ),
  ),
)

passes_stand : (format : Format) (inside over : Bool) (n : ℕ) (body : Steps) (rest : List Piece) →
    AreSteps format (starts_in_pass over inside) body → Stands format (passes inside) (passes_pieces over n (opens ∷ steps_pieces body rest)) rest
passes_stand format false over n body rest are = (n, over, body, are, refl)
passes_stand format true over n body rest are = (n, over, body, are, refl)

repeat_left : (format : Format) (inside : Bool) (n : ℕ) (over : Bool) (body others : Steps) (ss : List Nonterminal) (rest : List Piece) →
    extends_format_1 format ≡ true → MayDivide format over → AreSteps format (starts_in_pass over (loop_inside format inside)) body →
    AreSteps format inside others → Fits format ss rest
    → Left format (step_rest format inside word.Repeat) ss (passes_pieces over n (opens ∷ steps_pieces body (steps_pieces others rest)))
repeat_left Two inside n false body others ss rest e may are following fits =
    loop_fits Two inside false n body others ss rest are following fits
repeat_left Two inside n true body others ss rest e may are following fits = absurd cc
repeat_left Three inside n over body others ss rest e may are following fits = (
  steps_pieces others rest,
  passes_stand Three inside over n body (steps_pieces others rest) are,
  (rest, block_stands Three inside others rest following, fits),
)
repeat_left One inside n over body others ss rest e may are following fits = absurd cc

event_left : (format : Format) (inside : Bool) (n : List ℕ) (body others : Steps) (ss : List Nonterminal) (rest : List Piece) →
    has_events format ≡ true → AreSteps format false body → AreSteps format inside others → Fits format ss rest
    → Left format (event_rest format inside) ss (name_piece role.Given n ∷ opens ∷ steps_pieces body (steps_pieces others rest))
event_left Three inside n body others ss rest e are following fits = (
  opens ∷ steps_pieces body (steps_pieces others rest),
  (n, refl),
  (
    steps_pieces body (steps_pieces others rest),
    refl,
    (steps_pieces others rest, (body, are, refl), (rest, block_stands Three inside others rest following, fits)),
  ),
)
event_left Two inside n body others ss rest e are following fits = absurd cc
event_left One inside n body others ss rest e are following fits = absurd cc

use_left : (format : Format) (inside : Bool) (n : List ℕ) (others : Steps) (ss : List Nonterminal) (rest : List Piece) →
    has_events format ≡ true → AreSteps format inside others → Fits format ss rest
    → Left format (use_rest format inside) ss (name_piece role.Target n ∷ ends ∷ steps_pieces others rest)
use_left Three inside n others ss rest e following fits = (
  ends ∷ steps_pieces others rest,
  (n, refl),
  (steps_pieces others rest, refl, (rest, block_stands Three inside others rest following, fits)),
)
use_left Two inside n others ss rest e following fits = absurd cc
use_left One inside n others ss rest e following fits = absurd cc

-- a block with its opening mark, followed by others
block_fits : (format : Format) (inside : Bool) (body others : Steps) (ss : List Nonterminal) (rest : List Piece) → AreSteps format false body →
    AreSteps format inside others →
    Fits format ss rest
    → Fits format (nonterminal.Open ∷ nonterminal.Steps ∷ outer_block inside ∷ ss) (opens ∷ steps_pieces body (steps_pieces others rest))
block_fits format inside body others ss rest are following fits = (
  steps_pieces body (steps_pieces others rest),
  refl,
  (
    steps_pieces others rest,
    (body, are, refl),
    (rest, block_stands format inside others rest following, fits),
  ),
)

object_left : (format : Format) (inside : Bool) (n : List ℕ) (count : ℕ) (body others : Steps) (ss : List Nonterminal) (rest : List Piece) →
    has_events format ≡ true → AreSteps format false body → AreSteps format inside others → Fits format ss rest
    → Left format (object_rest format inside) ss (name_piece role.Given n ∷ number count ∷ opens ∷ steps_pieces body (steps_pieces others rest))
object_left Three inside n count body others ss rest e are following fits = (
  number count ∷ opens ∷ steps_pieces body (steps_pieces others rest),
  (n, refl),
  (opens ∷ steps_pieces body (steps_pieces others rest), (count, refl), block_fits Three inside body others ss rest are following fits),
)
object_left Two inside n count body others ss rest e are following fits = absurd cc
object_left One inside n count body others ss rest e are following fits = absurd cc

grant_left : (format : Format) (inside : Bool) (n : List ℕ) (body others : Steps) (ss : List Nonterminal) (rest : List Piece) →
    has_events format ≡ true → AreSteps format false body → AreSteps format inside others → Fits format ss rest
    → Left format (grant_rest format inside) ss (name_piece role.Target n ∷ opens ∷ steps_pieces body (steps_pieces others rest))
grant_left Three inside n body others ss rest e are following fits =
    (opens ∷ steps_pieces body (steps_pieces others rest), (n, refl), block_fits Three inside body others ss rest are following fits)
grant_left Two inside n body others ss rest e are following fits = absurd cc
grant_left One inside n body others ss rest e are following fits = absurd cc

first_of_block : (format : Format) (inside : Bool) (steps : Steps) (ss : List Nonterminal) (rest : List Piece) → AreSteps format inside steps →
    Fits format ss rest →
    First format inside ss (steps_pieces steps rest)
first_of_block format inside stop ss rest are fits = inl (refl, fits)
first_of_block format inside (step (sleep n) others) ss rest are fits =
    let following = steps_pieces others rest in
    inr (word.Sleep, refl, (ends ∷ following, (n, refl), (following, refl, (rest, block_stands format inside others rest are.1, fits))))
first_of_block format inside (step checkpoint others) ss rest are fits =
    let following = steps_pieces others rest in
    inr (word.Checkpoint, refl, (following, refl, (rest, block_stands format inside others rest are.1, fits)))
first_of_block format inside (step forever others) ss rest are fits =
    let following = steps_pieces others rest in
    inr (word.Forever, refl, (following, refl, (rest, block_stands format inside others rest are.1, fits)))
first_of_block format inside (step (pace n) others) ss rest are fits =
    let following = steps_pieces others rest in
    inr (word.Pace, refl, (ends ∷ following, (n, refl), (following, refl, (rest, block_stands format inside others rest are.1, fits))))
first_of_block format inside (step (find t) others) ss rest are fits =
    let following = steps_pieces others rest in
    inr (word.Find, refl, (ends ∷ following, (t, refl), (following, refl, (rest, block_stands format inside others rest are.1, fits))))
first_of_block format inside (step (head n) others) ss rest are fits =
    let following = steps_pieces others rest in
    inr (word.Head, refl, (ends ∷ following, (n, refl), (following, refl, (rest, block_stands format inside others rest are.1, fits))))
first_of_block format inside (step longest others) ss rest are fits =
    let following = steps_pieces others rest in
    inr (word.Longest, refl, (following, refl, (rest, block_stands format inside others rest are.1, fits)))
first_of_block format inside (step (need t n) others) ss rest are fits =
    let following = steps_pieces others rest in
    inr (
      word.Need,
      refl,
      (
        name_piece role.Raised n ∷ ends ∷ following,
        (t, refl),
        (ends ∷ following, (n, refl), (following, refl, (rest, block_stands format inside others rest are.1, fits))),
      ),
    )
first_of_block format inside (step (raise n) others) ss rest are fits =
    let following = steps_pieces others rest in
    inr (word.Raise, refl, (ends ∷ following, (n, refl), (following, refl, (rest, block_stands format inside others rest are.1, fits))))
first_of_block format inside (step (cancel n) others) ss rest are fits =
    let following = steps_pieces others rest in
    inr (word.Cancel, refl, (ends ∷ following, (n, refl), (following, refl, (rest, block_stands format inside others rest are.1, fits))))
first_of_block format inside (step (set_event n) others) ss rest are fits =
    inr (word.Set, refl, use_left format inside n others ss rest are.0 are.1 fits)
first_of_block format inside (step (wait_for n) others) ss rest are fits =
    inr (word.Wait, refl, use_left format inside n others ss rest are.0 are.1 fits)
first_of_block format inside (step (ask_for n Acquire body) others) ss rest are fits =
    inr (word.Acquire, refl, grant_left format inside n body others ss rest are.0.0 are.0.2 are.1 fits)
first_of_block format inside (step (ask_for n Send body) others) ss rest are fits =
    inr (word.Send, refl, use_left format inside n others ss rest are.0.0 are.1 fits)
first_of_block format inside (step (ask_for n Receive body) others) ss rest are fits =
    inr (word.Receive, refl, grant_left format inside n body others ss rest are.0.0 are.0.2 are.1 fits)
first_of_block format inside (step (close_channel n) others) ss rest are fits =
    inr (word.Close, refl, use_left format inside n others ss rest are.0 are.1 fits)
first_of_block format inside (step (scope n d s f body) others) ss rest are fits =
    let following = steps_pieces others rest in
    inr (
      word.Scope,
      refl,
      (
        deadline_pieces d (flag_pieces word.Shield s (flag_pieces word.Fail f (opens ∷ steps_pieces body following))),
        (n, refl),
        (following, (d, s, f, body, are.0, refl), (rest, block_stands format inside others rest are.1, fits)),
      ),
    )
first_of_block format inside (step (nursery n d s body) others) ss rest are fits =
    let following = steps_pieces others rest in
    inr (
      word.Nursery,
      refl,
      (
        deadline_pieces d (flag_pieces word.Shield s (opens ∷ steps_pieces body following)),
        (n, refl),
        (following, (d, s, body, are.0.0, are.0.1, refl), (rest, block_stands format inside others rest are.1, fits)),
      ),
    )
first_of_block format inside (step (event n body) others) ss rest are fits =
    inr (word.Event, refl, event_left format inside n body others ss rest are.0.0 are.0.1 are.1 fits)
first_of_block format inside (step (object n (Limiter count) body) others) ss rest are fits =
    inr (word.Limiter, refl, object_left format inside n count body others ss rest are.0.0 are.0.1 are.1 fits)
first_of_block format inside (step (object n (Channel count) body) others) ss rest are fits =
    inr (word.Channel, refl, object_left format inside n count body others ss rest are.0.0 are.0.1 are.1 fits)
first_of_block format inside (step (start n o body) others) ss rest are fits =
    inr (word.Start, refl, start_left format inside n o body others ss rest are.0.0 are.0.1 are.1 fits)
first_of_block format inside (step (repeat n over body) others) ss rest are fits =
    inr (word.Repeat, refl, repeat_left format inside n over body others ss rest are.0.0 are.0.1 are.0.2 are.1 fits)
first_of_block format inside (step (attempt body h c) others) ss rest are fits =
    let following = handler_pieces h (cleanup_pieces c (steps_pieces others rest)) in
    inr (
      word.Try,
      refl,
      (
        steps_pieces body following,
        refl,
        (
          following,
          (body, are.0.1, refl),
          (rest, tail_stands format inside h c others rest are.0.0 are.0.2 are.0.3 are.1, fits),
        ),
      ),
    )

-- each keyword is read as itself
keyword_of-spelled : (k : Keyword) → keyword_of (spelling_of k) ≡ Some k
unfolding keyword_of
keyword_of-spelled word.Job = refl
keyword_of-spelled _ = refl

-- a keyword, followed by what it leaves
by_keyword : (format : Format) (words : Keyword → Rest) (k : Keyword) (ss : List Nonterminal) (ps : List Piece) → Left format (words k) ss ps →
    Left format (keyword_of (spelling_of k) >>= words) ss ps
by_keyword format words k ss ps left = subst (λ (o : Option Keyword). Left format (o >>= words) ss ps) (sym (keyword_of-spelled k)) left

-- a word other than `finally` begins what a block begins with
finally_no_step : (format : Format) (inside : Bool) (k : Keyword) (ss : List Nonterminal) (ps : List Piece) →
    Left format (step_rest format inside k) ss ps →
    Left format (cleanup_rest format inside k) ss ps
finally_no_step format inside word.Finally ss ps left = absurd left
finally_no_step format inside _ ss ps left = left

goes_block : (format : Format) (inside : Bool) (ss : List Nonterminal) (ps : List Piece) → First format inside ss ps →
    Goes format (outer_block inside) ss ps
goes_block format inside ss [] first = absurd first
goes_block format false ss (p ∷ ps) (inl (e, fits)) = subst (λ (x : Piece). Goes format nonterminal.Steps ss (x ∷ ps)) (sym e) (fits, refl)
goes_block format false ss (p ∷ ps) (inr (k, e, left)) =
    subst (λ (x : Piece). Goes format nonterminal.Steps ss (x ∷ ps)) (sym e) (by_keyword format (step_rest format false) k ss ps left, refl)
goes_block format true ss (p ∷ ps) (inl (e, fits)) = subst (λ (x : Piece). Goes format nonterminal.Items ss (x ∷ ps)) (sym e) (fits, refl)
goes_block format true ss (p ∷ ps) (inr (k, e, left)) =
    subst (λ (x : Piece). Goes format nonterminal.Items ss (x ∷ ps)) (sym e) (by_keyword format (step_rest format true) k ss ps left, refl)

goes_uncleaned : (format : Format) (inside : Bool) (ss : List Nonterminal) (ps : List Piece) → First format inside ss ps →
    Goes format (cleanup inside) ss ps
goes_uncleaned format inside ss [] first = absurd first
goes_uncleaned format false ss (p ∷ ps) (inl (e, fits)) = subst (λ (x : Piece). Goes format nonterminal.StepsCleanup ss (x ∷ ps)) (sym e)
    (fits, refl)
goes_uncleaned format false ss (p ∷ ps) (inr (k, e, left)) = subst (λ (x : Piece). Goes format nonterminal.StepsCleanup ss (x ∷ ps)) (sym e)
    (by_keyword format (cleanup_rest format false) k ss ps (finally_no_step format false k ss ps left), refl)
goes_uncleaned format true ss (p ∷ ps) (inl (e, fits)) = subst (λ (x : Piece). Goes format nonterminal.ItemsCleanup ss (x ∷ ps)) (sym e)
    (fits, refl)
goes_uncleaned format true ss (p ∷ ps) (inr (k, e, left)) = subst (λ (x : Piece). Goes format nonterminal.ItemsCleanup ss (x ∷ ps)) (sym e)
    (by_keyword format (cleanup_rest format true) k ss ps (finally_no_step format true k ss ps left), refl)

on_cleanup : (format : Format) (inside : Bool) (c : Cleaned) (steps : Steps) (ss : List Nonterminal) (rest : List Piece) → IsCleanup format c →
    AreSteps format inside steps →
    Fits format ss rest → Goes format (cleanup inside) ss (cleanup_pieces c (steps_pieces steps rest))
unfolding keyword_of
on_cleanup format inside uncleaned steps ss rest clean are fits =
    goes_uncleaned format inside ss (steps_pieces steps rest) (first_of_block format inside steps ss rest are fits)
on_cleanup format false (finally body) steps ss rest clean are fits = (block_fits format false body steps ss rest clean are fits, refl)
on_cleanup format true (finally body) steps ss rest clean are fits = (block_fits format true body steps ss rest clean are fits, refl)

handler_fits : (format : Format) (inside : Bool) (n : List ℕ) (body : Steps) (c : Cleaned) (others : Steps) (ss : List Nonterminal)
    (rest : List Piece) →
    AreSteps format false body → IsCleanup format c → AreSteps format inside others → Fits format ss rest
    → Fits format (nonterminal.Handled ∷ nonterminal.Open ∷ nonterminal.Steps ∷ cleanup inside ∷ ss)
    (name_piece role.Handled n ∷ opens ∷ steps_pieces body (cleanup_pieces c (steps_pieces others rest)))
handler_fits format inside n body c others ss rest are clean following fits =
    let after = cleanup_pieces c (steps_pieces others rest) in (
      opens ∷ steps_pieces body after,
      (n, refl),
      (
        steps_pieces body after,
        refl,
        (after, (body, are, refl), (rest, cleanup_stands format inside c others rest clean following, fits)),
      ),
    )

on_tail : (format : Format) (inside : Bool) (h : Handled) (c : Cleaned) (steps : Steps) (ss : List Nonterminal) (rest : List Piece) →
    HasTail h c → IsHandler format h →
    IsCleanup format c → AreSteps format inside steps → Fits format ss rest → Goes format (tail inside) ss
    (handler_pieces h (cleanup_pieces c (steps_pieces steps rest)))
unfolding keyword_of
on_tail format false (except n body) c steps ss rest has handler clean are fits =
    (handler_fits format false n body c steps ss rest handler clean are fits, refl)
on_tail format true (except n body) c steps ss rest has handler clean are fits =
    (handler_fits format true n body c steps ss rest handler clean are fits, refl)
on_tail format false unhandled (finally body) steps ss rest has handler clean are
    fits = (block_fits format false body steps ss rest clean are fits, refl)
on_tail format true unhandled (finally body) steps ss rest has handler clean are
    fits = (block_fits format true body steps ss rest clean are fits, refl)
on_tail format inside unhandled uncleaned steps ss rest has handler clean are fits = absurd has

-- a body with its opening mark
body_fits : (format : Format) (body : Steps) (ss : List Nonterminal) (rest : List Piece) → AreSteps format false body → Fits format ss rest →
    Fits format (nonterminal.Open ∷ nonterminal.Steps ∷ ss) (opens ∷ steps_pieces body rest)
body_fits format body ss rest are fits = (steps_pieces body rest, refl, (rest, (body, are, refl), fits))

on_fail : (format : Format) (f : Bool) (body : Steps) (ss : List Nonterminal) (rest : List Piece) → AreSteps format false body →
    Fits format ss rest →
    Goes format nonterminal.Fail ss (flag_pieces word.Fail f (opens ∷ steps_pieces body rest))
unfolding keyword_of
on_fail format true body ss rest are fits = (body_fits format body ss rest are fits, refl)
on_fail format false body ss rest are fits = ((rest, (body, are, refl), fits), refl)

on_shield : (format : Format) (s f : Bool) (body : Steps) (ss : List Nonterminal) (rest : List Piece) → AreSteps format false body →
    Fits format ss rest →
    Goes format nonterminal.Shield ss (flag_pieces word.Shield s (flag_pieces word.Fail f (opens ∷ steps_pieces body rest)))
unfolding keyword_of
on_shield format true f body ss rest are fits = ((rest, (f, body, are, refl), fits), refl)
on_shield format false true body ss rest are fits = (body_fits format body ss rest are fits, refl)
on_shield format false false body ss rest are fits = ((rest, (body, are, refl), fits), refl)

on_scope : (format : Format) (d : Deadline) (s f : Bool) (body : Steps) (ss : List Nonterminal) (rest : List Piece) →
    AreSteps format false body → Fits format ss rest →
    Goes format nonterminal.Scope ss (deadline_pieces d (flag_pieces word.Shield s (flag_pieces word.Fail f (opens ∷ steps_pieces body rest))))
unfolding keyword_of
on_scope format (After n) s f body ss rest are fits =
    let following = flag_pieces word.Shield s (flag_pieces word.Fail f (opens ∷ steps_pieces body rest)) in
    ((following, (n, refl), (rest, (s, f, body, are, refl), fits)), refl)
on_scope format (At n) s f body ss rest are fits =
    let following = flag_pieces word.Shield s (flag_pieces word.Fail f (opens ∷ steps_pieces body rest)) in
    ((following, (n, refl), (rest, (s, f, body, are, refl), fits)), refl)
on_scope format Never true f body ss rest are fits = ((rest, (f, body, are, refl), fits), refl)
on_scope format Never false true body ss rest are fits = (body_fits format body ss rest are fits, refl)
on_scope format Never false false body ss rest are fits = ((rest, (body, are, refl), fits), refl)

on_nursery_shield : (format : Format) (s : Bool) (body : Steps) (ss : List Nonterminal) (rest : List Piece) → IsNurseryHead format Never s →
    AreSteps format true body → Fits format ss rest →
    Goes format nonterminal.NurseryShield ss (flag_pieces word.Shield s (opens ∷ steps_pieces body rest))
unfolding keyword_of
on_nursery_shield Two true body ss rest may are fits = ((steps_pieces body rest, refl, (rest, (body, are, refl), fits)), refl)
on_nursery_shield Three true body ss rest may are fits = ((steps_pieces body rest, refl, (rest, (body, are, refl), fits)), refl)
on_nursery_shield One true body ss rest may are fits = let e = may.1 in absurd cc
on_nursery_shield format false body ss rest may are fits = ((rest, (body, are, refl), fits), refl)

on_nursery : (format : Format) (d : Deadline) (s : Bool) (body : Steps) (ss : List Nonterminal) (rest : List Piece) →
    IsNurseryHead format d s → AreSteps format true body → Fits format ss rest →
    Goes format nonterminal.Nursery ss (deadline_pieces d (flag_pieces word.Shield s (opens ∷ steps_pieces body rest)))
unfolding keyword_of
on_nursery Two (After n) s body ss rest may are fits =
    ((flag_pieces word.Shield s (opens ∷ steps_pieces body rest), (n, refl), (rest, (s, body, tt, are, refl), fits)), refl)
on_nursery Two (At n) s body ss rest may are fits = absurd may
on_nursery Two Never true body ss rest may are fits = ((steps_pieces body rest, refl, (rest, (body, are, refl), fits)), refl)
on_nursery Three (After n) s body ss rest may are fits =
    ((flag_pieces word.Shield s (opens ∷ steps_pieces body rest), (n, refl), (rest, (s, body, tt, are, refl), fits)), refl)
on_nursery Three (At n) s body ss rest may are fits = absurd may
on_nursery Three Never true body ss rest may are fits = ((steps_pieces body rest, refl, (rest, (body, are, refl), fits)), refl)
on_nursery One (After n) s body ss rest may are fits = let e = may.0 in absurd cc
on_nursery One (At n) s body ss rest may are fits = let e = may.0 in absurd cc
on_nursery One Never true body ss rest may are fits = let e = may.1 in absurd cc
on_nursery format Never false body ss rest may are fits = ((rest, (body, are, refl), fits), refl)

on_over : (format : Format) (o : Option ℕ) (body : Steps) (ss : List Nonterminal) (rest : List Piece) → AreSteps format false body →
    Fits format ss rest →
    Goes format nonterminal.Over ss (over_pieces o (opens ∷ steps_pieces body rest))
unfolding keyword_of
on_over format (Some n) body ss rest are fits = ((opens ∷ steps_pieces body rest, (n, refl), body_fits format body ss rest are fits), refl)
on_over format None body ss rest are fits = ((rest, (body, are, refl), fits), refl)

on_passes : (format : Format) (inside over : Bool) (n : ℕ) (body : Steps) (ss : List Nonterminal) (rest : List Piece) →
    AreSteps format (starts_in_pass over inside) body → Fits format ss rest →
    Goes format (passes inside) ss (passes_pieces over n (opens ∷ steps_pieces body rest))
unfolding keyword_of
on_passes format false true n body ss rest are fits =
    ((opens ∷ steps_pieces body rest, (n, refl), body_fits format body ss rest are fits), refl)
on_passes format true true n body ss rest are fits =
    ((opens ∷ steps_pieces body rest, (n, refl), body_fits format body ss rest are fits), refl)
on_passes format false false n body ss rest are fits = (body_fits format body ss rest are fits, refl)
on_passes format true false n body ss rest are fits = ((steps_pieces body rest, refl, (rest, (body, are, refl), fits)), refl)

on_job : (format : Format) (job : Tree) (ss : List Nonterminal) (rest : List Piece) → AreSteps format false job.steps → Fits format ss rest →
    Goes format nonterminal.Job ss (job_onto job rest)
unfolding keyword_of
on_job format job ss rest are fits = (
  (opens ∷ steps_pieces job.steps rest, (job.name, refl), body_fits format job.steps ss rest are fits),
  refl,
)

-- what fits begins with a token that can be read for the first nonterminal, and the rest fits what is left
pub goes : (format : Format) (s : Nonterminal) (ss : List Nonterminal) (ps : List Piece) → Fits format (s ∷ ss) ps → Goes format s ss ps
goes format nonterminal.Job ss ps (rest, (job, same, are, e), fits) = subst (Goes format nonterminal.Job ss) (sym e)
    (on_job format job ss rest are fits)
goes format nonterminal.Steps ss ps (rest, (steps, are, e), fits) =
    subst (Goes format nonterminal.Steps ss) (sym e) (goes_block format false ss (steps_pieces steps rest)
    (first_of_block format false steps ss rest are fits))
goes format nonterminal.Items ss ps (rest, (steps, are, e), fits) =
    subst (Goes format nonterminal.Items ss) (sym e) (goes_block format true ss (steps_pieces steps rest)
    (first_of_block format true steps ss rest are fits))
goes format nonterminal.StepsTail ss ps (rest, (h, c, steps, has, handler, clean, are, e), fits) =
    subst (Goes format nonterminal.StepsTail ss) (sym e) (on_tail format false h c steps ss rest has handler clean are fits)
goes format nonterminal.ItemsTail ss ps (rest, (h, c, steps, has, handler, clean, are, e), fits) =
    subst (Goes format nonterminal.ItemsTail ss) (sym e) (on_tail format true h c steps ss rest has handler clean are fits)
goes format nonterminal.StepsCleanup ss ps (rest, (c, steps, clean, are, e), fits) =
    subst (Goes format nonterminal.StepsCleanup ss) (sym e) (on_cleanup format false c steps ss rest clean are fits)
goes format nonterminal.ItemsCleanup ss ps (rest, (c, steps, clean, are, e), fits) =
    subst (Goes format nonterminal.ItemsCleanup ss) (sym e) (on_cleanup format true c steps ss rest clean are fits)
goes format nonterminal.Scope ss ps (rest, (d, s, f, body, are, e), fits) = subst (Goes format nonterminal.Scope ss) (sym e)
    (on_scope format d s f body ss rest are fits)
goes format nonterminal.Shield ss ps (rest, (s, f, body, are, e), fits) = subst (Goes format nonterminal.Shield ss) (sym e)
    (on_shield format s f body ss rest are fits)
goes format nonterminal.Fail ss ps (rest, (f, body, are, e), fits) = subst (Goes format nonterminal.Fail ss) (sym e)
    (on_fail format f body ss rest are fits)
goes format nonterminal.Nursery ss ps (rest, (d, s, body, may, are, e), fits) =
    subst (Goes format nonterminal.Nursery ss) (sym e) (on_nursery format d s body ss rest may are fits)
goes format nonterminal.NurseryShield ss ps (rest, (s, body, may, are, e), fits) =
    subst (Goes format nonterminal.NurseryShield ss) (sym e) (on_nursery_shield format s body ss rest may are fits)
goes format nonterminal.Over ss ps (rest, (o, body, are, e), fits) = subst (Goes format nonterminal.Over ss) (sym e)
    (on_over format o body ss rest are fits)
goes format nonterminal.Passes ss ps (rest, (n, over, body, are, e), fits) = subst (Goes format nonterminal.Passes ss) (sym e)
    (on_passes format false over n body ss rest are fits)
goes format nonterminal.ItemsPasses ss ps (rest, (n, over, body, are, e), fits) = subst (Goes format nonterminal.ItemsPasses ss) (sym e)
    (on_passes format true over n body ss rest are fits)
goes format nonterminal.Given ss ps (rest, (n, e), fits) = subst (Goes format nonterminal.Given ss) (sym e) (fits, refl)
goes format nonterminal.Raised ss ps (rest, (n, e), fits) = subst (Goes format nonterminal.Raised ss) (sym e) (fits, refl)
goes format nonterminal.Handled ss ps (rest, (n, e), fits) = subst (Goes format nonterminal.Handled ss) (sym e) (fits, refl)
goes format nonterminal.Target ss ps (rest, (n, e), fits) = subst (Goes format nonterminal.Target ss) (sym e) (fits, refl)
goes format nonterminal.Number ss ps (rest, (n, e), fits) = subst (Goes format nonterminal.Number ss) (sym e) (fits, refl)
goes format nonterminal.Text ss ps (rest, (n, e), fits) = subst (Goes format nonterminal.Text ss) (sym e) (fits, refl)
goes format nonterminal.Open ss ps (rest, e, fits) = subst (Goes format nonterminal.Open ss) (sym e) (fits, refl)
goes format nonterminal.Semicolon ss ps (rest, e, fits) = subst (Goes format nonterminal.Semicolon ss) (sym e) (fits, refl)
