-- Reading a job from its tokens, construct by construct. The depth of nested blocks is limited.
use Rattle.std.specs.Prelude.{ℕ, zero, suc, List, [], ◌∷◌, length, Bool, true, false, ◌==◌, Option, Some, None, if◌then◌else◌}
use Rattle.std.specs.Str.{bytes_eq}
use Rattle.job_tree.specs.declared.deadline.Deadline.{Deadline}
use Rattle.job_tree.specs.declared.deadline.Deadline.TheVariants.{Never, After, At}
use Rattle.job_tree.specs.declared.format.Format.{Format}
use Rattle.job_tree.specs.declared.object.ObjectKind.{ObjectKind}
use Rattle.job_tree.specs.declared.object.ObjectKind.TheVariants.{Limiter, Channel}
use Rattle.job_tree.specs.declared.object.Ask.{Ask}
use Rattle.job_tree.specs.declared.object.Ask.TheVariants.{Acquire, Send, Receive}
use Rattle.job_tree.specs.Tree.{Step, sleep, checkpoint, forever, pace, find, head, longest, need, raise, cancel, set_event, wait_for, ask_for, close_channel, scope, nursery, event, object, start, repeat, attempt, Steps, stop, step, Handled, unhandled, except, Cleaned, uncleaned, finally, Tree}
use Rattle.job_tokens.specs.declared.token.Mark.{Mark}
use Rattle.job_tokens.specs.declared.token.Mark.TheVariants as mark
use Rattle.job_tokens.specs.declared.token.Shape.{Shape}
use Rattle.job_tokens.specs.Shapes.{word_in, number_in, text_in, mark_in}
use Rattle.job_syntax.specs.declared.keyword.Keyword.{Keyword}
use Rattle.job_syntax.specs.declared.keyword.Keyword.TheVariants as word
use Rattle.job_syntax.specs.Keywords.{spelling_of, keyword_of}
use Rattle.job_syntax.specs.Nonterminals.{◌>>=◌}
use Rattle.job_syntax.specs.Depth.{max_depth}

-- a value and the tokens after it
abbrev pub Read : Type 0 → Type 0
Read A = Option (A × List Shape)

abbrev pub first_of : {A : Type 0} → (Shape → Option A) → List Shape → Read A
first_of kind [] = None
first_of kind (s ∷ rest) = kind s >>= λ x. Some (x, rest)

abbrev pub word_at : List Shape → Read (List ℕ)
word_at shapes = first_of word_in shapes

abbrev pub keyword_at : List Shape → Read Keyword
keyword_at shapes = word_at shapes >>= λ w. keyword_of w.0 >>= λ k. Some (k, w.1)

abbrev pub number_at : List Shape → Read ℕ
number_at shapes = first_of number_in shapes

abbrev pub text_at : List Shape → Read (List ℕ)
text_at shapes = first_of text_in shapes

abbrev pub is_mark : Mark → Mark → Bool
is_mark mark.Open mark.Open = true
is_mark mark.Close mark.Close = true
is_mark mark.Semicolon mark.Semicolon = true
is_mark _ _ = false

-- the tokens after a mark
abbrev pub mark_at : Mark → List Shape → Option (List Shape)
mark_at m shapes = first_of mark_in shapes >>= λ found. if is_mark found.0 m then Some found.1 else None

-- the tokens after a keyword, if it is the first token
abbrev pub unless_other : Keyword → Read (List ℕ) → Option (List Shape)
unless_other k None = None
unless_other k (Some w) = if bytes_eq w.0 (spelling_of k) then Some w.1 else None

abbrev pub after_word : Keyword → List Shape → Option (List Shape)
after_word k shapes = unless_other k (word_at shapes)

-- an optional keyword
abbrev pub flag_read : Option (List Shape) → List Shape → Bool × List Shape
flag_read (Some rest) shapes = (true, rest)
flag_read None shapes = (false, shapes)

abbrev pub flag_at : Keyword → List Shape → Bool × List Shape
flag_at k shapes = flag_read (after_word k shapes) shapes

-- what follows an optional keyword, or something else
abbrev pub or_else : {A : Type 0} → Option (List Shape) → (List Shape → Read A) → Read A → Read A
or_else (Some rest) following other = following rest
or_else None following other = other

abbrev pub deadline_at : List Shape → Read Deadline
deadline_at shapes =
    or_else (after_word word.After shapes) (λ rest. number_at rest >>= λ n. Some (After n.0, n.1))
    (or_else (after_word word.At shapes) (λ rest. number_at rest >>= λ n. Some (At n.0, n.1)) (Some (Never, shapes)))

abbrev pub over_at : List Shape → Read (Option ℕ)
over_at shapes = or_else (after_word word.Over shapes) (λ rest. number_at rest >>= λ n. Some (Some n.0, n.1)) (Some (None, shapes))

-- the passes of a `repeat`: their number, and whether they are over the cuts of the task's part
abbrev pub passes_at : List Shape → Read (ℕ × Bool)
passes_at shapes =
    or_else (after_word word.Over shapes) (λ rest. number_at rest >>= λ n. Some ((n.0, true), n.1))
    (number_at shapes >>= λ n. Some ((n.0, false), n.1))

-- how a nested block is read
abbrev pub Blocks : Type 0
Blocks = List Shape → Read Steps

abbrev pub body_at : Blocks → List Shape → Read Steps
body_at blocks shapes = mark_at mark.Open shapes >>= blocks

abbrev pub handler_at : Blocks → List Shape → Read Handled
handler_at blocks shapes =
    or_else (after_word word.Except shapes) (λ rest. word_at rest >>= λ n. body_at blocks n.1 >>= λ b. Some (except n.0 b.0, b.1))
    (Some (unhandled, shapes))

abbrev pub cleanup_at : Blocks → List Shape → Read Cleaned
cleanup_at blocks shapes = or_else (after_word word.Finally shapes) (λ rest. body_at blocks rest >>= λ b. Some (finally b.0, b.1))
    (Some (uncleaned, shapes))

-- a scope, read after its keyword
abbrev pub scope_at : Blocks → List Shape → Read Step
scope_at blocks shapes =
    word_at shapes >>= λ n. deadline_at n.1 >>= λ d.
    body_at blocks (flag_at word.Fail (flag_at word.Shield d.1).1).1 >>= λ b.
    Some (scope n.0 d.0 (flag_at word.Shield d.1).0 (flag_at word.Fail (flag_at word.Shield d.1).1).0 b.0, b.1)

abbrev pub try_at : Blocks → List Shape → Read Step
try_at blocks shapes =
    body_at blocks shapes >>= λ b. handler_at blocks b.1 >>= λ h. cleanup_at blocks h.1 >>= λ c. Some (attempt b.0 h.0 c.0, c.1)

abbrev pub step_to_semicolon : Step → List Shape → Read Step
step_to_semicolon s shapes = mark_at mark.Semicolon shapes >>= λ rest. Some (s, rest)

abbrev pub nursery_at : Blocks → List Shape → Read Step
nursery_at blocks shapes =
    word_at shapes >>= λ n. deadline_at n.1 >>= λ d. body_at blocks (flag_at word.Shield d.1).1 >>= λ b.
    Some (nursery n.0 d.0 (flag_at word.Shield d.1).0 b.0, b.1)

abbrev pub event_at : Blocks → List Shape → Read Step
event_at blocks shapes = word_at shapes >>= λ n. body_at blocks n.1 >>= λ b. Some (event n.0 b.0, b.1)

-- what a keyword opens that has so many tokens or places
abbrev pub kind_at : Keyword → ℕ → Option ObjectKind
kind_at word.Limiter n = Some (Limiter n)
kind_at word.Channel n = Some (Channel n)
kind_at _ n = None

abbrev pub object_at : Keyword → Blocks → List Shape → Read Step
object_at keyword blocks shapes =
    word_at shapes >>= λ n. number_at n.1 >>= λ c. kind_at keyword c.0 >>= λ kind. body_at blocks c.1 >>= λ b. Some (object n.0 kind b.0, b.1)

-- a step that asks for something, with its block
abbrev pub grant_at : Ask → Blocks → List Shape → Read Step
grant_at ask blocks shapes = word_at shapes >>= λ n. body_at blocks n.1 >>= λ b. Some (ask_for n.0 ask b.0, b.1)

abbrev pub send_at : List Shape → Read Step
send_at shapes = word_at shapes >>= λ n. step_to_semicolon (ask_for n.0 Send stop) n.1

abbrev pub start_at : Blocks → List Shape → Read Step
start_at blocks shapes = word_at shapes >>= λ n. over_at n.1 >>= λ o. body_at blocks o.1 >>= λ b. Some (start n.0 o.0 b.0, b.1)

abbrev pub repeat_at : Blocks → List Shape → Read Step
repeat_at blocks shapes = passes_at shapes >>= λ p. body_at blocks p.1 >>= λ b. Some (repeat p.0.0 p.0.1 b.0, b.1)

-- a step without a block, read after its keyword
abbrev pub plain_step : Keyword → List Shape → Read Step
plain_step word.Sleep shapes = number_at shapes >>= λ n. step_to_semicolon (sleep n.0) n.1
plain_step word.Checkpoint shapes = step_to_semicolon checkpoint shapes
plain_step word.Forever shapes = step_to_semicolon forever shapes
plain_step word.Pace shapes = number_at shapes >>= λ n. step_to_semicolon (pace n.0) n.1
plain_step word.Find shapes = text_at shapes >>= λ t. step_to_semicolon (find t.0) t.1
plain_step word.Head shapes = number_at shapes >>= λ n. step_to_semicolon (head n.0) n.1
plain_step word.Longest shapes = step_to_semicolon longest shapes
plain_step word.Need shapes = text_at shapes >>= λ t. word_at t.1 >>= λ n. step_to_semicolon (need t.0 n.0) n.1
plain_step word.Raise shapes = word_at shapes >>= λ n. step_to_semicolon (raise n.0) n.1
plain_step word.Cancel shapes = word_at shapes >>= λ n. step_to_semicolon (cancel n.0) n.1
plain_step word.Set shapes = word_at shapes >>= λ n. step_to_semicolon (set_event n.0) n.1
plain_step word.Wait shapes = word_at shapes >>= λ n. step_to_semicolon (wait_for n.0) n.1
plain_step word.Close shapes = word_at shapes >>= λ n. step_to_semicolon (close_channel n.0) n.1
plain_step _ shapes = None

-- a step, read after its keyword
abbrev pub step_after : Blocks → Keyword → List Shape → Read Step
step_after blocks word.Scope shapes = scope_at blocks shapes
step_after blocks word.Nursery shapes = nursery_at blocks shapes
step_after blocks word.Event shapes = event_at blocks shapes
step_after blocks word.Limiter shapes = object_at word.Limiter blocks shapes
step_after blocks word.Channel shapes = object_at word.Channel blocks shapes
step_after blocks word.Acquire shapes = grant_at Acquire blocks shapes
step_after blocks word.Receive shapes = grant_at Receive blocks shapes
step_after blocks word.Send shapes = send_at shapes
step_after blocks word.Start shapes = start_at blocks shapes
step_after blocks word.Repeat shapes = repeat_at blocks shapes
step_after blocks word.Try shapes = try_at blocks shapes
step_after blocks k shapes = plain_step k shapes

abbrev pub step_at : Blocks → List Shape → Read Step
step_at blocks shapes = keyword_at shapes >>= λ k. step_after blocks k.0 k.1

abbrev pub ended_or : Option (List Shape) → Read Steps → Read Steps
ended_or (Some rest) others = Some (stop, rest)
ended_or None others = others

-- the steps up to the `}` that ends them, fewer than the given number
unfoldable pub steps_with : Blocks → ℕ → List Shape → Read Steps
steps_with blocks zero shapes = None
steps_with blocks (suc n) shapes = ended_or (mark_at mark.Close shapes)
    (step_at blocks shapes >>= λ s. steps_with blocks n s.1 >>= λ others. Some (step s.0 others.0, others.1))

-- a block in which at most the given number of blocks are nested, itself included
unfoldable pub blocks_at : ℕ → List Shape → Read Steps
blocks_at zero shapes = None
blocks_at (suc depth) shapes = steps_with (blocks_at depth) (length shapes) shapes

abbrev pub is_job : Keyword → Bool
is_job word.Job = true
is_job _ = false

-- the name of a job, between its keyword and its `{`
abbrev pub head_at : List Shape → Read (List ℕ)
head_at shapes = keyword_at shapes >>= λ k. (if is_job k.0 then word_at k.1 else None) >>= λ w. mark_at mark.Open w.1 >>= λ rest.
    Some (w.0, rest)

-- a whole job of a format, whose blocks are nested at most 32 deep
abbrev pub job_at : Format → List Shape → Option Tree
job_at format shapes = head_at shapes >>= λ name. blocks_at max_depth name.1 >>= λ steps.
    if length steps.1 == 0 then Some (record { format = format; name = name.0; steps = steps.0 }) else None
