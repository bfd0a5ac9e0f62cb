-- The tokens that are laid out are the tokens of the job, each apart from the one before it.
use Rattle.std.proofs.Common.{◌≡◌, ℕ, ◌+◌, Bool, true, false, cond, ◌&&◌, List, [], ◌∷◌, ◌++◌, Option, Some, None, refl, sym, ap, ◌∙◌, append_assoc, append-nil}
use Rattle.job_tree.specs.declared.deadline.Deadline.TheVariants.{Never, After, At}
use Rattle.job_tree.specs.declared.object.Ask.TheVariants.{Acquire, Send, Receive}
use Rattle.job_tree.specs.Tree.{Step, ask_for, scope, nursery, event, object, start, repeat, attempt, Steps, stop, step, Handled, unhandled, except, Cleaned, uncleaned, finally, Tree}
use Rattle.job_tokens.specs.declared.token.Mark.TheVariants as mark
use Rattle.job_tokens.specs.declared.token.Shape.{Shape}
use Rattle.job_tokens.specs.declared.token.Shape.TheVariants as shape
use Rattle.job_syntax.specs.declared.keyword.Keyword.TheVariants as word
use Rattle.job_syntax.specs.declared.role.Role.TheVariants as role
use Rattle.job_syntax.specs.Pieces.{Piece, shapes_in as pieces_shapes, keyword, name_piece, opens, closes, ends, steps_pieces, handler_pieces, cleanup_pieces, job_pieces}
use Rattle.job_reader.specs.Heads.{head_onto, tail_onto}
use Rattle.job_reader.proofs.Tails.{head_and_tail}
use Rattle.job_layout.specs.Heads.{head_of, is_plain}
use Rattle.job_layout.specs.declared.spaced.Gap.TheVariants as gaps
use Rattle.job_layout.specs.declared.spaced.SpacedToken.{SpacedToken}
use Rattle.job_layout.specs.Spaced.{spaced_tokens, after_gap, mark_after}
use Rattle.job_layout.specs.Layout.{open_mark, semicolon_mark, plain_block, one_line, fits, is_bare, fitting_line, line_or, with_block, step_line, with_steps, with_rest, with_handler, with_cleanup, job_tokens}
use Rattle.job_layout.proofs.Lexes.{shapes_in, AreApart, AreApartAfter}

abbrev Print : Type 0
Print = List Piece → List Piece

-- More tokens are laid out, so that less is left to print; and all tokens after the first stay apart.
record Lays (old : List SpacedToken) (all : Print) (new : List SpacedToken) (left : Print) : Type 0 where
  pub same : (rest : List Piece) → shapes_in old ++ pieces_shapes (all rest) ≡ shapes_in new ++ pieces_shapes (left rest)
  pub apart : AreApartAfter old → AreApartAfter new

lays_none : (old : List SpacedToken) (print : Print) → Lays old print old print
lays_none old print = record { same = λ rest. refl; apart = λ apart. apart }

lays_both : (a b c : List SpacedToken) (p q r : Print) → Lays a p b q → Lays b q c r → Lays a p c r
lays_both a b c p q r one two = record { same = λ rest. one.same rest ∙ two.same rest; apart = λ apart. two.apart (one.apart apart) }

-- ---- tokens after others

shapes_append : (xs ys : List SpacedToken) → shapes_in (xs ++ ys) ≡ shapes_in xs ++ shapes_in ys
shapes_append [] ys = refl
shapes_append (x ∷ xs) ys = ap (λ (ss : List Shape). x.shape ∷ ss) (shapes_append xs ys)

apart_append : (xs ys : List SpacedToken) → AreApart xs → AreApart ys → AreApart (xs ++ ys)
apart_append [] ys p q = q
apart_append (x ∷ xs) ys p q = (p.0, apart_append xs ys p.1 q)

after_append : (xs ys : List SpacedToken) → AreApartAfter xs → AreApart ys → AreApartAfter (xs ++ ys)
after_append [] [] p q = tt
after_append [] (y ∷ ys) p q = q.1
after_append (x ∷ xs) ys p q = apart_append xs ys p q

-- tokens that print the first part of what is left
lays_more : (old more : List SpacedToken) (all left : Print) →
    ((rest : List Piece) → pieces_shapes (all rest) ≡ shapes_in more ++ pieces_shapes (left rest)) → AreApart more →
    Lays old all (old ++ more) left
lays_more old more all left prints apart = record {
  same = λ rest. ap (λ (ss : List Shape). shapes_in old ++ ss) (prints rest)
      ∙ sym (append_assoc (shapes_in old) (shapes_in more) (pieces_shapes (left rest)))
      ∙ ap (λ (ss : List Shape). ss ++ pieces_shapes (left rest)) (sym (shapes_append old more));
  apart = λ are. after_append old more are apart;
}

-- ---- heads

spaced_shapes : (ss : List Shape) → shapes_in (spaced_tokens ss) ≡ ss
spaced_shapes [] = refl
spaced_shapes (s ∷ ss) = ap (λ (x : List Shape). s ∷ x) (spaced_shapes ss)

spaced_apart : (ss : List Shape) → AreApart (spaced_tokens ss)
spaced_apart [] = tt
spaced_apart (s ∷ ss) = (tt, spaced_apart ss)

line_shapes : (level : ℕ) (ss : List Shape) → shapes_in (after_gap (gaps.Line level) ss) ≡ ss
line_shapes level [] = refl
line_shapes level (s ∷ ss) = ap (λ (x : List Shape). s ∷ x) (spaced_shapes ss)

line_apart : (level : ℕ) (ss : List Shape) → AreApart (after_gap (gaps.Line level) ss)
line_apart level [] = tt
line_apart level (s ∷ ss) = (tt, spaced_apart ss)

-- the head of a step followed by other tokens is the head alone, followed by those tokens
head_front : (s : Step) (rest : List Piece) → pieces_shapes (head_onto s rest) ≡ head_of s ++ pieces_shapes rest
head_front (scope name Never false false body) rest = refl
head_front (scope name Never false true body) rest = refl
head_front (scope name Never true false body) rest = refl
head_front (scope name Never true true body) rest = refl
head_front (scope name (After n) false false body) rest = refl
head_front (scope name (After n) false true body) rest = refl
head_front (scope name (After n) true false body) rest = refl
head_front (scope name (After n) true true body) rest = refl
head_front (scope name (At n) false false body) rest = refl
head_front (scope name (At n) false true body) rest = refl
head_front (scope name (At n) true false body) rest = refl
head_front (scope name (At n) true true body) rest = refl
head_front (nursery name Never false body) rest = refl
head_front (nursery name Never true body) rest = refl
head_front (nursery name (After n) false body) rest = refl
head_front (nursery name (After n) true body) rest = refl
head_front (nursery name (At n) false body) rest = refl
head_front (nursery name (At n) true body) rest = refl
head_front (start name None body) rest = refl
head_front (start name (Some n) body) rest = refl
head_front (repeat n false body) rest = refl
head_front (repeat n true body) rest = refl
head_front _ rest = refl

plain_tail : (s : Step) (rest : List Piece) → is_plain s ≡ true → tail_onto s rest ≡ ends ∷ rest
plain_tail (scope name deadline shield fail body) rest is = absurd cc
plain_tail (nursery name deadline shield body) rest is = absurd cc
plain_tail (event name body) rest is = absurd cc
plain_tail (object name kind body) rest is = absurd cc
plain_tail (ask_for name Acquire body) rest is = absurd cc
plain_tail (ask_for name Send body) rest is = refl
plain_tail (ask_for name Receive body) rest is = absurd cc
plain_tail (start name over body) rest is = absurd cc
plain_tail (repeat count over body) rest is = absurd cc
plain_tail (attempt body handler cleanup) rest is = absurd cc
plain_tail _ rest is = refl

-- ---- blocks

abbrev block_onto : Steps → Print
block_onto body rest = opens ∷ steps_pieces body rest

-- a line that prints a block
abbrev PrintsBlock : Steps → List SpacedToken → Type 0
PrintsBlock body line = ((rest : List Piece) → pieces_shapes (block_onto body rest) ≡ shapes_in line ++ pieces_shapes rest) × AreApart line

abbrev PrintsIfSome : Steps → Option (List SpacedToken) → Type 0
PrintsIfSome body None = Unit {0}
PrintsIfSome body (Some line) = PrintsBlock body line

plain_prints : (s : Step) (plain : Bool) → is_plain s ≡ plain → PrintsIfSome (step s stop) (plain_block plain (head_of s))
plain_prints s false is = tt
plain_prints s true is = (
  λ rest. ap (λ (ps : List Piece). pieces_shapes (opens ∷ ps))
      (head_and_tail s (closes ∷ rest) ∙ ap (head_onto s) (plain_tail s (closes ∷ rest) is))
      ∙ ap (λ (ss : List Shape). shape.Mark mark.Open ∷ ss) (head_front s (ends ∷ closes ∷ rest) ∙ around rest),
  (tt, apart_append (spaced_tokens (head_of s)) (semicolon_mark ∷ mark_after gaps.Space mark.Close ∷ []) (spaced_apart (head_of s)) (refl, (tt, tt))),
)
  where
    last : List SpacedToken
    last = semicolon_mark ∷ mark_after gaps.Space mark.Close ∷ []

    around : (rest : List Piece) → head_of s ++ pieces_shapes (ends ∷ closes ∷ rest) ≡ shapes_in (spaced_tokens (head_of s) ++ last) ++ pieces_shapes rest
    around rest = sym (append_assoc (head_of s) (shapes_in last) (pieces_shapes rest))
        ∙ ap (λ (ss : List Shape). (ss ++ shapes_in last) ++ pieces_shapes rest) (sym (spaced_shapes (head_of s)))
        ∙ ap (λ (ss : List Shape). ss ++ pieces_shapes rest) (sym (shapes_append (spaced_tokens (head_of s)) last))

line_prints : (body : Steps) → PrintsIfSome body (one_line body)
line_prints stop = (λ rest. refl, (tt, (refl, tt)))
line_prints (step s stop) = plain_prints s (is_plain s) refl
line_prints (step s (step t ss)) = tt

fitting_prints : (bare : List Bool) (body : Steps) (old : List SpacedToken) (line : Option (List SpacedToken)) → PrintsIfSome body line →
    PrintsIfSome body (fitting_line bare old line)
fitting_prints bare body old None prints = tt
fitting_prints bare body old (Some line) prints = by_test (fits old line && is_bare bare old line)
  where
    by_test : (fit : Bool) → PrintsIfSome body (cond fit (Some line) None)
    by_test true = prints
    by_test false = tt

-- the steps of a block, if their tokens are laid out after any others
abbrev LaysSteps : Steps → (List SpacedToken → List SpacedToken) → Type 0
LaysSteps body steps = (before : List SpacedToken) → Lays before (steps_pieces body) (steps before) (steps_pieces stop)

block_lays : (bare : List Bool) (level : ℕ) (body : Steps) (steps : List SpacedToken → List SpacedToken) (left : Print) → LaysSteps body steps →
    (old : List SpacedToken) → Lays old (λ rest. block_onto body (left rest)) (with_block bare level body steps old) left
block_lays bare level body steps left lays old = by_line (fitting_line bare old (one_line body)) (fitting_prints bare body old (one_line body) (line_prints body))
  where
    by_line : (line : Option (List SpacedToken)) → PrintsIfSome body line →
        Lays old (λ rest. block_onto body (left rest)) (line_or level line steps old) left
    by_line (Some line) prints = lays_more old line (λ rest. block_onto body (left rest)) left (λ rest. prints.0 (left rest)) prints.1
    by_line None prints =
        let inner = old ++ open_mark ∷ [] in
        lays_both old inner (line_or level None steps old) (λ rest. block_onto body (left rest)) (λ rest. steps_pieces body (left rest)) left
        (lays_more old (open_mark ∷ []) (λ rest. block_onto body (left rest)) (λ rest. steps_pieces body (left rest)) (λ rest. refl) (tt, tt))
        (lays_both inner (steps inner) (line_or level None steps old) (λ rest. steps_pieces body (left rest)) (λ rest. closes ∷ left rest) left
        (record { same = λ rest. (lays inner).same (left rest); apart = (lays inner).apart })
        (lays_more (steps inner) (mark_after (gaps.Line level) mark.Close ∷ []) (λ rest. closes ∷ left rest) left (λ rest. refl) (tt, tt)))

-- ---- steps

mutual
  steps_lay : (bare : List Bool) (level : ℕ) (ss : Steps) → LaysSteps ss (with_steps bare level ss)
  steps_lay bare level stop before = lays_none before (steps_pieces stop)
  steps_lay bare level (step s ss) before =
      let line = step_line level s in
      let all = steps_pieces (step s ss) in
      let after : Print = λ rest. tail_onto s (steps_pieces ss rest) in
      lays_both before (before ++ line) (with_steps bare level (step s ss) before) all after (steps_pieces stop)
      (lays_more before line all after (λ rest. ap pieces_shapes (head_and_tail s (steps_pieces ss rest))
      ∙ head_front s (tail_onto s (steps_pieces ss rest))
      ∙ ap (λ (xs : List Shape). xs ++ pieces_shapes (tail_onto s (steps_pieces ss rest))) (sym (line_shapes level (head_of s))))
      (line_apart level (head_of s)))
      (lays_both (before ++ line) (with_rest bare level s (before ++ line)) (with_steps bare level (step s ss) before) after (steps_pieces ss) (steps_pieces stop)
      (rest_lays bare level s (steps_pieces ss) (before ++ line)) (steps_lay bare level ss (with_rest bare level s (before ++ line))))

  rest_lays : (bare : List Bool) (level : ℕ) (s : Step) (left : Print) (before : List SpacedToken) →
      Lays before (λ rest. tail_onto s (left rest)) (with_rest bare level s before) left
  rest_lays bare level (scope name deadline shield fail body) left before =
      block_lays bare level body (with_steps bare (level + 1) body) left (steps_lay bare (level + 1) body) before
  rest_lays bare level (nursery name deadline shield body) left before =
      block_lays bare level body (with_steps bare (level + 1) body) left (steps_lay bare (level + 1) body) before
  rest_lays bare level (event name body) left before =
      block_lays bare level body (with_steps bare (level + 1) body) left (steps_lay bare (level + 1) body) before
  rest_lays bare level (object name kind body) left before =
      block_lays bare level body (with_steps bare (level + 1) body) left (steps_lay bare (level + 1) body) before
  rest_lays bare level (ask_for name Acquire body) left before =
      block_lays bare level body (with_steps bare (level + 1) body) left (steps_lay bare (level + 1) body) before
  rest_lays bare level (ask_for name Send body) left before =
      lays_more before (semicolon_mark ∷ []) (λ rest. ends ∷ left rest) left (λ rest. refl) (refl, tt)
  rest_lays bare level (ask_for name Receive body) left before =
      block_lays bare level body (with_steps bare (level + 1) body) left (steps_lay bare (level + 1) body) before
  rest_lays bare level (start name over body) left before =
      block_lays bare level body (with_steps bare (level + 1) body) left (steps_lay bare (level + 1) body) before
  rest_lays bare level (repeat count over body) left before =
      block_lays bare level body (with_steps bare (level + 1) body) left (steps_lay bare (level + 1) body) before
  rest_lays bare level (attempt body handler cleanup) left before =
      let tried = with_block bare level body (with_steps bare (level + 1) body) before in
      let handled = with_handler bare level handler tried in
      lays_both before tried (with_cleanup bare level cleanup handled) (λ rest. tail_onto (attempt body handler cleanup) (left rest))
      (λ rest. handler_pieces handler (cleanup_pieces cleanup (left rest))) left
      (block_lays bare level body (with_steps bare (level + 1) body) (λ rest. handler_pieces handler (cleanup_pieces cleanup (left rest)))
      (steps_lay bare (level + 1) body) before)
      (lays_both tried handled (with_cleanup bare level cleanup handled) (λ rest. handler_pieces handler (cleanup_pieces cleanup (left rest)))
      (λ rest. cleanup_pieces cleanup (left rest)) left
      (handler_lays bare level handler (λ rest. cleanup_pieces cleanup (left rest)) tried) (cleanup_lays bare level cleanup left handled))
  rest_lays bare level _ left before = lays_more before (semicolon_mark ∷ []) (λ rest. ends ∷ left rest) left (λ rest. refl) (refl, tt)

  handler_lays : (bare : List Bool) (level : ℕ) (handler : Handled) (left : Print) (before : List SpacedToken) →
      Lays before (λ rest. handler_pieces handler (left rest)) (with_handler bare level handler before) left
  handler_lays bare level unhandled left before = lays_none before left
  handler_lays bare level (except name body) left before =
      let words = after_gap gaps.Space (pieces_shapes (keyword word.Except ∷ name_piece role.Handled name ∷ [])) in
      lays_both before (before ++ words) (with_handler bare level (except name body) before) (λ rest. handler_pieces (except name body) (left rest))
      (λ rest. block_onto body (left rest)) left
      (lays_more before words (λ rest. handler_pieces (except name body) (left rest)) (λ rest. block_onto body (left rest)) (λ rest. refl) (tt, (tt, tt)))
      (block_lays bare level body (with_steps bare (level + 1) body) left (steps_lay bare (level + 1) body) (before ++ words))

  cleanup_lays : (bare : List Bool) (level : ℕ) (cleanup : Cleaned) (left : Print) (before : List SpacedToken) →
      Lays before (λ rest. cleanup_pieces cleanup (left rest)) (with_cleanup bare level cleanup before) left
  cleanup_lays bare level uncleaned left before = lays_none before left
  cleanup_lays bare level (finally body) left before =
      let words = after_gap gaps.Space (pieces_shapes (keyword word.Finally ∷ [])) in
      lays_both before (before ++ words) (with_cleanup bare level (finally body) before) (λ rest. cleanup_pieces (finally body) (left rest))
      (λ rest. block_onto body (left rest)) left
      (lays_more before words (λ rest. cleanup_pieces (finally body) (left rest)) (λ rest. block_onto body (left rest)) (λ rest. refl) (tt, tt))
      (block_lays bare level body (with_steps bare (level + 1) body) left (steps_lay bare (level + 1) body) (before ++ words))

-- ---- a job

-- the tokens of a job are those that it prints, and each but the first is apart
pub job_lays : (bare : List Bool) (job : Tree) →
    (shapes_in (job_tokens bare job) ≡ pieces_shapes (job_pieces job)) × AreApartAfter (job_tokens bare job)
job_lays bare job =
    let words = after_gap gaps.Joined (pieces_shapes (keyword word.Job ∷ name_piece role.Given job.name ∷ [])) in
    let laid = block_lays bare 0 job.steps (with_steps bare 1 job.steps) (λ rest. rest) (steps_lay bare 1 job.steps) words in
    (sym (laid.same [] ∙ append-nil (shapes_in (job_tokens bare job))), laid.apart (tt, tt))
