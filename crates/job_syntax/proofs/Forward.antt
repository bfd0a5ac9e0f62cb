-- A token that is read for a nonterminal, followed by what fits the nonterminals that it leaves, fits.
use Rattle.std.proofs.Common.{◌≡◌, ℕ, Bool, true, false, cond, List, [], ◌∷◌, Option, Some, None, refl, sym, ap, subst, ◌∙◌}
use Rattle.std.specs.Str.{bytes_eq}
use Rattle.std.proofs.lemmas.Slice.Eq.{bytes_eq-Decides}
use Rattle.job_tree.specs.declared.format.Format.{Format}
use Rattle.job_tree.specs.declared.format.Format.TheVariants.{One, Two, Three}
use Rattle.job_tree.specs.Formats.{has_events}
use Rattle.job_tree.specs.declared.deadline.Deadline.TheVariants.{Never, After, At}
use Rattle.job_tree.specs.declared.object.ObjectKind.{ObjectKind}
use Rattle.job_tree.specs.declared.object.ObjectKind.TheVariants.{Limiter, Channel}
use Rattle.job_tree.specs.declared.object.Ask.{Ask}
use Rattle.job_tree.specs.declared.object.Ask.TheVariants.{Acquire, Send, Receive}
use Rattle.job_tree.specs.Tree.{Step, sleep, checkpoint, forever, pace, find, head, longest, need, raise, cancel, set_event, wait_for, ask_for, close_channel, scope, nursery, event, object, start, repeat, attempt, Steps, stop, step, unhandled, except, uncleaned, finally, Tree}
use Rattle.job_tokens.specs.declared.token.Mark.TheVariants as mark
use Rattle.job_tokens.specs.declared.token.Shape.{Shape}
use Rattle.job_tokens.specs.declared.token.Shape.TheVariants as shape
use Rattle.job_syntax.specs.declared.keyword.Keyword.{Keyword}
use Rattle.job_syntax.specs.declared.keyword.Keyword.TheVariants as word
use Rattle.job_syntax.specs.declared.nonterminal.Nonterminal.{Nonterminal}
use Rattle.job_syntax.specs.declared.nonterminal.Nonterminal.TheVariants as nonterminal
use Rattle.job_syntax.specs.Keywords.{spelling_of, keyword_among, keywords, keyword_of}
use Rattle.job_syntax.specs.Nonterminals.{Rest, next, text_rest, step_rest, cleanup_rest, tail_rest, scope_rest, shield_rest, fail_rest, over_rest, nursery_rest, nursery_shield_rest, outer_block, tail, cleanup, passes, ◌>>=◌}
use Rattle.job_syntax.specs.declared.role.Role.{Role}
use Rattle.job_syntax.specs.declared.role.Role.TheVariants as role
use Rattle.job_syntax.specs.Pieces.{Piece, keyword, name_piece, number, string, opens, ends, deadline_pieces, flag_pieces, over_pieces, passes_pieces, step_pieces, steps_pieces, MayDivide, MayHaveSteps, AreSteps, IsStep}
use Rattle.job_syntax.specs.Syntax.{IsBlock, IsTail, IsCleanupAndBlock, IsPasses, Stands, Fits, role_of}
use Rattle.job_syntax.proofs.Grammar.{Left, plain_head}

-- ---- the spelling of a keyword

among-spelling : (ks : List Keyword) (w : List ℕ) (k : Keyword) → keyword_among ks w ≡ Some k → spelling_of k ≡ w
among-spelling [] w k e = absurd cc
among-spelling (first ∷ ks) w k e = by_test (λ chosen. among-spelling ks w k chosen) (bytes_eq (spelling_of first) w) refl e
  where
    by_test : (keyword_among ks w ≡ Some k → spelling_of k ≡ w) → (b : Bool) → bytes_eq (spelling_of first) w ≡ b →
        cond b (Some first) (keyword_among ks w) ≡ Some k → spelling_of k ≡ w
    by_test others true is_so chosen = let same : first ≡ k = cc in
        subst (λ (x : Keyword). spelling_of x ≡ w) same ((bytes_eq-Decides (spelling_of first) w).0 is_so)
    by_test others false is_so chosen = others chosen

-- a word that is a keyword has the spelling of that keyword
pub keyword_of-spelling : (w : List ℕ) (k : Keyword) → keyword_of w ≡ Some k → spelling_of k ≡ w
unfolding keyword_of
keyword_of-spelling w k e = among-spelling keywords w k e

-- ---- blocks

abbrev on : Piece → List Piece → List Piece
on p ps = p ∷ ps

block_of : (format : Format) (inside : Bool) (ps rest : List Piece) → Stands format (outer_block inside) ps rest → IsBlock format inside ps rest
block_of format false ps rest is = is
block_of format true ps rest is = is

tail_of : (format : Format) (inside : Bool) (ps rest : List Piece) → Stands format (tail inside) ps rest → IsTail format inside ps rest
tail_of format false ps rest is = is
tail_of format true ps rest is = is

cleanup_of : (format : Format) (inside : Bool) (ps rest : List Piece) → Stands format (cleanup inside) ps rest →
    IsCleanupAndBlock format inside ps rest
cleanup_of format false ps rest is = is
cleanup_of format true ps rest is = is

-- what begins a block, followed by what it leaves, is a block
abbrev BlockFits : (format : Format) → Bool → List Nonterminal → List Piece → Type 0
BlockFits format inside ss ps = (rest : List Piece) × IsBlock format inside ps rest × Fits format ss rest

-- a step before a block
step_on : (format : Format) (inside : Bool) (s : Step) (ss : List Nonterminal) (ps rest : List Piece) (steps : Steps) → IsStep format inside s →
    AreSteps format inside steps →
    ps ≡ step_pieces s (steps_pieces steps rest) → Fits format ss rest → BlockFits format inside ss ps
step_on format inside s ss ps rest steps is are e fits = (rest, (step s steps, (is, are), e), fits)

-- ---- steps

plain_step : (format : Format) (inside : Bool) (s : Step) (first : Piece) (ss : List Nonterminal) (ps : List Piece) → IsStep format inside s →
    ((rest : List Piece) → step_pieces s rest ≡ first ∷ ends ∷ rest)
    → Fits format (nonterminal.Semicolon ∷ outer_block inside ∷ ss) ps → BlockFits format inside ss (first ∷ ps)
plain_step format inside s first ss ps is printed (r, e, (q, block, fits)) =
    let b = block_of format inside r q block in
    step_on format inside s ss (first ∷ ps) q b.0 is b.1 (ap (on first) (e ∙ ap (on ends) b.2) ∙ sym (printed (steps_pieces b.0 q))) fits

number_step : (format : Format) (inside : Bool) (s : ℕ → Step) (first : Piece) (ss : List Nonterminal) (ps : List Piece) →
    ((n : ℕ) → IsStep format inside (s n)) →
    ((n : ℕ) (rest : List Piece) → step_pieces (s n) rest ≡ first ∷ number n ∷ ends ∷ rest)
    → Fits format (nonterminal.Number ∷ nonterminal.Semicolon ∷ outer_block inside ∷ ss) ps → BlockFits format inside ss (first ∷ ps)
number_step format inside s first ss ps is printed (r, (n, e), (r', e', (q, block, fits))) =
    let b = block_of format inside r' q block in
    step_on format inside (s n) ss (first ∷ ps) q b.0 (is n) b.1 (ap (on first) (e ∙ ap (on (number n)) (e' ∙ ap (on ends) b.2))
    ∙ sym (printed n (steps_pieces b.0 q))) fits

-- a step that is a keyword and one name is read back from its tokens
name_step : (format : Format) (inside : Bool) (s : List ℕ → Step) (role : Role) (name : Nonterminal)
    (names : (ps rest : List Piece) → Stands format name ps rest → (n : List ℕ) × (ps ≡ name_piece role n ∷ rest)) (first : Piece)
    (ss : List Nonterminal)
    (ps : List Piece) → ((n : List ℕ) → IsStep format inside (s n))
    → ((n : List ℕ) (rest : List Piece) → step_pieces (s n) rest ≡ first ∷ name_piece role n ∷ ends ∷ rest) →
    Fits format (name ∷ nonterminal.Semicolon ∷ outer_block inside ∷ ss) ps → BlockFits format inside ss (first ∷ ps)
name_step format inside s role name names first ss ps is printed (r, stands, (r', e', (q, block, fits))) =
    let n = names ps r stands in
    let b = block_of format inside r' q block in
    step_on format inside (s n.0) ss (first ∷ ps) q b.0 (is n.0) b.1 (ap (on first) (n.1 ∙ ap (on (name_piece role n.0)) (e' ∙ ap (on ends) b.2))
    ∙ sym (printed n.0 (steps_pieces b.0 q))) fits

find_step : (format : Format) (inside : Bool) (ss : List Nonterminal) (ps : List Piece) →
    Fits format (nonterminal.Text ∷ nonterminal.Semicolon ∷ outer_block inside ∷ ss) ps →
    BlockFits format inside ss (keyword word.Find ∷ ps)
find_step format inside ss ps (r, (t, e), (r', e', (q, block, fits))) =
    let b = block_of format inside r' q block in
    step_on format inside (find t) ss (keyword word.Find ∷ ps) q b.0 tt b.1
    (ap (on (keyword word.Find)) (e ∙ ap (on (string t)) (e' ∙ ap (on ends) b.2))) fits

need_step : (format : Format) (inside : Bool) (ss : List Nonterminal) (ps : List Piece) →
    Fits format (nonterminal.Text ∷ nonterminal.Raised ∷ nonterminal.Semicolon ∷ outer_block inside ∷ ss) ps →
    BlockFits format inside ss (keyword word.Need ∷ ps)
need_step format inside ss ps (r, (t, e), (r', (n, e'), (r'', e'', (q, block, fits)))) =
    let b = block_of format inside r'' q block in
    step_on format inside (need t n) ss (keyword word.Need ∷ ps) q b.0 tt b.1
    (ap (on (keyword word.Need)) (e ∙ ap (on (string t)) (e' ∙ ap (on (name_piece role.Raised n)) (e'' ∙ ap (on ends) b.2)))) fits

scope_step : (format : Format) (inside : Bool) (ss : List Nonterminal) (ps : List Piece) →
    Fits format (nonterminal.Given ∷ nonterminal.Scope ∷ outer_block inside ∷ ss) ps →
    BlockFits format inside ss (keyword word.Scope ∷ ps)
scope_step format inside ss ps (r, (n, e), (r', (d, s, f, body, are, e'), (q, block, fits))) =
    let b = block_of format inside r' q block in
    let tail_is : r ≡ deadline_pieces d (flag_pieces word.Shield s
    (flag_pieces word.Fail f (opens ∷ steps_pieces body (steps_pieces b.0 q)))) = e'
    ∙ ap (λ (x : List Piece). deadline_pieces d (flag_pieces word.Shield s (flag_pieces word.Fail f (opens ∷ steps_pieces body x))))
    b.2 in
    step_on format inside (scope n d s f body) ss (keyword word.Scope ∷ ps) q b.0 are b.1
    (ap (on (keyword word.Scope)) (e ∙ ap (on (name_piece role.Given n)) tail_is)) fits

nursery_step : (format : Format) (inside : Bool) (ss : List Nonterminal) (ps : List Piece) →
    Fits format (nonterminal.Given ∷ nonterminal.Nursery ∷ outer_block inside ∷ ss) ps → BlockFits format inside ss (keyword word.Nursery ∷ ps)
nursery_step format inside ss ps (r, (n, e), (r', (d, s, body, may, are, e'), (q, block, fits))) =
    let b = block_of format inside r' q block in
    let tail_is : r ≡ deadline_pieces d (flag_pieces word.Shield s (opens ∷ steps_pieces body (steps_pieces b.0 q))) = e'
    ∙ ap (λ (x : List Piece). deadline_pieces d (flag_pieces word.Shield s (opens ∷ steps_pieces body x))) b.2 in
    step_on format inside (nursery n d s body) ss (keyword word.Nursery ∷ ps) q b.0 (may, are) b.1
    (ap (on (keyword word.Nursery)) (e ∙ ap (on (name_piece role.Given n)) tail_is)) fits

-- `repeat` in format 2, and in format 3
counted_step : (inside : Bool) (ss : List Nonterminal) (ps : List Piece) →
    Fits Two (nonterminal.Number ∷ nonterminal.Open ∷ nonterminal.Steps ∷ outer_block inside ∷ ss) ps →
    BlockFits Two inside ss (keyword word.Repeat ∷ ps)
counted_step inside ss ps (r, (n, e), (r', e', (r'', (body, are, e''), (q, block, fits)))) =
    let b = block_of Two inside r'' q block in
    step_on Two inside (repeat n false body) ss (keyword word.Repeat ∷ ps) q b.0 (refl, tt, are) b.1
    (ap (on (keyword word.Repeat)) (e ∙ ap (on (number n)) (e' ∙ ap (on opens) (e'' ∙ ap (steps_pieces body) b.2)))) fits

passes_of : (format : Format) (inside : Bool) (ps rest : List Piece) → Stands format (passes inside) ps rest → IsPasses format inside ps rest
passes_of format false ps rest is = is
passes_of format true ps rest is = is

may_divide : (over : Bool) → MayDivide Three over
may_divide false = tt
may_divide true = refl

repeat_step : (inside : Bool) (ss : List Nonterminal) (ps : List Piece) → Fits Three (passes inside ∷ outer_block inside ∷ ss) ps →
    BlockFits Three inside ss (keyword word.Repeat ∷ ps)
repeat_step inside ss ps (r, looped, (q, block, fits)) =
    let l = passes_of Three inside ps r looped in
    let b = block_of Three inside r q block in
    step_on Three inside (repeat l.0 l.1 l.2) ss (keyword word.Repeat ∷ ps) q b.0 (refl, may_divide l.1, l.3) b.1
    (ap (on (keyword word.Repeat)) (l.4 ∙ ap (λ (x : List Piece). passes_pieces l.1 l.0 (opens ∷ steps_pieces l.2 x)) b.2)) fits

event_step : (format : Format) (inside : Bool) (ss : List Nonterminal) (ps : List Piece) → has_events format ≡ true →
    Fits format (nonterminal.Given ∷ nonterminal.Open ∷ nonterminal.Steps ∷ outer_block inside ∷ ss) ps →
    BlockFits format inside ss (keyword word.Event ∷ ps)
event_step format inside ss ps may (r, (n, e), (r', e', (r'', (body, are, e''), (q, block, fits)))) =
    let b = block_of format inside r'' q block in
    step_on format inside (event n body) ss (keyword word.Event ∷ ps) q b.0 (may, are) b.1
    (ap (on (keyword word.Event)) (e ∙ ap (on (name_piece role.Given n)) (e' ∙ ap (on opens) (e'' ∙ ap (steps_pieces body) b.2)))) fits

-- `limiter` and `channel`
object_step : (format : Format) (inside : Bool) (kind : ℕ → ObjectKind) (first : Piece) (ss : List Nonterminal) (ps : List Piece) →
    has_events format ≡ true
    → ((n : List ℕ) (count : ℕ) (body : Steps) (rest : List Piece) →
    step_pieces (object n (kind count) body) rest ≡ first ∷ name_piece role.Given n ∷ number count ∷ opens ∷ steps_pieces body rest) →
    Fits format (nonterminal.Given ∷ nonterminal.Number ∷ nonterminal.Open ∷ nonterminal.Steps ∷ outer_block inside ∷ ss) ps →
    BlockFits format inside ss (first ∷ ps)
object_step format inside kind first ss ps may printed (r, (n, e), (r', (count, e'), (r'', e'', (r''', (body, are, e'''), (q, block, fits))))) =
    let b = block_of format inside r''' q block in
    step_on format inside (object n (kind count) body) ss (first ∷ ps) q b.0 (may, are) b.1
    (ap (on first) (e ∙ ap (on (name_piece role.Given n)) (e' ∙ ap (on (number count))
    (e'' ∙ ap (on opens) (e''' ∙ ap (steps_pieces body) b.2)))) ∙ sym (printed n count body (steps_pieces b.0 q))) fits

-- `acquire` and `receive`
grant_step : (format : Format) (inside : Bool) (ask : Ask) (first : Piece) (ss : List Nonterminal) (ps : List Piece) → has_events format ≡ true
    → ((body : Steps) → MayHaveSteps ask body)
    → ((n : List ℕ) (body : Steps) (rest : List Piece) →
    step_pieces (ask_for n ask body) rest ≡ first ∷ name_piece role.Target n ∷ opens ∷ steps_pieces body rest) →
    Fits format (nonterminal.Target ∷ nonterminal.Open ∷ nonterminal.Steps ∷ outer_block inside ∷ ss) ps →
    BlockFits format inside ss (first ∷ ps)
grant_step format inside ask first ss ps may granted printed (r, (n, e), (r', e', (r'', (body, are, e''), (q, block, fits)))) =
    let b = block_of format inside r'' q block in
    step_on format inside (ask_for n ask body) ss (first ∷ ps) q b.0 (may, granted body, are) b.1
    (ap (on first) (e ∙ ap (on (name_piece role.Target n)) (e' ∙ ap (on opens) (e'' ∙ ap (steps_pieces body) b.2)))
    ∙ sym (printed n body (steps_pieces b.0 q))) fits

start_step : (format : Format) (ss : List Nonterminal) (ps : List Piece) → Fits format (nonterminal.Given ∷ nonterminal.Over ∷ nonterminal.Items ∷ ss) ps →
    BlockFits format true ss (keyword word.Start ∷ ps)
start_step format ss ps (r, (n, e), (r', (o, body, are, e'), (q, (steps, following, e''), fits))) =
    step_on format true (start n o body) ss (keyword word.Start ∷ ps) q steps (refl, are) following
    (ap (on (keyword word.Start)) (e ∙ ap (on (name_piece role.Given n))
    (e' ∙ ap (λ (x : List Piece). over_pieces o (opens ∷ steps_pieces body x)) e''))) fits

try_step : (format : Format) (inside : Bool) (ss : List Nonterminal) (ps : List Piece) →
    Fits format (nonterminal.Open ∷ nonterminal.Steps ∷ tail inside ∷ ss) ps →
    BlockFits format inside ss (keyword word.Try ∷ ps)
try_step format inside ss ps (r, e, (r', (body, are, e'), (q, block, fits))) =
    let t = tail_of format inside r' q block in
    step_on format inside (attempt body t.0 t.1) ss (keyword word.Try ∷ ps) q t.2 (t.3, are, t.4, t.5) t.6
    (ap (on (keyword word.Try)) (e ∙ ap (on opens) (e' ∙ ap (steps_pieces body) t.7))) fits

by_step : (format : Format) (inside : Bool) (k : Keyword) (ss : List Nonterminal) (ps : List Piece) →
    Left format (step_rest format inside k) ss ps →
    BlockFits format inside ss (keyword k ∷ ps)
by_step format inside word.Sleep ss ps left = number_step format inside sleep (keyword word.Sleep) ss ps (λ n. tt) (λ n rest. refl) left
by_step format inside word.Checkpoint ss ps left = plain_step format inside checkpoint (keyword word.Checkpoint) ss ps tt
    (λ rest. refl) left
by_step format inside word.Forever ss ps left = plain_step format inside forever (keyword word.Forever) ss ps tt (λ rest. refl) left
by_step format inside word.Pace ss ps left = number_step format inside pace (keyword word.Pace) ss ps (λ n. tt) (λ n rest. refl) left
by_step format inside word.Find ss ps left = find_step format inside ss ps left
by_step format inside word.Head ss ps left = number_step format inside head (keyword word.Head) ss ps (λ n. tt) (λ n rest. refl) left
by_step format inside word.Longest ss ps left = plain_step format inside longest (keyword word.Longest) ss ps tt (λ rest. refl) left
by_step format inside word.Need ss ps left = need_step format inside ss ps left
by_step format inside word.Raise ss ps left =
    name_step format inside raise role.Raised nonterminal.Raised (λ ps rest s. s) (keyword word.Raise) ss ps (λ n. tt) (λ n rest. refl) left
by_step format inside word.Cancel ss ps left =
    name_step format inside cancel role.Target nonterminal.Target (λ ps rest s. s) (keyword word.Cancel) ss ps (λ n. tt) (λ n rest. refl) left
by_step format inside word.Scope ss ps left = scope_step format inside ss ps left
by_step format inside word.Nursery ss ps left = nursery_step format inside ss ps left
by_step format true word.Start ss ps left = start_step format ss ps left
by_step format false word.Start ss ps left = absurd left
by_step Two inside word.Repeat ss ps left = counted_step inside ss ps left
by_step Three inside word.Repeat ss ps left = repeat_step inside ss ps left
by_step One inside word.Repeat ss ps left = absurd left
by_step Three inside word.Event ss ps left = event_step Three inside ss ps refl left
by_step Two inside word.Event ss ps left = absurd left
by_step One inside word.Event ss ps left = absurd left
by_step Three inside word.Set ss ps left =
    name_step Three inside set_event role.Target nonterminal.Target (λ ps rest s. s) (keyword word.Set) ss ps (λ n. refl) (λ n rest. refl) left
by_step Two inside word.Set ss ps left = absurd left
by_step One inside word.Set ss ps left = absurd left
by_step Three inside word.Wait ss ps left =
    name_step Three inside wait_for role.Target nonterminal.Target (λ ps rest s. s) (keyword word.Wait) ss ps (λ n. refl) (λ n rest. refl) left
by_step Two inside word.Wait ss ps left = absurd left
by_step One inside word.Wait ss ps left = absurd left
by_step Three inside word.Limiter ss ps left =
    object_step Three inside Limiter (keyword word.Limiter) ss ps refl (λ n count body rest. refl) left
by_step Two inside word.Limiter ss ps left = absurd left
by_step One inside word.Limiter ss ps left = absurd left
by_step Three inside word.Acquire ss ps left =
    grant_step Three inside Acquire (keyword word.Acquire) ss ps refl (λ body. tt) (λ n body rest. refl) left
by_step Two inside word.Acquire ss ps left = absurd left
by_step One inside word.Acquire ss ps left = absurd left
by_step Three inside word.Channel ss ps left =
    object_step Three inside Channel (keyword word.Channel) ss ps refl (λ n count body rest. refl) left
by_step Two inside word.Channel ss ps left = absurd left
by_step One inside word.Channel ss ps left = absurd left
by_step Three inside word.Send ss ps left =
    name_step Three inside (λ n. ask_for n Send stop) role.Target nonterminal.Target (λ ps rest s. s) (keyword word.Send) ss ps
    (λ n. (refl, tt, tt)) (λ n rest. refl) left
by_step Two inside word.Send ss ps left = absurd left
by_step One inside word.Send ss ps left = absurd left
by_step Three inside word.Receive ss ps left =
    grant_step Three inside Receive (keyword word.Receive) ss ps refl (λ body. tt) (λ n body rest. refl) left
by_step Two inside word.Receive ss ps left = absurd left
by_step One inside word.Receive ss ps left = absurd left
by_step Three inside word.Close ss ps left =
    name_step Three inside close_channel role.Target nonterminal.Target (λ ps rest s. s) (keyword word.Close) ss ps (λ n. refl)
    (λ n rest. refl) left
by_step Two inside word.Close ss ps left = absurd left
by_step One inside word.Close ss ps left = absurd left
by_step format inside word.Try ss ps left = try_step format inside ss ps left
by_step format inside _ ss ps left = absurd left

-- ---- what may follow a handler or the block of a `try`

abbrev CleanupFits : (format : Format) → Bool → List Nonterminal → List Piece → Type 0
CleanupFits format inside ss ps = (rest : List Piece) × IsCleanupAndBlock format inside ps rest × Fits format ss rest

abbrev TailFits : (format : Format) → Bool → List Nonterminal → List Piece → Type 0
TailFits format inside ss ps = (rest : List Piece) × IsTail format inside ps rest × Fits format ss rest

unclean : (format : Format) (inside : Bool) (ss : List Nonterminal) (ps : List Piece) → BlockFits format inside ss ps →
    CleanupFits format inside ss ps
unclean format inside ss ps (rest, (steps, are, e), fits) = (rest, (uncleaned, steps, tt, are, e), fits)

clean_step : (format : Format) (inside : Bool) (ss : List Nonterminal) (ps : List Piece) →
    Fits format (nonterminal.Open ∷ nonterminal.Steps ∷ outer_block inside ∷ ss) ps →
    CleanupFits format inside ss (keyword word.Finally ∷ ps)
clean_step format inside ss ps (r, e, (r', (body, are, e'), (q, block, fits))) =
    let b = block_of format inside r' q block in
    (q, (finally body, b.0, are, b.1, ap (on (keyword word.Finally)) (e ∙ ap (on opens) (e' ∙ ap (steps_pieces body) b.2))), fits)

by_cleanup : (format : Format) (inside : Bool) (k : Keyword) (ss : List Nonterminal) (ps : List Piece) →
    Left format (cleanup_rest format inside k) ss ps →
    CleanupFits format inside ss (keyword k ∷ ps)
by_cleanup format inside word.Finally ss ps left = clean_step format inside ss ps left
by_cleanup format true word.Start ss ps left = unclean format true ss (keyword word.Start ∷ ps) (by_step format true word.Start ss ps left)
by_cleanup format false word.Start ss ps left = absurd left
by_cleanup format inside word.Sleep ss ps left = unclean format inside ss (keyword word.Sleep ∷ ps)
    (by_step format inside word.Sleep ss ps left)
by_cleanup format inside word.Checkpoint ss ps left = unclean format inside ss (keyword word.Checkpoint ∷ ps)
    (by_step format inside word.Checkpoint ss ps left)
by_cleanup format inside word.Forever ss ps left = unclean format inside ss (keyword word.Forever ∷ ps)
    (by_step format inside word.Forever ss ps left)
by_cleanup format inside word.Pace ss ps left = unclean format inside ss (keyword word.Pace ∷ ps)
    (by_step format inside word.Pace ss ps left)
by_cleanup format inside word.Find ss ps left = unclean format inside ss (keyword word.Find ∷ ps)
    (by_step format inside word.Find ss ps left)
by_cleanup format inside word.Head ss ps left = unclean format inside ss (keyword word.Head ∷ ps)
    (by_step format inside word.Head ss ps left)
by_cleanup format inside word.Longest ss ps left = unclean format inside ss (keyword word.Longest ∷ ps)
    (by_step format inside word.Longest ss ps left)
by_cleanup format inside word.Need ss ps left = unclean format inside ss (keyword word.Need ∷ ps)
    (by_step format inside word.Need ss ps left)
by_cleanup format inside word.Raise ss ps left = unclean format inside ss (keyword word.Raise ∷ ps)
    (by_step format inside word.Raise ss ps left)
by_cleanup format inside word.Cancel ss ps left = unclean format inside ss (keyword word.Cancel ∷ ps)
    (by_step format inside word.Cancel ss ps left)
by_cleanup format inside word.Scope ss ps left = unclean format inside ss (keyword word.Scope ∷ ps)
    (by_step format inside word.Scope ss ps left)
by_cleanup format inside word.Nursery ss ps left = unclean format inside ss (keyword word.Nursery ∷ ps)
    (by_step format inside word.Nursery ss ps left)
by_cleanup Two inside word.Repeat ss ps left = unclean Two inside ss (keyword word.Repeat ∷ ps) (by_step Two inside word.Repeat ss ps left)
by_cleanup Three inside word.Repeat ss ps left = unclean Three inside ss (keyword word.Repeat ∷ ps) (by_step Three inside word.Repeat ss ps left)
by_cleanup One inside word.Repeat ss ps left = absurd left
by_cleanup Three inside word.Event ss ps left = unclean Three inside ss (keyword word.Event ∷ ps) (by_step Three inside word.Event ss ps left)
by_cleanup Two inside word.Event ss ps left = absurd left
by_cleanup One inside word.Event ss ps left = absurd left
by_cleanup Three inside word.Set ss ps left = unclean Three inside ss (keyword word.Set ∷ ps) (by_step Three inside word.Set ss ps left)
by_cleanup Two inside word.Set ss ps left = absurd left
by_cleanup One inside word.Set ss ps left = absurd left
by_cleanup Three inside word.Wait ss ps left = unclean Three inside ss (keyword word.Wait ∷ ps) (by_step Three inside word.Wait ss ps left)
by_cleanup Two inside word.Wait ss ps left = absurd left
by_cleanup One inside word.Wait ss ps left = absurd left
by_cleanup Three inside word.Limiter ss ps left = unclean Three inside ss (keyword word.Limiter ∷ ps)
    (by_step Three inside word.Limiter ss ps left)
by_cleanup Two inside word.Limiter ss ps left = absurd left
by_cleanup One inside word.Limiter ss ps left = absurd left
by_cleanup Three inside word.Acquire ss ps left = unclean Three inside ss (keyword word.Acquire ∷ ps)
    (by_step Three inside word.Acquire ss ps left)
by_cleanup Two inside word.Acquire ss ps left = absurd left
by_cleanup One inside word.Acquire ss ps left = absurd left
by_cleanup Three inside word.Channel ss ps left = unclean Three inside ss (keyword word.Channel ∷ ps)
    (by_step Three inside word.Channel ss ps left)
by_cleanup Two inside word.Channel ss ps left = absurd left
by_cleanup One inside word.Channel ss ps left = absurd left
by_cleanup Three inside word.Send ss ps left = unclean Three inside ss (keyword word.Send ∷ ps)
    (by_step Three inside word.Send ss ps left)
by_cleanup Two inside word.Send ss ps left = absurd left
by_cleanup One inside word.Send ss ps left = absurd left
by_cleanup Three inside word.Receive ss ps left = unclean Three inside ss (keyword word.Receive ∷ ps)
    (by_step Three inside word.Receive ss ps left)
by_cleanup Two inside word.Receive ss ps left = absurd left
by_cleanup One inside word.Receive ss ps left = absurd left
by_cleanup Three inside word.Close ss ps left = unclean Three inside ss (keyword word.Close ∷ ps)
    (by_step Three inside word.Close ss ps left)
by_cleanup Two inside word.Close ss ps left = absurd left
by_cleanup One inside word.Close ss ps left = absurd left
by_cleanup format inside word.Try ss ps left = unclean format inside ss (keyword word.Try ∷ ps) (by_step format inside word.Try ss ps left)
by_cleanup format inside _ ss ps left = absurd left

handler_step : (format : Format) (inside : Bool) (ss : List Nonterminal) (ps : List Piece) →
    Fits format (nonterminal.Handled ∷ nonterminal.Open ∷ nonterminal.Steps ∷ cleanup inside ∷ ss) ps →
    TailFits format inside ss (keyword word.Except ∷ ps)
handler_step format inside ss ps (r, (n, e), (r', e', (r'', (body, are, e''), (q, block, fits)))) =
    let c = cleanup_of format inside r'' q block in (
      q,
      (
        except n body,
        c.0,
        c.1,
        tt,
        are,
        c.2,
        c.3,
        ap (on (keyword word.Except))
            (e ∙ ap (on (name_piece role.Handled n)) (e' ∙ ap (on opens) (e'' ∙ ap (steps_pieces body) c.4))),
      ),
      fits,
    )

finally_step : (format : Format) (inside : Bool) (ss : List Nonterminal) (ps : List Piece) →
    Fits format (nonterminal.Open ∷ nonterminal.Steps ∷ outer_block inside ∷ ss) ps →
    TailFits format inside ss (keyword word.Finally ∷ ps)
finally_step format inside ss ps (r, e, (r', (body, are, e'), (q, block, fits))) =
    let b = block_of format inside r' q block in (
      q,
      (
        unhandled,
        finally body,
        b.0,
        tt,
        tt,
        are,
        b.1,
        ap (on (keyword word.Finally))
            (e ∙ ap (on opens) (e' ∙ ap (steps_pieces body) b.2)),
      ),
      fits,
    )

by_tail : (format : Format) (inside : Bool) (k : Keyword) (ss : List Nonterminal) (ps : List Piece) → Left format (tail_rest inside k) ss ps →
    TailFits format inside ss (keyword k ∷ ps)
by_tail format inside word.Except ss ps left = handler_step format inside ss ps left
by_tail format inside word.Finally ss ps left = finally_step format inside ss ps left
by_tail format inside _ ss ps left = absurd left

-- ---- the heads of scopes and starts

body_on : (format : Format) (ss : List Nonterminal) (ps : List Piece) → Fits format (nonterminal.Open ∷ nonterminal.Steps ∷ ss) ps →
    (rest : List Piece) × (body : Steps)
    × AreSteps format false body × (ps ≡ opens ∷ steps_pieces body rest) × Fits format ss rest
body_on format ss ps (r, e, (q, (body, are, e'), fits)) = (q, body, are, e ∙ ap (on opens) e', fits)

by_fail : (format : Format) (k : Keyword) (ss : List Nonterminal) (ps : List Piece) → Left format (fail_rest k) ss ps →
    Fits format (nonterminal.Fail ∷ ss) (keyword k ∷ ps)
by_fail format word.Fail ss ps left = let b = body_on format ss ps left in (b.0, (true, b.1, b.2, ap (on (keyword word.Fail)) b.3), b.4)
by_fail format _ ss ps left = absurd left

by_shield : (format : Format) (k : Keyword) (ss : List Nonterminal) (ps : List Piece) → Left format (shield_rest k) ss ps →
    Fits format (nonterminal.Shield ∷ ss) (keyword k ∷ ps)
by_shield format word.Shield ss ps (r, (f, body, are, e), fits) = (r, (true, f, body, are, ap (on (keyword word.Shield)) e), fits)
by_shield format word.Fail ss ps left = let b = body_on format ss ps left in
    (b.0, (false, true, b.1, b.2, ap (on (keyword word.Fail)) b.3), b.4)
by_shield format _ ss ps left = absurd left

by_scope : (format : Format) (k : Keyword) (ss : List Nonterminal) (ps : List Piece) → Left format (scope_rest k) ss ps →
    Fits format (nonterminal.Scope ∷ ss) (keyword k ∷ ps)
by_scope format word.After ss ps (r, (n, e), (q, (s, f, body, are, e'), fits)) =
    (q, (After n, s, f, body, are, ap (on (keyword word.After)) (e ∙ ap (on (number n)) e')), fits)
by_scope format word.At ss ps (r, (n, e), (q, (s, f, body, are, e'), fits)) =
    (q, (At n, s, f, body, are, ap (on (keyword word.At)) (e ∙ ap (on (number n)) e')), fits)
by_scope format word.Shield ss ps (r, (f, body, are, e), fits) = (r, (Never, true, f, body, are, ap (on (keyword word.Shield)) e), fits)
by_scope format word.Fail ss ps left = let b = body_on format ss ps left in
    (b.0, (Never, false, true, b.1, b.2, ap (on (keyword word.Fail)) b.3), b.4)
by_scope format _ ss ps left = absurd left

items_on : (format : Format) (ss : List Nonterminal) (ps : List Piece) → Fits format (nonterminal.Open ∷ nonterminal.Items ∷ ss) ps →
    (rest : List Piece) × (body : Steps) × AreSteps format true body × (ps ≡ opens ∷ steps_pieces body rest) × Fits format ss rest
items_on format ss ps (r, e, (q, (body, are, e'), fits)) = (q, body, are, e ∙ ap (on opens) e', fits)

by_nursery_shield : (format : Format) (k : Keyword) (ss : List Nonterminal) (ps : List Piece) →
    Left format (nursery_shield_rest format k) ss ps → Fits format (nonterminal.NurseryShield ∷ ss) (keyword k ∷ ps)
by_nursery_shield One k ss ps left = absurd left
by_nursery_shield Two word.Shield ss ps left =
    let b = items_on Two ss ps left in (b.0, (true, b.1, tt, b.2, ap (on (keyword word.Shield)) b.3), b.4)
by_nursery_shield Two _ ss ps left = absurd left
by_nursery_shield Three word.Shield ss ps left =
    let b = items_on Three ss ps left in (b.0, (true, b.1, tt, b.2, ap (on (keyword word.Shield)) b.3), b.4)
by_nursery_shield Three _ ss ps left = absurd left

by_nursery : (format : Format) (k : Keyword) (ss : List Nonterminal) (ps : List Piece) → Left format (nursery_rest format k) ss ps →
    Fits format (nonterminal.Nursery ∷ ss) (keyword k ∷ ps)
by_nursery One k ss ps left = absurd left
by_nursery Two word.After ss ps (r, (n, e), (q, (s, body, may, are, e'), fits)) =
    (q, (After n, s, body, tt, are, ap (on (keyword word.After)) (e ∙ ap (on (number n)) e')), fits)
by_nursery Two word.Shield ss ps left =
    let b = items_on Two ss ps left in (b.0, (Never, true, b.1, tt, b.2, ap (on (keyword word.Shield)) b.3), b.4)
by_nursery Two _ ss ps left = absurd left
by_nursery Three word.After ss ps (r, (n, e), (q, (s, body, may, are, e'), fits)) =
    (q, (After n, s, body, tt, are, ap (on (keyword word.After)) (e ∙ ap (on (number n)) e')), fits)
by_nursery Three word.Shield ss ps left =
    let b = items_on Three ss ps left in (b.0, (Never, true, b.1, tt, b.2, ap (on (keyword word.Shield)) b.3), b.4)
by_nursery Three _ ss ps left = absurd left

by_over : (format : Format) (k : Keyword) (ss : List Nonterminal) (ps : List Piece) → Left format (over_rest k) ss ps →
    Fits format (nonterminal.Over ∷ ss) (keyword k ∷ ps)
by_over format word.Over ss ps (r, (n, e), left) = let b = body_on format ss r left in
    (b.0, (Some n, b.1, b.2, ap (on (keyword word.Over)) (e ∙ ap (on (number n)) b.3)), b.4)
by_over format _ ss ps left = absurd left

by_passes : (format : Format) (inside : Bool) (k : Keyword) (ss : List Nonterminal) (ps : List Piece) → Left format (over_rest k) ss ps →
    Fits format (passes inside ∷ ss) (keyword k ∷ ps)
by_passes format false word.Over ss ps (r, (n, e), left) = let b = body_on format ss r left in
    (b.0, (n, true, b.1, b.2, ap (on (keyword word.Over)) (e ∙ ap (on (number n)) b.3)), b.4)
by_passes format true word.Over ss ps (r, (n, e), left) = let b = body_on format ss r left in
    (b.0, (n, true, b.1, b.2, ap (on (keyword word.Over)) (e ∙ ap (on (number n)) b.3)), b.4)
by_passes format inside _ ss ps left = absurd left

by_text : (format : Format) (k : Keyword) (ss : List Nonterminal) (ps : List Piece) → Left format (text_rest k) ss ps →
    Fits format (nonterminal.Job ∷ ss) (keyword k ∷ ps)
by_text format word.Job ss ps (r, (n, e), left) =
    let b = body_on format ss r left in
    let job : Tree = record { format = format; name = n; steps = b.1 } in
    (b.0, (job, refl, b.2, ap (on (keyword word.Job)) (e ∙ ap (on (name_piece role.Given n)) b.3)), b.4)
by_text format _ ss ps left = absurd left

-- ---- all nonterminals

-- a word that is a keyword is its spelling
by_keyword : (format : Format) (s : Nonterminal) (rest : Keyword → Rest) → role_of s ≡ role.Plain →
    ((k : Keyword) (ss : List Nonterminal) (ps : List Piece) → Left format (rest k) ss ps → Fits format (s ∷ ss) (keyword k ∷ ps)) →
    (w : List ℕ) (o : Option Keyword) → keyword_of w ≡ o → (ss : List Nonterminal) (ps : List Piece) → Left format (o >>= rest) ss ps →
    Fits format (s ∷ ss) (record { shape = shape.Word w; role = role_of s } ∷ ps)
by_keyword format s rest same each w None is ss ps left = absurd left
by_keyword format s rest same each w (Some k) is ss ps left =
    let taken : Piece = record { shape = shape.Word w; role = role_of s } in
    let e : keyword k ≡ taken = λ i. record { shape = shape.Word (keyword_of-spelling w k is i); role = sym same i } in
    subst (λ (p : Piece). Fits format (s ∷ ss) (p ∷ ps)) e (each k ss ps left)

-- a token that can be read for a nonterminal, followed by what it leaves, fits that nonterminal and those after it
pub forward : (format : Format) (s : Nonterminal) (shape : Shape) (ss : List Nonterminal) (ps : List Piece) →
    Left format (next format s shape) ss ps →
    Fits format (s ∷ ss) (record { shape = shape; role = role_of s } ∷ ps)
forward format nonterminal.Job (shape.Word w) ss ps left = by_keyword format nonterminal.Job text_rest refl (by_text format) w
    (keyword_of w) refl ss ps left
forward format nonterminal.Job _ ss ps left = absurd left
forward format nonterminal.Steps (shape.Word w) ss ps left =
    by_keyword format nonterminal.Steps (step_rest format false) refl (by_step format false) w (keyword_of w) refl ss ps left
forward format nonterminal.Steps (shape.Mark mark.Close) ss ps left = (ps, (stop, tt, refl), left)
forward format nonterminal.Steps _ ss ps left = absurd left
forward format nonterminal.Items (shape.Word w) ss ps left =
    by_keyword format nonterminal.Items (step_rest format true) refl (by_step format true) w (keyword_of w) refl ss ps left
forward format nonterminal.Items (shape.Mark mark.Close) ss ps left = (ps, (stop, tt, refl), left)
forward format nonterminal.Items _ ss ps left = absurd left
forward format nonterminal.StepsTail (shape.Word w) ss ps left =
    by_keyword format nonterminal.StepsTail (tail_rest false) refl (by_tail format false) w (keyword_of w) refl ss ps left
forward format nonterminal.StepsTail _ ss ps left = absurd left
forward format nonterminal.ItemsTail (shape.Word w) ss ps left =
    by_keyword format nonterminal.ItemsTail (tail_rest true) refl (by_tail format true) w (keyword_of w) refl ss ps left
forward format nonterminal.ItemsTail _ ss ps left = absurd left
forward format nonterminal.StepsCleanup (shape.Word w) ss ps left =
    by_keyword format nonterminal.StepsCleanup (cleanup_rest format false) refl (by_cleanup format false) w (keyword_of w) refl ss ps left
forward format nonterminal.StepsCleanup (shape.Mark mark.Close) ss ps left = (ps, (uncleaned, stop, tt, tt, refl), left)
forward format nonterminal.StepsCleanup _ ss ps left = absurd left
forward format nonterminal.ItemsCleanup (shape.Word w) ss ps left =
    by_keyword format nonterminal.ItemsCleanup (cleanup_rest format true) refl (by_cleanup format true) w (keyword_of w) refl ss ps left
forward format nonterminal.ItemsCleanup (shape.Mark mark.Close) ss ps left = (ps, (uncleaned, stop, tt, tt, refl), left)
forward format nonterminal.ItemsCleanup _ ss ps left = absurd left
forward format nonterminal.Scope (shape.Word w) ss ps left = by_keyword format nonterminal.Scope scope_rest refl (by_scope format) w
    (keyword_of w) refl ss ps left
forward format nonterminal.Scope (shape.Mark mark.Open) ss ps (rest, (body, are, e), fits) =
    (rest, (Never, false, false, body, are, ap (on opens) e), fits)
forward format nonterminal.Scope _ ss ps left = absurd left
forward format nonterminal.Shield (shape.Word w) ss ps left = by_keyword format nonterminal.Shield shield_rest refl (by_shield format) w
    (keyword_of w) refl ss ps left
forward format nonterminal.Shield (shape.Mark mark.Open) ss ps (rest, (body, are, e), fits) = (
  rest,
  (false, false, body, are, ap (on opens) e),
  fits,
)
forward format nonterminal.Shield _ ss ps left = absurd left
forward format nonterminal.Fail (shape.Word w) ss ps left = by_keyword format nonterminal.Fail fail_rest refl (by_fail format) w
    (keyword_of w) refl ss ps left
forward format nonterminal.Fail (shape.Mark mark.Open) ss ps (rest, (body, are, e), fits) = (rest, (false, body, are, ap (on opens) e), fits)
forward format nonterminal.Fail _ ss ps left = absurd left
forward format nonterminal.Nursery (shape.Word w) ss ps left =
    by_keyword format nonterminal.Nursery (nursery_rest format) refl (by_nursery format) w (keyword_of w) refl ss ps left
forward format nonterminal.Nursery (shape.Mark mark.Open) ss ps (rest, (body, are, e), fits) =
    (rest, (Never, false, body, plain_head format, are, ap (on opens) e), fits)
forward format nonterminal.Nursery _ ss ps left = absurd left
forward format nonterminal.NurseryShield (shape.Word w) ss ps left =
    by_keyword format nonterminal.NurseryShield (nursery_shield_rest format) refl (by_nursery_shield format) w (keyword_of w) refl ss ps left
forward format nonterminal.NurseryShield (shape.Mark mark.Open) ss ps (rest, (body, are, e), fits) =
    (rest, (false, body, plain_head format, are, ap (on opens) e), fits)
forward format nonterminal.NurseryShield _ ss ps left = absurd left
forward format nonterminal.Over (shape.Word w) ss ps left = by_keyword format nonterminal.Over over_rest refl (by_over format) w
    (keyword_of w) refl ss ps left
forward format nonterminal.Over (shape.Mark mark.Open) ss ps (rest, (body, are, e), fits) = (rest, (None, body, are, ap (on opens) e), fits)
forward format nonterminal.Over _ ss ps left = absurd left
forward format nonterminal.Passes (shape.Word w) ss ps left = by_keyword format nonterminal.Passes over_rest refl (by_passes format false) w
    (keyword_of w) refl ss ps left
forward format nonterminal.Passes (shape.Number (Some n)) ss ps left =
    let b = body_on format ss ps left in (b.0, (n, false, b.1, b.2, ap (on (number n)) b.3), b.4)
forward format nonterminal.Passes _ ss ps left = absurd left
forward format nonterminal.ItemsPasses (shape.Word w) ss ps left =
    by_keyword format nonterminal.ItemsPasses over_rest refl (by_passes format true) w (keyword_of w) refl ss ps left
forward format nonterminal.ItemsPasses (shape.Number (Some n)) ss ps left =
    let b = items_on format ss ps left in (b.0, (n, false, b.1, b.2, ap (on (number n)) b.3), b.4)
forward format nonterminal.ItemsPasses _ ss ps left = absurd left
forward format nonterminal.Given (shape.Word w) ss ps left = (ps, (w, refl), left)
forward format nonterminal.Given _ ss ps left = absurd left
forward format nonterminal.Raised (shape.Word w) ss ps left = (ps, (w, refl), left)
forward format nonterminal.Raised _ ss ps left = absurd left
forward format nonterminal.Handled (shape.Word w) ss ps left = (ps, (w, refl), left)
forward format nonterminal.Handled _ ss ps left = absurd left
forward format nonterminal.Target (shape.Word w) ss ps left = (ps, (w, refl), left)
forward format nonterminal.Target _ ss ps left = absurd left
forward format nonterminal.Number (shape.Number (Some n)) ss ps left = (ps, (n, refl), left)
forward format nonterminal.Number _ ss ps left = absurd left
forward format nonterminal.Text (shape.Text t) ss ps left = (ps, (t, refl), left)
forward format nonterminal.Text _ ss ps left = absurd left
forward format nonterminal.Open (shape.Mark mark.Open) ss ps left = (ps, refl, left)
forward format nonterminal.Open _ ss ps left = absurd left
forward format nonterminal.Semicolon (shape.Mark mark.Semicolon) ss ps left = (ps, refl, left)
forward format nonterminal.Semicolon _ ss ps left = absurd left
