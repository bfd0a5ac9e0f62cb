-- What the kernels answer, as tales.
use Rattle.std.proofs.Common.{◌≡◌, ℕ, zero, suc, ◌+◌, ◌-◌, ◌/◌, ◌≤◌, Option, Some, None, List, [], ◌∷◌, length, refl, ap, subst, arith, Bor}
use Rattle.std.specs.Prelude.{MatchOption, map}
use Rattle.std.proofs.Math.Nat.{div-le_self}
use Rattle.input_lines.specs.Lines.{Span}
use Rattle.input_lines.specs.Part.{buffer_of, range_of, span_of}
use Rattle.input_lines.specs.declared.line.Line.{Line}
use Rattle.input_lines.specs.declared.part.Part.{Part}
use Rattle.input_lines.specs.Answers.{AreLinesAt, IsAnswer}
use Rattle.input_lines.specs.Kernels.{found_in, head_of, longest_in, needed_in, count_in}
use Rattle.input_lines.specs.declared.kernel.Kernel.TheVariants.{Find, Head, Longest, Need, Count}
use Rattle.input_lines.specs.declared.answers.Answer.{Answer}
use Rattle.input_lines.specs.declared.answers.Answer.TheVariants as answers
use Rattle.exceptions.specs.Exceptions.{Label, raised}
use Rattle.job_meaning.specs.Moments.{tick_of, Now}
use Rattle.job_meaning.specs.Walk.{Here, pace_ticks}
use Rattle.job_story.specs.Story.{misses}
use Rattle.job_story.specs.Tell.{failed_at, story_of_one, tell_lines, tell_need}
use Rattle.job_story.specs.declared.event.Event as held
use Rattle.job_story.specs.declared.progress.Progress.{Progress}
use Rattle.job_story.specs.declared.stretch.Stretch.{Stretch}
use Rattle.job_story.specs.Tales.{Tells}
use Rattle.job_meaning.proofs.Ends.{count_le}

-- a `find` shows its lines, by the answer of the kernel
pub shows_found : (me : Label) (before : List held.Event) (after : Progress) (part : Part) (needle : Bor (List ℕ)) (text : List ℕ)
    (a : Answer)
    (lines : List Line) (w : Stretch) (now : Now) →
    IsAnswer (Find needle) part a → a ≡ answers.Lines lines → needle.now ≡ text →
    Tells me before w after (tell_lines (map span_of lines) now) →
    Tells me before w after (tell_lines (found_in (buffer_of part) text (range_of part)) now)
shows_found me before after part needle text a lines w now is lines_is needle_is h =
    let at : AreLinesAt (buffer_of part) (found_in (buffer_of part) needle.now (range_of part)) lines = subst (IsAnswer
    (Find needle) part) lines_is is in
    subst (λ (x : List ℕ). Tells me before w after (tell_lines (found_in (buffer_of part) x (range_of part)) now)) needle_is
    (subst (λ (ls : List Span). Tells me before w after (tell_lines ls now)) at.places h)

pub shows_head : (me : Label) (before : List held.Event) (after : Progress) (part : Part) (count : ℕ) (a : Answer) (lines : List Line)
    (w : Stretch)
    (now : Now) →
    IsAnswer (Head count) part a → a ≡ answers.Lines lines → Tells me before w after (tell_lines (map span_of lines) now) →
    Tells me before w after (tell_lines (head_of (buffer_of part) count (range_of part)) now)
shows_head me before after part count a lines w now is lines_is h =
    let at : AreLinesAt (buffer_of part) (head_of (buffer_of part) count (range_of part)) lines = subst (IsAnswer
    (Head count) part) lines_is is in
    subst (λ (ls : List Span). Tells me before w after (tell_lines ls now)) at.places h

pub shows_longest : (me : Label) (before : List held.Event) (after : Progress) (part : Part) (a : Answer) (lines : List Line) (w : Stretch)
    (now : Now) →
    IsAnswer Longest part a → a ≡ answers.Lines lines → Tells me before w after (tell_lines (map span_of lines) now) →
    Tells me before w after (tell_lines (longest_in (buffer_of part) (range_of part)) now)
shows_longest me before after part a lines w now is lines_is h =
    let at : AreLinesAt (buffer_of part) (longest_in (buffer_of part) (range_of part)) lines = subst (IsAnswer Longest part) lines_is is in
    subst (λ (ls : List Span). Tells me before w after (tell_lines ls now)) at.places h

shows_needed_if : (me : Label) (before : List held.Event) (after : Progress) (buffer : List ℕ) (found : Option Span) (lines : List Line)
    (name : List ℕ) (here : Here) (w : Stretch) (now : Now) →
    MatchOption found ⊥ (λ l. AreLinesAt buffer (l ∷ []) lines) → Tells me before w after (tell_lines (map span_of lines) now) →
    Tells me before w after (tell_need found name here now)
unfolding tell_need tell_lines
shows_needed_if me before after buffer None lines name here w now at h = absurd at
shows_needed_if me before after buffer (Some l) lines name here w now at h =
    subst (λ (ls : List Span). Tells me before w after (tell_lines ls now)) at.places h

-- a `need` that has its line shows it, by the answer of the kernel
pub shows_needed : (me : Label) (before : List held.Event) (after : Progress) (part : Part) (needle : Bor (List ℕ)) (text : List ℕ)
    (a : Answer)
    (lines : List Line) (name : List ℕ) (here : Here) (w : Stretch) (now : Now) →
    IsAnswer (Need needle) part a → a ≡ answers.Lines lines → needle.now ≡ text →
    Tells me before w after (tell_lines (map span_of lines) now) →
    Tells me before w after (tell_need (needed_in (buffer_of part) text (range_of part)) name here now)
shows_needed me before after part needle text a lines name here w now is lines_is needle_is h =
    subst (λ (x : List ℕ). Tells me before w after (tell_need (needed_in (buffer_of part) x (range_of part)) name here now)) needle_is
    (shows_needed_if me before after (buffer_of part) (needed_in (buffer_of part) needle.now (range_of part)) lines name here w now (subst
    (IsAnswer (Need needle) part) lines_is is) h)

-- a `need` that has no line raises its name, by the answer of the kernel
pub misses_needed : (me : Label) (before : List held.Event) (after : Progress) (part : Part) (needle : Bor (List ℕ)) (text : List ℕ)
    (a : Answer)
    (name : List ℕ) (here : Here) (w : Stretch) (now : Now) →
    IsAnswer (Need needle) part a → ((lines : List Line) → a ≡ answers.Lines lines → ⊥) → needle.now ≡ text →
    Tells me before w after (failed_at (raised name here.task (tick_of here.clock now.at)) now (story_of_one now.at (misses name))) →
    Tells me before w after (tell_need (needed_in (buffer_of part) text (range_of part)) name here now)
unfolding tell_need
misses_needed me before after part needle text a name here w now is no_lines needle_is h =
    subst (λ (x : List ℕ). Tells me before w after (tell_need (needed_in (buffer_of part) x (range_of part)) name here now)) needle_is
    (rw (none a is no_lines) h)
  where
    none : (b : Answer) → IsAnswer (Need needle) part b → ((lines : List Line) → b ≡ answers.Lines lines → ⊥) →
        needed_in (buffer_of part) needle.now (range_of part) ≡ None
    none (answers.Lines lines) at others = absurd (others lines refl)
    none (answers.Count n) at others = absurd at
    none answers.Missing at others = at

pub counts : (part : Part) (a : Answer) (n : ℕ) → IsAnswer Count part a → a ≡ answers.Count n →
    n ≡ count_in (buffer_of part) (range_of part)
counts part a n is n_is = subst (IsAnswer Count part) n_is is

pub counts_few : (part : Part) (a : Answer) (n : ℕ) → IsAnswer Count part a → a ≡ answers.Count n → length (buffer_of part) ≤ 16777216 →
    n ≤ 16777216
counts_few part a n is n_is small = omega (arith, counts part a n is n_is, count_le (buffer_of part) (range_of part))

pub paced_is : (n k : ℕ) → 1 ≤ k → (n + (k - 1)) / k ≡ pace_ticks n k
paced_is n zero le = absurd (omega arith)
paced_is n (suc j) le =
    let e : suc j - 1 ≡ j = omega arith in
    ap (λ (x : ℕ). (n + x) / suc j) e

pub paced_few : (n k : ℕ) → (n + (k - 1)) / k ≤ n + k
paced_few n k = omega (arith, div-le_self (n + (k - 1)) k)
