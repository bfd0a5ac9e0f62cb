-- The lines of a text, put together from what is found.
use Rattle.std.proofs.Common.{◌≡◌, ℕ, List, [], ◌∷◌, ◌++◌, map, inl, inr, refl, sym, ap, subst, ◌∙◌}
use Rattle.std.specs.Prelude.{Bool, nat_le}
use Rattle.std.proofs.lemmas.List.{append-nil}
use Rattle.job_tree.specs.Tree.{Tree}
use Rattle.job_reader.specs.declared.fault.JobFault.{JobFault}
use Rattle.job_reader.specs.Refusals.{Spells, IsRefused}
use Rattle.job_meaning.specs.declared.clock.Clock.{Clock}
use Rattle.job_meaning.specs.Shown.{Row, meaning_rows}
use Rattle.job_runner.specs.Runs.{root_end}
use Rattle.job_edits.specs.Changes.{changed_text}
use Rattle.job_edits.specs.FinerTicks.{finer_changes, shifts_of}
use Rattle.job_edits.specs.declared.change.Change.{Change}
use Rattle.job_edits.specs.declared.copied.CopiedStart.{CopiedStart}
use Rattle.job_edits.specs.declared.finer_ticks.FinerTicks.{FinerTicks}
use Rattle.job_edits.specs.declared.shift.Shift.{Shift}
use Rattle.outcomes.specs.JobOutcomes.{walked_events}
use Rattle.workers.specs.Answers.{AreAnswers}
use Rattle.workers.proofs.Answered.{seen_as}
use Rattle.race_text.specs.Lines as race_lines
use Rattle.race_text.specs.LineViews.{line_held}
use Rattle.race_text.specs.declared.line.Line.{Line}
use Rattle.trials.specs.declared.original.Original.{Original}
use Rattle.trials.specs.TextRuns.{TextRun, refused, ran, text_run_of, found_between}
use Rattle.trials.specs.Lines.{copies_lines}
use Rattle.trials.specs.Views.{IsMovedBy, AreLinesOf, AreLinesOfRun, AreLinesFor, AreLinesOfRefused}

-- the lines of all hairs, as the definitions have them
pub moves_seen : (original : Original) (input : List ℕ) (before : TextRun) (shifts : List Shift) (lines : List Line) →
    shifts ≡ shifts_of original.sites.now →
    AreAnswers (λ shift line. IsMovedBy original input before shift (line_held line)) shifts lines →
    AreAnswers (IsMovedBy original input before) (shifts_of original.sites.now) (map line_held lines)
moves_seen original input before shifts lines is are =
    subst (λ (ss : List Shift). AreAnswers (IsMovedBy original input before) ss (map line_held lines)) is
    (seen_as (IsMovedBy original input before) line_held shifts lines are)

-- the lines of a text in finer ticks and of all hairs, given its run
pub of_run : (original : Original) (input : List ℕ) (first : TextRun) (shown rows : List Row) (end : ℕ) (found : race_lines.Found)
    (moves lines : List race_lines.Line) →
    shown ≡ rows → end ≡ root_end rows → found ≡ found_between original.scope.now first (ran (nat_le (root_end rows) original.limit) rows) →
    AreAnswers (IsMovedBy original input (ran (nat_le end original.limit) shown)) (shifts_of original.sites.now) moves →
    lines ≡ race_lines.in_finer_ticks found ∷ moves →
    AreLinesOfRun original input first (ran (nat_le (root_end rows) original.limit) rows) lines
of_run original input first shown rows end found moves lines s e f are l =
    let run : ran (nat_le end original.limit) shown ≡ ran (nat_le (root_end rows) original.limit) rows =
    ap (λ (n : ℕ). ran (nat_le n original.limit) shown) e ∙ ap (λ (rs : List Row). ran (nat_le (root_end rows) original.limit) rs) s in
    record {
      moves = moves;
      moves_are =
          subst (λ (before : TextRun). AreAnswers (IsMovedBy original input before) (shifts_of original.sites.now) moves) run are;
      all = l ∙ ap (λ (x : race_lines.Found). race_lines.in_finer_ticks x ∷ moves) f;
    }

-- all lines of a text whose text in finer ticks spells a job, given the run of that job
pub with_copies : (original : Original) (input : List ℕ) (first : TextRun) (job : Tree) (rows : List Row) (lines all : List race_lines.Line) →
    rows ≡ meaning_rows job input →
    AreLinesOfRun original input first (ran (nat_le (root_end rows) original.limit) rows) lines →
    all ≡ lines ++ copies_lines original.clock original.text.now original.limit original.finer_ticks (walked_events job input) original.starts.now →
    AreLinesFor original input first job all
with_copies original input first job rows lines all r are a =
    let run : ran (nat_le (root_end rows) original.limit) rows ≡ text_run_of original.limit job input =
    ap (λ (rs : List Row). ran (nat_le (root_end rs) original.limit) rs) r in
    record {
      moves = are.moves;
      moves_are =
          subst (λ (before : TextRun). AreAnswers (IsMovedBy original input before) (shifts_of original.sites.now) are.moves) run are.moves_are;
      all =
          a
          ∙ ap
          (λ (ls : List race_lines.Line). ls ++ copies_lines original.clock original.text.now original.limit original.finer_ticks (walked_events job input) original.starts.now)
          (are.all ∙ ap (λ (before : TextRun). race_lines.in_finer_ticks (found_between original.scope.now first before) ∷ are.moves) run);
    }

-- all lines of a text whose text in finer ticks spells a job
pub for_job : (original : Original) (input : List ℕ) (first : TextRun) (job : Tree) (text : List ℕ) (changes : List Change) (lines : List race_lines.Line) →
    changes ≡ finer_changes original.clock original.finer_ticks original.sites.now → text ≡ changed_text original.text.now changes → Spells text job →
    AreLinesFor original input first job lines → AreLinesOf original input first lines
for_job original input first job text changes lines c t spells are =
    record {
      before = text_run_of original.limit job input;
      events = walked_events job input;
      before_is = inl (job, subst (λ (x : List ℕ). Spells x job) (t ∙ ap (changed_text original.text.now) c) spells, refl, refl);
      moves = are.moves;
      moves_are = are.moves_are;
      all = are.all;
    }

-- without events, no copies meet
no_copies : (clock : Clock) (text : List ℕ) (limit : ℕ) (f : FinerTicks) (starts : List CopiedStart) → copies_lines clock text limit f [] starts ≡ []
no_copies clock text limit f [] = refl
no_copies clock text limit f (c ∷ cs) = no_copies clock text limit f cs

all_of_refused : (original : Original) (fault : JobFault) (moves : List race_lines.Line) →
    race_lines.in_finer_ticks (race_lines.not_tried fault) ∷ moves
    ≡ race_lines.in_finer_ticks (race_lines.not_tried fault)
    ∷ (moves ++ copies_lines original.clock original.text.now original.limit original.finer_ticks [] original.starts.now)
all_of_refused original fault moves =
    let none = no_copies original.clock original.text.now original.limit original.finer_ticks original.starts.now in
    ap (λ (ls : List race_lines.Line). race_lines.in_finer_ticks (race_lines.not_tried fault) ∷ ls)
    (sym (append-nil moves) ∙ ap (λ (ls : List race_lines.Line). moves ++ ls) (sym none))

-- all lines of a text whose text in finer ticks is refused
pub for_refused : (original : Original) (input : List ℕ) (in_time : Bool) (rows : List Row) (fault : JobFault) (text : List ℕ) (changes : List Change) (lines : List race_lines.Line) →
    changes ≡ finer_changes original.clock original.finer_ticks original.sites.now → text ≡ changed_text original.text.now changes →
    IsRefused text fault.kind fault.at → AreLinesOfRefused original input fault lines → AreLinesOf original input (ran in_time rows) lines
for_refused original input in_time rows fault text changes lines c t is are =
    record {
      before = refused fault;
      events = [];
      before_is =
          inr (fault, subst (λ (x : List ℕ). IsRefused x fault.kind fault.at) (t ∙ ap (changed_text original.text.now) c) is, refl, refl);
      moves = are.moves;
      moves_are = are.moves_are;
      all = are.all ∙ all_of_refused original fault are.moves;
    }
