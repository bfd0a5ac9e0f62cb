-- The lines of a text, given the tokens, places and lines as they were passed on.
use Rattle.std.proofs.Common.{◌≡◌, ℕ, ◌*◌, ◌<◌, ◌≤◌, Bool, true, false, Option, None, Some, List, sym, ap, subst, ◌∙◌, arith}
use Rattle.std.specs.Prelude.{nat_le, length, if◌then◌else◌}
use Rattle.std.proofs.lemmas.Bool.Decides.{nat_tests}
use Rattle.std.specs.Io.Iter.{u64_saturate}
use Rattle.job_tree.specs.Tree.{Tree}
use Rattle.job_tree.specs.declared.format.Format.{Format}
use Rattle.job_tokens.specs.declared.token.Token.{Token}
use Rattle.job_reader.specs.Refusals.{Spells, HasTokens}
use Rattle.job_meaning.specs.Moments.{clock_of}
use Rattle.job_meaning.specs.declared.clock.Clock.{Clock}
use Rattle.job_meaning.specs.declared.clock.Clock.TheVariants.{ByTicks as by_ticks, ByRounds as by_rounds}
use Rattle.job_meaning.specs.Meaning.{meaning_end}
use Rattle.job_meaning.specs.Shown.{Row, meaning_rows}
use Rattle.job_edits.specs.Sites.{sites_in}
use Rattle.job_edits.specs.Copied.{copied_in}
use Rattle.job_edits.specs.FinerTicks.{fits, by_thousand, by_hundred, by_ten, finer_ticks_for, most_ticks, hair_scope, shifts_of}
use Rattle.job_edits.specs.declared.site.Site.{Site}
use Rattle.job_edits.specs.declared.copied.CopiedStart.{CopiedStart}
use Rattle.job_edits.specs.declared.finer_ticks.FinerTicks.{FinerTicks}
use Rattle.race_text.specs.Lines as race_lines
use Rattle.trials.specs.TextRuns.{TextRun, ran, text_run_of}
use Rattle.trials.specs.Lines.{AreLines}
use Rattle.trials.specs.Races.{AreRaceLines, IsLate, HasNoFinerTicks}

le_test : (m n : ℕ) → m ≤ n → nat_le m n ≡ true
le_test m n h = grind (arith, nat_tests)

-- given the tick of the end and the limit, as they were read
pub in_time : (end last l limit : ℕ) → end ≡ last → l ≡ limit → end ≤ l → last ≤ limit
in_time end last l limit e at soon = omega (arith, e, at, soon)

-- the run of a job that ends by the limit
pub ran_in_time : (job : Tree) (input : List ℕ) (limit : ℕ) (rows : List Row) → rows ≡ meaning_rows job input →
    meaning_end job input ≤ limit → ran true rows ≡ text_run_of limit job input
ran_in_time job input limit rows same soon =
    ap (λ (rs : List Row). ran true rs) same
    ∙ ap (λ (b : Bool). ran b (meaning_rows job input)) (sym (le_test (meaning_end job input) limit soon))

-- a job that ends after the limit
pub is_late : (text input : List ℕ) (limit : ℕ) (job : Tree) → Spells text job → limit < meaning_end job input → IsLate text input limit
is_late text input limit job spells late =
    record {
      job = job;
      spells = spells;
      late = late;
    }

-- the clock of a job, by its format
clock_is : (format : Format) (job : Tree) (clock : Clock) → format ≡ job.format → clock ≡ clock_of format → clock ≡ clock_of job.format
clock_is format job clock same is = is ∙ ap clock_of same

-- the lines, if the clock is that of the job, and places and starts of copies are those of the text's tokens
pub are_lines : (text input : List ℕ) (limit l : ℕ) (job : Tree) (tokens : List Token) (format : Format) (clock : Clock) (f : FinerTicks)
    (scope : List ℕ) (sites : List Site) (starts : List CopiedStart) (first : TextRun) (lines : List race_lines.Line) (hairs : ℕ) →
    Spells text job → meaning_end job input ≤ limit → HasTokens text tokens None → format ≡ job.format → clock ≡ clock_of format →
    scope ≡ hair_scope tokens → sites ≡ sites_in tokens → starts ≡ copied_in tokens →
    Some f ≡ finer_ticks_for clock limit sites → l ≡ u64_saturate (limit * f.factor) → first ≡ text_run_of limit job input →
    AreLines clock text input l f scope sites starts first lines → hairs ≡ length (shifts_of sites) → AreRaceLines text input limit hairs lines
are_lines text input limit l job tokens format clock f scope sites starts first lines hairs spells soon has as_read counted named s c finer_ticks at same are h =
    let by = clock_is format job clock as_read counted in
    let by_clock = subst (λ (k : Clock). AreLines k text input l f scope sites starts first lines) by are in
    let by_limit = subst (λ (n : ℕ). AreLines (clock_of job.format) text input n f scope sites starts first lines) at by_clock in
    let by_name =
    subst (λ (name : List ℕ). AreLines (clock_of job.format) text input (u64_saturate (limit * f.factor)) f name sites starts first lines) named by_limit in
    let by_sites =
    subst (λ (ss : List Site). AreLines (clock_of job.format) text input (u64_saturate (limit * f.factor)) f (hair_scope tokens) ss starts first lines) s by_name in
    let by_starts =
    subst (λ (cs : List CopiedStart). AreLines (clock_of job.format) text input (u64_saturate (limit * f.factor)) f (hair_scope tokens) (sites_in tokens) cs first lines) c by_sites in
    record {
      job = job;
      spells = spells;
      in_time = soon;
      tokens = tokens;
      tokens_are = has;
      f = f;
      finer_ticks_are = ap (λ (k : Clock). finer_ticks_for k limit (sites_in tokens)) (sym by) ∙ ap (finer_ticks_for clock limit) (sym s) ∙ sym finer_ticks;
      lines_are =
          subst (λ (r : TextRun). AreLines (clock_of job.format) text input (u64_saturate (limit * f.factor)) f (hair_scope tokens) (sites_in tokens) (copied_in tokens) r lines) same by_starts;
      hairs_are = h ∙ ap (λ (ss : List Site). length (shifts_of ss)) s;
    }

-- a text whose numbers of ticks cannot be made finer
pub has_no_finer_ticks : (text input : List ℕ) (limit l : ℕ) (job : Tree) (tokens : List Token) (format : Format) (clock : Clock) (sites : List Site) →
    Spells text job → meaning_end job input ≤ limit → HasTokens text tokens None → format ≡ job.format → clock ≡ clock_of format →
    l ≡ limit → sites ≡ sites_in tokens → None ≡ finer_ticks_for clock l sites → HasNoFinerTicks text input limit
has_no_finer_ticks text input limit l job tokens format clock sites spells soon has as_read counted at s none =
    record {
      job = job;
      spells = spells;
      in_time = soon;
      tokens = tokens;
      tokens_are = has;
      none =
          ap (λ (k : Clock). finer_ticks_for k limit (sites_in tokens)) (sym (clock_is format job clock as_read counted))
          ∙ ap (λ (n : ℕ). finer_ticks_for clock n (sites_in tokens)) (sym at) ∙ ap (finer_ticks_for clock l) (sym s) ∙ sym none;
    }

abbrev factor_or : Option FinerTicks → ℕ
factor_or None = 1
factor_or (Some f) = f.factor

some_factor : (a b c : Bool) (f : FinerTicks) →
    Some f
    ≡ (if a then Some by_thousand
    else if b then Some by_hundred
    else if c then Some by_ten
    else None) → 0 < f.factor
some_factor true b c f is = let ticks : f.factor ≡ 1000 = ap factor_or is in omega arith
some_factor false true c f is = let ticks : f.factor ≡ 100 = ap factor_or is in omega arith
some_factor false false true f is = let ticks : f.factor ≡ 10 = ap factor_or is in omega arith
some_factor false false false f is = let ticks : f.factor ≡ 1 = ap factor_or is in omega arith

-- an original tick is at least one finer tick
pub some_ticks : (clock : Clock) (limit : ℕ) (sites : List Site) (f : FinerTicks) → Some f ≡ finer_ticks_for clock limit sites → 0 < f.factor
some_ticks by_ticks limit sites f is =
    let most = most_ticks sites in some_factor (fits most limit by_thousand) (fits most limit by_hundred) (fits most limit by_ten) f is
some_ticks by_rounds limit sites f is = some_factor false false (fits (most_ticks sites) limit by_ten) f is
