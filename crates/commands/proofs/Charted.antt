-- From a run to the chart of its story.
use Rattle.std.proofs.Common.{◌≡◌, ℕ, List, sym, ap, subst, ◌∙◌, nat_le}
use Rattle.std.specs.Prelude.{IfOk, Result}
use Rattle.std.specs.Global.{Vec}
use Rattle.std.specs.declared.alloc.AllocError.{AllocError}
use Rattle.job_tree.specs.Tree.{Tree}
use Rattle.cancel_scopes.specs.Sight.{Tick}
use Rattle.job_meaning.specs.Log.{Table}
use Rattle.job_meaning.specs.Meaning.{meaning_end, meaning_table}
use Rattle.job_reader.specs.Refusals.{Spells}
use Rattle.job_story.specs.Events.{Event}
use Rattle.job_answers.specs.declared.verdict.Verdict.{Verdict}
use Rattle.job_answers.specs.declared.verdict.Verdict.TheVariants as verdicts
use Rattle.job_meaning.specs.Moments.{clock_of}
use Rattle.job_meaning.specs.declared.clock.Clock.{Clock}
use Rattle.job_answers.specs.declared.meaning.Ending.{Ending}
use Rattle.job_answers.specs.declared.meaning.Ending.TheVariants.{Done, Raised, Late}
use Rattle.job_answers.specs.Stories.{story_events, until_if}
use Rattle.job_answers.specs.Endings.{IsEnding}
use Rattle.chart.specs.Bars.{Bar, bars_of}
use Rattle.svg.specs.Drawing.{chart_svg}
use Rattle.commands.specs.declared.chart_form.ChartForm.{ChartForm}
use Rattle.commands.specs.declared.chart_form.ChartForm.TheVariants.{Svg}
use Rattle.commands.specs.Charts.{chart_of, meaning_chart, IsInForm, IsVerdictOn, verdict_of, IsJobVerdict, IsVerdict}

-- the verdict on a job that ends so
verdict_is : (job : Tree) (input : List ℕ) (limit : ℕ) (ending : Ending) → IsEnding job input limit ending →
    IsVerdictOn job input limit (verdict_of ending)
verdict_is job input limit Done h = h
verdict_is job input limit Raised h = h
verdict_is job input limit Late h = h

-- the verdict on a job, with its chart
pub job_charted : (form : ChartForm) (job : Tree) (input : List ℕ) (limit : ℕ) (ending : Ending) (verdict : Verdict) (clock : Clock)
    (table : Table) (until : Tick) (walked : List Event) (bytes : List ℕ) → IsEnding job input limit ending →
    clock ≡ clock_of job.format → table ≡ meaning_table job input →
    until ≡ until_if (nat_le (meaning_end job input) limit) limit → walked ≡ story_events limit job input →
    bytes ≡ chart_of clock form table until walked → IsInForm form bytes → verdict ≡ verdict_of ending →
    IsJobVerdict form job input limit verdict bytes
job_charted form job input limit ending verdict clock table until walked bytes h counts same until_is walked_is drawn fits is =
    (subst (IsVerdictOn job input limit) (sym is) (verdict_is job input limit ending h), (chart, fits))
  where
    chart : bytes ≡ meaning_chart form limit job input
    chart =
        drawn ∙ ap (λ (c : Clock). chart_of c form table until walked) counts
        ∙ ap (λ (k : Table). chart_of (clock_of job.format) form k until walked) same
        ∙ ap (λ (u : Tick). chart_of (clock_of job.format) form (meaning_table job input) u walked) until_is
        ∙ ap (chart_of (clock_of job.format) form (meaning_table job input) (until_if (nat_le (meaning_end job input) limit) limit)) walked_is

-- ---- the drawing of an index over the events

pub svg_drawn : (clock : Clock) (form : ChartForm) (width : ℕ) (table : Table) (until : Tick) (walked known : List Event) (bars : List Bar)
    (r : Result (Vec ℕ) AllocError) → form ≡ Svg width → known ≡ walked → bars ≡ bars_of clock table until known →
    IfOk r (λ bytes. bytes.items ≡ chart_svg clock width table until walked bars) →
    IfOk r (λ bytes. bytes.items ≡ chart_of clock form table until walked)
svg_drawn clock form width table until walked known bars r is same bars_are drawn =
    subst (λ (f : ChartForm). IfOk r (λ bytes. bytes.items ≡ chart_of clock f table until walked)) (sym is)
    (subst (λ (bs : List Bar). IfOk r (λ bytes. bytes.items ≡ chart_svg clock width table until walked bs))
    (bars_are ∙ ap (bars_of clock table until) same) drawn)

-- ---- the verdict on a text

pub of_spelt : (form : ChartForm) (text input : List ℕ) (limit : ℕ) (verdict : Verdict) (bytes : List ℕ) (job : Tree) → Spells text job →
    IsJobVerdict form job input limit verdict bytes → IsVerdict form text input limit verdict bytes
of_spelt form text input limit verdicts.Done bytes job spelt h = (job, spelt, h)
of_spelt form text input limit verdicts.Raised bytes job spelt h = (job, spelt, h)
of_spelt form text input limit (verdicts.JobRefused fault) bytes job spelt h = absurd h.0
of_spelt form text input limit verdicts.Limit bytes job spelt h = (job, spelt, h)
