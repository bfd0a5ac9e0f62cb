-- The tables of lines, from the lines and the limit as they were passed on.
use Rattle.std.proofs.Common.{◌≡◌, ℕ, ◌<◌, Bool, List, [], length, map, ap, subst, ◌∙◌}
use Rattle.std.specs.Prelude.{if◌then◌else◌}
use Rattle.job_edits.specs.declared.number.Target.{Target}
use Rattle.job_lint.specs.Linted.{AreWarnings}
use Rattle.job_lint.specs.declared.warning.Warning.{Warning}
use Rattle.outcomes.specs.JobOutcomes.{JobOutcome}
use Rattle.outcomes.specs.Table as faults
use Rattle.outcomes.specs.Views as faults_held
use Rattle.outcomes.specs.declared.line.Line as faults_kept
use Rattle.outcomes.specs.SweepViews.{value_held}
use Rattle.outcomes.specs.declared.value.Value.{Value}
use Rattle.race_text.specs.Table as races
use Rattle.race_text.specs.LineViews.{line_held}
use Rattle.race_text.specs.declared.line.Line.{Line}
use Rattle.outcomes.specs.declared.options.Untried.{Untried}
use Rattle.trials.specs.Faults.{AreFaultLines}
use Rattle.trials.specs.Sweeps.{AreSweepValues}
use Rattle.json_story.specs.Values.{document}
use Rattle.json_tables.specs.Lints.{lints_json}
use Rattle.commands.specs.Faults as of_faults_are
use Rattle.commands.specs.Sweeps as of_values_are
use Rattle.commands.specs.Races as of_races_are
use Rattle.commands.specs.Lints.{IsDocument}
use Rattle.commands.specs.declared.form.Form.{Form}

-- the table of faults, by the lines that were passed on
pub of_fault_lines : (form : Form) (limit : ℕ) (o : faults.Options) (denied bytes : List ℕ) (first : JobOutcome) (lines ms : List faults_kept.Line)
    (untried : Untried) →
    bytes ≡ of_faults_are.table_in form limit o.brief first (map faults_held.line_held lines) untried → ms ≡ lines →
    denied ≡ faults.denied_text limit o.deny first (map faults_held.line_held ms) →
    of_faults_are.IsTableOf form limit o first (map faults_held.line_held lines) untried denied bytes
of_fault_lines form limit o denied bytes first lines ms untried b m d =
    record {
      table = b;
      denied_are = d ∙ ap (λ (xs : List faults_kept.Line). faults.denied_text limit o.deny first (map faults_held.line_held xs)) m;
    }

-- the table of faults, by the names and the limit that were passed on
pub of_faults : (form : Form) (text input : List ℕ) (limit l : ℕ) (o : faults.Options) (names : List (List ℕ)) (denied bytes : List ℕ)
    (first : JobOutcome) (lines : List faults.Line) (untried : Untried) →
    AreFaultLines text input limit names o.each first lines untried → names ≡ o.names → l ≡ limit →
    of_faults_are.IsTableOf form l o first lines untried denied bytes → of_faults_are.IsTable form text input limit o denied bytes
of_faults form text input limit l o names denied bytes first lines untried are same at table =
    record {
      first = first;
      lines = lines;
      untried = untried;
      lines_are = subst (λ (ns : List (List ℕ)). AreFaultLines text input limit ns o.each first lines untried) same are;
      table_is = subst (λ (n : ℕ). of_faults_are.IsTableOf form n o first lines untried denied bytes) at table;
    }

-- a sweep, by the values and the limit that were passed on
pub of_values : (form : Form) (text input : List ℕ) (limit l : ℕ) (target : Target) (values bytes : List ℕ) (first : JobOutcome)
    (vs us : List Value) →
    AreSweepValues text input limit target values first (map value_held vs) → l ≡ limit → us ≡ vs →
    bytes ≡ of_values_are.table_in form l first (map value_held us) → of_values_are.IsSweep form text input limit target values bytes
of_values form text input limit l target values bytes first vs us are at same b =
    record {
      first = first;
      vs = map value_held vs;
      vs_are = are;
      table_is =
          b ∙ ap (λ (xs : List Value). of_values_are.table_in form l first (map value_held xs)) same
          ∙ ap (λ (n : ℕ). of_values_are.table_in form n first (map value_held vs)) at;
    }

-- the table of hairs, by the lines that were passed on
pub of_race_lines : (form : Form) (deny : Bool) (hairs : ℕ) (denied bytes : List ℕ) (lines ks ms : List Line) → ks ≡ lines → ms ≡ lines →
    bytes ≡ of_races_are.table_in form hairs (map line_held ks) → denied ≡ (if deny then races.denied_text (map line_held ms) else []) →
    of_races_are.IsTableOf form deny hairs (map line_held lines) denied bytes
of_race_lines form deny hairs denied bytes lines ks ms k m b d =
    record {
      table = b ∙ ap (λ (ls : List Line). of_races_are.table_in form hairs (map line_held ls)) k;
      denied_are = d ∙ ap (λ (ls : List Line). if deny then races.denied_text (map line_held ls) else []) m;
    }

-- ---- warnings

-- the document of no warnings
pub of_none : (text : List ℕ) (found : List Warning) (bytes : List ℕ) → AreWarnings text found → found ≡ [] →
    bytes ≡ document (lints_json text found) → IsDocument text [] bytes
of_none text found bytes are none is =
    record {
      found_are = subst (λ (ws : List Warning). AreWarnings text ws) none are;
      document_is = is ∙ ap (λ (ws : List Warning). document (lints_json text ws)) none;
    }

-- the document of some warnings
pub of_some : (text : List ℕ) (found : List Warning) (bytes : List ℕ) → AreWarnings text found → 0 < length found →
    bytes ≡ document (lints_json text found) → (ws : List Warning) × (0 < length ws) × IsDocument text ws bytes
of_some text found bytes are some is = (found, some, record { found_are = are; document_is = is })
