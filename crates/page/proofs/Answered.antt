-- What `page` returns is a page whose one element is well formed, or a refusal.
use Rattle.std.proofs.Common.{◌≡◌, ℕ, List, refl, sym, subst, ◌∙◌}
use Rattle.job_tree.specs.Tree.{Tree}
use Rattle.job_reader.specs.declared.fault.JobKind.{JobKind}
use Rattle.job_reader.specs.Refusals.{Spells, IsRefused}
use Rattle.job_answers.specs.declared.verdict.Verdict.{Verdict}
use Rattle.job_answers.specs.declared.verdict.Verdict.TheVariants.{Done, Raised, JobRefused, Limit}
use Rattle.commands.specs.Charts as charts
use Rattle.commands.specs.declared.chart_form.ChartForm.TheVariants.{Svg}
use Rattle.page.specs.declared.views.TheConstants.{WIDTH}
use Rattle.page.specs.Markup.{IsContent}
use Rattle.page.specs.Pages.{Shown, page_text}
use Rattle.page.specs.Links.{Row}
use Rattle.page.specs.Lines.{Warned}
use Rattle.page.specs.Answers.{IsShownText, ArePlaces, AreWarned, job_rows, AreViews, AreTables, Shows, IsPage, IsVerdict}
use Rattle.page.specs.declared.places.Place.{Place}
use Rattle.page.proofs.WellFormed.{document_is_content, page_is_document}

-- A text that spells a job is not refused.
spelled_is_not_refused : (text : List ℕ) (job : Tree) (k : JobKind) (at : ℕ) → Spells text job → IsRefused text k at → ⊥
spelled_is_not_refused text job k at spelled refused = spelled.2 k at refused.0

-- The chart of a text that spells a job is well formed.
chart_is_content : (text input : List ℕ) (limit : ℕ) (job : Tree) (verdict : Verdict) (chart : List ℕ) →
    Spells text job → charts.IsVerdict (Svg WIDTH) text input limit verdict chart → IsContent chart
chart_is_content text input limit job Done chart spelled drawn = document_is_content chart drawn.2.1.1
chart_is_content text input limit job Raised chart spelled drawn = document_is_content chart drawn.2.1.1
chart_is_content text input limit job (JobRefused fault) chart spelled drawn =
    absurd (spelled_is_not_refused text job fault.kind fault.at spelled drawn.0)
chart_is_content text input limit job Limit chart spelled drawn = document_is_content chart drawn.2.1.1

-- What is shown of a job makes a page.
is_page : (text input : List ℕ) (limit : ℕ) (made : List ℕ) (job : Tree) (verdict : Verdict) (shown : Shown) (bytes : List ℕ) →
    IsShownText text shown.job → Shows input limit job verdict shown → shown.made ≡ made → bytes ≡ page_text shown →
    IsPage text input limit made verdict bytes
is_page text input limit made job verdict shown bytes formatted shows made_is page_is = record {
  job = job;
  shown = shown;
  formatted = formatted;
  shows = shows;
  made_is = made_is;
  page_is = page_is;
  well = page_is_document shown (chart_is_content shown.job input limit job shows.views.drawn shown.chart shows.spells shows.views.chart_is);
}

-- What is shown of a job makes the answer of this verdict.
is_verdict : (text input : List ℕ) (limit : ℕ) (made : List ℕ) (job : Tree) (verdict : Verdict) (shown : Shown) (bytes : List ℕ) →
    IsShownText text shown.job → Shows input limit job verdict shown → shown.made ≡ made → bytes ≡ page_text shown →
    IsVerdict text input limit made verdict bytes
is_verdict text input limit made job Done shown bytes formatted shows made_is page_is =
    is_page text input limit made job Done shown bytes formatted shows made_is page_is
is_verdict text input limit made job Raised shown bytes formatted shows made_is page_is =
    is_page text input limit made job Raised shown bytes formatted shows made_is page_is
is_verdict text input limit made job (JobRefused fault) shown bytes formatted shows made_is page_is =
    absurd (spelled_is_not_refused shown.job job fault.kind fault.at shows.spells shows.views.report_is.0)
is_verdict text input limit made job Limit shown bytes formatted shows made_is page_is =
    is_page text input limit made job Limit shown bytes formatted shows made_is page_is

-- What one run shows, as it stands in a page.
views_shown : (text input : List ℕ) (limit : ℕ) (verdict : Verdict) (report story chart r s c : List ℕ) → r ≡ report → s ≡ story → c ≡ chart →
    AreViews text input limit verdict report story chart → AreViews text input limit verdict r s c
views_shown text input limit verdict report story chart r s c p q t h =
    subst (λ z. AreViews text input limit verdict z s c) (sym p)
    (subst (λ z. AreViews text input limit verdict report z c) (sym q)
    (subst (λ z. AreViews text input limit verdict report story z) (sym t) h))

-- The tables, as they stand in a page.
tables_shown : (text input : List ℕ) (limit : ℕ) (name title outcome changing faults races o c f r : List ℕ) → title ≡ name → o ≡ outcome →
    c ≡ changing → f ≡ faults → r ≡ races → AreTables text input limit title outcome changing faults races → AreTables text input limit name o c f r
tables_shown text input limit name title outcome changing faults races o c f r n p q t u h =
    subst (λ z. AreTables text input limit z o c f r) n
    (subst (λ z. AreTables text input limit title z c f r) (sym p)
    (subst (λ z. AreTables text input limit title outcome z f r) (sym q)
    (subst (λ z. AreTables text input limit title outcome changing z r) (sym t)
    (subst (λ z. AreTables text input limit title outcome changing faults z) (sym u) h))))

-- The answer, from its parts.
pub page_answers : (text input : List ℕ) (limit : ℕ) (job : Tree) (verdict : Verdict) (shown : Shown)
    (bytes report story chart outcome changing faults races title : List ℕ) (warned : List Warned) (places : List Place) (rows : List Row) →
    Spells shown.job job → shown.name ≡ job.name → shown.places ≡ places → ArePlaces shown.job places → shown.warned ≡ warned →
    AreWarned shown.job warned → shown.report ≡ report → shown.story ≡ story → shown.chart ≡ chart →
    AreViews shown.job input limit verdict report story chart → shown.rows ≡ rows → rows ≡ job_rows limit job input →
    shown.outcome ≡ outcome → shown.changing ≡ changing → shown.faults ≡ faults → shown.races ≡ races → title ≡ job.name →
    AreTables shown.job input limit title outcome changing faults races → bytes ≡ page_text shown → IsShownText text shown.job →
    IsVerdict text input limit shown.made verdict bytes
page_answers text input limit job verdict shown bytes report story chart outcome changing faults races title warned places rows spells named
    p1 places_are p2 warned_are p3 p4 p5 views p6 rows_are p7 p8 p9 p10 titled tables page_is formatted =
    is_verdict text input limit shown.made job verdict shown bytes formatted
    (record {
      spells = spells;
      name_is = named;
      places = subst (ArePlaces shown.job) (sym p1) places_are;
      warned = subst (AreWarned shown.job) (sym p2) warned_are;
      views = views_shown shown.job input limit verdict report story chart shown.report shown.story shown.chart p3 p4 p5 views;
      rows = p6 ∙ rows_are;
      tables =
          tables_shown shown.job input limit job.name title outcome changing faults races shown.outcome shown.changing shown.faults shown.races
          titled p7 p8 p9 p10 tables;
    })
    refl page_is
