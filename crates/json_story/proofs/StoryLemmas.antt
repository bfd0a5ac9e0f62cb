-- What is shown of a story, by what is known of it.
use Rattle.std.proofs.Common.{◌≡◌, ℕ, List, ap, subst, ◌∙◌}
use Rattle.std.specs.Prelude.{Some, None, Result, IfOk}
use Rattle.std.specs.Global.{Vec}
use Rattle.serde_json.specs.Data.{Data}
use Rattle.exceptions.specs.Exceptions.{Label}
use Rattle.cancel_scopes.specs.Sight.{Tick}
use Rattle.job_meaning.specs.Log.{Table}
use Rattle.job_meaning.specs.declared.clock.Clock.{Clock}
use Rattle.job_story.specs.Events.{Event, in_order}
use Rattle.job_story.specs.Notes.{Notes, notes_in}
use Rattle.job_story.specs.Focus.{concerned_tasks, of_tasks}
use Rattle.json_story.specs.Values.{document}
use Rattle.json_story.specs.Stories.{kept_json, story_json}

module _ {E : Type 0} (r : Result (Vec ℕ) E) (clock known_clock : Clock) (job : List ℕ) (until : Tick) (table known_table : Table)
    (notes : Notes) (known_events walked : List Event) (counts : known_clock ≡ clock) (in_table : known_table ≡ table)
    (said : notes ≡ notes_in walked) (sorted : known_events ≡ in_order walked) where
  abbrev shown_by : Data → Type 0
  shown_by d = IfOk r (λ bytes. bytes.items ≡ document d)

  -- of all tasks
  pub all_shown : (events : List Event) → events ≡ in_order walked →
      shown_by (kept_json known_clock job until known_table notes known_events events walked) →
      shown_by (story_json clock job until table None walked)
  all_shown events is =
      subst shown_by
      (ap (λ (c : Clock). kept_json c job until known_table notes known_events events walked) counts
      ∙ ap (λ (t : Table). kept_json clock job until t notes known_events events walked) in_table
      ∙ ap (λ (n : Notes). kept_json clock job until table n known_events events walked) said
      ∙ ap (λ es. kept_json clock job until table (notes_in walked) es events walked) sorted
      ∙ ap (λ es. kept_json clock job until table (notes_in walked) (in_order walked) es walked) is)

  -- of those that concern one
  pub one_shown : (task : Label) →
      shown_by (kept_json known_clock job until known_table notes known_events (of_tasks (concerned_tasks known_table known_events task) known_events)
      (of_tasks (concerned_tasks known_table known_events task) walked)) →
      shown_by (story_json clock job until table (Some task) walked)
  one_shown task =
      subst shown_by
      (ap (λ (c : Clock). kept_json c job until known_table notes known_events
      (of_tasks (concerned_tasks known_table known_events task) known_events) (of_tasks (concerned_tasks known_table known_events task) walked)) counts
      ∙ ap (λ (t : Table). kept_json clock job until t notes known_events
      (of_tasks (concerned_tasks t known_events task) known_events) (of_tasks (concerned_tasks t known_events task) walked)) in_table
      ∙ ap (λ (n : Notes). kept_json clock job until table n known_events
      (of_tasks (concerned_tasks table known_events task) known_events) (of_tasks (concerned_tasks table known_events task) walked)) said
      ∙ ap (λ es. kept_json clock job until table (notes_in walked) es
      (of_tasks (concerned_tasks table es task) es) (of_tasks (concerned_tasks table es task) walked)) sorted)
