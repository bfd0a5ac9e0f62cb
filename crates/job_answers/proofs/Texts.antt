-- What is shown of a story, by what is known of it.
use Rattle.std.proofs.Common.{◌≡◌, ℕ, List, ap, subst, ◌∙◌}
use Rattle.std.specs.Prelude.{Option, Some, None, Result, IfOk}
use Rattle.std.specs.Global.{Vec}
use Rattle.exceptions.specs.Exceptions.{Label}
use Rattle.job_meaning.specs.Log.{Table}
use Rattle.job_meaning.specs.declared.clock.Clock.{Clock}
use Rattle.job_story.specs.Events.{Event, in_order}
use Rattle.job_story.specs.Notes.{Notes, notes_in}
use Rattle.job_story.specs.Focus.{concerned_tasks, of_tasks}
use Rattle.job_answers.specs.Tellings.{story_shown, text_until}

module _ {E : Type 0} (r : Result (Vec ℕ) E) (clock known_clock : Clock) (until : Option ℕ) (table known_table : Table)
    (notes : Notes) (known_events walked : List Event) (counts : known_clock ≡ clock) (in_table : known_table ≡ table)
    (said : notes ≡ notes_in walked) (sorted : known_events ≡ in_order walked) where
  abbrev is_text : List ℕ → Type 0
  is_text text = IfOk r (λ bytes. bytes.items ≡ text)

  -- of all tasks
  pub all_shown : (events : List Event) → events ≡ in_order walked →
      is_text (text_until known_clock until known_table notes known_events events walked) → is_text (story_shown clock table until None walked)
  all_shown events is =
      subst is_text
      (ap (λ (c : Clock). text_until c until known_table notes known_events events walked) counts
      ∙ ap (λ (t : Table). text_until clock until t notes known_events events walked) in_table
      ∙ ap (λ (n : Notes). text_until clock until table n known_events events walked) said
      ∙ ap (λ es. text_until clock until table (notes_in walked) es events walked) sorted
      ∙ ap (λ es. text_until clock until table (notes_in walked) (in_order walked) es walked) is)

  -- of those that concern one
  pub one_shown : (task : Label) →
      is_text (text_until known_clock until known_table notes known_events (of_tasks (concerned_tasks known_table known_events task) known_events)
      (of_tasks (concerned_tasks known_table known_events task) walked)) → is_text (story_shown clock table until (Some task) walked)
  one_shown task =
      subst is_text
      (ap (λ (c : Clock). text_until c until known_table notes known_events
      (of_tasks (concerned_tasks known_table known_events task) known_events) (of_tasks (concerned_tasks known_table known_events task) walked)) counts
      ∙ ap (λ (t : Table). text_until clock until t notes known_events
      (of_tasks (concerned_tasks t known_events task) known_events) (of_tasks (concerned_tasks t known_events task) walked)) in_table
      ∙ ap (λ (n : Notes). text_until clock until table n known_events
      (of_tasks (concerned_tasks table known_events task) known_events) (of_tasks (concerned_tasks table known_events task) walked)) said
      ∙ ap (λ es. text_until clock until table (notes_in walked) es
      (of_tasks (concerned_tasks table es task) es) (of_tasks (concerned_tasks table es task) walked)) sorted)
