-- The root of a job, as a task that is started in no nursery.
use Rattle.std.proofs.Common.{◌≡◌, ℕ, false, None, List, [], ◌++◌, length, ap, subst, ◌∙◌}
use Rattle.std.specs.Prelude.{map}
use Rattle.input_lines.specs.Lines.{Range}
use Rattle.exceptions.specs.Exceptions.{Label}
use Rattle.job_tree.specs.Tree.{Steps, Tree}
use Rattle.job_meaning.specs.Tables.{Tables}
use Rattle.job_meaning.specs.Meaning.{root_label}
use Rattle.job_meaning.specs.Moments.{clock_of, Now, only_at}
use Rattle.job_meaning.specs.declared.clock.Clock.{Clock}
use Rattle.job_meaning.specs.Walk.{no_stack}
use Rattle.job_story.specs.Events.{events_of}
use Rattle.job_story.specs.Held.{event_of}
use Rattle.job_story.specs.Tell.{Scene, tell, tell_child, tale_by, story_by}
use Rattle.job_story.specs.declared.event.Event as held
use Rattle.job_story.specs.declared.progress.Progress.{Progress}
use Rattle.job_story.specs.declared.stretch.Stretch.{Stretch}
use Rattle.job_story.specs.Tales.{Tells}

-- where a root is
abbrev pub root_at : Clock → List ℕ → Label → Range → Scene
root_at clock input root lent =
    record { here = record { clock = clock; input = input; part = lent; task = root; path = root.indices }; in_cleanup = false }

-- it was walked
abbrev pub Rooted : Label → List held.Event → Stretch → Progress → Tables → Clock → List ℕ → Label → Range → Steps → Now → Type 0
Rooted me before w after k clock input root lent ss now =
    Tells me before w after
    (tell_child root None (root_at clock input root lent) 0 (tell k ss (root_at clock input root lent) no_stack (only_at 0)) now)

-- and nothing else, so that is the story of the job
pub tells_root : (me : Label) (before : List held.Event) (after : Progress) (w : Stretch) (k : Tables) (job : Tree) (clock : Clock)
    (input x : List ℕ) (root : Label) (lent : Range) (ss : Steps) (now : Now) → before ≡ [] → root ≡ root_label job.name → ss ≡ job.steps →
    x ≡ input → lent ≡ record { from = 0; to = length input } → clock ≡ clock_of job.format →
    Rooted me before w after k clock x root lent ss now →
    map event_of after.events.items ≡ events_of (root_label job.name) (story_by k job input)
unfolding tell_child tale_by
tells_root me before after w k job clock input x root lent ss now none root_is steps_is input_is lent_is clock_is h =
    let whole : Range = record { from = 0; to = length input } in
    let label = root_label job.name in
    let rooted : Rooted me before w after k (clock_of job.format) input label whole job.steps now =
    subst (λ (c : Clock). Rooted me before w after k c input label whole job.steps now) clock_is
    (subst (λ (y : List ℕ). Rooted me before w after k clock y label whole job.steps now) input_is
    (subst (λ (l : Label). Rooted me before w after k clock x l whole job.steps now) root_is
    (subst (λ (p : Range). Rooted me before w after k clock x root p job.steps now) lent_is
    (subst (λ (s : Steps). Rooted me before w after k clock x root lent s now) steps_is h)))) in
    rooted.events.added ∙ ap (λ (es : List held.Event). map event_of es ++ events_of label (story_by k job input)) none
