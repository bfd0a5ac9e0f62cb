-- From a run to its story as JSON.
use Rattle.std.proofs.Common.{◌≡◌, ℕ, nat_le, Option, Some, None, List, [], refl, sym, subst, inl, inr}
use Rattle.std.specs.Global.{Vec}
use Rattle.job_tree.specs.Tree.{Tree}
use Rattle.exceptions.specs.Exceptions.{Label}
use Rattle.cancel_scopes.specs.Sight.{Tick}
use Rattle.job_meaning.specs.Log.{Table}
use Rattle.job_meaning.specs.Meaning.{meaning_end, meaning_table}
use Rattle.job_story.specs.Events.{Event}
use Rattle.job_story.specs.Focus.{task_named}
use Rattle.story_index.specs.Nearest.{nearest_in}
use Rattle.job_answers.specs.declared.meaning.Ending.{Ending}
use Rattle.job_answers.specs.declared.story_verdict.StoryVerdict.{StoryVerdict}
use Rattle.job_answers.specs.declared.story_verdict.StoryVerdict.TheVariants as story
use Rattle.job_answers.specs.Stories.{story_events, until_if, label_or_nothing, IsAbout}
use Rattle.job_answers.specs.Endings.{IsEnding}
use Rattle.job_answers.specs.Tellings.{verdict_of}
use Rattle.job_meaning.specs.Moments.{clock_of}
use Rattle.job_meaning.specs.declared.clock.Clock.{Clock}
use Rattle.json_story.specs.Values.{document}
use Rattle.json_story.specs.Stories.{story_json}
use Rattle.job_answers.specs.Views.{IsStoryVerdict}
use Rattle.job_answers.proofs.Views.{story_verdict_is}
use Rattle.commands.specs.Explaining.{IsStoryAbout}
use Rattle.commands.specs.Serving.{json_view}

-- ---- which task was asked for

pub story_about_all : (clock : Clock) (name : List ℕ) (table : Table) (until : Tick) (ending : Ending) (asked : Option (List ℕ)) (walked : List Event)
    (given : StoryVerdict) (bytes : List ℕ) → asked ≡ None → given ≡ verdict_of ending →
    bytes ≡ document (story_json clock name until table None walked) → IsStoryAbout clock name table until ending asked walked given bytes
story_about_all clock name table until ending None walked given bytes e is text = inl (None, refl, is, text)
story_about_all clock name table until ending (Some asked) walked given bytes e is text = absurd (let f : Some asked ≡ None = e in cc)

pub story_about_one : (clock : Clock) (name : List ℕ) (table : Table) (until : Tick) (ending : Ending) (asked : List ℕ) (walked : List Event)
    (label : Label) (given : StoryVerdict) (bytes : List ℕ) → task_named asked walked ≡ Some label → given ≡ verdict_of ending →
    bytes ≡ document (story_json clock name until table (Some label) walked) → IsStoryAbout clock name table until ending (Some asked) walked given bytes
story_about_one clock name table until ending asked walked label given bytes found is text = inl (Some label, (refl, sym found), is, text)

-- the verdict and the bytes if a task was asked for that the story does not have
pub story_about_none : (clock : Clock) (name : List ℕ) (table : Table) (until : Tick) (ending : Ending) (asked : List ℕ) (walked : List Event)
    (nearest : Vec ℕ) (given : StoryVerdict) (bytes : List ℕ) → task_named asked walked ≡ None →
    nearest.items ≡ label_or_nothing (nearest_in asked walked) → given ≡ story.NoTask nearest → bytes ≡ [] →
    IsStoryAbout clock name table until ending (Some asked) walked given bytes
story_about_none clock name table until ending asked walked nearest given bytes none is no_task text = inr (nearest, (none, is), no_task, text)

pub story_about_some : (clock : Clock) (name : List ℕ) (table : Table) (until : Tick) (ending : Ending) (asked : Option (List ℕ)) (text : List ℕ)
    (walked : List Event) (given : StoryVerdict) (bytes : List ℕ) → asked ≡ Some text →
    IsStoryAbout clock name table until ending (Some text) walked given bytes → IsStoryAbout clock name table until ending asked walked given bytes
story_about_some clock name table until ending asked text walked given bytes is =
    subst (λ (o : Option (List ℕ)). IsStoryAbout clock name table until ending o walked given bytes) (sym is)

-- ---- the verdict on a job

by_about : (job : Tree) (input : List ℕ) (limit : ℕ) (asked : Option (List ℕ)) (ending : Ending) (given : StoryVerdict)
    (bytes : List ℕ) → IsEnding job input limit ending →
    IsStoryAbout (clock_of job.format) job.name (meaning_table job input) (until_if (nat_le (meaning_end job input) limit) limit) ending asked (story_events limit job input) given bytes →
    IsStoryVerdict json_view job input limit asked given bytes
by_about job input limit asked ending given bytes h (inl t) =
    subst (λ (v : StoryVerdict). IsStoryVerdict json_view job input limit asked v bytes) (sym t.2)
    (story_verdict_is json_view job input limit asked ending t.0 bytes h t.1 t.3)
by_about job input limit asked ending given bytes h (inr t) =
    subst (λ (v : StoryVerdict). IsStoryVerdict json_view job input limit asked v bytes) (sym t.2) (t.1, t.3)

-- the verdict and the document for a job that was read: that of the story of its meaning
pub job_explained : (job : Tree) (input : List ℕ) (limit : ℕ) (asked : Option (List ℕ)) (ending : Ending) (clock : Clock) (table : Table)
    (until : Tick) (walked : List Event) (given : StoryVerdict) (bytes : List ℕ) → IsEnding job input limit ending →
    clock ≡ clock_of job.format → table ≡ meaning_table job input → until ≡ until_if (nat_le (meaning_end job input) limit) limit →
    walked ≡ story_events limit job input →
    IsStoryAbout clock job.name table until ending asked walked given bytes → IsStoryVerdict json_view job input limit asked given bytes
job_explained job input limit asked ending clock table until walked given bytes h counts same until_is walked_is t =
    by_about job input limit asked ending given bytes h
    (subst (λ (es : List Event). IsStoryAbout (clock_of job.format) job.name (meaning_table job input) (until_if (nat_le (meaning_end job input) limit) limit) ending asked es given bytes) walked_is
    (subst (λ (u : Tick). IsStoryAbout (clock_of job.format) job.name (meaning_table job input) u ending asked walked given bytes) until_is
    (subst (λ (k : Table). IsStoryAbout (clock_of job.format) job.name k until ending asked walked given bytes) same
    (subst (λ (c : Clock). IsStoryAbout c job.name table until ending asked walked given bytes) counts t))))
