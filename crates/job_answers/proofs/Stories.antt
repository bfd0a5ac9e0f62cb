-- From a run to the verdict on its story.
use Rattle.std.proofs.Common.{◌≡◌, ℕ, ◌≤◌, ◌<◌, Bool, true, false, Option, Some, None, List, [], refl, sym, ap, subst, ◌∙◌, inl, inr, arith, nat_le, nat_lt, if◌then◌else◌}
use Rattle.std.proofs.lemmas.Bool.Decides.{nat_tests}
use Rattle.std.specs.Prelude.{IsSome, IsNone}
use Rattle.std.specs.Borrow.{Bor}
use Rattle.std.specs.Global.{Vec}
use Rattle.job_tree.specs.Tree.{Tree}
use Rattle.exceptions.specs.Exceptions.{Label, Exc, cancelled, raised, too_slow, group}
use Rattle.job_meaning.specs.Log.{Table}
use Rattle.job_meaning.specs.Sharing.{Grants}
use Rattle.job_meaning.specs.Tables.{meaning_tables}
use Rattle.job_meaning.specs.Moments.{clock_of}
use Rattle.job_meaning.specs.declared.clock.Clock.{Clock}
use Rattle.job_meaning.specs.Meaning.{root_label, meaning, meaning_end, meaning_table, meaning_grants}
use Rattle.job_meaning.specs.Shown.{Row, ending_of, meaning_rows}
use Rattle.job_runner.specs.Runs.{is_well}
use Rattle.job_story.specs.Tell.{story_by}
use Rattle.job_story.specs.Events.{Event, events_of}
use Rattle.job_story.specs.Focus.{task_named}
use Rattle.job_story.specs.Limit.{walked_to}
use Rattle.story_index.specs.Nearest.{nearest_in}
use Rattle.story_index.specs.Until.{events_until}
use Rattle.job_answers.specs.declared.about.About.{About}
use Rattle.job_answers.specs.declared.about.About.TheVariants.{All, Task, NoTask}
use Rattle.job_answers.specs.declared.story_verdict.StoryVerdict.{StoryVerdict}
use Rattle.job_answers.specs.declared.story_verdict.StoryVerdict.TheVariants as verdict
use Rattle.job_answers.specs.declared.meaning.Ending.{Ending}
use Rattle.job_answers.specs.declared.meaning.Ending.TheVariants.{Done, Raised, Late}
use Rattle.job_answers.specs.Stories.{story_events, story_events_if, story_if, until_if, label_or_nothing, IsAbout, IsAboutNone}
use Rattle.job_answers.specs.Views.{IsStoryVerdict}
use Rattle.job_answers.specs.Verdict.{text_view}
use Rattle.job_answers.proofs.Views.{story_verdict_is}
use Rattle.job_answers.specs.Running.{running_lines, IsJobRunning}
use Rattle.job_answers.specs.Endings.{IsEnding, ending_by, until_of}
use Rattle.job_answers.specs.Tellings.{IsAsked, IsStoryAbout, verdict_of, story_shown}

le_test : (m n : ℕ) → m ≤ n → nat_le m n ≡ true
le_test m n h = grind (arith, nat_tests)

gt_test : (m n : ℕ) → n < m → nat_le m n ≡ false
gt_test m n h = grind (arith, nat_tests)

lt_of_test : (m n : ℕ) → nat_lt m n ≡ true → m < n
lt_of_test m n h = grind (arith, nat_tests)

le_of_test : (m n : ℕ) → nat_lt m n ≡ false → n ≤ m
le_of_test m n h = grind (arith, nat_tests)

-- a root task ended well where it has no exception
well_none : (o : Option Exc) → is_well (ending_of o) ≡ true → IsNone o
well_none None e = refl
well_none (Some cancelled) e = let f : false ≡ true = e in absurd (cc)
well_none (Some (raised name task tick)) e = let f : false ≡ true = e in absurd (cc)
well_none (Some (too_slow scope tick)) e = let f : false ≡ true = e in absurd (cc)
well_none (Some (group whose parts)) e = let f : false ≡ true = e in absurd (cc)

ill_some : (o : Option Exc) → is_well (ending_of o) ≡ false → IsSome o
ill_some None e = let f : true ≡ false = e in absurd (cc)
ill_some (Some x) e = refl

-- the run of a meaning ends as the meaning does
ends_as : (job : Tree) (input : List ℕ) (limit : ℕ) (late well : Bool) → nat_lt limit (meaning_end job input) ≡ late →
    is_well (ending_of (meaning job input).exc) ≡ well → IsEnding job input limit (if late then Late else (if well then Done else Raised))
ends_as job input limit true well t w = lt_of_test limit (meaning_end job input) t
ends_as job input limit false true t w = (le_of_test limit (meaning_end job input) t, well_none (meaning job input).exc w)
ends_as job input limit false false t w = (le_of_test limit (meaning_end job input) t, ill_some (meaning job input).exc w)

pub is_ending : (job : Tree) (input : List ℕ) (limit : ℕ) (rows : List Row) (ending : Ending) → rows ≡ meaning_rows job input →
    ending ≡ ending_by rows limit → IsEnding job input limit ending
is_ending job input limit rows ending same is =
    subst (IsEnding job input limit) (sym (is ∙ ap (λ (rs : List Row). ending_by rs limit) same))
    (ends_as job input limit (nat_lt limit (meaning_end job input)) (is_well (ending_of (meaning job input).exc)) refl refl)

-- the events of the story as far as the limit shows them are those of the meaning's story
events_if : (job : Tree) (input : List ℕ) (limit : ℕ) (ending : Ending) → IsEnding job input limit ending →
    events_until (clock_of job.format) (until_of ending limit) (events_of (root_label job.name) (story_by (meaning_tables job input) job input)) ≡ story_events limit job input
events_if job input limit Done h = ap (λ (b : Bool). story_events_if b limit job input) (sym (le_test (meaning_end job input) limit h.0))
events_if job input limit Raised h = ap (λ (b : Bool). story_events_if b limit job input) (sym (le_test (meaning_end job input) limit h.0))
events_if job input limit Late h = ap (λ (b : Bool). story_events_if b limit job input) (sym (gt_test (meaning_end job input) limit h))

-- the story by the tables of a run is that by the tables of the meaning
pub told_by : (job : Tree) (input : List ℕ) (table : Table) (grants : Grants) → table ≡ meaning_table job input → grants ≡ meaning_grants job input →
    story_by (record { cancelled_from = table; granted = grants }) job input ≡ story_by (meaning_tables job input) job input
told_by job input table grants same granted =
    ap (λ (k : Table). story_by (record { cancelled_from = k; granted = grants }) job input) same
    ∙ ap (λ (g : Grants). story_by (record { cancelled_from = meaning_table job input; granted = g }) job input) granted

pub events_are : (job : Tree) (input : List ℕ) (limit given : ℕ) (ending : Ending) (clock : Clock) (table : Table) (grants : Grants) (until : Option ℕ)
    (events : List Event) → IsEnding job input limit ending → clock ≡ clock_of job.format → table ≡ meaning_table job input →
    grants ≡ meaning_grants job input → until ≡ until_of ending given → given ≡ limit →
    events ≡ events_of (root_label job.name) (story_by (record { cancelled_from = table; granted = grants }) job input) →
    events_until clock until events ≡ story_events limit job input
events_are job input limit given ending clock table grants until events h counts same granted cut is of_story =
    ap (λ (c : Clock). events_until c until events) counts
    ∙ ap (λ (u : Option ℕ). events_until (clock_of job.format) u events) (cut ∙ ap (until_of ending) is)
    ∙ ap (events_until (clock_of job.format) (until_of ending limit))
    (of_story ∙ ap (events_of (root_label job.name)) (told_by job input table grants same granted))
    ∙ events_if job input limit ending h

-- and they are cut off where the meaning ends later than the limit
cut_if : (job : Tree) (input : List ℕ) (limit : ℕ) (ending : Ending) → IsEnding job input limit ending →
    until_of ending limit ≡ until_if (nat_le (meaning_end job input) limit) limit
cut_if job input limit Done h = ap (λ (b : Bool). until_if b limit) (sym (le_test (meaning_end job input) limit h.0))
cut_if job input limit Raised h = ap (λ (b : Bool). until_if b limit) (sym (le_test (meaning_end job input) limit h.0))
cut_if job input limit Late h = ap (λ (b : Bool). until_if b limit) (sym (gt_test (meaning_end job input) limit h))

pub cut_is : (job : Tree) (input : List ℕ) (limit given : ℕ) (ending : Ending) (until : Option ℕ) → IsEnding job input limit ending →
    until ≡ until_of ending given → given ≡ limit → until ≡ until_if (nat_le (meaning_end job input) limit) limit
cut_is job input limit given ending until h cut is = cut ∙ ap (until_of ending) is ∙ cut_if job input limit ending h

-- and so is their text
story_if_is : (b : Bool) (job : Tree) (input : List ℕ) (limit : ℕ) (task : Option Label) →
    story_shown (clock_of job.format) (meaning_table job input) (until_if b limit) task (story_events_if b limit job input) ≡ story_if b limit job input task
story_if_is true job input limit None = refl
story_if_is true job input limit (Some task) = refl
story_if_is false job input limit None = refl
story_if_is false job input limit (Some task) = refl

-- ---- which tasks run at a limit

pub none_run : (job : Tree) (input : List ℕ) (limit : ℕ) (ending : Ending) (lines : List ℕ) → IsEnding job input limit ending →
    until_of ending limit ≡ None → lines ≡ [] → IsJobRunning job input limit lines
none_run job input limit Done lines h e is =
    record { late = λ (l : limit < meaning_end job input). absurd (grind (arith)); in_time = λ (l : meaning_end job input ≤ limit). is }
none_run job input limit Raised lines h e is =
    record { late = λ (l : limit < meaning_end job input). absurd (grind (arith)); in_time = λ (l : meaning_end job input ≤ limit). is }
none_run job input limit Late lines h e is = absurd (let f : Some limit ≡ None = e in cc)

pub these_run : (job : Tree) (input : List ℕ) (limit : ℕ) (ending : Ending) (clock : Clock) (table : Table) (shown : List Event) (lines : List ℕ) →
    IsEnding job input limit ending → ending ≡ Late → clock ≡ clock_of job.format → table ≡ meaning_table job input →
    shown ≡ story_events limit job input → lines ≡ running_lines clock table shown → IsJobRunning job input limit lines
these_run job input limit ending clock table shown lines h e counts same of_story is =
    record {
      late = λ (l : limit < meaning_end job input). all (subst (IsEnding job input limit) e h);
      in_time = λ (l : meaning_end job input ≤ limit). absurd (let k = subst (IsEnding job input limit) e h in grind (arith));
    }
  where
    all : limit < meaning_end job input →
        lines ≡ running_lines (clock_of job.format) (meaning_table job input) (walked_to (meaning_tables job input) limit job input)
    all k =
        is ∙ ap (λ (c : Clock). running_lines c table shown) counts
        ∙ ap (λ (t : Table). running_lines (clock_of job.format) t shown) same
        ∙ ap (running_lines (clock_of job.format) (meaning_table job input))
        (of_story ∙ ap (λ (b : Bool). story_events_if b limit job input) (gt_test (meaning_end job input) limit k))

-- ---- which task was asked for

about_all : (asked : Option (List ℕ)) (es : List Event) → asked ≡ None → IsAbout asked es None
about_all None es e = refl
about_all (Some text) es e = absurd (let f : Some text ≡ None = e in cc)

about_task : (asked : Option (List ℕ)) (es : List Event) (label : Label) (text : List ℕ) → asked ≡ Some text →
    task_named text es ≡ Some label → IsAbout asked es (Some label)
about_task asked es label text e found =
    subst (λ (o : Option (List ℕ)). IsAbout o es (Some label)) (sym e) (refl, sym found)

about_none : (asked : Option (List ℕ)) (es : List Event) (nearest text : List ℕ) → asked ≡ Some text → task_named text es ≡ None →
    nearest ≡ label_or_nothing (nearest_in text es) → IsAboutNone asked es nearest
about_none asked es nearest text e none is = subst (λ (o : Option (List ℕ)). IsAboutNone o es nearest) (sym e) (none, is)

pub story_about_all : (clock : Clock) (table : Table) (until : Option ℕ) (ending : Ending) (asked : Option (List ℕ)) (walked : List Event) (about : About)
    (given : StoryVerdict) (bytes : List ℕ) → IsAsked asked walked about → about ≡ All → given ≡ verdict_of ending →
    bytes ≡ story_shown clock table until None walked → IsStoryAbout clock table until ending asked walked given bytes
story_about_all clock table until ending asked walked about given bytes h e is text =
    inl (None, about_all asked walked (subst (IsAsked asked walked) e h), is, text)

-- the verdict and the bytes if a task was asked for, and the story has it
pub story_about_one : (clock : Clock) (table : Table) (until : Option ℕ) (ending : Ending) (asked : Option (List ℕ)) (walked : List Event) (about : About)
    (label : Bor Label) (given : StoryVerdict) (bytes : List ℕ) → IsAsked asked walked about → about ≡ Task label →
    given ≡ verdict_of ending → bytes ≡ story_shown clock table until (Some label.now) walked →
    IsStoryAbout clock table until ending asked walked given bytes
story_about_one clock table until ending asked walked about label given bytes h e is text =
    let k = subst (IsAsked asked walked) e h in inl (Some label.now, about_task asked walked label.now k.0 k.1 k.2, is, text)

-- the verdict and the bytes if a task was asked for that the story does not have
pub story_about_none : (clock : Clock) (table : Table) (until : Option ℕ) (ending : Ending) (asked : Option (List ℕ)) (walked : List Event) (about : About)
    (nearest : Vec ℕ) (given : StoryVerdict) (bytes : List ℕ) → IsAsked asked walked about → about ≡ NoTask nearest →
    given ≡ verdict.NoTask nearest → bytes ≡ [] → IsStoryAbout clock table until ending asked walked given bytes
story_about_none clock table until ending asked walked about nearest given bytes h e is text =
    let k = subst (IsAsked asked walked) e h in inr (nearest, about_none asked walked nearest.items k.0 k.1 k.2 k.3, is, text)

-- ---- the verdict on a job

by_about : (job : Tree) (input : List ℕ) (limit : ℕ) (asked : Option (List ℕ)) (ending : Ending) (given : StoryVerdict) (bytes : List ℕ) →
    IsEnding job input limit ending →
    IsStoryAbout (clock_of job.format) (meaning_table job input) (until_if (nat_le (meaning_end job input) limit) limit) ending asked (story_events limit job input) given bytes →
    IsStoryVerdict text_view job input limit asked given bytes
by_about job input limit asked ending given bytes h (inl t) =
    subst (λ (v : StoryVerdict). IsStoryVerdict text_view job input limit asked v bytes) (sym t.2)
    (story_verdict_is text_view job input limit asked ending t.0 bytes h t.1 (t.3 ∙ story_if_is (nat_le (meaning_end job input) limit) job input limit t.0))
by_about job input limit asked ending given bytes h (inr t) =
    subst (λ (v : StoryVerdict). IsStoryVerdict text_view job input limit asked v bytes) (sym t.2) (t.1, t.3)

-- the verdict and the bytes for a job that was read: those of the story of its meaning
pub job_explained : (job : Tree) (input : List ℕ) (limit : ℕ) (asked : Option (List ℕ)) (ending : Ending) (clock : Clock) (table : Table)
    (until : Option ℕ) (walked : List Event) (given : StoryVerdict) (bytes : List ℕ) → IsEnding job input limit ending →
    clock ≡ clock_of job.format → table ≡ meaning_table job input → until ≡ until_if (nat_le (meaning_end job input) limit) limit →
    walked ≡ story_events limit job input →
    IsStoryAbout clock table until ending asked walked given bytes → IsStoryVerdict text_view job input limit asked given bytes
job_explained job input limit asked ending clock table until walked given bytes h counts same until_is walked_is t =
    by_about job input limit asked ending given bytes h
    (subst (λ (es : List Event). IsStoryAbout (clock_of job.format) (meaning_table job input) (until_if (nat_le (meaning_end job input) limit) limit) ending asked es given bytes) walked_is
    (subst (λ (u : Option ℕ). IsStoryAbout (clock_of job.format) (meaning_table job input) u ending asked walked given bytes) until_is
    (subst (λ (k : Table). IsStoryAbout (clock_of job.format) k until ending asked walked given bytes) same
    (subst (λ (c : Clock). IsStoryAbout c table until ending asked walked given bytes) counts t))))
