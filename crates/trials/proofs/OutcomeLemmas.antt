-- From a summary to the outcome of a job.
use Rattle.std.proofs.Common.{◌≡◌, ℕ, ◌≤◌, ◌<◌, Bool, true, false, Option, List, map, refl, sym, ap, subst, ◌∙◌, arith, nat_le}
use Rattle.std.proofs.lemmas.Bool.Decides.{nat_tests}
use Rattle.std.specs.Option.{option_map}
use Rattle.job_tree.specs.Tree.{Tree}
use Rattle.exceptions.specs.Held.{exc_of}
use Rattle.job_meaning.specs.Moments.{clock_of}
use Rattle.job_meaning.specs.Meaning.{meaning, meaning_end}
use Rattle.job_meaning.specs.Shown.{meaning_rows}
use Rattle.job_story.specs.Held.{event_of}
use Rattle.job_story.specs.Events.{in_order}
use Rattle.job_story.specs.Limit.{by_limit}
use Rattle.outcomes.specs.Notes.{cut_in, is_raised}
use Rattle.outcomes.specs.JobOutcomes.{JobOutcome, stuck_by, ended, walked_events, loses, job_outcome_by, job_outcome_of, reaches}
use Rattle.trials.specs.declared.summary.Summary.{Summary}
use Rattle.trials.specs.Held.{IsSummary}

le_test : (m n : ℕ) → m ≤ n → nat_le m n ≡ true
le_test m n h = grind (arith, nat_tests)

gt_test : (m n : ℕ) → n < m → nat_le m n ≡ false
gt_test m n h = grind (arith, nat_tests)

-- a job that ends after the limit is stuck
pub stuck_is : (job : Tree) (input : List ℕ) (limit : ℕ) (name : Option (List ℕ)) (s : Summary) (job_outcome : JobOutcome) →
    IsSummary job input s → limit < s.end → job_outcome ≡ stuck_by name (by_limit s.clock limit (map event_of s.events.items)) →
    job_outcome ≡ job_outcome_of limit name job input
stuck_is job input limit name s job_outcome is late same =
    same ∙ ap (λ c. stuck_by name (by_limit c limit (map event_of s.events.items))) is.clock
    ∙ ap (λ es. stuck_by name (by_limit (clock_of job.format) limit es)) is.events
    ∙ ap (λ b. job_outcome_by (clock_of job.format) b limit name (meaning_end job input) (meaning job input).exc (meaning_rows job input) (walked_events job input))
    (sym (gt_test (meaning_end job input) limit (subst (λ n. limit < n) is.end late)))

-- any other job ends
pub ended_is : (job : Tree) (input : List ℕ) (limit : ℕ) (name : Option (List ℕ)) (s : Summary) (job_outcome : JobOutcome) →
    IsSummary job input s → s.end ≤ limit →
    job_outcome ≡ ended s.end (option_map exc_of s.exc) s.cancelled.items (cut_in (in_order (map event_of s.events.items)))
    (loses name (map event_of s.events.items)) → job_outcome ≡ job_outcome_of limit name job input
ended_is job input limit name s job_outcome is soon same =
    same ∙ rw (is.end, is.exc, is.cancelled, is.events) refl
    ∙ ap (λ b. job_outcome_by (clock_of job.format) b limit name (meaning_end job input) (meaning job input).exc (meaning_rows job input) (walked_events job input))
    (sym (le_test (meaning_end job input) limit (subst (λ n. n ≤ limit) is.end soon)))

pub reaches_is : (job : Tree) (input : List ℕ) (limit : ℕ) (name : List ℕ) (s : Summary) (reached : Bool) →
    IsSummary job input s → reached ≡ is_raised name (by_limit s.clock limit (map event_of s.events.items)) →
    reached ≡ reaches limit name job input
reaches_is job input limit name s reached is same = same
    ∙ ap (λ c. is_raised name (by_limit c limit (map event_of s.events.items))) is.clock
    ∙ ap (λ es. is_raised name (by_limit (clock_of job.format) limit es)) is.events
