-- The laws of stories. They are the contracts of functions that do nothing.
use Rattle.std.specs.Prelude.{◌≡◌, ◌≤◌, ℕ, List, length}
use Rattle.job_tree.specs.Tree.{Tree}
use Rattle.job_tree.specs.Names.{GivesNamesOnce}
use Rattle.job_tree.specs.InRange.{IsInRange}
use Rattle.job_meaning.specs.Tables.{Tables}
use Rattle.job_meaning.specs.declared.limits.TheConstants.{MAX_INPUT}
use Rattle.job_meaning.specs.Meaning.{root_log, meaning, meaning_table, meaning_cancelled_from}
use Rattle.job_meaning.specs.Follow.{follow, IsSettled}
use Rattle.job_story.specs.CancelledFrom.{never, set_in}
use Rattle.job_story.specs.Story.{result_of, erased_log}
use Rattle.job_story.specs.Tell.{tale_by, story_by}

-- The story by two tables, with everything erased that a log does not contain, is the log of following the tables.
abbrev pub TellingIsFollowing : Type 0
TellingIsFollowing =
    (k : Tables) (job : Tree) (input : List ℕ) → result_of (tale_by k job input) ≡ follow k.cancelled_from k.granted job input

-- So the story by settled tables is true: its starts, ends, outcomes and entries are the records of the meaning, its deadlines and signs
-- determine from when labels are cancelled in the meaning, and what is done to limiters and channels what these grant.
abbrev pub StoriesAreTrue : Type 0
StoriesAreTrue =
    (k : Tables) (job : Tree) (input : List ℕ) → GivesNamesOnce job → IsInRange job → length input ≤ MAX_INPUT →
    IsSettled k.cancelled_from k.granted job input → erased_log (story_by k job input) ≡ root_log job (meaning job input)

-- The moments from which the scopes and nurseries of a meaning are cancelled, set in an empty table, make the table of the meaning.
abbrev pub CancelledFromGivesTheTable : Type 0
CancelledFromGivesTheTable = (job : Tree) (input : List ℕ) → set_in never (meaning_cancelled_from job input) ≡ meaning_table job input
