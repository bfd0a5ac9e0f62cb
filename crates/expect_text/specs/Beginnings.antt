-- How the lines of a report and of a story begin, and which patterns can match such a line.
use Rattle.std.specs.Prelude.{◌≡◌, ◌⊎◌, ℕ, ◌==◌, Bool, true, false, ◌||◌, Option, Some, None, List, [], ◌∷◌, ◌++◌, codes, is_some}
use Rattle.std.specs.List.{Any, list_any}
use Rattle.expect_text.specs.Patterns.{squeezed_text}

-- ---- a pattern and the beginning of a line

-- what the first byte of a line leaves of a pattern for the rest of the line, or `None` if the pattern matches no such line: a `*` stays
abbrev pub left_by : (is_star is_same : Bool) → (pattern later : List ℕ) → Option (List ℕ)
left_by true is_same pattern later = Some pattern
left_by false true pattern later = Some later
left_by false false pattern later = None

abbrev pub left_after_byte : ℕ → (pattern : List ℕ) → Option (List ℕ)
left_after_byte b [] = None
left_after_byte b (p ∷ ps) = left_by (p == 42) (p == b) (p ∷ ps) ps

abbrev pub and_then : (List ℕ → Option (List ℕ)) → Option (List ℕ) → Option (List ℕ)
and_then next None = None
and_then next (Some left) = next left

-- what is left of a pattern after the first bytes of a line, if it can match them
abbrev pub left_after : (beginning pattern : List ℕ) → Option (List ℕ)
left_after [] pattern = Some pattern
left_after (b ∷ bs) pattern = and_then (left_after bs) (left_after_byte b pattern)

-- whether a pattern can match a line that begins with at least one of these texts
abbrev pub any_begins : (beginnings : List (List ℕ)) → (pattern : List ℕ) → Bool
any_begins beginnings pattern = list_any (λ beginning. is_some (left_after beginning pattern)) beginnings

-- whether what another beginning left of a pattern can match a line that begins with at least one of these texts
abbrev pub any_after : (beginnings : List (List ℕ)) → Option (List ℕ) → Bool
any_after beginnings None = false
any_after beginnings (Some pattern) = any_begins beginnings pattern

-- ---- the lines of a report and of a story

-- lines that begin with no name of the job: a line that a task borrowed, a tick, the limit, a refusal, a deadlock
abbrev pub plain_words : List (List ℕ)
plain_words = codes "line " ∷ codes "tick " ∷ codes "limit " ∷ codes "refused " ∷ codes "deadlock: " ∷ []

-- the other lines of a report, in which a name of the job comes next
abbrev pub record_words : List (List ℕ)
record_words =
    codes "job " ∷ codes "task " ∷ codes "scope " ∷ codes "nursery " ∷ codes "wait " ∷ codes "acquire " ∷ codes "send " ∷ codes "receive "
    ∷ []

-- what follows that name: the index of a label, or a blank
abbrev pub after_names : List (List ℕ)
after_names = codes "." ∷ codes " " ∷ []

-- what follows the name of a task in a story: the index of its label, or the first word of what happens to it
abbrev pub event_words : List (List ℕ)
event_words =
    codes "." ∷ codes " starts" ∷ codes " enters " ∷ codes " sleeps " ∷ codes " is cancelled " ∷ codes " finds " ∷ codes " raises "
    ∷ codes " cancels " ∷ codes " sets " ∷ codes " waits " ∷ codes " goes on: " ∷ codes " gets a token of " ∷ codes " gives its token of "
    ∷ codes " sends to " ∷ codes " receives from " ∷ codes " closes " ∷ codes " has waited " ∷ codes " handles " ∷ codes " runs cleanup"
    ∷ codes " replaces " ∷ codes " leaves " ∷ codes " ends: " ∷ codes " sleeping " ∷ codes " waiting " ∷ []

abbrev pub BeginsWithOne : (beginnings : List (List ℕ)) → (line : List ℕ) → Type 0
BeginsWithOne beginnings line = Any (λ beginning. (rest : List ℕ) × (line ≡ beginning ++ rest)) beginnings

-- how a line of a report begins in which this name comes after a word
abbrev pub IsRecord : (line name : List ℕ) → Type 0
IsRecord line name = Any (λ word. (rest : List ℕ) × (line ≡ word ++ (name ++ rest)) × BeginsWithOne after_names rest) record_words

-- how a line of a story begins that is about a task of this name
abbrev pub IsEvent : (line name : List ℕ) → Type 0
IsEvent line name = (rest : List ℕ) × (line ≡ name ++ rest) × BeginsWithOne event_words rest

-- How a line of a report or a story begins, of a job that gives these names. Blanks at its start do not count, and other blanks are one
-- space.
abbrev pub IsLine : (names : List (List ℕ)) → (line : List ℕ) → Type 0
IsLine names line = BeginsWithOne plain_words line ⊎ Any (λ name. IsRecord line name ⊎ IsEvent line name) names

-- ---- the patterns that can match such a line

-- whether a pattern can match a line of a report that begins with a word and this name
abbrev pub begins_with : (name pattern word : List ℕ) → Bool
begins_with name pattern word = any_after after_names (and_then (left_after name) (left_after word pattern))

abbrev pub begins_record : (name pattern : List ℕ) → Bool
begins_record name pattern = list_any (begins_with name pattern) record_words

-- whether a pattern can match a line of a story that begins with this name
abbrev pub begins_event : (name pattern : List ℕ) → Bool
begins_event name pattern = any_after event_words (left_after name pattern)

abbrev pub begins_named : (pattern name : List ℕ) → Bool
begins_named pattern name = begins_record name pattern || begins_event name pattern

-- whether a pattern can match a line of a report or a story of a job that gives these names
abbrev pub begins_line : (names : List (List ℕ)) → (pattern : List ℕ) → Bool
begins_line names pattern = any_begins plain_words pattern || list_any (begins_named pattern) names

-- whether a pattern, without the blanks that do not count, can match a line of a report or a story
abbrev pub can_match : (names : List (List ℕ)) → (pattern : List ℕ) → Bool
can_match names pattern = begins_line names (squeezed_text pattern)
