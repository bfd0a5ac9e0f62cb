-- Tasks of two runs that are the same apart from ticks, and from the exits of some scopes.
use Rattle.std.specs.Prelude.{ℕ, ◌==◌, ◌&&◌, Bool, true, false, if◌then◌else◌, List, [], ◌∷◌, ◌++◌, codes}
use Rattle.std.specs.Bool.{beq}
use Rattle.std.specs.Str.{bytes_eq}
use Rattle.job_tree.specs.declared.object.Ask.{Ask}
use Rattle.job_tree.specs.declared.object.Ask.TheVariants.{Acquire, Send, Receive}
use Rattle.exceptions.specs.Labels.{same_label}
use Rattle.job_meaning.specs.Shown.{Shown, line_shown, scope_shown, nursery_shown, wait_shown, grant_shown, Ending, well, by_cancellation, with_exception}
use Rattle.outcomes.specs.Groups.{sans_text}

-- how a task ended, without ticks
abbrev pub outcome_text : Ending → List ℕ
outcome_text well = codes "done"
outcome_text by_cancellation = codes "cancelled"
outcome_text (with_exception e) = codes "raised " ++ sans_text e

abbrev pub same_ask : Ask → Ask → Bool
same_ask Acquire Acquire = true
same_ask Send Send = true
same_ask Receive Receive = true
same_ask _ _ = false

-- two entries are the same line, or exits of the same scope or nursery that both caught or both did not, or waits for the same
-- event, or grants of the same
abbrev pub same_entry : Shown → Shown → Bool
same_entry (line_shown at text) (line_shown at' text') = at == at' && bytes_eq text text'
same_entry (scope_shown l t caught) (scope_shown l' t' caught') = same_label l l' && beq caught caught'
same_entry (nursery_shown l t caught) (nursery_shown l' t' caught') = same_label l l' && beq caught caught'
same_entry (wait_shown l t) (wait_shown l' t') = same_label l l'
same_entry (grant_shown ask l t) (grant_shown ask' l' t') = same_ask ask ask' && same_label l l'
same_entry _ _ = false

-- two lists have equal entries in one order
abbrev pub same_entries : List Shown → List Shown → Bool
same_entries [] [] = true
same_entries (x ∷ xs) (y ∷ ys) = same_entry x y && same_entries xs ys
same_entries _ _ = false

-- an entry is the exit of a scope with this name
abbrev pub is_exit_of : List ℕ → Shown → Bool
is_exit_of scope (scope_shown l t caught) = bytes_eq l.name scope
is_exit_of scope _ = false

-- an entry before others, if it is not such an exit
abbrev pub with_kept : List ℕ → Shown → List Shown → List Shown
with_kept scope x others = if is_exit_of scope x then others else x ∷ others

-- the entries without the exits of scopes with this name
abbrev pub kept_entries : List ℕ → List Shown → List Shown
kept_entries scope [] = []
kept_entries scope (x ∷ xs) = with_kept scope x (kept_entries scope xs)

-- the first entry is such an exit
abbrev pub begins_with_exit : List ℕ → List Shown → Bool
begins_with_exit scope [] = false
begins_with_exit scope (x ∷ xs) = is_exit_of scope x
