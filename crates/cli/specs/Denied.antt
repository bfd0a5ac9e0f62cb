-- The outcomes that a text denies, by their names with commas between them.
use Rattle.std.specs.Prelude.{◌==◌, ℕ, Bool, true, false, ◌||◌, Option, Some, None, List, length, codes}
use Rattle.std.specs.Str.{bytes_eq}
use Rattle.std.specs.List.{list_any, list_all, slice_split}
use Rattle.outcomes.specs.declared.deny.Deny.{Deny}

-- the word is among others
abbrev pub is_among : List ℕ → List (List ℕ) → Bool
is_among word words = list_any (λ other. bytes_eq other word) words

-- the word names a kind
abbrev pub is_kind : List ℕ → Bool
is_kind word = bytes_eq word (codes "stuck") || (bytes_eq word (codes "cut") || bytes_eq word (codes "lost"))

-- the kinds that these words name are denied
abbrev pub denied_among : List (List ℕ) → Deny
denied_among words = record {
  stuck = is_among (codes "stuck") words;
  cut = is_among (codes "cut") words;
  lost = is_among (codes "lost") words;
}

-- the words between the commas of a text
abbrev pub kinds_in : List ℕ → List (List ℕ)
kinds_in text = slice_split (λ b. b == 44) text

-- the text is empty, or each word between its commas names a kind
abbrev pub may_be_denied : List ℕ → Bool
may_be_denied text = (length text == 0) || list_all is_kind (kinds_in text)

-- the kinds that a text names are denied
abbrev pub denied_in : List ℕ → Deny
denied_in text = denied_among (kinds_in text)

-- the outcomes that a text denies; none if it denies what is no outcome
abbrev pub denied_if : Bool → List ℕ → Option Deny
denied_if true text = Some (denied_in text)
denied_if false text = None

abbrev pub spelled_deny : List ℕ → Option Deny
spelled_deny text = denied_if (may_be_denied text) text
