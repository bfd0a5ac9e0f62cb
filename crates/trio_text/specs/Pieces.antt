-- Pieces of a text that is written from its start to its end.
use Rattle.std.specs.Prelude.{◌≡◌, ℕ, List}

-- A piece says which text there may be after it is written, for the text before it.

-- exactly this text
abbrev pub Adds : (List ℕ → List ℕ) → List ℕ → List ℕ → Type 0
Adds text_after before after = after ≡ text_after before

-- nothing
abbrev pub AddsNothing : List ℕ → List ℕ → Type 0
AddsNothing before after = after ≡ before

-- one piece, and then another one
pub record Then (first second : List ℕ → List ℕ → Type 0) (before after : List ℕ) : Type 0 where
  pub middle : List ℕ
  pub starts : first before middle
  pub ends : second middle after
