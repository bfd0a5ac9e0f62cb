-- A place in a job text, with its line and its column.
use Rattle.std.specs.Prelude.{◌≡◌, ℕ, List}
use Rattle.basics.specs.Places.{line_of, column_of}
use Rattle.refusal_text.specs.declared.position.Position.{Position}

-- the line and the column are those of the place in the text
pub record IsPosition (text : List ℕ) (position : Position) : Type 0 where
  pub line_is : position.line ≡ line_of text position.at
  pub column_is : position.column ≡ column_of text position.at
