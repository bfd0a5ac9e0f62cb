-- Borrowed labels.
use Rattle.std.specs.Prelude.{List, map}
use Rattle.std.specs.Borrow.{Bor}
use Rattle.exceptions.specs.Exceptions.{Label}

-- the labels that are borrowed
abbrev pub labels_in : List (Bor Label) → List Label
labels_in labels = map (λ l. l.now) labels
