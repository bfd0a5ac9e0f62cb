-- The bytes of a reader, if they are known.
use Rattle.std.specs.Prelude.{◌≡◌, ℕ, ◌<◌, Option, List, length, IfSome}

-- these are all the bytes that the reader had
abbrev pub IsAllOf : Option (List ℕ) → List ℕ → Type 0
IsAllOf known bytes = IfSome known (λ all. all ≡ bytes)

-- the reader had more bytes than that
abbrev pub IsTooLong : Option (List ℕ) → ℕ → Type 0
IsTooLong known most = IfSome known (λ all. most < length all)
