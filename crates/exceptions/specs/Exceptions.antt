-- Exceptions and exception groups (PEP 654), and the labels that they carry.
use Rattle.std.specs.Prelude.{ℕ, Bool, true, false, ◌||◌, Option, Some, None, List, [], ◌∷◌}

-- the label of a task, scope or nursery: its name, and one index for each copy of a `start .. over` and each pass of a
-- `repeat` that it is in, outermost first
pub record Label : Type 0 where
  pub name : List ℕ
  pub indices : List ℕ

-- the origin of a group: a nursery, or a handler that raised
pub data Whose : Type 0 where
  by_nursery : (label : Label) → Whose
  by_handler : Whose

mutual
  pub data Exc : Type 0 where
    cancelled : Exc
    raised : (name : List ℕ) → (task : Label) → (tick : ℕ) → Exc
    too_slow : (scope : Label) → (tick : ℕ) → Exc
    group : (whose : Whose) → (parts : Excs) → Exc

  -- the parts of a group, in order
  pub data Excs : Type 0 where
    no_parts : Excs
    part : (first : Exc) → (rest : Excs) → Excs

-- a list of exceptions as the parts of a group
abbrev pub parts_of : List Exc → Excs
parts_of [] = no_parts
parts_of (e ∷ es) = part e (parts_of es)

-- the group of some exceptions, or `None` where there are no exceptions
abbrev pub group_of : Whose → Excs → Option Exc
group_of whose no_parts = None
group_of whose (part e es) = Some (group whose (part e es))

-- whether at least one leaf is `Cancelled`
abbrev mutual
  pub holds_cancelled : Exc → Bool
  holds_cancelled cancelled = true
  holds_cancelled (raised name task tick) = false
  holds_cancelled (too_slow scope tick) = false
  holds_cancelled (group whose parts) = hold_cancelled parts

  pub hold_cancelled : Excs → Bool
  hold_cancelled no_parts = false
  hold_cancelled (part e es) = holds_cancelled e || hold_cancelled es
