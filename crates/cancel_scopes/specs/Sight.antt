-- What a task sees of the cancel scopes that enclose it, with Trio's cancellation semantics.
use Rattle.std.specs.Prelude.{ℕ, ◌+◌, Bool, true, false, not, ◌&&◌, ◌||◌, Option, Some, None, List, [], ◌∷◌, nat_le, nat_lt, if◌then◌else◌}

-- a tick, or never
abbrev pub Tick : Type 0
Tick = Option ℕ

-- the earlier of two ticks
abbrev pub earlier : Tick → Tick → Tick
earlier None u = u
earlier (Some t) None = Some t
earlier (Some t) (Some u) = Some (if nat_lt u t then u else t)

-- whether one tick is earlier than another: never is later than all
abbrev pub before : Tick → Tick → Bool
before None u = false
before (Some t) None = true
before (Some t) (Some u) = nat_lt t u

-- whether the first tick is at or before the second
abbrev pub is_reached : Tick → ℕ → Bool
is_reached None t = false
is_reached (Some from) t = nat_le from t

-- One tick later. A cancellation that is made in a tick is seen from the next one on, which is a choice of this language.
abbrev pub next : Tick → Tick
next None = None
next (Some t) = Some (t + 1)

-- an open scope: its label, whether it is shielded, and the tick from which it is cancelled
pub record Level (A : Type 0) : Type 0 where
  pub label : A
  pub shield : Bool
  pub from : Tick

-- The effective deadline (`sight`) of a stack, innermost scope first: the earliest tick from which one of its scopes is
-- cancelled, up to and including the first shielded scope.
abbrev pub sight : {A : Type 0} → List (Level A) → Tick
sight [] = None
sight (l ∷ ls) = if l.shield then l.from else earlier l.from (sight ls)

-- whether a cancellation is seen at a tick
abbrev pub seen : {A : Type 0} → List (Level A) → ℕ → Bool
seen stack t = is_reached (sight stack) t

-- A scope catches at its exit tick if it is itself cancelled by then, and either it is shielded or no cancellation is
-- seen in the scopes that enclose it. That an outer scope wins is a choice of this language.
abbrev pub catches : {A : Type 0} → Tick → Bool → List (Level A) → ℕ → Bool
catches from shield outer t = is_reached from t && (shield || not (seen outer t))
