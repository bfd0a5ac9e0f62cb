-- A nursery: its members, when it ends, and what it raises, as in Trio and PEP 654.
use Rattle.std.specs.Prelude.{ℕ, ◌++◌, Bool, ◌&&◌, Option, Some, None, is_some, List, [], ◌∷◌, slice_set}
use Rattle.std.specs.List.{list_all}
use Rattle.exceptions.specs.Exceptions.{Label, Exc, by_nursery, parts_of, group_of}

-- the end of a member: `None` while it runs, and then the exception with which it ended, or `Some None` without one
abbrev pub End : Type 0
End = Option (Option Exc)

-- A nursery: its cancel scope, the task that waits for it, its label, its members, with the children in the order of their
-- starts, and the moment in which a member ended last, which is 0 before any has.
pub record Nursery : Type 0 where
  pub scope : ℕ
  pub waiter : ℕ
  pub label : Label
  pub body : End
  pub children : List End
  pub last : ℕ

-- a nursery after it was opened: its body runs, and it has no child
abbrev pub new_nursery : ℕ → ℕ → Label → Nursery
new_nursery scope waiter label = record { scope = scope; waiter = waiter; label = label; body = None; children = []; last = 0 }

-- one more child runs
abbrev pub with_start : Nursery → Nursery
with_start n = record n { children = n.children ++ None ∷ [] }

-- the child at an index ended in this moment
abbrev pub with_child : ℕ → Option Exc → ℕ → Nursery → Nursery
with_child index exc moment n = record n { children = slice_set n.children index (Some exc); last = moment }

-- the body ended in this moment
abbrev pub with_body : Option Exc → ℕ → Nursery → Nursery
with_body exc moment n = record n { body = Some exc; last = moment }

-- whether the body and every child have ended
abbrev pub is_settled : Nursery → Bool
is_settled n = is_some n.body && list_all is_some n.children

-- a member's exception, if it ended with one, in front of others
abbrev pub with_exc : End → List Exc → List Exc
with_exc None es = es
with_exc (Some None) es = es
with_exc (Some (Some e)) es = e ∷ es

-- the exceptions of children, in the order of their starts
abbrev pub excs_in : List End → List Exc
excs_in [] = []
excs_in (e ∷ es) = with_exc e (excs_in es)

-- What a nursery raises: one group of its members' exceptions, that of the body first and those of the children in the
-- order of their starts, or nothing where no member ended with an exception. A single exception is wrapped too, as with
-- Trio's strict exception groups. The order is a choice of this language.
abbrev pub raised_by : Nursery → Option Exc
raised_by n = group_of (by_nursery n.label) (parts_of (with_exc n.body (excs_in n.children)))
