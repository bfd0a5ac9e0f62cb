-- Values of a number that share a line: neighbours for which the outcome of the job is the same, apart from ticks.
use Rattle.std.specs.Prelude.{ℕ, Bool, ◌&&◌, min, max, if◌then◌else◌, Option, Some, None, List, [], ◌∷◌, ◌++◌, codes, decimal}
use Rattle.std.specs.Str.{bytes_eq}
use Rattle.exceptions.specs.Exceptions.{Exc, cancelled, raised, too_slow, group, Excs, no_parts, part}
use Rattle.exceptions.specs.Texts.{label_text, whose_text}
use Rattle.outcomes.specs.JobOutcomes.{JobOutcome, refused, stuck, ended, names_note}

-- ---- the outcome of a job, without ticks

-- an exception as in a report, without the ticks at which it was raised
abbrev mutual
  pub sans_text : Exc → List ℕ
  sans_text cancelled = codes "Cancelled"
  sans_text (raised name task tick) = name ++ codes "(" ++ label_text task ++ codes ")"
  sans_text (too_slow scope tick) = codes "TooSlow(" ++ label_text scope ++ codes ")"
  sans_text (group whose parts) = whose_text whose ++ codes "[" ++ sans_parts parts ++ codes "]"

  pub sans_parts : Excs → List ℕ
  sans_parts no_parts = []
  sans_parts (part e es) = sans_text e ++ sans_more es

  pub sans_more : Excs → List ℕ
  sans_more no_parts = []
  sans_more (part e es) = codes ", " ++ sans_text e ++ sans_more es

abbrev pub end_sans : Option Exc → List ℕ
end_sans None = codes "done"
end_sans (Some cancelled) = codes "cancelled"
end_sans (Some e) = codes "raised " ++ sans_text e

abbrev pub head_text : ℕ → JobOutcome → List ℕ
head_text limit (refused fault) = codes "refused"
head_text limit (stuck sleeping cut lost) = codes "stuck at " ++ decimal limit
head_text limit (ended end exc labels cut lost) = end_sans exc

abbrev pub notes_text : JobOutcome → List ℕ
notes_text (refused fault) = []
notes_text (stuck sleeping cut lost) = names_note (codes "sleeping forever: ") sleeping ++ names_note (codes "cleanup cut: ") cut
notes_text (ended end exc labels cut lost) = names_note (codes "cancelled: ") labels ++ names_note (codes "cleanup cut: ") cut

-- ---- groups

-- the earliest and the latest of some ends
pub record Ends : Type 0 where
  pub least : ℕ
  pub greatest : ℕ

-- values from a first to a last one, their common text, and when the job ends
pub record Group : Type 0 where
  pub first : ℕ
  pub last : ℕ
  pub head : List ℕ
  pub notes : List ℕ
  pub ends : Option Ends

abbrev pub ends_of : JobOutcome → Option Ends
ends_of (refused fault) = None
ends_of (stuck sleeping cut lost) = None
ends_of (ended end exc labels cut lost) = Some (record { least = end; greatest = end })

abbrev pub with_ends : Option Ends → Option Ends → Option Ends
with_ends None b = b
with_ends (Some a) None = Some a
with_ends (Some a) (Some b) = Some (record { least = min a.least b.least; greatest = max a.greatest b.greatest })

abbrev pub group_of_one : ℕ → ℕ → JobOutcome → Group
group_of_one limit value job_outcome =
    record { first = value; last = value; head = head_text limit job_outcome; notes = notes_text job_outcome; ends = ends_of job_outcome }

-- both groups have the same text
abbrev pub shares : Group → Group → Bool
shares a b = bytes_eq a.head b.head && bytes_eq a.notes b.notes

abbrev pub joined_group : Group → Group → Group
joined_group a b = record b { first = a.first; ends = with_ends a.ends b.ends }

-- a group before others; it joins the first of them if both have the same text
abbrev pub before_groups : Group → List Group → List Group
before_groups a [] = a ∷ []
before_groups a (g ∷ gs) = if shares a g then joined_group a g ∷ gs else a ∷ g ∷ gs

-- the outcome of a job for a value
pub record Value : Type 0 where
  pub value : ℕ
  pub job_outcome : JobOutcome

abbrev pub groups_of : ℕ → List Value → List Group
groups_of limit [] = []
groups_of limit (v ∷ vs) = before_groups (group_of_one limit v.value v.job_outcome) (groups_of limit vs)
