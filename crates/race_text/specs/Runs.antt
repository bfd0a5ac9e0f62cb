-- Two runs of a job, each of which ended by a limit or did not. The exits of scopes with the name `scope` are left out.
use Rattle.std.specs.Prelude.{ℕ, Bool, true, false, List, [], ◌∷◌, codes}
use Rattle.job_meaning.specs.Shown.{Row}
use Rattle.race_text.specs.Same.{outcome_text}
use Rattle.race_text.specs.Differences.{Difference, otherwise, differences}

-- how the root ended, or that it did not end by the limit
abbrev pub root_text : Bool → Row → List ℕ
root_text true r = outcome_text r.ending
root_text false r = codes "stuck"

-- what differs of the roots, whose rows are the first
abbrev pub of_roots : Bool → List Row → Bool → List Row → List Difference
of_roots a [] b after = []
of_roots a (r ∷ rs) b [] = []
of_roots a (r ∷ rs) b (s ∷ ss) = otherwise r.label (root_text a r) (root_text b s) ∷ []

-- The tasks that differ if both ended by the limit; the root alone if one of them did; none if neither did.
abbrev pub of_runs : (scope : List ℕ) → Bool → List Row → Bool → List Row → List Difference
of_runs scope true before true after = differences scope before after
of_runs scope true before false after = of_roots true before false after
of_runs scope false before true after = of_roots false before true after
of_runs scope false before false after = []
