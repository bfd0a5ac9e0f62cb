use Rattle.std.proofs.Common.{◌≡◌, ℕ, drop}
use Rattle.std.specs.Prelude.{List, [], ◌++◌, map}
use Rattle.job_story.specs.Notes as notes
use Rattle.job_story.specs.Notes.{number_in, or_number}
use Rattle.story_waits.specs.Groups.{KnowsMoves}
use Rattle.story_waits.specs.Moves.{turn_in}
use Rattle.story_waits.specs.Numbers.{number_at}
use Rattle.story_waits.proofs.numbers.serve.Given as goal

abbrev pub invariant-turns : goal.invariant-turns
invariant-turns l =
    (served : List notes.Turn) × KnowsMoves l.groups served
    × ((i : ℕ) → or_number (number_at l.numbers i) (number_in served i (map turn_in (drop l.turn-index l.turns)))
    ≡ number_in [] i (map turn_in l.turns))
    × (served ++ map turn_in (drop l.turn-index l.turns) ≡ map turn_in l.turns)
