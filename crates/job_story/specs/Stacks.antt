-- The scopes and nurseries that enclose a task, and the events that do, in the terms of the meaning.
use Rattle.std.specs.Prelude.{[], ◌∷◌}
use Rattle.exceptions.specs.Exceptions.{Label}
use Rattle.cancel_scopes.specs.Sight as sights
use Rattle.job_meaning.specs.Walk as meaning
use Rattle.job_story.specs.declared.stack.Stack.{Stack, Empty, Within'}
use Rattle.job_story.specs.declared.stack.Level.{Level}

abbrev pub level_of : Level → sights.Level Label
level_of l = record { label = l.label; shield = l.shield; from = l.from }

-- the levels, innermost first
abbrev pub levels_of : Stack → meaning.Levels
levels_of Empty = []
levels_of (Within' level p outer) = level_of level ∷ levels_of outer
