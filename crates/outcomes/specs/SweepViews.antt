-- The values and groups of the code, as the definitions see them.
use Rattle.std.specs.Option.{option_map}
use Rattle.outcomes.specs.Views.{job_outcome_held}
use Rattle.outcomes.specs.Groups as groups
use Rattle.outcomes.specs.declared.group.Ends.{Ends}
use Rattle.outcomes.specs.declared.group.Group.{Group}
use Rattle.outcomes.specs.declared.value.Value.{Value}

abbrev pub ends_held : Ends → groups.Ends
ends_held e = record { least = e.least; greatest = e.greatest }

abbrev pub group_held : Group → groups.Group
group_held g =
    record { first = g.first; last = g.last; head = g.head.items; notes = g.notes.items; ends = option_map ends_held g.ends }

abbrev pub value_held : Value → groups.Value
value_held v = record { value = v.value; job_outcome = job_outcome_held v.job_outcome }
