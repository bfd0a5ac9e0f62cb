-- What the code knows of notes.
use Rattle.std.specs.Prelude.{ℕ, ◌&&◌, Bool, Option, Some, None, nat_eq}
use Rattle.std.specs.Bool.{beq}
use Rattle.std.specs.Option.{option_map, unwrap_or}
use Rattle.indexmap.specs.IndexMap.{IndexMap, get_by}
use Rattle.exceptions.specs.Exceptions.{Label}
use Rattle.job_meaning.specs.Log.{same_label}
use Rattle.job_story.specs.Events.{Event}
use Rattle.job_story.specs.Notes as notes
use Rattle.story_waits.specs.Noted.{note_in}
use Rattle.story_waits.specs.declared.note.Note.{Note}
use Rattle.story_waits.specs.declared.queue_notes.Asker.{Asker}
use Rattle.story_waits.specs.declared.queue_notes.QueueNotes.{QueueNotes}

abbrev pub joins_in : Asker → Bool
joins_in x = x.joins

abbrev pub is_asker : Label → ℕ → Bool → Asker → Bool
is_asker task moment joins x = beq joins x.joins && (same_label task x.task.now && nat_eq moment x.moment)

abbrev pub noted_by : {S : Type 0} → IndexMap Asker (Option Note) S → Label → ℕ → Option Bool → Option (Option notes.Note)
noted_by map_ task moment None = None
noted_by map_ task moment (Some joins) = option_map (option_map note_in) (get_by (is_asker task moment joins) map_)

-- what is noted of an event, if it is one that notes are about
abbrev pub noted_at : {S : Type 0} → IndexMap Asker (Option Note) S → Event → Option (Option notes.Note)
noted_at map_ e = noted_by map_ e.task e.tick (notes.joins_by e.what)

-- what is said of other tasks in an event
abbrev pub held_notes : QueueNotes → notes.Notes
held_notes known e = unwrap_or (noted_at known.notes e) None
