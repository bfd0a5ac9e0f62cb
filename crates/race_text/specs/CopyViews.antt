-- The events of copies and the meetings of the code, as the definitions see them.
use Rattle.std.specs.Prelude.{Option}
use Rattle.std.specs.Borrow.{Bor}
use Rattle.std.specs.Option.{option_map}
use Rattle.exceptions.specs.Exceptions.{Label}
use Rattle.job_story.specs.Held.{what_of}
use Rattle.race_text.specs.Copies as copies
use Rattle.race_text.specs.declared.sights.Sight.{Sight}
use Rattle.race_text.specs.declared.meeting.Met.{Met}
use Rattle.race_text.specs.declared.meeting.Meeting.{Meeting}

abbrev pub label_seen : Option (Bor Label) → Option Label
label_seen label = option_map (λ (l : Bor Label). l.now) label

abbrev pub sight_held : Sight → copies.Sight
sight_held s = record { copy = s.copy.now; tick = s.tick; what = what_of s.event.now.what }

-- a meeting with borrowed labels
abbrev pub met_held : Met → copies.Meeting
met_held m = record { one = m.one.now; other = m.other.now; tick = m.tick }

abbrev pub meeting_held : Meeting → copies.Meeting
meeting_held m = record { one = m.one; other = m.other; tick = m.tick }
