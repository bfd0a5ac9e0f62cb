-- Requests and answers, slot by slot. No public clause cites this module.
use Rattle.std.specs.Prelude.{Option, Some, None, List, [], ◌∷◌}
use Rattle.input_lines.specs.declared.request.Request.{Request}
use Rattle.input_lines.specs.declared.answers.Answer.{Answer}
use Rattle.task_table.specs.declared.entry.Entry.{Entry}
use Rattle.task_table.specs.Entries.{request_in, with_placed, answers_after}

-- the request of a slot whose entry asks
abbrev pub request_at : Option Entry → Option Request
request_at None = None
request_at (Some e) = request_in e.call

-- a slot after answers are placed from it on
abbrev pub slot_placed : Option Entry → List Answer → Option Entry
slot_placed None answers = None
slot_placed (Some e) answers = Some (with_placed answers e)

-- the answers that are left for the slots after it
abbrev pub answers_after_slot : Option Entry → List Answer → List Answer
answers_after_slot None answers = answers
answers_after_slot (Some e) answers = answers_after (request_in e.call) answers

-- slots after answers are placed
abbrev pub slots_placed : List (Option Entry) → List Answer → List (Option Entry)
slots_placed [] answers = []
slots_placed (slot ∷ slots) answers = slot_placed slot answers ∷ slots_placed slots (answers_after_slot slot answers)
