use Rattle.std.proofs.Common.{◌≡◌, ◌++◌, map, drop, nat_lt}
use Rattle.serde_json.specs.View.{items_of}
use Rattle.serde_json.specs.Written.{compact_text, items_text}
use Rattle.task_machine.specs.Noted.{entry_of}
use Rattle.json_story.specs.Values.{entry_json, list_of}
use Rattle.json_story.proofs.rows.push_entries.Given as goal

abbrev pub invariant-entries : goal.invariant-entries
invariant-entries l =
    l.out.items ++ items_text (nat_lt 0 l.i) (items_of (map entry_json (map entry_of (drop l.i l.entries))))
    ≡ l.fn.out.items ++ compact_text (list_of (map entry_json (map entry_of l.entries)))
