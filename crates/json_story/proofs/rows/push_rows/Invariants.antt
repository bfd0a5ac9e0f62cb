use Rattle.std.proofs.Common.{◌≡◌, ◌++◌, map, drop, nat_lt}
use Rattle.serde_json.specs.View.{items_of}
use Rattle.serde_json.specs.Written.{compact_text, items_text}
use Rattle.task_table.specs.Records.{row_in}
use Rattle.json_story.specs.Values.{list_of, row_json}
use Rattle.json_story.proofs.rows.push_rows.Given as goal

abbrev pub invariant-rows : goal.invariant-rows
invariant-rows l =
    l.out.items ++ items_text (nat_lt 0 l.i) (items_of (map row_json (map row_in (drop l.i l.rows))))
    ≡ l.fn.out.items ++ compact_text (list_of (map row_json (map row_in l.rows)))
