use Rattle.std.proofs.Common.{◌∙◌, sym, map, ◌||◌, not}
use Rattle.serde_json.specs.View.{view}
use Rattle.outcomes.specs.Table.{printed}
use Rattle.outcomes.specs.Views.{line_held}
use Rattle.json_tables.specs.Faults.{fault_line_json}
use Rattle.json_tables.proofs.Appended.{shown_line}
use Rattle.json_tables.proofs.fault_lines.push_printed.Goals as goal

pub returns-in_ok-push_line : goal.returns-in_ok-push_line
returns-in_ok-push_line c rest =
    shown_line (fault_line_json c.args.limit) (not c.args.brief || c.args.line.now.differs) (map view c.args.values.now.items)
    (map view c.push_line.new.values.items) (line_held c.args.line.now) (printed c.args.brief rest)
    (sym c.is_printed.ensures ∙ c.if-is_printed.true) c.in_ok-push_line.ensures
