use Rattle.std.proofs.Common.{ℕ, List, ◌++◌, ◌∙◌, ap, length}
use Rattle.std.specs.Prelude.{decimal}
use Rattle.std.specs.List.{flat_map}
use Rattle.json.specs.Print.{quoted}
use Rattle.input_lines.specs.Part.{span_of, line_text}
use Rattle.job_report.specs.Text.{byte_text}
use Rattle.json_story.proofs.LineLemmas.{line_written}
use Rattle.json_story.proofs.rows.push_line.Goals as goal

pub returns : goal.returns
returns c =
    line_written (span_of c.args.line).at (line_text c.args.line) c.args.out.now.items _ _ _ _ _ _ _ c.in_ok-extend_from_slice.ensures.items
    (c.in_ok-push_number.ensures ∙ ap (λ n. c.extend_from_slice.new.self.items ++ decimal n) c.at.ensures)
    c.in_ok-extend_from_slice-2.ensures.items
    (c.in_ok-push_number-2.ensures ∙ ap (λ (text : List ℕ). c.extend_from_slice-2.new.self.items ++ decimal (length text)) c.text.ensures)
    c.in_ok-extend_from_slice-3.ensures.items
    (c.in_ok-push_quoted.ensures ∙ ap (λ text. c.extend_from_slice-3.new.self.items ++ quoted (flat_map byte_text text)) c.text-2.ensures)
    c.in_ok-extend_from_slice-4.ensures.items
