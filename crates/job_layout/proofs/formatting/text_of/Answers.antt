use Rattle.std.proofs.Common.{◌∙◌}
use Rattle.job_reader.specs.Refusals.{first_line}
use Rattle.job_layout.proofs.Printing.{text_written}
use Rattle.job_layout.proofs.formatting.text_of.Goals as goal

pub returns : goal.returns
returns c = text_written (first_line c.args.format) c.in_ok-text.text.items c.push_lines.new.out.items c.push_after_lines.new.out.items
    c.push.new.self.items c.split_separator.result.0.now c.args.body.now c.args.tokens.now
    (c.in_ok-text.ensures.items ∙ c.first_line.ensures) c.split_separator.ensures.separator c.in_ok-push_lines.ensures
    c.in_ok-push_after_lines.ensures c.in_ok-push.ensures.items
