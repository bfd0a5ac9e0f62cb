use Rattle.job_reader.proofs.Lexed.{lexed_to_the_end}
use Rattle.job_reader.proofs.spelled.spelled_tokens.Goals as goal

pub unreachable-requires : goal.unreachable-requires
unreachable-requires c =
    let found = c.in_ok-tokens.field-0 in
    lexed_to_the_end c.args.text.now c.after_first_line.result.now c.format_of.result c.args.job.now found.tokens.items found.fault
    c.in-Some.field-0 c.after_first_line.ensures c.format_of.ensures c.in-Some.is c.requires c.in_ok-tokens.ensures
