use Rattle.job_story.specs.Held.{span_in}
use Rattle.json_story.proofs.SpanLemmas.{span_written}
use Rattle.json_story.proofs.found.push_span.Goals as goal

pub returns : goal.returns
returns c =
    span_written (span_in c.args.line) c.args.out.now.items _ _ _ _ _ c.in_ok-extend_from_slice.ensures.items c.in_ok-push_number.ensures
    c.in_ok-extend_from_slice-2.ensures.items c.in_ok-push_number-2.ensures c.in_ok-extend_from_slice-3.ensures.items
