use Rattle.std.proofs.Common.{◌≡◌, take, map}
use Rattle.input_lines.specs.Part.{span_of}
use Rattle.job_story.specs.Held.{span_in}
use Rattle.job_story.proofs.places.spans.Given as goal

abbrev pub invariant-lines : goal.invariant-lines
invariant-lines l = map span_in l.spans.items ≡ map span_of (take l.line-index l.lines)
