use Rattle.std.proofs.Common.{◌≡◌, ◌++◌, string_bytes, take}
use Rattle.std.specs.List.{flat_map}
use Rattle.job_report.specs.Text.{byte_text}
use Rattle.json_story.proofs.text.push_escaped.Given as goal

abbrev pub invariant-bytes : goal.invariant-bytes
invariant-bytes l = string_bytes l.out ≡ string_bytes l.fn.out ++ flat_map byte_text (take l.b-index l.bytes)
