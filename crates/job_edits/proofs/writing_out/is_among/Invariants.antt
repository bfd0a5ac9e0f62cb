use Rattle.std.proofs.Common.{◌≡◌, drop}
use Rattle.job_edits.specs.WrittenOut.{is_among}
use Rattle.job_edits.proofs.writing_out.is_among.Given as goal

abbrev pub invariant-names : goal.invariant-names
invariant-names l = is_among l.name (drop l.other-index l.names) ≡ is_among l.name l.names
