use Rattle.std.proofs.Common.{◌≤◌, vec_len}
use Rattle.std.specs.Io.KnownBytes.{Consumes}
use Rattle.job_answers.proofs.read.read_whole.Given as goal

abbrev pub invariant-reads : goal.invariant-reads
invariant-reads g l =
    (vec_len l.bytes ≤ l.most) × (l._turn ≤ vec_len l.bytes) × Consumes (g.R.Read.remaining l.fn.reader) (g.R.Read.remaining l.reader)
    l.bytes.items
