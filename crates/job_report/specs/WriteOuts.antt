-- What clauses state about a writer of the system.
use Rattle.std.specs.Prelude.{ℕ}
use Rattle.job_report.specs.declared.write_out.WriteOut.{WriteOut}

module _ {W : Type 0} where
  abbrev pub faults_of : WriteOut W → ℕ
  faults_of out = out.failed

  abbrev pub writer_of : WriteOut W → W
  writer_of out = out.writer
