use Rattle.job_reader.proofs.Canonical.{newer_spells}
use Rattle.job_reader.proofs.job.Job.in_format.Goals as goal

pub new-requires : goal.new-requires
new-requires c =
    newer_spells c.args.format c.newer.result (record { format = c.self.inside.format; name = c.self.inside.name; steps = c.self.inside.steps })
    c.newer.ensures c.self.invariant
