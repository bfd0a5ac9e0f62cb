use Rattle.job_meaning.proofs.grant_table.GrantTable.record.Goals as goal

-- src/grant_table.rt:46:5
pub returns-clause-recorded : goal.returns-clause-recorded
returns-clause-recorded c = λ other asker u. c.in_ok-insert.ensures.updates.0 (record { object = other; task = asker; since = u })
