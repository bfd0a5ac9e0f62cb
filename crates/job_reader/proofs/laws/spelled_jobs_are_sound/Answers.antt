use Rattle.job_reader.proofs.Sound_jobs.{gives_names_once, starts_in_nurseries, numbers_in_range}
use Rattle.job_reader.proofs.laws.spelled_jobs_are_sound.Goals as goal

pub returns-clause-names : goal.returns-clause-names
returns-clause-names c = gives_names_once

pub returns-clause-starts : goal.returns-clause-starts
returns-clause-starts c = starts_in_nurseries

pub returns-clause-in_range : goal.returns-clause-in_range
returns-clause-in_range c = numbers_in_range
