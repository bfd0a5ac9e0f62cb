use Rattle.job_runner.proofs.Asking.{queues_awake, queues_going, queues_opened}
use Rattle.job_runner.proofs.runner.Runner.handle_queue.Goals as goal

pub put_to_sleep-requires-clause-awake : goal.put_to_sleep-requires-clause-awake
put_to_sleep-requires-clause-awake c = queues_awake c.requires c.in_ok-keep_ask.ensures

pub put_to_sleep-requires-clause-opened : goal.put_to_sleep-requires-clause-opened
put_to_sleep-requires-clause-opened c = queues_opened c.requires c.in_ok-keep_ask.ensures

pub returns-clause-going : goal.returns-clause-going
returns-clause-going c =
    queues_going c.requires c.in_ok-keep_ask.ensures c.max-last.ensures c.start_of.ensures c.clock.ensures c.now-next.ensures c.in_ok-put_to_sleep.ensures
