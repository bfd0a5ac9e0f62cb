use Rattle.job_runner.proofs.runner.Runner.take_turn.Goals as goal

pub returns-clause-takes : goal.returns-clause-takes
returns-clause-takes c =
    record {
      stop = c.in_ok-stop.stop;
      went = c.go.new.self;
      goes = c.in_ok-stop.ensures.goes;
      stopped = c.in_ok-handle_stop.ensures.comes;
    }
