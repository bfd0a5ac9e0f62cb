use Rattle.job_runner.proofs.ObjectTables.{opened_lent, asks_served, asks_part}
use Rattle.job_runner.proofs.runner.Runner.serve_act.Goals as goal

pub returns-in_ok-open-in-Opens-clause-lent : goal.returns-in_ok-open-in-Opens-clause-lent
returns-in_ok-open-in-Opens-clause-lent c of = opened_lent c.args.self.now.input.now c.args.given.now.items c.in_ok-open-in-Opens.ensures.opens

pub returns-in_ok-serve-in-Asks-clause-serves : goal.returns-in_ok-serve-in-Asks-clause-serves
returns-in_ok-serve-in-Asks-clause-serves c =
    asks_served c.args.act c.in-Asks.ask c.in-Asks.part c.in-Asks.is c.now.ensures c.in_ok-serve-in-Asks.ensures.serves

pub returns-in_ok-serve-in-Asks-clause-lent : goal.returns-in_ok-serve-in-Asks-clause-lent
returns-in_ok-serve-in-Asks-clause-lent c of =
    c.in_ok-serve-in-Asks.ensures.lent c.args.self.now.input.now
    (asks_part c.args.act c.in-Asks.ask c.in-Asks.part c.in-Asks.is c.args.self.now.input.now of)
