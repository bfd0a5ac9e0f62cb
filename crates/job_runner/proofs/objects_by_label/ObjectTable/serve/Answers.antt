use Rattle.std.proofs.Common.{rules}
use Rattle.job_runner.proofs.ObjectTables.{one_lent}
use Rattle.job_runner.proofs.objects_by_label.ObjectTable.serve.Goals as goal

pub returns-clause-lent : goal.returns-clause-lent
returns-clause-lent g c input of =
    one_lent input c.args.self.now (record { alloc = c.args.self.now.alloc; by_label = c.get_mut.follows.lender c.serve.new.self }) c.args.label.now
    c.in-Some.object.now c.serve.new.self c.args.given.now.items c.serve.new.given.items (search rules) (search rules) (search rules)
    (λ object given. c.in_ok-serve.ensures.lent input object of given)
