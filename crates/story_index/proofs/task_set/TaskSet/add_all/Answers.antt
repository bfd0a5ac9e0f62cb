use Rattle.story_index.proofs.Adds.{all_added}
use Rattle.story_index.proofs.task_set.TaskSet.add_all.Goals as goal

pub returns : goal.returns
returns c = λ l. all_added c.args.self.now.all c.append.new.self c.args.others.all.keys c.in_ok-append.ensures.inserts l
