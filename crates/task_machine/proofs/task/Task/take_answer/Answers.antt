use Rattle.std.proofs.Common.{None, List, ◌++◌, map, ap, sym, ◌∙◌, subst}
use Rattle.input_lines.specs.Part.{span_of}
use Rattle.input_lines.specs.declared.line.Line.{Line}
use Rattle.task_machine.specs.declared.entry.Entry.TheVariants as entries
use Rattle.turn_semantics.specs.Wakes.{has_answer}
use Rattle.task_machine.specs.declared.stop.Moved.TheVariants.{On}
use Rattle.task_machine.specs.Standing.{Wakens}
use Rattle.task_machine.specs.States.{state_of}
use Rattle.task_machine.specs.declared.entry.Entry.{Entry}
use Rattle.job_meaning.specs.Asking as ask
use Rattle.input_lines.specs.Answers.{IsAnswerOn}
use Rattle.input_lines.specs.declared.answers.Answer as held
use Rattle.task_machine.specs.declared.stop.TaskState.{TaskState}
use Rattle.task_machine.specs.declared.stop.Wake.TheVariants.{Answer}
use Rattle.task_machine.specs.Waking.{WakesFrom, answer_in}
use Rattle.task_machine.specs.Tasks.{lent_of}
use Rattle.task_machine.proofs.Wakens.{wakes_lines}
use Rattle.task_machine.proofs.Wakes.{count_few, lines_at}
use Rattle.task_machine.proofs.task.Task.take_answer.Goals as goal

pub pace-requires-clause-few : goal.pace-requires-clause-few
pace-requires-clause-few c =
    let lent = lent_of c.args.self.now in
    count_few c.in-Asked.kernel lent c.in-Count.count c.requires.small
    (subst (λ (a : held.Answer). IsAnswerOn c.in-Asked.kernel lent.input lent.range a) c.in-Count.is
    (subst (λ (h : TaskState). WakesFrom h lent c.args.world.now.book (Answer c.args.answer)) c.in-Asked.is c.requires.wake))

pub returns-in_ok-push_lines-in-Lines-clause-wakes : goal.returns-in_ok-push_lines-in-Lines-clause-wakes
returns-in_ok-push_lines-in-Lines-clause-wakes c =
    let self = c.args.self.now in
    let lent = lent_of self in
    let lines = c.in-Lines.lines in
    subst (λ (a : held.Answer). Wakens (state_of self c.args.world.now)
    (state_of (record self { entries = c.push_lines.new.entries }) c.args.world.now) (On None)
    (has_answer (answer_in a))) (sym c.in-Lines.is)
    (subst (λ (es : List Entry). Wakens (state_of self c.args.world.now)
    (record (state_of self c.args.world.now) { entries = es }) (On None) (has_answer (ask.lines (map span_of lines))))
    (sym (c.in_ok-push_lines-in-Lines.ensures ∙ ap (λ (ls : List Line). self.entries.items ++ map entries.Line ls) c.as_slice.ensures))
    (wakes_lines (state_of self c.args.world.now) c.in-Asked.kernel c.in-Asked.purpose c.in-Asked.is (map span_of lines) lines
    (lines_at c.in-Asked.kernel lent lines
    (subst (λ (a : held.Answer). IsAnswerOn c.in-Asked.kernel lent.input lent.range a) c.in-Lines.is
    (subst (λ (h : TaskState). WakesFrom h lent c.args.world.now.book (Answer c.args.answer)) c.in-Asked.is c.requires.wake)))))

pub returns-in_ok-moved-in-Missing-clause-wakes : goal.returns-in_ok-moved-in-Missing-clause-wakes
returns-in_ok-moved-in-Missing-clause-wakes c =
    let self = c.args.self.now in
    subst (λ (a : held.Answer). Wakens (state_of self c.args.world.now) (state_of self c.args.world.now) c.in_ok-moved-in-Missing.moved
    (has_answer (answer_in a))) (sym c.in-Missing.is)
    (c.in_ok-moved-in-Missing.ensures.wakes c.in-Asked.kernel c.in-Asked.is)

pub returns-in-Count-clause-wakes : goal.returns-in-Count-clause-wakes
returns-in-Count-clause-wakes c =
    let self = c.args.self.now in
    subst (λ (a : held.Answer). Wakens (state_of self c.args.world.now) (state_of c.pace.new.self c.args.world.now) c.pace.result (has_answer (answer_in a)))
    (sym c.in-Count.is)
    (c.pace.ensures.wakes c.in-Asked.kernel c.in-Asked.is)
