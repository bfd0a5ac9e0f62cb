use Rattle.chart.proofs.Noted.{event_written, event_put}
use Rattle.chart.proofs.indexing.note_event.Goals as goal

pub returns-in-Some : goal.returns-in-Some
returns-in-Some c =
    event_written c.args.tasks.now (c.get_mut.follows.lender c.push.new.self) c.args.event.now.task c.in-Some.events.now c.push.new.self c.args.event
    (c.get_mut.follows.holds c.push.new.self).3 c.in-Some.ensures.value c.in_ok-push.ensures.items

pub returns : goal.returns
returns c =
    event_put c.args.tasks.now c.get_mut.follows.lender-at-none c.insert.new.self c.args.event.now.task c.new-events.result c.push-2.new.self c.args.event
    c.get_mut.follows.holds-at-none c.in_ok-insert.ensures.updates c.in_default.ensures.value c.new-events.ensures.items c.in_ok-push-2.ensures.items
