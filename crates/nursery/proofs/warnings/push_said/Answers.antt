use Rattle.std.specs.String.{string_bytes}
use Rattle.nursery.proofs.SaidLemmas.{said_is, nothing_said}
use Rattle.nursery.proofs.warnings.push_said.Goals as goal

pub returns-in_ok-push_str : goal.returns-in_ok-push_str
returns-in_ok-push_str c = said_is (string_bytes c.args.lines.now) (string_bytes c.push_str.new.self) (string_bytes c.in_ok-message.message)
    c.as_str.result.now c.args.name.now c.args.text.now c.args.said.now c.in-Ok.said.now c.args.position.at c.in-Ok.ensures.cases
    c.in_ok-message.ensures c.as_str.ensures.value c.in_ok-push_str.ensures.bytes

pub returns-in_default : goal.returns-in_default
returns-in_default c = nothing_said (string_bytes c.args.lines.now) c.args.name.now c.args.text.now c.args.said.now c.args.position.at c.in_default.ensures.cases.0
