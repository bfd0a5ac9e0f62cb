use Rattle.std.proofs.Common.{◌∙◌}
use Rattle.std.proofs.lemmas.Result.{on_ok_weaker}
use Rattle.svg.specs.Legend.{meaning}
use Rattle.svg.proofs.legend.push_mark_sample.Goals as goal

pub returns : goal.returns
returns c =
    on_ok_weaker c.push_meaning.result
    (λ h rest. h rest ∙ c.in_ok-push_use.ensures (meaning c.args.x c.args.y c.args.bytes.now rest)) c.push_meaning.ensures
