use Rattle.std.proofs.Common.{◌∙◌, codes}
use Rattle.cli.proofs.DenyLemmas.{among_by_parts}
use Rattle.cli.proofs.denying.denied_among.Goals as goal

pub returns : goal.returns
returns c = λ i. record {
  stuck = (c.is_among.ensures ∙ among_by_parts (codes "stuck") c.args.words.now) i;
  cut = (c.is_among-2.ensures ∙ among_by_parts (codes "cut") c.args.words.now) i;
  lost = (c.is_among-3.ensures ∙ among_by_parts (codes "lost") c.args.words.now) i;
}
