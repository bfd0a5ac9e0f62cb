use Rattle.std.proofs.Common.{sym, subst}
use Rattle.job_tree.specs.Tree.{Tree}
use Rattle.job_reader.specs.Refusals.{Spells}
use Rattle.job_reader.specs.Drafts.{tree_of}
use Rattle.job_reader.proofs.Arms.{is_spelled}
use Rattle.job_reader.proofs.Canonical.{canon_spells}
use Rattle.job_reader.proofs.draft.Draft.into_job.Goals as goal

pub new-requires : goal.new-requires
new-requires c =
    let text = c.args.self.text.now in
    (canon_spells text (tree_of c.args.self) (is_spelled text c.args.self c.requires)).0

pub returns : goal.returns
returns c =
    let text = c.args.self.text.now in
    subst (λ (j : Tree). Spells text j) (sym c.new.ensures) (is_spelled text c.args.self c.requires)
