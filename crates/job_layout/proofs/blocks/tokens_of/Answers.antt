use Rattle.std.proofs.Common.{sym, subst, arith}
use Rattle.job_tree.specs.Tree.{Steps}
use Rattle.job_layout.specs.Columns.{IsNested}
use Rattle.job_layout.proofs.Formatted.{readable_within}
use Rattle.job_layout.proofs.blocks.tokens_of.Goals as goal

pub push_block-requires : goal.push_block-requires
push_block-requires c = subst (λ (steps : Steps). IsNested 0 steps) (sym c.steps.ensures.steps)
    (omega arith, readable_within c.args.job.now c.steps.ensures.spelled)
