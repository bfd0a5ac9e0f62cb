use Rattle.std.proofs.Common.{inr, ap, arith}
use Rattle.job_tree.specs.Names.{size_of}
use Rattle.job_tree.proofs.Sizes.{few_steps}
use Rattle.job_reader.proofs.Arms.{size_refused, size_passed}
use Rattle.job_reader.proofs.draft.Draft.check_size.Goals as goal

pub returns-then-size_of-most_steps-clause-err : goal.returns-then-size_of-most_steps-clause-err
returns-then-size_of-most_steps-clause-err c =
    inr (size_refused c.args.self.now.text.now c.args.self.now c.requires
    (omega (arith, c.size_of.ensures, c.most_steps.ensures, c.if-size_of-most_steps.true, ap size_of c.as_slice.ensures)))

pub returns-clause-ok : goal.returns-clause-ok
returns-clause-ok c = size_passed c.args.self.now.text.now c.args.self.now c.requires
    (omega (
      arith,
      c.size_of.ensures,
      c.most_steps.ensures,
      c.if-size_of-most_steps.false,
      few_steps c.args.self.now.format,
      ap size_of c.as_slice.ensures,
    ))
