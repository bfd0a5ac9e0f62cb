use Rattle.std.proofs.Common.{refl}
use Rattle.job_tree.specs.declared.format.Format.{Format}
use Rattle.job_tree.specs.declared.name.Name.{Name}
use Rattle.job_tree.specs.declared.step.Body.{Body}
use Rattle.job_tree.specs.Tree.{Tree}
use Rattle.job_reader.proofs.Arms.{never_none, drafted}
use Rattle.job_reader.proofs.draft.Draft.new.Goals as goal

abbrev tree : Format → Name × Body → Tree
tree format j = record { format = format; name = j.0; steps = j.1 }

pub unreachable-requires : goal.unreachable-requires
unreachable-requires c = never_none (tree c.args.format) c.args.text.now c.args.format c.args.tokens.items c.deref.result.now
    c.args.roles.items c.in_ok-job.field-0 c.requires.format c.requires.read c.requires.of_some_job c.deref.ensures.value
    (c.in_ok-job.ensures c.args.format) c.in_default.is

pub returns : goal.returns
returns c = record {
  draft = drafted (tree c.args.format) c.in-Some.job c.args.text.now record {
    text = c.args.text;
    format = c.args.format;
    tokens =
        c.args.tokens;
    roles = c.args.roles;
    name = c.in-Some.job.0;
    steps = c.in-Some.job.1;
  }
      c.deref.result.now c.in_ok-job.field-0 c.requires.format c.requires.read c.requires.of_some_job c.deref.ensures.value
      (c.in_ok-job.ensures c.args.format) c.in-Some.is refl refl;
}
