use Rattle.std.specs.Prelude.{[]}
use Rattle.job_tree.specs.Blocks.{steps_of}
use Rattle.job_reader.specs.Uses.{uses_of}
use Rattle.refusal_text.specs.Scopes.{names_held}
use Rattle.refusal_text.proofs.Read.{whole}
use Rattle.refusal_text.proofs.scopes.names_around_stray.Goals as goal

pub returns : goal.returns
returns c = whole (names_held c.in_ok-found.found) (uses_of [] (steps_of c.args.steps.now)) c.in_ok-found.ensures
