use Rattle.std.proofs.Common.{◌≡◌, drop}
use Rattle.std.specs.List.{list_any}
use Rattle.job_edits.specs.Repeated.{is_divided}
use Rattle.job_edits.proofs.each.any_divided.Given as goal

abbrev pub invariant-blocks-2 : goal.invariant-blocks-2
invariant-blocks-2 l = list_any is_divided (drop l.block-index l.blocks) ≡ list_any is_divided l.blocks
