use Rattle.std.proofs.Common.{◌≡◌, ◌++◌, take}
use Rattle.std.specs.List.{flat_map}
use Rattle.exceptions.specs.Texts.{index_text}
use Rattle.exceptions.proofs.label_text.push_indices.Given as goal

abbrev pub invariant-indices : goal.invariant-indices
invariant-indices l = l.out.items ≡ l.fn.out.items ++ flat_map index_text (take l.index-index l.indices)
