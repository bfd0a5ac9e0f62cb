use Rattle.std.proofs.Common.{◌≡◌, ◌++◌, string_bytes, take}
use Rattle.std.specs.List.{flat_map}
use Rattle.exceptions.specs.Texts.{index_text}
use Rattle.json_story.proofs.text.push_indices.Given as goal

abbrev pub invariant-indices : goal.invariant-indices
invariant-indices l = string_bytes l.out ≡ string_bytes l.fn.out ++ flat_map index_text (take l.index-index l.indices)
