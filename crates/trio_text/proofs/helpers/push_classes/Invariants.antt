use Rattle.std.proofs.Common.{◌≡◌, ◌++◌, take}
use Rattle.trio_text.specs.Uses.{known_in}
use Rattle.trio_text.specs.Program.{classes}
use Rattle.trio_text.proofs.helpers.push_classes.Given as goal

abbrev pub invariant-names : goal.invariant-names
invariant-names l = l.out.items ≡ l.fn.out.items ++ classes (known_in l.fn.words) (take l.name-index l.fn.words.raised.keys)
