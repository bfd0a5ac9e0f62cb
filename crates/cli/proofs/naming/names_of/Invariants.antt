use Rattle.std.proofs.Common.{◌≡◌, ◌++◌, IsTrue, map, drop}
use Rattle.std.specs.List.{list_all}
use Rattle.cli.specs.Words.{may_be_raised}
use Rattle.cli.proofs.naming.names_of.Given as goal

abbrev pub invariant-words : goal.invariant-words
invariant-words l =
    (l.names.items ++ map (λ word. word.now) (drop l.word-index l.words) ≡ map (λ word. word.now) l.words)
    × IsTrue (list_all may_be_raised l.names.items)
