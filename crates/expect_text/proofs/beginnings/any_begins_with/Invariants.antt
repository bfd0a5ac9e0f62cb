use Rattle.std.proofs.Common.{◌≡◌, drop, map}
use Rattle.std.specs.List.{list_any}
use Rattle.expect_text.specs.Beginnings.{begins_with}
use Rattle.expect_text.proofs.beginnings.any_begins_with.Given as goal

abbrev pub invariant-words : goal.invariant-words
invariant-words l = list_any (begins_with l.name l.pattern) (map (λ word. word.now) (drop l.word-index l.words))
    ≡ list_any (begins_with l.name l.pattern) (map (λ word. word.now) l.words)
