use Rattle.std.proofs.Common.{◌≡◌, [], drop, reverse}
use Rattle.refusal_text.specs.Scanning.{open_blocks}
use Rattle.refusal_text.proofs.scanning.innermost_open_block.Given as goal

abbrev pub invariant-tokens : goal.invariant-tokens
invariant-tokens l = open_blocks (reverse l.open.items) (drop l.token-index l.tokens) ≡ open_blocks [] l.tokens
