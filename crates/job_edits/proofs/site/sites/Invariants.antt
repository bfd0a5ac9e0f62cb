use Rattle.std.proofs.Common.{◌≡◌, ◌++◌, length, reverse}
use Rattle.job_edits.specs.Sites.{sites_from, sites_in}
use Rattle.job_edits.proofs.site.sites.Given as goal

abbrev pub invariant-tokens : goal.invariant-tokens
invariant-tokens l = l.sites.items ++ sites_from l.begins (reverse l.blocks.items) l.acquired l.rest ≡ sites_in l.tokens

abbrev pub decreases-tokens : goal.decreases-tokens
decreases-tokens l = length l.rest
