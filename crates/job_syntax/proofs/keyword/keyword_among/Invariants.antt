use Rattle.std.proofs.Common.{◌≡◌, drop}
use Rattle.job_syntax.specs.Keywords.{keyword_among}
use Rattle.job_syntax.proofs.keyword.keyword_among.Given as goal

abbrev pub invariant-loop-keyword : goal.invariant-loop-keyword
invariant-loop-keyword l = keyword_among (drop l.keyword-index l.keywords) l.word ≡ keyword_among l.keywords l.word
