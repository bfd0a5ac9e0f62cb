use Rattle.std.proofs.Common.{◌≡◌, ◌++◌, drop}
use Rattle.std.specs.String.{string_bytes}
use Rattle.refusal_text.specs.Explaining.{more_quoted_names}
use Rattle.refusal_text.proofs.explaining.push_more.Given as goal

abbrev pub invariant-names : goal.invariant-names
invariant-names l = string_bytes l.message ++ more_quoted_names (drop l.name-index l.names) ≡ string_bytes l.fn.message ++ more_quoted_names l.names
