use Rattle.svg.proofs.CharData.{is_char_data-escaped}
use Rattle.svg.proofs.laws.law_escaped.Goals as goal

pub returns : goal.returns
returns c = is_char_data-escaped
