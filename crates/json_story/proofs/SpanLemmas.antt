-- The text of the place of a line.
use Rattle.std.proofs.Common.{◌≡◌, ℕ, List, ◌++◌, refl, sym, ap, ◌∙◌}
use Rattle.std.specs.Prelude.{codes, decimal}
use Rattle.json.specs.Print.{escape_byte}
use Rattle.serde_json.specs.Written.{compact_text}
use Rattle.input_lines.specs.Lines.{Span}
use Rattle.json_story.proofs.PieceLemmas.{joined}
use Rattle.json_story.specs.Events.{span_json}

span_text : (line : Span) → compact_text (span_json line)
    ≡ codes "{\"at\":" ++ (decimal line.at ++ (codes ",\"length\":" ++ (decimal line.len ++ codes "}")))
unfolding escape_byte
span_text line = refl

-- after its pieces, a text has the place
pub span_written : (line : Span) (old a b c d e : List ℕ) → a ≡ old ++ codes "{\"at\":" → b ≡ a ++ decimal line.at → c ≡ b ++ codes ",\"length\":"
    → d ≡ c ++ decimal line.len → e ≡ d ++ codes "}" → e ≡ old ++ compact_text (span_json line)
span_written line old a b c d e is_a is_b is_c is_d is_e =
    let three = joined b c e (codes ",\"length\":") (decimal line.len ++ codes "}") is_c (joined c d e (decimal line.len) (codes "}") is_d is_e) in
    joined old a e (codes "{\"at\":") _ is_a (joined a b e (decimal line.at) _ is_b three) ∙ ap (λ written. old ++ written) (sym (span_text line))
