-- The text of a line of the input.
use Rattle.std.proofs.Common.{◌≡◌, ℕ, List, ◌++◌, length, sym, ap, ◌∙◌}
use Rattle.std.proofs.lemmas.List.{append_assoc}
use Rattle.std.specs.Prelude.{codes, decimal}
use Rattle.std.specs.List.{flat_map}
use Rattle.json.specs.Print.{escape_byte, quoted}
use Rattle.serde_json.specs.Written.{compact_text}
use Rattle.job_meaning.specs.Shown.{line_shown}
use Rattle.job_report.specs.Text.{byte_text}
use Rattle.json_story.specs.Values.{entry_json}
use Rattle.json_story.proofs.PieceLemmas.{joined}

-- the pieces in which the text is written
abbrev pub line_pieces : ℕ → List ℕ → List ℕ
line_pieces at text =
    codes "{\"line\":{\"at\":" ++ (decimal at ++ (codes ",\"length\":" ++ (decimal (length text) ++ (codes ",\"text\":"
    ++ (quoted (flat_map byte_text text) ++ codes "}}")))))

pub line_text : (at : ℕ) (text : List ℕ) → compact_text (entry_json (line_shown at text)) ≡ line_pieces at text
unfolding escape_byte
line_text at text =
    let shown = quoted (flat_map byte_text text) in
    let long = decimal (length text) in
    let last = codes ",\"text\":" ++ (shown ++ codes "}") in
    let ended : (shown ++ codes "}") ++ codes "}" ≡ shown ++ codes "}}" = append_assoc shown (codes "}") (codes "}") in
    let later : (long ++ last) ++ codes "}" ≡ long ++ (codes ",\"text\":" ++ (shown ++ codes "}}")) =
    append_assoc long last (codes "}") ∙ ap (λ rest. long ++ (codes ",\"text\":" ++ rest)) ended in
    let all : (decimal at ++ (codes ",\"length\":" ++ (long ++ last))) ++ codes "}"
    ≡ decimal at ++ (codes ",\"length\":" ++ (long ++ (codes ",\"text\":" ++ (shown ++ codes "}}")))) =
    append_assoc (decimal at) (codes ",\"length\":" ++ (long ++ last)) (codes "}") ∙ ap (λ rest. decimal at ++ (codes ",\"length\":" ++ rest)) later in
    ap (λ rest. codes "{\"line\":{\"at\":" ++ rest) all

-- after its pieces, a text has the line
pub line_written : (at : ℕ) (text old a b c d e f g : List ℕ) → a ≡ old ++ codes "{\"line\":{\"at\":" → b ≡ a ++ decimal at
    → c ≡ b ++ codes ",\"length\":" → d ≡ c ++ decimal (length text) → e ≡ d ++ codes ",\"text\":"
    → f ≡ e ++ quoted (flat_map byte_text text) → g ≡ f ++ codes "}}" → g ≡ old ++ compact_text (entry_json (line_shown at text))
line_written at text old a b c d e f g is_a is_b is_c is_d is_e is_f is_g =
    let shown = quoted (flat_map byte_text text) in
    let long = decimal (length text) in
    let five = joined d e g (codes ",\"text\":") (shown ++ codes "}}") is_e (joined e f g shown (codes "}}") is_f is_g) in
    let three = joined b c g (codes ",\"length\":") (long ++ (codes ",\"text\":" ++ (shown ++ codes "}}"))) is_c (joined c d g long _ is_d five) in
    joined old a g (codes "{\"line\":{\"at\":") _ is_a (joined a b g (decimal at) _ is_b three)
    ∙ ap (λ written. old ++ written) (sym (line_text at text))
