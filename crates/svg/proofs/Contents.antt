-- Contents joined by `then_content`: how they are written, and that they are well formed.
use Rattle.std.proofs.Common.{◌≡◌, ◌++◌, true, refl, sym, ap, ◌∙◌, append_assoc}
use Rattle.std.proofs.lemmas.Bool.{and_from, and_parts}
use Rattle.svg.specs.Escaping.{escaped_text}
use Rattle.svg.specs.Content.{Content, then_content, start_tag, end_tag, content_text, are_distinct, is_well_formed}
use Rattle.svg.specs.Content.Content.{nothing, text, element}

-- Content joined with the empty content is that content.
pub then_nothing : (a : Content) → then_content a nothing ≡ a
then_nothing nothing = refl
then_nothing (text bytes rest) = ap (text bytes) (then_nothing rest)
then_nothing (element tag attributes inside rest) = ap (element tag attributes inside) (then_nothing rest)

-- Joining is associative.
pub then_then : (a b c : Content) → then_content (then_content a b) c ≡ then_content a (then_content b c)
then_then nothing b c = refl
then_then (text bytes rest) b c = ap (text bytes) (then_then rest b c)
then_then (element tag attributes inside rest) b c = ap (element tag attributes inside) (then_then rest b c)

-- Joined content is written as its parts, one after the other.
pub written_then : (a b : Content) → content_text (then_content a b) ≡ content_text a ++ content_text b
written_then nothing b = refl
written_then (text bytes rest) b =
    ap (λ w. escaped_text bytes ++ w) (written_then rest b) ∙ sym (append_assoc (escaped_text bytes) (content_text rest) (content_text b))
written_then (element tag attributes inside rest) b =
    ap (λ w. start_tag tag attributes ++ content_text inside ++ end_tag tag ++ w) (written_then rest b)
    ∙ sym (append_assoc (start_tag tag attributes ++ content_text inside ++ end_tag tag) (content_text rest) (content_text b))

-- Content joined of two well-formed parts is well formed.
pub well_then : (a b : Content) → is_well_formed a ≡ true → is_well_formed b ≡ true → is_well_formed (then_content a b) ≡ true
well_then nothing b first second = second
well_then (text bytes rest) b first second = well_then rest b first second
well_then (element tag attributes inside rest) b first second =
    let outer = and_parts (are_distinct attributes) _ first in
    let inner = and_parts (is_well_formed inside) _ outer.1 in
    and_from _ _ outer.0 (and_from _ _ inner.0 (well_then rest b inner.1 second))
