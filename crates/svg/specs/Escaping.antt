-- Text in an XML document.
use Rattle.std.specs.Prelude.{ℕ, ◌==◌, Bool, true, false, ◌&&◌, ◌||◌, not, List, [], ◌∷◌, ◌++◌, codes, nat_le, if◌then◌else◌}
use Rattle.std.specs.Str.{bytes_eq}

-- a printable character of ASCII, or a newline
abbrev pub is_char : ℕ → Bool
is_char b = (nat_le 32 b && nat_le b 126) || b == 10

-- A byte of text as it is written: as a reference where it would be read as markup, and as a question mark where it is no character.
abbrev pub escaped_byte : ℕ → List ℕ
escaped_byte b =
    if b == 38 then codes "&amp;"
    else (if b == 60 then codes "&lt;"
    else (if b == 62 then codes "&gt;"
    else (if b == 34 then codes "&quot;"
    else (if is_char b then b ∷ [] else codes "?"))))

unfoldable pub escaped_text : List ℕ → List ℕ
escaped_text [] = []
escaped_text (b ∷ bs) = escaped_byte b ++ escaped_text bs

-- ---- character data, which has no `<` and no `"`, and has `&` only where a reference begins

abbrev pub is_plain : ℕ → Bool
is_plain b = is_char b && not (b == 38 || (b == 60 || (b == 62 || b == 34)))

-- the names that a document without a document type declaration can refer to
abbrev pub is_known : List ℕ → Bool
is_known name =
    bytes_eq name (codes "amp") || (bytes_eq name (codes "lt") || (bytes_eq name (codes "gt")
    || (bytes_eq name (codes "quot") || bytes_eq name (codes "apos"))))

-- the text from an `&` to the next `;` is a known name
abbrev mutual
  pub is_char_data : List ℕ → Bool
  is_char_data [] = true
  is_char_data (b ∷ bs) = if b == 38 then in_reference [] bs else is_plain b && is_char_data bs

  pub in_reference : List ℕ → List ℕ → Bool
  in_reference name [] = false
  in_reference name (b ∷ bs) = if b == 59 then is_known name && is_char_data bs else in_reference (name ++ (b ∷ [])) bs
