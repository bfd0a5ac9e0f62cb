-- Markup as bytes: an element around other bytes, and when bytes are well formed.
use Rattle.std.specs.Prelude.{◌≡◌, ℕ, true, List, [], ◌∷◌, ◌++◌, codes}
use Rattle.svg.specs.Content.{Content, content_text, is_well_formed, Attribute, attribute, start_tag, end_tag}
use Rattle.svg.specs.Escaping.{escaped_text}
use Rattle.svg.specs.declared.names.Tag.{Tag}
use Rattle.svg.specs.declared.names.Tag.TheVariants as tags
use Rattle.svg.specs.declared.names.Attr.TheVariants as attrs

-- an element with this content
abbrev pub element_text : Tag → List Attribute → List ℕ → List ℕ
element_text tag attributes inside = start_tag tag attributes ++ inside ++ end_tag tag

-- an element of a class of the style sheet
abbrev pub classed : Tag → List ℕ → List ℕ → List ℕ
classed tag class inside = element_text tag (attribute attrs.Class class ∷ []) inside

-- a link to an element of the page, with what is shown of it
abbrev pub link : List ℕ → List ℕ → List ℕ
link id shown = element_text tags.A (attribute attrs.Href (codes "#" ++ id) ∷ []) (escaped_text shown)

-- The bytes are elements and text, one after the other: each element is closed, no attribute occurs twice in a tag, and text is escaped.
pub record IsContent (bytes : List ℕ) : Type 0 where
  pub content : Content
  pub is_written : bytes ≡ content_text content
  pub well : is_well_formed content ≡ true
