-- The content of an XML document: elements with their attributes, and text.
use Rattle.std.specs.Prelude.{◌≡◌, ℕ, Bool, true, false, ◌&&◌, ◌||◌, not, List, [], ◌∷◌, ◌++◌, codes}
use Rattle.std.specs.Str.{bytes_eq}
use Rattle.svg.specs.Escaping.{escaped_text}
use Rattle.svg.specs.declared.names.Tag.{Tag}
use Rattle.svg.specs.declared.names.Tag.TheVariants as tags
use Rattle.svg.specs.declared.names.Attr.{Attr}
use Rattle.svg.specs.declared.names.Attr.TheVariants as attrs

-- ---- names

abbrev pub tag_name : Tag → List ℕ
tag_name tags.Svg = codes "svg"
tag_name tags.Title = codes "title"
tag_name tags.Style = codes "style"
tag_name tags.Defs = codes "defs"
tag_name tags.Marker = codes "marker"
tag_name tags.Pattern = codes "pattern"
tag_name tags.Path = codes "path"
tag_name tags.Text = codes "text"
tag_name tags.Rect = codes "rect"
tag_name tags.Line = codes "line"
tag_name tags.Circle = codes "circle"
tag_name tags.Use = codes "use"
tag_name tags.Html = codes "html"
tag_name tags.Head = codes "head"
tag_name tags.Body = codes "body"
tag_name tags.Main = codes "main"
tag_name tags.Section = codes "section"
tag_name tags.H1 = codes "h1"
tag_name tags.H2 = codes "h2"
tag_name tags.P = codes "p"
tag_name tags.Pre = codes "pre"
tag_name tags.A = codes "a"
tag_name tags.Span = codes "span"
tag_name tags.Div = codes "div"
tag_name tags.Details = codes "details"
tag_name tags.Summary = codes "summary"
tag_name tags.Footer = codes "footer"
tag_name tags.Nav = codes "nav"
tag_name tags.Table = codes "table"
tag_name tags.Thead = codes "thead"
tag_name tags.Tbody = codes "tbody"
tag_name tags.Tr = codes "tr"
tag_name tags.Th = codes "th"
tag_name tags.Td = codes "td"

abbrev pub attr_name : Attr → List ℕ
attr_name attrs.Xmlns = codes "xmlns"
attr_name attrs.ViewBox = codes "viewBox"
attr_name attrs.Id = codes "id"
attr_name attrs.Class = codes "class"
attr_name attrs.Width = codes "width"
attr_name attrs.Height = codes "height"
attr_name attrs.X = codes "x"
attr_name attrs.Y = codes "y"
attr_name attrs.X1 = codes "x1"
attr_name attrs.Y1 = codes "y1"
attr_name attrs.X2 = codes "x2"
attr_name attrs.Y2 = codes "y2"
attr_name attrs.Cx = codes "cx"
attr_name attrs.Cy = codes "cy"
attr_name attrs.R = codes "r"
attr_name attrs.Rx = codes "rx"
attr_name attrs.D = codes "d"
attr_name attrs.Href = codes "href"
attr_name attrs.RefX = codes "refX"
attr_name attrs.RefY = codes "refY"
attr_name attrs.MarkerWidth = codes "markerWidth"
attr_name attrs.MarkerHeight = codes "markerHeight"
attr_name attrs.Orient = codes "orient"
attr_name attrs.PatternUnits = codes "patternUnits"
attr_name attrs.Lang = codes "lang"
attr_name attrs.Style = codes "style"
attr_name attrs.Scope = codes "scope"

-- ---- content

pub record Attribute : Type 0 where
  pub name : Attr
  pub value : List ℕ

abbrev pub attribute : Attr → List ℕ → Attribute
attribute name value = record { name = name; value = value }

-- text and elements, one after the other
pub data Content : Type 0 where
  nothing : Content
  text : (bytes : List ℕ) → (rest : Content) → Content
  element : (tag : Tag) → (attributes : List Attribute) → (inside : Content) → (rest : Content) → Content

abbrev pub then_content : Content → Content → Content
then_content nothing others = others
then_content (text bytes rest) others = text bytes (then_content rest others)
then_content (element tag attributes inside rest) others = element tag attributes inside (then_content rest others)

-- ---- as bytes

unfoldable pub attribute_text : Attribute → List ℕ
attribute_text a = codes " " ++ attr_name a.name ++ codes "=\"" ++ escaped_text a.value ++ codes "\""

abbrev pub attributes_text : List Attribute → List ℕ
attributes_text [] = []
attributes_text (a ∷ others) = attribute_text a ++ attributes_text others

abbrev pub start_tag : Tag → List Attribute → List ℕ
start_tag tag attributes = codes "<" ++ tag_name tag ++ attributes_text attributes ++ codes ">"

abbrev pub end_tag : Tag → List ℕ
end_tag tag = codes "</" ++ tag_name tag ++ codes ">"

abbrev pub content_text : Content → List ℕ
content_text nothing = []
content_text (text bytes rest) = escaped_text bytes ++ content_text rest
content_text (element tag attributes inside rest) = start_tag tag attributes ++ content_text inside ++ end_tag tag ++ content_text rest

-- ---- well-formed documents

abbrev pub has_name : Attr → List Attribute → Bool
has_name name [] = false
has_name name (a ∷ others) = bytes_eq (attr_name name) (attr_name a.name) || has_name name others

-- no attribute occurs twice in one start tag
abbrev pub are_distinct : List Attribute → Bool
are_distinct [] = true
are_distinct (a ∷ others) = not (has_name a.name others) && are_distinct others

abbrev pub is_well_formed : Content → Bool
is_well_formed nothing = true
is_well_formed (text bytes rest) = is_well_formed rest
is_well_formed (element tag attributes inside rest) = are_distinct attributes && (is_well_formed inside && is_well_formed rest)

-- The bytes are a well-formed document: those of one element, in which each element is closed, no attribute occurs twice in a tag, and
-- text is escaped, so that it is character data.
pub record IsDocument (bytes : List ℕ) : Type 0 where
  pub tag : Tag
  pub attributes : List Attribute
  pub inside : Content
  pub is_written : bytes ≡ content_text (element tag attributes inside nothing)
  pub well : is_well_formed (element tag attributes inside nothing) ≡ true
