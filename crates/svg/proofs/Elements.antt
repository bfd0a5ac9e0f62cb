-- Elements that are appended piece by piece.
use Rattle.std.proofs.Common.{◌≡◌, ℕ, List, [], ◌∷◌, ◌++◌, ap, sym, ◌∙◌, append_assoc}
use Rattle.std.specs.Prelude.{Result, OnOk, codes}
use Rattle.std.proofs.lemmas.List.{append-nil}
use Rattle.std.proofs.lemmas.Result.{on_ok_weaker}
use Rattle.svg.specs.Escaping.{escaped_text}
use Rattle.svg.specs.Content.{Content, nothing, text, element, Attribute, attribute_text, attributes_text, content_text, tag_name, start_tag, end_tag}
use Rattle.svg.specs.declared.names.Tag.{Tag}

regrouped : (old start inside end w : List ℕ) → (((old ++ start) ++ inside) ++ end) ++ w ≡ old ++ (((start ++ inside) ++ end) ++ w)
regrouped old start inside end w =
    ap (λ x. (x ++ end) ++ w) (append_assoc old start inside)
    ∙ ap (λ x. x ++ w) (append_assoc old (start ++ inside) end)
    ∙ append_assoc old ((start ++ inside) ++ end) w

closed : (old start inside end a b new w : List ℕ) → a ≡ old ++ start → b ≡ a ++ inside → new ≡ b ++ end →
    new ++ w ≡ old ++ (((start ++ inside) ++ end) ++ w)
closed old start inside end a b new w p q r =
    ap (λ x. x ++ w) (r ∙ ap (λ x. x ++ end) (q ∙ ap (λ x. x ++ inside) p)) ∙ regrouped old start inside end w

-- an element: its start tag, its content, and its end tag
pub element_is : (tag : Tag) (attributes : List Attribute) (inside : Content) (old a b new : List ℕ) →
    a ≡ old ++ start_tag tag attributes → b ≡ a ++ content_text inside → new ≡ b ++ end_tag tag →
    (rest : Content) → new ++ content_text rest ≡ old ++ content_text (element tag attributes inside rest)
element_is tag attributes inside old a b new p q r rest =
    closed old (start_tag tag attributes) (content_text inside) (end_tag tag) a b new (content_text rest) p q r

-- the same where the result of the last call is returned as it is
pub element_ok : {T E : Type 0} (result : Result T E) (tag : Tag) (attributes : List Attribute) (inside : Content) (old a b new : List ℕ) →
    a ≡ old ++ start_tag tag attributes → b ≡ a ++ content_text inside → OnOk result (new ≡ b ++ end_tag tag) →
    OnOk result ((rest : Content) → new ++ content_text rest ≡ old ++ content_text (element tag attributes inside rest))
element_ok result tag attributes inside old a b new p q =
    on_ok_weaker result (λ r rest. element_is tag attributes inside old a b new p q r rest)

-- a start tag with no attributes
pub begun : (tag : Tag) (old a b : List ℕ) → a ≡ old ++ (codes "<" ++ tag_name tag) → b ≡ a ++ codes ">" → b ≡ old ++ start_tag tag []
begun tag old a b p q =
    q ∙ ap (λ x. x ++ codes ">") p ∙ append_assoc old (codes "<" ++ tag_name tag) (codes ">")
    ∙ ap (λ x. old ++ (x ++ codes ">")) (sym (append-nil (codes "<" ++ tag_name tag)))

-- the same where the content is appended before any rest
pub element_around : {T E : Type 0} (result : Result T E) (tag : Tag) (attributes : List Attribute) (inside : Content) (old a b new : List ℕ) →
    a ≡ old ++ start_tag tag attributes → b ++ [] ≡ a ++ content_text inside → OnOk result (new ≡ b ++ end_tag tag) →
    OnOk result ((rest : Content) → new ++ content_text rest ≡ old ++ content_text (element tag attributes inside rest))
element_around result tag attributes inside old a b new p q =
    element_ok result tag attributes inside old a b new p (sym (append-nil b) ∙ q)

-- a text inside
pub text_is : (a b bytes : List ℕ) → b ≡ a ++ escaped_text bytes → b ≡ a ++ content_text (text bytes nothing)
text_is a b bytes p = p ∙ ap (λ x. a ++ x) (sym (append-nil (escaped_text bytes)))

-- ---- start tags

last_attribute : (attributes : List Attribute) (x : Attribute) →
    attributes_text (attributes ++ x ∷ []) ≡ attributes_text attributes ++ attribute_text x
last_attribute [] x = append-nil (attribute_text x)
last_attribute (a ∷ others) x =
    ap (λ z. attribute_text a ++ z) (last_attribute others x) ∙ sym (append_assoc (attribute_text a) (attributes_text others) (attribute_text x))

-- what a start tag is before its end
abbrev pub IsBegun : List ℕ → Tag → List Attribute → List ℕ → Type 0
IsBegun old tag attributes new = new ≡ old ++ (codes "<" ++ tag_name tag ++ attributes_text attributes)

first : (old : List ℕ) (tag : Tag) (new : List ℕ) → new ≡ old ++ (codes "<" ++ tag_name tag) → IsBegun old tag [] new
first old tag new p = p ∙ ap (λ z. old ++ z) (sym (append-nil (codes "<" ++ tag_name tag)))

next : (old : List ℕ) (tag : Tag) (attributes : List Attribute) (x : Attribute) (a b : List ℕ) →
    IsBegun old tag attributes a → b ≡ a ++ attribute_text x → IsBegun old tag (attributes ++ x ∷ []) b
next old tag attributes x a b p q =
    let name = codes "<" ++ tag_name tag in
    q
    ∙ ap (λ z. z ++ attribute_text x) p
    ∙ append_assoc old (name ++ attributes_text attributes) (attribute_text x)
    ∙ ap (λ z. old ++ z) (append_assoc name (attributes_text attributes) (attribute_text x))
    ∙ ap (λ z. old ++ (name ++ z)) (sym (last_attribute attributes x))

ended : (old : List ℕ) (tag : Tag) (attributes : List Attribute) (a new : List ℕ) → IsBegun old tag attributes a → new ≡ a ++ codes ">" →
    new ≡ old ++ start_tag tag attributes
ended old tag attributes a new p q =
    q ∙ ap (λ z. z ++ codes ">") p ∙ append_assoc old (codes "<" ++ tag_name tag ++ attributes_text attributes) (codes ">")

-- a start tag after four attributes: `o` has its name, and each of `a` to `d` one attribute more
four : (old : List ℕ) (tag : Tag) (p q r s : Attribute) (o a b c d : List ℕ) → o ≡ old ++ (codes "<" ++ tag_name tag) →
    a ≡ o ++ attribute_text p → b ≡ a ++ attribute_text q → c ≡ b ++ attribute_text r → d ≡ c ++ attribute_text s →
    IsBegun old tag (p ∷ q ∷ r ∷ s ∷ []) d
four old tag p q r s o a b c d begun ap_ bp cp dp =
    next old tag (p ∷ q ∷ r ∷ []) s c d
    (next old tag (p ∷ q ∷ []) r b c (next old tag (p ∷ []) q a b (next old tag [] p o a (first old tag o begun) ap_) bp) cp) dp

-- a start tag of four attributes, of six and of seven
pub start_of_four : {T E : Type 0} (result : Result T E) (old : List ℕ) (tag : Tag) (p q r s : Attribute) (o a b c d new : List ℕ) →
    o ≡ old ++ (codes "<" ++ tag_name tag) → a ≡ o ++ attribute_text p → b ≡ a ++ attribute_text q → c ≡ b ++ attribute_text r →
    d ≡ c ++ attribute_text s → OnOk result (new ≡ d ++ codes ">") → OnOk result (new ≡ old ++ start_tag tag (p ∷ q ∷ r ∷ s ∷ []))
start_of_four result old tag p q r s o a b c d new begun ap_ bp cp dp =
    on_ok_weaker result (λ h. ended old tag (p ∷ q ∷ r ∷ s ∷ []) d new (four old tag p q r s o a b c d begun ap_ bp cp dp) h)

-- a start tag whose six attributes are appended one by one
pub start_of_six : {T E : Type 0} (result : Result T E) (old : List ℕ) (tag : Tag) (p q r s t u : Attribute) (o a b c d e f new : List ℕ) →
    o ≡ old ++ (codes "<" ++ tag_name tag) → a ≡ o ++ attribute_text p → b ≡ a ++ attribute_text q → c ≡ b ++ attribute_text r →
    d ≡ c ++ attribute_text s → e ≡ d ++ attribute_text t → f ≡ e ++ attribute_text u → OnOk result (new ≡ f ++ codes ">") →
    OnOk result (new ≡ old ++ start_tag tag (p ∷ q ∷ r ∷ s ∷ t ∷ u ∷ []))
start_of_six result old tag p q r s t u o a b c d e f new begun ap_ bp cp dp ep fp =
    let begun_four = four old tag p q r s o a b c d begun ap_ bp cp dp in
    let begun_five = next old tag (p ∷ q ∷ r ∷ s ∷ []) t d e begun_four ep in
    on_ok_weaker result
    (λ h. ended old tag (p ∷ q ∷ r ∷ s ∷ t ∷ u ∷ []) f new (next old tag (p ∷ q ∷ r ∷ s ∷ t ∷ []) u e f begun_five fp) h)

-- a start tag whose seven attributes are appended one by one
pub start_of_seven : {T E : Type 0} (result : Result T E) (old : List ℕ) (tag : Tag) (p q r s t u v : Attribute) (o a b c d e f g new : List ℕ) →
    o ≡ old ++ (codes "<" ++ tag_name tag) → a ≡ o ++ attribute_text p → b ≡ a ++ attribute_text q → c ≡ b ++ attribute_text r →
    d ≡ c ++ attribute_text s → e ≡ d ++ attribute_text t → f ≡ e ++ attribute_text u → g ≡ f ++ attribute_text v →
    OnOk result (new ≡ g ++ codes ">") → OnOk result (new ≡ old ++ start_tag tag (p ∷ q ∷ r ∷ s ∷ t ∷ u ∷ v ∷ []))
start_of_seven result old tag p q r s t u v o a b c d e f g new begun ap_ bp cp dp ep fp gp =
    let begun_four = four old tag p q r s o a b c d begun ap_ bp cp dp in
    let begun_five = next old tag (p ∷ q ∷ r ∷ s ∷ []) t d e begun_four ep in
    let begun_six = next old tag (p ∷ q ∷ r ∷ s ∷ t ∷ []) u e f begun_five fp in
    on_ok_weaker result
    (λ h. ended old tag (p ∷ q ∷ r ∷ s ∷ t ∷ u ∷ v ∷ []) g new (next old tag (p ∷ q ∷ r ∷ s ∷ t ∷ u ∷ []) v f g begun_six gp) h)

-- a text before what follows
pub text_before : (a bytes new : List ℕ) → new ≡ a ++ escaped_text bytes → (rest : Content) → new ++ content_text rest ≡ a ++ content_text (text bytes rest)
text_before a bytes new p rest = ap (λ x. x ++ content_text rest) p ∙ append_assoc a (escaped_text bytes) (content_text rest)

-- the start tag of an element at a place, from equal numbers
pub at_place : (shape : ℕ → ℕ → List Attribute) (tag : Tag) (old new : List ℕ) (x i y j : ℕ) → new ≡ old ++ start_tag tag (shape x y) →
    x ≡ i → y ≡ j → new ≡ old ++ start_tag tag (shape i j)
at_place shape tag old new x i y j h p q =
    h ∙ ap (λ z. old ++ start_tag tag (shape z y)) p ∙ ap (λ z. old ++ start_tag tag (shape i z)) q

-- what is appended in three pieces
pub three : (old p q r a b new : List ℕ) → a ≡ old ++ p → b ≡ a ++ q → new ≡ b ++ r → new ≡ old ++ (p ++ q ++ r)
three old p q r a b new ap_ bp cp =
    cp ∙ ap (λ z. z ++ r) (bp ∙ ap (λ z. z ++ q) ap_ ∙ append_assoc old p q) ∙ append_assoc old (p ++ q) r
