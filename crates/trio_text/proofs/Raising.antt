-- Different exceptions have different classes, also where these are Trio's: there is a dot in each of them, and in no class of the program.
use Rattle.std.proofs.Common.{◌≡◌, ℕ, List, ◌++◌, ◌==◌, [], ◌∷◌, Bool, true, false, refl, sym, ap, ◌∙◌, inl, inr}
use Rattle.std.specs.Prelude.{codes, not, ◌&&◌, ◌||◌, if◌then◌else◌}
use Rattle.std.specs.List.{list_any, list_all}
use Rattle.std.specs.Str.{bytes_eq}
use Rattle.std.proofs.lemmas.Bool.{and_parts, cases_Bool, eqb-true}
use Rattle.std.proofs.lemmas.Slice.Eq.{bytes_eq-Decides}
use Rattle.job_tree.specs.Words.{is_word, is_word_byte, starts_word}
use Rattle.trio_text.specs.Names.{is_free, class_text}
use Rattle.trio_text.specs.Uses.{Known, among, is_too_slow, is_end_of_channel, is_closed_resource, is_in_trio}
use Rattle.trio_text.specs.Statements.{class_of, trio_class, raised_class}
use Rattle.trio_text.proofs.Naming.{exceptions_differ}

-- ---- dots

-- whether there is a dot in a text
abbrev dotted : List ℕ → Bool
dotted text = list_any (λ b. b == 46) text

undotted : (word : List ℕ) → list_all is_word_byte word ≡ true → dotted word ≡ false
undotted [] all = refl
undotted (b ∷ bs) all =
    let parts = and_parts (is_word_byte b) _ all in
    elim (cases_Bool (b == 46)) [
      | inl same ↦ let f : false ≡ true = ap is_word_byte (sym (eqb-true b 46 same)) ∙ parts.0 in cc
      | inr other ↦ rw other (undotted bs parts.1)
    ]

undotted_or_marked : (stays : Bool) (word : List ℕ) → list_all is_word_byte word ≡ true →
    dotted (if stays then word else codes "_" ++ word) ≡ false
undotted_or_marked true word all = undotted word all
undotted_or_marked false word all = undotted word all

-- the parts of a word
starts : (word : List ℕ) → is_word word ≡ true → starts_word word ≡ true
starts word is = (and_parts (starts_word word) (list_all is_word_byte word) (and_parts (starts_word word && list_all is_word_byte word) _ is).0).0

word_bytes : (word : List ℕ) → is_word word ≡ true → list_all is_word_byte word ≡ true
word_bytes word is =
    (and_parts (starts_word word) (list_all is_word_byte word) (and_parts (starts_word word && list_all is_word_byte word) _ is).0).1

-- a class of the program has no dot
own_undotted : (known : Known) (name : List ℕ) → is_word name ≡ true → dotted (class_of known name) ≡ false
unfolding class_of class_text
own_undotted known name is = undotted_or_marked (is_free name && not (among known.given name)) name (word_bytes name is)

-- ---- what Trio raises

-- its class, and its name, by which of them it is
abbrev class_by : (slow ended : Bool) → List ℕ
class_by slow ended =
    if slow then codes "trio.TooSlowError"
    else if ended then codes "trio.EndOfChannel"
    else codes "trio.ClosedResourceError"

abbrev name_by : (slow ended : Bool) → List ℕ
name_by slow ended = if slow then codes "TooSlow" else if ended then codes "EndOfChannel" else codes "ClosedResource"

trio_dotted : (slow ended : Bool) → dotted (class_by slow ended) ≡ true
trio_dotted true ended = refl
trio_dotted false true = refl
trio_dotted false false = refl

named : (name : List ℕ) (slow ended closed : Bool) → bytes_eq name (codes "TooSlow") ≡ slow → bytes_eq name (codes "EndOfChannel") ≡ ended →
    bytes_eq name (codes "ClosedResource") ≡ closed → ((slow || ended) || closed) ≡ true → name ≡ name_by slow ended
named name true ended closed s e c is = (bytes_eq-Decides name (codes "TooSlow")).0 s
named name false true closed s e c is = (bytes_eq-Decides name (codes "EndOfChannel")).0 e
named name false false closed s e c is = (bytes_eq-Decides name (codes "ClosedResource")).0 (c ∙ is)

named_in_trio : (name : List ℕ) → is_in_trio name ≡ true → name ≡ name_by (is_too_slow name) (is_end_of_channel name)
unfolding is_too_slow is_end_of_channel is_closed_resource
named_in_trio name is =
    named name (bytes_eq name (codes "TooSlow")) (bytes_eq name (codes "EndOfChannel")) (bytes_eq name (codes "ClosedResource"))
    refl refl refl is

abbrev is_slow : List ℕ → Bool
is_slow text = bytes_eq text (codes "trio.TooSlowError")

abbrev is_ended : List ℕ → Bool
is_ended text = bytes_eq text (codes "trio.EndOfChannel")

same_name : (slow ended late over : Bool) → class_by slow ended ≡ class_by late over → name_by slow ended ≡ name_by late over
same_name true ended true over same = refl
same_name true ended false true same = let f : true ≡ false = ap is_slow same in cc
same_name true ended false false same = let f : true ≡ false = ap is_slow same in cc
same_name false true true over same = let f : false ≡ true = ap is_slow same in cc
same_name false true false true same = refl
same_name false true false false same = let f : true ≡ false = ap is_ended same in cc
same_name false false true over same = let f : false ≡ true = ap is_slow same in cc
same_name false false false true same = let f : false ≡ true = ap is_ended same in cc
same_name false false false false same = refl

-- ---- all exceptions

pub raised_differ : (known : Known) (one other : List ℕ) → is_word one ≡ true → is_word other ≡ true →
    raised_class known one ≡ raised_class known other → one ≡ other
unfolding raised_class
raised_differ known one other word also same = by_trio (is_in_trio one) (is_in_trio other) refl refl same
  where
    by_trio : (own theirs : Bool) → is_in_trio one ≡ own → is_in_trio other ≡ theirs →
        (if own then trio_class one else class_of known one) ≡ (if theirs then trio_class other else class_of known other) → one ≡ other
    by_trio true true is are equal =
        named_in_trio one is
        ∙ same_name (is_too_slow one) (is_end_of_channel one) (is_too_slow other) (is_end_of_channel other) equal
        ∙ sym (named_in_trio other are)
    by_trio true false is are equal =
        let f : true ≡ false = sym (trio_dotted (is_too_slow one) (is_end_of_channel one)) ∙ ap dotted equal ∙ own_undotted known other also in cc
    by_trio false true is are equal =
        let f : true ≡ false = sym (trio_dotted (is_too_slow other) (is_end_of_channel other)) ∙ ap dotted (sym equal) ∙ own_undotted known one word
        in cc
    by_trio false false is are equal = exceptions_differ known one other (starts one word) (starts other also) equal
