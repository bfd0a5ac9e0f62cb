-- The message for a refusal.
use Rattle.std.proofs.Common.{◌≡◌, ℕ, zero, suc, ◌-◌, List, [], ◌∷◌, ◌++◌, refl, length, take, drop, min, map, ap, subst, ◌∙◌, append_assoc}
use Rattle.std.specs.Prelude.{Option, None, slice_get}
use Rattle.std.specs.List.{before_first}
use Rattle.std.proofs.lemmas.List.{take_min, drop_min}
use Rattle.job_tree.specs.declared.format.Format.{Format}
use Rattle.job_tokens.specs.declared.token.Token.{Token}
use Rattle.job_tokens.specs.declared.token.Shape.{Shape}
use Rattle.job_syntax.specs.declared.role.Role.{Role}
use Rattle.job_syntax.specs.Syntax.{fault_at, roles_at, whole_job}
use Rattle.job_syntax.specs.declared.nonterminal.Nonterminal.{Nonterminal}
use Rattle.job_reader.specs.Refusals.{HasTokens, format_of}
use Rattle.basics.specs.Places.{column_of}
use Rattle.refusal_text.specs.declared.hinting.Hint.{Hint}
use Rattle.refusal_text.specs.Expecting.{expected_nonterminal, IsExpected}
use Rattle.refusal_text.specs.Scanning.{shape_at, last_before, earlier_before}
use Rattle.job_hints.specs.declared.advice.Advice.{Advice}
use Rattle.job_hints.specs.Numbers.{number_advice}
use Rattle.refusal_text.specs.Hinting.{reserved_name_hint, syntax_hint, twice_hint, IsSyntaxHint, IsTwiceHint}
use Rattle.refusal_text.specs.Explaining.{heading, shown_byte, is_newline, last_of, width_before, shown_before, shown_after, most_before, most_after}

-- what the grammar expects after the tokens is what it expects in the text
pub expects : (format : Format) (text : List ℕ) (tokens given : List Token) (fault : Option ℕ) (asked : Option Nonterminal) →
    format ≡ format_of text → HasTokens text tokens fault → given ≡ tokens → asked ≡ expected_nonterminal format whole_job given
    → IsExpected text asked
expects format text tokens given fault asked of has same is =
    (tokens, fault, has, is ∙ ap (expected_nonterminal format whole_job) same ∙ ap (λ (f : Format). expected_nonterminal f whole_job tokens) of)

-- the first bytes, cut at a place that may lie after the end
pub cut_front : (bytes front : List ℕ) (n m : ℕ) → front ≡ take m bytes → m ≡ min n (length bytes) → front ≡ take n bytes
cut_front bytes front n m is min_is = is ∙ ap (λ (x : ℕ). take x bytes) min_is ∙ take_min n bytes

-- the bytes from a place on, which may lie after the end
pub cut_back : (bytes back : List ℕ) (n m : ℕ) → back ≡ drop m bytes → m ≡ min n (length bytes) → back ≡ drop n bytes
cut_back bytes back n m is min_is = is ∙ ap (λ (x : ℕ). drop x bytes) min_is ∙ drop_min n bytes

-- how many bytes are shown before a place, by its column
pub width_is : (text : List ℕ) (at column shown : ℕ) → column ≡ column_of text at → shown ≡ min (column - 1) most_before →
    shown ≡ width_before text at
width_is text at column shown column_is is = is ∙ ap (λ (x : ℕ). min (x - 1) most_before) column_is

-- what is shown before a place, cut from the bytes up to it
pub before_is : (text front last : List ℕ) (at shown : ℕ) → front ≡ take at text → shown ≡ width_before text at →
    last ≡ last_of shown front → map shown_byte last ≡ shown_before text at
before_is text front last at shown front_is width is =
    ap (map shown_byte) (is ∙ ap (λ (x : ℕ). last_of x front) width ∙ ap (last_of (width_before text at)) front_is)

-- what is shown from a place on, cut from the bytes after it
pub after_is : (text rest first line : List ℕ) (at : ℕ) → rest ≡ drop at text → first ≡ take most_after rest →
    line ≡ before_first is_newline first → map shown_byte line ≡ shown_after text at
after_is text rest first line at rest_is first_is is =
    ap (map shown_byte) (is ∙ ap (before_first is_newline) (first_is ∙ ap (take most_after) rest_is))

get_drop : (text : List ℕ) (at : ℕ) → slice_get (drop at text) 0 ≡ slice_get text at
get_drop [] zero = refl
get_drop [] (suc at) = refl
get_drop (b ∷ bs) zero = refl
get_drop (b ∷ bs) (suc at) = get_drop bs at

-- the byte at a place
pub first_at : (text rest : List ℕ) (at : ℕ) → rest ≡ drop at text → slice_get rest 0 ≡ slice_get text at
first_at text rest at is = ap (λ (x : List ℕ). slice_get x 0) is ∙ get_drop text at

-- the first line of the message, given the line, the column and the sentence
pub headed_same : (job sentence wanted : List ℕ) (line line' column column' : ℕ) → line ≡ line' → column ≡ column' → sentence ≡ wanted →
    heading job line column sentence ≡ heading job line' column' wanted
headed_same job sentence wanted line line' column column' line_is column_is is =
    ap (λ (x : ℕ). heading job x column sentence) line_is ∙ ap (λ (x : ℕ). heading job line' x sentence) column_is
    ∙ ap (heading job line' column') is

-- three pieces, one after the other
pub three_pieces : (old a b c h1 h2 h3 : List ℕ) → h1 ≡ old ++ a → h2 ≡ h1 ++ b → h3 ≡ h2 ++ c → h3 ≡ old ++ ((a ++ b) ++ c)
three_pieces old a b c h1 h2 h3 is1 is2 is3 =
    let two : h2 ≡ old ++ (a ++ b) = is2 ∙ ap (λ (x : List ℕ). x ++ b) is1 ∙ append_assoc old a b in
    is3 ∙ ap (λ (x : List ℕ). x ++ c) two ∙ append_assoc old (a ++ b) c

-- four pieces, one after the other
pub four_pieces : (old a b c d h1 h2 h3 h4 : List ℕ) → h1 ≡ old ++ a → h2 ≡ h1 ++ b → h3 ≡ h2 ++ c → h4 ≡ h3 ++ d
    → h4 ≡ old ++ (((a ++ b) ++ c) ++ d)
four_pieces old a b c d h1 h2 h3 h4 is1 is2 is3 is4 =
    is4 ∙ ap (λ (x : List ℕ). x ++ d) (three_pieces old a b c h1 h2 h3 is1 is2 is3) ∙ append_assoc old ((a ++ b) ++ c) d

-- six pieces, one after the other
pub pieces : (head front back newline spaces caret h0 h1 h2 h3 h4 h5 : List ℕ) → h0 ≡ head → h1 ≡ h0 ++ front → h2 ≡ h1 ++ back →
    h3 ≡ h2 ++ newline → h4 ≡ h3 ++ spaces → h5 ≡ h4 ++ caret
    → h5 ≡ head ++ ((((front ++ back) ++ newline) ++ spaces) ++ caret)
pieces head front back newline spaces caret h0 h1 h2 h3 h4 h5 is0 is1 is2 is3 is4 is5 =
    let two : h2 ≡ head ++ (front ++ back) = is2 ∙ ap (λ (x : List ℕ). x ++ back) (is1 ∙ ap (λ (x : List ℕ). x ++ front) is0)
    ∙ append_assoc head front back in
    let three : h3 ≡ head ++ ((front ++ back) ++ newline) = is3 ∙ ap (λ (x : List ℕ). x ++ newline) two
    ∙ append_assoc head (front ++ back) newline in
    let four : h4 ≡ head ++ (((front ++ back) ++ newline) ++ spaces) =
    is4 ∙ ap (λ (x : List ℕ). x ++ spaces) three ∙ append_assoc head ((front ++ back) ++ newline) spaces in
    is5 ∙ ap (λ (x : List ℕ). x ++ caret) four ∙ append_assoc head (((front ++ back) ++ newline) ++ spaces) caret

-- what holds of the tokens that were lexed holds of the tokens of the text
pub of_tokens : (text : List ℕ) (tokens given : List Token) (fault : Option ℕ) (Says : List Token → Type 0) →
    HasTokens text tokens fault → given ≡ tokens → Says given
    → (ts : List Token) × (f : Option ℕ) × HasTokens text ts f × Says ts
of_tokens text tokens given fault Says has same said = (tokens, fault, has, subst Says same said)

-- the hint where tokens leave the grammar
pub helps : (format : Format) (at : ℕ) (tokens given : List Token) (before shape : Option Shape) (h : Option Hint) →
    given ≡ tokens → before ≡ last_before at None given → shape ≡ shape_at at given → h ≡ syntax_hint format given before shape
    → h ≡ syntax_hint format tokens (last_before at None tokens) (shape_at at tokens)
helps format at tokens given before shape h same before_is shape_is is =
    is ∙ ap (syntax_hint format given before) shape_is ∙ ap (λ (b : Option Shape). syntax_hint format given b (shape_at at given)) before_is
    ∙ ap (λ (ts : List Token). syntax_hint format ts (last_before at None ts) (shape_at at ts)) same

-- the same in the text with these tokens
pub helps_text : (format : Format) (text : List ℕ) (at : ℕ) (tokens : List Token) (fault : Option ℕ) (h : Option Hint) →
    format ≡ format_of text → HasTokens text tokens fault
    → h ≡ syntax_hint format tokens (last_before at None tokens) (shape_at at tokens) → IsSyntaxHint text at h
helps_text format text at tokens fault h of has is =
    (tokens, fault, has, is ∙ ap (λ (f : Format). syntax_hint f tokens (last_before at None tokens) (shape_at at tokens)) of)

-- the hint where a name is reserved
pub helps_reserved : (at : ℕ) (given : List Token) (before shape : Option Shape) (h : Option Hint) →
    before ≡ last_before at None given → shape ≡ shape_at at given → h ≡ reserved_name_hint before shape
    → h ≡ reserved_name_hint (last_before at None given) (shape_at at given)
helps_reserved at given before shape h before_is shape_is is =
    is ∙ ap (reserved_name_hint before) shape_is ∙ ap (λ (b : Option Shape). reserved_name_hint b (shape_at at given)) before_is

-- the hint for a number
pub helps_number : (format : Format) (text : List ℕ) (at : ℕ) (given : List Token) (earlier before : Option Shape) (rest : List ℕ)
    (a : Advice) →
    format ≡ format_of text → earlier ≡ earlier_before at None None given → before ≡ last_before at None given → rest ≡ drop at text
    → a ≡ number_advice format earlier before rest
    → a ≡ number_advice (format_of text) (earlier_before at None None given) (last_before at None given) (drop at text)
helps_number format text at given earlier before rest a of earlier_is before_is rest_is is =
    is ∙ ap (λ (f : Format). number_advice f earlier before rest) of
    ∙ ap (λ (e : Option Shape). number_advice (format_of text) e before rest) earlier_is
    ∙ ap (λ (b : Option Shape). number_advice (format_of text) (earlier_before at None None given) b rest) before_is
    ∙ ap (number_advice (format_of text) (earlier_before at None None given) (last_before at None given)) rest_is

-- the hint where a name is given twice, found by the tokens of the text and their roles
pub helps_twice : (format : Format) (text : List ℕ) (tokens given : List Token) (roles shown : List Role) (fault stop : Option ℕ)
    (at : ℕ)
    (shape : Option Shape) (h : Option Hint) → format ≡ format_of text → HasTokens text tokens fault
    → given ≡ tokens → shown ≡ roles → stop ≡ fault_at format (length text) whole_job given →
    (stop ≡ None → roles ≡ roles_at format whole_job given)
    → shape ≡ shape_at at given → h ≡ twice_hint given shown shape → IsTwiceHint text at h
helps_twice format text tokens given roles shown fault stop at shape h of has same shown_is stop_is roles_are shape_is h_is = (
  tokens,
  fault,
  roles,
  has,
  (λ whole. roles_are (stop_is ∙ ap (fault_at format (length text) whole_job) same
      ∙ ap (λ (f : Format). fault_at f (length text) whole_job tokens) of ∙ whole)
      ∙ ap (roles_at format whole_job) same ∙ ap (λ (f : Format). roles_at f whole_job tokens) of),
  h_is ∙ ap (twice_hint given shown) shape_is ∙ ap (λ (ts : List Token). twice_hint ts shown (shape_at at ts)) same
      ∙ ap (λ (rs : List Role). twice_hint tokens rs (shape_at at tokens)) shown_is,
)
