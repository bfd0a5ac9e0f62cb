-- The place at which tokens leave the grammar: it is found token by token, and it is unique.
use Rattle.std.proofs.Common.{◌≡◌, ℕ, List, [], ◌∷◌, ◌++◌, Option, Some, None, inl, inr, refl, sym, ap, subst, ◌∙◌}
use Rattle.job_tree.specs.declared.format.Format.{Format}
use Rattle.job_tokens.specs.declared.token.Shape.{Shape}
use Rattle.job_tokens.specs.declared.token.Token.{Token}
use Rattle.job_tokens.specs.Shapes.{shapes_of}
use Rattle.job_syntax.specs.declared.nonterminal.Nonterminal.{Nonterminal}
use Rattle.job_syntax.specs.Nonterminals.{Rest, next}
use Rattle.job_syntax.specs.Pieces.{Piece, shapes_in}
use Rattle.job_syntax.specs.Syntax.{IsText, Begins, LeavesAt, fault_at, or_stop, role_of}
use Rattle.job_syntax.proofs.Grammar.{Left, goes, completed}
use Rattle.job_syntax.proofs.Forward.{forward}

-- ---- one token

-- what may follow a token, if it can occur there
abbrev Follows : (format : Format) → Rest → List Nonterminal → List Shape → Type 0
Follows format None ss shapes = ⊥
Follows format (Some more) ss shapes = IsText format (more ++ ss) shapes

follows_of : (format : Format) (rest : Rest) (ss : List Nonterminal) (ps : List Piece) (shapes : List Shape) → Left format rest ss ps →
    shapes_in ps ≡ shapes →
    Follows format rest ss shapes
follows_of format None ss ps shapes left e = left
follows_of format (Some more) ss ps shapes left e = (ps, left, e)

text_back : (format : Format) (s : Nonterminal) (ss : List Nonterminal) (shape : Shape) (shapes : List Shape) →
    IsText format (s ∷ ss) (shape ∷ shapes) →
    Follows format (next format s shape) ss shapes
text_back format s ss shape shapes ([], fits, e) = absurd cc
text_back format s ss shape shapes (p ∷ ps, fits, e) =
    let head : p.shape ≡ shape = cc in
    let tail : shapes_in ps ≡ shapes = cc in
    follows_of format (next format s shape) ss ps shapes (subst (λ (x : Shape). Left format (next format s x) ss ps) head
    (goes format s ss (p ∷ ps) fits).0) tail

text_forward : (format : Format) (s : Nonterminal) (ss more : List Nonterminal) (shape : Shape) (shapes : List Shape) →
    next format s shape ≡ Some more →
    IsText format (more ++ ss) shapes → IsText format (s ∷ ss) (shape ∷ shapes)
text_forward format s ss more shape shapes is (ps, fits, e) = (
  record { shape = shape; role = role_of s } ∷ ps,
  forward format s shape ss ps (subst (λ (r : Rest). Left format r ss ps) (sym is) fits),
  ap (λ (x : List Shape). shape ∷ x) e,
)

text_on : (format : Format) (s : Nonterminal) (ss more : List Nonterminal) (shape : Shape) (shapes : List Shape) → next format s shape ≡ Some more →
    IsText format (s ∷ ss) (shape ∷ shapes) → IsText format (more ++ ss) shapes
text_on format s ss more shape shapes is text = subst (λ (r : Rest). Follows format r ss shapes) is
    (text_back format s ss shape shapes text)

text_stops : (format : Format) (s : Nonterminal) (ss : List Nonterminal) (shape : Shape) (shapes : List Shape) → next format s shape ≡ None →
    IsText format (s ∷ ss) (shape ∷ shapes) → ⊥
text_stops format s ss shape shapes is text = subst (λ (r : Rest). Follows format r ss shapes) is (text_back format s ss shape shapes text)

no_text : (format : Format) (s : Nonterminal) (ss : List Nonterminal) → IsText format (s ∷ ss) [] → ⊥
no_text format s ss ([], fits, e) = goes format s ss [] fits
no_text format s ss (p ∷ ps, fits, e) = absurd cc

nothing_after : (format : Format) (shape : Shape) (shapes : List Shape) → IsText format [] (shape ∷ shapes) → ⊥
nothing_after format shape shapes (ps, fits, e) =
    let h : shapes_in [] ≡ shape ∷ shapes = ap shapes_in (sym fits) ∙ e in
    absurd cc

begins_nothing : (format : Format) (ss : List Nonterminal) → Begins format ss []
begins_nothing format ss = let c = completed format ss in (shapes_in c.0, (c.0, c.1, refl))

-- ---- all tokens

-- what the result of `fault_at` means
abbrev pub IsFault : (format : Format) → ℕ → List Nonterminal → List Token → Option ℕ → Type 0
IsFault format end ss tokens None = IsText format ss (shapes_of tokens)
IsFault format end ss tokens (Some at) = LeavesAt format end ss tokens at

leaves_on : (format : Format) (end : ℕ) (s : Nonterminal) (ss more : List Nonterminal) (t : Token) (ts : List Token) (at : ℕ) →
    next format s t.shape ≡ Some more →
    LeavesAt format end (more ++ ss) ts at → LeavesAt format end (s ∷ ss) (t ∷ ts) at
leaves_on format end s ss more t ts at is (inl stops) = inl (record {
  front = t ∷ stops.front;
  stop = stops.stop;
  rest = stops.rest;
  whole = ap (λ (x : List Token). t ∷ x) stops.whole;
  begins = (stops.begins.0, text_forward format s ss more t.shape (shapes_of stops.front ++ stops.begins.0) is stops.begins.1);
  no_further = λ b. stops.no_further (b.0, text_on format s ss more t.shape (shapes_of (stops.front ++ stops.stop ∷ []) ++ b.0) is b.1);
  place = stops.place;
})
leaves_on format end s ss more t ts at is (inr early) = inr (
  record {
    begins = (early.0.begins.0, text_forward format s ss more t.shape (shapes_of ts ++ early.0.begins.0) is early.0.begins.1);
    not_whole = λ text. early.0.not_whole (text_on format s ss more t.shape (shapes_of ts) is text);
  },
  early.1,
)

fault_on : (format : Format) (end : ℕ) (s : Nonterminal) (ss more : List Nonterminal) (t : Token) (ts : List Token) (o : Option ℕ) →
    next format s t.shape ≡ Some more →
    IsFault format end (more ++ ss) ts o → IsFault format end (s ∷ ss) (t ∷ ts) o
fault_on format end s ss more t ts None is text = text_forward format s ss more t.shape (shapes_of ts) is text
fault_on format end s ss more t ts (Some at) is leaves = leaves_on format end s ss more t ts at is leaves

-- if no place is found, the tokens are a whole text; if a place is found, they leave the grammar there
pub fault_at-means : (format : Format) (end : ℕ) (ss : List Nonterminal) (tokens : List Token) →
    IsFault format end ss tokens (fault_at format end ss tokens)
fault_at-means format end [] [] = ([], refl, refl)
fault_at-means format end [] (t ∷ ts) = inl (record {
  front = [];
  stop = t;
  rest = ts;
  whole = refl;
  begins = begins_nothing format [];
  no_further = λ b. nothing_after format t.shape b.0 b.1;
  place = refl;
})
fault_at-means format end (s ∷ ss) [] = inr (record { begins = begins_nothing format (s ∷ ss); not_whole = no_text format s ss }, refl)
fault_at-means format end (s ∷ ss) (t ∷ ts) = by_rest (λ more. fault_at-means format end (more ++ ss) ts) (next format s t.shape) refl
  where
    by_rest : ((more : List Nonterminal) → IsFault format end (more ++ ss) ts (fault_at format end (more ++ ss) ts)) → (r : Rest) →
        next format s t.shape ≡ r →
        IsFault format end (s ∷ ss) (t ∷ ts) (or_stop r t.at (λ more. fault_at format end (more ++ ss) ts))
    by_rest others None is = inl (record {
      front = [];
      stop = t;
      rest = ts;
      whole = refl;
      begins = begins_nothing format (s ∷ ss);
      no_further = λ b. text_stops format s ss t.shape b.0 is b.1;
      place = refl;
    })
    by_rest others (Some more) is = fault_on format end s ss more t ts (fault_at format end (more ++ ss) ts) is (others more)

-- ---- the other way: the place at which tokens leave the grammar is found

-- no place is found in the tokens of a whole text
pub fault_at-text : (format : Format) (end : ℕ) (ss : List Nonterminal) (tokens : List Token) → IsText format ss (shapes_of tokens) →
    fault_at format end ss tokens ≡ None
fault_at-text format end [] [] text = refl
fault_at-text format end [] (t ∷ ts) text = absurd (nothing_after format t.shape (shapes_of ts) text)
fault_at-text format end (s ∷ ss) [] text = absurd (no_text format s ss text)
fault_at-text format end (s ∷ ss) (t ∷ ts) text = by_rest (λ more. fault_at-text format end (more ++ ss) ts) (next format s t.shape) refl
  where
    by_rest : ((more : List Nonterminal) → IsText format (more ++ ss) (shapes_of ts) → fault_at format end (more ++ ss) ts ≡ None) → (r : Rest) →
        next format s t.shape ≡ r → or_stop r t.at (λ more. fault_at format end (more ++ ss) ts) ≡ None
    by_rest others None is = absurd (text_stops format s ss t.shape (shapes_of ts) is text)
    by_rest others (Some more) is = others more (text_on format s ss more t.shape (shapes_of ts) is text)

found_stop : (format : Format) (end : ℕ) (ss : List Nonterminal) (front : List Token) (stop : Token) (rest : List Token) →
    Begins format ss (shapes_of front) →
    (Begins format ss (shapes_of (front ++ stop ∷ [])) → ⊥) → fault_at format end ss (front ++ stop ∷ rest) ≡ Some stop.at
found_stop format end [] [] stop rest begins no_further = refl
found_stop format end (s ∷ ss) [] stop rest begins no_further = by_rest (next format s stop.shape) refl
  where
    by_rest : (r : Rest) → next format s stop.shape ≡ r → or_stop r stop.at (λ more. fault_at format end (more ++ ss) rest) ≡ Some stop.at
    by_rest None is = refl
    by_rest (Some more) is = let b = begins_nothing format (more ++ ss) in
        absurd (no_further (b.0, text_forward format s ss more stop.shape b.0 is b.1))
found_stop format end [] (t ∷ front) stop rest begins no_further = absurd
    (nothing_after format t.shape (shapes_of front ++ begins.0) begins.1)
found_stop format end (s ∷ ss) (t ∷ front) stop rest begins no_further =
    by_rest (λ more. found_stop format end (more ++ ss) front stop rest) (next format s t.shape) refl
  where
    by_rest : ((more : List Nonterminal) → Begins format (more ++ ss) (shapes_of front) →
        (Begins format (more ++ ss) (shapes_of (front ++ stop ∷ [])) → ⊥) →
        fault_at format end (more ++ ss) (front ++ stop ∷ rest) ≡ Some stop.at) → (r : Rest) → next format s t.shape ≡ r →
        or_stop r t.at (λ more. fault_at format end (more ++ ss) (front ++ stop ∷ rest)) ≡ Some stop.at
    by_rest others None is = absurd (text_stops format s ss t.shape (shapes_of front ++ begins.0) is begins.1)
    by_rest others (Some more) is = others more (begins.0, text_on format s ss more t.shape (shapes_of front ++ begins.0) is begins.1)
        (λ b. no_further (b.0, text_forward format s ss more t.shape (shapes_of (front ++ stop ∷ []) ++ b.0) is b.1))

found_end : (format : Format) (end : ℕ) (ss : List Nonterminal) (tokens : List Token) → Begins format ss (shapes_of tokens) →
    (IsText format ss (shapes_of tokens) → ⊥) →
    fault_at format end ss tokens ≡ Some end
found_end format end [] [] begins not_whole = absurd (not_whole ([], refl, refl))
found_end format end (s ∷ ss) [] begins not_whole = refl
found_end format end [] (t ∷ ts) begins not_whole = absurd (nothing_after format t.shape (shapes_of ts ++ begins.0) begins.1)
found_end format end (s ∷ ss) (t ∷ ts) begins not_whole = by_rest (λ more. found_end format end (more ++ ss) ts)
    (next format s t.shape) refl
  where
    by_rest : ((more : List Nonterminal) → Begins format (more ++ ss) (shapes_of ts) → (IsText format (more ++ ss) (shapes_of ts) → ⊥) →
        fault_at format end (more ++ ss) ts ≡ Some end) → (r : Rest) → next format s t.shape ≡ r →
        or_stop r t.at (λ more. fault_at format end (more ++ ss) ts) ≡ Some end
    by_rest others None is = absurd (text_stops format s ss t.shape (shapes_of ts ++ begins.0) is begins.1)
    by_rest others (Some more) is = others more (begins.0, text_on format s ss more t.shape (shapes_of ts ++ begins.0) is begins.1)
        (λ text. not_whole (text_forward format s ss more t.shape (shapes_of ts) is text))

-- the place at which tokens leave the grammar is the one that is found
pub fault_at-leaves : (format : Format) (end : ℕ) (ss : List Nonterminal) (tokens : List Token) (at : ℕ) → LeavesAt format end ss tokens at →
    fault_at format end ss tokens ≡ Some at
fault_at-leaves format end ss tokens at (inl stops) = ap (fault_at format end ss) stops.whole
    ∙ found_stop format end ss stops.front stops.stop stops.rest stops.begins stops.no_further ∙ ap Some (sym stops.place)
fault_at-leaves format end ss tokens at (inr early) = found_end format end ss tokens early.0.begins early.0.not_whole
    ∙ ap Some (sym early.1)
