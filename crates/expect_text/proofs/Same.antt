-- Texts with the same lines are the same, and have no difference.
use Rattle.std.proofs.Common.{◌≡◌, ℕ, ◌+◌, ◌==◌, Bool, true, false, Option, None, List, [], ◌∷◌, ◌++◌, refl, sym, ap, ◌∙◌, subst, ◌↔◌}
use Rattle.std.specs.Str.{bytes_eq}
use Rattle.std.proofs.lemmas.Slice.Eq.{bytes_eq-Decides}
use Rattle.std.proofs.lemmas.Bool.Decides.{Decides-eqb}
use Rattle.expect_text.specs.Lines.{before_parts, lines_of}
use Rattle.expect_text.specs.Differences.{Difference, difference_at, difference_from, first_difference}

-- ---- a text is its lines, with newlines between them

-- some lines, with a newline before each
abbrev pub joined : List (List ℕ) → List ℕ
joined [] = []
joined (l ∷ ls) = 10 ∷ (l ++ joined ls)

joined_step : (b : ℕ) (bs : List ℕ) (is_newline : Bool) → (is_newline ≡ true → b ≡ 10) → (parts : List (List ℕ)) → 10 ∷ bs ≡ joined parts
    → 10 ∷ b ∷ bs ≡ joined (before_parts is_newline b parts)
joined_step b bs test is [] e = let f : ⊥ = cc in absurd f
joined_step b bs true is (l ∷ ls) e = let newline : b ≡ 10 = is refl in cc
joined_step b bs false is (l ∷ ls) e = cc

pub joined_lines : (text : List ℕ) → 10 ∷ text ≡ joined (lines_of text)
joined_lines [] = refl
joined_lines (b ∷ bs) = joined_step b bs (b == 10) (Decides-eqb b 10).0 (lines_of bs) (joined_lines bs)

pub same_text : (one other : List ℕ) → lines_of one ≡ lines_of other → one ≡ other
same_text one other e =
    let all : 10 ∷ one ≡ 10 ∷ other = joined_lines one ∙ ap joined e ∙ sym (joined_lines other) in
    cc

-- ---- the first difference

at_none : (same : Bool) (n : ℕ) (k l : List ℕ) (later : Option Difference) → difference_at same n k l later ≡ None → (same ≡ true) × (later ≡ None)
at_none true n k l later e = (refl, e)
at_none false n k l later e = let f : ⊥ = cc in absurd f

pub none_same : (n : ℕ) (ks ls : List (List ℕ)) → difference_from n ks ls ≡ None → ks ≡ ls
none_same n [] [] e = refl
none_same n [] (l ∷ ls) e = let f : ⊥ = cc in absurd f
none_same n (k ∷ ks) [] e = let f : ⊥ = cc in absurd f
none_same n (k ∷ ks) (l ∷ ls) e =
    let both : (bytes_eq k l ≡ true) × (difference_from (n + 1) ks ls ≡ None) = at_none (bytes_eq k l) n k l (difference_from (n + 1) ks ls) e in
    let head : k ≡ l = (bytes_eq-Decides k l).0 both.0 in
    let tail : ks ≡ ls = none_same (n + 1) ks ls both.1 in
    cc

pub same_none : (n : ℕ) (ks : List (List ℕ)) → difference_from n ks ks ≡ None
same_none n [] = refl
same_none n (k ∷ ks) = rw ((bytes_eq-Decides k k).1 refl) (same_none (n + 1) ks)

pub no_difference : (kept written : List ℕ) → (first_difference kept written ≡ None) ↔ (kept ≡ written)
no_difference kept written = (
  (λ none. same_text kept written (none_same 1 (lines_of kept) (lines_of written) none)),
  (λ (same : kept ≡ written). subst (λ t. first_difference kept t ≡ None) same (same_none 1 (lines_of kept))),
)
