-- What the code prints between tokens.
use Rattle.std.proofs.Common.{◌≡◌, ℕ, zero, suc, ◌+◌, ◌-◌, ◌<◌, ◌≤◌, ◌==◌, Bool, true, false, cond, eqb, ◌||◌, List, [], ◌∷◌, ◌++◌, length, refl, sym, ap, subst, ◌∙◌, append_assoc, arith}
use Rattle.job_tokens.specs.Lexing.{ends_line, after_blanks, token_at}
use Rattle.job_tokens.specs.Comments.{Comment, line_at, after_line, comments_in, separator, rest_of, after_token, comments_along}
use Rattle.job_tokens.proofs.Between.{inside_is}
use Rattle.job_layout.specs.Spaced.{indent}
use Rattle.job_layout.specs.declared.spaced.SpacedToken.{SpacedToken}
use Rattle.job_layout.specs.Commented.{lead, comments_text, lines_of, first_of, others_of, commented_text}
use Rattle.job_layout.specs.Layout.{bare_of}

-- ---- levels

indent_next : (level : ℕ) → indent level ++ 32 ∷ 32 ∷ [] ≡ indent (suc level)
indent_next zero = refl
indent_next (suc level) = ap (λ (bytes : List ℕ). 32 ∷ 32 ∷ bytes) (indent_next level)

-- a line at the next level
pub deeper_line : (level : ℕ) → indent level ++ indent 1 ≡ indent (level + 1)
deeper_line level = let k : level + 1 ≡ suc level = omega arith in indent_next level ∙ ap indent (sym k)

-- ---- whether there is a comment

-- this does not depend on what stands before the bytes
pub none_either : (alone other inside : Bool) (bytes : List ℕ) →
    (length (comments_in alone inside bytes) == 0) ≡ (length (comments_in other inside bytes) == 0)
none_either alone other inside [] = refl
none_either alone other true (b ∷ bs) = refl
none_either alone other false (b ∷ bs) = by_byte (eqb b 35) (none_either (alone || ends_line b) (other || ends_line b) false bs)
  where
    by_byte : (sign : Bool) → (length (comments_in (alone || ends_line b) false bs) == 0) ≡ (length (comments_in (other || ends_line b) false bs) == 0) →
        (length (cond sign (record { alone = alone; text = line_at (b ∷ bs) } ∷ comments_in true true bs) (comments_in (alone || ends_line b) false bs)) == 0)
        ≡ (length (cond sign (record { alone = other; text = line_at (b ∷ bs) } ∷ comments_in true true bs) (comments_in (other || ends_line b) false bs)) == 0)
    by_byte true e = refl
    by_byte false e = e

some_is : (n : ℕ) → (suc n == 0) ≡ false
some_is n = grind arith

-- a byte that begins a comment, and no bytes
pub some_comment : (b : ℕ) (bytes others all : List ℕ) → bytes ≡ b ∷ others → b ≡ 35 → comments_in true false bytes ≡ comments_in true false all →
    false ≡ (length (comments_in false false all) == 0)
some_comment b bytes others all split same left =
    let is : eqb b 35 ≡ true = ap (λ (n : ℕ). eqb n 35) same in
    let some : (length (comments_in true false (b ∷ others)) == 0) ≡ false = rw is (some_is (length (comments_in true true others))) in
    sym some ∙ ap (λ (xs : List ℕ). length (comments_in true false xs) == 0) (sym split) ∙ ap (λ (cs : List Comment). length cs == 0) left
    ∙ none_either true false false all

pub no_comment : (bytes all : List ℕ) → bytes ≡ [] → comments_in true false bytes ≡ comments_in true false all →
    true ≡ (length (comments_in false false all) == 0)
no_comment bytes all done left =
    ap (λ (xs : List ℕ). length (comments_in true false xs) == 0) (sym done) ∙ ap (λ (cs : List Comment). length cs == 0) left
    ∙ none_either true false false all

bare_first : (alone other : Bool) (count : ℕ) (bytes : List ℕ) → bare_of (comments_along alone count bytes) ≡ bare_of (comments_along other count bytes)
bare_first alone other zero bytes = ap (λ (b : Bool). b ∷ []) (none_either alone other false (separator bytes))
bare_first alone other (suc n) bytes =
    ap (λ (b : Bool). b ∷ bare_of (comments_along false n (after_token bytes))) (none_either alone other false (separator bytes))

-- one token less
bare_next : (less : ℕ) (bytes : List ℕ) →
    (length (comments_in false false (separator bytes)) == 0) ∷ bare_of (comments_along true less (after_token bytes))
    ≡ bare_of (comments_along true (suc less) bytes)
bare_next less bytes =
    ap (λ (b : Bool). b ∷ bare_of (comments_along true less (after_token bytes))) (none_either false true false (separator bytes))
    ∙ ap (λ (bs : List Bool). (length (comments_in true false (separator bytes)) == 0) ∷ bs) (bare_first true false less (after_token bytes))

-- a flag that is appended for the token that comes next
pub bare_step : (left : ℕ) (bytes between after next : List ℕ) (flag : Bool) (old new whole : List Bool) → 0 < left →
    between ≡ separator bytes → after ≡ after_blanks true bytes → next ≡ rest_of (token_at after) →
    flag ≡ (length (comments_in false false between) == 0) → new ≡ old ++ flag ∷ [] → old ++ bare_of (comments_along true left bytes) ≡ whole →
    new ++ bare_of (comments_along true (left - 1) next) ≡ whole
bare_step zero bytes between after next flag old new whole some sep aft nex is pushed all = absurd (omega arith)
bare_step (suc less) bytes between after next flag old new whole some sep aft nex is pushed all =
    let k : suc less - 1 ≡ less = omega arith in
    let moved : next ≡ after_token bytes = nex ∙ ap (λ (xs : List ℕ). rest_of (token_at xs)) aft in
    let flagged : flag ≡ (length (comments_in false false (separator bytes)) == 0) =
    is ∙ ap (λ (xs : List ℕ). length (comments_in false false xs) == 0) sep in
    ap (λ (n : ℕ). new ++ bare_of (comments_along true n next)) k
    ∙ ap (λ (xs : List ℕ). new ++ bare_of (comments_along true less xs)) moved
    ∙ ap (λ (bs : List Bool). bs ++ bare_of (comments_along true less (after_token bytes))) pushed
    ∙ append_assoc old (flag ∷ []) (bare_of (comments_along true less (after_token bytes)))
    ∙ ap (λ (b : Bool). old ++ b ∷ bare_of (comments_along true less (after_token bytes))) flagged
    ∙ ap (λ (bs : List Bool). old ++ bs) (bare_next less bytes) ∙ all

-- and for the end
pub bare_end : (left : ℕ) (bytes between : List ℕ) (flag : Bool) (old new whole : List Bool) → left ≡ 0 → between ≡ separator bytes →
    flag ≡ (length (comments_in false false between) == 0) → new ≡ old ++ flag ∷ [] → old ++ bare_of (comments_along true left bytes) ≡ whole →
    new ≡ whole
bare_end left bytes between flag old new whole none sep is pushed all =
    pushed ∙ ap (λ (b : Bool). old ++ b ∷ []) (is ∙ ap (λ (xs : List ℕ). length (comments_in false false xs) == 0) sep
    ∙ none_either false true false (separator bytes))
    ∙ ap (λ (n : ℕ). old ++ bare_of (comments_along true n bytes)) (sym none) ∙ all

-- ---- the bytes of comments

within : (bytes : List ℕ) → length (after_line bytes) ≤ length bytes
within [] = omega arith
within (b ∷ bs) = by_byte (ends_line b) (within bs)
  where
    by_byte : (ends : Bool) → length (after_line bs) ≤ length bs → length (cond ends (b ∷ bs) (after_line bs)) ≤ length (b ∷ bs)
    by_byte true le = omega arith
    by_byte false le = omega (arith, le)

shorter : (b : ℕ) (bytes others : List ℕ) → bytes ≡ b ∷ others → b ≡ 35 → length (after_line bytes) < length bytes
shorter b bytes others split is =
    let sign : bytes ≡ 35 ∷ others = split ∙ ap (λ (x : ℕ). x ∷ others) is in
    subst (λ (xs : List ℕ). length (after_line xs) < length xs) (sym sign) (omega (arith, within others))

-- less is left after a comment
pub after_shorter : (b : ℕ) (bytes others after : List ℕ) → bytes ≡ b ∷ others → b ≡ 35 → after ≡ after_line bytes → length after < length bytes
after_shorter b bytes others after split is rest = subst (λ (xs : List ℕ). length xs < length bytes) (sym rest) (shorter b bytes others split is)

-- a comment, and those after it
comment_first : (level : ℕ) (alone : Bool) (b : ℕ) (bytes others : List ℕ) → bytes ≡ b ∷ others → b ≡ 35 →
    (lead level alone ++ line_at bytes) ++ comments_text level (comments_in true false (after_line bytes))
    ≡ comments_text level (comments_in alone false bytes)
comment_first level alone b bytes others split is =
    let sign : bytes ≡ 35 ∷ others = split ∙ ap (λ (x : ℕ). x ∷ others) is in
    subst (λ (xs : List ℕ). (lead level alone ++ line_at xs) ++ comments_text level (comments_in true false (after_line xs))
    ≡ comments_text level (comments_in alone false xs)) (sym sign)
    (ap (λ (cs : List Comment). (lead level alone ++ line_at (35 ∷ others)) ++ comments_text level cs) (sym (inside_is true others)))

pub comment_next : (level : ℕ) (alone : Bool) (b : ℕ) (bytes others line after before led out whole : List ℕ) → bytes ≡ b ∷ others → b ≡ 35 →
    line ≡ line_at bytes → after ≡ after_line bytes → led ≡ before ++ lead level alone → out ≡ led ++ line →
    before ++ comments_text level (comments_in alone false bytes) ≡ whole → out ++ comments_text level (comments_in true false after) ≡ whole
comment_next level alone b bytes others line after before led out whole split is first others_are one two all =
    let rest = comments_text level (comments_in true false (after_line bytes)) in
    ap (λ (xs : List ℕ). out ++ comments_text level (comments_in true false xs)) others_are
    ∙ ap (λ (xs : List ℕ). xs ++ rest) (two ∙ ap (λ (xs : List ℕ). led ++ xs) first ∙ ap (λ (xs : List ℕ). xs ++ line_at bytes) one
    ∙ append_assoc before (lead level alone) (line_at bytes))
    ∙ append_assoc before (lead level alone ++ line_at bytes) rest
    ∙ ap (λ (xs : List ℕ). before ++ xs) (comment_first level alone b bytes others split is) ∙ all

-- the same for comments before the first token
line_first : (b : ℕ) (bytes others : List ℕ) → bytes ≡ b ∷ others → b ≡ 35 →
    (line_at bytes ++ 10 ∷ []) ++ lines_of (comments_in true false (after_line bytes)) ≡ lines_of (comments_in true false bytes)
line_first b bytes others split is =
    let sign : bytes ≡ 35 ∷ others = split ∙ ap (λ (x : ℕ). x ∷ others) is in
    subst (λ (xs : List ℕ). (line_at xs ++ 10 ∷ []) ++ lines_of (comments_in true false (after_line xs)) ≡ lines_of (comments_in true false xs)) (sym sign)
    (ap (λ (cs : List Comment). (line_at (35 ∷ others) ++ 10 ∷ []) ++ lines_of cs) (sym (inside_is true others)))

pub line_next : (b : ℕ) (bytes others line after before said out whole : List ℕ) → bytes ≡ b ∷ others → b ≡ 35 →
    line ≡ line_at bytes → after ≡ after_line bytes → said ≡ before ++ line → out ≡ said ++ 10 ∷ [] →
    before ++ lines_of (comments_in true false bytes) ≡ whole → out ++ lines_of (comments_in true false after) ≡ whole
line_next b bytes others line after before said out whole split is first others_are one two all =
    let rest = lines_of (comments_in true false (after_line bytes)) in
    ap (λ (xs : List ℕ). out ++ lines_of (comments_in true false xs)) others_are
    ∙ ap (λ (xs : List ℕ). xs ++ rest) (two ∙ ap (λ (xs : List ℕ). xs ++ 10 ∷ []) (one ∙ ap (λ (xs : List ℕ). before ++ xs) first)
    ∙ append_assoc before (line_at bytes) (10 ∷ []))
    ∙ append_assoc before (line_at bytes ++ 10 ∷ []) rest
    ∙ ap (λ (xs : List ℕ). before ++ xs) (line_first b bytes others split is) ∙ all

-- ---- a whole text

first_along : (alone : Bool) (n : ℕ) (bytes : List ℕ) → first_of (comments_along alone n bytes) ≡ comments_in alone false (separator bytes)
first_along alone zero bytes = refl
first_along alone (suc n) bytes = refl

pub text_written : (line one two three four between body : List ℕ) (ts : List SpacedToken) → one ≡ line → between ≡ separator body →
    two ≡ one ++ lines_of (comments_in true false between) →
    three ≡ two ++ commented_text 0 ts ([] ∷ others_of (comments_along true (length ts) body)) → four ≡ three ++ 10 ∷ [] →
    four ≡ line ++ (lines_of (first_of (comments_along true (length ts) body))
    ++ (commented_text 0 ts ([] ∷ others_of (comments_along true (length ts) body)) ++ 10 ∷ []))
text_written line one two three four between body ts is_one sep is_two is_three is_four =
    let css = comments_along true (length ts) body in
    let text = commented_text 0 ts ([] ∷ others_of css) in
    let lines : lines_of (comments_in true false between) ≡ lines_of (first_of css) =
    ap (λ (xs : List ℕ). lines_of (comments_in true false xs)) sep ∙ ap lines_of (sym (first_along true (length ts) body)) in
    let said : two ≡ line ++ lines_of (first_of css) =
    is_two ∙ ap (λ (xs : List ℕ). xs ++ lines_of (comments_in true false between)) is_one ∙ ap (λ (xs : List ℕ). line ++ xs) lines in
    is_four ∙ ap (λ (xs : List ℕ). xs ++ 10 ∷ []) (is_three ∙ ap (λ (xs : List ℕ). xs ++ text) said)
    ∙ append_assoc (line ++ lines_of (first_of css)) text (10 ∷ []) ∙ append_assoc line (lines_of (first_of css)) (text ++ 10 ∷ [])
