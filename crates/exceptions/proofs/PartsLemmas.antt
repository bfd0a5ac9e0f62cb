-- The parts of a group one by one.
use Rattle.std.proofs.Common.{◌≡◌, ℕ, zero, suc, ◌+◌, ◌<◌, ◌≤◌, List, [], ◌∷◌, ◌++◌, length, take, refl, ap, sym, ◌∙◌, arith}
use Rattle.std.specs.Prelude.{Bool, Option, Some, None, slice_index_or}
use Rattle.std.specs.Option.{option_map}
use Rattle.exceptions.specs.Exceptions.{Excs, no_parts, part, Exc as Tree, Whose, group, group_of}
use Rattle.exceptions.specs.Split.{pruned_exc, pruned_parts, with_part}
use Rattle.exceptions.specs.declared.exc.Exc.{Exc}
use Rattle.exceptions.specs.Held.{exc_of, excs_of}
use Rattle.exceptions.specs.Weigh.{weight_of, weight_in}

-- parts, and further parts
abbrev pub appended : Excs → Excs → Excs
appended no_parts fs = fs
appended (part e es) fs = part e (appended es fs)

-- the exceptions of two lists together are those of the first and then those of the second
pub excs_of-append : (es fs : List Exc) → excs_of (es ++ fs) ≡ appended (excs_of es) (excs_of fs)
excs_of-append [] fs = refl
excs_of-append (e ∷ es) fs = ap (part (exc_of e)) (excs_of-append es fs)

-- one more part after the first ones
pub excs_of-take : (es : List Exc) (i : ℕ) (d : Exc) → i < length es →
    excs_of (take (i + 1) es) ≡ appended (excs_of (take i es)) (part (exc_of (slice_index_or es i d)) no_parts)
excs_of-take [] i d h = absurd (omega arith)
excs_of-take (e ∷ es) zero d h = refl
excs_of-take (e ∷ es) (suc i) d h =
    let step : suc i + 1 ≡ suc (i + 1) = omega arith in
    rw step (ap (part (exc_of e)) (excs_of-take es i d (omega arith)))

appended-assoc : (a b c : Excs) → appended (appended a b) c ≡ appended a (appended b c)
appended-assoc no_parts b c = refl
appended-assoc (part e es) b c = ap (part e) (appended-assoc es b c)

pruned_parts-with : (test : Tree → Bool) (o : Option Tree) (es fs : Excs) → appended (with_part o es) fs ≡ with_part o (appended es fs)
pruned_parts-with test None es fs = refl
pruned_parts-with test (Some e) es fs = refl

-- what a test leaves of parts and further parts is what it leaves of the first and then of the others
pub pruned_parts-append : (test : Tree → Bool) (es fs : Excs) →
    pruned_parts test (appended es fs) ≡ appended (pruned_parts test es) (pruned_parts test fs)
pruned_parts-append test no_parts fs = refl
pruned_parts-append test (part e es) fs =
    ap (with_part (pruned_exc test e)) (pruned_parts-append test es fs)
    ∙ sym (pruned_parts-with test (pruned_exc test e) (pruned_parts test es) (pruned_parts test fs))

weight_of-some : (es : Excs) → 1 ≤ weight_of es
weight_of-some no_parts = omega arith
weight_of-some (part e es) = omega (arith, weight_of-some es)

-- a part weighs less than all parts together
pub weight_in-at : (es : List Exc) (i : ℕ) (d : Exc) → i < length es →
    weight_in (exc_of (slice_index_or es i d)) + 1 ≤ weight_of (excs_of es)
weight_in-at [] i d h = absurd (omega arith)
weight_in-at (e ∷ es) zero d h = omega (arith, weight_of-some (excs_of es))
weight_in-at (e ∷ es) (suc i) d h = omega (arith, weight_in-at es i d (omega arith))

-- a copy of the next part after copies of those before it
pub copied_more : (parts copies new : List Exc) (i : ℕ) (x copy : Exc) → i < length parts → excs_of copies ≡ excs_of (take i parts) →
    exc_of copy ≡ exc_of x → x ≡ slice_index_or parts i x → new ≡ copies ++ copy ∷ [] → excs_of new ≡ excs_of (take (i + 1) parts)
copied_more parts copies new i x copy h before same at e =
    ap excs_of e
    ∙ excs_of-append copies (copy ∷ [])
    ∙ ap (λ es. appended es (part (exc_of copy) no_parts)) before
    ∙ ap (λ y. appended (excs_of (take i parts)) (part y no_parts)) (same ∙ ap exc_of at)
    ∙ sym (excs_of-take parts i x h)

-- what is left of the parts so far, and of the next one
pruned_next : (test : Tree → Bool) (parts : List Exc) (i : ℕ) (x : Exc) (o : Option Tree) → i < length parts → o ≡ pruned_exc test (exc_of x) →
    x ≡ slice_index_or parts i x → pruned_parts test (excs_of (take (i + 1) parts))
    ≡ appended (pruned_parts test (excs_of (take i parts))) (with_part o no_parts)
pruned_next test parts i x o h is at =
    ap (pruned_parts test) (excs_of-take parts i x h)
    ∙ pruned_parts-append test (excs_of (take i parts)) (part (exc_of (slice_index_or parts i x)) no_parts)
    ∙ ap (λ y. appended (pruned_parts test (excs_of (take i parts))) (with_part y no_parts))
    (ap (λ z. pruned_exc test (exc_of z)) (sym at) ∙ sym is)

appended-none : (es : Excs) → appended es no_parts ≡ es
appended-none no_parts = refl
appended-none (part e es) = ap (part e) (appended-none es)

-- the next part has a leaf left
pub pruned_some : (test : Tree → Bool) (parts left new : List Exc) (i : ℕ) (x y : Exc) (o : Option Exc) → i < length parts →
    excs_of left ≡ pruned_parts test (excs_of (take i parts)) → option_map exc_of o ≡ pruned_exc test (exc_of x) → o ≡ Some y →
    x ≡ slice_index_or parts i x → new ≡ left ++ y ∷ [] → excs_of new ≡ pruned_parts test (excs_of (take (i + 1) parts))
pruned_some test parts left new i x y o h before is some at e =
    ap excs_of e
    ∙ excs_of-append left (y ∷ [])
    ∙ ap (λ es. appended es (part (exc_of y) no_parts)) before
    ∙ sym (pruned_next test parts i x (Some (exc_of y)) h (ap (option_map exc_of) (sym some) ∙ is) at)

-- the next part has no leaf left
pub pruned_none : (test : Tree → Bool) (parts left new : List Exc) (i : ℕ) (x : Exc) (o : Option Exc) → i < length parts →
    excs_of left ≡ pruned_parts test (excs_of (take i parts)) → option_map exc_of o ≡ pruned_exc test (exc_of x) → o ≡ None →
    x ≡ slice_index_or parts i x → new ≡ left → excs_of new ≡ pruned_parts test (excs_of (take (i + 1) parts))
pruned_none test parts left new i x o h before is none at e =
    ap excs_of e
    ∙ before
    ∙ sym (appended-none (pruned_parts test (excs_of (take i parts))))
    ∙ sym (pruned_next test parts i x None h (ap (option_map exc_of) (sym none) ∙ is) at)

-- some exceptions make a group
pub group_of-some : (whose : Whose) (parts : List Exc) → (length parts ≡ 0 → ⊥) →
    Some (group whose (excs_of parts)) ≡ group_of whose (excs_of parts)
group_of-some whose [] h = absurd (h refl)
group_of-some whose (e ∷ es) h = refl
