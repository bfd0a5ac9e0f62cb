-- The result that a check finds nothing depends only on the shapes of the tokens and on their roles, not on their
-- places.
use Rattle.std.proofs.Common.{◌≡◌, ℕ, Bool, true, false, ◌∷◌, ◌++◌, List, [], Option, Some, None, refl, sym, ap, subst, ◌∙◌, cond, length, arith}
use Rattle.job_tokens.specs.declared.token.Shape.{Shape}
use Rattle.job_tokens.specs.declared.token.Token.{Token}
use Rattle.job_tokens.specs.Shapes.{shapes_of}
use Rattle.job_syntax.specs.declared.role.Role.{Role}
use Rattle.job_syntax.specs.declared.role.Role.TheVariants as role
use Rattle.job_reader.specs.Given.{given_by, is_among, twice_at, twice_in}
use Rattle.job_reader.specs.Uses.{Use, place_of_target, targets_in, stray_in}
use Rattle.job_reader.specs.Reserved.{allows, reserved_in}

same_shape : (x y : Token) (xs ys : List Token) → shapes_of (x ∷ xs) ≡ shapes_of (y ∷ ys) → (x.shape ≡ y.shape)
    × (shapes_of xs ≡ shapes_of ys)
same_shape x y xs ys e = (cc, cc)

-- whether a name is reserved depends only on the shapes and the roles
pub reserved_by_shapes : (xs ys : List Token) (roles : List Role) → shapes_of xs ≡ shapes_of ys → reserved_in xs roles ≡ None →
    reserved_in ys roles ≡ None
reserved_by_shapes [] [] roles e none = refl
reserved_by_shapes [] (y ∷ ys) roles e none = absurd cc
reserved_by_shapes (x ∷ xs) [] roles e none = refl
reserved_by_shapes (x ∷ xs) (y ∷ ys) [] e none = refl
reserved_by_shapes (x ∷ xs) (y ∷ ys) (r ∷ rs) e none =
    by_answer (allows r x.shape) refl (reserved_by_shapes xs ys rs (same_shape x y xs ys e).1)
  where
    by_answer : (b : Bool) → allows r x.shape ≡ b → (reserved_in xs rs ≡ None → reserved_in ys rs ≡ None) →
        cond (allows r y.shape) (reserved_in ys rs) (Some y.at) ≡ None
    by_answer false is rest = absurd cc
    by_answer true is rest =
        let same : allows r y.shape ≡ true = ap (λ (s : Shape). allows r s) (sym (same_shape x y xs ys e).0) ∙ is in
        let others : reserved_in xs rs ≡ None = sym (ap (λ (b : Bool). cond b (reserved_in xs rs) (Some x.at)) is) ∙ none in
        rw same (rest others)

-- whether a name is given twice, or is one of these, depends only on the shapes and the roles
pub twice_by_shapes : (names : List (List ℕ)) (xs ys : List Token) (roles : List Role) → shapes_of xs ≡ shapes_of ys →
    twice_in names xs roles ≡ None → twice_in names ys roles ≡ None
twice_by_shapes names [] [] roles e none = refl
twice_by_shapes names [] (y ∷ ys) roles e none = absurd cc
twice_by_shapes names (x ∷ xs) [] roles e none = refl
twice_by_shapes names (x ∷ xs) (y ∷ ys) [] e none = refl
twice_by_shapes names (x ∷ xs) (y ∷ ys) (r ∷ rs) e none =
    by_given (given_by r x.shape) (given_by r y.shape) (ap (λ (s : Shape). given_by r s) (same_shape x y xs ys e).0) none
    (λ known. twice_by_shapes known xs ys rs (same_shape x y xs ys e).1)
  where
    by_among : (b : Bool) (known : List (List ℕ)) → cond b (Some x.at) (twice_in known xs rs) ≡ None →
        (twice_in known xs rs ≡ None → twice_in known ys rs ≡ None) → cond b (Some y.at) (twice_in known ys rs) ≡ None
    by_among true known found rest = absurd cc
    by_among false known found rest = rest found

    by_given : (g h : Option (List ℕ)) → g ≡ h → twice_at g x.at names (λ known. twice_in known xs rs) ≡ None →
        ((known : List (List ℕ)) → twice_in known xs rs ≡ None → twice_in known ys rs ≡ None) →
        twice_at h y.at names (λ known. twice_in known ys rs) ≡ None
    by_given None None same found rest = rest names found
    by_given None (Some h) same found rest = absurd cc
    by_given (Some g) None same found rest = absurd cc
    by_given (Some g) (Some h) same found rest =
        let e : g ≡ h = cc in
        subst (λ (n : List ℕ). twice_at (Some n) y.at names (λ known. twice_in known ys rs) ≡ None) e
        (by_among (is_among names g) (names ++ g ∷ []) found (rest (names ++ g ∷ [])))

as_many_targets : (r : Role) (x y : ℕ) (xs ys : List ℕ) → length xs ≡ length ys →
    length (place_of_target r x xs) ≡ length (place_of_target r y ys)
as_many_targets role.Target x y xs ys e = omega (arith, e)
as_many_targets role.Plain x y xs ys e = e
as_many_targets role.Given x y xs ys e = e
as_many_targets role.Raised x y xs ys e = e
as_many_targets role.Handled x y xs ys e = e

as_many_in : (xs ys : List Token) (roles : List Role) → shapes_of xs ≡ shapes_of ys →
    length (targets_in xs roles) ≡ length (targets_in ys roles)
as_many_in [] [] roles e = refl
as_many_in [] (y ∷ ys) roles e = absurd cc
as_many_in (x ∷ xs) [] roles e = absurd cc
as_many_in (x ∷ xs) (y ∷ ys) [] e = refl
as_many_in (x ∷ xs) (y ∷ ys) (r ∷ rs) e =
    as_many_targets r x.at y.at (targets_in xs rs) (targets_in ys rs) (as_many_in xs ys rs (same_shape x y xs ys e).1)

stray_among : (us : List Use) (xs ys : List ℕ) → length xs ≡ length ys → stray_in us xs ≡ None → stray_in us ys ≡ None
stray_among [] xs ys e found = refl
stray_among (u ∷ us) [] [] e found = refl
stray_among (u ∷ us) [] (y ∷ ys) e found = absurd (omega (arith, e))
stray_among (u ∷ us) (x ∷ xs) [] e found = absurd (omega (arith, e))
stray_among (u ∷ us) (x ∷ xs) (y ∷ ys) e found = by_among (is_among u.around u.name) found (stray_among us xs ys (omega (arith, e)))
  where
    by_among : (b : Bool) → cond b (stray_in us xs) (Some x) ≡ None → (stray_in us xs ≡ None → stray_in us ys ≡ None) →
        cond b (stray_in us ys) (Some y) ≡ None
    by_among true found rest = rest found
    by_among false found rest = absurd cc

-- whether a use of a name is stray depends only on the shapes and the roles
pub stray_by_shapes : (us : List Use) (xs ys : List Token) (roles : List Role) → shapes_of xs ≡ shapes_of ys →
    stray_in us (targets_in xs roles) ≡ None → stray_in us (targets_in ys roles) ≡ None
stray_by_shapes us xs ys roles e found = stray_among us (targets_in xs roles) (targets_in ys roles) (as_many_in xs ys roles e) found
