-- The exceptions of members, in the code and as a nursery raises them.
use Rattle.std.proofs.Common.{◌≡◌, ℕ, zero, suc, ◌+◌, ◌≤◌, nat_eq, Option, List, [], ◌∷◌, ◌++◌, Some, None, is_some, map, refl, ap, ◌∙◌, arith}
use Rattle.std.specs.Prelude.{option_to_list, slice_get, slice_set, length}
use Rattle.std.specs.List.{list_all}
use Rattle.std.proofs.lemmas.Bool.{ne_eqb}
use Rattle.exceptions.specs.Exceptions.{parts_of, part}
use Rattle.exceptions.specs.declared.exc.Exc as held
use Rattle.exceptions.specs.Held.{exc_of, excs_of}
use Rattle.nursery_book.specs.Nursery.{with_exc, excs_in}
use Rattle.nursery_book.specs.Ends.{end_of, exc_held, excs_held, running_in}
use Rattle.nursery_book.specs.declared.ending.MemberEnd.{MemberEnd}
use Rattle.nursery_book.specs.declared.ending.MemberEnd.TheVariants.{Running, Ended}

-- one member's exception, and those of more members
held_first : (e : MemberEnd) (es : List MemberEnd) → excs_of (excs_held es) ≡ parts_of (excs_in (map end_of es)) →
    excs_of (option_to_list (exc_held e) ++ excs_held es) ≡ parts_of (with_exc (end_of e) (excs_in (map end_of es)))
held_first Running es same = same
held_first (Ended None) es same = same
held_first (Ended (Some exc)) es same = ap (part (exc_of exc)) same

-- the next child's exception, in front of the others
pub held_next : (e : MemberEnd) (es : List MemberEnd) → excs_held (e ∷ es) ≡ option_to_list (exc_held e) ++ excs_held es
held_next Running es = refl
held_next (Ended None) es = refl
held_next (Ended (Some exc)) es = refl

held_all : (es : List MemberEnd) → excs_of (excs_held es) ≡ parts_of (excs_in (map end_of es))
held_all [] = refl
held_all (e ∷ es) = ap excs_of (held_next e es) ∙ held_first e es (held_all es)

-- the exceptions that the code holds are those that the nursery raises
pub held_raised : (body : MemberEnd) (es : List MemberEnd) →
    excs_of (option_to_list (exc_held body) ++ excs_held es) ≡ parts_of (with_exc (end_of body) (excs_in (map end_of es)))
held_raised body es = held_first body es (held_all es)

-- no more members run than there are
pub running_upto : (es : List MemberEnd) → running_in es ≤ length es
running_upto [] = omega arith
running_upto (Running ∷ es) = omega (arith, running_upto es)
running_upto (Ended exc ∷ es) = omega (arith, running_upto es)

-- one more runs
pub running_more : (es : List MemberEnd) → running_in (es ++ Running ∷ []) ≡ running_in es + 1
running_more [] = refl
running_more (Running ∷ es) = omega (arith, running_more es)
running_more (Ended exc ∷ es) = running_more es

-- one that ran ended
pub running_fewer : (es : List MemberEnd) (index : ℕ) (exc : Option held.Exc) → slice_get (map end_of es) index ≡ Some None →
    running_in (slice_set es index (Ended exc)) + 1 ≡ running_in es
running_fewer [] index exc at = absurd (cc)
running_fewer (Running ∷ es) zero exc at = omega arith
running_fewer (Ended other ∷ es) zero exc at = absurd (cc)
running_fewer (Running ∷ es) (suc index) exc at = omega (arith, running_fewer es index exc at)
running_fewer (Ended other ∷ es) (suc index) exc at = running_fewer es index exc at

-- none runs where all ended
pub none_runs : (es : List MemberEnd) → nat_eq (running_in es) 0 ≡ list_all is_some (map end_of es)
none_runs [] = refl
none_runs (Running ∷ es) = ne_eqb (suc (running_in es)) 0 (λ e. omega (arith, e))
none_runs (Ended exc ∷ es) = none_runs es
