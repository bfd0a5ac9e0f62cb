-- A value inserted for a label that has none.
use Rattle.std.proofs.Common.{◌≡◌, refl, sym, ap, ◌∙◌, cond}
use Rattle.std.specs.Prelude.{Bool, true, false, Option, Some, None, is_some, if◌then◌else◌}
use Rattle.std.specs.Option.{option_or}
use Rattle.std.specs.Borrow.{Bor}
use Rattle.indexmap.specs.IndexMap.{IndexMap, Updates}
use Rattle.exceptions.specs.Exceptions.{Label}
use Rattle.job_meaning.specs.Log.{same_label}
use Rattle.story_index.specs.Found.{value_at}
use Rattle.story_index.proofs.LabelLemmas.{same_label_is}

-- with nothing there, a value is the first
first_there : {V : Type 0} (o : Option V) (v : V) → is_some o ≡ false → Some v ≡ option_or o (Some v)
first_there None v none = refl
first_there (Some x) v none = let clash : true ≡ false = none in cc

-- and with no value, what was there stays
pub first_elsewhere : {V : Type 0} (o : Option V) → o ≡ option_or o None
first_elsewhere None = refl
first_elsewhere (Some x) = refl

-- the same for a look-up of each label
put_by : {V : Type 0} (b : Bool) (f : Label → Option V) (k l : Label) (v : V) → same_label k l ≡ b → is_some (f k) ≡ false →
    cond b (Some v) (f l) ≡ option_or (f l) (if b then Some v else None)
put_by true f k l v same none = first_there (f l) v (ap (λ m. is_some (f m)) (sym (same_label_is k l same)) ∙ none)
put_by false f k l v same none = first_elsewhere (f l)

-- an insertion for a label that had no value sets its value, and no other
pub put_there : {V S : Type 0} (old new : IndexMap (Bor Label) V S) (k : Bor Label) (v : V) →
    Updates (λ x y. same_label x.now y.now) old new k (Some v) → is_some (value_at old k.now) ≡ false →
    (l : Label) → value_at new l ≡ option_or (value_at old l) (if same_label k.now l then Some v else None)
put_there old new k v updates none l =
    updates.0 (record { ref_ptr = k.ref_ptr; now = l }) ∙ put_by (same_label k.now l) (λ m. value_at old m) k.now l v refl none
