-- The limiters and channels of a run, by their labels.
use Rattle.std.proofs.Common.{◌≡◌, ℕ, Bool, true, false, Option, Some, None, List, refl, ap, sym, ◌∙◌, subst}
use Rattle.std.specs.Option.{ForSome}
use Rattle.std.proofs.lemmas.Option.{same_Some}
use Rattle.exceptions.specs.Exceptions.{Label}
use Rattle.input_lines.specs.Part.{buffer_of}
use Rattle.input_lines.specs.declared.part.Part.{Part}
use Rattle.job_tree.specs.declared.object.Ask.{Ask}
use Rattle.job_tree.specs.declared.object.ObjectKind.{ObjectKind}
use Rattle.job_meaning.specs.Log.{same_label}
use Rattle.job_meaning.proofs.Distinct.{same_label_equal}
use Rattle.objects.specs.Held.{AreGivenOf, IsObjectOf}
use Rattle.objects.specs.declared.given.Given.{Given}
use Rattle.objects.specs.declared.object.Object.{Object}
use Rattle.objects.specs.declared.object.Operation.TheVariants as operations
use Rattle.objects.specs.declared.ticket.Ticket.{Ticket}
use Rattle.job_runner.specs.declared.objects_by_label.ObjectTable.{ObjectTable}
use Rattle.job_runner.specs.Serving.{Opens, OpensIf, OthersStay, ServesAct, ServesAt, StayLent}
use Rattle.job_runner.specs.Shared.{object_at}
use Rattle.job_runner.specs.Shelves.{IsActOf}
use Rattle.job_runner.specs.declared.serving.Done.TheVariants.{Asks}
use Rattle.job_runner.specs.declared.serving.RoundAct.{RoundAct}

-- where the parts of one of them stay of an input, those of all do
pub one_lent : (input : List ℕ) (old new : ObjectTable) (label : Label) (object after : Object) (before given : List Given) →
    object_at old label ≡ Some object → object_at new label ≡ Some after → OthersStay label old new →
    (IsObjectOf input object → AreGivenOf input before → IsObjectOf input after × AreGivenOf input given) → StayLent input old new before given
one_lent input old new label object after before given was is others stays parts given_before = (all, now.1)
  where
    now : IsObjectOf input after × AreGivenOf input given
    now = stays (parts label object was) given_before

    all : (l : Label) → ForSome (object_at new l) (IsObjectOf input)
    all l x e = by_label (same_label l label) refl
      where
        by_label : (b : Bool) → same_label l label ≡ b → IsObjectOf input x
        by_label true f =
            subst (IsObjectOf input)
            (same_Some after x (sym is ∙ (ap (object_at new) (sym (same_label_equal l label f)) ∙ e))) now.0
        by_label false f = parts l x (sym (others l f) ∙ e)

-- where one was opened too
pub opened_lent : {old new : ObjectTable} {label : Label} {kind : ObjectKind} (input : List ℕ) (given : List Given) → Opens kind label old new →
    StayLent input old new given given
opened_lent {old} {new} {label} {kind} input given h parts given_before = (all, given_before)
  where
    there : (o n : Option Object) → OpensIf kind o n → ForSome o (IsObjectOf input) → ForSome n (IsObjectOf input)
    there None None opens held = absurd opens
    there None (Some new) opens held = λ x e. subst (IsObjectOf input) (same_Some new x e) (opens.2 input)
    there (Some o) n opens held = λ x e. held x (sym opens ∙ e)

    all : (l : Label) → ForSome (object_at new l) (IsObjectOf input)
    all l = by_label (same_label l label) refl
      where
        by_label : (b : Bool) → same_label l label ≡ b → ForSome (object_at new l) (IsObjectOf input)
        by_label true f =
            subst (λ (k : Label). ForSome (object_at new k) (IsObjectOf input)) (sym (same_label_equal l label f))
            (there (object_at old label) (object_at new label) h.opened (parts label))
        by_label false f = λ x e. parts l x (sym (h.others l f) ∙ e)

-- ---- a task that asks

module _ (a : RoundAct) (ask : Ask) (part : Part) (is : a.done ≡ Asks ask part) where
  -- what it asks is served, by its ticket
  pub asks_served : {waits : Ticket → Bool} {t n : ℕ} {old new : ObjectTable} {before after : List Given} → n ≡ t →
      ServesAt waits (operations.Asks (record { row = a.row; since = n }) ask part) a.object old new before after →
      ServesAct waits t old new a before after
  asks_served now h = rw (is, ← now) h

  -- with a part of the input
  pub asks_part : (input : List ℕ) → IsActOf input a → buffer_of part ≡ input
  asks_part input of = rw is at of
