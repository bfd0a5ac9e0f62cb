-- Signs in the tick before the one from which a label is cancelled.
use Rattle.std.proofs.Common.{◌≡◌, ℕ, refl, sym, ap, ◌∙◌, arith}
use Rattle.std.specs.Prelude.{◌==◌, Bool, true, false, Option, Some, None, if◌then◌else◌}
use Rattle.std.specs.Option.{option_map, option_or}
use Rattle.exceptions.specs.Exceptions.{Label}
use Rattle.exceptions.specs.Labels.{same_label_equiv}
use Rattle.job_meaning.specs.Log.{Table, same_label}
use Rattle.job_story.specs.Tell.{is_from}
use Rattle.job_story.specs.Causes.{Cause}
use Rattle.story_index.proofs.Puts.{first_elsewhere}
use Rattle.story_index.proofs.LabelLemmas.{same_label_is}

-- a test with the same result in both cases
same_either : {X : Type 0} (b : Bool) (x : X) → x ≡ (if b then x else x)
same_either true x = refl
same_either false x = refl

-- equality of ticks in both directions
same_tick : (t from : ℕ) → (from == t) ≡ (t == from)
same_tick t from = grind arith

-- the event cancels this label, in the tick before the one from which it is cancelled
due_at : (b : Bool) (table : Table) (l m : Label) (from t : ℕ) (x : Option Cause) → same_label l m ≡ b → table l ≡ Some from →
    (if b then (if is_from (table m) t then x else None) else None) ≡ (if t == from then (if b then x else None) else None)
due_at true table l m from t x same is =
    let here : table m ≡ Some from = sym (ap table (same_label_is l m same)) ∙ is in
    ap (λ o. if is_from o t then x else None) here ∙ ap (λ (b : Bool). if b then x else None) (same_tick t from)
due_at false table l m from t x same is = same_either (t == from) None

-- an event of another tick adds nothing
pub none_due : (table : Table) (l m : Label) (from t : ℕ) (x : Cause) (o n : Option Cause) →
    (if same_label l m then Some x else None) ≡ n → is_from (table m) t ≡ false → table l ≡ Some from →
    o ≡ option_or o (if t == from then n else None)
none_due table l m from t x o n signs late is =
    let due = due_at (same_label l m) table l m from t (Some x) refl is in
    let none : None ≡ (if t == from then (if same_label l m then Some x else None) else None) =
    same_either (same_label l m) None
    ∙ ap (λ (b : Bool). if same_label l m then (if b then Some x else None) else None) (sym late)
    ∙ due in
    first_elsewhere o ∙ ap (option_or o) (none ∙ ap (λ i. if t == from then i else None) signs)

-- what is recorded first, as the definitions see it
noted : {X Y : Type 0} (f : X → Y) (old new : Option X) (v : X) (b : Bool) → new ≡ option_or old (if b then Some v else None) →
    option_map f new ≡ option_or (option_map f old) (if b then Some (f v) else None)
noted f None new v true is = ap (option_map f) is
noted f None new v false is = ap (option_map f) is
noted f (Some x) new v b is = ap (option_map f) is

-- an event of the tick before is recorded where no other was
pub one_due : {C : Type 0} (f : C → Cause) (table : Table) (l m : Label) (from t : ℕ) (x : C) (old new : Option C) (n : Option Cause) →
    (if same_label l m then Some (f x) else None) ≡ n → is_from (table m) t ≡ true → table l ≡ Some from →
    new ≡ option_or old (if same_label m l then Some x else None) →
    option_map f new ≡ option_or (option_map f old) (if t == from then n else None)
one_due f table l m from t x old new n signs next is puts =
    let due = due_at (same_label l m) table l m from t (Some (f x)) refl is in
    let turned : same_label m l ≡ same_label l m = same_label_equiv.symm m l in
    let one : (if same_label l m then Some (f x) else None) ≡ (if t == from then (if same_label l m then Some (f x) else None) else None) =
    ap (λ (b : Bool). if same_label l m then (if b then Some (f x) else None) else None) (sym next) ∙ due in
    noted f old new x (same_label m l) puts
    ∙ ap (λ (b : Bool). option_or (option_map f old) (if b then Some (f x) else None)) turned
    ∙ ap (option_or (option_map f old)) (one ∙ ap (λ i. if t == from then i else None) signs)
