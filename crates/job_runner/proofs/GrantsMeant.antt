-- What is granted so far, where it is known what is granted to each task for the next moment: by the tasks that wait.
use Rattle.std.proofs.Common.{◌≡◌, ◌⊎◌, inl, inr, ℕ, zero, suc, ◌<◌, ◌≤◌, Bool, true, false, ◌&&◌, ◌==◌, Option, Some, None, refl, ap, sym, ◌∙◌, arith, Bor}
use Rattle.std.proofs.lemmas.Bool.{cases_lt, eq-eqb, eqb-true}
use Rattle.std.proofs.lemmas.Option.{none-some, same_Some}
use Rattle.exceptions.specs.Exceptions.{Label}
use Rattle.job_meaning.specs.GrantTable.{is_asking}
use Rattle.job_meaning.specs.Log.{same_label}
use Rattle.job_meaning.specs.Sharing.{Granted, Grants}
use Rattle.job_meaning.proofs.Distinct.{same_label_equal, same_label_itself}
use Rattle.job_tree.specs.Tree.{Steps}
use Rattle.job_tree.specs.declared.object.Ask.{Ask}
use Rattle.objects.specs.Whats.{What}
use Rattle.run_refinement.specs.Moved.{WaitsFor}
use Rattle.task_machine.specs.Worlds.{label_at}
use Rattle.task_machine.specs.declared.stop.TaskState.{TaskState}
use Rattle.task_machine.specs.declared.stop.TaskState.TheVariants.{ToBegin, Asked, Asleep, Waiting, Queued, GivingUp, Awaits, Over}
use Rattle.task_machine.specs.declared.task.Task.{Task}
use Rattle.task_machine.specs.declared.world.World.{World}

-- ---- whether a task waits for what it asked of that of a label in a moment

abbrev pub waits_on : Option Label → Label → ℕ → (object asker : Label) → ℕ → Bool
waits_on None task since object asker u = false
waits_on (Some label) task since object asker u = is_asking label task since object asker u

abbrev pub waits_by : World → Label → TaskState → (object asker : Label) → ℕ → Bool
waits_by world task (Queued key ask since body) object asker u = waits_on (label_at world key) task since object asker u
waits_by world task _ object asker u = false

abbrev pub is_waiting : World → Option Task → (object asker : Label) → ℕ → Bool
is_waiting world None object asker u = false
is_waiting world (Some task) object asker u = waits_by world task.label task.task_state object asker u

and_both : (b c : Bool) → b && c ≡ true → (b ≡ true) × (c ≡ true)
and_both true true e = (refl, refl)
and_both true false e = absurd (let f : false ≡ true = e in cc)
and_both false c e = absurd (let f : false ≡ true = e in cc)

asks_there : (label task : Label) (since : ℕ) (object asker : Label) (u : ℕ) → is_asking label task since object asker u ≡ true →
    (label ≡ object) × (task ≡ asker) × (since ≡ u)
asks_there label task since object asker u e =
    let a = and_both (same_label label object) (same_label task asker && (since == u)) e in
    let b = and_both (same_label task asker) (since == u) a.1 in
    (same_label_equal label object a.0, same_label_equal task asker b.0, eqb-true since u b.1)

asks_itself : (label task : Label) (since : ℕ) → is_asking label task since label task since ≡ true
asks_itself label task since =
    ap (λ (b : Bool). b && (same_label task task && (since == since))) (same_label_itself label)
    ∙ ap (λ (b : Bool). b && (since == since)) (same_label_itself task)
    ∙ eq-eqb since since refl

-- one that does passes the test
pub waits_passes : (world : World) (task : Task) (object asker : Label) (u : ℕ) → WaitsFor world task object asker u →
    is_waiting world (Some task) object asker u ≡ true
waits_passes world task object asker u w =
    ap (λ (z : TaskState). waits_by world task.label z object asker u) w.task_state
    ∙ ap (λ (o : Option Label). waits_on o task.label u object asker u) w.labelled
    ∙ ap (λ (l : Label). is_asking object l u object asker u) w.is
    ∙ asks_itself object asker u

-- and who passes it does
pub passes_waits : (world : World) (task : Task) (object asker : Label) (u : ℕ) → is_waiting world (Some task) object asker u ≡ true →
    WaitsFor world task object asker u
passes_waits world task object asker u e = by_state task.task_state refl e
  where
    by_label : (key : ℕ) (ask : Ask) (since : ℕ) (body : Bor Steps) → task.task_state ≡ Queued key ask since body → (o : Option Label) →
        label_at world key ≡ o → waits_on o task.label since object asker u ≡ true → WaitsFor world task object asker u
    by_label key ask since body f None g h = absurd (let i : false ≡ true = h in cc)
    by_label key ask since body f (Some label) g h =
        let same = asks_there label task.label since object asker u h in
        record {
          key = key;
          ask = ask;
          body = body;
          task_state = f ∙ ap (λ (n : ℕ). Queued key ask n body) same.2;
          labelled = g ∙ ap (λ (l : Label). Some l) same.0;
          is = same.1;
        }

    by_state : (z : TaskState) → task.task_state ≡ z → waits_by world task.label z object asker u ≡ true → WaitsFor world task object asker u
    by_state (Queued key ask since body) f h = by_label key ask since body f (label_at world key) refl h
    by_state (ToBegin at) f h = absurd (let i : false ≡ true = h in cc)
    by_state (Asked kernel purpose) f h = absurd (let i : false ≡ true = h in cc)
    by_state (Asleep paced ticks since) f h = absurd (let i : false ≡ true = h in cc)
    by_state (Waiting event since) f h = absurd (let i : false ≡ true = h in cc)
    by_state (GivingUp since) f h = absurd (let i : false ≡ true = h in cc)
    by_state (Awaits id since) f h = absurd (let i : false ≡ true = h in cc)
    by_state Over f h = absurd (let i : false ≡ true = h in cc)

-- ---- the first row below a number that passes a test

abbrev pub if_passes : Bool → ℕ → Option ℕ → Option ℕ
if_passes true n o = Some n
if_passes false n o = o

abbrev pub passing : (ℕ → Bool) → ℕ → Option ℕ
passing test zero = None
passing test (suc n) = if_passes (test n) n (passing test n)

pub passing_passes : (test : ℕ → Bool) (n p : ℕ) → passing test n ≡ Some p → test p ≡ true
passing_passes test zero p e = absurd (none-some p e)
passing_passes test (suc n) p e = by_test (test n) refl e (passing_passes test n p)
  where
    by_test : (b : Bool) → test n ≡ b → if_passes b n (passing test n) ≡ Some p → (passing test n ≡ Some p → test p ≡ true) → test p ≡ true
    by_test true f g k = ap test (sym (same_Some n p g)) ∙ f
    by_test false f g k = k g

less_or_last : (s n : ℕ) → s < suc n → (s < n) ⊎ (s ≡ n)
less_or_last s n lt = by_order (cases_lt s n)
  where
    by_order : (s < n) ⊎ (n ≤ s) → (s < n) ⊎ (s ≡ n)
    by_order (inl less) = inl less
    by_order (inr le) = inr (omega (arith, le, lt))

pub none_passing : (test : ℕ → Bool) (n s : ℕ) → passing test n ≡ None → s < n → test s ≡ false
none_passing test zero s e lt = absurd (omega (arith, lt))
none_passing test (suc n) s e lt = by_test (test n) refl e (none_passing test n s)
  where
    by_place : test n ≡ false → (s < n) ⊎ (s ≡ n) → (s < n → test s ≡ false) → test s ≡ false
    by_place f (inl less) k = k less
    by_place f (inr same) k = ap test same ∙ f

    by_test : (b : Bool) → test n ≡ b → if_passes b n (passing test n) ≡ None → (passing test n ≡ None → s < n → test s ≡ false) → test s ≡ false
    by_test true f g k = absurd (none-some n (sym g))
    by_test false f g k = by_place f (less_or_last s n lt) (k g)

-- ---- what is granted

abbrev pub meant_if : ℕ → Option What → Option Granted → Option Granted
meant_if t None before = before
meant_if t (Some what) before = Some (record { at = suc t; what = what })

abbrev pub meant_by : ℕ → (ℕ → Option What) → Option ℕ → Option Granted → Option Granted
meant_by t granted None before = before
meant_by t granted (Some s) before = meant_if t (granted s) before

-- The tasks of the rows below a number wait, and this is granted to them in a moment. Else it is what was granted before.
abbrev pub grants_meant : World → (ℕ → Option Task) → ℕ → (ℕ → Option What) → Grants → Grants
grants_meant world task n granted before object asker u =
    meant_by world.tick granted (passing (λ (s : ℕ). is_waiting world (task s) object asker u) n) (before object asker u)

module _ (world : World) (task : ℕ → Option Task) (n : ℕ) (granted : ℕ → Option What) (before : Grants)
    (below : (s : ℕ) (x : Task) → task s ≡ Some x → s < n)
    (apart : (s p : ℕ) (x y : Task) → task s ≡ Some x → task p ≡ Some y → x.label ≡ y.label → s ≡ p)
    (object asker : Label) (u : ℕ)
  where
    abbrev test : ℕ → Bool
    test s = is_waiting world (task s) object asker u

    -- one that passes is a task that waits
    pub test_waits : (s : ℕ) → test s ≡ true → (x : Task) × (task s ≡ Some x) × WaitsFor world x object asker u
    test_waits s e = by_task (task s) refl e
      where
        by_task : (o : Option Task) → task s ≡ o → is_waiting world o object asker u ≡ true →
            (x : Task) × (task s ≡ Some x) × WaitsFor world x object asker u
        by_task None f g = absurd (let i : false ≡ true = g in cc)
        by_task (Some x) f g = (x, f, passes_waits world x object asker u g)

    pub waits_test : (s : ℕ) (x : Task) → task s ≡ Some x → WaitsFor world x object asker u → test s ≡ true
    waits_test s x e w = ap (λ (o : Option Task). is_waiting world o object asker u) e ∙ waits_passes world x object asker u w

    -- no other does
    pub test_once : (s p : ℕ) → test s ≡ true → test p ≡ true → s ≡ p
    test_once s p e f =
        let x = test_waits s e in
        let y = test_waits p f in
        apart s p x.0 y.0 x.1 y.1 (x.2.is ∙ sym y.2.is)

    abbrev first : Option ℕ
    first = passing test n

    -- what is granted to one that waits is recorded
    pub meant_recorded : (s : ℕ) (x : Task) (w : What) → task s ≡ Some x → WaitsFor world x object asker u → granted s ≡ Some w →
        grants_meant world task n granted before object asker u ≡ Some (record { at = suc world.tick; what = w })
    meant_recorded s x w lives waits gets = by_first first refl
      where
        by_first : (o : Option ℕ) → first ≡ o →
            meant_by world.tick granted o (before object asker u) ≡ Some (record { at = suc world.tick; what = w })
        by_first None e =
            absurd (let a : test s ≡ false = none_passing test n s e (below s x lives) in
            let t : true ≡ false = sym (waits_test s x lives waits) ∙ a in cc)
        by_first (Some p) e =
            let same : s ≡ p = test_once s p (waits_test s x lives waits) (passing_passes test n p e) in
            ap (λ (o : Option What). meant_if world.tick o (before object asker u)) (ap granted (sym same) ∙ gets)

    -- and where nothing is, all stays
    pub meant_kept : ((s : ℕ) (x : Task) → task s ≡ Some x → WaitsFor world x object asker u → granted s ≡ None) →
        grants_meant world task n granted before object asker u ≡ before object asker u
    meant_kept none = by_first first refl
      where
        by_first : (o : Option ℕ) → first ≡ o → meant_by world.tick granted o (before object asker u) ≡ before object asker u
        by_first None e = refl
        by_first (Some p) e =
            let x = test_waits p (passing_passes test n p e) in
            ap (λ (o : Option What). meant_if world.tick o (before object asker u)) (none p x.0 x.1 x.2)
