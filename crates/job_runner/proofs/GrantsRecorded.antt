-- All that is recorded of the grants of a moment is what is granted to the tasks that wait.
use Rattle.std.proofs.Common.{◌≡◌, inl, inr, ℕ, suc, ◌<◌, Bool, true, false, Option, Some, None, List, [], ◌∷◌, map, refl, ap, sym, ◌∙◌, subst, if◌then◌else◌}
use Rattle.std.specs.Prelude.{All}
use Rattle.std.specs.Option.{option_map}
use Rattle.std.proofs.Math.Path.{fun_ext}
use Rattle.std.proofs.lemmas.List.Elements.{All-head, All-tail}
use Rattle.exceptions.specs.Exceptions.{Label}
use Rattle.job_meaning.specs.GrantTable.{granted_of, grants_made, made_in}
use Rattle.job_meaning.specs.declared.grant_table.Granted.{Granted as Recorded}
use Rattle.job_meaning.specs.declared.grant_table.GrantTable.{GrantTable}
use Rattle.objects.specs.Held.{gets_in}
use Rattle.objects.specs.Whats.{What}
use Rattle.objects.specs.declared.given.Given.{Given}
use Rattle.task_machine.specs.Serving.{queue_of}
use Rattle.task_machine.specs.Worlds.{label_at}
use Rattle.task_machine.specs.declared.stop.TaskState.{TaskState}
use Rattle.task_machine.specs.declared.task.Task.{Task}
use Rattle.task_table.specs.TaskTable.{task_count, task_of, IsTaskTable}
use Rattle.task_table.specs.declared.task_table.Running.{Running}
use Rattle.turn_semantics.specs.Lists.{IsAmong}
use Rattle.job_runner.specs.declared.runner.Runner.{Runner}
use Rattle.job_runner.specs.Grants.{getter_of, queue_label, recorded_all, recorded_by, recorded_for, MayGet, MayGetAll}
use Rattle.job_runner.proofs.GrantsMeant.{grants_meant, is_waiting, meant_by, meant_if, none_passing, passing, passing_passes, test_once, test_waits, waits_by, waits_on}
use Rattle.job_runner.proofs.Lived.{row_below, task_at}
use Rattle.job_runner.proofs.Recorded.{all_pass, found_among, found_recorded, found_row, Tells}

each_of : {A : Type 0} (P : A → Type 0) (xs : List A) → All P xs → (x : A) → IsAmong x xs → P x
each_of P [] h x i = absurd i
each_of P (y ∷ xs) h x (inl e) = subst P (sym e) (All-head P y xs h)
each_of P (y ∷ xs) h x (inr i) = each_of P xs (All-tail P y xs h) x i

module _ (r : Runner) (agree : IsTaskTable r.task_table)
    (below : (s : ℕ) (x : Task) → task_of r.task_table s ≡ Some x → s < task_count r.task_table)
    (apart : (s p : ℕ) (x y : Task) → task_of r.task_table s ≡ Some x → task_of r.task_table p ≡ Some y → x.label ≡ y.label → s ≡ p)
    (given : List Given) (may : MayGetAll r given) (granted : ℕ → Option What)
    (found : (s : ℕ) (x : Task) → task_of r.task_table s ≡ Some x → granted s ≡ found_row s (map gets_in given))
  where
    each : (g : Given) → IsAmong g given → MayGet r g
    each = each_of (MayGet r) given may.each

    module _ (object asker : Label) (u : ℕ) where
      abbrev test : ℕ → Bool
      test s = is_waiting r.world (task_of r.task_table s) object asker u

      abbrev old : Option Recorded
      old = made_in r.grants object asker u

      tells : (g : Given) → IsAmong g given → Tells r.task_table r.world object asker u test g
      tells g i before =
          ap (λ (o : Option Running). recorded_by r.world o g object asker u before) m.lives
          ∙ (ap (λ (z : TaskState). recorded_for r.world.tick (queue_label r.world (queue_of z)) m.running.task.label g object asker u before) m.queued
          ∙ (by_label (label_at r.world m.object)
          ∙ ap (λ (b : Bool). if b then Some (record { at = suc r.world.tick; grant = g.grant }) else before) (sym tested)))
        where
          m : MayGet r g
          m = each g i

          lives : task_of r.task_table g.who.row ≡ Some m.running.task
          lives = ap (task_of r.task_table) (sym m.row_is) ∙ task_at r.task_table agree (getter_of r.task_table g) m.running m.lives

          tested : test g.who.row ≡ waits_on (label_at r.world m.object) m.running.task.label g.who.since object asker u
          tested =
              ap (λ (o : Option Task). is_waiting r.world o object asker u) lives
              ∙ ap (λ (z : TaskState). waits_by r.world m.running.task.label z object asker u) m.queued

          by_label : (o : Option Label) →
              recorded_for r.world.tick o m.running.task.label g object asker u before
              ≡ (if waits_on o m.running.task.label g.who.since object asker u then Some (record { at = suc r.world.tick; grant = g.grant }) else before)
          by_label None = refl
          by_label (Some label) = refl

      row_known : (g : Given) → IsAmong g given → g.who.row < task_count r.task_table
      row_known g i =
          let m = each g i in
          subst (λ (p : ℕ). p < task_count r.task_table) m.row_is (row_below r.task_table agree (getter_of r.task_table g) m.running m.lives)

      abbrev first : Option ℕ
      first = passing test (task_count r.task_table)

      stays : ((g : Given) → IsAmong g given → test g.who.row ≡ false) →
          option_map granted_of (recorded_all r.task_table r.world given object asker u old) ≡ option_map granted_of old
      stays fails = ap (option_map granted_of) (all_pass r.task_table r.world object asker u test given tells given (λ g i. i) fails old)

      recorded_meant : option_map granted_of (recorded_all r.task_table r.world given object asker u old)
          ≡ grants_meant r.world (task_of r.task_table) (task_count r.task_table) granted (grants_made r.grants) object asker u
      recorded_meant = by_first first refl
        where
          by_what : (p : ℕ) → first ≡ Some p → test p ≡ true → ((q : ℕ) → test q ≡ true → q ≡ p) → granted p ≡ found_row p (map gets_in given) →
              (o : Option What) → granted p ≡ o →
              option_map granted_of (recorded_all r.task_table r.world given object asker u old)
              ≡ meant_if r.world.tick (granted p) (option_map granted_of old)
          by_what p e own alone its (Some w) f =
              found_recorded r.task_table r.world object asker u test given tells p own alone w given (λ g i. i) (may.once p) (sym its ∙ f) old
              ∙ ap (λ (o : Option What). meant_if r.world.tick o (option_map granted_of old)) (sym f)
          by_what p e own alone its None f =
              stays (λ g i. fails g i (test g.who.row) refl)
              ∙ ap (λ (o : Option What). meant_if r.world.tick o (option_map granted_of old)) (sym f)
            where
              fails : (g : Given) → IsAmong g given → (b : Bool) → test g.who.row ≡ b → test g.who.row ≡ false
              fails g i false h = h
              fails g i true h =
                  absurd (found_among given g i (ap (λ (q : ℕ). found_row q (map gets_in given)) (alone g.who.row h) ∙ (sym its ∙ f)))

          by_first : (o : Option ℕ) → first ≡ o →
              option_map granted_of (recorded_all r.task_table r.world given object asker u old)
              ≡ meant_by r.world.tick granted o (option_map granted_of old)
          by_first None e = stays (λ g i. none_passing test (task_count r.task_table) g.who.row e (row_known g i))
          by_first (Some p) e =
              let own : test p ≡ true = passing_passes test (task_count r.task_table) p e in
              let x =
              test_waits r.world (task_of r.task_table) (task_count r.task_table) granted (grants_made r.grants) below apart object asker u p own in
              by_what p e own
              (λ q h. test_once r.world (task_of r.task_table) (task_count r.task_table) granted (grants_made r.grants) below apart object asker u q p h own)
              (found p x.0 x.1) (granted p) refl

    pub grants_are : (new : GrantTable) →
        ((object asker : Label) (u : ℕ) →
        made_in new object asker u ≡ recorded_all r.task_table r.world given object asker u (made_in r.grants object asker u)) →
        grants_made new ≡ grants_meant r.world (task_of r.task_table) (task_count r.task_table) granted (grants_made r.grants)
    grants_are new recorded =
        fun_ext (λ object. fun_ext (λ asker. fun_ext (λ u. ap (option_map granted_of) (recorded object asker u) ∙ recorded_meant object asker u)))
