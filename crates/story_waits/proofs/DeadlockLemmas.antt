-- Who holds tokens, and the waits on the way to a cycle.
use Rattle.std.proofs.Common.{◌≡◌, ℕ, suc, refl, sym, ap, ◌∙◌, cond}
use Rattle.std.specs.Prelude.{Bool, true, false, Option, Some, None, List, [], ◌∷◌, ◌++◌, map, if◌then◌else◌}
use Rattle.std.specs.Option.{option_map}
use Rattle.std.specs.Borrow.{Bor}
use Rattle.std.specs.Global.{Vec}
use Rattle.std.proofs.lemmas.List.{append_assoc}
use Rattle.indexmap.specs.IndexMap.{IndexMap}
use Rattle.exceptions.specs.Exceptions.{Label}
use Rattle.exceptions.specs.Labels.{same_label_equiv}
use Rattle.job_meaning.specs.Log.{same_label}
use Rattle.job_story.specs.Events.{Event}
use Rattle.job_story.specs.Deadlock.{Wait, then_waits, wait_of, waits_to}
use Rattle.story_waits.specs.Deadlock.{holder_at, holder_if, wait_in, waits_in}
use Rattle.story_waits.specs.declared.deadlock.Wait.{Wait as Held}
use Rattle.story_index.specs.Found.{value_at}
use Rattle.story_index.specs.Holds.{label_seen}
use Rattle.story_index.proofs.Noted.{at_some}

held_by : (b : Bool) (holder : Option (Bor Label)) (o : Option (Option (Bor Label))) →
    holder_if (cond b (Some holder) o) ≡ (if b then label_seen holder else holder_if o)
held_by true holder o = refl
held_by false holder o = refl

-- a limiter whose holder is set has it, and every other what it had
pub holder_more : {S : Type 0} (old new : IndexMap (Bor Label) (Option (Bor Label)) S) (k : Label) (holder : Option (Bor Label)) →
    ((q : Bor Label) → value_at new q.now ≡ cond (same_label k q.now) (Some holder) (value_at old q.now)) →
    (l : Label) → holder_at new l ≡ (if same_label l k then label_seen holder else holder_at old l)
holder_more old new k holder updates l =
    ap holder_if (updates (at_some l)) ∙ held_by (same_label k l) holder (value_at old l)
    ∙ ap (λ (b : Bool). if b then label_seen holder else holder_at old l) (same_label_equiv.symm k l)

-- ---- the waits on the way

waits_push : (xs : List Held) (x : Held) → map wait_in (xs ++ x ∷ []) ≡ map wait_in xs ++ wait_in x ∷ []
waits_push [] x = refl
waits_push (y ∷ ys) x = ap (λ ws. wait_in y ∷ ws) (waits_push ys x)

pub one_more_wait : (old new : Vec Held) (x : Held) → new.items ≡ old.items ++ x ∷ [] → waits_in new ≡ waits_in old ++ wait_in x ∷ []
one_more_wait old new x is = ap (map wait_in) is ∙ waits_push old.items x

abbrev pub after : List Wait → Option (List Wait) → Option (List Wait)
after before found = option_map (λ ws. before ++ ws) found

after_then : (before : List Wait) (w : Wait) (found : Option (List Wait)) →
    after before (option_map (λ ws. w ∷ ws) found) ≡ after (before ++ w ∷ []) found
after_then before w None = refl
after_then before w (Some ws) = ap (λ xs. Some xs) (sym (append_assoc before (w ∷ []) ws))

module _ (n : ℕ) (es : List Event) (first task : Label) (before : List Wait) where
  pub waits_nowhere : None ≡ wait_of es task → None ≡ after before (waits_to (suc n) es first task)
  waits_nowhere is = ap (λ o. after before (then_waits first o (waits_to n es first))) is

  pub waits_back : (w : Wait) → Some w ≡ wait_of es task → same_label first w.holder ≡ true →
      Some (before ++ w ∷ []) ≡ after before (waits_to (suc n) es first task)
  waits_back w is back =
      ap (λ b. after before (if b then Some (w ∷ []) else option_map (λ ws. w ∷ ws) (waits_to n es first w.holder))) (sym back)
      ∙ ap (λ o. after before (then_waits first o (waits_to n es first))) is

  pub waits_on : (w : Wait) → Some w ≡ wait_of es task → same_label first w.holder ≡ false →
      after (before ++ w ∷ []) (waits_to n es first w.holder) ≡ after before (waits_to (suc n) es first task)
  waits_on w is on =
      sym (after_then before w (waits_to n es first w.holder))
      ∙ ap (λ b. after before (if b then Some (w ∷ []) else option_map (λ ws. w ∷ ws) (waits_to n es first w.holder))) (sym on)
      ∙ ap (λ o. after before (then_waits first o (waits_to n es first))) is
