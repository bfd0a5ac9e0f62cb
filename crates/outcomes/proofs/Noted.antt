-- The contents of a set of tasks after an insertion.
use Rattle.std.proofs.Common.{◌≡◌, refl, ap, ◌∙◌}
use Rattle.std.proofs.lemmas.List.{map-append}
use Rattle.std.specs.Prelude.{Bool, true, false, ◌||◌, List, [], ◌∷◌, ◌++◌, if◌then◌else◌}
use Rattle.std.specs.Borrow.{Bor}
use Rattle.indexmap.specs.IndexSet.{insert_key}
use Rattle.std.specs.List.{list_any}
use Rattle.exceptions.specs.Exceptions.{Label}
use Rattle.job_meaning.specs.Log.{same_label}
use Rattle.job_story.specs.Focus.{is_among}
use Rattle.outcomes.specs.Notes.{with_label}
use Rattle.outcomes.specs.Labels.{labels_in}

-- whether a label is among some labels, which are borrowed
among_by : (l : Label) (ks : List (Bor Label)) → list_any (λ k. same_label l k.now) ks ≡ is_among l (labels_in ks)
among_by l [] = refl
among_by l (k ∷ ks) = ap (λ b. same_label l k.now || b) (among_by l ks)

if_noted : (b : Bool) (ks : List (Bor Label)) (k : Bor Label) →
    labels_in (if b then ks else ks ++ k ∷ []) ≡ (if b then labels_in ks else labels_in ks ++ k.now ∷ [])
if_noted true ks k = refl
if_noted false ks k = map-append (λ l. l.now) ks (k ∷ [])

-- the labels of a set after an insertion
pub noted_more : (old new : List (Bor Label)) (k : Bor Label) →
    new ≡ insert_key (λ (a b : Bor Label). same_label a.now b.now) old k → labels_in new ≡ with_label k.now (labels_in old)
noted_more old new k same =
    ap labels_in same ∙ if_noted (list_any (λ l. same_label k.now l.now) old) old k
    ∙ ap (λ b. if b then labels_in old else labels_in old ++ k.now ∷ []) (among_by k.now old)
