-- What is known of numbers after one more move.
use Rattle.std.proofs.Common.{◌≡◌, ◌<◌, ℕ, suc, ◌+◌, refl, List, [], ◌∷◌, ◌++◌, sym, ap, ◌∙◌, length, map, drop, get_or}
use Rattle.std.specs.Prelude.{Option, Some, None, ◌==◌, if◌then◌else◌}
use Rattle.std.proofs.Math.Seq.{drop-cons}
use Rattle.std.proofs.lemmas.List.{append_assoc}
use Rattle.job_story.specs.Notes as notes
use Rattle.job_story.specs.Notes.{number_after, number_in, or_number}
use Rattle.story_waits.specs.Moves.{move_in, turn_in}
use Rattle.story_waits.specs.declared.moves.Turn.{Turn}
use Rattle.story_waits.proofs.TurnLemmas.{next}

or_assoc : (a b c : Option ℕ) → or_number (or_number a b) c ≡ or_number a (or_number b c)
or_assoc None b c = refl
or_assoc (Some n) b c = refl

module _ (served : List notes.Turn) (j : ℕ) (xs : List Turn) (x : Turn) (lt : j < length xs) (at : x ≡ get_or xs j x) where
  split_there : map turn_in (drop j xs) ≡ turn_in x ∷ map turn_in (drop (j + 1) xs)
  split_there =
      ap (map turn_in) (drop-cons xs j x lt) ∙ ap (λ (y : Turn). turn_in y ∷ map turn_in (drop (suc j) xs)) (sym at)
      ∙ ap (λ n. turn_in x ∷ map turn_in (drop n xs)) (next j)

  -- the moves that are served and the others are all
  pub all_served : served ++ map turn_in (drop j xs) ≡ map turn_in xs →
      (served ++ turn_in x ∷ []) ++ map turn_in (drop (j + 1) xs) ≡ map turn_in xs
  all_served h =
      append_assoc served (turn_in x ∷ []) (map turn_in (drop (j + 1) xs)) ∙ ap (λ ts. served ++ ts) (sym split_there) ∙ h

  -- the numbers so far, and those of the others
  pub all_numbered : (old new : ℕ → Option ℕ) →
      ((i : ℕ) → new i ≡ or_number (old i) (if x.event == i then number_after served x.object.now (move_in x.made) else None)) →
      ((i : ℕ) → or_number (old i) (number_in served i (map turn_in (drop j xs))) ≡ number_in [] i (map turn_in xs)) →
      (i : ℕ) → or_number (new i) (number_in (served ++ turn_in x ∷ []) i (map turn_in (drop (j + 1) xs))) ≡ number_in [] i (map turn_in xs)
  all_numbered old new more h i =
      ap (λ o. or_number o (number_in (served ++ turn_in x ∷ []) i (map turn_in (drop (j + 1) xs)))) (more i)
      ∙ or_assoc (old i) _ _ ∙ ap (λ ts. or_number (old i) (number_in served i ts)) (sym split_there) ∙ h i
