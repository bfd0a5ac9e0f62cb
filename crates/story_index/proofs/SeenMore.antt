-- The events that a loop has read.
use Rattle.std.proofs.Common.{◌≡◌, ℕ, ◌+◌, ◌<◌, ◌≤◌, length, get_or, take, sym, ap, ◌∙◌, arith}
use Rattle.std.proofs.Math.Seq.{take-length}
use Rattle.std.proofs.lemmas.List.{take_more, map-append}
use Rattle.std.specs.Prelude.{List, [], ◌∷◌, ◌++◌, map}
use Rattle.std.specs.Borrow.{Bor}
use Rattle.job_story.specs.declared.event.Event as held
use Rattle.story_index.specs.Seen.{event_in}

-- one more
pub seen_more : (xs : List (Bor held.Event)) (i : ℕ) (x : Bor held.Event) → i < length xs → x ≡ get_or xs i x →
    map event_in (take (i + 1) xs) ≡ map event_in (take i xs) ++ event_in x ∷ []
seen_more xs i x within is =
    ap (map event_in) (take_more xs i x within ∙ ap (λ y. take i xs ++ y ∷ []) (sym is)) ∙ map-append event_in (take i xs) (x ∷ [])

-- all of them
pub all_read : (xs : List (Bor held.Event)) (i : ℕ) → length xs ≤ i → i ≤ length xs → take i xs ≡ xs
all_read xs i after within =
    let last : i ≡ length xs = omega arith in
    ap (λ k. take k xs) last ∙ take-length xs
