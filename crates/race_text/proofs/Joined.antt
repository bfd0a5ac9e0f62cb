-- What is appended for a line, piece by piece.
use Rattle.std.proofs.Common.{◌≡◌, ℕ, List, ◌++◌, ap, ◌∙◌}
use Rattle.std.specs.Prelude.{codes}
use Rattle.outcomes.specs.Table.{left_text, right_text}
use Rattle.outcomes.proofs.Joined.{two}
use Rattle.race_text.specs.Lines.{Line}
use Rattle.race_text.specs.Table.{place_text, step_text, hair_text, finding_text, line_text}
use Rattle.race_text.specs.declared.columns.Widths.{Widths}

-- the columns of a line
pub columned : (w : Widths) (l : Line) (old place step hair a b c d e f : List ℕ) →
    place ≡ place_text l → step ≡ step_text l → hair ≡ hair_text l →
    a ≡ old ++ right_text w.place place → b ≡ a ++ codes "  " → c ≡ b ++ left_text w.step step → d ≡ c ++ codes "  " →
    e ≡ d ++ left_text w.hair hair → f ≡ e ++ codes "  " →
    f ≡ old
    ++ (right_text w.place (place_text l) ++ codes "  " ++ left_text w.step (step_text l) ++ codes "  " ++ left_text w.hair (hair_text l)
    ++ codes "  ")
columned w l old place step hair a b c d e f ps ss hs pa pb pc pd pe pf =
    let one : a ≡ old ++ right_text w.place (place_text l) = pa ∙ ap (λ t. old ++ right_text w.place t) ps in
    let three : c ≡ b ++ left_text w.step (step_text l) = pc ∙ ap (λ t. b ++ left_text w.step t) ss in
    let five : e ≡ d ++ left_text w.hair (hair_text l) = pe ∙ ap (λ t. d ++ left_text w.hair t) hs in
    two _ _ _ _ _ (two _ _ _ _ _ (two _ _ _ _ _ (two _ _ _ _ _ (two _ _ _ _ _ one pb) three) pd) five) pf

-- the columns, what the line says, and the end of the line
pub lined : (w : Widths) (l : Line) (old f g new : List ℕ) →
    f ≡ old
    ++ (right_text w.place (place_text l) ++ codes "  " ++ left_text w.step (step_text l) ++ codes "  " ++ left_text w.hair (hair_text l)
    ++ codes "  ") →
    g ≡ f ++ finding_text l → new ≡ g ++ codes "\n" → new ≡ old ++ line_text w l
lined w l old f g new pf pg pn = two _ _ _ _ _ (two _ _ _ _ _ pf pg) pn
