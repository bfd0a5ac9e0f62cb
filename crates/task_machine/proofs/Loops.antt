-- Frames of steps and of passes, inside the body of a nursery.
use Rattle.std.proofs.Common.{◌≡◌, ℕ, List, [], ◌∷◌, ◌++◌, refl, ap, sym, ◌∙◌, subst, Bor}
use Rattle.job_tree.specs.declared.step.Step.{Step}
use Rattle.job_meaning.specs.Rest as rest
use Rattle.turn_semantics.specs.Steps.{with_started}
use Rattle.task_machine.specs.declared.frame.Frame.{Frame}
use Rattle.task_machine.specs.declared.frame.Frame.TheVariants.{Steps, Nursery, Repeat}
use Rattle.task_machine.specs.Fitting.{Block, a_nursery, blocks_of, AreLoops}
use Rattle.task_machine.specs.Frames.{frame_of, frames_onto}
use Rattle.task_machine.proofs.Blocks.{blocks_append}

-- none of them is a block
loops_blocks : (ls : List Frame) → AreLoops ls → blocks_of ls ≡ []
loops_blocks [] a = refl
loops_blocks (Steps steps ∷ ls) a = loops_blocks ls a
loops_blocks (Repeat pass left cuts body ∷ ls) a = loops_blocks ls a
loops_blocks (_ ∷ ls) a = absurd a

-- so the nursery is the innermost block
pub body_blocks : (fs ls : List Frame) (id : ℕ) → AreLoops ls → blocks_of (fs ++ Nursery id ∷ ls) ≡ blocks_of fs ++ a_nursery id ∷ []
body_blocks fs ls id a =
    blocks_append fs (Nursery id ∷ ls) ∙ ap (λ (bs : List Block). blocks_of fs ++ a_nursery id ∷ bs) (loops_blocks ls a)

loops_first : (ls ms : List Frame) → AreLoops (ls ++ ms) → AreLoops ls
loops_first [] ms a = tt
loops_first (Steps steps ∷ ls) ms a = loops_first ls ms a
loops_first (Repeat pass left cuts body ∷ ls) ms a = loops_first ls ms a
loops_first (_ ∷ ls) ms a = absurd a

-- the frames that enclose the steps of a block are in the body of a nursery, perhaps in passes there
pub record Around (outer fs : List Frame) (id : ℕ) : Type 0 where
  pub loops : List Frame
  pub are : AreLoops loops
  pub is : outer ≡ fs ++ Nursery id ∷ loops

-- so they are if the steps are too
pub around_steps : (outer fs loops : List Frame) (id : ℕ) (steps : Bor (List Step)) →
    outer ++ Steps steps ∷ [] ≡ fs ++ Nursery id ∷ loops → AreLoops loops → Around outer fs id
around_steps [] [] loops id steps e a =
    absurd (let f : Steps steps ∷ [] ≡ Nursery id ∷ loops = e in let g : Steps steps ≡ Nursery id = cc in cc)
around_steps [] (x ∷ []) loops id steps e a =
    absurd (let f : Steps steps ∷ [] ≡ x ∷ Nursery id ∷ loops = e in let g : [] ≡ Nursery id ∷ loops = cc in cc)
around_steps [] (x ∷ y ∷ fs) loops id steps e a =
    absurd (let f : Steps steps ∷ [] ≡ x ∷ y ∷ (fs ++ Nursery id ∷ loops) = e in let g : [] ≡ y ∷ (fs ++ Nursery id ∷ loops) = cc in cc)
around_steps (x ∷ outer) [] loops id steps e a =
    let f : x ∷ (outer ++ Steps steps ∷ []) ≡ Nursery id ∷ loops = e in
    let first : x ≡ Nursery id = cc in
    let more : outer ++ Steps steps ∷ [] ≡ loops = cc in
    record {
      loops = outer;
      are = loops_first outer (Steps steps ∷ []) (subst AreLoops (sym more) a);
      is = ap (λ (z : Frame). z ∷ outer) first;
    }
around_steps (x ∷ outer) (y ∷ fs) loops id steps e a =
    let f : x ∷ (outer ++ Steps steps ∷ []) ≡ y ∷ (fs ++ Nursery id ∷ loops) = e in
    let first : x ≡ y = cc in
    let more : outer ++ Steps steps ∷ [] ≡ fs ++ Nursery id ∷ loops = cc in
    let w : Around outer fs id = around_steps outer fs loops id steps more a in
    record {
      loops = w.loops;
      are = w.are;
      is = ap (λ (z : Frame). z ∷ outer) first ∙ ap (λ (zs : List Frame). y ∷ zs) w.is;
    }

-- ---- as frames of the definitions

-- some frames, and others inside them
pub onto_append : (numbers : ℕ → List ℕ) (fs gs : List Frame) (outer : List rest.Frame) →
    frames_onto numbers (fs ++ gs) outer ≡ frames_onto numbers gs (frames_onto numbers fs outer)
onto_append numbers [] gs outer = refl
onto_append numbers (f ∷ fs) gs outer = onto_append numbers fs gs (frame_of numbers f ∷ outer)

-- children that are started inside these are started in what encloses them
pub started_onto : (numbers : ℕ → List ℕ) (added : List ℕ) (ls : List Frame) (gs : List rest.Frame) → AreLoops ls →
    with_started added (frames_onto numbers ls gs) ≡ frames_onto numbers ls (with_started added gs)
started_onto numbers added [] gs a = refl
started_onto numbers added (Steps steps ∷ ls) gs a = started_onto numbers added ls (frame_of numbers (Steps steps) ∷ gs) a
started_onto numbers added (Repeat pass left cuts body ∷ ls) gs a =
    started_onto numbers added ls (frame_of numbers (Repeat pass left cuts body) ∷ gs) a
started_onto numbers added (_ ∷ ls) gs a = absurd a

-- frames that are no blocks are the same, however children are numbered
pub loops_onto : (numbers more : ℕ → List ℕ) (ls : List Frame) (gs : List rest.Frame) → AreLoops ls →
    frames_onto more ls gs ≡ frames_onto numbers ls gs
loops_onto numbers more [] gs a = refl
loops_onto numbers more (Steps steps ∷ ls) gs a = loops_onto numbers more ls (frame_of numbers (Steps steps) ∷ gs) a
loops_onto numbers more (Repeat pass left cuts body ∷ ls) gs a =
    loops_onto numbers more ls (frame_of numbers (Repeat pass left cuts body) ∷ gs) a
loops_onto numbers more (_ ∷ ls) gs a = absurd a
