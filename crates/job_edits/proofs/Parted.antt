-- The faults of a step in one copy or pass after the other, up to a number of them.
use Rattle.std.proofs.Common.{◌≡◌, sym, subst, arith, ℕ, suc, Bool, ◌+◌, ◌-◌, ◌<◌, Some, List, ◌∷◌, ◌++◌, length, take, drop, get_or}
use Rattle.job_edits.specs.declared.fault.BlockPart.{BlockPart}
use Rattle.job_edits.specs.declared.fault.Fault.{Fault}
use Rattle.job_edits.specs.declared.fault.Variant.{Variant}
use Rattle.job_edits.specs.declared.repeated.RepeatedBlock.{RepeatedBlock}
use Rattle.job_edits.specs.declared.waiting.Waiting.{Waiting}
use Rattle.job_edits.specs.Faults.{faults_of, variants_with, part_of, each_from, each_in_block, each_in_blocks, each_of}
use Rattle.job_edits.proofs.Taken.{one_more, dropped}

pub next_part : (most k : ℕ) (b : RepeatedBlock) (step : Waiting) (fs : List Fault) (count index : ℕ) (part : BlockPart)
    (old new all : List Variant) → index < count → part ≡ part_of k b index → new ≡ take most (old ++ variants_with (Some part) step fs) →
    take most (old ++ each_from k b step fs (count - index) index) ≡ all →
    take most (new ++ each_from k b step fs (count - (index + 1)) (index + 1)) ≡ all
next_part most k b step fs count index part old new all some is grown h =
    let one : count - index ≡ suc (count - (index + 1)) = omega (arith, some) in
    let left : List Variant = each_from k b step fs (count - (index + 1)) (index + 1) in
    let before : take most (old ++ (variants_with (Some (part_of k b index)) step fs ++ left)) ≡ all =
    subst (λ (m : ℕ). take most (old ++ each_from k b step fs m index) ≡ all) one h in
    one_more most old new (variants_with (Some part) step fs) left all grown
    (subst (λ (p : BlockPart). take most (old ++ (variants_with (Some p) step fs ++ left)) ≡ all) (sym is) before)

pub next_block : (has_input : Bool) (most k i : ℕ) (b : RepeatedBlock) (bs : List RepeatedBlock) (step : Waiting) (fs : List Fault) (old new all : List Variant) →
    i < length bs → b ≡ get_or bs i b → new ≡ take most (old ++ each_in_block has_input k b step fs) →
    take most (old ++ each_in_blocks has_input k (drop i bs) step fs) ≡ all →
    take most (new ++ each_in_blocks has_input (k + 1) (drop (i + 1) bs) step fs) ≡ all
next_block has_input most k i b bs step fs old new all lt is grown h =
    let one : drop i bs ≡ b ∷ drop (i + 1) bs = dropped bs i b lt is in
    one_more most old new (each_in_block has_input k b step fs) (each_in_blocks has_input (k + 1) (drop (i + 1) bs) step fs) all grown
    (subst (λ (xs : List RepeatedBlock). take most (old ++ each_in_blocks has_input k xs step fs) ≡ all) one h)

pub next_step : (has_input : Bool) (most i : ℕ) (names : List (List ℕ)) (bs cs : List RepeatedBlock) (w : Waiting) (ws : List Waiting) (fs : List Fault)
    (old new all : List Variant) → i < length ws → w ≡ get_or ws i w → fs ≡ faults_of names w.wait → cs ≡ bs →
    new ≡ take most (old ++ each_in_blocks has_input 0 cs w fs) → take most (old ++ each_of has_input names bs (drop i ws)) ≡ all →
    take most (new ++ each_of has_input names bs (drop (i + 1) ws)) ≡ all
next_step has_input most i names bs cs w ws fs old new all lt is faults same grown h =
    let one : drop i ws ≡ w ∷ drop (i + 1) ws = dropped ws i w lt is in
    let left : List Variant = each_of has_input names bs (drop (i + 1) ws) in
    let before : take most (old ++ (each_in_blocks has_input 0 bs w (faults_of names w.wait) ++ left)) ≡ all =
    subst (λ (xs : List Waiting). take most (old ++ each_of has_input names bs xs) ≡ all) one h in
    one_more most old new (each_in_blocks has_input 0 bs w fs) left all
    (subst (λ (xs : List RepeatedBlock). new ≡ take most (old ++ each_in_blocks has_input 0 xs w fs)) same grown)
    (subst (λ (xs : List Fault). take most (old ++ (each_in_blocks has_input 0 bs w xs ++ left)) ≡ all) (sym faults) before)
