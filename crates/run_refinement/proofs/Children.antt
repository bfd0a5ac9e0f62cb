-- What is kept of the children that a task started, after a turn.
use Rattle.std.proofs.lemmas.Bool.{eqb-true, eq-eqb}
use Rattle.std.proofs.lemmas.Bool.Decides.{nat_tests}
use Rattle.std.proofs.Common.{◌≡◌, ◌≢◌, inl, inr, ◌==◌, nat_lt, Bool, true, false, ℕ, zero, suc, ◌+◌, ◌-◌, ◌<◌, ◌≤◌, Some, None, List, [], ◌∷◌, ◌++◌, length, refl, ap, sym, ◌∙◌, subst, arith}
use Rattle.std.specs.List.{slice_get}
use Rattle.job_tree.specs.Tree.{Tree as Job}
use Rattle.job_tree.specs.Names.{GivesNamesOnce}
use Rattle.job_tree.specs.Starting.{StartsInNurseries}
use Rattle.interleavings.specs.Laws.{IsSettledBy}
use Rattle.job_meaning.specs.Rest.{Event, noted, signs, enters, acts, starts}
use Rattle.turn_semantics.specs.Midway.{Tables, Begun}
use Rattle.turn_semantics.specs.Turned.{Starts}
use Rattle.task_machine.specs.declared.stop.Stop.{Stop}
use Rattle.task_machine.specs.declared.task.Task.{Task}
use Rattle.interleavings.specs.Interleaving.{Started, StartsChild}
use Rattle.interleavings.specs.Going.{child_from}
use Rattle.interleavings.specs.Rows.{children_made}
use Rattle.interleavings.proofs.Running.{runs_keep_invariant}
use Rattle.interleavings.proofs.Turning.{old_child, later_child}
use Rattle.run_refinement.specs.RunState.{RunState, Refines}
use Rattle.run_refinement.specs.Turn.{serials_from}
use Rattle.run_refinement.specs.Turning.{Turning}

-- ---- the children among events

pub made_join : (child : ℕ → ℕ) (es fs : List Event) → children_made child (es ++ fs) ≡ children_made child es ++ children_made child fs
made_join child [] fs = refl
made_join child (noted t e ∷ es) fs = made_join child es fs
made_join child (acts shared t done ∷ es) fs = made_join child es fs
made_join child (signs l t ∷ es) fs = made_join child es fs
made_join child (enters l t d ∷ es) fs = made_join child es fs
made_join child (starts i l t ∷ es) fs = ap (λ (ns : List ℕ). child i ∷ ns) (made_join child es fs)

-- those that were started before have their serial numbers
pub made_before : (count m : ℕ) (child : ℕ → ℕ) (es : List Event) → ((i : ℕ) → StartsChild i es → i < count) →
    children_made (child_from count child m) es ≡ children_made child es
made_before count m child [] below = refl
made_before count m child (noted t e ∷ es) below = made_before count m child es below
made_before count m child (acts shared t done ∷ es) below = made_before count m child es below
made_before count m child (signs l t ∷ es) below = made_before count m child es below
made_before count m child (enters l t d ∷ es) below = made_before count m child es below
made_before count m child (starts i l t ∷ es) below =
    ap (λ (n : ℕ). n ∷ children_made (child_from count child m) es) (old_child count child m i (below i (inl refl)))
    ∙ ap (λ (ns : List ℕ). child i ∷ ns) (made_before count m child es (λ j h. below j (inr h)))

-- and those of a turn the next ones
pub made_now : (count m j n p : ℕ) (child : ℕ → ℕ) (es : List Event) (bs : List Begun) → n ≡ count + j → p ≡ m + j → Starts n es bs →
    children_made (child_from count child m) es ≡ serials_from p (length bs)
made_now count m j n p child [] [] e f h = refl
made_now count m j n p child [] (b ∷ bs) e f h = absurd h
made_now count m j n p child (noted t x ∷ es) bs e f h = made_now count m j n p child es bs e f h
made_now count m j n p child (acts shared t done ∷ es) bs e f h = made_now count m j n p child es bs e f h
made_now count m j n p child (signs l t ∷ es) bs e f h = made_now count m j n p child es bs e f h
made_now count m j n p child (enters l t d ∷ es) bs e f h = made_now count m j n p child es bs e f h
made_now count m j n p child (starts i l t ∷ es) [] e f h = absurd h
made_now count m j n p child (starts i l t ∷ es) (b ∷ bs) e f h =
    ap (λ (x : ℕ). x ∷ children_made (child_from count child m) es) first
    ∙ ap (λ (xs : List ℕ). p ∷ xs) (made_now count m (suc j) (suc n) (suc p) child es bs (omega (arith, e)) (omega (arith, f)) h.3)
  where
    is : i ≡ n
    is = h.0

    first : child_from count child m i ≡ p
    first = later_child count child m i (omega (arith, is, e)) ∙ (let g : m + (i - count) ≡ p = omega (arith, is, e, f) in g)

-- ---- after a turn

-- after a turn the children kept of each task are those that its events started
pub children_kept : (k : Tables) (job : Job) (input : List ℕ) (t m s : ℕ) (old new : RunState) (before after : Task) (stop : Stop) →
    IsSettledBy k job input → GivesNamesOnce job →
    StartsInNurseries job → (c : Refines k job input t m None old) →
    (turn : Turning k job input t m s old new c.numbers before after stop c.interleaving) → (p : ℕ) → p < m + length turn.move.begun →
    new.children p ≡ children_made (turn.is.at p).child (turn.is.at p).made
children_kept k job input t m s old new before after stop settled names starting c turn p less = by_same (p == s) refl (nat_lt p m) refl
  where
    q : Started
    q = c.interleaving.at s

    Keeps : ℕ → Type 0
    Keeps n = new.children n ≡ children_made (turn.is.at n).child (turn.is.at n).made

    numbered : (i : ℕ) → StartsChild i q.made → i < q.count
    numbered =
        (runs_keep_invariant k job input settled names starting c.interleaving.cancelled_from t m c.interleaving.tasks c.interleaving.reached).0.numbered q
        (c.interleaving.has s turn.below).0

    of_task : Keeps s
    of_task =
        turn.more_children
        ∙ ap (λ (ns : List ℕ). ns ++ serials_from m (length turn.move.begun))
        (c.children s turn.below ∙ sym (made_before q.count m q.child q.made numbered))
        ∙ ap (λ (ns : List ℕ). children_made (child_from q.count q.child m) q.made ++ ns)
        (sym (made_now q.count m 0 q.count m q.child turn.move.made turn.move.begun (omega arith) (omega arith) turn.promise.starts))
        ∙ sym (made_join (child_from q.count q.child m) q.made turn.move.made)
        ∙ ap (λ (x : Started). children_made x.child x.made) (sym turn.of_task)

    by_same : (b : Bool) → (p == s) ≡ b → (d : Bool) → nat_lt p m ≡ d → Keeps p
    by_same true e d f = subst Keeps (sym (eqb-true p s e)) of_task
    by_same false e true f =
        let lower : p < m = grind (arith, nat_tests) in
        let differs : p ≢ s = λ g. absurd (let x : true ≡ false = sym (eq-eqb p s g) ∙ e in cc) in
        turn.code.children_after p lower differs ∙ c.children p lower ∙ ap (λ (x : Started). children_made x.child x.made)
        (sym (turn.of_other p lower differs))
    by_same false e false f =
        let upper : m ≤ p = grind (arith, nat_tests) in
        let i : ℕ = p - m in
        let is : m + (p - m) ≡ p = omega (arith, upper) in
        let lt : p - m < length turn.move.begun = omega (arith, upper, less) in
        let there = nth turn.move.begun (p - m) lt in
        subst Keeps is (turn.no_children (p - m) lt ∙ ap (λ (x : Started). children_made x.child x.made)
        (sym (turn.of_child (p - m) there.0 there.1)))
      where
        nth : (bs : List Begun) (i : ℕ) → i < length bs → (b : Begun) × (slice_get bs i ≡ Some b)
        nth [] i lt = absurd (omega (arith, lt))
        nth (b ∷ bs) zero lt = (b, refl)
        nth (b ∷ bs) (suc i) lt = nth bs i (omega (arith, lt))
