-- No nursery occurs twice among the blocks of a task.
use Rattle.std.proofs.Common.{◌≡◌, ◌≢◌, inl, inr, ℕ, Option, Some, None, List, [], ◌∷◌, ◌++◌, refl, ap, sym, ◌∙◌, subst, Bor}
use Rattle.std.proofs.lemmas.List.{append-nil}
use Rattle.std.proofs.lemmas.List.Elements.{All-head, All-tail}
use Rattle.std.specs.Prelude.{IsSome}
use Rattle.std.specs.Option.{IsSomeAnd}
use Rattle.input_lines.specs.declared.part.Part.{Part}
use Rattle.cancel_scopes.specs.Tree.{Tree}
use Rattle.job_tree.specs.declared.step.Step.{Step}
use Rattle.nursery_book.specs.Nursery.{Nursery as Members}
use Rattle.nursery_book.specs.Book.{nursery_at, HasNursery}
use Rattle.nursery_book.specs.declared.book.NurseryBook.{NurseryBook}
use Rattle.task_machine.specs.declared.frame.Frame.{Frame}
use Rattle.task_machine.specs.declared.frame.Frame.TheVariants.{Steps, Nursery}
use Rattle.task_machine.specs.declared.task.Own.{Own}
use Rattle.task_machine.specs.Fitting.{Block, a_scope, a_nursery, blocks_of, AreLoops, AreOthers, IsMine, Opened, FitsIn}
use Rattle.task_machine.specs.Labels.{Labels}
use Rattle.task_machine.specs.Standing.{HasBlock, HasNurseryOf}
use Rattle.task_machine.proofs.Blocks.{blocks_append}
use Rattle.task_machine.proofs.Loops.{body_blocks}
use Rattle.task_machine.proofs.Nurseries.{has_last, blocks_pushed}

-- a nursery with the scope of the first does not have one of the others
not_first : (labels : Labels) (Q : Members → Type 0) (p : Option Members) (o : Own) (own : List Own) (n : Members) → p ≡ Some n →
    AreOthers n.scope (o ∷ own) →
    IsSomeAnd p (λ m. IsMine labels o m × Q m) → ⊥
not_first labels Q None o own n e others i = i
not_first labels Q (Some m) o own n e others i =
    let one : m.scope ≡ n.scope = (let f : Some m ≡ Some n = e in ap (λ (x : Members). x.scope) (one_at m n f)) in
    All-head (λ (x : Own). x.id ≢ n.scope) o own others (sym i.0.scope ∙ one)
  where
    one_at : (a b : Members) → Some a ≡ Some b → a ≡ b
    one_at a b h = cc

-- a nursery of a task has the scope of one that the task opened
pub has_scope : (labels : Labels) (book : NurseryBook) (bs : List Block) (own : List Own) (waits : Option ℕ) (id : ℕ) (n : Members) →
    Opened labels book bs own waits →
    HasNurseryOf id bs waits →
    nursery_at book id ≡ Some n → AreOthers n.scope own → ⊥
has_scope labels book [] own waits id n h (inl has) e others = has
has_scope labels book [] [] None id n h (inr w) e others = let f : None ≡ Some id = w in absurd (cc)
has_scope labels book [] [] (Some key) id n h (inr w) e others = h
has_scope labels book [] (o ∷ own) None id n h (inr w) e others = h
has_scope labels book [] (o ∷ own) (Some key) id n h (inr w) e others =
    let same : key ≡ id = (let f : Some key ≡ Some id = w in cc) in
    not_first labels (λ m. IsSome m.body) (nursery_at book key) o own n (ap (nursery_at book) same ∙ e) others h.1
has_scope labels book (b ∷ bs) [] waits id n h has e others = h
has_scope labels book (a_scope ∷ bs) (o ∷ own) waits id n h has e others =
    has_scope labels book bs own waits id n h.2 has e (All-tail (λ (x : Own). x.id ≢ n.scope) o own others)
has_scope labels book (a_nursery key ∷ bs) (o ∷ own) waits id n h (inl (inl is)) e others =
    not_first labels (λ m. m.body ≡ None) (nursery_at book key) o own n (ap (nursery_at book) (sym is) ∙ e) others h.0
has_scope labels book (a_nursery key ∷ bs) (o ∷ own) waits id n h (inl (inr has)) e others =
    has_scope labels book bs own waits id n h.2 (inl has) e (All-tail (λ (x : Own). x.id ≢ n.scope) o own others)
has_scope labels book (a_nursery key ∷ bs) (o ∷ own) waits id n h (inr w) e others =
    has_scope labels book bs own waits id n h.2 (inr w) e (All-tail (λ
    (x : Own). x.id ≢ n.scope) o own others)

-- the nursery of the first block is none of a task's others
first_apart : (labels : Labels) (book : NurseryBook) (bs : List Block) (own : List Own) (waits : Option ℕ) (o : Own) (id : ℕ) →
    HasNursery book id (λ m. IsMine labels o m × (m.body ≡ None)) →
    AreOthers o.id own → Opened labels book bs own waits → HasNurseryOf id bs waits → ⊥
first_apart labels book bs own waits o id i others h has = by_nursery (nursery_at book id) refl i
  where
    by_nursery : (p : Option Members) → nursery_at book id ≡ p → IsSomeAnd p (λ m. IsMine labels o m × (m.body ≡ None)) → ⊥
    by_nursery None e g = g
    by_nursery (Some n) e g = has_scope labels book bs own waits id n h has e (subst (λ (k : ℕ). AreOthers k own) (sym g.0.scope) others)

-- the nursery that a task waits for is none of its blocks
pub apart_waits : (labels : Labels) (book : NurseryBook) (bs : List Block) (own : List Own) (id : ℕ) → Opened labels book bs own (Some id) →
    HasBlock id bs → ⊥
apart_waits labels book [] own id h has = has
apart_waits labels book (b ∷ bs) [] id h has = h
apart_waits labels book (a_scope ∷ bs) (o ∷ own) id h has = apart_waits labels book bs own id h.2 has
apart_waits labels book (a_nursery key ∷ bs) (o ∷ own) id h (inl is) =
    first_apart labels book bs own (Some id) o id (subst (λ (k : ℕ). HasNursery book k (λ m. IsMine labels o m × (m.body ≡ None))) (sym is)
    h.0) h.1 h.2 (inr refl)
apart_waits labels book (a_nursery key ∷ bs) (o ∷ own) id h (inr has) = apart_waits labels book bs own id h.2 has

-- that of the innermost block is none of the others
pub apart_inner : (labels : Labels) (book : NurseryBook) (bs : List Block) (own : List Own) (id : ℕ) →
    Opened labels book (bs ++ a_nursery id ∷ []) own None → HasBlock id bs → ⊥
apart_inner labels book [] own id h has = has
apart_inner labels book (b ∷ bs) [] id h has = h
apart_inner labels book (a_scope ∷ bs) (o ∷ own) id h has = apart_inner labels book bs own id h.2 has
apart_inner labels book (a_nursery key ∷ bs) (o ∷ own) id h (inl is) =
    first_apart labels book (bs ++ a_nursery id ∷ []) own None o id
    (subst (λ (k : ℕ). HasNursery book k (λ m. IsMine labels o m × (m.body ≡ None))) (sym is) h.0) h.1 h.2
    (inl (has_last id bs (a_nursery id ∷ []) (inl refl)))
apart_inner labels book (a_nursery key ∷ bs) (o ∷ own) id h (inr has) = apart_inner labels book bs own id h.2 has

-- the same of the frames of a task that fits
pub apart_awaited : (fs : List Frame) (part : Part) (home : Option ℕ) (own : List Own) (n : ℕ) (tree : Tree) (labels : Labels)
    (book : NurseryBook) (id : ℕ) →
    FitsIn fs part home own n tree labels book (Some id) → HasBlock id (blocks_of fs) → ⊥
apart_awaited fs part home own n tree labels book id h has = apart_waits labels book (blocks_of fs) own id h.runs.opened has

-- for frames in which a nursery's body is the innermost block, with frames inside it that are no
-- blocks
pub apart_body : (fs gs : List Frame) (part : Part) (home : Option ℕ) (own : List Own) (n : ℕ) (tree : Tree) (labels : Labels)
    (book : NurseryBook) (id : ℕ) →
    FitsIn gs part home own n tree labels book None → blocks_of gs ≡ blocks_of (fs ++ Nursery id ∷ []) → HasBlock id (blocks_of fs) → ⊥
apart_body fs gs part home own n tree labels book id h same has =
    apart_inner labels book (blocks_of fs) own id (subst (λ (bs : List Block). Opened labels book bs own None)
    (same ∙ blocks_append fs (Nursery id ∷ [])) h.runs.opened) has

-- and for a task whose steps are those of such a body, or of passes there
pub apart_steps : (fs ls outer gs : List Frame) (steps : Bor (List Step)) (part : Part) (home : Option ℕ) (own : List Own) (n : ℕ)
    (tree : Tree) (labels : Labels) (book : NurseryBook) (id : ℕ) → AreLoops ls →
    gs ≡ outer ++ Steps steps ∷ [] → outer ≡ fs ++ Nursery id ∷ ls → FitsIn gs part home own n tree labels book None →
    HasBlock id (blocks_of fs) → ⊥
apart_steps fs ls outer gs steps part home own n tree labels book id are popped within h has =
    apart_body fs gs part home own n tree labels book id h
    (blocks_pushed outer gs (Steps steps) popped ∙ append-nil (blocks_of outer) ∙ ap blocks_of within ∙ body_blocks fs ls id are
    ∙ sym (blocks_append fs (Nursery id ∷ []))) has
