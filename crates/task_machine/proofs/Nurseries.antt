-- What moves do to the nurseries in the book, one lemma for each kind of change.
use Rattle.std.proofs.Common.{◌≡◌, ◌≢◌, ◌⊎◌, inl, inr, ℕ, ◌==◌, Bool, true, false, Option, Some, None, List, [], ◌∷◌, ◌++◌, length, refl, ap, sym, ◌∙◌, subst}
use Rattle.std.proofs.lemmas.Bool.{eqb-true, eq-eqb}
use Rattle.std.proofs.lemmas.List.{append-nil}
use Rattle.std.proofs.lemmas.List.Elements.{All-nil}
use Rattle.std.proofs.lemmas.Option.{same_Some}
use Rattle.std.specs.Option.{IsSomeAnd}
use Rattle.exceptions.specs.Exceptions.{Exc}
use Rattle.nursery_book.specs.Nursery.{End, Nursery as Members, with_body}
use Rattle.nursery_book.specs.Book.{nursery_at, HasNursery, Updates, Changes}
use Rattle.nursery_book.specs.declared.book.NurseryBook.{NurseryBook}
use Rattle.turn_semantics.specs.Midway.{Begun}
use Rattle.task_machine.specs.declared.frame.Frame.{Frame}
use Rattle.task_machine.specs.declared.task.Task.{Task}
use Rattle.task_machine.specs.Fitting.{Block, a_scope, a_nursery, blocks_of}
use Rattle.task_machine.specs.Standing.{HasBlock, HasNurseryOf, AreNumbered, Grown, IsOfOther, Covers, ChangesNurseries}
use Rattle.task_machine.specs.States.{State}
use Rattle.task_machine.specs.Stops.{Numbers}
use Rattle.task_machine.proofs.Acting.{block_of}
use Rattle.task_machine.proofs.Blocks.{blocks_append}

-- ---- blocks

-- a nursery among blocks is among more of them
pub has_more : (id : ℕ) (bs cs : List Block) → HasBlock id bs → HasBlock id (bs ++ cs)
has_more id [] cs h = absurd h
has_more id (a_scope ∷ bs) cs h = has_more id bs cs h
has_more id (a_nursery key ∷ bs) cs (inl e) = inl e
has_more id (a_nursery key ∷ bs) cs (inr h) = inr (has_more id bs cs h)

-- a nursery among blocks is also among them when others precede them
pub has_last : (id : ℕ) (bs cs : List Block) → HasBlock id cs → HasBlock id (bs ++ cs)
has_last id [] cs h = h
has_last id (a_scope ∷ bs) cs h = has_last id bs cs h
has_last id (a_nursery key ∷ bs) cs h = inr (has_last id bs cs h)

-- and one among all of them is among the first or the others
pub has_either : (id : ℕ) (bs cs : List Block) → HasBlock id (bs ++ cs) → HasBlock id bs ⊎ HasBlock id cs
has_either id [] cs h = inr h
has_either id (a_scope ∷ bs) cs h = has_either id bs cs h
has_either id (a_nursery key ∷ bs) cs (inl e) = inl (inl e)
has_either id (a_nursery key ∷ bs) cs (inr h) = by_rest (has_either id bs cs h)
  where
    by_rest : HasBlock id bs ⊎ HasBlock id cs → HasBlock id (a_nursery key ∷ bs) ⊎ HasBlock id cs
    by_rest (inl x) = inl (inr x)
    by_rest (inr x) = inr x

-- the blocks of frames with one more
pub blocks_pushed : (fs gs : List Frame) (f : Frame) → gs ≡ fs ++ f ∷ [] → blocks_of gs ≡ blocks_of fs ++ blocks_of (f ∷ [])
blocks_pushed fs gs f e = ap blocks_of e ∙ blocks_append fs (f ∷ [])

-- ---- one nursery of the book

-- a nursery that stays as it was
pub not_grown : (at : ℕ) (n : Members) (ns : List ℕ) → Grown at n n ns ns
not_grown at n ns =
    record {
      scope = refl;
      waiter = refl;
      label = refl;
      more = [];
      children = sym (append-nil n.children);
      run = All-nil (λ (e : End). e ≡ None);
      added = [];
      numbers = sym (append-nil ns);
      last = inl refl;
    }

-- what is at a key, as a fact about it
pub is_at : (o : Option Members) (n : Members) → o ≡ Some n → IsSomeAnd o (λ m. m ≡ n)
is_at o n e = subst (λ (p : Option Members). IsSomeAnd p (λ m. m ≡ n)) (sym e) refl

-- what is true of a nursery when another is put at its key, and when it stays
pub updated_has : (old new : NurseryBook) (id : ℕ) (o : Option Members) (key : ℕ) (P Q : Members → Type 0) → Updates old new id o →
    (key ≡ id → (n : Members) → nursery_at old key ≡ Some n → P n → IsSomeAnd o Q) →
    (key ≢ id → (n : Members) → nursery_at old key ≡ Some n → P n → Q n) → HasNursery old key P →
    HasNursery new key Q
updated_has old new id o key P Q u put stay h = by_nursery (nursery_at old key) refl h
  where
    by_nursery : (p : Option Members) → nursery_at old key ≡ p → IsSomeAnd p P → HasNursery new key Q
    by_nursery None e g = absurd g
    by_nursery (Some n) e g = by_key (key == id) refl
      where
        by_key : (b : Bool) → (key == id) ≡ b → HasNursery new key Q
        by_key true t =
            let same = eqb-true key id t in
            subst (λ (p : Option Members). IsSomeAnd p Q) (sym (ap (nursery_at new) same ∙ u.changed)) (put same n e g)
        by_key false t =
            let differs : key ≢ id = λ f. absurd (let x : true ≡ false = sym (eq-eqb key id f) ∙ t in cc) in
            subst (λ (p : Option Members). IsSomeAnd p Q) (sym (u.others key differs ∙ e)) (stay differs n e g)

-- what is at a key, where it is changed
pub change_of : (old new : NurseryBook) (id : ℕ) (change : Members → Members) → Changes old new id change →
    (n : Members) × (nursery_at old id ≡ Some n) × Updates old new id (Some (change n))
change_of old new id change h = by_nursery (nursery_at old id) refl h
  where
    by_nursery : (p : Option Members) → nursery_at old id ≡ p → IsSomeAnd p (λ n. Updates old new id (Some (change n))) →
        (n : Members) × (nursery_at old id ≡ Some n) × Updates old new id (Some (change n))
    by_nursery None e g = absurd g
    by_nursery (Some n) e g = (n, e, g)

-- ---- changes of the book

-- the book stays as it is, and the task waits for no nursery and has the same ones
pub nurseries_same : (s u : State) (waits : Option ℕ) (numbers : Numbers) → waits ≡ None → u.book ≡ s.book →
    ((id : ℕ) → HasBlock id (blocks_of s.frames) → HasBlock id (blocks_of u.frames)) →
    ((id : ℕ) → HasBlock id (blocks_of u.frames) → HasBlock id (blocks_of s.frames)) → AreNumbered numbers s.book s.frames →
    ChangesNurseries s u waits numbers numbers [] []
nurseries_same s u waits numbers none book kept back numbered =
    record {
      grow = λ id has n e.
          subst (λ (o : Option Members). IsSomeAnd o (λ m. Grown s.tick n m (numbers id) (numbers id))) (sym (same id ∙ e))
          (not_grown s.tick n (numbers id));
      kept = λ id has. inl (kept id has);
      numbered = λ id has.
          subst (λ (b : NurseryBook). HasNursery b id (λ n. length (numbers id) ≡ length n.children)) (sym book)
          (numbered id (there id has));
      owned = λ id has. inl (there id has);
      covered = λ id index number has e. inl (there id has, e);
      ends = λ id has. inl (there id has);
      others = λ id n e apart other. same id ∙ e;
    }
  where
    same : (id : ℕ) → nursery_at u.book id ≡ nursery_at s.book id
    same id = ap (λ (b : NurseryBook). nursery_at b id) book

    there : (id : ℕ) → HasNurseryOf id (blocks_of u.frames) waits → HasBlock id (blocks_of s.frames)
    there id has = back id (block_of id (blocks_of u.frames) waits none has)

-- A nursery of the task was put in place of another one with the same scope, waiter and label, whose children are numbered as before,
-- and the task has the same nurseries as before, one of which it may wait for now.
module _ (s u : State) (waits : Option ℕ) (numbers : Numbers) (id : ℕ) (n : Members) (after : Members)
    (was : nursery_at s.book id ≡ Some n) (put : Updates s.book u.book id (Some after)) (mine : HasBlock id (blocks_of s.frames))
    (there : (key : ℕ) → HasNurseryOf key (blocks_of u.frames) waits → HasBlock key (blocks_of s.frames)) where
  pub nurseries_put : (are : Numbers) (tasks : List Task) (begun : List Begun) → Grown s.tick n after (numbers id) (are id) →
      ((key : ℕ) → key ≢ id → are key ≡ numbers key) → (length (numbers id) ≡ length n.children → length (are id) ≡ length after.children) →
      ((key : ℕ) → HasBlock key (blocks_of s.frames) → HasNurseryOf key (blocks_of u.frames) waits) →
      Covers (blocks_of s.frames) numbers are (blocks_of u.frames) waits tasks begun → AreNumbered numbers s.book s.frames →
      ChangesNurseries s u waits numbers are tasks begun
  nurseries_put are tasks begun grown same long kept covered numbered =
      record {
        grow = λ key has m at.
            updated_has s.book u.book id (Some after) key (λ x. x ≡ m) (λ x. Grown s.tick m x (numbers key) (are key)) put
            (λ is x found one. at_id key m is (same_Some m n (sym at ∙ ap (nursery_at s.book) is ∙ was)))
            (λ differs x found one.
            subst (λ (ns : List ℕ). Grown s.tick m x (numbers key) ns) (sym (same key differs))
            (subst (λ (y : Members). Grown s.tick y x (numbers key) (numbers key)) one (not_grown s.tick x (numbers key))))
            (is_at (nursery_at s.book key) m at);
        kept = kept;
        numbered = λ key has.
            updated_has s.book u.book id (Some after) key (λ x. length (numbers key) ≡ length x.children)
            (λ x. length (are key) ≡ length x.children) put
            (λ is x found count. long_at key is (count ∙ ap (λ (y : Members). length y.children)
            (same_Some x n (sym found ∙ ap (nursery_at s.book) is ∙ was))))
            (λ differs x found count. ap (λ (ns : List ℕ). length ns) (same key differs) ∙ count) (numbered key (there key has));
        owned = λ key has. inl (there key has);
        covered = covered;
        ends = λ key has. inl (there key has);
        others = λ key m at apart other. put.others key (λ is. apart (subst (λ (k : ℕ). HasBlock k (blocks_of s.frames)) (sym is) mine)) ∙ at;
      }
    where
      at_id : (key : ℕ) (m : Members) → key ≡ id → m ≡ n → Grown s.tick m after (numbers key) (are key)
      at_id key m is one =
          subst (λ (k : ℕ). Grown s.tick m after (numbers k) (are k)) (sym is)
          (subst (λ (x : Members). Grown s.tick x after (numbers id) (are id)) (sym one) grown)

      long_at : (key : ℕ) → key ≡ id → length (numbers key) ≡ length n.children → length (are key) ≡ length after.children
      long_at key is e =
          subst (λ (k : ℕ). length (are k) ≡ length after.children) (sym is)
          (long (subst (λ (k : ℕ). length (numbers k) ≡ length n.children) is e))

-- a nursery with a body that ended has the same children
pub body_grown : (n : Members) (exc : Option Exc) (at : ℕ) (ns : List ℕ) → Grown at n (with_body exc at n) ns ns
body_grown n exc at ns =
    record {
      scope = refl;
      waiter = refl;
      label = refl;
      more = [];
      children = sym (append-nil n.children);
      run = All-nil (λ (x : End). x ≡ None);
      added = [];
      numbers = sym (append-nil ns);
      last = inr refl;
    }

-- a nursery that was none of the task's blocks, and which no other task has, was closed
pub nurseries_closed : (s u : State) (numbers : Numbers) (id : ℕ) → Updates s.book u.book id None →
    (HasBlock id (blocks_of s.frames) → ⊥) → ((n : Members) → nursery_at s.book id ≡ Some n → IsOfOther s.own s.tree n → ⊥) →
    u.frames ≡ s.frames → AreNumbered numbers s.book s.frames → ChangesNurseries s u None numbers numbers [] []
nurseries_closed s u numbers id ended apart mine left numbered =
    record {
      grow = λ key has n at.
          updated_has s.book u.book id None key (λ m. m ≡ n) (λ m. Grown s.tick n m (numbers key) (numbers key)) ended
          (λ is m found one. absurd (differs key has is))
          (λ other m found one. subst (λ (y : Members). Grown s.tick y m (numbers key) (numbers key)) one
          (not_grown s.tick m (numbers key)))
          (is_at (nursery_at s.book key) n at);
      kept = λ key has. inl (subst (λ (fs : List Frame). HasBlock key (blocks_of fs)) (sym left) has);
      numbered = λ key has.
          updated_has s.book u.book id None key (λ n. length (numbers key) ≡ length n.children)
          (λ n. length (numbers key) ≡ length n.children) ended
          (λ is m found long. absurd (differs key (there key has) is)) (λ other m found long. long) (numbered key (there key has));
      owned = λ key has. inl (there key has);
      covered = λ key index number has at. inl (there key has, at);
      ends = λ key has. inl (there key has);
      others = λ key n at out other. ended.others key (λ is. absurd (mine n (ap (nursery_at s.book) (sym is) ∙ at) other)) ∙ at;
    }
  where
    differs : (key : ℕ) → HasBlock key (blocks_of s.frames) → key ≢ id
    differs key has is = apart (subst (λ (k : ℕ). HasBlock k (blocks_of s.frames)) is has)

    there : (key : ℕ) → HasNurseryOf key (blocks_of u.frames) None → HasBlock key (blocks_of s.frames)
    there key has = subst (λ (fs : List Frame). HasBlock key (blocks_of fs)) left (block_of key (blocks_of u.frames) None refl has)
