-- What a turn leaves of the nurseries of another task.
use Rattle.std.proofs.Common.{◌≡◌, inl, inr, ℕ, zero, suc, Option, Some, None, List, [], ◌∷◌, refl, ap, sym, ◌∙◌, subst}
use Rattle.std.specs.Prelude.{slice_get, IsSome}
use Rattle.std.specs.Option.{IsSomeAnd}
use Rattle.cancel_scopes.specs.Tree.{Tree, IsOpen}
use Rattle.nursery_book.specs.Nursery.{Nursery as Members}
use Rattle.nursery_book.specs.Book.{nursery_at, HasNursery}
use Rattle.nursery_book.specs.declared.book.NurseryBook.{NurseryBook}
use Rattle.job_meaning.specs.Rest as rest
use Rattle.task_machine.specs.declared.stop.TaskState.{TaskState}
use Rattle.task_machine.specs.declared.stop.TaskState.TheVariants.{ToBegin, Asked, Asleep, Waiting, GivingUp, Awaits, Over, Queued}
use Rattle.task_machine.specs.declared.task.Own.{Own}
use Rattle.task_machine.specs.Fitting.{Block, a_scope, a_nursery, AreOthers, IsMine, IsAwaited, Opened, waits_of}
use Rattle.task_machine.specs.Labels.{Labels}
use Rattle.task_machine.specs.Standing.{HasNurseryOf, OthersStay}
use Rattle.task_machine.specs.Stops.{Numbers, IsTaskState}
use Rattle.run_refinement.proofs.ActsKeep.{not_both}
use Rattle.run_refinement.proofs.OtherScopes.{AreElse}
use Rattle.task_machine.proofs.Apart.{has_scope}
use Rattle.task_machine.proofs.Stacked.{one_of}
use Rattle.run_refinement.proofs.Found.{finds}

-- ---- the scope of a nursery

-- a nursery of a task, and the scope that the task opened for it
pub record HasScope (book : NurseryBook) (own : List Own) (id : ℕ) : Type 0 where
  pub nursery : Members
  pub at : nursery_at book id ≡ Some nursery
  pub scope : Own
  pub index : ℕ
  pub got : slice_get own index ≡ Some scope
  pub same : nursery.scope ≡ scope.id

one_more : {book : NurseryBook} {own : List Own} {id : ℕ} → (o : Own) → HasScope book own id → HasScope book (o ∷ own) id
one_more o h = record { nursery = h.nursery; at = h.at; scope = h.scope; index = suc h.index; got = h.got; same = h.same }

the_first : (Q : Members → Type 0) (labels : Labels) (book : NurseryBook) (o : Own) (own : List Own) (key id : ℕ) → key ≡ id →
    HasNursery book key (λ n. IsMine labels o n × Q n) →
    HasScope book (o ∷ own) id
the_first Q labels book o own key id e h =
    let n = finds book key _ h in
    record { nursery = n.0; at = sym (ap (nursery_at book) e) ∙ n.1; scope = o; index = zero; got = refl; same = n.2.0.scope }

-- each nursery of a task has a scope that the task opened
pub scope_of_nursery : (labels : Labels) (book : NurseryBook) (bs : List Block) (own : List Own) (waits : Option ℕ) (id : ℕ) →
    Opened labels book bs own waits → HasNurseryOf id bs waits →
    HasScope book own id
scope_of_nursery labels book [] own waits id h (inl has) = absurd has
scope_of_nursery labels book [] own None id h (inr w) = absurd (not_both refl w)
scope_of_nursery labels book [] [] (Some key) id h (inr w) = absurd h
scope_of_nursery labels book [] (o ∷ own) (Some key) id h (inr w) =
    the_first (λ n. IsSome n.body) labels book o own key id (one_of key id w) h.1
scope_of_nursery labels book (b ∷ bs) [] waits id h has = absurd h
scope_of_nursery labels book (a_scope ∷ bs) (o ∷ own) waits id h has = one_more o (scope_of_nursery labels book bs own waits id h.2 has)
scope_of_nursery labels book (a_nursery key ∷ bs) (o ∷ own) waits id h (inl (inl is)) =
    the_first (λ n. n.body ≡ None) labels book o own key id (sym is) h.0
scope_of_nursery labels book (a_nursery key ∷ bs) (o ∷ own) waits id h (inl (inr has)) =
    one_more o (scope_of_nursery labels book bs own waits id h.2 (inl has))
scope_of_nursery labels book (a_nursery key ∷ bs) (o ∷ own) waits id h (inr w) =
    one_more o (scope_of_nursery labels book bs own waits id h.2 (inr w))

-- ---- nurseries stay

-- A nursery whose scope is open and belongs to another task is as it was.
pub nursery_stays : (labels : Labels) (book new : NurseryBook) (bs : List Block) (own : List Own) (waits : Option ℕ) (tree : Tree) →
    Opened labels book bs own waits →
    OthersStay bs own tree book new → (id : ℕ) (n : Members) → nursery_at book id ≡ Some n → IsOpen tree n.scope → AreOthers n.scope own →
    nursery_at new id ≡ Some n
nursery_stays labels book new bs own waits tree opened stay id n e is others =
    stay id n e (λ has. has_scope labels book bs own waits id n opened (inl has) e others) (is, others)

-- So is each nursery of another task.
pub nurseries_stay : (labels : Labels) (book new : NurseryBook) (bs cs : List Block) (own mine : List Own) (waits waited : Option ℕ)
    (tree : Tree) → Opened labels book bs own waits →
    OthersStay bs own tree book new → Opened labels book cs mine waited → AreElse mine own →
    ((o : Own) (i : ℕ) → slice_get mine i ≡ Some o → IsOpen tree o.id) →
    (id : ℕ) → HasNurseryOf id cs waited → nursery_at new id ≡ nursery_at book id
nurseries_stay labels book new bs cs own mine waits waited tree opened stay fits others are id has =
    let h = scope_of_nursery labels book cs mine waited id fits has in
    nursery_stays labels book new bs own waits tree opened stay id h.nursery h.at
    (subst (IsOpen tree) (sym h.same) (are h.scope h.index h.got))
    (subst (λ (k : ℕ). AreOthers k own) (sym h.same) (others h.scope h.index h.got))
    ∙ sym h.at

-- what is true of a nursery is so in each book in which it is the same
pub same_nursery : (P : Members → Type 0) (book new : NurseryBook) (id : ℕ) → nursery_at new id ≡ nursery_at book id →
    HasNursery book id P → HasNursery new id P
same_nursery P book new id e h = subst (λ (p : Option Members). IsSomeAnd p P) (sym e) h

-- ---- what a task opened

-- the scopes of a task are those of its blocks where their labels and its nurseries are the same
pub opened_stays : (labels more : Labels) (book new : NurseryBook) (bs : List Block) (own : List Own) (waits : Option ℕ) →
    ((o : Own) (i : ℕ) → slice_get own i ≡ Some o → more o.id ≡ labels o.id) →
    ((id : ℕ) → HasNurseryOf id bs waits → nursery_at new id ≡ nursery_at book id) →
    Opened labels book bs own waits → Opened more new bs own waits
opened_stays labels more book new bs own waits same stay h = by_blocks bs own same stay h
  where
    mine : (o : Own) (n : Members) → more o.id ≡ labels o.id → IsMine labels o n → IsMine more o n
    mine o n e i = record { scope = i.scope; label = e ∙ i.label }

    has_mine : (P : Members → Type 0) (o : Own) (p : Option Members) → more o.id ≡ labels o.id →
        IsSomeAnd p (λ n. IsMine labels o n × P n) → IsSomeAnd p (λ n. IsMine more o n × P n)
    has_mine P o None e i = i
    has_mine P o (Some n) e i = (mine o n e i.0, i.1)

    block : (P : Members → Type 0) (o : Own) (id : ℕ) → more o.id ≡ labels o.id → nursery_at new id ≡ nursery_at book id →
        HasNursery book id (λ n. IsMine labels o n × P n) →
        HasNursery new id (λ n. IsMine more o n × P n)
    block P o id e f i = same_nursery (λ n. IsMine more o n × P n) book new id f (has_mine P o (nursery_at book id) e i)

    awaited : (own : List Own) (w : Option ℕ) → ((o : Own) (i : ℕ) → slice_get own i ≡ Some o → more o.id ≡ labels o.id) →
        ((id : ℕ) → HasNurseryOf id [] w → nursery_at new id ≡ nursery_at book id) →
        IsAwaited labels book own w → IsAwaited more new own w
    awaited [] None e f i = i
    awaited [] (Some id) e f i = i
    awaited (o ∷ own) None e f i = i
    awaited (o ∷ own) (Some id) e f i = (i.0, block (λ n. IsSome n.body) o id (e o zero refl) (f id (inr refl)) i.1)

    by_blocks : (bs : List Block) (own : List Own) → ((o : Own) (i : ℕ) → slice_get own i ≡ Some o → more o.id ≡ labels o.id) →
        ((id : ℕ) → HasNurseryOf id bs waits → nursery_at new id ≡ nursery_at book id) →
        Opened labels book bs own waits → Opened more new bs own waits
    by_blocks [] own e f i = awaited own waits e f i
    by_blocks (b ∷ bs) [] e f i = i
    by_blocks (a_scope ∷ bs) (o ∷ own) e f i = (subst IsSome (sym (e o zero refl)) i.0, i.1, by_blocks bs own (λ x j. e x (suc j)) f i.2)
    by_blocks (a_nursery key ∷ bs) (o ∷ own) e f i = (
      block (λ n. n.body ≡ None) o key (e o zero refl) (f key (inl (inl refl))) i.0,
      i.1,
      by_blocks bs own (λ x j. e x (suc j)) inner i.2,
    )
      where
        inner : (id : ℕ) → HasNurseryOf id bs waits → nursery_at new id ≡ nursery_at book id
        inner id (inl has) = f id (inl (inr has))
        inner id (inr w) = f id (inr w)

-- ---- where a task stopped

-- a blocked state is its stop if the nursery that it waits for is the same
pub task_state_stays : (numbers : Numbers) (book new : NurseryBook) (task_state : TaskState) (stopped : rest.Stopped) →
    ((id : ℕ) → waits_of task_state ≡ Some id → nursery_at new id ≡ nursery_at book id) →
    IsTaskState numbers book task_state stopped → IsTaskState numbers new task_state stopped
task_state_stays numbers book new (ToBegin at) rest.to_begin stay h = h
task_state_stays numbers book new (Asked kernel purpose) (rest.asking k p) stay h = h
task_state_stays numbers book new (Asleep paced ticks since) (rest.asleep p n u) stay h = h
task_state_stays numbers book new (Waiting event since) (rest.waiting_for name u) stay h = h
task_state_stays numbers book new (Queued object ask since body) (rest.queued name a u steps) stay h = h
task_state_stays numbers book new (GivingUp since) (rest.giving_up u) stay h = h
task_state_stays numbers book new (Awaits nursery since) (rest.awaiting children u exc) stay h =
    (h.0, h.1, same_nursery (λ n. n.body ≡ Some exc) book new nursery (stay nursery refl) h.2)
task_state_stays numbers book new Over (rest.at_end u e) stay h = h
task_state_stays numbers book new _ _ stay h = absurd h
