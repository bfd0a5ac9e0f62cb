-- The blocks of a task, and the scopes that it opened for them.
use Rattle.std.proofs.Common.{◌≡◌, ◌≢◌, inl, inr, ℕ, zero, suc, false, ◌<◌, ◌≤◌, Option, Some, None, List, [], ◌∷◌, ◌++◌, length, refl, ap, sym, ◌∙◌, subst, arith}
use Rattle.std.specs.Prelude.{IsSome}
use Rattle.std.specs.Option.{IsSomeAnd}
use Rattle.std.proofs.lemmas.List.Elements.{All-nil, All-cons, All-head, All-tail, All-append}
use Rattle.job_tree.specs.Starting.{StartsIn}
use Rattle.job_tree.specs.Tree as tree
use Rattle.job_meaning.specs.Rest as rest
use Rattle.nursery_book.specs.Nursery.{Nursery as Members}
use Rattle.nursery_book.specs.Book.{nursery_at, HasNursery}
use Rattle.nursery_book.specs.declared.book.NurseryBook.{NurseryBook}
use Rattle.task_machine.specs.declared.frame.Frame.{Frame}
use Rattle.task_machine.specs.declared.frame.Frame.TheVariants.{Steps, Scope, Event, Token, Received, Nursery, Repeat, Try, Handler, Cleanup}
use Rattle.task_machine.specs.declared.task.Own.{Own}
use Rattle.task_machine.specs.Fitting.{Block, a_scope, a_nursery, blocks_of, received_inside, AreInRangeFrames, StartsFit, AreOthers, IsMine, IsBlockOf, Opened, HasRunning, RunsIn}
use Rattle.task_machine.specs.Frames.{frame_of}
use Rattle.task_machine.specs.Labels.{Labels}

-- the blocks of some frames, and of others inside them
pub blocks_append : (fs gs : List Frame) → blocks_of (fs ++ gs) ≡ blocks_of fs ++ blocks_of gs
blocks_append [] gs = refl
blocks_append (Steps steps ∷ fs) gs = blocks_append fs gs
blocks_append (Scope fail ∷ fs) gs = ap (λ (bs : List Block). a_scope ∷ bs) (blocks_append fs gs)
blocks_append (Event ∷ fs) gs = ap (λ (bs : List Block). a_scope ∷ bs) (blocks_append fs gs)
blocks_append (Token limiter ∷ fs) gs = blocks_append fs gs
blocks_append (Received part ∷ fs) gs = blocks_append fs gs
blocks_append (Nursery id ∷ fs) gs = ap (λ (bs : List Block). a_nursery id ∷ bs) (blocks_append fs gs)
blocks_append (Repeat pass left cuts body ∷ fs) gs = blocks_append fs gs
blocks_append (Try handler cleanup ∷ fs) gs = blocks_append fs gs
blocks_append (Handler others cleanup ∷ fs) gs = blocks_append fs gs
blocks_append (Cleanup outcome ∷ fs) gs = blocks_append fs gs

-- ---- frames with a scope of their own, which are no nursery

abbrev pub IsScope : Frame → Type 0
IsScope (Scope fail) = Unit {0}
IsScope Event = Unit {0}
IsScope _ = ⊥

-- such a frame is one block
pub scope_block : (f : Frame) → IsScope f → blocks_of (f ∷ []) ≡ a_scope ∷ []
scope_block (Scope fail) h = refl
scope_block Event h = refl
scope_block _ h = absurd h

-- nothing is received in it
pub scope_received : (f : Frame) → IsScope f → (inputs : List (List ℕ)) → received_inside f inputs ≡ inputs
scope_received (Scope fail) h inputs = refl
scope_received Event h inputs = refl
scope_received _ h inputs = absurd h

-- what is left inside it is in range as what is left outside it
pub range_outer : (children : ℕ → List ℕ) (f : Frame) (gs : List rest.Frame) → IsScope f →
    AreInRangeFrames (frame_of children f ∷ gs) → AreInRangeFrames gs
range_outer children (Scope fail) gs h r = r
range_outer children Event gs h r = r
range_outer children _ gs h r = absurd h

pub range_inner : (children : ℕ → List ℕ) (f : Frame) (gs : List rest.Frame) → IsScope f → AreInRangeFrames gs →
    AreInRangeFrames (frame_of children f ∷ gs)
range_inner children (Scope fail) gs h r = r
range_inner children Event gs h r = r
range_inner children _ gs h r = absurd h

-- and each `start` that is left fits
pub starts_outer : (children : ℕ → List ℕ) (f : Frame) (gs : List rest.Frame) → IsScope f → StartsFit (frame_of children f ∷ gs) →
    StartsFit gs
starts_outer children (Scope fail) gs h r = r
starts_outer children Event gs h r = r
starts_outer children _ gs h r = absurd h

-- also in a block that is entered, in which there is none
pub starts_inner : (children : ℕ → List ℕ) (f : Frame) (body : tree.Steps) (gs : List rest.Frame) → IsScope f → StartsIn false body →
    StartsFit gs → StartsFit (rest.steps_left body ∷ frame_of children f ∷ gs)
starts_inner children (Scope fail) body gs h starts r = (starts, r)
starts_inner children Event body gs h starts r = (starts, r)
starts_inner children _ body gs h starts r = absurd h

-- ---- the scopes that were opened

-- one more block, with its scope
pub opened_in : (labels : Labels) (book : NurseryBook) (bs : List Block) (own : List Own) (b : Block) (o : Own) →
    Opened labels book bs own None → IsBlockOf labels book b o → AreOthers o.id own → Opened labels book (bs ++ b ∷ []) (own ++ o ∷ []) None
opened_in labels book [] [] b o h i e = (i, All-nil (λ (x : Own). x.id ≢ o.id), tt)
opened_in labels book [] (x ∷ own) b o h i e = absurd h
opened_in labels book (c ∷ bs) [] b o h i e = absurd h
opened_in labels book (c ∷ bs) (x ∷ own) b o h i e = (
  h.0,
  All-append (λ (y : Own). y.id ≢ x.id) own (o ∷ []) h.1
      (All-cons (λ (y : Own). y.id ≢ x.id) o [] (λ f. All-head (λ (y : Own). y.id ≢ o.id) x own e (sym f))
      (All-nil (λ (y : Own). y.id ≢ x.id))),
  opened_in labels book bs own b o h.2 i (All-tail (λ (y : Own). y.id ≢ o.id) x own e),
)

-- the innermost block, and the others
pub record Innermost (labels : Labels) (book : NurseryBook) (bs : List Block) (own : List Own) (b : Block) (o : Own) : Type 0 where
  pub block : IsBlockOf labels book b o
  pub others : AreOthers o.id own
  pub outer : Opened labels book bs own None

-- the last of some scopes, none of which has that id
pub last_else : (own : List Own) (o : Own) (key : ℕ) → AreOthers key (own ++ o ∷ []) → o.id ≢ key
last_else [] o key a = All-head (λ (y : Own). y.id ≢ key) o [] a
last_else (y ∷ own) o key a = last_else own o key (All-tail (λ (z : Own). z.id ≢ key) y (own ++ o ∷ []) a)

-- and those before it
pub first_else : (own : List Own) (o : Own) (key : ℕ) → AreOthers key (own ++ o ∷ []) → AreOthers key own
first_else [] o key a = All-nil (λ (y : Own). y.id ≢ key)
first_else (y ∷ own) o key a =
    All-cons (λ (z : Own). z.id ≢ key) y own (All-head (λ (z : Own). z.id ≢ key) y (own ++ o ∷ []) a)
    (first_else own o key (All-tail (λ (z : Own). z.id ≢ key) y (own ++ o ∷ []) a))

-- the last scope that a task opened is that of its innermost block, and the others are those of the outer ones
pub opened_out : (labels : Labels) (book : NurseryBook) (bs : List Block) (own : List Own) (b : Block) (o : Own) →
    Opened labels book (bs ++ b ∷ []) (own ++ o ∷ []) None → Innermost labels book bs own b o
opened_out labels book [] [] b o h = record { block = h.0; others = All-nil (λ (x : Own). x.id ≢ o.id); outer = tt }
opened_out labels book [] (x ∷ []) b o h = absurd h.2
opened_out labels book [] (x ∷ y ∷ own) b o h = absurd h.2
opened_out labels book (c ∷ []) [] b o h = absurd h.2
opened_out labels book (c ∷ d ∷ bs) [] b o h = absurd h.2
opened_out labels book (c ∷ bs) (x ∷ own) b o h =
    let inner = opened_out labels book bs own b o h.2 in
    record {
      block = inner.block;
      others = All-cons (λ (y : Own). y.id ≢ o.id) x own (λ f. last_else own o x.id h.1 (sym f)) inner.others;
      outer = (h.0, first_else own o x.id h.1, inner.outer);
    }

-- a task that is in a block opened its scope
pub opened_some : (labels : Labels) (book : NurseryBook) (bs : List Block) (own : List Own) (b : Block) →
    Opened labels book (bs ++ b ∷ []) own None → 0 < length own
opened_some labels book [] [] b h = absurd h
opened_some labels book (c ∷ bs) [] b h = absurd h
opened_some labels book bs (x ∷ own) b h = omega arith

-- the innermost nursery's body ended
pub opened_waits : (labels : Labels) (book : NurseryBook) (bs : List Block) (own : List Own) (id : ℕ) (o : Own) →
    Opened labels book bs own None → AreOthers o.id own →
    HasNursery book id (λ n. IsMine labels o n × IsSome n.body) → Opened labels book bs (own ++ o ∷ []) (Some id)
opened_waits labels book [] [] id o h e n = (refl, n)
opened_waits labels book [] (x ∷ own) id o h e n = absurd h
opened_waits labels book (c ∷ bs) [] id o h e n = absurd h
opened_waits labels book (c ∷ bs) (x ∷ own) id o h e n = (
  h.0,
  All-append (λ (y : Own). y.id ≢ x.id) own (o ∷ []) h.1
      (All-cons (λ (y : Own). y.id ≢ x.id) o [] (λ f. All-head (λ (y : Own). y.id ≢ o.id) x own e (sym f))
      (All-nil (λ (y : Own). y.id ≢ x.id))),
  opened_waits labels book bs own id o h.2 (All-tail (λ (y : Own). y.id ≢ o.id) x own e) n,
)

-- ---- a change of the world

-- What stays the same in a world except for one scope: the labels of others, and the nurseries of others whose
-- body runs.
pub record StaysBut (labels more : Labels) (old new : NurseryBook) (key : ℕ) : Type 0 where
  pub named : (other : ℕ) → other ≢ key → more other ≡ labels other
  pub nurseries : (id : ℕ) (n : Members) → nursery_at old id ≡ Some n → n.scope ≢ key → nursery_at new id ≡ Some n

block_stays : (labels more : Labels) (old new : NurseryBook) (key : ℕ) (b : Block) (o : Own) → StaysBut labels more old new key →
    o.id ≢ key → IsBlockOf labels old b o → IsBlockOf more new b o
block_stays labels more old new key a_scope o s differs i = subst IsSome (sym (s.named o.id differs)) i
block_stays labels more old new key (a_nursery id) o s differs i = by_nursery (nursery_at old id) refl i
  where
    by_nursery : (m : Option Members) → nursery_at old id ≡ m → IsSomeAnd m (λ n. IsMine labels o n × (n.body ≡ None)) →
        HasNursery new id (λ n. IsMine more o n × (n.body ≡ None))
    by_nursery None e i = absurd i
    by_nursery (Some n) e i =
        subst (λ (m : Option Members). IsSomeAnd m (λ n. IsMine more o n × (n.body ≡ None)))
        (sym (s.nurseries id n e (λ f. differs (sym i.0.scope ∙ f))))
        (record { scope = i.0.scope; label = s.named o.id differs ∙ i.0.label }, i.1)

-- the scopes of a task are those of its blocks still, where the world changed for another scope alone
pub opened_stays : (labels more : Labels) (old new : NurseryBook) (key : ℕ) (bs : List Block) (own : List Own) →
    StaysBut labels more old new key → AreOthers key own → Opened labels old bs own None → Opened more new bs own None
opened_stays labels more old new key [] [] s e h = tt
opened_stays labels more old new key [] (x ∷ own) s e h = absurd h
opened_stays labels more old new key (b ∷ bs) [] s e h = absurd h
opened_stays labels more old new key (b ∷ bs) (x ∷ own) s e h = (
  block_stays labels more old new key b x s (All-head (λ (y : Own). y.id ≢ key) x own e) h.0,
  h.1,
  opened_stays labels more old new key bs own s (All-tail (λ (y : Own). y.id ≢ key) x own e) h.2,
)

-- ---- children that run

-- where a child runs in a block or one inside it, it does so with one more block inside
pub runs_in_more : (book : NurseryBook) (bs : List Block) (b : Block) (i : ℕ) → RunsIn book bs i None → RunsIn book (bs ++ b ∷ []) i None
runs_in_more book [] b i r = absurd r
runs_in_more book (a_scope ∷ bs) b zero r = runs_in_more book bs b zero r
runs_in_more book (a_nursery id ∷ bs) b zero (inl r) = inl r
runs_in_more book (a_nursery id ∷ bs) b zero (inr r) = inr (runs_in_more book bs b zero r)
runs_in_more book (a_scope ∷ bs) b (suc i) r = runs_in_more book bs b i r
runs_in_more book (a_nursery id ∷ bs) b (suc i) r = runs_in_more book bs b i r

-- without the innermost scope
pub runs_in_outer : (book : NurseryBook) (bs : List Block) (i : ℕ) → RunsIn book (bs ++ a_scope ∷ []) i None → RunsIn book bs i None
runs_in_outer book [] zero r = r
runs_in_outer book [] (suc i) r = r
runs_in_outer book (a_scope ∷ bs) zero r = runs_in_outer book bs zero r
runs_in_outer book (a_nursery id ∷ bs) zero (inl r) = inl r
runs_in_outer book (a_nursery id ∷ bs) zero (inr r) = inr (runs_in_outer book bs zero r)
runs_in_outer book (a_scope ∷ bs) (suc i) r = runs_in_outer book bs i r
runs_in_outer book (a_nursery id ∷ bs) (suc i) r = runs_in_outer book bs i r

-- without the innermost nursery, which is waited for
pub runs_in_waits : (book : NurseryBook) (bs : List Block) (id i : ℕ) → RunsIn book (bs ++ a_nursery id ∷ []) i None →
    RunsIn book bs i (Some id)
runs_in_waits book [] id zero (inl r) = r
runs_in_waits book [] id zero (inr r) = absurd r
runs_in_waits book [] id (suc i) r = absurd r
runs_in_waits book (a_scope ∷ bs) id zero r = runs_in_waits book bs id zero r
runs_in_waits book (a_nursery x ∷ bs) id zero (inl r) = inl r
runs_in_waits book (a_nursery x ∷ bs) id zero (inr r) = inr (runs_in_waits book bs id zero r)
runs_in_waits book (a_scope ∷ bs) id (suc i) r = runs_in_waits book bs id i r
runs_in_waits book (a_nursery x ∷ bs) id (suc i) r = runs_in_waits book bs id i r

-- after the last block nothing runs except in the nursery that is waited for
pub runs_after : (book : NurseryBook) (bs : List Block) (i : ℕ) (waits : Option ℕ) → length bs ≤ i → RunsIn book bs i waits →
    HasRunning book waits
runs_after book [] i waits long r = r
runs_after book (b ∷ bs) zero waits long r = absurd (omega (arith, long))
runs_after book (a_scope ∷ bs) (suc i) waits long r = runs_after book bs i waits (omega (arith, long)) r
runs_after book (a_nursery id ∷ bs) (suc i) waits long r = runs_after book bs i waits (omega (arith, long)) r

-- children that ran run on
pub runs_in_later : (old new : NurseryBook) (bs : List Block) (i : ℕ) (waits : Option ℕ) →
    ((id : ℕ) → HasRunning old (Some id) → HasRunning new (Some id)) → RunsIn old bs i waits → RunsIn new bs i waits
runs_in_later old new [] i None s r = absurd r
runs_in_later old new [] i (Some id) s r = s id r
runs_in_later old new (a_scope ∷ bs) zero waits s r = runs_in_later old new bs zero waits s r
runs_in_later old new (a_nursery id ∷ bs) zero waits s (inl r) = inl (s id r)
runs_in_later old new (a_nursery id ∷ bs) zero waits s (inr r) = inr (runs_in_later old new bs zero waits s r)
runs_in_later old new (a_scope ∷ bs) (suc i) waits s r = runs_in_later old new bs i waits s r
runs_in_later old new (a_nursery id ∷ bs) (suc i) waits s r = runs_in_later old new bs i waits s r

-- as many scopes as blocks
pub opened_length : (labels : Labels) (book : NurseryBook) (bs : List Block) (own : List Own) → Opened labels book bs own None →
    length own ≡ length bs
opened_length labels book [] [] h = refl
opened_length labels book [] (x ∷ own) h = absurd h
opened_length labels book (b ∷ bs) [] h = absurd h
opened_length labels book (b ∷ bs) (x ∷ own) h = ap (λ (n : ℕ). suc n) (opened_length labels book bs own h.2)
