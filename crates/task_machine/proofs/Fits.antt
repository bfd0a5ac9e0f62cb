-- What holds between moves is kept by each.
use Rattle.std.proofs.Common.{◌≡◌, ◌≢◌, inl, ℕ, ◌<◌, true, false, Option, Some, None, List, [], ◌∷◌, ◌++◌, length, refl, ap, sym, ◌∙◌, subst, arith}
use Rattle.std.proofs.lemmas.List.Elements.{All-head}
use Rattle.std.specs.Prelude.{All, IsSome}
use Rattle.std.specs.Option.{ForSome, unwrap_or}
use Rattle.std.specs.List.{last_or}
use Rattle.turn_semantics.specs.Lists.{IsAmong}
use Rattle.input_lines.specs.Part.{buffer_of}
use Rattle.input_lines.specs.declared.part.Part.{Part}
use Rattle.cancel_scopes.specs.Sight.{Level}
use Rattle.cancel_scopes.specs.Tree.{Stack, Tree, stack_of, outer_of, own_label, IsOpen, IsOwn, IsChain, IsApart, IsInnermost, OthersKeep}
use Rattle.nursery_book.specs.declared.book.NurseryBook.{NurseryBook}
use Rattle.task_machine.specs.declared.frame.Frame.{Frame}
use Rattle.task_machine.specs.declared.task.Own.{Own}
use Rattle.task_machine.specs.Fitting.{Block, a_scope, blocks_of, received_in, AreOf, AreInRangeFrames, StartsFit, Opened, OthersRun, FitsIn}
use Rattle.task_machine.specs.Frames.{frames_of}
use Rattle.task_machine.specs.Labels.{Labels}
use Rattle.task_machine.specs.Left.{keys_of}
use Rattle.task_machine.proofs.Blocks.{blocks_append, IsScope, scope_block, Innermost, opened_out, opened_some, opened_length, runs_in_outer, runs_after}
use Rattle.task_machine.proofs.Leaves.{head_of, first_is_last, Top, top_of}
use Rattle.task_machine.proofs.Others.{level_at, all_after, innermost_of}
use Rattle.task_machine.proofs.OwnLemmas.{ids, last_pushed}
use Rattle.task_machine.proofs.Stacked.{one_of}

-- the last scope of a task that opened one
pub record LastOf (own : List Own) : Type 0 where
  pub before : List Own
  pub last : Own
  pub is : own ≡ before ++ last ∷ []

-- scopes that a task opened, if there are some, have a last one
pub last_of : (own : List Own) → 0 < length own → LastOf own
last_of [] some = absurd (omega (arith, some))
last_of (o ∷ []) some = record { before = []; last = o; is = refl }
last_of (o ∷ p ∷ own) some =
    let l = last_of (p ∷ own) (omega arith) in
    record { before = o ∷ l.before; last = l.last; is = ap (λ (os : List Own). o ∷ os) l.is }

-- What a task needs that leaves its innermost scope.
pub record Ready (home : Option ℕ) (own : List Own) (tree : Tree) (labels : Labels) : Type 0 where
  pub some : 0 < length own
  pub innermost : ForSome (last_or home (ids own)) (IsInnermost tree)
  pub labelled : ForSome (last_or home (ids own)) (λ id. IsSome (labels id))

-- the frames change, and the blocks among them stay; what was received in them is of the same input
pub fits_frames : (fs gs : List Frame) (part : Part) (home : Option ℕ) (own : List Own) (n : ℕ) (tree : Tree) (labels : Labels)
    (book : NurseryBook) → blocks_of gs ≡ blocks_of fs →
    AreInRangeFrames (frames_of (λ id. []) gs) → AreOf (buffer_of part) (received_in gs) → StartsFit (frames_of (λ id. []) gs) →
    FitsIn fs part home own n tree labels book None → FitsIn gs part home own n tree labels book None
fits_frames fs gs part home own n tree labels book same in_range lent starts h =
    record {
      runs = record {
        in_range = in_range;
        lent = lent;
        starts = starts;
        home = h.runs.home;
        scope = h.runs.scope;
        first = h.runs.first;
        cancelled_from = h.runs.cancelled_from;
        opened = subst (λ (bs : List Block). Opened labels book bs own None) (sym same) h.runs.opened;
      };
      small = h.small;
      others = subst (λ (bs : List Block). OthersRun tree book bs own None) (sym same) h.others;
    }

-- ---- a scope that is left

-- the innermost block of a task is a scope or event: it may be left
pub ready_scope : (fs : List Frame) (f : Frame) → IsScope f → (part : Part) (home : Option ℕ) (own : List Own) (n : ℕ) (tree : Tree) (labels : Labels)
    (book : NurseryBook) → IsChain tree → IsOwn tree → IsApart tree →
    FitsIn (fs ++ f ∷ []) part home own n tree labels book None → Ready home own tree labels
ready_scope fs f is part home own n tree labels book chain owns apart h =
    record {
      some = some;
      innermost =
          λ id e.
          subst (IsInnermost tree) (one_of l.last.id id (sym scope_is ∙ e))
          (innermost_of tree book chain owns apart home (blocks_of fs ++ a_scope ∷ []) l.before l.last None
          (top_of tree chain owns home own l.before l.last l.is (h.runs.scope l.last.id scope_is) h.runs.first scope_is)
          (subst (λ (os : List Own). OthersRun tree book (blocks_of fs ++ a_scope ∷ []) os None) l.is
          (subst (λ (bs : List Block). OthersRun tree book bs own None) blocks h.others))
          (λ r. runs_after book (blocks_of fs) (length l.before) None
          (let e = opened_length labels book (blocks_of fs) l.before inner.outer in omega (arith, e))
          (runs_in_outer book (blocks_of fs) (length l.before) r)));
      labelled = λ id e. subst (λ (k : ℕ). IsSome (labels k)) (one_of l.last.id id (sym scope_is ∙ e)) inner.block;
    }
  where
    blocks : blocks_of (fs ++ f ∷ []) ≡ blocks_of fs ++ a_scope ∷ []
    blocks = blocks_append fs (f ∷ []) ∙ ap (λ (bs : List Block). blocks_of fs ++ bs) (scope_block f is)

    opened : Opened labels book (blocks_of fs ++ a_scope ∷ []) own None
    opened = subst (λ (bs : List Block). Opened labels book bs own None) blocks h.runs.opened

    some : 0 < length own
    some = opened_some labels book (blocks_of fs) own a_scope opened

    l : LastOf own
    l = last_of own some

    inner : Innermost labels book (blocks_of fs) l.before a_scope l.last
    inner = opened_out labels book (blocks_of fs) l.before a_scope l.last
        (subst (λ (os : List Own). Opened labels book (blocks_of fs ++ a_scope ∷ []) os None) l.is opened)

    scope_is : last_or home (ids own) ≡ Some l.last.id
    scope_is = last_pushed home l.before own l.last l.is

-- ---- the tree once the innermost scope was left

-- the innermost scope of the stack of an open home is that home
pub first_key : (tree : Tree) (home : Option ℕ) → IsOwn tree → ForSome home (IsOpen tree) → head_of (keys_of (outer_of tree home)) ≡ home
first_key tree None owns opened = refl
first_key tree (Some k) owns opened = by_stack (stack_of tree k) refl (opened k refl)
  where
    by_label : (st : Stack) → own_label st ≡ Some k → head_of (keys_of st) ≡ Some k
    by_label [] e = e
    by_label (l ∷ ls) e = e

    by_stack : (o : Option Stack) → stack_of tree k ≡ o → IsSome o → head_of (keys_of (unwrap_or o [])) ≡ Some k
    by_stack None e s = absurd (let f : false ≡ true = s in cc)
    by_stack (Some st) e s = by_label st (owns k st e)

-- the first of some keys is among them
pub head_among : (ks : List ℕ) (k : ℕ) → head_of ks ≡ Some k → IsAmong k ks
head_among [] k e = absurd (let f : None ≡ Some k = e in cc)
head_among (x ∷ ks) k e = inl (sym (one_of x k e))

-- each scope around one that was left stays open
pub outer_open : (old new : Tree) → IsChain old → IsOwn old → IsApart old → (home : Option ℕ) (os : List Own) (o : Own) →
    (top : Top old home os o) → OthersKeep old new o.id → (key : ℕ) → IsAmong key (keys_of top.following) → IsOpen new key
outer_open old new chain owns apart home os o top keep key i =
    let named : top.level.label ≡ o.id = one_of _ _ (owns o.id (top.level ∷ top.following) top.at) in
    let at = level_at key top.following i in
    let around : stack_of old at.level.label ≡ Some (at.level ∷ at.following) =
    chain o.id (top.level ∷ top.following) top.at (top.level ∷ at.before) at.level at.following (ap (λ (s : Stack). top.level ∷ s) at.is) in
    let differs : at.level.label ≢ o.id =
    All-head (λ (m : Level ℕ). m.label ≢ o.id) at.level at.following
    (all_after (λ (m : Level ℕ). m.label ≢ o.id) at.before (at.level ∷ at.following)
    (subst (λ (s : Stack). All (λ (m : Level ℕ). m.label ≢ o.id) s) at.is
    (subst (λ (k : ℕ). All (λ (m : Level ℕ). m.label ≢ k) top.following) named
    (apart o.id (top.level ∷ top.following) top.at [] top.level top.following refl)))) in
    subst (IsOpen new) at.named (subst IsSome (sym (keep at.level.label differs ∙ around)) refl)

-- what encloses the scope that was left stays open
pub around_open : (old new : Tree) → IsChain old → IsOwn old → IsApart old → (home : Option ℕ) (os : List Own) (o : Own) →
    ForSome home (IsOpen old) → Top old home os o →
    OthersKeep old new o.id → ForSome (last_or home (ids os)) (IsOpen new)
around_open old new chain owns apart home os o opened top keep id e =
    let first : head_of (keys_of top.following) ≡ Some id =
    ap head_of top.keys ∙ first_is_last os (keys_of (outer_of old home))
    ∙ ap (λ (h : Option ℕ). last_or h (ids os)) (first_key old home owns opened) ∙ e in
    outer_open old new chain owns apart home os o top keep id (head_among (keys_of top.following) id first)
