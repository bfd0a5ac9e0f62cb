-- A nursery that a task waits for is settled, and one that gets children.
use Rattle.std.proofs.Common.{◌≡◌, ◌≢◌, inl, inr, ℕ, zero, suc, ◌<◌, Bool, true, false, ◌&&◌, ◌==◌, Option, Some, None, List, [], ◌∷◌, ◌++◌, length, refl, ap, sym, ◌∙◌, subst, arith}
use Rattle.std.proofs.lemmas.Bool.{eqb-true, eq-eqb}
use Rattle.std.proofs.lemmas.List.Elements.{All-nil, All-cons}
use Rattle.std.specs.Prelude.{IsSome, is_some}
use Rattle.std.specs.Option.{IsSomeAnd}
use Rattle.std.specs.List.{last_or, list_all}
use Rattle.input_lines.specs.declared.part.Part.{Part}
use Rattle.cancel_scopes.specs.Tree.{Stack, Tree, stack_of, IsOwn, IsChain, IsApart, IsInnermost, OthersKeep}
use Rattle.nursery_book.specs.Nursery.{End, Nursery as Members, is_settled}
use Rattle.nursery_book.specs.Book.{nursery_at, HasNursery, Updates}
use Rattle.nursery_book.specs.declared.book.NurseryBook.{NurseryBook}
use Rattle.task_machine.specs.declared.frame.Frame.{Frame}
use Rattle.task_machine.specs.declared.task.Own.{Own}
use Rattle.task_machine.specs.Fitting.{Block, a_scope, a_nursery, blocks_of, AreOthers, IsMine, IsBlockOf, Opened, AnyRuns, HasRunning, RunsIn, OthersRun, FitsIn}
use Rattle.task_machine.specs.Labels.{Labels}
use Rattle.task_machine.specs.Labels as label
use Rattle.task_machine.specs.Left.{OwnFirst}
use Rattle.task_machine.proofs.Blocks.{last_else, first_else, opened_length, opened_stays, runs_after, runs_in_later}
use Rattle.task_machine.proofs.Fits.{LastOf, last_of, Ready, around_open}
use Rattle.task_machine.proofs.Kept.{stays_but, first_below, home_open}
use Rattle.task_machine.proofs.Leaves.{Top, top_of}
use Rattle.task_machine.proofs.Others.{got_before, others_but, innermost_of}
use Rattle.task_machine.proofs.OwnLemmas.{ids, last_pushed}
use Rattle.task_machine.proofs.Stacked.{one_of}

-- the nursery that is waited for has the innermost scope
pub record Awaited (labels : Labels) (book : NurseryBook) (bs : List Block) (os : List Own) (o : Own) (id : ℕ) : Type 0 where
  pub nursery : HasNursery book id (λ n. IsMine labels o n × IsSome n.body)
  pub apart : AreOthers o.id os
  pub outer : Opened labels book bs os None

-- a task that waits for a nursery opened its scope last, and the others are those of its blocks
pub awaited_of : (labels : Labels) (book : NurseryBook) (bs : List Block) (os : List Own) (o : Own) (id : ℕ) →
    Opened labels book bs (os ++ o ∷ []) (Some id) → Awaited labels book bs os o id
awaited_of labels book [] [] o id h = record { nursery = h.1; apart = All-nil (λ (x : Own). x.id ≢ o.id); outer = tt }
awaited_of labels book [] (x ∷ []) o id h = absurd (let e : o ∷ [] ≡ [] = h.0 in cc)
awaited_of labels book [] (x ∷ y ∷ os) o id h = absurd (let e : y ∷ (os ++ o ∷ []) ≡ [] = h.0 in cc)
awaited_of labels book (c ∷ []) [] o id h = absurd h.2
awaited_of labels book (c ∷ d ∷ bs) [] o id h = absurd h.2
awaited_of labels book (c ∷ bs) (x ∷ os) o id h =
    let inner = awaited_of labels book bs os o id h.2 in
    record {
      nursery = inner.nursery;
      apart = All-cons (λ (y : Own). y.id ≢ o.id) x os (λ f. last_else os o x.id h.1 (sym f)) inner.apart;
      outer = (h.0, first_else os o x.id h.1, inner.outer);
    }

awaited_some : (labels : Labels) (book : NurseryBook) (bs : List Block) (own : List Own) (id : ℕ) → Opened labels book bs own (Some id) →
    0 < length own
awaited_some labels book [] [] id h = absurd h
awaited_some labels book (c ∷ bs) [] id h = absurd h
awaited_some labels book bs (x ∷ own) id h = omega arith

-- no child of a settled nursery runs
all_ended : (es : List End) → list_all is_some es ≡ true → AnyRuns es → ⊥
all_ended [] e r = r
all_ended (None ∷ es) e r = (let f : false ≡ true = e in absurd (cc))
all_ended (Some x ∷ es) e r = all_ended es e r

-- no child runs in a nursery that is settled
pub settled_quiet : (book : NurseryBook) (id : ℕ) → HasNursery book id (λ n. is_settled n ≡ true) → HasRunning book (Some id) → ⊥
settled_quiet book id s r = by_nursery (nursery_at book id) s r
  where
    by_body : (b : Bool) (es : List End) → (b && list_all is_some es) ≡ true → AnyRuns es → ⊥
    by_body true es e r = all_ended es e r
    by_body false es e r = absurd (let f : false ≡ true = e in cc)

    by_nursery : (m : Option Members) → IsSomeAnd m (λ n. is_settled n ≡ true) → IsSomeAnd m (λ n. AnyRuns n.children) → ⊥
    by_nursery None s r = s
    by_nursery (Some n) s r = by_body (is_some n.body) n.children s r

-- it may be left
pub ready_settled : (fs : List Frame) (id : ℕ) (part : Part) (home : Option ℕ) (own : List Own) (n : ℕ) (tree : Tree) (labels : Labels)
    (book : NurseryBook) → IsChain tree → IsOwn tree → IsApart tree →
    HasNursery book id (λ m. is_settled m ≡ true) → FitsIn fs part home own n tree labels book (Some id) → Ready home own tree labels
ready_settled fs id part home own n tree labels book chain owns apart settled h =
    record {
      some = some;
      innermost =
          λ key e.
          subst (IsInnermost tree) (one_of l.last.id key (sym scope_is ∙ e))
          (innermost_of tree book chain owns apart home (blocks_of fs) l.before l.last (Some id)
          (top_of tree chain owns home own l.before l.last l.is (h.runs.scope l.last.id scope_is) h.runs.first scope_is)
          (subst (λ (os : List Own). OthersRun tree book (blocks_of fs) os (Some id)) l.is h.others)
          (λ r. settled_quiet book id settled (runs_after book (blocks_of fs) (length l.before) (Some id)
          (let e = opened_length labels book (blocks_of fs) l.before at.outer in omega (arith, e)) r)));
      labelled = λ key e. subst (λ (k : ℕ). IsSome (labels k)) (one_of l.last.id key (sym scope_is ∙ e))
          (has_label (nursery_at book id) at.nursery);
    }
  where
    some : 0 < length own
    some = awaited_some labels book (blocks_of fs) own id h.runs.opened

    l : LastOf own
    l = last_of own some

    at : Awaited labels book (blocks_of fs) l.before l.last id
    at = awaited_of labels book (blocks_of fs) l.before l.last id
        (subst (λ (os : List Own). Opened labels book (blocks_of fs) os (Some id)) l.is h.runs.opened)

    scope_is : last_or home (ids own) ≡ Some l.last.id
    scope_is = last_pushed home l.before own l.last l.is

    has_label : (m : Option Members) → IsSomeAnd m (λ x. IsMine labels l.last x × IsSome x.body) → IsSome (labels l.last.id)
    has_label None i = absurd i
    has_label (Some x) i = subst IsSome (sym i.0.label) refl

runs_unless : (book : NurseryBook) (bs : List Block) (i id : ℕ) → (HasRunning book (Some id) → ⊥) → RunsIn book bs i (Some id) →
    RunsIn book bs i None
runs_unless book [] i id quiet r = quiet r
runs_unless book (a_scope ∷ bs) zero id quiet r = runs_unless book bs zero id quiet r
runs_unless book (a_nursery key ∷ bs) zero id quiet (inl r) = inl r
runs_unless book (a_nursery key ∷ bs) zero id quiet (inr r) = inr (runs_unless book bs zero id quiet r)
runs_unless book (a_scope ∷ bs) (suc i) id quiet r = runs_unless book bs i id quiet r
runs_unless book (a_nursery key ∷ bs) (suc i) id quiet r = runs_unless book bs i id quiet r

-- once it was closed and left
pub fits_settled : (fs : List Frame) (id : ℕ) (part : Part) (home : Option ℕ) (os : List Own) (o : Own) (n : ℕ) (old new : Tree)
    (labels more : Labels) (book after : NurseryBook) → IsChain old → IsOwn old →
    IsApart old → Top old home os o → stack_of new o.id ≡ None → OthersKeep old new o.id → label.Updates labels more o.id None →
    OwnFirst new home os →
    HasNursery book id (λ m. is_settled m ≡ true) → Updates book after id None →
    FitsIn fs part home (os ++ o ∷ []) n old labels book (Some id) → FitsIn fs part home os n new more after None
fits_settled fs id part home os o n old new labels more book after chain owns apart top closed keep u first settled ended h =
    record {
      runs = record {
        in_range = h.runs.in_range;
        lent = h.runs.lent;
        starts = h.runs.starts;
        home = home_open old new chain owns apart home os o top keep h.runs.home;
        scope = around_open old new chain owns apart home os o h.runs.home top keep;
        first = first;
        cancelled_from = first_below n os o h.runs.cancelled_from;
        opened = by_nursery (nursery_at book id) refl at.nursery;
      };
      small = h.small;
      others =
          λ key st e a i x got within.
          runs_in_later book after (blocks_of fs) i None run
          (runs_unless book (blocks_of fs) i id (settled_quiet book id settled)
          (h.others key st (sym (keep key (differs key st e)) ∙ e) (others_but key os o a (λ f. differs key st e (sym f))) i x
          (got_before os o x i got) within));
    }
  where
    at : Awaited labels book (blocks_of fs) os o id
    at = awaited_of labels book (blocks_of fs) os o id h.runs.opened

    differs : (key : ℕ) (st : Stack) → stack_of new key ≡ Some st → key ≢ o.id
    differs key st e f = let g : None ≡ Some st = sym closed ∙ sym (ap (stack_of new) f) ∙ e in cc

    by_nursery : (m : Option Members) → nursery_at book id ≡ m → IsSomeAnd m (λ x. IsMine labels o x × IsSome x.body) →
        Opened more after (blocks_of fs) os None
    by_nursery None e i = absurd i
    by_nursery (Some m) e i =
        let s = stays_but labels book after id o m e i.0.scope ended.others in
        opened_stays labels more book after o.id (blocks_of fs) os (record { named = u.others; nurseries = s.nurseries }) at.apart at.outer

    run : (key : ℕ) → HasRunning book (Some key) → HasRunning after (Some key)
    run key r =
        subst (λ (m : Option Members). IsSomeAnd m (λ x. AnyRuns x.children))
        (sym (ended.others key (λ f. settled_quiet book id settled (subst (λ (k : ℕ). HasRunning book (Some k)) f r)))) r

-- ---- children are started

any_more : (es more : List End) → AnyRuns es → AnyRuns (es ++ more)
any_more [] more r = absurd r
any_more (None ∷ es) more r = tt
any_more (Some e ∷ es) more r = any_more es more r

block_more : (labels : Labels) (book after : NurseryBook) (id : ℕ) (m : Members) (more : List End) (b : Block) (o : Own) →
    nursery_at book id ≡ Some m →
    Updates book after id (Some (record m { children = m.children ++ more })) → IsBlockOf labels book b o → IsBlockOf labels after b o
block_more labels book after id m more a_scope o was u i = i
block_more labels book after id m more (a_nursery key) o was u i = by_key (key == id) refl
  where
    Mine : Option Members → Type 0
    Mine p = IsSomeAnd p (λ x. IsMine labels o x × (x.body ≡ None))

    by_key : (b : Bool) → (key == id) ≡ b → Mine (nursery_at after key)
    by_key true e =
        let same = eqb-true key id e in
        let mine : Mine (Some m) = subst Mine (ap (nursery_at book) same ∙ was) i in
        subst Mine (sym (ap (nursery_at after) same ∙ u.changed)) (record { scope = mine.0.scope; label = mine.0.label }, mine.1)
    by_key false e = subst Mine (sym (u.others key (λ f. absurd (let g : true ≡ false = sym (eq-eqb key id f) ∙ e in cc)))) i

opened_more : (labels : Labels) (book after : NurseryBook) (id : ℕ) (m : Members) (more : List End) (bs : List Block) (own : List Own) →
    nursery_at book id ≡ Some m →
    Updates book after id (Some (record m { children = m.children ++ more })) → Opened labels book bs own None →
    Opened labels after bs own None
opened_more labels book after id m more [] [] was u h = tt
opened_more labels book after id m more [] (x ∷ own) was u h = absurd h
opened_more labels book after id m more (b ∷ bs) [] was u h = absurd h
opened_more labels book after id m more (b ∷ bs) (x ∷ own) was u h =
    (block_more labels book after id m more b x was u h.0, h.1, opened_more labels book after id m more bs own was u h.2)

-- what holds of a task is kept when a nursery gets more children
pub fits_started : (fs : List Frame) (id : ℕ) (part : Part) (home : Option ℕ) (own : List Own) (n : ℕ) (tree : Tree) (labels : Labels)
    (book after : NurseryBook) (m : Members) (more : List End) →
    nursery_at book id ≡ Some m → Updates book after id (Some (record m { children = m.children ++ more })) →
    FitsIn fs part home own n tree labels book None →
    FitsIn fs part home own n tree labels after None
fits_started fs id part home own n tree labels book after m more was u h =
    record {
      runs = record {
        in_range = h.runs.in_range;
        lent = h.runs.lent;
        starts = h.runs.starts;
        home = h.runs.home;
        scope = h.runs.scope;
        first = h.runs.first;
        cancelled_from = h.runs.cancelled_from;
        opened = opened_more labels book after id m more (blocks_of fs) own was u h.runs.opened;
      };
      small = h.small;
      others = λ key st e a i o got within. runs_in_later book after (blocks_of fs) i None run (h.others key st e a i o got within);
    }
  where
    Runs : Option Members → Type 0
    Runs p = IsSomeAnd p (λ x. AnyRuns x.children)

    run : (key : ℕ) → HasRunning book (Some key) → HasRunning after (Some key)
    run key r = by_key (key == id) refl
      where
        by_key : (b : Bool) → (key == id) ≡ b → Runs (nursery_at after key)
        by_key true e =
            let same = eqb-true key id e in
            subst Runs (sym (ap (nursery_at after) same ∙ u.changed)) (any_more m.children more
            (subst Runs (ap (nursery_at book) same ∙ was) r))
        by_key false e = subst Runs (sym (u.others key (λ f. absurd (let g : true ≡ false = sym (eq-eqb key id f) ∙ e in cc)))) r
