-- What holds of a task between moves is kept by each.
use Rattle.std.proofs.Common.{◌≡◌, ◌≢◌, ◌⊎◌, inl, inr, ℕ, suc, ◌+◌, ◌<◌, Bool, true, false, ◌==◌, if◌then◌else◌, Option, Some, None, List, [], ◌∷◌, ◌++◌, refl, ap, sym, ◌∙◌, subst, arith}
use Rattle.std.proofs.lemmas.Bool.{eqb-true, eq-eqb}
use Rattle.std.proofs.lemmas.List.Elements.{All-nil, All-cons, All-head, All-tail, All-append}
use Rattle.std.specs.Prelude.{All, IsSome}
use Rattle.std.specs.Option.{IsSomeAnd, ForSome, option_map, unwrap_or}
use Rattle.std.specs.List.{last_or}
use Rattle.turn_semantics.specs.Lists.{IsAmong}
use Rattle.input_lines.specs.Part.{buffer_of}
use Rattle.input_lines.specs.declared.part.Part.{Part}
use Rattle.cancel_scopes.specs.Sight.{Level, earlier}
use Rattle.cancel_scopes.specs.Tree.{Stack, Tree, stack_of, outer_of, IsOpen, IsOwn, IsChain, IsApart, OthersKeep, after_cancel}
use Rattle.exceptions.specs.Exceptions.{Label, Exc}
use Rattle.nursery_book.specs.Nursery.{Nursery as Members, with_body}
use Rattle.nursery_book.specs.Book.{nursery_at, Updates, Changes}
use Rattle.nursery_book.specs.declared.book.NurseryBook.{NurseryBook}
use Rattle.task_machine.specs.declared.frame.Frame.{Frame}
use Rattle.task_machine.specs.declared.frame.Frame.TheVariants.{Nursery}
use Rattle.task_machine.specs.declared.task.Own.{Own}
use Rattle.task_machine.specs.Fitting.{Block, a_scope, a_nursery, blocks_of, received_in, AreOf, AreInRangeFrames, StartsFit, AreOthers, IsMine, IsBlockOf, Opened, AnyRuns, HasRunning, RunsIn, OthersRun, SameKeys, FitsIn}
use Rattle.task_machine.specs.Frames.{frames_of}
use Rattle.task_machine.specs.Labels.{Labels}
use Rattle.task_machine.specs.Labels as label
use Rattle.task_machine.specs.Left.{keys_of, keys_in, OwnFirst}
use Rattle.task_machine.specs.Stacked.{IsKey}
use Rattle.task_machine.proofs.Blocks.{blocks_append, IsScope, scope_block, range_outer, starts_outer, Innermost, opened_in, opened_out, opened_some, opened_waits, StaysBut, opened_stays, runs_in_waits, runs_in_later}
use Rattle.task_machine.proofs.Cancels.{open_around}
use Rattle.task_machine.proofs.Fits.{LastOf, last_of, first_key, head_among, outer_open, around_open}
use Rattle.task_machine.proofs.FrameLemmas.{frames_push, lent_before}
use Rattle.task_machine.proofs.Leaves.{keys_pushed, Top}
use Rattle.task_machine.proofs.Others.{is_mine, among_left, among_right, others_entered, others_left}
use Rattle.task_machine.proofs.OwnLemmas.{ids, last_pushed}
use Rattle.task_machine.proofs.Stacked.{one_of}

-- ---- a scope that is signed

key_after : (key t : ℕ) (l : Level ℕ) (b : Bool) → (if b then record l { from = earlier l.from (Some (t + 1)) } else l).label ≡ l.label
key_after key t l true = refl
key_after key t l false = refl

keys_after : (key t : ℕ) (st : Stack) → keys_of (after_cancel key t st) ≡ keys_of st
keys_after key t [] = refl
keys_after key t (l ∷ ls) =
    ap (λ (k : ℕ). k ∷ keys_of (after_cancel key t ls)) (key_after key t l (l.label == key))
    ∙ ap (λ (ks : List ℕ). l.label ∷ ks) (keys_after key t ls)

-- a cancellation leaves each scope open or closed, inside the same ones
pub signed_keys : (old new : Tree) (id t : ℕ) → ((key : ℕ) → stack_of new key ≡ option_map (after_cancel id t) (stack_of old key)) →
    SameKeys old new
signed_keys old new id t h key = ap (λ (o : Option Stack). option_map keys_of o) (h key) ∙ by_stack (stack_of old key)
  where
    by_stack : (o : Option Stack) → option_map keys_of (option_map (after_cancel id t) o) ≡ option_map keys_of o
    by_stack None = refl
    by_stack (Some st) = ap (λ (ks : List ℕ). Some ks) (keys_after id t st)

is_key : (key : ℕ) (st : Stack) → IsAmong key (keys_of st) → IsKey key st
is_key key [] i = absurd i
is_key key (l ∷ ls) (inl e) = inl e
is_key key (l ∷ ls) (inr i) = inr (is_key key ls i)

among_keys : (key : ℕ) (st : Stack) → IsKey key st → IsAmong key (keys_of st)
among_keys key [] i = absurd i
among_keys key (l ∷ ls) (inl e) = inl e
among_keys key (l ∷ ls) (inr i) = inr (among_keys key ls i)

-- a stack by its keys
same_open : (o p : Option Stack) → option_map keys_of o ≡ option_map keys_of p → IsSome p → IsSome o
same_open None None e s = s
same_open None (Some st) e s = absurd (let f : None ≡ Some (keys_of st) = e in cc)
same_open (Some st) p e s = refl

same_outer : (o p : Option Stack) → option_map keys_of o ≡ option_map keys_of p → keys_of (unwrap_or o []) ≡ keys_of (unwrap_or p [])
same_outer None None e = refl
same_outer None (Some st) e = absurd (let f : None ≡ Some (keys_of st) = e in cc)
same_outer (Some st) None e = absurd (let f : Some (keys_of st) ≡ None = e in cc)
same_outer (Some st) (Some su) e = one_keys (keys_of st) (keys_of su) e
  where
    one_keys : (a b : List ℕ) → Some a ≡ Some b → a ≡ b
    one_keys a b f = cc

keys_around : (old new : Tree) (scope : Option ℕ) → SameKeys old new → keys_of (outer_of new scope) ≡ keys_of (outer_of old scope)
keys_around old new None same = refl
keys_around old new (Some k) same = same_outer (stack_of new k) (stack_of old k) (same k)

others_same : (old new : Tree) (book : NurseryBook) (bs : List Block) (own : List Own) (waits : Option ℕ) → SameKeys old new →
    OthersRun old book bs own waits → OthersRun new book bs own waits
others_same old new book bs own waits same run key st e a i o got within = by_stack (stack_of old key) refl
  where
    by_stack : (p : Option Stack) → stack_of old key ≡ p → RunsIn book bs i waits
    by_stack None f = absurd (let g : Some (keys_of st) ≡ None = sym (ap (option_map keys_of) e) ∙ same key ∙ ap (option_map keys_of) f in
        cc)
    by_stack (Some su) f =
        let keys : keys_of st ≡ keys_of su =
        same_outer (Some st) (Some su) (sym (ap (option_map keys_of) e) ∙ same key ∙ ap (option_map keys_of) f) in
        run key su f a i o got (is_key o.id su (subst (IsAmong o.id) keys (among_keys o.id st within)))

-- what holds of a task is kept where each scope stays open or closed, inside the same ones
pub fits_signed : (fs : List Frame) (part : Part) (home : Option ℕ) (own : List Own) (n : ℕ) (old new : Tree) (labels : Labels)
    (book : NurseryBook) (waits : Option ℕ) → SameKeys old new →
    FitsIn fs part home own n old labels book waits → FitsIn fs part home own n new labels book waits
fits_signed fs part home own n old new labels book waits same h =
    record {
      runs = record {
        in_range = h.runs.in_range;
        lent = h.runs.lent;
        starts = h.runs.starts;
        home = λ k e. same_open (stack_of new k) (stack_of old k) (same k) (h.runs.home k e);
        scope = λ k e. same_open (stack_of new k) (stack_of old k) (same k) (h.runs.scope k e);
        first =
            keys_around old new (last_or home (ids own)) same ∙ h.runs.first
            ∙ ap (λ (ks : List ℕ). keys_in own ++ ks) (sym (keys_around old new home same));
        cancelled_from = h.runs.cancelled_from;
        opened = h.runs.opened;
      };
      small = h.small;
      others = others_same old new book (blocks_of fs) own waits same h.others;
    }

-- ---- a scope that is entered

-- the scopes that a task opened are open
own_open : (tree : Tree) → IsChain tree → (home : Option ℕ) (own : List Own) (key : ℕ) → OwnFirst tree home own →
    IsAmong key (keys_in own) → IsOpen tree key
own_open tree chain home own key first i =
    open_around tree chain (last_or home (ids own)) key
    (is_key key (outer_of tree (last_or home (ids own))) (subst (IsAmong key) (sym first)
    (among_left key (keys_in own) (keys_of (outer_of tree home)) i)))

-- so one that was not open is none of them
pub fresh_others : (tree : Tree) → IsChain tree → (home : Option ℕ) (own : List Own) (key : ℕ) → OwnFirst tree home own →
    stack_of tree key ≡ None → AreOthers key own
fresh_others tree chain home own key first closed = by_owner (is_mine key own)
  where
    by_owner : AreOthers key own ⊎ IsAmong key (keys_in own) → AreOthers key own
    by_owner (inl a) = a
    by_owner (inr i) = absurd (let f : false ≡ true = subst IsSome closed (own_open tree chain home own key first i) in cc)

kept_open : (old new : Tree) (key k : ℕ) → stack_of old key ≡ None → OthersKeep old new key → IsOpen old k → stack_of new k ≡ stack_of old k
kept_open old new key k closed keep opened = keep k differs
  where
    differs : k ≢ key
    differs e = let f : false ≡ true = subst IsSome (ap (stack_of old) e ∙ closed) opened in cc

kept_outer : (old new : Tree) (key : ℕ) (scope : Option ℕ) → stack_of old key ≡ None → OthersKeep old new key → ForSome scope (IsOpen old) →
    outer_of new scope ≡ outer_of old scope
kept_outer old new key None closed keep opened = refl
kept_outer old new key (Some k) closed keep opened =
    ap (λ (o : Option Stack). unwrap_or o []) (kept_open old new key k closed keep (opened k refl))

all_below : (n : ℕ) (own : List Own) → All (λ (o : Own). o.at < n) own → All (λ (o : Own). o.at < suc n) own
all_below n [] a = All-nil (λ (o : Own). o.at < suc n)
all_below n (o ∷ own) a =
    All-cons (λ (x : Own). x.at < suc n) o own (let e = All-head (λ (x : Own). x.at < n) o own a in omega (arith, e))
    (all_below n own (All-tail (λ (x : Own). x.at < n) o own a))

-- what holds of a task is kept when it enters one more block, with a scope that was not open
pub fits_entered : (fs gs : List Frame) (b : Block) (part : Part) (home : Option ℕ) (own : List Own) (o : Own) (n : ℕ) (old new : Tree)
    (labels more : Labels) (book after : NurseryBook) (name : Label)
    (level : Level ℕ) → IsChain old → stack_of old o.id ≡ None → stack_of new o.id ≡ Some (level ∷ outer_of old (last_or home (ids own))) →
    level.label ≡ o.id → OthersKeep old new o.id →
    label.Updates labels more o.id (Some name) → o.at ≡ n → ((id : ℕ) (m : Members) → nursery_at book id ≡ Some m →
    nursery_at after id ≡ Some m) → IsBlockOf more after b o →
    blocks_of gs ≡ blocks_of fs ++ b ∷ [] → AreInRangeFrames (frames_of (λ id. []) gs) → AreOf (buffer_of part) (received_in gs) →
    StartsFit (frames_of (λ id. []) gs) →
    FitsIn fs part home own n old labels book None →
    FitsIn gs part home (own ++ o ∷ []) (suc n) new more after None
fits_entered fs gs b part home own o n old new labels more book after name level chain closed stack named keep u at stay block blocks in_range
    lent starts h =
    record {
      runs = record {
        in_range = in_range;
        lent = lent;
        starts = starts;
        home = λ k e. subst IsSome (sym (kept_open old new o.id k closed keep (h.runs.home k e))) (h.runs.home k e);
        scope = λ k e. subst (IsOpen new) (one_of o.id k (sym last ∙ e)) (subst IsSome (sym stack) refl);
        first = first;
        cancelled_from =
            All-append (λ (x : Own). x.at < suc n) own (o ∷ []) (all_below n own h.runs.cancelled_from)
            (All-cons (λ (x : Own). x.at < suc n) o [] (omega (arith, at)) (All-nil (λ (x : Own). x.at < suc n)));
        opened =
            subst (λ (bs : List Block). Opened more after bs (own ++ o ∷ []) None) (sym blocks)
            (opened_in more after (blocks_of fs) own b o
            (opened_stays labels more book after o.id (blocks_of fs) own
            (record { named = u.others; nurseries = λ id m e differs. stay id m e }) apart h.runs.opened) block apart);
      };
      small = h.small;
      others =
          subst (λ (bs : List Block). OthersRun new after bs (own ++ o ∷ []) None) (sym blocks)
          (others_entered old new book after chain (blocks_of fs) own b o closed keep run h.others);
    }
  where
    last : last_or home (ids (own ++ o ∷ [])) ≡ Some o.id
    last = last_pushed home own (own ++ o ∷ []) o refl

    apart : AreOthers o.id own
    apart = fresh_others old chain home own o.id h.runs.first closed

    first : OwnFirst new home (own ++ o ∷ [])
    first =
        ap (λ (s : Option ℕ). keys_of (outer_of new s)) last ∙ ap (λ (p : Option Stack). keys_of (unwrap_or p [])) stack
        ∙ ap (λ (k : ℕ). k ∷ keys_of (outer_of old (last_or home (ids own)))) named ∙ ap (λ (ks : List ℕ). o.id ∷ ks) h.runs.first
        ∙ ap (λ (ks : List ℕ). ks ++ keys_of (outer_of old home)) (sym (keys_pushed own o))
        ∙ ap (λ (st : Stack). keys_in (own ++ o ∷ []) ++ keys_of st) (sym (kept_outer old new o.id home closed keep h.runs.home))

    run : (id : ℕ) → HasRunning book (Some id) → HasRunning after (Some id)
    run id r = by_nursery (nursery_at book id) refl r
      where
        by_nursery : (m : Option Members) → nursery_at book id ≡ m → IsSomeAnd m (λ n. AnyRuns n.children) → HasRunning after (Some id)
        by_nursery None e r = absurd r
        by_nursery (Some n) e r = subst (λ (m : Option Members). IsSomeAnd m (λ n. AnyRuns n.children)) (sym (stay id n e)) r

-- ---- a scope that is left

-- if the places of all scopes of a task are below a number, so are those without the last
pub first_below : (n : ℕ) (own : List Own) (o : Own) → All (λ (x : Own). x.at < n) (own ++ o ∷ []) → All (λ (x : Own). x.at < n) own
first_below n [] o a = All-nil (λ (x : Own). x.at < n)
first_below n (x ∷ own) o a =
    All-cons (λ (y : Own). y.at < n) x own (All-head (λ (y : Own). y.at < n) x (own ++ o ∷ []) a)
    (first_below n own o (All-tail (λ (y : Own). y.at < n) x (own ++ o ∷ []) a))

-- what encloses the innermost scope stays open when that is closed
after_open : (old new : Tree) → IsChain old → IsOwn old → IsApart old → (home : Option ℕ) (os : List Own) (o : Own) → Top old home os o →
    OthersKeep old new o.id → (key : ℕ) →
    IsAmong key (keys_of (outer_of old home)) → IsOpen new key
after_open old new chain owns apart home os o top keep key i =
    outer_open old new chain owns apart home os o top keep key
    (subst (IsAmong key) (sym top.keys) (among_right key (keys_in os) (keys_of (outer_of old home)) i))

-- the home of a task stays open when the innermost of its scopes is closed
pub home_open : (old new : Tree) → IsChain old → IsOwn old → IsApart old → (home : Option ℕ) (os : List Own) (o : Own) → Top old home os o →
    OthersKeep old new o.id →
    ForSome home (IsOpen old) → ForSome home (IsOpen new)
home_open old new chain owns apart home os o top keep opened key e =
    after_open old new chain owns apart home os o top keep key (head_among (keys_of (outer_of old home)) key
    (first_key old home owns opened ∙ e))

-- what holds of a task is kept when it leaves its innermost block, a scope or event
pub fits_left : (fs : List Frame) (f : Frame) → IsScope f → (part : Part) (home : Option ℕ) (os : List Own) (o : Own) (n : ℕ) (old new : Tree)
    (labels more : Labels) (book : NurseryBook) → IsChain old → IsOwn old →
    IsApart old → Top old home os o → stack_of new o.id ≡ None → OthersKeep old new o.id → label.Updates labels more o.id None →
    OwnFirst new home os →
    FitsIn (fs ++ f ∷ []) part home (os ++ o ∷ []) n old labels book None → FitsIn fs part home os n new more book None
fits_left fs f is part home os o n old new labels more book chain owns apart top closed keep u first h =
    record {
      runs = record {
        in_range = range_outer (λ id. []) f _ is (subst AreInRangeFrames (frames_push (λ id. []) fs f) h.runs.in_range);
        lent = lent_before (buffer_of part) fs f h.runs.lent;
        starts = starts_outer (λ id. []) f _ is (subst StartsFit (frames_push (λ id. []) fs f) h.runs.starts);
        home = home_open old new chain owns apart home os o top keep h.runs.home;
        scope = around_open old new chain owns apart home os o h.runs.home top keep;
        first = first;
        cancelled_from = first_below n os o h.runs.cancelled_from;
        opened = opened_stays labels more book book o.id (blocks_of fs) os (record { named = u.others; nurseries = λ id m e differs. e })
            inner.others inner.outer;
      };
      small = h.small;
      others = others_left old new book book (blocks_of fs) os o closed keep refl
          (subst (λ (bs : List Block). OthersRun old book bs (os ++ o ∷ []) None) blocks h.others);
    }
  where
    blocks : blocks_of (fs ++ f ∷ []) ≡ blocks_of fs ++ a_scope ∷ []
    blocks = blocks_append fs (f ∷ []) ∙ ap (λ (bs : List Block). blocks_of fs ++ bs) (scope_block f is)

    inner : Innermost labels book (blocks_of fs) os a_scope o
    inner = opened_out labels book (blocks_of fs) os a_scope o (subst (λ (bs : List Block). Opened labels book bs (os ++ o ∷ []) None)
        blocks h.runs.opened)

-- ---- a nursery whose body ended

-- the nursery of a key changed, and others stay: those of other scopes stay too
pub stays_but : (labels : Labels) (book after : NurseryBook) (id : ℕ) (o : Own) (m : Members) → nursery_at book id ≡ Some m →
    m.scope ≡ o.id →
    ((other : ℕ) → other ≢ id → nursery_at after other ≡ nursery_at book other) → StaysBut labels labels book after o.id
stays_but labels book after id o m was mine others =
    record { named = λ other differs. refl; nurseries = λ other n e differs. others other (λ f. differs (same other n e f)) ∙ e }
  where
    same : (other : ℕ) (n : Members) → nursery_at book other ≡ Some n → other ≡ id → n.scope ≡ o.id
    same other n e f = ap (λ (x : Members). x.scope) (one_of n m (sym e ∙ ap (nursery_at book) f ∙ was)) ∙ mine

-- a task with the innermost of its blocks and the scope of that
pub record Inside (fs : List Frame) (part : Part) (home : Option ℕ) (n : ℕ) (tree : Tree) (labels : Labels) (book : NurseryBook) (id : ℕ)
    (own : List Own) : Type 0 where
  pub last : LastOf own
  pub members : Members
  pub at : nursery_at book id ≡ Some members
  pub mine : IsMine labels last.last members
  pub runs : members.body ≡ None
  pub apart : AreOthers last.last.id last.before
  pub outer : Opened labels book (blocks_of fs) last.before None

-- a task whose innermost block is a nursery opened its scope last, and the body of the nursery runs
pub inside_of : (fs : List Frame) (id : ℕ) (part : Part) (home : Option ℕ) (own : List Own) (n : ℕ) (tree : Tree) (labels : Labels)
    (book : NurseryBook) →
    FitsIn (fs ++ Nursery id ∷ []) part home own n tree labels book None → Inside fs part home n tree labels book id own
inside_of fs id part home own n tree labels book h = by_nursery (nursery_at book id) refl inner.block
  where
    opened : Opened labels book (blocks_of fs ++ a_nursery id ∷ []) own None
    opened = subst (λ (bs : List Block). Opened labels book bs own None) (blocks_append fs (Nursery id ∷ [])) h.runs.opened

    l : LastOf own
    l = last_of own (opened_some labels book (blocks_of fs) own (a_nursery id) opened)

    inner : Innermost labels book (blocks_of fs) l.before (a_nursery id) l.last
    inner = opened_out labels book (blocks_of fs) l.before (a_nursery id) l.last
        (subst (λ (os : List Own). Opened labels book (blocks_of fs ++ a_nursery id ∷ []) os None) l.is opened)

    by_nursery : (m : Option Members) → nursery_at book id ≡ m → IsSomeAnd m (λ n. IsMine labels l.last n × (n.body ≡ None)) →
        Inside fs part home n tree labels book id own
    by_nursery None e i = absurd i
    by_nursery (Some m) e i = record { last = l; members = m; at = e; mine = i.0; runs = i.1; apart = inner.others; outer = inner.outer }

-- what holds of a task is kept when the body of its innermost nursery ends, and it waits for that one
pub fits_awaits : (fs : List Frame) (id : ℕ) (part : Part) (home : Option ℕ) (own : List Own) (n : ℕ) (tree : Tree) (labels : Labels)
    (book after : NurseryBook) (exc : Option Exc) (moment : ℕ) →
    Changes book after id (with_body exc moment) → FitsIn (fs ++ Nursery id ∷ []) part home own n tree labels book None →
    FitsIn fs part home own n tree labels after (Some id)
fits_awaits fs id part home own n tree labels book after exc moment changes h =
    record {
      runs = record {
        in_range = subst AreInRangeFrames (frames_push (λ key. []) fs (Nursery id)) h.runs.in_range;
        lent = lent_before (buffer_of part) fs (Nursery id) h.runs.lent;
        starts = subst StartsFit (frames_push (λ key. []) fs (Nursery id)) h.runs.starts;
        home = h.runs.home;
        scope = h.runs.scope;
        first = h.runs.first;
        cancelled_from = h.runs.cancelled_from;
        opened =
            subst (λ (os : List Own). Opened labels after (blocks_of fs) os (Some id)) (sym i.last.is)
            (opened_waits labels after (blocks_of fs) i.last.before id i.last.last
            (opened_stays labels labels book after i.last.last.id (blocks_of fs) i.last.before
            (stays_but labels book after id i.last.last i.members i.at i.mine.scope u.others) i.apart i.outer) i.apart
            (subst (λ (m : Option Members). IsSomeAnd m (λ n. IsMine labels i.last.last n × IsSome n.body)) (sym u.changed)
            (record { scope = i.mine.scope; label = i.mine.label }, refl)));
      };
      small = h.small;
      others =
          λ key st e a at o got within.
          runs_in_later book after (blocks_of fs) at (Some id) run
          (runs_in_waits book (blocks_of fs) id at (subst (λ (bs : List Block). RunsIn book bs at None) (blocks_append fs (Nursery id ∷ []))
          (h.others key st e a at o got within)));
    }
  where
    i : Inside fs part home n tree labels book id own
    i = inside_of fs id part home own n tree labels book h

    u : Updates book after id (Some (with_body exc moment i.members))
    u = subst (λ (m : Option Members). IsSomeAnd m (λ x. Updates book after id (Some (with_body exc moment x)))) i.at changes

    run : (key : ℕ) → HasRunning book (Some key) → HasRunning after (Some key)
    run key r = by_key (key == id) refl
      where
        by_key : (b : Bool) → (key == id) ≡ b → HasRunning after (Some key)
        by_key true e =
            subst (λ (k : ℕ). HasRunning after (Some k)) (sym (eqb-true key id e))
            (subst (λ (m : Option Members). IsSomeAnd m (λ x. AnyRuns x.children)) (sym u.changed)
            (subst (λ (m : Option Members). IsSomeAnd m (λ x. AnyRuns x.children)) i.at
            (subst (λ (k : ℕ). HasRunning book (Some k)) (eqb-true key id e) r)))
        by_key false e =
            subst (λ (m : Option Members). IsSomeAnd m (λ x. AnyRuns x.children))
            (sym (u.others key (λ f. absurd (let g : true ≡ false = sym (eq-eqb key id f) ∙ e in cc)))) r
