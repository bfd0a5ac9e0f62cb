-- Scopes of other tasks and scopes of a task that enclose one another.
use Rattle.std.proofs.Common.{◌≡◌, ◌≢◌, ◌⊎◌, inl, inr, ℕ, zero, suc, Bool, true, false, ◌==◌, Option, Some, None, List, [], ◌∷◌, ◌++◌, length, refl, ap, sym, ◌∙◌, subst}
use Rattle.std.proofs.lemmas.Bool.{eqb-true, eq-eqb}
use Rattle.std.proofs.lemmas.List.Elements.{All-nil, All-cons, All-head, All-tail, All-append}
use Rattle.std.specs.Prelude.{All, IsSome, slice_get}
use Rattle.std.specs.Option.{unwrap_or}
use Rattle.turn_semantics.specs.Lists.{IsAmong}
use Rattle.cancel_scopes.specs.Sight.{Level}
use Rattle.cancel_scopes.specs.Tree.{Stack, Tree, stack_of, outer_of, IsOpen, IsOwn, IsChain, IsApart, IsInnermost, OthersKeep}
use Rattle.nursery_book.specs.declared.book.NurseryBook.{NurseryBook}
use Rattle.task_machine.specs.declared.task.Own.{Own}
use Rattle.task_machine.specs.Fitting.{Block, a_scope, AreOthers, HasRunning, RunsIn, OthersRun}
use Rattle.task_machine.specs.Left.{keys_of, keys_in}
use Rattle.task_machine.specs.Stacked.{IsKey}
use Rattle.task_machine.proofs.Blocks.{runs_in_more, runs_in_outer, runs_in_later}
use Rattle.task_machine.proofs.Cancels.{open_around}
use Rattle.task_machine.proofs.Leaves.{Top}
use Rattle.task_machine.proofs.Stacked.{one_of}

-- ---- indices in lists

-- a key of the first of two lists is in both together
pub among_left : (k : ℕ) (ks ms : List ℕ) → IsAmong k ks → IsAmong k (ks ++ ms)
among_left k [] ms i = absurd i
among_left k (x ∷ ks) ms (inl e) = inl e
among_left k (x ∷ ks) ms (inr i) = inr (among_left k ks ms i)

-- a key of the second of two lists is in both together
pub among_right : (k : ℕ) (ks ms : List ℕ) → IsAmong k ms → IsAmong k (ks ++ ms)
among_right k [] ms i = i
among_right k (x ∷ ks) ms i = inr (among_right k ks ms i)

-- a key is that of one of a task's scopes, or of none
pub is_mine : (key : ℕ) (own : List Own) → AreOthers key own ⊎ IsAmong key (keys_in own)
is_mine key [] = inl (All-nil (λ (o : Own). o.id ≢ key))
is_mine key (o ∷ own) = by_test (o.id == key) refl (is_mine key own)
  where
    by_test : (b : Bool) → (o.id == key) ≡ b → AreOthers key own ⊎ IsAmong key (keys_in own) → AreOthers key (o ∷ own)
        ⊎ IsAmong key (keys_in own ++ o.id ∷ [])
    by_test true e h = inr (among_right key (keys_in own) (o.id ∷ []) (inl (sym (eqb-true o.id key e))))
    by_test false e (inl a) =
        inl (All-cons (λ (x : Own). x.id ≢ key) o own (λ f. absurd (let g : true ≡ false = sym (eq-eqb o.id key f) ∙ e in cc)) a)
    by_test false e (inr i) = inr (among_left key (keys_in own) (o.id ∷ []) i)

-- a key among those of a stack has its level
pub record LevelAt (key : ℕ) (st : Stack) : Type 0 where
  pub before : Stack
  pub level : Level ℕ
  pub following : Stack
  pub is : st ≡ before ++ level ∷ following
  pub named : level.label ≡ key

-- a key among those of a stack is that of one of its levels
pub level_at : (key : ℕ) (st : Stack) → IsAmong key (keys_of st) → LevelAt key st
level_at key [] i = absurd i
level_at key (l ∷ ls) (inl e) = record { before = []; level = l; following = ls; is = refl; named = sym e }
level_at key (l ∷ ls) (inr i) =
    let at = level_at key ls i in
    record { before = l ∷ at.before; level = at.level; following = at.following; is = ap (λ (st : Stack). l ∷ st) at.is; named = at.named }

-- what holds for each level of a stack holds for each after the first of them
pub all_after : (P : Level ℕ → Type 0) (before st : Stack) → All P (before ++ st) → All P st
all_after P [] st a = a
all_after P (l ∷ before) st a = all_after P before st (All-tail P l (before ++ st) a)

all_else : (key : ℕ) (st : Stack) → (IsKey key st → ⊥) → All (λ (l : Level ℕ). l.label ≢ key) st
all_else key [] never = All-nil (λ (l : Level ℕ). l.label ≢ key)
all_else key (l ∷ ls) never = All-cons (λ (m : Level ℕ). m.label ≢ key) l ls (λ e. never (inl (sym e)))
    (all_else key ls (λ i. never (inr i)))

-- a scope of a task has the same index if one more is added after them
pub got_before : (own : List Own) (o x : Own) (i : ℕ) → slice_get own i ≡ Some x → slice_get (own ++ o ∷ []) i ≡ Some x
got_before [] o x i e = absurd (let f : None ≡ Some x = e in cc)
got_before (y ∷ own) o x zero e = e
got_before (y ∷ own) o x (suc i) e = got_before own o x i e

got_last : (own : List Own) (o : Own) → slice_get (own ++ o ∷ []) (length own) ≡ Some o
got_last [] o = refl
got_last (y ∷ own) o = got_last own o

got_one : (own : List Own) (o x : Own) (i : ℕ) → slice_get (own ++ o ∷ []) i ≡ Some x → (slice_get own i ≡ Some x) ⊎ (o ≡ x)
got_one [] o x zero e = inr (let f : Some o ≡ Some x = e in cc)
got_one [] o x (suc i) e = absurd (let f : None ≡ Some x = e in cc)
got_one (y ∷ own) o x zero e = inl e
got_one (y ∷ own) o x (suc i) e = got_one own o x i e

-- a key that is none of a task's scopes is none with one more, which has another
pub others_but : (key : ℕ) (own : List Own) (o : Own) → AreOthers key own → o.id ≢ key → AreOthers key (own ++ o ∷ [])
others_but key own o a differs = All-append (λ (x : Own). x.id ≢ key) own (o ∷ []) a
    (All-cons (λ (x : Own). x.id ≢ key) o [] differs (All-nil (λ (x : Own). x.id ≢ key)))

others_first : (key : ℕ) (own : List Own) (o : Own) → AreOthers key (own ++ o ∷ []) → AreOthers key own
others_first key [] o a = All-nil (λ (x : Own). x.id ≢ key)
others_first key (y ∷ own) o a =
    All-cons (λ (x : Own). x.id ≢ key) y own (All-head (λ (x : Own). x.id ≢ key) y (own ++ o ∷ []) a)
    (others_first key own o (All-tail (λ (x : Own). x.id ≢ key) y (own ++ o ∷ []) a))

others_last : (key : ℕ) (own : List Own) (o : Own) → AreOthers key (own ++ o ∷ []) → o.id ≢ key
others_last key [] o a = All-head (λ (x : Own). x.id ≢ key) o [] a
others_last key (y ∷ own) o a = others_last key own o (All-tail (λ (x : Own). x.id ≢ key) y (own ++ o ∷ []) a)

-- ---- the innermost scope of a task is left only when no other task's scope is inside

-- none of the task's own scopes is enclosed by the last one
not_mine : (tree : Tree) → IsChain tree → IsOwn tree → IsApart tree → (home : Option ℕ) (os : List Own) (o : Own) → Top tree home os o →
    (other : ℕ) (st : Stack) →
    IsAmong other (keys_in os) → stack_of tree other ≡ Some st → All (λ (l : Level ℕ). l.label ≢ o.id) st
not_mine tree chain owns apart home os o top other st i e =
    let named : top.level.label ≡ o.id = one_of _ _ (owns o.id (top.level ∷ top.following) top.at) in
    let at = level_at other top.following (subst (λ (ks : List ℕ). IsAmong other ks) (sym top.keys)
    (among_left other (keys_in os) (keys_of (outer_of tree home)) i)) in
    let around : stack_of tree at.level.label ≡ Some (at.level ∷ at.following) =
    chain o.id (top.level ∷ top.following) top.at (top.level ∷ at.before) at.level at.following (ap (λ (s : Stack). top.level ∷ s) at.is) in
    let same : at.level ∷ at.following ≡ st = one_stack _ _ (sym around ∙ ap (stack_of tree) at.named ∙ e) in
    subst (λ (s : Stack). All (λ (l : Level ℕ). l.label ≢ o.id) s) same
    (all_after (λ (l : Level ℕ). l.label ≢ o.id) at.before (at.level ∷ at.following)
    (subst (λ (s : Stack). All (λ (l : Level ℕ). l.label ≢ o.id) s) at.is
    (subst (λ (k : ℕ). All (λ (l : Level ℕ). l.label ≢ k) top.following) named
    (apart o.id (top.level ∷ top.following) top.at [] top.level top.following refl))))
  where
    one_stack : (a b : Stack) → Some a ≡ Some b → a ≡ b
    one_stack a b f = cc

-- no open scope is enclosed by a task's last one, if no child of the task runs inside that
pub innermost_of : (tree : Tree) (book : NurseryBook) → IsChain tree → IsOwn tree → IsApart tree →
    (home : Option ℕ) (bs : List Block) (os : List Own) (o : Own) (waits : Option ℕ) →
    Top tree home os o → OthersRun tree book bs (os ++ o ∷ []) waits → (RunsIn book bs (length os) waits → ⊥) → IsInnermost tree o.id
innermost_of tree book chain owns apart home bs os o waits top run quiet other st differs e = by_owner (is_mine other os)
  where
    by_owner : AreOthers other os ⊎ IsAmong other (keys_in os) → All (λ (l : Level ℕ). l.label ≢ o.id) st
    by_owner (inl a) = all_else o.id st
        (λ i. quiet (run other st e (others_but other os o a (λ f. differs (sym f))) (length os) o (got_last os o) i))
    by_owner (inr i) = not_mine tree chain owns apart home os o top other st i e

-- ---- the others after a change

-- a scope is entered: it is in no other task's stack
pub others_entered : (old new : Tree) (book more : NurseryBook) → IsChain old → (bs : List Block) (own : List Own) (b : Block) (o : Own) →
    stack_of old o.id ≡ None →
    OthersKeep old new o.id → ((id : ℕ) → HasRunning book (Some id) → HasRunning more (Some id)) → OthersRun old book bs own None →
    OthersRun new more (bs ++ b ∷ []) (own ++ o ∷ []) None
others_entered old new book more chain bs own b o closed keep later run key st e a i x got within =
    by_place (got_one own o x i got)
  where
    before : stack_of old key ≡ Some st
    before = sym (keep key (λ f. others_last key own o a (sym f))) ∙ e

    by_place : (slice_get own i ≡ Some x) ⊎ (o ≡ x) → RunsIn more (bs ++ b ∷ []) i None
    by_place (inl at) =
        runs_in_more more bs b i (runs_in_later book more bs i None later (run key st before (others_first key own o a) i x at within))
    by_place (inr same) =
        let is_open : IsOpen old o.id =
        open_around old chain (Some key) o.id
        (subst (λ (y : Option Stack). IsKey o.id (unwrap_or y [])) (sym before) (subst (λ (y : Own). IsKey y.id st) (sym same) within)) in
        absurd (let f : false ≡ true = subst IsSome closed is_open in cc)

-- the innermost scope is left
pub others_left : (old new : Tree) (book more : NurseryBook) (bs : List Block) (own : List Own) (o : Own) → stack_of new o.id ≡ None →
    OthersKeep old new o.id →
    more ≡ book → OthersRun old book (bs ++ a_scope ∷ []) (own ++ o ∷ []) None → OthersRun new more bs own None
others_left old new book more bs own o closed keep same run key st e a i x got within =
    subst (λ (b : NurseryBook). RunsIn b bs i None) (sym same)
    (runs_in_outer book bs i (run key st (sym (keep key differs) ∙ e) (others_but key own o a (λ f. differs (sym f))) i x
    (got_before own o x i got) within))
  where
    differs : key ≢ o.id
    differs f = let g : None ≡ Some st = sym closed ∙ sym (ap (stack_of new) f) ∙ e in cc
