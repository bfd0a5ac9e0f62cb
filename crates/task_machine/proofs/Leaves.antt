-- The innermost scope of a task is left.
use Rattle.std.proofs.Common.{◌≡◌, ◌≢◌, ℕ, suc, ◌+◌, ◌<◌, true, false, Option, Some, None, is_some, List, [], ◌∷◌, ◌++◌, length, append_assoc, refl, ap, sym, ◌∙◌, subst, arith, length-append}
use Rattle.std.proofs.lemmas.List.Elements.{All-head, All-tail}
use Rattle.std.specs.List.{All}
use Rattle.std.specs.Option.{unwrap_or}
use Rattle.std.specs.List.{last_or}
use Rattle.cancel_scopes.specs.Sight.{Tick, Level}
use Rattle.cancel_scopes.specs.Tree.{Stack, Tree, stack_of, outer_of, IsOpen, IsOwn, IsChain, OthersKeep}
use Rattle.job_meaning.specs.Log.{Table}
use Rattle.turn_semantics.specs.Midway.{Place}
use Rattle.task_machine.specs.declared.task.Own.{Own}
use Rattle.task_machine.specs.Labels.{Labels, Events, Updates}
use Rattle.task_machine.specs.Stacked.{IsLevelOf, AreAt, SameOn}
use Rattle.task_machine.specs.Left.{keys_of, keys_in, OwnFirst}
use Rattle.task_machine.proofs.OwnLemmas.{ids}

abbrev pub head_of : List ℕ → Option ℕ
head_of [] = None
head_of (k ∷ ks) = Some k

-- the innermost key is that of the last scope
pub first_is_last : (os : List Own) (r : List ℕ) → head_of (keys_in os ++ r) ≡ last_or (head_of r) (ids os)
first_is_last [] r = refl
first_is_last (o ∷ os) r = ap head_of (append_assoc (keys_in os) (o.id ∷ []) r) ∙ first_is_last os (o.id ∷ r)

-- the scope that a task opened last is the innermost of its own
pub keys_pushed : (os : List Own) (x : Own) → keys_in (os ++ x ∷ []) ≡ x.id ∷ keys_in os
keys_pushed [] x = refl
keys_pushed (o ∷ os) x = ap (λ (ks : List ℕ). ks ++ o.id ∷ []) (keys_pushed os x)

-- each rest of a stack is the stack of its first key
abbrev Suffixes : Tree → Stack → Stack → Type 0
Suffixes tree before st = (front : Stack) (l : Level ℕ) (following : Stack) → before ++ st ≡ front ++ l ∷ following →
    stack_of tree l.label ≡ Some (l ∷ following)

rest_around : (tree : Tree) (before ls : Stack) → Suffixes tree before ls → outer_of tree (head_of (keys_of ls)) ≡ ls
rest_around tree before [] chain = refl
rest_around tree before (l ∷ ls) chain = ap (λ (o : Option Stack). unwrap_or o []) (chain before l ls refl)

home_around : (tree : Tree) → IsChain tree → IsOwn tree → (home : Option ℕ) →
    outer_of tree (head_of (keys_of (outer_of tree home))) ≡ outer_of tree home
home_around tree chain own None = refl
home_around tree chain own (Some h) = by_stack (stack_of tree h) refl
  where
    by_stack : (o : Option Stack) → stack_of tree h ≡ o → outer_of tree (head_of (keys_of (unwrap_or o []))) ≡ unwrap_or o []
    by_stack None e = refl
    by_stack (Some st) e = rest_around tree [] st (λ front l following f. chain h st e front l following f)

-- either of two outer scopes with one stack
same_last : (tree : Tree) (a b : Option ℕ) (ks : List ℕ) → outer_of tree a ≡ outer_of tree b →
    outer_of tree (last_or a ks) ≡ outer_of tree (last_or b ks)
same_last tree a b [] e = e
same_last tree a b (k ∷ ks) e = refl

-- what encloses the scope that is left
pub around_last : (tree : Tree) → IsChain tree → IsOwn tree → (home : Option ℕ) (os : List Own) (x : Own) (l : Level ℕ) (ls : Stack) →
    stack_of tree x.id ≡ Some (l ∷ ls) →
    keys_of ls ≡ keys_in os ++ keys_of (outer_of tree home) → outer_of tree (last_or home (ids os)) ≡ ls
around_last tree chain own home os x l ls stack keys =
    same_last tree home (head_of (keys_of (outer_of tree home))) (ids os) (sym (home_around tree chain own home))
    ∙ ap (outer_of tree) (sym (first_is_last os (keys_of (outer_of tree home))))
    ∙ ap (λ (ks : List ℕ). outer_of tree (head_of ks)) (sym keys)
    ∙ rest_around tree (l ∷ []) ls (λ front m following e. chain x.id (l ∷ ls) stack front m following e)

-- a stack that is shorter is of another key
keeps_outer : (old new : Tree) (key : ℕ) (l : Level ℕ) (ls : Stack) → OthersKeep old new key → stack_of old key ≡ Some (l ∷ ls) →
    (at : Option ℕ) →
    length (outer_of old at) < length (l ∷ ls) → outer_of new at ≡ outer_of old at
keeps_outer old new key l ls others stack None short = refl
keeps_outer old new key l ls others stack (Some p) short = ap (λ (o : Option Stack). unwrap_or o []) (others p other)
  where
    other : p ≢ key
    other e =
        let f : length (outer_of old (Some p)) ≡ length (l ∷ ls) = ap (λ (k : ℕ). length (unwrap_or (stack_of old k) [])) e
        ∙ ap (λ (o : Option Stack). length (unwrap_or o [])) stack in
        omega (arith, short, f)

-- a key is in no rest of its own stack, so what is kept of it may change
same_after : {A : Type 0} (kept new : ℕ → Option A) (tree : Tree) (key : ℕ) (value : Option A) (whole before st : Stack) →
    Updates kept new key value → stack_of tree key ≡ Some whole →
    length st < length whole → Suffixes tree before st → SameOn kept new st
same_after kept new tree key value whole before [] u stack short chain = tt
same_after kept new tree key value whole before (l ∷ ls) u stack short chain = (
  sym (u.others l.label other),
  same_after kept new tree key value whole (before ++ l ∷ []) ls u stack (omega (arith, short))
      (λ front m following e. chain front m following (sym (append_assoc before (l ∷ []) ls) ∙ e)),
)
  where
    other : l.label ≢ key
    other e =
        let f : Some (l ∷ ls) ≡ Some whole = sym (chain before l ls refl) ∙ ap (stack_of tree) e ∙ stack in
        let g : l ∷ ls ≡ whole = cc in
        let h : length (l ∷ ls) ≡ length whole = ap length g in
        omega (arith, short, h)

-- a stack has the same places if its scopes keep their labels, and its events the moments from which they are set
pub same_labels : (labels more : Labels) (events others : Events) (cancelled_from : Table) (st : Stack) (ps : List Place) → SameOn labels more st →
    SameOn events others st → AreAt labels events cancelled_from st ps → AreAt more others cancelled_from st ps
same_labels labels more events others cancelled_from [] [] same alike a = tt
same_labels labels more events others cancelled_from [] (p ∷ ps) same alike a = absurd a
same_labels labels more events others cancelled_from (l ∷ ls) [] same alike a = absurd a
same_labels labels more events others cancelled_from (l ∷ ls) (p ∷ ps) same alike a = (
  sym same.0 ∙ a.0,
  a.1,
  subst (λ (o : Option Tick). IsLevelOf o l cancelled_from p) alike.0 a.2,
  same_labels labels more events others cancelled_from ls ps same.1 alike.1 a.3,
)

-- ---- the scope that is left, at the top of its stack

-- a scope that a task opened is open, and is enclosed by those that it opened before, then by those that
-- enclose its home
pub record Top (tree : Tree) (home : Option ℕ) (os : List Own) (x : Own) : Type 0 where
  pub level : Level ℕ
  pub following : Stack
  pub at : stack_of tree x.id ≡ Some (level ∷ following)
  pub keys : keys_of following ≡ keys_in os ++ keys_of (outer_of tree home)
  pub around : outer_of tree (last_or home (ids os)) ≡ following

length_keys : (st : Stack) → length (keys_of st) ≡ length st
length_keys [] = refl
length_keys (l ∷ ls) = ap suc (length_keys ls)

tail_of : (a b : ℕ) (xs ys : List ℕ) → a ∷ xs ≡ b ∷ ys → xs ≡ ys
tail_of a b xs ys e = cc

-- the last scope that a task opened is enclosed by the others of the task, then by those that enclose its
-- home
pub top_of : (tree : Tree) → IsChain tree → IsOwn tree → (home : Option ℕ) (own os : List Own) (x : Own) → own ≡ os ++ x ∷ [] →
    IsOpen tree x.id → OwnFirst tree home own →
    last_or home (ids own) ≡ Some x.id → Top tree home os x
top_of tree chain owns home own os x pushed opened first last = by_stack (stack_of tree x.id) refl
  where
    by_level : (l : Level ℕ) (ls : Stack) → stack_of tree x.id ≡ Some (l ∷ ls) → Top tree home os x
    by_level l ls e =
        let whole : keys_of (outer_of tree (last_or home (ids own))) ≡ l.label ∷ keys_of ls =
        ap (λ (s : Option ℕ). keys_of (outer_of tree s)) last ∙ ap (λ (o : Option Stack). keys_of (unwrap_or o [])) e in
        let split : keys_in own ++ keys_of (outer_of tree home) ≡ x.id ∷ (keys_in os ++ keys_of (outer_of tree home)) =
        ap (λ (ks : List Own). keys_in ks ++ keys_of (outer_of tree home)) pushed
        ∙ ap (λ (ks : List ℕ). ks ++ keys_of (outer_of tree home)) (keys_pushed os x) in
        let keys : keys_of ls ≡ keys_in os ++ keys_of (outer_of tree home) = tail_of l.label x.id _ _ (sym whole ∙ first ∙ split) in
        record { level = l; following = ls; at = e; keys = keys; around = around_last tree chain owns home os x l ls e keys }

    by_stack : (o : Option Stack) → stack_of tree x.id ≡ o → Top tree home os x
    by_stack None e = absurd (let f : is_some (stack_of tree x.id) ≡ true = opened in let g : is_some (stack_of tree x.id) ≡ false =
        ap is_some e in cc)
    by_stack (Some []) e = absurd (let f : None ≡ Some x.id = owns x.id [] e in cc)
    by_stack (Some (l ∷ ls)) e = by_level l ls e

-- the scopes that the task still has are those that enclose it
pub first_after : (old new : Tree) (home : Option ℕ) (os : List Own) (x : Own) → OthersKeep old new x.id → Top old home os x →
    OwnFirst new home os
first_after old new home os x others top =
    let shorter : length (keys_of top.following) ≡ length (keys_in os) + length (keys_of (outer_of old home)) =
    ap length top.keys ∙ length-append (keys_in os) _ in
    let n : length (outer_of old (last_or home (ids os))) < length (top.level ∷ top.following) =
    subst (λ (st : Stack). length st < length (top.level ∷ top.following)) (sym top.around) (omega arith) in
    let m : length (outer_of old home) < length (top.level ∷ top.following) =
    (let a = length_keys (outer_of old home) in let b = length_keys top.following in omega (arith, shorter, a, b)) in
    ap keys_of (keeps_outer old new x.id top.level top.following others top.at (last_or home (ids os)) n)
    ∙ ap keys_of top.around ∙ top.keys
    ∙ ap (λ (st : Stack). keys_in os ++ keys_of st) (sym (keeps_outer old new x.id top.level top.following others top.at home m))

-- and its places are those that enclose the one that is left
pub places_after : (labels more : Labels) (events others : Events) (old new : Tree) (home : Option ℕ) (os : List Own) (x : Own) →
    IsChain old → OthersKeep old new x.id → Updates labels more x.id None → Updates events others x.id None → (top : Top old home os x) →
    (cancelled_from : Table) (ps : List Place) → AreAt labels events cancelled_from top.following ps →
    AreAt more others cancelled_from (outer_of new (last_or home (ids os))) ps
places_after labels more events others old new home os x chain keep u v top cancelled_from ps a =
    let n : length (outer_of old (last_or home (ids os))) < length (top.level ∷ top.following) =
    subst (λ (st : Stack). length st < length (top.level ∷ top.following)) (sym top.around) (omega arith) in
    let suffixes : Suffixes old (top.level ∷ []) top.following =
    (λ front l following e. chain x.id (top.level ∷ top.following) top.at front l following e) in
    subst (λ (st : Stack). AreAt more others cancelled_from st ps)
    (sym (keeps_outer old new x.id top.level top.following keep top.at (last_or home (ids os)) n ∙ top.around))
    (same_labels labels more events others cancelled_from top.following ps
    (same_after labels more old x.id None (top.level ∷ top.following) (top.level ∷ []) top.following u top.at (omega arith) suffixes)
    (same_after events others old x.id None (top.level ∷ top.following) (top.level ∷ []) top.following v top.at (omega arith) suffixes) a)

-- the innermost place, by the scope that is left
pub left_from : (labels : Labels) (events : Events) (cancelled_from : Table) (tree : Tree) (home outer : Option ℕ) (os : List Own) (x : Own)
    (p : Place) (ps : List Place) → (top : Top tree home os x) → outer ≡ Some x.id →
    AreAt labels events cancelled_from (outer_of tree outer) (p ∷ ps) → AreAt labels events cancelled_from (top.level ∷ top.following) (p ∷ ps)
left_from labels events cancelled_from tree home outer os x p ps top last a =
    subst (λ (st : Stack). AreAt labels events cancelled_from st (p ∷ ps))
    (ap (outer_of tree) last ∙ ap (λ (o : Option Stack). unwrap_or o []) top.at) a

-- what holds of each scope holds of the last
pub last_below : (n : ℕ) (os : List Own) (o : Own) → All (λ (x : Own). x.at < n) (os ++ o ∷ []) → o.at < n
last_below n [] o a = All-head (λ (x : Own). x.at < n) o [] a
last_below n (x ∷ os) o a = last_below n os o (All-tail (λ (y : Own). y.at < n) x (os ++ o ∷ []) a)
