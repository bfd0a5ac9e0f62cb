-- A cancellation changes one level of each stack.
use Rattle.std.proofs.Common.{◌≡◌, ◌≢◌, ℕ, zero, suc, ◌+◌, Bool, true, false, Option, Some, None, refl, sym, ap, subst, ◌∙◌, inl, inr}
use Rattle.std.specs.Prelude.{◌==◌, if◌then◌else◌}
use Rattle.std.specs.Option.{option_map}
use Rattle.std.proofs.lemmas.Bool.{cases_eq, eq-eqb, cases_Bool, eqb-true}
use Rattle.cancel_scopes.specs.Sight.{Tick, earlier}
use Rattle.cancel_scopes.specs.Tree.{Stack, Tree, stack_of, after_cancel, level_after_cancel}
use Rattle.cancel_scopes.specs.Kept.{Outline, Slots, Find, level_of, onto, full, upward, stack_at, find_in, tree_of, IsUnder, IsTree}
use Rattle.cancel_scopes.proofs.StackLemmas.{stack_of-tree_of}

-- the tick from which a scope is cancelled, after it or another scope is cancelled in a tick
abbrev pub from_cancelled : Bool → ℕ → Tick → Tick
from_cancelled true tick from = earlier from (Some (tick + 1))
from_cancelled false tick from = from

-- the outline under a key, after the scope of this id is cancelled
abbrev pub scope_cancelled : ℕ → ℕ → ℕ → Outline → Outline
scope_cancelled id tick key s = record s { from = from_cancelled (key == id) tick s.from }

level_of-cancelled : (id tick key : ℕ) (s : Outline) → level_of key (scope_cancelled id tick key s)
    ≡ level_after_cancel id tick (level_of key s)
level_of-cancelled id tick key s = by_test (key == id)
  where
    by_test : (b : Bool) → record { label = key; shield = s.shield; from = from_cancelled b tick s.from }
        ≡ (if b then record { label = key; shield = s.shield; from = earlier s.from (Some (tick + 1)) } else level_of key s)
    by_test true = refl
    by_test false = refl

-- the scope of an id alone is cancelled
abbrev pub Cancels : Find → Find → ℕ → ℕ → Type 0
Cancels old new id tick = (key : ℕ) → new key ≡ option_map (scope_cancelled id tick key) (old key)

onto-cancelled : (id tick key : ℕ) (o : Option Outline) (above later : Outline → Stack) →
    ((s : Outline) → later (scope_cancelled id tick key s) ≡ after_cancel id tick (above s)) →
    onto key (option_map (scope_cancelled id tick key) o) later ≡ after_cancel id tick (onto key o above)
onto-cancelled id tick key None above later h = refl
onto-cancelled id tick key (Some s) above later h =
    let e = level_of-cancelled id tick key s in
    let f = h s in
    cc

upward-cancelled : (old new : Find) (id tick : ℕ) → Cancels old new id tick → (n : ℕ) (o : Option ℕ) →
    upward new n o ≡ after_cancel id tick (upward old n o)
upward-cancelled old new id tick h zero o = refl
upward-cancelled old new id tick h (suc n) None = refl
upward-cancelled old new id tick h (suc n) (Some key) =
    rw (h key) (onto-cancelled id tick key (old key) (λ s. upward old n s.parent) (λ s. upward new n s.parent)
    (λ s. upward-cancelled old new id tick h n s.parent))

-- each stack changes at that level alone
pub stack_at-cancelled : (old new : Find) (id tick : ℕ) → Cancels old new id tick → (key : ℕ) →
    stack_at new key ≡ option_map (after_cancel id tick) (stack_at old key)
stack_at-cancelled old new id tick h key = ap (option_map (full new key)) (h key) ∙ by_kept (old key)
  where
    by_kept : (o : Option Outline) → option_map (full new key) (option_map (scope_cancelled id tick key) o)
        ≡ option_map (after_cancel id tick) (option_map (full old key) o)
    by_kept None = refl
    by_kept (Some s) =
        let e = level_of-cancelled id tick key s in
        let f = upward-cancelled old new id tick h s.depth s.parent in
        cc

-- parents and depths stay
pub IsTree-cancelled : (old new : Find) (id tick : ℕ) → Cancels old new id tick → IsTree old → IsTree new
IsTree-cancelled old new id tick h tree = record { placed = λ key s kept. by_kept key s (old key) refl (sym (h key) ∙ kept) }
  where
    by_parent : (depth : ℕ) (o : Option ℕ) → IsUnder old depth o → IsUnder new depth o
    by_parent depth None under = under
    by_parent depth (Some parent) under =
        (scope_cancelled id tick parent under.0, h parent ∙ ap (option_map (scope_cancelled id tick parent)) under.1, under.2)

    by_kept : (key : ℕ) (s : Outline) (o : Option Outline) → old key ≡ o → option_map (scope_cancelled id tick key) o ≡ Some s →
        IsUnder new s.depth s.parent
    by_kept key s None is same = absurd (let e : None ≡ Some s = same in cc)
    by_kept key s (Some before) is same =
        let e : scope_cancelled id tick key before ≡ s = cc in
        subst (λ (s : Outline). IsUnder new s.depth s.parent) e (by_parent before.depth before.parent (tree.placed key before is))

-- the cancelled scope, written back
pub cancels : (old new : Find) (id tick : ℕ) (s : Outline) → old id ≡ Some s →
    new id ≡ Some (record s { from = earlier s.from (Some (tick + 1)) }) → ((other : ℕ) → other ≢ id → new other ≡ old other) →
    Cancels old new id tick
cancels old new id tick s kept written others key =
    elim (cases_eq key id) [
      | inl same ↦
          let test : scope_cancelled id tick id s ≡ record s { from = earlier s.from (Some (tick + 1)) } =
          ap (λ (b : Bool). let t : Outline = record s { from = from_cancelled b tick s.from } in t) (eq-eqb id id refl) in
          let here : new id ≡ option_map (scope_cancelled id tick id) (old id) =
          written ∙ ap Some (sym test) ∙ sym (ap (option_map (scope_cancelled id tick id)) kept) in
          subst (λ (k : ℕ). new k ≡ option_map (scope_cancelled id tick k) (old k)) (sym same) here
      | inr other ↦
          others key other
          ∙ by_kept (old key) (elim (cases_Bool (key == id)) [ inl equal ↦ absurd (other (eqb-true key id equal)) | inr differs ↦ differs ])
    ]
  where
    by_kept : (o : Option Outline) → (key == id) ≡ false → o ≡ option_map (scope_cancelled id tick key) o
    by_kept None misses = refl
    by_kept (Some before) misses = rw misses refl

-- the same of what contracts see
pub tree_cancelled : (tree : Tree) (slots new : Slots) (key id tick : ℕ) → tree_of slots ≡ tree → key ≡ id →
    Cancels (find_in slots) (find_in new) key tick → (at : ℕ) → stack_of (tree_of new) at
    ≡ option_map (after_cancel id tick) (stack_of tree at)
tree_cancelled tree slots new key id tick is same h at =
    rw (← is, ← same)
    (stack_of-tree_of new at ∙ stack_at-cancelled (find_in slots) (find_in new) key tick h at
    ∙ sym (ap (option_map (after_cancel key tick)) (stack_of-tree_of slots at)))
