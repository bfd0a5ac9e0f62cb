-- Effective deadlines that are lowered from a scope inwards, by local rules.
use Rattle.std.proofs.Common.{◌≡◌, ◌≢◌, ◌⊎◌, ℕ, zero, suc, Bool, true, false, slice_set, Option, Some, None, refl, sym, ap, subst, ◌∙◌, arith, inl, inr}
use Rattle.std.specs.Prelude.{nat_lt, if◌then◌else◌}
use Rattle.std.proofs.lemmas.Bool.{cases_eq}
use Rattle.std.proofs.lemmas.Bool.Decides.{nat_tests}
use Rattle.cancel_scopes.specs.Sight.{Tick, earlier, before, sight}
use Rattle.cancel_scopes.specs.Kept.{Outline, Slots, IsTree, IsUnder, outline_of, scope_in, find_in, full, around, upward, stack_at, own_sight, sight_of, seen_at, HasSights}
use Rattle.cancel_scopes.specs.Lowering.{sight_by, outer_sight, IsRight, AllRight, IsNear, AllNear}
use Rattle.cancel_scopes.proofs.StackLemmas.{scope_at, found_at, stack_at-kept, upward-under}
use Rattle.cancel_scopes.proofs.SlotLemmas.{written, unwritten}
use Rattle.cancel_scopes.specs.declared.store.Scope.{Scope}

-- the local rule determines the effective deadline of each stack
upward-sight : (slots : Slots) → IsTree (find_in slots) → AllRight slots → (n : ℕ) (o : Option ℕ) → IsUnder (find_in slots) n o →
    sight (upward (find_in slots) n o) ≡ outer_sight slots o
upward-sight slots tree all zero None under = refl
upward-sight slots tree all zero (Some parent) under = absurd (omega (arith, under.2))
upward-sight slots tree all (suc n) None under = refl
upward-sight slots tree all (suc n) (Some parent) under =
    let above : Outline = under.0 in
    let at = scope_at slots parent above under.1 in
    let s : Scope = at.0 in
    let deep : above.depth ≡ n = omega (arith, under.2) in
    let higher : IsUnder (find_in slots) n above.parent =
    subst (λ (d : ℕ). IsUnder (find_in slots) d above.parent) deep (tree.placed parent above under.1) in
    let rest : sight (upward (find_in slots) n above.parent) ≡ outer_sight slots above.parent =
    upward-sight slots tree all n above.parent higher in
    let rule : s.sight ≡ sight_by above.shield above.from (outer_sight slots above.parent) =
    all.right parent s at.1 ∙ ap (λ (o : Outline). sight_by o.shield o.from (outer_sight slots o.parent)) at.2 in
    rw under.1 (ap (sight_by above.shield above.from) rest ∙ sym rule ∙ sym (ap own_sight at.1))

-- so each scope keeps the effective deadline of its stack
pub sights_of : (slots : Slots) → IsTree (find_in slots) → AllRight slots → HasSights slots
sights_of slots tree all key = by_kept (scope_in slots key) refl
  where
    by_kept : (o : Option Scope) → scope_in slots key ≡ o → own_sight (scope_in slots key) ≡ seen_at (find_in slots) key
    by_kept None is =
        let none : stack_at (find_in slots) key ≡ None = rw is refl in
        ap own_sight is ∙ sym (ap sight_of none)
    by_kept (Some s) is =
        let found : find_in slots key ≡ Some (outline_of s) = found_at slots key s is in
        let at : stack_at (find_in slots) key ≡ Some (full (find_in slots) key (outline_of s)) =
        stack_at-kept (find_in slots) key (outline_of s) found in
        let up : sight (around (find_in slots) (outline_of s)) ≡ outer_sight slots s.parent =
        upward-sight slots tree all s.depth s.parent (tree.placed key (outline_of s) found) in
        ap own_sight is ∙ all.right key s is ∙ sym (ap (sight_by s.shield s.from) up) ∙ sym (ap sight_of at)

-- and the other way round
pub rights_of : (slots : Slots) → IsTree (find_in slots) → HasSights slots → AllRight slots
rights_of slots tree sights = record { right = λ key s kept. by_scope key s kept }
  where
    by_parent : (depth : ℕ) (o : Option ℕ) → IsUnder (find_in slots) depth o → sight (upward (find_in slots) depth o) ≡ outer_sight slots o
    by_parent depth None under = rw under refl
    by_parent depth (Some parent) under =
        ap sight (upward-under (find_in slots) depth parent under.0 under under.1)
        ∙ sym (ap sight_of (stack_at-kept (find_in slots) parent under.0 under.1))
        ∙ sym (sights parent)

    by_scope : (key : ℕ) (s : Scope) → scope_in slots key ≡ Some s → IsRight slots s
    by_scope key s kept =
        let found : find_in slots key ≡ Some (outline_of s) = found_at slots key s kept in
        sym (ap own_sight kept) ∙ sights key ∙ ap sight_of (stack_at-kept (find_in slots) key (outline_of s) found)
        ∙ ap (sight_by s.shield s.from) (by_parent s.depth s.parent (tree.placed key (outline_of s) found))

-- a scope whose outer effective deadline was later than this tick and now is this tick
low_ticks : (t f o : ℕ) → nat_lt t o ≡ true → nat_lt t (if nat_lt o f then o else f) ≡ true → t ≡ (if nat_lt t f then t else f)
low_ticks t f o a b = grind (arith, nat_tests)

high_ticks : (t f o : ℕ) → nat_lt t o ≡ true → nat_lt t (if nat_lt o f then o else f) ≡ false →
    (if nat_lt o f then o else f) ≡ (if nat_lt t f then t else f)
high_ticks t f o a b = grind (arith, nat_tests)

-- an effective deadline that is later than the tick becomes the tick
pub settles_low : (t : ℕ) (from outer : Tick) → before (Some t) outer ≡ true → before (Some t) (earlier from outer) ≡ true →
    Some t ≡ earlier from (Some t)
settles_low t None outer a b = refl
settles_low t (Some f) None a b = rw b refl
settles_low t (Some f) (Some o) a b = ap Some (low_ticks t f o a b)

-- one that is not later stays
pub settles_high : (t : ℕ) (from outer : Tick) → before (Some t) outer ≡ true → before (Some t) (earlier from outer) ≡ false →
    earlier from outer ≡ earlier from (Some t)
settles_high t None outer a b = absurd (let e : true ≡ false = sym a ∙ b in cc)
settles_high t (Some f) None a b = rw b refl
settles_high t (Some f) (Some o) a b = ap Some (high_ticks t f o a b)

-- a scope is lowered to the tick: its children wait
module _ (slots : Slots) (tick key : ℕ) (s : Scope) (listed : Option ℕ) (waits after : ℕ → Scope → Type 0) where
  -- the slots with the scope lowered
  abbrev pub lowered : Slots
  lowered = slice_set slots key (Some (record s { sight = Some tick; listed = listed }))

  -- after that the rule holds for every scope that does not wait
  pub near-lowered : scope_in slots key ≡ Some s → before (Some tick) s.sight ≡ true →
      ((k : ℕ) (t : Scope) → k ≢ key → scope_in slots k ≡ Some t → IsNear slots tick waits k t) →
      ((k : ℕ) (t : Scope) → k ≢ key → scope_in slots k ≡ Some t → waits k t → after k t) →
      ((k : ℕ) (t : Scope) → t.parent ≡ Some key → after k t) → IsRight lowered (record s { sight = Some tick; listed = listed }) →
      AllNear lowered tick after
  near-lowered kept late near on below here = record { near = λ k t found. by_key k t found (cases_eq k key) }
    where
      new : Option Scope
      new = Some (record s { sight = Some tick; listed = listed })

      same_outer : (p : ℕ) → p ≢ key → own_sight (scope_in slots p) ≡ own_sight (scope_in lowered p)
      same_outer p differs = sym (ap own_sight (unwritten slots key p (Some (record s { sight = Some tick; listed = listed })) differs))

      still : (k : ℕ) (t : Scope) (o : Option ℕ) → t.parent ≡ o → t.sight ≡ sight_by t.shield t.from (outer_sight slots o) →
          IsNear lowered tick after k t
      still k t None up right = inl (right ∙ sym (ap (λ (p : Option ℕ). sight_by t.shield t.from (outer_sight lowered p)) up))
      still k t (Some p) up right =
          elim (cases_eq p key) [
            | inl same ↦
                inr (
                  below k t (up ∙ ap Some same),
                  s.sight,
                  late,
                  right ∙ ap (sight_by t.shield t.from)
                      (ap (λ (q : ℕ). own_sight (scope_in slots q)) same ∙ ap own_sight kept),
                )
            | inr differs ↦
                inl (right ∙ ap (sight_by t.shield t.from) (same_outer p differs)
                ∙ sym (ap (λ (q : Option ℕ). sight_by t.shield t.from (outer_sight lowered q)) up))
          ]

      by_near : (k : ℕ) (t : Scope) → k ≢ key → scope_in slots k ≡ Some t → IsNear slots tick waits k t → IsNear lowered tick after k t
      by_near k t differs was (inl right) = still k t t.parent refl right
      by_near k t differs was (inr w) = inr (on k t differs was w.0, w.1, w.2, w.3)

      by_key : (k : ℕ) (t : Scope) → scope_in lowered k ≡ Some t → (k ≡ key) ⊎ (k ≢ key) → IsNear lowered tick after k t
      by_key k t found (inl same) =
          let e : Some (record s { sight = Some tick; listed = listed }) ≡ Some t =
          sym (written slots key s (Some (record s { sight = Some tick; listed = listed })) kept) ∙ ap (scope_in lowered) (sym same)
          ∙ found in
          let is : record s { sight = Some tick; listed = listed } ≡ t = cc in
          inl (subst (λ (u : Scope). IsRight lowered u) is here)
      by_key k t found (inr differs) =
          let was : scope_in slots k ≡ Some t = sym (unwritten slots key k (Some (record s { sight = Some tick; listed = listed })) differs)
          ∙ found in
          by_near k t differs was (near k t differs was)

-- the rule holds for a waiting child of a scope of the tick, if the child is shielded or its effective deadline is not later
pub settled : (slots : Slots) (tick parent : ℕ) (waits : ℕ → Scope → Type 0) (key : ℕ) (s : Scope) → s.parent ≡ Some parent →
    own_sight (scope_in slots parent) ≡ Some tick → IsNear slots tick waits key s → (s.shield ≡ true)
    ⊎ (before (Some tick) s.sight ≡ false) → IsRight slots s
settled slots tick parent waits key s up sees (inl right) stays = right
settled slots tick parent waits key s up sees (inr w) stays = by_shield s.shield refl stays
  where
    outer_is : outer_sight slots s.parent ≡ Some tick
    outer_is = ap (outer_sight slots) up ∙ sees

    by_shield : (b : Bool) → s.shield ≡ b → (s.shield ≡ true) ⊎ (before (Some tick) s.sight ≡ false) → IsRight slots s
    by_shield true is _ = w.3 ∙ ap (λ (b : Bool). sight_by b s.from w.1) is
        ∙ sym (ap (λ (b : Bool). sight_by b s.from (outer_sight slots s.parent)) is)
    by_shield false is (inl shielded) = absurd (let e : true ≡ false = sym shielded ∙ is in cc)
    by_shield false is (inr no_later) =
        let own : s.sight ≡ earlier s.from w.1 = w.3 ∙ ap (λ (b : Bool). sight_by b s.from w.1) is in
        own
        ∙ settles_high tick s.from w.1 w.2 (ap (before (Some tick)) (sym own) ∙ no_later)
        ∙ ap (earlier s.from) (sym outer_is)
        ∙ sym (ap (λ (b : Bool). sight_by b s.from (outer_sight slots s.parent)) is)
