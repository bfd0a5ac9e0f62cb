-- Lists of keys that are sorted, the least last, and from whose end stale keys are dropped.
use Rattle.std.proofs.Common.{◌≡◌, ◌≢◌, ℕ, ◌-◌, ◌<◌, ◌≤◌, List, length, get_or, take, not, Option, Some, None, Bor, Bool, true, false, ap, sym, refl, ◌∙◌, inl, inr, arith}
use Rattle.std.proofs.lemmas.Bool.{cases_lt}
use Rattle.std.proofs.lemmas.Cmp.{nat_cmp_total}
use Rattle.std.proofs.lemmas.Fn.{always_returns_same}
use Rattle.std.proofs.lemmas.List.{get_or-take, length-take}
use Rattle.std.proofs.lemmas.List.Sorted.{Contains-permutation, IsPermutation-sym, IsStrictWeakOrder-flip, ranks_by, sorted_far}
use Rattle.std.proofs.lemmas.Option.{slice_get-get_or, slice_get_within, get_or_from_slice_get}
use denote.Param.Members.{Mut}
use Rattle.std.specs.Prelude.{MatchOption}
use Rattle.std.specs.Cmp.{IsStrictWeakOrder}
use Rattle.std.specs.Fn.{Called, ComparesAs}
use Rattle.std.specs.List.{slice_get, Contains}
use Rattle.std.specs.List.Sorted.{IsPermutation, IsSortedBy}
use Rattle.std.specs.Ordering.{is_lt, nat_cmp}
use Rattle.std.specs.declared.cmp.Ordering.{Ordering}
use Rattle.clock.specs.Ticks.{tick_in}
use Rattle.clock.specs.KeptTicks.{is_tick}
use Rattle.clock.specs.KeptTimers.{Falls, KeepsLive, KeepsOthers, NoneLive, IsFirstLive, is_stale}
use Rattle.clock.proofs.TickLemmas.{is_tick-is, is_tick-same, le_from_cmp}

-- what is left of a list after a `take`
take_keeps : (keys : List ℕ) (n key index : ℕ) → index < n → n ≤ length keys → get_or keys index key ≡ key → Contains (take n keys) key
take_keeps keys n key index inside upto at =
    (index, omega (arith, length-take n keys, inside, upto), get_or-take n keys index key inside ∙ at)

take_fewer : (keys : List ℕ) (n key : ℕ) → n ≤ length keys → Contains (take n keys) key → Contains keys key
take_fewer keys n key upto among =
    let inside : among.0 < n = omega (arith, length-take n keys, among.1, upto) in
    (among.0, omega (arith, inside, upto), sym (get_or-take n keys among.0 key inside) ∙ among.2)

pub falls_taken : (keys : List ℕ) (n : ℕ) → n ≤ length keys → Falls keys → Falls (take n keys)
falls_taken keys n upto falls i j d order within =
    let inside : j < n = omega (arith, length-take n keys, within, upto) in
    let first : i < n = omega (arith, inside, order) in
    rw (get_or-take n keys i d first, get_or-take n keys j d inside) (falls i j d order (omega (arith, inside, upto)))

-- the last key, where it is stale
stale_last : (ticks : List (Option ℕ)) (tick : ℕ) (last : Option ℕ) → is_stale ticks tick last ≡ true →
    (key : ℕ) × (last ≡ Some key) × (tick_in ticks key ≢ Some tick)
stale_last ticks tick None stale = absurd (cc)
stale_last ticks tick (Some key) stale = (
  key,
  refl,
  λ has.
      let same : is_tick (tick_in ticks key) tick ≡ true = ap (λ o. is_tick o tick) has ∙ is_tick-same tick in
      let live : not (is_tick (tick_in ticks key) tick) ≡ false = ap not same in
      absurd (cc),
)

-- so the list is not empty
pub stale_some : (ticks : List (Option ℕ)) (tick : ℕ) (keys : List ℕ) → is_stale ticks tick (slice_get keys (length keys - 1)) ≡ true → 0 < length keys
stale_some ticks tick keys stale =
    let last = stale_last ticks tick (slice_get keys (length keys - 1)) stale in
    omega (arith, slice_get_within keys (length keys - 1) last.0 last.1)

-- without it the list has each key that has the tick
pub stale_dropped : (ticks : List (Option ℕ)) (tick : ℕ) (keys : List ℕ) → is_stale ticks tick (slice_get keys (length keys - 1)) ≡ true →
    KeepsLive ticks tick keys (take (length keys - 1) keys)
stale_dropped ticks tick keys stale =
    let last = stale_last ticks tick (slice_get keys (length keys - 1)) stale in
    record {
      live = λ key has among. elim (cases_lt among.0 (length keys - 1)) [
        | inl inside ↦ take_keeps keys (length keys - 1) key among.0 inside (omega arith) among.2
        | inr out ↦
            let at : among.0 ≡ length keys - 1 = omega (arith, out, among.1) in
            let same : key ≡ last.0 =
            sym among.2 ∙ ap (λ (n : ℕ). get_or keys n key) at ∙ get_or_from_slice_get keys (length keys - 1) last.0 key last.1 in
            absurd (last.2 (ap (tick_in ticks) (sym same) ∙ has))
      ];
      fewer = λ key among. take_fewer keys (length keys - 1) key (omega arith) among;
    }

-- one change after another
pub keeps_then : (ticks : List (Option ℕ)) (tick : ℕ) (keys more later : List ℕ) → KeepsLive ticks tick keys more → KeepsLive ticks tick more later →
    KeepsLive ticks tick keys later
keeps_then ticks tick keys more later one two =
    record {
      live = λ key has among. two.live key has (one.live key has among);
      fewer = λ key among. one.fewer key (two.fewer key among);
    }

-- the keys in another order
pub keeps_sorted : (ticks : List (Option ℕ)) (tick : ℕ) (keys later : List ℕ) → IsPermutation keys later → KeepsLive ticks tick keys later
keeps_sorted ticks tick keys later same =
    record {
      live = λ key has among. Contains-permutation keys later key same among;
      fewer = λ key among. Contains-permutation later keys key (IsPermutation-sym keys later same) among;
    }

-- the last key is removed
pub last_taken : (keys : List ℕ) (key : ℕ) → 0 < length keys → get_or keys (length keys - 1) key ≡ key → KeepsOthers keys (take (length keys - 1) keys) key
last_taken keys key some is =
    record {
      others = λ other apart among. elim (cases_lt among.0 (length keys - 1)) [
        | inl inside ↦ take_keeps keys (length keys - 1) other among.0 inside (omega arith) among.2
        | inr out ↦
            let at : among.0 ≡ length keys - 1 = omega (arith, out, among.1) in
            absurd (apart (sym among.2 ∙ ap (λ (n : ℕ). get_or keys n other) at ∙ last_same other))
      ];
      fewer = λ other among. take_fewer keys (length keys - 1) other (omega arith) among;
    }
  where
    last_same : (other : ℕ) → get_or keys (length keys - 1) other ≡ key
    last_same other =
        get_or_from_slice_get keys (length keys - 1) key other (slice_get-get_or keys (length keys - 1) key (omega (arith, some)) ∙ ap Some is)

-- the last key, if it is not stale
pub last_live : (ticks : List (Option ℕ)) (tick : ℕ) (keys later : List ℕ) (last : Option ℕ) → KeepsLive ticks tick keys later → Falls later →
    is_stale ticks tick (slice_get later (length later - 1)) ≡ false → last ≡ slice_get later (length later - 1) →
    MatchOption last (NoneLive ticks tick keys) (IsFirstLive ticks tick keys)
last_live ticks tick keys later None kept falls live e =
    λ key has among.
    let left = kept.live key has among in
    absurd (let found = slice_get-get_or later (length later - 1) 0 (omega (arith, left.1)) in cc)
last_live ticks tick keys later (Some key) kept falls live e =
    record {
      has = is_tick-is (tick_in ticks key) tick (own (is_tick (tick_in ticks key) tick) (ap (is_stale ticks tick) e ∙ live));
      least = λ other has among.
          let left = kept.live other has among in
          let upto = falls left.0 (length later - 1) other (omega (arith, left.1)) (omega (arith, left.1)) in
          omega (arith, upto, get_or_from_slice_get later (length later - 1) key other (sym e), left.2);
    }
  where
    own : (b : Bool) → not b ≡ false → b ≡ true
    own true e = refl
    own false e = absurd (cc)

-- the keys after a sort by the other order
pub falls_sorted : {F : Type 0} {g : Mut F (Bor ℕ × (Bor ℕ × Unit {0})) Ordering} {f : F} (keys : List ℕ) →
    ((lt : ℕ → ℕ → Bool) → IsStrictWeakOrder lt → ComparesAs g lt f → IsSortedBy lt keys) →
    ((a : Bor ℕ × (Bor ℕ × Unit {0})) (r : Ordering) (f' : F) → Called g f a r f' → (r ≡ nat_cmp a.1.0.now a.0.now) × (f' ≡ f)) → Falls keys
falls_sorted {g = g} {f = f} keys up says i j d order within =
    let ranks = IsStrictWeakOrder-flip (λ x y. is_lt (nat_cmp x y)) (ranks_by nat_cmp_total (λ (x : ℕ). x)) in
    let answers = always_returns_same g (λ a r. is_lt r ≡ is_lt (nat_cmp a.1.0.now a.0.now)) f (λ a r f' k. (ap is_lt (says a r f' k).0, (says a r f' k).1)) in
    le_from_cmp (get_or keys j d) (get_or keys i d)
    (sorted_far (λ x y. is_lt (nat_cmp y x)) ranks keys (up (λ x y. is_lt (nat_cmp y x)) ranks answers) i j d order within)
