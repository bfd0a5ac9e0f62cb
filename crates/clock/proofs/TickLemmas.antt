-- Ticks of keys in a map and in the sorted set.
use Rattle.std.proofs.Common.{◌≡◌, ◌≢◌, ◌⊎◌, ℕ, ◌<◌, ◌≤◌, List, [], ◌∷◌, Option, Some, None, true, false, refl, ap, sym, ◌∙◌, inl, inr, arith, eq-eqb, Bor}
use Rattle.std.proofs.lemmas.List.{get_or-set_same, get_or-set_other}
use Rattle.std.proofs.lemmas.Bool.{cases_eq, cases_lt, ne_eqb, eqb-true}
use Rattle.std.specs.Prelude.{IsTrue, IsSome, IfSome, MatchOption, ◌↔◌, length, slice_set}
use Rattle.std.specs.Option.{option_copied}
use Rattle.std.specs.Cmp.{nat_cmp_is}
use Rattle.std.specs.declared.cmp.Ordering.TheVariants.{Less, Equal, Greater}
use Rattle.std.specs.Ordering.{nat_cmp, is_gt, is_lt}
use Rattle.std.specs.BTreeMap.{is_at}
use Rattle.std.specs.BTreeSet as sorted
use Rattle.std.specs.BTreeSet.{BTreeSet, contains}
use Rattle.clock.specs.Ticks.{tick_in, HasNone, IsFirst, IsSame, Puts}
use Rattle.clock.specs.KeptTicks.{is_tick, pair_cmp, Agree}

-- numbers in order
cmp-less : (a b : ℕ) → a < b → nat_cmp a b ≡ Less
cmp-less a b less = sym (nat_cmp_is a b Less less)

cmp-same : (a b : ℕ) → a ≡ b → nat_cmp a b ≡ Equal
cmp-same a b same = sym (nat_cmp_is a b Equal same)

cmp-greater : (a b : ℕ) → b < a → nat_cmp a b ≡ Greater
cmp-greater a b more = sym (nat_cmp_is a b Greater more)

cases_cmp : (a b : ℕ) → (a < b) ⊎ (a ≡ b) ⊎ (b < a)
cases_cmp a b =
    elim (cases_lt a b) [
      | inl less ↦ inl less
      | inr upto ↦
          elim (cases_eq a b) [
            | inl same ↦ inr (inl same)
            | inr apart ↦ inr (inr (omega (arith, apart, upto)))
          ]
    ]

-- a number that is not greater than another
pub le_from_cmp : (a b : ℕ) → is_lt (nat_cmp b a) ≡ false → a ≤ b
le_from_cmp a b upto =
    elim (cases_cmp a b) [
      | inl less ↦ omega (arith, less)
      | inr (inl same) ↦ omega (arith, same)
      | inr (inr more) ↦ absurd (let before : is_lt (nat_cmp b a) ≡ true = rw (cmp-less b a more) refl in cc)
    ]

-- a key is not found under another key
at_other : (a b : ℕ) → b ≢ a → is_at (nat_cmp a) b ≡ false
at_other a b apart =
    elim (cases_cmp a b) [
      | inl less ↦ rw (cmp-less a b less) refl
      | inr (inl same) ↦ absurd (apart (sym same))
      | inr (inr more) ↦ rw (cmp-greater a b more) refl
    ]

-- a tick with a key is not found under another tick or another key
pub at_other_tick : (tick key later other : ℕ) → later ≢ tick → is_at (pair_cmp (tick, key)) (later, other) ≡ false
at_other_tick tick key later other apart =
    elim (cases_cmp tick later) [
      | inl less ↦ rw (cmp-less tick later less) refl
      | inr (inl same) ↦ absurd (apart (sym same))
      | inr (inr more) ↦ rw (cmp-greater tick later more) refl
    ]

pub at_other_key : (tick key later other : ℕ) → other ≢ key → is_at (pair_cmp (tick, key)) (later, other) ≡ false
at_other_key tick key later other apart =
    elim (cases_cmp tick later) [
      | inl less ↦ rw (cmp-less tick later less) refl
      | inr (inl same) ↦ rw (cmp-same tick later same) (at_other key other apart)
      | inr (inr more) ↦ rw (cmp-greater tick later more) refl
    ]

-- a pair that is not before another has a later tick, or the same tick with a key that is not less
pub tick_upto : (tick key later other : ℕ) → is_gt (pair_cmp (tick, key) (later, other)) ≡ false → tick ≤ later
tick_upto tick key later other upto =
    elim (cases_cmp tick later) [
      | inl less ↦ omega (arith, less)
      | inr (inl same) ↦ omega (arith, same)
      | inr (inr more) ↦ absurd (let above : is_gt (pair_cmp (tick, key) (later, other)) ≡ true = rw (cmp-greater tick later more) refl in
          cc)
    ]

pub key_upto : (tick key later other : ℕ) → is_gt (pair_cmp (tick, key) (later, other)) ≡ false → later ≤ tick → key ≤ other
key_upto tick key later other upto by =
    elim (cases_lt other key) [
      | inl less ↦
          let same : tick ≡ later = omega (arith, by, tick_upto tick key later other upto) in
          absurd (let above : is_gt (pair_cmp (tick, key) (later, other)) ≡ true =
          rw (cmp-same tick later same, cmp-greater key other less) refl in cc)
      | inr more ↦ more
    ]

pub is_tick-same : (tick : ℕ) → is_tick (Some tick) tick ≡ true
is_tick-same tick = eq-eqb tick tick refl

is_tick-other : (own tick : ℕ) → tick ≢ own → is_tick (Some own) tick ≡ false
is_tick-other own tick apart = ne_eqb own tick (λ e. apart (sym e))

pub is_tick-is : (o : Option ℕ) (tick : ℕ) → is_tick o tick ≡ true → o ≡ Some tick
is_tick-is None tick e = absurd (cc)
is_tick-is (Some own) tick e = ap Some (eqb-true own tick e)

-- the entry at a key's index is replaced
pub set_at : (ticks : List (Option ℕ)) (key : ℕ) (now tick : Option ℕ) → key < length ticks → now ≡ tick →
    Puts ticks (slice_set ticks key now) key tick
set_at ticks key now tick room is =
    record {
      changed = get_or-set_same ticks key now None room ∙ is;
      others = λ other apart. get_or-set_other ticks key other now None apart;
    }

-- A map and a sorted set that agree still do after a change at one key and one tick, if they agree there and the key's other ticks stay.
agree_but : (ticks later_ticks : List (Option ℕ)) (order later_order : BTreeSet (ℕ × ℕ)) (key tick : ℕ) → Agree ticks order
    → ((other : ℕ) → other ≢ key → tick_in later_ticks other ≡ tick_in ticks other)
    → ((p : ℕ × ℕ) → is_at (pair_cmp (tick, key)) p ≡ false → contains pair_cmp later_order p ≡ contains pair_cmp order p)
    → contains pair_cmp later_order (tick, key) ≡ is_tick (tick_in later_ticks key) tick
    → ((later : ℕ) → later ≢ tick → is_tick (tick_in ticks key) later ≡ is_tick (tick_in later_ticks key) later)
    → Agree later_ticks later_order
agree_but ticks later_ticks order later_order key tick agree keys pairs here stay other later =
    elim (cases_eq other key) [
      | inl same ↦
          elim (cases_eq later tick) [
            | inl at ↦ rw (same, at) here
            | inr late ↦ pairs (later, other) (at_other_tick tick key later other late) ∙ agree other later ∙ rw same (stay later late)
          ]
      | inr apart ↦
          pairs (later, other) (at_other_key tick key later other apart)
          ∙ agree other later
          ∙ ap (λ o. is_tick o later) (sym (keys other apart))
    ]

-- a key that had no tick has one
pub agree_added : (ticks later_ticks : List (Option ℕ)) (order later_order : BTreeSet (ℕ × ℕ)) (key tick : ℕ) → Agree ticks order →
    tick_in ticks key ≡ None → sorted.Updates pair_cmp order later_order (tick, key) true →
    Puts ticks later_ticks key (Some tick) → Agree later_ticks later_order
agree_added ticks later_ticks order later_order key tick agree none pairs keys =
    agree_but ticks later_ticks order later_order key tick agree keys.others pairs.2
    (pairs.1 ∙ rw keys.changed (sym (is_tick-same tick)))
    (λ later late. rw (none, keys.changed) (sym (is_tick-other tick later late)))

-- a key was given the tick that it has
pub agree_again : (ticks later_ticks : List (Option ℕ)) (order later_order : BTreeSet (ℕ × ℕ)) (key tick : ℕ) → Agree ticks order →
    tick_in ticks key ≡ Some tick → sorted.Updates pair_cmp order later_order (tick, key) true →
    Puts ticks later_ticks key (Some tick) → Agree later_ticks later_order
agree_again ticks later_ticks order later_order key tick agree has pairs keys =
    agree_but ticks later_ticks order later_order key tick agree keys.others pairs.2
    (pairs.1 ∙ rw keys.changed (sym (is_tick-same tick)))
    (λ later late. rw (has, keys.changed) refl)

-- a key has another tick than it had
pub agree_moved : (ticks later_ticks : List (Option ℕ)) (order more later_order : BTreeSet (ℕ × ℕ)) (key old tick : ℕ) → Agree ticks order →
    tick_in ticks key ≡ Some old → old ≢ tick → sorted.Updates pair_cmp order more (tick, key) true →
    Puts ticks later_ticks key (Some tick) → sorted.Updates pair_cmp more later_order (old, key) false →
    Agree later_ticks later_order
agree_moved ticks later_ticks order more later_order key old tick agree has apart added keys removed other later =
    elim (cases_eq other key) [
      | inl same ↦ rw same (at_key later)
      | inr differs ↦
          removed.2 (later, other) (at_other_key old key later other differs)
          ∙ added.2 (later, other) (at_other_key tick key later other differs)
          ∙ agree other later
          ∙ ap (λ o. is_tick o later) (sym (keys.others other differs))
    ]
  where
    at_key : (later : ℕ) → contains pair_cmp later_order (later, key) ≡ is_tick (tick_in later_ticks key) later
    at_key later =
        elim (cases_eq later old) [
          | inl was ↦ rw (was, keys.changed) (removed.1 ∙ sym (is_tick-other tick old apart))
          | inr other ↦
              removed.2 (later, key) (at_other_tick old key later key other)
              ∙ elim (cases_eq later tick) [
                | inl now ↦ rw (now, keys.changed) (added.1 ∙ sym (is_tick-same tick))
                | inr never ↦
                    added.2 (later, key) (at_other_tick tick key later key never)
                    ∙ agree key later
                    ∙ rw (has, keys.changed) (is_tick-other old later other ∙ sym (is_tick-other tick later never))
              ]
        ]

-- a key's tick is removed
pub agree_removed : (ticks later_ticks : List (Option ℕ)) (order later_order : BTreeSet (ℕ × ℕ)) (key tick : ℕ) → Agree ticks order →
    Some tick ≡ tick_in ticks key → sorted.Updates pair_cmp order later_order (tick, key) false →
    Puts ticks later_ticks key None → Agree later_ticks later_order
agree_removed ticks later_ticks order later_order key tick agree has pairs keys =
    agree_but ticks later_ticks order later_order key tick agree keys.others pairs.2
    (pairs.1 ∙ rw keys.changed refl)
    (λ later late. rw (← has, keys.changed) (is_tick-other tick later late))

-- every key keeps its tick, and the sorted set stays the same
pub agree_same : (ticks later_ticks : List (Option ℕ)) (order later_order : BTreeSet (ℕ × ℕ)) → Agree ticks order → IsSame ticks later_ticks →
    later_order ≡ order → Agree later_ticks later_order
agree_same ticks later_ticks order later_order agree same stays key tick = rw (stays, same key) (agree key tick)

-- nothing in the sorted set: no key has a tick
none_first : (ticks : List (Option ℕ)) (order : BTreeSet (ℕ × ℕ)) → Agree ticks order → order.keys ≡ [] → HasNone ticks
none_first ticks order agree empty key = none_at (tick_in ticks key) refl
  where
    none_at : (o : Option ℕ) → tick_in ticks key ≡ o → tick_in ticks key ≡ None
    none_at None e = e
    none_at (Some tick) e =
        absurd (
        let out : contains pair_cmp order (tick, key) ≡ false = rw empty refl in
        let among : contains pair_cmp order (tick, key) ≡ true = agree key tick ∙ ap (λ o. is_tick o tick) e ∙ is_tick-same tick in
        cc
        )

-- the least pair of the sorted set: its first tick and key
is_first : (ticks : List (Option ℕ)) (order : BTreeSet (ℕ × ℕ)) (first : ℕ × ℕ) → Agree ticks order → contains pair_cmp order first ≡ true →
    sorted.IsLowerBound pair_cmp order first → IsFirst ticks first.0 first.1
is_first ticks order first agree among below =
    let upto = λ (other later : ℕ) (has : tick_in ticks other ≡ Some later).
    below (later, other) (agree other later ∙ ap (λ o. is_tick o later) has ∙ is_tick-same later) in
    record {
      has = is_tick-is _ first.0 (sym (agree first.1 first.0) ∙ among);
      earliest = λ other later has. tick_upto first.0 first.1 later other (upto other later has);
      least = λ other later has by. key_upto first.0 first.1 later other (upto other later has) by;
    }

-- what `first` returns
pub first_seen : (ticks : List (Option ℕ)) (order : BTreeSet (ℕ × ℕ)) (o : Option (Bor (ℕ × ℕ))) → Agree ticks order →
    IsSome o ↔ (0 < length order.keys) → IfSome o (λ k. IsTrue (contains pair_cmp order k.now)) →
    IfSome o (λ k. sorted.IsLowerBound pair_cmp order k.now) → MatchOption (option_copied o) (HasNone ticks)
    (λ first. IsFirst ticks first.0 first.1)
first_seen ticks order None agree some among below = none_first ticks order agree (empty_keys order.keys some.1)
  where
    empty_keys : (ks : List (ℕ × ℕ)) → (0 < length ks → IsSome {T = Bor (ℕ × ℕ)} None) → ks ≡ []
    empty_keys [] some = refl
    empty_keys (k ∷ ks) some = absurd (let e = some (omega arith) in cc)
first_seen ticks order (Some k) agree some among below = is_first ticks order k.now agree among below
