-- Timers: those in the list and those in the sorted set.
use Rattle.std.proofs.Common.{◌≡◌, ◌≢◌, ◌⊎◌, ℕ, ◌<◌, ◌≤◌, List, [], ◌∷◌, ◌++◌, Option, Some, None, Bool, true, false, refl, ap, sym, subst, ◌∙◌, inl, inr, arith, Bor}
use Rattle.std.proofs.lemmas.Bool.{cases_eq, cases_lt, cases_Bool}
use Rattle.std.proofs.lemmas.List.Elements.{Contains-append_left, Contains-push, Contains-push_cases}
use Rattle.std.specs.Prelude.{IsTrue, IsSome, IfSome, MatchBool, MatchOption, ◌↔◌, length}
use Rattle.std.specs.List.{Contains}
use Rattle.std.specs.Option.{option_copied}
use Rattle.std.specs.BTreeSet as sorted
use Rattle.std.specs.BTreeSet.{BTreeSet, contains}
use Rattle.cancel_scopes.proofs.IndexLemmas.{some_same}
use Rattle.clock.specs.Ticks.{tick_in, IsFirst, IsSame, Puts}
use Rattle.clock.specs.KeptTicks.{pair_cmp}
use Rattle.clock.specs.KeptTimers.{AllAfter, AllKept, HasLive, HasNoPair, IsEarlierOf, IsEarliest, IsFirstLive, IsFirstOf, IsFirstPair, IsUpto, KeepsOthers, NoPairBy, NoneLive}
use Rattle.clock.proofs.TickLemmas.{at_other_key, at_other_tick, key_upto, tick_upto}

no_pair : (order : BTreeSet (ℕ × ℕ)) (keys : List (ℕ × ℕ)) → order.keys ≡ keys →
    (0 < length keys → IsSome {T = Bor (ℕ × ℕ)} None) → HasNoPair order
no_pair order [] empty some p = rw empty refl
no_pair order (k ∷ ks) empty some p = absurd (let e = some (omega arith) in cc)

-- the first pair of the sorted set, if there is one
pub pair_seen : (order : BTreeSet (ℕ × ℕ)) (o : Option (Bor (ℕ × ℕ))) →
    IsSome o ↔ (0 < length order.keys) → IfSome o (λ k. IsTrue (contains pair_cmp order k.now)) →
    IfSome o (λ k. sorted.IsLowerBound pair_cmp order k.now) → MatchOption (option_copied o) (HasNoPair order) (IsFirstPair order)
pair_seen order None some among below = no_pair order order.keys refl some.1
pair_seen order (Some k) some among below =
    record {
      among = among;
      upto = λ p is. (
        tick_upto k.now.0 k.now.1 p.0 p.1 (below p is),
        key_upto k.now.0 k.now.1 p.0 p.1 (below p is),
      );
    }

-- a key that had no tick has one, in the sorted set
pub kept_later : (horizon : ℕ) (ticks later_ticks : List (Option ℕ)) (order later_order : BTreeSet (ℕ × ℕ)) (soon_tick key tick : ℕ) (soon : List ℕ) →
    AllKept horizon ticks order soon_tick soon → tick_in ticks key ≡ None → tick ≤ horizon →
    sorted.Updates pair_cmp order later_order (tick, key) true → Puts ticks later_ticks key (Some tick) →
    (soon ≡ []) ⊎ (tick ≢ soon_tick) → AllKept horizon later_ticks later_order soon_tick soon
kept_later horizon ticks later_ticks order later_order soon_tick key tick soon kept none is_near pairs keys differs =
    record { listed = listed; found = found; apart = apart; near = near; soon_near = kept.soon_near }
  where
    listed : (other later : ℕ) → contains pair_cmp later_order (later, other) ≡ true → tick_in later_ticks other ≡ Some later
    listed other later among =
        elim (cases_eq other key) [
          | inl same ↦
              elim (cases_eq later tick) [
                | inl at ↦ rw (same, at) keys.changed
                | inr late ↦
                    absurd (let was : tick_in ticks key ≡ Some later =
                    ap (tick_in ticks) (sym same) ∙ kept.listed other later (sym (pairs.2 (later, other) (at_other_tick tick key later other late)) ∙ among) in
                    cc)
              ]
          | inr differs ↦
              keys.others other differs
              ∙ kept.listed other later (sym (pairs.2 (later, other) (at_other_key tick key later other differs)) ∙ among)
        ]

    found : (other later : ℕ) → tick_in later_ticks other ≡ Some later → later ≤ horizon →
        (contains pair_cmp later_order (later, other) ≡ true) ⊎ ((later ≡ soon_tick) × Contains soon other)
    found other later has by =
        elim (cases_eq other key) [
          | inl same ↦
              let at : later ≡ tick = some_same later tick (sym has ∙ ap (tick_in later_ticks) same ∙ keys.changed) in
              inl (rw (same, at) pairs.1)
          | inr differs ↦
              elim (kept.found other later (sym (keys.others other differs) ∙ has) by) [
                | inl among ↦ inl (pairs.2 (later, other) (at_other_key tick key later other differs) ∙ among)
                | inr live ↦ inr live
              ]
        ]

    apart : (other : ℕ) → Contains soon other → contains pair_cmp later_order (soon_tick, other) ≡ false
    apart other among =
        elim differs [
          | inl empty ↦ absurd (omega (arith, among.1, ap length empty))
          | inr late ↦
              pairs.2 (soon_tick, other) (at_other_tick tick key soon_tick other (λ same. late (sym same)))
              ∙ kept.apart other among
        ]

    near : (other later : ℕ) → contains pair_cmp later_order (later, other) ≡ true → later ≤ horizon
    near other later among =
        elim (cases_eq later tick) [
          | inl at ↦ omega (arith, at, is_near)
          | inr late ↦ kept.near other later (sym (pairs.2 (later, other) (at_other_tick tick key later other late)) ∙ among)
        ]

-- a key that had no tick has one, in the list
pub kept_soon : (horizon : ℕ) (ticks later_ticks : List (Option ℕ)) (order : BTreeSet (ℕ × ℕ)) (soon_tick key tick : ℕ) (soon later_soon : List ℕ) →
    AllKept horizon ticks order soon_tick soon → tick_in ticks key ≡ None → tick ≤ horizon → Puts ticks later_ticks key (Some tick) →
    (soon ≡ []) ⊎ (tick ≡ soon_tick) → later_soon ≡ soon ++ key ∷ [] → AllKept horizon later_ticks order tick later_soon
kept_soon horizon ticks later_ticks order soon_tick key tick soon later_soon kept none is_near keys same_tick are =
    rw are record { listed = listed; found = found; apart = apart; near = kept.near; soon_near = is_near }
  where
    new_tick : (later : ℕ) → contains pair_cmp order (later, key) ≡ true → ⊥
    new_tick later among = let was = kept.listed key later among in absurd (cc)

    listed : (other later : ℕ) → contains pair_cmp order (later, other) ≡ true → tick_in later_ticks other ≡ Some later
    listed other later among =
        elim (cases_eq other key) [
          | inl same ↦ absurd (new_tick later (ap (λ (n : ℕ). contains pair_cmp order (later, n)) (sym same) ∙ among))
          | inr differs ↦ keys.others other differs ∙ kept.listed other later among
        ]

    found : (other later : ℕ) → tick_in later_ticks other ≡ Some later → later ≤ horizon →
        (contains pair_cmp order (later, other) ≡ true) ⊎ ((later ≡ tick) × Contains (soon ++ key ∷ []) other)
    found other later has by =
        elim (cases_eq other key) [
          | inl same ↦
              let at : later ≡ tick = some_same later tick (sym has ∙ ap (tick_in later_ticks) same ∙ keys.changed) in
              inr (at, rw same (Contains-push soon key))
          | inr differs ↦
              elim (kept.found other later (sym (keys.others other differs) ∙ has) by) [
                | inl among ↦ inl among
                | inr live ↦
                    elim same_tick [
                      | inl empty ↦ absurd (omega (arith, live.1.1, ap length empty))
                      | inr same ↦ inr (live.0 ∙ sym same, Contains-append_left soon (key ∷ []) other live.1)
                    ]
              ]
        ]

    apart : (other : ℕ) → Contains (soon ++ key ∷ []) other → contains pair_cmp order (tick, other) ≡ false
    apart other among =
        elim (Contains-push_cases soon key other among) [
          | inl old ↦
              elim same_tick [
                | inl empty ↦ absurd (omega (arith, old.1, ap length empty))
                | inr same ↦ ap (λ (n : ℕ). contains pair_cmp order (n, other)) same ∙ kept.apart other old
              ]
          | inr same ↦
              elim (cases_Bool (contains pair_cmp order (tick, other))) [
                | inl is ↦ absurd (new_tick tick (ap (λ (n : ℕ). contains pair_cmp order (tick, n)) same ∙ is))
                | inr out ↦ out
              ]
        ]

-- a key's tick is removed, and its pair from the sorted set
pub kept_removed : (horizon : ℕ) (ticks later_ticks : List (Option ℕ)) (order later_order : BTreeSet (ℕ × ℕ)) (soon_tick key tick : ℕ) (soon later_soon : List ℕ) →
    AllKept horizon ticks order soon_tick soon → Some tick ≡ tick_in ticks key → tick ≤ horizon →
    sorted.Updates pair_cmp order later_order (tick, key) false →
    Puts ticks later_ticks key None → KeepsOthers soon later_soon key → AllKept horizon later_ticks later_order soon_tick later_soon
kept_removed horizon ticks later_ticks order later_order soon_tick key tick soon later_soon kept has is_near pairs keys left =
    record { listed = listed; found = found; apart = apart; near = near; soon_near = kept.soon_near }
  where
    listed : (other later : ℕ) → contains pair_cmp later_order (later, other) ≡ true → tick_in later_ticks other ≡ Some later
    listed other later among =
        elim (cases_eq other key) [
          | inl same ↦
              elim (cases_eq later tick) [
                | inl at ↦
                    absurd (let is : contains pair_cmp later_order (tick, key) ≡ true = rw (← same, ← at) among in
                    let gone = pairs.1 in cc)
                | inr late ↦
                    absurd (late (some_same later tick (sym (kept.listed other later
                    (sym (pairs.2 (later, other) (at_other_tick tick key later other late)) ∙ among)) ∙ ap (tick_in ticks) same ∙ sym has)))
              ]
          | inr differs ↦
              keys.others other differs
              ∙ kept.listed other later (sym (pairs.2 (later, other) (at_other_key tick key later other differs)) ∙ among)
        ]

    found : (other later : ℕ) → tick_in later_ticks other ≡ Some later → later ≤ horizon →
        (contains pair_cmp later_order (later, other) ≡ true) ⊎ ((later ≡ soon_tick) × Contains later_soon other)
    found other later own by =
        elim (cases_eq other key) [
          | inl same ↦ absurd (let gone : tick_in later_ticks other ≡ None = ap (tick_in later_ticks) same ∙ keys.changed in cc)
          | inr differs ↦
              elim (kept.found other later (sym (keys.others other differs) ∙ own) by) [
                | inl among ↦ inl (pairs.2 (later, other) (at_other_key tick key later other differs) ∙ among)
                | inr live ↦ inr (live.0, left.others other differs live.1)
              ]
        ]

    apart : (other : ℕ) → Contains later_soon other → contains pair_cmp later_order (soon_tick, other) ≡ false
    apart other among =
        elim (cases_eq other key) [
          | inl same ↦
              elim (cases_eq soon_tick tick) [
                | inl at ↦ rw (same, at) pairs.1
                | inr late ↦
                    pairs.2 (soon_tick, other) (at_other_tick tick key soon_tick other late)
                    ∙ kept.apart other (left.fewer other among)
              ]
          | inr differs ↦
              pairs.2 (soon_tick, other) (at_other_key tick key soon_tick other differs)
              ∙ kept.apart other (left.fewer other among)
        ]

    near : (other later : ℕ) → contains pair_cmp later_order (later, other) ≡ true → later ≤ horizon
    near other later among =
        elim (cases_eq later tick) [
          | inl at ↦ omega (arith, at, is_near)
          | inr late ↦ kept.near other later (sym (pairs.2 (later, other) (at_other_tick tick key later other late)) ∙ among)
        ]

module _ (horizon : ℕ) (ticks : List (Option ℕ)) (order : BTreeSet (ℕ × ℕ)) (soon_tick now : ℕ) (keys : List ℕ) (kept : AllKept horizon ticks order soon_tick keys)
    (within : now ≤ horizon) where
  -- what was found of the list and of the sorted set
  abbrev SoonBy : Option ℕ → Type 0
  SoonBy soon = MatchOption soon (soon_tick ≤ now → NoneLive ticks soon_tick keys) (λ key. (soon_tick ≤ now) × IsFirstLive ticks soon_tick keys key)

  abbrev LaterBy : Option (ℕ × ℕ) → Type 0
  LaterBy later = MatchOption later (NoPairBy order now) (λ p. (p.0 ≤ now) × IsFirstPair order p)

  -- the first timer that is due is the first of the list or that of the sorted set
  pub first_seen : (soon : Option ℕ) (later first : Option (ℕ × ℕ)) → SoonBy soon → LaterBy later →
      MatchOption first ((soon ≡ None) × (later ≡ None)) (IsFirstOf soon soon_tick later) →
      MatchOption first (AllAfter ticks now) (λ p. (p.0 ≤ now) × IsFirst ticks p.0 p.1)
  first_seen None None None none_soon none_later none = λ key tick has. elim (cases_lt now tick) [
    | inl after ↦ after
    | inr by ↦
        elim (kept.found key tick has (omega (arith, by, within))) [
          | inl among ↦ none_later (tick, key) among
          | inr live ↦ absurd (none_soon (omega (arith, by, live.0)) key (has ∙ ap Some live.0) live.1)
        ]
  ]
  first_seen None (Some p) None soon later none = absurd (let e = none.1 in cc)
  first_seen (Some key) later None soon later_first none = absurd (let e = none.0 in cc)
  first_seen soon later (Some first) soon_first later_first of = (
    come,
    record {
      has = elim of.is_one [
        | inl own ↦ (soon_has soon soon_first own.0).1 ∙ ap Some (sym own.1)
        | inr own ↦ (later_has later later_first own).1
      ];
      earliest = λ other tick has. (upto other tick has).0;
      least = λ other tick has. (upto other tick has).1;
    },
  )
    where
      soon_has : (o : Option ℕ) → SoonBy o → o ≡ Some first.1 → (soon_tick ≤ now) × (tick_in ticks first.1 ≡ Some soon_tick)
      soon_has None m e = absurd (cc)
      soon_has (Some key) m e = (m.0, ap (tick_in ticks) (sym (some_same key first.1 e)) ∙ m.1.has)

      later_has : (o : Option (ℕ × ℕ)) → LaterBy o → o ≡ Some first → (first.0 ≤ now) × (tick_in ticks first.1 ≡ Some first.0)
      later_has None m e = absurd (cc)
      later_has (Some p) m e =
          let same : p ≡ first = cc in (
            subst (λ (x : ℕ × ℕ). x.0 ≤ now) same m.0,
            kept.listed first.1 first.0 (ap (contains pair_cmp order) (sym same) ∙ m.1.among),
          )

      come : first.0 ≤ now
      come =
          elim of.is_one [
            | inl own ↦ let by = (soon_has soon soon_first own.0).0 in omega (arith, by, own.1)
            | inr own ↦ (later_has later later_first own).0
          ]

      soon_upto : (o : Option ℕ) → SoonBy o → ((key : ℕ) → o ≡ Some key → IsUpto first (soon_tick, key)) → (other : ℕ) →
          tick_in ticks other ≡ Some soon_tick → Contains keys other → IsUpto first (soon_tick, other)
      soon_upto None m below other has among =
          elim (cases_lt now soon_tick) [
            | inl after ↦ (omega (arith, after, come), λ by. absurd (omega (arith, after, come, by)))
            | inr upto ↦ absurd (m upto other has among)
          ]
      soon_upto (Some key) m below other has among =
          let one = below key refl in
          let least = m.1.least other has among in (
            one.0,
            λ by. let by_key = one.1 by in omega (arith, by_key, least),
          )

      later_upto : (o : Option (ℕ × ℕ)) → LaterBy o → ((p : ℕ × ℕ) → o ≡ Some p → IsUpto first p) → (other late : ℕ) →
          contains pair_cmp order (late, other) ≡ true → IsUpto first (late, other)
      later_upto None m below other late among =
          let after = m (late, other) among in
          (omega (arith, after, come), λ by. absurd (omega (arith, after, come, by)))
      later_upto (Some p) m below other late among =
          let one = below p refl in
          let two = m.1.upto (late, other) among in
          let tick_one = one.0 in
          let tick_two = two.0 in (
            omega (arith, tick_one, tick_two),
            λ by.
                let key_one = one.1 (omega (arith, by, tick_two)) in
                let key_two = two.1 (omega (arith, by, tick_one)) in
                omega (arith, key_one, key_two),
          )

      upto : (other tick : ℕ) → tick_in ticks other ≡ Some tick → IsUpto first (tick, other)
      upto other tick has =
          elim (cases_lt horizon tick) [
            | inl far ↦ (omega (arith, far, within, come), λ by. absurd (omega (arith, far, within, come, by)))
            | inr by ↦
                elim (kept.found other tick has by) [
                  | inl among ↦ later_upto later later_first of.later_upto other tick among
                  | inr live ↦
                      let below = soon_upto soon soon_first of.soon_upto other (has ∙ ap Some live.0) live.1 in
                      rw live.0 below
                ]
          ]

module _ (horizon : ℕ) (ticks : List (Option ℕ)) (order : BTreeSet (ℕ × ℕ)) (soon_tick : ℕ) (keys : List ℕ) (kept : AllKept horizon ticks order soon_tick keys) where
  -- the earliest tick is that of the list or the first of the sorted set
  pub earliest_seen : (is_soon : Bool) (later : Option (ℕ × ℕ)) (first : Option ℕ) →
      MatchBool is_soon (HasLive ticks soon_tick) (NoneLive ticks soon_tick keys) → MatchOption later (HasNoPair order) (IsFirstPair order) →
      MatchOption first ((is_soon ≡ false) × (later ≡ None)) (IsEarlierOf is_soon soon_tick later) →
      MatchOption first (AllAfter ticks horizon) (IsEarliest ticks)
  earliest_seen false None None none_soon none_later none = λ key tick has. elim (cases_lt horizon tick) [
    | inl far ↦ far
    | inr by ↦
        elim (kept.found key tick has by) [
          | inl among ↦ absurd (let out = none_later (tick, key) in cc)
          | inr live ↦ absurd (none_soon key (has ∙ ap Some live.0) live.1)
        ]
  ]
  earliest_seen false (Some p) None soon later none = absurd (let e = none.1 in cc)
  earliest_seen true later None soon later_first none = absurd (let e = none.0 in cc)
  earliest_seen is_soon later (Some tick) soon later_first of = elim of.is_one [
    | inl own ↦
        let live = soon_has is_soon soon own.0 in
        record { task = live.0; has = live.1 ∙ ap Some (sym own.1); earliest = upto }
    | inr own ↦ record { task = own.0; has = later_has later later_first own.0 own.1; earliest = upto }
  ]
    where
      soon_has : (b : Bool) → MatchBool b (HasLive ticks soon_tick) (NoneLive ticks soon_tick keys) → b ≡ true → HasLive ticks soon_tick
      soon_has false m e = absurd (cc)
      soon_has true m e = m

      later_has : (o : Option (ℕ × ℕ)) → MatchOption o (HasNoPair order) (IsFirstPair order) → (key : ℕ) → o ≡ Some (tick, key) →
          tick_in ticks key ≡ Some tick
      later_has None m key e = absurd (cc)
      later_has (Some p) m key e =
          let same : p ≡ (tick, key) = cc in
          kept.listed key tick (ap (contains pair_cmp order) (sym same) ∙ m.among)

      soon_upto : (b : Bool) → MatchBool b (HasLive ticks soon_tick) (NoneLive ticks soon_tick keys) → (b ≡ true → tick ≤ soon_tick) → (other : ℕ) →
          tick_in ticks other ≡ Some soon_tick → Contains keys other → tick ≤ soon_tick
      soon_upto false m below other has among = absurd (m other has among)
      soon_upto true m below other has among = below refl

      later_upto : (o : Option (ℕ × ℕ)) → MatchOption o (HasNoPair order) (IsFirstPair order) → ((p : ℕ × ℕ) → o ≡ Some p → tick ≤ p.0) →
          (other late : ℕ) → contains pair_cmp order (late, other) ≡ true → tick ≤ late
      later_upto None m below other late among = absurd (let out = m (late, other) in cc)
      later_upto (Some p) m below other late among =
          let one = below p refl in
          let two = (m.upto (late, other) among).0 in
          omega (arith, one, two)

      later_near : (o : Option (ℕ × ℕ)) → MatchOption o (HasNoPair order) (IsFirstPair order) → (key : ℕ) → o ≡ Some (tick, key) → tick ≤ horizon
      later_near None m key e = absurd (cc)
      later_near (Some p) m key e =
          let same : p ≡ (tick, key) = cc in
          kept.near key tick (ap (contains pair_cmp order) (sym same) ∙ m.among)

      near : tick ≤ horizon
      near =
          elim of.is_one [
            | inl own ↦ let by = kept.soon_near in omega (arith, by, own.1)
            | inr own ↦ later_near later later_first own.0 own.1
          ]

      upto : (other due : ℕ) → tick_in ticks other ≡ Some due → tick ≤ due
      upto other due has =
          elim (cases_lt horizon due) [
            | inl far ↦ omega (arith, far, near)
            | inr by ↦
                elim (kept.found other due has by) [
                  | inl among ↦ later_upto later later_first of.later_upto other due among
                  | inr live ↦
                      let below = soon_upto is_soon soon of.soon_upto other (has ∙ ap Some live.0) live.1 in
                      omega (arith, below, live.0)
                ]
          ]

-- every key keeps its tick
pub kept_same : (horizon : ℕ) (ticks later_ticks : List (Option ℕ)) (order : BTreeSet (ℕ × ℕ)) (soon_tick : ℕ) (soon : List ℕ) →
    AllKept horizon ticks order soon_tick soon → IsSame ticks later_ticks → AllKept horizon later_ticks order soon_tick soon
kept_same horizon ticks later_ticks order soon_tick soon kept same =
    record {
      listed = λ key tick among. same key ∙ kept.listed key tick among;
      found = λ key tick has by. kept.found key tick (sym (same key) ∙ has) by;
      apart = kept.apart;
      near = kept.near;
      soon_near = kept.soon_near;
    }
