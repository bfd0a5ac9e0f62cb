-- What the calls of the table require of a claim, of a split and of a join.
use Rattle.std.proofs.Common.{◌≡◌, ℕ, ◌+◌, ◌%◌, ◌<◌, ◌≤◌, List, [], ◌∷◌, ◌++◌, set, length, slice_index, refl, sym, ◌∙◌, subst, inl, inr, arith, length-set, get_or-set_same}
use Rattle.std.proofs.lemmas.Bool.{cases_lt}
use mathlib.Core.Option.{none}
use Rattle.atomic_table.specs.Table.{State, Me, keeps, step, stepped, Allows, Splits, Joins, Final, Seen}
use Rattle.atomic_table.proofs.Lists.{set_else}
use Rattle.workers.specs.declared.limits.TheConstants.{MAX_REQUESTS}
use Rattle.workers.specs.declared.rule.Hand.{Hand}
use Rattle.workers.specs.declared.rule.Counts.{Counts}
use Rattle.workers.specs.Rule.{hand, Claimed, Kept, one_less, new_hand, both_hands, spent_hand, Draws}
use Rattle.workers.proofs.RuleLemmas.{nones_few, splits, draws_number, draws_none, drawn_before, joins, Knows, knows_all}

-- the table after the word became n and one hand changed
placed : (counts : Counts) (s : State (Unit {0}) Hand) (n id : ℕ) (me : Me (Unit {0}) Hand) (w : Hand) → length s.words ≡ 1 →
    Claimed counts.requests counts.passes n (set s.views id w) → Kept counts (stepped s 0 n id me.1 w keeps)
placed counts s n id me w wide rule = (
  length-set s.words 0 n ∙ wide,
  subst (λ k. Claimed counts.requests counts.passes k (set s.views id w))
      (sym (get_or-set_same s.words 0 n 0 (omega arith))) rule,
)

-- a claim may be made with a ticket that has not got `None`
pub claims_allowed : (counts : Counts) (slots id : ℕ) (me : Me (Unit {0}) Hand) → me.0.parts ≡ 1 → me.0.nones ≡ 0 →
    counts.requests ≤ MAX_REQUESTS → counts.passes ≤ 64
    → Allows (Kept counts) slots id me 0 (λ n. (n + 1) % 18446744073709551616) (Draws (step slots 0 1 0 none) me)
claims_allowed counts slots id me one unspent few_requests few_passes s rule homes at small =
    let word = slice_index s.words 0 in
    let v = me.0 in
    let spent = nones_few counts.requests counts.passes word s.views rule.1 in
    let next : word + 1 ≡ (word + 1) % 18446744073709551616 = omega arith in
    let some_part : 0 < v.parts = omega arith in
    let most = (rule.1.fair id v at).most some_part in
    let kept = λ (w : Hand) (after : Claimed counts.requests counts.passes (word + 1) (set s.views id w)).
    subst (λ n. Kept counts (stepped s 0 n id me.1 w keeps)) next (placed counts s (word + 1) id me w rule.0 after) in
    elim (cases_lt word counts.requests) [
      | inl left ↦
          let w = hand v.most v.parts (v.drawn ++ word ∷ []) v.nones in (
            w,
            keeps,
            tt,
            kept w (draws_number counts.requests counts.passes word s.views id v rule.1 at some_part left),
            (
              refl,
              record {
                number = λ below. (drawn_before counts.requests counts.passes word s.views id v rule.1 at, refl);
                none =
                    λ over. absurd (omega arith);
              },
            ),
          )
      | inr over ↦
          let w = hand v.most v.parts v.drawn (v.nones + 1) in (
            w,
            keeps,
            tt,
            kept w (draws_none counts.requests counts.passes word s.views id v rule.1 at some_part unspent over),
            (refl, record { number = λ below. absurd (omega arith); none = λ over. refl }),
          )
    ]

-- a ticket may be split off a hand that stands for more than one
pub cuts_allowed : (counts : Counts) (id : ℕ) (v : Hand) → 1 < v.parts → v.nones ≡ 0 → Splits (Kept counts) id v (one_less v) (new_hand v)
cuts_allowed counts id v more unspent s rule at =
    (rule.0, splits counts.requests counts.passes (slice_index s.words 0) s.views id v rule.1 at more unspent)

-- another hand may be joined to a hand that stands for a ticket
pub joins_allowed : (counts : Counts) (id : ℕ) (v : Hand) (other : ℕ) (w : Hand) → 0 < v.parts →
    Joins (Kept counts) id v other w (both_hands v w) spent_hand
joins_allowed counts id v other w some_part s rule at apart there = (
  rule.0,
  joins counts.requests counts.passes (slice_index s.words 0) s.views id other v w rule.1 at some_part there
      (sym (set_else s.views id other (both_hands v w) apart) ∙ there),
)

-- what the closed table states of the hand that stands for all tickets
pub closed_knows : (counts : Counts) (id : ℕ) (v : Hand) (words : List ℕ) (slots : List (Unit {0})) →
    Final (Seen (Kept counts) id v) words slots → v.parts ≡ counts.passes → Knows counts.requests (slice_index words 0) v
closed_knows counts id v words slots final all =
    let s = final.0 in
    subst (λ (ws : List ℕ). Knows counts.requests (slice_index ws 0) v) final.2
    (knows_all counts.requests counts.passes (slice_index s.words 0) s.views id v final.1.0.1 final.1.1 all)
