-- How the clock stores its timers. No public clause cites this module.
use Rattle.std.specs.Prelude.{◌≡◌, ◌≢◌, ◌⊎◌, ℕ, ◌<◌, ◌≤◌, Bool, true, false, not, length, List, min, Option, Some, None, slice_index_or}
use Rattle.std.specs.List.{Contains}
use Rattle.std.specs.BTreeSet.{BTreeSet, contains}
use Rattle.clock.specs.Ticks.{tick_in}
use Rattle.clock.specs.KeptTicks.{is_tick, pair_cmp}

-- every timer is due at this tick or later
abbrev pub NoneBefore : List (Option ℕ) → ℕ → Type 0
NoneBefore timers tick = (task due : ℕ) → tick_in timers task ≡ Some due → tick ≤ due

-- every timer is later than this tick
abbrev pub AllAfter : List (Option ℕ) → ℕ → Type 0
AllAfter timers now = (task due : ℕ) → tick_in timers task ≡ Some due → now < due

-- a timer is due at this tick, and none is earlier
pub record IsEarliest (timers : List (Option ℕ)) (tick : ℕ) : Type 0 where
  pub task : ℕ
  pub has : tick_in timers task ≡ Some tick
  pub earliest : (other due : ℕ) → tick_in timers other ≡ Some due → tick ≤ due

-- the earlier of a tick and the tick of the next cancellation
abbrev pub earlier_of : Option ℕ → ℕ → ℕ
earlier_of None due = due
earlier_of (Some cancel) due = min due cancel

-- what contracts see of the timers: the tick of each key, and the tick that no jump goes past
pub record HeldTimers : Type 0 where
  pub horizon : ℕ
  pub ticks : List (Option ℕ)

-- every timer is due at the clock's tick or later, the horizon is the clock's limit, and its tick is at most the limit
pub record AllAhead (timers : HeldTimers) (tick limit : ℕ) : Type 0 where
  pub ahead : NoneBefore timers.ticks tick
  pub bounded : timers.horizon ≡ limit
  pub within : tick ≤ limit

-- Each pair in the sorted set is a tick with its key. The tick of each key is there, or it is that of the list and the key is in
-- the list, or it is later than the horizon. A key in the list is not in the sorted set with the tick of the list. No tick in the
-- sorted set is later than the horizon, and the tick of the list is not either.
pub record AllKept (horizon : ℕ) (ticks : List (Option ℕ)) (order : BTreeSet (ℕ × ℕ)) (soon_tick : ℕ) (soon : List ℕ) : Type 0 where
  pub listed : (key tick : ℕ) → contains pair_cmp order (tick, key) ≡ true → tick_in ticks key ≡ Some tick
  pub found : (key tick : ℕ) → tick_in ticks key ≡ Some tick → tick ≤ horizon →
      (contains pair_cmp order (tick, key) ≡ true) ⊎ ((tick ≡ soon_tick) × Contains soon key)
  pub apart : (key : ℕ) → Contains soon key → contains pair_cmp order (soon_tick, key) ≡ false
  pub near : (key tick : ℕ) → contains pair_cmp order (tick, key) ≡ true → tick ≤ horizon
  pub soon_near : soon_tick ≤ horizon

-- no key in the list is less than one after it
abbrev pub Falls : List ℕ → Type 0
Falls keys = (i j d : ℕ) → i ≤ j → j < length keys → slice_index_or keys j d ≤ slice_index_or keys i d

-- the new list has only keys of the old one, and each of them that has this tick
pub record KeepsLive (ticks : List (Option ℕ)) (tick : ℕ) (old new : List ℕ) : Type 0 where
  pub live : (key : ℕ) → tick_in ticks key ≡ Some tick → Contains old key → Contains new key
  pub fewer : (key : ℕ) → Contains new key → Contains old key

-- the new list has only keys of the old one, and each of them but this one
pub record KeepsOthers (old new : List ℕ) (key : ℕ) : Type 0 where
  pub others : (other : ℕ) → other ≢ key → Contains old other → Contains new other
  pub fewer : (other : ℕ) → Contains new other → Contains old other

-- whether there is a key and it does not have this tick
abbrev pub is_stale : List (Option ℕ) → ℕ → Option ℕ → Bool
is_stale ticks tick None = false
is_stale ticks tick (Some key) = not (is_tick (tick_in ticks key) tick)

-- a key has this tick
abbrev pub HasLive : List (Option ℕ) → ℕ → Type 0
HasLive ticks tick = (key : ℕ) × (tick_in ticks key ≡ Some tick)

-- no key in the list has this tick
abbrev pub NoneLive : List (Option ℕ) → ℕ → List ℕ → Type 0
NoneLive ticks tick keys = (key : ℕ) → tick_in ticks key ≡ Some tick → Contains keys key → ⊥

-- the key has this tick, and no key in the list that has it is less
pub record IsFirstLive (ticks : List (Option ℕ)) (tick : ℕ) (keys : List ℕ) (key : ℕ) : Type 0 where
  pub has : tick_in ticks key ≡ Some tick
  pub least : (other : ℕ) → tick_in ticks other ≡ Some tick → Contains keys other → key ≤ other

-- a tick with a key is no later than another: its tick is earlier, or it is the same and the key is not greater
abbrev pub IsUpto : ℕ × ℕ → ℕ × ℕ → Type 0
IsUpto x y = (x.0 ≤ y.0) × (y.0 ≤ x.0 → x.1 ≤ y.1)

-- the sorted set is empty
abbrev pub HasNoPair : BTreeSet (ℕ × ℕ) → Type 0
HasNoPair order = (p : ℕ × ℕ) → contains pair_cmp order p ≡ false

-- each tick in the sorted set is later than this one
abbrev pub NoPairBy : BTreeSet (ℕ × ℕ) → ℕ → Type 0
NoPairBy order now = (p : ℕ × ℕ) → contains pair_cmp order p ≡ true → now < p.0

-- the pair is in the sorted set, and none is before it
pub record IsFirstPair (order : BTreeSet (ℕ × ℕ)) (first : ℕ × ℕ) : Type 0 where
  pub among : contains pair_cmp order first ≡ true
  pub upto : (p : ℕ × ℕ) → contains pair_cmp order p ≡ true → IsUpto first p

-- the first of two: a key that has this tick, and a tick with its key
pub record IsFirstOf (soon : Option ℕ) (soon_tick : ℕ) (later : Option (ℕ × ℕ)) (first : ℕ × ℕ) : Type 0 where
  pub is_one : ((soon ≡ Some first.1) × (first.0 ≡ soon_tick)) ⊎ (later ≡ Some first)
  pub soon_upto : (key : ℕ) → soon ≡ Some key → IsUpto first (soon_tick, key)
  pub later_upto : (p : ℕ × ℕ) → later ≡ Some p → IsUpto first p

-- the earlier of two: this tick, if there is a key in the list, and the tick of a pair
pub record IsEarlierOf (is_soon : Bool) (soon_tick : ℕ) (later : Option (ℕ × ℕ)) (tick : ℕ) : Type 0 where
  pub is_one : ((is_soon ≡ true) × (tick ≡ soon_tick)) ⊎ ((key : ℕ) × (later ≡ Some (tick, key)))
  pub soon_upto : is_soon ≡ true → tick ≤ soon_tick
  pub later_upto : (p : ℕ × ℕ) → later ≡ Some p → tick ≤ p.0
