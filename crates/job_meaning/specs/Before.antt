-- What is known of a walk before a tick c, and when two stacks or two walks agree in those ticks.
use Rattle.std.specs.Prelude.{◌≡◌, ℕ, ◌<◌, ◌≤◌, Bool, true, false, if◌then◌else◌, Option, Some, None, List, [], ◌∷◌, min, nat_lt}
use Rattle.exceptions.specs.Exceptions.{Label, Exc}
use Rattle.cancel_scopes.specs.Sight.{Tick}
use Rattle.job_meaning.specs.Log.{Entry, Log, nil, entry, sign, entered, Act, opens, asks, gives_back, closes, act, task, Member, Result}
use Rattle.job_meaning.specs.Sharing.{Grants, granted_before}
use Rattle.job_meaning.specs.Walk.{Levels, Stack, Mode, two_walks, by_table}

-- the lesser of a tick and c, where never is later than every tick
abbrev pub upto : ℕ → Tick → ℕ
upto c None = c
upto c (Some t) = min c t

-- two stacks agree, except where both moments of cancellation are at least c: scopes and events
abbrev pub NearLevels : ℕ → Levels → Levels → Type 0
NearLevels c [] [] = Unit {0}
NearLevels c (l ∷ ls) (k ∷ ks) = (l.label ≡ k.label) × (l.shield ≡ k.shield) × (upto c l.from ≡ upto c k.from) × NearLevels c ls ks
NearLevels c [] (k ∷ ks) = ⊥
NearLevels c (l ∷ ls) [] = ⊥

abbrev pub Near : ℕ → Stack → Stack → Type 0
Near c st other = NearLevels c st.scopes other.scopes × NearLevels c st.events other.events

-- grants are the same before c
abbrev pub NearGrants : ℕ → Grants → Grants → Type 0
NearGrants c grants other =
    (object asker : Label) (m : ℕ) → granted_before c (grants object asker m) ≡ granted_before c (other object asker m)

-- two walks are of one kind, with one table, and agree in what is granted before c
abbrev pub NearModes : ℕ → Mode → Mode → Type 0
NearModes c (two_walks grants) (two_walks other) = NearGrants c grants other
NearModes c (by_table table grants) (by_table other_table other) = ((l : Label) → table l ≡ other_table l) × NearGrants c grants other
NearModes c (two_walks grants) (by_table table other) = ⊥
NearModes c (by_table table grants) (two_walks other) = ⊥

-- an exception is known where its task has ended
abbrev pub exc_if : Bool → Option Exc → Option Exc
exc_if true e = e
exc_if false e = None

-- what is known of a member before c: its end or that it has not ended, and its exception if it has
abbrev pub known_member : ℕ → Member → Member
known_member c m = record { end = min c m.end; exc = exc_if (nat_lt m.end c) m.exc }

abbrev pub known_members : ℕ → List Member → List Member
known_members c [] = []
known_members c (m ∷ ms) = known_member c m ∷ known_members c ms

abbrev pub entry_if : Bool → ℕ → Entry → Log → Log
entry_if true t e rest = entry t e rest
entry_if false t e rest = rest

abbrev pub sign_before : Bool → Label → ℕ → Log → Log
sign_before true l t rest = sign l t rest
sign_before false l t rest = rest

abbrev pub entered_if : Bool → Label → ℕ → Tick → Log → Log
entered_if true l t d rest = entered l t d rest
entered_if false l t d rest = rest

abbrev pub task_if : Bool → Label → ℕ → ℕ → Option Exc → Log → Log → Log
task_if true l s u e own rest = task l s u e own rest
task_if false l s u e own rest = rest

-- of who asks it is known before c whether it has left the queue
abbrev pub left_before : ℕ → Tick → Tick
left_before c None = None
left_before c (Some m) = if nat_lt m c then Some m else None

abbrev pub act_before : ℕ → Act → Act
act_before c (opens kind) = opens kind
act_before c (asks ask part left) = asks ask part (left_before c left)
act_before c gives_back = gives_back
act_before c closes = closes

abbrev pub act_if : Bool → Label → ℕ → Act → Log → Log
act_if true l t a rest = act l t a rest
act_if false l t a rest = rest

-- A log without what is at c or later. A task that was started before c stays, with what is known of its end and its
-- exception, and with its own log cut likewise.
abbrev pub log_before : ℕ → Log → Log
log_before c nil = nil
log_before c (entry t e rest) = entry_if (nat_lt t c) t e (log_before c rest)
log_before c (sign l t rest) = sign_before (nat_lt t c) l t (log_before c rest)
log_before c (entered l t d rest) = entered_if (nat_lt t c) l t d (log_before c rest)
log_before c (act l t a rest) = act_if (nat_lt t c) l t (act_before c a) (log_before c rest)
log_before c (task l s u e own rest) =
    task_if (nat_lt s c) l s (min c u) (exc_if (nat_lt u c) e) (log_before c own) (log_before c rest)

-- Two walks agree before c: starts, entries, entered labels, signs and ends. Either both end in the same moment before
-- c with the same own cancels and the same exception, or both end at c or later.
pub data Agree (c : ℕ) (r q : Result) : Type 0 where
  soon :
      (before : r.end < c) → (ends : r.end ≡ q.end) → (owns : r.own ≡ q.own) → (excs : r.exc ≡ q.exc) →
      (members : known_members c r.members ≡ known_members c q.members) → (logs : log_before c r.log ≡ log_before c q.log) → Agree c r q
  later : (first : c ≤ r.end) → (second : c ≤ q.end) → (logs : log_before c r.log ≡ log_before c q.log) → Agree c r q
