-- Ticks, stacks and logs cut at a tick c.
use Rattle.std.proofs.Common.{◌≡◌, ℕ, ◌<◌, ◌≤◌, min, max, Bool, true, false, Option, Some, None, List, [], ◌∷◌, ◌++◌, refl, ap, sym, ◌∙◌, arith, nat_le, nat_lt, if◌then◌else◌}
use Rattle.std.proofs.lemmas.Bool.{false≢true, true≢false, le-ltb, lt-ltb}
use Rattle.std.proofs.lemmas.Bool.Decides.{nat_tests}
use Rattle.std.specs.Str.{bytes_eq}
use Rattle.exceptions.specs.Exceptions.{Label, Exc}
use Rattle.cancel_scopes.specs.Sight.{Tick, Level, earlier, is_reached, next, sight, seen}
use Rattle.job_meaning.specs.Log.{Entry, Log, nil, entry, sign, entered, Act, act, task, followed_by, Member, least_sign, tick_if, same_label, from_by}
use Rattle.job_meaning.specs.Walk.{Levels, label_on, label_if, event_on, level_if, home_of, latest}
use Rattle.job_meaning.specs.Before.{upto, NearLevels, exc_if, known_member, known_members, entry_if, sign_before, entered_if, task_if, act_before, act_if, log_before}
use Rattle.job_meaning.proofs.Late.{Timed}

-- a tick cut at c is at most c
pub upto_most : (c : ℕ) (a : Tick) → upto c a ≤ c
upto_most c None = omega arith
upto_most c (Some t) = omega arith

-- the earlier of two ticks, cut at c, is the lesser of the two cut at c
pub upto_earlier : (c : ℕ) (a b : Tick) → upto c (earlier a b) ≡ min (upto c a) (upto c b)
upto_earlier c None None = omega arith
upto_earlier c None (Some u) = omega arith
upto_earlier c (Some t) None = omega arith
upto_earlier c (Some t) (Some u) = by_order (nat_lt u t) refl
  where
    by_order : (b : Bool) → nat_lt u t ≡ b → min c (if b then u else t) ≡ min (min c t) (min c u)
    by_order true e = grind (arith, nat_tests)
    by_order false e = grind (arith, nat_tests)

-- cut at c, the earlier of two goes by the two cut at c
pub upto_earlier_same : (c : ℕ) (a b x y : Tick) → upto c a ≡ upto c x → upto c b ≡ upto c y → upto c (earlier a b) ≡ upto c (earlier x y)
upto_earlier_same c a b x y e f = cc (upto_earlier c a b, upto_earlier c x y)

-- of ticks that are the same cut at c, the next ticks are too
pub upto_next : (c : ℕ) (a b : Tick) → upto c a ≡ upto c b → upto c (next a) ≡ upto c (next b)
upto_next c None None e = refl
upto_next c None (Some u) e = omega arith
upto_next c (Some t) None e = omega arith
upto_next c (Some t) (Some u) e = omega arith

-- which ticks before c have come is determined by the ticks cut at c
pub reached_near : (c : ℕ) (a b : Tick) (u : ℕ) → upto c a ≡ upto c b → u < c → is_reached a u ≡ is_reached b u
reached_near c None None u e lt = refl
reached_near c None (Some y) u e lt = sym (le_false (omega arith))
  where
    le_false : u < y → nat_le y u ≡ false
    le_false h = grind (arith, nat_tests)
reached_near c (Some x) None u e lt = le_false (omega arith)
  where
    le_false : u < x → nat_le x u ≡ false
    le_false h = grind (arith, nat_tests)
reached_near c (Some x) (Some y) u e lt = grind (arith, nat_tests)

-- near stacks have near effective deadlines (`sight`)
pub sight_near : (c : ℕ) (st su : Levels) → NearLevels c st su → upto c (sight st) ≡ upto c (sight su)
sight_near c [] [] n = refl
sight_near c [] (k ∷ ks) n = absurd n
sight_near c (l ∷ ls) [] n = absurd n
sight_near c (l ∷ ls) (k ∷ ks) n = by_shield l.shield k.shield n.1 (sight_near c ls ks n.3)
  where
    by_shield : (s r : Bool) → s ≡ r → upto c (sight ls) ≡ upto c (sight ks) →
        upto c (if s then l.from else earlier l.from (sight ls)) ≡ upto c (if r then k.from else earlier k.from (sight ks))
    by_shield true true e f = n.2
    by_shield false false e f = upto_earlier_same c l.from (sight ls) k.from (sight ks) n.2 f
    by_shield true false e f = absurd (true≢false e)
    by_shield false true e f = absurd (false≢true e)

-- near stacks see the same at each tick before c
pub seen_near : (c : ℕ) (st su : Levels) (u : ℕ) → NearLevels c st su → u < c → seen st u ≡ seen su u
seen_near c st su u n lt = reached_near c (sight st) (sight su) u (sight_near c st su n) lt

-- near stacks have the same labels
pub label_near : (c : ℕ) (name : List ℕ) (st su : Levels) → NearLevels c st su → label_on name st ≡ label_on name su
label_near c name [] [] n = refl
label_near c name [] (k ∷ ks) n = absurd n
label_near c name (l ∷ ls) [] n = absurd n
label_near c name (l ∷ ls) (k ∷ ks) n = same_labels l.label k.label (label_on name ls) (label_on name ks) n.0 (label_near c name ls ks n.3)
  where
    same_labels : (a b : Label) (x y : Option Label) → a ≡ b → x ≡ y →
        label_if (bytes_eq name a.name) a x ≡ label_if (bytes_eq name b.name) b y
    same_labels a b x y e f = cc

-- two events agree, except where both are set at c or later
abbrev pub NearEvents : ℕ → Option (Level Label) → Option (Level Label) → Type 0
NearEvents c None None = Unit {0}
NearEvents c (Some l) (Some k) = (l.label ≡ k.label) × (upto c l.from ≡ upto c k.from)
NearEvents c None (Some k) = ⊥
NearEvents c (Some l) None = ⊥

-- near stacks have near events of each name
pub event_near : (c : ℕ) (name : List ℕ) (st su : Levels) → NearLevels c st su → NearEvents c (event_on name st) (event_on name su)
event_near c name [] [] n = tt
event_near c name [] (k ∷ ks) n = absurd n
event_near c name (l ∷ ls) [] n = absurd n
event_near c name (l ∷ ls) (k ∷ ks) n =
    by_test (bytes_eq name l.label.name) (bytes_eq name k.label.name) (ap (λ (x : Label). bytes_eq name x.name) n.0) (event_near c name ls ks n.3)
  where
    by_test : (a b : Bool) → a ≡ b → NearEvents c (event_on name ls) (event_on name ks) →
        NearEvents c (level_if a l (event_on name ls)) (level_if b k (event_on name ks))
    by_test true true e h = (n.0, n.2)
    by_test false false e h = h
    by_test true false e h = absurd (true≢false e)
    by_test false true e h = absurd (false≢true e)

-- near stacks have the same innermost label
pub home_near : (c : ℕ) (st su : Levels) → NearLevels c st su → home_of st ≡ home_of su
home_near c [] [] n = refl
home_near c [] (k ∷ ks) n = absurd n
home_near c (l ∷ ls) [] n = absurd n
home_near c (l ∷ ls) (k ∷ ks) n = ap (λ (x : Label). Some x) n.0

followed_entry : (b : Bool) (t : ℕ) (e : Entry) (x y : Log) → entry_if b t e (followed_by x y) ≡ followed_by (entry_if b t e x) y
followed_entry true t e x y = refl
followed_entry false t e x y = refl

followed_sign_before : (b : Bool) (l : Label) (t : ℕ) (x y : Log) →
    sign_before b l t (followed_by x y) ≡ followed_by (sign_before b l t x) y
followed_sign_before true l t x y = refl
followed_sign_before false l t x y = refl

followed_entered : (b : Bool) (l : Label) (t : ℕ) (d : Tick) (x y : Log) →
    entered_if b l t d (followed_by x y) ≡ followed_by (entered_if b l t d x) y
followed_entered true l t d x y = refl
followed_entered false l t d x y = refl

followed_act : (b : Bool) (l : Label) (t : ℕ) (a : Act) (x y : Log) → act_if b l t a (followed_by x y) ≡ followed_by (act_if b l t a x) y
followed_act true l t a x y = refl
followed_act false l t a x y = refl

followed_task : (b : Bool) (l : Label) (s u : ℕ) (e : Option Exc) (own x y : Log) →
    task_if b l s u e own (followed_by x y) ≡ followed_by (task_if b l s u e own x) y
followed_task true l s u e own x y = refl
followed_task false l s u e own x y = refl

-- a log is cut piece by piece
pub clipped_followed : (c : ℕ) (a b : Log) → log_before c (followed_by a b) ≡ followed_by (log_before c a) (log_before c b)
clipped_followed c nil b = refl
clipped_followed c (entry t e rest) b = ap (λ (x : Log). entry_if (nat_lt t c) t e x) (clipped_followed c rest b)
    ∙ followed_entry (nat_lt t c) t e (log_before c rest) (log_before c b)
clipped_followed c (sign l t rest) b = ap (λ (x : Log). sign_before (nat_lt t c) l t x) (clipped_followed c rest b)
    ∙ followed_sign_before (nat_lt t c) l t (log_before c rest) (log_before c b)
clipped_followed c (entered l t d rest) b = ap (λ (x : Log). entered_if (nat_lt t c) l t d x) (clipped_followed c rest b)
    ∙ followed_entered (nat_lt t c) l t d (log_before c rest) (log_before c b)
clipped_followed c (act l t a rest) b = ap (λ (x : Log). act_if (nat_lt t c) l t (act_before c a) x) (clipped_followed c rest b)
    ∙ followed_act (nat_lt t c) l t (act_before c a) (log_before c rest) (log_before c b)
clipped_followed c (task l s u e own rest) b =
    ap (λ (x : Log). task_if (nat_lt s c) l s (min c u) (exc_if (nat_lt u c) e) (log_before c own) x) (clipped_followed c rest b)
    ∙ followed_task (nat_lt s c) l s (min c u) (exc_if (nat_lt u c) e) (log_before c own) (log_before c rest) (log_before c b)

-- logs that are the same cut at c are so one after another too
pub both_clipped : (c : ℕ) (a b x y : Log) → log_before c a ≡ log_before c x → log_before c b ≡ log_before c y →
    log_before c (followed_by a b) ≡ log_before c (followed_by x y)
both_clipped c a b x y e f = cc (clipped_followed c a b, clipped_followed c x y)

-- a log followed by nothing is the log itself
pub followed_nil : (a : Log) → followed_by a nil ≡ a
followed_nil nil = refl
followed_nil (entry t e rest) = ap (λ (x : Log). entry t e x) (followed_nil rest)
followed_nil (sign l t rest) = ap (λ (x : Log). sign l t x) (followed_nil rest)
followed_nil (entered l t d rest) = ap (λ (x : Log). entered l t d x) (followed_nil rest)
followed_nil (act l t a rest) = ap (λ (x : Log). act l t a x) (followed_nil rest)
followed_nil (task l s u e own rest) = ap (λ (x : Log). task l s u e own x) (followed_nil rest)

without_entry : (b : Bool) (t : ℕ) (e : Entry) (x : Log) → b ≡ false → entry_if b t e x ≡ x
without_entry true t e x f = absurd (true≢false f)
without_entry false t e x f = refl

without_sign_before : (b : Bool) (l : Label) (t : ℕ) (x : Log) → b ≡ false → sign_before b l t x ≡ x
without_sign_before true l t x f = absurd (true≢false f)
without_sign_before false l t x f = refl

without_entered : (b : Bool) (l : Label) (t : ℕ) (d : Tick) (x : Log) → b ≡ false → entered_if b l t d x ≡ x
without_entered true l t d x f = absurd (true≢false f)
without_entered false l t d x f = refl

pub without_act : (b : Bool) (l : Label) (t : ℕ) (a : Act) (x : Log) → b ≡ false → act_if b l t a x ≡ x
without_act true l t a x f = absurd (true≢false f)
without_act false l t a x f = refl

without_task : (b : Bool) (l : Label) (s u : ℕ) (e : Option Exc) (own x : Log) → b ≡ false → task_if b l s u e own x ≡ x
without_task true l s u e own x f = absurd (true≢false f)
without_task false l s u e own x f = refl

-- nothing is left of what is all at c or later
pub clipped_late : (c t : ℕ) (a : Log) → c ≤ t → Timed t a → log_before c a ≡ nil
clipped_late c t nil le h = refl
clipped_late c t (entry u e rest) le h = without_entry (nat_lt u c) u e (log_before c rest) (le-ltb u c (past h.0))
    ∙ clipped_late c t rest le h.1
  where
    past : t ≤ u → c ≤ u
    past k = omega arith
clipped_late c t (sign l u rest) le h = without_sign_before (nat_lt u c) l u (log_before c rest) (le-ltb u c (past h.0))
    ∙ clipped_late c t rest le h.1
  where
    past : t ≤ u → c ≤ u
    past k = omega arith
clipped_late c t (entered l u d rest) le h = without_entered (nat_lt u c) l u d (log_before c rest) (le-ltb u c (past h.0))
    ∙ clipped_late c t rest le h.1
  where
    past : t ≤ u → c ≤ u
    past k = omega arith
clipped_late c t (act l u a rest) le h = without_act (nat_lt u c) l u (act_before c a) (log_before c rest) (le-ltb u c (past h.0))
    ∙ clipped_late c t rest le h.1
  where
    past : t ≤ u → c ≤ u
    past k = omega arith
clipped_late c t (task l u v e own rest) le h =
    without_task (nat_lt u c) l u (min c v) (exc_if (nat_lt v c) e) (log_before c own) (log_before c rest) (le-ltb u c (past h.0))
    ∙ clipped_late c t rest le h.3
  where
    past : t ≤ u → c ≤ u
    past k = omega arith

-- what follows at c or later is cut away
pub clipped_tail : (c t : ℕ) (a b : Log) → c ≤ t → Timed t b → log_before c (followed_by a b) ≡ log_before c a
clipped_tail c t a b le h =
    clipped_followed c a b ∙ (ap (λ (x : Log). followed_by (log_before c a) x) (clipped_late c t b le h) ∙ followed_nil (log_before c a))

min_both : (c a b : ℕ) → a ≡ c → b ≡ c → min a b ≡ c
min_both c a b e f = omega arith

upto_tick_if : (c t : ℕ) (b : Bool) → c ≤ t → upto c (tick_if b t) ≡ c
upto_tick_if c t true le = omega arith
upto_tick_if c t false le = refl

-- what is all at c or later has no sign before c
pub least_late : (c t : ℕ) (l : Label) (a : Log) → c ≤ t → Timed t a → upto c (least_sign l a) ≡ c
least_late c t l nil le h = refl
least_late c t l (entry u e rest) le h = least_late c t l rest le h.1
least_late c t l (sign m u rest) le h =
    upto_earlier c (tick_if (same_label l m) u) (least_sign l rest)
    ∙ min_both c _ _ (upto_tick_if c u (same_label l m) (past h.0)) (least_late c t l rest le h.1)
  where
    past : t ≤ u → c ≤ u
    past k = omega arith
least_late c t l (entered m u d rest) le h = least_late c t l rest le h.1
least_late c t l (act m u a rest) le h = least_late c t l rest le h.1
least_late c t l (task m u v e own rest) le h =
    upto_earlier c (least_sign l own) (least_sign l rest)
    ∙ min_both c _ _ (least_late c u l own (past h.0) h.2) (least_late c t l rest le h.3)
  where
    past : t ≤ u → c ≤ u
    past k = omega arith

-- the first sign before c is determined by the log cut at c
pub least_clipped : (c t : ℕ) (l : Label) (a : Log) → Timed t a → upto c (least_sign l a) ≡ upto c (least_sign l (log_before c a))
least_clipped c t l nil h = refl
least_clipped c t l (entry u e rest) h = by_kept (nat_lt u c) (least_clipped c t l rest h.1)
  where
    by_kept : (b : Bool) → upto c (least_sign l rest) ≡ upto c (least_sign l (log_before c rest)) →
        upto c (least_sign l rest) ≡ upto c (least_sign l (entry_if b u e (log_before c rest)))
    by_kept true k = k
    by_kept false k = k
least_clipped c t l (sign m u rest) h = by_kept (nat_lt u c) refl (least_clipped c t l rest h.1)
  where
    most : upto c (least_sign l rest) ≤ c
    most = upto_most c (least_sign l rest)

    at_c : (x y z : ℕ) → x ≡ c → y ≤ c → y ≡ z → min x y ≡ z
    at_c x y z e f g = omega arith

    by_kept : (b : Bool) → nat_lt u c ≡ b → upto c (least_sign l rest) ≡ upto c (least_sign l (log_before c rest)) →
        upto c (earlier (tick_if (same_label l m) u) (least_sign l rest)) ≡ upto c (least_sign l (sign_before b m u (log_before c rest)))
    by_kept true e k = upto_earlier_same c (tick_if (same_label l m) u) (least_sign l rest) (tick_if (same_label l m) u)
        (least_sign l (log_before c rest)) refl k
    by_kept false e k =
        upto_earlier c (tick_if (same_label l m) u) (least_sign l rest)
        ∙ at_c _ _ _ (upto_tick_if c u (same_label l m) (grind (arith, nat_tests))) most k
least_clipped c t l (entered m u d rest) h = by_kept (nat_lt u c) (least_clipped c t l rest h.1)
  where
    by_kept : (b : Bool) → upto c (least_sign l rest) ≡ upto c (least_sign l (log_before c rest)) →
        upto c (least_sign l rest) ≡ upto c (least_sign l (entered_if b m u d (log_before c rest)))
    by_kept true k = k
    by_kept false k = k
least_clipped c t l (act m u a rest) h = by_kept (nat_lt u c) (least_clipped c t l rest h.1)
  where
    by_kept : (b : Bool) → upto c (least_sign l rest) ≡ upto c (least_sign l (log_before c rest)) →
        upto c (least_sign l rest) ≡ upto c (least_sign l (act_if b m u (act_before c a) (log_before c rest)))
    by_kept true k = k
    by_kept false k = k
least_clipped c t l (task m u v e own rest) h = by_kept (nat_lt u c) refl (least_clipped c u l own h.2) (least_clipped c t l rest h.3)
  where
    most : upto c (least_sign l rest) ≤ c
    most = upto_most c (least_sign l rest)

    at_c : (x y z : ℕ) → x ≡ c → y ≤ c → y ≡ z → min x y ≡ z
    at_c x y z e f g = omega arith

    by_kept : (b : Bool) → nat_lt u c ≡ b → upto c (least_sign l own) ≡ upto c (least_sign l (log_before c own)) →
        upto c (least_sign l rest) ≡ upto c (least_sign l (log_before c rest)) →
        upto c (earlier (least_sign l own) (least_sign l rest)) ≡ upto c
        (least_sign l (task_if b m u (min c v) (exc_if (nat_lt v c) e) (log_before c own) (log_before c rest)))
    by_kept true e j k = upto_earlier_same c (least_sign l own) (least_sign l rest) (least_sign l (log_before c own))
        (least_sign l (log_before c rest)) j k
    by_kept false e j k =
        upto_earlier c (least_sign l own) (least_sign l rest)
        ∙ at_c _ _ _ (least_late c u l own (grind (arith, nat_tests)) h.2) most k

-- logs that agree before c have their first signs at the same ticks before c
pub least_near : (c t : ℕ) (l : Label) (a b : Log) → Timed t a → Timed t b → log_before c a ≡ log_before c b →
    upto c (least_sign l a) ≡ upto c (least_sign l b)
least_near c t l a b h k e =
    least_clipped c t l a h ∙ (ap (λ (x : Log). upto c (least_sign l x)) e ∙ sym (least_clipped c t l b k))

-- and blocks with these signs have near moments of cancellation
pub from_near : (c : ℕ) (d s u : Tick) → upto c s ≡ upto c u → upto c (from_by d s) ≡ upto c (from_by d u)
from_near c d s u e = upto_earlier_same c d (next s) d (next u) refl (upto_next c s u e)

-- what is known of two lists of members is what is known of each
pub known_append : (c : ℕ) (a b : List Member) → known_members c (a ++ b) ≡ known_members c a ++ known_members c b
known_append c [] b = refl
known_append c (m ∷ ms) b = ap (λ (x : List Member). known_member c m ∷ x) (known_append c ms b)

-- if the same is known before c of the parts of two lists of members, the same is known of the
-- lists
pub both_known : (c : ℕ) (a b x y : List Member) → known_members c a ≡ known_members c x → known_members c b ≡ known_members c y →
    known_members c (a ++ b) ≡ known_members c (x ++ y)
both_known c a b x y e f = cc (known_append c a b, known_append c x y)

-- the last end before c is determined by what is known of the members
pub latest_known : (c t : ℕ) (ms : List Member) → min c (latest t ms) ≡ latest (min c t) (known_members c ms)
latest_known c t [] = refl
latest_known c t (m ∷ ms) = latest_known c (max t m.end) ms ∙ ap (λ (u : ℕ). latest u (known_members c ms)) min_max
  where
    min_max : min c (max t m.end) ≡ max (min c t) (min c m.end)
    min_max = omega arith

same_members : (u v : ℕ) (e f : Option Exc) → u ≡ v → e ≡ f →
    (let x : Member = record { end = u; exc = e } in x) ≡ record { end = v; exc = f }
same_members u v e f p q = cc

-- where all have ended before c, all is known
pub all_known : (c t : ℕ) (ms : List Member) → latest t ms < c → known_members c ms ≡ ms
all_known c t [] lt = refl
all_known c t (m ∷ ms) lt = both (all_known c (max t m.end) ms lt)
  where
    last : max t m.end ≤ latest (max t m.end) ms
    last = Rattle.job_meaning.proofs.Late.latest_ends (max t m.end) ms

    before : m.end < c
    before = let h = last in omega arith

    end_known : min c m.end ≡ m.end
    end_known = let h = before in omega arith

    exc_known : (b : Bool) → b ≡ true → exc_if b m.exc ≡ m.exc
    exc_known true e = refl
    exc_known false e = absurd (false≢true e)

    first : known_member c m ≡ m
    first = same_members _ _ _ _ end_known (exc_known (nat_lt m.end c) (lt-ltb m.end c before))

    both : known_members c ms ≡ ms → known_member c m ∷ known_members c ms ≡ m ∷ ms
    both e = let f = first in cc
