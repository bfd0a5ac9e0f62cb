-- A task in the queue of a limiter or channel: when it leaves the queue, and what it has left.
use Rattle.std.proofs.Common.{◌≡◌, ℕ, suc, ◌<◌, ◌≤◌, min, Bool, true, false, ◌&&◌, Option, Some, None, List, refl, ap, sym, ◌∙◌, arith, nat_le, nat_lt, if◌then◌else◌}
use Rattle.std.proofs.lemmas.Bool.{le-ltb}
use Rattle.std.proofs.lemmas.Bool.Decides.{nat_tests}
use Rattle.job_tree.specs.declared.object.Ask.{Ask}
use Rattle.input_lines.specs.Lines.{Range}
use Rattle.exceptions.specs.Exceptions.{Label}
use Rattle.cancel_scopes.specs.Sight.{Tick, sight, seen}
use Rattle.job_meaning.specs.Log.{asks, Log, nil, act, Result, least_sign}
use Rattle.job_meaning.specs.Sharing.{What, Granted, granted_if}
use Rattle.job_meaning.specs.Moments.{Now}
use Rattle.job_meaning.specs.Walk.{Stack, Mode, Here, with_act, last_grant, leaves_queue, in_time, left_result, granted_result, asked_result}
use Rattle.job_meaning.specs.Before.{upto, left_before}
use Rattle.job_meaning.specs.Rest.{ChildOutcomes, Frame, Stopped, to_begin, asking, asleep, waiting_for, queued, giving_up, awaiting, at_end, finish, inside}
use Rattle.job_meaning.proofs.Clips.{least_late}
use Rattle.job_meaning.proofs.Finish.{finish_after}
use Rattle.job_meaning.proofs.Late.{Late, last_after, leaves_after, late_leaving, late_granted, late_since}
use Rattle.job_meaning.proofs.LateRest.{late_finish}
use Rattle.turn_semantics.specs.Midway.{Place, label_among, Tables}
use Rattle.interleavings.specs.Interleaving.{granted_or_left, leaves_by}

-- ---- when a task leaves its queue

-- the moments in which tasks leave a queue are the same as far as c, if their sights are
pub left_near : (c : ℕ) (f g : Tick) (last : ℕ) → upto c f ≡ upto c g → min c (leaves_queue f last) ≡ min c (leaves_queue g last)
left_near c None None last e = refl
left_near c None (Some y) last e = no_earlier y e
  where
    no_earlier : (u : ℕ) → c ≡ min c u → min c last ≡ min c (min u last)
    no_earlier u h = omega arith
left_near c (Some x) None last e = no_earlier x e
  where
    no_earlier : (u : ℕ) → min c u ≡ c → min c (min u last) ≡ min c last
    no_earlier u h = omega arith
left_near c (Some x) (Some y) last e = same_cut x y e
  where
    same_cut : (u v : ℕ) → min c u ≡ min c v → min c (min u last) ≡ min c (min v last)
    same_cut u v h = omega arith

-- what is granted at t is so for each moment of leaving that is the same as far as t + 1
pub granted_alike : (t since x y : ℕ) (o : Option Granted) (what : What) → min (suc t) x ≡ min (suc t) y →
    in_time since x o ≡ Some (record { at = t; what = what }) → in_time since y o ≡ Some (record { at = t; what = what })
granted_alike t since x y None what e h = h
granted_alike t since x y (Some g) what e h =
    sym (ap (λ (b : Bool). granted_if (nat_lt since g.at && b) g None) (same_test (in_moment (nat_lt since g.at && nat_le g.at x) h))) ∙ h
  where
    in_moment : (b : Bool) → granted_if b g None ≡ Some (record { at = t; what = what }) → g.at ≡ t
    in_moment true i = ap (λ (p : Option Granted). granted_or_left p 0) i
    in_moment false i = cc

    same_test : g.at ≡ t → nat_le g.at x ≡ nat_le g.at y
    same_test i = by_test (nat_le g.at x) (nat_le g.at y) refl refl
      where
        by_test : (a b : Bool) → nat_le g.at x ≡ a → nat_le g.at y ≡ b → a ≡ b
        by_test true true j k = refl
        by_test false false j k = refl
        by_test true false j k = absurd (grind (arith, nat_tests))
        by_test false true j k = absurd (grind (arith, nat_tests))

-- a task that leaves its queue at u or later by one moment does so after v by another one that is the same as far as v + 1
pub leaves_alike : (v u since x y : ℕ) (o : Option Granted) → v < u → min (suc v) x ≡ min (suc v) y →
    u ≤ granted_or_left (in_time since y o) y → suc v ≤ granted_or_left (in_time since x o) x
leaves_alike v u since x y None lt e h = omega arith
leaves_alike v u since x y (Some g) lt e h = by_tests (nat_lt since g.at) (nat_le g.at x) (nat_le g.at y) refl refl h
  where
    by_tests : (a b c : Bool) → nat_le g.at x ≡ b → nat_le g.at y ≡ c → u ≤ granted_or_left (granted_if (a && c) g None) y →
        suc v ≤ granted_or_left (granted_if (a && b) g None) x
    by_tests false b c i j k = omega arith
    by_tests true true true i j k = omega arith
    by_tests true true false i j k = let past : y < g.at = grind (arith, nat_tests) in omega arith
    by_tests true false true i j k = let within : g.at ≤ y = grind (arith, nat_tests) in omega arith
    by_tests true false false i j k = omega arith

-- a task that sees no cancellation when it asks leaves the queue no earlier
pub leaves_since : (k : Tables) (here : Here) (l : Option Label) (since : ℕ) (st : Stack) → seen st.scopes since ≡ false →
    since ≤ leaves_by k here l since st
leaves_since k here None since st e =
    leaves_after (sight st.scopes) since (last_grant here.clock since) e (last_after here.clock since)
leaves_since k here (Some l) since st e = by_grant (k.granted l here.task since)
  where
    left : ℕ
    left = leaves_queue (sight st.scopes) (last_grant here.clock since)

    late : since ≤ left
    late = leaves_after (sight st.scopes) since (last_grant here.clock since) e (last_after here.clock since)

    by_grant : (o : Option Granted) → since ≤ granted_or_left (in_time since left o) left
    by_grant None = late
    by_grant (Some g) = by_time (nat_lt since g.at) (nat_le g.at left) refl
      where
        by_time : (a b : Bool) → nat_lt since g.at ≡ a → since ≤ granted_or_left (granted_if (a && b) g None) left
        by_time true true i = grind (arith, nat_tests)
        by_time true false i = late
        by_time false b i = late

-- ---- what it has left

-- A result that begins with what a task asked of a limiter or channel in some moment: it is not known before v that it left the queue,
-- and all that follows is at v or later.
pub record Pending (v : ℕ) (label : Label) (since : ℕ) (ask : Ask) (part : Range) (r : Result) : Type 0 where
  pub left : Tick
  pub rest : Result
  pub same : r ≡ with_act label since (asks ask part left) rest
  pub late : Late v rest
  pub unknown : left_before v left ≡ None

-- so it is with what comes of a task that leaves its queue at v or later
pub pending_asked : (v : ℕ) (ask : Ask) (label : Label) (here : Here) (from : Tick) (m left : ℕ) (o : Option Granted) (go : Here → Now → Result) →
    v ≤ granted_or_left o left → ((inner : Here) (u : Now) → Late u.at (go inner u)) →
    Pending v label m ask here.part (asked_result ask label here from m left o go)
pending_asked v ask label here from m left None go le h =
    record {
      left = Some left;
      rest = left_result here from left;
      same = refl;
      late = late_leaving here from left v le;
      unknown = ap (λ (b : Bool). if b then Some left else None) (le-ltb left v le);
    }
pending_asked v ask label here from m left (Some g) go le h =
    record {
      left = None;
      rest = granted_result label here g.at g.what go;
      same = refl;
      late = late_since v g.at _ le (late_granted label here g.at g.what go h);
      unknown = refl;
    }

-- and with the frames that the task has left
pub pending_finish : (fs : List Frame) (v : ℕ) (m : Mode) (outcomes : ChildOutcomes) (here : Here) (st : Stack) (label : Label) (since : ℕ)
    (ask : Ask) (part : Range) (r : Result) → Pending v label since ask part r → Pending v label since ask part (finish m outcomes fs here st r)
pending_finish fs v m outcomes here st label since ask part r h =
    record {
      left = h.left;
      rest = finish m outcomes fs here st h.rest;
      same = ap (λ (x : Result). finish m outcomes fs here st x) h.same
          ∙ finish_after fs (act label since (asks ask part h.left) nil) m outcomes here st h.rest;
      late = late_finish fs v m outcomes here st h.rest h.late;
      unknown = h.unknown;
    }

-- what a task has asked of a limiter or channel that encloses it
abbrev pub PendingOn : ℕ → Option Label → (since : ℕ) → Ask → Range → Result → Type 0
PendingOn v None since ask part r = ⊥
PendingOn v (Some l) since ask part r = Pending v l since ask part r

-- What a task has left is at v or later, but for what it asked, if it is in a queue.
abbrev pub LateFrom : ℕ → Here → List Frame → List Place → Stopped → Result → Type 0
LateFrom v here fs ps (queued object ask since body) r = PendingOn v (label_among true object ps) since ask (inside fs here).part r
LateFrom v here fs ps to_begin r = Late v r
LateFrom v here fs ps _ r = Late v r

-- it ends at v or later
pub late_from_ends : (v : ℕ) (here : Here) (fs : List Frame) (ps : List Place) (s : Stopped) (r : Result) → LateFrom v here fs ps s r → v ≤ r.end
late_from_ends v here fs ps (queued object ask since body) r h = of_label (label_among true object ps) h
  where
    of_label : (l : Option Label) → PendingOn v l since ask (inside fs here).part r → v ≤ r.end
    of_label None p = absurd p
    of_label (Some l) p =
        let a : r.end ≡ p.rest.end = ap (λ (x : Result). x.end) p.same in
        let b : v ≤ p.rest.end = p.late.ends in
        omega arith
late_from_ends v here fs ps to_begin r h = h.ends
late_from_ends v here fs ps (asking kernel purpose) r h = h.ends
late_from_ends v here fs ps (asleep paced n since) r h = h.ends
late_from_ends v here fs ps (waiting_for event since) r h = h.ends
late_from_ends v here fs ps (giving_up since) r h = h.ends
late_from_ends v here fs ps (awaiting children ended exc) r h = h.ends
late_from_ends v here fs ps (at_end u e) r h = h.ends

-- So it is with any task; one that has ended has nothing left.
abbrev pub LeftFrom : ℕ → Here → List Frame → List Place → Stopped → Result → Type 0
LeftFrom v here fs ps (queued object ask since body) r = PendingOn v (label_among true object ps) since ask (inside fs here).part r
LeftFrom v here fs ps (at_end u e) r = r.log ≡ nil
LeftFrom v here fs ps to_begin r = Late v r
LeftFrom v here fs ps _ r = Late v r

late_unsigned : (v : ℕ) (l : Label) (r : Result) → Late v r → upto v (least_sign l r.log) ≡ v
late_unsigned v l r h = least_late v v l r.log (omega arith) h.timed

-- there is no sign before v in what a task has left
pub left_unsigned : (v : ℕ) (here : Here) (fs : List Frame) (ps : List Place) (s : Stopped) (r : Result) → LeftFrom v here fs ps s r →
    (l : Label) → upto v (least_sign l r.log) ≡ v
left_unsigned v here fs ps (queued object ask since body) r h l = of_label (label_among true object ps) h
  where
    of_label : (o : Option Label) → PendingOn v o since ask (inside fs here).part r → upto v (least_sign l r.log) ≡ v
    of_label None p = absurd p
    of_label (Some m) p = ap (λ (x : Result). upto v (least_sign l x.log)) p.same ∙ late_unsigned v l p.rest p.late
left_unsigned v here fs ps (at_end u e) r h l = ap (λ (a : Log). upto v (least_sign l a)) h
left_unsigned v here fs ps to_begin r h l = late_unsigned v l r h
left_unsigned v here fs ps (asking kernel purpose) r h l = late_unsigned v l r h
left_unsigned v here fs ps (asleep paced n since) r h l = late_unsigned v l r h
left_unsigned v here fs ps (waiting_for event since) r h l = late_unsigned v l r h
left_unsigned v here fs ps (giving_up since) r h l = late_unsigned v l r h
left_unsigned v here fs ps (awaiting children ended exc) r h l = late_unsigned v l r h
