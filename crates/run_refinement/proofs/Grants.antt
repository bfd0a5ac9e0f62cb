-- What is granted to a task in a queue, and when it leaves the queue.
use Rattle.std.proofs.Common.{◌≡◌, ℕ, suc, ◌+◌, ◌<◌, ◌≤◌, min, Bool, true, false, ◌&&◌, Option, Some, None, List, [], ◌∷◌, ◌++◌, refl, ap, sym, ◌∙◌, subst, arith, nat_le, nat_lt, map, ◌==◌}
use Rattle.std.proofs.lemmas.Bool.Decides.{nat_tests}
use Rattle.std.specs.Option.{option_map}
use Rattle.cancel_scopes.specs.Sight.{Tick, is_reached}
use Rattle.exceptions.specs.Exceptions.{Label}
use Rattle.input_lines.specs.Lines.{Range}
use Rattle.objects.specs.Limiters as limiters
use Rattle.objects.specs.Channels as channels
use Rattle.job_meaning.specs.Log.{Act, opens, asks, gives_back, closes, same_label}
use Rattle.job_meaning.specs.Sharing.{What, Done, Granted, Given, granted_if, granted_before, find_given, serve_acts, serve_act, Object, unopened, a_limiter, a_channel}
use Rattle.job_meaning.specs.Sharing as sharing
use Rattle.job_meaning.specs.Before.{upto}
use Rattle.job_meaning.specs.Walk.{leaves_queue, in_time}
use Rattle.turn_semantics.specs.Lists.{Each}
use Rattle.interleavings.specs.Interleaving.{granted_or_left}
use Rattle.run_refinement.proofs.ActsKeep.{not_both}

-- a grant in this moment
abbrev pub granted_in : ℕ → Option What → Option Granted
granted_in t what = option_map (λ (w : What). record { at = t; what = w }) what

-- ---- one task

-- A task that asked in moment `since`, and leaves its queue in moment x by the table and in moment y by the moments of cancellation that the
-- run keeps: they are the same as far as this moment, in which what the tables grant is known, and the task had its next turn not before it.
module _ (t since x y : ℕ) (o : Option Granted) (what : Option What) (before : since < t)
    (known : granted_before (suc t) o ≡ granted_in t what) (late : t ≤ granted_or_left (in_time since x o) x)
    (near : min (suc t) x ≡ min (suc t) y)
  where
    late_by : (p : Option Granted) → granted_before (suc t) p ≡ granted_in t what → t ≤ granted_or_left (in_time since x p) x →
        what ≡ None → t ≤ y
    late_by None k l e = omega (arith, l, near)
    late_by (Some g) k l e = by_tests (nat_le (g.at + 1) (suc t)) refl (nat_lt since g.at) refl (nat_le g.at x) refl
      where
        by_tests : (a : Bool) → nat_le (g.at + 1) (suc t) ≡ a → (b : Bool) → nat_lt since g.at ≡ b → (c : Bool) → nat_le g.at x ≡ c → t ≤ y
        by_tests true i b j c k' =
            absurd (not_both (ap (granted_in t) e) (sym k ∙ ap (λ (z : Bool). granted_if z g None) i))
        by_tests false i true j true h =
            let a : t < g.at = grind (arith, nat_tests) in let b : g.at ≤ x = grind (arith, nat_tests) in omega (arith, a, b, near)
        by_tests false i true j false h =
            let a : t ≤ x = subst (λ (z : Bool). t ≤ granted_or_left (granted_if z g None) x) (ap (λ (z : Bool). z && nat_le g.at x) j ∙ h) l in
            omega (arith, a, near)
        by_tests false i false j c h =
            let a : t ≤ x = subst (λ (z : Bool). t ≤ granted_or_left (granted_if z g None) x) (ap (λ (z : Bool). z && nat_le g.at x) j) l in
            omega (arith, a, near)

    -- where nothing is granted by now, it leaves now or later
    pub leaves_late : what ≡ None → t ≤ y
    leaves_late e = late_by o known late e

    none_by : (p : Option Granted) → granted_before (suc t) p ≡ granted_in t what → what ≡ None → y ≡ t → in_time since y p ≡ None
    none_by None k e at = refl
    none_by (Some g) k e at = by_test (nat_le (g.at + 1) (suc t)) refl
      where
        by_test : (a : Bool) → nat_le (g.at + 1) (suc t) ≡ a → in_time since y (Some g) ≡ None
        by_test true i = absurd (not_both (ap (granted_in t) e) (sym k ∙ ap (λ (z : Bool). granted_if z g None) i))
        by_test false i = by_times (nat_lt since g.at)
          where
            past : nat_le g.at y ≡ false
            past = grind (arith, nat_tests)

            by_times : (b : Bool) → granted_if (b && nat_le g.at y) g None ≡ None
            by_times true = ap (λ (z : Bool). granted_if z g None) past
            by_times false = refl

    -- and is granted nothing in time, if it leaves now
    pub none_in_time : what ≡ None → y ≡ t → in_time since y o ≡ None
    none_in_time e at = none_by o known e at

    some_by : (p : Option Granted) (w : What) → granted_before (suc t) p ≡ granted_in t what → t ≤ granted_or_left (in_time since x p) x →
        what ≡ Some w → in_time since y p ≡ Some (record { at = t; what = w })
    some_by None w k l e = absurd (not_both refl (k ∙ ap (granted_in t) e))
    some_by (Some g) w k l e = by_test (nat_le (g.at + 1) (suc t)) refl
      where
        by_test : (a : Bool) → nat_le (g.at + 1) (suc t) ≡ a → in_time since y (Some g) ≡ Some (record { at = t; what = w })
        by_test false i = absurd (not_both (ap (λ (z : Bool). granted_if z g None) i) (k ∙ ap (granted_in t) e))
        by_test true i = ap (λ (z : Bool). granted_if z g None) both ∙ is
          where
            is : Some g ≡ Some (record { at = t; what = w })
            is = sym (ap (λ (z : Bool). granted_if z g None) i) ∙ (k ∙ ap (granted_in t) e)

            at_is : g.at ≡ t
            at_is = ap (λ (z : Option Granted). granted_or_left z 0) is

            after : nat_lt since g.at ≡ true
            after = grind (arith, nat_tests)

            within : (c : Bool) → nat_le g.at x ≡ c → t ≤ x
            within true j = grind (arith, nat_tests)
            within false j =
                let test : (nat_lt since g.at && nat_le g.at x) ≡ false = ap (λ (z : Bool). z && nat_le g.at x) after ∙ j in
                subst (λ (z : Bool). t ≤ granted_or_left (granted_if z g None) x) test l

            in_y : nat_le g.at y ≡ true
            in_y = let a : t ≤ x = within (nat_le g.at x) refl in let b : t ≤ y = omega (arith, a, near) in grind (arith, nat_tests)

            both : (nat_lt since g.at && nat_le g.at y) ≡ true
            both = ap (λ (z : Bool). z && nat_le g.at y) after ∙ in_y

    -- what is granted now is granted in time
    pub some_in_time : (w : What) → what ≡ Some w → in_time since y o ≡ Some (record { at = t; what = w })
    some_in_time w e = some_by o w known late e

-- where a cancellation is seen, a task leaves by now
pub leaves_seen : (from : Tick) (t last : ℕ) → is_reached from t ≡ true → leaves_queue from last ≤ t
leaves_seen None t last e = absurd (let f : false ≡ true = e in cc)
leaves_seen (Some u) t last e = let a : u ≤ t = grind (arith, nat_tests) in omega (arith, a)

-- and where none is, at the last moment, if that is now
pub leaves_last : (from : Tick) (t last : ℕ) → is_reached from t ≡ false → last ≡ t → leaves_queue from last ≡ t
leaves_last None t last e same = same
leaves_last (Some u) t last e same = let a : t < u = grind (arith, nat_tests) in omega (arith, a, same)

-- a task leaves its queue no earlier than its sight and its last moment
pub leaves_from : (from : Tick) (u last : ℕ) → u ≤ last → upto u from ≡ u → u ≤ leaves_queue from last
leaves_from None u last le e = le
leaves_from (Some v) u last le e = omega (arith, le, e)

-- ---- grants come a round after an act

-- what was granted by acts before a moment is known in it
pub given_by : (n : ℕ) (o : Object) (ds : List Done) → Each (λ (d : Done). d.at < n) ds → Each (λ (g : Given). g.granted.at ≤ n) (serve_acts o ds)
given_by n o [] h = tt
given_by n o (d ∷ ds) h =
    append (serve_act o d).given (serve_acts (serve_act o d).object ds) (of_act o) (given_by n (serve_act o d).object ds h.1)
  where
    Soon : Given → Type 0
    Soon g = g.granted.at ≤ n

    append : (xs ys : List Given) → Each Soon xs → Each Soon ys → Each Soon (xs ++ ys)
    append [] ys h k = k
    append (x ∷ xs) ys h k = (h.0, append xs ys h.1 k)

    next : d.at + 1 ≤ n
    next = let e = h.0 in omega (arith, e)

    tokens : (xs : List sharing.Asker) → Each Soon (map (λ who. sharing.given_at d.at who sharing.a_token) xs)
    tokens [] = tt
    tokens (x ∷ xs) = (next, tokens xs)

    of_grant : (g : channels.Grant sharing.Asker Range) → Soon (sharing.given_by d.at g)
    of_grant (channels.sent who part) = next
    of_grant (channels.received who part) = next
    of_grant (channels.closed_resource who) = next
    of_grant (channels.end_of_channel who) = next

    grants : (gs : List (channels.Grant sharing.Asker Range)) → Each Soon (map (sharing.given_by d.at) gs)
    grants [] = tt
    grants (g ∷ gs) = (of_grant g, grants gs)

    of_opening : (a : Act) → Each Soon (sharing.opened_by a).given
    of_opening (opens kind) = tt
    of_opening (asks ask part left) = tt
    of_opening gives_back = tt
    of_opening closes = tt

    of_act : (o : Object) → Each Soon (serve_act o d).given
    of_act unopened = of_opening d.act
    of_act (a_limiter l) = tokens (limiters.after_acts l (limiters.leaves (sharing.stays_at d.at) ∷ sharing.limiter_acts d d.act)).granted
    of_act (a_channel c) = grants (channels.after_acts c (channels.leaves (sharing.stays_at d.at) ∷ sharing.channel_acts d d.act)).granted

-- and by acts of a moment or before, in the next one
pub given_soon : (t : ℕ) (o : Object) (ds : List Done) → Each (λ (d : Done). d.at ≤ t) ds → Each (λ (g : Given). g.granted.at ≤ suc t) (serve_acts o ds)
given_soon t o ds h = given_by (suc t) o ds (sooner ds h)
  where
    sooner : (ds : List Done) → Each (λ (d : Done). d.at ≤ t) ds → Each (λ (d : Done). d.at < suc t) ds
    sooner [] k = tt
    sooner (d ∷ ds) k = (let e = k.0 in omega (arith, e), sooner ds k.1)

-- so it is the same in all moments after that
pub found_soon : (t v : ℕ) (l : Label) (since : ℕ) (gs : List Given) → Each (λ (g : Given). g.granted.at ≤ suc t) gs → suc t < v →
    granted_before v (find_given l since gs) ≡ find_given l since gs
found_soon t v l since [] h lt = refl
found_soon t v l since (g ∷ gs) h lt = by_test (found_soon t v l since gs h.1 lt) (same_label l g.task && (since == g.asked))
  where
    by_test : granted_before v (find_given l since gs) ≡ find_given l since gs → (b : Bool) →
        granted_before v (granted_if b g.granted (find_given l since gs)) ≡ granted_if b g.granted (find_given l since gs)
    by_test rest true = ap (λ (z : Bool). granted_if z g.granted None) early
      where
        early : nat_le (g.granted.at + 1) v ≡ true
        early = let e : g.granted.at ≤ suc t = h.0 in grind (arith, nat_tests)
    by_test rest false = rest
