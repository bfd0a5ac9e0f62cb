-- What a task did before a moment, before and after a turn in that moment: the same, but that it is known now when it left its queue.
use Rattle.std.proofs.Common.{◌≡◌, ℕ, ◌<◌, ◌≤◌, Bool, true, false, not, ◌&&◌, ◌==◌, Some, None, List, [], ◌∷◌, ◌++◌, map, refl, ap, sym, ◌∙◌, arith, nat_lt, if◌then◌else◌}
use Rattle.std.proofs.lemmas.Bool.{eqb-true, le-ltb}
use Rattle.std.proofs.lemmas.Bool.Decides.{nat_tests}
use Rattle.std.proofs.lemmas.List.{map-append}
use Rattle.exceptions.specs.Exceptions.{Label}
use Rattle.input_lines.specs.Lines.{Range}
use Rattle.cancel_scopes.specs.Sight.{Tick, is_reached}
use Rattle.job_tree.specs.declared.object.Ask.{Ask}
use Rattle.job_meaning.specs.Log.{Act, opens, asks, gives_back, closes, same_label}
use Rattle.job_meaning.specs.declared.clock.Clock.{Clock}
use Rattle.job_meaning.specs.Before.{left_before}
use Rattle.job_meaning.specs.Sharing.{Done, done_if, Asker, asker_of}
use Rattle.job_meaning.specs.Rest.{Event, noted, signs, enters, acts, starts}
use Rattle.job_meaning.proofs.Distinct.{same_label_equal}
use Rattle.turn_semantics.specs.Lists.{Each}
use Rattle.turn_semantics.specs.Turned.{MadeAt, AsksNothing, LeavesIn}
use Rattle.interleavings.specs.Acts.{acts_made}
use Rattle.interleavings.proofs.GrantsKnown.{cut, cut_append, cut_late}
use Rattle.job_meaning.proofs.GrantsBefore as moments
use Rattle.run_refinement.specs.Sharing.{done_before, AsksBefore}
use Rattle.run_refinement.proofs.DoneLists.{before_append}
use Rattle.run_refinement.proofs.OtherAskers.{act_with, done_with, IsSameAsker}

-- ---- who left a queue now

-- when a task left, by what was known before and is known now
abbrev pub known_left : Tick → Tick → Tick
known_left left None = left
known_left left (Some u) = Some u

abbrev pub left_if : Bool → Tick → Tick → Tick
left_if true left was = known_left left was
left_if false left was = was

-- the task of this label that asked in this moment left its queue so
abbrev pub now_left : Label → ℕ → Tick → Asker → Asker
now_left task since left a = record a { left = left_if (same_label task a.task && (since == a.at)) left a.left }

abbrev pub as_before : Asker → Asker
as_before a = a

pub same_left : (t : ℕ) (task : Label) (since : ℕ) (left : Tick) → LeavesIn t left → IsSameAsker t (now_left task since left)
same_left t task since left h =
    record { task = λ a. refl; at = λ a. refl; stays = λ v a lt. by_test v a lt (same_label task a.task && (since == a.at)) a.left left h }
  where
    by_test : (v : ℕ) (a : Asker) → v < t → (b : Bool) (was left : Tick) → LeavesIn t left →
        not (is_reached (left_if b left was) v) ≡ not (is_reached was v)
    by_test v a lt false was left g = refl
    by_test v a lt true (Some u) left g = refl
    by_test v a lt true None None g = refl
    by_test v a lt true None (Some u) g = ap not later
      where
        later : is_reached (Some u) v ≡ false
        later = grind (arith, nat_tests)

pub same_before : (t : ℕ) → IsSameAsker t as_before
same_before t = record { task = λ a. refl; at = λ a. refl; stays = λ v a lt. refl }

-- ---- lists that are alike before a moment

pub record Alike (h : Asker → Asker) (t : ℕ) (xs ys : List Done) : Type 0 where
  pub same : done_before t ys ≡ map (done_with h) (done_before t xs)
  pub early : cut t ys ≡ cut t xs

pub alike_append : (h : Asker → Asker) (t : ℕ) (xs ys us vs : List Done) → Alike h t xs ys → Alike h t us vs → Alike h t (xs ++ us) (ys ++ vs)
alike_append h t xs ys us vs a b =
    record {
      same =
          before_append t ys vs
          ∙ (ap (λ (ds : List Done). ds ++ done_before t vs) a.same
          ∙ (ap (λ (ds : List Done). map (done_with h) (done_before t xs) ++ ds) b.same
          ∙ (sym (map-append (done_with h) (done_before t xs) (done_before t us)) ∙ ap (map (done_with h)) (sym (before_append t xs us)))));
      early =
          cut_append t ys vs ∙ (ap (λ (ds : List Done). ds ++ cut t vs) a.early
          ∙ (ap (λ (ds : List Done). cut t xs ++ ds) b.early ∙ sym (cut_append t xs us)));
    }

-- acts that stay
pub alike_fixed : (h : Asker → Asker) (t : ℕ) (xs : List Done) → Each (λ (d : Done). done_with h d ≡ d) xs → Alike h t xs xs
alike_fixed h t xs e = record { same = fixed xs e; early = refl }
  where
    fixed : (xs : List Done) → Each (λ (d : Done). done_with h d ≡ d) xs → done_before t xs ≡ map (done_with h) (done_before t xs)
    fixed [] g = refl
    fixed (d ∷ xs) g = by_test (nat_lt d.at t) refl (fixed xs g.1)
      where
        by_test : (b : Bool) → nat_lt d.at t ≡ b → done_before t xs ≡ map (done_with h) (done_before t xs) →
            done_before t (d ∷ xs) ≡ map (done_with h) (done_before t (d ∷ xs))
        by_test true i k = rw i (ap (λ (ds : List Done). d ∷ ds) k ∙ ap (λ (x : Done). x ∷ map (done_with h) (done_before t xs)) (sym g.0))
        by_test false i k = rw i k

-- acts of this moment or later come to nothing before it
pub alike_late : (h : Asker → Asker) (t : ℕ) (ys : List Done) → Each (λ (d : Done). t ≤ d.at) ys → Alike h t [] ys
alike_late h t ys e = record { same = late ys e; early = cut_late t ys (times ys e) }
  where
    late : (ys : List Done) → Each (λ (d : Done). t ≤ d.at) ys → done_before t ys ≡ []
    late [] g = refl
    late (d ∷ ys) g = let k = late ys g.1 in rw (le-ltb d.at t g.0) k

    times : (ys : List Done) → Each (λ (d : Done). t ≤ d.at) ys → moments.Each (λ (u : ℕ). t ≤ u) ys
    times [] g = tt
    times (d ∷ ys) g = (g.0, times ys g.1)

-- ---- one task

fixed_if : (h : Asker → Asker) (b : Bool) (d : Done) (ds : List Done) → done_with h d ≡ d → Each (λ (x : Done). done_with h x ≡ x) ds →
    Each (λ (x : Done). done_with h x ≡ x) (done_if b d ds)
fixed_if h true d ds e g = (e, g)
fixed_if h false d ds e g = g

late_if : (t : ℕ) (b : Bool) (d : Done) (ds : List Done) → t ≤ d.at → Each (λ (x : Done). t ≤ x.at) ds → Each (λ (x : Done). t ≤ x.at) (done_if b d ds)
late_if t true d ds e g = (e, g)
late_if t false d ds e g = g

-- acts of another task stay
pub act_fixed : (h : Asker → Asker) (d : Done) → ((left : Tick) → (h (asker_of d left)).left ≡ left) → done_with h d ≡ d
act_fixed h d e = ap (λ (a : Act). record d { act = a }) (of_act d.act)
  where
    of_act : (a : Act) → act_with h d a ≡ a
    of_act (opens kind) = refl
    of_act (asks ask part left) = ap (λ (x : Tick). asks ask part x) (e left)
    of_act gives_back = refl
    of_act closes = refl

pub other_label : (task : Label) (since : ℕ) (left : Tick) (d : Done) → (task ≡ d.task → ⊥) → done_with (now_left task since left) d ≡ d
other_label task since left d differs = act_fixed (now_left task since left) d (λ was. ap (λ (b : Bool). left_if (b && (since == d.at)) left was) other)
  where
    by_test : (b : Bool) → same_label task d.task ≡ b → same_label task d.task ≡ false
    by_test false e = e
    by_test true e = absurd (differs (same_label_equal task d.task e))

    other : same_label task d.task ≡ false
    other = by_test (same_label task d.task) refl

other_moment : (task : Label) (since : ℕ) (left : Tick) (d : Done) → d.at < since → done_with (now_left task since left) d ≡ d
other_moment task since left d lt =
    act_fixed (now_left task since left) d (λ was. ap (λ (b : Bool). left_if b left was) (both (same_label task d.task)))
  where
    other : (b : Bool) → (since == d.at) ≡ b → (since == d.at) ≡ false
    other false e = e
    other true e = absurd (let f : since ≡ d.at = eqb-true since d.at e in omega (arith, f, lt))

    both : (b : Bool) → (b && (since == d.at)) ≡ false
    both true = other (since == d.at) refl
    both false = refl

-- an act that asks nothing stays
pub made_fixed : (l task : Label) (label : Label) (since : ℕ) (left : Tick) (es : List Event) → AsksBefore since es →
    Each (λ (d : Done). done_with (now_left label since left) d ≡ d) (acts_made l task es)
made_fixed l task label since left [] h = tt
made_fixed l task label since left (acts m u (asks a part was) ∷ es) h =
    fixed_if (now_left label since left) (same_label l m) (record { at = u; task = task; act = asks a part was }) (acts_made l task es)
    (other_moment label since left (record { at = u; task = task; act = asks a part was }) h.0) (made_fixed l task label since left es h.1)
made_fixed l task label since left (acts m u (opens kind) ∷ es) h =
    fixed_if (now_left label since left) (same_label l m) (record { at = u; task = task; act = opens kind }) (acts_made l task es) refl
    (made_fixed l task label since left es h)
made_fixed l task label since left (acts m u gives_back ∷ es) h =
    fixed_if (now_left label since left) (same_label l m) (record { at = u; task = task; act = gives_back }) (acts_made l task es) refl
    (made_fixed l task label since left es h)
made_fixed l task label since left (acts m u closes ∷ es) h =
    fixed_if (now_left label since left) (same_label l m) (record { at = u; task = task; act = closes }) (acts_made l task es) refl
    (made_fixed l task label since left es h)
made_fixed l task label since left (noted u e ∷ es) h = made_fixed l task label since left es h
made_fixed l task label since left (signs m u ∷ es) h = made_fixed l task label since left es h
made_fixed l task label since left (enters m u d ∷ es) h = made_fixed l task label since left es h
made_fixed l task label since left (starts i m u ∷ es) h = made_fixed l task label since left es h

pub before_fixed : (xs : List Done) → Each (λ (d : Done). done_with as_before d ≡ d) xs
before_fixed [] = tt
before_fixed (d ∷ xs) = (act_fixed as_before d (λ left. refl), before_fixed xs)

-- events that ask nothing are of this moment
pub made_late : (clock : Clock) (t : ℕ) (ls : List Label) (l task : Label) (es : List Event) → MadeAt clock t ls es → AsksNothing es →
    Each (λ (d : Done). t ≤ d.at) (acts_made l task es)
made_late clock t ls l task [] h k = tt
made_late clock t ls l task (acts m u (opens kind) ∷ es) h k =
    late_if t (same_label l m) (record { at = u; task = task; act = opens kind }) (acts_made l task es) (let e : u ≡ t = h.0 in omega (arith, e))
    (made_late clock t ls l task es h.1 k)
made_late clock t ls l task (acts m u (asks ask part left) ∷ es) h k = absurd k
made_late clock t ls l task (acts m u gives_back ∷ es) h k =
    late_if t (same_label l m) (record { at = u; task = task; act = gives_back }) (acts_made l task es) (let e : u ≡ t = h.0 in omega (arith, e))
    (made_late clock t ls l task es h.1 k)
made_late clock t ls l task (acts m u closes ∷ es) h k =
    late_if t (same_label l m) (record { at = u; task = task; act = closes }) (acts_made l task es) (let e : u ≡ t = h.0 in omega (arith, e))
    (made_late clock t ls l task es h.1 k)
made_late clock t ls l task (noted u e ∷ es) h k = made_late clock t ls l task es h.1 k
made_late clock t ls l task (signs m u ∷ es) h k = made_late clock t ls l task es h.2 k
made_late clock t ls l task (enters m u d ∷ es) h k = made_late clock t (m ∷ ls) l task es h.1 k
made_late clock t ls l task (starts i m u ∷ es) h k = made_late clock t ls l task es h.1 k

-- what was asked is known now to have been left so
pub asked_left : (h : Asker → Asker) (t since : ℕ) (l task : Label) (ask : Ask) (part : Range) (left : Tick) (b : Bool) → since < t →
    (h (record { task = task; at = since; left = None })).left ≡ left → LeavesIn t left →
    Alike h t (done_if b (record { at = since; task = task; act = asks ask part None }) []) (done_if b (record { at = since; task = task; act = asks ask part left }) [])
asked_left h t since l task ask part left false lt e g = record { same = refl; early = refl }
asked_left h t since l task ask part left true lt e g =
    record { same = rw before (ap (λ (x : Tick). record { at = since; task = task; act = asks ask part x } ∷ []) (sym e)); early = rw before (by_left left g) }
  where
    before : nat_lt since t ≡ true
    before = grind (arith, nat_tests)

    done : Tick → Done
    done x = record { at = since; task = task; act = asks ask part x }

    by_left : (x : Tick) → LeavesIn t x → done (left_before t x) ∷ [] ≡ done (left_before t None) ∷ []
    by_left None k = refl
    by_left (Some u) k = ap (λ (b : Bool). done (if b then Some u else None) ∷ []) late
      where
        late : nat_lt u t ≡ false
        late = grind (arith, nat_tests)
