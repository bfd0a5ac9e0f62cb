-- Lists of what was done: before a moment and from it on, in the order of moments.
use Rattle.std.proofs.Common.{◌≡◌, inl, inr, ℕ, suc, ◌+◌, ◌<◌, ◌≤◌, Bool, true, false, List, [], ◌∷◌, ◌++◌, refl, ap, sym, ◌∙◌, subst, arith, nat_lt, nat_le, append_assoc, if◌then◌else◌}
use Rattle.std.proofs.lemmas.Bool.Decides.{nat_tests}
use Rattle.std.proofs.lemmas.List.Elements.{filter-append}
use Rattle.std.specs.List.{filter}
use Rattle.exceptions.specs.Exceptions.{Label}
use Rattle.turn_semantics.specs.Lists.{Each, IsAmong}
use Rattle.job_meaning.specs.Sharing.{Done, Object, unopened, Given, find_given, granted_before, by_moment, insert_by_moment, serve_act, serve_acts}
use Rattle.run_refinement.specs.Sharing.{done_before, done_from, object_after}
use Rattle.run_refinement.proofs.Grants.{given_soon, found_soon}

-- ---- elements that pass a test

pub all_kept : {A : Type 0} (p : A → Bool) (xs : List A) → Each (λ x. p x ≡ true) xs → filter p xs ≡ xs
all_kept p [] h = refl
all_kept p (x ∷ xs) h = let k = all_kept p xs h.1 in rw h.0 (ap (λ ys. x ∷ ys) k)

pub none_kept : {A : Type 0} (p : A → Bool) (xs : List A) → Each (λ x. p x ≡ false) xs → filter p xs ≡ []
none_kept p [] h = refl
none_kept p (x ∷ xs) h = let k = none_kept p xs h.1 in rw h.0 k

pub each_weaker : {A : Type 0} (P Q : A → Type 0) (xs : List A) → ((x : A) → P x → Q x) → Each P xs → Each Q xs
each_weaker P Q [] f h = tt
each_weaker P Q (x ∷ xs) f h = (f x h.0, each_weaker P Q xs f h.1)

pub each_among : {A : Type 0} (P : A → Type 0) (xs : List A) → Each P xs → (x : A) → IsAmong x xs → P x
each_among P [] h x i = absurd i
each_among P (y ∷ xs) h x (inl e) = subst P (sym e) h.0
each_among P (y ∷ xs) h x (inr i) = each_among P xs h.1 x i

pub each_filter : {A : Type 0} (P : A → Type 0) (p : A → Bool) (xs : List A) → Each P xs → Each (λ x. P x × (p x ≡ true)) (filter p xs)
each_filter P p [] h = tt
each_filter {A} P p (x ∷ xs) h = by_test (p x) refl (each_filter P p xs h.1)
  where
    by_test : (b : Bool) → p x ≡ b → Each (λ y. P y × (p y ≡ true)) (filter p xs) → Each (λ y. P y × (p y ≡ true)) (filter p (x ∷ xs))
    by_test true e k = rw e ((h.0, e), k)
    by_test false e k = rw e k

-- ---- before a moment, and from it on

-- what was done by moment t was done before any later one
pub all_before : (t v : ℕ) (ds : List Done) → t < v → Each (λ d. d.at ≤ t) ds → done_before v ds ≡ ds
all_before t v ds lt h =
    all_kept (λ d. nat_lt d.at v) ds (each_weaker (λ d. d.at ≤ t) (λ d. nat_lt d.at v ≡ true) ds (λ d e. early d.at e) h)
  where
    early : (n : ℕ) → n ≤ t → nat_lt n v ≡ true
    early n e = grind (arith, nat_tests)

pub none_from : (t v : ℕ) (ds : List Done) → t < v → Each (λ d. d.at ≤ t) ds → done_from v ds ≡ []
none_from t v ds lt h =
    none_kept (λ d. nat_lt v (d.at + 1)) ds (each_weaker (λ d. d.at ≤ t) (λ d. nat_lt v (d.at + 1) ≡ false) ds (λ d e. early d.at e) h)
  where
    early : (n : ℕ) → n ≤ t → nat_lt v (n + 1) ≡ false
    early n e = grind (arith, nat_tests)

pub before_append : (v : ℕ) (xs ys : List Done) → done_before v (xs ++ ys) ≡ done_before v xs ++ done_before v ys
before_append v xs ys = filter-append (λ d. nat_lt d.at v) xs ys

pub from_append : (v : ℕ) (xs ys : List Done) → done_from v (xs ++ ys) ≡ done_from v xs ++ done_from v ys
from_append v xs ys = filter-append (λ d. nat_lt v (d.at + 1)) xs ys

pub befores : (t : ℕ) (ds : List Done) → Each (λ (d : Done). d.at < t) (done_before t ds)
befores t [] = tt
befores t (d ∷ ds) = by_time (nat_lt d.at t) refl (befores t ds)
  where
    by_time : (b : Bool) → nat_lt d.at t ≡ b → Each (λ (x : Done). x.at < t) (done_before t ds) → Each (λ (x : Done). x.at < t) (done_before t (d ∷ ds))
    by_time true e h = rw e (let lt : d.at < t = grind (arith, nat_tests) in (lt, h))
    by_time false e h = rw e h

-- ---- in the order of moments

insert_each : (P : Done → Type 0) (d : Done) (ds : List Done) → P d → Each P ds → Each P (insert_by_moment d ds)
insert_each P d [] h k = (h, tt)
insert_each P d (e ∷ es) h k = by_order (nat_le d.at e.at) (insert_each P d es h k.1)
  where
    by_order : (b : Bool) → Each P (insert_by_moment d es) → Each P (if b then d ∷ e ∷ es else e ∷ insert_by_moment d es)
    by_order true r = (h, k)
    by_order false r = (k.0, r)

pub sorted_each : (P : Done → Type 0) (ds : List Done) → Each P ds → Each P (by_moment ds)
sorted_each P [] h = tt
sorted_each P (d ∷ ds) h = insert_each P d (by_moment ds) h.0 (sorted_each P ds h.1)

-- ---- one after the other

pub object_append : (o : Object) (xs ys : List Done) → object_after o (xs ++ ys) ≡ object_after (object_after o xs) ys
object_append o [] ys = refl
object_append o (d ∷ xs) ys = object_append (serve_act o d).object xs ys

pub serves_append : (o : Object) (xs ys : List Done) → serve_acts o (xs ++ ys) ≡ serve_acts o xs ++ serve_acts (object_after o xs) ys
serves_append o [] ys = refl
serves_append o (d ∷ xs) ys =
    ap (λ (gs : List Given). (serve_act o d).given ++ gs) (serves_append (serve_act o d).object xs ys)
    ∙ sym (append_assoc (serve_act o d).given (serve_acts (serve_act o d).object xs) (serve_acts (object_after (serve_act o d).object xs) ys))

-- ---- what is granted

-- what is granted by acts of a moment or before is known in the next one
pub known_soon : (t v : ℕ) (asker : Label) (since : ℕ) (ds : List Done) → Each (λ (d : Done). d.at ≤ t) ds → suc t < v →
    granted_before v (find_given asker since (serve_acts unopened (by_moment ds))) ≡ find_given asker since (serve_acts unopened (by_moment ds))
known_soon t v asker since ds h late =
    found_soon t v asker since (serve_acts unopened (by_moment ds))
    (given_soon t unopened (by_moment ds) (sorted_each (λ (d : Done). d.at ≤ t) ds h)) late
