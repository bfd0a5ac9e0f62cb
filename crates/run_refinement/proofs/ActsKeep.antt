-- What a task does to scopes keeps their stacks sound and their labels apart.
use Rattle.std.proofs.Common.{◌≡◌, ◌≢◌, ◌⊎◌, inl, inr, ℕ, ◌+◌, Bool, true, false, ◌==◌, if◌then◌else◌, Option, Some, None, List, [], ◌∷◌, ◌++◌, refl, ap, sym, ◌∙◌, subst}
use Rattle.std.proofs.lemmas.Bool.{eqb-true, eq-eqb}
use Rattle.std.proofs.lemmas.List.Elements.{All-nil, All-cons, All-head, All-tail}
use Rattle.std.specs.Prelude.{All, IsSome}
use Rattle.std.specs.Option.{option_map, unwrap_or}
use Rattle.turn_semantics.specs.Lists.{IsAmong}
use Rattle.exceptions.specs.Exceptions.{Label}
use Rattle.cancel_scopes.specs.Sight.{Tick, Level, earlier}
use Rattle.cancel_scopes.specs.Tree.{Stack, Tree, stack_of, outer_of, own_label, IsOpen, IsOwn, OthersKeep, after_cancel}
use Rattle.job_meaning.specs.Rest.{Event}
use Rattle.interleavings.specs.Rows.{entered_made}
use Rattle.run_refinement.specs.Turn.{AreNew}
use Rattle.task_machine.specs.Acts.{Scoping, Signs, Sets, Enters, Leaves, Acts, no_act, act_noted, act_shared, act_starts, act_signs, act_sets, act_enters, act_leaves}
use Rattle.task_machine.specs.Labels.{Labels, Updates}
use Rattle.task_machine.specs.Stacked.{IsKey}
use Rattle.task_machine.proofs.Stacked.{one_of}

-- ---- what is asked of scopes and labels

-- each stack begins with the scope whose stack it is, and each scope in a stack is open
pub record Sound (s : Scoping) : Type 0 where
  pub own : IsOwn s.tree
  pub around : (key : ℕ) (st : Stack) → stack_of s.tree key ≡ Some st → (k : ℕ) → IsKey k st → IsOpen s.tree k

-- different scopes have different labels
pub record Apart (s : Scoping) : Type 0 where
  pub labels : (a b : ℕ) (l : Label) → s.labels a ≡ Some l → s.labels b ≡ Some l → a ≡ b

-- every label that a scope has is known
abbrev pub HasKnown : (Label → Type 0) → Scoping → Type 0
HasKnown known s = (key : ℕ) (l : Label) → s.labels key ≡ Some l → known l

-- no scope has this label
abbrev pub NoneHas : Label → Scoping → Type 0
NoneHas l s = (key : ℕ) → s.labels key ≡ Some l → ⊥

-- what was known, or was entered
abbrev pub KnownWith : (Label → Type 0) → List Event → Label → Type 0
KnownWith known es l = known l ⊎ IsAmong l (entered_made es)

-- ---- numbers, options and lists

-- two numbers are the same, or differ
pub same_or : (a b : ℕ) → (a ≡ b) ⊎ (a ≢ b)
same_or a b = by_test (a == b) refl
  where
    by_test : (c : Bool) → (a == b) ≡ c → (a ≡ b) ⊎ (a ≢ b)
    by_test true e = inl (eqb-true a b e)
    by_test false e = inr (λ f. let g : true ≡ false = sym (eq-eqb a b f) ∙ e in cc)

-- a scope that has a stack is open
pub is_open : (tree : Tree) (key : ℕ) (st : Stack) → stack_of tree key ≡ Some st → IsOpen tree key
is_open tree key st e = subst IsSome (sym e) refl

-- an option is not empty where it holds something
pub not_both : {A : Type 0} {o : Option A} {x : A} → o ≡ None → o ≡ Some x → ⊥
not_both {A} {o} {x} e f = let g : None ≡ Some x = sym e ∙ f in cc

-- a scope that has no stack is not open
pub not_closed : (o : Option Stack) → o ≡ None → IsSome o → ⊥
not_closed None e i = let f : false ≡ true = i in cc
not_closed (Some st) e i = let f : Some st ≡ None = e in cc

mapped : (f : Stack → Stack) (o : Option Stack) (st : Stack) → option_map f o ≡ Some st → (b : Stack) × (o ≡ Some b) × (f b ≡ st)
mapped f None st e = absurd (let g : None ≡ Some st = e in cc)
mapped f (Some b) st e = (b, refl, one_of (f b) st e)

-- where there is a stack, there is one after a change
pub mapped_is : (f : Stack → Stack) (o : Option Stack) → IsSome o → IsSome (option_map f o)
mapped_is f None i = absurd (let g : false ≡ true = i in cc)
mapped_is f (Some b) i = refl

-- what holds of a list with one more holds of the list, and of the one
pub all_first : {A : Type 0} (P : A → Type 0) (xs : List A) (y : A) → All P (xs ++ y ∷ []) → All P xs
all_first P [] y a = All-nil P
all_first P (x ∷ xs) y a = All-cons P x xs (All-head P x (xs ++ y ∷ []) a) (all_first P xs y (All-tail P x (xs ++ y ∷ []) a))

-- what holds of a list with one more holds of the last
pub all_last : {A : Type 0} (P : A → Type 0) (xs : List A) (y : A) → All P (xs ++ y ∷ []) → P y
all_last P [] y a = All-head P y [] a
all_last P (x ∷ xs) y a = all_last P xs y (All-tail P x (xs ++ y ∷ []) a)

-- a label, or another value, after one key's was changed is that one's, or another key's from before
pub labelled_before : {A : Type 0} {old new : ℕ → Option A} {key : ℕ} {o : Option A} → Updates old new key o → (other : ℕ) (l : A) →
    new other ≡ Some l →
    ((other ≡ key) × (o ≡ Some l)) ⊎ ((other ≢ key) × (old other ≡ Some l))
labelled_before {A} {old} {new} {key} {o} u other l e = by_key (same_or other key)
  where
    by_key : (other ≡ key) ⊎ (other ≢ key) → ((other ≡ key) × (o ≡ Some l)) ⊎ ((other ≢ key) × (old other ≡ Some l))
    by_key (inl f) = inl (f, sym u.changed ∙ sym (ap new f) ∙ e)
    by_key (inr f) = inr (f, sym (u.others other f) ∙ e)

-- ---- levels

-- a cancellation leaves keys and shields
pub key_stays : (l : Level ℕ) (t : ℕ) (b : Bool) → (if b then record l { from = earlier l.from (Some (t + 1)) } else l).label ≡ l.label
key_stays l t true = refl
key_stays l t false = refl

own_label_stays : (id t : ℕ) (st : Stack) → own_label (after_cancel id t st) ≡ own_label st
own_label_stays id t [] = refl
own_label_stays id t (l ∷ ls) = ap (λ (k : ℕ). Some k) (key_stays l t (l.label == id))

is_key_before : (k id t : ℕ) (st : Stack) → IsKey k (after_cancel id t st) → IsKey k st
is_key_before k id t [] i = absurd i
is_key_before k id t (l ∷ ls) (inl e) = inl (e ∙ key_stays l t (l.label == id))
is_key_before k id t (l ∷ ls) (inr i) = inr (is_key_before k id t ls i)

-- a scope of a stack is none that the stack does not contain
pub among_all : (key k : ℕ) (st : Stack) → All (λ (l : Level ℕ). l.label ≢ key) st → IsKey k st → k ≢ key
among_all key k [] a i = absurd i
among_all key k (l ∷ ls) a (inl e) = λ f. All-head (λ (m : Level ℕ). m.label ≢ key) l ls a (sym e ∙ f)
among_all key k (l ∷ ls) a (inr i) = among_all key k ls (All-tail (λ (m : Level ℕ). m.label ≢ key) l ls a) i

-- ---- stacks stay sound

-- the stack that a cancellation made another
before_sign : {t : ℕ} {label : Label} {s m : Scoping} → (g : Signs t label s m) → (key : ℕ) (st : Stack) → stack_of m.tree key ≡ Some st →
    (b : Stack) × (stack_of s.tree key ≡ Some b) × (after_cancel g.key t b ≡ st)
before_sign {t} {label} {s} {m} g key st e = mapped (after_cancel g.key t) (stack_of s.tree key) st (sym (g.cancels.stacks key) ∙ e)

-- stacks stay sound where a scope is cancelled
pub sound_signs : {t : ℕ} {label : Label} {s m : Scoping} → Signs t label s m → Sound s → Sound m
sound_signs {t} {label} {s} {m} g h = record { own = own; around = around }
  where
    own : IsOwn m.tree
    own key st e =
        let b = before_sign g key st e in
        sym (ap own_label b.2) ∙ (own_label_stays g.key t b.0 ∙ h.own key b.0 b.1)

    around : (key : ℕ) (st : Stack) → stack_of m.tree key ≡ Some st → (k : ℕ) → IsKey k st → IsOpen m.tree k
    around key st e k i =
        let b = before_sign g key st e in
        let before : IsOpen s.tree k = h.around key b.0 b.1 k (is_key_before k g.key t b.0 (subst (IsKey k) (sym b.2) i)) in
        subst IsSome (sym (g.cancels.stacks k)) (mapped_is (after_cancel g.key t) (stack_of s.tree k) before)

-- stacks stay sound where an event is set
pub sound_sets : {t : ℕ} {label : Label} {s m : Scoping} → Sets t label s m → Sound s → Sound m
sound_sets {t} {label} {s} {m} g h =
    record {
      own = subst IsOwn (sym g.tree) h.own;
      around = subst (λ (tree : Tree). (key : ℕ) (st : Stack) → stack_of tree key ≡ Some st → (k : ℕ) → IsKey k st → IsOpen tree k)
          (sym g.tree) h.around;
    }

-- a scope that was open is another than one that was not
pub open_differs : (tree : Tree) (key other : ℕ) → stack_of tree key ≡ None → IsOpen tree other → other ≢ key
open_differs tree key other fresh i e = not_closed (stack_of tree key) fresh (subst (IsOpen tree) e i)

-- where no key but this one changes its stack
pub open_else : (old new : Tree) (key other : ℕ) → OthersKeep old new key → other ≢ key → IsOpen old other → IsOpen new other
open_else old new key other keep differs i = subst IsSome (sym (keep other differs)) i

around_parent : {s : Scoping} → Sound s → (parent : Option ℕ) (k : ℕ) → IsKey k (outer_of s.tree parent) → IsOpen s.tree k
around_parent {s} h None k i = absurd i
around_parent {s} h (Some p) k i = by_stack (stack_of s.tree p) refl i
  where
    by_stack : (o : Option Stack) → stack_of s.tree p ≡ o → IsKey k (unwrap_or o []) → IsOpen s.tree k
    by_stack None e j = absurd j
    by_stack (Some st) e j = h.around p st e k j

-- stacks stay sound where a scope is entered
pub sound_enters : {parent : Option ℕ} {label : Label} {is_event : Bool} {d : Tick} {s m : Scoping} → Enters parent label is_event d s m → Sound s → Sound m
sound_enters {parent} {label} {d} {s} {m} g h =
    record { own = λ key st e. own key st e (same_or key g.scope.id); around = λ key st e k i. around key st e k i (same_or key g.scope.id) }
  where
    stack_is : (key : ℕ) (st : Stack) → stack_of m.tree key ≡ Some st → key ≡ g.scope.id → g.level ∷ outer_of s.tree parent ≡ st
    stack_is key st e f = one_of _ _ (sym g.stack ∙ (sym (ap (stack_of m.tree) f) ∙ e))

    own : (key : ℕ) (st : Stack) → stack_of m.tree key ≡ Some st → (key ≡ g.scope.id) ⊎ (key ≢ g.scope.id) → own_label st ≡ Some key
    own key st e (inl f) = sym (ap own_label (stack_is key st e f)) ∙ ap (λ (k : ℕ). Some k) (g.named ∙ sym f)
    own key st e (inr f) = h.own key st (sym (g.others key f) ∙ e)

    still : (k : ℕ) → IsOpen s.tree k → IsOpen m.tree k
    still k i = open_else s.tree m.tree g.scope.id k g.others (open_differs s.tree g.scope.id k g.fresh i) i

    inside : (k : ℕ) → IsKey k (g.level ∷ outer_of s.tree parent) → IsOpen m.tree k
    inside k (inl e) = is_open m.tree k (g.level ∷ outer_of s.tree parent) (ap (stack_of m.tree) (e ∙ g.named) ∙ g.stack)
    inside k (inr i) = still k (around_parent h parent k i)

    around : (key : ℕ) (st : Stack) → stack_of m.tree key ≡ Some st → (k : ℕ) → IsKey k st → (key ≡ g.scope.id) ⊎ (key ≢ g.scope.id) →
        IsOpen m.tree k
    around key st e k i (inl f) = inside k (subst (IsKey k) (sym (stack_is key st e f)) i)
    around key st e k i (inr f) = still k (h.around key st (sym (g.others key f) ∙ e) k i)

-- stacks stay sound where a scope is left
pub sound_leaves : {s m : Scoping} → Leaves s m → Sound s → Sound m
sound_leaves {s} {m} g h = record { own = λ key st e. h.own key st (before key st e); around = around }
  where
    differs : (key : ℕ) (st : Stack) → stack_of m.tree key ≡ Some st → key ≢ g.scope.id
    differs key st e f = not_both g.closed (sym (ap (stack_of m.tree) f) ∙ e)

    before : (key : ℕ) (st : Stack) → stack_of m.tree key ≡ Some st → stack_of s.tree key ≡ Some st
    before key st e = sym (g.others key (differs key st e)) ∙ e

    around : (key : ℕ) (st : Stack) → stack_of m.tree key ≡ Some st → (k : ℕ) → IsKey k st → IsOpen m.tree k
    around key st e k i =
        let b = before key st e in
        open_else s.tree m.tree g.scope.id k g.others (among_all g.scope.id k st (g.innermost key st (differs key st e) b) i)
        (h.around key st b k i)

-- stacks stay sound, whatever a task does to scopes
pub sound_acts : {t : ℕ} {s u : Scoping} {es : List Event} → Acts t s es u → Sound s → Sound u
sound_acts (no_act s) h = h
sound_acts (act_noted s u t e es a) h = sound_acts a h
sound_acts (act_shared s u shared t done es a) h = sound_acts a h
sound_acts (act_starts s u i l t es a) h = sound_acts a h
sound_acts (act_signs s m u l es g a) h = sound_acts a (sound_signs g h)
sound_acts (act_sets s m u l es g a) h = sound_acts a (sound_sets g h)
sound_acts (act_enters s m u l t d es g a) h = sound_acts a (sound_enters g h)
sound_acts (act_leaves s m u es g a) h = sound_acts a (sound_leaves g h)

-- ---- labels stay apart

labels_at : (known : Label → Type 0) → {s m : Scoping} → m.labels ≡ s.labels → Apart s → HasKnown known s → Apart m × HasKnown known m
labels_at known {s} {m} e h k = (
  record { labels = λ a b l f g. h.labels a b l (before a l f) (before b l g) },
  λ key l f. k key l (before key l f),
)
  where
    before : (key : ℕ) (l : Label) → m.labels key ≡ Some l → s.labels key ≡ Some l
    before key l f = sym (ap (λ (z : Labels). z key) e) ∙ f

-- labels of scopes stay apart and known where a scope is cancelled
pub apart_signs : {t : ℕ} → (known : Label → Type 0) → {label : Label} {s m : Scoping} → Signs t label s m → Apart s → HasKnown known s →
    Apart m × HasKnown known m
apart_signs known g h k = labels_at known g.labels h k

-- and where an event is set
pub apart_sets : {t : ℕ} → (known : Label → Type 0) → {label : Label} {s m : Scoping} → Sets t label s m → Apart s → HasKnown known s →
    Apart m × HasKnown known m
apart_sets known g h k = labels_at known g.labels h k

-- labels of scopes stay apart where a scope is entered with a new one, which is known then
pub apart_enters : (known : Label → Type 0) → {parent : Option ℕ} {label : Label} {is_event : Bool} {d : Tick} {s m : Scoping} → Enters parent label is_event d s m → (known label → ⊥) →
    Apart s → HasKnown known s →
    Apart m × HasKnown (λ l. (l ≡ label) ⊎ known l) m
apart_enters known {label} {d} {s} {m} g new h k = (
  record { labels = λ a b l e f. same a b l (labelled_before g.labelled a l e) (labelled_before g.labelled b l f) },
  λ key l e. has key l (labelled_before g.labelled key l e),
)
  where
    Before : ℕ → Label → Type 0
    Before key l = ((key ≡ g.scope.id) × (Some label ≡ Some l)) ⊎ ((key ≢ g.scope.id) × (s.labels key ≡ Some l))

    clash : (key : ℕ) (l : Label) → Some label ≡ Some l → s.labels key ≡ Some l → ⊥
    clash key l e f = new (subst known (sym (one_of label l e)) (k key l f))

    same : (a b : ℕ) (l : Label) → Before a l → Before b l → a ≡ b
    same a b l (inl e) (inl f) = e.0 ∙ sym f.0
    same a b l (inl e) (inr f) = absurd (clash b l e.1 f.1)
    same a b l (inr e) (inl f) = absurd (clash a l f.1 e.1)
    same a b l (inr e) (inr f) = h.labels a b l e.1 f.1

    has : (key : ℕ) (l : Label) → Before key l → (l ≡ label) ⊎ known l
    has key l (inl e) = inl (sym (one_of label l e.1))
    has key l (inr e) = inr (k key l e.1)

-- of the scopes that are left, each has the label that it had, and is another than the one that was closed
pub labelled_left : {s m : Scoping} → (g : Leaves s m) → (key : ℕ) (l : Label) → m.labels key ≡ Some l → (key ≢ g.scope.id)
    × (s.labels key ≡ Some l)
labelled_left {s} {m} g key l e = by_key (labelled_before g.unlabelled key l e)
  where
    by_key : ((key ≡ g.scope.id) × (None ≡ Some l)) ⊎ ((key ≢ g.scope.id) × (s.labels key ≡ Some l)) → (key ≢ g.scope.id)
        × (s.labels key ≡ Some l)
    by_key (inl f) = absurd (not_both refl f.1)
    by_key (inr f) = f

-- labels of scopes stay apart and known where a scope is left
pub apart_leaves : (known : Label → Type 0) → {s m : Scoping} → Leaves s m → Apart s → HasKnown known s → Apart m × HasKnown known m
apart_leaves known {s} {m} g h k = (
  record { labels = λ a b l e f. h.labels a b l (labelled_left g a l e).1 (labelled_left g b l f).1 },
  λ key l e. k key l (labelled_left g key l e).1,
)

-- what was known with one label more, or was entered later
pub known_one : (known : Label → Type 0) (label l : Label) (es : List Event) → KnownWith (λ m. (m ≡ label) ⊎ known m) es l → known l
    ⊎ IsAmong l (label ∷ entered_made es)
known_one known label l es (inl (inl e)) = inr (inl e)
known_one known label l es (inl (inr k)) = inl k
known_one known label l es (inr i) = inr (inr i)

-- labels of scopes stay apart where a task enters new ones, and each was known or was entered
pub apart_acts : {t : ℕ} → (known : Label → Type 0) → {s u : Scoping} {es : List Event} → Acts t s es u → Apart s → HasKnown known s →
    AreNew known es →
    Apart u × HasKnown (KnownWith known es) u
apart_acts known (no_act s) h k new = (h, λ key l e. inl (k key l e))
apart_acts known (act_noted s u t e es a) h k new = apart_acts known a h k new
apart_acts known (act_shared s u shared t done es a) h k new = apart_acts known a h k new
apart_acts known (act_starts s u i l t es a) h k new = apart_acts known a h k new
apart_acts known (act_signs s m u l es g a) h k new = let n = apart_signs known g h k in apart_acts known a n.0 n.1 new
apart_acts known (act_sets s m u l es g a) h k new = let n = apart_sets known g h k in apart_acts known a n.0 n.1 new
apart_acts known (act_enters s m u l t d es g a) h k new =
    let n = apart_enters known g new.0 h k in
    let o = apart_acts (λ x. (x ≡ l) ⊎ known x) a n.0 n.1 new.1 in
    (o.0, λ key x e. known_one known l x es (o.1 key x e))
apart_acts known (act_leaves s m u es g a) h k new = let n = apart_leaves known g h k in apart_acts known a n.0 n.1 new

-- Stacks stay sound and labels apart, and each label of a scope was known or was entered.
pub acts_keep : {t : ℕ} → (known : Label → Type 0) → {s u : Scoping} {es : List Event} → Acts t s es u → Sound s → Apart s →
    HasKnown known s → AreNew known es →
    Sound u × Apart u × HasKnown (KnownWith known es) u
acts_keep known a sound h k new = let n = apart_acts known a h k new in (sound_acts a sound, n.0, n.1)

-- the labels that events enter, in order
abbrev pub labels_entered : List Event → List Label
labels_entered es = entered_made es
