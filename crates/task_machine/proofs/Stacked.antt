-- What a stack of open scopes and events shows is what its places (the enclosing scopes, nurseries and events) show with the
-- world's moments of cancellation, and stays so.
use Rattle.std.proofs.Common.{◌≡◌, ◌⊎◌, inl, inr, ℕ, ◌+◌, Bool, true, false, ◌&&◌, ◌||◌, not, Option, Some, None, List, [], ◌∷◌, refl, ap, sym, ◌∙◌, subst, ◌==◌, if◌then◌else◌}
use Rattle.std.proofs.lemmas.Bool.{eqb-true, eq-eqb}
use Rattle.std.specs.Option.{option_map}
use Rattle.std.specs.Str.{bytes_eq}
use Rattle.turn_semantics.specs.Lists.{IsAmong}
use Rattle.exceptions.specs.Exceptions.{Label}
use Rattle.cancel_scopes.specs.Sight.{Tick, Level, earlier, next, is_reached, sight, seen, catches}
use Rattle.cancel_scopes.specs.Tree.{after_cancel}
use Rattle.cancel_scopes.specs.Tree as scopes
use Rattle.job_meaning.specs.Log.{Table, same_label}
use Rattle.job_meaning.specs.Walk.{Levels, label_if, is_among, from_for, stack_for}
use Rattle.job_meaning.proofs.Distinct.{same_label_equal, same_label_itself}
use Rattle.turn_semantics.specs.Midway.{Place, is_of_kind, label_among, level_on, stack_at}
use Rattle.turn_semantics.specs.Steps.{home_among, cancelled_from_after_sign, from_lowered_if, cancelled_from_after_entry, from_entered_if}
use Rattle.turn_semantics.specs.Turned.{labels_of}
use Rattle.turn_semantics.specs.Names.{names_at, OwnNames}
use Rattle.task_machine.specs.Acts.{SetsKey, set_at_entry}
use Rattle.task_machine.specs.Labels.{Labels, Events, is_named, key_if, is_sought, scope_named, home_key, has_label_among, level_from, seen_levels}
use Rattle.task_machine.specs.Laws.{FitsEntry}
use Rattle.task_machine.specs.Stacked.{IsLevelOf, AreAt, IsKey, Alone, SameOn, FoundAs}

-- two options that are the same hold the same
pub one_of : {A : Type 0} (a b : A) → Some a ≡ Some b → a ≡ b
one_of a b e = cc

-- the same is seen on a stack and on its places
pub sight_at : (labels : Labels) (events : Events) (cancelled_from : Table) (st : scopes.Stack) (ps : List Place) → AreAt labels events cancelled_from st ps →
    sight st ≡ sight (stack_at cancelled_from ps).scopes
sight_at labels events cancelled_from [] [] a = refl
sight_at labels events cancelled_from [] (p ∷ ps) a = absurd a
sight_at labels events cancelled_from (l ∷ ls) [] a = absurd a
sight_at labels events cancelled_from (l ∷ ls) (p ∷ ps) a = by_level (events l.label) a.2 (sight_at labels events cancelled_from ls ps a.3)
  where
    level : Level Label
    level = record { label = p.label; shield = p.shield; from = cancelled_from p.label }

    both : (b c : Bool) (x y : Tick) {u v : Tick} → b ≡ c → x ≡ y → u ≡ v → (if b then x else earlier x u) ≡ (if c then y else earlier y v)
    both b c x y e f g = cc

    hidden : (b : Bool) (x u : Tick) → b ≡ false → x ≡ None → (if b then x else earlier x u) ≡ u
    hidden true x u e f = absurd (let g : true ≡ false = e in cc)
    hidden false None u e f = refl
    hidden false (Some t) u e f = absurd (let g : Some t ≡ None = f in cc)

    of_scope : (b : Bool) → b ≡ false → l.from ≡ cancelled_from p.label → sight ls ≡ sight (stack_at cancelled_from ps).scopes →
        sight (l ∷ ls)
        ≡ sight (level_on b (record { label = p.label; shield = p.shield; from = cancelled_from p.label }) (stack_at cancelled_from ps)).scopes
    of_scope true e f g = absurd (let h : true ≡ false = e in cc)
    of_scope false e f g = both l.shield p.shield l.from (cancelled_from p.label) a.1 f g

    of_event : (b : Bool) → b ≡ true → l.shield ≡ false → l.from ≡ None → sight ls ≡ sight (stack_at cancelled_from ps).scopes →
        sight (l ∷ ls)
        ≡ sight (level_on b (record { label = p.label; shield = p.shield; from = cancelled_from p.label }) (stack_at cancelled_from ps)).scopes
    of_event true e f g h = hidden l.shield l.from (sight ls) f g ∙ h
    of_event false e f g h = absurd (let k : false ≡ true = e in cc)

    by_level : (o : Option Tick) → IsLevelOf o l cancelled_from p → sight ls ≡ sight (stack_at cancelled_from ps).scopes →
        sight (l ∷ ls)
        ≡ sight (level_on p.is_event (record { label = p.label; shield = p.shield; from = cancelled_from p.label }) (stack_at cancelled_from ps)).scopes
    by_level None h g = of_scope p.is_event h.0 h.1 g
    by_level (Some set) h g = of_event p.is_event h.0 h.1 h.2 g

-- what is seen on a stack in a tick is what is seen on its places with the world's moments of cancellation
pub seen_at : (labels : Labels) (events : Events) (cancelled_from : Table) (st : scopes.Stack) (ps : List Place) (t : ℕ) →
    AreAt labels events cancelled_from st ps → seen st t ≡ seen (stack_at cancelled_from ps).scopes t
seen_at labels events cancelled_from st ps t a = ap (λ (x : Tick). is_reached x t) (sight_at labels events cancelled_from st ps a)

-- the innermost scope, which is no event, catches as its place does
pub catches_at : (labels : Labels) (events : Events) (cancelled_from : Table) (l : Level ℕ) (ls : scopes.Stack) (p : Place) (ps : List Place)
    (t : ℕ) → p.is_event ≡ false → AreAt labels events cancelled_from (l ∷ ls) (p ∷ ps) →
    scopes.catches (l ∷ ls) t ≡ catches (cancelled_from p.label) p.shield (stack_at cancelled_from ps).scopes t
catches_at labels events cancelled_from l ls p ps t scope a = by_level (events l.label) a.2
  where
    both : (x y : Tick) (b c : Bool) {u v : Bool} → x ≡ y → b ≡ c → u ≡ v → (is_reached x t && (b || not u)) ≡ (is_reached y t && (c || not v))
    both x y b c e f g = cc

    by_level : (o : Option Tick) → IsLevelOf o l cancelled_from p →
        scopes.catches (l ∷ ls) t ≡ catches (cancelled_from p.label) p.shield (stack_at cancelled_from ps).scopes t
    by_level None h = both l.from (cancelled_from p.label) l.shield p.shield h.1 a.1 (seen_at labels events cancelled_from ls ps t a.3)
    by_level (Some set) h = absurd (let e : true ≡ false = sym h.0 ∙ scope in cc)

-- ---- what a task sees that has cancelled some labels itself in this moment

-- the moments of cancellation as such a task sees them
abbrev pub own_cancelled_from : List Label → ℕ → Table → Table
own_cancelled_from own t cancelled_from label = from_for own t label (cancelled_from label)

-- and the events, as if they were lowered as scopes are
abbrev own_events : Labels → Events → List Label → ℕ → Events
own_events labels events own t key = option_map (λ (set : Tick). level_from (has_label_among (labels key) own) t set) (events key)

level_from_if : (b : Bool) (t : ℕ) (x : Tick) → level_from b t x ≡ (if b then earlier x (Some t) else x)
level_from_if true t x = refl
level_from_if false t x = refl

-- a stack as such a task sees it is at the same places, with the moments of cancellation as it sees them
seen_places : (labels : Labels) (events : Events) (own : List Label) (t : ℕ) (cancelled_from : Table) (st : scopes.Stack) (ps : List Place) →
    AreAt labels events cancelled_from st ps →
    AreAt labels (own_events labels events own t) (own_cancelled_from own t cancelled_from) (seen_levels labels events own t st) ps
seen_places labels events own t cancelled_from [] [] a = tt
seen_places labels events own t cancelled_from [] (p ∷ ps) a = a
seen_places labels events own t cancelled_from (l ∷ ls) [] a = a
seen_places labels events own t cancelled_from (l ∷ ls) (p ∷ ps) a =
    (a.0, a.1, by_level (events l.label) a.2, seen_places labels events own t cancelled_from ls ps a.3)
  where
    lowered : (x : Tick) → x ≡ cancelled_from p.label →
        level_from (has_label_among (labels l.label) own) t x ≡ own_cancelled_from own t cancelled_from p.label
    lowered x e =
        ap (λ (o : Option Label). level_from (has_label_among o own) t x) a.0
        ∙ ap (λ (y : Tick). level_from (is_among p.label own) t y) e
        ∙ level_from_if (is_among p.label own) t (cancelled_from p.label)

    by_level : (o : Option Tick) → IsLevelOf o l cancelled_from p →
        IsLevelOf (option_map (λ (set : Tick). level_from (has_label_among (labels l.label) own) t set) o)
        (record l { from = level_from (is_sought false o && has_label_among (labels l.label) own) t l.from }) (own_cancelled_from own t cancelled_from) p
    by_level None h = (h.0, lowered l.from h.1)
    by_level (Some set) h = (h.0, h.1, h.2, lowered set h.3)

-- places with the moments of cancellation as such a task sees them
own_stack : (own : List Label) (t : ℕ) (cancelled_from : Table) (ps : List Place) →
    (stack_at (own_cancelled_from own t cancelled_from) ps).scopes ≡ stack_for own t (stack_at cancelled_from ps).scopes
own_stack own t cancelled_from [] = refl
own_stack own t cancelled_from (p ∷ ps) = by_kind p.is_event (own_stack own t cancelled_from ps)
  where
    by_kind : (b : Bool) → (stack_at (own_cancelled_from own t cancelled_from) ps).scopes ≡ stack_for own t (stack_at cancelled_from ps).scopes →
        (level_on b (record { label = p.label; shield = p.shield; from = own_cancelled_from own t cancelled_from p.label })
        (stack_at (own_cancelled_from own t cancelled_from) ps)).scopes
        ≡ stack_for own t (level_on b (record { label = p.label; shield = p.shield; from = cancelled_from p.label }) (stack_at cancelled_from ps)).scopes
    by_kind true e = e
    by_kind false e =
        ap (λ (st : Levels). record { label = p.label; shield = p.shield; from = own_cancelled_from own t cancelled_from p.label } ∷ st) e

-- the innermost scope, which is no event, catches for such a task as its place does
pub catches_for : (labels : Labels) (events : Events) (own : List Label) (cancelled_from : Table) (l : Level ℕ) (ls : scopes.Stack) (p : Place)
    (ps : List Place) (t : ℕ) → p.is_event ≡ false → AreAt labels events cancelled_from (l ∷ ls) (p ∷ ps) →
    scopes.catches (seen_levels labels events own t (l ∷ ls)) t
    ≡ catches (from_for own t p.label (cancelled_from p.label)) p.shield (stack_for own t (stack_at cancelled_from ps).scopes) t
catches_for labels events own cancelled_from l ls p ps t scope a =
    catches_at labels (own_events labels events own t) (own_cancelled_from own t cancelled_from)
    (record l { from = level_from (is_sought false (events l.label) && has_label_among (labels l.label) own) t l.from })
    (seen_levels labels events own t ls) p ps t scope (seen_places labels events own t cancelled_from (l ∷ ls) (p ∷ ps) a)
    ∙ ap (λ (st : Levels). catches (from_for own t p.label (cancelled_from p.label)) p.shield st t) (own_stack own t cancelled_from ps)

-- what such a task sees is what is seen on its places
pub seen_for : (labels : Labels) (events : Events) (own : List Label) (cancelled_from : Table) (st : scopes.Stack) (ps : List Place) (t : ℕ) →
    AreAt labels events cancelled_from st ps →
    seen (seen_levels labels events own t st) t ≡ seen (stack_for own t (stack_at cancelled_from ps).scopes) t
seen_for labels events own cancelled_from st ps t a =
    seen_at labels (own_events labels events own t) (own_cancelled_from own t cancelled_from) (seen_levels labels events own t st) ps t
    (seen_places labels events own t cancelled_from st ps a)
    ∙ ap (λ (ls : Levels). seen ls t) (own_stack own t cancelled_from ps)

-- a task that has cancelled nothing sees the stack as it is
pub seen_as_is : (labels : Labels) (events : Events) (t : ℕ) (st : scopes.Stack) → seen_levels labels events [] t st ≡ st
seen_as_is labels events t [] = refl
seen_as_is labels events t (l ∷ ls) =
    ap (λ (b : Bool). record l { from = level_from b t l.from } ∷ seen_levels labels events [] t ls)
    (none_among (is_sought false (events l.label)) (labels l.label))
    ∙ ap (λ (st : scopes.Stack). l ∷ st) (seen_as_is labels events t ls)
  where
    none_among : (b : Bool) (o : Option Label) → (b && has_label_among o []) ≡ false
    none_among true None = refl
    none_among true (Some label) = refl
    none_among false o = refl

-- ---- the scope or event of a name

-- a level is sought as its place is
pub kind_at : (sought : Bool) (o : Option Tick) (l : Level ℕ) (cancelled_from : Table) (p : Place) → IsLevelOf o l cancelled_from p →
    is_sought sought o ≡ is_of_kind sought p
kind_at true None l cancelled_from p h = sym h.0
kind_at true (Some set) l cancelled_from p h = sym h.0
kind_at false None l cancelled_from p h = ap not (sym h.0)
kind_at false (Some set) l cancelled_from p h = ap not (sym h.0)

-- the innermost scope, or event, of a name in a stack has the innermost label of that name among the places, or neither exists
pub named_at : (sought : Bool) (labels : Labels) (events : Events) (cancelled_from : Table) (name : List ℕ) (st : scopes.Stack) (ps : List Place) →
    AreAt labels events cancelled_from st ps → FoundAs labels (scope_named sought labels events name st) (label_among sought name ps)
named_at sought labels events cancelled_from name [] [] a = refl
named_at sought labels events cancelled_from name [] (p ∷ ps) a = absurd a
named_at sought labels events cancelled_from name (l ∷ ls) [] a = absurd a
named_at sought labels events cancelled_from name (l ∷ ls) (p ∷ ps) a =
    subst (λ (b : Bool). FoundAs labels
    (key_if (b && is_named name (labels l.label)) l.label (scope_named sought labels events name ls)) (label_among sought name (p ∷ ps)))
    (sym (kind_at sought (events l.label) l cancelled_from p a.2))
    (subst (λ (o : Option Label). FoundAs labels
    (key_if (is_of_kind sought p && is_named name o) l.label (scope_named sought labels events name ls)) (label_among sought name (p ∷ ps)))
    (sym a.0)
    (by_name (is_of_kind sought p && bytes_eq name p.label.name) _ _ (named_at sought labels events cancelled_from name ls ps a.3)))
  where
    by_name : (b : Bool) (further : Option ℕ) (found : Option Label) → FoundAs labels further found →
        FoundAs labels (key_if b l.label further) (label_if b p.label found)
    by_name true further found h = (a.0, (p.label, refl))
    by_name false further found h = h

-- what was found is one of the stack
pub named_is_in : (sought : Bool) (labels : Labels) (events : Events) (name : List ℕ) (st : scopes.Stack) (key : ℕ) →
    scope_named sought labels events name st ≡ Some key → IsKey key st
named_is_in sought labels events name [] key e = absurd (let f : None ≡ Some key = e in cc)
named_is_in sought labels events name (l ∷ ls) key e =
    by_name (is_sought sought (events l.label) && is_named name (labels l.label)) (λ f. named_is_in sought labels events name ls key f) e
  where
    by_name : (b : Bool) → (scope_named sought labels events name ls ≡ Some key → IsKey key ls) →
        key_if b l.label (scope_named sought labels events name ls) ≡ Some key → (key ≡ l.label) ⊎ IsKey key ls
    by_name true inside f = inl (sym (one_of l.label key f))
    by_name false inside f = inr (inside f)

-- and it is an event, or it is none
pub named_sought : (sought : Bool) (labels : Labels) (events : Events) (name : List ℕ) (st : scopes.Stack) (key : ℕ) →
    scope_named sought labels events name st ≡ Some key → is_sought sought (events key) ≡ true
named_sought sought labels events name [] key e = absurd (let f : None ≡ Some key = e in cc)
named_sought sought labels events name (l ∷ ls) key e =
    by_tests (is_sought sought (events l.label)) (is_named name (labels l.label)) refl
    (λ f. named_sought sought labels events name ls key f) e
  where
    by_tests : (b c : Bool) → is_sought sought (events l.label) ≡ b →
        (scope_named sought labels events name ls ≡ Some key → is_sought sought (events key) ≡ true) →
        key_if (b && c) l.label (scope_named sought labels events name ls) ≡ Some key → is_sought sought (events key) ≡ true
    by_tests true true is inside f = ap (λ (k : ℕ). is_sought sought (events k)) (sym (one_of l.label key f)) ∙ is
    by_tests true false is inside f = inside f
    by_tests false c is inside f = inside f

-- what is no event has no moment from which it is set
pub no_event : (o : Option Tick) → is_sought false o ≡ true → o ≡ None
no_event None e = refl
no_event (Some set) e = absurd (let f : false ≡ true = e in cc)

-- the innermost scope of a stack that is no event has the label of the innermost place that is none, or neither exists
pub home_at : (labels : Labels) (events : Events) (cancelled_from : Table) (st : scopes.Stack) (ps : List Place) → AreAt labels events cancelled_from st ps →
    FoundAs labels (home_key events st) (home_among ps)
home_at labels events cancelled_from [] [] a = refl
home_at labels events cancelled_from [] (p ∷ ps) a = absurd a
home_at labels events cancelled_from (l ∷ ls) [] a = absurd a
home_at labels events cancelled_from (l ∷ ls) (p ∷ ps) a =
    subst (λ (b : Bool). FoundAs labels (key_if b l.label (home_key events ls)) (home_among (p ∷ ps)))
    (sym (kind_at false (events l.label) l cancelled_from p a.2)) (by_kind (not p.is_event) _ _ (home_at labels events cancelled_from ls ps a.3))
  where
    by_kind : (b : Bool) (further : Option ℕ) (found : Option Label) → FoundAs labels further found →
        FoundAs labels (key_if b l.label further) (label_if b p.label found)
    by_kind true further found h = (a.0, (p.label, refl))
    by_kind false further found h = h

-- it is one of the stack
pub home_is_in : (events : Events) (st : scopes.Stack) (key : ℕ) → home_key events st ≡ Some key → IsKey key st
home_is_in events [] key e = absurd (let f : None ≡ Some key = e in cc)
home_is_in events (l ∷ ls) key e = by_kind (is_sought false (events l.label)) (λ f. home_is_in events ls key f) e
  where
    by_kind : (b : Bool) → (home_key events ls ≡ Some key → IsKey key ls) → key_if b l.label (home_key events ls) ≡ Some key →
        (key ≡ l.label) ⊎ IsKey key ls
    by_kind true inside f = inl (sym (one_of l.label key f))
    by_kind false inside f = inr (inside f)

-- and no event
pub home_no_event : (events : Events) (st : scopes.Stack) (key : ℕ) → home_key events st ≡ Some key → events key ≡ None
home_no_event events [] key e = absurd (let f : None ≡ Some key = e in cc)
home_no_event events (l ∷ ls) key e =
    by_kind (is_sought false (events l.label)) refl (λ f. home_no_event events ls key f) e
  where
    by_kind : (b : Bool) → is_sought false (events l.label) ≡ b → (home_key events ls ≡ Some key → events key ≡ None) →
        key_if b l.label (home_key events ls) ≡ Some key → events key ≡ None
    by_kind true is inside f = ap events (sym (one_of l.label key f)) ∙ no_event (events l.label) is
    by_kind false is inside f = inside f

-- ---- what a turn does to the scopes

-- a scope has the key that is signed exactly if its place has the label
same_test : (labels : Labels) (l : Level ℕ) (p : Place) (key : ℕ) (label : Label) → labels key ≡ Some label →
    (labels l.label ≡ Some label → l.label ≡ key) →
    labels l.label ≡ Some p.label → (l.label == key) ≡ same_label p.label label
same_test labels l p key label named alone at = by_key (l.label == key) refl
  where
    by_key : (b : Bool) → (l.label == key) ≡ b → b ≡ same_label p.label label
    by_key true e = sym (subst (λ (m : Label). same_label p.label m ≡ true)
        (one_of p.label label (sym at ∙ ap labels (eqb-true l.label key e) ∙ named)) (same_label_itself p.label))
    by_key false e = by_label (same_label p.label label) refl
      where
        by_label : (c : Bool) → same_label p.label label ≡ c → false ≡ c
        by_label true f =
            absurd (clash (subst (λ (k : ℕ). (l.label == k) ≡ true) (alone
            (at ∙ ap (λ (m : Label). Some m) (same_label_equal p.label label f))) (eq-eqb l.label l.label refl)))
          where
            clash : (l.label == key) ≡ true → ⊥
            clash g = let f : false ≡ true = sym e ∙ g in cc
        by_label false f = refl

-- a sign lowers one from, of the scope that has its label
signed_level : (cancelled_from : Table) (l : Level ℕ) (p : Place) (t : ℕ) (b : Bool) → l.from ≡ cancelled_from p.label →
    (if b then record l { from = earlier l.from (Some (t + 1)) } else l).from ≡ from_lowered_if b t (cancelled_from p.label)
signed_level cancelled_from l p t true e = ap (λ (x : Tick). earlier x (Some (t + 1))) e
signed_level cancelled_from l p t false e = e

same_key : (l : Level ℕ) (t : ℕ) (b : Bool) → (if b then record l { from = earlier l.from (Some (t + 1)) } else l).label ≡ l.label
same_key l t true = refl
same_key l t false = refl

same_shield : (l : Level ℕ) (t : ℕ) (b : Bool) → (if b then record l { from = earlier l.from (Some (t + 1)) } else l).shield ≡ l.shield
same_shield l t true = refl
same_shield l t false = refl

-- what it does to a level, which it lowers only where that is no event
signed_kind : (cancelled_from : Table) (l : Level ℕ) (p : Place) (t : ℕ) (label : Label) (b : Bool) (o : Option Tick) →
    b ≡ same_label p.label label → (b ≡ true → o ≡ None) → IsLevelOf o l cancelled_from p →
    IsLevelOf o (if b then record l { from = earlier l.from (Some (t + 1)) } else l) (cancelled_from_after_sign cancelled_from label t) p
signed_kind cancelled_from l p t label b None test none h =
    (h.0, signed_level cancelled_from l p t b h.1 ∙ ap (λ (c : Bool). from_lowered_if c t (cancelled_from p.label)) test)
signed_kind cancelled_from l p t label true (Some set) test none h = absurd (let e : Some set ≡ None = none refl in cc)
signed_kind cancelled_from l p t label false (Some set) test none h =
    (h.0, h.1, h.2, h.3 ∙ ap (λ (c : Bool). from_lowered_if c t (cancelled_from p.label)) test)

-- a scope that alone has its label in a stack is cancelled: the places stay, and the from of that label is lowered
pub signed_at : (labels : Labels) (events : Events) (cancelled_from : Table) (st : scopes.Stack) (ps : List Place) (key t : ℕ) (label : Label) →
    labels key ≡ Some label → events key ≡ None →
    Alone labels key label st → AreAt labels events cancelled_from st ps →
    AreAt labels events (cancelled_from_after_sign cancelled_from label t) (after_cancel key t st) ps
signed_at labels events cancelled_from [] [] key t label named scope alone a = tt
signed_at labels events cancelled_from [] (p ∷ ps) key t label named scope alone a = a
signed_at labels events cancelled_from (l ∷ ls) [] key t label named scope alone a = a
signed_at labels events cancelled_from (l ∷ ls) (p ∷ ps) key t label named scope alone a =
    let test : (l.label == key) ≡ same_label p.label label = same_test labels l p key label named alone.0 a.0 in (
      ap labels (same_key l t (l.label == key)) ∙ a.0,
      same_shield l t (l.label == key) ∙ a.1,
      subst (λ (k : ℕ). IsLevelOf (events k) (if l.label == key then record l { from = earlier l.from (Some (t + 1)) } else l)
          (cancelled_from_after_sign cancelled_from label t) p)
          (sym (same_key l t (l.label == key)))
          (signed_kind cancelled_from l p t label (l.label == key) (events l.label) test
          (λ e. ap events (eqb-true l.label key e) ∙ scope) a.2),
      signed_at labels events cancelled_from ls ps key t label named scope alone.1 a.3,
    )

-- a from that is not lowered
not_lowered : (o : Option Tick) (cancelled_from : Table) (l : Level ℕ) (p : Place) (t : ℕ) (label : Label) → false ≡ same_label p.label label →
    IsLevelOf o l cancelled_from p → IsLevelOf o l (cancelled_from_after_sign cancelled_from label t) p
not_lowered None cancelled_from l p t label differs h = (h.0, h.1 ∙ ap (λ (c : Bool). from_lowered_if c t (cancelled_from p.label)) differs)
not_lowered (Some set) cancelled_from l p t label differs h =
    (h.0, h.1, h.2, h.3 ∙ ap (λ (c : Bool). from_lowered_if c t (cancelled_from p.label)) differs)

-- an event that alone has its label in a stack is set: the places stay, and the from of that label is lowered
pub set_at : (labels : Labels) (events more : Events) (cancelled_from : Table) (st : scopes.Stack) (ps : List Place) (key t : ℕ) (label : Label)
    (set all : List ℕ) → labels key ≡ Some label → SetsKey key t events more set all →
    Alone labels key label st → AreAt labels events cancelled_from st ps → AreAt labels more (cancelled_from_after_sign cancelled_from label t) st ps
set_at labels events more cancelled_from [] [] key t label set all named sets alone a = tt
set_at labels events more cancelled_from [] (p ∷ ps) key t label set all named sets alone a = a
set_at labels events more cancelled_from (l ∷ ls) [] key t label set all named sets alone a = a
set_at labels events more cancelled_from (l ∷ ls) (p ∷ ps) key t label set all named sets alone a = (
  a.0,
  a.1,
  by_key (l.label == key) refl,
  set_at labels events more cancelled_from ls ps key t label set all named sets alone.1 a.3,
)
  where
    test : (l.label == key) ≡ same_label p.label label
    test = same_test labels l p key label named alone.0 a.0

    by_key : (b : Bool) → (l.label == key) ≡ b → IsLevelOf (more l.label) l (cancelled_from_after_sign cancelled_from label t) p
    by_key true e =
        let same : l.label ≡ key = eqb-true l.label key e in
        let h : IsLevelOf (Some sets.from) l cancelled_from p =
        subst (λ (o : Option Tick). IsLevelOf o l cancelled_from p) (ap events same ∙ sets.was) a.2 in
        subst (λ (o : Option Tick). IsLevelOf o l (cancelled_from_after_sign cancelled_from label t) p) (sym (ap more same ∙ sets.lowered.changed)) (
          h.0,
          h.1,
          h.2,
          ap (λ (x : Tick). earlier x (next (Some t))) h.3
              ∙ ap (λ (c : Bool). from_lowered_if c t (cancelled_from p.label)) (sym e ∙ test),
        )
    by_key false e =
        subst (λ (o : Option Tick). IsLevelOf o l (cancelled_from_after_sign cancelled_from label t) p)
        (sym (sets.lowered.others l.label (λ same. absurd (let f : true ≡ false = sym (eq-eqb l.label key same) ∙ e in cc))))
        (not_lowered (events l.label) cancelled_from l p t label (sym e ∙ test) a.2)

-- a label that is opened and is none of these places leaves them as they are
pub opened_else : (labels more : Labels) (events others : Events) (cancelled_from : Table) (st : scopes.Stack) (ps : List Place) (label : Label)
    (d : Tick) → SameOn labels more st → SameOn events others st → (IsAmong label (labels_of ps) → ⊥) →
    AreAt labels events cancelled_from st ps → AreAt more others (cancelled_from_after_entry cancelled_from label d) st ps
opened_else labels more events others cancelled_from [] [] label d same alike new a = tt
opened_else labels more events others cancelled_from [] (p ∷ ps) label d same alike new a = a
opened_else labels more events others cancelled_from (l ∷ ls) [] label d same alike new a = a
opened_else labels more events others cancelled_from (l ∷ ls) (p ∷ ps) label d same alike new a = (
  sym same.0 ∙ a.0,
  a.1,
  subst (λ (o : Option Tick). IsLevelOf o l (cancelled_from_after_entry cancelled_from label d) p) alike.0 (by_level (events l.label) a.2),
  opened_else labels more events others cancelled_from ls ps label d same.1 alike.1 (λ k. new (inr k)) a.3,
)
  where
    differs : same_label p.label label ≡ false
    differs = by_test (same_label p.label label) refl
      where
        by_test : (b : Bool) → same_label p.label label ≡ b → b ≡ false
        by_test true e = absurd (new (inl (sym (same_label_equal p.label label e))))
        by_test false e = refl

    by_level : (o : Option Tick) → IsLevelOf o l cancelled_from p → IsLevelOf o l (cancelled_from_after_entry cancelled_from label d) p
    by_level None h = (h.0, h.1 ∙ sym (ap (λ (b : Bool). from_entered_if b d (cancelled_from p.label)) differs))
    by_level (Some set) h = (h.0, h.1, h.2, h.3 ∙ sym (ap (λ (b : Bool). from_entered_if b d (cancelled_from p.label)) differs))

-- a scope or event that is opened with a label that is new, inside these places
opened_at : (labels more : Labels) (events others : Events) (cancelled_from : Table) (st : scopes.Stack) (ps : List Place) (key : ℕ) (p : Place)
    (d : Tick) → more key ≡ Some p.label → others key ≡ set_at_entry p.is_event → FitsEntry p d → SameOn labels more st →
    SameOn events others st → (IsAmong p.label (labels_of ps) → ⊥) → AreAt labels events cancelled_from st ps →
    AreAt more others (cancelled_from_after_entry cancelled_from p.label d) (record { label = key; shield = p.shield; from = d } ∷ st) (p ∷ ps)
opened_at labels more events others cancelled_from st ps key p d named kind entry same alike new a = (
  named,
  refl,
  subst (λ (o : Option Tick). IsLevelOf o (record { label = key; shield = p.shield; from = d }) (cancelled_from_after_entry cancelled_from p.label d) p)
      (sym kind) (by_kind p.is_event refl),
  opened_else labels more events others cancelled_from st ps p.label d same alike new a,
)
  where
    opened : d ≡ from_entered_if (same_label p.label p.label) d (cancelled_from p.label)
    opened = sym (ap (λ (b : Bool). from_entered_if b d (cancelled_from p.label)) (same_label_itself p.label))

    by_kind : (b : Bool) → p.is_event ≡ b →
        IsLevelOf (set_at_entry b) (record { label = key; shield = p.shield; from = d }) (cancelled_from_after_entry cancelled_from p.label d) p
    by_kind true e = let fits = entry e in (e, fits.0, fits.1, sym fits.1 ∙ opened)
    by_kind false e = (e, opened)

-- ---- names that are apart

-- a label that is known among places has a name that is among theirs
pub known_name : (label : Label) (ps : List Place) → IsAmong label (labels_of ps) → IsAmong label.name (names_at ps)
known_name label [] k = absurd k
known_name label (p ∷ ps) (inl e) = inl (ap (λ (l : Label). l.name) e)
known_name label (p ∷ ps) (inr k) = inr (known_name label ps k)

-- a scope with a label that is not among the places is none of the stack
none_alone : (labels : Labels) (events : Events) (cancelled_from : Table) (st : scopes.Stack) (ps : List Place) (key : ℕ) (label : Label) →
    (IsAmong label (labels_of ps) → ⊥) →
    AreAt labels events cancelled_from st ps → Alone labels key label st
none_alone labels events cancelled_from [] [] key label new a = tt
none_alone labels events cancelled_from [] (p ∷ ps) key label new a = absurd a
none_alone labels events cancelled_from (l ∷ ls) [] key label new a = absurd a
none_alone labels events cancelled_from (l ∷ ls) (p ∷ ps) key label new a =
    ((λ e. absurd (new (inl (one_of label p.label (sym e ∙ a.0))))), none_alone labels events cancelled_from ls ps key label (λ k. new (inr k)) a.3)

-- a scope of the stack has its label among the places
pub key_known : (labels : Labels) (events : Events) (cancelled_from : Table) (st : scopes.Stack) (ps : List Place) (key : ℕ) (label : Label) → labels key ≡ Some label →
    IsKey key st →
    AreAt labels events cancelled_from st ps → IsAmong label (labels_of ps)
key_known labels events cancelled_from [] [] key label named i a = absurd i
key_known labels events cancelled_from [] (p ∷ ps) key label named i a = absurd i
key_known labels events cancelled_from (l ∷ ls) [] key label named i a = absurd a
key_known labels events cancelled_from (l ∷ ls) (p ∷ ps) key label named (inl e) a = inl (one_of label p.label (sym named ∙ ap labels e ∙ a.0))
key_known labels events cancelled_from (l ∷ ls) (p ∷ ps) key label named (inr i) a = inr (key_known labels events cancelled_from ls ps key label named i a.3)

-- if places have different names, no other scope of the stack has the label of one
pub alone_at : (labels : Labels) (events : Events) (cancelled_from : Table) (st : scopes.Stack) (ps : List Place) (key : ℕ) (label : Label) → labels key ≡ Some label →
    IsKey key st →
    OwnNames (names_at ps) → AreAt labels events cancelled_from st ps → Alone labels key label st
alone_at labels events cancelled_from [] [] key label named i own a = tt
alone_at labels events cancelled_from [] (p ∷ ps) key label named i own a = absurd a
alone_at labels events cancelled_from (l ∷ ls) [] key label named i own a = absurd a
alone_at labels events cancelled_from (l ∷ ls) (p ∷ ps) key label named (inl e) own a =
    let same : label ≡ p.label = one_of label p.label (sym named ∙ ap labels e ∙ a.0) in (
      (λ f. sym e),
      none_alone labels events cancelled_from ls ps key label (λ k.
          own.0 (subst (λ (m : Label). IsAmong m.name (names_at ps)) same (known_name label ps k))) a.3,
    )
alone_at labels events cancelled_from (l ∷ ls) (p ∷ ps) key label named (inr i) own a = (
  (λ e. absurd (own.0 (subst (λ (m : Label). IsAmong m.name (names_at ps)) (one_of label p.label (sym e ∙ a.0))
      (known_name label ps (key_known labels events cancelled_from ls ps key label named i a.3))))),
  alone_at labels events cancelled_from ls ps key label named i own.1 a.3,
)

-- ---- the laws

-- a scope of a stack is cancelled, whose places all have different names: the from of its label is lowered
pub signed_alike : (labels : Labels) (events : Events) (cancelled_from : Table) (st : scopes.Stack) (ps : List Place) (key t : ℕ) (label : Label) →
    labels key ≡ Some label → events key ≡ None → IsKey key st → OwnNames (names_at ps) → AreAt labels events cancelled_from st ps →
    AreAt labels events (cancelled_from_after_sign cancelled_from label t) (after_cancel key t st) ps
signed_alike labels events cancelled_from st ps key t label named scope i own a =
    signed_at labels events cancelled_from st ps key t label named scope (alone_at labels events cancelled_from st ps key label named i own a) a

-- an event of a stack is set, whose places all have different names: the from of its label is lowered
pub set_alike : (labels : Labels) (events more : Events) (cancelled_from : Table) (st : scopes.Stack) (ps : List Place) (key t : ℕ)
    (label : Label) (set all : List ℕ) → labels key ≡ Some label → SetsKey key t events more set all → IsKey key st →
    OwnNames (names_at ps) → AreAt labels events cancelled_from st ps → AreAt labels more (cancelled_from_after_sign cancelled_from label t) st ps
set_alike labels events more cancelled_from st ps key t label set all named sets i own a =
    set_at labels events more cancelled_from st ps key t label set all named sets (alone_at labels events cancelled_from st ps key label named i own a) a

-- a scope or event is opened inside a stack whose places have other names: its place has its deadline as from
pub entered_alike : (labels more : Labels) (events others : Events) (cancelled_from : Table) (st : scopes.Stack) (ps : List Place) (key : ℕ)
    (p : Place) (d : Tick) → more key ≡ Some p.label → others key ≡ set_at_entry p.is_event → FitsEntry p d → SameOn labels more st →
    SameOn events others st → (IsAmong p.label.name (names_at ps) → ⊥) → AreAt labels events cancelled_from st ps →
    AreAt more others (cancelled_from_after_entry cancelled_from p.label d) (record { label = key; shield = p.shield; from = d } ∷ st) (p ∷ ps)
entered_alike labels more events others cancelled_from st ps key p d named kind entry same alike new a =
    opened_at labels more events others cancelled_from st ps key p d named kind entry same alike (λ k. new (known_name p.label ps k)) a
