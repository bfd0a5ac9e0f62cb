-- What a task sees, and whether a scope catches for it, that has cancelled some labels itself in this moment.
use Rattle.std.proofs.Common.{◌≡◌, ℕ, Bool, true, false, not, ◌&&◌, ◌||◌, Option, Some, None, List, [], ◌∷◌, nat_le, nat_lt, length, refl, ap, sym, ◌∙◌, if◌then◌else◌, arith}
use Rattle.std.proofs.lemmas.Bool.Decides.{nat_tests}
use Rattle.std.specs.Option.{ForSome, unwrap_or}
use Rattle.std.specs.List.{list_any}
use Rattle.exceptions.specs.Exceptions.{Label}
use Rattle.exceptions.specs.Labels.{same_label, same_label_equiv}
use Rattle.cancel_scopes.specs.Sight.{Tick, Level, earlier, is_reached, seen, sight}
use Rattle.cancel_scopes.specs.Tree.{Stack, Tree, stack_of, outer_of, outer_levels, own_from, own_shield, IsOpen, IsOwn}
use Rattle.cancel_scopes.specs.Tree as scopes
use Rattle.job_meaning.proofs.Ticks.{reached_earlier}
use Rattle.job_meaning.specs.Walk.{is_among}
use Rattle.task_machine.specs.Labels.{Labels, Events, is_sought, has_label_among, level_from, seen_levels}
use Rattle.task_machine.proofs.FindLemmas.{Begins, begins}
use Rattle.task_machine.proofs.Stacked.{seen_as_is}

or_false : (b : Bool) → b ≡ (b || false)
or_false true = refl
or_false false = refl

-- what is seen on a stack, by its innermost level
seen_first : (l : Level ℕ) (ls : Stack) (t : ℕ) → seen (l ∷ ls) t ≡ (is_reached l.from t || (not l.shield && seen ls t))
seen_first l ls t = by_shield l.shield
  where
    by_shield : (s : Bool) → is_reached (if s then l.from else earlier l.from (sight ls)) t ≡ (is_reached l.from t || (not s && seen ls t))
    by_shield true = or_false (is_reached l.from t)
    by_shield false = reached_earlier l.from (sight ls) t

-- a scope with one of the labels is cancelled
reached_own : (b : Bool) (x : Tick) (t : ℕ) → is_reached (level_from b t x) t ≡ (is_reached x t || b)
reached_own true x t = reached_earlier x (Some t) t ∙ ap (λ (c : Bool). is_reached x t || c) itself
  where
    itself : nat_le t t ≡ true
    itself = grind (arith, nat_tests)
reached_own false x t = or_false (is_reached x t)

-- a list without a first element is empty
pub none_first : (own : List Label) (b : Bool) → b ≡ nat_lt 0 (length own) → b ≡ false → own ≡ []
none_first [] b e f = refl
none_first (l ∷ own) b e f = absurd (let g : nat_lt 0 (length (l ∷ own)) ≡ true = grind (arith, nat_tests) in cc)

-- whether a label is among some, as a test of each
pub among_any : (label : Label) (own : List Label) → list_any (λ (other : Label). same_label other label) own ≡ is_among label own
among_any label [] = refl
among_any label (l ∷ own) = both (same_label l label) (same_label label l) (same_label_equiv.symm l label) (among_any label own)
  where
    both : (a b : Bool) {x y : Bool} → a ≡ b → x ≡ y → (a || x) ≡ (b || y)
    both a b e f = cc

-- ---- a task that has cancelled these labels in this moment

module _ (labels : Labels) (events : Events) (own : List Label) (t : ℕ) where
  -- whether the innermost scope of a stack is cancelled for the task
  abbrev pub cancelled_for : Stack → Bool
  cancelled_for st = is_reached (own_from (seen_levels labels events own t st)) t

  -- it catches as it does for others if the task has cancelled nothing
  pub catches_alike : (st : Stack) → own ≡ [] → scopes.catches st t ≡ scopes.catches (seen_levels labels events own t st) t
  catches_alike st none =
      sym (ap (λ (ls : List Label). scopes.catches (seen_levels labels events ls t st) t) none
      ∙ ap (λ (su : Stack). scopes.catches su t) (seen_as_is labels events t st))

  -- and it sees what others see then
  pub sees_alike : (st : Stack) → own ≡ [] → seen st t ≡ seen (seen_levels labels events own t st) t
  sees_alike st none =
      sym (ap (λ (ls : List Label). seen (seen_levels labels events ls t st) t) none
      ∙ ap (λ (su : Stack). seen su t) (seen_as_is labels events t st))

  -- it does not catch if it is not
  pub catches_not : (st : Stack) → false ≡ cancelled_for st → false ≡ scopes.catches (seen_levels labels events own t st) t
  catches_not [] e = refl
  catches_not (l ∷ ls) e = ap (λ (b : Bool). b && (l.shield || not (seen (seen_levels labels events own t ls) t))) e

  -- it does if it is, and has a shield
  pub catches_shielded : (st : Stack) → true ≡ cancelled_for st → true ≡ own_shield st →
      true ≡ scopes.catches (seen_levels labels events own t st) t
  catches_shielded [] e f = f
  catches_shielded (l ∷ ls) e f = both (cancelled_for (l ∷ ls)) l.shield e f
    where
      both : (b s : Bool) → true ≡ b → true ≡ s → true ≡ (b && (s || not (seen (seen_levels labels events own t ls) t)))
      both b s e f = cc

  -- and else if nothing is seen in the scopes that enclose it
  pub catches_outer : (st : Stack) (u : Bool) → true ≡ cancelled_for st → u ≡ seen (seen_levels labels events own t (outer_levels st)) t →
      false ≡ own_shield st → not u ≡ scopes.catches (seen_levels labels events own t st) t
  catches_outer [] u e g f = absurd (let h : true ≡ false = e in cc)
  catches_outer (l ∷ ls) u e g f = both (cancelled_for (l ∷ ls)) l.shield u (seen (seen_levels labels events own t ls) t) e f g
    where
      both : (b s u v : Bool) → true ≡ b → false ≡ s → u ≡ v → not u ≡ (b && (s || not v))
      both b s u v e f g = cc

  module _ (tree : Tree) (owns : IsOwn tree) (id : ℕ) where
    -- an open scope is cancelled for the task by its from, or by its label
    pub cancelled_by : (st : Stack) → stack_of tree id ≡ Some st →
        cancelled_for st ≡ (is_reached (own_from st) t || (is_sought false (events id) && has_label_among (labels id) own))
    cancelled_by [] e = absurd (let f : None ≡ Some id = owns id [] e in cc)
    cancelled_by (l ∷ ls) e =
        reached_own (is_sought false (events l.label) && has_label_among (labels l.label) own) l.from t
        ∙ ap (λ (key : ℕ). is_reached l.from t || (is_sought false (events key) && has_label_among (labels key) own))
        (let f : Some l.label ≡ Some id = owns id (l ∷ ls) e in cc)

    -- what is seen in a scope
    abbrev pub seen_in : Option ℕ → Bool
    seen_in scope = seen (seen_levels labels events own t (outer_of tree scope)) t

    -- is by the scope itself
    seen_top : (top : Begins tree id) → seen_in (Some id)
        ≡ (cancelled_for (top.first ∷ top.outer) || (not top.first.shield && seen (seen_levels labels events own t top.outer) t))
    seen_top top =
        ap (λ (o : Option Stack). seen (seen_levels labels events own t (unwrap_or o [])) t) top.stack
        ∙ seen_first (record top.first {
          from = level_from (is_sought false (events top.first.label) && has_label_among (labels top.first.label) own) t top.first.from;
        })
        (seen_levels labels events own t top.outer) t

    -- which is cancelled,
    pub seen_here : IsOpen tree id → ForSome (stack_of tree id) (λ st. true ≡ cancelled_for st) → seen_in (Some id) ≡ true
    seen_here opened cancelled =
        let top = begins tree id owns opened in
        seen_top top ∙ one (cancelled_for (top.first ∷ top.outer)) _ (cancelled (top.first ∷ top.outer) top.stack)
      where
        one : (x y : Bool) → true ≡ x → (x || y) ≡ true
        one x y e = cc

    -- or is not, and hides what encloses it,
    pub seen_nowhere : IsOpen tree id → ForSome (stack_of tree id) (λ st. false ≡ cancelled_for st) →
        ForSome (stack_of tree id) (λ st. true ≡ own_shield st) → seen_in (Some id) ≡ false
    seen_nowhere opened cancelled shield =
        let top = begins tree id owns opened in
        seen_top top
        ∙ none (cancelled_for (top.first ∷ top.outer)) top.first.shield _ (cancelled (top.first ∷ top.outer) top.stack)
        (shield (top.first ∷ top.outer) top.stack)
      where
        none : (x y z : Bool) → false ≡ x → true ≡ y → (x || (not y && z)) ≡ false
        none x y z e f = cc

    -- or else by the one that encloses it
    pub seen_outwards : IsOpen tree id → (parent : Option ℕ) → ForSome (stack_of tree id) (λ st. false ≡ cancelled_for st) →
        ForSome (stack_of tree id) (λ st. false ≡ own_shield st) →
        ForSome (stack_of tree id) (λ st. outer_of tree parent ≡ outer_levels st) →
        seen_in (Some id) ≡ seen_in parent
    seen_outwards opened parent cancelled shield around =
        let top = begins tree id owns opened in
        seen_top top
        ∙ outer (cancelled_for (top.first ∷ top.outer)) top.first.shield top.outer (outer_of tree parent)
        (cancelled (top.first ∷ top.outer) top.stack) (shield (top.first ∷ top.outer) top.stack) (around (top.first ∷ top.outer) top.stack)
      where
        outer : (x y : Bool) (ls ms : Stack) → false ≡ x → false ≡ y → ms ≡ ls →
            (x || (not y && seen (seen_levels labels events own t ls) t)) ≡ seen (seen_levels labels events own t ms) t
        outer x y ls ms e f g = cc
