-- The innermost scope of a name, going outwards.
use Rattle.std.proofs.Common.{◌≡◌, ℕ, ◌<◌, Bool, true, false, not, ◌&&◌, List, [], ◌∷◌, length, Option, Some, None, is_some, refl, sym, ap, ◌∙◌, arith}
use Rattle.std.specs.Option.{ForSome}
use Rattle.cancel_scopes.specs.Sight.{Tick, Level}
use Rattle.cancel_scopes.specs.Tree.{Stack, Tree, stack_of, outer_of, outer_levels, IsOpen, IsOwn}
use Rattle.task_machine.specs.Labels.{Labels, Events, is_named, is_sought, scope_named, home_key}

-- an open scope's stack begins with it
pub record Begins (tree : Tree) (id : ℕ) : Type 0 where
  pub first : Level ℕ
  pub outer : Stack
  pub stack : stack_of tree id ≡ Some (first ∷ outer)
  pub own : first.label ≡ id

pub begins : (tree : Tree) (id : ℕ) → IsOwn tree → IsOpen tree id → Begins tree id
begins tree id own whole = by_stack (stack_of tree id) refl
  where
    by_stack : (o : Option Stack) → stack_of tree id ≡ o → Begins tree id
    by_stack None is = absurd (let e : false ≡ true = sym (ap is_some is) ∙ whole in cc)
    by_stack (Some []) is = absurd (let e : None ≡ Some id = own id [] is in cc)
    by_stack (Some (l ∷ outer)) is =
        let e : Some l.label ≡ Some id = own id (l ∷ outer) is in
        record { first = l; outer = outer; stack = is; own = cc }

-- the scope is what is sought
pub found_here : (sought : Bool) (labels : Labels) (events : Events) (name : List ℕ) (tree : Tree) (id : ℕ) → IsOwn tree → IsOpen tree id →
    (is_sought sought (events id) && is_named name (labels id)) ≡ true →
    scope_named sought labels events name (outer_of tree (Some id)) ≡ Some id
found_here sought labels events name tree id own whole named =
    let b = begins tree id own whole in
    rw (b.stack, b.own, named) refl

-- it is not, and the search continues at its parent
pub found_outwards : (sought : Bool) (labels : Labels) (events : Events) (name : List ℕ) (tree : Tree) (id : ℕ) (parent : Option ℕ) →
    IsOwn tree → IsOpen tree id → (is_sought sought (events id) && is_named name (labels id)) ≡ false →
    ForSome (stack_of tree id) (λ stack. outer_of tree parent ≡ outer_levels stack) →
    scope_named sought labels events name (outer_of tree (Some id)) ≡ scope_named sought labels events name (outer_of tree parent)
found_outwards sought labels events name tree id parent own whole named around =
    let b = begins tree id own whole in
    let e : outer_of tree parent ≡ b.outer = around (b.first ∷ b.outer) b.stack in
    rw (e, b.stack, b.own, named) refl

-- the scope is no event
pub home_here : (events : Events) (tree : Tree) (id : ℕ) → IsOwn tree → IsOpen tree id → is_sought false (events id) ≡ true →
    home_key events (outer_of tree (Some id)) ≡ Some id
home_here events tree id own whole scope =
    let b = begins tree id own whole in
    rw (b.stack, b.own, scope) refl

-- it is an event, and the search continues at its parent
pub home_outwards : (events : Events) (tree : Tree) (id : ℕ) (parent : Option ℕ) → IsOwn tree → IsOpen tree id →
    is_sought false (events id) ≡ false → ForSome (stack_of tree id) (λ stack. outer_of tree parent ≡ outer_levels stack) →
    home_key events (outer_of tree (Some id)) ≡ home_key events (outer_of tree parent)
home_outwards events tree id parent own whole event around =
    let b = begins tree id own whole in
    let e : outer_of tree parent ≡ b.outer = around (b.first ∷ b.outer) b.stack in
    rw (e, b.stack, b.own, event) refl

-- what is no event
pub not_sought : (o : Option Tick) → is_sought false o ≡ not (is_sought true o)
not_sought None = refl
not_sought (Some set) = refl

-- which has a shorter stack
pub shorter : (tree : Tree) (id : ℕ) (parent : Option ℕ) → IsOwn tree → IsOpen tree id →
    ForSome (stack_of tree id) (λ stack. outer_of tree parent ≡ outer_levels stack) →
    length (outer_of tree parent) < length (outer_of tree (Some id))
shorter tree id parent own whole around =
    let b = begins tree id own whole in
    let e : outer_of tree parent ≡ b.outer = around (b.first ∷ b.outer) b.stack in
    rw (e, b.stack) (omega arith)
