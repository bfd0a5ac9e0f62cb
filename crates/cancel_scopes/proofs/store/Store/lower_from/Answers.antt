use Rattle.std.proofs.Common.{◌≡◌, ◌∙◌, ◌++◌, ◌∷◌, [], ℕ, List, Some, sym, ap, subst, arith}
use Rattle.std.proofs.lemmas.List.{nil_from_length}
use Rattle.cancel_scopes.specs.Sight.{before}
use Rattle.cancel_scopes.specs.Lowering.{Lowering, below}
use Rattle.cancel_scopes.specs.declared.store.Scope.{Scope}
use Rattle.cancel_scopes.proofs.WorkLemmas.{along-none, along-then, lowers-along, scope_same, all_done}
use Rattle.cancel_scopes.proofs.SlotLemmas.{key_within}
use Rattle.cancel_scopes.proofs.StartLemmas.{starts-lowered, starts-stays}
use Rattle.cancel_scopes.proofs.store.Store.lower_from.Goals as goal

pub returns-then-not-before-clause-right : goal.returns-then-not-before-clause-right
returns-then-not-before-clause-right c =
    all_done c.args.tick c.args.self.now.scopes.slots c.args.self.now.changed.items
    (starts-stays c.args.tick c.args.key c.args.self.now.scopes.slots c.args.self.now.changed.items c.index.result.now c.requires.starts
    c.index.ensures
    (sym c.before-2.ensures ∙ c.if-not-before.true))

pub returns-then-not-before-clause-along : goal.returns-then-not-before-clause-along
returns-then-not-before-clause-along c = along-none c.args.tick c.args.self.now.scopes.slots

pub lower-requires-clause-lowered_room : goal.lower-requires-clause-lowered_room
lower-requires-clause-lowered_room c =
    omega (
      arith,
      c.requires.none_lowered,
      c.requires.lowered_room,
      key_within c.args.self.now.scopes.slots c.args.key c.index.result.now c.index.ensures,
    )

pub lower_below-requires-clause-state : goal.lower_below-requires-clause-state
lower_below-requires-clause-state c =
    let h = c.lower.ensures.lowers in
    let same : c.index.result.now ≡ h.scope =
    scope_same c.args.self.now.scopes.slots c.args.key c.index.result.now h.scope c.index.ensures h.kept in
    let none : c.args.self.now.lowered.items ≡ [] =
    nil_from_length c.args.self.now.lowered.items (omega (arith, c.args.self.now.lowered.ok.0, c.requires.none_lowered)) in
    let is : c.lower.new.self.lowered.items ≡ [] ++ c.args.key ∷ [] =
    c.lower.ensures.lowered ∙ ap (λ (l : List ℕ). l ++ c.args.key ∷ []) none in
    subst (λ (l : List ℕ). Lowering c.args.tick (below l) c.lower.new.self.scopes.slots c.lower.new.self.changed.items l) (sym is)
    (starts-lowered c.args.tick c.args.key c.args.self.now.scopes.slots c.args.self.now.changed.items c.lower.new.self.scopes.slots
    c.lower.new.self.changed.items c.requires.starts h
    (sym (ap (λ (s : Scope). before (Some c.args.tick) s.sight) same) ∙ sym c.before-2.ensures ∙ c.if-not-before.false)
    c.lower.ensures.listed)

pub returns-clause-along : goal.returns-clause-along
returns-clause-along c =
    let h = c.lower.ensures.lowers in
    let same : c.index.result.now ≡ h.scope =
    scope_same c.args.self.now.scopes.slots c.args.key c.index.result.now h.scope c.index.ensures h.kept in
    along-then c.args.tick c.args.self.now.scopes.slots c.lower.new.self.scopes.slots c.lower_below.new.self.scopes.slots
    (lowers-along c.args.tick c.args.self.now.scopes.slots c.lower.new.self.scopes.slots c.args.key h
    (sym (ap (λ (s : Scope). before (Some c.args.tick) s.sight) same) ∙ sym c.before-2.ensures ∙ c.if-not-before.false))
    c.lower_below.ensures.along
