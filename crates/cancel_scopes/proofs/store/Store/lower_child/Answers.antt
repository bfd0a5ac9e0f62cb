use Rattle.std.proofs.Common.{◌≡◌, ◌∙◌, Some, sym, ap, inl, inr, arith}
use Rattle.cancel_scopes.specs.Sight.{before}
use Rattle.cancel_scopes.specs.Kept.{scope_in, index_under}
use Rattle.cancel_scopes.specs.declared.store.Scope.{Scope}
use Rattle.cancel_scopes.proofs.WorkLemmas.{child_key, child-stays, child-lowered, lowers-along, lowers-work, scope_same, later_count}
use Rattle.cancel_scopes.proofs.store.Store.lower_child.Goals as goal

pub lower-requires-clause-lowered_room : goal.lower-requires-clause-lowered_room
lower-requires-clause-lowered_room c =
    let lowered = c.args.self.now.lowered in
    omega (
      arith,
      lowered.ok.0,
      c.requires.lowered_room,
      c.requires.state.room,
      later_count c.args.tick c.args.self.now.scopes.slots c.index-key.result.now c.index-scope.result.now c.index-scope.ensures
          (sym c.before-2.ensures ∙ c.if-before.true),
    )

pub returns-then-scope-clause-state : goal.returns-then-scope-clause-state
returns-then-scope-clause-state c =
    let slots = c.args.self.now.scopes.slots in
    let at : index_under c.args.parent (scope_in slots c.index-key.result.now) ≡ Some c.args.index =
    child_key slots c.args.parent c.args.index c.index-key.result.now c.index.result.now c.index.ensures c.requires.state.family
    c.requires.index c.index-key.ensures in
    child-stays c.args.tick c.args.parent c.args.index slots c.args.self.now.changed.items c.args.self.now.lowered.items
    c.index-key.result.now c.index-scope.result.now
    c.requires.state c.requires.parent at c.index-scope.ensures (inl c.if-scope.true)

pub returns-else-before-clause-state : goal.returns-else-before-clause-state
returns-else-before-clause-state c =
    let slots = c.args.self.now.scopes.slots in
    let at : index_under c.args.parent (scope_in slots c.index-key.result.now) ≡ Some c.args.index =
    child_key slots c.args.parent c.args.index c.index-key.result.now c.index.result.now c.index.ensures c.requires.state.family
    c.requires.index c.index-key.ensures in
    child-stays c.args.tick c.args.parent c.args.index slots c.args.self.now.changed.items c.args.self.now.lowered.items
    c.index-key.result.now c.index-scope.result.now
    c.requires.state c.requires.parent at c.index-scope.ensures (inr (sym c.before-2.ensures ∙ c.if-before.false))

pub returns-then-before-clause-state : goal.returns-then-before-clause-state
returns-then-before-clause-state c =
    let slots = c.args.self.now.scopes.slots in
    let key = c.index-key.result.now in
    let h = c.lower.ensures.lowers in
    let at : index_under c.args.parent (scope_in slots key) ≡ Some c.args.index =
    child_key slots c.args.parent c.args.index key c.index.result.now c.index.ensures c.requires.state.family c.requires.index
    c.index-key.ensures in
    let same : c.index-scope.result.now ≡ h.scope = scope_same slots key c.index-scope.result.now h.scope c.index-scope.ensures h.kept in
    rw c.lower.ensures.lowered
    (child-lowered c.args.tick c.args.parent c.args.index slots c.args.self.now.changed.items c.args.self.now.lowered.items key
    c.lower.new.self.scopes.slots c.lower.new.self.changed.items c.requires.state c.requires.parent at h
    (sym (ap (λ (s : Scope). s.shield) same) ∙ c.if-scope.false)
    (sym (ap (λ (s : Scope). before (Some c.args.tick) s.sight) same) ∙ sym c.before-2.ensures ∙ c.if-before.true)
    c.lower.ensures.listed)

pub returns-then-before-clause-along : goal.returns-then-before-clause-along
returns-then-before-clause-along c =
    let slots = c.args.self.now.scopes.slots in
    let key = c.index-key.result.now in
    let h = c.lower.ensures.lowers in
    let same : c.index-scope.result.now ≡ h.scope = scope_same slots key c.index-scope.result.now h.scope c.index-scope.ensures h.kept in
    lowers-along c.args.tick slots c.lower.new.self.scopes.slots key h
    (sym (ap (λ (s : Scope). before (Some c.args.tick) s.sight) same) ∙ sym c.before-2.ensures ∙ c.if-before.true)

pub returns-then-before-clause-work : goal.returns-then-before-clause-work
returns-then-before-clause-work c =
    let slots = c.args.self.now.scopes.slots in
    let key = c.index-key.result.now in
    let h = c.lower.ensures.lowers in
    let same : c.index-scope.result.now ≡ h.scope = scope_same slots key c.index-scope.result.now h.scope c.index-scope.ensures h.kept in
    rw c.lower.ensures.lowered
    (lowers-work c.args.tick slots c.lower.new.self.scopes.slots key c.args.self.now.lowered.items h
    (sym (ap (λ (s : Scope). before (Some c.args.tick) s.sight) same) ∙ sym c.before-2.ensures ∙ c.if-before.true))
