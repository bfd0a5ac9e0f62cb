use Rattle.std.proofs.Common.{◌<◌, ◌≤◌, length, Some, refl, subst, arith}
use Rattle.std.proofs.lemmas.List.{get_or_read}
use Rattle.cancel_scopes.specs.Children.{Lost}
use Rattle.cancel_scopes.proofs.IndexLemmas.{removed}
use Rattle.cancel_scopes.proofs.LeaveLemmas.{left-none, index_within, left-last, moved_kept, left-outlines, left-moved}
use Rattle.cancel_scopes.proofs.store.Store.remove_child.Goals as goal

pub returns-in_default-clause-family : goal.returns-in_default-clause-family
returns-in_default-clause-family c =
    let slots = c.args.self.now.scopes.slots in
    left-none slots c.args.index (subst (λ o. Lost slots o c.args.index) c.in_default.is c.requires.lost)

pub swap_remove-requires : goal.swap_remove-requires
swap_remove-requires c =
    let slots = c.args.self.now.scopes.slots in
    let s = c.index_mut-scope.result.now in
    let lost : Lost slots (Some c.in-Some.parent) c.args.index = subst (λ o. Lost slots o c.args.index) c.in-Some.is c.requires.lost in
    omega (arith, s.children.ok.0, index_within slots c.in-Some.parent c.args.index s s.children.items lost c.index_mut-scope.ensures.value)

pub index_mut-scope-requires-then-index-len : goal.index_mut-scope-requires-then-index-len
index_mut-scope-requires-then-index-len c =
    let slots = c.args.self.now.scopes.slots in
    let s = c.index_mut-scope.result.now in
    let rest = c.swap_remove.new.self in
    let lost : Lost slots (Some c.in-Some.parent) c.args.index = subst (λ o. Lost slots o c.args.index) c.in-Some.is c.requires.lost in
    let inside : c.args.index < length rest.items = omega (arith, c.if-index-len.true, c.len.ensures, rest.ok.0) in
    moved_kept slots c.in-Some.parent c.args.index s rest.items _ c.index-moved.result.now lost c.index_mut-scope.ensures.value
    (removed s.children.items rest.items c.args.index _ _ s.children.ok.0 rest.ok.0 c.swap_remove.ensures.len
    c.swap_remove.ensures.by_index.0 c.swap_remove.ensures.by_index.1)
    refl refl inside (get_or_read rest.items c.args.index _ inside c.index-moved.ensures 0)

pub returns-then-index-len-clause-same : goal.returns-then-index-len-clause-same
returns-then-index-len-clause-same c =
    let slots = c.args.self.now.scopes.slots in
    let s = c.index_mut-scope.result.now in
    let rest = c.swap_remove.new.self in
    left-outlines slots c.in-Some.parent c.args.index s rest.items _ c.index-moved.result.now c.index_mut-scope-then-index-len.result.now
    c.index_mut-scope.ensures.value refl refl refl c.index_mut-scope-then-index-len.ensures.value

pub returns-then-index-len-clause-family : goal.returns-then-index-len-clause-family
returns-then-index-len-clause-family c =
    let slots = c.args.self.now.scopes.slots in
    let s = c.index_mut-scope.result.now in
    let rest = c.swap_remove.new.self in
    let lost : Lost slots (Some c.in-Some.parent) c.args.index = subst (λ o. Lost slots o c.args.index) c.in-Some.is c.requires.lost in
    let inside : c.args.index < length rest.items = omega (arith, c.if-index-len.true, c.len.ensures, rest.ok.0) in
    left-moved slots c.in-Some.parent c.args.index s rest.items _ c.index-moved.result.now c.index_mut-scope-then-index-len.result.now
    lost c.index_mut-scope.ensures.value
    (removed s.children.items rest.items c.args.index _ _ s.children.ok.0 rest.ok.0 c.swap_remove.ensures.len
    c.swap_remove.ensures.by_index.0 c.swap_remove.ensures.by_index.1)
    refl refl refl inside (get_or_read rest.items c.args.index _ inside c.index-moved.ensures 0)
    c.index_mut-scope-then-index-len.ensures.value

pub returns-else-index-len-clause-family : goal.returns-else-index-len-clause-family
returns-else-index-len-clause-family c =
    let slots = c.args.self.now.scopes.slots in
    let s = c.index_mut-scope.result.now in
    let rest = c.swap_remove.new.self in
    let lost : Lost slots (Some c.in-Some.parent) c.args.index = subst (λ o. Lost slots o c.args.index) c.in-Some.is c.requires.lost in
    let out : length rest.items ≤ c.args.index = omega (arith, c.if-index-len.false, c.len.ensures, rest.ok.0) in
    left-last slots c.in-Some.parent c.args.index s rest.items _ lost c.index_mut-scope.ensures.value
    (removed s.children.items rest.items c.args.index _ _ s.children.ok.0 rest.ok.0 c.swap_remove.ensures.len
    c.swap_remove.ensures.by_index.0 c.swap_remove.ensures.by_index.1)
    refl refl refl out
