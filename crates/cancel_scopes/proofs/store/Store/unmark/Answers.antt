use Rattle.std.proofs.Common.{◌∙◌, ◌<◌, ◌≤◌, ap, arith, length}
use Rattle.std.proofs.lemmas.List.{get_or_read}
use Rattle.cancel_scopes.specs.Kept.{index_of}
use Rattle.cancel_scopes.proofs.IndexLemmas.{removed}
use Rattle.cancel_scopes.proofs.MarkLemmas.{unmarked-last, unmarked-moved, unmarks-moved}
use Rattle.cancel_scopes.proofs.store.Store.unmark.Goals as goal

pub swap_remove-requires : goal.swap_remove-requires
swap_remove-requires c =
    let changed = c.args.self.now.changed in
    omega (arith, changed.ok.0, (c.requires.listed.indices.stands c.args.key c.in-Some.index (ap index_of c.index.ensures ∙ c.in-Some.is)).0)

pub returns-then-index-len-clause-marks : goal.returns-then-index-len-clause-marks
returns-then-index-len-clause-marks c =
    let changed = c.args.self.now.changed in
    let rest = c.swap_remove.new.self in
    let inside : c.in-Some.index < length rest.items = omega (arith, c.if-index-len.true, c.len.ensures, rest.ok.0) in
    unmarks-moved c.args.self.now.scopes.slots changed.items rest.items c.args.key c.in-Some.index c.index_mut-scope.result.now
    c.index-moved.result.now c.index_mut-scope-then-index-len.result.now
    c.index_mut-scope.ensures.value (ap index_of c.index.ensures ∙ c.in-Some.is)
    (removed changed.items rest.items c.in-Some.index _ _ changed.ok.0 rest.ok.0 c.swap_remove.ensures.len c.swap_remove.ensures.by_index.0
    c.swap_remove.ensures.by_index.1)
    inside (get_or_read rest.items c.in-Some.index _ inside c.index-moved.ensures 0) c.index_mut-scope-then-index-len.ensures.value
    c.requires.listed

pub returns-then-index-len-clause-listed : goal.returns-then-index-len-clause-listed
returns-then-index-len-clause-listed c =
    let changed = c.args.self.now.changed in
    let rest = c.swap_remove.new.self in
    let inside : c.in-Some.index < length rest.items = omega (arith, c.if-index-len.true, c.len.ensures, rest.ok.0) in
    unmarked-moved c.args.self.now.scopes.slots changed.items rest.items c.args.key c.in-Some.index c.index_mut-scope.result.now
    c.index-moved.result.now c.index_mut-scope-then-index-len.result.now
    c.index_mut-scope.ensures.value (ap index_of c.index.ensures ∙ c.in-Some.is)
    (removed changed.items rest.items c.in-Some.index _ _ changed.ok.0 rest.ok.0 c.swap_remove.ensures.len c.swap_remove.ensures.by_index.0
    c.swap_remove.ensures.by_index.1)
    inside (get_or_read rest.items c.in-Some.index _ inside c.index-moved.ensures 0) c.index_mut-scope-then-index-len.ensures.value
    c.requires.listed

pub returns-else-index-len-clause-listed : goal.returns-else-index-len-clause-listed
returns-else-index-len-clause-listed c =
    let changed = c.args.self.now.changed in
    let rest = c.swap_remove.new.self in
    let out : length rest.items ≤ c.in-Some.index = omega (arith, c.if-index-len.false, c.len.ensures, rest.ok.0) in
    unmarked-last c.args.self.now.scopes.slots changed.items rest.items c.args.key c.in-Some.index c.index_mut-scope.result.now
    c.index_mut-scope.ensures.value (ap index_of c.index.ensures ∙ c.in-Some.is)
    (removed changed.items rest.items c.in-Some.index _ _ changed.ok.0 rest.ok.0 c.swap_remove.ensures.len c.swap_remove.ensures.by_index.0
    c.swap_remove.ensures.by_index.1)
    out c.requires.listed
