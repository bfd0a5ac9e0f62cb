use Rattle.std.proofs.Common.{◌∙◌, None, is_some, sym, ap}
use Rattle.std.specs.Option.{option_map}
use Rattle.std.proofs.lemmas.List.{length-set}
use Rattle.cancel_scopes.specs.declared.store.Scope.{Scope}
use Rattle.cancel_scopes.specs.Tree.{own_from}
use Rattle.cancel_scopes.specs.Kept.{find_in, outline_of}
use Rattle.cancel_scopes.proofs.StackLemmas.{kept_where_open, kept_stack, stack_seen, found_at, is_some-find_in}
use Rattle.cancel_scopes.proofs.MarkLemmas.{same_find, same-tree, family-same}
use Rattle.cancel_scopes.proofs.LeaveLemmas.{lost}
use Rattle.cancel_scopes.proofs.CloseLemmas.{Closes, closes, childless, innermost_kept, tree_closed, closed-others}
use Rattle.cancel_scopes.proofs.ReadyLemmas.{closed-finds, closed-ready, closed-marks, closed-unmarked}
use Rattle.cancel_scopes.proofs.tree.ScopeTree.close.Goals as goal

pub unmark-requires-clause-kept : goal.unmark-requires-clause-kept
unmark-requires-clause-kept c =
    kept_where_open c.args.self.now c.self.inside.store.scopes.slots c.id.inside.key c.args.id c.self.view_is c.id.view_is c.requires.id

pub remove-scope-requires : goal.remove-scope-requires
remove-scope-requires c =
    sym (is_some-find_in c.unmark.new.self.scopes.slots c.id.inside.key)
    ∙ ap is_some (c.unmark.ensures.marks.same.finds c.id.inside.key)
    ∙ is_some-find_in c.self.inside.store.scopes.slots c.id.inside.key
    ∙ kept_where_open c.args.self.now c.self.inside.store.scopes.slots c.id.inside.key c.args.id c.self.view_is c.id.view_is c.requires.id

pub remove_child-requires : goal.remove_child-requires
remove_child-requires c =
    let slots = c.self.inside.store.scopes.slots in
    let unmarked = c.unmark.new.self.scopes.slots in
    let same = c.unmark.ensures.marks.same in
    let key = c.id.inside.key in
    let emptied = c.remove-scope.ensures in
    let tree = same-tree slots unmarked same.finds c.self.invariant.tree in
    let family = family-same slots unmarked same.indices same.children c.self.invariant.family in
    record {
      lost = rw c.key_of.ensures
          (lost unmarked c.remove-scope.new.self.slots key c.remove-scope.result tree family emptied.value emptied.updates.changed
          emptied.updates.others
          (childless unmarked key c.remove-scope.result tree family
          (innermost_kept c.args.self.now slots unmarked key c.args.id c.self.view_is c.id.view_is (same_find slots unmarked same.finds)
          c.requires.innermost) emptied.value));
    }

pub invariant_of-self : goal.invariant_of-self
invariant_of-self c =
    let slots = c.self.inside.store.scopes.slots in
    let unmarked = c.unmark.new.self.scopes.slots in
    let emptied = c.remove-scope.new.self.slots in
    let new = c.remove_child.new.self.scopes.slots in
    let marks = c.unmark.ensures.marks in
    let key = c.id.inside.key in
    let s : Scope = c.remove-scope.result in
    let removed = c.remove-scope.ensures in
    let child = c.remove_child.ensures in
    let closed : Closes (find_in slots) (find_in new) key (outline_of s) =
    closes c.args.self.now slots new key c.args.id (outline_of s) c.self.view_is c.id.view_is
    (sym (marks.same.finds key) ∙ found_at unmarked key s removed.value)
    (child.same.finds key ∙ ap (option_map outline_of) removed.updates.changed)
    (closed-finds slots unmarked emptied new key s marks removed.updates.others child.same) c.requires.innermost in
    rw (child.changed, child.lowered, c.unmark.ensures.room, c.unmark.ensures.lowered)
    (closed-ready slots unmarked emptied new key s c.self.inside.store.changed.items c.unmark.new.self.changed.items _ _ _
    c.self.invariant marks c.unmark.ensures.listed closed (rw removed.slots (length-set unmarked key None)) removed.updates.changed
    removed.updates.others child.same child.family)

pub returns-clause-closed : goal.returns-clause-closed
returns-clause-closed c =
    tree_closed c.remove_child.new.self.scopes.slots c.id.inside.key c.args.id c.id.view_is
    (c.remove_child.ensures.same.finds c.id.inside.key ∙ ap (option_map outline_of) c.remove-scope.ensures.updates.changed)

pub returns-clause-others : goal.returns-clause-others
returns-clause-others c =
    let slots = c.self.inside.store.scopes.slots in
    let unmarked = c.unmark.new.self.scopes.slots in
    let emptied = c.remove-scope.new.self.slots in
    let new = c.remove_child.new.self.scopes.slots in
    let marks = c.unmark.ensures.marks in
    let key = c.id.inside.key in
    let s : Scope = c.remove-scope.result in
    let removed = c.remove-scope.ensures in
    let child = c.remove_child.ensures in
    closed-others c.args.self.now slots new key c.args.id (outline_of s) c.self.view_is c.id.view_is
    (closes c.args.self.now slots new key c.args.id (outline_of s) c.self.view_is c.id.view_is
    (sym (marks.same.finds key) ∙ found_at unmarked key s removed.value)
    (child.same.finds key ∙ ap (option_map outline_of) removed.updates.changed)
    (closed-finds slots unmarked emptied new key s marks removed.updates.others child.same) c.requires.innermost)

pub returns-clause-from : goal.returns-clause-from
returns-clause-from c stack is =
    let slots = c.self.inside.store.scopes.slots in
    let unmarked = c.unmark.new.self.scopes.slots in
    let key = c.id.inside.key in
    let s : Scope = c.remove-scope.result in
    sym (ap own_from (kept_stack (find_in slots) key (outline_of s) stack
    (sym (c.unmark.ensures.marks.same.finds key) ∙ found_at unmarked key s c.remove-scope.ensures.value)
    (sym (stack_seen c.args.self.now slots key c.args.id c.self.view_is c.id.view_is) ∙ is)))

pub returns-clause-marks : goal.returns-clause-marks
returns-clause-marks c =
    closed-marks c.self.inside.store.scopes.slots c.unmark.new.self.scopes.slots c.remove-scope.new.self.slots
    c.remove_child.new.self.scopes.slots
    c.id.inside.key c.remove-scope.result c.args.self.now c.args.id c.self.view_is c.id.view_is
    c.unmark.ensures.marks c.remove-scope.ensures.updates.others c.remove_child.ensures.same

pub returns-clause-unmarked : goal.returns-clause-unmarked
returns-clause-unmarked c =
    closed-unmarked c.self.inside.store.scopes.slots c.unmark.new.self.scopes.slots c.remove-scope.new.self.slots
    c.remove_child.new.self.scopes.slots c.id.inside.key c.remove-scope.result
    c.args.id c.id.view_is c.remove-scope.ensures.updates.changed c.remove_child.ensures.same
