use Rattle.std.proofs.Common.{◌∙◌, sym, ap, is_some}
use Rattle.std.proofs.lemmas.Bool.Decides.{same_from_decides}
use Rattle.cancel_scopes.specs.Kept.{find_in, scope_in}
use Rattle.cancel_scopes.proofs.StackLemmas.{stack_seen, is_some-stack_at, is_some-find_in}
use Rattle.cancel_scopes.proofs.tree.ScopeTree.is_open.Goals as goal

pub returns : goal.returns
returns c =
    let slots = c.self.inside.store.scopes.slots in
    same_from_decides c.contains.result (is_some (scope_in slots c.id.inside.key)) (c.contains.ensures.0, c.contains.ensures.1)
    (λ h. h, λ h. h)
    ∙ sym (is_some-find_in slots c.id.inside.key)
    ∙ sym (is_some-stack_at (find_in slots) c.id.inside.key)
    ∙ sym (ap is_some (stack_seen c.args.self.now slots c.id.inside.key c.args.id c.self.view_is c.id.view_is))
