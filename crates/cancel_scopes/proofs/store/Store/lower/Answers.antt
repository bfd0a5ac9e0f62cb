use Rattle.std.proofs.Common.{◌≡◌, ◌∙◌, Some, slice_set, sym, ap, refl, subst}
use Rattle.slab.specs.Slab.{Slab}
use Rattle.cancel_scopes.specs.Kept.{Slots, scope_in, IsListed}
use Rattle.cancel_scopes.specs.declared.store.Scope.{Scope}
use Rattle.cancel_scopes.proofs.MarkLemmas.{lists-listed}
use Rattle.cancel_scopes.proofs.store.Store.lower.Goals as goal

pub returns-clause-lowers : goal.returns-clause-lowers
returns-clause-lowers c =
    let s : Scope = c.index_mut-scope.result.now in
    let same : c.index_in_list-index.new.self.scopes.slots ≡ c.args.self.now.scopes.slots =
    ap (λ (sc : Slab Scope). sc.slots) c.index_in_list-index.ensures.scopes in
    record {
      scope = s;
      index = c.index_in_list-index.result;
      kept = sym (ap (λ (l : Slots). scope_in l c.args.key) same) ∙ c.index_mut-scope.ensures.value;
      written = ap (λ (l : Slots). slice_set l c.args.key
          (Some (record s { sight = Some c.args.tick; listed = Some c.index_in_list-index.result }))) same;
    }

pub returns-clause-listed : goal.returns-clause-listed
returns-clause-listed c =
    let s : Scope = c.index_mut-scope.result.now in
    let same : c.index_in_list-index.new.self.scopes.slots ≡ c.args.self.now.scopes.slots =
    ap (λ (sc : Slab Scope). sc.slots) c.index_in_list-index.ensures.scopes in
    let after : Scope = record s { sight = Some c.args.tick; listed = Some c.index_in_list-index.result } in
    subst (λ (l : Slots). IsListed (slice_set l c.args.key (Some after)) c.index_in_list-index.new.self.changed.items) (sym same)
    (lists-listed c.args.self.now.scopes.slots c.args.self.now.changed.items c.index_in_list-index.new.self.changed.items c.args.key
    c.index_in_list-index.result s after
    (sym (ap (λ (l : Slots). scope_in l c.args.key) same) ∙ c.index_mut-scope.ensures.value) c.index_in_list-index.ensures.lists refl
    c.requires.listed)
