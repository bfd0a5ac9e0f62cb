use Rattle.std.proofs.Common.{ap, ◌∙◌}
use Rattle.task_table.specs.Places.{PlacesLeft}
use Rattle.task_table.proofs.PlaceLemmas.{last_left}
use Rattle.task_table.proofs.places.Places.take_last.Goals as goal

pub returns-clause-place : goal.returns-clause-place
returns-clause-place c =
    let p = c.self.inside in
    let uncounted = ap (λ (v : PlacesLeft). v.counted) c.self.view_is ∙ c.requires.uncounted in
    let view = ap (λ (v : PlacesLeft). v.left) c.self.view_is in
    (last_left c.args.self.now p.counted p.depth p.span p.first _ p.left uncounted view c.requires.some).place

pub returns-clause-rest : goal.returns-clause-rest
returns-clause-rest c =
    let p = c.self.inside in
    let uncounted = ap (λ (v : PlacesLeft). v.counted) c.self.view_is ∙ c.requires.uncounted in
    let view = ap (λ (v : PlacesLeft). v.left) c.self.view_is in
    (last_left c.args.self.now p.counted p.depth p.span p.first _ p.left uncounted view c.requires.some).rest_is
