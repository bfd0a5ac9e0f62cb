use Rattle.std.proofs.Common.{◌≡◌, ◌∷◌, ◌-◌, Bool, ap, ◌∙◌, rules, arith}
use Rattle.std.specs.List.{list_all}
use Rattle.job_layout.proofs.Counting.{inner_flags}
use Rattle.job_layout.proofs.layout.are_bare.Goals as goal

pub returns : goal.returns
returns c =
    let first = c.in-Some.field-0-0.now in
    let inner = c.in-Some.inner.now in
    let split : c.split_at.result.1.now ≡ first ∷ inner = search rules in
    let less : c.saturating_sub.result ≡ c.args.count - 1 = omega (arith, c.saturating_sub.ensures) in
    c.are_all_true.ensures ∙ ap (list_all (λ (b : Bool). b)) (c.split_at-2.ensures.front
    ∙ inner_flags c.args.bare.now c.split_at.result.1.now inner first c.args.before c.args.count c.min.result c.saturating_sub.result c.min-2.result
    c.min.ensures c.split_at.ensures.back split less c.min-2.ensures)
