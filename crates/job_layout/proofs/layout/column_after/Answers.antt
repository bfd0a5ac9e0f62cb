use Rattle.std.proofs.Common.{◌≡◌, ◌∷◌, [], List, length, sym, ap, ◌∙◌, refl, rules, arith}
use Rattle.std.proofs.lemmas.List.{nil_from_length}
use Rattle.job_tokens.specs.Canon.{token}
use Rattle.job_layout.specs.declared.spaced.SpacedToken.{SpacedToken}
use Rattle.job_layout.specs.Spaced.{column_after}
use Rattle.std.specs.Io.Iter.{u64_saturate}
use Rattle.job_layout.proofs.Counting.{capped_next}
use Rattle.job_layout.proofs.layout.column_after.Goals as goal

pub tokens-preserved : goal.tokens-preserved
tokens-preserved c =
    let first = c.in-Some.first.now in
    let others = c.in-Some.others.now in
    let split : c.tokens.rest.now ≡ first ∷ others = search rules in (
      capped_next c.tokens.end c.in_ok-end.end (length (token first.shape)) first others refl c.in_ok-end.ensures
          ∙ ap (λ (ts : List SpacedToken). u64_saturate (column_after c.tokens.end ts)) (sym split) ∙ c.tokens.invariant.0,
      omega (arith, c.in_ok-end.ensures),
    )

pub returns : goal.returns
returns c =
    let done : c.tokens.rest.now ≡ [] = nil_from_length c.tokens.rest.now (search rules) in
    sym c.tokens.invariant.1 ∙ ap (λ (ts : List SpacedToken). u64_saturate (column_after c.tokens.end ts)) (sym done) ∙ c.tokens.invariant.0
