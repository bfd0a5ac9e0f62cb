use Rattle.std.proofs.Common.{◌≡◌, ◌∷◌, [], rules}
use Rattle.std.proofs.lemmas.List.{nil_from_length}
use Rattle.job_layout.proofs.Printing.{some_comment, no_comment}
use Rattle.job_layout.proofs.comments.is_bare.Goals as goal

pub returns-then-first-eq35 : goal.returns-then-first-eq35
returns-then-first-eq35 c =
    let first = c.in-Some.first.now in
    let others = c.in-Some.others.now in
    let split : c.bytes.rest.now ≡ first ∷ others = search rules in
    some_comment first c.bytes.rest.now others c.args.separator.now split c.if-first-eq35.true c.bytes.invariant

pub returns : goal.returns
returns c =
    let done : c.bytes.rest.now ≡ [] = nil_from_length c.bytes.rest.now (search rules) in
    no_comment c.bytes.rest.now c.args.separator.now done c.bytes.invariant
