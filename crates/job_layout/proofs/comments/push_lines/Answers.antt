use Rattle.std.proofs.Common.{◌≡◌, ◌∷◌, rules, arith}
use Rattle.job_layout.proofs.Printing.{after_shorter, line_next}
use Rattle.job_layout.proofs.comments.push_lines.Goals as goal

pub bytes-smaller : goal.bytes-smaller
bytes-smaller c =
    let first = c.in-Some.first.now in
    let others = c.in-Some.others.now in
    let split : c.bytes.rest.now ≡ first ∷ others = search rules in
    let is : first ≡ 35 = omega (arith, c.if-first-ne35.false) in
    after_shorter first c.bytes.rest.now others c.split_line.result.1.now split is c.split_line.ensures.rest

pub bytes-preserved : goal.bytes-preserved
bytes-preserved c =
    let first = c.in-Some.first.now in
    let others = c.in-Some.others.now in
    let split : c.bytes.rest.now ≡ first ∷ others = search rules in
    let is : first ≡ 35 = omega (arith, c.if-first-ne35.false) in
    line_next first c.bytes.rest.now others c.split_line.result.0.now
    c.split_line.result.1.now c.bytes.out.items c.extend_from_slice.new.self.items c.push.new.self.items _ split is
    c.split_line.ensures.line c.split_line.ensures.rest c.in_ok-extend_from_slice.ensures.items c.in_ok-push.ensures.items c.bytes.invariant
