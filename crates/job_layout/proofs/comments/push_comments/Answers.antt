use Rattle.std.proofs.Common.{◌≡◌, ◌∷◌, rules, arith}
use Rattle.job_layout.specs.Columns.{line_level}
use Rattle.job_layout.proofs.Printing.{after_shorter, comment_next}
use Rattle.job_layout.proofs.comments.push_comments.Goals as goal

pub bytes-smaller : goal.bytes-smaller
bytes-smaller c =
    let first = c.in-Some.first.now in
    let others = c.in-Some.others.now in
    let split : c.bytes.rest.now ≡ first ∷ others = search rules in
    let t = c.if-first-ne35.false in
    let is : first ≡ 35 = omega (arith, c.if-first-ne35.false) in
    after_shorter first c.bytes.rest.now others c.split_line.result.1.now split is c.split_line.ensures.rest

pub bytes-preserved : goal.bytes-preserved
bytes-preserved c =
    let first = c.in-Some.first.now in
    let others = c.in-Some.others.now in
    let split : c.bytes.rest.now ≡ first ∷ others = search rules in
    let is : first ≡ 35 = omega (arith, c.if-first-ne35.false) in
    comment_next (line_level c.args.level c.args.deeper) c.bytes.alone first c.bytes.rest.now others c.split_line.result.0.now
    c.split_line.result.1.now c.bytes.out.items c.push_lead.new.out.items c.extend_from_slice.new.self.items _ split is
    c.split_line.ensures.line c.split_line.ensures.rest c.in_ok-push_lead.ensures c.in_ok-extend_from_slice.ensures.items c.bytes.invariant
