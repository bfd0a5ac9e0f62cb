use Rattle.std.proofs.Common.{arith}
use Rattle.expect_text.proofs.PartsLemmas.{found_end, front_lacks, is_cut, none_until, parts_at, parts_ended, parts_whole}
use Rattle.expect_text.proofs.parts.split_once.Goals as goal

pub returns-in-Some-clause-bytes : goal.returns-in-Some-clause-bytes
returns-in-Some-clause-bytes c =
    let found = c.in-Some.ensures in
    let within = found.0.high in
    let none = none_until c.args.separator c.args.text.now c.in-Some.at found.0.before in
    rw (c.split_at.ensures.front, c.split_at-in-Some.ensures.back) (
      is_cut c.args.separator c.args.text.now c.in-Some.at within (found_end c.args.separator c.args.text.now c.in-Some.at found.1),
      front_lacks c.args.separator c.args.text.now c.in-Some.at (omega (arith, within)) none,
    )

pub returns-in-Some-clause-parts : goal.returns-in-Some-clause-parts
returns-in-Some-clause-parts c =
    let found = c.in-Some.ensures in
    let within = found.0.high in
    let none = none_until c.args.separator c.args.text.now c.in-Some.at found.0.before in
    let is = found_end c.args.separator c.args.text.now c.in-Some.at found.1 in (
      (λ last. rw (c.split_at.ensures.front, c.split_at-in-Some.ensures.back) (parts_at last c.args.separator c.args.text.now c.in-Some.at within none is)),
      omega (arith, within, c.split_at-in-Some.ensures.back_len),
    )

pub returns-in-None-clause-bytes : goal.returns-in-None-clause-bytes
returns-in-None-clause-bytes c = none_until c.args.separator c.args.text.now _ c.in-None.ensures

pub returns-in-None-clause-parts : goal.returns-in-None-clause-parts
returns-in-None-clause-parts c =
    let none = none_until c.args.separator c.args.text.now _ c.in-None.ensures in
    (parts_whole c.args.separator c.args.text.now none, λ some. parts_ended c.args.separator c.args.text.now none some)
