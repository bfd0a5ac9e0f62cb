use Rattle.race_text.proofs.Indices.{last_differ, last_same, none_differ}
use Rattle.race_text.proofs.meeting.differ_last.Goals as goal

pub returns-in_default-split_last : goal.returns-in_default-split_last
returns-in_default-split_last c = none_differ _ _ c.in_default-split_last.ensures.cases

pub returns-then-i-j : goal.returns-then-i-j
returns-then-i-j c =
    last_differ _ _ _ _ _ _ _ c.in-Some.ensures.cases.0 c.in-Some-split_last.ensures.cases.0 c.if-i-j.true c.eq.ensures

pub returns-else-i-j : goal.returns-else-i-j
returns-else-i-j c = last_same _ _ _ _ _ _ c.in-Some.ensures.cases.0 c.in-Some-split_last.ensures.cases.0 c.if-i-j.false
