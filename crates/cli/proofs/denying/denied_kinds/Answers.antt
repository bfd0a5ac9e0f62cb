use Rattle.cli.proofs.DenyLemmas.{denies, spells, spells_none}
use Rattle.cli.proofs.denying.denied_kinds.Goals as goal

pub returns-then-not-are_kinds : goal.returns-then-not-are_kinds
returns-then-not-are_kinds c = λ refused. spells_none c.args.names.now c.in_ok-words.words.items c.as_slice.result.now c.is_empty.result
    c.are_kinds.result c.is_empty.ensures c.if-is_empty.false c.in_ok-words.ensures c.as_slice.ensures.value c.are_kinds.ensures
    c.if-not-are_kinds.true

pub returns : goal.returns
returns c = spells c.args.names.now c.denied_among.result
    (denies c.args.names.now c.in_ok-words.words.items c.as_slice.result.now c.as_slice-2.result.now c.are_kinds.result
    c.denied_among.result c.in_ok-words.ensures c.as_slice.ensures.value c.as_slice-2.ensures.value c.are_kinds.ensures
    c.if-not-are_kinds.false c.denied_among.ensures)
