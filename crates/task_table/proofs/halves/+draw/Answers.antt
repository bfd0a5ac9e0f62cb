use Rattle.std.proofs.Common.{◌-◌, ◌++◌, ◌∙◌, ap, arith}
use Rattle.task_table.proofs.HalvesLemmas.{drawn_first, drawn_last, tree_parts, above, half_of, inner_of}
use Rattle.task_table.proofs.halves.+draw.Goals as goal

pub draw-requires : goal.draw-requires
draw-requires t c =
    let e = above c.args.depth c.if-depth-eq0.false in
    let first = c.split_at_mut-first.ensures.front_len ∙ half_of c.args.depth (c.args.depth - 1) _ e c.requires.shape in
    let is = c.split_at_mut-first.ensures.value ∙ ap (λ xs. c.split_at_mut-first.result.0.now ++ xs) c.in-Some.ensures.cases.0 in
    let parts = tree_parts c.args.depth (c.args.depth - 1) _ _ _ _ _ e is first c.requires.tree in (
      omega (arith, c.decreases, e),
      (first, (parts.1, (c.if-k-in_first.true, omega (arith, c.requires.room, inner_of c.args.depth (c.args.depth - 1) e)))),
    )

pub draw-requires-else-k-in_first : goal.draw-requires-else-k-in_first
draw-requires-else-k-in_first t c =
    let e = above c.args.depth c.if-depth-eq0.false in
    let half = half_of c.args.depth (c.args.depth - 1) _ e c.requires.shape in
    let first = c.split_at_mut-first.ensures.front_len ∙ half in
    let is = c.split_at_mut-first.ensures.value ∙ ap (λ xs. c.split_at_mut-first.result.0.now ++ xs) c.in-Some.ensures.cases.0 in
    let parts = tree_parts c.args.depth (c.args.depth - 1) _ _ _ _ _ e is first c.requires.tree in
    let i = inner_of c.args.depth (c.args.depth - 1) e in (
      omega (arith, c.decreases, e),
      (
        omega (
          arith,
          i,
          first,
          c.in-Some.ensures.cases.1,
          c.split_at_mut-first.ensures.back_len,
          c.split_at_mut-first.ensures.front_len,
          c.requires.shape,
        ),
        (parts.2, (omega (arith, c.requires.k, c.if-k-in_first.false), omega (arith, c.requires.room, i, half))),
      ),
    )

pub returns-then-k-in_first : goal.returns-then-k-in_first
returns-then-k-in_first t c =
    let e = above c.args.depth c.if-depth-eq0.false in
    let first = c.split_at_mut-first.ensures.front_len ∙ half_of c.args.depth (c.args.depth - 1) _ e c.requires.shape in
    let is = c.split_at_mut-first.ensures.value ∙ ap (λ xs. c.split_at_mut-first.result.0.now ++ xs) c.in-Some.ensures.cases.0 in
    drawn_first c.args.depth (c.args.depth - 1) _ _ _ _ _ e is first c.requires.tree _ _ _ _ (c.draw.auto.lefts ∙ first)
    c.if-k-in_first.true c.draw.ensures

pub returns-else-k-in_first : goal.returns-else-k-in_first
returns-else-k-in_first t c =
    let e = above c.args.depth c.if-depth-eq0.false in
    let half = half_of c.args.depth (c.args.depth - 1) _ e c.requires.shape in
    let first = c.split_at_mut-first.ensures.front_len ∙ half in
    let is = c.split_at_mut-first.ensures.value ∙ ap (λ xs. c.split_at_mut-first.result.0.now ++ xs) c.in-Some.ensures.cases.0 in
    drawn_last c.args.depth (c.args.depth - 1) _ _ _ _ _ e is first c.requires.tree _ _ _ _ c.requires.k c.if-k-in_first.false
    (rw half at c.draw-else-k-in_first.ensures)
