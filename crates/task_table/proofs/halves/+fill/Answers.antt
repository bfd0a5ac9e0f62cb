use Rattle.std.proofs.Common.{◌-◌, ◌∙◌, arith, ⊎_elim}
use Rattle.task_table.proofs.HalvesLemmas.{in_first, filled_tree, filled_all, above, half_of, inner_of}
use Rattle.task_table.proofs.halves.+fill.Goals as goal

pub in_first_of-in_first-requires : goal.in_first_of-in_first-requires
in_first_of-in_first-requires t c =
    let e = above c.args.depth c.if-depth-eq0.false in
    let half = half_of c.args.depth (c.args.depth - 1) _ e c.requires.shape in
    omega (arith, c.requires.room, inner_of c.args.depth (c.args.depth - 1) e, half)

pub fill-requires-2 : goal.fill-requires-2
fill-requires-2 t c =
    let e = above c.args.depth c.if-depth-eq0.false in
    let half = half_of c.args.depth (c.args.depth - 1) _ e c.requires.shape in
    let i = inner_of c.args.depth (c.args.depth - 1) e in
    let some = in_first (c.args.depth - 1) _ _ _ half c.in_first_of-in_first.ensures.most c.in_first_of-in_first.ensures.fits
    c.in_first_of-in_first.ensures.all in (
      omega (arith, c.decreases, e),
      (
        omega (
          arith,
          i,
          half,
          c.in-Some.ensures.cases.1,
          c.split_at_mut-first.ensures.back_len,
          c.split_at_mut-first.ensures.front_len,
          c.requires.shape,
        ),
        (
          ⊎_elim (λ full. omega (arith, full, i, c.requires.count)) (λ none. omega (arith, none)) some.all,
          omega (arith, c.requires.room, i),
        ),
      ),
    )

pub returns-clause-tree : goal.returns-clause-tree
returns-clause-tree t c =
    let e = above c.args.depth c.if-depth-eq0.false in
    let half = half_of c.args.depth (c.args.depth - 1) _ e c.requires.shape in
    let some = in_first (c.args.depth - 1) _ _ _ half c.in_first_of-in_first.ensures.most c.in_first_of-in_first.ensures.fits
    c.in_first_of-in_first.ensures.all in
    filled_tree c.args.depth (c.args.depth - 1) _ _ _ _ e (c.fill.auto.lefts ∙ c.split_at_mut-first.ensures.front_len ∙ half) some
    c.fill.ensures.tree c.fill-2.ensures.tree

pub returns-clause-all : goal.returns-clause-all
returns-clause-all t c =
    let e = above c.args.depth c.if-depth-eq0.false in
    let half = half_of c.args.depth (c.args.depth - 1) _ e c.requires.shape in
    let some = in_first (c.args.depth - 1) _ _ _ half c.in_first_of-in_first.ensures.most c.in_first_of-in_first.ensures.fits
    c.in_first_of-in_first.ensures.all in
    filled_all c.args.depth (c.args.depth - 1) _ _ _ _ e (c.fill.auto.lefts ∙ c.split_at_mut-first.ensures.front_len ∙ half) some
    c.fill.ensures.all c.fill-2.ensures.all
