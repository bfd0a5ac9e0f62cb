use Rattle.std.proofs.Common.{◌++◌, codes, ap, sym, ◌∙◌}
use Rattle.std.proofs.lemmas.List.{length-map}
use Rattle.outcomes.specs.Table.{more_text}
use Rattle.outcomes.proofs.Joined.{extended, two, with_count, last}
use Rattle.outcomes.specs.Sweeps.{values_text}
use Rattle.outcomes.specs.SweepViews.{value_held}
use Rattle.outcomes.proofs.sweep_counts.push_counts.Goals as goal

pub returns : goal.returns
returns c =
    let values = c.in_ok-push_values.ensures ∙ ap (λ n. c.args.out.now.items ++ values_text n) (sym (length-map c.args.values.now value_held)) in
    let stuck = with_count _ _ _ _ _ _ _ values c.stuck_in.ensures c.in_ok-push_count.ensures in
    let cut = with_count _ _ _ _ _ _ _ stuck c.cut_in.ensures c.in_ok-push_count-2.ensures in
    let refused = two _ _ _ _ _ cut
    (c.in_ok-push_more.ensures ∙ ap (λ n. c.push_count-2.new.out.items ++ more_text n (codes " refused")) c.refused_in.ensures) in
    last c.extend_from_slice.result _ _ _ _ _ refused (extended c.extend_from_slice.result _ _ _ c.extend_from_slice.ensures.items)
