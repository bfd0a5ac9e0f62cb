use Rattle.std.proofs.Common.{◌≡◌, ℕ, ◌+◌, ◌*◌, ◌≤◌, Fits, w16, map, slice_range, ap, ◌∙◌, arith}
use lib.Lanes.{sum_l}
use Rattle.std.proofs.lemmas.Simd.{Each1-weaker, sum_fits, fold-sum}
use Rattle.input_lines.specs.declared.newlines.TheConstants.{RUN}
use Rattle.input_lines.proofs.CountLemmas.{newlines}
use Rattle.input_lines.proofs.LaneLemmas.{added-low, added-fit, low-hits, lanes-next, same, lanes-sum-le}
use Rattle.input_lines.proofs.newlines.newlines_in_run.Goals as goal

pub overflow_add-lanes : goal.overflow_add-lanes
overflow_add-lanes c =
    added-fit c.blocks-2.seen c.blocks-2.lanes c.newline_lanes-lanes.result (omega arith) c.blocks-2.invariant.2
    (low-hits c.newline_lanes-lanes.result _ c.newline_lanes-lanes.ensures)

pub blocks-2-preserved : goal.blocks-2-preserved
blocks-2-preserved c =
    let keeps = c.blocks-2.invariant in
    let hits = c.newline_lanes-lanes.result in
    let next = lanes-next c.args.bytes.now c.args.at c.blocks-2.seen c.blocks-2.lanes hits (omega arith) keeps.1 keeps.3
    c.newline_lanes-lanes.ensures in
    (omega arith, next.0, added-low c.blocks-2.seen c.blocks-2.lanes hits keeps.2 (low-hits hits _ c.newline_lanes-lanes.ensures), next.1)

pub overflow_cast-result : goal.overflow_cast-result
overflow_cast-result c =
    let keeps = c.blocks-2.invariant in
    let few : c.blocks-2.seen ≤ 255 = keeps.0 in
    Each1-weaker (λ x. x ≤ c.blocks-2.seen) (Fits w16) (λ a le. record { fits = omega (arith, few, le) }) c.blocks-2.lanes keeps.2

pub overflow_add-result : goal.overflow_add-result
overflow_add-result c =
    let keeps = c.blocks-2.invariant in
    let le = lanes-sum-le c.blocks-2.seen c.blocks-2.lanes keeps.0 keeps.1 keeps.2 in
    sum_fits w16 0 (map (λ x. x) c.blocks-2.lanes) (omega (arith, le, ap sum_l (same c.blocks-2.lanes)))

none : (n : ℕ) → 0 + n ≡ n
none n = omega arith

pub returns : goal.returns
returns c =
    let keeps = c.blocks-2.invariant in
    let few : c.blocks-2.seen ≤ 255 = keeps.0 in
    let end : c.args.at + 64 * c.blocks-2.seen ≡ c.args.at + RUN = omega arith in
    fold-sum 0 (map (λ x. x) c.blocks-2.lanes) ∙ none (sum_l (map (λ x. x) c.blocks-2.lanes)) ∙ ap sum_l (same c.blocks-2.lanes) ∙ keeps.3
    ∙ ap (λ n. newlines (slice_range c.args.bytes.now c.args.at n)) end
