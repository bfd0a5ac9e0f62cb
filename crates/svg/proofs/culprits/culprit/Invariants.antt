use Rattle.std.proofs.Common.{◌≡◌, map}
use Rattle.std.specs.Option.{option_map}
use Rattle.story_index.specs.Found.{cause_in_code}
use Rattle.chart.specs.HeldBars.{bar_of}
use Rattle.svg.specs.Arrows.{culprit}
use Rattle.svg.specs.Held.{sheet_held}
use Rattle.svg.proofs.culprits.culprit.Given as goal

abbrev pub invariant-steps : goal.invariant-steps
invariant-steps l =
    culprit (sheet_held l.scene.sheet.now) (map bar_of l.scene.bars.now) l.left (option_map cause_in_code l.behind)
    ≡ culprit (sheet_held l.scene.sheet.now) (map bar_of l.scene.bars.now) l.steps (option_map cause_in_code l.fn.cause)

abbrev pub decreases-steps : goal.decreases-steps
decreases-steps l = l.left
