-- A text that spells a job is compared with its formatted text.
use Rattle.std.proofs.Common.{◌≡◌, ℕ, List, Option, Some, None, refl, sym, ap, subst, ◌∙◌}
use Rattle.job_layout.specs.Faults.{IsFormatted}
use Rattle.job_layout.specs.Layout.{formatted_text}
use Rattle.commands.specs.declared.format_verdict.FormatCheck.{FormatCheck}
use Rattle.commands.specs.Formats.{IsCheck, check_by_place, comparison, difference}

-- the comparison with bytes that are the formatted text of a text is the result of its check
pub is_compared : (text bytes slice : List ℕ) (check : FormatCheck) → IsFormatted text bytes → slice ≡ bytes → check ≡ comparison text slice →
    IsCheck text check
is_compared text bytes slice check formatted same is = subst (IsCheck text) (sym is) (by_place (difference text slice) refl)
  where
    whole : comparison text slice ≡ comparison text (formatted_text text formatted.job)
    whole = ap (comparison text) (same ∙ formatted.same)

    by_place : (place : Option ℕ) → difference text slice ≡ place → IsCheck text (check_by_place place)
    by_place None e = (formatted.job, formatted.spelled, ap check_by_place (sym e) ∙ whole)
    by_place (Some at) e = (formatted.job, formatted.spelled, ap check_by_place (sym e) ∙ whole)
