-- What several steps need together.
use Rattle.std.proofs.Common.{◌≡◌, List, [], ◌∷◌, length, refl, sym, ap, ◌∙◌, arith}
use Rattle.std.proofs.Math.Bool.{or_assoc, or-false}
use Rattle.job_tree.specs.Blocks.{step_of, steps_of}
use Rattle.job_tree.specs.declared.step.Step.{Step}
use Rattle.trio_text.specs.declared.uses.Uses.{Uses}
use Rattle.trio_text.specs.Needs.{no_uses, any_use, uses_of, uses_in}

pub any_use_assoc : (a b d : Uses) → any_use (any_use a b) d ≡ any_use a (any_use b d)
unfolding any_use
any_use_assoc a b d =
    rw (
      or_assoc a.handling b.handling d.handling,
      or_assoc a.acquire b.acquire d.acquire,
      or_assoc a.channel b.channel d.channel,
      or_assoc a.pace b.pace d.pace,
      or_assoc a.find b.find d.find,
      or_assoc a.head b.head d.head,
      or_assoc a.longest b.longest d.longest,
      or_assoc a.need b.need d.need,
      or_assoc a.over b.over d.over,
      or_assoc a.start b.start d.start,
    ) refl

any_use_none : (a : Uses) → any_use a no_uses ≡ a
unfolding any_use
any_use_none a =
    rw (
      or-false a.handling,
      or-false a.acquire,
      or-false a.channel,
      or-false a.pace,
      or-false a.find,
      or-false a.head,
      or-false a.longest,
      or-false a.need,
      or-false a.over,
      or-false a.start,
    ) refl

-- Before the first step nothing is needed.
pub uses_first : (u : Uses) → any_use no_uses u ≡ u
unfolding any_use
uses_first u = refl

-- After one more step.
pub uses_more : (rest : List Step) (first : Step) (others : List Step) (so_far all : Uses) → rest ≡ first ∷ others →
    any_use so_far (uses_of (steps_of rest)) ≡ all → any_use (any_use so_far (uses_in (step_of first))) (uses_of (steps_of others)) ≡ all
uses_more rest first others so_far all is before =
    any_use_assoc so_far (uses_in (step_of first)) (uses_of (steps_of others))
    ∙ ap (λ (steps : List Step). any_use so_far (uses_of (steps_of steps))) (sym is) ∙ before

-- After the last step.
pub uses_last : (rest : List Step) (so_far all : Uses) → length rest ≡ 0 → any_use so_far (uses_of (steps_of rest)) ≡ all → so_far ≡ all
uses_last [] so_far all none is = sym (any_use_none so_far) ∙ is
uses_last (s ∷ ss) so_far all none is = absurd (omega arith)
