-- What a task did to limiters and channels is taken from the world, one act after the other.
use Rattle.std.proofs.Common.{◌≡◌, ℕ, List, [], ◌++◌, map, refl, ap, sym, ◌∙◌}
use Rattle.std.specs.Prelude.{All}
use Rattle.std.proofs.lemmas.List.{append-nil}
use Rattle.run_refinement.specs.Sharing.{round_act}
use Rattle.task_machine.specs.declared.serving.ObjectAct.{ObjectAct}
use Rattle.task_machine.specs.declared.world.World.{World}
use Rattle.job_runner.specs.declared.runner.Runner.{Runner}
use Rattle.job_runner.specs.Shared.{round_act_of}
use Rattle.job_runner.specs.Shelves.{IsActOf}
use Rattle.job_runner.specs.Steps.{TakesActs}

-- those kept, with those that are left, are those kept before with all that were done
pub record IsTakingActs (was now : Runner) (row : ℕ) : Type 0 where
  pub world : now.world ≡ record was.world { acts = now.world.acts }
  pub kept :
      map round_act_of now.round.items ++ map (round_act row) now.world.acts.items
      ≡ map round_act_of was.round.items ++ map (round_act row) was.world.acts.items
  pub lent : All (IsActOf was.input.now) was.round.items → All (IsActOf was.input.now) now.round.items
  pub rest : now ≡ record was { world = now.world; round = now.round }

pub taking_first : (r : Runner) (row : ℕ) → IsTakingActs r r row
taking_first r row = record { world = refl; kept = refl; lent = λ h. h; rest = refl }

-- once none is left, all are kept
pub taking_last : {was now : Runner} {row : ℕ} → IsTakingActs was now row → (w : World) → now.world.acts.items ≡ [] → w.acts.items ≡ [] →
    w ≡ record now.world { acts = w.acts } → TakesActs was (record now { world = w }) row
taking_last {was} {now} {row} h w over empty left =
    record {
      world = left ∙ ap (λ (x : World). record x { acts = w.acts }) h.world;
      none_left = empty;
      kept =
          sym (append-nil (map round_act_of now.round.items))
          ∙ ap (λ (xs : List ObjectAct). map round_act_of now.round.items ++ map (round_act row) xs) (sym over) ∙ h.kept;
      lent = h.lent;
      rest = ap (λ (x : Runner). record x { world = w }) h.rest;
    }
