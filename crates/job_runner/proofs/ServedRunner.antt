-- A runner whose limiters and channels serve the acts of a moment.
use Rattle.std.proofs.Common.{◌≡◌, List, [], ◌∷◌, map, refl, ap, ◌∙◌, subst}
use Rattle.std.specs.Prelude.{All}
use Rattle.std.proofs.lemmas.List.Elements.{All-head, All-tail}
use Rattle.objects.specs.declared.given.Given.{Given}
use Rattle.run_refinement.specs.Sharing.{waits_in}
use Rattle.task_table.specs.TaskTable.{task_of}
use Rattle.job_runner.specs.declared.runner.Runner.{Runner}
use Rattle.job_runner.specs.declared.serving.PlacedAct.{PlacedAct}
use Rattle.job_runner.specs.Serving.{act_of_placed, ServesAct, ServesActs, StayLent}
use Rattle.job_runner.specs.Shelves.{IsActOf}
use Rattle.job_runner.proofs.Served.{AreServing, serving_first, serving_last, serving_next}

pub record IsServing (was now : Runner) (all left : List PlacedAct) (given : List Given) : Type 0 where
  pub serving : AreServing (waits_in (task_of was.task_table)) was.world.tick was.objects now.objects (map act_of_placed all) (map act_of_placed left) given
  pub lent : All (IsActOf was.input.now) (map act_of_placed all) → All (IsActOf was.input.now) (map act_of_placed left)
  pub parts : All (IsActOf was.input.now) (map act_of_placed all) → StayLent was.input.now was.objects now.objects [] given
  pub rest : now ≡ record was { objects = now.objects }

start : (r : Runner) (all : List PlacedAct) → IsServing r r all all []
start r all = record {
  serving = serving_first (waits_in (task_of r.task_table)) r.world.tick r.objects (map act_of_placed all);
  lent = λ h. h;
  parts = λ h held given. (held, given);
  rest = refl;
}

pub is_serving_first : (r : Runner) (all left : List PlacedAct) (given : List Given) → left ≡ all → given ≡ [] → IsServing r r all left given
is_serving_first r all left given same none = rw (same, none) (start r all)

pub is_serving_next : {was now next : Runner} {all left rest : List PlacedAct} {given more : List Given} (placed : PlacedAct) →
    IsServing was now all left given → left ≡ placed ∷ rest →
    ServesAct (waits_in (task_of now.task_table)) now.world.tick now.objects next.objects placed.act given more →
    (IsActOf now.input.now placed.act → StayLent now.input.now now.objects next.objects given more) →
    next ≡ record now { objects = next.objects } → IsServing was next all rest more
is_serving_next {was} {now} {next} {all} {left} {rest} {given} {more} placed h first serves stays only =
    record {
      serving =
          serving_next (waits_in (task_of was.task_table)) was.world.tick now.objects next.objects placed.act (map act_of_placed rest) given more
          (subst (λ (x : Runner). ServesAct (waits_in (task_of x.task_table)) x.world.tick now.objects next.objects placed.act given more) h.rest serves)
          (subst (λ (ps : List PlacedAct). AreServing (waits_in (task_of was.task_table)) was.world.tick was.objects now.objects (map act_of_placed all)
          (map act_of_placed ps) given) first h.serving);
      lent = λ all_of. All-tail (IsActOf was.input.now) placed.act (map act_of_placed rest) (these all_of);
      parts = λ all_of held none.
          let before = h.parts all_of held none in
          subst (λ (x : Runner). IsActOf x.input.now placed.act → StayLent x.input.now now.objects next.objects given more) h.rest stays
          (All-head (IsActOf was.input.now) placed.act (map act_of_placed rest) (these all_of)) before.0 before.1;
      rest = only ∙ ap (λ (x : Runner). record x { objects = next.objects }) h.rest;
    }
  where
    these : All (IsActOf was.input.now) (map act_of_placed all) → All (IsActOf was.input.now) (map act_of_placed (placed ∷ rest))
    these all_of = subst (λ (ps : List PlacedAct). All (IsActOf was.input.now) (map act_of_placed ps)) first (h.lent all_of)

module _ {was now : Runner} {all left : List PlacedAct} {given : List Given} (h : IsServing was now all left given) (none : left ≡ []) where
  pub all_served : ServesActs (waits_in (task_of was.task_table)) was.world.tick was.objects now.objects (map act_of_placed all) given
  all_served =
      serving_last
      (subst (λ (ps : List PlacedAct). AreServing (waits_in (task_of was.task_table)) was.world.tick was.objects now.objects (map act_of_placed all)
      (map act_of_placed ps) given) none h.serving)
