use Rattle.std.proofs.Common.{◌≡◌, ℕ, suc, ◌+◌, ◌∷◌, [], ◌++◌, None, refl, ap, ◌∙◌, subst, arith}
use Rattle.input_lines.specs.Part.{buffer_of, range_of}
use Rattle.exceptions.specs.Exceptions.{Label}
use Rattle.job_meaning.specs.Moments.{a_round_after}
use Rattle.task_machine.specs.declared.world.World.{World}
use Rattle.task_machine.specs.Started.{StartsOver}
use Rattle.task_machine.specs.Tasks.{path_of}
use Rattle.task_machine.specs.States.{state_of}
use Rattle.task_machine.proofs.Starts.{cut_given, starts_none, starts_more, runs_on}
use Rattle.task_machine.proofs.task.Task.start_over.Goals as goal

pub copies-preserved : goal.copies-preserved
copies-preserved c =
    let i = c.copies.i in
    let started = c.in_ok-start.ensures in
    let name : c.in_ok-label.label ≡ record { name = c.args.name; indices = path_of c.args.self.now ++ i ∷ [] } =
    c.in_ok-label.ensures ∙ ap (λ (l : Label). record { name = l.name; indices = l.indices ++ i ∷ [] }) c.in_ok-label_here.ensures in
    let next : suc i ≡ i + 1 = omega arith in
    let gives = c.next_cut-part.ensures in
    let whole = c.copies.invariant.4 in
    let count = c.copies.invariant.5 in
    let given = c.copies.invariant.6 in (
      omega (arith, c.copies-test.true),
      subst (λ (j : ℕ). StartsOver (state_of c.args.self.now c.args.world.now) (state_of c.args.self.now c.start.new.world) c.args.nursery c.args.name
          c.args.copies c.args.body.now j) next
          (starts_more (state_of c.args.self.now c.args.world.now) (state_of c.args.self.now c.copies.world)
          (state_of c.args.self.now c.start.new.world) c.args.nursery c.args.copies i c.args.name
          c.in_ok-label.label c.next_cut-part.result c.args.body.now
          (ap (λ (w : World). a_round_after w.clock w.tick) c.copies.invariant.3) c.copies.invariant.1 started.started name
          (gives.buffer ∙ whole.0) (cut_given c.copies.cuts _ _ _ _ _ _ gives whole.0 whole.1 count given)),
      runs_on (state_of c.args.self.now c.copies.world) (state_of c.args.self.now c.start.new.world) c.args.nursery c.in_ok-label.label c.next_cut-part.result c.args.body.now started.started
          c.copies.invariant.2,
      started.rest ∙ ap (λ (w : World). record w { book = c.start.new.world.book; started = c.start.new.world.started })
          c.copies.invariant.3,
      (ap buffer_of gives.same_part ∙ whole.0, ap range_of gives.same_part ∙ whole.1),
      gives.same_count ∙ count,
      gives.one_more ∙ ap (λ (n : ℕ). n + 1) given,
    )

pub copies-init : goal.copies-init
copies-init c =
    let none = starts_none (state_of c.args.self.now c.args.world.now) c.args.nursery c.args.copies c.args.name c.args.body.now (λ n. n.body ≡ None)
    c.requires.nursery in (
      omega arith,
      none,
      c.requires.nursery,
      refl,
      (
        ap buffer_of c.cuts-cuts.ensures.part ∙ c.part_here-whole.ensures.buffer,
        ap range_of c.cuts-cuts.ensures.part ∙ c.part_here-whole.ensures.range,
      ),
      c.cuts-cuts.ensures.count,
      c.cuts-cuts.ensures.given,
    )
