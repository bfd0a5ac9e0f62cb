-- The turns of a batch, one after the other.
use Rattle.std.proofs.Common.{◌≡◌, ℕ, ◌+◌, List, [], map, refl, ap, ◌∙◌}
use Rattle.std.specs.Prelude.{IsSomeAnd}
use Rattle.task_table.specs.Batch.{Batches}
use Rattle.task_table.specs.declared.entry.Entry.{Entry}
use Rattle.task_table.specs.Entries.{Added, answers_placed, without_answer}
use Rattle.input_lines.specs.declared.answers.Answer.{Answer}
use Rattle.task_machine.specs.declared.stop.Stop.{Stop}
use Rattle.task_machine.specs.declared.stop.Stop.TheVariants.{Ask, Sleep, WaitFor, Queue, GiveUp, Wait, Ended}
use Rattle.task_machine.specs.declared.stop.Wake.{Wake}
use Rattle.task_machine.specs.declared.world.World.{World}
use Rattle.task_table.specs.declared.task_table.TaskTable.{TaskTable}
use Rattle.task_table.specs.declared.task_table.Running.{Running}
use Rattle.task_table.specs.TaskTable.{running_at, HasTurn}
use Rattle.job_runner.specs.declared.runner.Runner.{Runner}
use Rattle.job_runner.specs.Steps.{TakesStarted, TakesSet, TakesActs, SeesOnly}
use Rattle.job_runner.specs.Turns.{GoesOn, ComesOf, TakesTurn, TakesTurns, no_turn, and_turn, with_answers, Commits}
use Rattle.job_runner.proofs.TurnsTaken.{row_is}

-- a task that had its turn, and whose started tasks, events that were set and acts were taken, continued
pub goes_on : {id : ℕ} {r woken new : Runner} {ro : TaskTable} {w : World} {wake : Wake} {stop : Stop} (row : ℕ) (after : Runner) →
    IsSomeAnd (running_at r.task_table id) (λ (x : Running). x.row ≡ row) → HasTurn r.task_table ro r.world w id wake stop →
    TakesStarted (record r { world = w; task_table = ro; turns = r.turns + 1 }) after row → TakesSet after woken → TakesActs woken new row →
    GoesOn id wake stop r new
goes_on {r = r} {woken} {ro = ro} {w = w} row after at turn takes sets acts =
    let same = row_is r row at turn in
    record { task_table = ro; world = w; turn = turn; after = after; started = rw same takes; woken = woken; set = sets; acts = rw same acts }

-- ---- the moment stays

-- handling a stop keeps the moment
comes_tick : (id : ℕ) (stop : Stop) (old new : Runner) → ComesOf id stop old new → new.world.tick ≡ old.world.tick
comes_tick id (Ask request) old new h = ap (λ (w : World). w.tick) h.1
comes_tick id (Sleep due) old new h = ap (λ (w : World). w.tick) h.1
comes_tick id (WaitFor event) old new h = ap (λ (w : World). w.tick) h.1
comes_tick id (Queue request) old new h = ap (λ (w : World). w.tick) h.1
comes_tick id (GiveUp due) old new h = ap (λ (w : World). w.tick) h.1
comes_tick id (Wait nursery) old new h = ap (λ (w : World). w.tick) h.1
comes_tick id (Ended exc) old new h = ap (λ (w : World). w.tick) h.1

turn_tick : (id : ℕ) (wake : Wake) (old new : Runner) → TakesTurn id wake old new → new.world.tick ≡ old.world.tick
turn_tick id wake old new h =
    comes_tick id h.stop h.went new h.stopped ∙ ap (λ (w : World). w.tick) h.goes.acts.world ∙ ap (λ (w : World). w.tick) h.goes.set.world
    ∙ ap (λ (w : World). w.tick) h.goes.started.world ∙ ap (λ (w : World). w.tick) h.goes.turn.keeps.world

turns_tick : {P : Type 0} (picks : P → ℕ → ℕ → P → Type 0) (old new : Runner) (before after : P) → TakesTurns picks old before new after →
    new.world.tick ≡ old.world.tick
turns_tick picks old new before after (no_turn r p) = refl
turns_tick picks old new before after (and_turn first last next p q s batch id wake turns out takes) =
    turn_tick id wake (record last { batch = batch }) next takes ∙ turns_tick picks first last p q turns

-- ---- the batch is over

-- once its answers are placed no task had its turn yet
pub first_turns : {P : Type 0} (picks : P → ℕ → ℕ → P → Type 0) (r : Runner) (b : Batches) (answers : List Answer) (picker : P) →
    b.current ≡ answers_placed r.batch.current answers → b.next ≡ r.batch.next →
    TakesTurns picks (with_answers r answers) picker (record r { batch = b }) picker
first_turns picks r b answers picker current next =
    let placed = same b current next in
    rw placed (no_turn (with_answers r answers) picker)
  where
    same : (x : Batches) → x.current ≡ answers_placed r.batch.current answers → x.next ≡ r.batch.next →
        x ≡ record { current = answers_placed r.batch.current answers; next = r.batch.next }
    same x e f =
        ap (λ (es : List Entry). record { current = es; next = x.next }) e
        ∙ ap (λ (xs : List Added). record { current = answers_placed r.batch.current answers; next = xs }) f

-- and once none is left every entry had one
pub all_turns : {P : Type 0} {picks : P → ℕ → ℕ → P → Type 0} {r : Runner} {before after : P} (was informed : Runner) (answers : List Answer)
    (left b : Batches) → TakesTurns picks (with_answers was answers) before r after → left ≡ r.batch → r.batch.current ≡ [] →
    SeesOnly (record r { batch = left }) informed → b.current ≡ map without_answer informed.batch.next →
    Commits picks was (record informed { batch = b }) answers before after
all_turns {picks = picks} {r = r} {before = before} {after = after} was informed answers left b turns same over only current =
    let world : informed.world ≡ record r.world { scopes = record (r.world.scopes) { changed = informed.world.scopes.changed } } =
    ap (λ (x : Runner). x.world) only in
    record {
      last = r;
      turns = turns;
      none_left = over;
      task_table = ap (λ (x : Runner). x.task_table) only;
      world = world;
      ready = current ∙ ap (λ (x : Batches). map without_answer x.next) (ap (λ (x : Runner). x.batch) only ∙ same);
      moment = ap (λ (w : World). w.tick) world ∙ turns_tick picks (with_answers was answers) r before after turns;
    }
