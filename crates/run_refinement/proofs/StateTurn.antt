-- A turn of one task of the program: what the task that moves does to scopes, and what stays the same
-- for each other task.
use Rattle.std.proofs.Common.{◌≡◌, ◌≢◌, ◌⊎◌, inl, inr, ℕ, Some, None, List, refl, sym}
use Rattle.std.specs.Prelude.{slice_get}
use Rattle.cancel_scopes.specs.Tree.{IsOpen}
use Rattle.nursery_book.specs.Book.{nursery_at}
use Rattle.job_tree.specs.Names.{GivesNamesOnce}
use Rattle.job_tree.specs.Starting.{StartsInNurseries}
use Rattle.job_tree.specs.Tree.{Tree as Job}
use Rattle.interleavings.specs.Laws.{IsSettledBy}
use Rattle.task_machine.specs.declared.stop.Stop.{Stop}
use Rattle.task_machine.specs.declared.task.Own.{Own}
use Rattle.task_machine.specs.declared.task.Task.{Task}
use Rattle.task_machine.specs.Acts.{scoping_of}
use Rattle.task_machine.specs.Fitting.{blocks_of, AreOthers, waits_of}
use Rattle.task_machine.specs.Standing.{HasNurseryOf}
use Rattle.task_machine.specs.Worlds.{label_at}
use Rattle.run_refinement.specs.RunState.{RunState, OpenedBy, Refines}
use Rattle.run_refinement.specs.Turn.{IsEntered}
use Rattle.run_refinement.specs.Turning.{Turning}
use Rattle.run_refinement.proofs.ActsKeep.{is_open}
use Rattle.run_refinement.proofs.LabelsApart.{labels_apart, labels_known}
use Rattle.run_refinement.proofs.OtherScopes.{Acted, AreElse}
use Rattle.run_refinement.proofs.OtherNurseries.{nurseries_stay}
use Rattle.run_refinement.proofs.Parts.{own_or}
use Rattle.turn_semantics.specs.Midway.{Tables}

-- ---- the mover

-- what the mover does to scopes
abbrev pub ActsOf : {k : Tables} {job : Job} {input : List ℕ} {t m s : ℕ} {old new : RunState} {before after : Task} {stop : Stop} →
    (c : Refines k job input t m None old) →
    Turning k job input t m s old new c.numbers before after stop c.interleaving → Type 0
ActsOf {old = old} {new = new} {before = before} {after = after} c T =
    Acted (IsEntered c.interleaving.at) old.world.tick (scoping_of before old.world) (scoping_of after new.world) T.move.made

-- the mover of a turn acts on sound stacks, with labels that are apart and known, and enters new ones
pub acted : {k : Tables} {job : Job} {input : List ℕ} {t m s : ℕ} {old new : RunState} {before after : Task} {stop : Stop} →
    (c : Refines k job input t m None old) →
    (T : Turning k job input t m s old new c.numbers before after stop c.interleaving) → IsSettledBy k job input → GivesNamesOnce job →
    StartsInNurseries job → ActsOf c T
acted c T settled names nurseries =
    record {
      acts = T.took.acts;
      sound = T.code.sound;
      sound_after = T.code.sound_after;
      apart = record { labels = labels_apart c settled names nurseries };
      has = labels_known c;
      new = T.fresh;
    }

-- ---- another task

-- none of its scopes is the mover's
pub else_own : {k : Tables} {job : Job} {input : List ℕ} {t m s : ℕ} {old new : RunState} {before after : Task} {stop : Stop} →
    (c : Refines k job input t m None old) →
    Turning k job input t m s old new c.numbers before after stop c.interleaving → (u : ℕ) (task : Task) → u ≢ s → old.task u ≡ Some task →
    AreElse task.own.items before.own.items
else_own {s = s} {old = old} {before = before} c T u task differs is o i got = by_own (own_or o.id before.own.items)
  where
    by_own : AreOthers o.id before.own.items ⊎ ((j : ℕ) × (x : Own) × (slice_get before.own.items j ≡ Some x) × (x.id ≡ o.id)) →
        AreOthers o.id before.own.items
    by_own (inl a) = a
    by_own (inr x) =
        let mine : OpenedBy old o.id s = record { task = before; lives = T.code.task; index = x.0; scope = x.1; own = x.2; is = x.3 } in
        let theirs : OpenedBy old o.id u = record { task = task; lives = is; index = i; scope = o; own = got; is = refl } in
        absurd (differs (sym (c.apart o.id s u mine theirs)))

-- each of its scopes is open
pub own_open : {k : Tables} {job : Job} {input : List ℕ} {t m : ℕ} {old : RunState} → (c : Refines k job input t m None old) →
    (u : ℕ) (task : Task) → old.task u ≡ Some task →
    (o : Own) (i : ℕ) → slice_get task.own.items i ≡ Some o → IsOpen old.world.scopes o.id
own_open {old = old} c u task is o i got = let x = (c.follows u task is).tracks.kept o i got in is_open old.world.scopes o.id x.0 x.2

-- each of its nurseries stays
pub nursery_same : {k : Tables} {job : Job} {input : List ℕ} {t m s : ℕ} {old new : RunState} {before after : Task} {stop : Stop} →
    (c : Refines k job input t m None old) →
    Turning k job input t m s old new c.numbers before after stop c.interleaving → (u : ℕ) (task : Task) → u ≢ s → old.task u ≡ Some task →
    (id : ℕ) → HasNurseryOf id (blocks_of task.frames.items) (waits_of task.task_state) →
    nursery_at new.world.book id ≡ nursery_at old.world.book id
nursery_same {old = old} {new = new} {before = before} c T u task differs is id has =
    nurseries_stay (label_at old.world) old.world.book new.world.book (blocks_of before.frames.items) (blocks_of task.frames.items)
    before.own.items task.own.items (waits_of before.task_state)
    (waits_of task.task_state) old.world.scopes T.fits.runs.opened T.took.nurseries.others (c.follows u task is).goes.opened (else_own c T u task differs is)
    (own_open c u task is) id has
