-- A task that asks a limiter or channel, does not ask it since it sees a cancellation, or closes it.
use Rattle.std.proofs.Common.{◌≡◌, ℕ, Bool, true, false, Option, Some, None, List, [], ◌∷◌, ◌++◌, map, refl, ap, sym, ◌∙◌, subst}
use Rattle.job_tree.specs.Tree.{Steps}
use Rattle.job_tree.specs.declared.object.Ask.{Ask}
use Rattle.cancel_scopes.specs.Sight.{seen}
use Rattle.cancel_scopes.specs.Tree as scopes
use Rattle.exceptions.specs.Exceptions.{Label}
use Rattle.job_meaning.specs.Log.{Table, closes}
use Rattle.job_meaning.specs.declared.clock.Clock.{Clock}
use Rattle.job_meaning.specs.declared.clock.Clock.TheVariants.{ByTicks as by_ticks, ByRounds as by_rounds}
use Rattle.job_meaning.specs.Walk.{stack_for}
use Rattle.job_meaning.specs.Rest as rest
use Rattle.nursery_book.specs.declared.book.NurseryBook.{NurseryBook}
use Rattle.turn_semantics.specs.Midway.{Place, label_among, stack_at, Move}
use Rattle.turn_semantics.specs.Steps.{blocks_on, asks_if, asks_of, acts_on}
use Rattle.task_machine.specs.declared.serving.ObjectAct.{ObjectAct}
use Rattle.task_machine.specs.declared.serving.Act.TheVariants.{Closes}
use Rattle.task_machine.specs.declared.stop.TaskState.{TaskState}
use Rattle.task_machine.specs.declared.stop.TaskState.TheVariants.{Queued}
use Rattle.task_machine.specs.declared.stop.Moved.{Moved}
use Rattle.task_machine.specs.declared.stop.Moved.TheVariants.{On}
use Rattle.task_machine.specs.Frames.{Lent}
use Rattle.task_machine.specs.Labels.{Labels, Events, scope_named, seen_levels}
use Rattle.task_machine.specs.Serving.{acted_of, acts_to_serve}
use Rattle.task_machine.specs.Stacked.{AreAt, AwaitsEvent}
use Rattle.task_machine.specs.Stops.{Numbers, MovesAs}
use Rattle.std.specs.Borrow.{Bor}
use Rattle.task_machine.proofs.Acting.{WaitsElse, waits_else}
use Rattle.task_machine.proofs.Cancels.{found_as}
use Rattle.task_machine.proofs.Served.{unacted, acted_last}
use Rattle.task_machine.proofs.Stacked.{named_is_in, seen_for}

-- ---- an ask

-- a task that does not ask waits for nothing
refused_else : (clock : Clock) (name : List ℕ) (a : Ask) (t : ℕ) (body : Steps) (fs : List rest.Frame) (ps : List Place) →
    WaitsElse (asks_if clock true name a t body fs ps).stopped
refused_else by_ticks name a t body fs ps = tt
refused_else by_rounds name a t body fs ps = tt

module _ (clock : Clock) (labels : Labels) (events : Events) (own : List Label) (name : List ℕ) (a : Ask) (st : scopes.Stack) (t : ℕ)
    (body : Steps) (numbers : Numbers) (book : NurseryBook) (part : Lent) (cancelled_from : Table) (fs : List rest.Frame) (ps : List Place)
    (at : AreAt labels events cancelled_from st ps) where
  -- what the task sees, with what it has cancelled itself
  abbrev pub sees : Bool
  sees = seen (stack_for own t (stack_at cancelled_from ps).scopes) t

  -- the code moves as the definitions do
  abbrev pub AsksAs : Moved → TaskState → Move → Type 0
  AsksAs goes task_state o = MovesAs clock numbers book part goes task_state o × AwaitsEvent labels st o.stopped task_state ps

  -- where there is no limiter or channel of the name, the task continues
  pub asks_none : (task_state : TaskState) → scope_named true labels events name st ≡ None →
      AsksAs (On None) task_state (asks_of clock (label_among true name ps) sees name a t body fs ps)
  asks_none task_state none =
      subst (λ (o : Option Label). AsksAs (On None) task_state (asks_of clock o sees name a t body fs ps))
      (sym (found_as true labels events cancelled_from name st ps None none at)) ((refl, refl), tt)

  -- where it sees a cancellation, it does not ask
  pub asks_refused : (key : ℕ) (goes : Moved) (task_state : TaskState) → scope_named true labels events name st ≡ Some key →
      seen (seen_levels labels events own t st) t ≡ true →
      MovesAs clock numbers book part goes task_state (asks_if clock true name a t body fs ps) →
      AsksAs goes task_state (asks_of clock (label_among true name ps) sees name a t body fs ps)
  asks_refused key goes task_state found seen_now moves =
      let x = found_as true labels events cancelled_from name st ps (Some key) found at in
      subst (λ (o : Option Label). AsksAs goes task_state (asks_of clock o sees name a t body fs ps)) (sym x.1.1)
      (subst (λ (b : Bool). AsksAs goes task_state (asks_if clock b name a t body fs ps))
      (sym (sym (seen_for labels events own cancelled_from st ps t at) ∙ seen_now))
      (moves, waits_else labels st (asks_if clock true name a t body fs ps).stopped task_state ps (refused_else clock name a t body fs ps)))

  -- otherwise it asks that one
  pub asks_some : (key since : ℕ) (block : Bor Steps) (goes : Moved) (task_state : TaskState) → scope_named true labels events name st ≡ Some key →
      seen (seen_levels labels events own t st) t ≡ false → task_state ≡ Queued key a since block →
      MovesAs clock numbers book part goes task_state (blocks_on (rest.queued name a t body) fs ps) →
      AsksAs goes task_state (asks_of clock (label_among true name ps) sees name a t body fs ps)
  asks_some key since block goes task_state found seen_now is moves =
      let x = found_as true labels events cancelled_from name st ps (Some key) found at in
      subst (λ (o : Option Label). AsksAs goes task_state (asks_of clock o sees name a t body fs ps)) (sym x.1.1)
      (subst (λ (b : Bool). AsksAs goes task_state (asks_if clock b name a t body fs ps))
      (sym (sym (seen_for labels events own cancelled_from st ps t at) ∙ seen_now)) (
        moves,
        subst (λ (s : TaskState). AwaitsEvent labels st (Some (rest.queued name a t body)) s ps) (sym is)
            (named_is_in true labels events name st key found, x.0),
      ))

-- ---- a channel that is closed

module _ (labels : Labels) (events : Events) (name : List ℕ) (st : scopes.Stack) (t : ℕ) (old : List ObjectAct) where
  -- the innermost one of the name
  pub closes_some : (key : ℕ) (label : Label) (new : List ObjectAct) → scope_named true labels events name st ≡ Some key →
      labels key ≡ Some label → new ≡ old ++ record { object = label; act = Closes } ∷ [] → (cancelled_from : Table) (ps : List Place) →
      AreAt labels events cancelled_from st ps →
      map acted_of new ≡ map acted_of old ++ acts_to_serve (acts_on (label_among true name ps) t closes)
  closes_some key label new found named noted cancelled_from ps at =
      let x = found_as true labels events cancelled_from name st ps (Some key) found at in
      subst (λ (o : Option Label). map acted_of new ≡ map acted_of old ++ acts_to_serve (acts_on o t closes)) (sym named ∙ x.0)
      (ap (λ (xs : List ObjectAct). map acted_of xs) noted ∙ acted_last old (record { object = label; act = Closes }))

  -- where there is none, nothing is closed
  pub closes_none : scope_named true labels events name st ≡ None → (cancelled_from : Table) (ps : List Place) →
      AreAt labels events cancelled_from st ps →
      map acted_of old ≡ map acted_of old ++ acts_to_serve (acts_on (label_among true name ps) t closes)
  closes_none none cancelled_from ps at =
      subst (λ (o : Option Label). map acted_of old ≡ map acted_of old ++ acts_to_serve (acts_on o t closes))
      (sym (found_as true labels events cancelled_from name st ps None none at)) (unacted old old refl)
