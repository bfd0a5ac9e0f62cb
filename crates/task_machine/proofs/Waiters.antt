-- The waiters of nurseries, move by move.
use Rattle.std.proofs.Common.{◌≡◌, ◌⊎◌, inl, inr, ℕ, ◌==◌, Bool, true, false, Option, Some, None, List, refl, ap, sym, ◌∙◌, subst}
use Rattle.std.specs.Prelude.{IsSomeAnd}
use Rattle.std.proofs.lemmas.Bool.{eqb-true, eq-eqb}
use Rattle.std.proofs.lemmas.Option.{same_Some, none-some}
use Rattle.exceptions.specs.Exceptions.{Label, Exc}
use Rattle.job_tree.specs.Tree.{Steps}
use Rattle.nursery_book.specs.Book.{nursery_at, Updates, Changes}
use Rattle.nursery_book.specs.Nursery.{Nursery, with_body}
use Rattle.nursery_book.specs.declared.book.NurseryBook.{NurseryBook}
use Rattle.task_machine.specs.Entered.{EntersNursery}
use Rattle.task_machine.specs.Started.{StartsAll, StartsChildren}
use Rattle.task_machine.specs.States.{State}
use Rattle.task_machine.specs.Waiters.{HadNursery, SameWaiters, OpenedBy, KeepsRest}
use Rattle.task_machine.specs.Waking.{IsInRangeTaskState}
use Rattle.task_machine.specs.declared.task.Task.{Task}
use Rattle.task_machine.specs.declared.world.World.{World}

-- a nursery that is in the book has its own waiter and label, and those that are equal to them
itself : (book : NurseryBook) (id : ℕ) (n : Nursery) (waiter : ℕ) (label : Label) → nursery_at book id ≡ Some n → n.waiter ≡ waiter →
    n.label ≡ label → HadNursery book id waiter label
itself book id n waiter label at w l =
    subst (λ (o : Option Nursery). IsSomeAnd o (λ m. (m.waiter ≡ waiter) × (m.label ≡ label))) (sym at) (w, l)

pub same_book : (old new : NurseryBook) → new ≡ old → SameWaiters old new
same_book old new e id n at = itself old id n n.waiter n.label (ap (λ (b : NurseryBook). nursery_at b id) (sym e) ∙ at) refl refl

-- one nursery changed, was opened or was closed, and the others stay
updated : (P : ℕ → Nursery → Type 0) (old new : NurseryBook) (key : ℕ) (o : Option Nursery) → Updates old new key o →
    ((n : Nursery) → o ≡ Some n → P key n) → ((id : ℕ) (n : Nursery) → HadNursery old id n.waiter n.label → P id n) →
    (id : ℕ) (n : Nursery) → nursery_at new id ≡ Some n → P id n
updated P old new key o u this others id n at = by_test (id == key) refl
  where
    by_test : (b : Bool) → (id == key) ≡ b → P id n
    by_test true e =
        let same : id ≡ key = eqb-true id key e in
        subst (λ (k : ℕ). P k n) (sym same) (this n (sym u.changed ∙ (ap (λ (k : ℕ). nursery_at new k) (sym same) ∙ at)))
    by_test false e =
        others id n
        (itself old id n n.waiter n.label
        (sym (u.others id (λ same. absurd (let f : false ≡ true = sym e ∙ eq-eqb id key same in cc))) ∙ at) refl refl)

pub closed_waiters : (old new : NurseryBook) (key : ℕ) → Updates old new key None → SameWaiters old new
closed_waiters old new key u =
    updated (λ id n. HadNursery old id n.waiter n.label) old new key None u (λ n e. absurd (none-some n e)) (λ id n h. h)

-- a nursery that has more children, or whose body ended, has its old waiter and its label
pub grown_waiters : (old new : NurseryBook) (key : ℕ) (before after : Nursery) → nursery_at old key ≡ Some before →
    Updates old new key (Some after) → after.waiter ≡ before.waiter → after.label ≡ before.label → SameWaiters old new
grown_waiters old new key before after at u waits named =
    updated (λ id n. HadNursery old id n.waiter n.label) old new key (Some after) u
    (λ n e.
    itself old key before n.waiter n.label at (sym waits ∙ ap (λ (m : Nursery). m.waiter) (same_Some after n e))
    (sym named ∙ ap (λ (m : Nursery). m.label) (same_Some after n e))) (λ id n h. h)

pub ended_waiters : (old new : NurseryBook) (key : ℕ) (exc : Option Exc) (at : ℕ) → Changes old new key (with_body exc at) →
    SameWaiters old new
ended_waiters old new key exc at h = by_nursery (nursery_at old key) refl h
  where
    by_nursery : (o : Option Nursery) → nursery_at old key ≡ o →
        IsSomeAnd o (λ n. Updates old new key (Some (with_body exc at n))) → SameWaiters old new
    by_nursery None e u = absurd u
    by_nursery (Some n) e u = grown_waiters old new key n (with_body exc at n) e u refl refl

pub started_waiters : (s u : State) (name : List ℕ) (over : Option ℕ) (body : Steps) → StartsChildren s u name over body →
    SameWaiters s.book u.book
started_waiters s u name over body h = by_over over h.started
  where
    by_over : (o : Option ℕ) → StartsAll s u h.id name o body → SameWaiters s.book u.book
    by_over None x = grown_waiters s.book u.book h.id x.3.nursery _ x.3.was x.3.book refl refl
    by_over (Some k) x = grown_waiters s.book u.book h.id x.nursery _ x.was x.book refl refl

-- where no nursery was opened, none was by another task
pub opened_none : (me : ℕ) (old new : NurseryBook) → SameWaiters old new → OpenedBy me old new
opened_none me old new h id n at = inr (h id n at)

pub opened_still : (me : ℕ) (book : NurseryBook) → OpenedBy me book book
opened_still me book = opened_none me book book (same_book book book refl)

pub opened_one : (me : ℕ) (s u : State) (label : Label) (body : Steps) → EntersNursery me s u label body → OpenedBy me s.book u.book
opened_one me s u label body h =
    updated (λ id n. (n.waiter ≡ me) ⊎ HadNursery s.book id n.waiter n.label) s.book u.book h.id _ h.stands
    (λ n e. inl (sym (ap (λ (m : Nursery). m.waiter) (same_Some _ n e)))) (λ id n w. inr w)

-- one move after another
pub opened_then : (me : ℕ) (old mid new : NurseryBook) → OpenedBy me old mid → OpenedBy me mid new → OpenedBy me old new
opened_then me old mid new h k id n at = by_case (k id n at)
  where
    before_that : (m : Nursery) → m.waiter ≡ n.waiter → m.label ≡ n.label → (m.waiter ≡ me) ⊎ HadNursery old id m.waiter m.label →
        (n.waiter ≡ me) ⊎ HadNursery old id n.waiter n.label
    before_that m w l (inl e) = inl (sym w ∙ e)
    before_that m w l (inr was) =
        inr (subst (λ (x : Label). HadNursery old id n.waiter x) l (subst (λ (x : ℕ). HadNursery old id x m.label) w was))

    had : (o : Option Nursery) → nursery_at mid id ≡ o → IsSomeAnd o (λ m. (m.waiter ≡ n.waiter) × (m.label ≡ n.label)) →
        (n.waiter ≡ me) ⊎ HadNursery old id n.waiter n.label
    had None e same = absurd same
    had (Some m) e same = before_that m same.0 same.1 (h id m e)

    by_case : (n.waiter ≡ me) ⊎ HadNursery mid id n.waiter n.label → (n.waiter ≡ me) ⊎ HadNursery old id n.waiter n.label
    by_case (inl e) = inl e
    by_case (inr was) = had (nursery_at mid id) refl was

-- what one move after another leaves as it was
pub keeps_then : (me : ℕ) (before mid after : Task) (old w new : World) → KeepsRest me before mid old w → KeepsRest me mid after w new →
    KeepsRest me before after old new
keeps_then me before mid after old w new h k =
    record {
      task =
          k.task
          ∙ ap
          (λ (t : Task).
          record t {
            frames = after.frames;
            own = after.own;
            task_state = after.task_state;
            entries = after.entries;
            cancelled_from = after.cancelled_from;
            cancelled = after.cancelled;
          }) h.task;
      world =
          k.world
          ∙ ap (λ (x : World). record x {
            scopes = new.scopes;
            labels = new.labels;
            events = new.events;
            set = new.set;
            acts = new.acts;
            book = new.book;
            started = new.started;
          }) h.world;
      in_range = k.in_range;
      waiters = opened_then me old.book w.book new.book h.waiters k.waiters;
    }

-- what a wake leaves as it was, after what the task had cancelled itself was forgotten
pub keeps_woken : (me : ℕ) (before mid after : Task) (old new : World) → mid ≡ record before { cancelled = mid.cancelled } →
    after ≡ record mid { frames = after.frames; own = after.own; task_state = after.task_state; entries = after.entries; cancelled_from = after.cancelled_from } →
    new ≡ record old { scopes = new.scopes; labels = new.labels; events = new.events; book = new.book } → IsInRangeTaskState after.task_state →
    SameWaiters old.book new.book → KeepsRest me before after old new
keeps_woken me before mid after old new forgot task world in_range waiters =
    let whole =
    task
    ∙ ap (λ (t : Task). record t {
      frames = after.frames;
      own = after.own;
      task_state = after.task_state;
      entries = after.entries;
      cancelled_from = after.cancelled_from;
    }) forgot in
    record {
      task =
          whole
          ∙ ap
          (λ (t : Task).
          record before {
            frames = after.frames;
            own = after.own;
            task_state = after.task_state;
            entries = after.entries;
            cancelled_from = after.cancelled_from;
            cancelled = t.cancelled;
          }) (sym whole);
      world =
          world
          ∙ ap
          (λ (w : World).
          record old {
            scopes = new.scopes;
            labels = new.labels;
            events = new.events;
            set = w.set;
            acts = w.acts;
            book = new.book;
            started = w.started;
          }) (sym world);
      in_range = in_range;
      waiters = opened_none me old.book new.book waiters;
    }

-- a step of the task alone, with other frames and another blocked state
pub keeps_task : (me : ℕ) (before after : Task) (world : World) →
    after ≡ record before { frames = after.frames; task_state = after.task_state } → IsInRangeTaskState after.task_state →
    KeepsRest me before after world world
keeps_task me before after world task in_range =
    record {
      task =
          task
          ∙ ap
          (λ (t : Task).
          record before {
            frames = after.frames;
            own = t.own;
            task_state = after.task_state;
            entries = t.entries;
            cancelled_from = t.cancelled_from;
            cancelled = t.cancelled;
          }) (sym task);
      world = refl;
      in_range = in_range;
      waiters = opened_still me world.book;
    }

-- what a task that entered a scope, nursery or event left as it was
pub keeps_entered : (me : ℕ) (before after : Task) (old new : World) →
    after ≡ record before { frames = after.frames; own = after.own; cancelled_from = after.cancelled_from } →
    new ≡ record old { scopes = new.scopes; labels = new.labels; events = new.events; book = new.book } → IsInRangeTaskState before.task_state →
    OpenedBy me old.book new.book → KeepsRest me before after old new
keeps_entered me before after old new task world in_range waiters =
    record {
      task =
          task
          ∙ ap
          (λ (t : Task).
          record before {
            frames = after.frames;
            own = after.own;
            task_state = t.task_state;
            entries = t.entries;
            cancelled_from = after.cancelled_from;
            cancelled = t.cancelled;
          }) (sym task);
      world =
          world
          ∙ ap
          (λ (w : World).
          record old {
            scopes = new.scopes;
            labels = new.labels;
            events = new.events;
            set = w.set;
            acts = w.acts;
            book = new.book;
            started = w.started;
          }) (sym world);
      in_range = subst IsInRangeTaskState (sym (ap (λ (t : Task). t.task_state) task)) in_range;
      waiters = waiters;
    }

-- what a task that opened and entered a limiter or channel left as it was
pub keeps_opened : (me : ℕ) (before after : Task) (old new : World) →
    after ≡ record before { frames = after.frames; own = after.own; cancelled_from = after.cancelled_from } →
    new ≡ record old { scopes = new.scopes; labels = new.labels; events = new.events; acts = new.acts } → IsInRangeTaskState before.task_state →
    KeepsRest me before after old new
keeps_opened me before after old new task world in_range =
    record {
      task =
          task
          ∙ ap
          (λ (t : Task).
          record before {
            frames = after.frames;
            own = after.own;
            task_state = t.task_state;
            entries = t.entries;
            cancelled_from = after.cancelled_from;
            cancelled = t.cancelled;
          }) (sym task);
      world =
          world
          ∙ ap
          (λ (w : World).
          record old {
            scopes = new.scopes;
            labels = new.labels;
            events = new.events;
            set = w.set;
            acts = new.acts;
            book = w.book;
            started = w.started;
          }) (sym world);
      in_range = subst IsInRangeTaskState (sym (ap (λ (t : Task). t.task_state) task)) in_range;
      waiters = subst (OpenedBy me old.book) (sym (ap (λ (w : World). w.book) world)) (opened_still me old.book);
    }

-- what a task that did something to a limiter or channel left as it was
pub keeps_acted : (me : ℕ) (task : Task) (old new : World) → new ≡ record old { acts = new.acts } → IsInRangeTaskState task.task_state →
    KeepsRest me task task old new
keeps_acted me task old new world in_range =
    record {
      task = refl;
      world =
          world
          ∙ ap
          (λ (w : World).
          record old {
            scopes = w.scopes;
            labels = w.labels;
            events = w.events;
            set = w.set;
            acts = new.acts;
            book = w.book;
            started = w.started;
          }) (sym world);
      in_range = in_range;
      waiters = subst (OpenedBy me old.book) (sym (ap (λ (w : World). w.book) world)) (opened_still me old.book);
    }

-- what a task that cancelled a scope or set an event left as it was
keeps_signed : (me : ℕ) (before after : Task) (old new : World) → after ≡ record before { cancelled = after.cancelled } →
    new ≡ record old { scopes = new.scopes; events = new.events; set = new.set } → IsInRangeTaskState before.task_state → KeepsRest me before after old new
keeps_signed me before after old new task world in_range =
    record {
      task =
          task
          ∙ ap
          (λ (t : Task).
          record before {
            frames = t.frames;
            own = t.own;
            task_state = t.task_state;
            entries = t.entries;
            cancelled_from = t.cancelled_from;
            cancelled = after.cancelled;
          }) (sym task);
      world =
          world
          ∙ ap
          (λ (w : World).
          record old {
            scopes = new.scopes;
            labels = w.labels;
            events = new.events;
            set = new.set;
            acts = w.acts;
            book = w.book;
            started = w.started;
          }) (sym world);
      in_range = subst IsInRangeTaskState (sym (ap (λ (t : Task). t.task_state) task)) in_range;
      waiters = subst (OpenedBy me old.book) (sym (ap (λ (w : World). w.book) world)) (opened_still me old.book);
    }

pub keeps_cancelled : (me : ℕ) (before after : Task) (old new : World) → after ≡ record before { cancelled = after.cancelled } →
    new ≡ record old { scopes = new.scopes } → IsInRangeTaskState before.task_state → KeepsRest me before after old new
keeps_cancelled me before after old new task world in_range =
    keeps_signed me before after old new task
    (world ∙ ap (λ (w : World). record old { scopes = new.scopes; events = w.events; set = w.set }) (sym world)) in_range

pub keeps_set : (me : ℕ) (before after : Task) (old new : World) → after ≡ record before { cancelled = after.cancelled } →
    new ≡ record old { events = new.events; set = new.set } → IsInRangeTaskState before.task_state → KeepsRest me before after old new
keeps_set me before after old new task world in_range =
    keeps_signed me before after old new task
    (world ∙ ap (λ (w : World). record old { scopes = w.scopes; events = new.events; set = new.set }) (sym world)) in_range
