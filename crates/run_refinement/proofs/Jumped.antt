-- The tasks of the program when the clock jumps or started tasks are taken: everything else stays.
use Rattle.std.proofs.Common.{◌≡◌, ℕ, ◌≤◌, Option, Some, None, List, [], ◌∷◌, refl, ap, sym, ◌∙◌, subst, arith, ◌⊎◌, inl, suc, ◌++◌, inr}
use Rattle.std.specs.List.{slice_get}
use Rattle.std.specs.Option.{IsSomeAnd}
use Rattle.job_tree.specs.Tree.{Tree as Job}
use Rattle.exceptions.specs.Exceptions.{Label}
use Rattle.job_meaning.specs.Log.{Table}
use Rattle.job_meaning.specs.Moments.{Now}
use Rattle.job_meaning.specs.declared.clock.Clock.{Clock}
use Rattle.job_meaning.specs.Rest as rest
use Rattle.nursery_book.specs.Nursery.{End, Nursery}
use Rattle.nursery_book.specs.Book.{nursery_at}
use Rattle.task_machine.specs.declared.stop.TaskState.{TaskState}
use Rattle.task_machine.specs.declared.stop.TaskState.TheVariants.{ToBegin, Asked, Asleep, Waiting, GivingUp, Awaits, Over, Queued}
use Rattle.task_machine.specs.declared.task.Home.{Home}
use Rattle.task_machine.specs.declared.task.Task.{Task}
use Rattle.task_machine.specs.declared.world.World.{World}
use Rattle.task_machine.specs.Stops.{Numbers}
use Rattle.interleavings.specs.Interleaving.{Started}
use Rattle.interleavings.specs.Runs.{turns_taken, Reached}
use Rattle.interleavings.specs.Rows.{children_made}
use Rattle.run_refinement.specs.RunState.{Interleaving, RunState, EndedTask, HasHome, IsMember, HasMembers, IsSince, Follows, HasEnded, OpenedBy, AreStarted, Refines, Shares}
use Rattle.run_refinement.specs.Moved.{SameTasks, moved_world, SameObjects}
use Rattle.turn_semantics.specs.Midway.{Tables}
use Rattle.run_refinement.specs.Sharing.{waits_by}
use Rattle.run_refinement.proofs.SharesKept.{shares_kept}
use Rattle.turn_semantics.specs.Lists.{IsAmong}

-- ---- the same tasks

module _ (t u m : ℕ) (le : t ≤ u) (old new : RunState) (at : ℕ → Started) (numbers : ℕ → Numbers) (same : SameTasks old new) where
  abbrev there : RunState
  there = record new { world = moved_world old.world u new.world }

  home_moved : (s : ℕ) (home : Option Home) → HasHome old at numbers s home → HasHome there at numbers s home
  home_moved s None h = h
  home_moved s (Some home) h =
      record {
        parent = h.parent;
        starter = h.starter;
        lives = same.task h.parent ∙ h.lives;
        earlier = h.earlier;
        owned = h.owned;
        runs = h.runs;
        number = h.number;
        stands = h.stands;
        below = h.below;
        serial = h.serial;
      }

  member_moved : (last id index serial : ℕ) (e : Option End) → IsMember old at last id index serial e →
      IsMember there at last id index serial e
  member_moved last id index serial None h = h
  member_moved last id index serial (Some None) h = (h.0, same.task serial ∙ h.1, h.2)
  member_moved last id index serial (Some (Some exc)) h = (h.0, h.1, same.ended_task serial ∙ h.2, h.3, h.4)

  members_moved : (ns : Numbers) (q : Started) (id : ℕ) (n : Nursery) → HasMembers old at t ns q id n → HasMembers there at u ns q id n
  members_moved ns q id n h =
      record {
        long = h.long;
        last = (let e = h.last in omega (arith, e, le));
        members = λ index number e. (let g = h.members index number e in
            (g.0, member_moved n.last id index (q.child number) (slice_get n.children index) g.1));
      }

  nursery_moved : (ns : Numbers) (q : Started) (id : ℕ) (o : Option Nursery) → IsSomeAnd o (λ n. HasMembers old at t ns q id n) →
      IsSomeAnd o (λ n. HasMembers there at u ns q id n)
  nursery_moved ns q id None h = h
  nursery_moved ns q id (Some n) h = members_moved ns q id n h

  since_moved : (cancelled : List Label) (task_state : TaskState) (stop : Now) → IsSince t cancelled task_state stop →
      IsSince u cancelled task_state stop
  since_moved cancelled (ToBegin v) stop h = h
  since_moved cancelled (Asked kernel purpose) stop h = (let e = h.0 in omega (arith, e, le), h.1)
  since_moved cancelled (Asleep paced ticks since) stop h = tt
  since_moved cancelled (Waiting event since) stop h = tt
  since_moved cancelled (Queued object ask since body) stop h = tt
  since_moved cancelled (GivingUp since) stop h = tt
  since_moved cancelled (Awaits id since) stop h = tt
  since_moved cancelled Over stop h = tt

  follows_moved : (f : Table) (input : List ℕ) (leaving : Option ℕ) (s : ℕ) (task : Task) →
      Follows old f input t at numbers leaving s task →
      Follows there f input u at numbers leaving s task
  follows_moved f input leaving s task h =
      record {
        here = h.here;
        since = since_moved task.cancelled.items task.task_state (at s).stop h.since;
        last = h.last;
        input_is = h.input_is;
        lives = h.lives;
        frames = h.frames;
        stands = record {
          places = h.stands.places;
          numbered = h.stands.numbered;
          placed = h.stands.placed;
          new = h.stands.new;
          stop = h.stands.stop;
          own = h.stands.own;
          event = h.stands.event;
        };
        task_state = h.task_state;
        in_range = h.in_range;
        goes =
            record {
              in_range = h.goes.in_range;
              lent = h.goes.lent;
              starts = h.goes.starts;
              home = h.goes.home;
              scope = h.goes.scope;
              first = h.goes.first;
              cancelled_from = h.goes.cancelled_from;
              opened = h.goes.opened;
            };
        notes = h.notes;
        tracks = record {
          labels = h.tracks.labels;
          differ = h.tracks.differ;
          named = h.tracks.named;
          kept = h.tracks.kept;
          left =
              h.tracks.left;
        };
        home = home_moved s task.home h.home;
        nurseries = λ id has. nursery_moved (numbers s) (at s) id (nursery_at old.world.book id) (h.nurseries id has);
      }

  opened_back : (key s : ℕ) → OpenedBy there key s → OpenedBy old key s
  opened_back key s h = record {
    task = h.task;
    lives = sym (same.task s) ∙ h.lives;
    index = h.index;
    scope = h.scope;
    own = h.own;
    is =
        h.is;
  }

  opened_there : (key s : ℕ) → OpenedBy old key s → OpenedBy there key s
  opened_there key s h = record { task = h.task; lives = same.task s ∙ h.lives; index = h.index; scope = h.scope; own = h.own; is = h.is }

  started_moved : (clock : Clock) (child : ℕ → ℕ) (es : List rest.Event) → AreStarted clock old.start at child es →
      AreStarted clock new.start at child es
  started_moved clock child [] h = h
  started_moved clock child (rest.noted v e ∷ es) h = started_moved clock child es h
  started_moved clock child (rest.acts shared v done ∷ es) h = started_moved clock child es h
  started_moved clock child (rest.signs l v ∷ es) h = started_moved clock child es h
  started_moved clock child (rest.enters l v d ∷ es) h = started_moved clock child es h
  started_moved clock child (rest.starts i l v ∷ es) h = (h.0, same.start (child i) ∙ h.1, started_moved clock child es h.2)

-- what the code holds in the later moment, or with tasks taken, is the same run
state_moved : (k : Tables) (job : Job) (input : List ℕ) (t u m : ℕ) (leaving : Option ℕ) (old new : RunState) → t ≤ u → SameTasks old new →
    new.world ≡ moved_world old.world u new.world →
    (c : Refines k job input t m leaving old) → (d : Interleaving k job input u m) → d.cancelled_from ≡ c.interleaving.cancelled_from → d.at ≡ c.interleaving.at →
    turns_taken d.reached ≡ turns_taken c.interleaving.reached → (new.through ≡ u) ⊎ (new.through ≡ suc u) →
    Shares (record new { world = moved_world old.world u new.world }) d.tasks d.at m →
    (x : Refines k job input u m leaving new) × (x.interleaving.at ≡ d.at)
state_moved k job input t u m leaving old new le same world c d cancelled_from at taken through shares =
    subst (λ (w : World). (x : Refines k job input u m leaving (record new { world = w })) × (x.interleaving.at ≡ d.at)) (sym world) (
      record {
        interleaving = d;
        numbers = c.numbers;
        counted = taken ∙ c.counted ∙ sym same.turns;
        clock = c.clock;
        tick = refl;
        in_range = c.in_range;
        small = c.small;
        some = c.some;
        begun = same.start 0 ∙ c.begun;
        unborn = λ s less. (same.task s ∙ (c.unborn s less).0, same.ended_task s ∙ (c.unborn s less).1);
        ended = λ s less e. by_ended s (c.ended s less (sym (same.task s) ∙ e));
        follows = λ s task e.
            subst (λ (f : Table). Follows (there t u m le old new d.at c.numbers same) f input u d.at c.numbers leaving s task) (sym cancelled_from)
            (follows_moved t u m le old new d.at c.numbers same c.interleaving.cancelled_from input leaving s task
            (subst (λ (a : ℕ → Started). Follows old c.interleaving.cancelled_from input t a c.numbers leaving s task) (sym at)
            (c.follows s task (sym (same.task s) ∙ e))));
        owned = λ key o. (let h = c.owned key o in (h.0, opened_there t u m le old new d.at c.numbers same key h.0 h.1));
        apart = λ key s v x y. c.apart key s v (opened_back t u m le old new d.at c.numbers same key s x)
            (opened_back t u m le old new d.at c.numbers same key v y);
        labelled = c.labelled;
        opened = c.opened;
        soon = λ key from e. (let f = c.soon key from e in omega (arith, f, le));
        started = λ s less.
            started_moved t u m le old new d.at c.numbers same old.world.clock (d.at s).child (d.at s).made
            (subst (λ (a : ℕ → Started). AreStarted old.world.clock old.start a (a s).child (a s).made) (sym at) (c.started s less));
        children = λ s less. same.children s ∙ c.children s less ∙ ap (λ (a : ℕ → Started). children_made (a s).child (a s).made) (sym at);
        through = through;
        path_of_root = same.path 0 ∙ c.path_of_root;
        path_of_child = λ s child less i. same.path child ∙ (c.path_of_child s child less (subst (IsAmong child) (same.children s) i)
            ∙ ap (λ (ps : List ℕ). ps ++ child ∷ []) (sym (same.path s)));
        shares = shares;
      },
      refl,
    )
  where
    by_ended : (s : ℕ) → (g : EndedTask) × (old.ended_task s ≡ Some g) × HasEnded old.world.clock c.interleaving.cancelled_from input t (c.interleaving.at s) g
        →
        (g : EndedTask) × (new.ended_task s ≡ Some g) × HasEnded old.world.clock d.cancelled_from input u (d.at s) g
    by_ended s h = (
      h.0,
      same.ended_task s ∙ h.1,
      subst (λ (f : Table). HasEnded old.world.clock f input u (d.at s) h.0) (sym cancelled_from)
          (subst (λ (a : ℕ → Started). HasEnded old.world.clock c.interleaving.cancelled_from input u (a s) h.0) (sym at)
          (record {
            label = h.2.label;
            end = h.2.end;
            stopped = h.2.stopped;
            tick = h.2.tick;
            before = (let e = h.2.before in omega (arith, e, le));
            notes =
                h.2.notes;
            cancelled_from = h.2.cancelled_from;
          })),
    )

-- the clock jumps, where the run does
pub state_jumps : (k : Tables) (job : Job) (input : List ℕ) (t u m : ℕ) (old new : RunState) → t ≤ u → SameTasks old new →
    new.world ≡ moved_world old.world u new.world →
    (c : Refines k job input t m None old) → (r : Reached k job input c.interleaving.cancelled_from u m c.interleaving.tasks) →
    turns_taken r ≡ turns_taken c.interleaving.reached → new.through ≡ u →
    Shares (record new { world = moved_world old.world u new.world }) c.interleaving.tasks c.interleaving.at m → Refines k job input u m None new
state_jumps k job input t u m old new le same world c r taken through shares =
    (state_moved k job input t u m None old new le same world c
    (record {
      cancelled_from = c.interleaving.cancelled_from;
      tasks = c.interleaving.tasks;
      reached = r;
      at = c.interleaving.at;
      has = c.interleaving.has;
      one = c.interleaving.one;
      differ = c.interleaving.differ;
      none = c.interleaving.none;
    })
    refl refl taken (inl through) shares).0

-- and tasks that were started are taken
pub state_takes : (k : Tables) (job : Job) (input : List ℕ) (t m : ℕ) (leaving : Option ℕ) (old new : RunState) → SameTasks old new → SameObjects old new →
    new.world ≡ moved_world old.world t new.world →
    (c : Refines k job input t m leaving old) → (x : Refines k job input t m leaving new) × (x.interleaving.at ≡ c.interleaving.at)
state_takes k job input t m leaving old new same objects world c =
    state_moved k job input t t m leaving old new (omega arith) same world c c.interleaving refl refl refl
    (subst (λ (v : ℕ). (v ≡ t) ⊎ (v ≡ suc t)) (sym objects.through) c.through)
    (shares_kept old (record new { world = moved_world old.world t new.world }) c.interleaving.tasks c.interleaving.at m
    (λ ticket. ap (λ (o : Option Task). waits_by o ticket.since) (same.task ticket.row)) (sym c.tick)
    (record {
      through = objects.through;
      object = objects.object;
      round = objects.round;
      granted = objects.granted;
      grants = objects.grants;
    }) c.shares)

-- what was done in a moment is served
pub state_serves : (k : Tables) (job : Job) (input : List ℕ) (t m : ℕ) (old new : RunState) → SameTasks old new → new.world ≡ old.world →
    (c : Refines k job input t m None old) → new.through ≡ suc t →
    Shares (record new { world = moved_world old.world t new.world }) c.interleaving.tasks c.interleaving.at m → Refines k job input t m None new
state_serves k job input t m old new same world c through shares =
    (state_moved k job input t t m None old new (omega arith) same moved c c.interleaving refl refl refl (inr through) shares).0
  where
    moved : new.world ≡ moved_world old.world t new.world
    moved = world ∙ (λ i. moved_world old.world (c.tick i) (sym world i))
