-- Moves of the code, each by what its method promises, as moves of the definitions. The state is the one with which the method was
-- called; the frames of the task before the move are given apart, since the innermost one was removed first.
use Rattle.std.proofs.Common.{◌≡◌, ◌⊎◌, inl, inr, ℕ, zero, suc, Bool, true, false, Option, Some, None, List, [], ◌∷◌, ◌++◌, map, refl, ap, sym, ◌∙◌, subst}
use Rattle.std.proofs.lemmas.List.{append-nil}
use Rattle.std.proofs.lemmas.List.Elements.{All-nil}
use Rattle.std.proofs.lemmas.Option.{same_Some}
use Rattle.std.specs.Option.{IsSomeAnd, option_map}
use Rattle.input_lines.specs.Part.{buffer_of}
use Rattle.job_tree.specs.Tree.{Steps}
use Rattle.job_tree.specs.declared.object.Ask.{Ask}
use Rattle.cancel_scopes.specs.Sight.{seen, catches}
use Rattle.cancel_scopes.specs.Tree.{Tree, IsChain}
use Rattle.exceptions.specs.declared.exc.Exc as held
use Rattle.exceptions.specs.Held.{exc_of}
use Rattle.exceptions.specs.Exceptions.{Label, Exc}
use Rattle.nursery_book.specs.Nursery.{Nursery as Members, with_body}
use Rattle.nursery_book.specs.Book.{nursery_at, Updates, Changes}
use Rattle.nursery_book.specs.declared.book.NurseryBook.{NurseryBook}
use Rattle.job_meaning.specs.Log.{Table, gives_back, closes}
use Rattle.job_meaning.specs.Moments.{a_round_after}
use Rattle.job_meaning.specs.declared.clock.Clock.{Clock}
use Rattle.job_meaning.specs.declared.clock.Clock.TheVariants.{ByTicks as by_ticks, ByRounds as by_rounds}
use Rattle.job_meaning.specs.Walk.{left_with, from_for, stack_for}
use Rattle.job_meaning.specs.Walk as meaning
use Rattle.job_meaning.specs.Rest as rest
use Rattle.job_meaning.specs.Rest.{Stopped, awaiting, at_end}
use Rattle.turn_semantics.specs.Midway.{Place, Begun, Move, label_among, stack_at}
use Rattle.turn_semantics.specs.Placed.{Placed}
use Rattle.turn_semantics.specs.Steps.{onward, makes, sleeps, falls_asleep, waits_on, asks_of, acts_on, gives_token_back, home_among, signs_to, signs_home, leaves, ends_as, cancelled_from_after, step_frames}
use Rattle.task_machine.specs.declared.entry.Entry.{Entry}
use Rattle.task_machine.specs.declared.frame.Frame.{Frame}
use Rattle.task_machine.specs.declared.frame.Frame.TheVariants.{Scope, Event, Nursery}
use Rattle.block_exits.specs.declared.kind.Kind.TheVariants as kind
use Rattle.task_machine.specs.declared.stop.TaskState.{TaskState}
use Rattle.task_machine.specs.declared.stop.TaskState.TheVariants.{Awaits, Over}
use Rattle.task_machine.specs.declared.stop.Moved.{Moved}
use Rattle.task_machine.specs.declared.stop.Moved.TheVariants.{On, Stops}
use Rattle.task_machine.specs.declared.stop.Stop.TheVariants.{Wait, Ended}
use Rattle.task_machine.specs.Acts.{Acts, no_act, act_shared, Leaves, scoping_in}
use Rattle.task_machine.specs.Entered.{CancelsAt, SetsAt, ClosesAt}
use Rattle.task_machine.specs.Exits.{ExitsFrom, ExitsAt, LeavesEventAt, FailsAt}
use Rattle.task_machine.specs.Fitting.{Block, a_scope, a_nursery, blocks_of}
use Rattle.task_machine.specs.Frames.{frames_of, lent_by}
use Rattle.task_machine.specs.Noted.{IsSlice, shown_made, AreNoted}
use Rattle.task_machine.specs.Labels.{Events, scope_named}
use Rattle.task_machine.specs.declared.serving.ObjectAct.{ObjectAct}
use Rattle.task_machine.specs.declared.serving.Act.TheVariants.{GivesBack}
use Rattle.task_machine.specs.Serving.{acted_of, acts_to_serve}
use Rattle.task_machine.specs.Stacked.{AreAt, AwaitsEvent}
use Rattle.task_machine.specs.Standing.{HasBlock, HasNurseryOf, waits_by, Stands, AreBegun, ChangesNurseries, Took, with_frames}
use Rattle.task_machine.specs.States.{State, here_at, now_at, scope_at, stack_in, lent_at}
use Rattle.task_machine.specs.Stops.{Numbers, MovesAs, OwnAfter}
use Rattle.task_machine.proofs.Acting.{WaitsNot, waits_not, WaitsElse, waits_else, no_acts, found_signed, home_signed, found_set, closed_acts, left_acts}
use Rattle.task_machine.proofs.Cancelled.{own_same, own_signed, ends_none}
use Rattle.task_machine.proofs.Cancels.{found_open}
use Rattle.task_machine.proofs.FrameLemmas.{frames_pushed}
use Rattle.task_machine.proofs.Nurseries.{has_more, has_last, has_either, blocks_pushed, change_of, nurseries_same, nurseries_put, body_grown}
use Rattle.task_machine.proofs.Served.{unacted, unserved, signs_unserved, home_unserved, acted_last}
use Rattle.task_machine.proofs.Stacked.{named_at}

-- ---- what is not shown, and what stays

-- a sign is not shown
quiet_signs : (clock : Clock) (input : List ℕ) (label : Option Label) (t : ℕ) → shown_made clock input (signs_to label t) ≡ []
quiet_signs clock input None t = refl
quiet_signs clock input (Some l) t = refl

-- the sign of a task or body that fails is not shown
quiet_home : (clock : Clock) (input : List ℕ) (exc : Option Exc) (ps : List Place) (t : ℕ) →
    shown_made clock input (signs_home exc ps t) ≡ []
quiet_home clock input None ps t = refl
quiet_home clock input (Some e) ps t = quiet_signs clock input (home_among ps) t

-- nothing was noted for these events
pub none_noted : (clock : Clock) (input : List ℕ) (made : List rest.Event) → shown_made clock input made ≡ [] → AreNoted clock input [] made
none_noted clock input made quiet = record { shown = sym quiet; slices = All-nil (IsSlice input) }

-- The book and the started tasks stay as they are, and the task, whose frames were these, has the same nurseries as before. It noted
-- these entries.
pub record IsQuiet (b : State) (whole : List Frame) (u : State) (entries : List Entry) : Type 0 where
  pub book : u.book ≡ b.book
  pub started : u.started ≡ b.started
  pub noted : u.entries ≡ b.entries ++ entries
  pub kept : (id : ℕ) → HasBlock id (blocks_of whole) → HasBlock id (blocks_of u.frames)
  pub back : (id : ℕ) → HasBlock id (blocks_of u.frames) → HasBlock id (blocks_of whole)

-- nothing was noted, and the task has the same blocks
pub quiet_by : (b : State) (whole : List Frame) (u : State) → u.book ≡ b.book → u.started ≡ b.started → u.entries ≡ b.entries →
    blocks_of u.frames ≡ blocks_of whole → IsQuiet b whole u []
quiet_by b whole u book started entries same =
    record {
      book = book;
      started = started;
      noted = entries ∙ sym (append-nil b.entries);
      kept = λ id has. subst (λ (bs : List Block). HasBlock id bs) (sym same) has;
      back = λ id has. subst (λ (bs : List Block). HasBlock id bs) same has;
    }

-- what a sleep leaves as it is
pub record LeavesAlone (o : Move) (fs : List rest.Frame) (ps : List Place) : Type 0 where
  pub frames : o.frames ≡ fs
  pub places : o.places ≡ ps
  pub made : o.made ≡ []
  pub begun : o.begun ≡ []
  pub waits : WaitsNot o.stopped

falls_alone : (clock : Clock) (b paced : Bool) (n t : ℕ) (fs : List rest.Frame) (ps : List Place) →
    LeavesAlone (falls_asleep clock b paced n t fs ps) fs ps
falls_alone by_ticks true paced n t fs ps = record { frames = refl; places = refl; made = refl; begun = refl; waits = tt }
falls_alone by_ticks false paced zero t fs ps = record { frames = refl; places = refl; made = refl; begun = refl; waits = tt }
falls_alone by_ticks false paced (suc n) t fs ps = record { frames = refl; places = refl; made = refl; begun = refl; waits = tt }
falls_alone by_rounds b paced n t fs ps = record { frames = refl; places = refl; made = refl; begun = refl; waits = tt }

-- a sleep waits for no event
falls_else : (clock : Clock) (b paced : Bool) (n t : ℕ) (fs : List rest.Frame) (ps : List Place) →
    WaitsElse (falls_asleep clock b paced n t fs ps).stopped
falls_else by_ticks true paced n t fs ps = tt
falls_else by_ticks false paced zero t fs ps = tt
falls_else by_ticks false paced (suc n) t fs ps = tt
falls_else by_rounds b paced n t fs ps = tt

-- and a wait for an event leaves as much as it is
waits_alone : (o : Option Label) (name : List ℕ) (t : ℕ) (fs : List rest.Frame) (ps : List Place) →
    LeavesAlone (waits_on o name t fs ps) fs ps
waits_alone None name t fs ps = record { frames = refl; places = refl; made = refl; begun = refl; waits = tt }
waits_alone (Some l) name t fs ps = record { frames = refl; places = refl; made = refl; begun = refl; waits = tt }

-- and so does a task that asks a limiter or channel, or does not ask it
asks_alone : (clock : Clock) (o : Option Label) (b : Bool) (name : List ℕ) (a : Ask) (t : ℕ) (body : Steps) (fs : List rest.Frame) (ps : List Place) →
    LeavesAlone (asks_of clock o b name a t body fs ps) fs ps
asks_alone clock None b name a t body fs ps = record { frames = refl; places = refl; made = refl; begun = refl; waits = tt }
asks_alone clock (Some l) false name a t body fs ps = record { frames = refl; places = refl; made = refl; begun = refl; waits = tt }
asks_alone by_ticks (Some l) true name a t body fs ps = record { frames = refl; places = refl; made = refl; begun = refl; waits = tt }
asks_alone by_rounds (Some l) true name a t body fs ps = record { frames = refl; places = refl; made = refl; begun = refl; waits = tt }

-- a scope frame has a place, which is no event, so the list of places is not empty
by_place : (P : List Place → Type 0) (fail : Bool) (gs : List rest.Frame) (ps : List Place) → Placed (rest.in_scope fail ∷ gs) ps →
    ((p : Place) (qs : List Place) → ps ≡ p ∷ qs → p.is_event ≡ false → P (p ∷ qs)) → P ps
by_place P fail gs [] placed go = absurd placed
by_place P fail gs (p ∷ ps) placed go = go p ps refl placed.0

-- an event frame has a place
by_event_place : (P : List Place → Type 0) (gs : List rest.Frame) (ps : List Place) → Placed (rest.in_event ∷ gs) ps →
    ((p : Place) (qs : List Place) → ps ≡ p ∷ qs → P (p ∷ qs)) → P ps
by_event_place P gs [] placed go = absurd placed
by_event_place P gs (p ∷ ps) placed go = go p ps refl

-- a nursery frame has a place, so the list of places is not empty
by_nursery_place : (P : List Place → Type 0) (kids : List ℕ) (gs : List rest.Frame) (ps : List Place) →
    Placed (rest.in_nursery kids ∷ gs) ps →
    ((p : Place) (qs : List Place) → ps ≡ p ∷ qs → P (p ∷ qs)) → P ps
by_nursery_place P kids gs [] placed go = absurd placed
by_nursery_place P kids gs (p ∷ ps) placed go = go p ps refl

-- ---- moves from a state whose task had these frames

module _ (b : State) (whole : List Frame) (cancelled_from : Table) (numbers : Numbers) (stopped : Option Stopped) (ps : List Place)
    (stands : Stands (with_frames b whole) cancelled_from numbers stopped ps) where
  -- any move that leaves the book as it is, and starts nothing, is a move of the definitions if its parts correspond
  pub took_quiet : (u : State) (goes : Moved) (o : Move) (entries : List Entry) → IsQuiet b whole u entries →
      AreNoted b.clock (buffer_of b.part) entries o.made → o.begun ≡ [] → frames_of numbers u.frames ≡ o.frames →
      AreAt u.labels u.events (cancelled_from_after cancelled_from o.made) (stack_in u) o.places →
      AwaitsEvent u.labels (stack_in u) o.stopped u.task_state o.places → MovesAs b.clock numbers u.book (lent_at u) goes u.task_state o →
      waits_by goes u.task_state ≡ None → Acts b.tick (scoping_in b) o.made (scoping_in u) →
      OwnAfter b.clock b.cancelled u.cancelled o.made o.stopped → map acted_of u.acts ≡ map acted_of b.acts ++ acts_to_serve o.made →
      Took (with_frames b whole) u goes cancelled_from numbers o
  took_quiet u goes o entries quiet shown none gs at event moves waits acts own served =
      record {
        numbers_after = numbers;
        frames_after = gs;
        places = at;
        event = event;
        moves = moves;
        entries = entries;
        noted = quiet.noted;
        shown = shown;
        tasks = [];
        started = quiet.started ∙ sym (append-nil b.started);
        begun =
            subst (λ (bs : List Begun). AreBegun b.clock (a_round_after b.clock b.tick) numbers u.book (blocks_of u.frames)
            (waits_by goes u.task_state) [] bs)
            (sym none) tt;
        last = ends_none goes u.task_state u.book waits;
        nurseries =
            subst (λ (bs : List Begun). ChangesNurseries (with_frames b whole) u (waits_by goes u.task_state) numbers numbers [] bs) (sym none)
            (nurseries_same (with_frames b whole) u (waits_by goes u.task_state) numbers waits quiet.book quiet.kept quiet.back
            stands.numbered);
        acts = acts;
        served = served;
        own = own;
      }

  -- the task stops, or continues, with other frames of the same blocks and another blocked state
  pub took_task_states : (fs : List Frame) (h : TaskState) (goes : Moved) (o : Move) → blocks_of fs ≡ blocks_of whole →
      o.frames ≡ frames_of numbers fs → o.places ≡ ps → o.made ≡ [] → o.begun ≡ [] → WaitsNot o.stopped →
      MovesAs b.clock numbers b.book (lent_by b.part fs) goes h o → AwaitsEvent b.labels (stack_in b) o.stopped h o.places →
      Took (with_frames b whole) (record b { frames = fs; task_state = h }) goes cancelled_from numbers o
  took_task_states fs h goes o same gs around made none not moves event =
      let u : State = record b { frames = fs; task_state = h } in
      took_quiet u goes o [] (quiet_by b whole u refl refl refl same)
      (none_noted b.clock (buffer_of b.part) o.made (ap (λ (es : List rest.Event). shown_made b.clock (buffer_of b.part) es) made)) none
      (sym gs) at event moves
      (waits_not b.clock numbers b.book (lent_by b.part fs) goes h o not moves) (no_acts b.tick (scoping_in b) (scoping_in b) o.made made refl)
      (own_same b.clock b.cancelled b.cancelled o.made o.stopped made refl)
      (unserved b.acts b.acts o.made (ap (λ (es : List rest.Event). acts_to_serve es) made) refl)
    where
      at : AreAt b.labels b.events (cancelled_from_after cancelled_from o.made) (stack_in b) o.places
      at =
          subst (λ (es : List rest.Event). AreAt b.labels b.events (cancelled_from_after cancelled_from es) (stack_in b) o.places) (sym made)
          (subst (λ (qs : List Place). AreAt b.labels b.events cancelled_from (stack_in b) qs) (sym around) stands.places)

  -- the task continues: at the end of a block, at a `try`, its handler or its cleanup, and where it raises
  pub took_onward : (fs : List Frame) (exc : Option held.Exc) (o : Move) → blocks_of fs ≡ blocks_of whole →
      o ≡ onward (frames_of numbers fs) ps (option_map exc_of exc) →
      Took (with_frames b whole) (with_frames b fs) (On exc) cancelled_from numbers o
  took_onward fs exc o same is =
      subst (λ (m : Move). Took (with_frames b whole) (with_frames b fs) (On exc) cancelled_from numbers m) (sym is)
      (took_task_states fs b.task_state (On exc) (onward (frames_of numbers fs) ps (option_map exc_of exc)) same refl refl refl refl tt
      (refl, refl) tt)

  -- a task that stops or continues as the sleep of the definitions does makes that move
  pub took_sleep : (h : TaskState) (goes : Moved) (paced : Bool) (ticks : ℕ) → blocks_of b.frames ≡ blocks_of whole →
      (AreAt b.labels b.events cancelled_from (stack_in b) ps →
      MovesAs b.clock numbers b.book (lent_at b) goes h (sleeps b.clock cancelled_from paced ticks b.tick (frames_of numbers b.frames) ps)) →
      Took (with_frames b whole) (record b { task_state = h }) goes cancelled_from numbers
      (sleeps b.clock cancelled_from paced ticks b.tick (frames_of numbers b.frames) ps)
  took_sleep h goes paced ticks same sleep =
      let gs = frames_of numbers b.frames in
      let alone : LeavesAlone (sleeps b.clock cancelled_from paced ticks b.tick gs ps) gs ps = falls_alone b.clock _ paced ticks b.tick gs ps in
      took_task_states b.frames h goes
      (sleeps b.clock cancelled_from paced ticks b.tick gs ps) same alone.frames alone.places alone.made alone.begun alone.waits
      (sleep stands.places)
      (waits_else b.labels (stack_in b) (sleeps b.clock cancelled_from paced ticks b.tick gs ps).stopped h
      (sleeps b.clock cancelled_from paced ticks b.tick gs ps).places (falls_else b.clock _ paced ticks b.tick gs ps))

  -- a task that stops or continues as the wait of the definitions does makes that move
  pub took_wait : (h : TaskState) (goes : Moved) (name : List ℕ) → blocks_of b.frames ≡ blocks_of whole →
      (AreAt b.labels b.events cancelled_from (stack_in b) ps →
      MovesAs b.clock numbers b.book (lent_at b) goes h (waits_on (label_among true name ps) name b.tick (frames_of numbers b.frames) ps)
      × AwaitsEvent b.labels (stack_in b) (waits_on (label_among true name ps) name b.tick (frames_of numbers b.frames) ps).stopped h ps) →
      Took (with_frames b whole) (record b { task_state = h }) goes cancelled_from numbers
      (waits_on (label_among true name ps) name b.tick (frames_of numbers b.frames) ps)
  took_wait h goes name same wait =
      let gs = frames_of numbers b.frames in
      let o : Move = waits_on (label_among true name ps) name b.tick gs ps in
      let alone : LeavesAlone o gs ps = waits_alone (label_among true name ps) name b.tick gs ps in
      let both = wait stands.places in
      took_task_states b.frames h goes o same alone.frames alone.places alone.made alone.begun alone.waits both.0
      (subst (λ (qs : List Place). AwaitsEvent b.labels (stack_in b) o.stopped h qs) (sym alone.places) both.1)

  -- and so does one that stops or continues as a task of the definitions does that asks a limiter or channel
  pub took_ask : (h : TaskState) (goes : Moved) (name : List ℕ) (a : Ask) (body : Steps) → blocks_of b.frames ≡ blocks_of whole →
      (let o = asks_of b.clock (label_among true name ps) (seen (stack_for b.cancelled b.tick (stack_at cancelled_from ps).scopes) b.tick) name a b.tick body
      (frames_of numbers b.frames) ps in
      (AreAt b.labels b.events cancelled_from (stack_in b) ps →
      MovesAs b.clock numbers b.book (lent_at b) goes h o × AwaitsEvent b.labels (stack_in b) o.stopped h ps) →
      Took (with_frames b whole) (record b { task_state = h }) goes cancelled_from numbers o)
  took_ask h goes name a body same ask =
      let gs = frames_of numbers b.frames in
      let sees : Bool = seen (stack_for b.cancelled b.tick (stack_at cancelled_from ps).scopes) b.tick in
      let o : Move = asks_of b.clock (label_among true name ps) sees name a b.tick body gs ps in
      let alone : LeavesAlone o gs ps = asks_alone b.clock (label_among true name ps) sees name a b.tick body gs ps in
      let both = ask stands.places in
      took_task_states b.frames h goes o same alone.frames alone.places alone.made alone.begun alone.waits both.0
      (subst (λ (qs : List Place). AwaitsEvent b.labels (stack_in b) o.stopped h qs) (sym alone.places) both.1)

  -- a scope of a name is cancelled
  pub took_cancel : (tree : Tree) (cancelled : List Label) (name : List ℕ) → blocks_of b.frames ≡ blocks_of whole →
      CancelsAt b (record b { tree = tree; cancelled = cancelled }) name →
      Took (with_frames b whole) (record b { tree = tree; cancelled = cancelled }) (On None) cancelled_from numbers
      (makes (signs_to (label_among false name ps) b.tick) (frames_of numbers b.frames) ps)
  took_cancel tree cancelled name same cancels =
      let made = signs_to (label_among false name ps) b.tick in
      let u : State = record b { tree = tree; cancelled = cancelled } in
      let at = cancels.1 cancelled_from ps stands.own stands.places in
      took_quiet u (On None) (makes made (frames_of numbers b.frames) ps) [] (quiet_by b whole u refl refl refl same)
      (none_noted b.clock (buffer_of b.part) made (quiet_signs b.clock (buffer_of b.part) (label_among false name ps) b.tick)) refl refl
      at.0 tt (refl, refl) refl
      (found_signed b.tick (scoping_in b) tree name cancelled_from (stack_in b) ps stands.places cancels.0)
      (at.1 ∙ own_signed b.clock b.cancelled (label_among false name ps) b.tick)
      (unserved b.acts b.acts made (signs_unserved (label_among false name ps) b.tick) refl)

  -- an event of a name is set
  pub took_set : (events : Events) (set : List ℕ) (cancelled : List Label) (name : List ℕ) → IsChain b.tree →
      blocks_of b.frames ≡ blocks_of whole → SetsAt b (record b { events = events; set = set; cancelled = cancelled }) name →
      Took (with_frames b whole) (record b { events = events; set = set; cancelled = cancelled }) (On None) cancelled_from numbers
      (makes (signs_to (label_among true name ps) b.tick) (frames_of numbers b.frames) ps)
  took_set events set cancelled name chain same sets =
      let made = signs_to (label_among true name ps) b.tick in
      let u : State = record b { events = events; set = set; cancelled = cancelled } in
      let at = sets.1 cancelled_from ps stands.own stands.places in
      took_quiet u (On None) (makes made (frames_of numbers b.frames) ps) [] (quiet_by b whole u refl refl refl same)
      (none_noted b.clock (buffer_of b.part) made (quiet_signs b.clock (buffer_of b.part) (label_among true name ps) b.tick)) refl refl
      at.0 tt (refl, refl) refl
      (found_set b events set cancelled (scope_named true b.labels b.events name (stack_in b)) (label_among true name ps)
      (named_at true b.labels b.events cancelled_from name (stack_in b) ps stands.places)
      (λ key e. found_open true b.labels b.events b.tree name (scope_at b) key chain e) sets.0)
      (at.1 ∙ own_signed b.clock b.cancelled (label_among true name ps) b.tick)
      (unserved b.acts b.acts made (signs_unserved (label_among true name ps) b.tick) refl)

  -- a channel of a name is closed
  pub took_close : (more : List ObjectAct) (name : List ℕ) → blocks_of b.frames ≡ blocks_of whole → ClosesAt b (record b { acts = more }) name →
      Took (with_frames b whole) (record b { acts = more }) (On None) cancelled_from numbers
      (makes (acts_on (label_among true name ps) b.tick closes) (frames_of numbers b.frames) ps)
  took_close more name same closed = by_label (label_among true name ps) (closed cancelled_from ps stands.places)
    where
      u : State
      u = record b { acts = more }

      by_label : (o : Option Label) → map acted_of more ≡ map acted_of b.acts ++ acts_to_serve (acts_on o b.tick closes) →
          Took (with_frames b whole) u (On None) cancelled_from numbers (makes (acts_on o b.tick closes) (frames_of numbers b.frames) ps)
      by_label None served =
          took_quiet u (On None) (makes [] (frames_of numbers b.frames) ps) [] (quiet_by b whole u refl refl refl same)
          (none_noted b.clock (buffer_of b.part) [] refl) refl refl stands.places tt (refl, refl) refl (no_act (scoping_in b)) refl served
      by_label (Some l) served =
          took_quiet u (On None) (makes (rest.acts l b.tick closes ∷ []) (frames_of numbers b.frames) ps) [] (quiet_by b whole u refl refl refl same)
          (none_noted b.clock (buffer_of b.part) (rest.acts l b.tick closes ∷ []) refl) refl refl stands.places tt (refl, refl) refl
          (act_shared (scoping_in b) (scoping_in b) l b.tick closes [] (no_act (scoping_in b))) refl served

  -- the block of an `acquire` has ended, and its token comes back
  pub took_token_back : (limiter : Label) (exc : Option held.Exc) → blocks_of b.frames ≡ blocks_of whole →
      Took (with_frames b whole) (record b { acts = b.acts ++ record { object = limiter; act = GivesBack } ∷ [] }) (On exc) cancelled_from numbers
      (gives_token_back limiter b.tick (frames_of numbers b.frames) ps (option_map exc_of exc))
  took_token_back limiter exc same =
      let back : ObjectAct = record { object = limiter; act = GivesBack } in
      let u : State = record b { acts = b.acts ++ back ∷ [] } in
      let made : List rest.Event = rest.acts limiter b.tick gives_back ∷ [] in
      took_quiet u (On exc) (gives_token_back limiter b.tick (frames_of numbers b.frames) ps (option_map exc_of exc)) []
      (quiet_by b whole u refl refl refl same) (none_noted b.clock (buffer_of b.part) made refl) refl refl stands.places tt (refl, refl) refl
      (act_shared (scoping_in b) (scoping_in b) limiter b.tick gives_back [] (no_act (scoping_in b))) refl (acted_last b.acts back)

  -- the task ends, with no frame left
  pub took_end : (tree : Tree) (exc : Option held.Exc) → whole ≡ [] → b.frames ≡ [] →
      (let u : State = record b { task_state = Over; tree = tree } in FailsAt b u (option_map exc_of exc) →
      Took (with_frames b whole) u (Stops (Ended exc)) cancelled_from numbers
      (ends_as (at_end b.tick (option_map exc_of exc)) (option_map exc_of exc) b.tick [] ps))
  took_end tree exc empty left fails =
      let e = option_map exc_of exc in
      let u : State = record b { task_state = Over; tree = tree } in
      took_quiet u (Stops (Ended exc)) (ends_as (at_end b.tick e) e b.tick [] ps) []
      (quiet_by b whole u refl refl refl (ap blocks_of (left ∙ sym empty)))
      (none_noted b.clock (buffer_of b.part) (signs_home e ps b.tick) (quiet_home b.clock (buffer_of b.part) e ps b.tick)) refl
      (ap (frames_of numbers) left)
      (fails.1 cancelled_from ps stands.own stands.places) tt (refl, (tt, refl)) refl
      (home_signed b.tick (scoping_in b) tree e cancelled_from (stack_in b) ps stands.places fails.0) tt
      (unserved b.acts b.acts (signs_home e ps b.tick) (home_unserved e ps b.tick) refl)

  -- ---- blocks that are left

  -- A block is left that is enclosed by these places. The nursery, if it is one, was removed from the book before.
  pub took_leaves : (u : State) (book : NurseryBook) (k : meaning.Kind) (exc : Option Exc) (goes : Option held.Exc) (p : Place)
      (qs : List Place) →
      ExitsFrom (record b { book = book }) u k (left_with (catches (from_for b.cancelled b.tick p.label (cancelled_from p.label)) p.shield
      (stack_for b.cancelled b.tick (stack_at cancelled_from qs).scopes) b.tick) exc)
      (option_map exc_of goes) cancelled_from p qs →
      u.started ≡ b.started → u.cancelled ≡ b.cancelled → u.acts ≡ b.acts →
      ChangesNurseries (with_frames b whole) u None numbers numbers [] [] → Leaves (scoping_in b) (scoping_in u) →
      Took (with_frames b whole) u (On goes) cancelled_from numbers (leaves b.clock cancelled_from (now_at b) k (frames_of numbers u.frames) p qs exc)
  took_leaves u book k exc goes p qs x started cancelled undone nurseries one =
      record {
        numbers_after = numbers;
        frames_after = refl;
        places = x.around;
        event = tt;
        moves = (x.exc, refl);
        entries = x.entry ∷ [];
        noted = x.entries;
        shown = x.shown;
        tasks = [];
        started = started ∙ sym (append-nil b.started);
        begun = tt;
        last = tt;
        nurseries = nurseries;
        acts = left_acts b.tick (scoping_in b) (scoping_in u) b.tick _ one;
        served = unacted b.acts u.acts undone;
        own = cancelled;
      }

-- ---- moves of a task that is in the middle of its turn

module _ (b : State) (whole : List Frame) (cancelled_from : Table) (numbers : Numbers) (ps : List Place)
    (stands : Stands (with_frames b whole) cancelled_from numbers None ps) where
  -- the innermost scope is left
  pub took_exit : (u : State) (fail : Bool) (exc goes : Option held.Exc) (count : ℕ) → whole ≡ b.frames ++ Scope fail ∷ [] →
      u.frames ≡ b.frames → u.book ≡ b.book → u.started ≡ b.started → u.cancelled ≡ b.cancelled → u.acts ≡ b.acts →
      ExitsAt b u (kind.Scope fail) (option_map exc_of exc) (option_map exc_of goes) → Leaves (scoping_in b) (scoping_in u) →
      Took (with_frames b whole) u (On goes) cancelled_from numbers
      (step_frames cancelled_from (now_at b) (here_at b) (rest.in_scope fail ∷ frames_of numbers b.frames) ps (option_map exc_of exc) count)
  took_exit u fail exc goes count popped left book started cancelled undone exits one =
      by_place (λ (qs : List Place). Took (with_frames b whole) u (On goes) cancelled_from numbers
      (step_frames cancelled_from (now_at b) (here_at b) (rest.in_scope fail ∷ gs) qs e count)) fail gs ps
      (subst (λ (hs : List rest.Frame). Placed hs ps) (frames_pushed numbers b.frames whole (Scope fail) popped) stands.placed) at_place
    where
      e : Option Exc
      e = option_map exc_of exc

      gs : List rest.Frame
      gs = frames_of numbers b.frames

      same : blocks_of whole ≡ blocks_of b.frames ++ a_scope ∷ []
      same = blocks_pushed b.frames whole (Scope fail) popped

      kept : (id : ℕ) → HasBlock id (blocks_of whole) → HasBlock id (blocks_of u.frames)
      kept id has = by_either (has_either id (blocks_of b.frames) (a_scope ∷ []) (subst (λ (bs : List Block). HasBlock id bs) same has))
        where
          by_either : HasBlock id (blocks_of b.frames) ⊎ ⊥ → HasBlock id (blocks_of u.frames)
          by_either (inl h) = subst (λ (fs : List Frame). HasBlock id (blocks_of fs)) (sym left) h
          by_either (inr h) = absurd h

      back : (id : ℕ) → HasBlock id (blocks_of u.frames) → HasBlock id (blocks_of whole)
      back id has =
          subst (λ (bs : List Block). HasBlock id bs) (sym same)
          (has_more id (blocks_of b.frames) (a_scope ∷ []) (subst (λ (fs : List Frame). HasBlock id (blocks_of fs)) left has))

      at_place : (p : Place) (qs : List Place) → ps ≡ p ∷ qs → p.is_event ≡ false →
          Took (with_frames b whole) u (On goes) cancelled_from numbers
          (leaves b.clock cancelled_from (now_at b) (meaning.a_scope fail) gs p qs e)
      at_place p qs is scope =
          subst (λ (fs : List Frame). Took (with_frames b whole) u (On goes) cancelled_from numbers
          (leaves b.clock cancelled_from (now_at b) (meaning.a_scope fail) (frames_of numbers fs) p qs e)) left
          (took_leaves b whole cancelled_from numbers None ps stands u b.book (meaning.a_scope fail) e goes p qs
          (exits cancelled_from p qs scope (subst (λ (rs : List Place). AreAt b.labels b.events cancelled_from (stack_in b) rs) is stands.places)) started cancelled undone
          (nurseries_same (with_frames b whole) u None numbers refl book kept back stands.numbered) one)

  -- the innermost event is left
  pub took_event_left : (u : State) (exc : Option held.Exc) (count : ℕ) → whole ≡ b.frames ++ Event ∷ [] →
      u ≡ record b { own = u.own; cancelled_from = u.cancelled_from; tree = u.tree; labels = u.labels; events = u.events } →
      LeavesEventAt b u → Leaves (scoping_in b) (scoping_in u) →
      Took (with_frames b whole) u (On exc) cancelled_from numbers
      (step_frames cancelled_from (now_at b) (here_at b) (rest.in_event ∷ frames_of numbers b.frames) ps (option_map exc_of exc) count)
  took_event_left u exc count popped stays left one =
      by_event_place (λ (qs : List Place). Took (with_frames b whole) u (On exc) cancelled_from numbers
      (step_frames cancelled_from (now_at b) (here_at b) (rest.in_event ∷ gs) qs e count)) gs ps
      (subst (λ (hs : List rest.Frame). Placed hs ps) (frames_pushed numbers b.frames whole Event popped) stands.placed) at_place
    where
      e : Option Exc
      e = option_map exc_of exc

      gs : List rest.Frame
      gs = frames_of numbers b.frames

      same : u.frames ≡ b.frames
      same = ap (λ (s : State). s.frames) stays

      blocks : blocks_of whole ≡ blocks_of b.frames ++ a_scope ∷ []
      blocks = blocks_pushed b.frames whole Event popped

      kept : (id : ℕ) → HasBlock id (blocks_of whole) → HasBlock id (blocks_of u.frames)
      kept id has = by_either (has_either id (blocks_of b.frames) (a_scope ∷ []) (subst (λ (bs : List Block). HasBlock id bs) blocks has))
        where
          by_either : HasBlock id (blocks_of b.frames) ⊎ ⊥ → HasBlock id (blocks_of u.frames)
          by_either (inl h) = subst (λ (fs : List Frame). HasBlock id (blocks_of fs)) (sym same) h
          by_either (inr h) = absurd h

      back : (id : ℕ) → HasBlock id (blocks_of u.frames) → HasBlock id (blocks_of whole)
      back id has =
          subst (λ (bs : List Block). HasBlock id bs) (sym blocks)
          (has_more id (blocks_of b.frames) (a_scope ∷ []) (subst (λ (fs : List Frame). HasBlock id (blocks_of fs)) same has))

      at_place : (p : Place) (qs : List Place) → ps ≡ p ∷ qs → Took (with_frames b whole) u (On exc) cancelled_from numbers (onward gs qs e)
      at_place p qs is =
          took_quiet b whole cancelled_from numbers None ps stands u (On exc) (onward gs qs e) []
          (record {
            book = ap (λ (s : State). s.book) stays;
            started = ap (λ (s : State). s.started) stays;
            noted = ap (λ (s : State). s.entries) stays ∙ sym (append-nil b.entries);
            kept = kept;
            back = back;
          })
          (none_noted b.clock (buffer_of b.part) [] refl) refl (ap (frames_of numbers) same)
          (left cancelled_from p qs (subst (λ (rs : List Place). AreAt b.labels b.events cancelled_from (stack_in b) rs) is stands.places)) tt (refl, refl) refl
          (closed_acts b.tick (scoping_in b) (scoping_in u) one) (ap (λ (s : State). s.cancelled) stays)
          (unacted b.acts u.acts (ap (λ (s : State). s.acts) stays))

  -- the body of the innermost nursery has ended
  pub took_body : (id : ℕ) (exc : Option held.Exc) (tree : Tree) (book : NurseryBook) (count : ℕ) →
      whole ≡ b.frames ++ Nursery id ∷ [] → Changes b.book book id (with_body (option_map exc_of exc) b.tick) →
      (let u : State = record b { task_state = Awaits id b.tick; tree = tree; book = book } in FailsAt b u (option_map exc_of exc) →
      Took (with_frames b whole) u (Stops (Wait id)) cancelled_from numbers
      (step_frames cancelled_from (now_at b) (here_at b) (rest.in_nursery (numbers id) ∷ frames_of numbers b.frames) ps
      (option_map exc_of exc) count))
  took_body id exc tree book count popped changes fails =
      by_nursery_place (λ (qs : List Place). Took (with_frames b whole) u (Stops (Wait id)) cancelled_from numbers
      (step_frames cancelled_from (now_at b) (here_at b) (rest.in_nursery (numbers id) ∷ gs) qs e count)) (numbers id) gs ps
      (subst (λ (hs : List rest.Frame). Placed hs ps) (frames_pushed numbers b.frames whole (Nursery id) popped) stands.placed) at_place
    where
      e : Option Exc
      e = option_map exc_of exc

      u : State
      u = record b { task_state = Awaits id b.tick; tree = tree; book = book }

      gs : List rest.Frame
      gs = frames_of numbers b.frames

      same : blocks_of whole ≡ blocks_of b.frames ++ a_nursery id ∷ []
      same = blocks_pushed b.frames whole (Nursery id) popped

      c : (n : Members) × (nursery_at b.book id ≡ Some n) × Updates b.book book id (Some (with_body e b.tick n))
      c = change_of b.book book id (with_body e b.tick) changes

      innermost : HasBlock id (blocks_of whole)
      innermost = subst (λ (bs : List Block). HasBlock id bs) (sym same) (has_last id (blocks_of b.frames) (a_nursery id ∷ []) (inl refl))

      kept : (key : ℕ) → HasBlock key (blocks_of whole) → HasNurseryOf key (blocks_of b.frames) (Some id)
      kept key has = by_either (has_either key (blocks_of b.frames) (a_nursery id ∷ []) (subst (λ (bs : List Block). HasBlock key bs) same has))
        where
          by_either : HasBlock key (blocks_of b.frames) ⊎ ((key ≡ id) ⊎ ⊥) → HasNurseryOf key (blocks_of b.frames) (Some id)
          by_either (inl h) = inl h
          by_either (inr (inl f)) = inr (ap (λ (k : ℕ). Some k) (sym f))
          by_either (inr (inr h)) = absurd h

      back : (key : ℕ) → HasNurseryOf key (blocks_of b.frames) (Some id) → HasBlock key (blocks_of whole)
      back key (inl has) =
          subst (λ (bs : List Block). HasBlock key bs) (sym same) (has_more key (blocks_of b.frames) (a_nursery id ∷ []) has)
      back key (inr has) = subst (λ (k : ℕ). HasBlock k (blocks_of whole)) (same_Some id key has) innermost

      nurseries : ChangesNurseries (with_frames b whole) u (Some id) numbers numbers [] []
      nurseries =
          nurseries_put (with_frames b whole) u (Some id) numbers id c.0 (with_body e b.tick c.0) c.1 c.2 innermost back numbers [] []
          (body_grown c.0 e b.tick (numbers id)) (λ key differs. refl) (λ long. long) kept
          (λ key index number has at. inl (back key has, at))
          stands.numbered

      at_place : (p : Place) (qs : List Place) → ps ≡ p ∷ qs → Took (with_frames b whole) u (Stops (Wait id)) cancelled_from numbers
          (ends_as (awaiting (numbers id) b.tick e) e b.tick gs (p ∷ qs))
      at_place p qs is =
          record {
            numbers_after = numbers;
            frames_after = refl;
            places =
                subst (λ (rs : List Place). AreAt b.labels b.events (cancelled_from_after cancelled_from (signs_home e rs b.tick)) (stack_in u) rs) is
                (fails.1 cancelled_from ps stands.own stands.places);
            event = tt;
            moves = (refl, ((refl, refl, subst (λ (o : Option Members). IsSomeAnd o (λ n. n.body ≡ Some e)) (sym c.2.changed) refl), refl));
            entries = [];
            noted = sym (append-nil b.entries);
            shown = none_noted b.clock (buffer_of b.part) (signs_home e (p ∷ qs) b.tick)
                (quiet_home b.clock (buffer_of b.part) e (p ∷ qs) b.tick);
            tasks = [];
            started = sym (append-nil b.started);
            begun = tt;
            last = subst (λ (o : Option Members). IsSomeAnd o (λ n. n.last ≡ b.tick)) (sym c.2.changed) refl;
            nurseries = nurseries;
            acts =
                subst (λ (rs : List Place). Acts b.tick (scoping_in b) (signs_home e rs b.tick) (scoping_in u)) is
                (home_signed b.tick (scoping_in b) tree e cancelled_from (stack_in b) ps stands.places fails.0);
            served = unserved b.acts b.acts (signs_home e (p ∷ qs) b.tick) (home_unserved e (p ∷ qs) b.tick) refl;
            own = tt;
          }
