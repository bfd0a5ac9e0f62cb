-- A task that enters a scope, a nursery or an event, as a move of the definitions. The state is the one in which the steps that come after were put
-- back.
use Rattle.std.proofs.Common.{◌≡◌, ◌≢◌, ◌⊎◌, inl, inr, ℕ, ◌==◌, ◌≤◌, arith, Bool, true, false, Option, Some, None, List, [], ◌∷◌, ◌++◌, length, map, refl, ap, sym, ◌∙◌, subst, append_assoc}
use Rattle.std.proofs.lemmas.Bool.{eqb-true, eq-eqb}
use Rattle.std.proofs.lemmas.List.{append-nil}
use Rattle.std.proofs.lemmas.Option.{none-some}
use Rattle.std.specs.Option.{IsSomeAnd}
use Rattle.std.specs.List.{slice_get}
use Rattle.turn_semantics.specs.Lists.{IsAmong}
use Rattle.input_lines.specs.Part.{buffer_of}
use Rattle.cancel_scopes.specs.Sight.{Tick}
use Rattle.job_tree.specs.Tree as tree
use Rattle.job_tree.specs.declared.object.ObjectKind.{ObjectKind}
use Rattle.job_meaning.specs.Log.{Table, opens}
use Rattle.job_meaning.specs.Rest as rest
use Rattle.job_meaning.specs.Rest.{Stopped}
use Rattle.nursery_book.specs.Nursery.{Nursery as Members, new_nursery}
use Rattle.nursery_book.specs.Book.{nursery_at, HasNursery}
use Rattle.turn_semantics.specs.Midway.{Place}
use Rattle.turn_semantics.specs.Names.{names_at}
use Rattle.turn_semantics.specs.Steps.{makes}
use Rattle.task_machine.specs.declared.frame.Frame.{Frame}
use Rattle.task_machine.specs.declared.frame.Frame.TheVariants.{Steps, Scope, Event, Token, Received, Nursery, Repeat, Try, Handler, Cleanup}
use Rattle.task_machine.specs.declared.stop.Moved.TheVariants.{On}
use Rattle.task_machine.specs.Acts.{Enters, act_shared, scoping_in}
use Rattle.task_machine.specs.Entered.{EntersAt, IsBlock, EntersBlock, EntersNursery}
use Rattle.task_machine.specs.declared.serving.ObjectAct.{ObjectAct}
use Rattle.task_machine.specs.declared.serving.Act.TheVariants.{Opens}
use Rattle.task_machine.specs.Serving.{acted_of}
use Rattle.task_machine.specs.Fitting.{Block, a_scope, a_nursery, blocks_of, received_in, received_inside}
use Rattle.task_machine.specs.Frames.{frame_of, frames_onto, frames_of}
use Rattle.task_machine.specs.Standing.{HasBlock, HasNurseryOf, Stands, Grown, IsOfOther, ChangesNurseries, Took, with_frames}
use Rattle.task_machine.specs.States.{State, scope_at}
use Rattle.task_machine.specs.Stops.{Numbers}
use Rattle.task_machine.proofs.Acting.{block_of, entered_acts}
use Rattle.task_machine.proofs.Blocks.{blocks_append, IsScope, scope_block}
use Rattle.task_machine.proofs.FrameLemmas.{frames_push, received_pushed}
use Rattle.task_machine.proofs.Nurseries.{has_more, has_either, not_grown, updated_has, is_at}
use Rattle.task_machine.proofs.Served.{unacted, acted_last}
use Rattle.task_machine.proofs.Tooks.{none_noted, IsQuiet, took_quiet}

-- ---- a block's body inside its exit

-- a frame that holds the steps of a block
block_frame : (numbers : Numbers) (top : Frame) (body : tree.Steps) → IsBlock top body → frame_of numbers top ≡ rest.steps_left body
block_frame numbers (Steps steps) body e = ap (λ (ss : tree.Steps). rest.steps_left ss) e
block_frame numbers (Scope fail) body e = absurd e
block_frame numbers Event body e = absurd e
block_frame numbers (Token limiter) body e = absurd e
block_frame numbers (Received part) body e = absurd e
block_frame numbers (Nursery id) body e = absurd e
block_frame numbers (Repeat pass left cuts block) body e = absurd e
block_frame numbers (Try handler cleanup) body e = absurd e
block_frame numbers (Handler others cleanup) body e = absurd e
block_frame numbers (Cleanup outcome) body e = absurd e

no_block : (top : Frame) (body : tree.Steps) → IsBlock top body → blocks_of (top ∷ []) ≡ []
no_block (Steps steps) body e = refl
no_block (Scope fail) body e = absurd e
no_block Event body e = absurd e
no_block (Token limiter) body e = absurd e
no_block (Received part) body e = absurd e
no_block (Nursery id) body e = absurd e
no_block (Repeat pass left cuts block) body e = absurd e
no_block (Try handler cleanup) body e = absurd e
no_block (Handler others cleanup) body e = absurd e
no_block (Cleanup outcome) body e = absurd e

-- the frames once a block is entered: its body, its exit, and the outer ones
pub entered_frames : (numbers : Numbers) (fs gs : List Frame) (exit top : Frame) (body : tree.Steps) → IsBlock top body →
    gs ≡ fs ++ exit ∷ top ∷ [] →
    frames_of numbers gs ≡ rest.steps_left body ∷ frame_of numbers exit ∷ frames_of numbers fs
entered_frames numbers fs gs exit top body block e =
    ap (frames_of numbers) (e ∙ sym (append_assoc fs (exit ∷ []) (top ∷ []))) ∙ frames_push numbers (fs ++ exit ∷ []) top
    ∙ ap (λ (f : rest.Frame). f ∷ frames_of numbers (fs ++ exit ∷ [])) (block_frame numbers top body block)
    ∙ ap (λ (hs : List rest.Frame). rest.steps_left body ∷ hs) (frames_push numbers fs exit)

-- the blocks once one is entered: that of its exit inside the outer ones
pub entered_blocks : (fs gs : List Frame) (exit top : Frame) (body : tree.Steps) → IsBlock top body → gs ≡ fs ++ exit ∷ top ∷ [] →
    blocks_of gs ≡ blocks_of fs ++ blocks_of (exit ∷ [])
entered_blocks fs gs exit top body block e =
    ap blocks_of e ∙ blocks_append fs (exit ∷ top ∷ [])
    ∙ ap (λ (bs : List Block). blocks_of fs ++ bs) (blocks_append (exit ∷ []) (top ∷ [])
    ∙ ap (λ (bs : List Block). blocks_of (exit ∷ []) ++ bs)
    (no_block top body block) ∙ append-nil (blocks_of (exit ∷ [])))

none_received : (top : Frame) (body : tree.Steps) → IsBlock top body → (inputs : List (List ℕ)) → received_inside top inputs ≡ inputs
none_received (Steps steps) body e inputs = refl
none_received (Scope fail) body e inputs = absurd e
none_received Event body e inputs = absurd e
none_received (Token limiter) body e inputs = absurd e
none_received (Received part) body e inputs = absurd e
none_received (Nursery id) body e inputs = absurd e
none_received (Repeat pass left cuts block) body e inputs = absurd e
none_received (Try handler cleanup) body e inputs = absurd e
none_received (Handler others cleanup) body e inputs = absurd e
none_received (Cleanup outcome) body e inputs = absurd e

-- what was received once a block is entered: what was received at its exit, inside the outer frames
pub entered_received : (fs gs : List Frame) (exit top : Frame) (body : tree.Steps) → IsBlock top body → gs ≡ fs ++ exit ∷ top ∷ [] →
    received_in gs ≡ received_inside exit (received_in fs)
entered_received fs gs exit top body block e =
    received_pushed (fs ++ exit ∷ []) gs top (e ∙ sym (append_assoc fs (exit ∷ []) (top ∷ [])))
    ∙ none_received top body block (received_in (fs ++ exit ∷ []))
    ∙ received_pushed fs (fs ++ exit ∷ []) exit refl

-- ---- the numbers of the children of one nursery

abbrev pub chosen : Bool → List ℕ → List ℕ → List ℕ
chosen true ns ms = ns
chosen false ns ms = ms

-- the nursery of a key has these numbers, and every other its own
abbrev pub with_numbers : Numbers → ℕ → List ℕ → Numbers
with_numbers numbers id ns key = chosen (key == id) ns (numbers key)

-- the children of the nursery of that key have these numbers
pub numbers_put : (numbers : Numbers) (id : ℕ) (ns : List ℕ) (key : ℕ) → key ≡ id → with_numbers numbers id ns key ≡ ns
numbers_put numbers id ns key e = ap (λ (b : Bool). chosen b ns (numbers key)) (eq-eqb key id e)

-- the children of every other nursery keep their numbers
pub numbers_else : (numbers : Numbers) (id : ℕ) (ns : List ℕ) (key : ℕ) → key ≢ id → with_numbers numbers id ns key ≡ numbers key
numbers_else numbers id ns key differs = by_key (key == id) refl
  where
    by_key : (b : Bool) → (key == id) ≡ b → chosen b ns (numbers key) ≡ numbers key
    by_key true e = absurd (differs (eqb-true key id e))
    by_key false e = refl

onto_others : (numbers more : Numbers) (fs : List Frame) (outer : List rest.Frame) →
    ((key : ℕ) → HasBlock key (blocks_of fs) → more key ≡ numbers key) →
    frames_onto more fs outer ≡ frames_onto numbers fs outer
onto_others numbers more [] outer same = refl
onto_others numbers more (Steps steps ∷ fs) outer same = onto_others numbers more fs (frame_of numbers (Steps steps) ∷ outer) same
onto_others numbers more (Scope fail ∷ fs) outer same = onto_others numbers more fs (rest.in_scope fail ∷ outer) same
onto_others numbers more (Event ∷ fs) outer same = onto_others numbers more fs (rest.in_event ∷ outer) same
onto_others numbers more (Token limiter ∷ fs) outer same = onto_others numbers more fs (frame_of numbers (Token limiter) ∷ outer) same
onto_others numbers more (Received part ∷ fs) outer same = onto_others numbers more fs (frame_of numbers (Received part) ∷ outer) same
onto_others numbers more (Nursery id ∷ fs) outer same =
    ap (λ (ns : List ℕ). frames_onto more fs (rest.in_nursery ns ∷ outer)) (same id (inl refl))
    ∙ onto_others numbers more fs (rest.in_nursery (numbers id) ∷ outer)
    (λ key h. same key (inr h))
onto_others numbers more (Repeat pass left cuts body ∷ fs) outer same =
    onto_others numbers more fs (frame_of numbers (Repeat pass left cuts body) ∷ outer) same
onto_others numbers more (Try handler cleanup ∷ fs) outer same =
    onto_others numbers more fs (frame_of numbers (Try handler cleanup) ∷ outer) same
onto_others numbers more (Handler others cleanup ∷ fs) outer same =
    onto_others numbers more fs (frame_of numbers (Handler others cleanup) ∷ outer) same
onto_others numbers more (Cleanup outcome ∷ fs) outer same = onto_others numbers more fs (frame_of numbers (Cleanup outcome) ∷ outer) same

-- the frames are the same by numbers that are the same for their nurseries
pub frames_others : (numbers more : Numbers) (fs : List Frame) → ((key : ℕ) → HasBlock key (blocks_of fs) → more key ≡ numbers key) →
    frames_of more fs ≡ frames_of numbers fs
frames_others numbers more fs same = onto_others numbers more fs [] same

-- ---- a scope, nursery or event is entered, whose name no enclosing one has

module _ (b : State) (whole : List Frame) (cancelled_from : Table) (numbers : Numbers) (stopped : Option Stopped) (ps : List Place)
    (stands : Stands (with_frames b whole) cancelled_from numbers stopped ps) (u : State) (p : Place) (deadline : Tick)
    (body : tree.Steps) (same : blocks_of b.frames ≡ blocks_of whole) (fresh : IsAmong p.label.name (names_at ps) → ⊥)
    (started : u.started ≡ b.started) (entries : u.entries ≡ b.entries) (cancelled : u.cancelled ≡ b.cancelled)
    (enters : EntersAt b u p deadline)
    (one : Enters (scope_at b) p.label p.is_event deadline (scoping_in b) (scoping_in u)) where
  -- the blocks once a scope, an event, or a limiter or channel is entered
  scope_blocks : (f : Frame) → IsScope f → EntersBlock b.frames u.frames f body → blocks_of u.frames ≡ blocks_of whole ++ a_scope ∷ []
  scope_blocks f is block =
      entered_blocks b.frames u.frames f block.top body block.block block.frames
      ∙ ap (λ (bs : List Block). blocks_of b.frames ++ bs) (scope_block f is)
      ∙ ap (λ (bs : List Block). bs ++ a_scope ∷ []) same

  -- the task has the same nurseries, and notes nothing
  scope_quiet : (f : Frame) → IsScope f → u.book ≡ b.book → EntersBlock b.frames u.frames f body → IsQuiet b whole u []
  scope_quiet f is book block =
      record { book = book; started = started; noted = entries ∙ sym (append-nil b.entries); kept = kept; back = back }
    where
      blocks : blocks_of u.frames ≡ blocks_of whole ++ a_scope ∷ []
      blocks = scope_blocks f is block

      kept : (id : ℕ) → HasBlock id (blocks_of whole) → HasBlock id (blocks_of u.frames)
      kept id has = subst (λ (bs : List Block). HasBlock id bs) (sym blocks) (has_more id (blocks_of whole) (a_scope ∷ []) has)

      back : (id : ℕ) → HasBlock id (blocks_of u.frames) → HasBlock id (blocks_of whole)
      back id has = by_either (has_either id (blocks_of whole) (a_scope ∷ []) (subst (λ (bs : List Block). HasBlock id bs) blocks has))
        where
          by_either : HasBlock id (blocks_of whole) ⊎ ⊥ → HasBlock id (blocks_of whole)
          by_either (inl h) = h
          by_either (inr h) = absurd h

  -- a scope or event
  pub took_scope : (f : Frame) → IsScope f → u.acts ≡ b.acts → u.book ≡ b.book → EntersBlock b.frames u.frames f body →
      Took (with_frames b whole) u (On None) cancelled_from numbers
      (makes (rest.enters p.label b.tick deadline ∷ []) (rest.steps_left body ∷ frame_of numbers f ∷ frames_of numbers b.frames) (p ∷ ps))
  took_scope f is undone book block =
      took_quiet b whole cancelled_from numbers stopped ps stands u (On None)
      (makes (rest.enters p.label b.tick deadline ∷ []) (rest.steps_left body ∷ frame_of numbers f ∷ frames_of numbers b.frames) (p ∷ ps)) []
      (scope_quiet f is book block)
      (none_noted b.clock (buffer_of b.part) (rest.enters p.label b.tick deadline ∷ []) refl) refl
      (entered_frames numbers b.frames u.frames f block.top body block.block block.frames)
      (enters cancelled_from ps fresh stands.places) tt (refl, refl) refl
      (entered_acts b.tick (scope_at b) p.is_event (scoping_in b) (scoping_in u) p.label deadline one) cancelled (unacted b.acts u.acts undone)

  -- a limiter or channel, which is opened first
  pub took_object : (kind : ObjectKind) → u.acts ≡ b.acts ++ record { object = p.label; act = Opens kind } ∷ [] → u.book ≡ b.book →
      EntersBlock b.frames u.frames Event body →
      Took (with_frames b whole) u (On None) cancelled_from numbers
      (makes (rest.acts p.label b.tick (opens kind) ∷ rest.enters p.label b.tick deadline ∷ [])
      (rest.steps_left body ∷ rest.in_event ∷ frames_of numbers b.frames) (p ∷ ps))
  took_object kind opened book block =
      let entering : List rest.Event = rest.enters p.label b.tick deadline ∷ [] in
      let made : List rest.Event = rest.acts p.label b.tick (opens kind) ∷ entering in
      took_quiet b whole cancelled_from numbers stopped ps stands u (On None)
      (makes made (rest.steps_left body ∷ rest.in_event ∷ frames_of numbers b.frames) (p ∷ ps)) []
      (scope_quiet Event tt book block) (none_noted b.clock (buffer_of b.part) made refl) refl
      (entered_frames numbers b.frames u.frames Event block.top body block.block block.frames)
      (enters cancelled_from ps fresh stands.places) tt (refl, refl) refl
      (act_shared (scoping_in b) (scoping_in u) p.label b.tick (opens kind) entering
      (entered_acts b.tick (scope_at b) p.is_event (scoping_in b) (scoping_in u) p.label deadline one))
      cancelled (ap (λ (xs : List ObjectAct). map acted_of xs) opened ∙ acted_last b.acts (record { object = p.label; act = Opens kind }))

  -- a nursery, in which no child was started
  pub took_nursery : (me : ℕ) → u.acts ≡ b.acts → EntersNursery me b u p.label body →
      Took (with_frames b whole) u (On None) cancelled_from numbers
      (makes (rest.enters p.label b.tick deadline ∷ []) (rest.steps_left body ∷ rest.in_nursery [] ∷ frames_of numbers b.frames) (p ∷ ps))
  took_nursery me undone n =
      record {
        numbers_after = more;
        frames_after =
            entered_frames more b.frames u.frames (Nursery n.id) n.frames.top body n.frames.block n.frames.frames
            ∙ ap (λ (ns : List ℕ). rest.steps_left body ∷ rest.in_nursery ns ∷ frames_of more b.frames) (numbers_put numbers n.id [] n.id refl)
            ∙ ap (λ (gs : List rest.Frame). rest.steps_left body ∷ rest.in_nursery [] ∷ gs)
            (frames_others numbers more b.frames (λ key has. else_where key (subst (λ (bs : List Block). HasBlock key bs) same has)));
        places = enters cancelled_from ps fresh stands.places;
        event = tt;
        moves = (refl, refl);
        entries = [];
        noted = entries ∙ sym (append-nil b.entries);
        shown = none_noted b.clock (buffer_of b.part) (rest.enters p.label b.tick deadline ∷ []) refl;
        tasks = [];
        started = started ∙ sym (append-nil b.started);
        begun = tt;
        last = tt;
        nurseries = nurseries;
        acts = entered_acts b.tick (scope_at b) p.is_event (scoping_in b) (scoping_in u) p.label deadline one;
        served = unacted b.acts u.acts undone;
        own = cancelled;
      }
    where
      more : Numbers
      more = with_numbers numbers n.id []

      blocks : blocks_of u.frames ≡ blocks_of whole ++ a_nursery n.id ∷ []
      blocks =
          entered_blocks b.frames u.frames (Nursery n.id) n.frames.top body n.frames.block n.frames.frames
          ∙ ap (λ (bs : List Block). bs ++ a_nursery n.id ∷ []) same

      -- the key had no nursery
      closed : (key : ℕ) (x : Members) → key ≡ n.id → nursery_at b.book key ≡ Some x → ⊥
      closed key x is found = none-some x (sym n.fresh ∙ ap (nursery_at b.book) (sym is) ∙ found)

      else_where : (key : ℕ) → HasBlock key (blocks_of whole) → more key ≡ numbers key
      else_where key has = numbers_else numbers n.id [] key (λ is. by_nursery is (nursery_at b.book key) refl (stands.numbered key has))
        where
          by_nursery : key ≡ n.id → (o : Option Members) → nursery_at b.book key ≡ o →
              IsSomeAnd o (λ x. length (numbers key) ≡ length x.children) → ⊥
          by_nursery is None found h = h
          by_nursery is (Some x) found h = closed key x is found

      -- a nursery of the task is an old one, or the one entered
      old_or_new : (key : ℕ) → HasNurseryOf key (blocks_of u.frames) None → HasBlock key (blocks_of whole) ⊎ ((key ≡ n.id) ⊎ ⊥)
      old_or_new key has =
          has_either key (blocks_of whole) (a_nursery n.id ∷ []) (subst (λ (bs : List Block). HasBlock key bs) blocks
          (block_of key (blocks_of u.frames) None refl has))

      by_owned : (key : ℕ) → HasBlock key (blocks_of whole) ⊎ ((key ≡ n.id) ⊎ ⊥) →
          HasBlock key (blocks_of whole) ⊎ ((m : Members) → nursery_at b.book key ≡ Some m → IsOfOther b.own b.tree m → ⊥)
      by_owned key (inl has) = inl has
      by_owned key (inr (inl is)) = inr (λ m at other. closed key m is at)
      by_owned key (inr (inr h)) = absurd h

      by_covered : (key index number : ℕ) → HasBlock key (blocks_of whole) ⊎ ((key ≡ n.id) ⊎ ⊥) →
          slice_get (more key) index ≡ Some number → (HasBlock key (blocks_of whole) × (slice_get (numbers key) index ≡ Some number)) ⊎ ⊥
      by_covered key index number (inl has) at =
          inl (has, subst (λ (ns : List ℕ). slice_get ns index ≡ Some number) (else_where key has) at)
      by_covered key index number (inr (inl is)) at =
          absurd (none-some number (subst (λ (ns : List ℕ). slice_get ns index ≡ Some number) (numbers_put numbers n.id [] key is) at))
      by_covered key index number (inr (inr h)) at = absurd h

      Numbered : ℕ → Members → Type 0
      Numbered key x = length (more key) ≡ length x.children

      by_either : (key : ℕ) → HasBlock key (blocks_of whole) ⊎ ((key ≡ n.id) ⊎ ⊥) → HasNursery u.book key (Numbered key)
      by_either key (inl has) =
          updated_has b.book u.book n.id (Some (new_nursery n.scope me p.label)) key (λ x. length (numbers key) ≡ length x.children)
          (Numbered key) n.stands
          (λ is x found long. absurd (closed key x is found)) (λ differs x found long. ap (λ (ns : List ℕ). length ns) (else_where key has)
          ∙ long) (stands.numbered key has)
      by_either key (inr (inl is)) =
          subst (λ (o : Option Members). IsSomeAnd o (Numbered key)) (sym (ap (nursery_at u.book) is ∙ n.stands.changed))
          (ap (λ (ns : List ℕ). length ns)
          (numbers_put numbers n.id [] key is))
      by_either key (inr (inr h)) = absurd h

      by_ends : (key : ℕ) → HasBlock key (blocks_of whole) ⊎ ((key ≡ n.id) ⊎ ⊥) →
          HasBlock key (blocks_of whole) ⊎ HasNursery u.book key (λ x. x.last ≤ b.tick)
      by_ends key (inl has) = inl has
      by_ends key (inr (inl is)) =
          inr (subst (λ (o : Option Members). IsSomeAnd o (λ x. x.last ≤ b.tick)) (sym (ap (nursery_at u.book) is ∙ n.stands.changed))
          (omega arith))
      by_ends key (inr (inr h)) = absurd h

      nurseries : ChangesNurseries (with_frames b whole) u None numbers more [] []
      nurseries =
          record {
            grow = λ key has m at.
                updated_has b.book u.book n.id (Some (new_nursery n.scope me p.label)) key (λ x. x ≡ m)
                (λ x. Grown b.tick m x (numbers key) (more key)) n.stands
                (λ is x found one. absurd (closed key x is found))
                (λ differs x found one.
                subst (λ (ns : List ℕ). Grown b.tick m x (numbers key) ns) (sym (numbers_else numbers n.id [] key differs))
                (subst (λ (y : Members). Grown b.tick y x (numbers key) (numbers key)) one (not_grown b.tick x (numbers key))))
                (is_at (nursery_at b.book key) m at);
            kept = λ key has. inl (subst (λ (bs : List Block). HasBlock key bs) (sym blocks)
                (has_more key (blocks_of whole) (a_nursery n.id ∷ []) has));
            numbered = λ key has. by_either key (old_or_new key has);
            owned = λ key has. by_owned key (old_or_new key has);
            covered = λ key index number has at. by_covered key index number (old_or_new key has) at;
            ends = λ key has. by_ends key (old_or_new key has);
            others = λ key m at apart other. n.stands.others key (λ is. absurd (closed key m is at)) ∙ at;
          }
