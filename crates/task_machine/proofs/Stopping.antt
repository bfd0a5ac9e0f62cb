-- What a wake says of a nursery that was waited for, where the move of a stop stops, and tasks without blocks.
use Rattle.std.proofs.Common.{◌≡◌, true, ℕ, Option, Some, None, List, [], ◌∷◌, refl, subst}
use Rattle.job_tree.specs.Tree.{Steps}
use Rattle.input_lines.specs.Part.{range_of}
use Rattle.job_meaning.specs.declared.clock.Clock.{Clock}
use Rattle.job_meaning.specs.Rest.{Stopped}
use Rattle.job_meaning.specs.Rest as rest
use Rattle.nursery_book.specs.Nursery.{is_settled}
use Rattle.nursery_book.specs.Book.{HasNursery}
use Rattle.nursery_book.specs.declared.book.NurseryBook.{NurseryBook}
use Rattle.turn_semantics.specs.Midway.{Move}
use Rattle.task_machine.specs.declared.frame.Frame.{Frame}
use Rattle.task_machine.specs.declared.frame.Frame.TheVariants as frames
use Rattle.task_machine.specs.declared.stop.TaskState.{TaskState}
use Rattle.task_machine.specs.declared.stop.TaskState.TheVariants.{ToBegin, Asked, Asleep, Waiting, Queued, GivingUp, Awaits, Over}
use Rattle.task_machine.specs.declared.stop.Moved.TheVariants.{Stops}
use Rattle.task_machine.specs.declared.stop.Stop.{Stop}
use Rattle.task_machine.specs.declared.stop.Wake.{Wake}
use Rattle.task_machine.specs.declared.stop.Wake.TheVariants.{Begin, Due, Seen, Answer, Granted, Settled}
use Rattle.task_machine.specs.Fitting.{blocks_of, received_in, waits_of}
use Rattle.task_machine.specs.Frames.{frame_of, frames_onto, frames_of, Lent}
use Rattle.task_machine.specs.Stops.{Numbers, IsTaskState, StopsAs, MovesAs}
use Rattle.task_machine.specs.Waking.{WakesFrom}

-- it is settled
pub settled_from : (task_state : TaskState) (part : Lent) (book : NurseryBook) (wake : Wake) (id : ℕ) → WakesFrom task_state part book wake →
    waits_of task_state ≡ Some id →
    HasNursery book id (λ n. is_settled n ≡ true)
settled_from (ToBegin at) part book wake id h e = absurd (let f : None ≡ Some id = e in cc)
settled_from (Asked kernel purpose) part book wake id h e = absurd (let f : None ≡ Some id = e in cc)
settled_from (Asleep paced ticks since) part book wake id h e = absurd (let f : None ≡ Some id = e in cc)
settled_from (Waiting event since) part book wake id h e = absurd (let f : None ≡ Some id = e in cc)
settled_from (Queued object ask since body) part book wake id h e = absurd (let f : None ≡ Some id = e in cc)
settled_from (GivingUp since) part book wake id h e = absurd (let f : None ≡ Some id = e in cc)
settled_from (Awaits key since) part book Begin id h e = absurd h
settled_from (Awaits key since) part book Due id h e =
    let f : Some key ≡ Some id = e in let g : key ≡ id = cc in subst (λ (x : ℕ). HasNursery book x (λ n. is_settled n ≡ true)) g h
settled_from (Awaits key since) part book Seen id h e = absurd h
settled_from (Awaits key since) part book (Answer answer) id h e = absurd h
settled_from (Awaits key since) part book (Granted grant) id h e = absurd h
settled_from (Awaits key since) part book Settled id h e =
    let f : Some key ≡ Some id = e in let g : key ≡ id = cc in subst (λ (x : ℕ). HasNursery book x (λ n. is_settled n ≡ true)) g h
settled_from Over part book wake id h e = absurd (let f : None ≡ Some id = e in cc)

-- where the move of the definitions stops
pub stop_of : (clock : Clock) (numbers : Numbers) (book : NurseryBook) (part : Lent) (stop : Stop) (task_state : TaskState) (o : Move) →
    MovesAs clock numbers book part (Stops stop) task_state o →
    (s : Stopped) × (o.stopped ≡ Some s) × IsTaskState numbers book task_state s
stop_of clock numbers book part stop task_state o h = by_stop o.stopped refl h.1
  where
    by_stop : (x : Option Stopped) → o.stopped ≡ x → StopsAs clock numbers book part stop task_state x →
        (s : Stopped) × (o.stopped ≡ Some s)
        × IsTaskState numbers book task_state s
    by_stop None e g = absurd g
    by_stop (Some s) e g = (s, e, g.0)

-- no frame, and so no block
pub no_blocks : (children : ℕ → List ℕ) (fs : List Frame) → frames_of children fs ≡ [] → blocks_of fs ≡ []
no_blocks children fs e = by_frames fs e
  where
    by_long : (gs : List Frame) (f : rest.Frame) (outer : List rest.Frame) → frames_onto children gs (f ∷ outer) ≡ [] → ⊥
    by_long [] f outer e = absurd (let g : f ∷ outer ≡ [] = e in cc)
    by_long (h ∷ gs) f outer e = by_long gs (frame_of children h) (f ∷ outer) e

    by_frames : (gs : List Frame) → frames_of children gs ≡ [] → blocks_of gs ≡ []
    by_frames [] e = refl
    by_frames (h ∷ gs) e = absurd (by_long gs (frame_of children h) [] e)

-- no block of a task that has to begin
pub no_blocks_begun : (children : ℕ → List ℕ) (fs : List Frame) (body : Steps) → frames_of children fs ≡ rest.steps_left body ∷ [] →
    blocks_of fs ≡ []
no_blocks_begun children [] body e = absurd (let g : [] ≡ rest.steps_left body ∷ [] = e in cc)
no_blocks_begun children (f ∷ []) body e = by_frame f e
  where
    by_frame : (f : Frame) → frame_of children f ∷ [] ≡ rest.steps_left body ∷ [] → blocks_of (f ∷ []) ≡ []
    by_frame (frames.Steps steps) e = refl
    by_frame (frames.Scope fail) e = absurd (let g : rest.in_scope fail ≡ rest.steps_left body = cc in cc)
    by_frame frames.Event e = absurd (let g : rest.in_event ≡ rest.steps_left body = cc in cc)
    by_frame (frames.Token limiter) e = refl
    by_frame (frames.Received part) e = refl
    by_frame (frames.Nursery id) e = absurd (let g : rest.in_nursery (children id) ≡ rest.steps_left body = cc in cc)
    by_frame (frames.Repeat pass left cuts body) e = refl
    by_frame (frames.Try handler cleanup) e = refl
    by_frame (frames.Handler others cleanup) e = refl
    by_frame (frames.Cleanup outcome) e = refl
no_blocks_begun children (f ∷ g ∷ fs) body e = absurd (by_long fs (frame_of children g) (frame_of children f) [] e)
  where
    by_long : (gs : List Frame) (x y : rest.Frame) (outer : List rest.Frame) →
        frames_onto children gs (x ∷ y ∷ outer) ≡ rest.steps_left body ∷ [] → ⊥
    by_long [] x y outer h = absurd (let z : y ∷ outer ≡ [] = cc in cc)
    by_long (h ∷ gs) x y outer z = by_long gs (frame_of children h) x (y ∷ outer) z

-- and nothing was received by it
pub none_received : (children : ℕ → List ℕ) (fs : List Frame) (body : Steps) → frames_of children fs ≡ rest.steps_left body ∷ [] →
    received_in fs ≡ []
none_received children [] body e = absurd (let g : [] ≡ rest.steps_left body ∷ [] = e in cc)
none_received children (f ∷ []) body e = by_frame f e
  where
    by_frame : (f : Frame) → frame_of children f ∷ [] ≡ rest.steps_left body ∷ [] → received_in (f ∷ []) ≡ []
    by_frame (frames.Steps steps) e = refl
    by_frame (frames.Scope fail) e = absurd (let g : rest.in_scope fail ≡ rest.steps_left body = cc in cc)
    by_frame frames.Event e = absurd (let g : rest.in_event ≡ rest.steps_left body = cc in cc)
    by_frame (frames.Token limiter) e = absurd (let g : rest.with_token limiter.value ≡ rest.steps_left body = cc in cc)
    by_frame (frames.Received part) e = absurd (let g : rest.with_part (range_of part) ≡ rest.steps_left body = cc in cc)
    by_frame (frames.Nursery id) e = absurd (let g : rest.in_nursery (children id) ≡ rest.steps_left body = cc in cc)
    by_frame (frames.Repeat pass left cuts body) e = refl
    by_frame (frames.Try handler cleanup) e = refl
    by_frame (frames.Handler others cleanup) e = refl
    by_frame (frames.Cleanup outcome) e = refl
none_received children (f ∷ g ∷ fs) body e = absurd (by_long fs (frame_of children g) (frame_of children f) [] e)
  where
    by_long : (gs : List Frame) (x y : rest.Frame) (outer : List rest.Frame) →
        frames_onto children gs (x ∷ y ∷ outer) ≡ rest.steps_left body ∷ [] → ⊥
    by_long [] x y outer h = absurd (let z : y ∷ outer ≡ [] = cc in cc)
    by_long (h ∷ gs) x y outer z = by_long gs (frame_of children h) x (y ∷ outer) z
