-- The nursery in whose body a task is, by its frames.
use Rattle.std.proofs.Common.{◌≡◌, ℕ, zero, suc, true, false, Option, Some, None, List, [], ◌∷◌, ◌++◌, length, append_assoc, append-nil, refl, ap, sym, ◌∙◌, subst, arith}
use Rattle.std.proofs.lemmas.Option.{get_or_from_slice_get}
use Rattle.std.specs.Prelude.{IsTrue, slice_get, get_or}
use Rattle.std.specs.Option.{IsSomeAnd}
use Rattle.nursery_book.specs.Nursery.{Nursery as Members}
use Rattle.nursery_book.specs.Book.{nursery_at, HasNursery}
use Rattle.nursery_book.specs.declared.book.NurseryBook.{NurseryBook}
use Rattle.job_meaning.specs.Rest as rest
use Rattle.turn_semantics.specs.Placed.{in_body}
use Rattle.task_machine.specs.declared.frame.Frame.{Frame}
use Rattle.task_machine.specs.declared.frame.Frame.TheVariants.{Steps, Scope, Event, Token, Received, Nursery, Repeat, Try, Handler, Cleanup}
use Rattle.task_machine.specs.declared.task.Own.{Own}
use Rattle.task_machine.specs.Fitting.{Block, a_nursery, blocks_of, AreLoops, InBody, IsMine, Opened}
use Rattle.task_machine.specs.Frames.{frame_of, frames_of}
use Rattle.task_machine.specs.Labels.{Labels}
use Rattle.task_machine.proofs.FrameLemmas.{frames_push}
use Rattle.task_machine.proofs.Loops.{body_blocks}

-- ---- the search for it, from the innermost frame outwards

-- the frames outside an index are in the body of a nursery, and those inside are steps and passes
pub record Searches (fs : List Frame) (at : ℕ) : Type 0 where
  pub outer : List Frame
  pub loops : List Frame
  pub are : AreLoops loops
  pub is : fs ≡ outer ++ loops
  pub long : length outer ≡ at
  pub body : IsTrue (in_body (frames_of (λ id. []) outer))

-- at first
pub searches_all : (fs : List Frame) (at : ℕ) → at ≡ length fs → IsTrue (in_body (frames_of (λ id. []) fs)) → Searches fs at
searches_all fs at long body =
    record { outer = fs; loops = []; are = tt; is = sym (append-nil fs); long = sym long; body = body }

-- there is a frame left
pub searches_on : (fs : List Frame) → Searches fs 0 → ⊥
searches_on fs s = by_outer s.outer s.long s.body
  where
    by_outer : (gs : List Frame) → length gs ≡ 0 → IsTrue (in_body (frames_of (λ id. []) gs)) → ⊥
    by_outer [] long body = absurd (let e : false ≡ true = body in cc)
    by_outer (g ∷ gs) long body = absurd (omega (arith, long))

-- the last of these
record LastFrame (outer : List Frame) (at : ℕ) : Type 0 where
  before : List Frame
  last : Frame
  is : outer ≡ before ++ last ∷ []
  long : length before ≡ at

last_frame : (outer : List Frame) (at : ℕ) → length outer ≡ suc at → LastFrame outer at
last_frame [] at long = absurd (omega (arith, long))
last_frame (f ∷ []) at long = record { before = []; last = f; is = refl; long = omega (arith, long) }
last_frame (f ∷ g ∷ fs) zero long = absurd (omega (arith, long))
last_frame (f ∷ g ∷ fs) (suc at) long =
    let l = last_frame (g ∷ fs) at (omega (arith, long)) in
    record {
      before = f ∷ l.before;
      last = l.last;
      is = ap (λ (xs : List Frame). f ∷ xs) l.is;
      long = (let e = l.long in omega (arith, e));
    }

got_there : (before : List Frame) (f : Frame) (loops : List Frame) (at : ℕ) → length before ≡ at →
    slice_get (before ++ f ∷ loops) at ≡ Some f
got_there [] f loops zero long = refl
got_there [] f loops (suc at) long = absurd (omega (arith, long))
got_there (g ∷ before) f loops zero long = absurd (omega (arith, long))
got_there (g ∷ before) f loops (suc at) long = got_there before f loops at (omega (arith, long))

-- the frame that is looked at
module _ (fs : List Frame) (at : ℕ) (s : Searches fs (suc at)) (f : Frame) (got : f ≡ get_or fs at f) where
  l : LastFrame s.outer at
  l = last_frame s.outer at s.long

  whole : fs ≡ l.before ++ l.last ∷ s.loops
  whole = s.is ∙ ap (λ (xs : List Frame). xs ++ s.loops) l.is ∙ append_assoc l.before (l.last ∷ []) s.loops

  same : f ≡ l.last
  same =
      got
      ∙ get_or_from_slice_get fs at l.last f
      (ap (λ (xs : List Frame). slice_get xs at) whole ∙ got_there l.before l.last s.loops at l.long)

  -- a nursery is the one in whose body the task is
  pub searches_found : (id : ℕ) → f ≡ Nursery id → InBody fs id
  searches_found id e =
      record {
        outer = l.before;
        loops = s.loops;
        are = s.are;
        is = whole ∙ ap (λ (x : Frame). l.before ++ x ∷ s.loops) (sym same ∙ e);
      }

  -- and else the search goes on outwards
  pub searches_next : ((id : ℕ) → f ≡ Nursery id → ⊥) → Searches fs at
  searches_next none = by_last l.last refl (subst (λ (xs : List rest.Frame). IsTrue (in_body xs))
      (ap (frames_of (λ id. [])) l.is ∙ frames_push (λ id. []) l.before l.last) s.body)
    where
      on : (g : Frame) → l.last ≡ g → AreLoops (g ∷ s.loops) → IsTrue (in_body (frames_of (λ id. []) l.before)) → Searches fs at
      on g e are body =
          record {
            outer = l.before;
            loops = g ∷ s.loops;
            are = are;
            is = whole ∙ ap (λ (x : Frame). l.before ++ x ∷ s.loops) e;
            long = l.long;
            body = body;
          }

      by_last : (g : Frame) → l.last ≡ g → IsTrue (in_body (frame_of (λ id. []) g ∷ frames_of (λ id. []) l.before)) → Searches fs at
      by_last (Steps steps) e b = on (Steps steps) e s.are b
      by_last (Repeat pass left None body) e b = on (Repeat pass left None body) e s.are b
      by_last (Repeat pass left (Some k) body) e b = absurd (let f : false ≡ true = b in cc)
      by_last (Nursery id) e b = absurd (none id (same ∙ e))
      by_last (Scope fail) e b = absurd (let f : false ≡ true = b in cc)
      by_last Event e b = absurd (let f : false ≡ true = b in cc)
      by_last (Token limiter) e b = absurd (let f : false ≡ true = b in cc)
      by_last (Received part) e b = absurd (let f : false ≡ true = b in cc)
      by_last (Try handler cleanup) e b = absurd (let f : false ≡ true = b in cc)
      by_last (Handler others cleanup) e b = absurd (let f : false ≡ true = b in cc)
      by_last (Cleanup outcome) e b = absurd (let f : false ≡ true = b in cc)

-- ---- a nursery whose body a task is in

-- the body of a nursery among the blocks runs
pub body_block : (labels : Labels) (book : NurseryBook) (bs cs : List Block) (id : ℕ) (own : List Own) (waits : Option ℕ) →
    Opened labels book (bs ++ a_nursery id ∷ cs) own waits → HasNursery book id (λ n. n.body ≡ None)
body_block labels book [] cs id [] waits h = absurd h
body_block labels book [] cs id (o ∷ own) waits h = by_nursery (nursery_at book id) h.0
  where
    by_nursery : (m : Option Members) → IsSomeAnd m (λ n. IsMine labels o n × (n.body ≡ None)) → IsSomeAnd m (λ n. n.body ≡ None)
    by_nursery None i = i
    by_nursery (Some n) i = i.1
body_block labels book (b ∷ bs) cs id [] waits h = absurd h
body_block labels book (b ∷ bs) cs id (o ∷ own) waits h = body_block labels book bs cs id own waits h.2

-- a nursery whose body a task is in is in the book, and its body runs
pub body_runs : (labels : Labels) (book : NurseryBook) (fs : List Frame) (id : ℕ) (own : List Own) → InBody fs id →
    Opened labels book (blocks_of fs) own None → HasNursery book id (λ n. n.body ≡ None)
body_runs labels book fs id own b h =
    body_block labels book (blocks_of b.outer) [] id own None
    (subst (λ (bs : List Block). Opened labels book bs own None) (ap blocks_of b.is ∙ body_blocks b.outer b.loops id b.are) h)
