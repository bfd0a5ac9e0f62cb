-- Frames that the code holds, the innermost last.
use Rattle.std.proofs.Common.{◌≡◌, ℕ, zero, suc, ◌<◌, Some, None, List, [], ◌∷◌, ◌++◌, length, refl, ap, ◌∙◌, subst, arith}
use Rattle.std.specs.Prelude.{All, get_or}
use Rattle.std.proofs.lemmas.List.Elements.{All-nil, All-cons}
use Rattle.input_lines.specs.Lines.{Range}
use Rattle.input_lines.specs.Part.{buffer_of, range_of}
use Rattle.job_meaning.specs.Walk.{part_in_pass}
use Rattle.job_meaning.specs.Rest as rest
use Rattle.job_meaning.specs.Rest.{path_in, part_in}
use Rattle.task_machine.specs.declared.frame.Frame.{Frame}
use Rattle.task_machine.specs.declared.frame.Frame.TheVariants.{Steps, Scope, Event, Token, Received, Nursery, Repeat, Try, Handler, Cleanup}
use Rattle.task_machine.specs.Fitting.{Block, a_scope, a_nursery, blocks_of, block_in, AreInRangeFrames, HasCut, AreOf, received_in, received_inside}
use Rattle.task_machine.specs.Frames.{frame_of, frames_onto, frames_of, passes_onto, cuts_onto}

onto_push : (children : ℕ → List ℕ) (fs : List Frame) (f : Frame) (outer : List rest.Frame) →
    frames_onto children (fs ++ f ∷ []) outer ≡ frame_of children f ∷ frames_onto children fs outer
onto_push children [] f outer = refl
onto_push children (g ∷ fs) f outer = onto_push children fs f (frame_of children g ∷ outer)

-- the innermost frame comes first
pub frames_push : (children : ℕ → List ℕ) (fs : List Frame) (f : Frame) →
    frames_of children (fs ++ f ∷ []) ≡ frame_of children f ∷ frames_of children fs
frames_push children fs f = onto_push children fs f []

-- a frame that the code puts last is the innermost one
pub frames_pushed : (children : ℕ → List ℕ) (fs gs : List Frame) (f : Frame) → gs ≡ fs ++ f ∷ [] →
    frames_of children gs ≡ frame_of children f ∷ frames_of children fs
frames_pushed children fs gs f e = ap (frames_of children) e ∙ frames_push children fs f

-- the blocks with one more frame
pub blocks_pushed : (fs gs : List Frame) (f : Frame) → gs ≡ fs ++ f ∷ [] → blocks_of gs ≡ block_in f (blocks_of fs)
blocks_pushed fs gs f e = ap blocks_of e ∙ by_frames fs
  where
    by_frame : (h : Frame) → blocks_of (h ∷ []) ≡ block_in h []
    by_frame (Steps steps) = refl
    by_frame (Scope fail) = refl
    by_frame Event = refl
    by_frame (Token limiter) = refl
    by_frame (Received part) = refl
    by_frame (Nursery id) = refl
    by_frame (Repeat pass left cuts body) = refl
    by_frame (Try handler cleanup) = refl
    by_frame (Handler others cleanup) = refl
    by_frame (Cleanup outcome) = refl

    block_after : (b : Block) (h : Frame) (bs : List Block) → b ∷ block_in h bs ≡ block_in h (b ∷ bs)
    block_after b (Steps steps) bs = refl
    block_after b (Scope fail) bs = refl
    block_after b Event bs = refl
    block_after b (Token limiter) bs = refl
    block_after b (Received part) bs = refl
    block_after b (Nursery id) bs = refl
    block_after b (Repeat pass left cuts body) bs = refl
    block_after b (Try handler cleanup) bs = refl
    block_after b (Handler others cleanup) bs = refl
    block_after b (Cleanup outcome) bs = refl

    by_frames : (hs : List Frame) → blocks_of (hs ++ f ∷ []) ≡ block_in f (blocks_of hs)
    by_frames [] = by_frame f
    by_frames (Steps steps ∷ hs) = by_frames hs
    by_frames (Scope fail ∷ hs) = ap (λ (bs : List Block). a_scope ∷ bs) (by_frames hs) ∙ block_after a_scope f (blocks_of hs)
    by_frames (Event ∷ hs) = ap (λ (bs : List Block). a_scope ∷ bs) (by_frames hs) ∙ block_after a_scope f (blocks_of hs)
    by_frames (Token limiter ∷ hs) = by_frames hs
    by_frames (Received part ∷ hs) = by_frames hs
    by_frames (Nursery id ∷ hs) = ap (λ (bs : List Block). a_nursery id ∷ bs) (by_frames hs) ∙ block_after (a_nursery id) f (blocks_of hs)
    by_frames (Repeat pass left cuts body ∷ hs) = by_frames hs
    by_frames (Try handler cleanup ∷ hs) = by_frames hs
    by_frames (Handler others cleanup ∷ hs) = by_frames hs
    by_frames (Cleanup outcome ∷ hs) = by_frames hs

-- what was received with one more frame
pub received_pushed : (fs gs : List Frame) (f : Frame) → gs ≡ fs ++ f ∷ [] → received_in gs ≡ received_inside f (received_in fs)
received_pushed fs gs f e = ap received_in e ∙ by_frames fs
  where
    by_frame : (h : Frame) → received_in (h ∷ []) ≡ received_inside h []
    by_frame (Steps steps) = refl
    by_frame (Scope fail) = refl
    by_frame Event = refl
    by_frame (Token limiter) = refl
    by_frame (Received part) = refl
    by_frame (Nursery id) = refl
    by_frame (Repeat pass left cuts body) = refl
    by_frame (Try handler cleanup) = refl
    by_frame (Handler others cleanup) = refl
    by_frame (Cleanup outcome) = refl

    input_after : (input : List ℕ) (h : Frame) (inputs : List (List ℕ)) → input ∷ received_inside h inputs ≡ received_inside h (input ∷ inputs)
    input_after input (Steps steps) inputs = refl
    input_after input (Scope fail) inputs = refl
    input_after input Event inputs = refl
    input_after input (Token limiter) inputs = refl
    input_after input (Received part) inputs = refl
    input_after input (Nursery id) inputs = refl
    input_after input (Repeat pass left cuts body) inputs = refl
    input_after input (Try handler cleanup) inputs = refl
    input_after input (Handler others cleanup) inputs = refl
    input_after input (Cleanup outcome) inputs = refl

    by_frames : (hs : List Frame) → received_in (hs ++ f ∷ []) ≡ received_inside f (received_in hs)
    by_frames [] = by_frame f
    by_frames (Steps steps ∷ hs) = by_frames hs
    by_frames (Scope fail ∷ hs) = by_frames hs
    by_frames (Event ∷ hs) = by_frames hs
    by_frames (Token limiter ∷ hs) = by_frames hs
    by_frames (Received part ∷ hs) =
        ap (λ (inputs : List (List ℕ)). buffer_of part ∷ inputs) (by_frames hs) ∙ input_after (buffer_of part) f (received_in hs)
    by_frames (Nursery id ∷ hs) = by_frames hs
    by_frames (Repeat pass left cuts body ∷ hs) = by_frames hs
    by_frames (Try handler cleanup ∷ hs) = by_frames hs
    by_frames (Handler others cleanup ∷ hs) = by_frames hs
    by_frames (Cleanup outcome ∷ hs) = by_frames hs

-- what was received in a frame is of an input if what was received with it and more frames inside it is
pub lent_in : (input : List ℕ) (f : Frame) (fs : List Frame) → AreOf input (received_in (f ∷ fs)) →
    AreOf input (received_in (f ∷ [])) × AreOf input (received_in fs)
lent_in input (Steps steps) fs h = (tt, h)
lent_in input (Scope fail) fs h = (tt, h)
lent_in input Event fs h = (tt, h)
lent_in input (Token limiter) fs h = (tt, h)
lent_in input (Received part) fs h = ((h.0, tt), h.1)
lent_in input (Nursery id) fs h = (tt, h)
lent_in input (Repeat pass left cuts body) fs h = (tt, h)
lent_in input (Try handler cleanup) fs h = (tt, h)
lent_in input (Handler others cleanup) fs h = (tt, h)
lent_in input (Cleanup outcome) fs h = (tt, h)

-- and so is what was received in each of some frames
pub lent_at : (input : List ℕ) (fs : List Frame) (i : ℕ) (d : Frame) → i < length fs → AreOf input (received_in fs) →
    AreOf input (received_in (get_or fs i d ∷ []))
lent_at input [] i d less h = absurd (omega (arith, less))
lent_at input (f ∷ fs) zero d less h = (lent_in input f fs h).0
lent_at input (f ∷ fs) (suc i) d less h = lent_at input fs i d (omega (arith, less)) (lent_in input f fs h).1

-- of one input, with one more
pub are_of_more : (input more : List ℕ) (inputs : List (List ℕ)) → AreOf input inputs → more ≡ input → AreOf input (inputs ++ more ∷ [])
are_of_more input more [] h e = (e, tt)
are_of_more input more (other ∷ inputs) h e = (h.0, are_of_more input more inputs h.1 e)

-- of one input, without the last
pub are_of_fewer : (input more : List ℕ) (inputs : List (List ℕ)) → AreOf input (inputs ++ more ∷ []) → AreOf input inputs
are_of_fewer input more [] h = tt
are_of_fewer input more (other ∷ inputs) h = (h.0, are_of_fewer input more inputs h.1)

-- what was received is of an input still without the innermost frame
pub lent_outer : (input : List ℕ) (f : Frame) (inputs : List (List ℕ)) → AreOf input (received_inside f inputs) → AreOf input inputs
lent_outer input (Steps steps) inputs h = h
lent_outer input (Scope fail) inputs h = h
lent_outer input Event inputs h = h
lent_outer input (Token limiter) inputs h = h
lent_outer input (Received part) inputs h = are_of_fewer input (buffer_of part) inputs h
lent_outer input (Nursery id) inputs h = h
lent_outer input (Repeat pass left cuts body) inputs h = h
lent_outer input (Try handler cleanup) inputs h = h
lent_outer input (Handler others cleanup) inputs h = h
lent_outer input (Cleanup outcome) inputs h = h

-- of frames that are inside one more
pub lent_before : (input : List ℕ) (fs : List Frame) (f : Frame) → AreOf input (received_in (fs ++ f ∷ [])) → AreOf input (received_in fs)
lent_before input fs f h = lent_outer input f (received_in fs) (subst (AreOf input) (received_pushed fs (fs ++ f ∷ []) f refl) h)

path_onto : (numbers : ℕ → List ℕ) (fs : List Frame) (outer : List rest.Frame) (path : List ℕ) →
    path_in (frames_onto numbers fs outer) path ≡ passes_onto fs (path_in outer path)
path_onto numbers [] outer path = refl
path_onto numbers (Steps steps ∷ fs) outer path = path_onto numbers fs (frame_of numbers (Steps steps) ∷ outer) path
path_onto numbers (Scope fail ∷ fs) outer path = path_onto numbers fs (frame_of numbers (Scope fail) ∷ outer) path
path_onto numbers (Event ∷ fs) outer path = path_onto numbers fs (frame_of numbers Event ∷ outer) path
path_onto numbers (Token limiter ∷ fs) outer path = path_onto numbers fs (frame_of numbers (Token limiter) ∷ outer) path
path_onto numbers (Received part ∷ fs) outer path = path_onto numbers fs (frame_of numbers (Received part) ∷ outer) path
path_onto numbers (Nursery id ∷ fs) outer path = path_onto numbers fs (frame_of numbers (Nursery id) ∷ outer) path
path_onto numbers (Repeat pass left cuts body ∷ fs) outer path =
    path_onto numbers fs (frame_of numbers (Repeat pass left cuts body) ∷ outer) path
path_onto numbers (Try handler cleanup ∷ fs) outer path = path_onto numbers fs (frame_of numbers (Try handler cleanup) ∷ outer) path
path_onto numbers (Handler others cleanup ∷ fs) outer path =
    path_onto numbers fs (frame_of numbers (Handler others cleanup) ∷ outer) path
path_onto numbers (Cleanup outcome ∷ fs) outer path = path_onto numbers fs (frame_of numbers (Cleanup outcome) ∷ outer) path

-- the path inside frames that the code holds is that inside the definitions' frames, however children are numbered
pub path_inside : (numbers : ℕ → List ℕ) (fs : List Frame) (path : List ℕ) → path_in (frames_of numbers fs) path ≡ passes_onto fs path
path_inside numbers fs path = path_onto numbers fs [] path

cuts_inner : (numbers : ℕ → List ℕ) (fs : List Frame) (outer : List rest.Frame) (input : List ℕ) (lent : Range) →
    part_in input (frames_onto numbers fs outer) lent ≡ cuts_onto input fs (part_in input outer lent)
cuts_inner numbers [] outer input lent = refl
cuts_inner numbers (Steps steps ∷ fs) outer input lent = cuts_inner numbers fs (frame_of numbers (Steps steps) ∷ outer) input lent
cuts_inner numbers (Scope fail ∷ fs) outer input lent = cuts_inner numbers fs (frame_of numbers (Scope fail) ∷ outer) input lent
cuts_inner numbers (Event ∷ fs) outer input lent = cuts_inner numbers fs (frame_of numbers Event ∷ outer) input lent
cuts_inner numbers (Token limiter ∷ fs) outer input lent = cuts_inner numbers fs (frame_of numbers (Token limiter) ∷ outer) input lent
cuts_inner numbers (Received part ∷ fs) outer input lent = cuts_inner numbers fs (frame_of numbers (Received part) ∷ outer) input lent
cuts_inner numbers (Nursery id ∷ fs) outer input lent = cuts_inner numbers fs (frame_of numbers (Nursery id) ∷ outer) input lent
cuts_inner numbers (Repeat pass left cuts body ∷ fs) outer input lent =
    cuts_inner numbers fs (frame_of numbers (Repeat pass left cuts body) ∷ outer) input lent
cuts_inner numbers (Try handler cleanup ∷ fs) outer input lent = cuts_inner numbers fs (frame_of numbers (Try handler cleanup) ∷ outer) input lent
cuts_inner numbers (Handler others cleanup ∷ fs) outer input lent =
    cuts_inner numbers fs (frame_of numbers (Handler others cleanup) ∷ outer) input lent
cuts_inner numbers (Cleanup outcome ∷ fs) outer input lent = cuts_inner numbers fs (frame_of numbers (Cleanup outcome) ∷ outer) input lent

-- the part inside frames that the code holds is that inside the definitions' frames
pub cuts_inside : (numbers : ℕ → List ℕ) (fs : List Frame) (input : List ℕ) (lent : Range) →
    part_in input (frames_of numbers fs) lent ≡ cuts_onto input fs lent
cuts_inside numbers fs input lent = cuts_inner numbers fs [] input lent

-- the part inside frames that are inside others is that of theirs
pub cuts_append : (fs gs : List Frame) (input : List ℕ) (lent : Range) → cuts_onto input (fs ++ gs) lent ≡ cuts_onto input gs (cuts_onto input fs lent)
cuts_append [] gs input lent = refl
cuts_append (Steps steps ∷ fs) gs input lent = cuts_append fs gs input lent
cuts_append (Scope fail ∷ fs) gs input lent = cuts_append fs gs input lent
cuts_append (Event ∷ fs) gs input lent = cuts_append fs gs input lent
cuts_append (Token limiter ∷ fs) gs input lent = cuts_append fs gs input lent
cuts_append (Received part ∷ fs) gs input lent = cuts_append fs gs input (range_of part)
cuts_append (Nursery id ∷ fs) gs input lent = cuts_append fs gs input lent
cuts_append (Repeat pass left cuts body ∷ fs) gs input lent = cuts_append fs gs input (part_in_pass input cuts pass lent)
cuts_append (Try handler cleanup ∷ fs) gs input lent = cuts_append fs gs input lent
cuts_append (Handler others cleanup ∷ fs) gs input lent = cuts_append fs gs input lent
cuts_append (Cleanup outcome ∷ fs) gs input lent = cuts_append fs gs input lent

-- the frames of a task that fits have a cut for each of their passes
pub has_cuts : (fs : List Frame) (outer : List rest.Frame) → AreInRangeFrames (frames_onto (λ id. []) fs outer) →
    All HasCut fs × AreInRangeFrames outer
has_cuts [] outer h = (All-nil HasCut, h)
has_cuts (f ∷ fs) outer h =
    let r = has_cuts fs (frame_of (λ id. []) f ∷ outer) h in let q = one f outer r.1 in (All-cons HasCut f fs q.0 r.0, q.1)
  where
    one : (g : Frame) (gs : List rest.Frame) → AreInRangeFrames (frame_of (λ id. []) g ∷ gs) → HasCut g × AreInRangeFrames gs
    one (Steps steps) gs k = (tt, k.1)
    one (Scope fail) gs k = (tt, k)
    one Event gs k = (tt, k)
    one (Token limiter) gs k = (tt, k)
    one (Received part) gs k = (tt, k)
    one (Nursery id) gs k = (tt, k)
    one (Repeat pass left None body) gs k = (tt, k.3)
    one (Repeat pass left (Some n) body) gs k = ((let e : pass < n = omega (arith, k.2.0) in e, k.2.1), k.3)
    one (Try handler cleanup) gs k = (tt, k.2)
    one (Handler others cleanup) gs k = (tt, k.1)
    one (Cleanup outcome) gs k = (tt, k)

-- the path inside frames that are inside others is their path on that of the others
pub path_append : (fs gs : List Frame) (path : List ℕ) → passes_onto (fs ++ gs) path ≡ passes_onto gs (passes_onto fs path)
path_append [] gs path = refl
path_append (Steps steps ∷ fs) gs path = path_append fs gs path
path_append (Scope fail ∷ fs) gs path = path_append fs gs path
path_append (Event ∷ fs) gs path = path_append fs gs path
path_append (Token limiter ∷ fs) gs path = path_append fs gs path
path_append (Received part ∷ fs) gs path = path_append fs gs path
path_append (Nursery id ∷ fs) gs path = path_append fs gs path
path_append (Repeat pass left cuts body ∷ fs) gs path = path_append fs gs (path ++ pass ∷ [])
path_append (Try handler cleanup ∷ fs) gs path = path_append fs gs path
path_append (Handler others cleanup ∷ fs) gs path = path_append fs gs path
path_append (Cleanup outcome ∷ fs) gs path = path_append fs gs path
